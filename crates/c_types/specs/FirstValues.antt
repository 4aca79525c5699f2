-- First values of variables outside functions, one at a time.
use Rattle.std.specs.Prelude.{◌≡◌, if◌then◌else◌, List, [], ◌++◌}
use Rattle.run_theory.specs.declared.place.Pos.{Pos}
use Rattle.c_syntax.specs.Trees.{InitsTree, NoInits, Inits}
use Rattle.c_typed.specs.Types.{CType}
use Rattle.c_typed.specs.Values.{Held}
use Rattle.c_typed.specs.DefinitionViews.{all_first}
use Rattle.c_rules.specs.declared.rule.TypeRule.TheVariants as T
use Rattle.c_rules.specs.declared.violation.Violation.{Violation}
use Rattle.c_rules.specs.Names.{Scope}
use Rattle.c_rules.specs.Known.{Known, at}
use Rattle.c_rules.specs.Operators.{fits}
use Rattle.c_rules.specs.Initializers.{known_first, init_place, found_within, found_within_all}
use Rattle.c_types.specs.declared.initializers.Target.{Target}

-- these were added behind the others, and the steps are as they were
pub record HoldsFirst (held : List Held) (old new : Target) : Type 0 where
  pub parts : new.parts.items ≡ old.parts.items
  pub first : all_first new.first.items ≡ all_first old.first.items ++ held

-- a value as the first of a scalar
abbrev pub scalar_found : Scope → Pos → CType → Known → List Violation
scalar_found scope place c_type known = if fits c_type known then known_first scope place c_type known else at T.T10 place

-- initializers for which there is no element or member: the first of them is refused
abbrev pub too_many : Scope → InitsTree → List Violation
too_many scope NoInits = []
too_many scope (Inits init others) = at T.T18 (init_place init) ++ found_within scope init ++ found_within_all scope others
