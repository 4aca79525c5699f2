-- A program within the limits has small types.
use Rattle.std.proofs.Common.{◌≡◌, true, ◌&&◌, List, [], ◌∷◌, None, codes, refl}
use Rattle.std.proofs.lemmas.Bool.{and_from}
use Rattle.std.proofs.lemmas.Option.{none-some}
use Rattle.c_syntax.specs.Trees.{ProgramTree}
use Rattle.c_typed.specs.Types.{literal_type}
use Rattle.c_typed.specs.Names.{contains}
use Rattle.c_typed.specs.Layouts.{StructDef}
use Rattle.c_typed.specs.Typed.{GlobalDef, LiteralDef}
use Rattle.c_typed.specs.Sizes.{HasSmallTypes, is_small, globals_make, literals_make, functions_make}
use Rattle.c_rules.specs.declared.rule.TypeRule.TheVariants as T
use Rattle.c_rules.specs.Known.{unless}
use Rattle.c_rules.specs.Programs.{violations, items, outermost}
use Rattle.c_rules.specs.Elaborated.{typed_of, in_items}
use Rattle.c_rules.proofs.Nothing.{both_none}
use Rattle.c_rules.proofs.Outside.{Good}
use Rattle.c_rules.specs.NamedItems.{named_types}
use Rattle.c_types.specs.Limits.{exceeded}
use Rattle.accepted_programs.specs.Small.{Every, LiteralSmall, SmallNames}
use Rattle.accepted_programs.proofs.CTypesSizes.Types.{small_itself}
use Rattle.accepted_programs.proofs.CTypesSizes.Structures.{GlobalSmall, each_global_small}
use Rattle.accepted_programs.proofs.CTypesSizes.Functions.{items_small}
use Rattle.accepted_programs.proofs.CTypesSizes.Bounds.{named_small, literals_small}

module _ (structs : List StructDef) where
  all_globals : (globals : List GlobalDef) → Every (GlobalSmall structs) globals → globals_make (is_small structs) globals ≡ true
  all_globals [] all = refl
  all_globals (first ∷ others) all = and_from (is_small structs first.c_type) (globals_make (is_small structs) others) all.0 (all_globals others all.1)

  all_literals : (literals : List LiteralDef) → Every (LiteralSmall structs) literals → literals_make (is_small structs) literals ≡ true
  all_literals [] all = refl
  all_literals (first ∷ others) all =
      and_from (is_small structs (literal_type first.bytes)) (literals_make (is_small structs) others) (small_itself structs (literal_type first.bytes) all.0) (all_literals others all.1)

pub limits_give_small_types : (program : ProgramTree) → violations program ≡ [] → exceeded (typed_of program) (named_types program) ≡ None → HasSmallTypes (typed_of program)
limits_give_small_types program none within =
    let typed = typed_of program in
    let structs = typed.structs in
    let begin = outermost program in
    let no_rule = (both_none (items begin program.items) (unless (contains begin.defined (codes "main")) T.T01 program.end) none).0 in
    let begins : Good begin = record { locals = refl; structs = tt; file = λ name entry at. absurd (none-some entry at) } in
    let names : SmallNames structs begin = record { locals = tt; file = tt; members = tt } in
    let listed = literals_small typed (named_types program) within in
    let all = items_small structs begin begins names program.items no_rule (named_small typed (named_types program) within) listed in
    and_from (globals_make (is_small structs) typed.globals && literals_make (is_small structs) typed.literals) (functions_make (is_small structs) typed.functions)
    (and_from (globals_make (is_small structs) typed.globals) (literals_make (is_small structs) typed.literals)
    (all_globals structs typed.globals (each_global_small structs [] (in_items begin program.items).globals tt all.0)) (all_literals structs typed.literals listed))
    all.1
