-- What first values mention.
use Rattle.std.specs.Prelude.{ℕ, ◌==◌, ◌&&◌, ◌||◌, Bool, false, List}
use Rattle.std.specs.List.{list_any}
use Rattle.c_typed.specs.Values as first
use Rattle.c_typed.specs.Typed.{GlobalDef}
use Rattle.tac_ir.specs.Code.{Tac}
use Rattle.heap_graph.specs.Graphs.{Name, OfGlobal}
use Rattle.dsa_inlining.specs.Counting.{has_values, held_at, first_mentions}
use Rattle.dsa_inlining.specs.Tallies.{begins}

-- the name is that of the variable with this number
abbrev pub is_own : Name → ℕ → Bool
is_own (OfGlobal number) = λ other. other == number
is_own name = λ other. false

-- the first values of the variable with this number
abbrev pub values_mention : Tac → ℕ → List first.Held → Name → Bool
values_mention tac number values name = (has_values values && is_own name number) || list_any (held_at tac (begins name)) values

-- those of variables from a number on
abbrev pub first_names : Tac → ℕ → List GlobalDef → Name → Bool
first_names tac number globals name = first_mentions tac (begins name) (is_own name) number globals
