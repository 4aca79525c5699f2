-- The expressions of first values, in memory and of the text.
use Rattle.std.proofs.Common.{◌≡◌, ℕ, List, [], ◌∷◌, map, refl, ap, ◌∙◌, subst}
use Rattle.c_syntax.specs.Trees.{ProgramTree}
use Rattle.c_typed.specs.declared.typed.Value as memory
use Rattle.c_typed.specs.Typed as T
use Rattle.c_typed.specs.Table.{Interned}
use Rattle.c_typed.specs.Views.{value_in, values_in}
use Rattle.c_typed.specs.DefinitionViews.{program_of}
use Rattle.c_rules.specs.Elaborated.{typed_of}
use Rattle.c_types.specs.declared.program.Typed.{Typed}
use Rattle.c_types.specs.InitialValues.{first_values}
use Rattle.tac_ir.specs.Code.{Tac}
use Rattle.heap_graph.specs.Graphs.{ProgramGraphs}
use Rattle.dsa_bottom_up.specs.Graphed.{HasGraphs, IsOvergrown}
use Rattle.poolcc.specs.Compiled.{IsAccepted, listed, initial_values}
use Rattle.poolcc.specs.Lowered.{first_of}
use Rattle.poolcc.specs.Refused.{IsOverfull}

values_listed : (table : Interned) (values : List memory.Value) → values_in table values ≡ listed (map (value_in table) values)
values_listed table [] = refl
values_listed table (first ∷ others) = ap (T.MoreValues (value_in table first)) (values_listed table others)

pub first_listed : (program : ProgramTree) (typed : Typed) → map (value_in typed.program.types) typed.first_values.items ≡ first_values program → first_of typed ≡ initial_values program
first_listed program typed same = values_listed typed.program.types typed.first_values.items ∙ ap listed same

-- the program of an accepted text is overgrown
pub overfull : (text : List ℕ) (program : ProgramTree) (typed : Typed) (count : ℕ) → IsAccepted text program → program_of typed.program ≡ typed_of program → first_of typed ≡ initial_values program
    → IsOvergrown (program_of typed.program) (first_of typed) count → IsOverfull text count
overfull text program typed count accepted elaborated first overgrown = record {
  program = program;
  accepted = accepted;
  overgrown = subst (λ (values : T.Values). IsOvergrown (typed_of program) values count) first (subst (λ (tree : T.Program). IsOvergrown tree (first_of typed) count) elaborated overgrown);
}

-- the graphs of an accepted text's code are its program's
pub own_graphs : (program : ProgramTree) (typed : Typed) (tac : Tac) (groups : List (List ℕ)) (graphs : ProgramGraphs) → program_of typed.program ≡ typed_of program → first_of typed ≡ initial_values program
    → HasGraphs (program_of typed.program) (first_of typed) tac groups graphs → HasGraphs (typed_of program) (initial_values program) tac groups graphs
own_graphs program typed tac groups graphs elaborated first has =
    subst (λ (values : T.Values). HasGraphs (typed_of program) values tac groups graphs) first (subst (λ (tree : T.Program). HasGraphs tree (first_of typed) tac groups graphs) elaborated has)
