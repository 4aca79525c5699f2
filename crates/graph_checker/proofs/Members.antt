-- What is read of a function in memory is kept of it.
use Rattle.std.proofs.Common.{◌≡◌, ℕ, Some, sym, ap, subst, ◌∙◌}
use Rattle.std.specs.Prelude.{slice_get, option_map}
use Rattle.std.proofs.lemmas.Option.{slice_get-map}
use Rattle.indexmap.specs.IndexMap.{get_by}
use Rattle.c_typed.specs.Table.{type_in}
use Rattle.tac_ir.specs.declared.program.Function as memory_function
use Rattle.tac_ir.specs.States.{InFunction}
use Rattle.tac_ir.specs.Views.{tac_of, function_in}
use Rattle.heap_graph.specs.Closed.{type_of, group_of}
use Rattle.call_graph.specs.GroupViews.{groups_of}
use Rattle.heap_graph.specs.declared.program.FunctionGraph.{FunctionGraph}
use Rattle.heap_graph.specs.Programs.{is_crossing, image_in, function_embedding}
use Rattle.heap_graph.specs.Shows.{ShowsNames}
use Rattle.heap_graph.proofs.GroupNumbers.{is_then_in, own_number}
use Rattle.heap_graph.proofs.GroupGraphs.{shows_graph, shows_names}
use Rattle.graph_checker.specs.declared.program.Program.{Program}
use Rattle.graph_checker.specs.declared.program.Member.{Member}
use Rattle.graph_checker.specs.Programs.{family_of, IsProgram, IsMember}

module _ (program : Program) (is : IsProgram program) (number at : ℕ) (member : Member) where
  pub is_member : slice_get program.groups.now.group_of.items number ≡ Some at → slice_get program.graphs.now.graphs.items at ≡ Some member.graph.now
      → (own : FunctionGraph) → slice_get program.graphs.now.functions.items number ≡ Some own → own.names ≡ member.names.now → own.embeddings ≡ member.embeddings.now
      → (function : memory_function.Function) → slice_get program.tac.now.functions.items number ≡ Some function → function.c_type ≡ member.c_type → member.group ≡ Some at
      → IsMember program.tac.now.types (family_of program) (InFunction number) member
  is_member numbered stored own told names embeddings function defined c_type group =
      let tac = program.tac.now in
      let groups = groups_of program.groups.now in
      let graphs = program.graphs.now in
      let place = is.of.group number at numbered in
      let here = is_then_in number place.0 place.2 in
      record {
        graph = shows_graph tac groups graphs is.groups at number place.0 member.graph.now place.1 here stored;
        names = subst (ShowsNames (family_of program) (InFunction number)) names (shows_names tac groups graphs is.groups at number place.0 member.graph.now own place.1 here stored told);
        embeddings = λ site called node. ap (λ found. function_embedding found site called node) told ∙ ap (λ map'. image_in (get_by (is_crossing site called) map') node) embeddings;
        c_type = ap type_of (slice_get-map (function_in tac.types) tac.functions.items number ∙ ap (option_map (function_in tac.types)) defined) ∙ ap (λ t. type_in tac.types t) c_type;
        group = group ∙ ap Some (sym (own_number (tac_of tac) groups is.groups at number place.0 place.1 here));
      }

pub number_told : (program : Program) → IsProgram program → (number at : ℕ) → slice_get program.groups.now.group_of.items number ≡ Some at → group_of (family_of program) number ≡ at
number_told program is number at numbered =
    let place = is.of.group number at numbered in
    own_number (tac_of program.tac.now) (groups_of program.groups.now) is.groups at number place.0 place.1 (is_then_in number place.0 place.2)
