-- Locals in memory, one after another.
use Rattle.std.proofs.Common.{◌≡◌, ℕ, ◌<◌, ◌&&◌, Bool, List, ◌∷◌, map, length, get_or, Option, Some, option_map, sym, ap, ◌∙◌}
use Rattle.std.specs.Prelude.{slice_get}
use Rattle.std.proofs.lemmas.Option.{slice_get-get_or, slice_get-map}
use Rattle.c_typed.specs.Table.{Interned, structs_in, type_in}
use Rattle.tac_ir.specs.declared.program.LocalObject.{LocalObject}
use Rattle.tac_ir.specs.States.{Owner}
use Rattle.tac_ir.specs.Views.{object_in}
use Rattle.heap_graph.specs.declared.graph.Target as memory_target
use Rattle.heap_graph.specs.Graphs.{Target, OfObject}
use Rattle.heap_graph.specs.Closed.{Family, graph_of, locals_closed}
use Rattle.heap_graph.specs.Frozen.{bare, optional_target, object_target}
use Rattle.heap_graph.specs.declared.frozen.FrozenGraph.{FrozenGraph}
use Rattle.heap_graph.specs.declared.frozen.FunctionNames.{FunctionNames}
use Rattle.heap_graph.specs.Shows.{ShowsGraph, ShowsNames}
use Rattle.graph_checker.specs.declared.objects.Place.TheVariants as P
use Rattle.graph_checker.specs.Objects.{kept_at, is_object}
use Rattle.graph_checker.proofs.ClosedObjects.Shown.{shown_object}

pub first_local : (table : Interned) (family : Family) (owner : Owner) (graph : FrozenGraph) (names : FunctionNames) (object : LocalObject) (others : List LocalObject) (target : Option memory_target.Target) (result : Bool)
    → ShowsGraph table family owner graph → ShowsNames family owner names → optional_target target ≡ object_target names object.local
    → result ≡ is_object (structs_in table) (bare table graph) (type_in table object.c_type) (kept_at P.Frame) (optional_target target)
    → (result && locals_closed family owner (map (object_in table) others)) ≡ locals_closed family owner (map (object_in table) (object ∷ others))
first_local table family owner graph names object others target result graph_shown names_shown found is =
    let c_type = type_in table object.c_type in
    let one = is
    ∙ (ap (λ (at : Option Target). is_object (structs_in table) (bare table graph) c_type (kept_at P.Frame) at) (found ∙ sym (names_shown.objects object.local))
    ∙ shown_object table family owner graph graph_shown c_type (kept_at P.Frame) ((graph_of family owner).targets (OfObject owner object.local))) in
    λ i. one i && locals_closed family owner (map (object_in table) others)

pub type_at : (table : Interned) (objects : List LocalObject) (index : ℕ) (d : LocalObject) → index < length objects
    → slice_get (map (λ (object : LocalObject). type_in table object.c_type) objects) index ≡ Some (type_in table (get_or objects index d).c_type)
type_at table objects index d inside =
    slice_get-map (λ (object : LocalObject). type_in table object.c_type) objects index ∙ ap (option_map (λ (object : LocalObject). type_in table object.c_type)) (slice_get-get_or objects index d inside)
