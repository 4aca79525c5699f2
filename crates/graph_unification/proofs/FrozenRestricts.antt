-- A graph that is only read is that of the certain nodes.
use Rattle.std.proofs.Common.{◌≡◌, ℕ, Bool, true, false, cond, List, Option, Some, None, refl, sym, ap, subst, ◌∙◌}
use Rattle.std.proofs.lemmas.Bool.{true≢false}
use Rattle.c_typed.specs.Table.{Interned}
use Rattle.tac_ir.specs.declared.program.Function.{Function}
use Rattle.tac_ir.specs.States.{Owner}
use Rattle.heap_graph.specs.Graphs.{Target, Node, Name, OfRegister, OfResult, OfObject, OfGlobal, OfLiteral, OfCopy, Graph, is_copy, edge_in, node_at}
use Rattle.heap_graph.specs.Targets.{edge_at}
use Rattle.heap_graph.specs.declared.frozen.FunctionNames.{FunctionNames}
use Rattle.heap_graph.specs.declared.frozen.FrozenGraph.{FrozenGraph}
use Rattle.heap_graph.specs.Frozen.{optional_target, register_target, object_target, named, bare, graph_with}
use Rattle.graph_unification.specs.Cells.{has_number}
use Rattle.heap_graph.specs.Restricted.{if_certain, Restricts}
use Rattle.heap_graph.proofs.Certain.{certain_there}
use Rattle.graph_unification.specs.Freezing.{certain_name, has_register, has_object, IsKept, Freezes, TellsNames, TellsGraph}
use Rattle.graph_unification.specs.Family.{TellsOwner, of_function, AllTold}

edge_there : (graph : Graph) (target : Target) (node : Node) → node_at graph target.node ≡ Some node → edge_at graph (Some target) ≡ edge_in node.edges target.shift
edge_there graph target node e = rw e refl

-- where only what is told has targets, nothing is left out
none_left : (graph : Graph) (told : Bool) (target : Option Target) → ((to : Target) → target ≡ Some to → told ≡ true) → cond told (if_certain graph target) None ≡ if_certain graph target
none_left graph true target h = refl
none_left graph false None h = refl
none_left graph false (Some to) h = absurd (true≢false (sym (h to refl)))

module _ (table : Interned) (graph : Graph) (variables literals : List ℕ) (frozen : FrozenGraph) (functions : Owner → Option Function) (names : Owner → Option FunctionNames)
    (tells : TellsGraph table graph variables literals frozen) (owners : (owner : Owner) → TellsOwner graph owner (functions owner) (names owner)) (all : AllTold graph functions variables literals) where
  of_owner : (owner : Owner) (name : Name) (holds : Function → Bool) (target : FunctionNames → Option Target)
      → ((function : Function) (own : FunctionNames) → TellsNames graph owner function own → target own ≡ cond (holds function) (certain_name graph name) None)
      → ((to : Target) → graph.targets name ≡ Some to → of_function holds (functions owner) ≡ true) → named target (names owner) ≡ certain_name graph name
  of_owner owner name holds target tells_it only = by (functions owner) (names owner) (owners owner) only
    where
      by : (function : Option Function) (own : Option FunctionNames) → TellsOwner graph owner function own → ((to : Target) → graph.targets name ≡ Some to → of_function holds function ≡ true)
          → named target own ≡ certain_name graph name
      by (Some function) (Some own) h only' = tells_it function own h ∙ none_left graph (holds function) (graph.targets name) only'
      by (Some function) None h only' = absurd h
      by None (Some own) h only' = absurd h
      by None None h only' = none_left graph false (graph.targets name) only'

  targets_kept : (name : Name) → is_copy name ≡ false → (graph_with table frozen names).targets name ≡ certain_name graph name
  targets_kept (OfRegister owner register) own =
      of_owner owner (OfRegister owner register) (λ function. has_register function.parameters function.counts register) (λ own. register_target own register) (λ function own h. h.of_registers register) (λ to. all (OfRegister owner register) to refl)
  targets_kept (OfResult owner) own = of_owner owner (OfResult owner) (λ function. true) (λ own. optional_target own.returned) (λ function own h. h.of_result) (λ to. all (OfResult owner) to refl)
  targets_kept (OfObject owner local) own =
      of_owner owner (OfObject owner local) (λ function. has_object function.objects.items local) (λ own. object_target own local) (λ function own h. h.of_objects local) (λ to. all (OfObject owner local) to refl)
  targets_kept (OfGlobal number) own = tells.of_globals number ∙ none_left graph (has_number variables number) (graph.targets (OfGlobal number)) (λ to. all (OfGlobal number) to refl)
  targets_kept (OfLiteral number) own = tells.of_literals number ∙ none_left graph (has_number literals number) (graph.targets (OfLiteral number)) (λ to. all (OfLiteral number) to refl)
  targets_kept (OfCopy number) own = absurd (true≢false own)

  -- a certain node is kept
  node_kept : (number : ℕ) (node : Node) → node_at graph number ≡ Some node → node.flags.certain ≡ true → (new : Node) × (node_at (bare table frozen) number ≡ Some new) × IsKept graph node new
  node_kept number node is certain = by (node_at graph number) (node_at (bare table frozen) number) refl is (tells.nodes number)
    where
      found : (o : Option Node) → node_at (bare table frozen) number ≡ o → Freezes graph (Some node) o → (new : Node) × (node_at (bare table frozen) number ≡ Some new) × IsKept graph node new
      found None e h = absurd (true≢false (sym certain ∙ h))
      found (Some new) e h = (new, e, h)

      by : (old o : Option Node) → node_at (bare table frozen) number ≡ o → old ≡ Some node → Freezes graph old o → (new : Node) × (node_at (bare table frozen) number ≡ Some new) × IsKept graph node new
      by old o e same h = found o e (subst (λ x. Freezes graph x o) same h)

  pub frozen_restricts : Restricts graph (graph_with table frozen names)
  frozen_restricts = record {
    names = targets_kept;
    nodes = λ number node is certain.
        let new = node_kept number node is certain in
        record {
          now = new.0;
          is = new.1;
          element = new.2.element;
          flags = record {
            heap = ap (λ f. f.heap) new.2.flags;
            stack = ap (λ f. f.stack) new.2.flags;
            global = ap (λ f. f.global) new.2.flags;
            array = ap (λ f. f.array) new.2.flags;
            modified = ap (λ f. f.modified) new.2.flags;
            read = ap (λ f. f.read) new.2.flags;
          };
        };
    edges = λ target certain.
        let old = certain_there graph target certain in
        let new = node_kept target.node old.node old.is old.so in
        edge_there (graph_with table frozen names) target new.0 new.1 ∙ new.2.edges target.shift ∙ ap (if_certain graph) (sym (edge_there graph target old.node old.is));
  }
