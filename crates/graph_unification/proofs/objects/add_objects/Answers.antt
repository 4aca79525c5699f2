use Rattle.std.proofs.Common.{◌≡◌, ◌∙◌, map, length, get_or, subst, sym, arith}
use Rattle.std.proofs.lemmas.List.{length-map}
use Rattle.c_typed.specs.Table.{type_in}
use Rattle.tac_ir.specs.declared.register.Local.TheVariants as L
use Rattle.tac_ir.specs.Views.{object_in}
use Rattle.heap_graph.specs.Graphs.{Flags, OfObject}
use Rattle.graph_unification.specs.Memory.{owner_of, graph_in}
use Rattle.graph_unification.specs.Adding.{AddsMissing}
use Rattle.graph_unification.specs.GraphNames.First.{object_node}
use Rattle.graph_unification.proofs.LocalNodes.{objects_none, objects_more, objects_all, type_at, object_at}
use Rattle.graph_unification.proofs.objects.add_objects.Goals as goal

pub loop-object-init : goal.loop-object-init
loop-object-init c = record {
  graph = c.requires.graph;
  so_far = objects_none (graph_in c.args.types.now c.args.graph.now) (owner_of c.args.owner) (map (object_in c.args.types.now) c.args.objects.now);
}

pub add_object-requires-clause-graph : goal.add_object-requires-clause-graph
add_object-requires-clause-graph c = c.loop-object.invariant.graph

pub add_object-requires-clause-slot : goal.add_object-requires-clause-slot
add_object-requires-clause-slot c =
    c.requires.slots c.loop-object.object-index _ (type_at c.args.types.now c.args.objects.now c.loop-object.object-index _ c.loop-object-test.true)

pub loop-object-preserved : goal.loop-object-preserved
loop-object-preserved c =
    let table = c.args.types.now in
    let objects = map (object_in table) c.args.objects.now in
    let object = get_or c.args.objects.now c.loop-object.object-index (record { local = L.Parameter 0; c_type = record { 0 = 0 } }) in
    record {
      graph = c.in_ok-add_object.ensures.graph;
      so_far =
          objects_more (graph_in table c.args.graph.now) (graph_in table c.loop-object.graph) (graph_in table c.add_object.new.graph) (owner_of c.args.owner) objects c.loop-object.object-index
          (object_in table object) (object_at table c.args.objects.now c.loop-object.object-index _ c.loop-object-test.true) c.loop-object.invariant.so_far
          (subst (λ (flags : Flags). AddsMissing (graph_in table c.loop-object.graph) (graph_in table c.add_object.new.graph) (OfObject (owner_of c.args.owner) object.local) (object_node (type_in table object.c_type) flags))
          c.local_flags-flags.ensures c.in_ok-add_object.ensures.adds);
    }

pub returns-clause-graph : goal.returns-clause-graph
returns-clause-graph c = c.loop-object.invariant.graph

pub returns-clause-adds : goal.returns-clause-adds
returns-clause-adds c =
    let table = c.args.types.now in
    let all : c.loop-object.object-index ≡ length c.args.objects.now = omega (arith, c.loop-object-test.false, c.loop-object.auto.object-index-end) in
    objects_all (graph_in table c.args.graph.now) (graph_in table c.loop-object.graph) (owner_of c.args.owner) (map (object_in table) c.args.objects.now) c.loop-object.object-index
    (all ∙ sym (length-map c.args.objects.now (object_in table))) c.loop-object.invariant.so_far
