use Rattle.std.proofs.Common.{◌≡◌, false, subst, arith}
use Rattle.tac_ir.specs.declared.register.Register.{Register}
use Rattle.heap_graph.specs.Graphs.{OfRegister}
use Rattle.graph_unification.specs.Memory.{owner_of, graph_in}
use Rattle.graph_unification.specs.Adding.{AddsMissing, AddsEach}
use Rattle.graph_unification.specs.GraphNames.First.{pointer_node, numbered_at}
use Rattle.graph_unification.proofs.Missing.{each_none, each_more}
use Rattle.graph_unification.proofs.functions.add_numbered.Goals as goal

pub loop-number-init : goal.loop-number-init
loop-number-init c = record {
  graph = c.requires;
  each = each_none (graph_in c.args.types.now c.args.graph.now) (numbered_at (owner_of c.args.owner) c.args.kind) (λ number. pointer_node false);
}

pub add_register-requires : goal.add_register-requires
add_register-requires c = c.loop-number.invariant.graph

pub loop-number-preserved : goal.loop-number-preserved
loop-number-preserved c =
    let table = c.args.types.now in
    record {
      graph = c.in_ok-add_register.ensures.graph;
      each =
          each_more (graph_in table c.args.graph.now) (graph_in table c.loop-number.graph) (graph_in table c.add_register.new.graph) (numbered_at (owner_of c.args.owner) c.args.kind) (λ number. pointer_node false)
          c.loop-number.number c.loop-number.invariant.each
          (subst (λ (register : Register). AddsMissing (graph_in table c.loop-number.graph) (graph_in table c.add_register.new.graph) (OfRegister (owner_of c.args.owner) register) (pointer_node false))
          c.register_of.ensures c.in_ok-add_register.ensures.adds);
    }

pub returns-clause-graph : goal.returns-clause-graph
returns-clause-graph c = c.loop-number.invariant.graph

pub returns-clause-adds : goal.returns-clause-adds
returns-clause-adds c =
    let table = c.args.types.now in
    let all : c.loop-number.number ≡ c.args.count = omega (arith, c.loop-number-test.false, c.loop-number.auto.number-end) in
    subst (AddsEach (graph_in table c.args.graph.now) (graph_in table c.loop-number.graph) (numbered_at (owner_of c.args.owner) c.args.kind) (λ number. pointer_node false)) all
    c.loop-number.invariant.each
