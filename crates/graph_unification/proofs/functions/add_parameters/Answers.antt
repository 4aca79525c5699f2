use Rattle.std.proofs.Common.{◌≡◌, Bool, subst, sym, ap, ◌∙◌, arith}
use Rattle.std.specs.Prelude.{slice_get}
use Rattle.c_typed.specs.Table.{type_in}
use Rattle.heap_graph.specs.Closed.{parameters_of}
use Rattle.graph_unification.specs.Memory.{owner_of, graph_in}
use Rattle.graph_unification.specs.Adding.{AddsMissing, AddsEach}
use Rattle.graph_unification.specs.GraphNames.First.{pointer_node, is_pointer_there, formal_at, first_of, others_of}
use Rattle.graph_unification.proofs.Missing.{each_none, each_more, drop_none, first_left, others_left}
use Rattle.graph_unification.proofs.functions.add_parameters.Goals as goal

pub loop-number-init : goal.loop-number-init
loop-number-init c =
    let types = parameters_of (type_in c.args.types.now c.args.function.now.c_type) in
    record {
      graph = c.requires;
      stand = c.formals_of-left.ensures.stand;
      left = c.formals_of-left.ensures.are ∙ sym (drop_none types);
      each = each_none (graph_in c.args.types.now c.args.graph.now) (formal_at (owner_of c.args.owner)) (λ number. pointer_node (is_pointer_there (slice_get types number)));
    }

pub split-is_pointer-requires : goal.split-is_pointer-requires
split-is_pointer-requires c = c.loop-number.invariant.stand

pub add_register-requires : goal.add_register-requires
add_register-requires c = c.loop-number.invariant.graph

pub loop-number-preserved : goal.loop-number-preserved
loop-number-preserved c =
    let table = c.args.types.now in
    let types = parameters_of (type_in table c.args.function.now.c_type) in
    let number = c.loop-number.number in
    let left = c.loop-number.invariant.left in
    let is = c.split-is_pointer.ensures.first ∙ ap is_pointer_there (ap first_of left ∙ first_left number types) in
    record {
      graph = c.in_ok-add_register.ensures.graph;
      stand = c.split-is_pointer.ensures.stand;
      left = c.split-is_pointer.ensures.others ∙ (ap others_of left ∙ others_left number types);
      each =
          each_more (graph_in table c.args.graph.now) (graph_in table c.loop-number.graph) (graph_in table c.add_register.new.graph) (formal_at (owner_of c.args.owner))
          (λ number. pointer_node (is_pointer_there (slice_get types number))) number c.loop-number.invariant.each
          (subst (λ (b : Bool). AddsMissing (graph_in table c.loop-number.graph) (graph_in table c.add_register.new.graph) (formal_at (owner_of c.args.owner) number) (pointer_node b))
          is c.in_ok-add_register.ensures.adds);
    }

pub returns-clause-graph : goal.returns-clause-graph
returns-clause-graph c = c.loop-number.invariant.graph

pub returns-clause-adds : goal.returns-clause-adds
returns-clause-adds c =
    let table = c.args.types.now in
    let types = parameters_of (type_in table c.args.function.now.c_type) in
    let all : c.loop-number.number ≡ c.args.function.now.parameters = omega (arith, c.loop-number-test.false, c.loop-number.auto.number-end) in
    subst (AddsEach (graph_in table c.args.graph.now) (graph_in table c.loop-number.graph) (formal_at (owner_of c.args.owner)) (λ number. pointer_node (is_pointer_there (slice_get types number)))) all
    c.loop-number.invariant.each
