use Rattle.std.proofs.Common.{◌≡◌, List, length, map, Some, None, option_copied, option_map, refl, sym, ap, subst, ◌∙◌, arith}
use Rattle.std.specs.Prelude.{slice_get}
use Rattle.std.proofs.lemmas.List.{length-map}
use Rattle.std.proofs.lemmas.Option.{slice_get-map, slice_get_read}
use Rattle.c_typed.specs.Table.{structs_in}
use Rattle.tac_ir.specs.declared.op.Op as memory_op
use Rattle.tac_ir.specs.States.{InFunction}
use Rattle.tac_ir.specs.Views.{op_in, function_in}
use Rattle.graph_unification.proofs.FoundStatics.{got}
use Rattle.dsa_local.specs.Joined.{OpJoined, CallsJoined, Joins}
use Rattle.dsa_local.specs.Members.{code_of, shown, is_inside}
use Rattle.dsa_local.proofs.Joining.{Below, AtEach, joins_same, joins_none, joins_next}
use Rattle.dsa_local.proofs.InnerCalls.Kept.{op_joined_kept, classes_joined_kept, all_have_own}
use Rattle.dsa_local.proofs.CallSteps.{calls_done, no_function_joined}
use Rattle.dsa_local.proofs.members.Group.join_calls.Goals as goal

pub returns-in_default-clause-joins : goal.returns-in_default-clause-joins
returns-in_default-clause-joins c =
    let own = c.args.self in
    let table = own.tac.now.types in
    let functions = own.tac.now.functions.items in
    let n = c.args.caller.0 in
    let none : slice_get functions n ≡ None = ap (λ items. slice_get items n) (sym c.deref.ensures.value) ∙ (got c.deref.result.now n c.get.result c.get.ensures.lookup ∙ ap option_copied c.in_default.is) in
    joins_same (structs_in table) c.requires.stands.made (shown own c.args.graph.now) c.requires.graph.sound (CallsJoined (code_of own) (is_inside own) n)
    (no_function_joined own c.requires.of c.requires.groups n (slice_get-map (function_in table) functions n ∙ ap (option_map (function_in table)) none) (shown own c.args.graph.now))

pub loop-op-init : goal.loop-op-init
loop-op-init c =
    let own = c.args.self in
    let table = own.tac.now.types in
    record {
      graph = c.requires.graph;
      named = c.requires.names;
      classes = c.requires.classes;
      joins = joins_none (structs_in table) c.requires.stands.made (AtEach (OpJoined (code_of own) (is_inside own) (InFunction c.args.caller.0)) (map (op_in table) c.as_slice-op-items.result.now)) (shown own c.args.graph.now) c.requires.graph.sound;
    }

pub join_op-requires-clause-point : goal.join_op-requires-clause-point
join_op-requires-clause-point c =
    let own = c.args.self in
    let table = own.tac.now.types in
    let functions = own.tac.now.functions.items in
    let n = c.args.caller.0 in
    let function = c.in-Some.function.now in
    let there : slice_get functions n ≡ Some function = ap (λ items. slice_get items n) (sym c.deref.ensures.value) ∙ (got c.deref.result.now n c.get.result c.get.ensures.lookup ∙ ap option_copied c.in-Some.is) in
    let ops = c.as_slice-op-items.result.now in
    let i = c.loop-op.op-index in
    let op = c.op-item.result in
    let at : slice_get (map (op_in table) ops) i ≡ Some (op_in table op) = slice_get-map (op_in table) ops i ∙ ap (option_map (op_in table)) (slice_get_read ops (length ops) i op refl c.loop-op-test.true c.op-item.is) in
    record {
      inside = c.requires.inside;
      function = function_in table function;
      is = slice_get-map (function_in table) functions n ∙ ap (option_map (function_in table)) there;
      at = i;
      point = ap (λ l. slice_get (map (op_in table) l) i) (sym c.as_slice-op-items.ensures.value) ∙ at;
    }

pub join_op-requires-clause-graph : goal.join_op-requires-clause-graph
join_op-requires-clause-graph c = c.loop-op.invariant.graph

pub join_op-requires-clause-names : goal.join_op-requires-clause-names
join_op-requires-clause-names c = c.loop-op.invariant.named

pub join_op-requires-clause-classes : goal.join_op-requires-clause-classes
join_op-requires-clause-classes c = c.loop-op.invariant.classes

pub loop-op-preserved : goal.loop-op-preserved
loop-op-preserved c =
    let own = c.args.self in
    let table = own.tac.now.types in
    let structs = structs_in table in
    let made = c.requires.stands.made in
    let tac = code_of own in
    let inside = is_inside own in
    let owner = InFunction c.args.caller.0 in
    let ops = c.as_slice-op-items.result.now in
    let i = c.loop-op.op-index in
    let op = c.op-item.result in
    let start = shown own c.args.graph.now in
    let graph = shown own c.loop-op.graph in
    let next = shown own c.join_op.new.graph in
    let before = c.loop-op.invariant in
    let its = c.in_ok-join_op.ensures in
    let at : slice_get (map (op_in table) ops) i ≡ Some (op_in table op) = slice_get-map (op_in table) ops i ∙ ap (option_map (op_in table)) (slice_get_read ops (length ops) i op refl c.loop-op-test.true c.op-item.is) in
    record {
      graph = its.graph;
      named = all_have_own graph next its.joins.leads.names tac inside before.named;
      classes = classes_joined_kept structs made tac inside graph next before.graph.sound its.joins.goes before.classes;
      joins = joins_next structs made (OpJoined tac inside owner) (map (op_in table) ops) (op_joined_kept structs made tac inside owner) start graph next c.requires.graph.sound before.graph.sound i (op_in table op) at before.joins its.joins;
    }

pub returns-clause-graph : goal.returns-clause-graph
returns-clause-graph c = c.loop-op.invariant.graph

pub returns-clause-joins : goal.returns-clause-joins
returns-clause-joins c =
    let own = c.args.self in
    let table = own.tac.now.types in
    let functions = own.tac.now.functions.items in
    let n = c.args.caller.0 in
    let function = c.in-Some.function.now in
    let there : slice_get functions n ≡ Some function = ap (λ items. slice_get items n) (sym c.deref.ensures.value) ∙ (got c.deref.result.now n c.get.result c.get.ensures.lookup ∙ ap option_copied c.in-Some.is) in
    let value = c.as_slice-op-items.ensures.value in
    let start = shown own c.args.graph.now in
    let graph = shown own c.loop-op.graph in
    let long = length-map function.points.items (op_in table) in
    let same = ap (λ l. length l) value in
    calls_done own c.requires.of c.requires.groups c.requires.stands.made n (function_in table function) (slice_get-map (function_in table) functions n ∙ ap (option_map (function_in table)) there) start graph c.loop-op.op-index
    (omega (arith, long, same, c.loop-op-test.false))
    (subst (λ (l : List memory_op.Op). Joins (structs_in table) start graph (Below (AtEach (OpJoined (code_of own) (is_inside own) (InFunction n)) (map (op_in table) l)) c.loop-op.op-index)) value c.loop-op.invariant.joins)
