use Rattle.std.proofs.Common.{◌≡◌, length, ap, subst, ◌∙◌, arith}
use Rattle.c_typed.specs.Table.{structs_in}
use Rattle.heap_graph.specs.Targets.{has_target}
use Rattle.heap_graph.specs.Closed.{parameters_of, function_type, formal}
use Rattle.graph_unification.specs.Memory.{name_of}
use Rattle.graph_unification.proofs.NamedSteps.{on_ok}
use Rattle.dsa_local.specs.Joined.{HaveOne, Joins}
use Rattle.dsa_local.specs.Members.{code_of, shown}
use Rattle.dsa_local.proofs.Joining.{joins_none, joins_more}
use Rattle.dsa_local.proofs.InnerCalls.Kept.{both_named}
use Rattle.dsa_local.proofs.Passing.{parameters_read, OneFormal, one_formal_kept, functions_joined}
use Rattle.dsa_local.proofs.members.Group.join_functions.Goals as goal

pub loop-number-init : goal.loop-number-init
loop-number-init c = record {
  graph = c.requires.graph;
  named = c.requires.names;
  joins = joins_none (structs_in c.args.self.tac.now.types) c.requires.stands.made (OneFormal c.args.a c.args.b) (shown c.args.self c.args.graph.now) c.requires.graph.sound;
}

pub join-requires-clause-graph : goal.join-requires-clause-graph
join-requires-clause-graph c = c.loop-number.invariant.graph

pub join-requires-clause-first : goal.join-requires-clause-first
join-requires-clause-first c =
    let many = parameters_read c.args.self.tac.now c.args.a c.index.result.now c.requires.within c.index.ensures c.requires.stands in
    ap (λ name. has_target ((shown c.args.self c.loop-number.graph).targets name)) c.formal.ensures ∙ (c.loop-number.invariant.named.formals c.loop-number.number (omega (arith, many, c.loop-number-test.true))).0

pub join-requires-clause-second : goal.join-requires-clause-second
join-requires-clause-second c =
    let many = parameters_read c.args.self.tac.now c.args.a c.index.result.now c.requires.within c.index.ensures c.requires.stands in
    ap (λ name. has_target ((shown c.args.self c.loop-number.graph).targets name)) c.formal-in-loop-number.ensures ∙ (c.loop-number.invariant.named.formals c.loop-number.number (omega (arith, many, c.loop-number-test.true))).1

pub loop-number-preserved : goal.loop-number-preserved
loop-number-preserved c =
    let own = c.args.self in
    let structs = structs_in own.tac.now.types in
    let a = c.args.a in
    let b = c.args.b in
    let number = c.loop-number.number in
    let start = shown own c.args.graph.now in
    let graph = shown own c.loop-number.graph in
    let next = shown own c.join.new.graph in
    let its = c.in_ok-join.ensures in
    let joined : Joins structs graph next (HaveOne (formal a number) (formal b number)) =
    subst (λ name. Joins structs graph next (HaveOne (formal a number) name)) c.formal-in-loop-number.ensures
    (subst (λ name. Joins structs graph next (HaveOne name (name_of c.formal-in-loop-number.result))) c.formal.ensures its.joins) in
    record {
      graph = its.graph;
      named = both_named graph next its.joins.leads.names (code_of own) a b c.loop-number.invariant.named;
      joins = joins_more structs c.requires.stands.made (OneFormal a b) (one_formal_kept structs c.requires.stands.made (code_of own) a b) start graph next c.requires.graph.sound c.loop-number.invariant.graph.sound number c.loop-number.invariant.joins joined;
    }

pub join-requires-2-clause-graph : goal.join-requires-2-clause-graph
join-requires-2-clause-graph c = c.loop-number.invariant.graph

pub join-requires-2-clause-first : goal.join-requires-2-clause-first
join-requires-2-clause-first c = c.loop-number.invariant.named.results.0

pub join-requires-2-clause-second : goal.join-requires-2-clause-second
join-requires-2-clause-second c = c.loop-number.invariant.named.results.1

pub returns-clause-joins : goal.returns-clause-joins
returns-clause-joins c =
    let own = c.args.self in
    let many = parameters_read own.tac.now c.args.a c.index.result.now c.requires.within c.index.ensures c.requires.stands in
    let all : c.loop-number.number ≡ length (parameters_of (function_type (code_of own) c.args.a)) = omega (arith, many, c.loop-number-test.false, c.loop-number.auto.number-end) in
    on_ok c.join-2.result c.join-2.ensures.joins
    (λ its. functions_joined (structs_in own.tac.now.types) c.requires.stands.made (code_of own) c.args.a c.args.b (shown own c.args.graph.now) (shown own c.loop-number.graph) (shown own c.join-2.new.graph)
    c.requires.graph.sound c.loop-number.invariant.graph.sound c.loop-number.number all c.loop-number.invariant.joins its)
