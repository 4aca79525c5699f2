use Rattle.std.proofs.Common.{get_or, arith}
use Rattle.std.proofs.lemmas.List.{length-map}
use Rattle.tac_ir.specs.declared.register.FunctionId.{FunctionId}
use Rattle.c_typed.specs.Table.{structs_in}
use Rattle.call_graph.proofs.RowLists.{has_at}
use Rattle.call_graph.specs.ClassLists.{numbers_of}
use Rattle.dsa_local.specs.Joined.{CallsJoined}
use Rattle.dsa_local.specs.Members.{code_of, shown, is_inside}
use Rattle.dsa_local.proofs.Joining.{AtEach, joins_none, joins_next}
use Rattle.dsa_local.proofs.InnerCalls.Kept.{calls_joined_kept, classes_joined_kept, all_have_own}
use Rattle.dsa_local.proofs.Scoping.{none, number_at}
use Rattle.dsa_local.proofs.Assembling.{members_joined}
use Rattle.dsa_local.proofs.graphs.join_members.Goals as goal

pub loop-member-init : goal.loop-member-init
loop-member-init c =
    let own = c.args.group in
    record {
      graph = c.requires.graph;
      named = c.requires.names;
      classes = c.requires.classes;
      joins = joins_none (structs_in own.tac.now.types) c.requires.stands.made (AtEach (CallsJoined (code_of own) (is_inside own)) (numbers_of c.args.members.now)) (shown own c.args.graph.now) c.requires.graph.sound;
    }

pub join_calls-requires-clause-inside : goal.join_calls-requires-clause-inside
join_calls-requires-clause-inside c =
    let members = c.args.members.now in
    let i = c.loop-member.member-index in
    let n = (get_or members i none).0 in
    c.requires.inside n (has_at (numbers_of members) i n (number_at members i c.loop-member-test.true))

pub join_calls-requires-clause-graph : goal.join_calls-requires-clause-graph
join_calls-requires-clause-graph c = c.loop-member.invariant.graph

pub join_calls-requires-clause-names : goal.join_calls-requires-clause-names
join_calls-requires-clause-names c = c.loop-member.invariant.named

pub join_calls-requires-clause-classes : goal.join_calls-requires-clause-classes
join_calls-requires-clause-classes c = c.loop-member.invariant.classes

pub loop-member-preserved : goal.loop-member-preserved
loop-member-preserved c =
    let own = c.args.group in
    let structs = structs_in own.tac.now.types in
    let made = c.requires.stands.made in
    let tac = code_of own in
    let inside = is_inside own in
    let members = c.args.members.now in
    let i = c.loop-member.member-index in
    let n = (get_or members i none).0 in
    let graph = shown own c.loop-member.graph in
    let next = shown own c.join_calls.new.graph in
    let before = c.loop-member.invariant in
    let its = c.in_ok-join_calls.ensures in
    record {
      graph = its.graph;
      named = all_have_own graph next its.joins.leads.names tac inside before.named;
      classes = classes_joined_kept structs made tac inside graph next before.graph.sound its.joins.goes before.classes;
      joins = joins_next structs made (CallsJoined tac inside) (numbers_of members) (calls_joined_kept structs made tac inside) (shown own c.args.graph.now) graph next c.requires.graph.sound before.graph.sound i n
          (number_at members i c.loop-member-test.true) before.joins its.joins;
    }

pub returns-clause-graph : goal.returns-clause-graph
returns-clause-graph c = c.loop-member.invariant.graph

pub returns-clause-joins : goal.returns-clause-joins
returns-clause-joins c =
    let own = c.args.group in
    let members = c.args.members.now in
    let long = length-map members (λ (f : FunctionId). f.0) in
    members_joined own c.requires.stands.made (numbers_of members) c.loop-member.member-index (omega (arith, long, c.loop-member-test.false)) (shown own c.args.graph.now) (shown own c.loop-member.graph)
    c.loop-member.invariant.joins
