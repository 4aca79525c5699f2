use Rattle.std.proofs.Common.{◌≡◌, ℕ, true, List, get_or, Some, option_map, sym, ap, subst, ◌∙◌, arith}
use Rattle.std.specs.Prelude.{slice_get}
use Rattle.std.proofs.lemmas.List.{length-map}
use Rattle.std.proofs.lemmas.Option.{slice_get-map, slice_get-get_or}
use Rattle.c_typed.specs.Table.{structs_in}
use Rattle.tac_ir.specs.declared.register.FunctionId.{FunctionId}
use Rattle.tac_ir.specs.Views.{callee_in}
use Rattle.call_graph.specs.RowLists.{Has}
use Rattle.call_graph.proofs.RowLists.{has_at}
use Rattle.call_graph.specs.ClassLists.{numbers_of}
use Rattle.call_graph.specs.TargetLists.{AreTargets}
use Rattle.dsa_local.specs.Joined.{AreJoined, ClassJoined}
use Rattle.dsa_local.specs.Members.{code_of, shown, is_inside}
use Rattle.dsa_local.proofs.Joining.{AtEach, joins_same, joins_none, joins_next}
use Rattle.dsa_local.proofs.InnerCalls.Kept.{are_joined_kept, all_have_own}
use Rattle.dsa_local.proofs.Inside.{as_many}
use Rattle.dsa_local.proofs.ClassSteps.{two_named, first_listed, listed_within, listed_type, class_done, not_inside, none_called}
use Rattle.dsa_local.proofs.members.Group.join_class.Goals as goal

abbrev none : FunctionId
none = record { 0 = 0 }

abbrev number : FunctionId → ℕ
number function = function.0

pub returns-in_default-clause-joins : goal.returns-in_default-clause-joins
returns-in_default-clause-joins c =
    let own = c.args.self in
    let graph = shown own c.args.graph.now in
    joins_same (structs_in own.tac.now.types) c.requires.stands.made graph c.requires.graph.sound (ClassJoined (code_of own) (is_inside own) c.args.first)
    (none_called own c.requires.groups c.args.called.now c.requires.called c.args.first (sym c.call_to.ensures ∙ c.in_default.is) graph)

pub returns-then-not-has_all-clause-joins : goal.returns-then-not-has_all-clause-joins
returns-then-not-has_all-clause-joins c =
    let own = c.args.self in
    let graph = shown own c.args.graph.now in
    let tac = code_of own in
    let callee = callee_in own.tac.now.types c.in-Some.callee in
    let its = c.requires.called.from c.args.first c.in-Some.callee (sym c.call_to.ensures ∙ c.in-Some.is) in
    let listed = c.deref.result.now in
    let are : AreTargets tac callee (numbers_of listed) = subst (λ (l : List FunctionId). AreTargets tac callee (numbers_of l)) (sym c.deref.ensures.value) (c.in_ok-targets.ensures c.requires.groups.classes) in
    let out = c.has_all.ensures.outside c.if-not-has_all.true in
    joins_same (structs_in own.tac.now.types) c.requires.stands.made graph c.requires.graph.sound (ClassJoined tac (is_inside own) c.args.first)
    (not_inside tac (is_inside own) callee c.args.first its.called its.class (numbers_of listed) are graph out.0 out.1 out.2)

pub loop-other-init : goal.loop-other-init
loop-other-init c =
    let own = c.args.self in
    record {
      graph = c.requires.graph;
      named = c.requires.names;
      joins = joins_none (structs_in own.tac.now.types) c.requires.stands.made (AtEach (AreJoined (code_of own) c.args.first) (numbers_of c.as_slice-other-items.result.now)) (shown own c.args.graph.now) c.requires.graph.sound;
    }

pub join_functions-requires-clause-within : goal.join_functions-requires-clause-within
join_functions-requires-clause-within c =
    let own = c.args.self in
    let tac = code_of own in
    let callee = callee_in own.tac.now.types c.in-Some.callee in
    let its = c.requires.called.from c.args.first c.in-Some.callee (sym c.call_to.ensures ∙ c.in-Some.is) in
    let items = c.in_ok-targets.targets.items in
    let are = c.in_ok-targets.ensures c.requires.groups.classes in
    let has = first_listed tac (is_inside own) callee c.args.first its.called its.class (numbers_of items) are in
    let less = listed_within tac (is_inside own) callee c.args.first its.called its.class (numbers_of items) are c.args.first has in
    let many = as_many own c.requires.groups in
    omega (arith, less, many)

pub join_functions-requires-clause-graph : goal.join_functions-requires-clause-graph
join_functions-requires-clause-graph c = c.loop-other.invariant.graph

pub join_functions-requires-clause-names : goal.join_functions-requires-clause-names
join_functions-requires-clause-names c =
    let own = c.args.self in
    let tac = code_of own in
    let inside = is_inside own in
    let first = c.args.first in
    let callee = callee_in own.tac.now.types c.in-Some.callee in
    let its = c.requires.called.from first c.in-Some.callee (sym c.call_to.ensures ∙ c.in-Some.is) in
    let others = c.as_slice-other-items.result.now in
    let i = c.loop-other.other-index in
    let other = (get_or others i none).0 in
    let are : AreTargets tac callee (numbers_of others) = subst (λ (l : List FunctionId). AreTargets tac callee (numbers_of l)) (sym c.as_slice-other-items.ensures.value) (c.in_ok-targets.ensures c.requires.groups.classes) in
    let all = subst (λ (l : List FunctionId). (function : ℕ) → Has (numbers_of l) function → inside function ≡ true) (c.deref.ensures.value ∙ sym c.as_slice-other-items.ensures.value) (c.has_all.ensures.all c.if-not-has_all.false) in
    let at : slice_get (numbers_of others) i ≡ Some other = slice_get-map number others i ∙ ap (option_map number) (slice_get-get_or others i none c.loop-other-test.true) in
    let here = first_listed tac inside callee first its.called its.class (numbers_of others) are in
    let there = has_at (numbers_of others) i other at in
    two_named tac c.requires.stands inside (shown own c.loop-other.graph) c.loop-other.invariant.named first other (listed_within tac inside callee first its.called its.class (numbers_of others) are first here)
    (listed_within tac inside callee first its.called its.class (numbers_of others) are other there) (all first here) (all other there)
    (listed_type tac inside callee first its.called its.class (numbers_of others) are first other here there)

pub loop-other-preserved : goal.loop-other-preserved
loop-other-preserved c =
    let own = c.args.self in
    let structs = structs_in own.tac.now.types in
    let made = c.requires.stands.made in
    let tac = code_of own in
    let first = c.args.first in
    let others = c.as_slice-other-items.result.now in
    let i = c.loop-other.other-index in
    let other = (get_or others i none).0 in
    let at : slice_get (numbers_of others) i ≡ Some other = slice_get-map number others i ∙ ap (option_map number) (slice_get-get_or others i none c.loop-other-test.true) in
    let graph = shown own c.loop-other.graph in
    let next = shown own c.join_functions.new.graph in
    let before = c.loop-other.invariant in
    let its = c.in_ok-join_functions.ensures in
    record {
      graph = its.graph;
      named = all_have_own graph next its.joins.leads.names tac (is_inside own) before.named;
      joins = joins_next structs made (AreJoined tac first) (numbers_of others) (are_joined_kept structs made tac first) (shown own c.args.graph.now) graph next c.requires.graph.sound before.graph.sound i other at before.joins its.joins;
    }

pub returns-clause-graph : goal.returns-clause-graph
returns-clause-graph c = c.loop-other.invariant.graph

pub returns-clause-joins : goal.returns-clause-joins
returns-clause-joins c =
    let own = c.args.self in
    let tac = code_of own in
    let inside = is_inside own in
    let first = c.args.first in
    let callee = callee_in own.tac.now.types c.in-Some.callee in
    let its = c.requires.called.from first c.in-Some.callee (sym c.call_to.ensures ∙ c.in-Some.is) in
    let others = c.as_slice-other-items.result.now in
    let are : AreTargets tac callee (numbers_of others) = subst (λ (l : List FunctionId). AreTargets tac callee (numbers_of l)) (sym c.as_slice-other-items.ensures.value) (c.in_ok-targets.ensures c.requires.groups.classes) in
    let all = subst (λ (l : List FunctionId). (function : ℕ) → Has (numbers_of l) function → inside function ≡ true) (c.deref.ensures.value ∙ sym c.as_slice-other-items.ensures.value) (c.has_all.ensures.all c.if-not-has_all.false) in
    let long = length-map others number in
    class_done tac inside callee first its.called its.class (numbers_of others) are (structs_in own.tac.now.types) c.requires.stands.made all (shown own c.args.graph.now) (shown own c.loop-other.graph) c.loop-other.other-index
    (omega (arith, long, c.loop-other-test.false)) c.loop-other.invariant.joins
