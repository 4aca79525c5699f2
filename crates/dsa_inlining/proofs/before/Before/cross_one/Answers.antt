use Rattle.std.proofs.Common.{◌≡◌, true, not, sym, ap, ◌∙◌}
use Rattle.std.proofs.lemmas.Bool.{false≢true}
use Rattle.tac_ir.specs.Views.{tac_of}
use Rattle.graph_unification.specs.Memory.{owner_of}
use Rattle.graph_unification.proofs.NamedSteps.{on_ok}
use Rattle.dsa_inlining.specs.Before.{graphs_before, is_out}
use Rattle.dsa_inlining.specs.CallSteps.{shown, TargetCrosses}
use Rattle.dsa_inlining.proofs.Naming.{call_named_kept}
use Rattle.dsa_inlining.proofs.GroupCrossings.ToldGroups.{known_kept}
use Rattle.dsa_inlining.proofs.Stepping.{crosses_same, one_crosses}
use Rattle.dsa_inlining.proofs.before.Before.cross_one.Goals as goal

pub returns-then-is_inside-clause-crosses : goal.returns-then-is_inside-clause-crosses
returns-then-is_inside-clause-crosses c =
    let before = graphs_before c.args.self in
    let group = c.args.caller.group in
    let owner = owner_of c.args.caller.owner in
    crosses_same before c.requires.known.code.made group owner (TargetCrosses before group owner c.args.site c.args.arguments.now c.args.called) c.args.own.now (shown c.args.self c.args.graph.now) c.requires.graph.sound c.requires.stands
    (λ out. absurd (false≢true (sym (ap not (sym c.is_inside.ensures ∙ c.if-is_inside.true)) ∙ out)))

pub returns-then-is_inside-clause-joined : goal.returns-then-is_inside-clause-joined
returns-then-is_inside-clause-joined c = c.requires.joined

pub copy_called-requires-clause-called : goal.copy_called-requires-clause-called
copy_called-requires-clause-called c = (c.requires.out (ap not (sym c.is_inside.ensures ∙ c.if-is_inside.false))).0

pub copy_called-requires-clause-reached : goal.copy_called-requires-clause-reached
copy_called-requires-clause-reached c = (c.requires.out (ap not (sym c.is_inside.ensures ∙ c.if-is_inside.false))).1

pub join_called-requires-clause-called : goal.join_called-requires-clause-called
join_called-requires-clause-called c = (c.requires.out (ap not (sym c.is_inside.ensures ∙ c.if-is_inside.false))).0

pub join_called-requires-clause-entry : goal.join_called-requires-clause-entry
join_called-requires-clause-entry c = c.in_ok-copy_called.ensures.crosses.crossed

pub join_called-requires-clause-named : goal.join_called-requires-clause-named
join_called-requires-clause-named c =
    let self = c.args.self in
    call_named_kept (tac_of self.tac.now) c.requires.known.code.made (shown self c.args.graph.now) (shown self c.copy_called.new.graph) c.requires.graph.sound c.in_ok-copy_called.ensures.crosses.goes (owner_of c.args.caller.owner)
    c.args.site c.args.arguments.now c.requires.named

pub join_called-requires-clause-stands : goal.join_called-requires-clause-stands
join_called-requires-clause-stands c = c.in_ok-copy_called.ensures.crosses.stands

pub join_called-requires-clause-joined : goal.join_called-requires-clause-joined
join_called-requires-clause-joined c =
    let self = c.args.self in
    known_kept (graphs_before self) c.requires.known.code.made c.args.joined.now (shown self c.args.graph.now) (shown self c.copy_called.new.graph) c.requires.graph.sound c.in_ok-copy_called.ensures.crosses.goes
    c.requires.joined

pub returns-clause-joined : goal.returns-clause-joined
returns-clause-joined c = c.join_called.ensures.joined

pub returns-clause-crosses : goal.returns-clause-crosses
returns-clause-crosses c =
    let self = c.args.self in
    let before = graphs_before self in
    let group = c.args.caller.group in
    let owner = owner_of c.args.caller.owner in
    let out : is_out before.groups group c.args.called ≡ true = ap not (sym c.is_inside.ensures ∙ c.if-is_inside.false) in
    let first = c.in_ok-copy_called.ensures in
    on_ok c.join_called.result c.join_called.ensures.crosses
    (λ its.
    one_crosses before c.requires.known.code.made group owner c.args.site c.args.arguments.now c.args.called out c.args.own.now c.copy_called.new.own (shown self c.args.graph.now) (shown self c.copy_called.new.graph)
    (shown self c.join_called.new.graph) c.requires.graph.sound first.graph.sound first.crosses its)
