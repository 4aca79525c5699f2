use Rattle.std.proofs.Common.{map, sym, ap, ◌∙◌}
use Rattle.std.specs.List.{list_any}
use Rattle.tac_ir.specs.Views.{step_of, path_in}
use Rattle.heap_graph.specs.Points.{is_member, base_part}
use Rattle.graph_unification.specs.Applying.{code_of, owner_of, shown}
use Rattle.graph_unification.proofs.NamedSteps.{on_ok, if_ok}
use Rattle.graph_unification.proofs.PathSteps.{told_slots}
use Rattle.graph_unification.proofs.PointSteps.{implies_any}
use Rattle.graph_unification.proofs.ObjectSteps.{member_told, no_member, nothing_told}
use Rattle.graph_unification.proofs.applied.Applied.tell_member.Goals as goal

pub tell_base-requires-clause-some : goal.tell_base-requires-clause-some
tell_base-requires-clause-some c = λ plain complete.
    let own = c.args.self in
    let path = path_in own.tac.now.types c.args.path.now in
    told_slots (code_of own).structs c.requires.known.made path.base path.steps (base_part (code_of own) (shown own c.args.graph.now) (owner_of own) path.base).c_type plain
    (c.requires.fits.leads (ap (λ s. list_any is_member (map step_of s)) (sym c.as_slice.ensures.value) ∙ sym c.if-has_member.ensures))

pub returns-then-has_member-clause-typed : goal.returns-then-has_member-clause-typed
returns-then-has_member-clause-typed c = on_ok c.tell_base.result c.tell_base.ensures.typed (λ typed. implies_any _ _ typed)

pub returns-then-has_member-clause-applies : goal.returns-then-has_member-clause-applies
returns-then-has_member-clause-applies c =
    let own = c.args.self in
    if_ok c.tell_base.result c.tell_base.ensures.applies
    (λ changed its.
    member_told (code_of own) c.requires.known.made (owner_of own) (path_in own.tac.now.types c.args.path.now) changed (shown own c.args.graph.now) (shown own c.tell_base.new.graph)
    (ap (λ s. list_any is_member (map step_of s)) (sym c.as_slice.ensures.value) ∙ sym c.if-has_member.ensures) its)

pub returns-else-has_member-clause-typed : goal.returns-else-has_member-clause-typed
returns-else-has_member-clause-typed c =
    let own = c.args.self in
    no_member (code_of own) c.requires.known.made (owner_of own) (path_in own.tac.now.types c.args.path.now) (shown own c.args.graph.now)
    (ap (λ s. list_any is_member (map step_of s)) (sym c.as_slice.ensures.value) ∙ sym c.if-has_member.ensures)

pub returns-else-has_member-clause-applies : goal.returns-else-has_member-clause-applies
returns-else-has_member-clause-applies c =
    let own = c.args.self in
    nothing_told (code_of own) c.requires.known.made (owner_of own) (path_in own.tac.now.types c.args.path.now) (shown own c.args.graph.now) c.requires.graph.sound
    (ap (λ s. list_any is_member (map step_of s)) (sym c.as_slice.ensures.value) ∙ sym c.if-has_member.ensures)
