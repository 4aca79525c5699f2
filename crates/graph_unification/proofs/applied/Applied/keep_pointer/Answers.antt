use Rattle.std.proofs.Common.{false, sym, ap, ◌∙◌}
use Rattle.tac_ir.specs.Views.{path_in, scalar_in}
use Rattle.heap_graph.specs.Targets.{has_target}
use Rattle.graph_unification.specs.Memory.{name_of}
use Rattle.graph_unification.specs.Applying.{code_of, owner_of, shown}
use Rattle.graph_unification.proofs.NamedSteps.{if_ok}
use Rattle.graph_unification.proofs.ObjectSteps.{other_kept, null_kept, pointer_kept}
use Rattle.graph_unification.proofs.applied.Applied.keep_pointer.Goals as goal

pub returns-then-not-is_data_scalar-clause-applies : goal.returns-then-not-is_data_scalar-clause-applies
returns-then-not-is_data_scalar-clause-applies c =
    let own = c.args.self in
    let old = shown own c.args.graph.now in
    other_kept (code_of own) c.requires.known.made (owner_of own) (path_in own.tac.now.types c.args.path.now) old old false c.requires.graph.sound (scalar_in own.tac.now.types c.args.scalar) c.args.register (sym c.if-not-is_data_scalar.ensures)

pub returns-then-is_marked-clause-applies : goal.returns-then-is_marked-clause-applies
returns-then-is_marked-clause-applies c =
    let own = c.args.self in
    let old = shown own c.args.graph.now in
    null_kept (code_of own) c.requires.known.made (owner_of own) (path_in own.tac.now.types c.args.path.now) old old false c.requires.graph.sound (scalar_in own.tac.now.types c.args.scalar) c.args.register
    (sym (c.requires.known.nulls c.args.register) ∙ sym c.if-is_marked.ensures)

pub link-requires-clause-target : goal.link-requires-clause-target
link-requires-clause-target c =
    ap (λ n. has_target ((shown c.args.self c.args.graph.now).targets n)) c.own.ensures
    ∙ c.requires.value (sym c.if-not-is_data_scalar.ensures) (sym (c.requires.known.nulls c.args.register) ∙ sym c.if-is_marked.ensures)

pub returns-clause-applies : goal.returns-clause-applies
returns-clause-applies c =
    let own = c.args.self in
    if_ok c.link.result c.link.ensures.applies
    (λ changed its.
    pointer_kept (code_of own) c.requires.known.made (owner_of own) (path_in own.tac.now.types c.args.path.now) (shown own c.args.graph.now) (shown own c.link.new.graph) changed c.requires.graph.sound
    (scalar_in own.tac.now.types c.args.scalar) c.args.register (name_of c.own.result) c.own.ensures (sym c.if-not-is_data_scalar.ensures)
    (sym (c.requires.known.nulls c.args.register) ∙ sym c.if-is_marked.ensures) its)
