use Rattle.std.proofs.Common.{false, sym, ap, subst, ◌∙◌}
use Rattle.tac_ir.specs.Views.{path_in, scalar_in}
use Rattle.heap_graph.specs.Targets.{has_target}
use Rattle.graph_unification.specs.Memory.{name_of}
use Rattle.graph_unification.specs.Applying.{code_of, owner_of, shown, Applies, IsHeld}
use Rattle.graph_unification.proofs.ObjectSteps.{nothing_loaded, holds_loaded}
use Rattle.graph_unification.proofs.applied.Applied.hold.Goals as goal

pub returns-then-not-is_data_scalar-clause-applies : goal.returns-then-not-is_data_scalar-clause-applies
returns-then-not-is_data_scalar-clause-applies c =
    let own = c.args.self in
    let old = shown own c.args.graph.now in
    nothing_loaded (code_of own) c.requires.known.made (owner_of own) (path_in own.tac.now.types c.args.path.now) old old false c.requires.graph.sound c.args.to (scalar_in own.tac.now.types c.args.scalar) (sym c.if-not-is_data_scalar.ensures)

pub link-requires-clause-target : goal.link-requires-clause-target
link-requires-clause-target c = ap (λ n. has_target ((shown c.args.self c.args.graph.now).targets n)) c.own-name.ensures ∙ c.requires.target (sym c.if-not-is_data_scalar.ensures)

pub mark-sure-requires-clause-target : goal.mark-sure-requires-clause-target
mark-sure-requires-clause-target c =
    c.in_ok-linked.ensures.applies.leads.names (name_of c.own-name.result)
    ∙ ap (λ n. has_target ((shown c.args.self c.args.graph.now).targets n)) c.own-name.ensures ∙ c.requires.target (sym c.if-not-is_data_scalar.ensures)

pub returns-clause-applies : goal.returns-clause-applies
returns-clause-applies c =
    let own = c.args.self in
    let code = code_of own in
    let owner = owner_of own in
    let table = own.tac.now.types in
    let path = path_in table c.args.path.now in
    let scalar = scalar_in table c.args.scalar in
    let old = shown own c.args.graph.now in
    let middle = shown own c.link.new.graph in
    let new = shown own c.mark-sure.new.graph in
    subst (λ b. Applies code.structs b old new (IsHeld code owner c.args.to scalar path)) (sym c.either.ensures)
    (holds_loaded code c.requires.known.made owner path old middle new c.in_ok-linked.linked c.mark-sure.result c.requires.graph.sound c.in_ok-linked.ensures.graph.sound c.args.to scalar (name_of c.own-name.result) c.own-name.ensures
    (sym c.if-not-is_data_scalar.ensures) (ap (λ n. has_target (old.targets n)) c.own-name.ensures ∙ c.requires.target (sym c.if-not-is_data_scalar.ensures)) c.in_ok-linked.ensures.applies c.mark-sure.ensures.applies)
