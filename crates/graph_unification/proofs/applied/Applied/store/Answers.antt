use Rattle.std.proofs.Common.{◌≡◌, true, false, sym, ap, subst, ◌∙◌}
use Rattle.tac_ir.specs.Views.{base_in, path_in, scalar_in, operand_of}
use Rattle.heap_graph.specs.Asks.{is_certain, base_of, store_asked}
use Rattle.graph_unification.specs.Applying.{code_of, owner_of, shown, Applies}
use Rattle.graph_unification.proofs.Staying.{value_kept, path_fits_kept}
use Rattle.graph_unification.proofs.PointSteps.{certain_has}
use Rattle.graph_unification.proofs.ObjectSteps.{base_kept, no_store, stored}
use Rattle.graph_unification.proofs.applied.Applied.store.Goals as goal

pub returns-then-not-is_certain-clause-applies : goal.returns-then-not-is_certain-clause-applies
returns-then-not-is_certain-clause-applies c =
    let own = c.args.self in
    let table = own.tac.now.types in
    let old = shown own c.args.graph.now in
    no_store (code_of own) c.requires.known.made (owner_of own) (path_in table c.args.path.now) old old false c.requires.graph.sound (scalar_in table c.args.scalar) (operand_of c.args.value.now)
    (ap (is_certain old) (sym (c.base_name.ensures old)) ∙ sym (c.if-not-is_certain.ensures table c.requires.graph))

pub touch-requires-clause-base : goal.touch-requires-clause-base
touch-requires-clause-base c =
    let own = c.args.self in
    let table = own.tac.now.types in
    let old = shown own c.args.graph.now in
    certain_has old (base_of (code_of own) old (owner_of own) (path_in table c.args.path.now))
    (ap (is_certain old) (sym (c.base_name.ensures old)) ∙ sym (c.if-not-is_certain.ensures table c.requires.graph))

pub keep-requires-clause-base : goal.keep-requires-clause-base
keep-requires-clause-base c =
    let own = c.args.self in
    let table = own.tac.now.types in
    let old = shown own c.args.graph.now in
    let its = c.in_ok-touched.ensures.applies in
    base_kept (code_of own) c.requires.known.made (owner_of own) old (shown own c.touch.new.graph) its.map c.requires.graph.sound its.maps (base_in table c.args.path.now.base)
    (certain_has old (base_of (code_of own) old (owner_of own) (path_in table c.args.path.now))
    (ap (is_certain old) (sym (c.base_name.ensures old)) ∙ sym (c.if-not-is_certain.ensures table c.requires.graph)))

pub keep-requires-clause-fits : goal.keep-requires-clause-fits
keep-requires-clause-fits c =
    let own = c.args.self in
    let its = c.in_ok-touched.ensures.applies in
    path_fits_kept (code_of own) c.requires.known.made (owner_of own) (shown own c.args.graph.now) (shown own c.touch.new.graph) its.map c.requires.graph.sound its.maps (path_in own.tac.now.types c.args.path.now) c.requires.fits

pub keep-requires-clause-value : goal.keep-requires-clause-value
keep-requires-clause-value c =
    let own = c.args.self in
    let its = c.in_ok-touched.ensures.applies in
    value_kept (code_of own) c.requires.known.made (owner_of own) (shown own c.args.graph.now) (shown own c.touch.new.graph) its.map c.requires.graph.sound its.maps (scalar_in own.tac.now.types c.args.scalar) (operand_of c.args.value.now) c.requires.value

pub returns-clause-applies : goal.returns-clause-applies
returns-clause-applies c =
    let own = c.args.self in
    let code = code_of own in
    let owner = owner_of own in
    let table = own.tac.now.types in
    let path = path_in table c.args.path.now in
    let scalar = scalar_in table c.args.scalar in
    let old = shown own c.args.graph.now in
    let middle = shown own c.touch.new.graph in
    let new = shown own c.keep.new.graph in
    subst (λ b. Applies code.structs b old new (λ graph. store_asked code graph owner path scalar (operand_of c.args.value.now) ≡ true)) (sym c.either.ensures)
    (stored code c.requires.known.made owner path old middle new c.in_ok-touched.touched c.in_ok-kept.kept c.requires.graph.sound c.in_ok-touched.ensures.graph.sound scalar (operand_of c.args.value.now)
    (ap (is_certain old) (sym (c.base_name.ensures old)) ∙ sym (c.if-not-is_certain.ensures table c.requires.graph)) c.in_ok-touched.ensures.applies c.in_ok-kept.ensures.applies)
