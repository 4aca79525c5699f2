use Rattle.std.proofs.Common.{◌≡◌, true, false, sym, ap, subst, ◌∙◌}
use Rattle.tac_ir.specs.Views.{base_in, path_in, scalar_in}
use Rattle.heap_graph.specs.Asks.{is_certain, base_of, load_asked}
use Rattle.graph_unification.specs.Applying.{code_of, owner_of, shown, Applies}
use Rattle.graph_unification.proofs.Staying.{own_kept, path_fits_kept}
use Rattle.graph_unification.proofs.PointSteps.{certain_has}
use Rattle.graph_unification.proofs.ObjectSteps.{base_kept, no_load, loaded}
use Rattle.graph_unification.proofs.applied.Applied.load.Goals as goal

pub returns-then-not-is_certain-clause-applies : goal.returns-then-not-is_certain-clause-applies
returns-then-not-is_certain-clause-applies c =
    let own = c.args.self in
    let table = own.tac.now.types in
    let old = shown own c.args.graph.now in
    no_load (code_of own) c.requires.known.made (owner_of own) (path_in table c.args.path.now) old old false c.requires.graph.sound c.args.to (scalar_in table c.args.scalar)
    (ap (is_certain old) (sym (c.base_name.ensures old)) ∙ sym (c.if-not-is_certain.ensures table c.requires.graph))

pub touch-requires-clause-base : goal.touch-requires-clause-base
touch-requires-clause-base c =
    let own = c.args.self in
    let table = own.tac.now.types in
    let old = shown own c.args.graph.now in
    certain_has old (base_of (code_of own) old (owner_of own) (path_in table c.args.path.now))
    (ap (is_certain old) (sym (c.base_name.ensures old)) ∙ sym (c.if-not-is_certain.ensures table c.requires.graph))

pub hold-requires-clause-base : goal.hold-requires-clause-base
hold-requires-clause-base c =
    let own = c.args.self in
    let table = own.tac.now.types in
    let old = shown own c.args.graph.now in
    let its = c.in_ok-touched.ensures.applies in
    base_kept (code_of own) c.requires.known.made (owner_of own) old (shown own c.touch.new.graph) its.map c.requires.graph.sound its.maps (base_in table c.args.path.now.base)
    (certain_has old (base_of (code_of own) old (owner_of own) (path_in table c.args.path.now))
    (ap (is_certain old) (sym (c.base_name.ensures old)) ∙ sym (c.if-not-is_certain.ensures table c.requires.graph)))

pub hold-requires-clause-fits : goal.hold-requires-clause-fits
hold-requires-clause-fits c =
    let own = c.args.self in
    let its = c.in_ok-touched.ensures.applies in
    path_fits_kept (code_of own) c.requires.known.made (owner_of own) (shown own c.args.graph.now) (shown own c.touch.new.graph) its.map c.requires.graph.sound its.maps (path_in own.tac.now.types c.args.path.now) c.requires.fits

pub hold-requires-clause-target : goal.hold-requires-clause-target
hold-requires-clause-target c = λ is.
    let own = c.args.self in
    let its = c.in_ok-touched.ensures.applies in
    own_kept (code_of own) c.requires.known.made (owner_of own) (shown own c.args.graph.now) (shown own c.touch.new.graph) its.map c.requires.graph.sound its.maps c.args.to (c.requires.target is)

pub returns-clause-applies : goal.returns-clause-applies
returns-clause-applies c =
    let own = c.args.self in
    let code = code_of own in
    let owner = owner_of own in
    let table = own.tac.now.types in
    let path = path_in table c.args.path.now in
    let scalar = scalar_in table c.args.scalar in
    let old = shown own c.args.graph.now in
    let middle = shown own c.touch.new.graph in
    let new = shown own c.hold.new.graph in
    subst (λ b. Applies code.structs b old new (λ graph. load_asked code graph owner c.args.to scalar path ≡ true)) (sym c.either.ensures)
    (loaded code c.requires.known.made owner path old middle new c.in_ok-touched.touched c.in_ok-held.held c.requires.graph.sound c.in_ok-touched.ensures.graph.sound c.args.to scalar
    (ap (is_certain old) (sym (c.base_name.ensures old)) ∙ sym (c.if-not-is_certain.ensures table c.requires.graph)) c.in_ok-touched.ensures.applies c.in_ok-held.ensures.applies)
