use Rattle.std.proofs.Common.{Some, subst}
use Rattle.ref_semantics.specs.Values as V
use Rattle.ref_semantics.specs.Store.{with_content}
use Rattle.ref_meaning.specs.declared.value.Name.TheVariants as N
use Rattle.ref_meaning.specs.declared.object.Content.TheVariants as C
use Rattle.ref_meaning.specs.declared.store.Store.{Store}
use Rattle.ref_meaning.specs.RefStore.Holding.{At}
use Rattle.ref_meaning.proofs.Updating.{Changes, at_changed}
use Rattle.ref_meaning.proofs.store.Store.hold_global.Goals as goal

pub returns-clause-held : goal.returns-clause-held
returns-clause-held c = λ around base state content is at.
    let store = c.args.self.now in
    let name = N.Outer c.as_slice.result in
    let made = c.args.elements in
    let new : Store = record store { objects = c.insert.new.self } in
    let changes : Changes name (Some (C.Elements made)) store.objects new.objects = c.in_ok-insert.ensures.updates.0 in
    subst (λ n. At around new base (record state { objects = with_content (V.GlobalObject n) content state.objects })) c.as_slice.ensures
    (at_changed around store base state new name (Some (C.Elements made)) content state.trace changes is at)
