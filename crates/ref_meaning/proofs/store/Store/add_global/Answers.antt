use Rattle.std.proofs.Common.{◌≡◌, Some, None, true, false, not, refl, sym, ap, subst, ◌∙◌}
use Rattle.c_typed.specs.Table.{type_in}
use Rattle.ref_meaning.specs.Fitting.{ElementsStand}
use Rattle.ref_meaning.proofs.Fitting.{object_alone}
use Rattle.ref_semantics.specs.Values as V
use Rattle.ref_semantics.specs.Store.{is_dead}
use Rattle.ref_meaning.specs.declared.value.Name.TheVariants as N
use Rattle.ref_meaning.specs.declared.object.Content.TheVariants as C
use Rattle.ref_meaning.specs.declared.store.Store.{Store}
use Rattle.ref_meaning.specs.RefStore.Holding.{At, HeldIs, ContentIs}
use Rattle.ref_meaning.specs.RefStore.Views.{name_of}
use Rattle.ref_meaning.specs.Beginning.{unfilled}
use Rattle.ref_meaning.specs.Firsts.{with_new}
use Rattle.ref_meaning.proofs.Updating.{Changes}
use Rattle.ref_meaning.proofs.FirstObjects.{elements_content}
use Rattle.ref_meaning.proofs.FirstStore.{looked_dead, at_new, at_left}
use Rattle.ref_meaning.proofs.store.Store.add_global.Goals as goal

pub returns-clause-added : goal.returns-clause-added
returns-clause-added c = λ around base state at.
    let store = c.args.self.now in
    let table = store.types.now in
    let global = c.args.global.now in
    let name = N.Outer c.as_slice.result in
    let made = c.new-elements.result in
    let is_new = c.new-elements.ensures in
    let content = unfilled (Some (type_in table global.c_type)) in
    let none : is_dead (state.objects (name_of name)) ≡ true =
    looked_dead table store.objects name c.get.result (state.objects (name_of name)) c.get.ensures.value (at.objects name) ∙ ap not (sym c.is_some.ensures ∙ c.if-is_some.false) in
    let is : ContentIs table (Some (C.Elements made)) content =
    elements_content table made true (type_in table global.c_type) 1 (λ offset. None) is_new.is_static (ap (type_in table) is_new.c_type) is_new.count
    (subst (ElementsStand table made.c_type) (sym is_new.count) (subst (λ t. ElementsStand table t 1) (sym is_new.c_type) (object_alone table global.c_type c.requires)))
    (λ offset. subst (λ memory. HeldIs table memory None) (sym (is_new.held offset)) refl) in
    let new : Store = record store { objects = c.insert.new.self } in
    let changes : Changes name (Some (C.Elements made)) store.objects new.objects = c.in_ok-insert.ensures.updates.0 in
    subst (λ n. At around new base (record state { objects = with_new (V.GlobalObject n) content state.objects })) c.as_slice.ensures (at_new around store base state name content new (Some (C.Elements made)) changes is none at)

pub returns-then-is_some-clause-added : goal.returns-then-is_some-clause-added
returns-then-is_some-clause-added c = λ around base state at.
    let store = c.args.self.now in
    let table = store.types.now in
    let name = N.Outer c.as_slice.result in
    let content = unfilled (Some (type_in table c.args.global.now.c_type)) in
    let there : is_dead (state.objects (name_of name)) ≡ false =
    looked_dead table store.objects name c.get.result (state.objects (name_of name)) c.get.ensures.value (at.objects name) ∙ ap not (sym c.is_some.ensures ∙ c.if-is_some.true) in
    subst (λ n. At around store base (record state { objects = with_new (V.GlobalObject n) content state.objects })) c.as_slice.ensures (at_left around store base state name content there at)
