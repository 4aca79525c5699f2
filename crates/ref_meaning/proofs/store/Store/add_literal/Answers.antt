use Rattle.std.proofs.Common.{◌≡◌, Some, true, false, not, sym, ap, ◌∙◌}
use Rattle.c_typed.specs.DefinitionViews.{literal_of}
use Rattle.ref_semantics.specs.Store.{is_dead}
use Rattle.ref_semantics.specs.First.{literal_content}
use Rattle.ref_meaning.specs.declared.value.Name.TheVariants as N
use Rattle.ref_meaning.specs.declared.object.Content.TheVariants as C
use Rattle.ref_meaning.specs.declared.store.Store.{Store}
use Rattle.ref_meaning.specs.RefStore.Views.{name_of}
use Rattle.ref_meaning.proofs.Updating.{Changes}
use Rattle.ref_meaning.proofs.FirstObjects.{literal_made}
use Rattle.ref_meaning.proofs.FirstStore.{looked_dead, at_new, at_left}
use Rattle.ref_meaning.proofs.store.Store.add_literal.Goals as goal

pub returns-clause-added : goal.returns-clause-added
returns-clause-added c = λ around base state at.
    let store = c.args.self.now in
    let literal = c.args.literal.now in
    let name = N.Text literal.place in
    let made = c.in_ok-elements.elements in
    let content = literal_content (Some (literal_of literal)) in
    let none : is_dead (state.objects (name_of name)) ≡ true =
    looked_dead store.types.now store.objects name c.get.result (state.objects (name_of name)) c.get.ensures.value (at.objects name) ∙ ap not (sym c.is_some.ensures ∙ c.if-is_some.false) in
    let is = literal_made store.types.now literal made c.requires c.in_ok-elements.ensures in
    let new : Store = record store { objects = c.insert.new.self } in
    let changes : Changes name (Some (C.Elements made)) store.objects new.objects = c.in_ok-insert.ensures.updates.0 in
    at_new around store base state name content new (Some (C.Elements made)) changes is none at

pub returns-then-is_some-clause-added : goal.returns-then-is_some-clause-added
returns-then-is_some-clause-added c = λ around base state at.
    let store = c.args.self.now in
    let literal = c.args.literal.now in
    let name = N.Text literal.place in
    let there : is_dead (state.objects (name_of name)) ≡ false =
    looked_dead store.types.now store.objects name c.get.result (state.objects (name_of name)) c.get.ensures.value (at.objects name) ∙ ap not (sym c.is_some.ensures ∙ c.if-is_some.true) in
    at_left around store base state name (literal_content (Some (literal_of literal))) there at
