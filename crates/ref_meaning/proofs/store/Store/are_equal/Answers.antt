use Rattle.std.specs.Prelude.{◌&&◌}
use Rattle.std.proofs.Common.{◌≡◌, true, ap, sym, ◌∙◌}
use Rattle.std.proofs.lemmas.Bool.{false≢true}
use Rattle.ref_semantics.specs.Store.{offset_of}
use Rattle.ref_semantics.specs.Pointers.{is_into_object, same_object}
use Rattle.ref_meaning.specs.RefStore.Views.{scalar_in}
use Rattle.ref_meaning.proofs.Comparing.{both-true, equal-told}
use Rattle.ref_meaning.proofs.store.Store.are_equal.Goals.{then-is_into_object, else-is_into_object}
use Rattle.ref_meaning.proofs.store.Store.are_equal.Goals as goal

pub offset-requires : goal.offset-requires
offset-requires c = c.place.ensures.stands c.args.self.now.types.now c.requires.a

pub returns : goal.returns
returns c = λ around same.
    let table = c.args.self.now.types.now in
    let a = scalar_in table c.args.a in
    let b = scalar_in table c.args.b in
    let into : is_into_object a && is_into_object b ≡ true =
    elim c.if-is_into_object.branch [
      | then-is_into_object w ↦ both-true (is_into_object a) (is_into_object b) c.if-is_into_object.value w.is_into_object-then-is_into_object.result
          (w.if-is_into_object.ensures table) w.value-is (w.is_into_object-then-is_into_object.ensures table) c.if-not-is_into_object.false
      | else-is_into_object w ↦ absurd (false≢true (sym w.if-is_into_object.false ∙ (sym w.value-is ∙ c.if-not-is_into_object.false)))
    ] in
    let one : same_object a b ≡ true = sym (c.is_one_object.ensures table) ∙ c.if-not-is_one_object.false in
    equal-told around a b c.offset.result c.offset-2.result into one
    (c.offset.ensures around same ∙ ap (offset_of around) (c.place.ensures.means table))
    (c.offset-2.ensures around same ∙ ap (offset_of around) (c.place-2.ensures.means table))
