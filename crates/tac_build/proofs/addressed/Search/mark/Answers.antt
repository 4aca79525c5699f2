use Rattle.std.proofs.Common.{◌≡◌, ℕ, List, ◌<◌, ◌≤◌, length, slice_get, Some, None, option_copied, refl, sym, ap, ◌∙◌, arith}
use Rattle.std.specs.Vec.{vec_len}
use Rattle.tac_build.proofs.Scopes.{item_copied}
use Rattle.tac_build.proofs.Marking.{named_marks, named_none, set_is, set_beyond}
use Rattle.tac_build.proofs.addressed.Search.mark.Goals as goal

pub get-requires : goal.get-requires
get-requires c κs = (refl, tt)

pub index_mut-requires : goal.index_mut-requires
index_mut-requires c = omega (arith, c.if-place-len.true, c.len.ensures)

pub returns-then-place-len : goal.returns-then-place-len
returns-then-place-len c =
    let scope = c.args.self.now.scope.items in
    let flags = c.args.self.now.flags in
    let number = c.args.number in
    let place = c.in-Some.place.now in
    let long : vec_len flags ≡ length flags.items = flags.ok.0 in
    let less : place < length flags.items = omega (arith, c.if-place-len.true, c.len.ensures, long) in
    let found : slice_get scope number ≡ Some place
    = ap (λ places. slice_get places number) (sym c.deref.ensures.value) ∙ sym (item_copied c.deref.result.now number c.get.result c.get.ensures.lookup) ∙ ap option_copied c.in-Some.is in
    record { scope = refl {A = List ℕ}; flags = sym (set_is flags.items place less) ∙ sym (named_marks scope number place flags.items found) }

pub returns-else-place-len : goal.returns-else-place-len
returns-else-place-len c =
    let scope = c.args.self.now.scope.items in
    let flags = c.args.self.now.flags in
    let number = c.args.number in
    let place = c.in-Some.place.now in
    let long : vec_len flags ≡ length flags.items = flags.ok.0 in
    let beyond : length flags.items ≤ place = omega (arith, c.if-place-len.false, c.len.ensures, long) in
    let found : slice_get scope number ≡ Some place
    = ap (λ places. slice_get places number) (sym c.deref.ensures.value) ∙ sym (item_copied c.deref.result.now number c.get.result c.get.ensures.lookup) ∙ ap option_copied c.in-Some.is in
    record { scope = refl {A = List ℕ}; flags = sym (set_beyond flags.items place beyond) ∙ sym (named_marks scope number place flags.items found) }

pub returns-in_default : goal.returns-in_default
returns-in_default c =
    let scope = c.args.self.now.scope.items in
    let flags = c.args.self.now.flags.items in
    let number = c.args.number in
    let found : slice_get scope number ≡ None
    = ap (λ places. slice_get places number) (sym c.deref.ensures.value) ∙ sym (item_copied c.deref.result.now number c.get.result c.get.ensures.lookup) ∙ ap option_copied c.in_default.is in
    record { scope = refl {A = List ℕ}; flags = sym (named_none scope number flags found) }
