use Rattle.std.proofs.Common.{◌≡◌, ◌+◌, ◌<◌, Bool, true, false, if◌then◌else◌, length, get_or, Some, None, refl, sym, ap, subst, ◌∙◌, arith}
use Rattle.std.specs.Prelude.{slice_get}
use Rattle.std.proofs.lemmas.List.{length-map}
use Rattle.std.proofs.lemmas.Option.{slice_get_read, get_or_from_slice_get}
use Rattle.tac_ir.specs.Views.{function_in, tac_of}
use Rattle.tac_ir.specs.Targets.{is_taken}
use Rattle.call_graph.specs.ClassLists.{AreFirstKeys, IsKey}
use Rattle.call_graph.proofs.KeysTold.{no_keys, one_key, keys_told}
use Rattle.call_graph.proofs.function_keys.keys.Goals.{then-taken-number, else-taken-number}
use Rattle.call_graph.proofs.function_keys.keys.Goals as goal

pub loop-number-init : goal.loop-number-init
loop-number-init c = no_keys c.args.tac.now _ c.new-keys.ensures.items

pub loop-number-preserved : goal.loop-number-preserved
loop-number-preserved c =
    let tac = c.args.tac.now in
    let functions = tac.functions.items in
    let i = c.loop-number.number in
    let function = c.function-item.result in
    let own = c.number_of-own.result in
    let same = c.deref-function-items.ensures.value in
    let lt : i < length functions = omega (arith, c.loop-number-test.true, ap (λ l. length l) same) in
    let there : slice_get functions i ≡ Some function = slice_get_read functions (length functions) i function refl lt (c.function-item.is ∙ ap (λ l. get_or l i function) same) in
    let told = c.requires.is i (omega (arith, lt, length-map functions (function_in tac.types))) in
    let key : IsKey tac function i c.if-taken-number.key = elim c.if-taken-number.branch [
      | then-taken-number w ↦ (let taken : is_taken (tac_of tac) i ≡ true = sym (get_or_from_slice_get c.args.taken.now i _ _ told) ∙ w.if-taken-number.true in
          record { own = own; one = c.number_of-own.ensures; is = w.key-is ∙ ap (λ (b : Bool). if b then Some own else None) (sym taken) })
      | else-taken-number w ↦ (let taken : is_taken (tac_of tac) i ≡ false = sym (get_or_from_slice_get c.args.taken.now i _ _ told) ∙ w.if-taken-number.false in
          record { own = own; one = c.number_of-own.ensures; is = w.key-is ∙ ap (λ (b : Bool). if b then Some own else None) (sym taken) })
    ] in
    one_key tac i c.loop-number.keys.items c.push.new.self.items function c.if-taken-number.key c.loop-number.invariant there key c.in_ok-push.ensures.items (i + 1) refl

pub bounds-taken-number : goal.bounds-taken-number
bounds-taken-number c =
    let tac = c.args.tac.now in
    omega (arith, c.requires.each, length-map tac.functions.items (function_in tac.types), c.loop-number-test.true, ap (λ l. length l) c.deref-function-items.ensures.value)

pub returns : goal.returns
returns c =
    let tac = c.args.tac.now in
    let all : c.loop-number.number ≡ length tac.functions.items = omega (arith, c.loop-number-test.false, c.loop-number.auto.number-end, ap (λ l. length l) c.deref-function-items.ensures.value) in
    keys_told tac c.loop-number.keys.items (subst (λ n. AreFirstKeys tac n c.loop-number.keys.items) all c.loop-number.invariant)
