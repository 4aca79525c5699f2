-- Points that call functions by name.
use Rattle.std.proofs.Common.{◌≡◌, ℕ, zero, suc, ◌<◌, ◌&&◌, Bool, true, false, List, [], ◌∷◌, map, length, Some, refl, sym, subst}
use Rattle.std.proofs.lemmas.Bool.{ltb-true}
use Rattle.std.proofs.lemmas.List.{length-map}
use Rattle.std.proofs.lemmas.Option.{none-some, same_Some}
use Rattle.std.specs.Prelude.{slice_get}
use Rattle.std.specs.List.{list_all}
use Rattle.tac_ir.specs.declared.program.Tac.{Tac}
use Rattle.tac_ir.specs.Code as O
use Rattle.tac_ir.specs.Code.{Known}
use Rattle.tac_ir.specs.Views.{function_in, tac_of}
use Rattle.call_graph.specs.GroupViews.{CallsKnown}
use Rattle.graph_tests.specs.KnownCalls.{is_known, calls_known}

both : (a b : Bool) → (a && b) ≡ true → (a ≡ true) × (b ≡ true)
both true b e = (refl, e)
both false b e = absurd (cc)

pub all_at : {X : Type 0} (test : X → Bool) (xs : List X) (index : ℕ) (x : X) → list_all test xs ≡ true → slice_get xs index ≡ Some x → test x ≡ true
all_at test [] index x all is = absurd (none-some x is)
all_at test (first ∷ others) zero x all is = subst (λ y. test y ≡ true) (same_Some first x is) (both (test first) (list_all test others) all).0
all_at test (first ∷ others) (suc index) x all is = all_at test others index x (both (test first) (list_all test others) all).1 is

pub all_known : (tac : Tac) → list_all (calls_known (length tac.functions.items)) (map (function_in tac.types) tac.functions.items) ≡ true → CallsKnown (tac_of tac)
all_known tac all = λ caller function makes.
    let count = length tac.functions.items in
    let points = all_at (calls_known count) (map (function_in tac.types) tac.functions.items) caller makes.function all makes.is in
    let point = all_at (is_known count) makes.function.points makes.at (O.Call makes.site (Known function) makes.arguments) points makes.point in
    subst (λ n. function < n) (sym (length-map tac.functions.items (function_in tac.types))) (ltb-true function count point)
