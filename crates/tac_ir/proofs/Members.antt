-- A list with an element that passes a test has some element that does.
use Rattle.std.proofs.Common.{◌≡◌, ℕ, zero, suc, Bool, true, List, [], ◌∷◌, Some, ap, ◌∙◌}
use Rattle.std.specs.Prelude.{slice_get}
use Rattle.std.specs.List.{list_any}
use Rattle.std.proofs.lemmas.Bool.{or_left, or_right}
use Rattle.std.proofs.lemmas.Option.{none-some, same_Some}

module _ {X : Type 0} (test : X → Bool) where
  pub any_at : (list : List X) (at : ℕ) (one : X) → slice_get list at ≡ Some one → test one ≡ true → list_any test list ≡ true
  any_at [] at one is holds = absurd (none-some one is)
  any_at (first ∷ others) zero one is holds = or_left (test first) (list_any test others) (ap test (same_Some first one is) ∙ holds)
  any_at (first ∷ others) (suc at) one is holds = or_right (test first) (list_any test others) (any_at others at one is holds)
