-- Kinds that are tested.
use Rattle.std.proofs.Common.{◌≡◌, Bool, true, false, refl}
use Rattle.c_grammar.specs.declared.kind.Kind.{Kind}
use Rattle.c_grammar.specs.Kinds.{is}
use Rattle.c_grammar.proofs.LanguageTells.{is_same}

pub by_test : (test : Bool) → (test ≡ true → ⊥) → test ≡ false
by_test true never = absurd (never refl)
by_test false never = refl

-- What isn't the same isn't told to be.
pub is_other : (a b : Kind) → (a ≡ b → ⊥) → is a b ≡ false
is_other a b differ = by_test (is a b) (λ told. differ (is_same a b told))
