-- The first limit that is exceeded, one behind another.
use Rattle.std.proofs.Common.{◌≡◌, ℕ, Option, Some, None, refl, ap, ◌∙◌}
use Rattle.std.specs.Option.{option_or}
use Rattle.c_types.specs.declared.limits.Limit.{Limit}
use Rattle.c_types.specs.declared.limits.LimitErr.{LimitErr}
use Rattle.c_types.specs.Limits.{exceeds}

-- what is behind others goes behind their last
exceeds-or : (limit : Limit) (found : Option ℕ) (others more : Option LimitErr) → option_or (exceeds limit found others) more ≡ exceeds limit found (option_or others more)
exceeds-or limit None others more = refl
exceeds-or limit (Some n) others more = refl

pub exceeds-one : (l : Limit) (a : Option ℕ) (more : Option LimitErr) → option_or (exceeds l a None) more ≡ exceeds l a more
exceeds-one l a more = exceeds-or l a None more

pub exceeds-two : (k l : Limit) (a b : Option ℕ) (more : Option LimitErr) → option_or (exceeds k a (exceeds l b None)) more ≡ exceeds k a (exceeds l b more)
exceeds-two k l a b more = exceeds-or k a (exceeds l b None) more ∙ ap (exceeds k a) (exceeds-one l b more)

pub exceeds-three : (k l m : Limit) (a b c : Option ℕ) (more : Option LimitErr) → option_or (exceeds k a (exceeds l b (exceeds m c None))) more ≡ exceeds k a (exceeds l b (exceeds m c more))
exceeds-three k l m a b c more = exceeds-or k a (exceeds l b (exceeds m c None)) more ∙ ap (exceeds k a) (exceeds-two l m b c more)

pub exceeds-four : (k l m n : Limit) (a b c d : Option ℕ) (more : Option LimitErr) → option_or (exceeds k a (exceeds l b (exceeds m c (exceeds n d None)))) more ≡ exceeds k a (exceeds l b (exceeds m c (exceeds n d more)))
exceeds-four k l m n a b c d more = exceeds-or k a (exceeds l b (exceeds m c (exceeds n d None))) more ∙ ap (exceeds k a) (exceeds-three l m n b c d more)

pub exceeds-five : (k l m n o : Limit) (a b c d e : Option ℕ) (more : Option LimitErr) → option_or (exceeds k a (exceeds l b (exceeds m c (exceeds n d (exceeds o e None))))) more ≡ exceeds k a (exceeds l b (exceeds m c (exceeds n d (exceeds o e more))))
exceeds-five k l m n o a b c d e more = exceeds-or k a (exceeds l b (exceeds m c (exceeds n d (exceeds o e None)))) more ∙ ap (exceeds k a) (exceeds-four l m n o b c d e more)
