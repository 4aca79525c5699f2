-- Words that lie apart in a frame.
use Rattle.std.proofs.Common.{◌≡◌, ℕ, ◌+◌, ◌<◌, ◌≤◌, ◌⊎◌, inl, inr, Bool, true, false, refl, ap, eqb-true, arith}
use Rattle.std.specs.Prelude.{nat_lt, if◌then◌else◌}
use Rattle.std.proofs.lemmas.Bool.{ltb-true, ltb-false, eqb-false, false≢true}
use Rattle.tac_ir.specs.declared.register.Local.TheVariants as L
use Rattle.tac_ir.specs.declared.register.Register.{Register}
use Rattle.tac_ir.specs.declared.register.Register.TheVariants as R
use Rattle.tac_ir.specs.Trees.{same_register}
use Rattle.pool_ir.specs.Code.{Function}
use Rattle.pool_ir.specs.Frames.{word_of_descriptor, word_of_register, words_in}
use Rattle.stack_code.specs.Standing.{HasRegister, HasDescriptor}

-- a descriptor that is taken, or one of the function's own
pub descriptor_is : (function : Function) (number : ℕ)
    → ((number < function.taken) × (word_of_descriptor function number ≡ number)) ⊎ ((function.taken ≤ number) × (word_of_descriptor function number ≡ function.frame.parameters + number))
descriptor_is function number = by (nat_lt number function.taken) refl
  where
    by : (b : Bool) → nat_lt number function.taken ≡ b
        → ((number < function.taken) × ((if b then number else function.frame.parameters + number) ≡ number))
        ⊎ ((function.taken ≤ number) × ((if b then number else function.frame.parameters + number) ≡ function.frame.parameters + number))
    by true e = inl (ltb-true number function.taken e, refl)
    by false e = inr (ltb-false number function.taken e, refl)

module _ (function : Function) (taken : function.taken ≤ function.frame.descriptors) where
  pub register_within : (register : Register) → HasRegister function.frame register → word_of_register function register < words_in function.frame
  register_within (R.Local (L.Parameter a)) has = omega (arith, has, taken)
  register_within (R.Local (L.Variable a)) has = omega (arith, has, taken)
  register_within (R.Call a) has = omega (arith, has, taken)
  register_within (R.Argument a) has = omega (arith, has, taken)
  register_within (R.Expression a) has = omega (arith, has, taken)
  register_within (R.Temporary a) has = omega (arith, has, taken)

  pub descriptor_within : (number : ℕ) → HasDescriptor function.frame number → word_of_descriptor function number < words_in function.frame
  descriptor_within number has = by (descriptor_is function number)
    where
      by : ((number < function.taken) × (word_of_descriptor function number ≡ number)) ⊎ ((function.taken ≤ number) × (word_of_descriptor function number ≡ function.frame.parameters + number))
          → word_of_descriptor function number < words_in function.frame
      by (inl first) = omega (arith, first.1, has)
      by (inr later) = omega (arith, later.1, has)

  pub registers_apart : (a b : Register) → HasRegister function.frame a → HasRegister function.frame b → same_register a b ≡ false → word_of_register function a ≡ word_of_register function b → ⊥
  registers_apart (R.Local (L.Parameter a)) (R.Local (L.Parameter b)) has has' apart e = eqb-false a b apart (omega (arith, e))
  registers_apart (R.Local (L.Parameter a)) (R.Local (L.Variable b)) has has' apart e = omega (arith, e, has, has', taken)
  registers_apart (R.Local (L.Parameter a)) (R.Call b) has has' apart e = omega (arith, e, has, has', taken)
  registers_apart (R.Local (L.Parameter a)) (R.Argument b) has has' apart e = omega (arith, e, has, has', taken)
  registers_apart (R.Local (L.Parameter a)) (R.Expression b) has has' apart e = omega (arith, e, has, has', taken)
  registers_apart (R.Local (L.Parameter a)) (R.Temporary b) has has' apart e = omega (arith, e, has, has', taken)
  registers_apart (R.Local (L.Variable a)) (R.Local (L.Parameter b)) has has' apart e = omega (arith, e, has, has', taken)
  registers_apart (R.Local (L.Variable a)) (R.Local (L.Variable b)) has has' apart e = eqb-false a b apart (omega (arith, e))
  registers_apart (R.Local (L.Variable a)) (R.Call b) has has' apart e = omega (arith, e, has, has', taken)
  registers_apart (R.Local (L.Variable a)) (R.Argument b) has has' apart e = omega (arith, e, has, has', taken)
  registers_apart (R.Local (L.Variable a)) (R.Expression b) has has' apart e = omega (arith, e, has, has', taken)
  registers_apart (R.Local (L.Variable a)) (R.Temporary b) has has' apart e = omega (arith, e, has, has', taken)
  registers_apart (R.Call a) (R.Local (L.Parameter b)) has has' apart e = omega (arith, e, has, has', taken)
  registers_apart (R.Call a) (R.Local (L.Variable b)) has has' apart e = omega (arith, e, has, has', taken)
  registers_apart (R.Call a) (R.Call b) has has' apart e = eqb-false a b apart (omega (arith, e))
  registers_apart (R.Call a) (R.Argument b) has has' apart e = omega (arith, e, has, has', taken)
  registers_apart (R.Call a) (R.Expression b) has has' apart e = omega (arith, e, has, has', taken)
  registers_apart (R.Call a) (R.Temporary b) has has' apart e = omega (arith, e, has, has', taken)
  registers_apart (R.Argument a) (R.Local (L.Parameter b)) has has' apart e = omega (arith, e, has, has', taken)
  registers_apart (R.Argument a) (R.Local (L.Variable b)) has has' apart e = omega (arith, e, has, has', taken)
  registers_apart (R.Argument a) (R.Call b) has has' apart e = omega (arith, e, has, has', taken)
  registers_apart (R.Argument a) (R.Argument b) has has' apart e = eqb-false a b apart (omega (arith, e))
  registers_apart (R.Argument a) (R.Expression b) has has' apart e = omega (arith, e, has, has', taken)
  registers_apart (R.Argument a) (R.Temporary b) has has' apart e = omega (arith, e, has, has', taken)
  registers_apart (R.Expression a) (R.Local (L.Parameter b)) has has' apart e = omega (arith, e, has, has', taken)
  registers_apart (R.Expression a) (R.Local (L.Variable b)) has has' apart e = omega (arith, e, has, has', taken)
  registers_apart (R.Expression a) (R.Call b) has has' apart e = omega (arith, e, has, has', taken)
  registers_apart (R.Expression a) (R.Argument b) has has' apart e = omega (arith, e, has, has', taken)
  registers_apart (R.Expression a) (R.Expression b) has has' apart e = eqb-false a b apart (omega (arith, e))
  registers_apart (R.Expression a) (R.Temporary b) has has' apart e = omega (arith, e, has, has', taken)
  registers_apart (R.Temporary a) (R.Local (L.Parameter b)) has has' apart e = omega (arith, e, has, has', taken)
  registers_apart (R.Temporary a) (R.Local (L.Variable b)) has has' apart e = omega (arith, e, has, has', taken)
  registers_apart (R.Temporary a) (R.Call b) has has' apart e = omega (arith, e, has, has', taken)
  registers_apart (R.Temporary a) (R.Argument b) has has' apart e = omega (arith, e, has, has', taken)
  registers_apart (R.Temporary a) (R.Expression b) has has' apart e = omega (arith, e, has, has', taken)
  registers_apart (R.Temporary a) (R.Temporary b) has has' apart e = eqb-false a b apart (omega (arith, e))

  pub descriptors_apart : (a b : ℕ) → HasDescriptor function.frame a → HasDescriptor function.frame b → (a ≡ b → ⊥) → word_of_descriptor function a ≡ word_of_descriptor function b → ⊥
  descriptors_apart a b has has' apart e = by (descriptor_is function a) (descriptor_is function b)
    where
      by : ((a < function.taken) × (word_of_descriptor function a ≡ a)) ⊎ ((function.taken ≤ a) × (word_of_descriptor function a ≡ function.frame.parameters + a))
          → ((b < function.taken) × (word_of_descriptor function b ≡ b)) ⊎ ((function.taken ≤ b) × (word_of_descriptor function b ≡ function.frame.parameters + b)) → ⊥
      by (inl x) (inl y) = apart (omega (arith, e, x.1, y.1))
      by (inl x) (inr y) = omega (arith, e, x.0, x.1, y.0, y.1)
      by (inr x) (inl y) = omega (arith, e, x.0, x.1, y.0, y.1)
      by (inr x) (inr y) = apart (omega (arith, e, x.1, y.1))

  pub words_apart : (number : ℕ) (register : Register) → HasDescriptor function.frame number → HasRegister function.frame register → word_of_descriptor function number ≡ word_of_register function register → ⊥
  words_apart number register has has' e = by register has' e (descriptor_is function number)
    where
      by : (register : Register) → HasRegister function.frame register → word_of_descriptor function number ≡ word_of_register function register
          → ((number < function.taken) × (word_of_descriptor function number ≡ number)) ⊎ ((function.taken ≤ number) × (word_of_descriptor function number ≡ function.frame.parameters + number)) → ⊥
      by (R.Local (L.Parameter a)) own e (inl first) = omega (arith, e, own, has, taken, first.0, first.1)
      by (R.Local (L.Parameter a)) own e (inr later) = omega (arith, e, own, has, taken, later.0, later.1)
      by (R.Local (L.Variable a)) own e (inl first) = omega (arith, e, own, has, taken, first.0, first.1)
      by (R.Local (L.Variable a)) own e (inr later) = omega (arith, e, own, has, taken, later.0, later.1)
      by (R.Call a) own e (inl first) = omega (arith, e, own, has, taken, first.0, first.1)
      by (R.Call a) own e (inr later) = omega (arith, e, own, has, taken, later.0, later.1)
      by (R.Argument a) own e (inl first) = omega (arith, e, own, has, taken, first.0, first.1)
      by (R.Argument a) own e (inr later) = omega (arith, e, own, has, taken, later.0, later.1)
      by (R.Expression a) own e (inl first) = omega (arith, e, own, has, taken, first.0, first.1)
      by (R.Expression a) own e (inr later) = omega (arith, e, own, has, taken, later.0, later.1)
      by (R.Temporary a) own e (inl first) = omega (arith, e, own, has, taken, first.0, first.1)
      by (R.Temporary a) own e (inr later) = omega (arith, e, own, has, taken, later.0, later.1)

-- registers that are the same
pub same_is : (a b : Register) → same_register a b ≡ true → a ≡ b
same_is (R.Local (L.Parameter a)) (R.Local (L.Parameter b)) e = ap (λ (n : ℕ). R.Local (L.Parameter n)) (eqb-true a b e)
same_is (R.Local (L.Parameter a)) (R.Local (L.Variable b)) e = absurd (false≢true e)
same_is (R.Local (L.Parameter a)) (R.Call b) e = absurd (false≢true e)
same_is (R.Local (L.Parameter a)) (R.Argument b) e = absurd (false≢true e)
same_is (R.Local (L.Parameter a)) (R.Expression b) e = absurd (false≢true e)
same_is (R.Local (L.Parameter a)) (R.Temporary b) e = absurd (false≢true e)
same_is (R.Local (L.Variable a)) (R.Local (L.Parameter b)) e = absurd (false≢true e)
same_is (R.Local (L.Variable a)) (R.Local (L.Variable b)) e = ap (λ (n : ℕ). R.Local (L.Variable n)) (eqb-true a b e)
same_is (R.Local (L.Variable a)) (R.Call b) e = absurd (false≢true e)
same_is (R.Local (L.Variable a)) (R.Argument b) e = absurd (false≢true e)
same_is (R.Local (L.Variable a)) (R.Expression b) e = absurd (false≢true e)
same_is (R.Local (L.Variable a)) (R.Temporary b) e = absurd (false≢true e)
same_is (R.Call a) (R.Local (L.Parameter b)) e = absurd (false≢true e)
same_is (R.Call a) (R.Local (L.Variable b)) e = absurd (false≢true e)
same_is (R.Call a) (R.Call b) e = ap (λ (n : ℕ). R.Call n) (eqb-true a b e)
same_is (R.Call a) (R.Argument b) e = absurd (false≢true e)
same_is (R.Call a) (R.Expression b) e = absurd (false≢true e)
same_is (R.Call a) (R.Temporary b) e = absurd (false≢true e)
same_is (R.Argument a) (R.Local (L.Parameter b)) e = absurd (false≢true e)
same_is (R.Argument a) (R.Local (L.Variable b)) e = absurd (false≢true e)
same_is (R.Argument a) (R.Call b) e = absurd (false≢true e)
same_is (R.Argument a) (R.Argument b) e = ap (λ (n : ℕ). R.Argument n) (eqb-true a b e)
same_is (R.Argument a) (R.Expression b) e = absurd (false≢true e)
same_is (R.Argument a) (R.Temporary b) e = absurd (false≢true e)
same_is (R.Expression a) (R.Local (L.Parameter b)) e = absurd (false≢true e)
same_is (R.Expression a) (R.Local (L.Variable b)) e = absurd (false≢true e)
same_is (R.Expression a) (R.Call b) e = absurd (false≢true e)
same_is (R.Expression a) (R.Argument b) e = absurd (false≢true e)
same_is (R.Expression a) (R.Expression b) e = ap (λ (n : ℕ). R.Expression n) (eqb-true a b e)
same_is (R.Expression a) (R.Temporary b) e = absurd (false≢true e)
same_is (R.Temporary a) (R.Local (L.Parameter b)) e = absurd (false≢true e)
same_is (R.Temporary a) (R.Local (L.Variable b)) e = absurd (false≢true e)
same_is (R.Temporary a) (R.Call b) e = absurd (false≢true e)
same_is (R.Temporary a) (R.Argument b) e = absurd (false≢true e)
same_is (R.Temporary a) (R.Expression b) e = absurd (false≢true e)
same_is (R.Temporary a) (R.Temporary b) e = ap (λ (n : ℕ). R.Temporary n) (eqb-true a b e)
