-- Objects that a test finds to be the same are the same.
use Rattle.std.proofs.Common.{◌≡◌, ◌==◌, true, refl, ap, ◌∙◌, eqb-true, eq-eqb}
use Rattle.std.proofs.lemmas.Bool.{false≢true, and_parts, and_from}
use Rattle.tac_ir.specs.declared.register.Local.{Local}
use Rattle.tac_ir.specs.declared.register.Local.TheVariants as L
use Rattle.tac_ir.specs.declared.register.Register.{Register}
use Rattle.tac_ir.specs.declared.register.Register.TheVariants as R
use Rattle.tac_ir.specs.Values.{Object, OfHeap, OfGlobal, OfLiteral, OfActivation, same_local, same_object}
use Rattle.tac_ir.specs.Trees.{same_register}

pub same_local-true : (a b : Local) → same_local a b ≡ true → a ≡ b
same_local-true (L.Parameter a) (L.Parameter b) h = ap L.Parameter (eqb-true a b h)
same_local-true (L.Variable a) (L.Variable b) h = ap L.Variable (eqb-true a b h)
same_local-true _ _ h = absurd (false≢true h)

pub same_object-true : (a b : Object) → same_object a b ≡ true → a ≡ b
same_object-true (OfHeap a) (OfHeap b) h = ap OfHeap (eqb-true a b h)
same_object-true (OfGlobal a) (OfGlobal b) h = ap OfGlobal (eqb-true a b h)
same_object-true (OfLiteral a) (OfLiteral b) h = ap OfLiteral (eqb-true a b h)
same_object-true (OfActivation a x) (OfActivation b y) h =
    let parts = and_parts _ (same_local x y) h in
    ap (λ n. OfActivation n x) (eqb-true a b parts.0) ∙ ap (OfActivation b) (same_local-true x y parts.1)
same_object-true _ _ h = absurd (false≢true h)

pub same_local-refl : (a : Local) → same_local a a ≡ true
same_local-refl (L.Parameter a) = eq-eqb a a refl
same_local-refl (L.Variable a) = eq-eqb a a refl

pub same_object-refl : (a : Object) → same_object a a ≡ true
same_object-refl (OfHeap a) = eq-eqb a a refl
same_object-refl (OfGlobal a) = eq-eqb a a refl
same_object-refl (OfLiteral a) = eq-eqb a a refl
same_object-refl (OfActivation a x) = and_from (a == a) (same_local x x) (eq-eqb a a refl) (same_local-refl x)

pub same_register-true : (a b : Register) → same_register a b ≡ true → a ≡ b
same_register-true (R.Local a) (R.Local b) h = ap R.Local (same_local-true a b h)
same_register-true (R.Call a) (R.Call b) h = ap R.Call (eqb-true a b h)
same_register-true (R.Argument a) (R.Argument b) h = ap R.Argument (eqb-true a b h)
same_register-true (R.Expression a) (R.Expression b) h = ap R.Expression (eqb-true a b h)
same_register-true (R.Temporary a) (R.Temporary b) h = ap R.Temporary (eqb-true a b h)
same_register-true _ _ h = absurd (false≢true h)
