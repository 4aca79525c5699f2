-- What code comes to, where the type and the use of its value are known.
use Rattle.std.proofs.Common.{◌≡◌, ℕ, Bool, true, false, refl, sym, ap, ◌∙◌, inl, inr, ◌⊎◌}
use Rattle.std.proofs.lemmas.Bool.{true≢false}
use Rattle.c_num.specs.declared.IntType.{IntType}
use Rattle.c_typed.specs.Types.{CType, Void, Integer, Pointer, Array}
use Rattle.tac_ir.specs.declared.register.Register.{Register}
use Rattle.tac_ir.specs.Code.{Tree, Path}
use Rattle.tac_build.specs.Spots.{Lowered, AsInteger, AsPointer, AsObject, AsNothing, Kept, Dropped, Behind, Row}
use Rattle.tac_build.specs.Forms.{HasForm, HasObjectForm}

integer_is : {a b : IntType} → Integer a ≡ Integer b → a ≡ b
integer_is e = cc

target_is : {a b : CType} → Pointer a ≡ Pointer b → a ≡ b
target_is e = cc

not_pointer : {own : IntType} {t : CType} → Integer own ≡ Pointer t → ⊥
not_pointer e = cc

not_void : {own : IntType} → Integer own ≡ Void → ⊥
not_void e = cc

pointer_not_void : {t : CType} → Pointer t ≡ Void → ⊥
pointer_not_void e = cc

-- ---- values

pub integer_shape : (lowered : Lowered) (own : IntType) → HasForm Kept lowered (Integer own) → (tree : Tree) × (lowered ≡ AsInteger own tree)
integer_shape (AsInteger int_type tree) own form = (tree, ap (λ n. AsInteger n tree) (sym (integer_is form)))
integer_shape (AsPointer register target) own form = absurd (not_pointer form)
integer_shape (AsObject path c_type) own form = absurd form
integer_shape AsNothing own form = absurd (not_void form)

-- an integer that isn't used may be missing
pub dropped_integer : (lowered : Lowered) (own : IntType) → HasForm Dropped lowered (Integer own) → ((tree : Tree) × (lowered ≡ AsInteger own tree)) ⊎ (lowered ≡ AsNothing)
dropped_integer (AsInteger int_type tree) own form = inl (tree, ap (λ n. AsInteger n tree) (sym (integer_is form)))
dropped_integer (AsPointer register target) own form = absurd (not_pointer form)
dropped_integer (AsObject path c_type) own form = absurd form
dropped_integer AsNothing own form = inr refl

pub pointer_shape : (lowered : Lowered) (target : CType) → HasForm Kept lowered (Pointer target) → (register : Register) × (lowered ≡ AsPointer register target)
pointer_shape (AsInteger own tree) target form = absurd (not_pointer (sym form))
pointer_shape (AsPointer register c_type) target form = (register, ap (AsPointer register) (sym (target_is form)))
pointer_shape (AsObject path c_type) target form = absurd form
pointer_shape AsNothing target form = absurd (pointer_not_void form)

pub dropped_pointer : (lowered : Lowered) (target : CType) → HasForm Dropped lowered (Pointer target) → (register : Register) × (lowered ≡ AsPointer register target)
dropped_pointer (AsInteger own tree) target form = absurd (not_pointer (sym form))
dropped_pointer (AsPointer register c_type) target form = (register, ap (AsPointer register) (sym (target_is form)))
dropped_pointer (AsObject path c_type) target form = absurd form
dropped_pointer AsNothing target form = absurd (true≢false form)

-- what a pointer points to
pub behind_shape : (followed : Bool) (lowered : Lowered) (target : CType) → HasForm (Behind followed) lowered (Pointer target)
    → ((register : Register) × (lowered ≡ AsPointer register target)) ⊎ ((path : Path) × (lowered ≡ AsObject path target))
behind_shape followed (AsInteger own tree) target form = absurd (not_pointer (sym form))
behind_shape followed (AsPointer register c_type) target form = inl (register, ap (AsPointer register) (sym (target_is form)))
behind_shape followed (AsObject path c_type) target form = inr (path, ap (AsObject path) (sym (target_is form)))
behind_shape followed AsNothing target form = absurd (pointer_not_void form)

-- the row into which a pointer points
pub row_shape : (followed : Bool) (lowered : Lowered) (target : CType) → HasForm (Row followed) lowered (Pointer target)
    → ((register : Register) × (lowered ≡ AsPointer register target)) ⊎ ((path : Path) × (count : ℕ) × (lowered ≡ AsObject path (Array target count)))
row_shape followed (AsInteger own tree) target form = absurd (not_pointer (sym form))
row_shape followed (AsPointer register c_type) target form = inl (register, ap (AsPointer register) (sym (target_is form)))
row_shape followed (AsObject path c_type) target form = inr (path, form.1, ap (AsObject path) (form.2 ∙ ap (λ t. Array t form.1) (sym (target_is form.3))))
row_shape followed AsNothing target form = absurd (pointer_not_void form)

-- ---- objects

pub object_shape : (lowered : Lowered) (t : CType) → HasObjectForm false lowered t → (path : Path) × (lowered ≡ AsObject path t)
object_shape (AsObject path own) t form = (path, ap (AsObject path) (sym form))
object_shape (AsPointer register target) t form = absurd form
object_shape (AsInteger own tree) t form = absurd form
object_shape AsNothing t form = absurd form

pub kept_object_shape : (lowered : Lowered) (t : CType) → HasObjectForm true lowered t → ((register : Register) × (lowered ≡ AsPointer register t)) ⊎ ((path : Path) × (lowered ≡ AsObject path t))
kept_object_shape (AsObject path own) t form = inr (path, ap (AsObject path) (sym form))
kept_object_shape (AsPointer register target) t form = inl (register, ap (AsPointer register) (sym form))
kept_object_shape (AsInteger own tree) t form = absurd form
kept_object_shape AsNothing t form = absurd form
