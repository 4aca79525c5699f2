-- What an object holds once a scalar is stored.
use Rattle.std.proofs.Common.{◌≡◌, ℕ, Bool, true, false, ◌==◌, if◌then◌else◌, nat_eq, [], ◌∷◌, Option, Some, refl, sym, subst}
use Rattle.indexmap.specs.IndexMap.{IndexMap, get}
use Rattle.run_theory.specs.Runs.{Event, output_of}
use Rattle.c_typed.specs.Table.{Interned, type_in}
use Rattle.ref_semantics.specs.Values.{Name, Heap, GlobalObject, LiteralObject, LocalObject}
use Rattle.ref_semantics.specs.Values as V
use Rattle.ref_semantics.specs.Store.{holding, with_scalar}
use Rattle.ref_semantics.specs.Pointers.{access}
use Rattle.ref_meaning.specs.declared.value.Scalar.{Scalar}
use Rattle.ref_meaning.specs.declared.object.Content as memory_content
use Rattle.ref_meaning.specs.declared.object.Content.TheVariants as C
use Rattle.ref_meaning.specs.declared.object.Elements as memory_elements
use Rattle.ref_meaning.specs.Fitting.{ElementsStand}
use Rattle.ref_meaning.specs.RefStore.Views.{scalar_in, ScalarStands}
use Rattle.ref_meaning.specs.RefStore.Holding.{HeldIs, AllHeld, IsUndisturbed, ContentIs, raw, elements}

-- an access to an object writes nothing
pub quiet_access : (event : ℕ → Event) → ((number : ℕ) → output_of (event number ∷ []) ≡ []) → (name : Name) → output_of (access event name) ≡ []
quiet_access event quiet (Heap number) = quiet number
quiet_access event quiet (GlobalObject name) = refl
quiet_access event quiet (LiteralObject place) = refl
quiet_access event quiet (LocalObject number) = refl

pub all_held : {S : Type 0} (table : Interned) (old new : IndexMap ℕ Scalar S) (offset : ℕ) (value : Scalar) (held : ℕ → Option V.Scalar) → ScalarStands table value
    → ((other : ℕ) → get nat_eq new other ≡ (if offset == other then Some value else get nat_eq old other)) → AllHeld table old held → AllHeld table new (with_scalar offset (scalar_in table value) held)
all_held table old new offset value held stands stored all = λ other.
    subst (λ m. HeldIs table m (with_scalar offset (scalar_in table value) held other)) (sym (stored other)) (by (offset == other) (get nat_eq old other) (held other) (all other))
  where
    by : (b : Bool) (had : Option Scalar) (there : Option V.Scalar) → HeldIs table had there → HeldIs table (if b then Some value else had) (if b then Some (scalar_in table value) else there)
    by true had there is = (refl, stands)
    by false had there is = is

renewed : (table : Interned) (old new : memory_elements.Elements) (held : ℕ → Option V.Scalar) → IsUndisturbed old new → ElementsStand table old.c_type old.count → AllHeld table new.held held
    → ContentIs table (Some (C.Elements new)) (V.Elements old.is_static (type_in table old.c_type) old.count held)
renewed table old new held same stands all =
    subst (ContentIs table (Some (C.Elements new))) (λ i. V.Elements (same.is_static i) (type_in table (same.c_type i)) (same.count i) held) (elements new held (subst (ElementsStand table new.c_type) (sym same.count) (subst (λ t. ElementsStand table t old.count) (sym same.c_type) stands)) all)

-- where memory ran out, the elements are what they were
pub elements_kept : (table : Interned) (old new : memory_elements.Elements) (content : V.Content) → IsUndisturbed old new → ((other : ℕ) → get nat_eq new.held other ≡ get nat_eq old.held other)
    → ContentIs table (Some (C.Elements old)) content → ContentIs table (Some (C.Elements new)) content
elements_kept table old new content same kept (elements _ held stands all) = renewed table old new held same stands (λ other. subst (λ value. HeldIs table value (held other)) (sym (kept other)) (all other))

pub elements_stored : (table : Interned) (old new : memory_elements.Elements) (offset : ℕ) (value : Scalar) (content : V.Content) → IsUndisturbed old new
    → ((other : ℕ) → get nat_eq new.held other ≡ (if offset == other then Some value else get nat_eq old.held other)) → ScalarStands table value
    → ContentIs table (Some (C.Elements old)) content → ContentIs table (Some (C.Elements new)) (holding offset (scalar_in table value) content)
elements_stored table old new offset value content same stored value_stands (elements _ held stands all) =
    renewed table old new (with_scalar offset (scalar_in table value) held) same stands (all_held table old.held new.held offset value held value_stands stored all)

-- what has no type stays so
pub raw_kept : (table : Interned) (memory : memory_content.Content) (offset : ℕ) (value : V.Scalar) (content : V.Content) → ((row : memory_elements.Elements) → memory ≡ C.Elements row → ⊥)
    → ContentIs table (Some memory) content → ContentIs table (Some memory) (holding offset value content)
raw_kept table (C.Raw size) offset value content is_raw (raw _) = raw size
raw_kept table (C.Elements row) offset value content is_raw is = absurd (is_raw row refl)
