-- What is read and written on both sides.
use Rattle.std.proofs.Common.{◌≡◌, ℕ, ◌==◌, Bool, true, false, if◌then◌else◌, Option, Some, refl, sym, ap, ◌∙◌, subst}
use Rattle.c_typed.specs.Types.{CType}
use Rattle.c_typed.specs.Typed.{Program}
use Rattle.c_typed.proofs.Same.{same_type-refl}
use Rattle.c_typed.specs.Programs.{IsWellTyped}
use Rattle.ref_semantics.specs.Values.{Place, Scalar}
use Rattle.ref_semantics.specs.Store as S
use Rattle.ref_semantics.specs.Store.{offset_of, scalar_or, scalar_at}
use Rattle.ref_semantics.specs.First.{around_of}
use Rattle.ref_semantics.specs.Rows.{LeafAt}
use Rattle.ref_semantics.proofs.WellTyped.{well_structs}
use Rattle.tac_ir.specs.Values.{Object, Value, Objects, with_content, with_held}
use Rattle.tac_ir.specs.Layouts.{leaf_at}
use Rattle.tac_ir.specs.Objects.{stands_at, held_at, holding}
use Rattle.tac_simulation.specs.Standing.{Placement, image, ScalarStands, HoldsFor, ContentStands, IsAlive, MemoryStands}
use Rattle.tac_simulation.proofs.Leaves.{leaf_found}
use Rattle.tac_simulation.proofs.Memory.{stored_stands}
use Rattle.tac_simulation.proofs.Placing.{TypedBoth}

-- what is held with one more scalar stands for what is held with one more value
with_one : (program : Program) (objects : S.Objects) (placement : Placement) (is_static : Bool) (held : ℕ → Option Scalar) (held' : ℕ → Option Value) (offset other : ℕ) (own : CType) (scalar found : Scalar) (value : Value)
    → (b : Bool) → (offset == other) ≡ b → ScalarStands program objects placement scalar value → (scalar_or (held other) is_static own ≡ Some found → HoldsFor program objects placement found (held' other))
    → scalar_or (if b then Some scalar else held other) is_static own ≡ Some found → HoldsFor program objects placement found (if b then Some value else held' other)
with_one program objects placement is_static held held' offset other own scalar found value true e stands old is = (value, refl, subst (λ x. ScalarStands program objects placement x value) (cc) stands)
with_one program objects placement is_static held held' offset other own scalar found value false e stands old is = old is

module _ (program : Program) (well : IsWellTyped program) (placement : Placement) (s : S.State) (objects' : Objects) (memory : MemoryStands program placement s.objects objects') where
  -- a scalar stands where an element of its type does
  pub leaf_is : (t : CType) (place : Place) (object : Object) (typed : TypedBoth program placement s objects' place object) → LeafAt program.structs typed.c_type typed.count (offset_of (around_of program) place) t
      → leaf_at program.structs typed.c_type typed.count (offset_of (around_of program) place) ≡ Some t
  leaf_is t place object typed leaf = leaf_found program.structs (well_structs program well) typed.c_type typed.small typed.count (offset_of (around_of program) place) t leaf

  module _ (t : CType) (place : Place) (object : Object) (is_image : image program placement place.name ≡ Some object) (typed : TypedBoth program placement s objects' place object)
      (leaf : LeafAt program.structs typed.c_type typed.count (offset_of (around_of program) place) t) where
    offset : ℕ
    offset = offset_of (around_of program) place

    found : leaf_at program.structs typed.c_type typed.count (offset_of (around_of program) place) ≡ Some t
    found = leaf_is t place object typed leaf

    -- a scalar of the type stands there in the code
    pub access_stands : stands_at program.structs t (offset_of (around_of program) place) (objects' object) ≡ true
    access_stands = rw (typed.content', found) (same_type-refl t)

    -- what is read
    pub read_stands : (scalar : Scalar) → scalar_at (around_of program) (s.objects place.name) place ≡ Some scalar → place.row.c_type ≡ t → HoldsFor program s.objects placement scalar (held_at (offset_of (around_of program) place) (objects' object))
    read_stands scalar is own =
        let at_row : scalar_or (typed.held (offset_of (around_of program) place)) typed.is_static place.row.c_type ≡ Some scalar = rw typed.content at is in
        let held : scalar_or (typed.held (offset_of (around_of program) place)) typed.is_static t ≡ Some scalar = subst (λ c. scalar_or (typed.held (offset_of (around_of program) place)) typed.is_static c ≡ Some scalar) own at_row in
        let holds = typed.held_stands (offset_of (around_of program) place) t scalar found held in
        (holds.0, ap (held_at (offset_of (around_of program) place)) typed.content' ∙ holds.1, holds.2)

    -- what is written
    pub write_stands : (scalar : Scalar) (value : Value) → ScalarStands program s.objects placement scalar value
        → MemoryStands program placement (S.with_content place.name (S.holding (offset_of (around_of program) place) scalar (s.objects place.name)) s.objects) (with_content object (holding (offset_of (around_of program) place) value (objects' object)) objects')
    write_stands scalar value stands =
        stored_stands program placement s.objects objects' memory place.name object is_image (subst IsAlive (sym typed.content) tt)
        (S.holding (offset_of (around_of program) place) scalar (s.objects place.name)) (holding (offset_of (around_of program) place) value (objects' object))
        (subst (λ own. ContentStands program s.objects placement own (holding (offset_of (around_of program) place) value (objects' object))) (sym (ap (S.holding (offset_of (around_of program) place) scalar) typed.content)) (
          with_held (offset_of (around_of program) place) value typed.held',
          ap (holding (offset_of (around_of program) place) value) typed.content',
          λ other own found_scalar leaf_other held_is.
              with_one program s.objects placement typed.is_static typed.held typed.held' (offset_of (around_of program) place) other own scalar found_scalar value (offset_of (around_of program) place == other) refl stands (typed.held_stands other own found_scalar leaf_other) held_is,
        ))
