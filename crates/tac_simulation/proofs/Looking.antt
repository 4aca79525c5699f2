-- Pointers that are looked at: alive in the reference, they are alive in the code.
use Rattle.std.proofs.Common.{◌≡◌, ℕ, true, false, Some, refl, ap, ◌∙◌}
use Rattle.std.proofs.lemmas.Bool.{true≢false}
use Rattle.c_typed.specs.Typed.{Program}
use Rattle.ref_semantics.specs.Values as V
use Rattle.ref_semantics.specs.Values.{Heap, Place, Scalar, IntegerValue, NullValue, FunctionValue, PointerValue, RawPointer}
use Rattle.ref_semantics.specs.Store as S
use Rattle.ref_semantics.specs.Store.{offset_of, is_dead, is_dead_pointer, is_null_pointer}
use Rattle.ref_semantics.specs.First.{around_of}
use Rattle.tac_ir.specs.Values.{Object, OfHeap, Value, Address, Content, Objects}
use Rattle.tac_ir.specs.Objects.{is_there}
use Rattle.tac_ir.specs.Pointers.{is_alive, is_null}
use Rattle.tac_simulation.specs.Standing.{Placement, image, WhereAlive, ScalarStands, ContentStands, IsAlive, MemoryStands}

-- a pointer, and no integer
abbrev pub IsPointer : Scalar → Type 0
IsPointer (IntegerValue z) = ⊥
IsPointer scalar = Unit {0}

pub not_dead : (content : V.Content) → is_dead content ≡ false → IsAlive content
not_dead V.Dead e = absurd (true≢false e)
not_dead (V.Raw size) e = tt
not_dead (V.Elements is_static c_type count held) e = tt

pub is_there_if : (program : Program) (objects : S.Objects) (placement : Placement) (own : V.Content) (content : Content) → IsAlive own → ContentStands program objects placement own content → is_there content ≡ true
is_there_if program objects placement V.Dead content lives stands = absurd lives
is_there_if program objects placement (V.Raw size) content lives stands = ap is_there stands
is_there_if program objects placement (V.Elements is_static c_type count held) content lives stands = ap is_there stands.1

pub when_alive : (content : V.Content) (A : Type 0) → IsAlive content → WhereAlive content A → A
when_alive V.Dead A lives stands = absurd lives
when_alive (V.Raw size) A lives stands = stands
when_alive (V.Elements is_static c_type count held) A lives stands = stands

module _ (program : Program) (placement : Placement) (objects : S.Objects) (objects' : Objects) (memory : MemoryStands program placement objects objects') where
  -- a pointer to a place in a living object
  pub record Living (place : Place) (value : Value) : Type 0 where
    pub object : Object
    pub is_image : image program placement place.name ≡ Some object
    pub value_is : value ≡ Address object (offset_of (around_of program) place)
    pub alive : IsAlive (objects place.name)
    pub there : is_there (objects' object) ≡ true

  pub living_place : (place : Place) (value : Value) → is_dead (objects place.name) ≡ false → ScalarStands program objects placement (PointerValue place) value → Living place value
  living_place place value lives stands =
      let alive = not_dead (objects place.name) lives in
      let h = when_alive (objects place.name) _ alive stands.1 in
      record {
        object = h.0;
        is_image = h.2.0;
        value_is = h.3 ∙ ap (Address h.0) h.2.1;
        alive = alive;
        there = is_there_if program objects placement (objects place.name) (objects' h.0) alive (memory.contents place.name h.0 h.2.0);
      }

  pub living_raw : (number : ℕ) (value : Value) → is_dead (objects (Heap number)) ≡ false → ScalarStands program objects placement (RawPointer number) value → (value ≡ Address (OfHeap number) 0) × (is_there (objects' (OfHeap number)) ≡ true)
  living_raw number value lives stands =
      let alive = not_dead (objects (Heap number)) lives in
      (when_alive (objects (Heap number)) _ alive stands.1, is_there_if program objects placement (objects (Heap number)) (objects' (OfHeap number)) alive (memory.contents (Heap number) (OfHeap number) refl))

  -- a pointer that isn't dead may be looked at
  pub looked_at_alive : (scalar : Scalar) (value : Value) → IsPointer scalar → is_dead_pointer objects scalar ≡ false → ScalarStands program objects placement scalar value → is_alive objects' value ≡ true
  looked_at_alive (IntegerValue z) value pointer lives stands = absurd pointer
  looked_at_alive NullValue value pointer lives stands = ap (is_alive objects') stands
  looked_at_alive (FunctionValue name) value pointer lives stands = ap (is_alive objects') stands.2
  looked_at_alive (PointerValue place) value pointer lives stands = let h = living_place place value lives stands in ap (is_alive objects') h.value_is ∙ h.there
  looked_at_alive (RawPointer number) value pointer lives stands = let h = living_raw number value lives stands in ap (is_alive objects') h.0 ∙ h.1

  -- it is null where the other is
  pub same_null : (scalar : Scalar) (value : Value) → is_dead_pointer objects scalar ≡ false → ScalarStands program objects placement scalar value → is_null value ≡ is_null_pointer scalar
  same_null (IntegerValue z) value lives stands = ap is_null stands
  same_null NullValue value lives stands = ap is_null stands
  same_null (FunctionValue name) value lives stands = ap is_null stands.2
  same_null (PointerValue place) value lives stands = ap is_null (living_place place value lives stands).value_is
  same_null (RawPointer number) value lives stands = ap is_null (living_raw number value lives stands).0
