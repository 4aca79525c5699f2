-- Pointers into living objects, on both sides.
use Rattle.std.proofs.Common.{◌≡◌, ℕ, zero, suc, ◌+◌, ◌*◌, ◌≤◌, not, nat_lt, Bool, true, false, List, Some, refl, sym, ap, ◌∙◌, subst, le_refl, arith}
use Rattle.std.proofs.lemmas.Bool.{false≢true, true≢false, and_parts, ltb-true}
use Rattle.std.proofs.lemmas.Option.{same_Some}
use Rattle.c_typed.specs.Types.{CType}
use Rattle.c_typed.specs.Layouts.{StructDef}
use Rattle.c_typed.specs.Typed.{Program}
use Rattle.c_typed.specs.Context.{Context}
use Rattle.c_typed.specs.Programs.{IsWellTyped, are_structs}
use Rattle.ref_semantics.specs.Values as V
use Rattle.ref_semantics.specs.Values.{Name, Heap, Row, Place, Scalar, IntegerValue, NullValue, FunctionValue, PointerValue, RawPointer, place_of, same_name, is_end}
use Rattle.ref_semantics.specs.Store as S
use Rattle.ref_semantics.specs.Store.{offset_of, is_dead_pointer}
use Rattle.ref_semantics.specs.Pointers.{is_into_object, is_past}
use Rattle.ref_semantics.specs.First.{around_of}
use Rattle.ref_semantics.specs.Rows.{RowOf, Whole, InArray, InStruct, IsSmall, size_in}
use Rattle.ref_semantics.specs.Sound.{PointsTo, Sound, IsSoundContent}
use Rattle.ref_semantics.proofs.Objects.{same_name-true}
use Rattle.ref_semantics.proofs.WellTyped.{well_structs}
use Rattle.tac_ir.specs.Values.{Object, OfHeap, same_object, Value, Address, Content, Objects}
use Rattle.tac_ir.specs.Objects.{extent_of, is_there}
use Rattle.tac_simulation.specs.Standing.{Placement, image, ScalarStands, ContentStands, IsAlive, MemoryStands}
use Rattle.tac_simulation.proofs.Memory.{same_object-true, same_object-refl, same_name-refl}
use Rattle.tac_simulation.proofs.Looking.{not_dead, living_raw}
use Rattle.tac_simulation.proofs.Placing.{TypedBoth, placed}
use Rattle.tac_simulation.proofs.Extents.{row_small}
use Rattle.c_typed.specs.Sizes.{is_filled, are_filled}
use Rattle.tac_simulation.proofs.Filled.{size_positive, row_filled, filled_end}

-- ---- objects with a byte at least

-- a living object has an element, and its type no empty part
abbrev pub HasBytes : Program → V.Content → Type 0
HasBytes program V.Dead = Unit {0}
HasBytes program (V.Raw size) = 1 ≤ size
HasBytes program (V.Elements is_static c_type count held) = (is_filled program.structs c_type ≡ true) × (1 ≤ count)

abbrev pub HaveBytes : Program → S.Objects → Type 0
HaveBytes program objects = (name : Name) → HasBytes program (objects name)

-- what a sound state holds
pub sound_bytes : (around : Context) (s : S.State) → Sound around s → HaveBytes around.program s.objects
sound_bytes around s sound name = by (s.objects name) (sound.contents name)
  where
    by : (content : V.Content) → IsSoundContent around.program s content → HasBytes around.program content
    by V.Dead is = tt
    by (V.Raw size) is = is
    by (V.Elements is_static c_type count held) is = (is.filled, is.some)

-- no row is without an element
pub row_some : (structs : List StructDef) → are_structs structs ≡ true → are_filled structs ≡ true → (c_type : CType) → IsSmall structs c_type → is_filled structs c_type ≡ true → (count : ℕ) → 1 ≤ count
    → (row : Row) → RowOf structs c_type count row → 1 ≤ row.count
row_some structs well filled c_type small whole count some _ Whole = some
row_some structs well filled c_type small whole count some _ (InArray row before element n is_row before_below is) =
    ltb-true 0 n (and_parts (nat_lt 0 n) (is_filled structs element) (subst (λ t. is_filled structs t ≡ true) is (row_filled structs well filled c_type small whole count row is_row))).0
row_some structs well filled c_type small whole count some _ (InStruct row before tag members number member own is_row before_below is at there typed) = le_refl 1

-- elements of a row have a byte
pub row_size : (structs : List StructDef) → are_structs structs ≡ true → are_filled structs ≡ true → (c_type : CType) → IsSmall structs c_type → is_filled structs c_type ≡ true → (count : ℕ) → 1 ≤ count
    → (row : Row) → RowOf structs c_type count row → 1 ≤ size_in structs row.c_type
row_size structs well filled c_type small whole count some row is_row =
    size_positive structs well filled row.c_type (row_filled structs well filled c_type small whole count row is_row)
    (row_small structs well c_type small count row is_row 0 (row_some structs well filled c_type small whole count some row is_row))

product : (n size : ℕ) → 1 ≤ n → 1 ≤ size → 1 ≤ n * size
product zero size some one = absurd (omega arith)
product (suc n) size some one = omega arith

below_itself : (n : ℕ) → not (nat_lt n n) ≡ true
below_itself n = by (nat_lt n n) refl
  where
    by : (b : Bool) → nat_lt n n ≡ b → not b ≡ true
    by false e = refl
    by true e = let lt = ltb-true n n e in absurd (omega arith)

pub at_beginning : (size : ℕ) → 0 ≡ 0 + 0 * size
at_beginning size = omega arith

module _ (program : Program) (well : IsWellTyped program) (filled : are_filled program.structs ≡ true) (placement : Placement) (locals : List CType) (s : S.State)
    (sound : Sound (record { program = program; locals = locals }) s) (objects' : Objects) (memory : MemoryStands program placement s.objects objects') where
  -- a pointer into a living object, and the value that stands for it; where that is the object's end, it is the row's
  pub record Into (scalar : Scalar) (value : Value) : Type 0 where
    pub object : Object
    pub is_image : image program placement (place_of scalar).name ≡ Some object
    pub value_is : value ≡ Address object (offset_of (around_of program) (place_of scalar))
    pub alive : IsAlive (s.objects (place_of scalar).name)
    pub there : is_there (objects' object) ≡ true
    pub end : extent_of program.structs (objects' object) ≡ offset_of (around_of program) (place_of scalar) → is_past scalar ≡ true

  -- the bytes of an object in which a place stands
  place_bytes : (place : Place) (object : Object) (typed : TypedBoth program placement s objects' place object) → HasBytes program (V.Elements typed.is_static typed.c_type typed.count typed.held)
  place_bytes place object typed = subst (HasBytes program) typed.content (sound_bytes (record { program = program; locals = locals }) s sound place.name)

  pub place_size : (place : Place) (object : Object) (typed : TypedBoth program placement s objects' place object) → 1 ≤ size_in program.structs place.row.c_type
  place_size place object typed =
      let own = place_bytes place object typed in
      row_size program.structs (well_structs program well) filled typed.c_type typed.small own.0 typed.count own.1 place.row typed.row

  place_end : (place : Place) (object : Object) (typed : TypedBoth program placement s objects' place object) → extent_of program.structs (objects' object) ≡ offset_of (around_of program) place → is_end place ≡ true
  place_end place object typed at =
      let own = place_bytes place object typed in
      let extent : extent_of program.structs (objects' object) ≡ typed.count * size_in program.structs typed.c_type = ap (extent_of program.structs) typed.content' in
      let index : place.index ≡ place.row.count = filled_end program.structs (well_structs program well) filled typed.c_type typed.small own.0 typed.count place.row typed.row place.index typed.index (sym at ∙ extent) in
      subst (λ (n : ℕ). not (nat_lt place.index n) ≡ true) index (below_itself place.index)

  -- a living allocation has a byte
  raw_extent : (own : V.Content) (content : Content) → IsAlive own → HasBytes program own → IsSoundContent program s own → ContentStands program s.objects placement own content → 1 ≤ extent_of program.structs content
  raw_extent V.Dead content lives some is_sound stands = absurd lives
  raw_extent (V.Raw size) content lives some is_sound stands = subst (λ (c : Content). 1 ≤ extent_of program.structs c) (sym stands) some
  raw_extent (V.Elements is_static c_type count held) content lives some is_sound stands =
      let own = product count (size_in program.structs c_type) some.1 (size_positive program.structs (well_structs program well) filled c_type some.0 is_sound.small) in
      subst (λ (c : Content). 1 ≤ extent_of program.structs c) (sym stands.1) own

  pub into : (target : CType) (scalar : Scalar) (value : Value) → is_into_object scalar ≡ true → PointsTo program s target scalar → is_dead_pointer s.objects scalar ≡ false
      → ScalarStands program s.objects placement scalar value → Into scalar value
  into target (IntegerValue z) value is typed lives stands = absurd (false≢true is)
  into target NullValue value is typed lives stands = absurd (false≢true is)
  into target (FunctionValue name) value is typed lives stands = absurd (false≢true is)
  into target (PointerValue place) value is typed lives stands =
      let at = placed program well placement locals s sound objects' memory place value typed.1 lives stands in
      record {
        object = at.object;
        is_image = at.is_image;
        value_is = at.value_is;
        alive = not_dead (s.objects place.name) lives;
        there = ap is_there at.typed.content';
        end = place_end place at.object at.typed;
      }
  into target (RawPointer number) value is typed lives stands =
      let at = living_raw program placement s.objects objects' memory number value lives stands in
      let size = size_in program.structs (place_of (RawPointer number)).row.c_type in
      let begins = at_beginning size in
      let own = raw_extent (s.objects (Heap number)) (objects' (OfHeap number)) (not_dead (s.objects (Heap number)) lives) (sound_bytes (record { program = program; locals = locals }) s sound (Heap number)) (sound.contents (Heap number)) (memory.contents (Heap number) (OfHeap number) refl) in
      record {
        object = OfHeap number;
        is_image = refl;
        value_is = at.0 ∙ ap (Address (OfHeap number)) begins;
        alive = not_dead (s.objects (Heap number)) lives;
        there = at.1;
        end = λ e. absurd (positive (extent_of program.structs (objects' (OfHeap number))) own (e ∙ sym begins));
      }
    where
      positive : (n : ℕ) → 1 ≤ n → n ≡ 0 → ⊥
      positive n some e = omega arith

  -- two living objects are one on both sides, or on none
  pub alike : (a b : Name) (object other : Object) → image program placement a ≡ Some object → image program placement b ≡ Some other → IsAlive (s.objects a) → IsAlive (s.objects b)
      → same_object object other ≡ same_name a b
  alike a b object other is is' lives lives' = by (same_name a b) refl (same_object object other) refl
    where
      by : (x : Bool) → same_name a b ≡ x → (y : Bool) → same_object object other ≡ y → y ≡ x
      by true e true e' = refl
      by false e false e' = refl
      by true e false e' =
          let same : object ≡ other = same_Some object other (sym is ∙ ap (image program placement) (same_name-true a b e) ∙ is') in
          absurd (true≢false (sym (same_object-refl other) ∙ subst (λ o. same_object o other ≡ false) same e'))
      by false e true e' =
          let same = memory.apart a b object lives lives' is (is' ∙ ap Some (sym (same_object-true object other e'))) in
          absurd (true≢false (sym (same_name-refl b) ∙ subst (λ n. same_name n b ≡ false) same e))
