-- Where places of a sound state stand in the code.
use Rattle.std.proofs.Common.{◌≡◌, ℕ, ◌≤◌, Bool, true, false, List, Option, Some, ℤ, refl, ap, ◌∙◌}
use Rattle.std.proofs.lemmas.Bool.{and_from, le-leb}
use Rattle.std.specs.Prelude.{nat_le}
use Rattle.c_typed.specs.Types.{CType}
use Rattle.c_typed.specs.Typed.{Program}
use Rattle.c_typed.specs.Programs.{IsWellTyped}
use Rattle.ref_semantics.specs.Values as V
use Rattle.ref_semantics.specs.Values.{Place, Scalar, PointerValue, at_index}
use Rattle.ref_semantics.specs.Store as S
use Rattle.ref_semantics.specs.Store.{offset_of, is_dead, scalar_or}
use Rattle.ref_semantics.specs.First.{around_of}
use Rattle.ref_semantics.specs.Rows.{RowOf, IsSmall, size_in}
use Rattle.ref_semantics.specs.Sound.{IsPlace, StandsIn, IsSoundContent, Sound}
use Rattle.ref_semantics.proofs.WellTyped.{well_structs}
use Rattle.tac_ir.specs.Values.{Object, Value, Address, Content, Typed, Objects}
use Rattle.ref_semantics.specs.Pointers.{index_moved}
use Rattle.tac_ir.specs.Layouts.{leaf_at}
use Rattle.tac_ir.specs.Objects.{Surroundings, is_there, extent_of, is_place}
use Rattle.tac_ir.specs.Pointers.{moved_pointer}
use Rattle.tac_simulation.specs.Standing.{Placement, image, WhereAlive, ScalarStands, HoldsFor, ContentStands, IsAlive, MemoryStands}
use Rattle.tac_simulation.proofs.Looking.{living_place}
use Rattle.tac_simulation.proofs.Extents.{place_within}
use Rattle.tac_simulation.proofs.Moving.{offset_moves}

-- a living object that has places has a type on both sides
pub record TypedBoth (program : Program) (placement : Placement) (s : S.State) (objects' : Objects) (place : Place) (object : Object) : Type 0 where
  pub is_static : Bool
  pub c_type : CType
  pub count : ℕ
  pub held : ℕ → Option Scalar
  pub held' : ℕ → Option Value
  pub content : s.objects place.name ≡ V.Elements is_static c_type count held
  pub content' : objects' object ≡ Typed c_type count held'
  pub row : RowOf program.structs c_type count place.row
  pub index : place.index ≤ place.row.count
  pub small : IsSmall program.structs c_type
  pub held_stands : (offset : ℕ) (own : CType) (scalar : Scalar) → leaf_at program.structs c_type count offset ≡ Some own → scalar_or (held offset) is_static own ≡ Some scalar → HoldsFor program s.objects placement scalar (held' offset)

pub record Placed (program : Program) (placement : Placement) (s : S.State) (objects' : Objects) (place : Place) (value : Value) : Type 0 where
  pub object : Object
  pub is_image : image program placement place.name ≡ Some object
  pub value_is : value ≡ Address object (offset_of (around_of program) place)
  pub typed : TypedBoth program placement s objects' place object

always : {A : Type 0} (content : V.Content) → A → WhereAlive content A
always V.Dead a = tt
always (V.Raw size) a = a
always (V.Elements is_static c_type count held) a = a

module _ (program : Program) (well : IsWellTyped program) (placement : Placement) (locals : List CType) (s : S.State) (sound : Sound (record { program = program; locals = locals }) s) (objects' : Objects) (memory : MemoryStands program placement s.objects objects') where
  typed_both : (place : Place) (object : Object) (own : V.Content) (content : Content) → s.objects place.name ≡ own → objects' object ≡ content → IsAlive own → StandsIn program own place → IsSoundContent program s own
      → ContentStands program s.objects placement own content → TypedBoth program placement s objects' place object
  typed_both place object V.Dead content e e' lives stands is_sound both = absurd lives
  typed_both place object (V.Raw size) content e e' lives stands is_sound both = absurd stands
  typed_both place object (V.Elements is_static c_type count held) content e e' lives stands is_sound both = record {
    is_static = is_static;
    c_type = c_type;
    count = count;
    held = held;
    held' = both.0;
    content = e;
    content' = e' ∙ both.1;
    row = stands.0;
    index = stands.1;
    small = is_sound.small;
    held_stands = both.2;
  }

  pub placed : (place : Place) (value : Value) → IsPlace program s place → is_dead (s.objects place.name) ≡ false → ScalarStands program s.objects placement (PointerValue place) value → Placed program placement s objects' place value
  placed place value is lives stands =
      let living = living_place program placement s.objects objects' memory place value lives stands in
      record {
        object = living.object;
        is_image = living.is_image;
        value_is = living.value_is;
        typed = typed_both place living.object (s.objects place.name) (objects' living.object) refl refl living.alive is.stands (sound.contents place.name) (memory.contents place.name living.object living.is_image);
      }

  -- an element of the same row, or its end, is a place in the code
  pub place_at : (place : Place) (object : Object) → TypedBoth program placement s objects' place object → (idx : ℕ) → idx ≤ place.row.count → is_place program.structs objects' object (offset_of (around_of program) (at_index place idx)) ≡ true
  place_at place object typed idx le =
      let within = place_within program.structs (well_structs program well) typed.c_type typed.small typed.count place.row typed.row idx le in
      and_from (is_there (objects' object)) (nat_le (offset_of (around_of program) (at_index place idx)) (extent_of program.structs (objects' object))) (ap is_there typed.content')
      (ap (λ content. nat_le (offset_of (around_of program) (at_index place idx)) (extent_of program.structs content)) typed.content' ∙ le-leb _ _ within)

  -- the place stands for a value
  pub stands_at : (place : Place) (object : Object) (offset : ℕ) → image program placement place.name ≡ Some object → offset ≡ offset_of (around_of program) place → ScalarStands program s.objects placement (PointerValue place) (Address object offset)
  stands_at place object offset is e = (tt, always (s.objects place.name) (object, offset, (is, e), refl))

  -- a pointer that moves to an element of the same row, or to its end
  pub added_moves : (around : Surroundings) → around.structs ≡ program.structs → (place : Place) (value : Value) (z : ℤ) (idx : ℕ) → Placed program placement s objects' place value
      → index_moved place.index z ≡ Some idx → idx ≤ place.row.count
      → (further : Value) × (moved_pointer around objects' place.row.c_type z value ≡ Some further) × ScalarStands program s.objects placement (PointerValue (at_index place idx)) further
  added_moves around same place value z idx at e le =
      let further = offset_of (around_of program) (at_index place idx) in
      let moves = offset_moves place.row.start place.index idx (size_in program.structs place.row.c_type) z e in
      let there = place_at place at.object at.typed idx le in (
        Address at.object further,
        rw (at.value_is, same, moves, there) refl,
        stands_at (at_index place idx) at.object further at.is_image refl,
      )
