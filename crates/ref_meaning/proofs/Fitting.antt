-- Rows that end within 64 bits.
use Rattle.std.proofs.Common.{◌≡◌, ℕ, zero, suc, ◌+◌, ◌*◌, ◌<◌, ◌≤◌, ◌^◌, List, [], ◌∷◌, length, slice_get, Option, Some, None, refl, sym, ap, subst, arith, zero-le, zero-mul, mul-le-mul_right, bytes_eq, cond, Bool, true, false}
use Rattle.c_num.specs.declared.IntType.{IntType}
use Rattle.c_num.specs.declared.IntType.TheVariants as I
use Rattle.c_typed.specs.Types.{CType, Void, Integer, Pointer, Array, Struct, Function, literal_type}
use Rattle.c_typed.specs.Layouts.{StructDef, MemberDef, saturated, layout_by_tag, struct_layout, layouts, greatest}
use Rattle.c_typed.specs.Table.{Interned, Stands, type_in, structs_in}
use Rattle.c_typed.specs.declared.c_type.CType as number
use Rattle.ref_semantics.specs.Values.{Row, Place, whole_row, no_row}
use Rattle.ref_semantics.specs.Store.{TypeEnvironment, member_at, decayed, members_of, member_row}
use Rattle.ref_meaning.specs.Fitting.{size_in, row_end, with_structs, member_row_of, inner_row_of, LeadsToRow, Origin, ToMember, ToInner, AllEnd, Fits, HasRoom, IsObjectType, ElementsStand}
use Rattle.ref_meaning.specs.RefStore.Views.{row_in, place_in, PlaceStands, IsElement}
use Rattle.ref_meaning.specs.declared.value.Name as memory_name
use Rattle.ref_meaning.specs.declared.value.Place as memory_place
use Rattle.ref_meaning.specs.declared.value.Row as memory_row

-- ---- sizes

saturated_ends : (n : ℕ) → saturated n ≤ greatest
saturated_ends n = omega arith

tag_ends : (structs : List StructDef) (tag : List ℕ) → (layout_by_tag (layouts structs) tag).size ≤ greatest
tag_ends [] tag = zero-le
tag_ends (newest ∷ structs) tag = by (bytes_eq newest.tag tag) (tag_ends structs tag)
  where
    by : (b : Bool) → (layout_by_tag (layouts structs) tag).size ≤ greatest
        → (cond b (struct_layout (layouts structs) newest.members) (layout_by_tag (layouts structs) tag)).size ≤ greatest
    by true rest = saturated_ends _
    by false rest = rest

pub size_ends : (structs : List StructDef) (c_type : CType) → size_in structs c_type ≤ greatest
size_ends structs Void = zero-le
size_ends structs (Integer int_type) = by int_type
  where
    by : (int_type : IntType) → size_in structs (Integer int_type) ≤ greatest
    by I.Char = omega arith
    by I.UChar = omega arith
    by I.Short = omega arith
    by I.UShort = omega arith
    by I.Int = omega arith
    by I.UInt = omega arith
    by I.Long = omega arith
    by I.ULong = omega arith
size_ends structs (Pointer target) = omega arith
size_ends structs (Array element n) = saturated_ends (size_in structs element * n)
size_ends structs (Struct tag) = tag_ends structs tag
size_ends structs (Function result parameters) = zero-le

-- ---- offsets

pub ends : (structs : List StructDef) (row : Row) → Fits structs row → row.count < 2 ^ 64 → row_end structs row < 2 ^ 64
ends structs row fits small = fits.all row fits.leads small

at_most : (start size index count : ℕ) → index ≤ count → start + count * size < 2 ^ 64 → start + index * size < 2 ^ 64
at_most start size index count le lt = let m : index * size ≤ count * size = mul-le-mul_right size le in omega (arith, m, lt)

pub offset_fits : (structs : List StructDef) (row : Row) (index : ℕ) → Fits structs row → row.count < 2 ^ 64 → index ≤ row.count → row.start + index * size_in structs row.c_type < 2 ^ 64
offset_fits structs row index fits small le = at_most row.start (size_in structs row.c_type) index row.count le (ends structs row fits small)

part_of : (start product all : ℕ) → start + product < all → product < all
part_of start product all lt = omega arith

pub within_fits : (structs : List StructDef) (row : Row) (index : ℕ) → Fits structs row → row.count < 2 ^ 64 → index ≤ row.count → index * size_in structs row.c_type < 2 ^ 64
within_fits structs row index fits small le = part_of row.start (index * size_in structs row.c_type) (2 ^ 64) (offset_fits structs row index fits small le)

-- ---- of types without parts

-- what `void` leads to begins where it does
record IsVoid (row : Row) : Type 0 where
  start : row.start ≡ 0
  c_type : row.c_type ≡ Void

void_member : (structs : List StructDef) (row : Row) (index number : ℕ) → IsVoid row → IsVoid (member_row_of structs row index number)
void_member structs row index number is =
    subst (λ t. IsVoid (member_row_of structs (record { start = row.start; c_type = t; count = row.count }) index number)) (sym is.c_type) (record { start = refl; c_type = refl })

void_inner : (structs : List StructDef) (row : Row) (index : ℕ) → IsVoid row → IsVoid (inner_row_of structs row index)
void_inner structs row index is =
    subst (λ t. IsVoid (inner_row_of structs (record { start = row.start; c_type = t; count = row.count }) index)) (sym is.c_type)
    (record { start = by row.start index is.start; c_type = refl })
  where
    by : (start index : ℕ) → start ≡ 0 → start + index * 0 ≡ 0
    by start index e = omega (arith, e)

void_leads : (structs : List StructDef) (count : ℕ) (row : Row) → LeadsToRow structs (whole_row Void count) row → IsVoid row
void_leads structs count _ Origin = record { start = refl; c_type = refl }
void_leads structs count _ (ToMember row index number leads lt small) = void_member structs row index number (void_leads structs count row leads)
void_leads structs count _ (ToInner row index leads lt small) = void_inner structs row index (void_leads structs count row leads)

pub void_ends : (structs : List StructDef) (count : ℕ) → AllEnd structs (whole_row Void count)
void_ends structs count row leads small =
    let is = void_leads structs count row leads in
    by row.start row.count (size_in structs row.c_type) is.start (ap (size_in structs) is.c_type)
  where
    by : (start count size : ℕ) → start ≡ 0 → size ≡ 0 → start + count * size < 2 ^ 64
    by start count size e e' = omega (arith, e, ap (λ s. count * s) e')

pub nothing_fits : (structs : List StructDef) → Fits structs no_row
nothing_fits structs = record { origin = no_row; all = void_ends structs 0; leads = Origin }

pub nothing_room : (structs : List StructDef) → HasRoom structs no_row 0
nothing_room structs = record { count = 1; fits = record { origin = whole_row Void 1; all = void_ends structs 1; leads = Origin }; within = omega arith; small = omega arith }

-- ---- members and elements

module _ (structs : List StructDef) (row : Row) (index : ℕ) (room : HasRoom structs row index) where
  abbrev longer : Row
  longer = record { start = row.start; c_type = row.c_type; count = room.count }

  pub member_fits : (number : ℕ) → Fits structs (member_row_of structs row index number)
  member_fits number = record { origin = room.fits.origin; all = room.fits.all; leads = ToMember longer index number room.fits.leads room.within room.small }

  pub inner_fits : Fits structs (inner_row_of structs row index)
  inner_fits = record { origin = room.fits.origin; all = room.fits.all; leads = ToInner longer index room.fits.leads room.within room.small }

pub member_room : (structs : List StructDef) (row : Row) (index number : ℕ) → HasRoom structs row index → HasRoom structs (member_row_of structs row index number) 0
member_room structs row index number room =
    by (slice_get (members_of (with_structs structs) row.c_type) number) (member_fits structs row index room number)
  where
    at : Option MemberDef → Row
    at member = member_row (with_structs structs) (row.start + index * size_in structs row.c_type) (members_of (with_structs structs) row.c_type) number member

    by : (member : Option MemberDef) → Fits structs (at member) → HasRoom structs (at member) 0
    by None fits = nothing_room structs
    by (Some member) fits = record { count = 1; fits = fits; within = omega arith; small = omega arith }

pub room_below : (structs : List StructDef) (row : Row) (index : ℕ) → Fits structs row → index < row.count → row.count < 2 ^ 64 → HasRoom structs row index
room_below structs row index fits lt small = record { count = row.count; fits = fits; within = lt; small = small }

-- ---- with the structures of an environment

pub same_member : (around : TypeEnvironment) (structs : List StructDef) (place : Place) (number : ℕ) → around.structs ≡ structs
    → (member_at around place number).row ≡ member_row_of structs place.row place.index number
same_member around structs place number same = ap (λ s. member_row_of s place.row place.index number) same

pub same_inner : (around : TypeEnvironment) (structs : List StructDef) (place : Place) → around.structs ≡ structs → (decayed around place).row ≡ inner_row_of structs place.row place.index
same_inner around structs place same = ap (λ s. inner_row_of s place.row place.index) same

-- ---- places

pub room_same : (structs : List StructDef) (a b : Row) (index : ℕ) → a ≡ b → HasRoom structs b index → HasRoom structs a index
room_same structs a b index same room = subst (λ row. HasRoom structs row index) (sym same) room

pub fits_same : (structs : List StructDef) (a b : Row) → a ≡ b → Fits structs b → Fits structs a
fits_same structs a b same fits = subst (Fits structs) (sym same) fits

-- an object
module _ (table : Interned) (c_type : number.CType) (count : ℕ) (stand : ElementsStand table c_type count) where
  pub whole_fits : Fits (structs_in table) (whole_row (type_in table c_type) count)
  whole_fits = record { origin = whole_row (type_in table c_type) count; all = stand.1; leads = Origin }

  pub whole_room : HasRoom (structs_in table) (whole_row (type_in table c_type) count) 0
  whole_room = record { count = 1; fits = record { origin = whole_row (type_in table c_type) 1; all = stand.2; leads = Origin }; within = omega arith; small = omega arith }

alone : (size : ℕ) → size ≤ greatest → 1 * size < 2 ^ 64
alone size le = omega (arith, le)

module _ (table : Interned) (c_type : number.CType) (is : IsObjectType table c_type) where
  pub object_elements : (count : ℕ) → count * size_in (structs_in table) (type_in table c_type) < 2 ^ 64 → ElementsStand table c_type count
  object_elements count lt =
      (is.stands, is.fits count lt, is.fits 1 (alone (size_in (structs_in table) (type_in table c_type)) (size_ends (structs_in table) (type_in table c_type))))

  pub object_alone : ElementsStand table c_type 1
  object_alone = object_elements 1 (alone (size_in (structs_in table) (type_in table c_type)) (size_ends (structs_in table) (type_in table c_type)))

-- no elements
pub nothing_row_fits : (table : Interned) (row : memory_row.Row) → row_in table row ≡ no_row → Fits (structs_in table) (row_in table row)
nothing_row_fits table row is = fits_same (structs_in table) (row_in table row) no_row is (nothing_fits (structs_in table))

pub nothing_row_room : (table : Interned) (row : memory_row.Row) → row_in table row ≡ no_row → HasRoom (structs_in table) (row_in table row) 0
nothing_row_room table row is = room_same (structs_in table) (row_in table row) no_row 0 is (nothing_room (structs_in table))

-- the first element of a row
pub first_stands : (table : Interned) (place : memory_place.Place) (name : memory_name.Name) (row : memory_row.Row) → place ≡ record { name = name; row = row; index = 0 } → Stands table row.c_type → Fits (structs_in table) (row_in table row)
    → PlaceStands table place
first_stands table place name row is stands fits = subst (PlaceStands table) (sym is) (record { c_type = stands; fits = fits; within = zero-le })

pub first_element : (table : Interned) (place : memory_place.Place) (name : memory_name.Name) (row : memory_row.Row) → place ≡ record { name = name; row = row; index = 0 } → HasRoom (structs_in table) (row_in table row) 0 → IsElement table place
first_element table place name row is room = subst (IsElement table) (sym is) room

-- another element of a row
pub at_stands : (table : Interned) (place : memory_place.Place) (index : ℕ) → PlaceStands table place → index ≤ place.row.count → PlaceStands table (record place { index = index })
at_stands table place index stands le = record { c_type = stands.c_type; fits = stands.fits; within = le }

pub at_element : (table : Interned) (place : memory_place.Place) (index : ℕ) → PlaceStands table place → index < place.row.count → place.row.count < 2 ^ 64 → IsElement table (record place { index = index })
at_element table place index stands lt small = room_below (structs_in table) (row_in table place.row) index stands.fits lt small

-- members and elements of an element
module _ (table : Interned) (place result : memory_place.Place) (element : IsElement table place) where
  module _ (number : ℕ) (is : place_in table result ≡ member_at (with_structs (structs_in table)) (place_in table place) number) where
    pub member_stands : Stands table result.row.c_type → PlaceStands table result
    member_stands stands = record {
      c_type = stands;
      fits = fits_same (structs_in table) (row_in table result.row) (member_row_of (structs_in table) (row_in table place.row) place.index number) (ap (λ (p : Place). p.row) is)
          (member_fits (structs_in table) (row_in table place.row) place.index element number);
      within = subst (λ n. n ≤ result.row.count) (sym (ap (λ (p : Place). p.index) is)) zero-le;
    }

    pub member_element : IsElement table result
    member_element = subst (HasRoom (structs_in table) (row_in table result.row)) (sym (ap (λ (p : Place). p.index) is))
        (room_same (structs_in table) (row_in table result.row) (member_row_of (structs_in table) (row_in table place.row) place.index number) 0 (ap (λ (p : Place). p.row) is)
        (member_room (structs_in table) (row_in table place.row) place.index number element))

    pub member_starts : result.row.count ≡ 1 → result.row.start < 2 ^ 64
    member_starts one =
        by result.row.start (result.row.count * size_in (structs_in table) (type_in table result.row.c_type))
        (ends (structs_in table) (row_in table result.row)
        (fits_same (structs_in table) (row_in table result.row) (member_row_of (structs_in table) (row_in table place.row) place.index number) (ap (λ (p : Place). p.row) is)
        (member_fits (structs_in table) (row_in table place.row) place.index element number))
        (omega (arith, one)))
      where
        by : (start size : ℕ) → start + size < 2 ^ 64 → start < 2 ^ 64
        by start size lt = omega (arith, lt)

  pub decayed_stands : place_in table result ≡ decayed (with_structs (structs_in table)) (place_in table place) → Stands table result.row.c_type → PlaceStands table result
  decayed_stands is stands = record {
    c_type = stands;
    fits = fits_same (structs_in table) (row_in table result.row) (inner_row_of (structs_in table) (row_in table place.row) place.index) (ap (λ (p : Place). p.row) is)
        (inner_fits (structs_in table) (row_in table place.row) place.index element);
    within = subst (λ n. n ≤ result.row.count) (sym (ap (λ (p : Place). p.index) is)) zero-le;
  }

-- ---- literals

-- the rows of an array of characters
data IsText (n : ℕ) (row : Row) : Type 0 where
  Whole : row ≡ whole_row (Array (Integer I.Char) n) 1 → IsText n row
  Characters : row.start ≡ 0 → row.c_type ≡ Integer I.Char → IsText n row
  Single : row.c_type ≡ Integer I.Char → row.count ≡ 1 → row.start + 1 < 2 ^ 64 → IsText n row
  Empty : row ≡ no_row → IsText n row

text_member : (structs : List StructDef) (n : ℕ) (row : Row) (index number : ℕ) → IsText n row → IsText n (member_row_of structs row index number)
text_member structs n row index number (Whole is) = subst (λ r. IsText n (member_row_of structs r index number)) (sym is) (Empty refl)
text_member structs n row index number (Characters start c_type) =
    subst (λ t. IsText n (member_row_of structs (record { start = row.start; c_type = t; count = row.count }) index number)) (sym c_type) (Empty refl)
text_member structs n row index number (Single c_type count start) =
    subst (λ t. IsText n (member_row_of structs (record { start = row.start; c_type = t; count = row.count }) index number)) (sym c_type) (Empty refl)
text_member structs n row index number (Empty is) = subst (λ r. IsText n (member_row_of structs r index number)) (sym is) (Empty refl)

text_inner : (structs : List StructDef) (n : ℕ) (row : Row) (index : ℕ) → index < row.count → row.count < 2 ^ 64 → IsText n row → IsText n (inner_row_of structs row index)
text_inner structs n row index lt small (Whole is) =
    subst (λ r. IsText n (inner_row_of structs r index)) (sym is) (Characters (by index (size_in structs (Array (Integer I.Char) n)) (subst (λ (r : Row). index < r.count) is lt)) refl)
  where
    by : (index size : ℕ) → index < 1 → 0 + index * size ≡ 0
    by zero size h = ap (λ p. 0 + p) (zero-mul size)
    by (suc k) size h = absurd (omega arith)
text_inner structs n row index lt small (Characters start c_type) =
    subst (λ t. IsText n (inner_row_of structs (record { start = row.start; c_type = t; count = row.count }) index)) (sym c_type)
    (Single refl refl (by row.start index row.count start lt small))
  where
    by : (start index count : ℕ) → start ≡ 0 → index < count → count < 2 ^ 64 → start + index * 1 + 1 < 2 ^ 64
    by start index count e h k = omega (arith, e, h, k)
text_inner structs n row index lt small (Single c_type count start) =
    subst (λ t. IsText n (inner_row_of structs (record { start = row.start; c_type = t; count = row.count }) index)) (sym c_type)
    (Single refl refl (by row.start index row.count count start lt))
  where
    by : (start index count : ℕ) → count ≡ 1 → start + 1 < 2 ^ 64 → index < count → start + index * 1 + 1 < 2 ^ 64
    by start index count e h k = omega (arith, e, h, k)
text_inner structs n row index lt small (Empty is) = absurd (by (subst (λ (r : Row). index < r.count) is lt))
  where
    by : index < 0 → ⊥
    by h = omega (arith, h)

text_leads : (structs : List StructDef) (n : ℕ) (row : Row) → LeadsToRow structs (whole_row (Array (Integer I.Char) n) 1) row → IsText n row
text_leads structs n _ Origin = Whole refl
text_leads structs n _ (ToMember row index number leads lt small) = text_member structs n row index number (text_leads structs n row leads)
text_leads structs n _ (ToInner row index leads lt small) = text_inner structs n row index lt small (text_leads structs n row leads)

text_ends : (structs : List StructDef) (n : ℕ) (row : Row) → IsText n row → row.count < 2 ^ 64 → row_end structs row < 2 ^ 64
text_ends structs n row (Whole is) small =
    subst (λ r. row_end structs r < 2 ^ 64) (sym is) (by (size_in structs (Array (Integer I.Char) n)) (size_ends structs (Array (Integer I.Char) n)))
  where
    by : (size : ℕ) → size ≤ greatest → 0 + 1 * size < 2 ^ 64
    by size le = omega (arith, le)
text_ends structs n row (Characters start c_type) small = by row.start row.count (size_in structs row.c_type) start (ap (size_in structs) c_type) small
  where
    by : (start count size : ℕ) → start ≡ 0 → size ≡ 1 → count < 2 ^ 64 → start + count * size < 2 ^ 64
    by start count size e e' h = omega (arith, e, ap (λ s. count * s) e', h)
text_ends structs n row (Single c_type count start) small = by row.start row.count (size_in structs row.c_type) count (ap (size_in structs) c_type) start
  where
    by : (start count size : ℕ) → count ≡ 1 → size ≡ 1 → start + 1 < 2 ^ 64 → start + count * size < 2 ^ 64
    by start count size e e' h = omega (arith, ap (λ s. count * s) e', e, h)
text_ends structs n row (Empty is) small = subst (λ r. row_end structs r < 2 ^ 64) (sym is) (omega arith)

pub literal_ends : (structs : List StructDef) (bytes : List ℕ) → AllEnd structs (whole_row (literal_type bytes) 1)
literal_ends structs bytes row leads small = text_ends structs (suc (length bytes)) row (text_leads structs (suc (length bytes)) row leads) small

-- a literal, whose type is an array of as many characters
pub literal_elements : (table : Interned) (c_type : number.CType) (bytes : List ℕ) → Stands table c_type → type_in table c_type ≡ literal_type bytes → ElementsStand table c_type 1
literal_elements table c_type bytes stands is =
    let all = subst (λ t. AllEnd (structs_in table) (whole_row t 1)) (sym is) (literal_ends (structs_in table) bytes) in
    (stands, all, all)
