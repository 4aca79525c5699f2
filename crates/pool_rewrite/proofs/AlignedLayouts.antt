-- Alignments lie between 1 and 8, and what is aligned moves up by less than its alignment.
use Rattle.std.proofs.Common.{◌≡◌, ℕ, ◌+◌, ◌-◌, ◌*◌, ◌/◌, ◌%◌, ◌<◌, ◌≤◌, Bool, true, false, cond, List, [], ◌∷◌, Option, Some, None, arith}
use Rattle.std.specs.Prelude.{bytes_eq}
use Rattle.std.proofs.Math.Nat.{lt-div-mul-add}
use Rattle.std.proofs.lemmas.Nat.{div-add-mod'}
use Rattle.c_num.specs.declared.IntType.{IntType}
use Rattle.c_num.specs.declared.IntType.TheVariants as I
use Rattle.c_typed.specs.Types.{CType, Void, Integer, Pointer, Array, Struct, Function}
use Rattle.c_typed.specs.Layouts.{StructDef, MemberDef, Layout, Table, aligned, no_layout, layout_by_tag, layout_in, known_layout, member_layout, behind, members_layout, struct_layout, layouts, layout_of}

-- ---- numbers

-- an alignment puts nothing lower
pub aligned_above : (alignment n : ℕ) → 1 ≤ alignment → n ≤ aligned alignment n
aligned_above alignment n one =
    let within = lt-div-mul-add {a = n + alignment - 1} {b = alignment} one in
    apart ((n + alignment - 1) / alignment * alignment) within
  where
    apart : (whole : ℕ) → n + alignment - 1 < whole + alignment → n ≤ whole
    apart whole lt = omega arith

-- and moves it by less than itself
pub aligned_below : (alignment n : ℕ) → 1 ≤ alignment → aligned alignment n < n + alignment
aligned_below alignment n one = by (aligned alignment n) ((n + alignment - 1) % alignment) (div-add-mod' (n + alignment - 1) alignment)
  where
    by : (whole rest : ℕ) → whole + rest ≡ n + alignment - 1 → whole < n + alignment
    by whole rest e = omega arith

-- ---- layouts

pub record IsAligned (layout : Layout) : Type 0 where
  pub one : 1 ≤ layout.alignment
  pub eight : layout.alignment ≤ 8

abbrev pub AreAligned : Table → Type 0
AreAligned [] = Unit {0}
AreAligned (entry ∷ table) = IsAligned entry.1 × AreAligned table

aligned_nothing : IsAligned no_layout
aligned_nothing = record { one = omega arith; eight = omega arith }

aligned_integer : (t : IntType) (table : Table) → IsAligned (layout_in table (Integer t))
aligned_integer I.Char table = record { one = omega arith; eight = omega arith }
aligned_integer I.UChar table = record { one = omega arith; eight = omega arith }
aligned_integer I.Short table = record { one = omega arith; eight = omega arith }
aligned_integer I.UShort table = record { one = omega arith; eight = omega arith }
aligned_integer I.Int table = record { one = omega arith; eight = omega arith }
aligned_integer I.UInt table = record { one = omega arith; eight = omega arith }
aligned_integer I.Long table = record { one = omega arith; eight = omega arith }
aligned_integer I.ULong table = record { one = omega arith; eight = omega arith }

aligned_by_tag : (table : Table) → AreAligned table → (tag : List ℕ) → IsAligned (layout_by_tag table tag)
aligned_by_tag [] h tag = aligned_nothing
aligned_by_tag (entry ∷ table) h tag = by (bytes_eq entry.0 tag) (aligned_by_tag table h.1 tag)
  where
    by : (b : Bool) → IsAligned (layout_by_tag table tag) → IsAligned (cond b entry.1 (layout_by_tag table tag))
    by true rest = h.0
    by false rest = rest

pub aligned_in : (table : Table) → AreAligned table → (t : CType) → IsAligned (layout_in table t)
aligned_in table h Void = aligned_nothing
aligned_in table h (Integer t) = aligned_integer t table
aligned_in table h (Pointer t) = record { one = omega arith; eight = omega arith }
aligned_in table h (Array t n) = let inner = aligned_in table h t in record { one = inner.one; eight = inner.eight }
aligned_in table h (Struct tag) = aligned_by_tag table h tag
aligned_in table h (Function t ts) = aligned_nothing

pub aligned_known : (table : Table) → AreAligned table → (t : Option CType) → IsAligned (known_layout table t)
aligned_known table h (Some t) = aligned_in table h t
aligned_known table h None = aligned_nothing

aligned_behind : (front member : Layout) → IsAligned front → IsAligned member → IsAligned (behind front member)
aligned_behind front member f m =
    let one = f.one in
    let eight = f.eight in
    let own = m.eight in
    record { one = omega arith; eight = omega arith }

pub aligned_members : (table : Table) → AreAligned table → (front : Layout) → IsAligned front → (members : List MemberDef) → IsAligned (members_layout table front members)
aligned_members table h front f [] = f
aligned_members table h front f (member ∷ members) =
    aligned_members table h (behind front (member_layout table member)) (aligned_behind front (member_layout table member) f (aligned_known table h member.c_type)) members

pub aligned_front : (table : Table) → AreAligned table → (members : List MemberDef) → IsAligned (members_layout table no_layout members)
aligned_front table h members = aligned_members table h no_layout aligned_nothing members

aligned_struct : (table : Table) → AreAligned table → (members : List MemberDef) → IsAligned (struct_layout table members)
aligned_struct table h members = let all = aligned_front table h members in record { one = all.one; eight = all.eight }

pub aligned_layouts : (structs : List StructDef) → AreAligned (layouts structs)
aligned_layouts [] = tt
aligned_layouts (newest ∷ structs) = (aligned_struct (layouts structs) (aligned_layouts structs) newest.members, aligned_layouts structs)

pub aligned_layout : (structs : List StructDef) (t : CType) → IsAligned (layout_of structs t)
aligned_layout structs t = aligned_in (layouts structs) (aligned_layouts structs) t
