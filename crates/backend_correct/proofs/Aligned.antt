-- Alignments divide 8, so that objects behind whole words take no more bytes than their sizes, each rounded up to 8 bytes.
use Rattle.std.proofs.Common.{◌≡◌, ℕ, ◌+◌, ◌-◌, ◌*◌, ◌/◌, ◌≤◌, Bool, true, false, cond, List, [], ◌∷◌, ◌++◌, Option, Some, None, arith}
use Rattle.std.specs.Prelude.{bytes_eq, max}
use Rattle.c_num.specs.declared.IntType.{IntType}
use Rattle.c_num.specs.declared.IntType.TheVariants as I
use Rattle.c_typed.specs.Types.{CType, Void, Integer, Pointer, Array, Struct, Function}
use Rattle.c_typed.specs.Layouts.{StructDef, MemberDef, Layout, Table, aligned, no_layout, layout_by_tag, layout_in, known_layout, member_layout, behind, members_layout, layouts, layout_of}
use Rattle.pool_rewrite.specs.Placing.{begins, end_behind}

-- an alignment that divides that of a word
pub data Aligns : ℕ → Type 0 where
  One : Aligns 1
  Two : Aligns 2
  Four : Aligns 4
  Eight : Aligns 8

-- what begins behind whole words begins behind no more of them
pub aligned_within : (alignment n words : ℕ) → Aligns alignment → n ≤ 8 * words → aligned alignment n ≤ 8 * words
aligned_within _ n words One h = omega (arith, h)
aligned_within _ n words Two h = omega (arith, h)
aligned_within _ n words Four h = omega (arith, h)
aligned_within _ n words Eight h = omega (arith, h)

-- ---- layouts

max_aligns : (a b : ℕ) → Aligns a → Aligns b → Aligns (max a b)
max_aligns _ _ One One = One
max_aligns _ _ One Two = Two
max_aligns _ _ One Four = Four
max_aligns _ _ One Eight = Eight
max_aligns _ _ Two One = Two
max_aligns _ _ Two Two = Two
max_aligns _ _ Two Four = Four
max_aligns _ _ Two Eight = Eight
max_aligns _ _ Four One = Four
max_aligns _ _ Four Two = Four
max_aligns _ _ Four Four = Four
max_aligns _ _ Four Eight = Eight
max_aligns _ _ Eight One = Eight
max_aligns _ _ Eight Two = Eight
max_aligns _ _ Eight Four = Eight
max_aligns _ _ Eight Eight = Eight

abbrev AllAlign : Table → Type 0
AllAlign [] = Unit {0}
AllAlign (entry ∷ table) = Aligns entry.1.alignment × AllAlign table

integer_aligns : (t : IntType) (table : Table) → Aligns (layout_in table (Integer t)).alignment
integer_aligns I.Char table = One
integer_aligns I.UChar table = One
integer_aligns I.Short table = Two
integer_aligns I.UShort table = Two
integer_aligns I.Int table = Four
integer_aligns I.UInt table = Four
integer_aligns I.Long table = Eight
integer_aligns I.ULong table = Eight

tag_aligns : (table : Table) → AllAlign table → (tag : List ℕ) → Aligns (layout_by_tag table tag).alignment
tag_aligns [] h tag = One
tag_aligns (entry ∷ table) h tag = by (bytes_eq entry.0 tag) (tag_aligns table h.1 tag)
  where
    by : (b : Bool) → Aligns (layout_by_tag table tag).alignment → Aligns (cond b entry.1 (layout_by_tag table tag)).alignment
    by true rest = h.0
    by false rest = rest

type_aligns : (table : Table) → AllAlign table → (t : CType) → Aligns (layout_in table t).alignment
type_aligns table h Void = One
type_aligns table h (Integer t) = integer_aligns t table
type_aligns table h (Pointer t) = Eight
type_aligns table h (Array t n) = type_aligns table h t
type_aligns table h (Struct tag) = tag_aligns table h tag
type_aligns table h (Function t ts) = One

known_aligns : (table : Table) → AllAlign table → (t : Option CType) → Aligns (known_layout table t).alignment
known_aligns table h (Some t) = type_aligns table h t
known_aligns table h None = One

members_align : (table : Table) → AllAlign table → (front : Layout) → Aligns front.alignment → (members : List MemberDef) → Aligns (members_layout table front members).alignment
members_align table h front f [] = f
members_align table h front f (member ∷ members) =
    members_align table h (behind front (member_layout table member)) (max_aligns front.alignment (member_layout table member).alignment f (known_aligns table h member.c_type)) members

layouts_align : (structs : List StructDef) → AllAlign (layouts structs)
layouts_align [] = tt
layouts_align (newest ∷ structs) = (members_align (layouts structs) (layouts_align structs) no_layout One newest.members, layouts_align structs)

pub layout_aligns : (structs : List StructDef) (t : CType) → Aligns (layout_of structs t).alignment
layout_aligns structs t = type_aligns (layouts structs) (layouts_align structs) t

-- ---- objects one behind another

-- their sizes, each rounded up to 8 bytes
abbrev pub whole_size : List Layout → ℕ
whole_size [] = 0
whole_size (first ∷ others) = aligned 8 first.size + whole_size others

abbrev pub AreAligned : List Layout → Type 0
AreAligned [] = Unit {0}
AreAligned (first ∷ others) = Aligns first.alignment × AreAligned others

pub end_within : (objects : List Layout) (front words : ℕ) → AreAligned objects → front ≤ 8 * words → end_behind front objects ≤ 8 * words + whole_size objects
end_within [] front words h low = omega (arith, low)
end_within (first ∷ others) front words h low =
    let begin = aligned_within first.alignment front words h.0 low in
    let rest = end_within others (begins front first + first.size) (words + (first.size + 8 - 1) / 8) h.1 (whole (begins front first) first.size begin) in
    sum (end_behind (begins front first + first.size) others) first.size (whole_size others) rest
  where
    whole : (begin size : ℕ) → begin ≤ 8 * words → begin + size ≤ 8 * (words + (size + 8 - 1) / 8)
    whole begin size low = omega (arith, low)

    sum : (end size others : ℕ) → end ≤ 8 * (words + (size + 8 - 1) / 8) + others → end ≤ 8 * words + (aligned 8 size + others)
    sum end size others most = omega (arith, most)

pub both_aligned : (objects others : List Layout) → AreAligned objects → AreAligned others → AreAligned (objects ++ others)
both_aligned [] others one other = other
both_aligned (first ∷ objects) others one other = (one.0, both_aligned objects others one.1 other)

pub both_whole : (objects others : List Layout) → whole_size (objects ++ others) ≡ whole_size objects + whole_size others
both_whole [] others = omega arith
both_whole (first ∷ objects) others = let rest = both_whole objects others in omega (arith, rest)
