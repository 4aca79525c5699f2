-- What stands stays while a table grows.
use Rattle.std.proofs.Common.{◌≡◌, ℕ, ◌+◌, ◌<◌, List, [], ◌∷◌, ◌++◌, length, refl, sym, ap, subst, ◌∙◌, arith, append_assoc}
use Rattle.c_num.specs.declared.IntType.{IntType}
use Rattle.c_num.specs.declared.IntType.TheVariants as I
use Rattle.c_typed.specs.declared.c_type.StructId as tag
use Rattle.c_typed.specs.declared.c_type.Derived.{Derived}
use Rattle.c_typed.specs.Types.{Void, Integer}
use Rattle.c_typed.specs.declared.c_type.CType as number
use Rattle.c_typed.specs.declared.c_type.Parameters as numbers
use Rattle.c_typed.specs.Table.{Interned, Meaning, base_meaning, integer_number, AType, AList, Nothing, meaning_in, meaning_of, IsAType, IsAList, the_type, the_types, Stands, type_in, ListStands, types_in, Grows, TagStands, tag_in, the_tag, numbered}
use Rattle.c_typed.specs.Inside.{IsSomething}
use Rattle.c_typed.proofs.Meanings.{meaning_stays, meaning_older, numbered_more, numbered-below}
use Rattle.c_typed.proofs.Lists.{numbered-within}

pub grows_refl : (table : Interned) → Grows table table
grows_refl table = record { entries = ([], refl); tags = ([], refl); structs = refl }

pub grows_trans : (a b c : Interned) → Grows a b → Grows b c → Grows a c
grows_trans a b c f g = record {
  entries = (g.entries.0 ++ f.entries.0, g.entries.1 ∙ ap (λ l. g.entries.0 ++ l) f.entries.1 ∙ sym (append_assoc g.entries.0 f.entries.0 a.entries));
  tags = (g.tags.0 ++ f.tags.0, g.tags.1 ∙ ap (λ l. g.tags.0 ++ l) f.tags.1 ∙ sym (append_assoc g.tags.0 f.tags.0 a.tags));
  structs = g.structs ∙ f.structs;
}

module _ (old new : Interned) (grows : Grows old new) where
  pub same_meaning : (n : ℕ) → IsSomething (meaning_of old n) → meaning_of new n ≡ meaning_of old n
  same_meaning n h =
      (λ i. meaning_in (grows.tags.1 i) (grows.entries.1 i) n)
      ∙ meaning_stays grows.tags.0 old.tags grows.entries.0 old.entries n h

  type_something : (m : Meaning) → IsAType m → IsSomething m
  type_something (AType t) h = tt
  type_something (AList ts) h = absurd h
  type_something Nothing h = absurd h

  list_something : (m : Meaning) → IsAList m → IsSomething m
  list_something (AType t) h = absurd h
  list_something (AList ts) h = tt
  list_something Nothing h = absurd h

  -- a type stands for the same
  pub stays : (t : number.CType) → Stands old t → Stands new t × (type_in new t ≡ type_in old t)
  stays t h =
      let same = same_meaning t.0 (type_something (meaning_of old t.0) h) in
      (subst IsAType (sym same) h, ap the_type same)

  -- and so does a list
  pub list_stays : (ps : numbers.Parameters) → ListStands old ps → ListStands new ps × (types_in new ps ≡ types_in old ps)
  list_stays ps h =
      let same = same_meaning ps.0 (list_something (meaning_of old ps.0) h) in
      (subst IsAList (sym same) h, ap the_types same)

  -- and a structure's number for the same tag
  pub tag_stays : (id : tag.StructId) → TagStands old id → TagStands new id × (tag_in new id ≡ tag_in old id)
  tag_stays id lt =
      let found = numbered-within old.tags id.0 lt in
      let kept = ap (λ ts. numbered ts id.0) grows.tags.1 ∙ numbered_more grows.tags.0 old.tags id.0 found.0 found.1 in
      (numbered-below new.tags id.0 found.0 kept, ap the_tag (kept ∙ sym found.1))

-- ---- the types that are in every table

module _ (table : Interned) where
  meaning_base : (tags : List (List ℕ)) (es : List Derived) (n : ℕ) → n < 9 → meaning_in tags es n ≡ base_meaning n
  meaning_base tags [] n lt = refl
  meaning_base tags (newest ∷ older) n lt =
      meaning_older tags newest older n (λ (e : n ≡ 9 + length older). absurd (omega arith)) ∙ meaning_base tags older n lt

  integer_means : (t : IntType) → meaning_of table (integer_number t) ≡ AType (Integer t)
  integer_means I.Char = meaning_base table.tags table.entries 1 (omega arith)
  integer_means I.UChar = meaning_base table.tags table.entries 2 (omega arith)
  integer_means I.Short = meaning_base table.tags table.entries 3 (omega arith)
  integer_means I.UShort = meaning_base table.tags table.entries 4 (omega arith)
  integer_means I.Int = meaning_base table.tags table.entries 5 (omega arith)
  integer_means I.UInt = meaning_base table.tags table.entries 6 (omega arith)
  integer_means I.Long = meaning_base table.tags table.entries 7 (omega arith)
  integer_means I.ULong = meaning_base table.tags table.entries 8 (omega arith)

  pub void_stands : (c_type : number.CType) → c_type.0 ≡ 0 → Stands table c_type × (type_in table c_type ≡ Void)
  void_stands c_type e =
      let means = ap (meaning_of table) e ∙ meaning_base table.tags table.entries 0 (omega arith) in
      (subst IsAType (sym means) tt, ap the_type means)

  pub integer_stands : (c_type : number.CType) (t : IntType) → c_type.0 ≡ integer_number t → Stands table c_type × (type_in table c_type ≡ Integer t)
  integer_stands c_type t e =
      let means = ap (meaning_of table) e ∙ integer_means t in
      (subst IsAType (sym means) tt, ap the_type means)
