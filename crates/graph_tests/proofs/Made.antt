-- Types that were made one after the other.
use Rattle.std.proofs.Common.{◌≡◌, ℕ, zero, suc, ◌≤◌, ◌^◌, true, false, cond, List, [], ◌∷◌, ◌++◌, length, get_or, Option, Some, None, refl, sym, ap, subst, ◌∙◌, arith}
use Rattle.std.specs.Prelude.{bytes_eq, nat_lt, slice_get, IfOk, Result, Ok, Err}
use Rattle.std.proofs.lemmas.Bool.{true≢false, cond-true, ltb-true}
use Rattle.std.proofs.lemmas.Option.{none-some, same_Some, slice_get-get_or}
use Rattle.std.proofs.lemmas.Slice.Eq.{bytes_eq-Decides}
use Rattle.c_num.specs.declared.IntType.{IntType}
use Rattle.c_typed.specs.declared.c_type.CType as number
use Rattle.c_typed.specs.declared.c_type.StructId as tag
use Rattle.c_typed.specs.declared.structure.Member.{Member}
use Rattle.c_typed.specs.Types.{CType, Void, Integer, Pointer, Array, Struct, Function}
use Rattle.c_typed.specs.Layouts.{StructDef, MemberDef, Layout, layouts, layout_of, layout_by_tag, struct_layout, is_complete, has_members, members_by_tag}
use Rattle.c_typed.specs.Inside.{is_sized}
use Rattle.c_typed.specs.Table.{Interned, MemberEntry, member_entries, AreComplete, type_in, structs_in, struct_def, tag_in, Grows, MakesType, completed, integer_number}
use Rattle.c_typed.proofs.Grown.{stays, integer_stands}
use Rattle.c_typed.proofs.Kept.{makes_completed}
use Rattle.heap_graph.specs.Structures.{AreMade}
use Rattle.heap_graph.proofs.Older.{sized_more}
use Rattle.graph_tests.specs.Objects.{IsSized, AreSized, Adds}

-- ---- lists of types

sized_in : (table : Interned) (ts : List number.CType) (n : ℕ) (t : number.CType) → AreSized table ts → slice_get ts n ≡ Some t → IsSized table t
sized_in table [] n t all is = absurd (none-some t is)
sized_in table (u ∷ ts) zero t all is = subst (IsSized table) (same_Some u t is) all.0
sized_in table (u ∷ ts) (suc n) t all is = sized_in table ts n t all.1 is

pub read_sized : (table : Interned) (ts : List number.CType) (n : ℕ) (t : number.CType) → AreSized table ts → nat_lt n (length ts) ≡ true → t ≡ get_or ts n t → IsSized table t
read_sized table ts n t all lt is = sized_in table ts n t all (slice_get-get_or ts n t (ltb-true n (length ts) lt) ∙ ap Some (sym is))

pub one_more : (old new : Interned) (ts : List number.CType) (t : number.CType) → AreSized old ts → Adds old new t → AreSized new (ts ++ t ∷ [])
one_more old new [] t all adds = (adds.sized, tt)
one_more old new (u ∷ ts) t all adds = (adds.keeps u all.0, one_more old new ts t all.1 adds)

-- ---- types

pub sized_complete : (structs : List StructDef) (t : CType) → is_sized structs t ≡ true → is_complete structs t ≡ true
sized_complete structs Void h = h
sized_complete structs (Integer t) h = h
sized_complete structs (Pointer t) h = h
sized_complete structs (Array t n) h = refl
sized_complete structs (Struct tag) h = h
sized_complete structs (Function t ts) h = h

pub adds_integer : (table : Interned) (t : number.CType) (int_type : IntType) → t.0 ≡ integer_number int_type → Adds table table t
adds_integer table t int_type e =
    let stands = integer_stands table t int_type e in
    record { sized = record { stands = stands.0; sized = ap (is_sized (structs_in table)) stands.1 }; keeps = λ other h. h; made = λ h. h }

adds_type : (old new : Interned) (t : number.CType) (c_type : CType) → MakesType old new t c_type → is_sized (structs_in old) c_type ≡ true → Adds old new t
adds_type old new t c_type made sized = record {
  sized = record { stands = made.stands; sized = (λ i. is_sized (made.grows.structs i) (made.means i)) ∙ sized };
  keeps = λ other h.
      let kept = stays old new made.grows other h.stands in
      record { stands = kept.0; sized = (λ i. is_sized (made.grows.structs i) (kept.1 i)) ∙ h.sized };
  made = subst AreMade (sym made.grows.structs);
}

pub if_adds : {E : Type 0} (old new : Interned) (result : Result number.CType E) (c_type : CType) → IfOk result (λ made. MakesType old new made c_type) → is_sized (structs_in old) c_type ≡ true → IfOk result (λ made. Adds old new made)
if_adds old new (Ok t) c_type made sized = adds_type old new t c_type made sized
if_adds old new (Err e) c_type made sized = tt

-- ---- structures

no_members : (o : Option (List MemberDef)) → has_members o ≡ false → o ≡ None
no_members None h = refl
no_members (Some members) h = absurd (true≢false h)

abbrev pub two_members : (a b : number.CType) → List ℕ → List ℕ → List MemberEntry
two_members a b x y = record { name = x; c_type = Some a } ∷ record { name = y; c_type = Some b } ∷ []

pub entries_are : (items : List Member) (f g : Member) (a b : number.CType) → items ≡ f ∷ g ∷ [] → f.c_type ≡ Some a → g.c_type ≡ Some b → member_entries items ≡ two_members a b f.name.items g.name.items
entries_are items f g a b e ef eg =
    ap member_entries e
    ∙ ap (λ c. record { name = f.name.items; c_type = c } ∷ record { name = g.name.items; c_type = g.c_type } ∷ []) ef
    ∙ ap (λ c. record { name = f.name.items; c_type = Some a } ∷ record { name = g.name.items; c_type = c } ∷ []) eg

still_sized : (old middle : Interned) → Grows old middle → (u : number.CType) → IsSized old u → IsSized middle u
still_sized old middle grows u h =
    let kept = stays old middle grows u h.stands in
    record { stands = kept.0; sized = (λ i. is_sized (grows.structs i) (kept.1 i)) ∙ h.sized }

pub complete_two : (old middle : Interned) → Grows old middle → (a b : number.CType) (x y : List ℕ) → IsSized old a → IsSized old b → AreComplete middle (two_members a b x y)
complete_two old middle grows a b x y first second =
    let one = still_sized old middle grows a first in
    let two = still_sized old middle grows b second in
    ((one.stands, sized_complete (structs_in middle) (type_in middle a) one.sized), ((two.stands, sized_complete (structs_in middle) (type_in middle b) two.sized), tt))

module _ (old middle : Interned) (t a b : number.CType) (id : tag.StructId) (name : List ℕ) (x y : List ℕ) (made : MakesType old middle t (Struct name)) (is : type_in middle t ≡ Struct (tag_in middle id))
    (open_yet : is_complete (structs_in middle) (Struct (tag_in middle id)) ≡ false) (first : IsSized old a) (second : IsSized old b) where
  abbrev members : List MemberEntry
  members = record { name = x; c_type = Some a } ∷ record { name = y; c_type = Some b } ∷ []

  abbrev newest : StructDef
  newest = struct_def middle.tags middle.entries (record { tag = id.0; members = members })

  abbrev new : Interned
  new = completed middle id.0 members

  fresh : members_by_tag (structs_in middle) newest.tag ≡ None
  fresh = no_members (members_by_tag (structs_in middle) newest.tag) open_yet

  still : (u : number.CType) → IsSized old u → IsSized middle u
  still = still_sized old middle made.grows

  slots_are : (layout_of (structs_in new) (type_in new t)).slots ≡ (struct_layout (layouts (structs_in middle)) newest.members).slots
  slots_are =
      ap (λ (c : CType). (layout_of (structs_in new) c).slots) is
      ∙ ap (λ (l : Layout). l.slots)
      (cond-true (bytes_eq newest.tag newest.tag) (struct_layout (layouts (structs_in middle)) newest.members) (layout_by_tag (layouts (structs_in middle)) newest.tag) ((bytes_eq-Decides newest.tag newest.tag).1 refl))

  pub adds_pair : (layout_of (structs_in new) (type_in new t)).slots ≤ 2 ^ 61 → Adds old new t
  adds_pair few =
      let object = (makes_completed middle id members t made.stands is).object in
      let ea = (still a first).sized in
      let eb = (still b second).sized in
      let same = slots_are in
      record {
        sized = record { stands = made.stands; sized = ap (is_sized (structs_in new)) is ∙ sym (ap (is_complete (structs_in new)) is) ∙ object.complete };
        keeps = λ u h. let kept = still u h in record { stands = kept.stands; sized = sized_more newest (structs_in middle) fresh (type_in middle u) kept.sized };
        made = λ h. (
          record {
            fresh = fresh;
            sized = λ i. cond (ea i) (cond (eb i) true false) false;
            few = omega (arith, few, same);
            countable = omega arith;
          },
          subst AreMade (sym made.grows.structs) h,
        );
      }
