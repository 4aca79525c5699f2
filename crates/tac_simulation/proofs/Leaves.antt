-- The scalars that code finds at offsets are those of the reference.
use Rattle.std.proofs.Common.{◌≡◌, ℕ, zero, suc, ◌+◌, ◌-◌, ◌*◌, ◌/◌, ◌%◌, ◌<◌, ◌≤◌, ◌==◌, nat_lt, Bool, true, false, cond, List, [], ◌∷◌, take, slice_get, Option, Some, None, is_some, refl, sym, ap, subst, ◌∙◌, ◌⊎◌, inl, inr, arith}
use Rattle.std.specs.Prelude.{bytes_eq}
use Rattle.std.proofs.lemmas.Bool.{false≢true, cond-true, cond-false, ltb-true, ltb-false, lt-ltb, le-ltb, eqb-true}
use Rattle.std.proofs.lemmas.Option.{none-some, same_Some}
use Rattle.std.proofs.lemmas.Nat.{div-add-mod', div_below, mod-mul-add}
use Rattle.c_typed.specs.Types.{CType, Void, Integer, Pointer, Array, Struct, Function}
use Rattle.c_typed.specs.Layouts.{StructDef, MemberDef, Layout, Table, saturated, aligned, no_layout, layout_in, member_layout, behind, members_layout, layouts, members_by_tag, offset_before}
use Rattle.c_typed.specs.Inside.{is_known_sized}
use Rattle.c_typed.specs.Expressions.{is_scalar}
use Rattle.c_typed.specs.Programs.{are_structs}
use Rattle.ref_semantics.specs.Values.{Row, whole_row}
use Rattle.ref_semantics.specs.Rows.{RowOf, Whole, InArray, InStruct, LeafAt, IsSmall, size_in, element_offset, are_sized_structs}
use Rattle.ref_semantics.proofs.Arithmetic.{element_ends}
use Rattle.ref_semantics.proofs.Sized.{sized_structs}
use Rattle.ref_semantics.proofs.Inward.{Within, Itself, InElement, InMember, InObject, from_leaf, scalar_size, within_size}
use Rattle.ref_semantics.proofs.Leaves.{leaf_type}
use Rattle.tac_ir.specs.Layouts.{Leaves, in_elements, leaves_in, leaves_from, first_leaf, leaves_of_members, leaves_by_tag, leaf_at}
use Rattle.tac_simulation.proofs.Growing.{IsNewest, is_newest, sized_member, struct_sized, offset_stays, within_stays, tag_leaves}
use Rattle.tac_simulation.proofs.Sizes.{small_element, small_member}

-- ---- what is found stands there

-- in an element
record AtElement (size count : ℕ) (leaves : Leaves) (offset : ℕ) (own : CType) : Type 0 where
  index : ℕ
  inner : ℕ
  below : index < count
  found : leaves inner ≡ Some own
  stands : index * size + inner ≡ offset

at_element : (size count : ℕ) (leaves : Leaves) (offset : ℕ) (own : CType) → in_elements size count leaves offset ≡ Some own → AtElement size count leaves offset own
at_element size count leaves offset own is = by (nat_lt offset (count * size)) refl is
  where
    size_there : (size : ℕ) → offset < count * size → 0 < size
    size_there zero lt = absurd (omega arith)
    size_there (suc n) lt = omega arith

    by : (b : Bool) → nat_lt offset (count * size) ≡ b → cond b (leaves (offset % size)) None ≡ Some own → AtElement size count leaves offset own
    by false test is = absurd (none-some own is)
    by true test is =
        let lt = ltb-true offset (count * size) test in
        record {
          index = offset / size;
          inner = offset % size;
          below = div_below offset size count (size_there size lt) lt;
          found = is;
          stands = div-add-mod' offset size;
        }

-- in a type, where this tells it of structures
module _ (structs : List StructDef) (by_tag : List ℕ → Leaves) (stands : (tag : List ℕ) (offset : ℕ) (own : CType) → by_tag tag offset ≡ Some own → Within structs (Struct tag) offset own) where
  scalar_stands : (t : CType) (offset : ℕ) (own : CType) → is_scalar t ≡ true → cond (offset == 0) (Some t) None ≡ Some own → Within structs t offset own
  scalar_stands t offset own scalar is = by (offset == 0) refl is
    where
      by : (b : Bool) → (offset == 0) ≡ b → cond b (Some t) None ≡ Some own → Within structs t offset own
      by false test is = absurd (none-some own is)
      by true test is =
          let same = same_Some t own is in
          subst (λ k. Within structs t k own) (sym (eqb-true offset 0 test)) (subst (λ o. Within structs t 0 o) same (Itself t scalar))

  found_stands : (t : CType) (offset : ℕ) (own : CType) → leaves_in (layouts structs) by_tag t offset ≡ Some own → Within structs t offset own
  found_stands Void offset own is = absurd (none-some own is)
  found_stands (Integer t) offset own is = scalar_stands (Integer t) offset own refl is
  found_stands (Pointer t) offset own is = scalar_stands (Pointer t) offset own refl is
  found_stands (Array element n) offset own is =
      let at = at_element (size_in structs element) n (leaves_in (layouts structs) by_tag element) offset own is in
      subst (λ k. Within structs (Array element n) k own) at.stands (InElement element n at.index at.inner own at.below (found_stands element at.inner own at.found))
  found_stands (Struct tag) offset own is = stands tag offset own is
  found_stands (Function t ts) offset own is = absurd (none-some own is)

-- in a member behind others
record AtMember (table : Table) (by_tag : List ℕ → Leaves) (front : Layout) (members : List MemberDef) (offset : ℕ) (own : CType) : Type 0 where
  number : ℕ
  member : MemberDef
  c_type : CType
  inner : ℕ
  there : slice_get members number ≡ Some member
  typed : member.c_type ≡ Some c_type
  found : leaves_in table by_tag c_type inner ≡ Some own
  stands : saturated (aligned (member_layout table member).alignment (members_layout table front (take number members)).size) + inner ≡ offset

first_parts : (first others : Option CType) (own : CType) → first_leaf first others ≡ Some own → (first ≡ Some own) ⊎ (others ≡ Some own)
first_parts (Some leaf) others own is = inl is
first_parts None others own is = inr is

behind_start : (start offset : ℕ) → start ≤ offset → start + (offset - start) ≡ offset
behind_start start offset le = omega arith

module _ (table : Table) (by_tag : List ℕ → Leaves) where
  later : (front : Layout) (member : MemberDef) (members : List MemberDef) (offset : ℕ) (own : CType) → AtMember table by_tag (behind front (member_layout table member)) members offset own
      → AtMember table by_tag front (member ∷ members) offset own
  later front member members offset own at =
      record { number = suc at.number; member = at.member; c_type = at.c_type; inner = at.inner; there = at.there; typed = at.typed; found = at.found; stands = at.stands }

  in_first : (front : Layout) (member : MemberDef) (members : List MemberDef) (offset : ℕ) (own t : CType) → member.c_type ≡ Some t
      → leaves_from (saturated (aligned (member_layout table member).alignment front.size)) (leaves_in table by_tag t) offset ≡ Some own → AtMember table by_tag front (member ∷ members) offset own
  in_first front member members offset own t typed is = by (nat_lt offset start) refl is
    where
      start : ℕ
      start = saturated (aligned (member_layout table member).alignment front.size)

      by : (b : Bool) → nat_lt offset start ≡ b → cond b None (leaves_in table by_tag t (offset - start)) ≡ Some own → AtMember table by_tag front (member ∷ members) offset own
      by true test is = absurd (none-some own is)
      by false test is =
          record { number = 0; member = member; c_type = t; inner = offset - start; there = refl; typed = typed; found = is; stands = behind_start start offset (ltb-false offset start test) }

  at_first : (front : Layout) (name : List ℕ) (known : Option CType) (members : List MemberDef) (offset : ℕ) (own : CType)
      → leaves_of_members table by_tag front (record { name = name; c_type = known } ∷ members) offset ≡ Some own
      → (leaves_of_members table by_tag (behind front (member_layout table (record { name = name; c_type = known }))) members offset ≡ Some own
      → AtMember table by_tag (behind front (member_layout table (record { name = name; c_type = known }))) members offset own)
      → AtMember table by_tag front (record { name = name; c_type = known } ∷ members) offset own
  at_first front name None members offset own is rest = later front (record { name = name; c_type = None }) members offset own (rest is)
  at_first front name (Some t) members offset own is rest =
      pick (first_parts (leaves_from (saturated (aligned (layout_in table t).alignment front.size)) (leaves_in table by_tag t) offset)
      (leaves_of_members table by_tag (behind front (layout_in table t)) members offset) own is)
    where
      member : MemberDef
      member = record { name = name; c_type = Some t }

      pick : (leaves_from (saturated (aligned (layout_in table t).alignment front.size)) (leaves_in table by_tag t) offset ≡ Some own)
          ⊎ (leaves_of_members table by_tag (behind front (layout_in table t)) members offset ≡ Some own) → AtMember table by_tag front (member ∷ members) offset own
      pick (inl h) = in_first front member members offset own t refl h
      pick (inr h) = later front member members offset own (rest h)

  at_member : (front : Layout) (members : List MemberDef) (offset : ℕ) (own : CType) → leaves_of_members table by_tag front members offset ≡ Some own
      → AtMember table by_tag front members offset own
  at_member front [] offset own is = absurd (none-some own is)
  at_member front (member ∷ members) offset own is =
      at_first front member.name member.c_type members offset own is (at_member (behind front (member_layout table member)) members offset own)

-- in structures
tag_stands : (structs : List StructDef) → are_structs structs ≡ true → are_sized_structs structs ≡ true → (tag : List ℕ) (offset : ℕ) (own : CType)
    → leaves_by_tag structs tag offset ≡ Some own → Within structs (Struct tag) offset own
tag_stands [] well sized tag offset own is = absurd (none-some own is)
tag_stands (newest ∷ older) well sized tag offset own is =
    let it = is_newest newest older well sized in
    by it (tag_stands older it.well it.sized) (bytes_eq newest.tag tag) refl is
  where
    in_newest : IsNewest newest older → bytes_eq newest.tag tag ≡ true → ((tag : List ℕ) (offset : ℕ) (own : CType) → leaves_by_tag older tag offset ≡ Some own → Within older (Struct tag) offset own)
        → AtMember (layouts older) (leaves_by_tag older) no_layout newest.members offset own → Within (newest ∷ older) (Struct tag) offset own
    in_newest it test rest at =
        let member_sized = subst (λ known. is_known_sized older known ≡ true) at.typed (sized_member older newest.members at.number at.member it.members at.there) in
        let inner = within_stays newest older it.fresh it.well it.sized at.c_type at.inner own (found_stands older (leaves_by_tag older) rest at.c_type at.inner own at.found) member_sized in
        let found : members_by_tag (newest ∷ older) tag ≡ Some newest.members = cond-true (bytes_eq newest.tag tag) (Some newest.members) (members_by_tag older tag) test in
        subst (λ k. Within (newest ∷ older) (Struct tag) k own) (ap (λ start. start + at.inner) (sym (offset_stays newest older it.fresh newest.members at.number at.member it.members at.there)) ∙ at.stands)
        (InMember tag newest.members at.number at.member at.c_type at.inner own found at.there at.typed inner)

    in_older : IsNewest newest older → bytes_eq newest.tag tag ≡ false → Within older (Struct tag) offset own → Within (newest ∷ older) (Struct tag) offset own
    in_older it test within = within_stays newest older it.fresh it.well it.sized (Struct tag) offset own within (struct_sized older tag offset own within)

    by : IsNewest newest older → ((tag : List ℕ) (offset : ℕ) (own : CType) → leaves_by_tag older tag offset ≡ Some own → Within older (Struct tag) offset own)
        → (b : Bool) → bytes_eq newest.tag tag ≡ b → cond b (leaves_of_members (layouts older) (leaves_by_tag older) no_layout newest.members offset) (leaves_by_tag older tag offset) ≡ Some own
        → Within (newest ∷ older) (Struct tag) offset own
    by it rest true test is = in_newest it test rest (at_member (layouts older) (leaves_by_tag older) no_layout newest.members offset own is)
    by it rest false test is = in_older it test (rest tag offset own is)

pub type_stands : (structs : List StructDef) → are_structs structs ≡ true → (t : CType) (offset : ℕ) (own : CType) → leaves_in (layouts structs) (leaves_by_tag structs) t offset ≡ Some own
    → Within structs t offset own
type_stands structs well t offset own is = found_stands structs (leaves_by_tag structs) (tag_stands structs well (sized_structs structs well)) t offset own is

-- ---- a scalar within an element of a row is one of the object

module _ (structs : List StructDef) (c_type : CType) (count : ℕ) where
  leaf_within : (t : CType) (offset : ℕ) (own : CType) → Within structs t offset own → (row : Row) → RowOf structs c_type count row → (index : ℕ) → index < row.count → row.c_type ≡ t
      → LeafAt structs c_type count (element_offset structs row index + offset) own
  leaf_within t _ own (Itself _ h) row is_row index lt is =
      record { row = row; index = index; is_row = is_row; within = lt; is_own = is; scalar = h; stands = itself (element_offset structs row index) }
    where
      itself : (n : ℕ) → n + 0 ≡ n
      itself n = omega arith
  leaf_within _ _ own (InElement element n i inner _ below within) row is_row index lt is =
      let start = element_offset structs row index in
      let found = leaf_within element inner own within (record { start = start; c_type = element; count = n }) (InArray row index element n is_row lt is) i below refl in
      subst (λ k. LeafAt structs c_type count k own) (grouped start (i * size_in structs element) inner) found
    where
      grouped : (a b c : ℕ) → a + b + c ≡ a + (b + c)
      grouped a b c = omega arith
  leaf_within _ _ own (InMember tag members number member t inner _ at there typed within) row is_row index lt is =
      let start = element_offset structs row index in
      let before = offset_before (layouts structs) members number (Some member) in
      let found = leaf_within t inner own within (record { start = start + before; c_type = t; count = 1 }) (InStruct row index tag members number member t is_row lt is at there typed) 0 (omega arith) refl in
      subst (λ k. LeafAt structs c_type count k own) (grouped start before (size_in structs t) inner) found
    where
      grouped : (a b size c : ℕ) → a + b + 0 * size + c ≡ a + (b + c)
      grouped a b size c = omega arith

  pub in_object : (offset : ℕ) (own : CType) → InObject structs c_type count offset own → LeafAt structs c_type count offset own
  in_object offset own at =
      subst (λ k. LeafAt structs c_type count k own) (from_begin (at.index * size_in structs c_type) at.inner ∙ sym at.stands)
      (leaf_within c_type at.inner own at.within (whole_row c_type count) Whole at.index at.below refl)
    where
      from_begin : (a b : ℕ) → 0 + a + b ≡ a + b
      from_begin a b = omega arith

-- what is found is a scalar of the object
pub leaf_stands : (structs : List StructDef) → are_structs structs ≡ true → (c_type : CType) (count offset : ℕ) (own : CType) → leaf_at structs c_type count offset ≡ Some own
    → LeafAt structs c_type count offset own
leaf_stands structs well c_type count offset own is =
    let at = at_element (size_in structs c_type) count (leaves_in (layouts structs) (leaves_by_tag structs) c_type) offset own is in
    in_object structs c_type count offset own (record { index = at.index; inner = at.inner; below = at.below; within = type_stands structs well c_type at.inner own at.found; stands = sym at.stands })

-- ---- what stands is found

-- something is found
abbrev IsFound : Option CType → Type 0
IsFound found = is_some found ≡ true

in_elements_found : (size count : ℕ) (leaves : Leaves) (index inner : ℕ) → index < count → inner < size → IsFound (leaves inner) → IsFound (in_elements size count leaves (index * size + inner))
in_elements_found size count leaves index inner lt below found =
    let all = lt-ltb (index * size + inner) (count * size) (ends (index * size) (count * size) (element_ends size count index (suc inner) lt below)) in
    subst IsFound (sym (cond-true (nat_lt (index * size + inner) (count * size)) (leaves ((index * size + inner) % size)) None all))
    (subst (λ k. IsFound (leaves k)) (sym (mod-mul-add index size inner below)) found)
  where
    ends : (base all : ℕ) → base + suc inner ≤ all → base + inner < all
    ends base all le = omega arith

first_found : (first others : Option CType) → IsFound others → IsFound (first_leaf first others)
first_found (Some leaf) others h = refl
first_found None others h = h

here_found : (first others : Option CType) → IsFound first → IsFound (first_leaf first others)
here_found (Some leaf) others h = refl
here_found None others h = absurd (false≢true h)

module _ (table : Table) (by_tag : List ℕ → Leaves) where
  from_found : (start inner : ℕ) (leaves : Leaves) → IsFound (leaves inner) → IsFound (leaves_from start leaves (start + inner))
  from_found start inner leaves found =
      subst IsFound (sym (cond-false (nat_lt (start + inner) start) None (leaves (start + inner - start)) (le-ltb (start + inner) start (omega arith))))
      (subst (λ k. IsFound (leaves k)) behind_it found)
    where
      behind_it : inner ≡ start + inner - start
      behind_it = omega arith

  here : (front : Layout) (name : List ℕ) (known : Option CType) (members : List MemberDef) (t : CType) (inner : ℕ) → known ≡ Some t → IsFound (leaves_in table by_tag t inner)
      → IsFound (leaves_of_members table by_tag front (record { name = name; c_type = known } ∷ members) (saturated (aligned (member_layout table (record { name = name; c_type = known })).alignment front.size) + inner))
  here front name None members t inner typed found = absurd (none-some t typed)
  here front name (Some c_type) members t inner typed found =
      let start = saturated (aligned (layout_in table c_type).alignment front.size) in
      here_found (leaves_from start (leaves_in table by_tag c_type) (start + inner)) (leaves_of_members table by_tag (behind front (layout_in table c_type)) members (start + inner))
      (from_found start inner (leaves_in table by_tag c_type) (subst (λ c. IsFound (leaves_in table by_tag c inner)) (sym (same_Some c_type t typed)) found))

  behind_first : (front : Layout) (name : List ℕ) (known : Option CType) (members : List MemberDef) (offset : ℕ)
      → IsFound (leaves_of_members table by_tag (behind front (member_layout table (record { name = name; c_type = known }))) members offset)
      → IsFound (leaves_of_members table by_tag front (record { name = name; c_type = known } ∷ members) offset)
  behind_first front name None members offset found = found
  behind_first front name (Some t) members offset found =
      first_found (leaves_from (saturated (aligned (layout_in table t).alignment front.size)) (leaves_in table by_tag t) offset) (leaves_of_members table by_tag (behind front (layout_in table t)) members offset) found

  member_found : (front : Layout) (members : List MemberDef) (number : ℕ) (member : MemberDef) (t : CType) (inner : ℕ) → slice_get members number ≡ Some member → member.c_type ≡ Some t
      → IsFound (leaves_in table by_tag t inner)
      → IsFound (leaves_of_members table by_tag front members (saturated (aligned (member_layout table member).alignment (members_layout table front (take number members)).size) + inner))
  member_found front [] number member t inner there typed found = absurd (none-some member there)
  member_found front (first ∷ members) zero member t inner there typed found =
      let same = same_Some first member there in
      subst (λ (m : MemberDef). IsFound (leaves_of_members table by_tag front (first ∷ members) (saturated (aligned (member_layout table m).alignment front.size) + inner))) same
      (here front first.name first.c_type members t inner (ap (λ (m : MemberDef). m.c_type) same ∙ typed) found)
  member_found front (first ∷ members) (suc number) member t inner there typed found =
      behind_first front first.name first.c_type members (saturated (aligned (member_layout table member).alignment (members_layout table (behind front (member_layout table first)) (take number members)).size) + inner)
      (member_found (behind front (member_layout table first)) members number member t inner there typed found)

scalar_found : (structs : List StructDef) (own : CType) → is_scalar own ≡ true → IsFound (leaves_in (layouts structs) (leaves_by_tag structs) own 0)
scalar_found structs Void h = absurd (false≢true h)
scalar_found structs (Integer t) h = refl
scalar_found structs (Pointer t) h = refl
scalar_found structs (Array t n) h = absurd (false≢true h)
scalar_found structs (Struct tag) h = absurd (false≢true h)
scalar_found structs (Function t ts) h = absurd (false≢true h)

within_scalar : (structs : List StructDef) (t : CType) (offset : ℕ) (own : CType) → Within structs t offset own → is_scalar own ≡ true
within_scalar structs t _ own (Itself _ h) = h
within_scalar structs _ _ own (InElement element n index inner _ lt within) = within_scalar structs element inner own within
within_scalar structs _ _ own (InMember tag members number member t inner _ at there typed within) = within_scalar structs t inner own within

module _ (structs : List StructDef) (well : are_structs structs ≡ true) where
  sized : are_sized_structs structs ≡ true
  sized = sized_structs structs well

  -- a scalar begins before the end
  begins_below : (t : CType) (offset : ℕ) (own : CType) → Within structs t offset own → IsSmall structs t → offset < size_in structs t
  begins_below t offset own within small =
      by (size_in structs own) (size_in structs t) (scalar_size structs own (within_scalar structs t offset own within)) (within_size structs well sized t offset own within small)
    where
      by : (size all : ℕ) → 1 ≤ size → offset + size ≤ all → offset < all
      by size all one le = omega arith

  within_found : (t : CType) (offset : ℕ) (own : CType) → Within structs t offset own → IsSmall structs t → IsFound (leaves_in (layouts structs) (leaves_by_tag structs) t offset)
  within_found t _ own (Itself _ h) small = scalar_found structs t h
  within_found _ _ own (InElement element n index inner _ lt within) small =
      let element_small = small_element structs element n index lt small in
      in_elements_found (size_in structs element) n (leaves_in (layouts structs) (leaves_by_tag structs) element) index inner lt (begins_below element inner own within element_small)
      (within_found element inner own within element_small)
  within_found _ _ own (InMember tag members number member t inner _ at there typed within) small =
      subst IsFound (sym (tag_leaves structs well sized tag members at (offset_before (layouts structs) members number (Some member) + inner)))
      (member_found (layouts structs) (leaves_by_tag structs) no_layout members number member t inner there typed
      (within_found t inner own within (small_member structs well sized tag members number member t at there typed small)))

  -- a scalar of the object is found
  pub leaf_found : (c_type : CType) → IsSmall structs c_type → (count offset : ℕ) (own : CType) → LeafAt structs c_type count offset own → leaf_at structs c_type count offset ≡ Some own
  leaf_found c_type small count offset own leaf =
      by (leaf_at structs c_type count offset) refl
      (subst (λ k. IsFound (leaf_at structs c_type count k)) (sym at.stands)
      (in_elements_found (size_in structs c_type) count (leaves_in (layouts structs) (leaves_by_tag structs) c_type) at.index at.inner at.below (begins_below c_type at.inner own at.within small)
      (within_found c_type at.inner own at.within small)))
    where
      at : InObject structs c_type count offset own
      at = from_leaf structs c_type count offset own leaf

      by : (found : Option CType) → leaf_at structs c_type count offset ≡ found → IsFound found → found ≡ Some own
      by None is h = absurd (false≢true h)
      by (Some other) is h = ap Some (leaf_type structs well c_type small count offset other own (leaf_stands structs well c_type count offset other is) leaf)

  -- the scalar at a place is found
  pub place_found : (c_type : CType) → IsSmall structs c_type → (count : ℕ) (row : Row) → RowOf structs c_type count row → (index : ℕ) → index < row.count → is_scalar row.c_type ≡ true
      → leaf_at structs c_type count (element_offset structs row index) ≡ Some row.c_type
  place_found c_type small count row is_row index lt scalar =
      leaf_found c_type small count (element_offset structs row index) row.c_type (record { row = row; index = index; is_row = is_row; within = lt; is_own = refl; scalar = scalar; stands = refl })
