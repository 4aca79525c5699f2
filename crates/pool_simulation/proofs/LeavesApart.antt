-- Scalars of an object have bytes of their own within it.
use Rattle.std.proofs.Common.{◌≡◌, ℕ, zero, suc, ◌+◌, ◌-◌, ◌*◌, ◌/◌, ◌%◌, ◌<◌, ◌≤◌, ◌==◌, nat_lt, Bool, true, false, cond, List, [], ◌∷◌, Option, Some, None, refl, sym, ap, subst, ◌∙◌, ◌⊎◌, inl, inr, arith, mul-le-mul_right}
use Rattle.std.specs.Prelude.{bytes_eq}
use Rattle.std.proofs.lemmas.Bool.{false≢true, cases_lt, ltb-true, ltb-false, eqb-true}
use Rattle.std.proofs.lemmas.Option.{none-some, same_Some}
use Rattle.std.proofs.lemmas.Nat.{div-add-mod', div_below}
use Rattle.c_num.specs.declared.IntType.{IntType}
use Rattle.c_typed.specs.Types.{CType, Void, Integer, Pointer, Array, Struct, Function}
use Rattle.c_typed.specs.Layouts.{StructDef, MemberDef, Layout, Table, greatest, saturated, aligned, no_layout, layout_by_tag, layout_in, known_layout, member_layout, behind, members_layout, struct_layout, layouts}
use Rattle.c_typed.proofs.Same.{same_type-true}
use Rattle.tac_ir.specs.Values.{Value, Content, Absent, Untyped, Typed}
use Rattle.tac_ir.specs.Layouts.{Leaves, size_of, in_elements, leaves_in, leaves_from, first_leaf, leaves_of_members, leaves_by_tag, leaf_at}
use Rattle.tac_ir.specs.Objects.{is_leaf, stands_at, extent_of}
use Rattle.pool_ir.specs.Memory.{slot_size}
use Rattle.pool_rewrite.specs.Rewriting.{slot_of}
use Rattle.pool_rewrite.specs.Standing.{AreApart}
use Rattle.pool_simulation.specs.ExactTypes.{IsExact, HasExactType}
use Rattle.pool_simulation.proofs.AlignedLayouts.{aligned_above, AreAligned, aligned_known, aligned_front, aligned_layouts}

-- the bytes of a scalar of a type
abbrev pub scalar_size : CType → ℕ
scalar_size own = slot_size (slot_of own)

pub data IsScalar : CType → Type 0 where
  IntegerScalar : (int_type : IntType) → IsScalar (Integer int_type)
  PointerScalar : (target : CType) → IsScalar (Pointer target)

-- scalars lie within so many bytes, each before the next
pub record Fits (size : ℕ) (leaves : Leaves) : Type 0 where
  pub scalar : (offset : ℕ) (own : CType) → leaves offset ≡ Some own → IsScalar own
  pub within : (offset : ℕ) (own : CType) → leaves offset ≡ Some own → offset + scalar_size own ≤ size
  pub before : (offset other : ℕ) (own other_own : CType) → leaves offset ≡ Some own → leaves other ≡ Some other_own → offset < other → offset + scalar_size own ≤ other

-- ---- a scalar

pub record AtBegin (t own : CType) (offset : ℕ) : Type 0 where
  pub begins : offset ≡ 0
  pub is : t ≡ own

pub at_begin : (t own : CType) (offset : ℕ) → cond (offset == 0) (Some t) None ≡ Some own → AtBegin t own offset
at_begin t own offset is = by (offset == 0) refl is
  where
    by : (b : Bool) → (offset == 0) ≡ b → cond b (Some t) None ≡ Some own → AtBegin t own offset
    by false test is = absurd (none-some own is)
    by true test is = record { begins = eqb-true offset 0 test; is = same_Some t own is }

scalar_fits : (t : CType) (size : ℕ) → IsScalar t → scalar_size t ≤ size → Fits size (λ offset. cond (offset == 0) (Some t) None)
scalar_fits t size scalar le =
    record {
      scalar = λ offset own is. subst IsScalar (at_begin t own offset is).is scalar;
      within = λ offset own is.
          let at = at_begin t own offset is in
          ends offset (scalar_size t) (scalar_size own) at.begins (ap scalar_size at.is) le;
      before = λ offset other own other_own is other_is lt.
          absurd (not_before offset other (at_begin t own offset is).begins (at_begin t other_own other other_is).begins lt);
    }
  where
    ends : (offset whole own : ℕ) → offset ≡ 0 → whole ≡ own → whole ≤ size → offset + own ≤ size
    ends offset whole own e same le = omega arith

    not_before : (a b : ℕ) → a ≡ 0 → b ≡ 0 → a < b → ⊥
    not_before a b e e' lt = omega arith

-- ---- an array

pub record AtElement (size count : ℕ) (leaves : Leaves) (offset : ℕ) (own : CType) : Type 0 where
  pub index : ℕ
  pub inner : ℕ
  pub below : index < count
  pub found : leaves inner ≡ Some own
  pub stands : index * size + inner ≡ offset

pub at_element : (size count : ℕ) (leaves : Leaves) (offset : ℕ) (own : CType) → in_elements size count leaves offset ≡ Some own → AtElement size count leaves offset own
at_element size count leaves offset own is = by (nat_lt offset (count * size)) refl is
  where
    size_there : (size : ℕ) → offset < count * size → 0 < size
    size_there zero lt = absurd (omega arith)
    size_there (suc n) lt = omega arith

    by : (b : Bool) → nat_lt offset (count * size) ≡ b → cond b (leaves (offset % size)) None ≡ Some own → AtElement size count leaves offset own
    by false test is = absurd (none-some own is)
    by true test is =
        let lt = ltb-true offset (count * size) test in
        record {
          index = offset / size;
          inner = offset % size;
          below = div_below offset size count (size_there size lt) lt;
          found = is;
          stands = div-add-mod' offset size;
        }

-- an element ends within its row
element_ends : (size count index end : ℕ) → index < count → end ≤ size → index * size + end ≤ count * size
element_ends size count index end lt le =
    let whole : suc index * size ≤ count * size = mul-le-mul_right size lt in
    omega (arith, whole)

elements_fit : (size count : ℕ) (leaves : Leaves) → (0 < count → Fits size leaves) → Fits (count * size) (in_elements size count leaves)
elements_fit size count leaves inside =
    record {
      scalar = λ offset own is. let at = at_element size count leaves offset own is in (inside (some at.index at.below)).scalar at.inner own at.found;
      within = λ offset own is.
          let at = at_element size count leaves offset own is in
          ends at.index at.inner (scalar_size own) offset at.below at.stands ((inside (some at.index at.below)).within at.inner own at.found);
      before = λ offset other own other_own is other_is lt.
          let at = at_element size count leaves offset own is in
          let to = at_element size count leaves other other_own other_is in
          let fits = inside (some at.index at.below) in
          apart at.index to.index at.inner to.inner (scalar_size own) (scalar_size other_own) offset other at.stands to.stands
          (fits.within at.inner own at.found) (fits.within to.inner other_own to.found) (fits.before at.inner to.inner own other_own at.found to.found) lt (cases_lt at.index to.index) (cases_lt to.index at.index);
    }
  where
    some : (index : ℕ) → index < count → 0 < count
    some index lt = omega arith

    ends : (index inner own offset : ℕ) → index < count → index * size + inner ≡ offset → inner + own ≤ size → offset + own ≤ count * size
    ends index inner own offset lt e le =
        let whole = element_ends size count index (inner + own) lt le in
        omega (arith, whole)

    apart : (i j a b own other_own offset other : ℕ) → i * size + a ≡ offset → j * size + b ≡ other → a + own ≤ size → b + other_own ≤ size → (a < b → a + own ≤ b) → offset < other
        → (i < j) ⊎ (j ≤ i) → (j < i) ⊎ (i ≤ j) → offset + own ≤ other
    apart i j a b own other_own offset other e e' le le' rest lt (inl lower) order =
        let whole = element_ends size j i (a + own) lower le in
        omega (arith, whole)
    apart i j a b own other_own offset other e e' le le' rest lt (inr above) (inl higher) =
        let whole = element_ends size i j (b + other_own) higher le' in
        absurd (omega (arith, whole))
    apart i j a b own other_own offset other e e' le le' rest lt (inr above) (inr under) =
        let same : i * size ≡ j * size = ap (λ n. n * size) (both i j under above) in
        let inner = rest (omega (arith, same)) in
        omega (arith, same, inner)
      where
        both : (i j : ℕ) → i ≤ j → j ≤ i → i ≡ j
        both i j le le' = omega arith

-- ---- members

-- where a member begins, and that it ends where the next may begin
record Placed (front size own : ℕ) (start next : ℕ) : Type 0 where
  above : front ≤ start
  ends : start + own ≡ next
  small : own < greatest

-- sizes that are told exactly
placed_member : (raised front own all : ℕ) → front ≤ raised → saturated (saturated raised + own) ≤ all → all < greatest → Placed front all own (saturated raised) (saturated (saturated raised + own))
placed_member raised front own all above le small = record { above = omega arith; ends = omega arith; small = omega arith }

module _ (table : Table) (aligned_table : AreAligned table) where
  raised : (front : Layout) (member : MemberDef) → front.size ≤ aligned (member_layout table member).alignment front.size
  raised front member = aligned_above (member_layout table member).alignment front.size (aligned_known table aligned_table member.c_type).one

  -- those in front are no greater than all
  front_below : (members : List MemberDef) (front : Layout) → (members_layout table front members).size < greatest → front.size ≤ (members_layout table front members).size
  front_below [] front small = omega arith
  front_below (member ∷ members) front small =
      let own = member_layout table member in
      let rest = front_below members (behind front own) small in
      through (aligned own.alignment front.size) front.size own.size (members_layout table front (member ∷ members)).size (raised front member) rest small
    where
      through : (raised front own all : ℕ) → front ≤ raised → saturated (saturated raised + own) ≤ all → all < greatest → front ≤ all
      through raised front own all above le small = omega arith

record AtMember (table : Table) (by_tag : List ℕ → Leaves) (member : MemberDef) (start offset : ℕ) (own : CType) : Type 0 where
  c_type : CType
  inner : ℕ
  typed : member.c_type ≡ Some c_type
  found : leaves_in table by_tag c_type inner ≡ Some own
  stands : start + inner ≡ offset

first_parts : (first others : Option CType) (own : CType) → first_leaf first others ≡ Some own → (first ≡ Some own) ⊎ (others ≡ Some own)
first_parts (Some leaf) others own is = inl is
first_parts None others own is = inr is

module _ (table : Table) (by_tag : List ℕ → Leaves) where
  at_start : (member : MemberDef) (t : CType) → member.c_type ≡ Some t → (start offset : ℕ) (own : CType) → leaves_from start (leaves_in table by_tag t) offset ≡ Some own
      → AtMember table by_tag member start offset own
  at_start member t typed start offset own is = by (nat_lt offset start) refl is
    where
      behind_start : (start offset : ℕ) → start ≤ offset → start + (offset - start) ≡ offset
      behind_start start offset le = omega arith

      by : (b : Bool) → nat_lt offset start ≡ b → cond b None (leaves_in table by_tag t (offset - start)) ≡ Some own → AtMember table by_tag member start offset own
      by true test is = absurd (none-some own is)
      by false test is = record { c_type = t; inner = offset - start; typed = typed; found = is; stands = behind_start start offset (ltb-false offset start test) }

  at_first : (front : Layout) (name : List ℕ) (known : Option CType) (members : List MemberDef) (offset : ℕ) (own : CType)
      → leaves_of_members table by_tag front (record { name = name; c_type = known } ∷ members) offset ≡ Some own
      → AtMember table by_tag (record { name = name; c_type = known }) (saturated (aligned (known_layout table known).alignment front.size)) offset own
      ⊎ (leaves_of_members table by_tag (behind front (known_layout table known)) members offset ≡ Some own)
  at_first front name None members offset own is = inr is
  at_first front name (Some t) members offset own is =
      by (first_parts (leaves_from (saturated (aligned (layout_in table t).alignment front.size)) (leaves_in table by_tag t) offset)
      (leaves_of_members table by_tag (behind front (layout_in table t)) members offset) own is)
    where
      by : (leaves_from (saturated (aligned (layout_in table t).alignment front.size)) (leaves_in table by_tag t) offset ≡ Some own)
          ⊎ (leaves_of_members table by_tag (behind front (layout_in table t)) members offset ≡ Some own)
          → AtMember table by_tag (record { name = name; c_type = Some t }) (saturated (aligned (layout_in table t).alignment front.size)) offset own
          ⊎ (leaves_of_members table by_tag (behind front (layout_in table t)) members offset ≡ Some own)
      by (inl h) = inl (at_start (record { name = name; c_type = Some t }) t refl (saturated (aligned (layout_in table t).alignment front.size)) offset own h)
      by (inr h) = inr h

-- where a member begins behind others, and where the last of all ends
abbrev start_of : Table → Layout → MemberDef → ℕ
start_of table front member = saturated (aligned (member_layout table member).alignment front.size)

abbrev end_of : Table → Layout → MemberDef → List MemberDef → ℕ
end_of table front member members = (members_layout table (behind front (member_layout table member)) members).size

-- they lie behind so many bytes
record FitBehind (front size : ℕ) (leaves : Leaves) : Type 0 where
  behind : (offset : ℕ) (own : CType) → leaves offset ≡ Some own → front ≤ offset
  fits : Fits size leaves

module _ (table : Table) (aligned_table : AreAligned table) (by_tag : List ℕ → Leaves) (inside : (t : CType) → (layout_in table t).size < greatest → Fits (layout_in table t).size (leaves_in table by_tag t)) where
  -- what is found in a member is within it
  module _ (member : MemberDef) (start : ℕ) (small : (member_layout table member).size < greatest) where
    member_inside : (offset : ℕ) (own : CType) (at : AtMember table by_tag member start offset own) → Fits (member_layout table member).size (leaves_in table by_tag at.c_type)
    member_inside offset own at =
        subst (λ (size : ℕ). Fits size (leaves_in table by_tag at.c_type)) (sym (same at.c_type at.typed)) (inside at.c_type (subst (λ (size : ℕ). size < greatest) (same at.c_type at.typed) small))
      where
        same : (t : CType) → member.c_type ≡ Some t → (member_layout table member).size ≡ (layout_in table t).size
        same t typed = ap (λ known. (known_layout table known).size) typed

    member_ends : (offset : ℕ) (own : CType) → AtMember table by_tag member start offset own → offset + scalar_size own ≤ start + (member_layout table member).size
    member_ends offset own at =
        by start at.inner offset (scalar_size own) (member_layout table member).size at.stands ((member_inside offset own at).within at.inner own at.found)
      where
        by : (start inner offset own size : ℕ) → start + inner ≡ offset → inner + own ≤ size → offset + own ≤ start + size
        by start inner offset own size e le = omega arith

    member_before : (offset other : ℕ) (own other_own : CType) → AtMember table by_tag member start offset own → AtMember table by_tag member start other other_own → offset < other → offset + scalar_size own ≤ other
    member_before offset other own other_own at to lt =
        let same : to.c_type ≡ at.c_type = same_Some to.c_type at.c_type (sym to.typed ∙ at.typed) in
        let found : leaves_in table by_tag at.c_type to.inner ≡ Some other_own = ap (λ t. leaves_in table by_tag t to.inner) (sym same) ∙ to.found in
        by start at.inner to.inner offset other (scalar_size own) at.stands to.stands lt ((member_inside offset own at).before at.inner to.inner own other_own at.found found)
      where
        by : (start inner other_inner offset other own : ℕ) → start + inner ≡ offset → start + other_inner ≡ other → offset < other → (inner < other_inner → inner + own ≤ other_inner) → offset + own ≤ other
        by start inner other_inner offset other own e e' lt rest = let le = rest (omega arith) in omega (arith, le)

  module _ (front : Layout) (member : MemberDef) (members : List MemberDef) where
    abbrev all_leaves : Leaves
    all_leaves offset = leaves_of_members table by_tag front (member ∷ members) offset

    abbrev later_leaves : Leaves
    later_leaves offset = leaves_of_members table by_tag (behind front (member_layout table member)) members offset

    abbrev Where : ℕ → CType → Type 0
    Where offset own = AtMember table by_tag member (start_of table front member) offset own ⊎ (later_leaves offset ≡ Some own)

    parts : (offset : ℕ) (own : CType) → all_leaves offset ≡ Some own → Where offset own
    parts offset own is = at_first table by_tag front member.name member.c_type members offset own is

    module _ (placed : Placed front.size (end_of table front member members) (member_layout table member).size (start_of table front member) (behind front (member_layout table member)).size)
        (le : (behind front (member_layout table member)).size ≤ end_of table front member members)
        (rest : FitBehind (behind front (member_layout table member)).size (end_of table front member members) later_leaves) where
      abbrev member_from : ℕ
      member_from = start_of table front member

      abbrev member_size : ℕ
      member_size = (member_layout table member).size

      abbrev next_from : ℕ
      next_from = (behind front (member_layout table member)).size

      abbrev last_end : ℕ
      last_end = end_of table front member members

      is_behind : (offset : ℕ) (own : CType) → Where offset own → front.size ≤ offset
      is_behind offset own (inl at) = over front.size member_from at.inner offset placed.above at.stands
        where
          over : (front start inner offset : ℕ) → front ≤ start → start + inner ≡ offset → front ≤ offset
          over front start inner offset le e = omega arith
      is_behind offset own (inr is) = over front.size member_from member_size next_from offset placed.above placed.ends (rest.behind offset own is)
        where
          over : (front start own next offset : ℕ) → front ≤ start → start + own ≡ next → next ≤ offset → front ≤ offset
          over front start own next offset le e le' = omega arith

      is_scalar : (offset : ℕ) (own : CType) → Where offset own → IsScalar own
      is_scalar offset own (inl at) = (member_inside member member_from placed.small offset own at).scalar at.inner own at.found
      is_scalar offset own (inr is) = rest.fits.scalar offset own is

      is_within : (offset : ℕ) (own : CType) → Where offset own → offset + scalar_size own ≤ last_end
      is_within offset own (inl at) = through (offset + scalar_size own) member_from member_size next_from last_end (member_ends member member_from placed.small offset own at) placed.ends le
        where
          through : (place start own next end : ℕ) → place ≤ start + own → start + own ≡ next → next ≤ end → place ≤ end
          through place start own next end le e le' = omega arith
      is_within offset own (inr is) = rest.fits.within offset own is

      is_before : (offset other : ℕ) (own other_own : CType) → Where offset own → Where other other_own → offset < other → offset + scalar_size own ≤ other
      is_before offset other own other_own (inl at) (inl to) lt = member_before member member_from placed.small offset other own other_own at to lt
      is_before offset other own other_own (inl at) (inr to) lt =
          through (offset + scalar_size own) member_from member_size next_from other (member_ends member member_from placed.small offset own at) placed.ends (rest.behind other other_own to)
        where
          through : (place start own next other : ℕ) → place ≤ start + own → start + own ≡ next → next ≤ other → place ≤ other
          through place start own next other le e le' = omega arith
      is_before offset other own other_own (inr at) (inl to) lt =
          absurd (past other (scalar_size other_own) member_from member_size next_from offset (member_ends member member_from placed.small other other_own to) placed.ends (rest.behind offset own at) lt)
        where
          past : (other size start own next offset : ℕ) → other + size ≤ start + own → start + own ≡ next → next ≤ offset → offset < other → ⊥
          past other size start own next offset le e le' lt = omega arith
      is_before offset other own other_own (inr at) (inr to) lt = rest.fits.before offset other own other_own at to lt

      first_fits : FitBehind front.size last_end all_leaves
      first_fits =
          record {
            behind = λ offset own is. is_behind offset own (parts offset own is);
            fits = record {
              scalar = λ offset own is. is_scalar offset own (parts offset own is);
              within = λ offset own is. is_within offset own (parts offset own is);
              before = λ offset other own other_own is other_is lt. is_before offset other own other_own (parts offset own is) (parts other other_own other_is) lt;
            };
          }

  members_fit : (members : List MemberDef) (front : Layout) → (members_layout table front members).size < greatest
      → FitBehind front.size (members_layout table front members).size (leaves_of_members table by_tag front members)
  members_fit [] front small =
      record {
        behind = λ offset own is. absurd (none-some own is);
        fits = record {
          scalar = λ offset own is. absurd (none-some own is);
          within = λ offset own is. absurd (none-some own is);
          before = λ offset other own other_own is other_is lt. absurd (none-some own is);
        };
      }
  members_fit (member ∷ members) front small =
      let layout = member_layout table member in
      let next = behind front layout in
      let le = front_below table aligned_table members next small in
      let placed = placed_member (aligned layout.alignment front.size) front.size layout.size (members_layout table next members).size (raised table aligned_table front member) le small in
      first_fits front member members placed le (members_fit members next small)

  -- a structure ends behind its members
  struct_fits : (members : List MemberDef) → (struct_layout table members).size < greatest → Fits (struct_layout table members).size (leaves_of_members table by_tag no_layout members)
  struct_fits members small =
      let all = members_layout table no_layout members in
      let above = aligned_above all.alignment all.size (aligned_front table aligned_table members).one in
      wider all.size (struct_layout table members).size (ends all.size (aligned all.alignment all.size) above small)
      (members_fit members no_layout (below all.size (aligned all.alignment all.size) above small)).fits
    where
      ends : (size raised : ℕ) → size ≤ raised → saturated raised < greatest → size ≤ saturated raised
      ends size raised le small = omega arith

      below : (size raised : ℕ) → size ≤ raised → saturated raised < greatest → size < greatest
      below size raised le small = omega arith

      through : (a b c : ℕ) → a ≤ b → b ≤ c → a ≤ c
      through a b c le le' = omega arith

      wider : (size more : ℕ) → size ≤ more → Fits size (leaves_of_members table by_tag no_layout members) → Fits more (leaves_of_members table by_tag no_layout members)
      wider size more le fits =
          record { scalar = fits.scalar; within = λ offset own is. through (offset + scalar_size own) size more (fits.within offset own is) le; before = fits.before }

-- ---- types

no_leaves : (size : ℕ) (leaves : Leaves) → ((offset : ℕ) → leaves offset ≡ None) → Fits size leaves
no_leaves size leaves nothing =
    record {
      scalar = λ offset own is. absurd (none-some own (sym (nothing offset) ∙ is));
      within = λ offset own is. absurd (none-some own (sym (nothing offset) ∙ is));
      before = λ offset other own other_own is other_is lt. absurd (none-some own (sym (nothing offset) ∙ is));
    }

module _ (table : Table) (by_tag : List ℕ → Leaves) (tags : (tag : List ℕ) → (layout_by_tag table tag).size < greatest → Fits (layout_by_tag table tag).size (by_tag tag)) where
  type_fits : (t : CType) → (layout_in table t).size < greatest → Fits (layout_in table t).size (leaves_in table by_tag t)
  type_fits Void small = no_leaves 0 (leaves_in table by_tag Void) (λ offset. refl)
  type_fits (Integer t) small = scalar_fits (Integer t) (layout_in table (Integer t)).size (IntegerScalar t) (same (layout_in table (Integer t)).size)
    where
      same : (n : ℕ) → n ≤ n
      same n = omega arith
  type_fits (Pointer t) small = scalar_fits (Pointer t) 8 (PointerScalar t) (omega arith)
  type_fits (Array t n) small =
      let size = (layout_in table t).size in
      subst (λ (all : ℕ). Fits all (leaves_in table by_tag (Array t n))) (sym (whole size small))
      (elements_fit size n (leaves_in table by_tag t) (λ some. type_fits t (inner size some small)))
    where
      whole : (size : ℕ) → saturated (size * n) < greatest → saturated (size * n) ≡ n * size
      whole size small = omega arith

      inner : (size : ℕ) → 0 < n → saturated (size * n) < greatest → size < greatest
      inner size some small = let one = element_ends size n 0 size some (omega arith) in omega (arith, one)
  type_fits (Struct tag) small = tags tag small
  type_fits (Function t ts) small = no_leaves 0 (leaves_in table by_tag (Function t ts)) (λ offset. refl)

tag_fits : (structs : List StructDef) (tag : List ℕ) → (layout_by_tag (layouts structs) tag).size < greatest → Fits (layout_by_tag (layouts structs) tag).size (leaves_by_tag structs tag)
tag_fits [] tag small = no_leaves 0 (leaves_by_tag [] tag) (λ offset. refl)
tag_fits (newest ∷ older) tag small = by (bytes_eq newest.tag tag) small (tag_fits older tag) (struct_fits (layouts older) (aligned_layouts older) (leaves_by_tag older) (type_fits (layouts older) (leaves_by_tag older) (tag_fits older)) newest.members)
  where
    by : (b : Bool) → (cond b (struct_layout (layouts older) newest.members) (layout_by_tag (layouts older) tag)).size < greatest
        → ((layout_by_tag (layouts older) tag).size < greatest → Fits (layout_by_tag (layouts older) tag).size (leaves_by_tag older tag))
        → ((struct_layout (layouts older) newest.members).size < greatest → Fits (struct_layout (layouts older) newest.members).size (leaves_of_members (layouts older) (leaves_by_tag older) no_layout newest.members))
        → Fits (cond b (struct_layout (layouts older) newest.members) (layout_by_tag (layouts older) tag)).size
        (λ offset. cond b (leaves_of_members (layouts older) (leaves_by_tag older) no_layout newest.members offset) (leaves_by_tag older tag offset))
    by true small rest own = own small
    by false small rest own = rest small

-- ---- objects

pub leaves_fit : (structs : List StructDef) (c_type : CType) → IsExact structs c_type → (count : ℕ) → Fits (count * size_of structs c_type) (leaf_at structs c_type count)
leaves_fit structs c_type small count =
    elements_fit (size_of structs c_type) count (leaves_in (layouts structs) (leaves_by_tag structs) c_type) (λ some. type_fits (layouts structs) (leaves_by_tag structs) (tag_fits structs) c_type small)

pub leaf_scalar : (structs : List StructDef) (c_type : CType) (count offset : ℕ) (own : CType) → IsExact structs c_type → leaf_at structs c_type count offset ≡ Some own → IsScalar own
leaf_scalar structs c_type count offset own small is = (leaves_fit structs c_type small count).scalar offset own is

-- a scalar ends within its object
pub leaf_within : (structs : List StructDef) (c_type : CType) (count offset : ℕ) (own : CType) → IsExact structs c_type → leaf_at structs c_type count offset ≡ Some own
    → offset + slot_size (slot_of own) ≤ count * size_of structs c_type
leaf_within structs c_type count offset own small is = (leaves_fit structs c_type small count).within offset own is

-- two scalars have no byte in common
pub leaves_apart : (structs : List StructDef) (c_type : CType) (count offset other : ℕ) (own other_own : CType) → IsExact structs c_type
    → leaf_at structs c_type count offset ≡ Some own → leaf_at structs c_type count other ≡ Some other_own
    → (offset ≡ other) ⊎ AreApart offset (slot_size (slot_of own)) other (slot_size (slot_of other_own))
leaves_apart structs c_type count offset other own other_own small is other_is = by (cases_lt offset other) (cases_lt other offset)
  where
    fits : Fits (count * size_of structs c_type) (leaf_at structs c_type count)
    fits = leaves_fit structs c_type small count

    both : (a b : ℕ) → a ≤ b → b ≤ a → a ≡ b
    both a b le le' = omega arith

    by : (offset < other) ⊎ (other ≤ offset) → (other < offset) ⊎ (offset ≤ other) → (offset ≡ other) ⊎ AreApart offset (slot_size (slot_of own)) other (slot_size (slot_of other_own))
    by (inl lt) order = inr (inl (fits.before offset other own other_own is other_is lt))
    by (inr above) (inl lt) = inr (inr (fits.before other offset other_own own other_is is lt))
    by (inr above) (inr under) = inl (both offset other under above)

-- ---- where a scalar of a type stands

pub is_leaf-true : (found : Option CType) (scalar : CType) → is_leaf found scalar ≡ true → found ≡ Some scalar
is_leaf-true None scalar h = absurd (false≢true h)
is_leaf-true (Some leaf) scalar h = ap Some (same_type-true leaf scalar h)

-- what is there, where a scalar of a type stands in it
pub record StandsIn (structs : List StructDef) (scalar : CType) (offset : ℕ) (content : Content) : Type 0 where
  pub c_type : CType
  pub count : ℕ
  pub held : ℕ → Option Value
  pub is : content ≡ Typed c_type count held
  pub leaf : leaf_at structs c_type count offset ≡ Some scalar

pub stands_in : (structs : List StructDef) (scalar : CType) (offset : ℕ) (content : Content) → stands_at structs scalar offset content ≡ true → StandsIn structs scalar offset content
stands_in structs scalar offset Absent h = absurd (false≢true h)
stands_in structs scalar offset (Untyped size) h = absurd (false≢true h)
stands_in structs scalar offset (Typed c_type count held) h = record { c_type = c_type; count = count; held = held; is = refl; leaf = is_leaf-true (leaf_at structs c_type count offset) scalar h }

-- it ends within the object
pub stands_within : (structs : List StructDef) (scalar : CType) (offset : ℕ) (content : Content) → HasExactType structs content → stands_at structs scalar offset content ≡ true
    → offset + slot_size (slot_of scalar) ≤ extent_of structs content
stands_within structs scalar offset Absent small h = absurd (false≢true h)
stands_within structs scalar offset (Untyped size) small h = absurd (false≢true h)
stands_within structs scalar offset (Typed c_type count held) small h = leaf_within structs c_type count offset scalar small (is_leaf-true (leaf_at structs c_type count offset) scalar h)

-- and is one of an integer or a pointer
pub stands_scalar : (structs : List StructDef) (scalar : CType) (offset : ℕ) (content : Content) → HasExactType structs content → stands_at structs scalar offset content ≡ true → IsScalar scalar
stands_scalar structs scalar offset Absent small h = absurd (false≢true h)
stands_scalar structs scalar offset (Untyped size) small h = absurd (false≢true h)
stands_scalar structs scalar offset (Typed c_type count held) small h = leaf_scalar structs c_type count offset scalar small (is_leaf-true (leaf_at structs c_type count offset) scalar h)

-- apart from each other scalar of the object
pub stands_apart : (structs : List StructDef) (scalar : CType) (offset : ℕ) (c_type : CType) (count : ℕ) (held : ℕ → Option Value) → IsExact structs c_type → stands_at structs scalar offset (Typed c_type count held) ≡ true
    → (other : ℕ) (own : CType) → leaf_at structs c_type count other ≡ Some own → (offset ≡ other) ⊎ AreApart offset (slot_size (slot_of scalar)) other (slot_size (slot_of own))
stands_apart structs scalar offset c_type count held small h other own leaf =
    leaves_apart structs c_type count offset other scalar own small (is_leaf-true (leaf_at structs c_type count offset) scalar h) leaf
