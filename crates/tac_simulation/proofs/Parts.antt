-- Members and elements of places of the reference are the parts that code finds.
use Rattle.std.proofs.Common.{◌≡◌, ℕ, ◌+◌, ◌*◌, ◌≤◌, nat_le, List, [], ◌∷◌, slice_get, Option, Some, None, refl, sym, ap, subst, ◌∙◌, arith}
use Rattle.std.proofs.lemmas.Bool.{cond-true, le-leb}
use Rattle.std.proofs.lemmas.Option.{none-some, same_Some}
use Rattle.c_typed.specs.declared.part.Part.{Part}
use Rattle.c_typed.specs.declared.part.Part.TheVariants as P
use Rattle.c_typed.specs.Types.{CType, Void, Integer, Pointer, Array, Struct, Function}
use Rattle.c_typed.specs.Layouts.{MemberDef, layouts, members_by_tag, known_members, member_type, offset_before}
use Rattle.c_typed.specs.Typed.{Program}
use Rattle.c_typed.specs.Expressions.{given}
use Rattle.c_typed.specs.Expressions as W
use Rattle.c_typed.specs.Programs.{RowType, one_of, row_within, row_at}
use Rattle.ref_semantics.specs.Values.{Name, Row, Place, first_of_row, object_place, at_index}
use Rattle.ref_semantics.specs.Store.{TypeEnvironment, offset_of, size_of, members_of, member_row, member_at, inner_row, decayed}
use Rattle.ref_semantics.specs.First.{around_of, stepped, walked, first_state}
use Rattle.ref_semantics.specs.Rows.{Whole}
use Rattle.ref_semantics.proofs.Beginning.{member_within, elements_within, StandsAs, stepped_stands}
use Rattle.tac_ir.specs.Layouts.{Inner, within, member_in, member_of, element_of, moved, part_of, parts_of}

-- the first element of a row begins where the row does
first_begins : (start size : ℕ) → start ≡ start + 0 * size
first_begins start size = omega arith

inner_at : (offset other : ℕ) (c_type : CType) → offset ≡ other → ◌≡◌ {A = Option Inner} (Some (record { offset = offset; c_type = c_type })) (Some (record { offset = other; c_type = c_type }))
inner_at offset other c_type e = ap (λ n. Some (record { offset = n; c_type = c_type })) e

module _ (around : TypeEnvironment) where
  -- ---- rows

  -- a member's row, which begins where the member is found
  record IsMemberRow (offset number : ℕ) (whole own : CType) (row : Row) : Type 0 where
    reached : member_of around.structs number (record { offset = offset; c_type = whole }) ≡ Some (record { offset = row.start; c_type = own })
    row_type : row.c_type ≡ own
    alone : row.count ≡ 1

  -- the row of a member of an element that begins at an offset
  abbrev row_of_member : ℕ → ℕ → CType → Row
  row_of_member offset number whole = member_row around offset (members_of around whole) number (slice_get (members_of around whole) number)

  -- what is known of a member that is there
  record IsIn (offset number : ℕ) (members : List MemberDef) (found : Option MemberDef) (own : CType) : Type 0 where
    reached : member_in around.structs offset number members found ≡ Some (record { offset = (member_row around offset members number found).start; c_type = own })
    row_type : (member_row around offset members number found).c_type ≡ own
    alone : (member_row around offset members number found).count ≡ 1

  is_in_typed : (offset number : ℕ) (members : List MemberDef) (name : List ℕ) (known : Option CType) (own : CType) → known ≡ Some own
      → IsIn offset number members (Some (record { name = name; c_type = known })) own
  is_in_typed offset number members name None own e = absurd (none-some own e)
  is_in_typed offset number members name (Some t) own e =
      let same = same_Some t own e in
      let start = offset + offset_before (layouts around.structs) members number (Some (record { name = name; c_type = Some t })) in
      record { reached = ap (λ c. Some (record { offset = start; c_type = c })) same; row_type = same; alone = refl }

  is_in : (offset number : ℕ) (members : List MemberDef) (found : Option MemberDef) (own : CType) → member_type found ≡ Some own → IsIn offset number members found own
  is_in offset number members None own e = absurd (none-some own e)
  is_in offset number members (Some member) own e = is_in_typed offset number members member.name member.c_type own e

  is_member_row : (offset number : ℕ) (whole own : CType) → W.member_of around.structs number whole ≡ Some own → IsMemberRow offset number whole own (row_of_member offset number whole)
  is_member_row offset number Void own is = absurd (none-some own is)
  is_member_row offset number (Integer t) own is = absurd (none-some own is)
  is_member_row offset number (Pointer t) own is = absurd (none-some own is)
  is_member_row offset number (Array t n) own is = absurd (none-some own is)
  is_member_row offset number (Function t ts) own is = absurd (none-some own is)
  is_member_row offset number (Struct tag) own is =
      let members = known_members (members_by_tag around.structs tag) in
      let at = is_in offset number members (slice_get members number) own is in
      record { reached = at.reached; row_type = at.row_type; alone = at.alone }

  -- the elements of an array, which begin where it does
  element_found : (offset index : ℕ) (whole element : CType) (n : ℕ) → whole ≡ Array element n → index ≤ n
      → element_of around.structs index (record { offset = offset; c_type = whole }) ≡ Some (record { offset = offset + index * size_of around element; c_type = element })
  element_found offset index whole element n is le =
      subst (λ t. element_of around.structs index (record { offset = offset; c_type = t }) ≡ Some (record { offset = offset + index * size_of around element; c_type = element })) (sym is)
      (cond-true (nat_le index n) (Some (record { offset = offset + index * size_of around element; c_type = element })) None (le-leb index n le))

  inner_row_is : (offset : ℕ) (whole element : CType) (n : ℕ) → whole ≡ Array element n → inner_row offset whole ≡ record { start = offset; c_type = element; count = n }
  inner_row_is offset whole element n is = ap (inner_row offset) is

  -- ---- places

  -- A member of a place's element: code finds it where its place stands, and it is one alone.
  pub record MemberReached (place : Place) (number : ℕ) (own : CType) : Type 0 where
    pub reached : member_of around.structs number (record { offset = offset_of around place; c_type = place.row.c_type }) ≡ Some (record { offset = offset_of around (member_at around place number); c_type = own })
    pub row_type : (member_at around place number).row.c_type ≡ own
    pub alone : (member_at around place number).row.count ≡ 1

  pub member_place : (place : Place) (number : ℕ) (own : CType) → W.member_of around.structs number place.row.c_type ≡ Some own → MemberReached place number own
  member_place place number own is =
      let at = is_member_row (offset_of around place) number place.row.c_type own is in
      let row = row_of_member (offset_of around place) number place.row.c_type in
      record { reached = at.reached ∙ inner_at row.start (row.start + 0 * size_of around row.c_type) own (first_begins row.start (size_of around row.c_type)); row_type = at.row_type; alone = at.alone }

  -- An array's elements: code finds them, and the array's end, where their places stand.
  pub record IsArrayPlace (place : Place) (element : CType) (n : ℕ) : Type 0 where
    pub row : (decayed around place).row ≡ record { start = offset_of around place; c_type = element; count = n }
    pub reached : (index : ℕ) → index ≤ n
        → element_of around.structs index (record { offset = offset_of around place; c_type = place.row.c_type }) ≡ Some (record { offset = offset_of around (at_index (decayed around place) index); c_type = element })
    pub elements : (index : ℕ) → index ≤ n
        → element_of around.structs index (record { offset = offset_of around place; c_type = Array element n }) ≡ Some (record { offset = offset_of around (at_index (decayed around place) index); c_type = element })

  pub array_place : (place : Place) (element : CType) (n : ℕ) → place.row.c_type ≡ Array element n → IsArrayPlace place element n
  array_place place element n is =
      let row = inner_row_is (offset_of around place) place.row.c_type element n is in
      let found = λ (index : ℕ) (le : index ≤ n). element_found (offset_of around place) index place.row.c_type element n is le
      ∙ ap (λ (r : Row). Some (record { offset = r.start + index * size_of around r.c_type; c_type = element })) (sym row) in
      record {
        row = row;
        reached = found;
        elements = λ index le. subst (λ t. element_of around.structs index (record { offset = offset_of around place; c_type = t })
            ≡ Some (record { offset = offset_of around (at_index (decayed around place) index); c_type = element })) is (found index le);
      }

  -- ---- steps of constants

  -- Where steps lead from the beginning of a row: code finds the row there.
  pub record PartsLead (parts : List Part) (name : Name) (row : Row) (found : RowType) (index : ℕ) : Type 0 where
    pub inner : Inner
    pub reached : parts_of around.structs parts (record { offset = row.start; c_type = row.c_type }) ≡ Some inner
    pub offset : (moved around.structs index inner).offset ≡ offset_of around (walked around (first_of_row name row) parts index)
    pub c_type : inner.c_type ≡ found.element
    pub row_type : (walked around (first_of_row name row) parts index).row.c_type ≡ found.element
    pub row_count : (walked around (first_of_row name row) parts index).row.count ≡ found.count

  -- a step to a row, from which others lead
  behind_step : (part : Part) (parts : List Part) (name : Name) (row next : Row) (found : RowType) (index : ℕ)
      → part_of around.structs part (record { offset = row.start; c_type = row.c_type }) ≡ Some (record { offset = next.start; c_type = next.c_type })
      → ((k : ℕ) → walked around (first_of_row name row) (part ∷ parts) k ≡ walked around (first_of_row name next) parts k)
      → PartsLead parts name next found index → PartsLead (part ∷ parts) name row found index
  behind_step part parts name row next found index leads same rest =
      record {
        inner = rest.inner;
        reached = ap (λ o. within o (parts_of around.structs parts)) leads ∙ rest.reached;
        offset = rest.offset ∙ ap (offset_of around) (sym (same index));
        c_type = rest.c_type;
        row_type = ap (λ (p : Place). p.row.c_type) (same index) ∙ rest.row_type;
        row_count = ap (λ (p : Place). p.row.count) (same index) ∙ rest.row_count;
      }

  given_parts : (first : Option RowType) (rule : RowType → Option RowType) (found : RowType) → given first rule ≡ Some found → (inner : RowType) × (first ≡ Some inner) × (rule inner ≡ Some found)
  given_parts None rule found is = absurd (none-some found is)
  given_parts (Some inner) rule found is = (inner, refl, is)

  pub parts_lead : (parts : List Part) (name : Name) (row : Row) (found : RowType) → row_at around.structs (record { element = row.c_type; count = row.count }) parts ≡ Some found → (index : ℕ)
      → PartsLead parts name row found index
  parts_lead [] name row found is index =
      let same = same_Some (record { element = row.c_type; count = row.count }) found is in
      record { inner = record { offset = row.start; c_type = row.c_type }; reached = refl; offset = refl; c_type = ap (λ (r : RowType). r.element) same; row_type = ap (λ (r : RowType). r.element) same; row_count = ap (λ (r : RowType). r.count) same }
  parts_lead (part ∷ parts) name row found is index =
      let first = given_parts (row_within around.structs (record { element = row.c_type; count = row.count }) part) (λ inner. row_at around.structs inner parts) found is in
      by part first.0 first.1 (λ next same. parts_lead parts name next found (subst (λ r. row_at around.structs r parts ≡ Some found) (sym same) first.2) index)
    where
      by : (part : Part) (inner : RowType) → row_within around.structs (record { element = row.c_type; count = row.count }) part ≡ Some inner
          → ((next : Row) → record { element = next.c_type; count = next.count } ≡ inner → PartsLead parts name next found index) → PartsLead (part ∷ parts) name row found index
      by (P.Member i number) inner is rest =
          let step = (member_within around.structs row.c_type row.count i number inner is).1 in
          let offset = row.start + i * size_of around row.c_type in
          let at = is_member_row offset number row.c_type step.0 step.1 in
          let next = row_of_member offset number row.c_type in
          behind_step (P.Member i number) parts name row next found index (at.reached ∙ ap (λ c. Some (record { offset = next.start; c_type = c })) (sym at.row_type)) (λ k. refl)
          (rest next ((λ k. record { element = at.row_type k; count = at.alone k }) ∙ step.2))
      by (P.Elements i) inner is rest =
          let array = (elements_within around.structs row.c_type row.count i inner is).1 in
          let offset = row.start + i * size_of around row.c_type in
          let same = inner_row_is offset row.c_type inner.element inner.count array in
          let next = inner_row offset row.c_type in
          behind_step (P.Elements i) parts name row next found index
          (element_found offset 0 row.c_type inner.element inner.count array (omega arith) ∙ inner_at (offset + 0 * size_of around inner.element) offset inner.element (sym (first_begins offset (size_of around inner.element)))
          ∙ ap (λ (r : Row). Some (record { offset = r.start; c_type = r.c_type })) (sym same)) (λ k. refl)
          (rest next (ap (λ (r : Row). record { element = r.c_type; count = r.count }) same))

  -- where a constant's steps lead in an object
  pub parts_place : (parts : List Part) (name : Name) (c_type : CType) (found : RowType) → row_at around.structs (one_of c_type) parts ≡ Some found → (index : ℕ)
      → (inner : Inner) × (parts_of around.structs parts (record { offset = 0; c_type = c_type }) ≡ Some inner)
      × ((moved around.structs index inner).offset ≡ offset_of around (walked around (object_place name c_type) parts index)) × (inner.c_type ≡ found.element)
  parts_place parts name c_type found is index =
      let lead = parts_lead parts name (record { start = 0; c_type = c_type; count = 1 }) found is index in
      (lead.inner, lead.reached, lead.offset, lead.c_type)

-- ---- the rows of an object to which constants' steps lead

module _ (program : Program) (root : CType) (name : Name) where
  -- the step doesn't ask for a state
  from_step : (place : Place) (row inner : RowType) (k : ℕ) (step : Part) → StandsAs program.structs root name row k place → row_within program.structs row step ≡ Some inner
      → StandsAs program.structs root name inner 0 (stepped (around_of program) place step)
  from_step = stepped_stands program (first_state program [] 0) root name

  from_place : (steps : List Part) (place : Place) (row last : RowType) (k index : ℕ) → StandsAs program.structs root name row k place → row_at program.structs row steps ≡ Some last
      → StandsAs program.structs root name last index (walked (around_of program) place steps index)
  from_place [] place row last k index stands is =
      let same = same_Some row last is in
      record {
        named = stands.named;
        is_row = stands.is_row;
        is_type = stands.is_type ∙ ap (λ (r : RowType). r.element) same;
        is_count = stands.is_count ∙ ap (λ (r : RowType). r.count) same;
        is_index = refl;
      }
  from_place (step ∷ steps) place row last k index stands is =
      let first = given_parts (around_of program) (row_within program.structs row step) (λ inner. row_at program.structs inner steps) last is in
      from_place steps (stepped (around_of program) place step) first.0 last 0 index (from_step place row first.0 k step stands first.1) first.2

  pub walked_stands : (steps : List Part) (last : RowType) (index : ℕ) → row_at program.structs (one_of root) steps ≡ Some last
      → StandsAs program.structs root name last index (walked (around_of program) (object_place name root) steps index)
  walked_stands steps last index is =
      from_place steps (object_place name root) (one_of root) last 0 index (record { named = refl; is_row = Whole; is_type = refl; is_count = refl; is_index = refl }) is
