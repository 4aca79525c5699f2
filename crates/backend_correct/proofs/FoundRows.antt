-- Steps of constants lead to rows of an object, past places that lie within it.
use Rattle.std.proofs.Common.{◌≡◌, ℕ, ◌+◌, ◌*◌, ◌<◌, ◌≤◌, nat_le, true, List, [], ◌∷◌, slice_get, Option, Some, None, refl, sym, ap, subst, ◌∙◌, arith}
use Rattle.std.proofs.lemmas.Bool.{cond-true, le-leb, ltb-true}
use Rattle.std.proofs.lemmas.Option.{none-some, same_Some}
use Rattle.c_typed.specs.declared.part.Part.{Part}
use Rattle.c_typed.specs.declared.part.Part.TheVariants as P
use Rattle.c_typed.specs.Types.{CType, Array}
use Rattle.c_typed.specs.Layouts.{StructDef, MemberDef, greatest, layouts, known_members, offset_before}
use Rattle.c_typed.specs.Expressions.{given}
use Rattle.c_typed.specs.Programs.{RowType, row_within, row_at, are_structs}
use Rattle.ref_semantics.specs.Values.{Row}
use Rattle.ref_semantics.specs.Rows.{RowOf, InArray, InStruct, IsSmall, size_in, element_offset}
use Rattle.ref_semantics.proofs.Beginning.{member_within, elements_within}
use Rattle.ref_semantics.proofs.WellTyped.{FoundMember, found_member}
use Rattle.tac_ir.specs.Layouts.{Inner, within, member_in, member_of, element_of, moved, part_of, parts_of}
use Rattle.tac_simulation.proofs.Extents.{place_within}
use Rattle.pool_rewrite.specs.Firsts.{part_index, PartsFit}

-- where a row begins, and what it is a row of
abbrev pub begin_of : Row → Inner
begin_of row = record { offset = row.start; c_type = row.c_type }

abbrev pub type_of : Row → RowType
type_of row = record { element = row.c_type; count = row.count }

-- ---- members and elements

typed_member : (structs : List StructDef) (offset number : ℕ) (members : List MemberDef) (name : List ℕ) (known : Option CType) (t : CType) → known ≡ Some t
    → member_in structs offset number members (Some (record { name = name; c_type = known }))
    ≡ Some (record { offset = offset + offset_before (layouts structs) members number (Some (record { name = name; c_type = known })); c_type = t })
typed_member structs offset number members name None t e = absurd (none-some t e)
typed_member structs offset number members name (Some own) t e =
    ap (λ c. Some (record { offset = offset + offset_before (layouts structs) members number (Some (record { name = name; c_type = Some own })); c_type = c })) (same_Some own t e)

member_reached : (structs : List StructDef) (offset number : ℕ) (own t : CType) (found : FoundMember structs number own t)
    → member_of structs number (record { offset = offset; c_type = own })
    ≡ Some (record { offset = offset + offset_before (layouts structs) found.members number (Some found.member); c_type = t })
member_reached structs offset number own t found =
    ap (λ c. member_of structs number (record { offset = offset; c_type = c })) found.is_struct
    ∙ ap (λ known. member_in structs offset number (known_members known) (slice_get (known_members known) number)) found.at
    ∙ ap (member_in structs offset number found.members) found.there
    ∙ typed_member structs offset number found.members found.member.name found.member.c_type t found.typed

elements_reached : (structs : List StructDef) (offset : ℕ) (own element : CType) (n : ℕ) → own ≡ Array element n
    → element_of structs 0 (record { offset = offset; c_type = own }) ≡ Some (record { offset = offset; c_type = element })
elements_reached structs offset own element n is =
    ap (λ c. element_of structs 0 (record { offset = offset; c_type = c })) is
    ∙ cond-true (nat_le 0 n) (Some (record { offset = offset + 0 * size_in structs element; c_type = element })) None (le-leb 0 n (omega arith))
    ∙ ap (λ k. Some (record { offset = k; c_type = element })) (at_begin (size_in structs element))
  where
    at_begin : (size : ℕ) → offset + 0 * size ≡ offset
    at_begin size = omega arith

-- ---- the rows of an object whose size is told exactly

module _ (structs : List StructDef) (well : are_structs structs ≡ true) (root : CType) (small : IsSmall structs root) where
  -- a place in a row lies before the greatest size
  place_fits : (row : Row) → RowOf structs root 1 row → (index : ℕ) → index ≤ row.count → (moved structs index (begin_of row)).offset ≤ greatest
  place_fits row is_row index le = by (element_offset structs row index) (size_in structs root) greatest (place_within structs well root small 1 row is_row index le) small
    where
      by : (offset size most : ℕ) → offset ≤ 1 * size → size < most → offset ≤ most
      by offset size most le lt = omega arith

  -- a row to which a step leads
  record StepFound (row : Row) (part : Part) (found : RowType) : Type 0 where
    next : Row
    is_row : RowOf structs root 1 next
    reached : part_of structs part (begin_of row) ≡ Some (begin_of next)
    row_type : type_of next ≡ found
    below : part_index part < row.count

  step_found : (row : Row) → RowOf structs root 1 row → (part : Part) (found : RowType) → row_within structs (type_of row) part ≡ Some found → StepFound row part found
  step_found row is_row (P.Member index number) found is =
      let parts = member_within structs row.c_type row.count index number found is in
      let member = found_member structs number row.c_type parts.1.0 parts.1.1 in
      let lt = ltb-true index row.count parts.0 in
      record {
        next = record { start = element_offset structs row index + offset_before (layouts structs) member.members number (Some member.member); c_type = parts.1.0; count = 1 };
        is_row = InStruct row index member.tag member.members number member.member parts.1.0 is_row lt member.is_struct member.at member.there member.typed;
        reached = member_reached structs (element_offset structs row index) number row.c_type parts.1.0 member;
        row_type = parts.1.2;
        below = lt;
      }
  step_found row is_row (P.Elements index) found is =
      let parts = elements_within structs row.c_type row.count index found is in
      let lt = ltb-true index row.count parts.0 in
      record {
        next = record { start = element_offset structs row index; c_type = found.element; count = found.count };
        is_row = InArray row index found.element found.count is_row lt parts.1;
        reached = elements_reached structs (element_offset structs row index) row.c_type found.element found.count parts.1;
        row_type = refl;
        below = lt;
      }

  -- a row to which steps lead
  pub record RowFound (row : Row) (parts : List Part) (found : RowType) : Type 0 where
    pub last : Row
    pub is_row : RowOf structs root 1 last
    pub reached : parts_of structs parts (begin_of row) ≡ Some (begin_of last)
    pub row_type : type_of last ≡ found
    pub fit : (index : ℕ) → index ≤ found.count → PartsFit structs parts index (begin_of row)

  pub row_found : (parts : List Part) (row : Row) → RowOf structs root 1 row → (found : RowType) → row_at structs (type_of row) parts ≡ Some found → RowFound row parts found
  row_found [] row is_row found is =
      let same = same_Some (type_of row) found is in
      record {
        last = row;
        is_row = is_row;
        reached = refl;
        row_type = same;
        fit = λ index le. place_fits row is_row index (subst (λ (r : RowType). index ≤ r.count) (sym same) le);
      }
  row_found (part ∷ parts) row is_row found is = by (row_within structs (type_of row) part) refl is (λ next is_next at. row_found parts next is_next found at)
    where
      at_most : (a b : ℕ) → a < b → a ≤ b
      at_most a b lt = omega (arith, lt)

      by : (known : Option RowType) → row_within structs (type_of row) part ≡ known → given known (λ inner. row_at structs inner parts) ≡ Some found
          → ((next : Row) → RowOf structs root 1 next → row_at structs (type_of next) parts ≡ Some found → RowFound next parts found) → RowFound row (part ∷ parts) found
      by None at is rest = absurd (none-some found is)
      by (Some inner) at is rest =
          let step = step_found row is_row part inner at in
          let others = rest step.next step.is_row (subst (λ r. row_at structs r parts ≡ Some found) (sym step.row_type) is) in
          record {
            last = others.last;
            is_row = others.is_row;
            reached = ap (λ o. within o (parts_of structs parts)) step.reached ∙ others.reached;
            row_type = others.row_type;
            fit = λ index le. (
              place_fits row is_row (part_index part) (at_most (part_index part) row.count step.below),
              λ next there. subst (λ o. PartsFit structs parts index o) (same_Some (begin_of step.next) next (sym step.reached ∙ there)) (others.fit index le),
            );
          }
