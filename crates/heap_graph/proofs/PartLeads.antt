-- Where the parts at a slot of a type lie.
use Rattle.std.proofs.Common.{◌≡◌, ℕ, ◌-◌, true, false, List, Some, None, sym, ap, subst, ◌∙◌, arith}
use Rattle.std.specs.Prelude.{◌==◌}
use Rattle.std.proofs.lemmas.Bool.{and_parts, eqb-true}
use Rattle.c_typed.specs.declared.c_type.CType as number
use Rattle.c_typed.specs.Types.{CType, Array, Struct, is_array, is_struct}
use Rattle.c_typed.specs.Layouts.{layouts}
use Rattle.c_typed.specs.Table.{Interned, Stands, type_in, structs_in}
use Rattle.heap_graph.specs.Structures.{AreMade}
use Rattle.heap_graph.specs.Parts.{alike, begins, has_part}
use Rattle.heap_graph.proofs.PartsNest.{Itself, found, descends}
use Rattle.heap_graph.specs.Searching.{Leads, IsMemberOver}
use Rattle.heap_graph.proofs.Heights.{member_lower}
use Rattle.heap_graph.proofs.PartSearch.{alike_arrays, alike_lengths, no_parts, in_element, no_member}

module _ (table : Interned) (made : AreMade (structs_in table)) (own : CType) (slot : ℕ) where
  pub lead_member : (tag : List ℕ) → own ≡ Struct tag → (t : number.CType) (front : ℕ) → IsMemberOver table tag slot (Some (t, front)) → Leads table own slot (Some (t, slot - front))
  lead_member tag is t front member =
      subst (λ o. Leads table o slot (Some (t, slot - front))) (sym is) (
        member.0,
        member_lower (structs_in table) made tag member.1.members member.1.has (layouts (structs_in table)) 0 front (type_in table t) member.1.member,
        λ part some differs.
            descends (structs_in table) made tag member.1.members member.1.has front (type_in table t) member.1.member slot part member.1.from member.1.to some differs,
      )

  pub lead_no_member : (tag : List ℕ) → own ≡ Struct tag → IsMemberOver table tag slot None → Leads table own slot None
  lead_no_member tag is none = subst (λ o. Leads table o slot None) (sym is) (λ part some differs. no_member (structs_in table) made tag slot none part some differs)

  pub lead_element : (t : number.CType) (n : ℕ) → own ≡ Array (type_in table t) n → Stands table t → Leads table own slot (Some (t, slot))
  lead_element t n is stands =
      subst (λ o. Leads table o slot (Some (t, slot))) (sym is)
      (stands, omega arith, λ part some differs. in_element (structs_in table) (type_in table t) n slot part differs)

  pub lead_nowhere : is_array own ≡ false → is_struct own ≡ false → Leads table own slot None
  lead_nowhere array struct = λ part some differs. no_parts (structs_in table) made own array struct slot part differs

  pub begins_has : (part : CType) → begins own slot part ≡ true → has_part (structs_in table) own slot part ≡ true
  begins_has part h =
      let both = and_parts (slot == 0) (alike own part) h in
      found (structs_in table) made own slot part (Itself own slot part (eqb-true slot 0 both.0) both.1)

-- ---- arrays

pub arrays_alike : (x y a b : CType) (n m : ℕ) → x ≡ Array a n → y ≡ Array b m → n ≡ m → alike x y ≡ alike a b
arrays_alike x y a b n m e f same = ap (λ z. alike z y) e ∙ ap (alike (Array a n)) f ∙ alike_arrays a b n m same

pub arrays_differ : (x y a b : CType) (n m : ℕ) → x ≡ Array a n → y ≡ Array b m → (n ≡ m → ⊥) → alike x y ≡ false
arrays_differ x y a b n m e f differ = ap (λ z. alike z y) e ∙ ap (alike (Array a n)) f ∙ alike_lengths a b n m differ
