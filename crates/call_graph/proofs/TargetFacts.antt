-- What classes tell of the functions that a call may reach.
use Rattle.std.proofs.Common.{◌≡◌, ℕ, ◌<◌, ◌==◌, Bool, true, false, if◌then◌else◌, List, [], ◌∷◌, length, Option, Some, None, unwrap_or, inl, inr, refl, sym, ap, subst, ◌∙◌, arith, eqb-true, eq-eqb}
use Rattle.std.specs.Prelude.{slice_get}
use Rattle.std.proofs.lemmas.Bool.{cases_lt}
use Rattle.std.proofs.lemmas.Option.{same_Some, slice_get_within}
use Rattle.c_typed.specs.declared.c_type.CType as number
use Rattle.c_typed.specs.Types.{CType}
use Rattle.c_typed.specs.Table.{type_in, IsNumberOf}
use Rattle.tac_ir.specs.declared.program.Tac as memory_tac
use Rattle.tac_ir.specs.declared.register.Register.{Register}
use Rattle.tac_ir.specs.Code.{Callee, Known, Through, Tac}
use Rattle.tac_ir.specs.Views.{tac_of}
use Rattle.call_graph.specs.RowLists.{Has}
use Rattle.call_graph.specs.Rows.{row_of}
use Rattle.call_graph.proofs.RowEdges.{row_edge, edge_row}
use Rattle.tac_ir.specs.Targets.{is_target}
use Rattle.call_graph.specs.declared.class_table.Classes.{Classes}
use Rattle.call_graph.specs.TargetLists.{IsRising, AreTargets, IsFirstTarget}
use Rattle.call_graph.specs.ClassLists.{first_at, IsFound, LinksRise, FindsFirst, members_from, AreClasses}

-- ---- calls by name

pub known_targets : (tac : Tac) (function : ℕ) → AreTargets tac (Known function) (function ∷ [])
known_targets tac function = record {
  each = λ other. (there other, here other);
  in_order = ((λ other none. absurd none), tt);
}
  where
    there : (other : ℕ) → Has (function ∷ []) other → (function == other) ≡ true
    there other (inl same) = eq-eqb function other (sym same)
    there other (inr none) = absurd none

    here : (other : ℕ) → (function == other) ≡ true → Has (function ∷ []) other
    here other is = inl (sym (eqb-true function other is))

pub known_first : (tac : Tac) (function : ℕ) → IsFirstTarget tac (Known function) (Some function)
known_first tac function = (eq-eqb function function refl, λ other lt is. let same = eqb-true function other is in absurd (omega (arith, lt, same)))

-- ---- rows in order

pub rising_row : (from : ℕ) (links : List (ℕ × ℕ)) → LinksRise links → IsRising (row_of from links)
rising_row from [] rise = tt
rising_row from (link ∷ links) rise = by (link.0 == from) (rising_row from links rise.1)
  where
    by : (b : Bool) → IsRising (row_of from links) → IsRising (if b then link.1 ∷ row_of from links else row_of from links)
    by true rest = ((λ other is. rise.0 (from, other) (row_edge from other links is)), rest)
    by false rest = rest

-- the first target is one
pub one_first_target : (tac : Tac) (callee : Callee) (a b : ℕ) → IsFirstTarget tac callee (Some a) → IsFirstTarget tac callee (Some b) → a ≡ b
one_first_target tac callee a b here there = elim (cases_lt a b) [
  | inl lt ↦ absurd (there.1 a lt here.0)
  | inr le ↦ (elim (cases_lt b a) [ inl lt ↦ absurd (here.1 b lt there.0) | inr le' ↦ omega (arith, le, le') ])
]

module _ (tac : memory_tac.Tac) (classes : Classes) (known : AreClasses tac classes) where
  same_key : (c_type : CType) (a b : number.CType) → IsNumberOf tac.types c_type a → IsNumberOf tac.types c_type b → b ≡ a
  same_key c_type a b one other = one.only b other.stands other.means

  same_type_of : (c d : CType) (own : number.CType) → IsNumberOf tac.types c own → IsNumberOf tac.types d own → c ≡ d
  same_type_of c d own one other = sym one.means ∙ other.means

  -- where a function has the number of a type for its key, a call to that type may reach it
  key_target : (c_type : CType) (own : number.CType) (pointer : Register) (function : ℕ) → IsNumberOf tac.types c_type own → slice_get known.keys function ≡ Some (Some own) → is_target (tac_of tac) (Through pointer c_type) function ≡ true
  key_target c_type own pointer function one is =
      let key = known.of_keys.key function own pointer is in
      subst (λ (t : CType). is_target (tac_of tac) (Through pointer t) function ≡ true) (same_type_of key.0 c_type own key.1 one) key.2

  target_key : (c_type : CType) (own : number.CType) (pointer : Register) (function : ℕ) → IsNumberOf tac.types c_type own → is_target (tac_of tac) (Through pointer c_type) function ≡ true → slice_get known.keys function ≡ Some (Some own)
  target_key c_type own pointer function one is =
      let key = known.of_keys.target function pointer c_type is in
      key.2 ∙ ap (λ (t : number.CType). Some (Some t)) (same_key c_type own key.0 one key.1)

  found_first : (c_type : CType) (own : number.CType) (pointer : Register) → IsNumberOf tac.types c_type own → (found : Option ℕ) → IsFound known.keys own found → IsFirstTarget (tac_of tac) (Through pointer c_type) found
  found_first c_type own pointer one (Some first) is =
      (key_target c_type own pointer first one is.0, λ function lt target. is.1 function lt (target_key c_type own pointer function one target))
  found_first c_type own pointer one None is = λ function target. is function (target_key c_type own pointer function one target)

  pub through_first : (c_type : number.CType) (pointer : Register) (found : Option ℕ) → FindsFirst tac.types c_type classes found → IsFirstTarget (tac_of tac) (Through pointer (type_in tac.types c_type)) found
  through_first c_type pointer found finds =
      found_first (type_in tac.types c_type) finds.own pointer finds.one found (subst (IsFound known.keys finds.own) (sym finds.is) (known.linked.found finds.own))

  -- ---- members

  found_members : (c_type : CType) (own : number.CType) (pointer : Register) → IsNumberOf tac.types c_type own → (found : Option ℕ) → first_at classes.firsts own ≡ found → IsFound known.keys own found
      → AreTargets (tac_of tac) (Through pointer c_type) (members_from classes.members found)
  found_members c_type own pointer one None found is = record {
    each = λ function. ((λ none. absurd none), λ target. absurd (is function (target_key c_type own pointer function one target)));
    in_order = tt;
  }
  found_members c_type own pointer one (Some first) found is =
      let links = classes.links.items in
      let row : members_from classes.members (Some first) ≡ row_of first links = ap (λ (r : Option (List ℕ)). unwrap_or r []) (known.members.row first (slice_get_within known.keys first (Some own) is.0)) in
      subst (AreTargets (tac_of tac) (Through pointer c_type)) (sym row) (record {
        each = λ function. (
          (λ has.
              let from = known.linked.from (first, function) (row_edge first function links has) in
              let equal : from.0 ≡ own = same_at from.0 from.1 in
              key_target c_type own pointer function one (from.2 ∙ ap (λ (t : number.CType). Some (Some t)) equal)),
          λ target. edge_row first function links (known.linked.linked own first function found (target_key c_type own pointer function one target)),
        );
        in_order = rising_row first links known.linked.rising;
      })
    where
      same_at : (other : number.CType) → first_at classes.firsts other ≡ Some first → other ≡ own
      same_at other at =
          let there : IsFound known.keys other (Some first) = subst (IsFound known.keys other) at (known.linked.found other) in
          same_Some other own (same_Some (Some other) (Some own) (sym there.0 ∙ is.0))

  pub through_targets : (c_type : number.CType) (pointer : Register) (found : Option ℕ) → FindsFirst tac.types c_type classes found → AreTargets (tac_of tac) (Through pointer (type_in tac.types c_type)) (members_from classes.members found)
  through_targets c_type pointer found finds =
      found_members (type_in tac.types c_type) finds.own pointer finds.one found (sym finds.is) (subst (IsFound known.keys finds.own) (sym finds.is) (known.linked.found finds.own))

  -- ---- links

  -- a function that is linked may be reached by a call that may reach the first
  pub record IsLink (pointer : Register) (first function : ℕ) : Type 0 where
    pub c_type : CType
    pub target : is_target (tac_of tac) (Through pointer c_type) function ≡ true
    pub first' : IsFirstTarget (tac_of tac) (Through pointer c_type) (Some first)

  pub link_from : (pointer : Register) (first function : ℕ) → Has classes.links.items (first, function) → IsLink pointer first function
  link_from pointer first function has =
      let from = known.linked.from (first, function) has in
      let key = known.of_keys.key function from.0 pointer from.2 in
      record {
        c_type = key.0;
        target = key.2;
        first' = found_first key.0 from.0 pointer key.1 (Some first) (subst (IsFound known.keys from.0) from.1 (known.linked.found from.0));
      }

  pub link_to : (pointer : Register) (c_type : CType) (first function : ℕ) → IsFirstTarget (tac_of tac) (Through pointer c_type) (Some first) → is_target (tac_of tac) (Through pointer c_type) function ≡ true → Has classes.links.items (first, function)
  link_to pointer c_type first function starts target =
      let key = known.of_keys.target function pointer c_type target in
      by key.0 key.1 key.2 (first_at classes.firsts key.0) refl (known.linked.found key.0)
    where
      by : (own : number.CType) → IsNumberOf tac.types c_type own → slice_get known.keys function ≡ Some (Some own) → (found : Option ℕ) → first_at classes.firsts own ≡ found → IsFound known.keys own found → Has classes.links.items (first, function)
      by own one is None found none = absurd (none function is)
      by own one is (Some other) found some =
          let same : other ≡ first = one_first_target (tac_of tac) (Through pointer c_type) other first (found_first c_type own pointer one (Some other) some) starts in
          known.linked.linked own first function (found ∙ ap Some same) is

  -- where there is a target there is a first one
  pub some_first : (pointer : Register) (c_type : CType) (function : ℕ) → is_target (tac_of tac) (Through pointer c_type) function ≡ true → (first : ℕ) × IsFirstTarget (tac_of tac) (Through pointer c_type) (Some first)
  some_first pointer c_type function target =
      let key = known.of_keys.target function pointer c_type target in
      by key.0 key.1 key.2 (first_at classes.firsts key.0) (known.linked.found key.0)
    where
      by : (own : number.CType) → IsNumberOf tac.types c_type own → slice_get known.keys function ≡ Some (Some own) → (found : Option ℕ) → IsFound known.keys own found → (first : ℕ) × IsFirstTarget (tac_of tac) (Through pointer c_type) (Some first)
      by own one is None none = absurd (none function is)
      by own one is (Some first) some = (first, found_first c_type own pointer one (Some first) some)

  -- two types that a function has are one
  pub one_type : (pointer other : Register) (c d : CType) (function : ℕ) → is_target (tac_of tac) (Through pointer c) function ≡ true → is_target (tac_of tac) (Through other d) function ≡ true → c ≡ d
  one_type pointer other c d function here there =
      let a = known.of_keys.target function pointer c here in
      let b = known.of_keys.target function other d there in
      let same : a.0 ≡ b.0 = same_Some a.0 b.0 (same_Some (Some a.0) (Some b.0) (sym a.2 ∙ b.2)) in
      same_type_of c d b.0 (subst (λ (t : number.CType). IsNumberOf tac.types c t) same a.1) b.1

  pub target_inside : (pointer : Register) (c_type : CType) (function : ℕ) → is_target (tac_of tac) (Through pointer c_type) function ≡ true → function < length tac.functions.items
  target_inside pointer c_type function target =
      let key = known.of_keys.target function pointer c_type target in
      omega (arith, slice_get_within known.keys function (Some key.0) key.2, known.of_keys.each)
