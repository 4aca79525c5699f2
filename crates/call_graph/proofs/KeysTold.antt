-- Keys tell the types of the functions whose address is taken.
use Rattle.std.proofs.Common.{◌≡◌, ℕ, ◌+◌, ◌<◌, ◌⊎◌, Bool, true, false, if◌then◌else◌, List, [], ◌∷◌, ◌++◌, length, Option, Some, None, option_map, inl, inr, refl, sym, ap, subst, ◌∙◌, arith, length-append}
use Rattle.std.specs.Prelude.{slice_get}
use Rattle.std.proofs.lemmas.Bool.{false≢true, and_parts, and_from, cases_lt}
use Rattle.std.proofs.lemmas.Option.{none-some, same_Some, slice_get-map, slice_get_within}
use Rattle.c_typed.specs.declared.c_type.CType as number
use Rattle.c_typed.specs.Types.{CType, same_type}
use Rattle.c_typed.specs.Table.{type_in, IsNumberOf}
use Rattle.c_typed.proofs.Same.{same_type-refl, same_type-true}
use Rattle.tac_ir.specs.declared.program.Function as memory_function
use Rattle.tac_ir.specs.declared.program.Tac as memory_tac
use Rattle.tac_ir.specs.declared.register.Register.{Register}
use Rattle.tac_ir.specs.Code.{Through}
use Rattle.tac_ir.specs.Views.{function_in, tac_of}
use Rattle.tac_ir.specs.Targets.{is_taken, has_type, is_target}
use Rattle.call_graph.specs.ClassLists.{AreKeys, IsKey, AreFirstKeys}
use Rattle.call_graph.proofs.RowLists.{some_at}
use Rattle.call_graph.proofs.RowPlaces.{keep_more, last_more}

pub no_keys : (tac : memory_tac.Tac) (keys : List (Option number.CType)) → keys ≡ [] → AreFirstKeys tac 0 keys
no_keys tac keys is = record { each = ap length is; key = λ at function lt there. absurd (omega (arith, lt)) }

pub one_key : (tac : memory_tac.Tac) (at : ℕ) (keys more : List (Option number.CType)) (function : memory_function.Function) (key : Option number.CType) → AreFirstKeys tac at keys → slice_get tac.functions.items at ≡ Some function
    → IsKey tac function at key → more ≡ keys ++ key ∷ [] → (next : ℕ) → next ≡ at + 1 → AreFirstKeys tac next more
one_key tac at keys more function key known there own e next is = record {
  each = ap length e ∙ (length-append keys (key ∷ []) ∙ omega (arith, known.each, is));
  key = λ other function' lt found. elim (split other (omega (arith, lt, is))) [
    | inl before ↦ (let was = known.key other function' before found in (was.0, ap (λ l. slice_get l other) e ∙ keep_more keys key other was.0 was.1, was.2))
    | inr same ↦ (
      key,
      ap (λ l. slice_get l other) e ∙ (ap (slice_get (keys ++ key ∷ [])) (same ∙ sym known.each) ∙ last_more keys key),
      subst (λ (f : memory_function.Function). IsKey tac f other key) (same_Some function function' (sym there ∙ (ap (slice_get tac.functions.items) (sym same) ∙ found)))
          (subst (λ (n : ℕ). IsKey tac function n key) (sym same) own),
    )
  ];
}
  where
    split : (other : ℕ) → other < at + 1 → (other < at) ⊎ (other ≡ at)
    split other lt = elim (cases_lt other at) [ inl less ↦ inl less | inr le ↦ inr (omega (arith, lt, le)) ]

module _ (tac : memory_tac.Tac) (keys : List (Option number.CType)) (known : AreFirstKeys tac (length tac.functions.items) keys) where
  there : (at : ℕ) → at < length tac.functions.items → (function : memory_function.Function) × (slice_get tac.functions.items at ≡ Some function)
  there at lt = some_at tac.functions.items at lt

  -- a call through a pointer reaches it where its type is the call's
  typed : (at : ℕ) (function : memory_function.Function) (c_type : CType) → slice_get tac.functions.items at ≡ Some function → has_type c_type (slice_get (tac_of tac).functions at) ≡ same_type (type_in tac.types function.c_type) c_type
  typed at function c_type is = ap (has_type c_type) (slice_get-map (function_in tac.types) tac.functions.items at ∙ ap (option_map (function_in tac.types)) is)

  key_of : (at : ℕ) (own : number.CType) (pointer : Register) → slice_get keys at ≡ Some (Some own)
      → (c_type : CType) × IsNumberOf tac.types c_type own × (is_target (tac_of tac) (Through pointer c_type) at ≡ true)
  key_of at own pointer is =
      let lt : at < length tac.functions.items = omega (arith, slice_get_within keys at (Some own) is, known.each) in
      let found = there at lt in
      let key = known.key at found.0 lt found.1 in
      by found.0 found.1 key.0 key.2 (is_taken (tac_of tac) at) refl (sym key.2.is ∙ same_Some key.0 (Some own) (sym key.1 ∙ is))
    where
      by : (function : memory_function.Function) → slice_get tac.functions.items at ≡ Some function → (own_key : Option number.CType) (key : IsKey tac function at own_key) → (b : Bool) → is_taken (tac_of tac) at ≡ b → (if b then Some key.own else None) ≡ Some own
          → (c_type : CType) × IsNumberOf tac.types c_type own × (is_target (tac_of tac) (Through pointer c_type) at ≡ true)
      by function is' own_key key false taken e = absurd (none-some own e)
      by function is' own_key key true taken e = (
        type_in tac.types function.c_type,
        subst (λ (t : number.CType). IsNumberOf tac.types (type_in tac.types function.c_type) t) (same_Some key.own own e) key.one,
        and_from (is_taken (tac_of tac) at) _ taken (typed at function (type_in tac.types function.c_type) is' ∙ same_type-refl (type_in tac.types function.c_type)),
      )

  target_of : (at : ℕ) (pointer : Register) (c_type : CType) → is_target (tac_of tac) (Through pointer c_type) at ≡ true → (own : number.CType) × IsNumberOf tac.types c_type own × (slice_get keys at ≡ Some (Some own))
  target_of at pointer c_type is = by (slice_get tac.functions.items at) refl
    where
      parts : (is_taken (tac_of tac) at ≡ true) × (has_type c_type (slice_get (tac_of tac).functions at) ≡ true)
      parts = and_parts (is_taken (tac_of tac) at) (has_type c_type (slice_get (tac_of tac).functions at)) is

      by : (found : Option memory_function.Function) → slice_get tac.functions.items at ≡ found → (own : number.CType) × IsNumberOf tac.types c_type own × (slice_get keys at ≡ Some (Some own))
      by None none =
          absurd (false≢true (sym (ap (has_type c_type) (slice_get-map (function_in tac.types) tac.functions.items at ∙ ap (option_map (function_in tac.types)) none)) ∙ parts.1))
      by (Some function) some =
          let key = known.key at function (slice_get_within tac.functions.items at function some) some in
          let same : type_in tac.types function.c_type ≡ c_type = same_type-true (type_in tac.types function.c_type) c_type (sym (typed at function c_type some) ∙ parts.1) in
          let is_key : key.0 ≡ Some key.2.own = key.2.is ∙ ap (λ (b : Bool). if b then Some key.2.own else None) parts.0 in
          (key.2.own, subst (λ (t : CType). IsNumberOf tac.types t key.2.own) same key.2.one, key.1 ∙ ap Some is_key)

  pub keys_told : AreKeys tac keys
  keys_told = record { each = known.each; key = key_of; target = target_of }
