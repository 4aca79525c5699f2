-- Owners at their places in a list.
use Rattle.std.proofs.Common.{◌≡◌, ◌⊎◌, inl, inr, ℕ, ◌+◌, ◌<◌, true, false, List, length, get_or, Option, Some, None, sym, ap, ◌∙◌, arith}
use Rattle.std.specs.Prelude.{slice_get, is_some, Result, Ok, Err, IfOk}
use Rattle.std.proofs.lemmas.Bool.{true≢false, false≢true, cases_eq}
use Rattle.std.proofs.lemmas.Option.{none-some, same_Some, slice_get-get_or}
use Rattle.tac_ir.specs.declared.register.FunctionId.{FunctionId}

pub some_owner : (owners : List (Option FunctionId)) (at : ℕ) → at < length owners → is_some (get_or owners at None) ≡ true → (function : FunctionId) × (slice_get owners at ≡ Some (Some function))
some_owner owners at within is = by (get_or owners at None) is (slice_get-get_or owners at None within)
  where
    by : (owner : Option FunctionId) → is_some owner ≡ true → slice_get owners at ≡ Some owner → (function : FunctionId) × (slice_get owners at ≡ Some (Some function))
    by None e there = absurd (false≢true e)
    by (Some function) e there = (function, there)

pub none_owner : (owners : List (Option FunctionId)) (at : ℕ) → at < length owners → is_some (get_or owners at None) ≡ false → slice_get owners at ≡ Some None
none_owner owners at within is = by (get_or owners at None) is (slice_get-get_or owners at None within)
  where
    by : (owner : Option FunctionId) → is_some owner ≡ false → slice_get owners at ≡ Some owner → slice_get owners at ≡ Some None
    by None e there = there
    by (Some function) e there = absurd (true≢false e)

-- none of the first owners is a function
abbrev pub NoFunction : List (Option FunctionId) → ℕ → Type 0
NoFunction owners count = (place : ℕ) → place < count → (function : FunctionId) → slice_get owners place ≡ Some (Some function) → ⊥

pub none_more : (owners : List (Option FunctionId)) (count : ℕ) → NoFunction owners count → slice_get owners count ≡ Some None → NoFunction owners (count + 1)
none_more owners count before is place less function there = by (cases_eq place count)
  where
    by : (place ≡ count) ⊎ (place ≡ count → ⊥) → ⊥
    by (inl same) = none-some function (same_Some None (Some function) (sym is ∙ ap (slice_get owners) (sym same) ∙ there))
    by (inr differ) = before place (omega (arith, less, differ)) function there

pub ok_maps : {T E : Type 0} (result : Result T E) (P Q : T → Type 0) → ((x : T) → P x → Q x) → IfOk result P → IfOk result Q
ok_maps (Ok x) P Q maps h = maps x h
ok_maps (Err e) P Q maps h = h
