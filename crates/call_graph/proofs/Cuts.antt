-- Lists that are cut shorter from their ends.
use Rattle.std.proofs.Common.{◌≡◌, ℕ, zero, suc, ◌<◌, List, [], ◌∷◌, ◌++◌, Some, sym, ap, ◌∙◌, append_assoc, append-nil, arith}
use Rattle.std.specs.Prelude.{slice_get}
use Rattle.std.proofs.lemmas.Option.{none-some, same_Some}
use Rattle.call_graph.specs.Searches.{IsCut}

pub not_cut : (place : ℕ) (whole : List ℕ) → IsCut place whole whole
not_cut place whole = record { left_out = []; is = sym (append-nil whole); above = λ at start is. absurd (none-some start is) }

pub cut_further : (place : ℕ) (whole front rest : List ℕ) (last : ℕ) → IsCut place whole front → front ≡ rest ++ last ∷ [] → place < last → IsCut place whole rest
cut_further place whole front rest last cut e lt = record {
  left_out = last ∷ cut.left_out;
  is = cut.is ∙ (ap (λ list. list ++ cut.left_out) e ∙ append_assoc rest (last ∷ []) cut.left_out);
  above = by;
}
  where
    by : (at start : ℕ) → slice_get (last ∷ cut.left_out) at ≡ Some start → place < start
    by zero start is = let same = same_Some last start is in omega (arith, lt, same)
    by (suc at) start is = cut.above at start is
