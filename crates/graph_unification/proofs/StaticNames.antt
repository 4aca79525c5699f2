-- What the numbers among names tell of targets.
use Rattle.std.proofs.Common.{◌≡◌, ℕ, Bool, true, false, cond, eqb, List, [], ◌∷◌, Option, Some, refl, sym, ◌∙◌, eqb-true}
use Rattle.std.specs.Prelude.{option_map}
use Rattle.std.specs.Map.{lookup, keys_of}
use Rattle.std.proofs.lemmas.Bool.{false≢true, eq-eqb}
use Rattle.heap_graph.specs.Graphs.{Target}
use Rattle.heap_graph.specs.Targets.{has_target}
use Rattle.graph_unification.specs.declared.name.NameKey.{NameKey}
use Rattle.graph_unification.specs.declared.name.NameKey.TheVariants as K
use Rattle.graph_unification.specs.Cells.{has_number}
use Rattle.graph_unification.specs.Memory.{same_key}
use Rattle.graph_unification.specs.Statics.{global_numbers, literal_numbers}

turned : (a b : ℕ) → eqb a b ≡ eqb b a
turned a b = by (eqb a b) refl
  where
    by : (t : Bool) → eqb a b ≡ t → t ≡ eqb b a
    by true e = sym (eq-eqb b a (sym (eqb-true a b e)))
    by false e = other (eqb b a) refl
      where
        other : (t : Bool) → eqb b a ≡ t → false ≡ t
        other true f = absurd (false≢true (sym e ∙ eq-eqb a b (sym (eqb-true b a f))))
        other false f = refl

-- one more entry
more : (holds : ℕ → Target) (cell : ℕ) (b c : Bool) (r : Bool) (o : Option ℕ) → b ≡ c → r ≡ has_target (option_map holds o) → cond b true r ≡ has_target (option_map holds (cond c (Some cell) o))
more holds cell true true r o e h = refl
more holds cell true false r o e h = absurd (false≢true (sym e))
more holds cell false true r o e h = absurd (false≢true e)
more holds cell false false r o e h = h

pub globals_told : (holds : ℕ → Target) (entries : List (NameKey × ℕ)) (number : ℕ)
    → has_number (global_numbers (keys_of entries)) number ≡ has_target (option_map holds (lookup (same_key (K.Global number)) entries))
globals_told holds [] number = refl
globals_told holds ((K.Local function place, cell) ∷ entries) number = globals_told holds entries number
globals_told holds ((K.Global other, cell) ∷ entries) number = more holds cell (eqb other number) (eqb number other) _ _ (turned other number) (globals_told holds entries number)
globals_told holds ((K.Literal other, cell) ∷ entries) number = globals_told holds entries number
globals_told holds ((K.Copy other, cell) ∷ entries) number = globals_told holds entries number

pub literals_told : (holds : ℕ → Target) (entries : List (NameKey × ℕ)) (number : ℕ)
    → has_number (literal_numbers (keys_of entries)) number ≡ has_target (option_map holds (lookup (same_key (K.Literal number)) entries))
literals_told holds [] number = refl
literals_told holds ((K.Local function place, cell) ∷ entries) number = literals_told holds entries number
literals_told holds ((K.Global other, cell) ∷ entries) number = literals_told holds entries number
literals_told holds ((K.Literal other, cell) ∷ entries) number = more holds cell (eqb other number) (eqb number other) _ _ (turned other number) (literals_told holds entries number)
literals_told holds ((K.Copy other, cell) ∷ entries) number = literals_told holds entries number
