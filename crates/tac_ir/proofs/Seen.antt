-- The events that the reference has, too, of traces in a row.
use Rattle.std.proofs.Common.{◌≡◌, ℕ, List, [], ◌∷◌, ◌++◌, ap, sym, ◌∙◌, refl, append_assoc}
use Rattle.std.proofs.lemmas.List.{append-nil}
use Rattle.run_theory.specs.Runs.{Appends}
use Rattle.tac_ir.specs.Events.{TacEvent, Crossed, seen_of, seen}

pub seen_append : (s t : List TacEvent) → seen (s ++ t) ≡ seen s ++ seen t
seen_append [] t = refl
seen_append (event ∷ s) t = ap (λ l. seen_of event ++ l) (seen_append s t) ∙ sym (append_assoc (seen_of event) (seen s) (seen t))

pub seen_appends : Appends seen
seen_appends = seen_append

-- an edge between points is not seen
pub seen_crossed : (trace : List TacEvent) (from to : ℕ) → seen (trace ++ Crossed from to ∷ []) ≡ seen trace
seen_crossed trace from to = seen_append trace (Crossed from to ∷ []) ∙ append-nil (seen trace)

-- what a point emits before it is left is seen behind the rest
pub seen_emitted : (trace events : List TacEvent) (from to : ℕ) → seen ((trace ++ events) ++ Crossed from to ∷ []) ≡ seen trace ++ seen events
seen_emitted trace events from to = seen_crossed (trace ++ events) from to ∙ seen_append trace events
