-- Fronts of lists, and the output of a trace.
use Rattle.std.proofs.Common.{◌≡◌, List, [], ◌∷◌, ◌++◌, ap, sym, ◌∙◌, refl, append_assoc}
use Rattle.std.proofs.lemmas.List.{append-nil}
use Rattle.run_theory.specs.Runs.{Trace, Output, Called, CalledStart, Returned, Allocated, Freed, Loaded, Stored, output_of, IsPrefix, Appends}

pub prefix_refl : {X : Type 0} → (s : List X) → IsPrefix s s
prefix_refl s = ([], sym (append-nil s))

pub prefix_trans : {X : Type 0} → (a b c : List X) → IsPrefix a b → IsPrefix b c → IsPrefix a c
prefix_trans a b c p q = (p.0 ++ q.0, q.1 ∙ ap (λ l. l ++ q.0) p.1 ∙ append_assoc a p.0 q.0)

-- what stands in front of more
pub prefix_append : {X : Type 0} → (s t : List X) → IsPrefix s (s ++ t)
prefix_append s t = (t, refl)

-- a common front
pub prefix_behind : {X : Type 0} → (s a b : List X) → IsPrefix a b → IsPrefix (s ++ a) (s ++ b)
prefix_behind s a b p = (p.0, ap (λ l. s ++ l) p.1 ∙ sym (append_assoc s a p.0))

pub prefix_nil : {X : Type 0} → (s : List X) → IsPrefix [] s
prefix_nil s = (s, refl)

-- what is seen of a front is a front of what is seen
pub seen-prefix : {E C : Type 0} (seen : List E → List C) → Appends seen → (s t : List E) → IsPrefix s t → IsPrefix (seen s) (seen t)
seen-prefix seen appends s t p = (seen p.0, ap seen p.1 ∙ appends s p.0)

pub output_of-append : (s t : Trace) → output_of (s ++ t) ≡ output_of s ++ output_of t
output_of-append [] t = refl
output_of-append (Output byte ∷ s) t = ap (λ l. byte ∷ l) (output_of-append s t)
output_of-append (Called function ∷ s) t = output_of-append s t
output_of-append (CalledStart ∷ s) t = output_of-append s t
output_of-append (Returned ∷ s) t = output_of-append s t
output_of-append (Allocated object size ∷ s) t = output_of-append s t
output_of-append (Freed object ∷ s) t = output_of-append s t
output_of-append (Loaded object ∷ s) t = output_of-append s t
output_of-append (Stored object ∷ s) t = output_of-append s t

pub output_of-prefix : (s t : Trace) → IsPrefix s t → IsPrefix (output_of s) (output_of t)
output_of-prefix s t p = (output_of p.0, ap output_of p.1 ∙ output_of-append s p.0)
