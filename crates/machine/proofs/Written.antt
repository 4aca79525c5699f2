-- A byte that was written, as the meaning has it.
use Rattle.std.proofs.Common.{◌≡◌, ℕ, ◌%◌, List, [], ◌∷◌, ◌++◌, Option, Some, drop, refl, sym, ap, ◌∙◌, append_assoc}
use Rattle.run_theory.specs.Runs.{Trace, Output, output_of, To}
use Rattle.run_theory.proofs.Traces.{output_of-append}
use Rattle.pcc_outside.specs.Outside.{Adds}
use Rattle.pool_isa.specs.Machine.{Activation, Heap, History, with_one, advanced}
use Rattle.machine.specs.Steps.{GoesOn, state_of}

written_more : (base : List ℕ) (trace : Trace) (byte : ℕ) (written written' : Option (List ℕ)) → written ≡ Some (base ++ output_of trace) → Adds written (byte ∷ []) written' → written' ≡ Some (base ++ output_of (trace ++ Output byte ∷ []))
written_more base trace byte written written' e adds =
    let added : written' ≡ Some (base ++ output_of trace ++ byte ∷ []) = rw e at adds in
    added ∙ ap Some (append_assoc base (output_of trace) (byte ∷ []) ∙ ap (λ o. base ++ o) (sym (output_of-append trace (Output byte ∷ []))))

-- the step that puts a byte
pub put_on : (innermost : Activation) (callers : List Activation) (heap : Heap) (history : History) (operands : List ℕ) (word byte : ℕ) (after : Activation) (input base : List ℕ) (trace : Trace) (left written written' : Option (List ℕ))
    → operands ≡ word ∷ drop 1 operands → byte ≡ word % 256 → after ≡ advanced innermost (byte ∷ drop 1 operands) → left ≡ Some input → written ≡ Some (base ++ output_of trace) → Adds written (byte ∷ []) written'
    → GoesOn (with_one operands (state_of (innermost ∷ callers) heap history input trace) (λ w rest. To (state_of (advanced innermost (w % 256 ∷ rest) ∷ callers) heap history input (trace ++ Output (w % 256) ∷ [])))) base (after ∷ callers) heap left written'
put_on innermost callers heap history operands word byte after input base trace left written written' last low is told old adds = record {
  next = state_of (advanced innermost (word % 256 ∷ drop 1 operands) ∷ callers) heap history input (trace ++ Output (word % 256) ∷ []);
  goes = ap (λ os. with_one os (state_of (innermost ∷ callers) heap history input trace) (λ w rest. To (state_of (advanced innermost (w % 256 ∷ rest) ∷ callers) heap history input (trace ++ Output (w % 256) ∷ [])))) last;
  frames = ap (λ (f : Activation). f ∷ callers) (sym (is ∙ ap (λ b. advanced innermost (b ∷ drop 1 operands)) low));
  heap_is = refl;
  left_at = (told, written_more base trace (word % 256) written written' old (rw low at adds));
}
