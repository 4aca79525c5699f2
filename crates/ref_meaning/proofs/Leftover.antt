-- The expressions that a case leaves over.
use Rattle.std.proofs.Common.{◌≡◌, ◌⊎◌, inl, inr, refl, sym, ap, subst, ◌∙◌}
use Rattle.c_typed.specs.declared.typed.Value.{Value, roll-Value, roll-out-Value}
use Rattle.c_typed.specs.declared.typed.Value.TheVariants as V
use Rattle.c_typed.specs.Table.{Interned}
use Rattle.c_typed.specs.Views.{value_in}
use Rattle.ref_semantics.specs.Parts.{value_entry}
use Rattle.ref_meaning.specs.Doing.{IsAwaited, IsAssignment}

-- an assignment
pub is-assignment : (table : Interned) (v : Value)
    → ((place : _) × (object : _) × (value : _) × (v ≡ V.Assign place object value))
    ⊎ (((op : _) × (place : _) × (object_type : _) × (int_type : _) × (object : _) × (value : _) × (v ≡ V.AssignArithmetic op place object_type int_type object value))
    ⊎ ((is_minus : _) × (place : _) × (object : _) × (number : _) × (v ≡ V.AssignMoved is_minus place object number)))
    → IsAssignment (value_in table v)
is-assignment table v (inl (place, object, value, is)) = subst (λ x. IsAssignment (value_in table x)) (sym is) tt
is-assignment table v (inr (inl (op, place, object_type, int_type, object, value, is))) = subst (λ x. IsAssignment (value_in table x)) (sym is) tt
is-assignment table v (inr (inr (is_minus, place, object, number, is))) = subst (λ x. IsAssignment (value_in table x)) (sym is) tt

-- it waits for another
pub awaited-value : (table : Interned) (v : Value)
    → ((int_type : _) (value : _) → v ≡ V.Constant int_type value → ⊥)
    → (v ≡ V.NullPointer → ⊥)
    → ((inner : _) → v ≡ V.Grouped inner → ⊥)
    → ((operand : _) → v ≡ V.Plus operand → ⊥)
    → ((value : _) → v ≡ V.Cast value → ⊥)
    → ((value : _) → v ≡ V.CastVoid value → ⊥)
    → ((function : _) → v ≡ V.FunctionValue function → ⊥)
    → ((function : _) → v ≡ V.AddressOfFunction function → ⊥)
    → ((place : _) (object : _) → v ≡ V.AddressOf place object → ⊥)
    → ((function : _) (groups : _) (place : _) (arguments : _) → v ≡ V.LibraryCall function groups place arguments → ⊥)
    → IsAwaited (value_entry (value_in table v))
awaited-value table (V.Constant int_type value) h _ _ _ _ _ _ _ _ _ = absurd (h int_type value refl)
awaited-value table V.NullPointer _ h _ _ _ _ _ _ _ _ = absurd (h refl)
awaited-value table (V.Grouped' p inner) _ _ h _ _ _ _ _ _ _ = absurd (h _ (sym (roll-out-Value (V.Grouped' p inner)) ∙ ap roll-Value (V.outs-Grouped' p inner) ∙ V.rolls-Grouped _))
awaited-value table (V.Read' place p object) _ _ _ _ _ _ _ _ _ _ = tt
awaited-value table (V.Decay' place p object) _ _ _ _ _ _ _ _ _ _ = tt
awaited-value table (V.FunctionValue' p function) _ _ _ _ _ _ h _ _ _ = absurd (h _ (sym (roll-out-Value (V.FunctionValue' p function)) ∙ ap roll-Value (V.outs-FunctionValue' p function) ∙ V.rolls-FunctionValue _))
awaited-value table (V.Converted' int_type p value) _ _ _ _ _ _ _ _ _ _ = tt
awaited-value table (V.Repointed' place target p value) _ _ _ _ _ _ _ _ _ _ = tt
awaited-value table (V.MadeNull' target p value) _ _ _ _ _ _ _ _ _ _ = tt
awaited-value table (V.Tested' place p value) _ _ _ _ _ _ _ _ _ _ = tt
awaited-value table (V.Plus' p operand) _ _ _ h _ _ _ _ _ _ = absurd (h _ (sym (roll-out-Value (V.Plus' p operand)) ∙ ap roll-Value (V.outs-Plus' p operand) ∙ V.rolls-Plus _))
awaited-value table (V.Minus' place int_type p operand) _ _ _ _ _ _ _ _ _ _ = tt
awaited-value table (V.Complement' int_type p operand) _ _ _ _ _ _ _ _ _ _ = tt
awaited-value table (V.Not' p operand) _ _ _ _ _ _ _ _ _ _ = tt
awaited-value table (V.Arithmetic' op place int_type p left q right) _ _ _ _ _ _ _ _ _ _ = tt
awaited-value table (V.Compare' relation p left q right) _ _ _ _ _ _ _ _ _ _ = tt
awaited-value table (V.ComparePointers' relation place p left q right) _ _ _ _ _ _ _ _ _ _ = tt
awaited-value table (V.PointerPlus' place p pointer q number) _ _ _ _ _ _ _ _ _ _ = tt
awaited-value table (V.NumberPlus' place p number q pointer) _ _ _ _ _ _ _ _ _ _ = tt
awaited-value table (V.PointerMinus' place p pointer q number) _ _ _ _ _ _ _ _ _ _ = tt
awaited-value table (V.PointerDifference' place p left q right) _ _ _ _ _ _ _ _ _ _ = tt
awaited-value table (V.And' p left q right) _ _ _ _ _ _ _ _ _ _ = tt
awaited-value table (V.Or' p left q right) _ _ _ _ _ _ _ _ _ _ = tt
awaited-value table (V.Conditional' p condition q taken r otherwise) _ _ _ _ _ _ _ _ _ _ = tt
awaited-value table (V.AddressOf' place p object) _ _ _ _ _ _ _ _ h _ = absurd (h _ _ (sym (roll-out-Value (V.AddressOf' place p object)) ∙ ap roll-Value (V.outs-AddressOf' place p object) ∙ V.rolls-AddressOf _ _))
awaited-value table (V.AddressOfFunction' p function) _ _ _ _ _ _ _ h _ _ = absurd (h _ (sym (roll-out-Value (V.AddressOfFunction' p function)) ∙ ap roll-Value (V.outs-AddressOfFunction' p function) ∙ V.rolls-AddressOfFunction _))
awaited-value table (V.Cast' p value) _ _ _ _ h _ _ _ _ _ = absurd (h _ (sym (roll-out-Value (V.Cast' p value)) ∙ ap roll-Value (V.outs-Cast' p value) ∙ V.rolls-Cast _))
awaited-value table (V.CastVoid' p value) _ _ _ _ _ h _ _ _ _ = absurd (h _ (sym (roll-out-Value (V.CastVoid' p value)) ∙ ap roll-Value (V.outs-CastVoid' p value) ∙ V.rolls-CastVoid _))
awaited-value table (V.Assign' place p object q value) _ _ _ _ _ _ _ _ _ _ = tt
awaited-value table (V.AssignArithmetic' op place object_type int_type p object q value) _ _ _ _ _ _ _ _ _ _ = tt
awaited-value table (V.AssignMoved' is_minus place p object q number) _ _ _ _ _ _ _ _ _ _ = tt
awaited-value table (V.StepInteger' stepping place int_type p object) _ _ _ _ _ _ _ _ _ _ = tt
awaited-value table (V.StepPointer' stepping place p object) _ _ _ _ _ _ _ _ _ _ = tt
awaited-value table (V.Call' is_used place p function c_type shape arguments) _ _ _ _ _ _ _ _ _ _ = tt
awaited-value table (V.LibraryCall' function groups place shape arguments) _ _ _ _ _ _ _ _ _ h = absurd (h _ _ _ _ (sym (roll-out-Value (V.LibraryCall' function groups place shape arguments)) ∙ ap roll-Value (V.outs-LibraryCall' function groups place shape arguments) ∙ V.rolls-LibraryCall _ _ _ _))
