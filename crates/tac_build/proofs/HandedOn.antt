-- A value of none of the forms that are lowered here is an operation.
use Rattle.std.proofs.Common.{◌≡◌, sym, ap, ◌∙◌}
use Rattle.c_typed.specs.declared.typed.Value.{Value, roll-Value, roll-out-Value}
use Rattle.c_typed.specs.declared.typed.Value.TheVariants as V
use Rattle.tac_build.specs.Lowering.{IsOperation}

pub is_operation : (v : Value)
    → ((inner : _) → v ≡ V.Grouped inner → ⊥)
    → ((place : _) (object : _) → v ≡ V.Read place object → ⊥)
    → ((place : _) (object : _) → v ≡ V.Decay place object → ⊥)
    → ((place : _) (object : _) → v ≡ V.AddressOf place object → ⊥)
    → ((function : _) → v ≡ V.FunctionValue function → ⊥)
    → ((function : _) → v ≡ V.AddressOfFunction function → ⊥)
    → ((inner : _) → v ≡ V.Cast inner → ⊥)
    → ((inner : _) → v ≡ V.CastVoid inner → ⊥)
    → ((left : _) (right : _) → v ≡ V.And left right → ⊥)
    → ((left : _) (right : _) → v ≡ V.Or left right → ⊥)
    → ((condition : _) (taken : _) (otherwise : _) → v ≡ V.Conditional condition taken otherwise → ⊥)
    → ((is_used : _) (place : _) (function : _) (c_type : _) (arguments : _) → v ≡ V.Call is_used place function c_type arguments → ⊥)
    → ((function : _) (groups : _) (place : _) (arguments : _) → v ≡ V.LibraryCall function groups place arguments → ⊥)
    → IsOperation v
is_operation (V.Grouped' p inner) h _ _ _ _ _ _ _ _ _ _ _ _ = absurd (h _ (sym (roll-out-Value (V.Grouped' p inner)) ∙ ap roll-Value (V.outs-Grouped' p inner) ∙ V.rolls-Grouped _))
is_operation (V.Read' place p object) _ h _ _ _ _ _ _ _ _ _ _ _ = absurd (h _ _ (sym (roll-out-Value (V.Read' place p object)) ∙ ap roll-Value (V.outs-Read' place p object) ∙ V.rolls-Read _ _))
is_operation (V.Decay' place p object) _ _ h _ _ _ _ _ _ _ _ _ _ = absurd (h _ _ (sym (roll-out-Value (V.Decay' place p object)) ∙ ap roll-Value (V.outs-Decay' place p object) ∙ V.rolls-Decay _ _))
is_operation (V.AddressOf' place p object) _ _ _ h _ _ _ _ _ _ _ _ _ = absurd (h _ _ (sym (roll-out-Value (V.AddressOf' place p object)) ∙ ap roll-Value (V.outs-AddressOf' place p object) ∙ V.rolls-AddressOf _ _))
is_operation (V.FunctionValue' p function) _ _ _ _ h _ _ _ _ _ _ _ _ = absurd (h _ (sym (roll-out-Value (V.FunctionValue' p function)) ∙ ap roll-Value (V.outs-FunctionValue' p function) ∙ V.rolls-FunctionValue _))
is_operation (V.AddressOfFunction' p function) _ _ _ _ _ h _ _ _ _ _ _ _ = absurd (h _ (sym (roll-out-Value (V.AddressOfFunction' p function)) ∙ ap roll-Value (V.outs-AddressOfFunction' p function) ∙ V.rolls-AddressOfFunction _))
is_operation (V.Cast' p value) _ _ _ _ _ _ h _ _ _ _ _ _ = absurd (h _ (sym (roll-out-Value (V.Cast' p value)) ∙ ap roll-Value (V.outs-Cast' p value) ∙ V.rolls-Cast _))
is_operation (V.CastVoid' p value) _ _ _ _ _ _ _ h _ _ _ _ _ = absurd (h _ (sym (roll-out-Value (V.CastVoid' p value)) ∙ ap roll-Value (V.outs-CastVoid' p value) ∙ V.rolls-CastVoid _))
is_operation (V.And' p left q right) _ _ _ _ _ _ _ _ h _ _ _ _ = absurd (h _ _ (sym (roll-out-Value (V.And' p left q right)) ∙ ap roll-Value (V.outs-And' p left q right) ∙ V.rolls-And _ _))
is_operation (V.Or' p left q right) _ _ _ _ _ _ _ _ _ h _ _ _ = absurd (h _ _ (sym (roll-out-Value (V.Or' p left q right)) ∙ ap roll-Value (V.outs-Or' p left q right) ∙ V.rolls-Or _ _))
is_operation (V.Conditional' p condition q taken r otherwise) _ _ _ _ _ _ _ _ _ _ h _ _ =
    absurd (h _ _ _ (sym (roll-out-Value (V.Conditional' p condition q taken r otherwise)) ∙ ap roll-Value (V.outs-Conditional' p condition q taken r otherwise) ∙ V.rolls-Conditional _ _ _))
is_operation (V.Call' is_used place p function c_type shape arguments) _ _ _ _ _ _ _ _ _ _ _ h _ =
    absurd (h _ _ _ _ _ (sym (roll-out-Value (V.Call' is_used place p function c_type shape arguments)) ∙ ap roll-Value (V.outs-Call' is_used place p function c_type shape arguments) ∙ V.rolls-Call _ _ _ _ _))
is_operation (V.LibraryCall' function groups place shape arguments) _ _ _ _ _ _ _ _ _ _ _ _ h =
    absurd (h _ _ _ _ (sym (roll-out-Value (V.LibraryCall' function groups place shape arguments)) ∙ ap roll-Value (V.outs-LibraryCall' function groups place shape arguments) ∙ V.rolls-LibraryCall _ _ _ _))
is_operation (V.Constant int_type value) _ _ _ _ _ _ _ _ _ _ _ _ _ = tt
is_operation V.NullPointer _ _ _ _ _ _ _ _ _ _ _ _ _ = tt
is_operation (V.Converted' int_type p value) _ _ _ _ _ _ _ _ _ _ _ _ _ = tt
is_operation (V.Repointed' place target p value) _ _ _ _ _ _ _ _ _ _ _ _ _ = tt
is_operation (V.MadeNull' target p value) _ _ _ _ _ _ _ _ _ _ _ _ _ = tt
is_operation (V.Tested' place p value) _ _ _ _ _ _ _ _ _ _ _ _ _ = tt
is_operation (V.Plus' p operand) _ _ _ _ _ _ _ _ _ _ _ _ _ = tt
is_operation (V.Minus' place int_type p operand) _ _ _ _ _ _ _ _ _ _ _ _ _ = tt
is_operation (V.Complement' int_type p operand) _ _ _ _ _ _ _ _ _ _ _ _ _ = tt
is_operation (V.Not' p operand) _ _ _ _ _ _ _ _ _ _ _ _ _ = tt
is_operation (V.Arithmetic' op place int_type p left q right) _ _ _ _ _ _ _ _ _ _ _ _ _ = tt
is_operation (V.Compare' relation p left q right) _ _ _ _ _ _ _ _ _ _ _ _ _ = tt
is_operation (V.ComparePointers' relation place p left q right) _ _ _ _ _ _ _ _ _ _ _ _ _ = tt
is_operation (V.PointerPlus' place p pointer q number) _ _ _ _ _ _ _ _ _ _ _ _ _ = tt
is_operation (V.NumberPlus' place p number q pointer) _ _ _ _ _ _ _ _ _ _ _ _ _ = tt
is_operation (V.PointerMinus' place p pointer q number) _ _ _ _ _ _ _ _ _ _ _ _ _ = tt
is_operation (V.PointerDifference' place p left q right) _ _ _ _ _ _ _ _ _ _ _ _ _ = tt
is_operation (V.Assign' place p object q value) _ _ _ _ _ _ _ _ _ _ _ _ _ = tt
is_operation (V.AssignArithmetic' op place object_type int_type p object q value) _ _ _ _ _ _ _ _ _ _ _ _ _ = tt
is_operation (V.AssignMoved' is_minus place p object q number) _ _ _ _ _ _ _ _ _ _ _ _ _ = tt
is_operation (V.StepInteger' stepping place int_type p object) _ _ _ _ _ _ _ _ _ _ _ _ _ = tt
is_operation (V.StepPointer' stepping place p object) _ _ _ _ _ _ _ _ _ _ _ _ _ = tt
