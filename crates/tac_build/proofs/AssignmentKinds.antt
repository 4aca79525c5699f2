-- A value of a form that assigns is one of the five that are lowered as such.
use Rattle.std.proofs.Common.{◌≡◌, sym, ap, ◌∙◌}
use Rattle.c_typed.specs.declared.typed.Value.{Value, roll-Value, roll-out-Value}
use Rattle.c_typed.specs.declared.typed.Value.TheVariants as V
use Rattle.tac_build.specs.Lowering.{IsAssignment}

pub no_assignment : (v : Value) → IsAssignment v
    → ((place : _) (object : _) (value : _) → v ≡ V.Assign place object value → ⊥)
    → ((op : _) (place : _) (object_type : _) (int_type : _) (object : _) (value : _) → v ≡ V.AssignArithmetic op place object_type int_type object value → ⊥)
    → ((is_minus : _) (place : _) (object : _) (number : _) → v ≡ V.AssignMoved is_minus place object number → ⊥)
    → ((stepping : _) (place : _) (int_type : _) (object : _) → v ≡ V.StepInteger stepping place int_type object → ⊥)
    → ((stepping : _) (place : _) (object : _) → v ≡ V.StepPointer stepping place object → ⊥)
    → ⊥
no_assignment (V.Constant int_type value) kind _ _ _ _ _ = absurd kind
no_assignment V.NullPointer kind _ _ _ _ _ = absurd kind
no_assignment (V.Grouped' p inner) kind _ _ _ _ _ = absurd kind
no_assignment (V.Read' place p object) kind _ _ _ _ _ = absurd kind
no_assignment (V.Decay' place p object) kind _ _ _ _ _ = absurd kind
no_assignment (V.FunctionValue' p function) kind _ _ _ _ _ = absurd kind
no_assignment (V.Converted' int_type p value) kind _ _ _ _ _ = absurd kind
no_assignment (V.Repointed' place target p value) kind _ _ _ _ _ = absurd kind
no_assignment (V.MadeNull' target p value) kind _ _ _ _ _ = absurd kind
no_assignment (V.Tested' place p value) kind _ _ _ _ _ = absurd kind
no_assignment (V.Plus' p operand) kind _ _ _ _ _ = absurd kind
no_assignment (V.Minus' place int_type p operand) kind _ _ _ _ _ = absurd kind
no_assignment (V.Complement' int_type p operand) kind _ _ _ _ _ = absurd kind
no_assignment (V.Not' p operand) kind _ _ _ _ _ = absurd kind
no_assignment (V.Arithmetic' op place int_type p left q right) kind _ _ _ _ _ = absurd kind
no_assignment (V.Compare' relation p left q right) kind _ _ _ _ _ = absurd kind
no_assignment (V.ComparePointers' relation place p left q right) kind _ _ _ _ _ = absurd kind
no_assignment (V.PointerPlus' place p pointer q number) kind _ _ _ _ _ = absurd kind
no_assignment (V.NumberPlus' place p number q pointer) kind _ _ _ _ _ = absurd kind
no_assignment (V.PointerMinus' place p pointer q number) kind _ _ _ _ _ = absurd kind
no_assignment (V.PointerDifference' place p left q right) kind _ _ _ _ _ = absurd kind
no_assignment (V.And' p left q right) kind _ _ _ _ _ = absurd kind
no_assignment (V.Or' p left q right) kind _ _ _ _ _ = absurd kind
no_assignment (V.Conditional' p condition q taken r otherwise) kind _ _ _ _ _ = absurd kind
no_assignment (V.AddressOf' place p object) kind _ _ _ _ _ = absurd kind
no_assignment (V.AddressOfFunction' p function) kind _ _ _ _ _ = absurd kind
no_assignment (V.Cast' p value) kind _ _ _ _ _ = absurd kind
no_assignment (V.CastVoid' p value) kind _ _ _ _ _ = absurd kind
no_assignment (V.Assign' place p object q value) kind h _ _ _ _ = absurd (h _ _ _ (sym (roll-out-Value (V.Assign' place p object q value)) ∙ ap roll-Value (V.outs-Assign' place p object q value) ∙ V.rolls-Assign _ _ _))
no_assignment (V.AssignArithmetic' op place object_type int_type p object q value) kind _ h _ _ _ = absurd (h _ _ _ _ _ _ (sym (roll-out-Value (V.AssignArithmetic' op place object_type int_type p object q value)) ∙ ap roll-Value (V.outs-AssignArithmetic' op place object_type int_type p object q value) ∙ V.rolls-AssignArithmetic _ _ _ _ _ _))
no_assignment (V.AssignMoved' is_minus place p object q number) kind _ _ h _ _ = absurd (h _ _ _ _ (sym (roll-out-Value (V.AssignMoved' is_minus place p object q number)) ∙ ap roll-Value (V.outs-AssignMoved' is_minus place p object q number) ∙ V.rolls-AssignMoved _ _ _ _))
no_assignment (V.StepInteger' stepping place int_type p object) kind _ _ _ h _ = absurd (h _ _ _ _ (sym (roll-out-Value (V.StepInteger' stepping place int_type p object)) ∙ ap roll-Value (V.outs-StepInteger' stepping place int_type p object) ∙ V.rolls-StepInteger _ _ _ _))
no_assignment (V.StepPointer' stepping place p object) kind _ _ _ _ h = absurd (h _ _ _ (sym (roll-out-Value (V.StepPointer' stepping place p object)) ∙ ap roll-Value (V.outs-StepPointer' stepping place p object) ∙ V.rolls-StepPointer _ _ _))
no_assignment (V.Call' is_used place p function c_type shape arguments) kind _ _ _ _ _ = absurd kind
no_assignment (V.LibraryCall' function groups place shape arguments) kind _ _ _ _ _ = absurd kind
