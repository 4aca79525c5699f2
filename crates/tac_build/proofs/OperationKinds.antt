-- An operation of none of the forms that are lowered here is one on pointers, and one of none of those forms an assignment.
use Rattle.std.proofs.Common.{◌≡◌, refl, sym, ap, ◌∙◌}
use Rattle.c_typed.specs.declared.typed.Value.{Value, roll-Value, roll-out-Value}
use Rattle.c_typed.specs.declared.typed.Value.TheVariants as V
use Rattle.tac_build.specs.Lowering.{IsOperation, IsPointerOperation, IsAssignment}

pub is_pointer_operation : (v : Value) → IsOperation v
    → ((int_type : _) (value : _) → v ≡ V.Constant int_type value → ⊥)
    → ((int_type : _) (value : _) → v ≡ V.Converted int_type value → ⊥)
    → ((operand : _) → v ≡ V.Plus operand → ⊥)
    → ((place : _) (int_type : _) (operand : _) → v ≡ V.Minus place int_type operand → ⊥)
    → ((int_type : _) (operand : _) → v ≡ V.Complement int_type operand → ⊥)
    → ((operand : _) → v ≡ V.Not operand → ⊥)
    → ((op : _) (place : _) (int_type : _) (left : _) (right : _) → v ≡ V.Arithmetic op place int_type left right → ⊥)
    → ((relation : _) (left : _) (right : _) → v ≡ V.Compare relation left right → ⊥)
    → IsPointerOperation v
is_pointer_operation (V.Constant int_type value) kind h _ _ _ _ _ _ _ = absurd (h _ _ refl)
is_pointer_operation V.NullPointer kind _ _ _ _ _ _ _ _ = tt
is_pointer_operation (V.Grouped' p inner) kind _ _ _ _ _ _ _ _ = absurd kind
is_pointer_operation (V.Read' place p object) kind _ _ _ _ _ _ _ _ = absurd kind
is_pointer_operation (V.Decay' place p object) kind _ _ _ _ _ _ _ _ = absurd kind
is_pointer_operation (V.FunctionValue' p function) kind _ _ _ _ _ _ _ _ = absurd kind
is_pointer_operation (V.Converted' int_type p value) kind _ h _ _ _ _ _ _ = absurd (h _ _ (sym (roll-out-Value (V.Converted' int_type p value)) ∙ ap roll-Value (V.outs-Converted' int_type p value) ∙ V.rolls-Converted _ _))
is_pointer_operation (V.Repointed' place target p value) kind _ _ _ _ _ _ _ _ = tt
is_pointer_operation (V.MadeNull' target p value) kind _ _ _ _ _ _ _ _ = tt
is_pointer_operation (V.Tested' place p value) kind _ _ _ _ _ _ _ _ = tt
is_pointer_operation (V.Plus' p operand) kind _ _ h _ _ _ _ _ = absurd (h _ (sym (roll-out-Value (V.Plus' p operand)) ∙ ap roll-Value (V.outs-Plus' p operand) ∙ V.rolls-Plus _))
is_pointer_operation (V.Minus' place int_type p operand) kind _ _ _ h _ _ _ _ = absurd (h _ _ _ (sym (roll-out-Value (V.Minus' place int_type p operand)) ∙ ap roll-Value (V.outs-Minus' place int_type p operand) ∙ V.rolls-Minus _ _ _))
is_pointer_operation (V.Complement' int_type p operand) kind _ _ _ _ h _ _ _ = absurd (h _ _ (sym (roll-out-Value (V.Complement' int_type p operand)) ∙ ap roll-Value (V.outs-Complement' int_type p operand) ∙ V.rolls-Complement _ _))
is_pointer_operation (V.Not' p operand) kind _ _ _ _ _ h _ _ = absurd (h _ (sym (roll-out-Value (V.Not' p operand)) ∙ ap roll-Value (V.outs-Not' p operand) ∙ V.rolls-Not _))
is_pointer_operation (V.Arithmetic' op place int_type p left q right) kind _ _ _ _ _ _ h _ = absurd (h _ _ _ _ _ (sym (roll-out-Value (V.Arithmetic' op place int_type p left q right)) ∙ ap roll-Value (V.outs-Arithmetic' op place int_type p left q right) ∙ V.rolls-Arithmetic _ _ _ _ _))
is_pointer_operation (V.Compare' relation p left q right) kind _ _ _ _ _ _ _ h = absurd (h _ _ _ (sym (roll-out-Value (V.Compare' relation p left q right)) ∙ ap roll-Value (V.outs-Compare' relation p left q right) ∙ V.rolls-Compare _ _ _))
is_pointer_operation (V.ComparePointers' relation place p left q right) kind _ _ _ _ _ _ _ _ = tt
is_pointer_operation (V.PointerPlus' place p pointer q number) kind _ _ _ _ _ _ _ _ = tt
is_pointer_operation (V.NumberPlus' place p number q pointer) kind _ _ _ _ _ _ _ _ = tt
is_pointer_operation (V.PointerMinus' place p pointer q number) kind _ _ _ _ _ _ _ _ = tt
is_pointer_operation (V.PointerDifference' place p left q right) kind _ _ _ _ _ _ _ _ = tt
is_pointer_operation (V.And' p left q right) kind _ _ _ _ _ _ _ _ = absurd kind
is_pointer_operation (V.Or' p left q right) kind _ _ _ _ _ _ _ _ = absurd kind
is_pointer_operation (V.Conditional' p condition q taken r otherwise) kind _ _ _ _ _ _ _ _ = absurd kind
is_pointer_operation (V.AddressOf' place p object) kind _ _ _ _ _ _ _ _ = absurd kind
is_pointer_operation (V.AddressOfFunction' p function) kind _ _ _ _ _ _ _ _ = absurd kind
is_pointer_operation (V.Cast' p value) kind _ _ _ _ _ _ _ _ = absurd kind
is_pointer_operation (V.CastVoid' p value) kind _ _ _ _ _ _ _ _ = absurd kind
is_pointer_operation (V.Assign' place p object q value) kind _ _ _ _ _ _ _ _ = tt
is_pointer_operation (V.AssignArithmetic' op place object_type int_type p object q value) kind _ _ _ _ _ _ _ _ = tt
is_pointer_operation (V.AssignMoved' is_minus place p object q number) kind _ _ _ _ _ _ _ _ = tt
is_pointer_operation (V.StepInteger' stepping place int_type p object) kind _ _ _ _ _ _ _ _ = tt
is_pointer_operation (V.StepPointer' stepping place p object) kind _ _ _ _ _ _ _ _ = tt
is_pointer_operation (V.Call' is_used place p function c_type shape arguments) kind _ _ _ _ _ _ _ _ = absurd kind
is_pointer_operation (V.LibraryCall' function groups place shape arguments) kind _ _ _ _ _ _ _ _ = absurd kind

pub is_assignment : (v : Value) → IsPointerOperation v
    → (v ≡ V.NullPointer → ⊥)
    → ((place : _) (target : _) (value : _) → v ≡ V.Repointed place target value → ⊥)
    → ((target : _) (value : _) → v ≡ V.MadeNull target value → ⊥)
    → ((place : _) (value : _) → v ≡ V.Tested place value → ⊥)
    → ((relation : _) (place : _) (left : _) (right : _) → v ≡ V.ComparePointers relation place left right → ⊥)
    → ((place : _) (pointer : _) (number : _) → v ≡ V.PointerPlus place pointer number → ⊥)
    → ((place : _) (number : _) (pointer : _) → v ≡ V.NumberPlus place number pointer → ⊥)
    → ((place : _) (pointer : _) (number : _) → v ≡ V.PointerMinus place pointer number → ⊥)
    → ((place : _) (left : _) (right : _) → v ≡ V.PointerDifference place left right → ⊥)
    → IsAssignment v
is_assignment (V.Constant int_type value) kind _ _ _ _ _ _ _ _ _ = absurd kind
is_assignment V.NullPointer kind h _ _ _ _ _ _ _ _ = absurd (h refl)
is_assignment (V.Grouped' p inner) kind _ _ _ _ _ _ _ _ _ = absurd kind
is_assignment (V.Read' place p object) kind _ _ _ _ _ _ _ _ _ = absurd kind
is_assignment (V.Decay' place p object) kind _ _ _ _ _ _ _ _ _ = absurd kind
is_assignment (V.FunctionValue' p function) kind _ _ _ _ _ _ _ _ _ = absurd kind
is_assignment (V.Converted' int_type p value) kind _ _ _ _ _ _ _ _ _ = absurd kind
is_assignment (V.Repointed' place target p value) kind _ h _ _ _ _ _ _ _ = absurd (h _ _ _ (sym (roll-out-Value (V.Repointed' place target p value)) ∙ ap roll-Value (V.outs-Repointed' place target p value) ∙ V.rolls-Repointed _ _ _))
is_assignment (V.MadeNull' target p value) kind _ _ h _ _ _ _ _ _ = absurd (h _ _ (sym (roll-out-Value (V.MadeNull' target p value)) ∙ ap roll-Value (V.outs-MadeNull' target p value) ∙ V.rolls-MadeNull _ _))
is_assignment (V.Tested' place p value) kind _ _ _ h _ _ _ _ _ = absurd (h _ _ (sym (roll-out-Value (V.Tested' place p value)) ∙ ap roll-Value (V.outs-Tested' place p value) ∙ V.rolls-Tested _ _))
is_assignment (V.Plus' p operand) kind _ _ _ _ _ _ _ _ _ = absurd kind
is_assignment (V.Minus' place int_type p operand) kind _ _ _ _ _ _ _ _ _ = absurd kind
is_assignment (V.Complement' int_type p operand) kind _ _ _ _ _ _ _ _ _ = absurd kind
is_assignment (V.Not' p operand) kind _ _ _ _ _ _ _ _ _ = absurd kind
is_assignment (V.Arithmetic' op place int_type p left q right) kind _ _ _ _ _ _ _ _ _ = absurd kind
is_assignment (V.Compare' relation p left q right) kind _ _ _ _ _ _ _ _ _ = absurd kind
is_assignment (V.ComparePointers' relation place p left q right) kind _ _ _ _ h _ _ _ _ = absurd (h _ _ _ _ (sym (roll-out-Value (V.ComparePointers' relation place p left q right)) ∙ ap roll-Value (V.outs-ComparePointers' relation place p left q right) ∙ V.rolls-ComparePointers _ _ _ _))
is_assignment (V.PointerPlus' place p pointer q number) kind _ _ _ _ _ h _ _ _ = absurd (h _ _ _ (sym (roll-out-Value (V.PointerPlus' place p pointer q number)) ∙ ap roll-Value (V.outs-PointerPlus' place p pointer q number) ∙ V.rolls-PointerPlus _ _ _))
is_assignment (V.NumberPlus' place p number q pointer) kind _ _ _ _ _ _ h _ _ = absurd (h _ _ _ (sym (roll-out-Value (V.NumberPlus' place p number q pointer)) ∙ ap roll-Value (V.outs-NumberPlus' place p number q pointer) ∙ V.rolls-NumberPlus _ _ _))
is_assignment (V.PointerMinus' place p pointer q number) kind _ _ _ _ _ _ _ h _ = absurd (h _ _ _ (sym (roll-out-Value (V.PointerMinus' place p pointer q number)) ∙ ap roll-Value (V.outs-PointerMinus' place p pointer q number) ∙ V.rolls-PointerMinus _ _ _))
is_assignment (V.PointerDifference' place p left q right) kind _ _ _ _ _ _ _ _ h = absurd (h _ _ _ (sym (roll-out-Value (V.PointerDifference' place p left q right)) ∙ ap roll-Value (V.outs-PointerDifference' place p left q right) ∙ V.rolls-PointerDifference _ _ _))
is_assignment (V.And' p left q right) kind _ _ _ _ _ _ _ _ _ = absurd kind
is_assignment (V.Or' p left q right) kind _ _ _ _ _ _ _ _ _ = absurd kind
is_assignment (V.Conditional' p condition q taken r otherwise) kind _ _ _ _ _ _ _ _ _ = absurd kind
is_assignment (V.AddressOf' place p object) kind _ _ _ _ _ _ _ _ _ = absurd kind
is_assignment (V.AddressOfFunction' p function) kind _ _ _ _ _ _ _ _ _ = absurd kind
is_assignment (V.Cast' p value) kind _ _ _ _ _ _ _ _ _ = absurd kind
is_assignment (V.CastVoid' p value) kind _ _ _ _ _ _ _ _ _ = absurd kind
is_assignment (V.Assign' place p object q value) kind _ _ _ _ _ _ _ _ _ = tt
is_assignment (V.AssignArithmetic' op place object_type int_type p object q value) kind _ _ _ _ _ _ _ _ _ = tt
is_assignment (V.AssignMoved' is_minus place p object q number) kind _ _ _ _ _ _ _ _ _ = tt
is_assignment (V.StepInteger' stepping place int_type p object) kind _ _ _ _ _ _ _ _ _ = tt
is_assignment (V.StepPointer' stepping place p object) kind _ _ _ _ _ _ _ _ _ = tt
is_assignment (V.Call' is_used place p function c_type shape arguments) kind _ _ _ _ _ _ _ _ _ = absurd kind
is_assignment (V.LibraryCall' function groups place shape arguments) kind _ _ _ _ _ _ _ _ _ = absurd kind
