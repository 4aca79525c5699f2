-- What an expression does that comes to its first operand.
use Rattle.std.proofs.Common.{◌≡◌, refl, sym, ap, ◌∙◌}
use Rattle.c_typed.specs.declared.typed.Value as memory_value
use Rattle.c_typed.specs.declared.typed.Value.{roll-Value, roll-out-Value}
use Rattle.c_typed.specs.declared.typed.Value.TheVariants as V
use Rattle.c_typed.specs.Table.{Interned}
use Rattle.c_typed.specs.Views.{value_in}
use Rattle.ref_semantics.specs.Values.{Scalar}
use Rattle.ref_semantics.specs.Store.{TypeEnvironment, give}
use Rattle.ref_semantics.specs.Parts as parts

pub value_last : (around : TypeEnvironment) (table : Interned) (v : memory_value.Value) (a : Scalar)
    → ((place : _) (object : _) → v ≡ V.Read place object → ⊥)
    → ((place : _) (object : _) → v ≡ V.Decay place object → ⊥)
    → ((int_type : _) (value : _) → v ≡ V.Converted int_type value → ⊥)
    → ((place : _) (target : _) (value : _) → v ≡ V.Repointed place target value → ⊥)
    → ((target : _) (value : _) → v ≡ V.MadeNull target value → ⊥)
    → ((place : _) (value : _) → v ≡ V.Tested place value → ⊥)
    → ((place : _) (int_type : _) (operand : _) → v ≡ V.Minus place int_type operand → ⊥)
    → ((int_type : _) (operand : _) → v ≡ V.Complement int_type operand → ⊥)
    → ((operand : _) → v ≡ V.Not operand → ⊥)
    → ((op : _) (place : _) (int_type : _) (left : _) (right : _) → v ≡ V.Arithmetic op place int_type left right → ⊥)
    → ((relation : _) (left : _) (right : _) → v ≡ V.Compare relation left right → ⊥)
    → ((relation : _) (place : _) (left : _) (right : _) → v ≡ V.ComparePointers relation place left right → ⊥)
    → ((place : _) (pointer : _) (number : _) → v ≡ V.PointerPlus place pointer number → ⊥)
    → ((place : _) (number : _) (pointer : _) → v ≡ V.NumberPlus place number pointer → ⊥)
    → ((place : _) (pointer : _) (number : _) → v ≡ V.PointerMinus place pointer number → ⊥)
    → ((place : _) (left : _) (right : _) → v ≡ V.PointerDifference place left right → ⊥)
    → ((left : _) (right : _) → v ≡ V.And left right → ⊥)
    → ((left : _) (right : _) → v ≡ V.Or left right → ⊥)
    → ((condition : _) (taken : _) (otherwise : _) → v ≡ V.Conditional condition taken otherwise → ⊥)
    → ((place : _) (object : _) (value : _) → v ≡ V.Assign place object value → ⊥)
    → ((op : _) (place : _) (object_type : _) (int_type : _) (object : _) (value : _) → v ≡ V.AssignArithmetic op place object_type int_type object value → ⊥)
    → ((is_minus : _) (place : _) (object : _) (number : _) → v ≡ V.AssignMoved is_minus place object number → ⊥)
    → ((stepping : _) (place : _) (int_type : _) (object : _) → v ≡ V.StepInteger stepping place int_type object → ⊥)
    → ((stepping : _) (place : _) (object : _) → v ≡ V.StepPointer stepping place object → ⊥)
    → parts.value_next around (value_in table v) a ≡ give (parts.Comes a)
value_last around table (V.Constant int_type value) a _ _ _ _ _ _ _ _ _ _ _ _ _ _ _ _ _ _ _ _ _ _ _ _ = refl
value_last around table V.NullPointer a _ _ _ _ _ _ _ _ _ _ _ _ _ _ _ _ _ _ _ _ _ _ _ _ = refl
value_last around table (V.Grouped' p inner) a _ _ _ _ _ _ _ _ _ _ _ _ _ _ _ _ _ _ _ _ _ _ _ _ = refl
value_last around table (V.Read' place p object) a h _ _ _ _ _ _ _ _ _ _ _ _ _ _ _ _ _ _ _ _ _ _ _ = absurd (h _ _ (sym (roll-out-Value (V.Read' place p object)) ∙ ap roll-Value (V.outs-Read' place p object) ∙ V.rolls-Read _ _))
value_last around table (V.Decay' place p object) a _ h _ _ _ _ _ _ _ _ _ _ _ _ _ _ _ _ _ _ _ _ _ _ = absurd (h _ _ (sym (roll-out-Value (V.Decay' place p object)) ∙ ap roll-Value (V.outs-Decay' place p object) ∙ V.rolls-Decay _ _))
value_last around table (V.FunctionValue' p function) a _ _ _ _ _ _ _ _ _ _ _ _ _ _ _ _ _ _ _ _ _ _ _ _ = refl
value_last around table (V.Converted' int_type p value) a _ _ h _ _ _ _ _ _ _ _ _ _ _ _ _ _ _ _ _ _ _ _ _ = absurd (h _ _ (sym (roll-out-Value (V.Converted' int_type p value)) ∙ ap roll-Value (V.outs-Converted' int_type p value) ∙ V.rolls-Converted _ _))
value_last around table (V.Repointed' place target p value) a _ _ _ h _ _ _ _ _ _ _ _ _ _ _ _ _ _ _ _ _ _ _ _ = absurd (h _ _ _ (sym (roll-out-Value (V.Repointed' place target p value)) ∙ ap roll-Value (V.outs-Repointed' place target p value) ∙ V.rolls-Repointed _ _ _))
value_last around table (V.MadeNull' target p value) a _ _ _ _ h _ _ _ _ _ _ _ _ _ _ _ _ _ _ _ _ _ _ _ = absurd (h _ _ (sym (roll-out-Value (V.MadeNull' target p value)) ∙ ap roll-Value (V.outs-MadeNull' target p value) ∙ V.rolls-MadeNull _ _))
value_last around table (V.Tested' place p value) a _ _ _ _ _ h _ _ _ _ _ _ _ _ _ _ _ _ _ _ _ _ _ _ = absurd (h _ _ (sym (roll-out-Value (V.Tested' place p value)) ∙ ap roll-Value (V.outs-Tested' place p value) ∙ V.rolls-Tested _ _))
value_last around table (V.Plus' p operand) a _ _ _ _ _ _ _ _ _ _ _ _ _ _ _ _ _ _ _ _ _ _ _ _ = refl
value_last around table (V.Minus' place int_type p operand) a _ _ _ _ _ _ h _ _ _ _ _ _ _ _ _ _ _ _ _ _ _ _ _ = absurd (h _ _ _ (sym (roll-out-Value (V.Minus' place int_type p operand)) ∙ ap roll-Value (V.outs-Minus' place int_type p operand) ∙ V.rolls-Minus _ _ _))
value_last around table (V.Complement' int_type p operand) a _ _ _ _ _ _ _ h _ _ _ _ _ _ _ _ _ _ _ _ _ _ _ _ = absurd (h _ _ (sym (roll-out-Value (V.Complement' int_type p operand)) ∙ ap roll-Value (V.outs-Complement' int_type p operand) ∙ V.rolls-Complement _ _))
value_last around table (V.Not' p operand) a _ _ _ _ _ _ _ _ h _ _ _ _ _ _ _ _ _ _ _ _ _ _ _ = absurd (h _ (sym (roll-out-Value (V.Not' p operand)) ∙ ap roll-Value (V.outs-Not' p operand) ∙ V.rolls-Not _))
value_last around table (V.Arithmetic' op place int_type p left q right) a _ _ _ _ _ _ _ _ _ h _ _ _ _ _ _ _ _ _ _ _ _ _ _ = absurd (h _ _ _ _ _ (sym (roll-out-Value (V.Arithmetic' op place int_type p left q right)) ∙ ap roll-Value (V.outs-Arithmetic' op place int_type p left q right) ∙ V.rolls-Arithmetic _ _ _ _ _))
value_last around table (V.Compare' relation p left q right) a _ _ _ _ _ _ _ _ _ _ h _ _ _ _ _ _ _ _ _ _ _ _ _ = absurd (h _ _ _ (sym (roll-out-Value (V.Compare' relation p left q right)) ∙ ap roll-Value (V.outs-Compare' relation p left q right) ∙ V.rolls-Compare _ _ _))
value_last around table (V.ComparePointers' relation place p left q right) a _ _ _ _ _ _ _ _ _ _ _ h _ _ _ _ _ _ _ _ _ _ _ _ = absurd (h _ _ _ _ (sym (roll-out-Value (V.ComparePointers' relation place p left q right)) ∙ ap roll-Value (V.outs-ComparePointers' relation place p left q right) ∙ V.rolls-ComparePointers _ _ _ _))
value_last around table (V.PointerPlus' place p pointer q number) a _ _ _ _ _ _ _ _ _ _ _ _ h _ _ _ _ _ _ _ _ _ _ _ = absurd (h _ _ _ (sym (roll-out-Value (V.PointerPlus' place p pointer q number)) ∙ ap roll-Value (V.outs-PointerPlus' place p pointer q number) ∙ V.rolls-PointerPlus _ _ _))
value_last around table (V.NumberPlus' place p number q pointer) a _ _ _ _ _ _ _ _ _ _ _ _ _ h _ _ _ _ _ _ _ _ _ _ = absurd (h _ _ _ (sym (roll-out-Value (V.NumberPlus' place p number q pointer)) ∙ ap roll-Value (V.outs-NumberPlus' place p number q pointer) ∙ V.rolls-NumberPlus _ _ _))
value_last around table (V.PointerMinus' place p pointer q number) a _ _ _ _ _ _ _ _ _ _ _ _ _ _ h _ _ _ _ _ _ _ _ _ = absurd (h _ _ _ (sym (roll-out-Value (V.PointerMinus' place p pointer q number)) ∙ ap roll-Value (V.outs-PointerMinus' place p pointer q number) ∙ V.rolls-PointerMinus _ _ _))
value_last around table (V.PointerDifference' place p left q right) a _ _ _ _ _ _ _ _ _ _ _ _ _ _ _ h _ _ _ _ _ _ _ _ = absurd (h _ _ _ (sym (roll-out-Value (V.PointerDifference' place p left q right)) ∙ ap roll-Value (V.outs-PointerDifference' place p left q right) ∙ V.rolls-PointerDifference _ _ _))
value_last around table (V.And' p left q right) a _ _ _ _ _ _ _ _ _ _ _ _ _ _ _ _ h _ _ _ _ _ _ _ = absurd (h _ _ (sym (roll-out-Value (V.And' p left q right)) ∙ ap roll-Value (V.outs-And' p left q right) ∙ V.rolls-And _ _))
value_last around table (V.Or' p left q right) a _ _ _ _ _ _ _ _ _ _ _ _ _ _ _ _ _ h _ _ _ _ _ _ = absurd (h _ _ (sym (roll-out-Value (V.Or' p left q right)) ∙ ap roll-Value (V.outs-Or' p left q right) ∙ V.rolls-Or _ _))
value_last around table (V.Conditional' p condition q taken r otherwise) a _ _ _ _ _ _ _ _ _ _ _ _ _ _ _ _ _ _ h _ _ _ _ _ = absurd (h _ _ _ (sym (roll-out-Value (V.Conditional' p condition q taken r otherwise)) ∙ ap roll-Value (V.outs-Conditional' p condition q taken r otherwise) ∙ V.rolls-Conditional _ _ _))
value_last around table (V.AddressOf' place p object) a _ _ _ _ _ _ _ _ _ _ _ _ _ _ _ _ _ _ _ _ _ _ _ _ = refl
value_last around table (V.AddressOfFunction' p function) a _ _ _ _ _ _ _ _ _ _ _ _ _ _ _ _ _ _ _ _ _ _ _ _ = refl
value_last around table (V.Cast' p value) a _ _ _ _ _ _ _ _ _ _ _ _ _ _ _ _ _ _ _ _ _ _ _ _ = refl
value_last around table (V.CastVoid' p value) a _ _ _ _ _ _ _ _ _ _ _ _ _ _ _ _ _ _ _ _ _ _ _ _ = refl
value_last around table (V.Assign' place p object q value) a _ _ _ _ _ _ _ _ _ _ _ _ _ _ _ _ _ _ _ h _ _ _ _ = absurd (h _ _ _ (sym (roll-out-Value (V.Assign' place p object q value)) ∙ ap roll-Value (V.outs-Assign' place p object q value) ∙ V.rolls-Assign _ _ _))
value_last around table (V.AssignArithmetic' op place object_type int_type p object q value) a _ _ _ _ _ _ _ _ _ _ _ _ _ _ _ _ _ _ _ _ h _ _ _ = absurd (h _ _ _ _ _ _ (sym (roll-out-Value (V.AssignArithmetic' op place object_type int_type p object q value)) ∙ ap roll-Value (V.outs-AssignArithmetic' op place object_type int_type p object q value) ∙ V.rolls-AssignArithmetic _ _ _ _ _ _))
value_last around table (V.AssignMoved' is_minus place p object q number) a _ _ _ _ _ _ _ _ _ _ _ _ _ _ _ _ _ _ _ _ _ h _ _ = absurd (h _ _ _ _ (sym (roll-out-Value (V.AssignMoved' is_minus place p object q number)) ∙ ap roll-Value (V.outs-AssignMoved' is_minus place p object q number) ∙ V.rolls-AssignMoved _ _ _ _))
value_last around table (V.StepInteger' stepping place int_type p object) a _ _ _ _ _ _ _ _ _ _ _ _ _ _ _ _ _ _ _ _ _ _ h _ = absurd (h _ _ _ _ (sym (roll-out-Value (V.StepInteger' stepping place int_type p object)) ∙ ap roll-Value (V.outs-StepInteger' stepping place int_type p object) ∙ V.rolls-StepInteger _ _ _ _))
value_last around table (V.StepPointer' stepping place p object) a _ _ _ _ _ _ _ _ _ _ _ _ _ _ _ _ _ _ _ _ _ _ _ h = absurd (h _ _ _ (sym (roll-out-Value (V.StepPointer' stepping place p object)) ∙ ap roll-Value (V.outs-StepPointer' stepping place p object) ∙ V.rolls-StepPointer _ _ _))
value_last around table (V.Call' is_used place p function c_type shape arguments) a _ _ _ _ _ _ _ _ _ _ _ _ _ _ _ _ _ _ _ _ _ _ _ _ = refl
value_last around table (V.LibraryCall' function groups place shape arguments) a _ _ _ _ _ _ _ _ _ _ _ _ _ _ _ _ _ _ _ _ _ _ _ _ = refl
