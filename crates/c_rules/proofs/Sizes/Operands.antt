-- How many nodes an operand has: as a value, converted, as a condition, and where its value isn't used.
use Rattle.std.proofs.Common.{◌≡◌, ℕ, suc, ◌≤◌, Bool, true, false, Option, Some, None, refl, ap, sym, subst, arith}
use Rattle.run_theory.specs.declared.place.Pos.{Pos}
use Rattle.c_rules.specs.declared.rule.TypeRule.TheVariants as R
use Rattle.c_typed.specs.Types.{CType, Integer, Pointer, is_array, is_integer, same_type}
use Rattle.c_typed.specs.Typed as T
use Rattle.c_typed.specs.Typed.{Value}
use Rattle.c_typed.specs.TypedNodes.{value_nodes, object_nodes, designator_nodes}
use Rattle.c_rules.specs.Known.{Checked, Known, TypedExpr, OfValue, OfObject, OfFunction, OfLibrary, give, value_of_typed, value_in, value_rule, as_value}
use Rattle.c_rules.specs.Operators.{Condition, converted, unconverted_value, dropped, is_scalar, condition_of, scalar_rule, as_scalar, as_condition, integer_rule, as_integer, OperandKind, AnInteger, AnyValue, AScalar, operand, object_in}
use Rattle.c_rules.proofs.Holding.{Holds, either_holds, require_holds, given_holds}

-- the nodes of an expression as a value that is converted
abbrev pub weight : TypedExpr → ℕ
weight (OfValue value) = suc (value_nodes value)
weight (OfObject object) = suc (suc (object_nodes object))
weight (OfFunction function) = suc (suc (designator_nodes function))
weight (OfLibrary function groups) = 2

abbrev pub Within : ℕ → Known → Type 0
Within n known = weight known.typed ≤ n

abbrev pub TestWithin : ℕ → Condition → Type 0
TestWithin n condition = value_nodes condition.test ≤ n

pub more_within : (n m : ℕ) (known : Option Known) → n ≤ m → Holds (Within n) known → Holds (Within m) known
more_within n m None more within = tt
more_within n m (Some known) more within = omega arith

-- ---- values

pub read_nodes : (place : Pos) (is_row : Bool) (typed : TypedExpr) → suc (value_nodes (value_of_typed place is_row typed)) ≡ weight typed
read_nodes place is_row (OfValue value) = refl
read_nodes place true (OfObject object) = refl
read_nodes place false (OfObject object) = refl
read_nodes place is_row (OfFunction function) = refl
read_nodes place is_row (OfLibrary function groups) = refl

pub in_value : (n : ℕ) (known : Known) → Within n known → suc (value_nodes (value_in known)) ≤ n
in_value n known within = subst (λ (m : ℕ). m ≤ n) (sym (read_nodes (record { line = 1; column = 1 }) (is_array known.c_type) known.typed)) within

pub value_within : (n : ℕ) (place : Pos) (part : Checked Known) → Holds (Within n) part.known → Holds (Within n) (as_value place part).known
value_within n place part within =
    given_holds (Within n) (Within n) part (value_rule place) within
    (λ known one. subst (λ (m : ℕ). m ≤ n) (sym (read_nodes place (is_array known.c_type) known.typed)) one)

pub scalar_within : (n : ℕ) (place : Pos) (part : Checked Known) → Holds (Within n) part.known → Holds (Within n) (as_scalar place part).known
scalar_within n place part within =
    given_holds (Within n) (Within n) (as_value place part) (scalar_rule place) (value_within n place part within)
    (λ known one. require_holds (Within n) (is_scalar known.c_type) R.T08 place (give known) one)

pub integer_within : (n : ℕ) (place : Pos) (part : Checked Known) → Holds (Within n) part.known → Holds (Within n) (as_integer place part).known
integer_within n place part within =
    given_holds (Within n) (Within n) (as_value place part) (integer_rule place) (value_within n place part within)
    (λ known one. require_holds (Within n) (is_integer known.c_type) R.T07 place (give known) one)

pub operand_within : (kind : OperandKind) (n : ℕ) (place : Pos) (part : Checked Known) → Holds (Within n) part.known → Holds (Within n) (operand kind place part).known
operand_within AnInteger n place part within = integer_within n place part within
operand_within AnyValue n place part within = value_within n place part within
operand_within AScalar n place part within = scalar_within n place part within

-- ---- conversions

converted_nodes : (place : Pos) (t : CType) (known : Known) → value_nodes (converted place t known) ≤ suc (value_nodes (value_in known))
converted_nodes place (Integer int_type) known = omega arith
converted_nodes place (Pointer target) known =
    either_holds (λ (v : Value). value_nodes v ≤ suc (value_nodes (value_in known))) known.is_null _ _ (omega arith)
    (either_holds (λ (v : Value). value_nodes v ≤ suc (value_nodes (value_in known))) (same_type (Pointer target) known.c_type) _ _ (omega arith) (omega arith))
converted_nodes place t known = omega arith

pub converted_within : (n : ℕ) (place : Pos) (t : CType) (known : Known) → Within n known → value_nodes (converted place t known) ≤ n
converted_within n place t known within =
    let one = converted_nodes place t known in
    let two = in_value n known within in
    omega arith

pub unconverted_within : (n : ℕ) (target : CType) (known : Known) → Within n known → value_nodes (unconverted_value target known) ≤ n
unconverted_within n target known within =
    let two = in_value n known within in
    either_holds (λ (v : Value). value_nodes v ≤ n) known.is_null _ _ (omega arith) (omega arith)

-- ---- conditions

pub test_within : (n : ℕ) (place : Pos) (known : Known) → Within n known → TestWithin n (condition_of place known)
test_within n place known within =
    let two = in_value n known within in
    either_holds (λ (c : Condition). TestWithin n c) (is_integer known.c_type) _ _ (omega arith) (omega arith)

pub condition_within : (n : ℕ) (place : Pos) (part : Checked Known) → Holds (Within n) part.known → Holds (TestWithin n) (as_condition place part).known
condition_within n place part within =
    given_holds (Within n) (TestWithin n) (as_scalar place part) (λ value. give (condition_of place value)) (scalar_within n place part within)
    (λ known one. test_within n place known one)

-- ---- what isn't used

pub dropped_nodes : (value : Value) → value_nodes (dropped value) ≡ value_nodes value
dropped_nodes (T.Call is_used place function c_type arguments) = refl
dropped_nodes (T.Grouped inner) = ap suc (dropped_nodes inner)
dropped_nodes value = refl

-- ---- objects

pub object_in_nodes : (typed : TypedExpr) → object_nodes (object_in typed) ≤ weight typed
object_in_nodes (OfValue value) = omega arith
object_in_nodes (OfObject object) = omega arith
object_in_nodes (OfFunction function) = omega arith
object_in_nodes (OfLibrary function groups) = omega arith
