-- How deep an operand nests: as a value, converted, as a condition, and where its value isn't used.
use Rattle.std.proofs.Common.{◌≡◌, ℕ, suc, ◌≤◌, Bool, true, false, Option, Some, None, refl, ap, sym, subst, arith}
use Rattle.run_theory.specs.declared.place.Pos.{Pos}
use Rattle.c_rules.specs.declared.rule.TypeRule.TheVariants as R
use Rattle.c_typed.specs.Types.{CType, Integer, Pointer, is_array, is_integer, same_type}
use Rattle.c_typed.specs.Typed as T
use Rattle.c_typed.specs.Typed.{Value}
use Rattle.c_typed.specs.TypedDepths.{value_depth, object_depth, designator_depth}
use Rattle.c_rules.specs.Known.{Checked, Known, TypedExpr, OfValue, OfObject, OfFunction, OfLibrary, give, value_of_typed, value_in, value_rule, as_value}
use Rattle.c_rules.specs.Operators.{Condition, converted, unconverted_value, dropped, is_scalar, condition_of, scalar_rule, as_scalar, as_condition, integer_rule, as_integer, OperandKind, AnInteger, AnyValue, AScalar, operand, object_in}
use Rattle.c_rules.proofs.Holding.{Holds, either_holds, require_holds, given_holds}

-- how deep an expression nests, as a value that is converted
abbrev pub weight : TypedExpr → ℕ
weight (OfValue value) = suc (value_depth value)
weight (OfObject object) = suc (suc (object_depth object))
weight (OfFunction function) = suc (suc (designator_depth function))
weight (OfLibrary function groups) = 2

-- It nests at most so deep.
abbrev pub Within : ℕ → Known → Type 0
Within n known = weight known.typed ≤ n

-- A condition's value nests at most so deep.
abbrev pub TestWithin : ℕ → Condition → Type 0
TestWithin n condition = value_depth condition.test ≤ n

pub more_within : (n m : ℕ) (known : Option Known) → n ≤ m → Holds (Within n) known → Holds (Within m) known
more_within n m None more within = tt
more_within n m (Some known) more within = omega arith

-- ---- values

-- As a value an expression nests one node less deep than its weight.
pub read_depth : (place : Pos) (is_row : Bool) (typed : TypedExpr) → suc (value_depth (value_of_typed place is_row typed)) ≡ weight typed
read_depth place is_row (OfValue value) = refl
read_depth place true (OfObject object) = refl
read_depth place false (OfObject object) = refl
read_depth place is_row (OfFunction function) = refl
read_depth place is_row (OfLibrary function groups) = refl

pub in_value : (n : ℕ) (known : Known) → Within n known → suc (value_depth (value_in known)) ≤ n
in_value n known within = subst (λ (m : ℕ). m ≤ n) (sym (read_depth (record { line = 1; column = 1 }) (is_array known.c_type) known.typed)) within

-- An operand nests as deep as a value, as a scalar and as an integer.
pub value_within : (n : ℕ) (place : Pos) (part : Checked Known) → Holds (Within n) part.known → Holds (Within n) (as_value place part).known
value_within n place part within =
    given_holds (Within n) (Within n) part (value_rule place) within
    (λ known one. subst (λ (m : ℕ). m ≤ n) (sym (read_depth place (is_array known.c_type) known.typed)) one)

pub scalar_within : (n : ℕ) (place : Pos) (part : Checked Known) → Holds (Within n) part.known → Holds (Within n) (as_scalar place part).known
scalar_within n place part within =
    given_holds (Within n) (Within n) (as_value place part) (scalar_rule place) (value_within n place part within)
    (λ known one. require_holds (Within n) (is_scalar known.c_type) R.T08 place (give known) one)

pub integer_within : (n : ℕ) (place : Pos) (part : Checked Known) → Holds (Within n) part.known → Holds (Within n) (as_integer place part).known
integer_within n place part within =
    given_holds (Within n) (Within n) (as_value place part) (integer_rule place) (value_within n place part within)
    (λ known one. require_holds (Within n) (is_integer known.c_type) R.T07 place (give known) one)

pub operand_within : (kind : OperandKind) (n : ℕ) (place : Pos) (part : Checked Known) → Holds (Within n) part.known → Holds (Within n) (operand kind place part).known
operand_within AnInteger n place part within = integer_within n place part within
operand_within AnyValue n place part within = value_within n place part within
operand_within AScalar n place part within = scalar_within n place part within

-- ---- conversions

converted_depth : (place : Pos) (t : CType) (known : Known) → value_depth (converted place t known) ≤ suc (value_depth (value_in known))
converted_depth place (Integer int_type) known = omega arith
converted_depth place (Pointer target) known =
    either_holds (λ (v : Value). value_depth v ≤ suc (value_depth (value_in known))) known.is_null _ _ (omega arith)
    (either_holds (λ (v : Value). value_depth v ≤ suc (value_depth (value_in known))) (same_type (Pointer target) known.c_type) _ _ (omega arith) (omega arith))
converted_depth place t known = omega arith

-- A conversion is the one node more that a weight counts.
pub converted_within : (n : ℕ) (place : Pos) (t : CType) (known : Known) → Within n known → value_depth (converted place t known) ≤ n
converted_within n place t known within =
    let one = converted_depth place t known in
    let two = in_value n known within in
    omega arith

pub unconverted_within : (n : ℕ) (target : CType) (known : Known) → Within n known → value_depth (unconverted_value target known) ≤ n
unconverted_within n target known within =
    let two = in_value n known within in
    either_holds (λ (v : Value). value_depth v ≤ n) known.is_null _ _ (omega arith) (omega arith)

-- ---- conditions

-- as a condition
pub test_within : (n : ℕ) (place : Pos) (known : Known) → Within n known → TestWithin n (condition_of place known)
test_within n place known within =
    let two = in_value n known within in
    either_holds (λ (c : Condition). TestWithin n c) (is_integer known.c_type) _ _ (omega arith) (omega arith)

pub condition_within : (n : ℕ) (place : Pos) (part : Checked Known) → Holds (Within n) part.known → Holds (TestWithin n) (as_condition place part).known
condition_within n place part within =
    given_holds (Within n) (TestWithin n) (as_scalar place part) (λ value. give (condition_of place value)) (scalar_within n place part within)
    (λ known one. test_within n place known one)

-- ---- what isn't used

-- That a value isn't used makes no node.
pub dropped_depth : (value : Value) → value_depth (dropped value) ≡ value_depth value
dropped_depth (T.Call is_used place function c_type arguments) = refl
dropped_depth (T.Grouped inner) = ap suc (dropped_depth inner)
dropped_depth value = refl

-- ---- objects

pub object_in_depth : (typed : TypedExpr) → object_depth (object_in typed) ≤ weight typed
object_in_depth (OfValue value) = omega arith
object_in_depth (OfObject object) = omega arith
object_in_depth (OfFunction function) = omega arith
object_in_depth (OfLibrary function groups) = omega arith
