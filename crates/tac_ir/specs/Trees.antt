-- Registers, and what trees compute from them.
use Rattle.std.specs.Prelude.{ℕ, ◌+◌, ℤ, pos, Bool, if◌then◌else◌, ◌&&◌, ◌||◌, ◌==◌, false, Option, Some, None, Result, Ok, Err}
use Rattle.std.specs.Ordering.{int_eq}
use Rattle.c_num.specs.declared.IntType.{IntType}
use Rattle.c_num.specs.declared.BinOp.{BinOp}
use Rattle.c_num.specs.declared.ArithUb.{ArithUb}
use Rattle.c_num.specs.Types.{is_value}
use Rattle.c_num.specs.Conversion.{convert_to}
use Rattle.c_num.specs.Arith.{is_shift, outcome_of, complement_of, compare_of}
use Rattle.tac_ir.specs.declared.register.Register.{Register}
use Rattle.tac_ir.specs.declared.register.Register.TheVariants as R
use Rattle.tac_ir.specs.Values.{Value, Number, same_local}
use Rattle.tac_ir.specs.Code.{Tree, Constant, Held, Convert, Complement, Not, Arithmetic, Compare}

-- ---- registers

abbrev pub same_register : Register → Register → Bool
same_register (R.Local a) (R.Local b) = same_local a b
same_register (R.Call a) (R.Call b) = a == b
same_register (R.Argument a) (R.Argument b) = a == b
same_register (R.Expression a) (R.Expression b) = a == b
same_register (R.Temporary a) (R.Temporary b) = a == b
same_register _ _ = false

-- what registers hold; one that was not written yet holds nothing
abbrev pub Registers : Type 0
Registers = Register → Option Value

abbrev pub no_registers : Registers
no_registers register = None

abbrev pub with_register : Register → Option Value → Registers → Registers
with_register register value registers other = if same_register register other then value else registers other

-- ---- integers

abbrev pub then_integer : Option ℤ → (ℤ → Option ℤ) → Option ℤ
then_integer None next = None
then_integer (Some z) next = next z

abbrev pub where_value : IntType → ℤ → Option ℤ → Option ℤ
where_value int_type z next = if is_value int_type z then next else None

abbrev pub integer_in : Option Value → Option ℤ
integer_in (Some (Number z)) = Some z
integer_in _ = None

abbrev pub is_zero : ℤ → Bool
is_zero z = int_eq z (pos 0)

-- the int that comparisons and `!` give (C17 6.5.3.3, 6.5.8, 6.5.9)
abbrev pub truth : Bool → ℤ
truth test = if test then pos 1 else pos 0

abbrev pub where_defined : Result ℤ ArithUb → Option ℤ
where_defined (Ok z) = Some z
where_defined (Err ub) = None

-- an operator on values of a type; the amount of a shift may be any integer
abbrev pub computed : BinOp → IntType → ℤ → ℤ → Option ℤ
computed operator int_type a b = if is_value int_type a && (is_shift operator || is_value int_type b) then where_defined (outcome_of operator int_type a b) else None

-- the integer that a tree computes; none where a register holds no integer, an operand is no value of its type, or the arithmetic is
-- undefined
abbrev pub computes : Registers → Tree → Option ℤ
computes registers (Constant z) = Some z
computes registers (Held register) = integer_in (registers register)
computes registers (Convert int_type operand) = then_integer (computes registers operand) (λ z. Some (convert_to int_type z))
computes registers (Complement int_type operand) = then_integer (computes registers operand) (λ z. where_value int_type z (Some (complement_of int_type z)))
computes registers (Not int_type operand) = then_integer (computes registers operand) (λ z. where_value int_type z (Some (truth (is_zero z))))
computes registers (Arithmetic operator int_type left right) = then_integer (computes registers left) (λ a. then_integer (computes registers right) (computed operator int_type a))
computes registers (Compare relation int_type left right) =
    then_integer (computes registers left) (λ a. then_integer (computes registers right) (λ b. where_value int_type a (where_value int_type b (Some (truth (compare_of relation a b))))))

-- how many nodes a tree has
abbrev pub tree_nodes : Tree → ℕ
tree_nodes (Constant z) = 1
tree_nodes (Held register) = 1
tree_nodes (Convert int_type operand) = 1 + tree_nodes operand
tree_nodes (Complement int_type operand) = 1 + tree_nodes operand
tree_nodes (Not int_type operand) = 1 + tree_nodes operand
tree_nodes (Arithmetic operator int_type left right) = 1 + tree_nodes left + tree_nodes right
tree_nodes (Compare relation int_type left right) = 1 + tree_nodes left + tree_nodes right
