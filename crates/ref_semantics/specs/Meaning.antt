-- The reference: what a program means, with neither pools nor addresses.
--
-- Evaluation goes down the typed tree by one rule for each form, in the order of C17 as this project's profile fixes it:
-- operands and arguments from left to right, the left object of an assignment first. A unit is spent as each expression,
-- each statement and each tested label is tick; where none is left, the run is going.
use Rattle.std.specs.Prelude.{ℕ, zero, suc, Bool, true, false, not, ◌&&◌, ◌==◌, nat_lt, if◌then◌else◌, List, [], ◌∷◌, length, Option, Some, None, Result, Ok, Err, ℤ, pos, neg_ℤ, ◌-ℤ◌, bytes_eq, codes}
use Rattle.std.specs.Ordering.{int_eq}
use Rattle.run_theory.specs.declared.place.Pos.{Pos}
use Rattle.run_theory.specs.declared.ends.UbKind.{UbKind}
use Rattle.run_theory.specs.declared.ends.UbKind.TheVariants as Ub
use Rattle.run_theory.specs.Runs
use Rattle.run_theory.specs.Runs.{Called, DepthReached}
use Rattle.c_num.specs.declared.IntType.{IntType}
use Rattle.c_num.specs.declared.IntType.TheVariants as I
use Rattle.c_num.specs.declared.BinOp.{BinOp}
use Rattle.c_num.specs.declared.BinOp.TheVariants as B
use Rattle.c_num.specs.declared.ArithUb.{ArithUb}
use Rattle.c_num.specs.declared.ArithUb.TheVariants as U
use Rattle.c_num.specs.Types.{common_of}
use Rattle.c_num.specs.Conversion.{convert_to}
use Rattle.c_num.specs.Arith.{is_shift, outcome_of, compare_of}
use Rattle.c_typed.specs.Types.{CType, literal_type, same_type, is_void}
use Rattle.c_typed.specs.Values.{not_zero}
use Rattle.c_typed.specs.Typed as T
use Rattle.c_typed.specs.Typed.{Value, Object, Designator, Stmt, Block, SwitchItems, LocalDef, ForStart, FunctionDef}
use Rattle.c_typed.specs.declared.typed.Stepping.{Stepping}
use Rattle.c_typed.specs.declared.typed.Stepping.TheVariants as Steppings
use Rattle.ref_semantics.specs.Values.{Name, LocalObject, GlobalObject, LiteralObject, Place, Scalar, IntegerValue, NullValue, FunctionValue, PointerValue, Dead, Elements, first_of_row, object_place, integer_of}
use Rattle.ref_semantics.specs.Store.{TypeEnvironment, Objects, Outcome, Then, Stopped, Eval, ◌>>=◌, give, halt, undefined, tick, ticks, emit, with_objects, store_content, premise, unless, with_content, row_of, member_at, decayed}
use Rattle.ref_semantics.specs.Pointers.{truth, accessed, added, element, repointed, tested, compared_pointers, difference, read, write}
use Rattle.ref_semantics.specs.Library.{library}

-- ---- integers

abbrev pub is_true : Scalar → Bool
is_true (IntegerValue z) = not_zero z
is_true _ = false

abbrev pub kind_of : ArithUb → UbKind
kind_of U.Overflow = Ub.U01
kind_of U.DivideByZero = Ub.U02
kind_of U.BadShift = Ub.U03

abbrev pub outcome_at : Pos → Result ℤ ArithUb → Eval Scalar
outcome_at place (Ok z) = give (IntegerValue z)
outcome_at place (Err kind) = undefined (kind_of kind) place

abbrev pub converted : IntType → Scalar → Scalar
converted int_type value = IntegerValue (convert_to int_type (integer_of value))

-- the right operand, as a value of the type in which the operator works unless it shifts
abbrev pub right_of : BinOp → IntType → ℤ → ℤ
right_of op int_type z = if is_shift op then z else convert_to int_type z

-- An operator on values of the type in which it works: the operands are converted to it before, so that to take them as values of
-- it changes nothing (C17 6.3.1.3 paragraph 1).
abbrev pub arithmetic : BinOp → IntType → Pos → Scalar → Scalar → Eval Scalar
arithmetic op int_type place a b = outcome_at place (outcome_of op int_type (convert_to int_type (integer_of a)) (right_of op int_type (integer_of b)))

-- ---- expressions

-- a call of a function by its name, with its arguments
abbrev pub Calls : Type 0
Calls = Pos → Bool → CType → Scalar → List Scalar → Eval Scalar

abbrev pub local_name : List ℕ → ℕ → Option Name
local_name [] number = None
local_name (newest ∷ others) number = if length others == number then Some (LocalObject newest) else local_name others number

-- an object alone, as it stands in the store
abbrev pub named : Name → Eval Place
named name = with_objects (λ objects. give (first_of_row name (row_of (objects name))))

abbrev pub local_place : ℕ → Eval Place
local_place number state = by (local_name state.locals number) state
  where
    by : Option Name → Eval Place
    by (Some name) = named name
    by None = named (LocalObject 0)

-- `x++` and its like: x + 1 in the common type of x and int, converted back
abbrev pub step_operator : Stepping → BinOp
step_operator Steppings.PreIncrement = B.Add
step_operator Steppings.PostIncrement = B.Add
step_operator _ = B.Sub

abbrev pub step_amount : Stepping → ℤ
step_amount Steppings.PreIncrement = pos 1
step_amount Steppings.PostIncrement = pos 1
step_amount _ = neg_ℤ (pos 1)

abbrev pub step_result : Stepping → Scalar → Scalar → Scalar
step_result Steppings.PostIncrement old new = old
step_result Steppings.PostDecrement old new = old
step_result _ old new = new

-- ---- how statements end, turns of loops, and the life of locals

-- how a statement ends
pub data Completion : Type 0 where
  Normal : Completion
  Break : Completion
  Continue : Completion
  Return : (value : Option Scalar) → Completion

abbrev pub way_or : Option Completion → Eval Completion → Eval Completion
way_or (Some way) rest = give way
way_or None rest = rest

-- a loop's turns, of which there are no more than the units that are left and one
abbrev pub turns : Eval (Option Completion) → ℕ → Eval Completion
turns turn zero = give Normal
turns turn (suc n) = turn >>= λ way. way_or way (turns turn n)

abbrev pub loop : Eval (Option Completion) → Eval Completion
loop turn state = turns turn (suc state.units) state

-- a turn goes on, unless its body breaks or returns
abbrev pub after_body : Completion → Option Completion
after_body Break = Some Normal
after_body (Return value) = Some (Return value)
after_body _ = None

abbrev pub optional_value : (Value → Eval Scalar) → Option Value → Eval (Option Scalar)
optional_value eval None = give None
optional_value eval (Some v) = eval v >>= λ a. give (Some a)

abbrev pub holds : Option Scalar → Bool
holds None = true
holds (Some a) = is_true a

abbrev pub new_local : CType → Eval Place
new_local c_type state =
    store_content (LocalObject state.next_local) (Elements false c_type 1 (λ offset. None)) (give (object_place (LocalObject state.next_local) c_type))
    (record state { locals = state.next_local ∷ state.locals; next_local = suc state.next_local })

abbrev pub stored_first : TypeEnvironment → Place → Option Scalar → Eval Completion
stored_first around place None = give Normal
stored_first around place (Some a) = write around (record { line = 1; column = 1 }) place a >>= λ b. give Normal

abbrev pub killed : ℕ → List ℕ → Objects → Objects
killed count [] objects = objects
killed count (newest ∷ others) objects = if nat_lt (length others) count then objects else killed count others (with_content (LocalObject newest) Dead objects)

abbrev pub kept : ℕ → List ℕ → List ℕ
kept count [] = []
kept count (newest ∷ others) = if nat_lt (length others) count then newest ∷ others else kept count others

-- the locals of a block die at its end
abbrev pub leave : Completion → ℕ → Eval Completion
leave way count state = Then way (record state { objects = killed count state.locals state.objects; locals = kept count state.locals })

abbrev pub scoped : Eval Completion → Eval Completion
scoped inside state = (inside >>= λ way. leave way (length state.locals)) state

-- the labels of a `switch` are tested in order; without one that fits it goes on at `default`
pub data Entry : Type 0 where
  NoEntry : Entry
  At : (number : ℕ) → Entry

abbrev pub later_entry : Entry → Entry
later_entry NoEntry = NoEntry
later_entry (At number) = At (suc number)

abbrev pub default_at : SwitchItems → Entry
default_at T.SwitchEnd = NoEntry
default_at (T.Case label others) = later_entry (default_at others)
default_at (T.Default others) = At 0
default_at (T.SwitchStmt one others) = later_entry (default_at others)

abbrev pub case_at : ℤ → ℕ → SwitchItems → Eval Entry
case_at z number T.SwitchEnd = give NoEntry
case_at z number (T.Case label others) = tick (if int_eq z label then give (At number) else case_at z (suc number) others)
case_at z number (T.Default others) = case_at z (suc number) others
case_at z number (T.SwitchStmt one others) = case_at z (suc number) others

abbrev pub entry_or : Entry → Entry → Entry
entry_or NoEntry other = other
entry_or (At number) other = At number

abbrev pub broken_out : Completion → Completion
broken_out Break = Normal
broken_out way = way

-- what follows a statement
abbrev pub block_rest : Completion → Eval Completion → Eval Completion
block_rest Normal rest = rest
block_rest way rest = give way

abbrev pub do_condition : Option Completion → Eval Scalar → Eval (Option Completion)
do_condition (Some way) condition = give (Some way)
do_condition None condition = condition >>= λ c. give (if is_true c then None else Some Normal)

abbrev pub for_step : Option Completion → Eval (Option Scalar) → Eval (Option Completion)
for_step (Some way) step = give (Some way)
for_step None step = step >>= λ a. give None

-- ---- the rules, in an environment of types, where calls mean this

module _ (around : TypeEnvironment) (calls : Calls) where
  abbrev mutual
    pub value : Value → Eval Scalar
    value (T.Constant int_type z) = tick (give (IntegerValue z))
    value T.NullPointer = tick (give NullValue)
    value (T.Grouped inner) = tick (value inner)
    value (T.Read place object) = find object >>= λ p. read around place p
    value (T.Decay place object) = find object >>= λ p. give (PointerValue (decayed around p))
    value (T.FunctionValue function) = designated function
    value (T.Converted int_type operand) = value operand >>= λ a. give (converted int_type a)
    value (T.Repointed place target operand) = value operand >>= λ a. repointed around place target a
    value (T.MadeNull target operand) = value operand >>= λ a. give NullValue
    value (T.Tested place operand) = value operand >>= λ a. tested place a
    value (T.Plus operand) = tick (value operand)
    value (T.Minus place int_type operand) = tick (value operand >>= λ a. arithmetic B.Sub int_type place (IntegerValue (pos 0)) a)
    value (T.Complement int_type operand) = tick (value operand >>= λ a. give (converted int_type (IntegerValue (neg_ℤ (integer_of a) -ℤ pos 1))))
    value (T.Not operand) = tick (value operand >>= λ a. give (truth (not (is_true a))))
    value (T.Arithmetic op place int_type left right) = tick (value left >>= λ a. value right >>= λ b. arithmetic op int_type place a b)
    value (T.Compare relation left right) = tick (value left >>= λ a. value right >>= λ b. give (truth (compare_of relation (integer_of a) (integer_of b))))
    value (T.ComparePointers relation place left right) = tick (value left >>= λ a. value right >>= λ b. compared_pointers around relation place a b)
    value (T.PointerPlus place pointer number) = tick (value pointer >>= λ p. value number >>= λ n. added place p (integer_of n))
    value (T.NumberPlus place number pointer) = tick (value number >>= λ n. value pointer >>= λ p. added place p (integer_of n))
    value (T.PointerMinus place pointer number) = tick (value pointer >>= λ p. value number >>= λ n. added place p (neg_ℤ (integer_of n)))
    value (T.PointerDifference place left right) = tick (value left >>= λ a. value right >>= λ b. difference place a b)
    value (T.And left right) = tick (value left >>= λ a. if is_true a then (value right >>= λ b. give (truth (is_true b))) else give (truth false))
    value (T.Or left right) = tick (value left >>= λ a. if is_true a then give (truth true) else (value right >>= λ b. give (truth (is_true b))))
    value (T.Conditional condition taken otherwise) = tick (value condition >>= λ c. if is_true c then value taken else value otherwise)
    value (T.AddressOf place object) = tick (address object)
    value (T.AddressOfFunction function) = tick (designated function)
    value (T.Cast operand) = tick (value operand)
    value (T.CastVoid operand) = tick (value operand)
    value (T.Assign place object operand) = tick (find object >>= λ p. value operand >>= λ a. write around place p a)
    value (T.AssignArithmetic op place object_type int_type object operand) =
        tick (find object >>= λ p. value operand >>= λ b. read around place p >>= λ a. arithmetic op int_type place (converted int_type a) b >>= λ c. write around place p (converted object_type c))
    value (T.AssignMoved is_minus place object number) =
        tick (find object >>= λ p. value number >>= λ n. read around place p >>= λ a. added place a (if is_minus then neg_ℤ (integer_of n) else integer_of n) >>= λ c. write around place p c)
    value (T.StepInteger stepping place int_type object) =
        tick (find object >>= λ p. read around place p >>= λ a. arithmetic (step_operator stepping) (common_of int_type I.Int) place (converted (common_of int_type I.Int) a) (IntegerValue (pos 1)) >>= λ c. write around place p (converted int_type c) >>= λ new. give (step_result stepping a new))
    value (T.StepPointer stepping place object) =
        tick (find object >>= λ p. read around place p >>= λ a. added place a (step_amount stepping) >>= λ c. write around place p c >>= λ new. give (step_result stepping a new))
    value (T.Call is_used place function c_type arguments) = tick (designated function >>= λ f. values arguments >>= λ given. calls place is_used c_type f given)
    value (T.LibraryCall function groups place arguments) = tick (ticks groups (tick (values arguments >>= λ given. library around function place given)))

    pub values : T.Values → Eval (List Scalar)
    values T.NoValues = give []
    values (T.MoreValues first others) = value first >>= λ a. values others >>= λ given. give (a ∷ given)

    -- the object of an expression
    pub find : Object → Eval Place
    find (T.Local number) = tick (local_place number)
    find (T.Global name) = tick (named (GlobalObject name))
    find (T.Literal place bytes) = tick (give (object_place (LiteralObject place) (literal_type bytes)))
    find (T.GroupedObject place inner) = tick (find inner)
    find (T.Pointed place pointer) = tick (value pointer >>= λ p. accessed place p)
    find (T.Element place pointer number) = tick (value pointer >>= λ p. value number >>= λ n. element place p (integer_of n))
    find (T.ElementOf place number pointer) = tick (value number >>= λ n. value pointer >>= λ p. element place p (integer_of n))
    find (T.MemberOf place object number) = tick (find object >>= λ p. give (member_at around p number))
    find (T.PointedMember place pointer number) = tick (value pointer >>= λ a. accessed place a >>= λ p. give (member_at around p number))

    -- the address of an object: `&*p` is p and `&p[i]` is p + i (C17 6.5.3.2 paragraph 3)
    pub address : Object → Eval Scalar
    address (T.Pointed place pointer) = tick (value pointer)
    address (T.Element place pointer number) = tick (value pointer >>= λ p. value number >>= λ n. added place p (integer_of n))
    address (T.ElementOf place number pointer) = tick (value number >>= λ n. value pointer >>= λ p. added place p (integer_of n))
    address (T.GroupedObject place inner) = tick (address inner)
    address (T.Local number) = tick (local_place number) >>= λ p. give (PointerValue p)
    address (T.Global name) = tick (named (GlobalObject name) >>= λ p. give (PointerValue p))
    address (T.Literal place bytes) = tick (give (PointerValue (object_place (LiteralObject place) (literal_type bytes))))
    address (T.MemberOf place object number) = tick (find object >>= λ p. give (PointerValue (member_at around p number)))
    address (T.PointedMember place pointer number) = tick (value pointer >>= λ a. accessed place a >>= λ p. give (PointerValue (member_at around p number)))

    -- the function of an expression, which may be null where it is a pointer's
    pub designated : Designator → Eval Scalar
    designated (T.Function name) = tick (give (FunctionValue name))
    designated (T.GroupedFunction inner) = tick (designated inner)
    designated (T.PointedFunction place pointer) = tick (value pointer)
    designated (T.ThroughPointer place pointer) = value pointer

  -- ---- statements

  -- a local begins to live, and then gets its first value (C17 6.2.4 paragraph 6)
  abbrev pub declare : LocalDef → Eval Completion
  declare local = new_local local.c_type >>= λ p. optional_value value local.first >>= λ a. stored_first around p a

  abbrev pub declare_all : List LocalDef → Eval Completion
  declare_all [] = give Normal
  declare_all (first ∷ others) = declare first >>= λ way. declare_all others

  abbrev pub start : ForStart → Eval Completion
  start T.StartNothing = give Normal
  start (T.StartValue v) = value v >>= λ a. give Normal
  start (T.StartLocals locals) = declare_all locals

  abbrev mutual
    pub stmt : Stmt → Eval Completion
    stmt (T.BlockStmt items) = tick (scoped (block items))
    stmt T.Empty = tick (give Normal)
    stmt (T.Expression v) = tick (value v >>= λ a. give Normal)
    stmt (T.If condition taken) = tick (value condition >>= λ c. if is_true c then stmt taken else give Normal)
    stmt (T.IfElse condition taken otherwise) = tick (value condition >>= λ c. if is_true c then stmt taken else stmt otherwise)
    stmt (T.While condition body) =
        tick (loop (value condition >>= λ c. if is_true c then (stmt body >>= λ way. give (after_body way)) else give (Some Normal)))
    stmt (T.DoWhile body condition) =
        tick (loop (stmt body >>= λ way. do_condition (after_body way) (value condition)))
    stmt (T.For begin condition step body) =
        tick (scoped (start begin >>= λ begun. loop (optional_value value condition >>= λ c.
        if holds c then (stmt body >>= λ way. for_step (after_body way) (optional_value value step)) else give (Some Normal))))
    stmt (T.Switch v items) =
        tick (value v >>= λ a. case_at (integer_of a) 0 items >>= λ found. switch_from (entry_or found (default_at items)) items >>= λ way. give (broken_out way))
    stmt T.Break = tick (give Break)
    stmt T.Continue = tick (give Continue)
    stmt (T.Return v) = tick (optional_value value v >>= λ a. give (Return a))

    pub block : Block → Eval Completion
    block T.Close = give Normal
    block (T.Declare local others) = declare local >>= λ begun. block others
    block (T.Perform one others) = stmt one >>= λ way. block_rest way (block others)

    -- from an item on
    pub switch_from : Entry → SwitchItems → Eval Completion
    switch_from NoEntry items = give Normal
    switch_from entry T.SwitchEnd = give Normal
    switch_from (At (suc number)) (T.Case label others) = switch_from (At number) others
    switch_from (At (suc number)) (T.Default others) = switch_from (At number) others
    switch_from (At (suc number)) (T.SwitchStmt one others) = switch_from (At number) others
    switch_from (At zero) (T.Case label others) = switch_from (At zero) others
    switch_from (At zero) (T.Default others) = switch_from (At zero) others
    switch_from (At zero) (T.SwitchStmt one others) = stmt one >>= λ way. block_rest way (switch_from (At zero) others)

-- ---- functions and programs

-- a function by its name, with its number
abbrev pub function_from : ℕ → List FunctionDef → List ℕ → Option (ℕ × FunctionDef)
function_from number [] name = None
function_from number (first ∷ others) name = if bytes_eq first.name name then Some (number, first) else function_from (suc number) others name

-- parameters are locals that hold the arguments
abbrev pub bind : TypeEnvironment → List CType → List Scalar → Eval Completion
bind around (c_type ∷ types) (a ∷ given) = new_local c_type >>= λ p. stored_first around p (Some a) >>= λ way. bind around types given
bind around _ _ = give Normal

abbrev pub given_back : Completion → Option Scalar
given_back (Return value) = value
given_back _ = None

-- `main` gives 0 where it ends without a value (C17 5.1.2.2.3)
abbrev pub main_value : List ℕ → Option Scalar → Option Scalar
main_value name None = if bytes_eq name (codes "main") then Some (IntegerValue (pos 0)) else None
main_value name (Some value) = Some value

-- a function's own locals begin anew
abbrev pub within_own : Eval Completion → Eval Completion
within_own inside state = restored state.locals (inside (record state { locals = [] }))
  where
    restored : List ℕ → Outcome Completion → Outcome Completion
    restored locals (Then way after) = Then way (record after { objects = killed 0 after.locals after.objects; locals = locals })
    restored locals (Stopped answer after) = Stopped answer after

abbrev pub run_function : TypeEnvironment → Calls → FunctionDef → List Scalar → Eval (Option Scalar)
run_function around calls function given =
    within_own (bind around function.parameters given >>= λ bound. tick (block around calls function.body)) >>= λ way. give (main_value function.name (given_back way))

-- the value of a call that is used (C17 6.9.1 paragraph 12)
abbrev pub used_value : Pos → Bool → CType → Option Scalar → Eval Scalar
used_value here is_used result (Some value) = give value
used_value here is_used result None = unless here (premise (is_used && not (is_void result)) Ub.U16 ∷ []) (give NullValue)

-- what is run where a function is called, by its number
abbrev pub Bodies : Type 0
Bodies = ℕ → FunctionDef → List Scalar → Eval (Option Scalar)

abbrev pub call_known : Bodies → Pos → Bool → CType → List Scalar → Option (ℕ × FunctionDef) → Eval Scalar
call_known bodies here is_used c_type given None = give NullValue
call_known bodies here is_used c_type given (Some found) =
    unless here (premise (not (same_type found.1.c_type c_type)) Ub.U14 ∷ [])
    (bodies found.0 found.1 given >>= λ result. used_value here is_used found.1.result result)

-- a call: of a null pointer, or through a pointer of another type, is undefined (C17 6.5.2.2 paragraph 9)
abbrev pub call_named : List FunctionDef → Bodies → Calls
call_named functions bodies here is_used c_type (FunctionValue name) given = call_known bodies here is_used c_type given (function_from 0 functions name)
call_named functions bodies here is_used c_type _ given = undefined Ub.U15 here

-- the bodies of calls that may nest so deep (this project's rule)
unfoldable pub bodies_within : TypeEnvironment → List FunctionDef → ℕ → Bodies
bodies_within around functions zero number function given = halt DepthReached
bodies_within around functions (suc depth) number function given =
    emit (Called number ∷ []) (run_function around (call_named functions (bodies_within around functions depth)) function given) >>= λ result. emit (Runs.Returned ∷ []) (give result)

unfoldable pub greatest_depth : ℕ
greatest_depth = 10000
