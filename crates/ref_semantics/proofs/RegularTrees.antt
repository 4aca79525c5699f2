-- Every form of a typed tree is regular, where calls are, and an expression or a statement spends a unit. So a program's calls are
-- regular too, and its loops have as many turns as they need.
use Rattle.std.proofs.Common.{ℕ, zero, suc, Bool, if◌then◌else◌, List, [], ◌∷◌, Option, Some, None, ℤ, pos, neg_ℤ, int_eq}
use Rattle.run_theory.specs.declared.place.Pos.{Pos}
use Rattle.run_theory.specs.declared.ends.UbKind.TheVariants as Ub
use Rattle.run_theory.specs.Runs
use Rattle.run_theory.specs.Runs.{Called, DepthReached}
use Rattle.c_num.specs.declared.IntType.TheVariants as I
use Rattle.c_num.specs.declared.BinOp.TheVariants as B
use Rattle.c_num.specs.Types.{common_of}
use Rattle.c_typed.specs.Types.{CType}
use Rattle.c_typed.specs.Typed as T
use Rattle.c_typed.specs.Typed.{Value, Object, Designator, Stmt, Block, SwitchItems, LocalDef, ForStart, FunctionDef}
use Rattle.ref_semantics.specs.Values.{GlobalObject, Scalar, IntegerValue, FunctionValue, PointerValue, integer_of}
use Rattle.ref_semantics.specs.Store.{TypeEnvironment, Eval, ◌>>=◌, give, tick}
use Rattle.ref_semantics.specs.Meaning.{Calls, is_true, converted, step_operator, step_amount, value, values, find, address, designated, Completion, Normal, after_body, optional_value, holds, declare, declare_all, start, Entry, NoEntry, At, default_at, case_at, entry_or, do_condition, for_step, stmt, block, switch_from, run_function, used_value, Bodies, call_known, call_named, function_from, bodies_within}
use Rattle.ref_semantics.proofs.Budgets.{Lawful}
use Rattle.ref_semantics.proofs.Regular.{Regular, Strict, strict_regular, then_regular, then_strict, give_regular, over_strict, undefined_strict, entered_strict, entered_times_regular, happened_regular, choice_regular, loop_regular}
use Rattle.ref_semantics.proofs.RegularSteps.{accessed_regular, added_regular, element_regular, repointed_regular, tested_regular, compared_pointers_regular, difference_regular, read_regular, write_regular, library_regular, arithmetic_regular, named_regular, local_place_regular, new_local_regular, stored_first_regular, bind_regular, scoped_regular, within_own_regular, block_rest_regular}

-- calls that are regular
abbrev pub CallsRegular : Calls → Type 0
CallsRegular calls = (here : Pos) (is_used : Bool) (c_type : CType) (f : Scalar) (given : List Scalar) → Regular (calls here is_used c_type f given)

-- ---- what is tick, by its operands

inner_strict : {A : Type 0} {rest : Eval A} → Strict rest → Strict (tick rest)
inner_strict h = entered_strict (strict_regular h)

one_strict : {A B : Type 0} {first : Eval A} {next : A → Eval B} → Strict first → ((a : A) → Regular (next a)) → Strict (tick (first >>= next))
one_strict h each = entered_strict (then_regular (strict_regular h) each)

two_strict : {A B C : Type 0} {first : Eval A} {second : Eval B} {next : A → B → Eval C} → Strict first → Strict second → ((a : A) (b : B) → Regular (next a b)) → Strict (tick (first >>= λ a. second >>= λ b. next a b))
two_strict h k each = one_strict h (λ a. then_regular (strict_regular k) (each a))

-- ---- the turns of loops

while_turn : {condition : Eval Scalar} {body : Eval Completion} → Strict condition → Regular body → Strict (condition >>= λ c. if is_true c then (body >>= λ way. give (after_body way)) else give (Some Normal))
while_turn h k = then_strict h (λ c. choice_regular (is_true c) (then_regular k (λ way. give_regular _)) (give_regular _))

pub do_condition_regular : (way : Option Completion) {condition : Eval Scalar} → Regular condition → Regular (do_condition way condition)
do_condition_regular (Some way) h = give_regular _
do_condition_regular None h = then_regular h (λ c. give_regular _)

do_turn : {body : Eval Completion} {condition : Eval Scalar} → Strict body → Regular condition → Strict (body >>= λ way. do_condition (after_body way) condition)
do_turn h k = then_strict h (λ way. do_condition_regular (after_body way) k)

pub for_step_regular : (way : Option Completion) {step : Eval (Option Scalar)} → Regular step → Regular (for_step way step)
for_step_regular (Some way) h = give_regular _
for_step_regular None h = then_regular h (λ a. give_regular _)

pub for_body : {body : Eval Completion} {step : Eval (Option Scalar)} → Strict body → Regular step → Strict (body >>= λ way. for_step (after_body way) step)
for_body h k = then_strict h (λ way. for_step_regular (after_body way) k)

-- a turn without a condition enters its body
for_turn : (eval : Value → Eval Scalar) → ((v : Value) → Strict (eval v)) → (condition : Option Value) {body : Eval Completion} {step : Eval (Option Scalar)} → Strict body → Regular step →
    Strict (optional_value eval condition >>= λ c. if holds c then (body >>= λ way. for_step (after_body way) step) else give (Some Normal))
for_turn eval each None h k = for_body h k
for_turn eval each (Some v) h k = then_strict (then_strict (each v) (λ a. give_regular _)) (λ c. choice_regular (holds c) (strict_regular (for_body h k)) (give_regular _))

-- ---- the labels of a `switch`

pub case_at_regular : (z : ℤ) (number : ℕ) (items : SwitchItems) → Regular (case_at z number items)
case_at_regular z number T.SwitchEnd = give_regular NoEntry
case_at_regular z number (T.Case label others) = strict_regular (entered_strict (choice_regular (int_eq z label) (give_regular (At number)) (case_at_regular z (suc number) others)))
case_at_regular z number (T.Default others) = case_at_regular z (suc number) others
case_at_regular z number (T.SwitchStmt one others) = case_at_regular z (suc number) others

module _ (around : TypeEnvironment) (calls : Calls) (calls_regular : CallsRegular calls) where
  -- ---- expressions

  mutual
    pub value_strict : (v : Value) → Strict (value around calls v)
    value_strict (T.Constant int_type z) = entered_strict (give_regular _)
    value_strict T.NullPointer = entered_strict (give_regular _)
    value_strict (T.Grouped inner) = inner_strict (value_strict inner)
    value_strict (T.Read place object) = then_strict (find_strict object) (λ p. read_regular around place p)
    value_strict (T.Decay place object) = then_strict (find_strict object) (λ p. give_regular _)
    value_strict (T.FunctionValue function) = designated_strict function
    value_strict (T.Converted int_type operand) = then_strict (value_strict operand) (λ a. give_regular _)
    value_strict (T.Repointed place target operand) = then_strict (value_strict operand) (λ a. repointed_regular around place target a)
    value_strict (T.MadeNull target operand) = then_strict (value_strict operand) (λ a. give_regular _)
    value_strict (T.Tested place operand) = then_strict (value_strict operand) (λ a. tested_regular place a)
    value_strict (T.Plus operand) = inner_strict (value_strict operand)
    value_strict (T.Minus place int_type operand) = one_strict (value_strict operand) (λ a. arithmetic_regular B.Sub int_type place (IntegerValue (pos 0)) a)
    value_strict (T.Complement int_type operand) = one_strict (value_strict operand) (λ a. give_regular _)
    value_strict (T.Not operand) = one_strict (value_strict operand) (λ a. give_regular _)
    value_strict (T.Arithmetic op place int_type left right) = two_strict (value_strict left) (value_strict right) (λ a b. arithmetic_regular op int_type place a b)
    value_strict (T.Compare relation left right) = two_strict (value_strict left) (value_strict right) (λ a b. give_regular _)
    value_strict (T.ComparePointers relation place left right) = two_strict (value_strict left) (value_strict right) (λ a b. compared_pointers_regular around relation place a b)
    value_strict (T.PointerPlus place pointer number) = two_strict (value_strict pointer) (value_strict number) (λ p n. added_regular place p (integer_of n))
    value_strict (T.NumberPlus place number pointer) = two_strict (value_strict number) (value_strict pointer) (λ n p. added_regular place p (integer_of n))
    value_strict (T.PointerMinus place pointer number) = two_strict (value_strict pointer) (value_strict number) (λ p n. added_regular place p (neg_ℤ (integer_of n)))
    value_strict (T.PointerDifference place left right) = two_strict (value_strict left) (value_strict right) (λ a b. difference_regular place a b)
    value_strict (T.And left right) = one_strict (value_strict left) (λ a. choice_regular (is_true a) (then_regular (strict_regular (value_strict right)) (λ b. give_regular _)) (give_regular _))
    value_strict (T.Or left right) = one_strict (value_strict left) (λ a. choice_regular (is_true a) (give_regular _) (then_regular (strict_regular (value_strict right)) (λ b. give_regular _)))
    value_strict (T.Conditional condition taken otherwise) = one_strict (value_strict condition) (λ c. choice_regular (is_true c) (strict_regular (value_strict taken)) (strict_regular (value_strict otherwise)))
    value_strict (T.AddressOf place object) = inner_strict (address_strict object)
    value_strict (T.AddressOfFunction function) = inner_strict (designated_strict function)
    value_strict (T.Cast operand) = inner_strict (value_strict operand)
    value_strict (T.CastVoid operand) = inner_strict (value_strict operand)
    value_strict (T.Assign place object operand) = two_strict (find_strict object) (value_strict operand) (λ p a. write_regular around place p a)
    value_strict (T.AssignArithmetic op place object_type int_type object operand) =
        two_strict (find_strict object) (value_strict operand) (λ p b. then_regular (read_regular around place p) (λ a.
        then_regular (arithmetic_regular op int_type place (converted int_type a) b) (λ c. write_regular around place p (converted object_type c))))
    value_strict (T.AssignMoved is_minus place object number) =
        two_strict (find_strict object) (value_strict number) (λ p n. then_regular (read_regular around place p) (λ a.
        then_regular (added_regular place a (if is_minus then neg_ℤ (integer_of n) else integer_of n)) (λ c. write_regular around place p c)))
    value_strict (T.StepInteger stepping place int_type object) =
        one_strict (find_strict object) (λ p. then_regular (read_regular around place p) (λ a.
        then_regular (arithmetic_regular (step_operator stepping) (common_of int_type I.Int) place (converted (common_of int_type I.Int) a) (IntegerValue (pos 1))) (λ c.
        then_regular (write_regular around place p (converted int_type c)) (λ new. give_regular _))))
    value_strict (T.StepPointer stepping place object) =
        one_strict (find_strict object) (λ p. then_regular (read_regular around place p) (λ a.
        then_regular (added_regular place a (step_amount stepping)) (λ c. then_regular (write_regular around place p c) (λ new. give_regular _))))
    value_strict (T.Call is_used place function c_type arguments) = one_strict (designated_strict function) (λ f. then_regular (values_regular arguments) (λ given. calls_regular place is_used c_type f given))
    value_strict (T.LibraryCall function groups place arguments) =
        entered_strict (entered_times_regular groups (strict_regular (entered_strict (then_regular (values_regular arguments) (λ given. library_regular around function place given)))))

    pub values_regular : (arguments : T.Values) → Regular (values around calls arguments)
    values_regular T.NoValues = give_regular []
    values_regular (T.MoreValues first others) = then_regular (strict_regular (value_strict first)) (λ a. then_regular (values_regular others) (λ given. give_regular _))

    pub find_strict : (object : Object) → Strict (find around calls object)
    find_strict (T.Local number) = entered_strict (local_place_regular number)
    find_strict (T.Global name) = entered_strict (named_regular (GlobalObject name))
    find_strict (T.Literal place bytes) = entered_strict (give_regular _)
    find_strict (T.GroupedObject place inner) = inner_strict (find_strict inner)
    find_strict (T.Pointed place pointer) = one_strict (value_strict pointer) (λ p. accessed_regular place p)
    find_strict (T.Element place pointer number) = two_strict (value_strict pointer) (value_strict number) (λ p n. element_regular place p (integer_of n))
    find_strict (T.ElementOf place number pointer) = two_strict (value_strict number) (value_strict pointer) (λ n p. element_regular place p (integer_of n))
    find_strict (T.MemberOf place object number) = one_strict (find_strict object) (λ p. give_regular _)
    find_strict (T.PointedMember place pointer number) = one_strict (value_strict pointer) (λ a. then_regular (accessed_regular place a) (λ p. give_regular _))

    pub address_strict : (object : Object) → Strict (address around calls object)
    address_strict (T.Pointed place pointer) = inner_strict (value_strict pointer)
    address_strict (T.Element place pointer number) = two_strict (value_strict pointer) (value_strict number) (λ p n. added_regular place p (integer_of n))
    address_strict (T.ElementOf place number pointer) = two_strict (value_strict number) (value_strict pointer) (λ n p. added_regular place p (integer_of n))
    address_strict (T.GroupedObject place inner) = inner_strict (address_strict inner)
    address_strict (T.Local number) = then_strict (entered_strict (local_place_regular number)) (λ p. give_regular _)
    address_strict (T.Global name) = entered_strict (then_regular (named_regular (GlobalObject name)) (λ p. give_regular (PointerValue p)))
    address_strict (T.Literal place bytes) = entered_strict (give_regular _)
    address_strict (T.MemberOf place object number) = one_strict (find_strict object) (λ p. give_regular _)
    address_strict (T.PointedMember place pointer number) = one_strict (value_strict pointer) (λ a. then_regular (accessed_regular place a) (λ p. give_regular _))

    pub designated_strict : (function : Designator) → Strict (designated around calls function)
    designated_strict (T.Function name) = entered_strict (give_regular _)
    designated_strict (T.GroupedFunction inner) = inner_strict (designated_strict inner)
    designated_strict (T.PointedFunction place pointer) = inner_strict (value_strict pointer)
    designated_strict (T.ThroughPointer place pointer) = value_strict pointer

  -- ---- statements

  pub optional_regular : (v : Option Value) → Regular (optional_value (value around calls) v)
  optional_regular None = give_regular _
  optional_regular (Some v) = then_regular (strict_regular (value_strict v)) (λ a. give_regular _)

  pub declare_regular : (local : LocalDef) → Regular (declare around calls local)
  declare_regular local = then_regular (new_local_regular local.c_type) (λ p. then_regular (optional_regular local.first) (λ a. stored_first_regular around p a))

  pub declare_all_regular : (locals : List LocalDef) → Regular (declare_all around calls locals)
  declare_all_regular [] = give_regular _
  declare_all_regular (first ∷ others) = then_regular (declare_regular first) (λ way. declare_all_regular others)

  pub start_regular : (begin : ForStart) → Regular (start around calls begin)
  start_regular T.StartNothing = give_regular _
  start_regular (T.StartValue v) = then_regular (strict_regular (value_strict v)) (λ a. give_regular _)
  start_regular (T.StartLocals locals) = declare_all_regular locals

  mutual
    pub stmt_strict : (s : Stmt) → Strict (stmt around calls s)
    stmt_strict (T.BlockStmt items) = entered_strict (scoped_regular (block_regular items))
    stmt_strict T.Empty = entered_strict (give_regular _)
    stmt_strict (T.Expression v) = one_strict (value_strict v) (λ a. give_regular _)
    stmt_strict (T.If condition taken) = one_strict (value_strict condition) (λ c. choice_regular (is_true c) (strict_regular (stmt_strict taken)) (give_regular _))
    stmt_strict (T.IfElse condition taken otherwise) = one_strict (value_strict condition) (λ c. choice_regular (is_true c) (strict_regular (stmt_strict taken)) (strict_regular (stmt_strict otherwise)))
    stmt_strict (T.While condition body) = entered_strict (loop_regular (while_turn (value_strict condition) (strict_regular (stmt_strict body))))
    stmt_strict (T.DoWhile body condition) = entered_strict (loop_regular (do_turn (stmt_strict body) (strict_regular (value_strict condition))))
    stmt_strict (T.For begin condition step body) =
        entered_strict (scoped_regular (then_regular (start_regular begin) (λ begun. loop_regular (for_turn (value around calls) value_strict condition (stmt_strict body) (optional_regular step)))))
    stmt_strict (T.Switch v items) =
        one_strict (value_strict v) (λ a. then_regular (case_at_regular (integer_of a) 0 items) (λ found. then_regular (switch_regular (entry_or found (default_at items)) items) (λ way. give_regular _)))
    stmt_strict T.Break = entered_strict (give_regular _)
    stmt_strict T.Continue = entered_strict (give_regular _)
    stmt_strict (T.Return v) = entered_strict (then_regular (optional_regular v) (λ a. give_regular _))

    pub block_regular : (items : Block) → Regular (block around calls items)
    block_regular T.Close = give_regular _
    block_regular (T.Declare local others) = then_regular (declare_regular local) (λ begun. block_regular others)
    block_regular (T.Perform one others) = then_regular (strict_regular (stmt_strict one)) (λ way. block_rest_regular way (block_regular others))

    pub switch_regular : (entry : Entry) (items : SwitchItems) → Regular (switch_from around calls entry items)
    switch_regular NoEntry items = give_regular _
    switch_regular entry T.SwitchEnd = give_regular _
    switch_regular (At (suc number)) (T.Case label others) = switch_regular (At number) others
    switch_regular (At (suc number)) (T.Default others) = switch_regular (At number) others
    switch_regular (At (suc number)) (T.SwitchStmt one others) = switch_regular (At number) others
    switch_regular (At zero) (T.Case label others) = switch_regular (At zero) others
    switch_regular (At zero) (T.Default others) = switch_regular (At zero) others
    switch_regular (At zero) (T.SwitchStmt one others) = then_regular (strict_regular (stmt_strict one)) (λ way. block_rest_regular way (switch_regular (At zero) others))

  -- ---- the turns of the loops of statements

  pub while_turn_strict : (condition : Value) (body : Stmt) → Strict (value around calls condition >>= λ c. if is_true c then (stmt around calls body >>= λ way. give (after_body way)) else give (Some Normal))
  while_turn_strict condition body = while_turn (value_strict condition) (strict_regular (stmt_strict body))

  pub do_turn_strict : (body : Stmt) (condition : Value) → Strict (stmt around calls body >>= λ way. do_condition (after_body way) (value around calls condition))
  do_turn_strict body condition = do_turn (stmt_strict body) (strict_regular (value_strict condition))

  pub for_turn_strict : (condition step : Option Value) (body : Stmt) → Strict (optional_value (value around calls) condition >>= λ c.
      if holds c then (stmt around calls body >>= λ way. for_step (after_body way) (optional_value (value around calls) step)) else give (Some Normal))
  for_turn_strict condition step body = for_turn (value around calls) value_strict condition (stmt_strict body) (optional_regular step)

  -- ---- calls of functions

  pub run_function_regular : (function : FunctionDef) (given : List Scalar) → Regular (run_function around calls function given)
  run_function_regular function given =
      then_regular (within_own_regular (then_regular (bind_regular around function.parameters given) (λ bound. strict_regular (entered_strict (block_regular function.body))))) (λ way. give_regular _)

  -- ---- the same with more units

  pub value_lawful : (v : Value) → Lawful (value around calls v)
  value_lawful v = (value_strict v).lawful

  pub values_lawful : (arguments : T.Values) → Lawful (values around calls arguments)
  values_lawful arguments = (values_regular arguments).lawful

  pub find_lawful : (object : Object) → Lawful (find around calls object)
  find_lawful object = (find_strict object).lawful

  pub address_lawful : (object : Object) → Lawful (address around calls object)
  address_lawful object = (address_strict object).lawful

  pub designated_lawful : (function : Designator) → Lawful (designated around calls function)
  designated_lawful function = (designated_strict function).lawful

  pub declare_all_lawful : (locals : List LocalDef) → Lawful (declare_all around calls locals)
  declare_all_lawful locals = (declare_all_regular locals).lawful

  pub stmt_lawful : (s : Stmt) → Lawful (stmt around calls s)
  stmt_lawful s = (stmt_strict s).lawful

  pub block_lawful : (items : Block) → Lawful (block around calls items)
  block_lawful items = (block_regular items).lawful

  pub switch_lawful : (entry : Entry) (items : SwitchItems) → Lawful (switch_from around calls entry items)
  switch_lawful entry items = (switch_regular entry items).lawful

-- ---- the calls of a program

pub used_value_regular : (here : Pos) (is_used : Bool) (result : CType) (given : Option Scalar) → Regular (used_value here is_used result given)
used_value_regular here is_used result (Some value) = give_regular _
used_value_regular here is_used result None = choice_regular _ (strict_regular (undefined_strict Ub.U16 here)) (give_regular _)

-- bodies that are regular
abbrev pub BodiesRegular : Bodies → Type 0
BodiesRegular bodies = (number : ℕ) (function : FunctionDef) (given : List Scalar) → Regular (bodies number function given)

call_known_regular : (bodies : Bodies) → BodiesRegular bodies → (here : Pos) (is_used : Bool) (c_type : CType) (given : List Scalar) (found : Option (ℕ × FunctionDef)) → Regular (call_known bodies here is_used c_type given found)
call_known_regular bodies each here is_used c_type given None = give_regular _
call_known_regular bodies each here is_used c_type given (Some found) =
    choice_regular _ (strict_regular (undefined_strict Ub.U14 here)) (then_regular (each found.0 found.1 given) (λ result. used_value_regular here is_used found.1.result result))

pub call_named_regular : (functions : List FunctionDef) (bodies : Bodies) → BodiesRegular bodies → (here : Pos) (is_used : Bool) (c_type : CType) (f : Scalar) (given : List Scalar) → Regular (call_named functions bodies here is_used c_type f given)
call_named_regular functions bodies each here is_used c_type (FunctionValue name) given = call_known_regular bodies each here is_used c_type given (function_from 0 functions name)
call_named_regular functions bodies each here is_used c_type f given = strict_regular (undefined_strict Ub.U15 here)

pub bodies_regular : (around : TypeEnvironment) (functions : List FunctionDef) (depth : ℕ) (number : ℕ) (function : FunctionDef) (given : List Scalar) → Regular (bodies_within around functions depth number function given)
unfolding bodies_within
bodies_regular around functions zero number function given = strict_regular (over_strict DepthReached)
bodies_regular around functions (suc depth) number function given =
    then_regular (happened_regular (Called number ∷ []) (run_function_regular around (call_named functions (bodies_within around functions depth))
    (call_named_regular functions (bodies_within around functions depth) (λ n f g. bodies_regular around functions depth n f g)) function given)) (λ result. happened_regular (Runs.Returned ∷ []) (give_regular result))

-- the calls of a program are regular
pub calls-regular : (around : TypeEnvironment) (functions : List FunctionDef) (depth : ℕ) → CallsRegular (call_named functions (bodies_within around functions depth))
calls-regular around functions depth = call_named_regular functions (bodies_within around functions depth) (bodies_regular around functions depth)
