-- Well typed statements (C17 6.8).
use Rattle.std.specs.Prelude.{Bool, true, false, ◌&&◌, List, [], ◌∷◌, Option, Some, None, ℤ, is_some}
use Rattle.c_num.specs.declared.IntType.{IntType}
use Rattle.c_num.specs.Types.{is_value}
use Rattle.c_typed.specs.Types.{CType, integer_type, same_type, is_integer, is_void}
use Rattle.c_typed.specs.Layouts.{is_complete}
use Rattle.c_typed.specs.Typed as T
use Rattle.c_typed.specs.Typed.{Value, Stmt, Block, SwitchItems, LocalDef, ForStart}
use Rattle.c_typed.specs.Context.{Context, with_local}
use Rattle.c_typed.specs.Expressions.{given, is_scalar, type_of}

-- the result of the function, and whether `break` and `continue` may stand there (C17 6.8.6)
pub record Within : Type 0 where
  pub result : CType
  pub may_break : Bool
  pub may_continue : Bool

abbrev pub in_loop : Within → Within
in_loop within = record within { may_break = true; may_continue = true }

abbrev pub in_switch : Within → Within
in_switch within = record within { may_break = true }

abbrev pub holds_for : (CType → Bool) → Option CType → Bool
holds_for test None = false
holds_for test (Some t) = test t

-- an expression, one whose value is an integer, and one of a type
abbrev pub is_expression : Context → Value → Bool
is_expression around value = is_some (type_of around value)

abbrev pub is_condition : Context → Value → Bool
is_condition around value = holds_for is_integer (type_of around value)

abbrev pub is_of_type : Context → CType → Value → Bool
is_of_type around c_type value = holds_for (same_type c_type) (type_of around value)

abbrev pub if_any : (Value → Bool) → Option Value → Bool
if_any test None = true
if_any test (Some value) = test value

-- `return` has a value but in a function without a result (C17 6.8.6.4 paragraph 1)
abbrev pub is_return : Context → CType → Option Value → Bool
is_return around result None = is_void result
is_return around result (Some value) = is_scalar result && is_of_type around result value

-- ---- locals

-- A local is complete, and its first value, in whose scope it stands already, is one of its type (C17 6.2.1 paragraph 7, 6.7
-- paragraph 7, 6.7.9 paragraph 11).
abbrev pub is_local : Context → LocalDef → Bool
is_local around local =
    is_complete around.program.structs local.c_type
    && if_any (λ value. is_scalar local.c_type && is_of_type (with_local local.c_type around) local.c_type value) local.first

abbrev pub are_locals : Context → List LocalDef → Bool
are_locals around [] = true
are_locals around (first ∷ others) = is_local around first && are_locals (with_local first.c_type around) others

abbrev pub with_locals : List LocalDef → Context → Context
with_locals [] around = around
with_locals (first ∷ others) around = with_locals others (with_local first.c_type around)

-- what a `for` begins with, and what is in scope behind that (C17 6.8.5.3)
abbrev pub is_start : Context → ForStart → Bool
is_start around T.StartNothing = true
is_start around (T.StartValue value) = is_expression around value
is_start around (T.StartLocals locals) = are_locals around locals

abbrev pub with_start : ForStart → Context → Context
with_start (T.StartLocals locals) around = with_locals locals around
with_start _ around = around

-- ---- statements

-- a label is a value of the type on which it is switched (C17 6.8.4.2 paragraph 5)
abbrev pub is_label : Option IntType → ℤ → Bool
is_label None label = false
is_label (Some int_type) label = is_value int_type label

abbrev mutual
  pub is_stmt : Context → Within → Stmt → Bool
  is_stmt around within (T.BlockStmt items) = is_block around within items
  is_stmt around within T.Empty = true
  is_stmt around within (T.Expression value) = is_expression around value
  is_stmt around within (T.If condition taken) = is_condition around condition && is_stmt around within taken
  is_stmt around within (T.IfElse condition taken otherwise) = is_condition around condition && is_stmt around within taken && is_stmt around within otherwise
  is_stmt around within (T.While condition body) = is_condition around condition && is_stmt around (in_loop within) body
  is_stmt around within (T.DoWhile body condition) = is_stmt around (in_loop within) body && is_condition around condition
  is_stmt around within (T.For start condition step body) =
      is_start around start && if_any (is_condition (with_start start around)) condition && if_any (is_expression (with_start start around)) step
      && is_stmt (with_start start around) (in_loop within) body
  is_stmt around within (T.Switch value items) = is_condition around value && are_items around (in_switch within) (given (type_of around value) integer_type) items
  is_stmt around within T.Break = within.may_break
  is_stmt around within T.Continue = within.may_continue
  is_stmt around within (T.Return value) = is_return around within.result value

  pub is_block : Context → Within → Block → Bool
  is_block around within T.Close = true
  is_block around within (T.Declare local others) = is_local around local && is_block (with_local local.c_type around) within others
  is_block around within (T.Perform stmt others) = is_stmt around within stmt && is_block around within others

  pub are_items : Context → Within → Option IntType → SwitchItems → Bool
  are_items around within switched T.SwitchEnd = true
  are_items around within switched (T.Case label others) = is_label switched label && are_items around within switched others
  are_items around within switched (T.Default others) = are_items around within switched others
  are_items around within switched (T.SwitchStmt stmt others) = is_stmt around within stmt && are_items around within switched others
