-- What is found of trees in memory, in a table of types.
use Rattle.std.specs.Prelude.{◌≡◌, ℕ, suc, ◌+◌, if◌then◌else◌, List, [], ◌∷◌, ◌++◌, length, map, Option, Some, None, Vec, option_map, bytes_eq}
use Rattle.indexmap.specs.IndexMap.{IndexMap, get_by}
use Rattle.c_typed.specs.declared.c_type.CType as number
use Rattle.c_typed.specs.declared.c_type.Shape.{Shape}
use Rattle.c_typed.specs.declared.typed.Value as memory_value
use Rattle.c_typed.specs.declared.typed.Object as memory_object
use Rattle.c_typed.specs.declared.typed.Designator as memory_designator
use Rattle.c_typed.specs.declared.statement.LocalDef as memory_local
use Rattle.c_typed.specs.declared.statement.ForStart as memory_start
use Rattle.c_typed.specs.declared.statement.ForStart.TheVariants as Start
use Rattle.c_typed.specs.declared.statement.Stmt as memory_stmt
use Rattle.c_typed.specs.declared.statement.BlockItem as memory_item
use Rattle.c_typed.specs.declared.statement.BlockItem.TheVariants as Item
use Rattle.c_typed.specs.declared.statement.SwitchItem as memory_switch
use Rattle.c_typed.specs.declared.statement.SwitchItem.TheVariants as Label
use Rattle.c_typed.specs.declared.definition.GlobalDef as memory_global
use Rattle.c_typed.specs.declared.definition.FunctionDef as memory_function
use Rattle.c_typed.specs.Types.{CType, Pointer, decayed}
use Rattle.c_typed.specs.Table.{Interned, type_in, structs_in, shape_type}
use Rattle.c_typed.specs.Views.{value_in, object_in, designator_in, values_in, ValueStands, ObjectStands, DesignatorStands, ValuesStand}
use Rattle.c_typed.specs.StatementViews.{optional_value_in, OptionalStands, local_in, LocalStands, LocalsStand, start_in, StartStands, stmt_in, StmtStands, block_in, BlockStands, switch_in, SwitchStands}
use Rattle.c_typed.specs.DefinitionViews.{FunctionStands}
use Rattle.c_typed.specs.Expressions.{member_of}
use Rattle.dsa_bottom_up.specs.declared.counts.Counted.{Counted}
use Rattle.dsa_bottom_up.specs.declared.counts.CountedPlace.{CountedPlace}
use Rattle.dsa_bottom_up.specs.declared.names.Names.{Names}
use Rattle.dsa_bottom_up.specs.ExpressionTypes.{Surroundings, type_or_void, target_of, value_type, object_type, designator_type}
use Rattle.dsa_bottom_up.specs.Counting.{point, counted_value, counted_values, counted_object, counted_designator, counted_optional, counted_local, counted_locals, counted_start, counted_stmt, counted_block, counted_items}

-- ---- names

-- the type of the first of a name
abbrev pub variable_number : List memory_global.GlobalDef → List ℕ → Option number.CType
variable_number [] name = None
variable_number (first ∷ others) name = if bytes_eq first.name name then Some first.c_type else variable_number others name

abbrev pub function_number : List memory_function.FunctionDef → List ℕ → Option number.CType
function_number [] name = None
function_number (first ∷ others) name = if bytes_eq first.name name then Some first.c_type else function_number others name

abbrev pub number_by_name : {A S : Type 0} → IndexMap (Vec ℕ A) number.CType S → List ℕ → Option number.CType
number_by_name types name = get_by (λ key. bytes_eq name key.items) types

abbrev pub VariableTypes : {A S : Type 0} → IndexMap (Vec ℕ A) number.CType S → List memory_global.GlobalDef → Type 0
VariableTypes types globals = (name : List ℕ) → number_by_name types name ≡ variable_number globals name

abbrev pub FunctionTypes : {A S : Type 0} → IndexMap (Vec ℕ A) number.CType S → List memory_function.FunctionDef → Type 0
FunctionTypes types functions = (name : List ℕ) → number_by_name types name ≡ function_number functions name

abbrev pub type_by_name : {A S : Type 0} → Interned → IndexMap (Vec ℕ A) number.CType S → List ℕ → Option CType
type_by_name table types name = option_map (type_in table) (number_by_name types name)

-- where these locals are in scope
abbrev pub around_in : Interned → Names → List number.CType → Surroundings
around_in table names scope =
    record {
      structs = structs_in table;
      locals = map (type_in table) scope;
      variable_type = type_by_name table names.variables;
      function_type = type_by_name table names.functions;
    }

-- ---- expressions

-- the type and the count of the whole
pub record Finds (table : Interned) (of : CType) (n : ℕ) (counted : Counted) : Type 0 where
  pub shape : shape_type table counted.shape ≡ of
  pub count : counted.count ≡ n

pub record FindsPlace (table : Interned) (of : CType) (n : ℕ) (counted : CountedPlace) : Type 0 where
  pub c_type : type_in table counted.c_type ≡ of
  pub count : counted.count ≡ n

-- a call, by what counts in the called expression and in the arguments
pub record CountsCall (shape : Shape) (name arguments : ℕ) (counted : Counted) : Type 0 where
  pub own : counted.shape ≡ shape
  pub total : (table : Interned) → counted.count ≡ point (shape_type table shape) + (name + arguments)

module _ (table : Interned) (names : Names) (scope : List number.CType) where
  abbrev pub type_of_value : memory_value.Value → CType
  type_of_value value = value_type (around_in table names scope) (value_in table value)

  abbrev pub in_value : memory_value.Value → ℕ
  in_value value = counted_value (around_in table names scope) (value_in table value)

  abbrev pub type_of_object : memory_object.Object → CType
  type_of_object object = object_type (around_in table names scope) (object_in table object)

  abbrev pub in_object : memory_object.Object → ℕ
  in_object object = counted_object (around_in table names scope) (object_in table object)

  abbrev pub type_of_designator : memory_designator.Designator → CType
  type_of_designator function = designator_type (around_in table names scope) (designator_in table function)

  abbrev pub in_designator : memory_designator.Designator → ℕ
  in_designator function = counted_designator (around_in table names scope) (designator_in table function)

  -- where each of the types in the tree stands for one
  abbrev pub CountsValue : memory_value.Value → Counted → Type 0
  CountsValue value counted = ValueStands table value → Finds table (type_of_value value) (in_value value) counted

  abbrev pub CountsObject : memory_object.Object → CountedPlace → Type 0
  CountsObject object counted = ObjectStands table object → FindsPlace table (type_of_object object) (in_object object) counted

  abbrev pub CountsDesignator : memory_designator.Designator → CountedPlace → Type 0
  CountsDesignator function counted = DesignatorStands table function → FindsPlace table (type_of_designator function) (in_designator function) counted

  -- expressions for values, by their operands
  abbrev pub CountsAlike : memory_value.Value → Counted → Type 0
  CountsAlike operand counted = ValueStands table operand → Finds table (type_of_value operand) (point (type_of_value operand) + in_value operand) counted

  abbrev pub CountsAs : memory_value.Value → Shape → Counted → Type 0
  CountsAs operand shape counted = ValueStands table operand → Finds table (shape_type table shape) (in_value operand) counted

  abbrev pub CountsRead : memory_object.Object → Counted → Type 0
  CountsRead object counted = ObjectStands table object → Finds table (type_of_object object) (in_object object) counted

  abbrev pub CountsDecay : memory_object.Object → Counted → Type 0
  CountsDecay object counted = ObjectStands table object → Finds table (decayed (type_of_object object)) (in_object object) counted

  abbrev pub CountsFunction : memory_designator.Designator → Counted → Type 0
  CountsFunction function counted = DesignatorStands table function → Finds table (Pointer (type_of_designator function)) (in_designator function) counted

  abbrev pub CountsFirst : memory_value.Value → memory_value.Value → Counted → Type 0
  CountsFirst first second counted = ValueStands table first → ValueStands table second → Finds table (type_of_value first) (point (type_of_value first) + (in_value first + in_value second)) counted

  abbrev pub CountsBothAs : memory_value.Value → memory_value.Value → Shape → Counted → Type 0
  CountsBothAs first second shape counted = ValueStands table first → ValueStands table second → Finds table (shape_type table shape) (in_value first + in_value second) counted

  abbrev pub CountsChoice : memory_value.Value → memory_value.Value → memory_value.Value → Counted → Type 0
  CountsChoice condition taken otherwise counted =
      ValueStands table condition → ValueStands table taken → ValueStands table otherwise
      → Finds table (type_of_value taken) (point (type_of_value taken) + (in_value condition + (in_value taken + in_value otherwise))) counted

  abbrev pub CountsAddress : memory_object.Object → Counted → Type 0
  CountsAddress object counted = ObjectStands table object → Finds table (Pointer (type_of_object object)) (suc (in_object object)) counted

  abbrev pub CountsFunctionAddress : memory_designator.Designator → Counted → Type 0
  CountsFunctionAddress function counted = DesignatorStands table function → Finds table (Pointer (type_of_designator function)) (suc (in_designator function)) counted

  abbrev pub CountsAssigned : memory_object.Object → memory_value.Value → Counted → Type 0
  CountsAssigned object value counted = ObjectStands table object → ValueStands table value → Finds table (type_of_object object) (point (type_of_object object) + (in_object object + in_value value)) counted

  abbrev pub CountsStepped : memory_object.Object → Counted → Type 0
  CountsStepped object counted = ObjectStands table object → Finds table (type_of_object object) (point (type_of_object object) + in_object object) counted

  abbrev pub CountsValues : List memory_value.Value → ℕ → Type 0
  CountsValues values n = ValuesStand table values → n ≡ counted_values (around_in table names scope) (values_in table values)

  -- expressions for objects and for functions
  abbrev pub CountsGrouped : memory_object.Object → CountedPlace → Type 0
  CountsGrouped object counted = ObjectStands table object → FindsPlace table (type_of_object object) (point (type_of_object object) + in_object object) counted

  abbrev pub CountsPointed : memory_value.Value → CountedPlace → Type 0
  CountsPointed pointer counted = ValueStands table pointer → FindsPlace table (target_of (type_of_value pointer)) (point (target_of (type_of_value pointer)) + in_value pointer) counted

  abbrev pub CountsElement : memory_value.Value → memory_value.Value → CountedPlace → Type 0
  CountsElement pointer number counted =
      ValueStands table pointer → ValueStands table number → FindsPlace table (target_of (type_of_value pointer)) (point (target_of (type_of_value pointer)) + (in_value pointer + in_value number)) counted

  abbrev pub member_in : ℕ → CType → CType
  member_in number whole = type_or_void (member_of (structs_in table) number whole)

  abbrev pub CountsMember : memory_object.Object → ℕ → CountedPlace → Type 0
  CountsMember object number counted =
      ObjectStands table object → FindsPlace table (member_in number (type_of_object object)) (point (member_in number (type_of_object object)) + in_object object) counted

  abbrev pub CountsPointedMember : memory_value.Value → ℕ → CountedPlace → Type 0
  CountsPointedMember pointer number counted =
      ValueStands table pointer
      → FindsPlace table (member_in number (target_of (type_of_value pointer))) (point (member_in number (target_of (type_of_value pointer))) + in_value pointer) counted

  abbrev pub CountsGroupedFunction : memory_designator.Designator → CountedPlace → Type 0
  CountsGroupedFunction function counted = DesignatorStands table function → FindsPlace table (type_of_designator function) (suc (in_designator function)) counted

  abbrev pub CountsPointedFunction : memory_value.Value → CountedPlace → Type 0
  CountsPointedFunction pointer counted = ValueStands table pointer → FindsPlace table (target_of (type_of_value pointer)) (suc (in_value pointer)) counted

  abbrev pub CountsCalledPointer : memory_value.Value → CountedPlace → Type 0
  CountsCalledPointer pointer counted = ValueStands table pointer → FindsPlace table (target_of (type_of_value pointer)) (in_value pointer) counted

-- ---- statements

abbrev pub CountsEffect : Interned → Names → List number.CType → memory_value.Value → ℕ → Type 0
CountsEffect table names scope value n = ValueStands table value → n ≡ counted_value (around_in table names scope) (value_in table value)

abbrev pub CountsOptional : Interned → Names → List number.CType → Option memory_value.Value → ℕ → Type 0
CountsOptional table names scope value n = OptionalStands table value → n ≡ counted_optional (around_in table names scope) (optional_value_in table value)

abbrev pub CountsLocal : Interned → Names → List number.CType → memory_local.LocalDef → ℕ → Type 0
CountsLocal table names scope local n = LocalStands table local → n ≡ counted_local (around_in table names scope) (local_in table local)

-- the types of the locals in scope behind these
abbrev pub scope_behind : List number.CType → List memory_local.LocalDef → List number.CType
scope_behind scope [] = scope
scope_behind scope (first ∷ others) = scope_behind (scope ++ first.c_type ∷ []) others

abbrev pub CountsLocals : Interned → Names → List number.CType → List memory_local.LocalDef → ℕ → Type 0
CountsLocals table names scope locals n = LocalsStand table locals → n ≡ counted_locals (around_in table names scope) (map (local_in table) locals)

abbrev pub scope_at_start : List number.CType → memory_start.ForStart → List number.CType
scope_at_start scope (Start.Locals locals) = scope_behind scope locals.items
scope_at_start scope _ = scope

abbrev pub CountsStart : Interned → Names → List number.CType → memory_start.ForStart → ℕ → Type 0
CountsStart table names scope start n = StartStands table start → n ≡ counted_start (around_in table names scope) (start_in table start)

abbrev pub CountsStmt : Interned → Names → List number.CType → memory_stmt.Stmt → ℕ → Type 0
CountsStmt table names scope stmt n = StmtStands table stmt → n ≡ counted_stmt (around_in table names scope) (stmt_in table stmt)

abbrev pub CountsBlock : Interned → Names → List number.CType → List memory_item.BlockItem → ℕ → Type 0
CountsBlock table names scope items n = BlockStands table items → n ≡ counted_block (around_in table names scope) (block_in table items)

abbrev pub CountsItems : Interned → Names → List number.CType → List memory_switch.SwitchItem → ℕ → Type 0
CountsItems table names scope items n = SwitchStands table items → n ≡ counted_items (around_in table names scope) (switch_in table items)

-- a condition and what stands under it, `if` with `else`, and the turns of a `for`
abbrev pub CountsIf : Interned → Names → List number.CType → memory_value.Value → memory_stmt.Stmt → ℕ → Type 0
CountsIf table names scope condition body n =
    ValueStands table condition → StmtStands table body → n ≡ counted_value (around_in table names scope) (value_in table condition) + counted_stmt (around_in table names scope) (stmt_in table body)

abbrev pub CountsIfElse : Interned → Names → List number.CType → memory_value.Value → memory_stmt.Stmt → memory_stmt.Stmt → ℕ → Type 0
CountsIfElse table names scope condition taken otherwise n =
    ValueStands table condition → StmtStands table taken → StmtStands table otherwise
    → n ≡ counted_value (around_in table names scope) (value_in table condition) + (counted_stmt (around_in table names scope) (stmt_in table taken) + counted_stmt (around_in table names scope) (stmt_in table otherwise))

abbrev pub CountsTurns : Interned → Names → List number.CType → Option memory_value.Value → Option memory_value.Value → memory_stmt.Stmt → ℕ → Type 0
CountsTurns table names scope condition step body n =
    OptionalStands table condition → OptionalStands table step → StmtStands table body
    → n ≡ counted_optional (around_in table names scope) (optional_value_in table condition) + (counted_optional (around_in table names scope) (optional_value_in table step) + counted_stmt (around_in table names scope) (stmt_in table body))

-- an item of a block, and one of a `switch`, with the scopes before and behind it
abbrev pub CountsBlockItem : Interned → Names → List number.CType → List number.CType → memory_item.BlockItem → ℕ → Type 0
CountsBlockItem table names scope behind (Item.Local local) n = (behind ≡ scope ++ local.c_type ∷ []) × CountsLocal table names scope local n
CountsBlockItem table names scope behind (Item.Statement stmt) n = (behind ≡ scope) × CountsStmt table names scope stmt n

abbrev pub CountsLabel : Interned → Names → List number.CType → memory_switch.SwitchItem → ℕ → Type 0
CountsLabel table names scope (Label.Case label) n = n ≡ 0
CountsLabel table names scope Label.Default n = n ≡ 0
CountsLabel table names scope (Label.Statement stmt) n = CountsStmt table names scope stmt n

abbrev pub CountsSwitchItem : Interned → Names → List number.CType → List number.CType → memory_switch.SwitchItem → ℕ → Type 0
CountsSwitchItem table names scope behind item n = (behind ≡ scope) × CountsLabel table names scope item n

abbrev pub CountsDefinition : Interned → Names → memory_function.FunctionDef → ℕ → Type 0
CountsDefinition table names function n =
    FunctionStands table function → n ≡ length function.parameters.items + counted_block (around_in table names function.parameters.items) (block_in table function.body.items)
