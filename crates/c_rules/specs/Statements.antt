-- The rules of declarations in blocks and of statements (C17 6.7, 6.8).
use Rattle.std.specs.Prelude.{Bool, true, false, not, ◌||◌, if◌then◌else◌, List, [], ◌∷◌, ◌++◌, Option, Some, None, ℤ}
use Rattle.std.specs.Ordering.{int_eq}
use Rattle.run_theory.specs.declared.place.Pos.{Pos}
use Rattle.c_num.specs.declared.IntType.{IntType}
use Rattle.c_num.specs.Types.{promoted}
use Rattle.c_num.specs.Conversion.{convert_to}
use Rattle.c_syntax.specs.Trees
use Rattle.c_syntax.specs.Trees.{NameTree, ExprTree, InitTree, InitDeclaratorTree, DeclarationTree, ForTree, StmtTree, BlockTree, SwitchTree}
use Rattle.c_rules.specs.declared.rule.TypeRule.TheVariants as T
use Rattle.c_rules.specs.declared.violation.Violation.{Violation}
use Rattle.c_typed.specs.Types
use Rattle.c_typed.specs.Types.{CType, Integer}
use Rattle.c_typed.specs.Layouts.{is_complete}
use Rattle.c_rules.specs.Names.{Scope, entered, with_local, is_local_here, is_library}
use Rattle.c_rules.specs.Known.{Checked, Known, require, given, at, unless, as_value, give}
use Rattle.c_rules.specs.Operators.{as_condition, as_integer, fits}
use Rattle.c_rules.specs.Expressions.{expr, place_of, words_type, declared_type, declared_name, name_place, as_constant, Required}
use Rattle.c_rules.specs.Initializers.{local_first}

-- what a declaration violates, and the scope behind it
pub record Passed : Type 0 where
  pub found : List Violation
  pub scope : Scope

-- an object's type
abbrev pub object_type : Scope → Pos → Checked CType → Checked CType
object_type scope here part = given part (λ c_type. require (is_complete scope.structs c_type) T.T05 here (give c_type))

abbrev pub local_clash : Scope → Option NameTree → List Violation
local_clash scope None = []
local_clash scope (Some name) = unless (not (is_library name.bytes || is_local_here scope name.bytes)) T.T04 name.place

-- A declarator in a block has a name. One without, which no text has, would declare a local that no name names.
abbrev pub with_declared : Option NameTree → Option CType → Scope → Scope
with_declared None c_type scope = with_local [] c_type scope
with_declared (Some name) c_type scope = with_local name.bytes c_type scope

abbrev pub optional_first : Scope → Option CType → Option InitTree → List Violation
optional_first scope c_type None = []
optional_first scope c_type (Some init) = local_first scope c_type init

-- one declarator of a block's declaration; its scope begins before its initializer (C17 6.2.1 paragraph 7)
abbrev pub declare_local : Pos → Option CType → InitDeclaratorTree → Scope → Passed
declare_local place base init_declarator scope =
    let name = declared_name init_declarator.declarator in
    let here = name_place name place in
    let own = object_type scope here (declared_type scope here Required base init_declarator.declarator) in
    let behind = with_declared name own.known scope in
    record { found = own.found ++ local_clash scope name ++ optional_first behind own.known init_declarator.init; scope = behind }

abbrev pub declare_locals : Pos → Option CType → List InitDeclaratorTree → Scope → Passed
declare_locals place base [] scope = record { found = []; scope = scope }
declare_locals place base (first ∷ others) scope =
    let one = declare_local place base first scope in
    let rest = declare_locals place base others one.scope in
    record { found = one.found ++ rest.found; scope = rest.scope }

abbrev pub declaration : Scope → DeclarationTree → Passed
declaration scope tree =
    let base = words_type scope tree.words in
    let all = declare_locals tree.words.place base.known tree.declarators scope in
    record all { found = base.found ++ all.found }

-- ---- statements

-- What surrounds a statement: the result of its function, where that has a type, and whether `break` and `continue` may
-- stand there (C17 6.8.6).
pub record FunctionContext : Type 0 where
  pub result : Option CType
  pub may_break : Bool
  pub may_continue : Bool

abbrev pub within_loop : FunctionContext → FunctionContext
within_loop around = record around { may_break = true; may_continue = true }

abbrev pub within_switch : FunctionContext → FunctionContext
within_switch around = record around { may_break = true }

abbrev pub value_rules : Scope → ExprTree → List Violation
value_rules scope value = (as_value (place_of value) (expr scope value)).found

abbrev pub condition_rules : Scope → ExprTree → List Violation
condition_rules scope value = (as_condition (place_of value) (expr scope value)).found

abbrev pub optional_rules : (ExprTree → List Violation) → Option ExprTree → List Violation
optional_rules rules None = []
optional_rules rules (Some value) = rules value

-- `return` (C17 6.8.6.4)
abbrev pub returned : Pos → CType → Checked Known → Pos → List Violation
returned place result value value_place =
    if Types.is_void result then at T.T22 place ++ value.found
    else (given value (λ known. require (fits result known) T.T10 value_place (give known))).found

abbrev pub return_rules : Scope → Option CType → Pos → Option ExprTree → List Violation
return_rules scope None place value = optional_rules (value_rules scope) value
return_rules scope (Some result) place None = unless (Types.is_void result) T.T22 place
return_rules scope (Some result) place (Some value) = returned place result (as_value (place_of value) (expr scope value)) (place_of value)

-- ---- labels (C17 6.8.4.2)

abbrev pub has_label : List ℤ → ℤ → Bool
has_label [] label = false
has_label (first ∷ labels) label = int_eq first label || has_label labels label

abbrev pub converted_label : Option IntType → Option ℤ → Option ℤ
converted_label (Some int_type) (Some value) = Some (convert_to int_type value)
converted_label _ _ = None

abbrev pub repeats : List ℤ → Option ℤ → Bool
repeats labels None = false
repeats labels (Some label) = has_label labels label

abbrev pub with_label : Option ℤ → List ℤ → List ℤ
with_label None labels = labels
with_label (Some label) labels = label ∷ labels

-- the type to which labels are converted
abbrev pub label_type : Option Known → Option IntType
label_type None = None
label_type (Some known) = by known.c_type
  where
    by : CType → Option IntType
    by (Integer int_type) = Some (promoted int_type)
    by _ = None

-- what a `for` begins with (C17 6.8.5.3)
abbrev pub for_start : Scope → ForTree → Passed
for_start scope Trees.ForNothing = record { found = []; scope = scope }
for_start scope (Trees.ForExpression value) = record { found = value_rules scope value; scope = scope }
for_start scope (Trees.ForDeclaration tree) = declaration scope tree

abbrev mutual
  pub stmt : Scope → FunctionContext → StmtTree → List Violation
  stmt scope around (Trees.BlockStmt place items) = block (entered scope) around items
  stmt scope around (Trees.Empty place) = []
  stmt scope around (Trees.Expression value) = value_rules scope value
  stmt scope around (Trees.If place condition taken) = condition_rules scope condition ++ stmt scope around taken
  stmt scope around (Trees.IfElse place condition taken otherwise) = condition_rules scope condition ++ stmt scope around taken ++ stmt scope around otherwise
  stmt scope around (Trees.While place condition body) = condition_rules scope condition ++ stmt scope (within_loop around) body
  stmt scope around (Trees.Do place body condition) = stmt scope (within_loop around) body ++ condition_rules scope condition
  stmt scope around (Trees.For place start condition step body) =
      let begun = for_start (entered scope) start in
      begun.found ++ optional_rules (condition_rules begun.scope) condition ++ optional_rules (value_rules begun.scope) step ++ stmt begun.scope (within_loop around) body
  stmt scope around (Trees.Switch place value items) =
      let tested = as_integer (place_of value) (expr scope value) in
      tested.found ++ switch_items scope (within_switch around) (label_type tested.known) [] false items
  stmt scope around (Trees.Break place) = unless around.may_break T.T20 place
  stmt scope around (Trees.Continue place) = unless around.may_continue T.T20 place
  stmt scope around (Trees.Return place value) = return_rules scope around.result place value

  pub block : Scope → FunctionContext → BlockTree → List Violation
  block scope around Trees.Close = []
  block scope around (Trees.Declare tree others) = let passed = declaration scope tree in passed.found ++ block passed.scope around others
  block scope around (Trees.Perform one others) = stmt scope around one ++ block scope around others

  pub switch_items : Scope → FunctionContext → Option IntType → List ℤ → Bool → SwitchTree → List Violation
  switch_items scope around int_type labels has_default Trees.SwitchEnd = []
  switch_items scope around int_type labels has_default (Trees.Case place value others) =
      let stated = as_constant (place_of value) (expr scope value) in
      let label = converted_label int_type stated.known in
      stated.found ++ unless (not (repeats labels label)) T.T21 place ++ switch_items scope around int_type (with_label label labels) has_default others
  switch_items scope around int_type labels has_default (Trees.Default place others) = unless (not has_default) T.T21 place ++ switch_items scope around int_type labels true others
  switch_items scope around int_type labels has_default (Trees.SwitchStmt one others) = stmt scope around one ++ switch_items scope around int_type labels has_default others
