-- The typed tree of a program that violates no rule.
use Rattle.std.specs.Prelude.{ℕ, suc, Bool, true, false, nat_le, nat_lt, bytes_eq, if◌then◌else◌, List, [], ◌∷◌, ◌++◌, length, Option, Some, None, ℤ, pos}
use Rattle.run_theory.specs.declared.place.Pos.{Pos}
use Rattle.c_num.specs.declared.IntType.{IntType}
use Rattle.c_num.specs.declared.IntType.TheVariants as I
use Rattle.c_num.specs.Conversion.{convert_to}
use Rattle.c_syntax.specs.Trees
use Rattle.c_syntax.specs.Trees.{NameTree, ExprTree, ArgumentsTree, TypeTree, OptionalTree, DeclaratorTree, DirectTree, SuffixesTree, LengthTree, ParametersTree, InitTree, InitsTree, InitDeclaratorTree, DeclarationTree, ForTree, StmtTree, BlockTree, SwitchTree, MemberTree, BaseTree, ItemTree, ProgramTree}
use Rattle.c_typed.specs.Types.{CType, CTypes, Void, Integer, Array, Struct, Function, NoTypes, MoreTypes, is_character}
use Rattle.c_typed.specs.Layouts.{StructDef, MemberDef, members_by_tag}
use Rattle.c_typed.specs.declared.part.Part.{Part}
use Rattle.c_typed.specs.declared.part.Part.TheVariants as Parts
use Rattle.c_typed.specs.Values.{FirstScalar, IntegerValue, NullValue, FunctionValue, PointerValue, Held}
use Rattle.c_typed.specs.DefinitionViews.{characters_held}
use Rattle.c_typed.specs.Typed as typed
use Rattle.c_typed.specs.Typed.{Value, Stmt, Block, SwitchItems, LocalDef, ForStart, GlobalDef, LiteralDef, FunctionDef, Program, NullPointer}
use Rattle.c_rules.specs.Names.{Scope, entered}
use Rattle.c_rules.specs.Known.{Known, value_in, as_value, Address, FunctionAddress, Element}
use Rattle.c_rules.specs.declared.constness.Constness.{Constness}
use Rattle.c_rules.specs.declared.constness.Constness.TheVariants.{Constant}
use Rattle.c_rules.specs.Constants.{address_as}
use Rattle.c_rules.specs.Operators.{Condition, as_condition, as_integer, converted, dropped, fits}
use Rattle.c_rules.specs.Expressions.{expr, place_of, words_type, declared_type, declared_name, name_place, as_constant, Required}
use Rattle.c_rules.specs.Initializers.{is_text, members_of}
use Rattle.c_rules.specs.Statements.{object_type, declare_local, with_declared, label_type, converted_label, for_start, declaration}
use Rattle.c_rules.specs.Programs.{base_type, base_place, file_declarator, entered_function, own_parameters, outside_type, body_type, role_of, result_of, outermost, declare_outside, has_first, item}

-- ---- values

abbrev pub known_value : Option Known → Value
known_value None = NullPointer
known_value (Some known) = value_in known

abbrev pub condition_test : Option Condition → Value
condition_test None = NullPointer
condition_test (Some condition) = condition.test

-- an expression for its value, one whose value isn't used, and a condition
abbrev pub value_of : Scope → ExprTree → Value
value_of scope value = known_value (as_value (place_of value) (expr scope value)).known

abbrev pub unused : Scope → ExprTree → Value
unused scope value = dropped (value_of scope value)

abbrev pub test_of : Scope → ExprTree → Value
test_of scope value = condition_test (as_condition (place_of value) (expr scope value)).known

abbrev pub mapped : {A B : Type 0} → (A → B) → Option A → Option B
mapped f None = None
mapped f (Some a) = Some (f a)

-- a value converted to a type
abbrev pub known_as : Pos → CType → Option Known → Value
known_as place c_type None = NullPointer
known_as place c_type (Some known) = converted place c_type known

abbrev pub value_as : Scope → Option CType → ExprTree → Value
value_as scope None value = NullPointer
value_as scope (Some c_type) value = known_as (place_of value) c_type (as_value (place_of value) (expr scope value)).known

-- ---- locals

abbrev pub first_local : Scope → Option CType → Option InitTree → Option Value
first_local scope c_type (Some (Trees.InitValue value)) = Some (value_as scope c_type value)
first_local scope c_type _ = None

abbrev pub type_or_void : Option CType → CType
type_or_void None = Void
type_or_void (Some c_type) = c_type

abbrev pub local_of : Pos → Option CType → InitDeclaratorTree → Scope → LocalDef
local_of place base tree scope =
    let name = declared_name tree.declarator in
    let here = name_place name place in
    let own = object_type scope here (declared_type scope here Required base tree.declarator) in
    record { c_type = type_or_void own.known; first = first_local (with_declared name own.known scope) own.known tree.init }

abbrev pub locals_of : Pos → Option CType → List InitDeclaratorTree → Scope → List LocalDef
locals_of place base [] scope = []
locals_of place base (first ∷ others) scope = local_of place base first scope ∷ locals_of place base others (declare_local place base first scope).scope

abbrev pub declared_locals : Scope → DeclarationTree → List LocalDef
declared_locals scope tree = locals_of tree.words.place (words_type scope tree.words).known tree.declarators scope

abbrev pub declare_each : List LocalDef → Block → Block
declare_each [] block = block
declare_each (first ∷ others) block = typed.Declare first (declare_each others block)

-- ---- statements

abbrev pub start_of : Scope → ForTree → ForStart
start_of scope Trees.ForNothing = typed.StartNothing
start_of scope (Trees.ForExpression value) = typed.StartValue (unused scope value)
start_of scope (Trees.ForDeclaration tree) = typed.StartLocals (declared_locals scope tree)

abbrev pub label_or_zero : Option ℤ → ℤ
label_or_zero None = pos 0
label_or_zero (Some label) = label

-- a value to switch on, by the integer promotions
abbrev pub switched : Option IntType → Value → Value
switched None value = value
switched (Some int_type) value = typed.Converted int_type value

abbrev mutual
  pub stmt_of : Scope → Option CType → StmtTree → Stmt
  stmt_of scope result (Trees.BlockStmt place items) = typed.BlockStmt (block_of (entered scope) result items)
  stmt_of scope result (Trees.Empty place) = typed.Empty
  stmt_of scope result (Trees.Expression value) = typed.Expression (unused scope value)
  stmt_of scope result (Trees.If place condition taken) = typed.If (test_of scope condition) (stmt_of scope result taken)
  stmt_of scope result (Trees.IfElse place condition taken otherwise) = typed.IfElse (test_of scope condition) (stmt_of scope result taken) (stmt_of scope result otherwise)
  stmt_of scope result (Trees.While place condition body) = typed.While (test_of scope condition) (stmt_of scope result body)
  stmt_of scope result (Trees.Do place body condition) = typed.DoWhile (stmt_of scope result body) (test_of scope condition)
  stmt_of scope result (Trees.For place start condition step body) =
      let inside = (for_start (entered scope) start).scope in
      typed.For (start_of (entered scope) start) (mapped (test_of inside) condition) (mapped (unused inside) step) (stmt_of inside result body)
  stmt_of scope result (Trees.Switch place value items) =
      let int_type = label_type (as_integer (place_of value) (expr scope value)).known in
      typed.Switch (switched int_type (value_of scope value)) (switch_of scope result int_type items)
  stmt_of scope result (Trees.Break place) = typed.Break
  stmt_of scope result (Trees.Continue place) = typed.Continue
  stmt_of scope result (Trees.Return place value) = typed.Return (mapped (value_as scope result) value)

  pub block_of : Scope → Option CType → BlockTree → Block
  block_of scope result Trees.Close = typed.Close
  block_of scope result (Trees.Declare tree others) = declare_each (declared_locals scope tree) (block_of (declaration scope tree).scope result others)
  block_of scope result (Trees.Perform one others) = typed.Perform (stmt_of scope result one) (block_of scope result others)

  pub switch_of : Scope → Option CType → Option IntType → SwitchTree → SwitchItems
  switch_of scope result int_type Trees.SwitchEnd = typed.SwitchEnd
  switch_of scope result int_type (Trees.Case place value others) =
      typed.Case (label_or_zero (converted_label int_type (as_constant (place_of value) (expr scope value)).known)) (switch_of scope result int_type others)
  switch_of scope result int_type (Trees.Default place others) = typed.Default (switch_of scope result int_type others)
  switch_of scope result int_type (Trees.SwitchStmt one others) = typed.SwitchStmt (stmt_of scope result one) (switch_of scope result int_type others)

-- ---- first values of variables outside functions

-- the element of the row to which steps lead
abbrev pub held_at : List Part → ℕ → FirstScalar → List Held
held_at steps index value = record { leaf = record { steps = steps; index = index }; value = value } ∷ []

abbrev pub address_value : Address → FirstScalar
address_value (FunctionAddress name) = FunctionValue name
address_value (Element root steps c_type count index) = PointerValue (record { root = root; steps = steps; index = index })
address_value _ = NullValue

abbrev pub integer_first : IntType → Constness → FirstScalar
integer_first int_type (Constant value) = IntegerValue (convert_to int_type value)
integer_first int_type _ = IntegerValue (pos 0)

abbrev pub scalar_of : Scope → CType → Known → FirstScalar
scalar_of scope (Integer int_type) known = integer_first int_type known.constness
scalar_of scope c_type known = if known.is_null then NullValue else address_value (address_as scope.completed c_type known.address)

-- a value that fits
abbrev pub scalar_held : Scope → List Part → ℕ → CType → Option Known → List Held
scalar_held scope steps index c_type None = []
scalar_held scope steps index c_type (Some known) = if fits c_type known then held_at steps index (scalar_of scope c_type known) else []

abbrev pub character_type : CType → IntType
character_type (Integer int_type) = int_type
character_type _ = I.Char

abbrev pub within : List Part → Part → List Part
within steps step = steps ++ step ∷ []

-- The bytes that a literal stores in an array of n characters: the zero at its end is one where it has room (C17 6.7.9 paragraph 14).
abbrev pub bytes_held : ℕ → List ℕ → List ℕ
bytes_held n bytes = if nat_lt (length bytes) n then bytes ++ (0 ∷ []) else bytes

-- A literal, where its bytes have room in the array; what follows is zero.
abbrev pub text_held : List Part → ℕ → CType → ℕ → List ℕ → List Held
text_held steps index element n bytes = if nat_le (length bytes) n then characters_held (within steps (Parts.Elements index)) (character_type element) 0 (bytes_held n bytes) else []

abbrev pub value_held : Scope → List Part → ℕ → CType → ExprTree → List Held
value_held scope steps index (Array element n) (Trees.Literal bytes place) = if is_character element then text_held steps index element n bytes else []
value_held scope steps index c_type value = scalar_held scope steps index c_type (as_value (place_of value) (expr scope value)).known

abbrev mutual
  -- what an initializer stores in the element of a row
  pub held_of : Scope → List Part → ℕ → Option CType → InitTree → List Held
  held_of scope steps index None init = []
  held_of scope steps index (Some c_type) (Trees.InitValue value) = value_held scope steps index c_type value
  held_of scope steps index (Some (Array element n)) (Trees.InitList place inits) =
      if is_text element inits then text_list scope steps index element n inits else elements_held scope (within steps (Parts.Elements index)) 0 element n inits
  held_of scope steps index (Some (Struct tag)) (Trees.InitList place inits) = members_held scope steps index 0 (members_of (members_by_tag scope.structs tag)) inits
  held_of scope steps index (Some c_type) (Trees.InitList place inits) = []

  pub text_list : Scope → List Part → ℕ → CType → ℕ → InitsTree → List Held
  text_list scope steps index element n (Trees.Inits (Trees.InitValue value) Trees.NoInits) = value_held scope steps index (Array element n) value
  text_list scope steps index element n _ = []

  pub elements_held : Scope → List Part → ℕ → CType → ℕ → InitsTree → List Held
  elements_held scope steps index element (suc n) (Trees.Inits init others) = held_of scope steps index (Some element) init ++ elements_held scope steps (suc index) element n others
  elements_held scope steps index element _ _ = []

  pub members_held : Scope → List Part → ℕ → ℕ → List MemberDef → InitsTree → List Held
  members_held scope steps index number (member ∷ members) (Trees.Inits init others) =
      held_of scope (within steps (Parts.Member index number)) 0 member.c_type init ++ members_held scope steps index (suc number) members others
  members_held scope steps index number _ _ = []

-- ---- literals

abbrev mutual
  pub literals_in : ExprTree → List LiteralDef
  literals_in (Trees.Literal bytes place) = record { place = place; bytes = bytes } ∷ []
  literals_in (Trees.Parenthesized place inner) = literals_in inner
  literals_in (Trees.Index array index) = literals_in array ++ literals_in index
  literals_in (Trees.Call function open_place arguments) = literals_in function ++ literals_in_arguments arguments
  literals_in (Trees.Member object member) = literals_in object
  literals_in (Trees.PointerMember pointer member) = literals_in pointer
  literals_in (Trees.PostIncrement operand) = literals_in operand
  literals_in (Trees.PostDecrement operand) = literals_in operand
  literals_in (Trees.Prefix operator place operand) = literals_in operand
  literals_in (Trees.SizeofExpr place operand) = literals_in operand
  literals_in (Trees.SizeofType place type_name) = literals_in_type type_name
  literals_in (Trees.Cast place type_name operand) = literals_in_type type_name ++ literals_in operand
  literals_in (Trees.Binary operator left right) = literals_in left ++ literals_in right
  literals_in (Trees.Conditional condition taken otherwise) = literals_in condition ++ literals_in taken ++ literals_in otherwise
  literals_in (Trees.Assign operator object value) = literals_in object ++ literals_in value
  literals_in _ = []

  pub literals_in_arguments : ArgumentsTree → List LiteralDef
  literals_in_arguments Trees.NoArguments = []
  literals_in_arguments (Trees.Argument value others) = literals_in value ++ literals_in_arguments others

  pub literals_in_type : TypeTree → List LiteralDef
  literals_in_type (Trees.TypeName words declarator) = literals_in_optional declarator

  pub literals_in_optional : OptionalTree → List LiteralDef
  literals_in_optional Trees.NoDeclarator = []
  literals_in_optional (Trees.Declared declarator) = literals_in_declarator declarator

  -- those in lengths of arrays
  pub literals_in_declarator : DeclaratorTree → List LiteralDef
  literals_in_declarator (Trees.Declarator stars direct suffixes) = literals_in_direct direct ++ literals_in_suffixes suffixes

  pub literals_in_direct : DirectTree → List LiteralDef
  literals_in_direct (Trees.Nested declarator) = literals_in_declarator declarator
  literals_in_direct _ = []

  pub literals_in_suffixes : SuffixesTree → List LiteralDef
  literals_in_suffixes Trees.NoSuffixes = []
  literals_in_suffixes (Trees.ArraySuffix length others) = literals_in_length length ++ literals_in_suffixes others
  literals_in_suffixes (Trees.FunctionSuffix parameters others) = literals_in_parameters parameters ++ literals_in_suffixes others

  pub literals_in_length : LengthTree → List LiteralDef
  literals_in_length Trees.NoLength = []
  literals_in_length (Trees.ArrayLength value) = literals_in value

  pub literals_in_parameters : ParametersTree → List LiteralDef
  literals_in_parameters Trees.NoParameters = []
  literals_in_parameters (Trees.Parameter words declarator others) = literals_in_optional declarator ++ literals_in_parameters others

abbrev mutual
  pub literals_in_init : InitTree → List LiteralDef
  literals_in_init (Trees.InitValue value) = literals_in value
  literals_in_init (Trees.InitList place inits) = literals_in_inits inits

  pub literals_in_inits : InitsTree → List LiteralDef
  literals_in_inits Trees.NoInits = []
  literals_in_inits (Trees.Inits init others) = literals_in_init init ++ literals_in_inits others

abbrev pub literals_in_first : Option InitTree → List LiteralDef
literals_in_first None = []
literals_in_first (Some init) = literals_in_init init

abbrev pub literals_in_value : Option ExprTree → List LiteralDef
literals_in_value None = []
literals_in_value (Some value) = literals_in value

abbrev pub literals_in_declarators : List InitDeclaratorTree → List LiteralDef
literals_in_declarators [] = []
literals_in_declarators (first ∷ others) = literals_in_declarator first.declarator ++ literals_in_first first.init ++ literals_in_declarators others

abbrev pub literals_in_start : ForTree → List LiteralDef
literals_in_start Trees.ForNothing = []
literals_in_start (Trees.ForExpression value) = literals_in value
literals_in_start (Trees.ForDeclaration tree) = literals_in_declarators tree.declarators

abbrev mutual
  pub literals_in_stmt : StmtTree → List LiteralDef
  literals_in_stmt (Trees.BlockStmt place items) = literals_in_block items
  literals_in_stmt (Trees.Empty place) = []
  literals_in_stmt (Trees.Expression value) = literals_in value
  literals_in_stmt (Trees.If place condition taken) = literals_in condition ++ literals_in_stmt taken
  literals_in_stmt (Trees.IfElse place condition taken otherwise) = literals_in condition ++ literals_in_stmt taken ++ literals_in_stmt otherwise
  literals_in_stmt (Trees.While place condition body) = literals_in condition ++ literals_in_stmt body
  literals_in_stmt (Trees.Do place body condition) = literals_in_stmt body ++ literals_in condition
  literals_in_stmt (Trees.For place start condition step body) = literals_in_start start ++ literals_in_value condition ++ literals_in_value step ++ literals_in_stmt body
  literals_in_stmt (Trees.Switch place value items) = literals_in value ++ literals_in_switch items
  literals_in_stmt (Trees.Break place) = []
  literals_in_stmt (Trees.Continue place) = []
  literals_in_stmt (Trees.Return place value) = literals_in_value value

  pub literals_in_block : BlockTree → List LiteralDef
  literals_in_block Trees.Close = []
  literals_in_block (Trees.Declare tree others) = literals_in_declarators tree.declarators ++ literals_in_block others
  literals_in_block (Trees.Perform one others) = literals_in_stmt one ++ literals_in_block others

  pub literals_in_switch : SwitchTree → List LiteralDef
  literals_in_switch Trees.SwitchEnd = []
  literals_in_switch (Trees.Case place value others) = literals_in value ++ literals_in_switch others
  literals_in_switch (Trees.Default place others) = literals_in_switch others
  literals_in_switch (Trees.SwitchStmt one others) = literals_in_stmt one ++ literals_in_switch others

abbrev pub literals_in_each : List DeclaratorTree → List LiteralDef
literals_in_each [] = []
literals_in_each (first ∷ others) = literals_in_declarator first ++ literals_in_each others

abbrev pub literals_in_members : List MemberTree → List LiteralDef
literals_in_members [] = []
literals_in_members (member ∷ members) = literals_in_each member.declarators ++ literals_in_members members

abbrev pub literals_in_base : BaseTree → List LiteralDef
literals_in_base (Trees.Plain words) = []
literals_in_base (Trees.StructBody place name members) = literals_in_members members

abbrev pub literals_in_items : List ItemTree → List LiteralDef
literals_in_items [] = []
literals_in_items (Trees.Declaration base declarators ∷ items) = literals_in_base base ++ literals_in_declarators declarators ++ literals_in_items items
literals_in_items (Trees.Function base declarator place body ∷ items) = literals_in_base base ++ literals_in_declarator declarator ++ literals_in_block body ++ literals_in_items items

-- ---- items

abbrev pub types_in : CTypes → List CType
types_in NoTypes = []
types_in (MoreTypes first others) = first ∷ types_in others

abbrev pub parameters_of : Option CType → List CType
parameters_of (Some (Function result parameters)) = types_in parameters
parameters_of _ = []

-- the variables and functions of a program
pub record Defined : Type 0 where
  pub globals : List GlobalDef
  pub functions : List FunctionDef

abbrev pub is_object_type : CType → Bool
is_object_type (Function result parameters) = false
is_object_type _ = true

-- a declaration of a variable
abbrev pub global_of : NameTree → Option CType → List Held → List GlobalDef
global_of name None first = []
global_of name (Some c_type) first = if is_object_type c_type then record { name = name.bytes; c_type = c_type; first = first } ∷ [] else []

abbrev pub first_held : Scope → Option CType → Option InitTree → List Held
first_held scope c_type None = []
first_held scope c_type (Some init) = held_of scope [] 0 c_type init

abbrev pub declared_global : Scope → Option CType → InitDeclaratorTree → Option NameTree → List GlobalDef
declared_global scope base tree None = []
declared_global scope base tree (Some name) =
    let own = outside_type scope name.place (declared_type scope name.place (role_of tree.init) base tree.declarator) in
    global_of name own.known (first_held (declare_outside name own.known (has_first tree.init) false scope).scope own.known tree.init)

abbrev pub declared_globals : Scope → Pos → Option CType → List InitDeclaratorTree → List GlobalDef
declared_globals scope place base [] = []
declared_globals scope place base (first ∷ others) =
    declared_global scope base first (declared_name first.declarator) ++ declared_globals (file_declarator scope place base first (declared_name first.declarator)).scope place base others

abbrev pub defined_function : Scope → Option CType → DeclaratorTree → BlockTree → Option NameTree → List FunctionDef
defined_function scope base declarator body None = []
defined_function scope base declarator body (Some name) =
    let own = body_type name.place (declared_type scope name.place Required base declarator) in
    let inside = (entered_function (declare_outside name own.known false true scope).scope (own_parameters declarator)).scope in
    record {
      name = name.bytes;
      c_type = type_or_void own.known;
      parameters = parameters_of own.known;
      result = type_or_void (result_of own.known);
      body = block_of inside (result_of own.known) body;
    } ∷ []

abbrev pub in_item : Scope → ItemTree → Defined → Defined
in_item scope (Trees.Declaration base declarators) rest =
    let based = base_type scope base in
    record rest { globals = declared_globals based.scope (base_place base) based.type_of.known declarators ++ rest.globals }
in_item scope (Trees.Function base declarator place body) rest =
    let based = base_type scope base in
    record rest { functions = defined_function based.scope based.type_of.known declarator body (declared_name declarator) ++ rest.functions }

abbrev pub in_items : Scope → List ItemTree → Defined
in_items scope [] = record { globals = []; functions = [] }
in_items scope (first ∷ others) = in_item scope first (in_items (item scope first).scope others)

-- A variable may be declared more than once, and stands once: its first values are those of the declaration that has them.
abbrev pub latest_first : List Held → List Held → List Held
latest_first old [] = old
latest_first old first = first

abbrev pub with_global : GlobalDef → List GlobalDef → List GlobalDef
with_global global [] = global ∷ []
with_global global (first ∷ others) =
    if bytes_eq first.name global.name then record first { first = latest_first first.first global.first } ∷ others
    else first ∷ with_global global others

abbrev pub each_global : List GlobalDef → List GlobalDef → List GlobalDef
each_global globals [] = globals
each_global globals (first ∷ others) = each_global (with_global first globals) others

abbrev pub all_structs : Scope → List ItemTree → List StructDef
all_structs scope [] = scope.structs
all_structs scope (first ∷ others) = all_structs (item scope first).scope others

abbrev pub typed_of : ProgramTree → Program
typed_of program =
    let all = in_items (outermost program) program.items in
    record {
      structs = all_structs (outermost program) program.items;
      completed = (outermost program).completed;
      globals = each_global [] all.globals;
      literals = literals_in_items program.items;
      functions = all.functions;
    }
