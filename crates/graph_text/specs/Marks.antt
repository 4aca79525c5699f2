-- What of a text has labels, in the order of the text.
use Rattle.std.specs.Prelude.{ℕ, suc, Bool, true, false, ◌||◌, List, [], ◌∷◌, ◌++◌, map, slice_get, Option, Some, None}
use Rattle.run_theory.specs.declared.place.Pos.{Pos}
use Rattle.c_syntax.specs.Trees
use Rattle.c_syntax.specs.Trees.{NameTree, ExprTree, ArgumentsTree, TypeTree, OptionalTree, DeclaratorTree, DirectTree, SuffixesTree, LengthTree, ParametersTree, InitTree, InitDeclaratorTree, DeclarationTree, ForTree, StmtTree, BlockTree, SwitchTree}
use Rattle.c_typed.specs.declared.typed.LibraryFunction.TheVariants.{Malloc}
use Rattle.c_typed.specs.Types.{CType, Pointer, Function, is_pointer}
use Rattle.c_rules.specs.Names.{Scope, Meaning, Library, meaning_of, entered}
use Rattle.c_rules.specs.Known.{Known}
use Rattle.c_rules.specs.Expressions.{expr, words_type, declared_name}
use Rattle.c_rules.specs.Elaborated.{types_in}
use Rattle.c_rules.specs.Statements.{declare_local, declaration, for_start}

-- What has a label: a local, by its name; a call, which gives a pointer or not; and an argument of a call, which is for a pointer or not.
-- What stands in `sizeof` is not done (C17 6.5.3.4 paragraph 2), and calls in constant expressions stand there.
pub data Marked : Type 0 where
  LocalMark : (name : List ℕ) → Marked
  CallMark : (is_done is_pointer : Bool) → Marked
  ArgumentMark : (is_done is_pointer : Bool) → Marked

-- ---- calls

-- what is called: a function, or what a pointer of the type points to
abbrev pub called_type : CType → CType
called_type (Pointer target) = target
called_type c_type = c_type

abbrev pub returns_pointer : CType → Bool
returns_pointer (Function result parameters) = is_pointer result
returns_pointer _ = false

-- which of its parameters are pointers
abbrev pub pointers_of : CType → List Bool
pointers_of (Function result parameters) = map is_pointer (types_in parameters)
pointers_of _ = []

-- The name of a library function has no type, so that the arguments of its calls have no labels.
abbrev pub gives_pointer : Option Known → Bool
gives_pointer None = false
gives_pointer (Some known) = returns_pointer (called_type known.c_type)

abbrev pub called_pointers : Option Known → List Bool
called_pointers None = []
called_pointers (Some known) = pointers_of (called_type known.c_type)

-- `malloc`, whose name may stand in parentheses, is the library function that gives a pointer
abbrev pub is_malloc : Meaning → Bool
is_malloc (Library Malloc c_type) = true
is_malloc _ = false

abbrev pub calls_malloc : Scope → ExprTree → Bool
calls_malloc scope (Trees.Named name) = is_malloc (meaning_of scope name.bytes)
calls_malloc scope (Trees.Parenthesized place inner) = calls_malloc scope inner
calls_malloc scope _ = false

abbrev pub call_mark : Scope → Bool → ExprTree → Option Known → Marked
call_mark scope is_done function known = CallMark is_done (calls_malloc scope function || gives_pointer known)

-- an argument, where it has a parameter
abbrev pub argument_mark : Bool → Option Bool → List Marked
argument_mark is_done None = []
argument_mark is_done (Some is_pointer) = ArgumentMark is_done is_pointer ∷ []

-- ---- expressions

-- A call stands where its parenthesis opens, behind what is called and before its arguments; an argument where its first token stands.
abbrev mutual
  pub marks_in : Scope → Bool → ExprTree → List Marked
  marks_in scope is_done (Trees.Call function open_place arguments) =
      marks_in scope is_done function ++ call_mark scope is_done function (expr scope function).known ∷ marks_in_arguments scope is_done (called_pointers (expr scope function).known) 0 arguments
  marks_in scope is_done (Trees.SizeofExpr place operand) = marks_in scope false operand
  marks_in scope is_done (Trees.SizeofType place type_name) = marks_in_type scope type_name
  marks_in scope is_done (Trees.Parenthesized place inner) = marks_in scope is_done inner
  marks_in scope is_done (Trees.Index array index) = marks_in scope is_done array ++ marks_in scope is_done index
  marks_in scope is_done (Trees.Member object member) = marks_in scope is_done object
  marks_in scope is_done (Trees.PointerMember pointer member) = marks_in scope is_done pointer
  marks_in scope is_done (Trees.PostIncrement operand) = marks_in scope is_done operand
  marks_in scope is_done (Trees.PostDecrement operand) = marks_in scope is_done operand
  marks_in scope is_done (Trees.Prefix operator place operand) = marks_in scope is_done operand
  marks_in scope is_done (Trees.Cast place type_name operand) = marks_in_type scope type_name ++ marks_in scope is_done operand
  marks_in scope is_done (Trees.Binary operator left right) = marks_in scope is_done left ++ marks_in scope is_done right
  marks_in scope is_done (Trees.Conditional condition taken otherwise) = marks_in scope is_done condition ++ marks_in scope is_done taken ++ marks_in scope is_done otherwise
  marks_in scope is_done (Trees.Assign operator object value) = marks_in scope is_done object ++ marks_in scope is_done value
  marks_in scope is_done _ = []

  -- arguments, of which so many stand before, where these parameters are pointers
  pub marks_in_arguments : Scope → Bool → List Bool → ℕ → ArgumentsTree → List Marked
  marks_in_arguments scope is_done pointers before Trees.NoArguments = []
  marks_in_arguments scope is_done pointers before (Trees.Argument value others) =
      argument_mark is_done (slice_get pointers before) ++ marks_in scope is_done value ++ marks_in_arguments scope is_done pointers (suc before) others

  pub marks_in_type : Scope → TypeTree → List Marked
  marks_in_type scope (Trees.TypeName words declarator) = marks_in_optional scope declarator

  pub marks_in_optional : Scope → OptionalTree → List Marked
  marks_in_optional scope Trees.NoDeclarator = []
  marks_in_optional scope (Trees.Declared declarator) = marks_in_declarator scope declarator

  -- those in lengths of arrays
  pub marks_in_declarator : Scope → DeclaratorTree → List Marked
  marks_in_declarator scope (Trees.Declarator stars direct suffixes) = marks_in_direct scope direct ++ marks_in_suffixes scope suffixes

  pub marks_in_direct : Scope → DirectTree → List Marked
  marks_in_direct scope (Trees.Nested declarator) = marks_in_declarator scope declarator
  marks_in_direct scope _ = []

  pub marks_in_suffixes : Scope → SuffixesTree → List Marked
  marks_in_suffixes scope Trees.NoSuffixes = []
  marks_in_suffixes scope (Trees.ArraySuffix length others) = marks_in_length scope length ++ marks_in_suffixes scope others
  marks_in_suffixes scope (Trees.FunctionSuffix parameters others) = marks_in_parameters scope parameters ++ marks_in_suffixes scope others

  pub marks_in_length : Scope → LengthTree → List Marked
  marks_in_length scope Trees.NoLength = []
  marks_in_length scope (Trees.ArrayLength value) = marks_in scope false value

  pub marks_in_parameters : Scope → ParametersTree → List Marked
  marks_in_parameters scope Trees.NoParameters = []
  marks_in_parameters scope (Trees.Parameter words declarator others) = marks_in_optional scope declarator ++ marks_in_parameters scope others

abbrev pub marks_in_value : Scope → Option ExprTree → List Marked
marks_in_value scope None = []
marks_in_value scope (Some value) = marks_in scope true value

-- ---- locals

abbrev pub local_mark : Option NameTree → List Marked
local_mark None = []
local_mark (Some name) = LocalMark name.bytes ∷ []

-- the first value of a local: a scalar alone has one, and no braces
abbrev pub first_marks : Scope → InitTree → List Marked
first_marks scope (Trees.InitValue value) = marks_in scope true value
first_marks scope (Trees.InitList place inits) = []

abbrev pub marks_in_first : Scope → Option InitTree → List Marked
marks_in_first scope None = []
marks_in_first scope (Some init) = first_marks scope init

-- a local, which is in scope in its own first value (C17 6.2.1 paragraph 7)
abbrev pub marks_in_local : Scope → Pos → Option CType → InitDeclaratorTree → List Marked
marks_in_local scope place base tree =
    marks_in_declarator scope tree.declarator ++ local_mark (declared_name tree.declarator) ++ marks_in_first (declare_local place base tree scope).scope tree.init

abbrev pub marks_in_locals : Scope → Pos → Option CType → List InitDeclaratorTree → List Marked
marks_in_locals scope place base [] = []
marks_in_locals scope place base (first ∷ others) = marks_in_local scope place base first ++ marks_in_locals (declare_local place base first scope).scope place base others

abbrev pub marks_in_declaration : Scope → DeclarationTree → List Marked
marks_in_declaration scope tree = marks_in_locals scope tree.words.place (words_type scope tree.words).known tree.declarators

-- ---- statements

abbrev pub marks_in_start : Scope → ForTree → List Marked
marks_in_start scope Trees.ForNothing = []
marks_in_start scope (Trees.ForExpression value) = marks_in scope true value
marks_in_start scope (Trees.ForDeclaration tree) = marks_in_declaration scope tree

abbrev mutual
  pub marks_in_stmt : Scope → StmtTree → List Marked
  marks_in_stmt scope (Trees.BlockStmt place items) = marks_in_block (entered scope) items
  marks_in_stmt scope (Trees.Expression value) = marks_in scope true value
  marks_in_stmt scope (Trees.If place condition taken) = marks_in scope true condition ++ marks_in_stmt scope taken
  marks_in_stmt scope (Trees.IfElse place condition taken otherwise) = marks_in scope true condition ++ marks_in_stmt scope taken ++ marks_in_stmt scope otherwise
  marks_in_stmt scope (Trees.While place condition body) = marks_in scope true condition ++ marks_in_stmt scope body
  marks_in_stmt scope (Trees.Do place body condition) = marks_in_stmt scope body ++ marks_in scope true condition
  marks_in_stmt scope (Trees.For place start condition step body) =
      let inside = (for_start (entered scope) start).scope in
      marks_in_start (entered scope) start ++ marks_in_value inside condition ++ marks_in_value inside step ++ marks_in_stmt inside body
  marks_in_stmt scope (Trees.Switch place value items) = marks_in scope true value ++ marks_in_switch scope items
  marks_in_stmt scope (Trees.Return place value) = marks_in_value scope value
  marks_in_stmt scope _ = []

  pub marks_in_block : Scope → BlockTree → List Marked
  marks_in_block scope Trees.Close = []
  marks_in_block scope (Trees.Declare tree others) = marks_in_declaration scope tree ++ marks_in_block (declaration scope tree).scope others
  marks_in_block scope (Trees.Perform one others) = marks_in_stmt scope one ++ marks_in_block scope others

  pub marks_in_switch : Scope → SwitchTree → List Marked
  marks_in_switch scope Trees.SwitchEnd = []
  marks_in_switch scope (Trees.Case place value others) = marks_in scope false value ++ marks_in_switch scope others
  marks_in_switch scope (Trees.Default place others) = marks_in_switch scope others
  marks_in_switch scope (Trees.SwitchStmt one others) = marks_in_stmt scope one ++ marks_in_switch scope others
