-- The typed tree of a program: names are resolved, and conversions, reads of objects and uses of calls are nodes of their
-- own. Each node but those marked free stands for one of the text.
use Rattle.std.specs.Prelude.{ℕ, Bool, List, Option, ℤ}
use Rattle.run_theory.specs.declared.place.Pos.{Pos}
use Rattle.c_num.specs.declared.IntType.{IntType}
use Rattle.c_num.specs.declared.BinOp.{BinOp}
use Rattle.c_num.specs.declared.Relation.{Relation}
use Rattle.c_typed.specs.declared.typed.LibraryFunction.{LibraryFunction}
use Rattle.c_typed.specs.declared.typed.Stepping.{Stepping}
use Rattle.c_typed.specs.Types.{CType}
use Rattle.c_typed.specs.Layouts.{StructDef}
use Rattle.c_typed.specs.Values.{Held}

mutual
  -- an expression for its value; a place is that of the expression that the node belongs to
  pub data Value : Type 0 where
    Constant : (int_type : IntType) (value : ℤ) → Value
    NullPointer : Value
    Grouped : (inner : Value) → Value
    -- free: the value of an object (C17 6.3.2.1 paragraph 2), an array's first element, and a function's address
    Read : (place : Pos) (object : Object) → Value
    Decay : (place : Pos) (object : Object) → Value
    FunctionValue : (function : Designator) → Value
    -- free: conversions, of an integer, of a pointer, of a null pointer constant, and a pointer's truth
    Converted : (int_type : IntType) (value : Value) → Value
    Repointed : (place : Pos) (target : CType) (value : Value) → Value
    MadeNull : (target : CType) (value : Value) → Value
    Tested : (place : Pos) (value : Value) → Value
    -- operators
    Plus : (operand : Value) → Value
    Minus : (place : Pos) (int_type : IntType) (operand : Value) → Value
    Complement : (int_type : IntType) (operand : Value) → Value
    Not : (operand : Value) → Value
    Arithmetic : (op : BinOp) (place : Pos) (int_type : IntType) (left right : Value) → Value
    Compare : (relation : Relation) (left right : Value) → Value
    ComparePointers : (relation : Relation) (place : Pos) (left right : Value) → Value
    PointerPlus : (place : Pos) (pointer number : Value) → Value
    NumberPlus : (place : Pos) (number pointer : Value) → Value
    PointerMinus : (place : Pos) (pointer number : Value) → Value
    PointerDifference : (place : Pos) (left right : Value) → Value
    And : (left right : Value) → Value
    Or : (left right : Value) → Value
    Conditional : (condition taken otherwise : Value) → Value
    AddressOf : (place : Pos) (object : Object) → Value
    AddressOfFunction : (function : Designator) → Value
    Cast : (value : Value) → Value
    CastVoid : (value : Value) → Value
    Assign : (place : Pos) (object : Object) (value : Value) → Value
    -- the object's type, the type in which the operator works, and the value, converted to that unless the operator shifts
    AssignArithmetic : (op : BinOp) (place : Pos) (object_type int_type : IntType) (object : Object) (value : Value) → Value
    AssignMoved : (is_minus : Bool) (place : Pos) (object : Object) (number : Value) → Value
    StepInteger : (stepping : Stepping) (place : Pos) (int_type : IntType) (object : Object) → Value
    StepPointer : (stepping : Stepping) (place : Pos) (object : Object) → Value
    Call : (is_used : Bool) (place : Pos) (function : Designator) (c_type : CType) (arguments : Values) → Value
    -- with the called name, and the parentheses around that
    LibraryCall : (function : LibraryFunction) (groups : ℕ) (place : Pos) (arguments : Values) → Value

  -- an expression for its object
  pub data Object : Type 0 where
    Local : (number : ℕ) → Object
    Global : (name : List ℕ) → Object
    Literal : (place : Pos) (bytes : List ℕ) → Object
    -- in parentheses; the place is where its value is read
    GroupedObject : (place : Pos) (inner : Object) → Object
    Pointed : (place : Pos) (pointer : Value) → Object
    Element : (place : Pos) (pointer number : Value) → Object
    ElementOf : (place : Pos) (number pointer : Value) → Object
    MemberOf : (place : Pos) (object : Object) (number : ℕ) → Object
    PointedMember : (place : Pos) (pointer : Value) (number : ℕ) → Object

  -- an expression for its function
  pub data Designator : Type 0 where
    Function : (name : List ℕ) → Designator
    GroupedFunction : (inner : Designator) → Designator
    -- what a pointer points to; free where the call takes the pointer itself
    PointedFunction : (place : Pos) (pointer : Value) → Designator
    ThroughPointer : (place : Pos) (pointer : Value) → Designator

  pub data Values : Type 0 where
    NoValues : Values
    MoreValues : (first : Value) (others : Values) → Values

-- a local that begins to live, with its first value
pub record LocalDef : Type 0 where
  pub c_type : CType
  pub first : Option Value

-- what a `for` begins with
pub data ForStart : Type 0 where
  StartNothing : ForStart
  StartValue : (value : Value) → ForStart
  StartLocals : (locals : List LocalDef) → ForStart

mutual
  -- statements (C17 6.8)
  pub data Stmt : Type 0 where
    BlockStmt : (items : Block) → Stmt
    Empty : Stmt
    Expression : (value : Value) → Stmt
    If : (condition : Value) (taken : Stmt) → Stmt
    IfElse : (condition : Value) (taken otherwise : Stmt) → Stmt
    While : (condition : Value) (body : Stmt) → Stmt
    DoWhile : (body : Stmt) (condition : Value) → Stmt
    For : (start : ForStart) (condition step : Option Value) (body : Stmt) → Stmt
    Switch : (value : Value) (items : SwitchItems) → Stmt
    Break : Stmt
    Continue : Stmt
    Return : (value : Option Value) → Stmt

  pub data Block : Type 0 where
    Close : Block
    Declare : (local : LocalDef) (others : Block) → Block
    Perform : (stmt : Stmt) (others : Block) → Block

  -- labels are converted to the type of the value
  pub data SwitchItems : Type 0 where
    SwitchEnd : SwitchItems
    Case : (label : ℤ) (others : SwitchItems) → SwitchItems
    Default : (others : SwitchItems) → SwitchItems
    SwitchStmt : (stmt : Stmt) (others : SwitchItems) → SwitchItems

-- a variable outside functions, with its first scalars
pub record GlobalDef : Type 0 where
  pub name : List ℕ
  pub c_type : CType
  pub first : List Held

pub record LiteralDef : Type 0 where
  pub place : Pos
  pub bytes : List ℕ

pub record FunctionDef : Type 0 where
  pub name : List ℕ
  pub c_type : CType
  pub parameters : List CType
  pub result : CType
  pub body : Block

pub record Program : Type 0 where
  pub structs : List StructDef
  pub completed : List (List ℕ)
  pub globals : List GlobalDef
  pub literals : List LiteralDef
  pub functions : List FunctionDef
