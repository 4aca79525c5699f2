-- The syntax trees of the language as plain data. A place is that of a tree's first token, where that is one of its own.
use Rattle.std.specs.Prelude.{ℕ, List, Option}
use Rattle.run_theory.specs.declared.place.Pos.{Pos}
use Rattle.c_num.specs.declared.IntType.{IntType}
use Rattle.c_syntax.specs.declared.operator.PrefixOperator.{PrefixOperator}
use Rattle.c_syntax.specs.declared.operator.BinaryOperator.{BinaryOperator}
use Rattle.c_syntax.specs.declared.operator.AssignOperator.{AssignOperator}

-- a name, by the bytes that spell it (C17 6.4.2.1)
pub record NameTree : Type 0 where
  pub bytes : List ℕ
  pub place : Pos

-- the words of a type (C17 6.7.2)
pub data SimpleTree : Type 0 where
  VoidWord : SimpleTree
  IntegerWords : (int_type : IntType) → SimpleTree
  StructTag : (name : NameTree) → SimpleTree

-- the words of a type, and the place of the first
pub record WordsTree : Type 0 where
  pub place : Pos
  pub words : SimpleTree

mutual
  -- an expression (C17 6.5)
  pub data ExprTree : Type 0 where
    Named : (name : NameTree) → ExprTree
    Integer : (value : ℕ) (int_type : IntType) (place : Pos) → ExprTree
    Character : (byte : ℕ) (place : Pos) → ExprTree
    Literal : (bytes : List ℕ) (place : Pos) → ExprTree
    Null : (place : Pos) → ExprTree
    EndOfFile : (place : Pos) → ExprTree
    Parenthesized : (place : Pos) (inner : ExprTree) → ExprTree
    Index : (array index : ExprTree) → ExprTree
    -- with the place of the `(`
    Call : (function : ExprTree) (open_place : Pos) (arguments : ArgumentsTree) → ExprTree
    Member : (object : ExprTree) (member : NameTree) → ExprTree
    PointerMember : (pointer : ExprTree) (member : NameTree) → ExprTree
    PostIncrement : (operand : ExprTree) → ExprTree
    PostDecrement : (operand : ExprTree) → ExprTree
    Prefix : (operator : PrefixOperator) (place : Pos) (operand : ExprTree) → ExprTree
    SizeofExpr : (place : Pos) (operand : ExprTree) → ExprTree
    SizeofType : (place : Pos) (type_name : TypeTree) → ExprTree
    Cast : (place : Pos) (type_name : TypeTree) (operand : ExprTree) → ExprTree
    Binary : (operator : BinaryOperator) (left right : ExprTree) → ExprTree
    Conditional : (condition taken otherwise : ExprTree) → ExprTree
    Assign : (operator : AssignOperator) (object value : ExprTree) → ExprTree

  pub data ArgumentsTree : Type 0 where
    NoArguments : ArgumentsTree
    Argument : (value : ExprTree) (others : ArgumentsTree) → ArgumentsTree

  -- the name of a type (C17 6.7.7)
  pub data TypeTree : Type 0 where
    TypeName : (words : WordsTree) (declarator : OptionalTree) → TypeTree

  -- a declarator that may be left out
  pub data OptionalTree : Type 0 where
    NoDeclarator : OptionalTree
    Declared : (declarator : DeclaratorTree) → OptionalTree

  -- a declarator (C17 6.7.6): its stars, what it is built on, and what follows that
  pub data DeclaratorTree : Type 0 where
    Declarator : (stars : ℕ) (direct : DirectTree) (suffixes : SuffixesTree) → DeclaratorTree

  pub data DirectTree : Type 0 where
    DeclaredName : (name : NameTree) → DirectTree
    Nested : (declarator : DeclaratorTree) → DirectTree
    NoName : DirectTree

  pub data SuffixesTree : Type 0 where
    NoSuffixes : SuffixesTree
    ArraySuffix : (length : LengthTree) (others : SuffixesTree) → SuffixesTree
    FunctionSuffix : (parameters : ParametersTree) (others : SuffixesTree) → SuffixesTree

  pub data LengthTree : Type 0 where
    NoLength : LengthTree
    ArrayLength : (value : ExprTree) → LengthTree

  pub data ParametersTree : Type 0 where
    NoParameters : ParametersTree
    Parameter : (words : WordsTree) (declarator : OptionalTree) (others : ParametersTree) → ParametersTree

mutual
  -- an initializer (C17 6.7.9)
  pub data InitTree : Type 0 where
    InitValue : (value : ExprTree) → InitTree
    InitList : (place : Pos) (inits : InitsTree) → InitTree

  pub data InitsTree : Type 0 where
    NoInits : InitsTree
    Inits : (init : InitTree) (others : InitsTree) → InitsTree

-- a declarator, perhaps with a first value
pub record InitDeclaratorTree : Type 0 where
  pub declarator : DeclaratorTree
  pub init : Option InitTree

-- a declaration in a block (C17 6.7)
pub record DeclarationTree : Type 0 where
  pub words : WordsTree
  pub declarators : List InitDeclaratorTree

-- what a `for` begins with (C17 6.8.5.3)
pub data ForTree : Type 0 where
  ForNothing : ForTree
  ForDeclaration : (declaration : DeclarationTree) → ForTree
  ForExpression : (value : ExprTree) → ForTree

mutual
  -- a statement (C17 6.8)
  pub data StmtTree : Type 0 where
    BlockStmt : (place : Pos) (items : BlockTree) → StmtTree
    Empty : (place : Pos) → StmtTree
    Expression : (value : ExprTree) → StmtTree
    If : (place : Pos) (condition : ExprTree) (taken : StmtTree) → StmtTree
    IfElse : (place : Pos) (condition : ExprTree) (taken otherwise : StmtTree) → StmtTree
    While : (place : Pos) (condition : ExprTree) (body : StmtTree) → StmtTree
    Do : (place : Pos) (body : StmtTree) (condition : ExprTree) → StmtTree
    For : (place : Pos) (start : ForTree) (condition step : Option ExprTree) (body : StmtTree) → StmtTree
    Switch : (place : Pos) (value : ExprTree) (items : SwitchTree) → StmtTree
    Break : (place : Pos) → StmtTree
    Continue : (place : Pos) → StmtTree
    Return : (place : Pos) (value : Option ExprTree) → StmtTree

  -- what stands in a block, one after another (C17 6.8.2)
  pub data BlockTree : Type 0 where
    Close : BlockTree
    Declare : (declaration : DeclarationTree) (others : BlockTree) → BlockTree
    Perform : (stmt : StmtTree) (others : BlockTree) → BlockTree

  -- what stands in the braces of a `switch` (C17 6.8.4.2)
  pub data SwitchTree : Type 0 where
    SwitchEnd : SwitchTree
    Case : (place : Pos) (value : ExprTree) (others : SwitchTree) → SwitchTree
    Default : (place : Pos) (others : SwitchTree) → SwitchTree
    SwitchStmt : (stmt : StmtTree) (others : SwitchTree) → SwitchTree

-- members that are declared together (C17 6.7.2.1)
pub record MemberTree : Type 0 where
  pub words : WordsTree
  pub declarators : List DeclaratorTree

-- the words of a type outside functions, where a struct may have its members
pub data BaseTree : Type 0 where
  Plain : (words : WordsTree) → BaseTree
  StructBody : (place : Pos) (name : NameTree) (members : List MemberTree) → BaseTree

-- what stands outside functions (C17 6.9)
pub data ItemTree : Type 0 where
  -- a declaration; without declarators it is of a struct
  Declaration : (base : BaseTree) (declarators : List InitDeclaratorTree) → ItemTree
  -- a function (C17 6.9.1), with the place of its block
  Function : (base : BaseTree) (declarator : DeclaratorTree) (place : Pos) (body : BlockTree) → ItemTree

-- a program (C17 6.9), and the place of its end
pub record ProgramTree : Type 0 where
  pub items : List ItemTree
  pub end : Pos
