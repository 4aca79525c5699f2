-- Three-address code as plain data, with types in place of their numbers.
use Rattle.std.specs.Prelude.{ℕ, Bool, List, Option, ℤ}
use Rattle.c_num.specs.declared.BinOp.{BinOp}
use Rattle.c_num.specs.declared.IntType.{IntType}
use Rattle.c_num.specs.declared.Relation.{Relation}
use Rattle.c_typed.specs.Types.{CType}
use Rattle.c_typed.specs.Layouts.{StructDef}
use Rattle.c_typed.specs.Typed.{GlobalDef, LiteralDef}
use Rattle.tac_ir.specs.declared.program.Counts.{Counts}
use Rattle.tac_ir.specs.declared.register.Local.{Local}
use Rattle.tac_ir.specs.declared.register.Register.{Register}

-- an integer that is computed at one point
pub data Tree : Type 0 where
  Constant : (z : ℤ) → Tree
  Held : (register : Register) → Tree
  Convert : (int_type : IntType) (operand : Tree) → Tree
  Complement : (int_type : IntType) (operand : Tree) → Tree
  Not : (int_type : IntType) (operand : Tree) → Tree
  Arithmetic : (operator : BinOp) (int_type : IntType) (left right : Tree) → Tree
  Compare : (relation : Relation) (int_type : IntType) (left right : Tree) → Tree

-- where a path begins: at an object, at what a pointer to a type points to, or so many elements behind that
pub data Base : Type 0 where
  AtLocal : (local : Local) → Base
  AtGlobal : (number : ℕ) → Base
  AtLiteral : (number : ℕ) → Base
  Pointed : (pointer : Register) (target : CType) → Base
  Indexed : (pointer : Register) (target : CType) (number : Tree) → Base

pub data Step : Type 0 where
  Member : (number : ℕ) → Step
  Element : (index : Tree) → Step

pub record Path : Type 0 where
  pub base : Base
  pub steps : List Step

pub data Operand : Type 0 where
  IntegerOperand : (tree : Tree) → Operand
  PointerOperand : (register : Register) → Operand

pub data Callee : Type 0 where
  Known : (function : ℕ) → Callee
  Through : (pointer : Register) (c_type : CType) → Callee

-- what is done at a point
pub data Op : Type 0 where
  Reserved : Op
  Jump : (to : ℕ) → Op
  Branch : (int_type : IntType) (condition : Tree) (holds fails : ℕ) → Op
  Assign : (to : Register) (tree : Tree) → Op
  Null : (to : Register) → Op
  FunctionAddress : (to : Register) (function : ℕ) → Op
  Copy : (to from : Register) → Op
  Test : (to pointer : Register) → Op
  Move : (to pointer : Register) (element : CType) (is_minus : Bool) (number : Tree) → Op
  Difference : (to : Register) (element : CType) (left right : Register) → Op
  ComparePointers : (to : Register) (relation : Relation) (left right : Register) → Op
  Repoint : (to : Register) (target : CType) (from : Register) → Op
  AddressOf : (to : Register) (path : Path) → Op
  Load : (to : Register) (scalar : CType) (path : Path) → Op
  Store : (path : Path) (scalar : CType) (value : Operand) → Op
  Allocate : (site : ℕ) (size : Tree) → Op
  Free : (site : ℕ) (pointer : Register) → Op
  Call : (site : ℕ) (callee : Callee) (arguments : List Register) → Op
  GetChar : (site : ℕ) → Op
  PutChar : (site : ℕ) (value : Tree) → Op
  Exit : (status : Tree) → Op
  Return : (value : Option Operand) → Op

-- a local in memory
pub record LocalObject : Type 0 where
  pub local : Local
  pub c_type : CType

pub record Function : Type 0 where
  pub name : List ℕ
  pub c_type : CType
  pub parameters : ℕ
  pub counts : Counts
  pub objects : List LocalObject
  pub points : List Op

pub record Tac : Type 0 where
  pub structs : List StructDef
  pub globals : List GlobalDef
  pub literals : List LiteralDef
  pub functions : List Function
  pub start : Function
