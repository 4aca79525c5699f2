-- Code with pools as plain data. It has the points of three-address code: where that has a type, it has sizes and offsets in bytes, and
-- where that allocates, frees or calls, it has the pools that serve. A pool is held by a descriptor of the activation.
use Rattle.std.specs.Prelude.{ℕ, Bool, List, Option}
use Rattle.c_num.specs.declared.IntType.{IntType}
use Rattle.c_num.specs.declared.Relation.{Relation}
use Rattle.slab_space.specs.declared.kind.PoolKind.{PoolKind}
use Rattle.tac_ir.specs.declared.program.Counts.{Counts}
use Rattle.tac_ir.specs.declared.register.Local.{Local}
use Rattle.tac_ir.specs.declared.register.Register.{Register}
use Rattle.tac_ir.specs.Code.{Tree, Operand}

-- how a scalar lies in memory: an integer of a type, a pointer as its address in 8 bytes, or as the index in 4 bytes of a cell of the
-- pool that a descriptor holds
pub data Slot : Type 0 where
  IntegerSlot : (int_type : IntType) → Slot
  AddressSlot : Slot
  IndexSlot : (descriptor : ℕ) → Slot

-- where a path begins: so many bytes behind the beginning of the frame or of the globals, at what a pointer points to, or so many elements
-- of a size behind that
pub data Base : Type 0 where
  AtFrame : (offset : ℕ) → Base
  AtGlobals : (offset : ℕ) → Base
  Pointed : (pointer : Register) → Base
  Indexed : (pointer : Register) (size : ℕ) (number : Tree) → Base

pub data Step : Type 0 where
  Member : (offset : ℕ) → Step
  Element : (size : ℕ) (index : Tree) → Step

pub record Path : Type 0 where
  pub base : Base
  pub steps : List Step

-- a function by its number, or through a pointer to one of this signature
pub data Callee : Type 0 where
  Known : (function : ℕ) → Callee
  Through : (pointer : Register) (signature : ℕ) → Callee

-- what is done at a point
pub data Op : Type 0 where
  Reserved : Op
  Jump : (to : ℕ) → Op
  Branch : (int_type : IntType) (condition : Tree) (holds fails : ℕ) → Op
  Assign : (to : Register) (tree : Tree) → Op
  Null : (to : Register) → Op
  FunctionAddress : (to : Register) (function : ℕ) → Op
  Copy : (to from : Register) → Op
  Test : (to pointer : Register) → Op
  Move : (to pointer : Register) (size : ℕ) (is_minus : Bool) (number : Tree) → Op
  Difference : (to : Register) (size : ℕ) (left right : Register) → Op
  ComparePointers : (to : Register) (relation : Relation) (left right : Register) → Op
  AddressOf : (to : Register) (path : Path) → Op
  Load : (to : Register) (slot : Slot) (path : Path) → Op
  Store : (path : Path) (slot : Slot) (value : Operand) → Op
  Allocate : (site : ℕ) (size : Tree) (pool : ℕ) → Op
  Free : (site : ℕ) (pointer : Register) (pool : ℕ) → Op
  Call : (site : ℕ) (callee : Callee) (arguments : List Register) (pools : List ℕ) → Op
  GetChar : (site : ℕ) → Op
  PutChar : (site : ℕ) (value : Tree) → Op
  Exit : (status : Tree) → Op
  Return : (value : Option Operand) → Op

-- a pool of a kind is made, which a descriptor then holds, or that of a descriptor is destroyed
pub data Action : Type 0 where
  Make : (descriptor kind : ℕ) → Action
  Destroy : (descriptor : ℕ) → Action

-- what is done with pools on the way from a point to another
pub record Edge : Type 0 where
  pub from : ℕ
  pub to : ℕ
  pub actions : List Action

-- a local in memory, by how many bytes it lies behind the beginning of the frame, and its size
pub record FrameObject : Type 0 where
  pub local : Local
  pub offset : ℕ
  pub size : ℕ

-- The frame of a function: words for the descriptors, of which the first are those that it takes, for its parameters and for its other
-- registers; its objects; and its size in bytes.
pub record FrameLayout : Type 0 where
  pub descriptors : ℕ
  pub parameters : ℕ
  pub registers : Counts
  pub objects : List FrameObject
  pub size : ℕ

pub record Function : Type 0 where
  pub signature : ℕ
  pub taken : ℕ
  pub frame : FrameLayout
  pub entering : List Action
  pub edges : List Edge
  pub leaving : List Action
  pub points : List Op

-- the functions by number, `start`, the kinds of pools, and the bytes of the globals and literals with what stands there at first
pub record PoolCode : Type 0 where
  pub functions : List Function
  pub start : Function
  pub kinds : List PoolKind
  pub globals : ℕ
  pub contents : List ℕ
