-- What is told of allocations at the end.
use Rattle.std.specs.Prelude.{◌≡◌, ℕ, ℤ, Bool, true, false, ◌||◌, List, slice_get, Option, Some, None, pos}
use Rattle.std.specs.List.{AllByRecursion}
use Rattle.std.specs.Ordering.{int_eq}
use Rattle.c_typed.specs.Layouts.{StructDef}
use Rattle.tac_ir.specs.declared.register.Register.TheVariants as R
use Rattle.tac_ir.specs.Code as O
use Rattle.tac_ir.specs.Code.{Tree, Op, Tac}
use Rattle.tac_ir.specs.Layouts.{size_of}
use Rattle.tac_ir.specs.States.{Owner}
use Rattle.tac_ir.specs.Trees.{no_registers, computes}
use Rattle.heap_graph.specs.Graphs.{Target, Element, OfType, Name, OfRegister, Graph}
use Rattle.heap_graph.specs.Targets.{at_target}
use Rattle.heap_graph.specs.Asks.{sizes_told}
use Rattle.dsa_local.specs.Rounds.{points_at}
use Rattle.dsa_local.specs.Growing.{OnlyFlagsGrow}

-- the size is a constant, that of one object of the type
abbrev pub is_size_of : List StructDef → Tree → Element → Bool
is_size_of structs size (OfType c_type) = by (computes no_registers size)
  where
    by : Option ℤ → Bool
    by None = false
    by (Some z) = int_eq z (pos (size_of structs c_type))
is_size_of structs size element = false

-- the objects of a name's node are of an array, unless the size is one object's
abbrev pub SizeIsTold : List StructDef → Name → Tree → Graph → Type 0
SizeIsTold structs name size graph = at_target graph (graph.targets name) (λ node shift. is_size_of structs size node.element || node.flags.array) ≡ true

-- what is told of allocations at the end is told of all of a function's
abbrev pub AllSizesTold : Tac → Owner → List Op → Graph → Type 0
AllSizesTold tac owner ops graph = AllByRecursion (λ op. sizes_told tac graph owner op ≡ true) ops

-- and of these functions'
abbrev pub SizesTold : Tac → List Owner → Graph → Type 0
SizesTold tac owners graph = AllByRecursion (λ owner. AllSizesTold tac owner (points_at tac owner) graph) owners

-- ---- where a size asks for an array

-- a name's node is the one of this number, and the size isn't that of one object of this element
pub record AsksSize (structs : List StructDef) (name : Name) (size : Tree) (graph : Graph) (number : ℕ) (element : Element) : Type 0 where
  pub target : Target
  pub is : graph.targets name ≡ Some target
  pub node : target.node ≡ number
  pub differs : is_size_of structs size element ≡ false

-- so does the size of an allocation
pub record AsksOp (tac : Tac) (owner : Owner) (op : Op) (graph : Graph) (number : ℕ) (element : Element) : Type 0 where
  pub site : ℕ
  pub size : Tree
  pub is : op ≡ O.Allocate site size
  pub asks : AsksSize tac.structs (OfRegister owner (R.Call site)) size graph number element

-- one of these points does
pub record AsksPoint (tac : Tac) (owner : Owner) (ops : List Op) (graph : Graph) (number : ℕ) (element : Element) : Type 0 where
  pub at : ℕ
  pub op : Op
  pub point : slice_get ops at ≡ Some op
  pub asks : AsksOp tac owner op graph number element

-- a point of one of these functions does
pub record AsksOwner (tac : Tac) (owners : List Owner) (graph : Graph) (number : ℕ) (element : Element) : Type 0 where
  pub place : ℕ
  pub owner : Owner
  pub there : slice_get owners place ≡ Some owner
  pub asks : AsksPoint tac owner (points_at tac owner) graph number element

-- ---- one after the other

-- where the rest is told of a graph with more flags, all is
abbrev pub SizesGoOn : Graph → (Graph → Type 0) → (Graph → Type 0) → Type 0
SizesGoOn graph left all = (new : Graph) → OnlyFlagsGrow graph new → left new → all new
