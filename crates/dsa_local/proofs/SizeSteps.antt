-- What is told of allocations, one after the other.
use Rattle.std.proofs.Common.{◌≡◌, ℕ, ℤ, Bool, true, false, List, [], ◌∷◌, Option, Some, None, refl, sym, ap, ◌∙◌}
use Rattle.std.specs.Prelude.{◌||◌}
use Rattle.std.proofs.lemmas.Bool.{false≢true}
use Rattle.c_typed.specs.Layouts.{StructDef}
use Rattle.c_typed.specs.Table.{Interned}
use Rattle.tac_ir.specs.declared.register.Register.TheVariants as R
use Rattle.tac_ir.specs.declared.tree.Tree as memory_tree
use Rattle.tac_ir.specs.declared.op.Op as memory_op
use Rattle.tac_ir.specs.declared.op.Op.TheVariants as M
use Rattle.tac_ir.specs.Code as O
use Rattle.tac_ir.specs.Code.{Tree, Op, Tac}
use Rattle.tac_ir.specs.States.{Owner}
use Rattle.tac_ir.specs.Trees.{no_registers, computes}
use Rattle.tac_ir.specs.Views.{op_in}
use Rattle.heap_graph.specs.Graphs.{Target, Element, Missing, OfType, Collapsed, Node, Name, OfRegister, Graph, node_at}
use Rattle.heap_graph.specs.Targets.{at_target}
use Rattle.heap_graph.specs.Points as P
use Rattle.heap_graph.proofs.MapsCompose.{at_from}
use Rattle.graph_unification.specs.Changes.{SetsFlags}
use Rattle.graph_unification.specs.declared.marks.Mark.TheVariants as K
use Rattle.graph_unification.specs.Asked.{marked}
use Rattle.heap_graph.specs.Asks.{own, size_told, sizes_told}
use Rattle.dsa_local.specs.Sizes.{is_size_of}
use Rattle.dsa_local.specs.Growing.{OnlyFlagsGrow}
use Rattle.dsa_local.specs.Rounds.{points_at}
use Rattle.dsa_local.specs.Sizes.{SizeIsTold, AllSizesTold, SizesTold, SizesGoOn}
use Rattle.dsa_local.proofs.Grown.{Upward, at_grown, grown_same, grown_then}

-- ---- sizes

pub size_by_types : (tac : Tac) (graph : Graph) (owner : Owner) (size : Tree) (element : Element) → P.is_size_of tac graph owner size element ≡ is_size_of tac.structs size element
size_by_types tac graph owner size Missing = refl
size_by_types tac graph owner size Collapsed = refl
size_by_types tac graph owner size (OfType c_type) = by (computes no_registers size) refl
  where
    by : (o : Option ℤ) → computes no_registers size ≡ o → P.is_size_of tac graph owner size (OfType c_type) ≡ is_size_of tac.structs size (OfType c_type)
    by None e = rw e refl
    by (Some z) e = rw e refl

-- what is told of an allocation is told of its register's name
pub size_as_named : (tac : Tac) (graph : Graph) (owner : Owner) (site : ℕ) (size : Tree) → size_told tac graph owner site size ≡ at_target graph (own tac graph owner (R.Call site)) (λ node shift. is_size_of tac.structs size node.element || node.flags.array)
size_as_named tac graph owner site size = λ i. at_target graph (own tac graph owner (R.Call site)) (λ node shift. size_by_types tac graph owner size node.element i || node.flags.array)

pub size_is : (tac : Tac) (graph : Graph) (owner : Owner) (site : ℕ) (size : Tree) → SizeIsTold tac.structs (OfRegister owner (R.Call site)) size graph → size_told tac graph owner site size ≡ true
size_is tac graph owner site size h = size_as_named tac graph owner site size ∙ h

-- ---- at the node of a name

or_true : (a : Bool) → (a || true) ≡ true
or_true true = refl
or_true false = refl

or_left : (a b : Bool) → a ≡ true → (a || b) ≡ true
or_left true b h = refl
or_left false b h = absurd (false≢true h)

or_up : (a b c : Bool) → (b ≡ true → c ≡ true) → (a || b) ≡ true → (a || c) ≡ true
or_up true b c f h = refl
or_up false b c f h = f h

module _ (structs : List StructDef) (name : Name) (size : Tree) where
  pub untargeted : (graph : Graph) → None ≡ graph.targets name → SizeIsTold structs name size graph
  untargeted graph e = ap (λ t. at_target graph t (λ node shift. is_size_of structs size node.element || node.flags.array)) (sym e)

  pub one_object : (graph : Graph) (x : Target) (node : Node) → Some x ≡ graph.targets name → node_at graph x.node ≡ Some node → is_size_of structs size node.element ≡ true → SizeIsTold structs name size graph
  one_object graph x node at is h =
      ap (λ t. at_target graph t (λ node shift. is_size_of structs size node.element || node.flags.array)) (sym at)
      ∙ at_from graph x (λ node shift. is_size_of structs size node.element || node.flags.array) node is (or_left _ _ h)

  pub of_array : (old new : Graph) (x : Target) (node : Node) → Some x ≡ old.targets name → node_at old x.node ≡ Some node → SetsFlags old new x.node (marked K.Array node.flags) → SizeIsTold structs name size new
  of_array old new x node at is sets =
      ap (λ t. at_target new t (λ node shift. is_size_of structs size node.element || node.flags.array)) (sets.names name ∙ sym at)
      ∙ at_from new x (λ node shift. is_size_of structs size node.element || node.flags.array) (record node { flags = marked K.Array node.flags }) (sets.at node is) (or_true _)

  size_up : Upward (λ node shift. is_size_of structs size node.element || node.flags.array)
  size_up a b shift grows h = (λ i. is_size_of structs size (grows.element i) || b.flags.array) ∙ or_up (is_size_of structs size a.element) a.flags.array b.flags.array grows.flags.array h

  pub size_grown : (old new : Graph) → OnlyFlagsGrow old new → SizeIsTold structs name size old → SizeIsTold structs name size new
  size_grown old new grows h =
      ap (λ t. at_target new t (λ node shift. is_size_of structs size node.element || node.flags.array)) (grows.names name) ∙ at_grown old new grows (old.targets name) (λ node shift. is_size_of structs size node.element || node.flags.array) size_up h

-- ---- at points

-- where it is told of allocations, it is told of all points
pub sizes_by : (tac : Tac) (old new : Graph) (owner : Owner) → ((site : ℕ) (size : Tree) → size_told tac old owner site size ≡ true → size_told tac new owner site size ≡ true)
    → (op : Op) → sizes_told tac old owner op ≡ true → sizes_told tac new owner op ≡ true
sizes_by tac old new owner gives O.Reserved h = refl
sizes_by tac old new owner gives (O.Jump to) h = refl
sizes_by tac old new owner gives (O.Branch int_type condition holds fails) h = refl
sizes_by tac old new owner gives (O.Assign to tree) h = refl
sizes_by tac old new owner gives (O.Null to) h = refl
sizes_by tac old new owner gives (O.FunctionAddress to function) h = refl
sizes_by tac old new owner gives (O.Copy to from) h = refl
sizes_by tac old new owner gives (O.Test to pointer) h = refl
sizes_by tac old new owner gives (O.Move to pointer element is_minus number) h = refl
sizes_by tac old new owner gives (O.Difference to element left right) h = refl
sizes_by tac old new owner gives (O.ComparePointers to relation left right) h = refl
sizes_by tac old new owner gives (O.Repoint to target from) h = refl
sizes_by tac old new owner gives (O.AddressOf to path) h = refl
sizes_by tac old new owner gives (O.Load to scalar path) h = refl
sizes_by tac old new owner gives (O.Store path scalar value) h = refl
sizes_by tac old new owner gives (O.Allocate site size) h = gives site size h
sizes_by tac old new owner gives (O.Free site pointer) h = refl
sizes_by tac old new owner gives (O.Call site callee arguments) h = refl
sizes_by tac old new owner gives (O.GetChar site) h = refl
sizes_by tac old new owner gives (O.PutChar site value) h = refl
sizes_by tac old new owner gives (O.Exit status) h = refl
sizes_by tac old new owner gives (O.Return value) h = refl

pub sizes_grown : (tac : Tac) (old new : Graph) → OnlyFlagsGrow old new → (owner : Owner) (op : Op) → sizes_told tac old owner op ≡ true → sizes_told tac new owner op ≡ true
sizes_grown tac old new grows owner =
    sizes_by tac old new owner (λ site size h. size_is tac new owner site size (size_grown tac.structs (OfRegister owner (R.Call site)) size old new grows (sym (size_as_named tac old owner site size) ∙ h)))

pub all_sizes_grown : (tac : Tac) (old new : Graph) → OnlyFlagsGrow old new → (owner : Owner) (ops : List Op) → AllSizesTold tac owner ops old → AllSizesTold tac owner ops new
all_sizes_grown tac old new grows owner [] told = tt
all_sizes_grown tac old new grows owner (op ∷ ops) told = (sizes_grown tac old new grows owner op told.0, all_sizes_grown tac old new grows owner ops told.1)

-- what is told of allocations is told where there are more flags
pub told_grown : (tac : Tac) (old new : Graph) → OnlyFlagsGrow old new → (owners : List Owner) → SizesTold tac owners old → SizesTold tac owners new
told_grown tac old new grows [] told = tt
told_grown tac old new grows (owner ∷ owners) told = (all_sizes_grown tac old new grows owner (points_at tac owner) told.0, told_grown tac old new grows owners told.1)

-- of other points nothing is told
pub no_allocation : (table : Interned) (tac : Tac) (graph : Graph) (owner : Owner) (op : memory_op.Op) → ((site : ℕ) (size : memory_tree.Tree) → op ≡ M.Allocate site size → ⊥) → sizes_told tac graph owner (op_in table op) ≡ true
no_allocation table tac graph owner M.Reserved other = refl
no_allocation table tac graph owner (M.Jump to) other = refl
no_allocation table tac graph owner (M.Branch int_type condition holds fails) other = refl
no_allocation table tac graph owner (M.Assign to tree) other = refl
no_allocation table tac graph owner (M.Null to) other = refl
no_allocation table tac graph owner (M.FunctionAddress to function) other = refl
no_allocation table tac graph owner (M.Copy to from) other = refl
no_allocation table tac graph owner (M.Test to pointer) other = refl
no_allocation table tac graph owner (M.Move to pointer element is_minus number) other = refl
no_allocation table tac graph owner (M.Difference to element left right) other = refl
no_allocation table tac graph owner (M.ComparePointers to relation left right) other = refl
no_allocation table tac graph owner (M.Repoint to target from) other = refl
no_allocation table tac graph owner (M.Address to path) other = refl
no_allocation table tac graph owner (M.Load to scalar path) other = refl
no_allocation table tac graph owner (M.Store path scalar value) other = refl
no_allocation table tac graph owner (M.Allocate site size) other = absurd (other site size refl)
no_allocation table tac graph owner (M.Free site pointer) other = refl
no_allocation table tac graph owner (M.Call site callee arguments) other = refl
no_allocation table tac graph owner (M.GetChar site) other = refl
no_allocation table tac graph owner (M.PutChar site value) other = refl
no_allocation table tac graph owner (M.Exit status) other = refl
no_allocation table tac graph owner (M.Return value) other = refl

-- ---- one after the other

pub sizes_begin : (graph : Graph) (all : Graph → Type 0) → SizesGoOn graph all all
sizes_begin graph all = λ new grows told. told

pub sizes_on : (graph next : Graph) (first left all : Graph → Type 0) → ((new : Graph) → OnlyFlagsGrow next new → first next → first new) → SizesGoOn graph (λ new. first new × left new) all → OnlyFlagsGrow graph next → first next
    → SizesGoOn next left all
sizes_on graph next first left all kept gives grows told = λ new more rest. gives new (grown_then graph next new grows more) (kept new more told, rest)

pub sizes_end : (graph : Graph) (left all : Graph → Type 0) → SizesGoOn graph left all → left graph → all graph
sizes_end graph left all gives none = gives graph (grown_same graph) none
