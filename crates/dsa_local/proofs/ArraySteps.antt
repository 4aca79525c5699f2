-- Nodes that are of arrays only where that is asked, one step after the other.
use Rattle.std.proofs.Common.{◌≡◌, ◌⊎◌, inl, inr, ℕ, true, List, Some, refl, sym, ap, subst, ◌∙◌}
use Rattle.std.specs.Prelude.{slice_get}
use Rattle.std.proofs.lemmas.Bool.{cases_eq}
use Rattle.std.proofs.lemmas.Option.{same_Some}
use Rattle.c_typed.specs.Layouts.{StructDef}
use Rattle.c_typed.specs.Table.{Interned}
use Rattle.tac_ir.specs.declared.register.Register.TheVariants as R
use Rattle.tac_ir.specs.declared.tree.Tree as memory_tree
use Rattle.tac_ir.specs.declared.op.Op as memory_op
use Rattle.tac_ir.specs.declared.op.Op.TheVariants as M
use Rattle.tac_ir.specs.Views.{tree_of, op_in}
use Rattle.tac_ir.specs.Code.{Tree, Op, Tac}
use Rattle.tac_ir.specs.States.{Owner}
use Rattle.heap_graph.specs.Graphs.{Element, Node, Name, OfRegister, Graph, node_at}
use Rattle.graph_unification.specs.Changes.{SetsFlags}
use Rattle.graph_unification.specs.declared.marks.Mark.TheVariants as K
use Rattle.graph_unification.specs.Asked.{marked}
use Rattle.dsa_local.specs.Rounds.{points_at}
use Rattle.dsa_local.specs.Growing.{OnlyFlagsGrow, GetsArray, OnlyArrays}
use Rattle.dsa_local.specs.Sizes.{AsksSize, AsksOp, AsksPoint, AsksOwner}

-- ---- nodes

gets_none : (asked : Type 0) (node : Node) → GetsArray asked node node
gets_none asked node = record { same = refl; only = λ is. inl is }

gets_then : (asked : Type 0) (a b c : Node) → GetsArray asked a b → GetsArray asked b c → GetsArray asked a c
gets_then asked a b c first then = record {
  same = then.same ∙ ap (λ (n : Node). record n { flags = record n.flags { array = c.flags.array } }) first.same;
  only = λ is. by (then.only is);
}
  where
    by : (b.flags.array ≡ true) ⊎ asked → (a.flags.array ≡ true) ⊎ asked
    by (inl was) = first.only was
    by (inr asks) = inr asks

gets_more : (less more : Type 0) (a b : Node) → (less → more) → GetsArray less a b → GetsArray more a b
gets_more less more a b asks gets = record { same = gets.same; only = λ is. by (gets.only is) }
  where
    by : (a.flags.array ≡ true) ⊎ less → (a.flags.array ≡ true) ⊎ more
    by (inl was) = inl was
    by (inr asked) = inr (asks asked)

-- ---- graphs

pub arrays_same : (asked : ℕ → Element → Type 0) (graph : Graph) → OnlyArrays asked graph graph
arrays_same asked graph number a b here there = subst (GetsArray (asked number a.element) a) (same_Some a b (sym here ∙ there)) (gets_none (asked number a.element) a)

pub arrays_then : (asked : ℕ → Element → Type 0) (one two three : Graph) → OnlyFlagsGrow one two → OnlyArrays asked one two → OnlyArrays asked two three → OnlyArrays asked one three
arrays_then asked one two three grows first then number a c here there =
    let middle = grows.nodes number a here in
    gets_then (asked number a.element) a middle.now c (first number a middle.now here middle.is)
    (subst (λ (e : Element). GetsArray (asked number e) middle.now c) middle.grows.element (then number middle.now c middle.is there))

pub arrays_more : (less more : ℕ → Element → Type 0) (old new : Graph) → ((number : ℕ) (element : Element) → less number element → more number element) → OnlyArrays less old new → OnlyArrays more old new
arrays_more less more old new asks its number a b here there = gets_more (less number a.element) (more number a.element) a b (asks number a.element) (its number a b here there)

-- a flag of one node was set
pub array_set : (asked : ℕ → Element → Type 0) (old new : Graph) (number : ℕ) (own : Node) → node_at old number ≡ Some own → asked number own.element → SetsFlags old new number (marked K.Array own.flags) → OnlyArrays asked old new
array_set asked old new number own own_is asks sets other a b here there = by (cases_eq other number)
  where
    by : (other ≡ number) ⊎ (other ≡ number → ⊥) → GetsArray (asked other a.element) a b
    by (inl same) =
        let one : own ≡ a = same_Some own a (sym own_is ∙ ap (node_at old) (sym same) ∙ here) in
        let set : record own { flags = marked K.Array own.flags } ≡ b = same_Some (record own { flags = marked K.Array own.flags }) b (sym (sets.at own own_is) ∙ ap (node_at new) (sym same) ∙ there) in
        subst (λ (n : Node). GetsArray (asked other a.element) a n) set
        (subst (λ (n : Node). GetsArray (asked other n.element) n (record own { flags = marked K.Array own.flags })) one
        (record { same = refl; only = λ is. inr (subst (λ m. asked m own.element) (sym same) asks) }))
    by (inr apart) = subst (GetsArray (asked other a.element) a) (same_Some a b (sym here ∙ (sym (sets.others other apart) ∙ there))) (gets_none (asked other a.element) a)

-- ---- what asks

-- an allocation in memory
pub allocation_asked : (table : Interned) (tac : Tac) (owner : Owner) (op : memory_op.Op) (site : ℕ) (size : memory_tree.Tree) (graph : Graph) → op ≡ M.Allocate site size → (number : ℕ) (element : Element)
    → AsksSize tac.structs (OfRegister owner (R.Call site)) (tree_of size) graph number element → AsksOp tac owner (op_in table op) graph number element
allocation_asked table tac owner op site size graph is number element asks = record { site = site; size = tree_of size; is = ap (op_in table) is; asks = asks }

module _ (old new : Graph) (names : (name : Name) → new.targets name ≡ old.targets name) where
  size_asked : (structs : List StructDef) (name : Name) (size : Tree) (number : ℕ) (element : Element) → AsksSize structs name size new number element → AsksSize structs name size old number element
  size_asked structs name size number element asks = record { target = asks.target; is = sym (names name) ∙ asks.is; node = asks.node; differs = asks.differs }

  op_asked : (tac : Tac) (owner : Owner) (op : Op) (number : ℕ) (element : Element) → AsksOp tac owner op new number element → AsksOp tac owner op old number element
  op_asked tac owner op number element asks = record { site = asks.site; size = asks.size; is = asks.is; asks = size_asked tac.structs _ asks.size number element asks.asks }

  pub point_asked : (tac : Tac) (owner : Owner) (ops : List Op) (at : ℕ) (op : Op) → slice_get ops at ≡ Some op → (number : ℕ) (element : Element) → AsksOp tac owner op new number element
      → AsksPoint tac owner ops old number element
  point_asked tac owner ops at op is number element asks = record { at = at; op = op; point = is; asks = op_asked tac owner op number element asks }

  pub owner_asked : (tac : Tac) (owners : List Owner) (place : ℕ) (owner : Owner) → slice_get owners place ≡ Some owner → (number : ℕ) (element : Element) → AsksPoint tac owner (points_at tac owner) new number element
      → AsksOwner tac owners old number element
  owner_asked tac owners place owner is number element asks = record {
    place = place;
    owner = owner;
    there = is;
    asks = point_asked tac owner (points_at tac owner) asks.at asks.op asks.point number element asks.asks;
  }

  -- all that was asked of the one graph is asked of the other
  pub asked_still : (tac : Tac) (owners : List Owner) (number : ℕ) (element : Element) → AsksOwner tac owners new number element → AsksOwner tac owners old number element
  asked_still tac owners number element asks = owner_asked tac owners asks.place asks.owner asks.there number element asks.asks
