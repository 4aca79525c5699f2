-- The nodes that a function needs: those of its names, and images of nodes at its calls out of its group.
use Rattle.std.specs.Prelude.{◌≡◌, ℕ, true, false, ◌⊎◌, List, [], ◌∷◌, slice_get, Option, Some}
use Rattle.tac_ir.specs.declared.register.Register.{Register}
use Rattle.tac_ir.specs.Code as O
use Rattle.tac_ir.specs.Code.{Op}
use Rattle.tac_ir.specs.States.{Owner, InFunction}
use Rattle.tac_ir.specs.Targets.{is_target}
use Rattle.heap_graph.specs.Closed.{Family, same_group, crossing}
use Rattle.heap_graph.specs.declared.frozen.FunctionNames.{FunctionNames}
use Rattle.heap_graph.specs.declared.frozen.FrozenGraph.{FrozenGraph}
use Rattle.heap_graph.specs.declared.frozen.Node.{Node}
use Rattle.heap_graph.specs.Frozen.{node_there}
use Rattle.heap_graph.specs.declared.program.FunctionGraph.{FunctionGraph}
use Rattle.heap_graph.specs.Marks.{IsAmong, IsNamedBy, IsMentionedBy}

-- one of a list has it
abbrev pub AnyOf : {X : Type 0} → (X → ℕ → Type 0) → List X → ℕ → Type 0
AnyOf Has [] number = ⊥
AnyOf Has (x ∷ xs) number = Has x number ⊎ AnyOf Has xs number

module _ (family : Family) (owner : Owner) where
  -- the image of a node of a function in another group, at a call from this site
  pub record IsImageAt (site called number : ℕ) : Type 0 where
    pub outer : same_group family owner called ≡ false
    pub image : IsAmong (family.graphs.embedding (crossing family owner site called)) number

  -- at a call, of each function to which it may come
  pub record IsImageFrom (op : Op) (number : ℕ) : Type 0 where
    pub site : ℕ
    pub callee : O.Callee
    pub arguments : List Register
    pub called : ℕ
    pub is : op ≡ O.Call site callee arguments
    pub target : is_target family.tac callee called ≡ true
    pub at : IsImageAt site called number

  abbrev pub IsNeededBy : FunctionNames → List Op → ℕ → Type 0
  IsNeededBy names ops number = IsNamedBy names number ⊎ AnyOf IsImageFrom ops number

-- a function of the program with this number needs it
abbrev pub IsNeededIn : Family → List FunctionGraph → ℕ → ℕ → Type 0
IsNeededIn family functions own number = by (slice_get functions own) (slice_get family.tac.functions own)
  where
    by : Option FunctionGraph → Option O.Function → Type 0
    by (Some graph) (Some function) = IsNeededBy family (InFunction own) graph.names function.points number
    by _ _ = ⊥

-- each node of a graph is needed so, or mentioned
abbrev pub AreNeeded : FrozenGraph → (ℕ → Type 0) → Type 0
AreNeeded graph Needed = (number : ℕ) (node : Node) → node_there graph.nodes.items number ≡ Some node → IsMentionedBy graph number ⊎ Needed number
