-- A group whose graph was made, in the graphs of a program.
use Rattle.std.specs.Prelude.{◌≡◌, ℕ, Bool, true, false, slice_get, List, Some}
use Rattle.c_typed.specs.Types.{CType}
use Rattle.tac_ir.specs.declared.register.Register.{Register}
use Rattle.tac_ir.specs.Code as O
use Rattle.tac_ir.specs.Code.{Callee, Through, Function}
use Rattle.tac_ir.specs.States.{Owner, InFunction, function_of}
use Rattle.tac_ir.specs.Targets.{is_target}
use Rattle.heap_graph.specs.Graphs.{Graph}
use Rattle.heap_graph.specs.Closed.{Family, graph_of, group_of, same_group, outer_call, IsEmbedding, AreOne}
use Rattle.heap_graph.specs.Restricted.{Restricts}
use Rattle.graph_unification.specs.Standing.{CodeStands}
use Rattle.dsa_local.specs.Mentioned.{is_among}
use Rattle.dsa_local.specs.Told.{NamesTold, NoCopies}
use Rattle.dsa_local.specs.Joined.{CallsJoined, ClassesJoined, IsCalled}
use Rattle.dsa_local.specs.Rounds.{Settled}
use Rattle.dsa_local.specs.Sizes.{SizesTold}

-- ---- groups

-- The owners are the functions of a group, or `start` alone, and tell which functions are inside. Functions to which one call may come through
-- a pointer are of one group.
pub record IsGroup (family : Family) (owners : List Owner) (inside : ℕ → Bool) : Type 0 where
  pub code : CodeStands family.tac
  pub own : (caller : ℕ) → is_among (InFunction caller) owners ≡ inside caller
  pub same : (owner : Owner) (called : ℕ) → is_among owner owners ≡ true → same_group family owner called ≡ true → inside called ≡ true
  pub members : (a b : ℕ) → inside a ≡ true → inside b ≡ true → group_of family a ≡ group_of family b
  pub together : (pointer : Register) (c_type : CType) (a b : ℕ) → IsCalled family.tac (Through pointer c_type) → is_target family.tac (Through pointer c_type) a ≡ true
      → is_target family.tac (Through pointer c_type) b ≡ true → inside a ≡ true → inside b ≡ true

-- ---- graphs

-- functions to which one call may come through a pointer share formals and results, where one is among these
abbrev pub AreClassesOne : Family → (ℕ → Bool) → Type 0
AreClassesOne family among =
    (pointer : Register) (c_type : CType) (a b : ℕ) → IsCalled family.tac (Through pointer c_type) → is_target family.tac (Through pointer c_type) a ≡ true
    → is_target family.tac (Through pointer c_type) b ≡ true → among a ≡ true → AreOne family a b

-- a call out of the group is closed, and has an embedding
pub record IsOuterClosed (family : Family) (owner : Owner) (site : ℕ) (arguments : List Register) (called : ℕ) : Type 0 where
  pub condition : outer_call family owner site arguments called ≡ true
  pub embedding : IsEmbedding family owner site called

abbrev pub AreOuterClosed : Family → Owner → Type 0
AreOuterClosed family owner =
    (function : Function) (at site : ℕ) (callee : Callee) (arguments : List Register) (called : ℕ) → function_of family.tac owner ≡ Some function
    → slice_get function.points at ≡ Some (O.Call site callee arguments) → is_target family.tac callee called ≡ true → same_group family owner called ≡ false
    → IsOuterClosed family owner site arguments called

-- the functions that calls of an owner may reach through pointers
abbrev pub AreCalleesOne : Family → Owner → Type 0
AreCalleesOne family owner =
    (function : Function) (at site : ℕ) (pointer : Register) (c_type : CType) (arguments : List Register) (a b : ℕ) → function_of family.tac owner ≡ Some function
    → slice_get function.points at ≡ Some (O.Call site (Through pointer c_type) arguments) → is_target family.tac (Through pointer c_type) a ≡ true
    → is_target family.tac (Through pointer c_type) b ≡ true → AreOne family a b

-- What is asked while a graph is made is told of it, and the family has the graph of its certain nodes.
pub record IsMade (family : Family) (owners : List Owner) (inside : ℕ → Bool) (made kept : Graph) : Type 0 where
  pub told : NamesTold family.tac owners made
  pub classes : ClassesJoined family.tac inside made
  pub calls : (caller : ℕ) → inside caller ≡ true → CallsJoined family.tac inside caller made
  pub settled : Settled family.tac owners made
  pub sizes : SizesTold family.tac owners made
  pub shown : (owner : Owner) → is_among owner owners ≡ true → graph_of family owner ≡ kept
  pub restricts : Restricts made kept
  pub copies : NoCopies kept
