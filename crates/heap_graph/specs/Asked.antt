-- What the calls of a function ask of the graphs of a program.
use Rattle.std.specs.Prelude.{◌≡◌, ◌==◌, ℕ, Bool, true, false, List, Option, Some}
use Rattle.std.specs.List.{AllByRecursion}
use Rattle.tac_ir.specs.declared.register.Register.{Register}
use Rattle.tac_ir.specs.Code as O
use Rattle.tac_ir.specs.Code.{Callee, Known, Through, Op}
use Rattle.tac_ir.specs.States.{Owner}
use Rattle.tac_ir.specs.Targets.{is_target}
use Rattle.heap_graph.specs.Closed.{Family, AreOne, same_group, call_of, IsEmbedding}

-- functions to which a call may come through a pointer share formals and result
abbrev pub ClassAsked : Family → Callee → Type 0
ClassAsked family (Known function) = Unit {0}
ClassAsked family (Through pointer c_type) = (a b : ℕ) → is_target family.tac (Through pointer c_type) a ≡ true → is_target family.tac (Through pointer c_type) b ≡ true → AreOne family a b

module _ (family : Family) (owner : Owner) where
  -- of a function to which it may come: what it asks of arguments and result, and an embedding where that is in another group
  pub record TargetAsked (site : ℕ) (arguments : List Register) (called : ℕ) : Type 0 where
    pub condition : call_of family owner site arguments called ≡ true
    pub embedding : same_group family owner called ≡ false → IsEmbedding family owner site called

  pub record CallAsked (site : ℕ) (callee : Callee) (arguments : List Register) : Type 0 where
    pub targets : (called : ℕ) → is_target family.tac callee called ≡ true → TargetAsked site arguments called
    pub class : ClassAsked family callee

  abbrev pub OpAsked : Op → Type 0
  OpAsked (O.Call site callee arguments) = CallAsked site callee arguments
  OpAsked op = Unit {0}

  abbrev pub AllAsked : List Op → Type 0
  AllAsked ops = AllByRecursion OpAsked ops

  abbrev pub AllTargetsAsked : ℕ → List Register → List ℕ → Type 0
  AllTargetsAsked site arguments called = AllByRecursion (TargetAsked site arguments) called

-- each shares formals and result with one
abbrev pub AllOne : Family → ℕ → List ℕ → Type 0
AllOne family first called = AllByRecursion (AreOne family first) called

-- two functions are of one group; `start` is of none
abbrev pub are_same : Option ℕ → Option ℕ → Bool
are_same (Some a) (Some b) = a == b
are_same _ _ = false
