-- The classes of functions that calls may reach through pointers, in memory.
use Rattle.std.specs.Prelude.{◌≡◌, ℕ, ◌<◌, ◌⊎◌, List, length, slice_get, Option, Some, None}
use Rattle.tac_ir.specs.declared.op.Callee as memory_callee
use Rattle.tac_ir.specs.declared.program.Tac as memory_tac
use Rattle.tac_ir.specs.Code.{Callee, Op}
use Rattle.tac_ir.specs.States.{InFunction}
use Rattle.tac_ir.specs.Views.{callee_in, tac_of}
use Rattle.call_graph.specs.TargetLists.{IsClassOf}
use Rattle.call_graph.specs.CallLists.{HasCall}
use Rattle.dsa_local.specs.Joined.{IsCalled}
use Rattle.dsa_local.specs.declared.called.CalledClasses.{CalledClasses}

abbrev pub call_at : List (Option memory_callee.Callee) → ℕ → Option memory_callee.Callee
call_at callees first = held (slice_get callees first)
  where
    held : Option (Option memory_callee.Callee) → Option memory_callee.Callee
    held None = None
    held (Some callee) = callee

-- no call for each of so many functions
pub record AreNone (count : ℕ) (callees : List (Option memory_callee.Callee)) : Type 0 where
  pub each : length callees ≡ count
  pub none : (first : ℕ) → call_at callees first ≡ None

-- a call of some points through a pointer, of which the function is the first target
pub record CallsFirst (tac : memory_tac.Tac) (points : List Op) (first : ℕ) (callee : memory_callee.Callee) : Type 0 where
  pub call : HasCall points (callee_in tac.types callee)
  pub class : IsClassOf (tac_of tac) (callee_in tac.types callee) (Some first)

-- the calls of points through pointers are added
pub record AddsCalled (tac : memory_tac.Tac) (points : List Op) (old new : List (Option memory_callee.Callee)) : Type 0 where
  pub each : length new ≡ length old
  pub kept : (first : ℕ) (callee : memory_callee.Callee) → call_at old first ≡ Some callee → (other : memory_callee.Callee) × (call_at new first ≡ Some other)
  pub to : (first : ℕ) (callee : Callee) → HasCall points callee → IsClassOf (tac_of tac) callee (Some first) → (other : memory_callee.Callee) × (call_at new first ≡ Some other)
  pub from : (first : ℕ) (callee : memory_callee.Callee) → call_at new first ≡ Some callee → (call_at old first ≡ Some callee) ⊎ CallsFirst tac points first callee

-- a call of the program of which the function is the first target
pub record IsClass (tac : memory_tac.Tac) (first : ℕ) (callee : memory_callee.Callee) : Type 0 where
  pub called : IsCalled (tac_of tac) (callee_in tac.types callee)
  pub class : IsClassOf (tac_of tac) (callee_in tac.types callee) (Some first)

-- those of the first functions
pub record AreFirstCalled (tac : memory_tac.Tac) (count : ℕ) (callees : List (Option memory_callee.Callee)) : Type 0 where
  pub each : length callees ≡ length tac.functions.items
  pub to : (first : ℕ) (callee : Callee) (called : IsCalled (tac_of tac) callee) (number : ℕ) → number < count → called.caller ≡ InFunction number → IsClassOf (tac_of tac) callee (Some first)
      → (other : memory_callee.Callee) × (call_at callees first ≡ Some other)
  pub from : (first : ℕ) (callee : memory_callee.Callee) → call_at callees first ≡ Some callee → IsClass tac first callee

-- a call for each function that is the first target of calls through pointers
pub record AreCalled (tac : memory_tac.Tac) (called : CalledClasses) : Type 0 where
  pub to : (first : ℕ) (callee : Callee) → IsCalled (tac_of tac) callee → IsClassOf (tac_of tac) callee (Some first) → (other : memory_callee.Callee) × (call_at called.callees.items first ≡ Some other)
  pub from : (first : ℕ) (callee : memory_callee.Callee) → call_at called.callees.items first ≡ Some callee → IsClass tac first callee
