-- What was done by an instruction, by the group that it is in.
use Rattle.std.proofs.Common.{◌≡◌, ℕ, List, [], ◌∷◌, ◌++◌, Option, Some, refl, sym, ap, ◌∙◌, subst}
use Rattle.run_theory.specs.Runs.{Move}
use Rattle.pool_isa.specs.declared.instr.Instr.{Instr}
use Rattle.pool_isa.specs.declared.instr.Instr.TheVariants as instrs
use Rattle.pool_isa.specs.Machine.{Function, Code, Activation, Heap, History, State, perform}
use Rattle.machine.specs.declared.ends.RunEnd.TheVariants as ends
use Rattle.machine.specs.declared.ends.Step.{Step}
use Rattle.machine.specs.declared.ends.Step.TheVariants.{On, Over}
use Rattle.machine.specs.Steps.{state_of, activations_of, LeftAt, CallStack, StepMakes, PerformsAlone, IsOfPools, MakesInside, Performs, StepGives, ExecutesInstr}

module _ (code : Code) (function : Function) (old : CallStack) (heap : Heap) (result : Step) (new : CallStack) (heap' : Heap) where
  -- an instruction by another name
  pub does_as : (instr instr' : Instr) (left written left' written' : Option (List ℕ)) → instr' ≡ instr → ExecutesInstr code function instr old heap left written result new heap' left' written' → ExecutesInstr code function instr' old heap left written result new heap' left' written'
  does_as instr instr' left written left' written' e = subst (λ i. ExecutesInstr code function i old heap left written result new heap' left' written') (sym e)

-- a step that touched the activations alone touched neither input nor output
inside_from_makes : (move : Move State) (old : State) (result : Step) (new : List Activation) → StepMakes move old result new → MakesInside move old result new old.heap
inside_from_makes move old On new e = record { next = record old { activations = new }; goes = e; frames = refl; heap_is = refl; input = refl; output = refl }
inside_from_makes move old (Over (ends.Ended status)) new e = record { halts = e; heap_is = refl }
inside_from_makes move old (Over ends.Depth) new e = record { halts = e; heap_is = refl }
inside_from_makes move old (Over ends.HeapExhausted) new e = record { halts = e; heap_is = refl }
inside_from_makes move old (Over ends.IndexExhausted) new e = record { halts = e; heap_is = refl }
inside_from_makes move old (Over (ends.Trapped kind)) new e = record { halts = e; heap_is = refl }
inside_from_makes move old (Over ends.OutOfMemory) new e = record { frames = e; heap_is = refl }
inside_from_makes move old (Over ends.StepsSpent) new e = absurd e
inside_from_makes move old (Over ends.ReadFault) new e = absurd e
inside_from_makes move old (Over ends.WriteFault) new e = absurd e

pub performs_from_alone : (code : Code) (function : Function) (instr : Instr) (old new : Activation) (callers : List Activation) (heap : Heap) (result : Step) → PerformsAlone function instr old result new
    → Performs code function instr (record { innermost = old; callers = callers }) heap result (record { innermost = new; callers = callers }) heap
performs_from_alone code function instr old new callers heap result alone history input trace =
    inside_from_makes _ (state_of (old ∷ callers) heap history input trace) result (new ∷ callers) (alone code callers heap history input trace)

-- a step that touched neither input nor output leaves what was left and written
gives_from_inside : (move : Move State) (base : List ℕ) (old : State) (result : Step) (new : List Activation) (heap : Heap) (left written : Option (List ℕ)) → LeftAt base old left written → MakesInside move old result new heap → StepGives move base old result new heap left written
gives_from_inside move base old On new heap left written there h = record {
  next = h.next;
  goes = h.goes;
  frames = h.frames;
  heap_is = h.heap_is;
  left_at = (there.0 ∙ ap Some (sym h.input), there.1 ∙ ap (λ o. Some (base ++ o)) (sym h.output));
}
gives_from_inside move base old (Over (ends.Ended status)) new heap left written there h = record { halts = h.halts; heap_is = h.heap_is; left_at = there }
gives_from_inside move base old (Over ends.Depth) new heap left written there h = record { halts = h.halts; heap_is = h.heap_is; left_at = there }
gives_from_inside move base old (Over ends.HeapExhausted) new heap left written there h = record { halts = h.halts; heap_is = h.heap_is; left_at = there }
gives_from_inside move base old (Over ends.IndexExhausted) new heap left written there h = record { halts = h.halts; heap_is = h.heap_is; left_at = there }
gives_from_inside move base old (Over (ends.Trapped kind)) new heap left written there h = record { halts = h.halts; heap_is = h.heap_is; left_at = there }
gives_from_inside move base old (Over ends.OutOfMemory) new heap left written there h = record { frames = h.frames; heap_is = h.heap_is; left_at = there }
gives_from_inside move base old (Over ends.StepsSpent) new heap left written there h = absurd h
gives_from_inside move base old (Over ends.ReadFault) new heap left written there h = absurd h
gives_from_inside move base old (Over ends.WriteFault) new heap left written there h = absurd h

no_history : History
no_history = record { placed = []; pool_events = [] }

module _ (code : Code) (function : Function) (instr : Instr) (old : CallStack) (heap : Heap) (result : Step) (new : CallStack) (heap' : Heap) (performs : Performs code function instr old heap result new heap') where
  pub does_from_performs : (left written : Option (List ℕ)) → ExecutesInstr code function instr old heap left written result new heap' left written
  does_from_performs left written history input base trace told wrote =
      gives_from_inside _ base (state_of (activations_of old) heap history input trace) result (activations_of new) heap' left written (told, wrote) (performs history input trace)

  pub no_read_fault : result ≡ Over ends.ReadFault → ⊥
  no_read_fault e =
      let state : State = state_of (activations_of old) heap no_history [] [] in
      subst (λ r. MakesInside (perform (Some instr) code function old.innermost old.callers state) state r (activations_of new) heap') e (performs no_history [] [])

  pub no_write_fault : result ≡ Over ends.WriteFault → ⊥
  no_write_fault e =
      let state : State = state_of (activations_of old) heap no_history [] [] in
      subst (λ r. MakesInside (perform (Some instr) code function old.innermost old.callers state) state r (activations_of new) heap') e (performs no_history [] [])

-- the one instruction on pools beside three
pub only_frees : (instr : Instr) → IsOfPools instr → ((kind : ℕ) → instr ≡ instrs.PoolInit kind → ⊥) → (instr ≡ instrs.PoolDestroy → ⊥) → (instr ≡ instrs.PoolAlloc → ⊥) → instr ≡ instrs.PoolFree
only_frees (instrs.PoolInit kind) pools init destroy alloc = absurd (init kind refl)
only_frees instrs.PoolDestroy pools init destroy alloc = absurd (destroy refl)
only_frees instrs.PoolAlloc pools init destroy alloc = absurd (alloc refl)
only_frees instrs.PoolFree pools init destroy alloc = refl
only_frees _ pools init destroy alloc = absurd pools
