-- No step of the machine takes an event back.
use Rattle.std.proofs.Common.{ℕ, List, [], ◌∷◌, Bool, true, false, cond, Option, Some, None}
use Rattle.run_theory.specs.Runs.{Event, IsPrefix, Final, Move, To, Halt, KeepsTrace}
use Rattle.run_theory.proofs.Traces.{prefix_refl, prefix_append}
use Rattle.slab_space.specs.declared.kind.PoolKind.{PoolKind}
use Rattle.slab_space.specs.PoolSteps.{Allocation, placed, index_exhausted, heap_exhausted}
use Rattle.slab_space.specs.Pools.{Pools}
use Rattle.pool_isa.specs.declared.instr.Instr.{Instr}
use Rattle.pool_isa.specs.declared.instr.Instr.TheVariants.{Constant, Discard, Duplicate, Swap, Local, Load, Store, LoadLink, StoreLink, Jump, JumpIfZero, JumpIfNotZero, Call, CallIndirect, Return, ReturnValue, Exit, Binary, Negate, Complement, Compare, Convert, PoolInit, PoolDestroy, PoolAlloc, PoolFree, GetChar, PutChar}
use Rattle.pool_isa.specs.Machine.{Function, Code, Heap, Activation, State, happened, act, act_on, act_in, perform, with_one, with_two, with_three, loaded, load_with, stored, store_with, called, given, returned, returned_value, in_pool, makes, allocated, allocates, freed, frees}

abbrev trace_in : State → List Event
trace_in state = state.trace

-- as a type of its own, so that the moves are found
data Keeps (state : State) : Move State → Type 0 where
  kept : (move : Move State) → KeepsTrace trace_in state move → Keeps state move

taken : (state : State) (move : Move State) → Keeps state move → KeepsTrace trace_in state move
taken state move (kept m k) = k

more : (events : List Event) (state : State) → IsPrefix state.trace (happened events state).trace
more [] state = prefix_refl state.trace
more (event ∷ events) state = prefix_append state.trace (event ∷ events)

module _ (state : State) where
  -- nothing happens
  goes : (next : State) → IsPrefix state.trace next.trace → Keeps state (To next)
  goes next front = kept (To next) front

  same : IsPrefix state.trace state.trace
  same = prefix_refl state.trace

  halts : (final : Final) → Keeps state (Halt final state)
  halts final = kept _ (prefix_refl state.trace)

  either : (b : Bool) (x y : Move State) → Keeps state x → Keeps state y → Keeps state (cond b x y)
  either true x y p q = p
  either false x y p q = q

  one_keeps : (operands : List ℕ) (go : ℕ → List ℕ → Move State) → ((word : ℕ) (rest : List ℕ) → Keeps state (go word rest)) → Keeps state (with_one operands state go)
  one_keeps [] go p = halts _
  one_keeps (word ∷ rest) go p = p word rest

  two_keeps : (operands : List ℕ) (go : ℕ → ℕ → List ℕ → Move State) → ((first last : ℕ) (rest : List ℕ) → Keeps state (go first last rest)) → Keeps state (with_two operands state go)
  two_keeps [] go p = halts _
  two_keeps (last ∷ []) go p = halts _
  two_keeps (last ∷ first ∷ rest) go p = p first last rest

  three_keeps : (operands : List ℕ) (go : ℕ → ℕ → ℕ → List ℕ → Move State) → ((first second last : ℕ) (rest : List ℕ) → Keeps state (go first second last rest)) → Keeps state (with_three operands state go)
  three_keeps [] go p = halts _
  three_keeps (last ∷ []) go p = halts _
  three_keeps (last ∷ second ∷ []) go p = halts _
  three_keeps (last ∷ second ∷ first ∷ rest) go p = p first second last rest

  loaded_keeps : (word_for : ℕ → ℕ) (number : Option ℕ) (events : List Event) (operands : List ℕ) (top : Activation) (callers : List Activation) → Keeps state (loaded word_for number events operands top callers state)
  loaded_keeps word_for None events operands top callers = halts _
  loaded_keeps word_for (Some number) events operands top callers = goes _ (more events state)

  load_keeps : (word_for : ℕ → ℕ) (bytes : Option (List ℕ)) (address size : ℕ) (operands : List ℕ) (top : Activation) (callers : List Activation) → Keeps state (load_with word_for bytes address size operands top callers state)
  load_keeps word_for None address size operands top callers = loaded_keeps word_for _ _ operands top callers
  load_keeps word_for (Some bytes) address size operands top callers = goes _ same

  stored_keeps : (heap : Option Heap) (events : List Event) (activations : List Activation) → Keeps state (stored heap events activations state)
  stored_keeps None events activations = halts _
  stored_keeps (Some heap) events activations = goes _ (more events (record state { activations = activations; heap = heap }))

  store_keeps : (after : Option (List Activation)) (address size word : ℕ) (before : List Activation) → Keeps state (store_with after address size word before state)
  store_keeps None address size word before = stored_keeps _ _ before
  store_keeps (Some activations) address size word before = goes _ same

  called_keeps : (callee : ℕ) (function : Option Function) (operands : List ℕ) (top : Activation) (callers : List Activation) → Keeps state (called callee function operands top callers state)
  called_keeps callee None operands top callers = halts _
  called_keeps callee (Some function) operands top callers = either _ _ _ (halts _) (either _ _ _ (goes _ (prefix_append state.trace _)) (halts _))

  given_keeps : (word : ℕ) (caller : Activation) (outer : List Activation) (function : Option Function) → Keeps state (given word caller outer function state)
  given_keeps word caller outer None = halts _
  given_keeps word caller outer (Some function) = either _ _ _ (goes _ (prefix_append state.trace _)) (halts _)

  returned_keeps : (callers : List Activation) → Keeps state (returned callers state)
  returned_keeps [] = halts _
  returned_keeps (caller ∷ outer) = goes _ (prefix_append state.trace _)

  value_keeps : (functions : List Function) (word : ℕ) (callers : List Activation) → Keeps state (returned_value functions word callers state)
  value_keeps functions word [] = halts _
  value_keeps functions word (caller ∷ outer) = given_keeps word caller outer _

  makes_keeps : (kind : Option PoolKind) (number : ℕ) (function : Function) (top : Activation) (callers : List Activation) → Keeps state (makes kind number function top callers state)
  makes_keeps None number function top callers = halts _
  makes_keeps (Some kind) number function top callers = either _ _ _ (goes _ same) (halts _)

  -- a state that has no less trace
  placed_more : (nothing : Bool) (next : State) → IsPrefix state.trace next.trace → IsPrefix state.trace (cond nothing state next).trace
  placed_more true next front = same
  placed_more false next front = front

  allocated_keeps : (allocation : Allocation Pools) (pool bytes : ℕ) (operands : List ℕ) (top : Activation) (callers : List Activation) → Keeps state (allocated allocation pool bytes operands top callers state)
  allocated_keeps (placed address pools) pool bytes operands top callers = goes _ (placed_more _ _ (prefix_append state.trace _))
  allocated_keeps index_exhausted pool bytes operands top callers = halts _
  allocated_keeps heap_exhausted pool bytes operands top callers = halts _

  freed_keeps : (pools : Option Pools) (address : ℕ) (operands : List ℕ) (top : Activation) (callers : List Activation) → Keeps state (freed pools address operands top callers state)
  freed_keeps None address operands top callers = halts _
  freed_keeps (Some pools) address operands top callers = goes _ (prefix_append state.trace _)

  in_keeps_pool : (pool : ℕ) (go : Move State) → Keeps state go → Keeps state (in_pool pool state go)
  in_keeps_pool pool go keeps = either _ _ _ keeps (halts _)

  allocates_keeps : (pool bytes : ℕ) (operands : List ℕ) (top : Activation) (callers : List Activation) → Keeps state (allocates pool bytes operands top callers state)
  allocates_keeps pool bytes operands top callers = either _ _ _ (allocated_keeps _ pool bytes operands top callers) (halts _)

  frees_keeps : (pool address : ℕ) (operands : List ℕ) (top : Activation) (callers : List Activation) → Keeps state (frees pool address operands top callers state)
  frees_keeps pool address operands top callers = either _ _ _ (goes _ same) (freed_keeps _ address operands top callers)

  perform_keeps : (instr : Option Instr) (code : Code) (function : Function) (top : Activation) (callers : List Activation) → Keeps state (perform instr code function top callers state)
  perform_keeps (Some (Constant word)) code function top callers = either _ _ _ (goes _ same) (halts _)
  perform_keeps (Some Discard) code function top callers = one_keeps top.operands _ (λ word rest. goes _ same)
  perform_keeps (Some Duplicate) code function top callers = one_keeps top.operands _ (λ word rest. either _ _ _ (goes _ same) (halts _))
  perform_keeps (Some Swap) code function top callers = two_keeps top.operands _ (λ first last rest. goes _ same)
  perform_keeps (Some (Local offset)) code function top callers = either _ _ _ (goes _ same) (halts _)
  perform_keeps (Some (Load type)) code function top callers = one_keeps top.operands _ (λ address rest. load_keeps _ _ address _ rest top callers)
  perform_keeps (Some (Store width)) code function top callers = two_keeps top.operands _ (λ address word rest. store_keeps _ address _ word _)
  perform_keeps (Some LoadLink) code function top callers = two_keeps top.operands _ (λ address pool rest. load_keeps _ _ address _ rest top callers)
  perform_keeps (Some StoreLink) code function top callers = three_keeps top.operands _ (λ address value pool rest. store_keeps _ address _ _ _)
  perform_keeps (Some (Jump target)) code function top callers = goes _ same
  perform_keeps (Some (JumpIfZero target)) code function top callers = one_keeps top.operands _ (λ word rest. goes _ same)
  perform_keeps (Some (JumpIfNotZero target)) code function top callers = one_keeps top.operands _ (λ word rest. goes _ same)
  perform_keeps (Some (Call callee)) code function top callers = called_keeps callee _ top.operands top callers
  perform_keeps (Some (CallIndirect signature)) code function top callers = one_keeps top.operands _ (λ word rest. called_keeps _ _ rest top callers)
  perform_keeps (Some Return) code function top callers = returned_keeps callers
  perform_keeps (Some ReturnValue) code function top callers = one_keeps top.operands _ (λ word rest. value_keeps code.functions word callers)
  perform_keeps (Some Exit) code function top callers = one_keeps top.operands _ (λ word rest. halts _)
  perform_keeps (Some (Binary op type)) code function top callers = two_keeps top.operands _ (λ left right rest. goes _ same)
  perform_keeps (Some (Negate type)) code function top callers = one_keeps top.operands _ (λ word rest. goes _ same)
  perform_keeps (Some (Complement type)) code function top callers = one_keeps top.operands _ (λ word rest. goes _ same)
  perform_keeps (Some (Compare relation type)) code function top callers = two_keeps top.operands _ (λ left right rest. goes _ same)
  perform_keeps (Some (Convert type)) code function top callers = one_keeps top.operands _ (λ word rest. goes _ same)
  perform_keeps (Some GetChar) code function top callers = either _ _ _ (goes _ same) (halts _)
  perform_keeps (Some PutChar) code function top callers = one_keeps top.operands _ (λ word rest. kept _ (prefix_append state.trace _))
  perform_keeps (Some (PoolInit kind)) code function top callers = makes_keeps _ kind function top callers
  perform_keeps (Some PoolDestroy) code function top callers = one_keeps top.operands _ (λ pool rest. either _ _ _ (goes _ same) (halts _))
  perform_keeps (Some PoolAlloc) code function top callers = two_keeps top.operands _ (λ pool bytes rest. in_keeps_pool pool _ (allocates_keeps pool bytes rest top callers))
  perform_keeps (Some PoolFree) code function top callers = two_keeps top.operands _ (λ pool address rest. in_keeps_pool pool _ (frees_keeps pool address rest top callers))
  perform_keeps _ code function top callers = halts _

  in_keeps : (code : Code) (function : Option Function) (top : Activation) (callers : List Activation) → Keeps state (act_in code function top callers state)
  in_keeps code None top callers = halts _
  in_keeps code (Some function) top callers = perform_keeps _ code function top callers

  on_keeps : (code : Code) (activations : List Activation) → Keeps state (act_on code activations state)
  on_keeps code [] = halts _
  on_keeps code (top ∷ callers) = in_keeps code _ top callers

pub machine_keeps : (code : Code) (state : State) → KeepsTrace (λ (s : State). s.trace) state (act code state)
machine_keeps code state = taken state _ (on_keeps state code state.activations)
