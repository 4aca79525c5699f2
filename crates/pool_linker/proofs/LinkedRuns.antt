-- The machine does with linked code what it does with the code: no more differs than the numbers of kinds, of which no run tells.
use Rattle.std.proofs.Common.{◌≡◌, ℕ, zero, suc, ◌-◌, ◌^◌, ◌<◌, ◌≤◌, Bool, true, false, cond, List, [], ◌∷◌, map, length, get_or, replicate, Option, Some, None, refl, sym, ap, ◌∙◌, subst}
use Rattle.std.specs.Prelude.{slice_get, slice_index, option_map, nat_le, if◌then◌else◌, ◌==◌}
use Rattle.std.specs.List.{AllByRecursion}
use Rattle.std.proofs.lemmas.Option.{slice_get-get_or, slice_get-map}
use Rattle.run_theory.specs.Runs.{Event, Trace, Final, Move, To, Halt, after, steps}
use Rattle.slab_space.specs.declared.kind.PoolKind.{PoolKind}
use Rattle.slab_space.specs.declared.kind.PoolKind.TheVariants.{Mixed}
use Rattle.slab_space.specs.PoolSteps.{Allocation, placed, index_exhausted, heap_exhausted}
use Rattle.slab_space.specs.Pools.{Pools, new_pools}
use Rattle.pool_isa.specs.Tally.{new_tally}
use Rattle.pool_isa.specs.declared.instr.Instr.{Instr}
use Rattle.pool_isa.specs.declared.instr.Instr.TheVariants as instrs
use Rattle.pool_isa.specs.Machine.{Function, Code, Heap, Activation, State, PoolEvent, act, act_on, act_in, perform, resumed, with_one, with_two, with_three, loaded, load_with, stored, store_with, called, of_signature, named_by, given, returned, returned_value, in_pool, makes, allocated, allocates, freed, frees, function_word, mach, initial, extra_of, first_history}
use Rattle.pool_isa.specs.Ranges.{IsFunction}
use Rattle.image_form.specs.declared.image.MachineLimits.{MachineLimits}
use Rattle.image_form.specs.Form.{code_of}
use Rattle.pool_linker.specs.Linking.{once, numbers_of, linked_instr, linked_function, linked, without_zeros, NamesBelow}
use Rattle.pool_linker.proofs.Once.{once-keeps}
use Rattle.pool_linker.proofs.Zeros.{cut_filled}
use Rattle.pool_linker.proofs.Ranges.{code-below}

-- ---- states that differ in what is told of pools

abbrev retold : List PoolEvent → State → State
retold events state = record state { history = record state.history { pool_events = events } }

data Alike : Move State → Move State → Type 0 where
  goes : (next : State) (events : List PoolEvent) → Alike (To next) (To (retold events next))
  halts : (final : Final) (state : State) (events : List PoolEvent) → Alike (Halt final state) (Halt final (retold events state))

abbrev trace_in : State → Trace
trace_in state = state.trace

-- machines whose steps are alike run alike
steps_alike : (first second : State → Move State) → ((state : State) (events : List PoolEvent) → Alike (first state) (second (retold events state)))
    → (n : ℕ) (state : State) (events : List PoolEvent) → steps first trace_in n state ≡ steps second trace_in n (retold events state)
steps_alike first second alike zero state events = refl
steps_alike first second alike (suc n) state events = by (first state) (second (retold events state)) (alike state events) (steps_alike first second alike n)
  where
    by : (move move2 : Move State) → Alike move move2 → ((state : State) (events : List PoolEvent) → steps first trace_in n state ≡ steps second trace_in n (retold events state))
        → after trace_in (steps first trace_in n) move ≡ after trace_in (steps second trace_in n) move2
    by _ _ (goes next told) rest = rest next told
    by _ _ (halts final last told) rest = refl

-- ---- the linked program

module _ (code : Code) where
  abbrev numbers : List ℕ
  numbers = numbers_of code.kinds

  abbrev link : Function → Function
  link function = linked_function numbers function

  abbrev Names : Function → Type 0
  Names function = AllByRecursion (NamesBelow (length code.kinds)) function.code

  abbrev image : Code
  image = record { functions = map link code.functions; kinds = once code.kinds; globals = code.globals; contents = without_zeros code.contents }

  -- ---- from a state

  module _ (state : State) (events : List PoolEvent) where
    abbrev again : State
    again = retold events state

    either : (b : Bool) (x y x2 y2 : Move State) → Alike x x2 → Alike y y2 → Alike (cond b x y) (cond b x2 y2)
    either true x y x2 y2 p q = p
    either false x y x2 y2 p q = q

    halt : (final : Final) → Alike (Halt final state) (Halt final again)
    halt final = halts final state events

    one : (operands : List ℕ) (go go2 : ℕ → List ℕ → Move State) → ((word : ℕ) (rest : List ℕ) → Alike (go word rest) (go2 word rest)) → Alike (with_one operands state go) (with_one operands again go2)
    one [] go go2 p = halt _
    one (word ∷ rest) go go2 p = p word rest

    two : (operands : List ℕ) (go go2 : ℕ → ℕ → List ℕ → Move State) → ((first last : ℕ) (rest : List ℕ) → Alike (go first last rest) (go2 first last rest)) → Alike (with_two operands state go) (with_two operands again go2)
    two [] go go2 p = halt _
    two (last ∷ []) go go2 p = halt _
    two (last ∷ first ∷ rest) go go2 p = p first last rest

    three : (operands : List ℕ) (go go2 : ℕ → ℕ → ℕ → List ℕ → Move State) → ((first second last : ℕ) (rest : List ℕ) → Alike (go first second last rest) (go2 first second last rest))
        → Alike (with_three operands state go) (with_three operands again go2)
    three [] go go2 p = halt _
    three (last ∷ []) go go2 p = halt _
    three (last ∷ second ∷ []) go go2 p = halt _
    three (last ∷ second ∷ first ∷ rest) go go2 p = p first second last rest

    resumes : (activations : List Activation) → Alike (resumed activations state) (resumed activations again)
    resumes activations = goes (record state { activations = activations }) events

    loads : (word_for : ℕ → ℕ) (number : Option ℕ) (happenings : List Event) (operands : List ℕ) (top : Activation) (callers : List Activation)
        → Alike (loaded word_for number happenings operands top callers state) (loaded word_for number happenings operands top callers again)
    loads word_for None happenings operands top callers = halt _
    loads word_for (Some number) [] operands top callers = resumes _
    loads word_for (Some number) (event ∷ happenings) operands top callers = goes _ events

    loads_with : (word_for : ℕ → ℕ) (bytes : Option (List ℕ)) (address size : ℕ) (operands : List ℕ) (top : Activation) (callers : List Activation)
        → Alike (load_with word_for bytes address size operands top callers state) (load_with word_for bytes address size operands top callers again)
    loads_with word_for None address size operands top callers = loads word_for _ _ operands top callers
    loads_with word_for (Some bytes) address size operands top callers = resumes _

    stores : (heap : Option Heap) (happenings : List Event) (activations : List Activation) → Alike (stored heap happenings activations state) (stored heap happenings activations again)
    stores None happenings activations = halt _
    stores (Some heap) [] activations = goes _ events
    stores (Some heap) (event ∷ happenings) activations = goes _ events

    stores_with : (activations : Option (List Activation)) (address size word : ℕ) (before : List Activation) → Alike (store_with activations address size word before state) (store_with activations address size word before again)
    stores_with None address size word before = stores _ _ before
    stores_with (Some activations) address size word before = resumes activations

    -- ---- functions

    calls : (callee : ℕ) (function : Option Function) (operands : List ℕ) (top : Activation) (callers : List Activation)
        → Alike (called callee function operands top callers state) (called callee (option_map link function) operands top callers again)
    calls callee None operands top callers = halt _
    calls callee (Some function) operands top callers = either _ _ _ _ _ (halt _) (either _ _ _ _ _ (goes _ _) (halt _))

    calls_known : (callee : ℕ) (operands : List ℕ) (top : Activation) (callers : List Activation)
        → Alike (called callee (slice_get code.functions callee) operands top callers state) (called callee (slice_get (map link code.functions) callee) operands top callers again)
    calls_known callee operands top callers =
        subst (λ f. Alike (called callee (slice_get code.functions callee) operands top callers state) (called callee f operands top callers again)) (sym (slice_get-map link code.functions callee))
        (calls callee (slice_get code.functions callee) operands top callers)

    signed : (signature : ℕ) (function : Option Function) → of_signature signature (option_map link function) ≡ option_map link (of_signature signature function)
    signed signature None = refl
    signed signature (Some function) = by (function.signature == signature)
      where
        by : (same : Bool) → (if same then Some (link function) else None) ≡ option_map link (if same then Some function else None)
        by true = refl
        by false = refl

    named : (signature word : ℕ) → named_by (map link code.functions) signature word ≡ option_map link (named_by code.functions signature word)
    named signature word = by (nat_le function_word word)
      where
        found : of_signature signature (slice_get (map link code.functions) (word - function_word)) ≡ option_map link (of_signature signature (slice_get code.functions (word - function_word)))
        found = ap (of_signature signature) (slice_get-map link code.functions (word - function_word)) ∙ signed signature (slice_get code.functions (word - function_word))

        by : (is : Bool) → (if is then of_signature signature (slice_get (map link code.functions) (word - function_word)) else None)
            ≡ option_map link (if is then of_signature signature (slice_get code.functions (word - function_word)) else None)
        by true = found
        by false = refl

    calls_named : (signature word : ℕ) (operands : List ℕ) (top : Activation) (callers : List Activation)
        → Alike (called (word - function_word) (named_by code.functions signature word) operands top callers state) (called (word - function_word) (named_by (map link code.functions) signature word) operands top callers again)
    calls_named signature word operands top callers =
        subst (λ f. Alike (called (word - function_word) (named_by code.functions signature word) operands top callers state) (called (word - function_word) f operands top callers again)) (sym (named signature word))
        (calls (word - function_word) (named_by code.functions signature word) operands top callers)

    gives : (word : ℕ) (caller : Activation) (outer : List Activation) (function : Option Function) → Alike (given word caller outer function state) (given word caller outer (option_map link function) again)
    gives word caller outer None = halt _
    gives word caller outer (Some function) = either _ _ _ _ _ (goes _ _) (halt _)

    returns : (callers : List Activation) → Alike (returned callers state) (returned callers again)
    returns [] = halt _
    returns (caller ∷ outer) = goes _ _

    returns_value : (word : ℕ) (callers : List Activation) → Alike (returned_value code.functions word callers state) (returned_value (map link code.functions) word callers again)
    returns_value word [] = halt _
    returns_value word (caller ∷ outer) =
        subst (λ f. Alike (given word caller outer (slice_get code.functions caller.function) state) (given word caller outer f again)) (sym (slice_get-map link code.functions caller.function))
        (gives word caller outer (slice_get code.functions caller.function))

    -- ---- pools

    makes_some : (kind : PoolKind) (number number2 : ℕ) (function : Function) (top : Activation) (callers : List Activation)
        → Alike (makes (Some kind) number function top callers state) (makes (Some kind) number2 (link function) top callers again)
    makes_some kind number number2 function top callers = either _ _ _ _ _ (goes _ _) (halt _)

    makes_kind : (number : ℕ) (function : Function) (top : Activation) (callers : List Activation) → number < length code.kinds
        → Alike (makes (slice_get code.kinds number) number function top callers state) (makes (slice_get (once code.kinds) (slice_index numbers number)) (slice_index numbers number) (link function) top callers again)
    makes_kind number function top callers there =
        let kind = get_or code.kinds number Mixed in
        let is = slice_get-get_or code.kinds number Mixed there in
        let second = slice_index numbers number in
        subst (λ k. Alike (makes k number function top callers state) (makes (slice_get (once code.kinds) second) second (link function) top callers again)) (sym is)
        (subst (λ k. Alike (makes (Some kind) number function top callers state) (makes k second (link function) top callers again)) (sym (once-keeps code.kinds number kind is))
        (makes_some kind number second function top callers))

    chosen : (nothing : Bool) (activations : List Activation) (next : State) (told : List PoolEvent) → Alike (resumed activations (cond nothing state next)) (resumed activations (cond nothing again (retold told next)))
    chosen true activations next told = resumes activations
    chosen false activations next told = goes _ told

    allocated_alike : (allocation : Allocation Pools) (pool bytes : ℕ) (operands : List ℕ) (top : Activation) (callers : List Activation)
        → Alike (allocated allocation pool bytes operands top callers state) (allocated allocation pool bytes operands top callers again)
    allocated_alike (placed address pools) pool bytes operands top callers = chosen (bytes == 0) _ _ _
    allocated_alike index_exhausted pool bytes operands top callers = halt _
    allocated_alike heap_exhausted pool bytes operands top callers = halt _

    allocates_alike : (pool bytes : ℕ) (operands : List ℕ) (top : Activation) (callers : List Activation) → Alike (allocates pool bytes operands top callers state) (allocates pool bytes operands top callers again)
    allocates_alike pool bytes operands top callers = either _ _ _ _ _ (allocated_alike _ pool bytes operands top callers) (halt _)

    freed_alike : (pools : Option Pools) (address : ℕ) (operands : List ℕ) (top : Activation) (callers : List Activation) → Alike (freed pools address operands top callers state) (freed pools address operands top callers again)
    freed_alike None address operands top callers = halt _
    freed_alike (Some pools) address operands top callers = goes _ _

    frees_alike : (pool address : ℕ) (operands : List ℕ) (top : Activation) (callers : List Activation) → Alike (frees pool address operands top callers state) (frees pool address operands top callers again)
    frees_alike pool address operands top callers = either _ _ _ _ _ (resumes _) (freed_alike _ address operands top callers)

    in_pool_alike : (pool : ℕ) (go go2 : Move State) → Alike go go2 → Alike (in_pool pool state go) (in_pool pool again go2)
    in_pool_alike pool go go2 p = either _ _ _ _ _ p (halt _)

    -- ---- one step

    abbrev NamesIt : Option Instr → Type 0
    NamesIt None = Unit {0}
    NamesIt (Some instr) = NamesBelow (length code.kinds) instr

    performs : (instr : Option Instr) (function : Function) (top : Activation) (callers : List Activation) → NamesIt instr
        → Alike (perform instr code function top callers state) (perform (option_map (linked_instr numbers) instr) image (link function) top callers again)
    performs None function top callers there = halt _
    performs (Some (instrs.Constant word)) function top callers there = either _ _ _ _ _ (resumes _) (halt _)
    performs (Some instrs.Discard) function top callers there = one top.operands _ _ (λ word rest. resumes _)
    performs (Some instrs.Duplicate) function top callers there = one top.operands _ _ (λ word rest. either _ _ _ _ _ (resumes _) (halt _))
    performs (Some instrs.Swap) function top callers there = two top.operands _ _ (λ first last rest. resumes _)
    performs (Some (instrs.Local offset)) function top callers there = either _ _ _ _ _ (resumes _) (halt _)
    performs (Some (instrs.Load int_type)) function top callers there = one top.operands _ _ (λ address rest. loads_with _ _ address _ rest top callers)
    performs (Some (instrs.Store width)) function top callers there = two top.operands _ _ (λ address word rest. stores_with _ address _ word _)
    performs (Some instrs.LoadLink) function top callers there = two top.operands _ _ (λ address pool rest. loads_with _ _ address _ rest top callers)
    performs (Some instrs.StoreLink) function top callers there = three top.operands _ _ (λ address value pool rest. stores_with _ address _ _ _)
    performs (Some (instrs.Jump target)) function top callers there = resumes _
    performs (Some (instrs.JumpIfZero target)) function top callers there = one top.operands _ _ (λ word rest. resumes _)
    performs (Some (instrs.JumpIfNotZero target)) function top callers there = one top.operands _ _ (λ word rest. resumes _)
    performs (Some (instrs.Call callee)) function top callers there = calls_known callee top.operands top callers
    performs (Some (instrs.CallIndirect signature)) function top callers there = one top.operands _ _ (λ word rest. calls_named signature word rest top callers)
    performs (Some instrs.Return) function top callers there = returns callers
    performs (Some instrs.ReturnValue) function top callers there = one top.operands _ _ (λ word rest. returns_value word callers)
    performs (Some instrs.Exit) function top callers there = one top.operands _ _ (λ word rest. halt _)
    performs (Some instrs.Trap) function top callers there = halt _
    performs (Some (instrs.Binary op int_type)) function top callers there = two top.operands _ _ (λ left right rest. resumes _)
    performs (Some (instrs.Negate int_type)) function top callers there = one top.operands _ _ (λ word rest. resumes _)
    performs (Some (instrs.Complement int_type)) function top callers there = one top.operands _ _ (λ word rest. resumes _)
    performs (Some (instrs.Compare relation int_type)) function top callers there = two top.operands _ _ (λ left right rest. resumes _)
    performs (Some (instrs.Convert int_type)) function top callers there = one top.operands _ _ (λ word rest. resumes _)
    performs (Some instrs.GetChar) function top callers there = either _ _ _ _ _ (goes _ events) (halt _)
    performs (Some instrs.PutChar) function top callers there = one top.operands _ _ (λ word rest. goes _ events)
    performs (Some (instrs.PoolInit kind)) function top callers there = makes_kind kind function top callers there
    performs (Some instrs.PoolDestroy) function top callers there = one top.operands _ _ (λ pool rest. in_pool_alike pool _ _ (goes _ _))
    performs (Some instrs.PoolAlloc) function top callers there = two top.operands _ _ (λ pool bytes rest. in_pool_alike pool _ _ (allocates_alike pool bytes rest top callers))
    performs (Some instrs.PoolFree) function top callers there = two top.operands _ _ (λ pool address rest. in_pool_alike pool _ _ (frees_alike pool address rest top callers))

    names_at : (instrs : List Instr) (place : ℕ) → AllByRecursion (NamesBelow (length code.kinds)) instrs → NamesIt (slice_get instrs place)
    names_at [] place below = tt
    names_at (instr ∷ instrs) zero below = below.0
    names_at (instr ∷ instrs) (suc place) below = names_at instrs place below.1

    abbrev NamesAll : Option Function → Type 0
    NamesAll None = Unit {0}
    NamesAll (Some function) = Names function

    acts_in : (function : Option Function) (top : Activation) (callers : List Activation) → NamesAll function
        → Alike (act_in code function top callers state) (act_in image (option_map link function) top callers again)
    acts_in None top callers below = halt _
    acts_in (Some function) top callers below =
        subst (λ i. Alike (perform (slice_get function.code top.place) code function top callers state) (perform i image (link function) top callers again))
        (sym (slice_get-map (linked_instr numbers) function.code top.place))
        (performs (slice_get function.code top.place) function top callers (names_at function.code top.place below))

    names_of : (functions : List Function) (number : ℕ) → AllByRecursion Names functions → NamesAll (slice_get functions number)
    names_of [] number below = tt
    names_of (function ∷ functions) zero below = below.0
    names_of (function ∷ functions) (suc number) below = names_of functions number below.1

    acts_on : (activations : List Activation) → AllByRecursion Names code.functions → Alike (act_on code activations state) (act_on image activations again)
    acts_on [] below = halt _
    acts_on (top ∷ callers) below =
        subst (λ f. Alike (act_in code (slice_get code.functions top.function) top callers state) (act_in image f top callers again)) (sym (slice_get-map link code.functions top.function))
        (acts_in (slice_get code.functions top.function) top callers (names_of code.functions top.function below))

  -- ---- from the beginning

  same_extra : (function : Option Function) → extra_of function ≡ extra_of (option_map link function)
  same_extra None = refl
  same_extra (Some function) = refl

  same_first : length code.contents ≤ code.globals → (slabs index : ℕ) (input : List ℕ) → initial code slabs index input ≡ initial image slabs index input
  same_first within slabs index input i =
      let extra = same_extra (slice_get code.functions 0) ∙ ap extra_of (sym (slice_get-map link code.functions 0)) in
      let globals = sym (cut_filled code.contents code.globals within) in
      record {
        activations = record { function = 0; place = 0; operands = []; start = 2 ^ 40; bytes = replicate (extra i) 0 } ∷ [];
        heap = record { globals = globals i; pools = new_pools slabs index; tally = new_tally slabs };
        history = first_history;
        input = input;
        trace = [];
      }

-- Linking code changes no run of it, where the globals hold their first contents.
pub linked_runs : (code : Code) → AllByRecursion (λ function. AllByRecursion (NamesBelow (length code.kinds)) function.code) code.functions → length code.contents ≤ code.globals
    → (limits : MachineLimits) (slabs index : ℕ) (input : List ℕ) (n : ℕ) → mach (code_of (linked code limits)) slabs index input n ≡ mach code slabs index input n
linked_runs code below within limits slabs index input n =
    ap (steps (act (image code)) trace_in n) (sym (same_first code within slabs index input))
    ∙ sym (steps_alike (act code) (act (image code)) (λ state events. acts_on code state events state.activations below) n (initial code slabs index input) [])

-- Functions that can stand in an image name kinds that are there.
pub kinds_there : (kinds functions : ℕ) (fs : List Function) → AllByRecursion (IsFunction kinds functions) fs → AllByRecursion (λ function. AllByRecursion (NamesBelow kinds) function.code) fs
kinds_there kinds functions [] ranges = tt
kinds_there kinds functions (function ∷ fs) ranges = (code-below kinds functions (length function.code) function.code ranges.0.operands, kinds_there kinds functions fs ranges.1)
