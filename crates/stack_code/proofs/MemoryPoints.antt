-- Points that load and store.
use Rattle.std.proofs.Common.{◌≡◌, ℕ, suc, ◌+◌, ◌*◌, ◌%◌, ◌^◌, ◌≤◌, List, [], ◌∷◌, ◌++◌, Option, Some, None, length, refl, sym, ap, ◌∙◌, subst, arith, append_assoc}
use Rattle.std.specs.Prelude.{slice_get, if◌then◌else◌}
use Rattle.run_theory.specs.declared.ends.TrapKind.TheVariants as traps
use Rattle.run_theory.proofs.Machines.{one_step, leads_compose}
use Rattle.c_num.specs.declared.IntType.{IntType}
use Rattle.c_num.specs.declared.IntType.TheVariants as types
use Rattle.c_num.specs.Conversion.{convert_to, word_of}
use Rattle.slab_space.specs.Pools.{address_of, index_of}
use Rattle.pool_isa.specs.declared.instr.Instr.TheVariants as instrs
use Rattle.pool_isa.specs.Machine as M
use Rattle.pool_isa.specs.Machine.{size_of, bytes_in, loaded_word}
use Rattle.tac_ir.specs.declared.register.Register.{Register}
use Rattle.tac_ir.specs.Trees.{same_register}
use Rattle.tac_ir.specs.Events.{ReadFrom, WroteTo}
use Rattle.tac_ir.specs.Code.{Operand}
use Rattle.pool_ir.specs.Code.{Slot, IntegerSlot, AddressSlot, IndexSlot, Path, Op, Function, PoolCode}
use Rattle.pool_ir.specs.Code as O
use Rattle.pool_ir.specs.Words.{Words, with_word, operand_word}
use Rattle.pool_ir.specs.States as P
use Rattle.pool_ir.specs.Memory.{number_at, with_number, access, slot_size, slot_word, slot_number, path_address}
use Rattle.pool_ir.specs.Meaning.{loads, stores, execute}
use Rattle.stack_code.specs.Emitting.{width_of, loading, storing, descriptor_code, keeping, way_on, place_of, function_code, emitted_function, emitted}
use Rattle.stack_code.specs.Standing.{HasRegister, activation_at, place_in, StandsAt, Stands}
use Rattle.stack_code.specs.Fitting.{CodeFits, SlotFits}
use Rattle.stack_code.specs.Following.{Answers, traps, finishing_steps, PointFollows}
use Rattle.stack_code.proofs.Turns.{StandsIn, stands_split}
use Rattle.stack_code.proofs.PoolStack.Trees.{descriptor_pushes}
use Rattle.stack_code.proofs.Steps.{comes_by, machine_at, performs, words_stand, top, in_image}
use Rattle.stack_code.proofs.PoolStack.Points.{Ready, point_follows, keeps, within, answers_from, goes_behind}
use Rattle.stack_code.proofs.Memory.{loads_number, load_stands, after_load, stores_number}

-- a word and what is left of it in 64 bits are the same in a register
same_word : (to : Register) (a b : ℕ) (words : Words) → a % 2 ^ 64 ≡ b % 2 ^ 64 → with_word to a words ≡ with_word to b words
same_word to a b words e = ap {B = Words} (λ (w : ℕ) (other : Register). if same_register to other then w else words other) e

cut_word : (number : ℕ) → loaded_word types.ULong number % 2 ^ 64 ≡ number % 2 ^ 64
unfolding word_of convert_to
cut_word number = omega arith

width_is : (int_type : IntType) → bytes_in (width_of int_type) ≡ size_of int_type
width_is types.Char = refl
width_is types.UChar = refl
width_is types.Short = refl
width_is types.UShort = refl
width_is types.Int = refl
width_is types.UInt = refl
width_is types.Long = refl
width_is types.ULong = refl

has_bytes : (int_type : IntType) → 1 ≤ size_of int_type
has_bytes types.Char = omega arith
has_bytes types.UChar = omega arith
has_bytes types.Short = omega arith
has_bytes types.UShort = omega arith
has_bytes types.Int = omega arith
has_bytes types.UInt = omega arith
has_bytes types.Long = omega arith
has_bytes types.ULong = omega arith

loads_some : (code : PoolCode) (to : Register) (slot : Slot) (address number : ℕ) (state : P.State) → number_at state address (slot_size slot) ≡ Some number
    → loads code to slot address state ≡ P.write code to (slot_word state slot number) (P.emit (access ReadFrom state address (slot_size slot)) state)
loads_some code to slot address number state e = rw e refl

loads_none : (code : PoolCode) (to : Register) (slot : Slot) (address : ℕ) (state : P.State) → number_at state address (slot_size slot) ≡ None → loads code to slot address state ≡ P.trap traps.BadAccess state
loads_none code to slot address state e = rw e refl

stores_some : (code : PoolCode) (slot : Slot) (address word : ℕ) (state later : P.State) → with_number state address (slot_size slot) (slot_number state slot word) ≡ Some later
    → stores code slot address word state ≡ P.go_on code (P.emit (access WroteTo state address (slot_size slot)) later)
stores_some code slot address word state later e = rw e refl

stores_none : (code : PoolCode) (slot : Slot) (address word : ℕ) (state : P.State) → with_number state address (slot_size slot) (slot_number state slot word) ≡ None → stores code slot address word state ≡ P.trap traps.BadAccess state
stores_none code slot address word state e = rw e refl

module _ (code : PoolCode) (most : ℕ) (fits : CodeFits most code) where
  -- ---- loads

  module _ (state : P.State) (machine : M.State) (function : Function) (place : ℕ) (to : Register) (has : HasRegister function.frame to) (address number : ℕ) where
    abbrev Behind : Slot → Type 0
    Behind slot = place + length (loading function slot ++ keeping function state.running.at) ≡ place_of function (suc state.running.at)

    abbrev here : List ℕ
    here = place_in function state.running to ∷ []

    by_load : (slot : Slot) (int_type : IntType) → StandsAt code state machine function place (address ∷ here) → slot_size slot ≡ size_of int_type
        → loaded_word int_type number % 2 ^ 64 ≡ slot_word state slot number % 2 ^ 64 → number_at state address (slot_size slot) ≡ Some number
        → StandsIn (function_code function) place (instrs.Load int_type ∷ keeping function state.running.at) → place + 1 + length (keeping function state.running.at) ≡ place_of function (suc state.running.at)
        → Answers code (finishing_steps most) machine (P.write code to (slot_word state slot number) (P.emit (access ReadFrom state address (slot_size slot)) state))
    by_load slot int_type stands size word found there behind =
        let size_of_type = size_of int_type in
        let some : number_at state address size_of_type ≡ Some number = ap (number_at state address) (sym size) ∙ found in
        let after = after_load code most fits state machine function place (address ∷ here) stands address size_of_type number (has_bytes int_type) (loaded_word int_type) here in
        let next = P.emit (access ReadFrom state address size_of_type) state in
        let step = performs code most fits state machine function place (address ∷ here) stands (instrs.Load int_type) there.0
        ∙ loads_number code most fits state machine function place (address ∷ here) stands address size_of_type number (has_bytes int_type) (loaded_word int_type) here some in
        let stand = load_stands code most fits state machine function place (address ∷ here) stands address size_of_type number (has_bytes int_type) (loaded_word int_type) here in
        subst (λ (n : ℕ). Answers code (finishing_steps most) machine (P.write code to (slot_word state slot number) (P.emit (access ReadFrom state address n) state))) (sym size)
        (subst (λ (ws : Words). Answers code (finishing_steps most) machine (P.go_on code (record next { running = record next.running { words = ws } })))
        (same_word to (loaded_word int_type number) (slot_word state slot number) state.running.words word)
        (within code most fits (1 + (2 + 3 * most)) (finishing_steps most) machine (P.write code to (loaded_word int_type number) next) (omega arith)
        (answers_from code most fits 1 (2 + 3 * most) machine after (P.write code to (loaded_word int_type number) next) (one_step (M.act (emitted code)) machine after step)
        (keeps code most fits next after function (place + 1) to (loaded_word int_type number) stand has there.1 behind))))

    by_slot : (slot : Slot) → SlotFits function.frame slot → StandsAt code state machine function place (address ∷ here) → number_at state address (slot_size slot) ≡ Some number
        → StandsIn (function_code function) place (loading function slot ++ keeping function state.running.at) → Behind slot
        → Answers code (finishing_steps most) machine (P.write code to (slot_word state slot number) (P.emit (access ReadFrom state address (slot_size slot)) state))
    by_slot (IntegerSlot int_type) slot_fits stands found there behind = by_load (IntegerSlot int_type) int_type stands refl refl found there (omega (arith, behind))
    by_slot AddressSlot slot_fits stands found there behind = by_load AddressSlot types.ULong stands refl (cut_word number) found there (omega (arith, behind))
    by_slot (IndexSlot descriptor) slot_fits stands found there behind =
        let pool = state.running.descriptors descriptor in
        let parts = stands_split (function_code function) (descriptor_code function descriptor) (instrs.LoadLink ∷ keeping function state.running.at) place
        (subst (StandsIn (function_code function) place) (append_assoc (descriptor_code function descriptor) (instrs.LoadLink ∷ []) (keeping function state.running.at)) there) in
        let one = comes_by code most fits state machine function place (address ∷ here) stands (descriptor_code function descriptor) (pool ∷ address ∷ here)
        (descriptor_pushes (emitted code) (emitted_function function) (top code most fits state machine function place (address ∷ here) stands 0 []) stands.callers machine (in_image code most fits state machine function place (address ∷ here) stands)
        function state.running (words_stand code most fits state machine function place (address ∷ here) stands) descriptor (address ∷ here) slot_fits (omega arith)) parts.0 in
        let link = address_of one.later.heap.pools pool in
        let after = after_load code most fits state one.later function (place + 2) (pool ∷ address ∷ here) one.stands address 4 number (omega arith) link here in
        let next = P.emit (access ReadFrom state address 4) state in
        let step = performs code most fits state one.later function (place + 2) (pool ∷ address ∷ here) one.stands instrs.LoadLink parts.1.0
        ∙ loads_number code most fits state one.later function (place + 2) (pool ∷ address ∷ here) one.stands address 4 number (omega arith) link here found in
        let stand = load_stands code most fits state one.later function (place + 2) (pool ∷ address ∷ here) one.stands address 4 number (omega arith) link here in
        let same_link : link number ≡ address_of state.pools pool number = ap (λ p. address_of p pool number) one.stands.rest.pools in
        subst (λ (w : ℕ). Answers code (finishing_steps most) machine (P.write code to w next)) same_link
        (within code most fits (3 + (2 + 3 * most)) (finishing_steps most) machine (P.write code to (link number) next) (omega arith)
        (answers_from code most fits 3 (2 + 3 * most) machine after (P.write code to (link number) next)
        (leads_compose (M.act (emitted code)) machine one.later after 2 1 3 refl one.leads (one_step (M.act (emitted code)) one.later after step))
        (keeps code most fits next after function (place + 2 + 1) to (link number) stand has parts.1.1 (omega (arith, behind)))))

  -- ---- stores

  module _ (state : P.State) (machine : M.State) (function : Function) (place : ℕ) (address word : ℕ) (later : P.State) where
    by_store : (int_type : IntType) → StandsAt code state machine function place (word ∷ address ∷ []) → with_number state address (size_of int_type) word ≡ Some later
        → StandsIn (function_code function) place (instrs.Store (width_of int_type) ∷ way_on function state.running.at) → place + 1 + length (way_on function state.running.at) ≡ place_of function (suc state.running.at)
        → Answers code (finishing_steps most) machine (P.go_on code (P.emit (access WroteTo state address (size_of int_type)) later))
    by_store int_type stands found there behind =
        let stored = stores_number code most fits state machine function place (word ∷ address ∷ []) stands address (size_of int_type) word (has_bytes int_type) [] later found in
        let step = performs code most fits state machine function place (word ∷ address ∷ []) stands (instrs.Store (width_of int_type)) there.0
        ∙ ap (λ n. M.store address n word (activation_at state.running (place + 1) [] stands.bytes ∷ stands.callers) (machine_at code most fits state machine function place (word ∷ address ∷ []) stands place (word ∷ address ∷ []))) (width_is int_type) ∙ stored.is in
        goes_behind code most fits 1 (finishing_steps most) (P.emit (access WroteTo state address (size_of int_type)) later) machine stored.after function (place + 1) state.running.at (omega arith) (omega arith)
        (one_step (M.act (emitted code)) machine stored.after step) stored.after_stands stored.at_same there.1 behind

    by_stored_slot : (slot : Slot) → SlotFits function.frame slot → StandsAt code state machine function place (word ∷ address ∷ []) → with_number state address (slot_size slot) (slot_number state slot word) ≡ Some later
        → StandsIn (function_code function) place (storing function slot ++ way_on function state.running.at)
        → place + length (storing function slot ++ way_on function state.running.at) ≡ place_of function (suc state.running.at)
        → Answers code (finishing_steps most) machine (P.go_on code (P.emit (access WroteTo state address (slot_size slot)) later))
    by_stored_slot (IntegerSlot int_type) slot_fits stands found there behind = by_store int_type stands found there (omega (arith, behind))
    by_stored_slot AddressSlot slot_fits stands found there behind = by_store types.ULong stands found there (omega (arith, behind))
    by_stored_slot (IndexSlot descriptor) slot_fits stands found there behind =
        let pool = state.running.descriptors descriptor in
        let before = word ∷ address ∷ [] in
        let parts = stands_split (function_code function) (descriptor_code function descriptor) (instrs.StoreLink ∷ way_on function state.running.at) place
        (subst (StandsIn (function_code function) place) (append_assoc (descriptor_code function descriptor) (instrs.StoreLink ∷ []) (way_on function state.running.at)) there) in
        let one = comes_by code most fits state machine function place before stands (descriptor_code function descriptor) (pool ∷ before)
        (descriptor_pushes (emitted code) (emitted_function function) (top code most fits state machine function place before stands 0 []) stands.callers machine (in_image code most fits state machine function place before stands)
        function state.running (words_stand code most fits state machine function place before stands) descriptor before slot_fits (omega arith)) parts.0 in
        let index = index_of state.pools pool word in
        let stored = stores_number code most fits state one.later function (place + 2) (pool ∷ before) one.stands address 4 index (omega arith) [] later found in
        let step = performs code most fits state one.later function (place + 2) (pool ∷ before) one.stands instrs.StoreLink parts.1.0
        ∙ ap (λ p. M.store address 4 (index_of p pool word) (activation_at state.running (place + 2 + 1) [] one.stands.bytes ∷ one.stands.callers) (machine_at code most fits state one.later function (place + 2) (pool ∷ before) one.stands (place + 2) (pool ∷ before))) one.stands.rest.pools ∙ stored.is in
        goes_behind code most fits 3 (finishing_steps most) (P.emit (access WroteTo state address 4) later) machine stored.after function (place + 2 + 1) state.running.at (omega arith) (omega arith)
        (leads_compose (M.act (emitted code)) machine one.later stored.after 2 1 3 refl one.leads (one_step (M.act (emitted code)) one.later stored.after step)) stored.after_stands stored.at_same parts.1.1
        (omega (arith, behind))

  -- ---- points

  module _ (state : P.State) (machine : M.State) (stands : Stands code state machine) where
    abbrev IsAt : Op → Type 0
    IsAt op = slice_get (P.points_of (P.function_of code state.running.owner)) state.running.at ≡ Some op

    pub load : (to : Register) (slot : Slot) (path : Path) → IsAt (O.Load to slot path) → PointFollows code most state machine (O.Load to slot path)
    load to slot path is = point_follows code most fits state machine stands (O.Load to slot path) is (λ r. by r (number_at state (path_address state.running path) (slot_size slot)) refl)
      where
        by : (r : Ready code most fits state machine (O.Load to slot path)) (found : Option ℕ) → number_at state (path_address state.running path) (slot_size slot) ≡ found
            → Answers code (finishing_steps most) r.later (execute code (O.Load to slot path) state)
        by r None found = subst (Answers code (finishing_steps most) r.later) (sym (loads_none code to slot (path_address state.running path) state found)) (traps traps.BadAccess state)
        by r (Some number) found =
            subst (Answers code (finishing_steps most) r.later) (sym (loads_some code to slot (path_address state.running path) number state found))
            (by_slot state r.later r.function r.at to r.named.0 (path_address state.running path) number slot r.named.1 r.stands found r.there r.behind)

    pub store : (path : Path) (slot : Slot) (value : Operand) → IsAt (O.Store path slot value) → PointFollows code most state machine (O.Store path slot value)
    store path slot value is =
        point_follows code most fits state machine stands (O.Store path slot value) is (λ r.
        by r (with_number state (path_address state.running path) (slot_size slot) (slot_number state slot (operand_word state.running.words value))) refl)
      where
        by : (r : Ready code most fits state machine (O.Store path slot value)) (found : Option P.State)
            → with_number state (path_address state.running path) (slot_size slot) (slot_number state slot (operand_word state.running.words value)) ≡ found
            → Answers code (finishing_steps most) r.later (execute code (O.Store path slot value) state)
        by r None found =
            subst (Answers code (finishing_steps most) r.later) (sym (stores_none code slot (path_address state.running path) (operand_word state.running.words value) state found)) (traps traps.BadAccess state)
        by r (Some later) found =
            subst (Answers code (finishing_steps most) r.later) (sym (stores_some code slot (path_address state.running path) (operand_word state.running.words value) state later found))
            (by_stored_slot state r.later r.function r.at (path_address state.running path) (operand_word state.running.words value) later slot r.named.1 r.stands found r.there r.behind)
