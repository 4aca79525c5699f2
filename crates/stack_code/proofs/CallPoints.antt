-- Calls.
use Rattle.std.proofs.Common.{◌≡◌, ℕ, zero, suc, ◌+◌, ◌-◌, ◌*◌, ◌^◌, ◌<◌, ◌≤◌, ◌==◌, ◌&&◌, inl, Bool, true, false, List, [], ◌∷◌, ◌++◌, Option, Some, None, length, take, drop, reverse, replicate, map, refl, sym, ap, ap₂, ◌∙◌, subst, arith, append_assoc, length-append, eqb-true, get_or, ◌/◌}
use Rattle.std.specs.Prelude.{slice_get, nat_lt, nat_le, if◌then◌else◌}
use Rattle.std.specs.List.{flat_map}
use Rattle.std.proofs.Math.Seq.{take-append_seam, drop-append_seam}
use Rattle.std.proofs.lemmas.List.{length-reverse, reverse-reverse}
use Rattle.std.proofs.lemmas.Grind.{reverse_onto}
use Rattle.std.proofs.lemmas.Bool.{and_parts, le-ltb, ltb-true, le-leb, leb-true}
use Rattle.byteorder.specs.Endian.{little_bytes}
use Rattle.run_theory.specs.declared.ends.TrapKind.TheVariants as traps
use Rattle.run_theory.specs.Runs
use Rattle.run_theory.specs.Runs.{Event, DepthReached, Called, To, Halt}
use Rattle.run_theory.proofs.Machines.{one_step, leads_compose}
use Rattle.pool_isa.specs.declared.instr.Instr.TheVariants as instrs
use Rattle.pool_isa.specs.Machine as M
use Rattle.tac_ir.specs.declared.register.Register.{Register}
use Rattle.tac_ir.specs.declared.register.Register.TheVariants as R
use Rattle.tac_ir.specs.Events.{Entered}
use Rattle.tac_ir.specs.States.{InFunction}
use Rattle.tac_ir.specs.Calls.{greatest_depth}
use Rattle.pool_ir.specs.Code.{Callee, Known, Through, Function, PoolCode}
use Rattle.pool_ir.specs.Code as O
use Rattle.pool_ir.specs.States as P
use Rattle.pool_ir.specs.States.{Same, same}
use Rattle.pool_ir.specs.Meaning as meaning
use Rattle.pool_ir.specs.Meaning.{call, enter, called, next_start}
use Rattle.stack_code.specs.Emitting.{preparing, calling, opening, place_of, words_taken, function_code, emitted_function, emitted}
use Rattle.stack_code.specs.Standing.{activation_at, place_in, CallersStand, StandsAt, Stands}
use Rattle.stack_code.specs.Fitting.{FunctionFits, CodeFits}
use Rattle.stack_code.specs.Following.{Answers, goes, ends, traps, finishing_steps, PointFollows}
use Rattle.stack_code.proofs.Prepared.{with_words, with_callee, length-with_words}
use Rattle.stack_code.proofs.EnteredFrames.{entered_activation, entered_frame}
use Rattle.stack_code.proofs.BlockPlaces.{opening_stands, place_first}
use Rattle.stack_code.proofs.Told.{seen_more, told_more}
use Rattle.stack_code.proofs.Steps.{machine_at, performs, mapped}
use Rattle.stack_code.proofs.Actions.{Acted, acted, stuck, acts_do}
use Rattle.stack_code.proofs.PoolStack.Ways.{three_each}
use Rattle.stack_code.proofs.PoolStack.Points.{Ready, point_follows}

-- ---- operands

with_words_is : (words operands : List ℕ) → with_words words operands ≡ reverse words ++ operands
with_words_is [] operands = refl
with_words_is (word ∷ words) operands =
    with_words_is words (word ∷ operands) ∙ sym (append_assoc (reverse words) (word ∷ []) operands) ∙ ap (λ (l : List ℕ). l ++ operands) (sym (reverse_onto words word []))

both_rows : (first second operands : List ℕ) → with_words (first ++ second) operands ≡ with_words second (with_words first operands)
both_rows [] second operands = refl
both_rows (word ∷ first) second operands = both_rows first second (word ∷ operands)

-- the words that a call takes, and what it leaves
taken_words : (words operands : List ℕ) (count : ℕ) → length words ≡ count → reverse (take count (with_words words operands)) ≡ words
taken_words words operands count e =
    ap₂ (λ (n : ℕ) (l : List ℕ). reverse (take n l)) (sym e ∙ sym (length-reverse words)) (with_words_is words operands)
    ∙ ap reverse (take-append_seam (reverse words) operands) ∙ reverse-reverse words

left_operands : (words operands : List ℕ) (count : ℕ) → length words ≡ count → drop count (with_words words operands) ≡ operands
left_operands words operands count e =
    ap₂ (λ (n : ℕ) (l : List ℕ). drop n l) (sym e ∙ sym (length-reverse words)) (with_words_is words operands) ∙ drop-append_seam (reverse words) operands

-- ---- what code with pools does with a call

call_missing : (code : PoolCode) (site number : ℕ) (words pools : List ℕ) (state : P.State) → slice_get code.functions number ≡ None → call code site (Some number) words pools state ≡ P.trap traps.BadCall state
call_missing code site number words pools state e = rw e refl

call_there : (code : PoolCode) (site number : ℕ) (function : Function) (words pools : List ℕ) (state : P.State) → slice_get code.functions number ≡ Some function
    → call code site (Some number) words pools state
    ≡ (if (length words == function.frame.parameters) && (length pools == function.taken) then
    (if nat_lt (length state.callers) greatest_depth then enter code site number function words pools state else Halt DepthReached state)
    else P.trap traps.BadCall state)
call_there code site number function words pools state e = rw e refl

signature_missing : (code : PoolCode) (signature number : ℕ) → slice_get code.functions number ≡ None → meaning.of_signature code signature (Some number) ≡ None
signature_missing code signature number e = rw e refl

signature_there : (code : PoolCode) (signature number : ℕ) (function : Function) → slice_get code.functions number ≡ Some function
    → meaning.of_signature code signature (Some number) ≡ (if function.signature == signature then Some number else None)
signature_there code signature number function e = rw e refl

-- a pointer leads to this function
pub record LeadsTo (code : PoolCode) (signature word number : ℕ) : Type 0 where
  pub high : 2 ^ 48 + 1 ≤ word
  pub number_is : word - (2 ^ 48 + 1) ≡ number
  pub function : Function
  pub there : slice_get code.functions number ≡ Some function
  pub signed : (function.signature == signature) ≡ true

signed_leads : (code : PoolCode) (signature word number : ℕ) (function : Function) → slice_get code.functions (word - (2 ^ 48 + 1)) ≡ Some function → 2 ^ 48 + 1 ≤ word → (b : Bool) → (function.signature == signature) ≡ b
    → (if b then Some (word - (2 ^ 48 + 1)) else None) ≡ Some number → LeadsTo code signature word number
signed_leads code signature word number function is high true signed e =
    let same_number : word - (2 ^ 48 + 1) ≡ number = cc in
    record { high = high; number_is = same_number; function = function; there = ap (slice_get code.functions) (sym same_number) ∙ is; signed = signed }
signed_leads code signature word number function is high false signed e = absurd (cc)

found_leads : (code : PoolCode) (signature word number : ℕ) (function : Option Function) → slice_get code.functions (word - (2 ^ 48 + 1)) ≡ function → meaning.of_signature code signature (Some (word - (2 ^ 48 + 1))) ≡ Some number
    → 2 ^ 48 + 1 ≤ word → LeadsTo code signature word number
found_leads code signature word number None is e high = absurd (let none = signature_missing code signature (word - (2 ^ 48 + 1)) is in cc)
found_leads code signature word number (Some function) is e high =
    signed_leads code signature word number function is high (function.signature == signature) refl (sym (signature_there code signature (word - (2 ^ 48 + 1)) function is) ∙ e)

leads_to : (code : PoolCode) (signature word number : ℕ) → meaning.of_signature code signature (meaning.named_by word) ≡ Some number → LeadsTo code signature word number
leads_to code signature word number e = by (nat_le (2 ^ 48 + 1) word) refl e
  where
    by : (b : Bool) → nat_le (2 ^ 48 + 1) word ≡ b → meaning.of_signature code signature (if b then Some (word - (2 ^ 48 + 1)) else None) ≡ Some number → LeadsTo code signature word number
    by true is e = found_leads code signature word number (slice_get code.functions (word - (2 ^ 48 + 1))) refl e (leb-true (2 ^ 48 + 1) word is)
    by false is e = absurd (cc)

-- as many wait on the machine
pub as_many : (code : PoolCode) (callers : List (ℕ × P.Activation)) (others : List M.Activation) → CallersStand code callers others → length others ≡ length callers
as_many code [] [] stand = refl
as_many code [] (first ∷ others) stand = absurd stand
as_many code (one ∷ callers) [] stand = absurd stand
as_many code ((site, own) ∷ callers) (first ∷ others) stand = ap suc (as_many code callers others stand.1)

mapped_small : (own : ℕ → ℕ) → ((n : ℕ) → own n < 2 ^ 64) → (list : List ℕ) (number : ℕ) → get_or (map own list) number 0 < 2 ^ 64
mapped_small own small [] number = omega arith
mapped_small own small (first ∷ others) zero = small first
mapped_small own small (first ∷ others) (suc number) = mapped_small own small others number

module _ (code : PoolCode) (most : ℕ) (fits : CodeFits most code) where
  module _ (state : P.State) (site : ℕ) (arguments : List Register) (pools : List ℕ) (machine : M.State) (caller : Function) (place number : ℕ) (function : Function) (there : slice_get code.functions number ≡ Some function) where
    abbrev here : List ℕ
    here = place_in caller state.running (R.Call site) ∷ []

    abbrev passed : List ℕ
    passed = map state.running.descriptors pools ++ map state.running.words arguments

    abbrev rows : List ℕ
    rows = with_words (map state.running.words arguments) (with_words (map state.running.descriptors pools) here)

    -- the machine calls the same function
    call_is : (callee : Callee) (stands : StandsAt code state machine caller place (with_callee state.running callee rows)) → slice_get (function_code caller) place ≡ Some (calling callee)
        → called code state.running.words callee ≡ Some number
        → M.act (emitted code) machine
        ≡ M.called (suc number) (Some (emitted_function function)) rows (activation_at state.running place (with_callee state.running callee rows) stands.bytes) stands.callers
        (machine_at code most fits state machine caller place (with_callee state.running callee rows) stands place (with_callee state.running callee rows))
    call_is (Known known) stands instr e =
        let same_number : known ≡ number = cc in
        let own = activation_at state.running place rows stands.bytes in
        let state_now = machine_at code most fits state machine caller place rows stands place rows in
        performs code most fits state machine caller place rows stands (instrs.Call (suc known)) instr
        ∙ ap (λ (n : ℕ). M.called (suc n) (slice_get (map emitted_function code.functions) n) rows own stands.callers state_now) same_number
        ∙ ap (λ (f : Option M.Function). M.called (suc number) f rows own stands.callers state_now) (mapped code.functions number function there)
    call_is (Through pointer signature) stands instr e =
        let word = state.running.words pointer in
        let leads = leads_to code signature word number e in
        let all = word ∷ rows in
        let own = activation_at state.running place all stands.bytes in
        let state_now = machine_at code most fits state machine caller place all stands place all in
        let image = emitted_function code.start ∷ map emitted_function code.functions in
        let next : word - 2 ^ 48 ≡ suc number = omega (arith, leads.high, leads.number_is) in
        let same_function : leads.function ≡ function = (let both : Some leads.function ≡ Some function = sym leads.there ∙ there in cc) in
        performs code most fits state machine caller place all stands (instrs.CallIndirect signature) instr
        ∙ ap (λ b. M.called (word - 2 ^ 48) (if b then M.of_signature signature (slice_get image (word - 2 ^ 48)) else None) rows own stands.callers state_now) (le-leb (2 ^ 48) word (omega (arith, leads.high)))
        ∙ ap (λ (n : ℕ). M.called n (M.of_signature signature (slice_get image n)) rows own stands.callers state_now) next
        ∙ ap (λ (f : Option M.Function). M.called (suc number) (M.of_signature signature f) rows own stands.callers state_now) (mapped code.functions number function there)
        ∙ ap (λ b. M.called (suc number) (if b then Some (emitted_function function) else None) rows own stands.callers state_now)
        (ap (λ (f : Function). f.signature == signature) (sym same_function) ∙ leads.signed)

    module _ (many : length (map state.running.words arguments) ≡ function.frame.parameters) (own_taken : length (map state.running.descriptors pools) ≡ function.taken) (before : List ℕ) (stands : StandsAt code state machine caller place before) where
      long_passed : length passed ≡ words_taken function
      long_passed = omega (arith, length-append (map state.running.descriptors pools) (map state.running.words arguments), many, own_taken)

      rows_are : rows ≡ with_words passed here
      rows_are = sym (both_rows (map state.running.descriptors pools) (map state.running.words arguments) here)

      enough : nat_lt (length rows) (words_taken function) ≡ false
      enough =
          le-ltb (length rows) (words_taken function)
          (omega (arith, many, own_taken, length-with_words (map state.running.words arguments) (with_words (map state.running.descriptors pools) here), length-with_words (map state.running.descriptors pools) here))

      abbrev own_fits : FunctionFits most function
      own_fits = fits.functions (InFunction number) function there

      abbrev own_small : (n : ℕ) → get_or (map state.running.descriptors pools) n 0 < 2 ^ 64
      own_small = mapped_small state.running.descriptors stands.frame.pools pools

      abbrev inner : P.Activation
      inner = entered_activation most function (fits.functions (InFunction number) function there) (map state.running.descriptors pools) (map state.running.words arguments) (InFunction number) (next_start state.running) own_taken many
          (mapped_small state.running.descriptors stands.frame.pools pools)

      abbrev entered_state : P.State
      entered_state = record state { running = inner; callers = (site, state.running) ∷ state.callers; trace = state.trace ++ Same (Entered site number) ∷ []; paid = 0 }

      abbrev own : M.Activation
      own = activation_at state.running place before stands.bytes

      abbrev canon : M.State
      canon = machine_at code most fits state machine caller place before stands place before

      abbrev after_with : ℕ → List ℕ → List ℕ → M.State
      after_with start words left = record machine {
        activations =
            record { function = suc number; place = 0; operands = []; start = start; bytes = flat_map (little_bytes 8) words ++ replicate (function.frame.size - 8 * words_taken function) 0 }
            ∷ activation_at state.running (place + 1) left stands.bytes ∷ stands.callers;
        history = record machine.history { pool_events = machine.history.pool_events ++ M.Entered number ∷ [] };
        trace = machine.trace ++ Called number ∷ [];
      }

      abbrev after : M.State
      after = after_with (next_start state.running) passed here

      entered_to : nat_lt (length stands.callers) 10000 ≡ true → M.called (suc number) (Some (emitted_function function)) rows own stands.callers canon ≡ To after
      entered_to shallow =
          ap (λ b. if b then M.trap traps.StackEmpty canon
          else (if nat_lt (length stands.callers) 10000 then To (after_with (M.next_start own) (reverse (take (words_taken function) rows)) (drop (words_taken function) rows)) else Halt DepthReached canon)) enough
          ∙ ap (λ b. if b then To (after_with (M.next_start own) (reverse (take (words_taken function) rows)) (drop (words_taken function) rows)) else Halt DepthReached canon) shallow
          ∙ ap (λ (n : ℕ). To (after_with (state.running.start + (n + 15) / 16 * 16) (reverse (take (words_taken function) rows)) (drop (words_taken function) rows))) stands.frame.as_long
          ∙ ap₂ (λ (ws left : List ℕ). To (after_with (next_start state.running) ws left))
          (ap (λ (l : List ℕ). reverse (take (words_taken function) l)) rows_are ∙ taken_words passed here (words_taken function) long_passed)
          (ap (λ (l : List ℕ). drop (words_taken function) l) rows_are ∙ left_operands passed here (words_taken function) long_passed)

      too_deep : nat_lt (length stands.callers) 10000 ≡ false → M.called (suc number) (Some (emitted_function function)) rows own stands.callers canon ≡ Halt DepthReached canon
      too_deep deep =
          ap (λ b. if b then M.trap traps.StackEmpty canon
          else (if nat_lt (length stands.callers) 10000 then To (after_with (M.next_start own) (reverse (take (words_taken function) rows)) (drop (words_taken function) rows)) else Halt DepthReached canon)) enough
          ∙ ap (λ b. if b then To (after_with (M.next_start own) (reverse (take (words_taken function) rows)) (drop (words_taken function) rows)) else Halt DepthReached canon) deep

      entered_stands : nat_lt (length stands.callers) 10000 ≡ true → (callee : Callee) → slice_get caller.points state.running.at ≡ Some (O.Call site callee arguments pools)
          → place ≡ place_of caller state.running.at + length (preparing caller (O.Call site callee arguments pools)) → StandsAt code entered_state after function 0 []
      entered_stands shallow callee waits begins = record {
        bytes = flat_map (little_bytes 8) passed ++ replicate (function.frame.size - 8 * words_taken function) 0;
        callers = activation_at state.running (place + 1) here stands.bytes ∷ stands.callers;
        is = there;
        activations = refl;
        frame = entered_frame most function own_fits (map state.running.descriptors pools) (map state.running.words arguments) (InFunction number) (next_start state.running) own_taken many own_small;
        waiting = (
          record {
            function = caller;
            callee = callee;
            arguments = arguments;
            pools = pools;
            bytes = stands.bytes;
            is = stands.is;
            waits = waits;
            activation = ap (λ (p : ℕ). activation_at state.running p here stands.bytes) (omega (arith, begins));
            frame = stands.frame;
          },
          stands.waiting,
        );
        lie = record {
          stacked = (refl, stands.lie.stacked);
          low = omega (arith, stands.lie.low, stands.frame.long, (fits.functions state.running.owner caller stands.is).size);
          depth = omega (arith, ltb-true (length stands.callers) 10000 shallow, as_many code state.callers stands.callers stands.waiting);
          globals = stands.lie.globals;
        };
        rest = record {
          globals = stands.rest.globals;
          pools = stands.rest.pools;
          placed = stands.rest.placed;
          told = ap (λ (t : List M.PoolEvent). t ++ M.Entered number ∷ []) stands.rest.told ∙ sym (told_more state.trace (Same (Entered site number) ∷ []));
          input = stands.rest.input;
          trace = ap (λ (t : List Event). t ++ Called number ∷ []) stands.rest.trace ∙ sym (seen_more state.trace (Same (Entered site number) ∷ []));
        };
      }

      -- what is done at entry
      entry_does : (middle : M.State) → StandsAt code entered_state middle function 0 [] → M.act (emitted code) machine ≡ To middle
          → Answers code (finishing_steps most) machine (enter code site number function (map state.running.words arguments) (map state.running.descriptors pools) state)
      entry_does middle stand step = by (acts_do code most fits function.entering entered_state middle function 0 [] own_fits.entering.0 stand (omega arith) (opening_stands function))
        where
          by : Acted code most fits function.entering entered_state middle function 0 []
              → Answers code (finishing_steps most) machine (enter code site number function (map state.running.words arguments) (map state.running.descriptors pools) state)
          by (acted later does kept comes) =
              let long = three_each function function.entering in
              let first = place_first function in
              subst (Answers code (finishing_steps most) machine) (sym (does To))
              (goes later comes.later (1 + length (opening function)) (omega arith) (omega (arith, long, (fits.functions (InFunction number) function there).entering.1))
              (leads_compose (M.act (emitted code)) machine middle comes.later 1 (length (opening function)) (1 + length (opening function)) refl (one_step (M.act (emitted code)) machine middle step) comes.leads)
              (record {
                function = function;
                at = subst (λ (p : ℕ). StandsAt code later comes.later function p []) (omega (arith, first) ∙ ap (place_of function) (sym kept.0)) comes.stands;
              }) kept.1)
          by (stuck kind last does) = subst (Answers code (finishing_steps most) machine) (sym (does To)) (traps kind last)

  -- ---- the point

  module _ (state : P.State) (machine : M.State) (stands : Stands code state machine) where
    pub calls : (site : ℕ) (callee : Callee) (arguments : List Register) (pools : List ℕ) → slice_get (P.points_of (P.function_of code state.running.owner)) state.running.at ≡ Some (O.Call site callee arguments pools)
        → PointFollows code most state machine (O.Call site callee arguments pools)
    unfolding greatest_depth
    calls site callee arguments pools is =
        point_follows code most fits state machine stands (O.Call site callee arguments pools) is (λ r. by r (called code state.running.words callee) refl)
      where
        Goal : Ready code most fits state machine (O.Call site callee arguments pools) → Option ℕ → Type 0
        Goal r target = Answers code (finishing_steps most) r.later (call code site target (map state.running.words arguments) (map state.running.descriptors pools) state)

        fitting : (r : Ready code most fits state machine (O.Call site callee arguments pools)) (number : ℕ) (function : Function) → called code state.running.words callee ≡ Some number → slice_get code.functions number ≡ Some function
            → (many : length (map state.running.words arguments) ≡ function.frame.parameters) → (own_taken : length (map state.running.descriptors pools) ≡ function.taken)
            → (b : Bool) → nat_lt (length state.callers) greatest_depth ≡ b
            → Answers code (finishing_steps most) r.later
            (if b then enter code site number function (map state.running.words arguments) (map state.running.descriptors pools) state else Halt DepthReached state)
        fitting r number function target there many own_taken true deep =
            let shallow : nat_lt (length r.stands.callers) 10000 ≡ true = ap (λ n. nat_lt n 10000) (as_many code state.callers r.stands.callers r.stands.waiting) ∙ deep in
            let before = with_callee state.running callee (with_words (map state.running.words arguments) (with_words (map state.running.descriptors pools) (place_in r.function state.running (R.Call site) ∷ []))) in
            entry_does state site arguments pools r.later r.function r.at number function there many own_taken before r.stands _
            (entered_stands state site arguments pools r.later r.function r.at number function there many own_taken before r.stands shallow callee r.is_at r.begins)
            (call_is state site arguments pools r.later r.function r.at number function there callee r.stands r.there.0 target
            ∙ entered_to state site arguments pools r.later r.function r.at number function there many own_taken before r.stands shallow)
        fitting r number function target there many own_taken false deep =
            let full : nat_lt (length r.stands.callers) 10000 ≡ false = ap (λ n. nat_lt n 10000) (as_many code state.callers r.stands.callers r.stands.waiting) ∙ deep in
            let before = with_callee state.running callee (with_words (map state.running.words arguments) (with_words (map state.running.descriptors pools) (place_in r.function state.running (R.Call site) ∷ []))) in
            ends DepthReached state r.later (machine_at code most fits state r.later r.function r.at before r.stands r.at before) 0 (omega arith) (Runs.here r.later)
            (call_is state site arguments pools r.later r.function r.at number function there callee r.stands r.there.0 target
            ∙ too_deep state site arguments pools r.later r.function r.at number function there many own_taken before r.stands full)
            r.stands.rest.trace (inl tt)

        checked : (r : Ready code most fits state machine (O.Call site callee arguments pools)) (number : ℕ) (function : Function) → called code state.running.words callee ≡ Some number → slice_get code.functions number ≡ Some function
            → (b : Bool) → ((length (map state.running.words arguments) == function.frame.parameters) && (length (map state.running.descriptors pools) == function.taken)) ≡ b
            → Answers code (finishing_steps most) r.later
            (if b then (if nat_lt (length state.callers) greatest_depth then enter code site number function (map state.running.words arguments) (map state.running.descriptors pools) state else Halt DepthReached state)
            else P.trap traps.BadCall state)
        checked r number function target there true same_counts =
            let both = and_parts (length (map state.running.words arguments) == function.frame.parameters) (length (map state.running.descriptors pools) == function.taken) same_counts in
            fitting r number function target there (eqb-true (length (map state.running.words arguments)) function.frame.parameters both.0) (eqb-true (length (map state.running.descriptors pools)) function.taken both.1)
            (nat_lt (length state.callers) greatest_depth) refl
        checked r number function target there false same_counts = traps traps.BadCall state

        found : (r : Ready code most fits state machine (O.Call site callee arguments pools)) (number : ℕ) → called code state.running.words callee ≡ Some number → (function : Option Function) → slice_get code.functions number ≡ function
            → Goal r (Some number)
        found r number target None there =
            subst (Answers code (finishing_steps most) r.later) (sym (call_missing code site number (map state.running.words arguments) (map state.running.descriptors pools) state there)) (traps traps.BadCall state)
        found r number target (Some function) there =
            subst (Answers code (finishing_steps most) r.later) (sym (call_there code site number function (map state.running.words arguments) (map state.running.descriptors pools) state there))
            (checked r number function target there ((length (map state.running.words arguments) == function.frame.parameters) && (length (map state.running.descriptors pools) == function.taken)) refl)

        by : (r : Ready code most fits state machine (O.Call site callee arguments pools)) (target : Option ℕ) → called code state.running.words callee ≡ target → Goal r (called code state.running.words callee)
        by r None target = subst (Goal r) (sym target) (traps traps.BadCall state)
        by r (Some number) target = subst (Goal r) (sym target) (found r number target (slice_get code.functions number) refl)
