-- Steps of the machine from a state that stands for one of code with pools.
use Rattle.std.proofs.Common.{◌≡◌, ℕ, zero, suc, ◌+◌, ◌-◌, ◌*◌, ◌^◌, ◌<◌, ◌≤◌, true, List, [], ◌∷◌, Some, length, map, max, refl, sym, ap, ap₂, ◌∙◌, subst, arith}
use Rattle.std.specs.Prelude.{slice_get, nat_le, if◌then◌else◌}
use Rattle.std.proofs.lemmas.Bool.{and_from, le-leb}
use Rattle.byteorder.specs.Endian.{little_bytes}
use Rattle.run_theory.specs.Runs.{To, Leads, here}
use Rattle.run_theory.proofs.Machines.{one_step, leads_compose}
use Rattle.pool_isa.specs.declared.instr.Width.TheVariants as widths
use Rattle.pool_isa.specs.declared.instr.Instr.{Instr}
use Rattle.pool_isa.specs.declared.instr.Instr.TheVariants as instrs
use Rattle.pool_isa.specs.Machine as M
use Rattle.pool_isa.specs.Machine.{perform, with_bytes_at, beneath, store_with}
use Rattle.tac_ir.specs.declared.register.Register.{Register}
use Rattle.tac_ir.specs.States.{Owner, InStart, InFunction}
use Rattle.pool_ir.specs.Code.{Op, Function, PoolCode}
use Rattle.pool_ir.specs.Frames.{word_of_descriptor, word_of_register, words_in}
use Rattle.pool_ir.specs.Words.{with_word}
use Rattle.pool_ir.specs.States as P
use Rattle.pool_ir.specs.States.{with_descriptor, function_of}
use Rattle.stack_code.specs.Emitting.{preparing, preparing_height, greatest_height, function_code, emitted_function, emitted}
use Rattle.stack_code.specs.Standing.{HasRegister, HasDescriptor, FrameStands, image_number, activation_at, place_in, StandsAt}
use Rattle.stack_code.specs.Fitting.{FunctionFits, CodeFits}
use Rattle.stack_code.proofs.Turns.{StandsIn, Turns, fetched}
use Rattle.stack_code.proofs.PoolStack.Trees.{WordsStand}
use Rattle.stack_code.proofs.Prepared.{prepared, point_prepares}
use Rattle.stack_code.proofs.WrittenBytes.{over}
use Rattle.stack_code.proofs.WordsApart.{register_within, descriptor_within}
use Rattle.stack_code.proofs.FrameWrites.{register_written, descriptor_written}
use Rattle.stack_code.proofs.FrameRanges.{stacked_as}

-- ---- functions of the image

pub mapped : (functions : List Function) (number : ℕ) (function : Function) → slice_get functions number ≡ Some function → slice_get (map emitted_function functions) number ≡ Some (emitted_function function)
mapped [] number function e = absurd (cc)
mapped (first ∷ others) zero function e = let same : first ≡ function = cc in ap (λ f. Some (emitted_function f)) same
mapped (first ∷ others) (suc number) function e = mapped others number function e

pub image_has : (code : PoolCode) (owner : Owner) (function : Function) → function_of code owner ≡ Some function → slice_get (emitted code).functions (image_number owner) ≡ Some (emitted_function function)
image_has code InStart function e = let same : code.start ≡ function = cc in ap (λ f. Some (emitted_function f)) same
image_has code (InFunction number) function e = mapped code.functions number function e

-- ---- where a run stands after so many steps

pub record Comes (code : PoolCode) (machine : M.State) (taken : ℕ) (state : P.State) (function : Function) (place : ℕ) (operands : List ℕ) : Type 0 where
  pub later : M.State
  pub leads : Leads (M.act (emitted code)) machine taken later
  pub stands : StandsAt code state later function place operands

pub comes_here : (code : PoolCode) (machine : M.State) (state : P.State) (function : Function) (place : ℕ) (operands : List ℕ) → StandsAt code state machine function place operands
    → Comes code machine 0 state function place operands
comes_here code machine state function place operands stands = record { later = machine; leads = here machine; stands = stands }

pub comes_then : (code : PoolCode) (machine : M.State) (k l m : ℕ) (state next : P.State) (function after : Function) (place far : ℕ) (operands left : List ℕ) → m ≡ k + l
    → (first : Comes code machine k state function place operands) → Comes code first.later l next after far left → Comes code machine m next after far left
comes_then code machine k l m state next function after place far operands left e first second =
    record { later = second.later; leads = leads_compose (M.act (emitted code)) machine first.later second.later k l m e first.leads second.leads; stands = second.stands }

module _ (code : PoolCode) (most : ℕ) (fits : CodeFits most code) (state : P.State) (machine : M.State) (function : Function) (place : ℕ) (operands : List ℕ) (stands : StandsAt code state machine function place operands) where
  pub function_fits : FunctionFits most function
  function_fits = fits.functions state.running.owner function stands.is

  abbrev pub top : ℕ → List ℕ → M.Activation
  top at left = activation_at state.running at left stands.bytes

  abbrev pub machine_at : ℕ → List ℕ → M.State
  machine_at at left = record machine { activations = top at left ∷ stands.callers }

  pub is_there : machine ≡ machine_at place operands
  is_there = λ i. record machine { activations = stands.activations i }

  pub in_image : slice_get (emitted code).functions (image_number state.running.owner) ≡ Some (emitted_function function)
  in_image = image_has code state.running.owner function stands.is

  pub performs : (instr : Instr) → slice_get (function_code function) place ≡ Some instr
      → M.act (emitted code) machine ≡ perform (Some instr) (emitted code) (emitted_function function) (top place operands) stands.callers (machine_at place operands)
  performs instr e = ap (M.act (emitted code)) is_there ∙ fetched (emitted code) (emitted_function function) (top 0 []) stands.callers machine in_image place operands instr e

  -- the state stands as well at another instruction, with other operands
  pub stands_as : (at : ℕ) (left : List ℕ) → StandsAt code state (machine_at at left) function at left
  stands_as at left = record {
    bytes = stands.bytes;
    callers = stands.callers;
    is = stands.is;
    activations = refl;
    frame = stands.frame;
    waiting = stands.waiting;
    lie = stands.lie;
    rest = record { globals = stands.rest.globals; pools = stands.rest.pools; placed = stands.rest.placed; told = stands.rest.told; input = stands.rest.input; trace = stands.rest.trace };
  }

  pub comes_by : (instrs : List Instr) (left : List ℕ) → Turns (emitted code) (emitted_function function) (top 0 []) stands.callers machine in_image instrs operands left → StandsIn (function_code function) place instrs
      → Comes code machine (length instrs) state function (place + length instrs) left
  comes_by instrs left turns there = record {
    later = machine_at (place + length instrs) left;
    leads = subst (λ m. Leads (M.act (emitted code)) m (length instrs) (machine_at (place + length instrs) left)) (sym is_there) (turns place there);
    stands = stands_as (place + length instrs) left;
  }

  -- frames lie below the heap
  pub frame_low : state.running.start + length stands.bytes < 2 ^ 44
  frame_low = omega (arith, stands.lie.low, stands.lie.depth, function_fits.size, stands.frame.long, stands.frame.as_long)

  pub words_stand : WordsStand function state.running (top 0 [])
  words_stand = record {
    start = refl;
    near = omega (arith, frame_low);
    inside = λ register has. omega (arith, register_within function function_fits.taken register has, function_fits.words, stands.frame.long, stands.frame.as_long);
    registers = stands.frame.registers;
    words = stands.frame.words;
    inside_too = λ number has. omega (arith, descriptor_within function function_fits.taken number has, function_fits.words, stands.frame.long, stands.frame.as_long);
    descriptors = stands.frame.descriptors;
    pools = stands.frame.pools;
  }

  pub frame_long : function.frame.size ≤ length stands.bytes
  frame_long = omega (arith, stands.frame.long, stands.frame.as_long)

-- ---- a point is prepared

height_reaches : (ops : List Op) (number : ℕ) (op : Op) → slice_get ops number ≡ Some op → preparing_height op ≤ greatest_height ops
height_reaches [] number op e = absurd (cc)
height_reaches (first ∷ others) zero op e = let same : first ≡ op = cc in subst (λ o. preparing_height o ≤ max (preparing_height first) (greatest_height others)) same (omega arith)
height_reaches (first ∷ others) (suc number) op e = omega (arith, height_reaches others number op e)

pub comes_prepared : (code : PoolCode) (most : ℕ) (fits : CodeFits most code) (state : P.State) (machine : M.State) (function : Function) (place : ℕ) (stands : StandsAt code state machine function place []) (op : Op)
    → slice_get function.points state.running.at ≡ Some op → StandsIn (function_code function) place (preparing function op)
    → Comes code machine (length (preparing function op)) state function (place + length (preparing function op)) (prepared function state.running op)
comes_prepared code most fits state machine function place stands op is there =
    comes_by code most fits state machine function place [] stands (preparing function op) (prepared function state.running op)
    (point_prepares (emitted code) (emitted_function function) (top code most fits state machine function place [] stands 0 []) stands.callers machine (in_image code most fits state machine function place [] stands)
    function state.running (words_stand code most fits state machine function place [] stands) (frame_long code most fits state machine function place [] stands) op
    ((function_fits code most fits state machine function place [] stands).points state.running.at op is).0 (omega (arith, height_reaches function.points state.running.at op is)) (omega arith))
    there

-- ---- words of the frame are written

module _ (code : PoolCode) (most : ℕ) (fits : CodeFits most code) (state : P.State) (machine : M.State) (function : Function) (place : ℕ) (word number : ℕ) (operands : List ℕ)
    (stands : StandsAt code state machine function place (word ∷ (state.running.start + 8 * number) ∷ operands)) (low : number < words_in function.frame) (there : slice_get (function_code function) place ≡ Some (instrs.Store widths.Eight)) where
  abbrev after : M.State
  after = record machine { activations = activation_at state.running (place + 1) operands (over stands.bytes (8 * number) (little_bytes 8 word)) ∷ stands.callers }

  pub word_stored : M.act (emitted code) machine ≡ To (record machine { activations = activation_at state.running (place + 1) operands (over stands.bytes (8 * number) (little_bytes 8 word)) ∷ stands.callers })
  word_stored =
      let before = word ∷ (state.running.start + 8 * number) ∷ operands in
      let own = function_fits code most fits state machine function place before stands in
      let address = state.running.start + 8 * number in
      let frame = activation_at state.running (place + 1) operands stands.bytes in
      let inside : 8 * number + 8 ≤ length stands.bytes = omega (arith, low, own.words, stands.frame.long, stands.frame.as_long) in
      let covered : M.covers frame address 8 ≡ true =
      and_from (nat_le state.running.start address) (nat_le (address + 8) (state.running.start + length stands.bytes)) (le-leb state.running.start address (omega arith))
      (le-leb (address + 8) (state.running.start + length stands.bytes) (omega (arith, inside))) in
      let offset : address - state.running.start ≡ 8 * number = omega arith in
      performs code most fits state machine function place before stands (instrs.Store widths.Eight) there
      ∙ ap (λ b. store_with (if b then Some (activation_at state.running (place + 1) operands (over stands.bytes (address - state.running.start) (little_bytes 8 word)) ∷ stands.callers)
      else beneath frame (with_bytes_at stands.callers address (little_bytes 8 word))) address 8 word (frame ∷ stands.callers) (machine_at code most fits state machine function place before stands place before)) covered
      ∙ ap (λ o. To (record machine { activations = activation_at state.running (place + 1) operands (over stands.bytes o (little_bytes 8 word)) ∷ stands.callers })) offset

  stored_comes : (running : P.Activation) → running.owner ≡ state.running.owner → running.start ≡ state.running.start → FrameStands function running (over stands.bytes (8 * number) (little_bytes 8 word))
      → Comes code machine 1 (record state { running = running }) function (place + 1) operands
  stored_comes running owner start frame = record {
    later = after;
    leads = one_step (M.act (emitted code)) machine after word_stored;
    stands = record {
      bytes = over stands.bytes (8 * number) (little_bytes 8 word);
      callers = stands.callers;
      is = ap (function_of code) owner ∙ stands.is;
      activations = ap₂ (λ (o : Owner) (a : ℕ). record { function = image_number o; place = place + 1; operands = operands; start = a; bytes = over stands.bytes (8 * number) (little_bytes 8 word) } ∷ stands.callers) (sym owner) (sym start);
      frame = frame;
      waiting = stands.waiting;
      lie = record {
        stacked = stacked_as state.running state.callers running start stands.lie.stacked;
        low = omega (arith, start, stands.lie.low);
        depth = stands.lie.depth;
        globals = stands.lie.globals;
      };
      rest = record { globals = stands.rest.globals; pools = stands.rest.pools; placed = stands.rest.placed; told = stands.rest.told; input = stands.rest.input; trace = stands.rest.trace };
    };
  }

module _ (code : PoolCode) (most : ℕ) (fits : CodeFits most code) (state : P.State) (machine : M.State) (function : Function) (place : ℕ) (word : ℕ) (operands : List ℕ) where
  -- a register is written
  pub register_stored : (to : Register) (stands : StandsAt code state machine function place (word ∷ place_in function state.running to ∷ operands)) → HasRegister function.frame to
      → slice_get (function_code function) place ≡ Some (instrs.Store widths.Eight)
      → Comes code machine 1 (record state { running = record state.running { words = with_word to word state.running.words } }) function (place + 1) operands
  register_stored to stands has there =
      let own = function_fits code most fits state machine function place (word ∷ place_in function state.running to ∷ operands) stands in
      stored_comes code most fits state machine function place word (word_of_register function to) operands stands (register_within function own.taken to has) there
      (record state.running { words = with_word to word state.running.words }) refl refl (register_written most function own state.running stands.bytes stands.frame to word has)

  -- a descriptor is written
  pub descriptor_stored : (to : ℕ) (stands : StandsAt code state machine function place (word ∷ (state.running.start + 8 * word_of_descriptor function to) ∷ operands)) → HasDescriptor function.frame to
      → slice_get (function_code function) place ≡ Some (instrs.Store widths.Eight)
      → Comes code machine 1 (record state { running = record state.running { descriptors = with_descriptor to word state.running.descriptors } }) function (place + 1) operands
  descriptor_stored to stands has there =
      let own = function_fits code most fits state machine function place (word ∷ (state.running.start + 8 * word_of_descriptor function to) ∷ operands) stands in
      stored_comes code most fits state machine function place word (word_of_descriptor function to) operands stands (descriptor_within function own.taken to has) there
      (record state.running { descriptors = with_descriptor to word state.running.descriptors }) refl refl (descriptor_written most function own state.running stands.bytes stands.frame to word has)
