-- On every input the machine does what code with pools does, while that isn't trapped.
use Rattle.std.proofs.Common.{◌≡◌, ℕ, zero, suc, ◌-◌, ◌*◌, ◌^◌, ◌<◌, ◌≤◌, List, [], ◌∷◌, Some, length, replicate, refl, sym, ap, ◌∙◌, subst, arith, length-append}
use Rattle.std.specs.Prelude.{slice_get}
use Rattle.std.specs.List.{AllByRecursion}
use Rattle.std.proofs.lemmas.List.{length-replicate}
use Rattle.run_theory.specs.Runs.{Move, To, Leads, SimulatesBy, steps}
use Rattle.run_theory.proofs.Machines.{locked_from}
use Rattle.run_theory.proofs.Simulations.{simulates_within}
use Rattle.slab_space.specs.declared.kind.PoolKind.{PoolKind}
use Rattle.slab_space.specs.Pools.{init_step}
use Rattle.pool_isa.specs.Machine as M
use Rattle.tac_ir.specs.States.{InStart}
use Rattle.pool_ir.specs.Code.{Action, Make, Destroy, PoolCode}
use Rattle.pool_ir.specs.States as P
use Rattle.pool_ir.specs.Meaning as meaning
use Rattle.pool_ir.specs.Meaning.{from_start, begun}
use Rattle.stack_code.specs.Emitting.{opening, words_taken, place_of, emitted}
use Rattle.stack_code.specs.Standing.{stack_events, StandsAt}
use Rattle.stack_code.specs.Fitting.{FunctionFits, CodeFits, IsMaking}
use Rattle.stack_code.specs.Following.{defined_act, defined_run, steps_for, EmittedSimulates}
use Rattle.stack_code.proofs.EnteredFrames.{entered_frame}
use Rattle.stack_code.proofs.BlockPlaces.{opening_stands, place_first}
use Rattle.stack_code.proofs.PoolStack.Ways.{three_each}
use Rattle.stack_code.proofs.Actions.{Acted, acted, stuck, acts_do}
use Rattle.stack_code.proofs.Locking.{Paying, begins, locks}

-- ---- pools are made at the entry of `start`, of kinds that are there

kind_there : (kinds : List PoolKind) (number : ℕ) → number < length kinds → (kind : PoolKind) × (slice_get kinds number ≡ Some kind)
kind_there [] number low = absurd (omega (arith, low))
kind_there (first ∷ others) zero low = (first, refl)
kind_there (first ∷ others) (suc number) low = kind_there others number (omega (arith, low))

makes_go : (code : PoolCode) (actions : List Action) → AllByRecursion (IsMaking code.kinds) actions → (state : P.State) → (later : P.State) × (P.acts code actions state To ≡ To later)
makes_go code [] all state = (state, refl)
makes_go code (Destroy descriptor ∷ others) all state = absurd all.0
makes_go code (Make descriptor number ∷ others) all state =
    let has = kind_there code.kinds number all.0 in
    let pool = suc (length state.pools.pools) in
    let next = P.emit (P.Opened pool number ∷ []) (record state {
      running = record state.running { descriptors = P.with_descriptor descriptor pool state.running.descriptors };
      pools = init_step state.pools has.0;
    }) in
    let rest = makes_go code others all.1 next in
    (rest.0, ap (λ k. P.opens descriptor number k state (λ later. P.acts code others later To)) has.1 ∙ rest.1)

module _ (code : PoolCode) (most : ℕ) (fits : CodeFits most code) (slabs index : ℕ) (input : List ℕ) where
  abbrev first : P.State
  first = meaning.initial code slabs index input

  abbrev machine_first : M.State
  machine_first = M.initial (emitted code) slabs index input

  start_fits : FunctionFits most code.start
  start_fits = fits.functions InStart code.start refl

  first_stands : StandsAt code (meaning.initial code slabs index input) (M.initial (emitted code) slabs index input) code.start 0 []
  first_stands =
      let long = length-append code.contents (replicate (code.globals - length code.contents) 0) in
      record {
        bytes = replicate (code.start.frame.size - 8 * words_taken code.start) 0;
        callers = [];
        is = refl;
        activations = refl;
        frame = entered_frame most code.start start_fits [] [] InStart (2 ^ 40) (sym fits.start.0) (sym fits.start.1) (λ number. omega arith);
        waiting = tt;
        lie = record {
          stacked = refl;
          low = omega arith;
          depth = omega arith;
          globals = omega (arith, long, length-replicate {A = ℕ} (code.globals - length code.contents) 0, fits.contents, fits.globals);
        };
        rest = record { globals = refl; pools = refl; placed = refl; told = refl; input = refl; trace = refl };
      }

  -- where `start` has made its pools
  pub record Begun : Type 0 where
    pub state : P.State
    pub machine : M.State
    pub is : begun code (from_start code (meaning.initial code slabs index input)) (meaning.initial code slabs index input) ≡ state
    pub leads : Leads (M.act (emitted code)) (M.initial (emitted code) slabs index input) (length (opening code.start)) machine
    pub paying : Paying code most fits state machine

  begins_so : Begun
  begins_so = by (acts_do code most fits code.start.entering first machine_first code.start 0 [] start_fits.entering.0 first_stands (omega arith) (opening_stands code.start))
    where
      by : Acted code most fits code.start.entering (meaning.initial code slabs index input) (M.initial (emitted code) slabs index input) code.start 0 [] → Begun
      by (acted later does kept comes) = record {
        state = later;
        machine = comes.later;
        is = ap (λ (m : Move P.State). begun code m (meaning.initial code slabs index input)) (does To);
        leads = comes.leads;
        paying = begins code most fits later comes.later (record {
          function = code.start;
          at = subst (λ (p : ℕ). StandsAt code later comes.later code.start p []) (omega (arith, place_first code.start) ∙ ap (place_of code.start) (sym kept.0)) comes.stands;
        }) kept.1;
      }
      by (stuck kind last does) =
          absurd (let going = makes_go code code.start.entering fits.making (meaning.initial code slabs index input) in
          let halted = does To in
          cc)

  pub simulated : SimulatesBy stack_events (defined_run code slabs index input) (M.mach (emitted code) slabs index input) (steps_for most) (3 * most)
  simulated =
      let b = begins_so in
      let few : length (opening code.start) ≤ 3 * most = omega (arith, three_each code.start code.start.entering, start_fits.entering.1) in
      let from = locked_from stack_events (defined_act code) (λ (s : P.State). s.trace) (M.act (emitted code)) (λ (s : M.State). s.trace) (Paying code most fits) (steps_for most) (locks code most fits) b.state b.machine
      (M.initial (emitted code) slabs index input) (length (opening code.start)) b.leads b.paying in
      simulates_within stack_events (defined_run code slabs index input) (M.mach (emitted code) slabs index input) (steps_for most) (length (opening code.start)) (steps_for most) (3 * most) (λ n. omega (arith, few))
      (subst (λ (s : P.State). SimulatesBy stack_events (λ n. steps (defined_act code) (λ (s : P.State). s.trace) n s) (M.mach (emitted code) slabs index input) (steps_for most) (length (opening code.start))) (sym b.is) from)

-- the law, over all code with pools that fits, all inputs and all limits
pub emitted_simulates : EmittedSimulates
emitted_simulates code most fits slabs index input = simulated code most fits slabs index input
