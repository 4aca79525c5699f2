-- The machine goes in step with code with pools: what prepares a point is divided among the payments for it.
use Rattle.std.proofs.Common.{◌≡◌, ℕ, zero, suc, ◌+◌, ◌-◌, ◌*◌, ◌<◌, ◌≤◌, ◌⊎◌, inl, inr, Bool, true, false, List, [], ◌∷◌, ◌++◌, Option, Some, None, length, refl, sym, ap, ◌∙◌, subst, arith, append-nil, length-append}
use Rattle.std.specs.Prelude.{slice_get, nat_lt, if◌then◌else◌}
use Rattle.std.proofs.lemmas.Bool.{cases_lt, ltb-true, ltb-false}
use Rattle.run_theory.specs.Runs
use Rattle.run_theory.proofs.Machines.{leads_compose}
use Rattle.run_theory.specs.Runs.{Final, Move, To, Halt, Trapped, Leads, here, onward, IsPrefix, IsProgramEnd, IsResourceEnd, IsWrong, KeepsTrace, LocksBy}
use Rattle.run_theory.proofs.Traces.{prefix_refl, prefix_trans}
use Rattle.pool_isa.specs.Machine as M
use Rattle.tac_ir.specs.Events.{seen}
use Rattle.pool_ir.specs.Code.{Op, PoolCode}
use Rattle.pool_ir.specs.States as P
use Rattle.pool_ir.specs.States.{same}
use Rattle.pool_ir.specs.Meaning as meaning
use Rattle.pool_ir.specs.Meaning.{more_cost, execute}
use Rattle.stack_code.specs.Emitting.{emitted}
use Rattle.stack_code.specs.Standing.{stack_events, Stands}
use Rattle.stack_code.specs.Fitting.{CodeFits}
use Rattle.stack_code.specs.Following.{unless_trapped, defined_act, Answers, goes, ends, traps as is_trapped, finishing_steps, PointFollows, steps_for}
use Rattle.stack_code.proofs.KeptTraces.{machine_keeps}
use Rattle.stack_code.proofs.AllPoints.{each_point}

-- ---- steps in a row

leads_front : (act : M.State → Move M.State) (k rest r : ℕ) (from to : M.State) → Leads act from r to → r ≡ k + rest → (middle : M.State) × Leads act from k middle × Leads act middle rest to
leads_front act zero rest r from to leads e = (from, here from, subst (λ n. Leads act from n to) (omega (arith, e)) leads)
leads_front act (suc k) rest _ from _ (here _) e = absurd (omega (arith, e))
leads_front act (suc k) rest _ from to (onward _ next _ n step more) e =
    let further = leads_front act k rest n next to more (omega (arith, e)) in
    (further.0, onward from next further.0 k step further.1, further.2)

leads_keep : (code : M.Code) (r : ℕ) (from to : M.State) → Leads (M.act code) from r to → IsPrefix from.trace to.trace
leads_keep code _ from _ (here _) = prefix_refl from.trace
leads_keep code _ from to (onward _ next _ n step more) =
    prefix_trans from.trace next.trace to.trace (by (M.act code from) step (machine_keeps code from)) (leads_keep code n next to more)
  where
    by : (move : Move M.State) → move ≡ To next → KeepsTrace (λ (s : M.State). s.trace) from move → IsPrefix from.trace next.trace
    by (To other) e kept = let same_state : other ≡ next = cc in subst (λ (s : M.State). IsPrefix from.trace s.trace) same_state kept
    by (Halt final other) e kept = absurd (cc)

-- what begins with a list, and is the front of something as long, is that list
between : {X : Type 0} → (a b c : List X) → IsPrefix a b → IsPrefix b c → c ≡ a → b ≡ a
between a b c first second e =
    let long = length-append a first.0 in
    let more = length-append b second.0 in
    let none : length first.0 ≡ 0 = omega (arith, long, more, ap length first.1, ap length second.1, ap length e) in
    first.1 ∙ empty first.0 none
  where
    empty : (rest : List _) → length rest ≡ 0 → a ++ rest ≡ a
    empty [] none = append-nil a
    empty (x ∷ rest) none = absurd (omega (arith, none))

module _ (code : PoolCode) (most : ℕ) (fits : CodeFits most code) where
  -- so much is paid
  pub repaid : (state : P.State) (machine : M.State) → Stands code state machine → (paid : ℕ) → Stands code (record state { paid = paid }) machine
  repaid state machine stands paid = record {
    function = stands.function;
    at = record {
      bytes = stands.at.bytes;
      callers = stands.at.callers;
      is = stands.at.is;
      activations = stands.at.activations;
      frame = stands.at.frame;
      waiting = stands.at.waiting;
      lie = record { stacked = stands.at.lie.stacked; low = stands.at.lie.low; depth = stands.at.lie.depth; globals = stands.at.lie.globals };
      rest = record {
        globals = stands.at.rest.globals;
        pools = stands.at.rest.pools;
        placed = stands.at.rest.placed;
        told = stands.at.rest.told;
        input = stands.at.rest.input;
        trace = stands.at.rest.trace;
      };
    };
  }

  abbrev IsAt : P.State → Op → Type 0
  IsAt state op = slice_get (P.points_of (P.function_of code state.running.owner)) state.running.at ≡ Some op

  -- what is known of a point, once all is paid
  abbrev followed : (first : P.State) (base : M.State) → Stands code first base → (op : Op) → IsAt first op → PointFollows code most (record first { paid = more_cost op }) base op
  followed first base stands op is = each_point code most fits (record first { paid = more_cost op }) base (repaid first base stands (more_cost op)) op is

  -- from here so many steps lead to where the point is prepared: at least as many as payments are left, and not many more
  pub record Left (first : P.State) (base : M.State) (stands : Stands code first base) (paid : ℕ) (machine : M.State) (op : Op) (is : IsAt first op) : Type 0 where
    pub steps : ℕ
    pub leads : Leads (M.act (emitted code)) machine steps (each_point code most fits (record first { paid = more_cost op }) base (repaid first base stands (more_cost op)) op is).ready
    pub enough : more_cost op ≤ paid + steps
    pub few : steps + 8 * paid ≤ 8 * more_cost op + (8 + 2 * most)
    pub within : paid ≤ more_cost op

  abbrev pub LeftAt : (first : P.State) (base : M.State) → Stands code first base → ℕ → M.State → (found : Option Op) → slice_get (P.points_of (P.function_of code first.running.owner)) first.running.at ≡ found → Type 0
  LeftAt first base stands paid machine None is = Unit {0}
  LeftAt first base stands paid machine (Some op) is = Left first base stands paid machine op is

  pub record Paying (state : P.State) (machine : M.State) : Type 0 where
    pub first : P.State
    pub base : M.State
    pub stands : Stands code first base
    pub paid : ℕ
    pub is : state ≡ record first { paid = paid }
    pub quiet : machine.trace ≡ seen (same first.trace)
    pub found : Option Op
    pub found_is : slice_get (P.points_of (P.function_of code first.running.owner)) first.running.at ≡ found
    pub left : LeftAt first base stands paid machine found found_is

  -- at the beginning of a point nothing is paid
  pub begins : (state : P.State) (machine : M.State) → Stands code state machine → state.paid ≡ 0 → Paying state machine
  begins state machine stands none = record {
    first = state;
    base = machine;
    stands = stands;
    paid = 0;
    is = λ i. record state { paid = none i };
    quiet = stands.at.rest.trace;
    found = slice_get (P.points_of (P.function_of code state.running.owner)) state.running.at;
    found_is = refl;
    left = by (slice_get (P.points_of (P.function_of code state.running.owner)) state.running.at) refl;
  }
    where
      by : (found : Option Op) (is : slice_get (P.points_of (P.function_of code state.running.owner)) state.running.at ≡ found) → LeftAt state machine stands 0 machine found is
      by None is = tt
      by (Some op) is =
          let follows = followed state machine stands op is in
          record { steps = follows.prepared; leads = follows.leads; enough = omega (arith, follows.enough); few = omega (arith, follows.few); within = omega arith }

  abbrev Goes : P.State → M.State → Type 0
  Goes next machine = (k : ℕ) × (later : M.State) × (1 ≤ k) × (k ≤ steps_for most) × Leads (M.act (emitted code)) machine k later × Paying next later

  abbrev Halts : Final → P.State → M.State → Type 0
  Halts final last machine =
      IsWrong final
      ⊎ ((k : ℕ) × (before later : M.State) × (k + 1 ≤ steps_for most) × Leads (M.act (emitted code)) machine k before × (M.act (emitted code) before ≡ Halt final later) × (later.trace ≡ seen (same last.trace))
      × (IsProgramEnd final ⊎ IsResourceEnd final))

  -- one step, in both
  pub data Steps (machine : M.State) : Move P.State → Type 0 where
    on : (next : P.State) → Goes next machine → Steps machine (To next)
    over : (final : Final) (last : P.State) → Halts final last machine → Steps machine (Halt final last)

  -- an end that isn't a trap stays
  ended_stays : (final : Final) (last : P.State) → IsProgramEnd final ⊎ IsResourceEnd final → unless_trapped (Halt final last) ≡ Halt final last
  ended_stays (Runs.Ended status) last kind = refl
  ended_stays Runs.DepthReached last kind = refl
  ended_stays (Runs.Undefined kind place) last own = refl
  ended_stays Runs.HeapExhausted last kind = refl
  ended_stays Runs.IndexExhausted last kind = refl
  ended_stays (Trapped kind) last (inl impossible) = absurd impossible
  ended_stays (Trapped kind) last (inr impossible) = absurd impossible

  done : (machine ready : M.State) (r : ℕ) (move : Move P.State) → r ≤ 8 + 2 * most → Leads (M.act (emitted code)) machine r ready → Answers code (finishing_steps most) ready move → Steps machine (unless_trapped move)
  done machine ready r _ few leads (goes next later taken low high more stands paid) =
      on next (r + taken, later, omega (arith, low), omega (arith, few, high), leads_compose (M.act (emitted code)) machine ready later r taken (r + taken) refl leads more, begins next later stands paid)
  done machine ready r _ few leads (ends final last before later taken high more halts same_trace kind) =
      subst (Steps machine) (sym (ended_stays final last kind))
      (over final last (inr (r + taken, before, later, omega (arith, few, high), leads_compose (M.act (emitted code)) machine ready before r taken (r + taken) refl leads more, halts, same_trace, kind)))
  done machine ready r _ few leads (is_trapped kind last) = over _ last (inl tt)

  -- one more is paid
  module _ (first : P.State) (base : M.State) (stands : Stands code first base) (paid : ℕ) (machine : M.State) (quiet : machine.trace ≡ seen (same first.trace)) (op : Op) (is : IsAt first op)
      (left : Left first base stands paid machine op is) where
    pays_by : (k rest : ℕ) → 1 ≤ k → k ≤ 8 → left.steps ≡ k + rest → more_cost op ≤ suc paid + rest → rest + 8 * suc paid ≤ 8 * more_cost op + (8 + 2 * most) → suc paid ≤ more_cost op → Goes (record first { paid = suc paid }) machine
    pays_by k rest low high sum enough few within =
        let follows = followed first base stands op is in
        let parts = leads_front (M.act (emitted code)) k rest left.steps machine follows.ready left.leads sum in (
          k,
          parts.0,
          low,
          omega (arith, high),
          parts.1,
          record {
            first = first;
            base = base;
            stands = stands;
            paid = suc paid;
            is = refl;
            quiet =
                between machine.trace parts.0.trace follows.ready.trace (leads_keep (emitted code) k machine parts.0 parts.1) (leads_keep (emitted code) rest parts.0 follows.ready parts.2)
                (follows.quiet ∙ stands.at.rest.trace ∙ sym quiet)
                ∙ quiet;
            found = Some op;
            found_is = is;
            left = record { steps = rest; leads = parts.2; enough = enough; few = few; within = within };
          },
        )

    pays : paid < more_cost op → Goes (record first { paid = suc paid }) machine
    pays less = by (cases_lt (8 * more_cost op + (8 + 2 * most)) (left.steps + 8 * paid + 7))
      where
        by : (8 * more_cost op + (8 + 2 * most) < left.steps + 8 * paid + 7) ⊎ (left.steps + 8 * paid + 7 ≤ 8 * more_cost op + (8 + 2 * most)) → Goes (record first { paid = suc paid }) machine
        by (inl many) =
            pays_by 8 (left.steps - 8) (omega arith) (omega arith) (omega (arith, many, less)) (omega (arith, many, less, left.enough)) (omega (arith, many, less, left.few)) (omega (arith, less))
        by (inr few) =
            pays_by 1 (left.steps - 1) (omega arith) (omega arith) (omega (arith, less, left.enough)) (omega (arith, less, left.enough)) (omega (arith, less, left.enough, few)) (omega (arith, less))

    point_steps : Steps machine (unless_trapped (if nat_lt paid (more_cost op) then To (record first { paid = suc paid }) else execute code op (record first { paid = paid })))
    point_steps = by (nat_lt paid (more_cost op)) refl
      where
        by : (b : Bool) → nat_lt paid (more_cost op) ≡ b → Steps machine (unless_trapped (if b then To (record first { paid = suc paid }) else execute code op (record first { paid = paid })))
        by true less = on (record first { paid = suc paid }) (pays (ltb-true paid (more_cost op) less))
        by false more =
            let all : more_cost op ≡ paid = omega (arith, ltb-false paid (more_cost op) more, left.within) in
            let follows = followed first base stands op is in
            done machine follows.ready left.steps (execute code op (record first { paid = paid })) (omega (arith, left.few, all)) left.leads
            (subst (λ n. Answers code (finishing_steps most) follows.ready (execute code op (record first { paid = n }))) all follows.does)

  step_of : (first : P.State) (base : M.State) (stands : Stands code first base) (paid : ℕ) (machine : M.State) → machine.trace ≡ seen (same first.trace) → (found : Option Op)
      (is : slice_get (P.points_of (P.function_of code first.running.owner)) first.running.at ≡ found) → LeftAt first base stands paid machine found is → Steps machine (defined_act code (record first { paid = paid }))
  step_of first base stands paid machine quiet None is left =
      subst (λ f. Steps machine (unless_trapped (meaning.act_at code f (record first { paid = paid })))) (sym is) (over _ (record first { paid = paid }) (inl tt))
  step_of first base stands paid machine quiet (Some op) is left =
      subst (λ f. Steps machine (unless_trapped (meaning.act_at code f (record first { paid = paid })))) (sym is) (point_steps first base stands paid machine quiet op is left)

  pub steps_together : (state : P.State) (machine : M.State) → Paying state machine → Steps machine (defined_act code state)
  steps_together state machine p =
      subst (λ (s : P.State). Steps machine (defined_act code s)) (sym p.is) (step_of p.first p.base p.stands p.paid machine p.quiet p.found p.found_is p.left)

  goes_by : (machine : M.State) (move : Move P.State) (next : P.State) → Steps machine move → move ≡ To next → Goes next machine
  goes_by machine _ next (on other ahead) e = let same_state : other ≡ next = cc in subst (λ (s : P.State). Goes s machine) same_state ahead
  goes_by machine _ next (over final last halts) e = absurd (cc)

  halts_by : (machine : M.State) (move : Move P.State) (final : Final) (last : P.State) → Steps machine move → move ≡ Halt final last → Halts final last machine
  halts_by machine _ final last (on other ahead) e = absurd (cc)
  halts_by machine _ final last (over own other halts) e =
      let one : own ≡ final = cc in
      let two : other ≡ last = cc in
      subst (λ (f : Final). Halts f last machine) one (subst (λ (s : P.State). Halts own s machine) two halts)

  pub locks : LocksBy stack_events (defined_act code) (λ (s : P.State). s.trace) (M.act (emitted code)) (λ (s : M.State). s.trace) Paying (steps_for most)
  locks = record {
    traces = λ state machine p. p.quiet ∙ ap (λ (s : P.State). seen (same s.trace)) (sym p.is);
    goes_on = λ state next machine p e. goes_by machine (defined_act code state) next (steps_together state machine p) e;
    halts = λ state last machine final p e. halts_by machine (defined_act code state) final last (steps_together state machine p) e;
  }
