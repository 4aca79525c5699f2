-- Paths of the code along the reference's evaluation, with an account of what both spend. A tick is a step of the code. A unit of the
-- reference allows `ticks_per_unit` ticks, and the slack is how many of them are left over; a point takes what it costs. A tick is worth
-- a number of units, and the lag is how many units no tick has paid for yet.
use Rattle.std.proofs.Common.{◌≡◌, ℕ, zero, suc, ◌+◌, ◌*◌, ◌<◌, ◌≤◌, inl, Bool, true, false, if◌then◌else◌, List, Some, ap, sym, refl, subst, arith}
use Rattle.std.specs.Prelude.{slice_get}
use Rattle.run_theory.specs.declared.place.Pos.{Pos}
use Rattle.run_theory.specs.declared.ends.UbKind.{UbKind}
use Rattle.run_theory.specs.Runs.{Trace, AnswerOf, Answer, Going, Over, Final, Undefined, MatchesBy, wrong, going, ended, short, IsGoing, IsProgramEnd, Run, SimulatesBy, To, Halt, steps, Leads, here}
use Rattle.run_theory.proofs.Simulations.{simulates_from, simulates_later}
use Rattle.run_theory.proofs.Machines.{leads_steps, leads_halts, leads_compose}
use Rattle.ref_semantics.specs.Store.{State, Outcome, Then, Stopped, Eval, continue_with, undefined, spend}
use Rattle.tac_ir.specs.Events.{TacEvent, seen}
use Rattle.tac_ir.specs.States as T
use Rattle.tac_ir.specs.States.{function_of, points_of, around_of}
use Rattle.tac_ir.specs.Meaning.{execute, act}
use Rattle.tac_ir.specs.Costs.{more_cost}
use Rattle.tac_ir.specs.Code.{Op, Tac}
use Rattle.tac_ir.proofs.Paying.{with_paid, paying, paid_for, paid_to_halt, unpaid_next}
use Rattle.tac_simulation.specs.Comparing.{seen_events, ticks_per_unit}

-- which states of the code stand for a value and a state of the reference
abbrev pub Stand : Type 0 → Type 1
Stand A = A → State → T.State → Type 0

-- the code is at a point for which nothing is paid yet
pub record Before (tac : Tac) (op : Op) (from : T.State) : Type 0 where
  pub unpaid : from.paid ≡ 0
  pub stands : slice_get (points_of (function_of tac from.running.owner)) from.running.at ≡ Some op

-- it passes the point
pub record Passes (tac : Tac) (op : Op) (from to : T.State) : Type 0 where
  pub before : Before tac op from
  pub does : execute tac (around_of tac from.running) op from ≡ To to

-- it ends there
pub record Ends (tac : Tac) (op : Op) (from : T.State) (final : Final) (last : T.State) : Type 0 where
  pub before : Before tac op from
  pub does : execute tac (around_of tac from.running) op from ≡ Halt final last

module _ (tac : Tac) (worth : ℕ) where
  -- from a state of the code to a state, while the units left fall
  pub record Passage (from to : T.State) (n left lag slack : ℕ) : Type 0 where
    pub took : ℕ
    pub leads : Leads (act tac) from took to
    pub allowed : took + slack + ticks_per_unit * left ≤ ticks_per_unit * n
    pub covered : n ≤ left + lag + worth * took

  -- from a state of the code to an answer that matches
  pub record Answers (from : T.State) (n lag : ℕ) (answer : Answer) : Type 0 where
    pub took : ℕ
    pub matches : MatchesBy seen_events answer (steps (act tac) (λ state. state.trace) took from)
    pub allowed : took ≤ ticks_per_unit * n
    pub covered : IsGoing answer → n ≤ lag + worth * took

  -- From a state on the code does what an evaluation comes to: it goes to a state that stands for the value and the
  -- reference's state, or it answers alike.
  pub data Does {A : Type 0} (from : T.State) (n lag slack : ℕ) (Stands : Stand A) : Outcome A → Type 0 where
    comes : (value : A) (s : State) (to : T.State) → Passage from to n s.units lag slack → Stands value s to → Does from n lag slack Stands (Then value s)
    stops : (answer : Answer) (s : State) → Answers from n lag answer → Does from n lag slack Stands (Stopped answer s)

-- where code stands among the points of the function that runs
pub before_op : (tac : Tac) (points : List Op) (owner : T.Owner) (at : ℕ) (op : Op) (state : T.State) → points_of (function_of tac owner) ≡ points → slice_get points at ≡ Some op →
    state.running.owner ≡ owner → state.running.at ≡ at → state.paid ≡ 0 → Before tac op state
before_op tac points owner at op state own stands same there unpaid = record { unpaid = unpaid; stands = cc }

-- a point takes so many steps
pub passing : {tac : Tac} {op : Op} {from to : T.State} → Passes tac op from to → Leads (act tac) from (more_cost op + 1) to
passing {tac} {op} {from} {to} p = paid_for tac op from p.before.stands p.before.unpaid to p.does

-- nothing is paid yet for the next point
pub next_unpaid : {tac : Tac} {op : Op} {from to : T.State} → Passes tac op from to → to.paid ≡ 0
next_unpaid {tac} {op} {from} {to} p = unpaid_next tac (around_of tac from.running) op from to p.does

module _ {tac : Tac} {worth : ℕ} where
  -- no step
  pub start : (from : T.State) (n : ℕ) → Passage tac worth from from n n 0 0
  start from n = record { took = 0; leads = here from; allowed = omega arith; covered = omega arith }

  -- more lag and less slack
  pub eased : {from to : T.State} {n left lag lag' slack slack' : ℕ} →
      Passage tac worth from to n left lag slack → lag ≤ lag' → slack' ≤ slack → Passage tac worth from to n left lag' slack'
  eased p more less = record { took = p.took; leads = p.leads; allowed = omega arith; covered = omega arith }

  -- a unit is spent
  pub spent : {from to : T.State} {n left lag slack : ℕ} →
      Passage tac worth from to n (suc left) lag slack → Passage tac worth from to n left (suc lag) (ticks_per_unit + slack)
  spent p = record { took = p.took; leads = p.leads; allowed = omega arith; covered = omega arith }

  -- one point more
  pub stepped : {op : Op} {from mid to : T.State} {n left lag lag' slack slack' : ℕ} →
      Passage tac worth from mid n left lag slack → Passes tac op mid to → lag ≤ lag' → slack' + more_cost op < slack → Passage tac worth from to n left lag' slack'
  stepped {op} {from} {mid} {to} p passes more less = record {
    took = p.took + (more_cost op + 1);
    leads = leads_compose (act tac) from mid to p.took (more_cost op + 1) (p.took + (more_cost op + 1)) refl p.leads (passing passes);
    allowed = omega arith;
    covered = omega arith;
  }

  -- one point more, and so much slack is left
  pub moved : {op : Op} {from mid to : T.State} {n left lag slack : ℕ} (slack' : ℕ) →
      Passage tac worth from mid n left lag slack → Passes tac op mid to → slack' + more_cost op < slack → Passage tac worth from to n left lag slack'
  moved slack' p passes less = stepped p passes (omega arith) less

  -- one point more, which costs one step, for one of the slack
  pub onward : {op : Op} {from mid to : T.State} {n left lag slack : ℕ} →
      Passage tac worth from mid n left lag (suc slack) → Passes tac op mid to → more_cost op ≡ 0 → Passage tac worth from to n left lag slack
  onward p passes cheap = stepped p passes (omega arith) (omega arith)

  pub slower : {from to : T.State} {n left lag slack : ℕ} (slack' : ℕ) → Passage tac worth from to n left lag slack → slack' ≤ slack → Passage tac worth from to n left lag slack'
  slower slack' p less = eased p (omega arith) less

  -- an answer behind some steps
  pub answers_behind : {from mid : T.State} {n left lag lag' took : ℕ} {answer : Answer} →
      Leads (act tac) from took mid → Answers tac worth mid left lag answer → took + ticks_per_unit * left ≤ ticks_per_unit * n → n + lag ≤ left + lag' + worth * took → Answers tac worth from n lag' answer
  answers_behind {from} {mid} {took = took} {answer} leads a allowed covered =
      let there = leads_steps (act tac) (λ state. state.trace) from mid took leads a.took in
      record {
        took = there.0;
        matches = subst (MatchesBy seen_events answer) (sym there.2) a.matches;
        allowed = omega (arith, there.1);
        covered = λ g. let e = a.covered g in omega (arith, ap (λ k. worth * k) there.1);
      }

  -- the code is still going where the reference has no unit left
  pub comes_seen : {from to : T.State} {n lag slack : ℕ} {trace : Trace} →
      Passage tac worth from to n 0 lag slack → seen to.trace ≡ trace → Answers tac worth from n lag (Going trace)
  comes_seen {from} {to} {n} {lag} {slack} {trace} p same =
      let none : Answers tac worth to 0 0 (Going trace) = record { took = 0; matches = going trace to.trace same; allowed = omega arith; covered = λ g. omega arith } in
      answers_behind p.leads none (omega arith) (omega arith)

  -- the code ends as the reference does
  pub ends_seen : {op : Op} {from mid last : T.State} {n left lag slack : ℕ} {final : Final} {trace : Trace} →
      Passage tac worth from mid n left lag slack → Ends tac op mid final last → more_cost op < slack → seen last.trace ≡ trace → IsProgramEnd final → Answers tac worth from n lag (Over final trace)
  ends_seen {op} {from} {mid} {last} {n} {left} {lag} {slack} {final} {trace} p ends less same program_end =
      let leads = leads_compose (act tac) from mid _ p.took (more_cost op) (p.took + more_cost op) refl p.leads (paying tac op mid ends.before.stands ends.before.unpaid) in
      let over = leads_halts (act tac) (λ state. state.trace) from _ (with_paid (more_cost op) last) (p.took + more_cost op) (p.took + more_cost op + 1) final refl leads (paid_to_halt tac op mid ends.before.stands ends.before.unpaid final last ends.does) in
      record {
        took = p.took + more_cost op + 1;
        matches = subst (MatchesBy seen_events (Over final trace)) (sym over) (ended final trace last.trace same (inl program_end));
        allowed = omega arith;
        covered = λ g. absurd g;
      }

  -- what an evaluation comes to behind a path
  pub along : {A : Type 0} {Stands : Stand A} {from mid : T.State} {n left lag lag' slack slack' : ℕ} {outcome : Outcome A} →
      Passage tac worth from mid n left lag slack → Does tac worth mid left lag' slack' Stands outcome → Does tac worth from n (lag + lag') (slack + slack') Stands outcome
  along {from = from} {mid} p (comes value s to q stands) =
      let path : Passage tac worth from to _ s.units _ _ = record {
        took = p.took + q.took;
        leads = leads_compose (act tac) from mid to p.took q.took (p.took + q.took) refl p.leads q.leads;
        allowed = omega arith;
        covered = omega arith;
      } in
      comes value s to path stands
  along p (stops answer s a) = stops answer s (answers_behind p.leads a (omega arith) (omega arith))

  -- Behind a path and a point, which pays for both lags, where they are worth no more. A loop has such a point in each
  -- turn, so it falls no further behind.
  pub turn : {A : Type 0} {Stands : Stand A} {op : Op} {from mid next : T.State} {n left lag lag' slack slack' slack'' : ℕ} {outcome : Outcome A} →
      Passage tac worth from mid n left lag slack → Passes tac op mid next → Does tac worth next left lag' slack' Stands outcome →
      lag + lag' ≤ worth → more_cost op < slack → slack'' + more_cost op < slack + slack' → Does tac worth from n 0 slack'' Stands outcome
  turn {op = op} {from = from} {mid = mid} {next = next} p passes (comes value s to q stands) most some less =
      let leads = leads_compose (act tac) from mid next p.took (more_cost op + 1) (p.took + (more_cost op + 1)) refl p.leads (passing passes) in
      let path : Passage tac worth from to _ s.units _ _ = record {
        took = p.took + (more_cost op + 1) + q.took;
        leads = leads_compose (act tac) from next to (p.took + (more_cost op + 1)) q.took (p.took + (more_cost op + 1) + q.took) refl leads q.leads;
        allowed = omega arith;
        covered = omega arith;
      } in
      comes value s to path stands
  turn {op = op} {from = from} {mid = mid} {next = next} p passes (stops answer s a) most some less =
      let leads = leads_compose (act tac) from mid next p.took (more_cost op + 1) (p.took + (more_cost op + 1)) refl p.leads (passing passes) in
      stops answer s (answers_behind leads a (omega arith) (omega arith))

  pub eases : {A : Type 0} {Stands : Stand A} {from : T.State} {n lag lag' slack slack' : ℕ} {outcome : Outcome A} →
      Does tac worth from n lag slack Stands outcome → lag ≤ lag' → slack' ≤ slack → Does tac worth from n lag' slack' Stands outcome
  eases (comes value s to p stands) more less = comes value s to (eased p more less) stands
  eases {from = from} (stops answer s a) more less = stops answer s (answers_behind (here from) a (omega arith) (omega arith))

  -- other states stand for the value, too
  pub allows : {A : Type 0} {Stands Stands' : Stand A} {from : T.State} {n lag slack : ℕ} {outcome : Outcome A} →
      Does tac worth from n lag slack Stands outcome → ((value : A) (s : State) (to : T.State) → Stands value s to → Stands' value s to) → Does tac worth from n lag slack Stands' outcome
  allows (comes value s to p stands) also = comes value s to p (also value s to stands)
  allows (stops answer s a) also = stops answer s a

  -- one evaluation, and then another
  pub bind : {A B : Type 0} {Stands : Stand A} {Stands' : Stand B} {from : T.State} {n lag lag' slack slack' : ℕ} {outcome : Outcome A} (next : A → Eval B) →
      Does tac worth from n lag slack Stands outcome → lag ≤ lag' →
      ((value : A) (s : State) (to : T.State) → Passage tac worth from to n s.units lag slack → Stands value s to → Does tac worth from n lag' slack' Stands' (next value s)) →
      Does tac worth from n lag' slack' Stands' (continue_with next outcome)
  bind next (comes value s to p stands) more rest = rest value s to p stands
  bind {from = from} next (stops answer s a) more rest = stops answer s (answers_behind (here from) a (omega arith) (omega arith))

  -- a unit is spent, where there is one left
  pub enter : {A : Type 0} {Stands : Stand A} {from : T.State} {n units lag lag' slack slack' : ℕ} (rest : Eval A) (to : T.State) (s : State) →
      Passage tac worth from to n units lag slack → seen to.trace ≡ s.trace → lag ≤ lag' →
      ((left : ℕ) → Passage tac worth from to n left (suc lag) (ticks_per_unit + slack) → Does tac worth from n lag' slack' Stands (rest (record s { units = left }))) →
      Does tac worth from n lag' slack' Stands (spend rest units s)
  enter {units = zero} rest to s p same more next = stops (Going s.trace) s (comes_seen {slack = 0} (eased p more (omega arith)) same)
  enter {units = suc left} rest to s p same more next = next left (spent p)

  -- where the reference is undefined, any answer will do
  pub stray : {A : Type 0} {Stands : Stand A} {from : T.State} {n lag slack : ℕ} (kind : UbKind) (place : Pos) (s : State) → Does tac worth from n lag slack Stands (undefined {A = A} kind place s)
  stray kind place s = stops (Over (Undefined kind place) s.trace) s (record { took = 0; matches = wrong _ _ tt; allowed = omega arith; covered = λ g. absurd g })

  -- one of two ways
  pub chosen : {A : Type 0} {Stands : Stand A} {from : T.State} {n lag slack : ℕ} (test : Bool) (first second : Eval A) (s : State) →
      (test ≡ true → Does tac worth from n lag slack Stands (first s)) → (test ≡ false → Does tac worth from n lag slack Stands (second s)) →
      Does tac worth from n lag slack Stands ((if test then first else second) s)
  chosen true first second s holds fails = holds refl
  chosen false first second s holds fails = fails refl

-- what a match says of code where the reference is still going: it is going, too, and has the same events
pub going_seen : (trace : Trace) (answer : AnswerOf TacEvent) → MatchesBy seen_events (Going trace) answer → (trace' : List TacEvent) × (answer ≡ Going trace') × (seen trace' ≡ trace)
going_seen trace answer (wrong _ _ undefined) = absurd undefined
going_seen trace answer (going _ trace' same) = (trace', refl, same)
going_seen trace answer (short _ final trace' limit refused) = absurd (let never = refused.refused in cc)

-- code that answers alike, however many units the reference has, stands for it
pub simulates : (tac : Tac) (worth lag : ℕ) (front : Run) (from : T.State) → ((n : ℕ) → Answers tac worth from n lag (front n)) →
    SimulatesBy seen_events front (λ n. steps (act tac) (λ state. state.trace) n from) ticks_per_unit 0
simulates tac worth lag front from answers =
    simulates_from seen_events front (λ n. steps (act tac) (λ state. state.trace) n from) ticks_per_unit 0 lag worth (λ n. let a = answers n in (a.took, omega (arith, a.allowed), a.matches, a.covered))

-- the same from a state some steps before
pub simulates_behind : (tac : Tac) (worth lag : ℕ) (front : Run) (first from : T.State) (k : ℕ) → Leads (act tac) first k from → ((n : ℕ) → Answers tac worth from n lag (front n)) →
    SimulatesBy seen_events front (λ n. steps (act tac) (λ state. state.trace) n first) ticks_per_unit k
simulates_behind tac worth lag front first from k leads answers =
    simulates_later seen_events front (λ n. steps (act tac) (λ state. state.trace) n from) (λ n. steps (act tac) (λ state. state.trace) n first) ticks_per_unit 0 k k
    (leads_steps (act tac) (λ state. state.trace) first from k leads) (omega arith) (simulates tac worth lag front from answers)
