-- The point of a call pays for what is spent in the function: its units are no more than a tick is worth.
use Rattle.std.proofs.Common.{ℕ, suc, ◌+◌, ◌*◌, ◌<◌, refl, arith}
use Rattle.run_theory.proofs.Machines.{leads_compose}
use Rattle.ref_semantics.specs.Store.{Outcome}
use Rattle.tac_ir.specs.States.{State}
use Rattle.tac_ir.specs.Meaning.{act}
use Rattle.tac_ir.specs.Costs.{more_cost}
use Rattle.tac_ir.specs.Code.{Op, Tac}
use Rattle.tac_simulation.specs.Comparing.{ticks_per_unit}
use Rattle.tac_simulation.proofs.Paths.{Stand, Passage as Passing, Passes, Does, comes, stops, passing, answers_behind}

module _ {tac : Tac} {worth : ℕ} where
  -- a point pays: so many units more are covered, and their ticks are slack
  pub pays : {op : Op} {start mid next : State} {n left lag slack : ℕ} (slack' : ℕ) → Passing tac worth start mid n left lag slack → Passes tac op mid next → slack' + more_cost op < slack
      → Passing tac worth start next (n + worth) left lag (slack' + ticks_per_unit * worth)
  pays {op} {start} {mid} {next} slack' p passes less = record {
    took = p.took + (more_cost op + 1);
    leads = leads_compose (act tac) start mid next p.took (more_cost op + 1) (p.took + (more_cost op + 1)) refl p.leads (passing passes);
    allowed = omega arith;
    covered = omega arith;
  }

  -- what was covered beforehand is taken
  pub repaid : {start mid : State} (n left lag slack : ℕ) → Passing tac worth start mid (n + worth) left lag (slack + ticks_per_unit * worth) → Passing tac worth start mid n left lag slack
  repaid n left lag slack p = record { took = p.took; leads = p.leads; allowed = omega arith; covered = omega arith }

  -- the unit of a function and those of its body are paid for
  pub body_paid : {A : Type 0} {Stands : Stand A} {start mid : State} (n left lag units slack : ℕ) {outcome : Outcome A} → Passing tac worth start mid (n + worth) (suc left) lag (slack + ticks_per_unit * worth)
      → Does tac worth mid left units 0 Stands outcome → units < worth → Does tac worth start n lag (slack + ticks_per_unit) Stands outcome
  body_paid {start = start} {mid} n left lag units slack p (comes value s to q stands) less =
      let path : Passing tac worth start to _ s.units _ _ = record {
        took = p.took + q.took;
        leads = leads_compose (act tac) start mid to p.took q.took (p.took + q.took) refl p.leads q.leads;
        allowed = omega arith;
        covered = omega arith;
      } in
      comes value s to path stands
  body_paid n left lag units slack p (stops answer s a) less = stops answer s (answers_behind p.leads a (omega arith) (omega arith))
