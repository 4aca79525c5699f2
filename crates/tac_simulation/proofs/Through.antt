-- What an evaluation comes to behind some steps, and how it goes on from there: two accounts of one evaluation, one from where the steps
-- begin and one from where they end, give the path between.
use Rattle.std.proofs.Common.{◌≡◌, ℕ, ◌+◌, ◌*◌, refl, subst, arith}
use Rattle.run_theory.specs.Runs.{Leads, here}
use Rattle.run_theory.proofs.Machines.{leads_compose}
use Rattle.ref_semantics.specs.Store as S
use Rattle.ref_semantics.specs.Store.{Outcome, Then}
use Rattle.ref_semantics.proofs.Lasting.{then_value, then_state}
use Rattle.tac_ir.specs.States.{State}
use Rattle.tac_ir.specs.Meaning.{act}
use Rattle.tac_ir.specs.Code.{Tac}
use Rattle.tac_simulation.specs.Comparing.{ticks_per_unit}
use Rattle.tac_simulation.proofs.Paths.{Stand, Passage as Passing, Does, comes, stops}

module _ (tac : Tac) (worth : ℕ) where
  -- no step, with ticks and units granted
  pub granted : (from : State) (left more : ℕ) → Passing tac worth from from (left + more) left (more + worth) (ticks_per_unit * more)
  granted from left more = record { took = 0; leads = here from; allowed = omega arith; covered = omega arith }

  pub granted_paid : (from : State) (left more : ℕ) → Passing tac worth from from (left + more + worth) left (more + worth) (ticks_per_unit * more + ticks_per_unit * worth)
  granted_paid from left more = record { took = 0; leads = here from; allowed = omega arith; covered = omega arith }

  -- The code stands for what the evaluation comes to, behind steps from this state.
  abbrev pub Behind : {A : Type 0} → State → Stand A → Stand A
  Behind from Stands value s to = Stands value s to × ((took : ℕ) × Leads (act tac) from took to)

  -- What was granted is what the steps before have left: the ticks for which the evaluation asks.
  pub through : {A : Type 0} {Stands : Stand A} (start mid : State) (n left lag slack asks back : ℕ) (outcome : Outcome A) → Passing tac worth start mid (n + worth) left lag (slack + asks + ticks_per_unit * worth)
      → Does tac worth start n lag (slack + back) Stands outcome → Does tac worth mid (left + asks) (asks + worth) (15 * asks + back) Stands outcome → Does tac worth start n lag (slack + back) (Behind mid Stands) outcome
  through start mid n left lag slack asks back _ p (stops answer s a) does = stops answer s a
  through {A} {Stands} start mid n left lag slack asks back _ p (comes value s to q stands) does = by (Then value s) refl does
    where
      by : (outcome : Outcome A) → outcome ≡ Then value s → Does tac worth mid (left + asks) (asks + worth) (15 * asks + back) Stands outcome → Does tac worth start n lag (slack + back) (Behind mid Stands) (Then value s)
      by _ e (comes value' s' to' q' stands') =
          subst (λ last. Does tac worth start n lag (slack + back) (Behind mid Stands) (Then value last)) (then_state e)
          (subst (λ given. Does tac worth start n lag (slack + back) (Behind mid Stands) (Then given s')) (then_value e)
          (comes value' s' to' (path s' to' q') (stands', (q'.took, q'.leads))))
        where
          path : (s' : S.State) (to' : State) (q' : Passing tac worth mid to' (left + asks) s'.units (asks + worth) (15 * asks + back)) → Passing tac worth start to' n s'.units lag (slack + back)
          path s' to' q' = record {
            took = p.took + q'.took;
            leads = leads_compose (act tac) start mid to' p.took q'.took (p.took + q'.took) refl p.leads q'.leads;
            allowed = omega (arith, p.allowed, q'.allowed);
            covered = omega (arith, p.covered, q'.covered);
          }
      by _ e (stops answer s' a) = absurd (cc)
