-- What is compared more coarsely still agrees: runs that agree by the events of three-address code do so by those of the reference.
use Rattle.std.proofs.Common.{◌≡◌, ℕ, ◌^◌, ◌≤◌, Bool, true, List, [], ◌∷◌, ◌++◌, refl, sym, ap, subst, ◌∙◌}
use Rattle.std.specs.Prelude.{nat_lt}
use Rattle.std.proofs.lemmas.Bool.{false≢true}
use Rattle.run_theory.specs.Runs.{Event, Allocated, Final, Ended, DepthReached, Undefined, HeapExhausted, IndexExhausted, Trapped, AnswerOf, Comparison, Appends, Refused, MatchesBy, wrong, going, ended, short, RunOf, SimulatesBy}
use Rattle.slab_space.specs.Needs.{needs}
use Rattle.tac_ir.specs.Events.{TacEvent, Wrote, Entered, Left, Made, Released, ReadFrom, WroteTo, Crossed, seen}
use Rattle.tac_ir.specs.First.{tac_run}
use Rattle.tac_ir.proofs.Seen.{seen_append}
use Rattle.tac_ir.specs.Code.{Tac}
use Rattle.pool_ir.specs.Meaning.{pool_run}
use Rattle.pool_rewrite.specs.Plan.{Plan, one_pool}
use Rattle.pool_rewrite.specs.Rewriting.{rewritten}
use Rattle.pool_simulation.specs.FirstValues.{HasFirstValues}
use Rattle.pool_simulation.specs.InStep.{Fits}
use Rattle.pool_simulation.specs.Comparing.{made_in, refuses_with, allocated_in, refuses_seen, pool_events, seen_pool_events}
use Rattle.pool_simulation.specs.Serving.{code_of, Serves}
use Rattle.pool_simulation.proofs.Simulated.{plan_simulates, one_pool_simulates}

-- ---- under a map of what is seen

module _ {E F C D : Type 0} (by : Comparison E F C) (view : List C → List D) (appends : Appends view) (refuses : Final → List D → D → Bool)
    (kept : (final : Final) (trace : List C) (event : C) → by.refuses final trace event ≡ true → (shown : D) × (refuses final (view trace) shown ≡ true) × (view (event ∷ []) ≡ shown ∷ [])) where
  abbrev pub coarser : Comparison E F D
  coarser = record { in_front = λ trace. view (by.in_front trace); behind = λ trace. view (by.behind trace); refuses = refuses }

  refused_coarser : (final : Final) (trace : List F) (whole : List C) → Refused by final trace whole → Refused coarser final trace (view whole)
  refused_coarser final trace whole refused =
      let one = kept final (by.behind trace) refused.event refused.refused in
      let front : view (by.behind trace ++ refused.event ∷ []) ≡ view (by.behind trace) ++ one.0 ∷ [] =
      appends (by.behind trace) (refused.event ∷ []) ∙ ap (λ (last : List D). view (by.behind trace) ++ last) one.2 in
      record {
        event = one.0;
        refused = one.1;
        next = (
          view refused.next.0,
          ap view refused.next.1 ∙ appends (by.behind trace ++ refused.event ∷ []) refused.next.0 ∙ ap (λ (first : List D). first ++ view refused.next.0) front,
        );
      }

  matches_coarser : (a : AnswerOf E) (b : AnswerOf F) → MatchesBy by a b → MatchesBy coarser a b
  matches_coarser a b (wrong _ _ is) = wrong a b is
  matches_coarser _ _ (going trace trace' same) = going trace trace' (ap view same)
  matches_coarser _ _ (ended final trace trace' same kind) = ended final trace trace' (ap view same) kind
  matches_coarser a _ (short _ final trace' limit refused) = short a final trace' limit (refused_coarser final trace' _ refused)

  pub simulates_coarser : (front : RunOf E) (behind : RunOf F) (factor constant : ℕ) → SimulatesBy by front behind factor constant → SimulatesBy coarser front behind factor constant
  simulates_coarser front behind factor constant simulates = record {
    at = simulates.at;
    bound = simulates.bound;
    matches = λ n. matches_coarser (front n) (behind (simulates.at n)) (simulates.matches n);
    pace = simulates.pace;
  }

-- ---- the events of the reference

-- the sizes of the allocations are among them
allocated_made : (trace : List TacEvent) → allocated_in (seen trace) ≡ made_in trace
allocated_made [] = refl
allocated_made (Wrote byte ∷ trace) = allocated_made trace
allocated_made (Entered site number ∷ trace) = allocated_made trace
allocated_made (Left ∷ trace) = allocated_made trace
allocated_made (Made site object size ∷ trace) = ap (λ (sizes : List ℕ). size ∷ sizes) (allocated_made trace)
allocated_made (Released site object ∷ trace) = allocated_made trace
allocated_made (ReadFrom object ∷ trace) = allocated_made trace
allocated_made (WroteTo object ∷ trace) = allocated_made trace
allocated_made (Crossed from to ∷ trace) = allocated_made trace

-- what is refused is seen, too
refuses_alike : (slabs : ℕ) (final : Final) (trace : List TacEvent) (event : TacEvent) → refuses_with slabs final trace event ≡ true
    → (shown : Event) × (refuses_seen slabs final (seen trace) shown ≡ true) × (seen (event ∷ []) ≡ shown ∷ [])
refuses_alike slabs HeapExhausted trace (Made site object size) is =
    (Allocated object size, subst (λ (sizes : List ℕ). nat_lt slabs (needs (size ∷ sizes)) ≡ true) (sym (allocated_made trace)) is, refl)
refuses_alike slabs HeapExhausted trace (Wrote byte) is = absurd (false≢true is)
refuses_alike slabs HeapExhausted trace (Entered site number) is = absurd (false≢true is)
refuses_alike slabs HeapExhausted trace Left is = absurd (false≢true is)
refuses_alike slabs HeapExhausted trace (Released site object) is = absurd (false≢true is)
refuses_alike slabs HeapExhausted trace (ReadFrom object) is = absurd (false≢true is)
refuses_alike slabs HeapExhausted trace (WroteTo object) is = absurd (false≢true is)
refuses_alike slabs HeapExhausted trace (Crossed from to) is = absurd (false≢true is)
refuses_alike slabs (Ended status) trace event is = absurd (false≢true is)
refuses_alike slabs DepthReached trace event is = absurd (false≢true is)
refuses_alike slabs (Undefined kind place) trace event is = absurd (false≢true is)
refuses_alike slabs IndexExhausted trace event is = absurd (false≢true is)
refuses_alike slabs (Trapped kind) trace event is = absurd (false≢true is)

-- ---- whole runs

-- The code with pools of a plan whose pools serve simulates three-address code by what the reference tells.
pub plan_seen : (tac : Tac) (plan : Plan) (slabs : ℕ) → Serves tac plan slabs → HasFirstValues tac → tac.start.objects ≡ [] → (index : ℕ) → slabs ≤ 2 ^ 32 → (input : List ℕ)
    → SimulatesBy (seen_pool_events slabs) (tac_run tac input) (pool_run (code_of tac plan) slabs index input) 1 0
plan_seen tac plan slabs serves values none index few input =
    simulates_coarser (pool_events slabs) seen seen_append (refuses_seen slabs) (refuses_alike slabs) (tac_run tac input) (pool_run (code_of tac plan) slabs index input) 1 0
    (plan_simulates tac plan slabs serves values none index few input)

pub one_pool_seen : (tac : Tac) → Fits tac (one_pool tac) → HasFirstValues tac → tac.start.objects ≡ [] → (slabs index : ℕ) → slabs ≤ 2 ^ 32 → (input : List ℕ)
    → SimulatesBy (seen_pool_events slabs) (tac_run tac input) (pool_run (rewritten (one_pool tac) tac) slabs index input) 1 0
one_pool_seen tac fits values none slabs index few input =
    simulates_coarser (pool_events slabs) seen seen_append (refuses_seen slabs) (refuses_alike slabs) (tac_run tac input) (pool_run (rewritten (one_pool tac) tac) slabs index input) 1 0
    (one_pool_simulates tac fits values none slabs index few input)
