-- Machines that make small steps: each is a run, and two in step simulate one another.
use Rattle.std.proofs.Common.{◌≡◌, ℕ, zero, suc, ◌+◌, ◌*◌, ◌≤◌, ◌⊎◌, inl, inr, List, ap, sym, ◌∙◌, refl, subst, arith}
use Rattle.run_theory.specs.Runs.{Final, AnswerOf, Going, Over, trace_of, IsGoing, IsOver, IsProgramEnd, IsResourceEnd, IsPrefix, Comparison, Appends, MatchesBy, wrong, going, ended, short, Move, To, Halt, after, steps, Leads, here, onward, KeepsTrace, IsRun, SimulatesBy, LocksBy, MeetsLimit, LocksToLimits}
use Rattle.run_theory.proofs.Traces.{prefix_refl, prefix_trans, seen-prefix}
use Rattle.run_theory.proofs.Simulations.{refused_within, simulates_both, simulates_later}

module _ {E S : Type 0} (act : S → Move S) (trace : S → List E) where
  -- from a step that is known
  pub step_to : (n : ℕ) (s next : S) → act s ≡ To next → steps act trace (suc n) s ≡ steps act trace n next
  step_to n s next e = ap (after trace (steps act trace n)) e

  pub step_halts : (n : ℕ) (s last : S) (final : Final) → act s ≡ Halt final last → steps act trace (suc n) s ≡ Over final (trace last)
  step_halts n s last final e = ap (after trace (steps act trace n)) e

  -- what is over stays over, whatever becomes of the trace
  pub steps_stay : (m n : ℕ) (s : S) → m ≤ n → IsOver (steps act trace m s) → steps act trace n s ≡ steps act trace m s
  steps_stay zero n s le over = absurd over
  steps_stay (suc m) zero s le over = absurd (omega arith)
  steps_stay (suc m) (suc n) s le over = go (act s) over (λ t. steps_stay m n t (omega arith))
    where
      go : (move : Move S) → IsOver (after trace (steps act trace m) move) → ((t : S) → IsOver (steps act trace m t) → steps act trace n t ≡ steps act trace m t) → after trace (steps act trace n) move ≡ after trace (steps act trace m) move
      go (To t) now next = next t now
      go (Halt final t) now next = refl

  module _ (keeps : (s : S) → KeepsTrace trace s (act s)) where
    -- the events at the start stay at the front
    pub starts : (n : ℕ) (s : S) → IsPrefix (trace s) (trace_of (steps act trace n s))
    starts zero s = prefix_refl (trace s)
    starts (suc n) s = go (act s) (keeps s) (starts n)
      where
        go : (move : Move S) → KeepsTrace trace s move → ((t : S) → IsPrefix (trace t) (trace_of (steps act trace n t))) → IsPrefix (trace s) (trace_of (after trace (steps act trace n) move))
        go (To t) kept next = prefix_trans (trace s) (trace t) _ kept (next t)
        go (Halt final t) kept next = kept

    pub steps_grow : (m n : ℕ) (s : S) → m ≤ n → IsPrefix (trace_of (steps act trace m s)) (trace_of (steps act trace n s))
    steps_grow zero n s le = starts n s
    steps_grow (suc m) zero s le = absurd (omega arith)
    steps_grow (suc m) (suc n) s le = go (act s) (λ t. steps_grow m n t (omega arith))
      where
        go : (move : Move S) → ((t : S) → IsPrefix (trace_of (steps act trace m t)) (trace_of (steps act trace n t))) → IsPrefix (trace_of (after trace (steps act trace m) move)) (trace_of (after trace (steps act trace n) move))
        go (To t) next = next t
        go (Halt final t) next = prefix_refl (trace t)

    -- a machine that keeps its events is a run
    pub steps_run : (s : S) → IsRun (λ n. steps act trace n s)
    steps_run s = record { grows = λ m n le. steps_grow m n s le; stays = λ m n le over. steps_stay m n s le over }

  -- with k units more, the run from s answers as the run from s' does
  pub leads_steps : (s s' : S) (k : ℕ) → Leads act s k s' → (n : ℕ) → (j : ℕ) × (j ≡ n + k) × (steps act trace j s ≡ steps act trace n s')
  leads_steps s s' k (here _) n = (n, omega arith, refl)
  leads_steps s s' k (onward _ next _ l e more) n =
      let rest = leads_steps next s' l more n in
      (suc rest.0, omega (arith, rest.1), step_to rest.0 s next e ∙ rest.2)

  -- the same for a count that is given
  pub steps_along : (s s' : S) (k n j : ℕ) → j ≡ n + k → Leads act s k s' → steps act trace j s ≡ steps act trace n s'
  steps_along s s' k n j e leads =
      let there = leads_steps s s' k leads n in
      let same : j ≡ there.0 = omega (arith, there.1) in
      ap (λ m. steps act trace m s) same ∙ there.2

  -- k steps, and one that halts
  pub leads_halts : (s before last : S) (k j : ℕ) (final : Final) → j ≡ k + 1 → Leads act s k before → act before ≡ Halt final last → steps act trace j s ≡ Over final (trace last)
  leads_halts s before last k j final e leads halt = steps_along s before k 1 j (omega arith) leads ∙ step_halts 0 before last final halt

module _ {S : Type 0} (act : S → Move S) where
  pub one_step : (s s' : S) → act s ≡ To s' → Leads act s 1 s'
  one_step s s' e = onward s s' s' 0 e (here s')

  pub leads_compose : (a b c : S) (k l m : ℕ) → m ≡ k + l → Leads act a k b → Leads act b l c → Leads act a m c
  leads_compose a b c k l m e (here _) q = subst (λ n. Leads act a n c) (let f : l ≡ m = omega arith in f) q
  leads_compose a b c k l m e (onward _ next _ j step p) q =
      subst (λ n. Leads act a n c) (let f : suc (j + l) ≡ m = omega arith in f) (onward a next c (j + l) step (leads_compose next b c j l (j + l) refl p q))

  -- one step more, at the end
  pub leads_more : (a b c : S) (k : ℕ) → Leads act a k b → act b ≡ To c → Leads act a (suc k) c
  leads_more a b c k p e = leads_compose a b c k 1 (suc k) (omega arith) p (one_step b c e)

-- what the second machine answers within a bound, to an answer of the first after n steps
module _ {E F C T : Type 0} (by : Comparison E F C) (act' : T → Move T) (trace' : T → List F) (bound : ℕ) where
  abbrev InStep : ℕ → T → AnswerOf E → Type 0
  InStep n t a = (j : ℕ) × (j ≤ bound * n + 0) × MatchesBy by a (steps act' trace' j t) × (IsGoing a → IsGoing (steps act' trace' j t) → n ≤ 0 + 1 * j)

  -- a step of the first is at least one of the second
  step_on : (n k : ℕ) (t next : T) (a : AnswerOf E) → 1 ≤ k → k ≤ bound → Leads act' t k next → InStep n next a → InStep (suc n) t a
  step_on n k t next a low high leads rest =
      let there = leads_steps act' trace' t next k leads rest.0 in
      let g' = λ (g : IsGoing a) (h : IsGoing (steps act' trace' there.0 t)). rest.3 g (subst IsGoing there.2 h) in
      (there.0, omega (arith, there.1, rest.1), subst (MatchesBy by a) (sym there.2) rest.2, λ g h. omega (arith, there.1, g' g h))

  -- an end that the second has too
  step_ends : (n k : ℕ) (t before last : T) (final : Final) (trace : List E) → k + 1 ≤ bound → Leads act' t k before → act' before ≡ Halt final last → by.behind (trace' last) ≡ by.in_front trace → IsProgramEnd final ⊎ IsResourceEnd final → InStep (suc n) t (Over final trace)
  step_ends n k t before last final trace soon leads halt same kind =
      let end = leads_halts act' trace' t before last k (k + 1) final refl leads halt in
      (k + 1, omega arith, subst (MatchesBy by (Over final trace)) (sym end) (ended final trace (trace' last) same kind), λ g. absurd g)

  -- a limit
  step_stops : (n : ℕ) (t : T) (a : AnswerOf E) (whole : List C) → IsPrefix whole (by.in_front (trace_of a)) → MeetsLimit by act' trace' t bound whole → InStep (suc n) t a
  step_stops n t a whole p m =
      let end = leads_halts act' trace' t m.before m.last m.taken (m.taken + 1) m.final refl m.leads m.halts in
      let soon = m.soon in
      (m.taken + 1, omega arith, subst (MatchesBy by a) (sym end) (short a m.final (trace' m.last) m.limit (refused_within by m.final (trace' m.last) whole (by.in_front (trace_of a)) p m.refused)), λ g h. absurd (subst IsGoing end h))

module _ {E F C S T : Type 0} (by : Comparison E F C) (act : S → Move S) (trace : S → List E) (act' : T → Move T) (trace' : T → List F) (R : S → T → Type 0) (bound : ℕ) where
  at_start : (s : S) (t : T) → by.behind (trace' t) ≡ by.in_front (trace s) → InStep by act' trace' bound 0 t (Going (trace s))
  at_start s t same = (0, omega arith, going (trace s) (trace' t) same, λ g h. omega arith)

  module _ (locks : LocksBy by act trace act' trace' R bound) where
    in_step : (n : ℕ) (s : S) (t : T) → R s t → InStep by act' trace' bound n t (steps act trace n s)
    in_step zero s t r = at_start s t (locks.traces s t r)
    in_step (suc n) s t r = go (act s) refl (in_step n)
      where
        go : (move : Move S) → act s ≡ move → ((next : S) (t' : T) → R next t' → InStep by act' trace' bound n t' (steps act trace n next)) → InStep by act' trace' bound (suc n) t (after trace (steps act trace n) move)
        go (To next) e rest =
            let on = locks.goes_on s next t r e in
            step_on by act' trace' bound n on.0 t on.1 (steps act trace n next) on.2 on.3 on.4 (rest next on.1 on.5)
        go (Halt final last) e rest =
            elim (locks.halts s last t final r e) [
              | inl u ↦ (0, omega arith, wrong _ _ u, λ g. absurd g)
              | inr h ↦ step_ends by act' trace' bound n h.0 t h.1 h.2 final (trace last) h.3 h.4 h.5 h.6 h.7
            ]

    pub locked : (s : S) (t : T) → R s t → SimulatesBy by (λ n. steps act trace n s) (λ n. steps act' trace' n t) bound 0
    locked s t r = simulates_both by _ _ bound 0 0 1 (λ n. in_step n s t r)

    -- the second machine may first take k steps to its start
    pub locked_from : (s : S) (t start : T) (k : ℕ) → Leads act' start k t → R s t → SimulatesBy by (λ n. steps act trace n s) (λ n. steps act' trace' n start) bound k
    locked_from s t start k leads r = simulates_later by _ _ _ bound 0 k k (leads_steps act' trace' start t k leads) (omega arith) (locked s t r)

  module _ (appends : Appends by.in_front) (keeps : (s : S) → KeepsTrace trace s (act s)) (locks : LocksToLimits by act trace act' trace' R bound) where
    in_step_to_limits : (n : ℕ) (s : S) (t : T) → R s t → InStep by act' trace' bound n t (steps act trace n s)
    in_step_to_limits zero s t r = at_start s t (locks.traces s t r)
    in_step_to_limits (suc n) s t r = go (act s) refl (in_step_to_limits n)
      where
        go : (move : Move S) → act s ≡ move → ((next : S) (t' : T) → R next t' → InStep by act' trace' bound n t' (steps act trace n next)) → InStep by act' trace' bound (suc n) t (after trace (steps act trace n) move)
        go (To next) e rest =
            elim (locks.goes_on s next t r e) [
              | inl on ↦ step_on by act' trace' bound n on.0 t on.1 (steps act trace n next) on.2 on.3 on.4 (rest next on.1 on.5)
              | inr m ↦ step_stops by act' trace' bound n t (steps act trace n next) (by.in_front (trace next)) (seen-prefix by.in_front appends (trace next) _ (starts act trace keeps n next)) m
            ]
        go (Halt final last) e rest =
            elim (locks.halts s last t final r e) [
              | inl u ↦ (0, omega arith, wrong _ _ u, λ g. absurd g)
              | inr (inl h) ↦ step_ends by act' trace' bound n h.0 t h.1 h.2 final (trace last) h.3 h.4 h.5 h.6 h.7
              | inr (inr m) ↦ step_stops by act' trace' bound n t (Over final (trace last)) (by.in_front (trace last)) (prefix_refl (by.in_front (trace last))) m
            ]

    pub locked_to_limits : (s : S) (t : T) → R s t → SimulatesBy by (λ n. steps act trace n s) (λ n. steps act' trace' n t) bound 0
    locked_to_limits s t r = simulates_both by _ _ bound 0 0 1 (λ n. in_step_to_limits n s t r)

    pub locked_to_limits_from : (s : S) (t start : T) (k : ℕ) → Leads act' start k t → R s t → SimulatesBy by (λ n. steps act trace n s) (λ n. steps act' trace' n start) bound k
    locked_to_limits_from s t start k leads r = simulates_later by _ _ _ bound 0 k k (leads_steps act' trace' start t k leads) (omega arith) (locked_to_limits s t r)
