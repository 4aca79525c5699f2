-- When one run follows another: composition, the same run under other terms, and the reverse direction.
use Rattle.std.proofs.Common.{◌≡◌, ℕ, suc, ◌+◌, ◌*◌, ◌≤◌, ◌⊎◌, inl, inr, ⊎_elim, true, List, [], ◌∷◌, ◌++◌, ap, sym, ◌∙◌, refl, subst, arith, mul-le-mul_left}
use Rattle.std.proofs.lemmas.Bool.{cases_lt}
use Rattle.run_theory.specs.Runs.{Final, Ended, DepthReached, Undefined, HeapExhausted, IndexExhausted, Trapped, AnswerOf, Answer, Going, Over, trace_of, RunOf, Run, IsGoing, IsOver, IsUndefined, IsWrong, IsProgramEnd, IsResourceEnd, IsPrefix, Comparison, Appends, all_events, Refused, MatchesBy, Matches, wrong, going, ended, short, IsRun, SimulatesBy, Simulates, composed, Connects, AgreesBy, both_go_on, both_end, is_refused, ExplainsBy, goes_wrong, ends_alike, is_part, is_cut, steps_per_unit, FollowsBy, NeverExhausts}
use Rattle.run_theory.proofs.Traces.{prefix_refl, prefix_trans, seen-prefix}

-- an end at a limit is not undefined behaviour
resource_defined : (final : Final) → IsResourceEnd final → IsWrong final → ⊥
resource_defined (Ended status) r u = u
resource_defined DepthReached r u = u
resource_defined (Undefined kind place) r u = r
resource_defined HeapExhausted r u = u
resource_defined IndexExhausted r u = u
resource_defined (Trapped kind) r u = u

pub final_of : {E : Type 0} {final final' : Final} {trace trace' : List E} → Over final trace ≡ Over final' trace' → final ≡ final'
final_of e = cc

pub events_of : {E : Type 0} {final final' : Final} {trace trace' : List E} → Over final trace ≡ Over final' trace' → trace ≡ trace'
events_of e = cc

-- nor is the program's own
program_defined : (final : Final) → IsProgramEnd final → IsWrong final → ⊥
program_defined (Ended status) p u = u
program_defined DepthReached p u = u
program_defined (Undefined kind place) p u = p
program_defined HeapExhausted p u = u
program_defined IndexExhausted p u = u
program_defined (Trapped kind) p u = u

end_defined : (final : Final) → IsProgramEnd final ⊎ IsResourceEnd final → IsWrong final → ⊥
end_defined final k u = ⊎_elim (λ p. program_defined final p u) (λ r. resource_defined final r u) k

-- what was refused next of a front was refused next of the whole
pub refused_within : {E F C : Type 0} (by : Comparison E F C) (final : Final) (trace : List F) (front whole : List C) → IsPrefix front whole → Refused by final trace front → Refused by final trace whole
refused_within by final trace front whole p r = record { event = r.event; refused = r.refused; next = prefix_trans _ front whole r.next p }

-- ---- composition

module _ {E F G C D : Type 0} (by : Comparison E F C) (by' : Comparison F G D) (through : List D → List C) (connects : Connects by by' through) where
  -- what is seen alike on both ways is seen alike through them
  seen_through : (trace : List E) (trace' : List F) (trace'' : List G) → by.behind trace' ≡ by.in_front trace → by'.behind trace'' ≡ by'.in_front trace' → through (by'.behind trace'') ≡ by.in_front trace
  seen_through trace trace' trace'' e e' = ap through e' ∙ sym (connects.meets trace') ∙ e

  -- what was refused further behind
  refused_through : (final : Final) (trace'' : List G) (trace' : List F) (whole : List C) → IsPrefix (by.behind trace') whole → Refused by' final trace'' (by'.in_front trace') → Refused (composed by by' through) final trace'' whole
  refused_through final trace'' trace' whole p r =
      let seen = connects.refuses final (by'.behind trace'') r.event r.refused in
      let passed : through (by'.behind trace'' ++ r.event ∷ []) ≡ through (by'.behind trace'') ++ seen.0 ∷ [] = connects.appends (by'.behind trace'') (r.event ∷ []) ∙ ap (λ l. through (by'.behind trace'') ++ l) seen.2 in
      let within : IsPrefix (through (by'.behind trace'' ++ r.event ∷ [])) (through (by'.in_front trace')) = seen-prefix through connects.appends _ _ r.next in
      let front : IsPrefix (through (by'.behind trace'') ++ seen.0 ∷ []) (by.behind trace') = subst (λ l. IsPrefix (through (by'.behind trace'') ++ seen.0 ∷ []) l) (sym (connects.meets trace')) (subst (λ l. IsPrefix l (through (by'.in_front trace'))) passed within) in
      record { event = seen.0; refused = seen.1; next = prefix_trans _ (by.behind trace') whole front p }

  -- what was refused in between
  refused_alike : (final : Final) (trace'' : List G) (trace' : List F) (whole : List C) → by'.behind trace'' ≡ by'.in_front trace' → Refused by final trace' whole → Refused (composed by by' through) final trace'' whole
  refused_alike final trace'' trace' whole e r =
      let same : by.behind trace' ≡ through (by'.behind trace'') = connects.meets trace' ∙ sym (ap through e) in
      record {
        event = r.event;
        refused = subst (λ l. by.refuses final l r.event ≡ true) same r.refused;
        next = subst (λ l. IsPrefix (l ++ r.event ∷ []) whole) same r.next;
      }

  matches_of_going : (trace : List E) (trace' : List F) (c : AnswerOf G) → by.behind trace' ≡ by.in_front trace → MatchesBy by' (Going trace') c → MatchesBy (composed by by' through) (Going trace) c
  matches_of_going trace trace' c e (wrong _ _ u) = absurd u
  matches_of_going trace trace' c e (going _ trace'' e') = going trace trace'' (seen_through trace trace' trace'' e e')
  matches_of_going trace trace' c e (short _ final trace'' r refused) = short (Going trace) final trace'' r (refused_through final trace'' trace' (by.in_front trace) (subst (λ l. IsPrefix l (by.in_front trace)) (sym e) (prefix_refl (by.in_front trace))) refused)

  matches_of_ended : (final : Final) (trace : List E) (trace' : List F) (c : AnswerOf G) → by.behind trace' ≡ by.in_front trace → IsProgramEnd final ⊎ IsResourceEnd final → MatchesBy by' (Over final trace') c → MatchesBy (composed by by' through) (Over final trace) c
  matches_of_ended final trace trace' c e k (wrong _ _ u) = absurd (end_defined final k u)
  matches_of_ended final trace trace' c e k (ended _ _ trace'' e' k') = ended final trace trace'' (seen_through trace trace' trace'' e e') k
  matches_of_ended final trace trace' c e k (short _ final' trace'' r refused) = short (Over final trace) final' trace'' r (refused_through final' trace'' trace' (by.in_front trace) (subst (λ l. IsPrefix l (by.in_front trace)) (sym e) (prefix_refl (by.in_front trace))) refused)

  matches_of_short : (a : AnswerOf E) (final : Final) (trace' : List F) (c : AnswerOf G) → IsResourceEnd final → Refused by final trace' (by.in_front (trace_of a)) → MatchesBy by' (Over final trace') c → MatchesBy (composed by by' through) a c
  matches_of_short a final trace' c r refused (wrong _ _ u) = absurd (resource_defined final r u)
  matches_of_short a final trace' c r refused (ended _ _ trace'' e' k') = short a final trace'' r (refused_alike final trace'' trace' (by.in_front (trace_of a)) e' refused)
  matches_of_short a final trace' c r refused (short _ final' trace'' r' refused') =
      short a final' trace'' r' (refused_through final' trace'' trace' (by.in_front (trace_of a)) (prefix_trans _ _ _ (refused.event ∷ [], refl) refused.next) refused')

  pub matches_compose : (a : AnswerOf E) (b : AnswerOf F) (c : AnswerOf G) → MatchesBy by a b → MatchesBy by' b c → MatchesBy (composed by by' through) a c
  matches_compose a b c (wrong _ _ u) n = wrong a c u
  matches_compose a b c (going trace trace' e) n = matches_of_going trace trace' c e n
  matches_compose a b c (ended final trace trace' e k) n = matches_of_ended final trace trace' c e k n
  matches_compose a b c (short _ final trace' r refused) n = matches_of_short a final trace' c r refused n

  -- where both ends go on, so does what lies between
  going_between : (a : AnswerOf E) (b : AnswerOf F) (c : AnswerOf G) → MatchesBy by a b → MatchesBy by' b c → IsGoing a → IsGoing c → IsGoing b
  going_between (Going trace) b c (wrong _ _ u) n g g' = absurd u
  going_between (Over final trace) b c (wrong _ _ u) n g g' = absurd g
  going_between a b c (going _ _ e) n g g' = tt
  going_between a b c (ended _ _ _ _ _) n g g' = absurd g
  going_between a b c (short _ final trace' r p) n g g' = absurd (stuck c g' n)
    where
      stuck : (c' : AnswerOf G) → IsGoing c' → MatchesBy by' (Over final trace') c' → ⊥
      stuck c' on (wrong _ _ u) = resource_defined final r u
      stuck c' on (ended _ _ _ _ _) = on
      stuck c' on (short _ _ _ _ _) = on

  pub compose : (a : RunOf E) (b : RunOf F) (c : RunOf G) (factor constant factor' constant' factor'' constant'' : ℕ) → SimulatesBy by a b factor constant → SimulatesBy by' b c factor' constant' → ((n j : ℕ) → j ≤ factor * n + constant → factor' * j + constant' ≤ factor'' * n + constant'') → SimulatesBy (composed by by' through) a c factor'' constant''
  compose a b c factor constant factor' constant' factor'' constant'' p q sum = record {
    at = λ n. q.at (p.at n);
    bound = λ n. let le = q.bound (p.at n) in let le' = sum n (p.at n) (p.bound n) in omega arith;
    matches = λ n. matches_compose (a n) (b (p.at n)) (c (q.at (p.at n))) (p.matches n) (q.matches (p.at n));
    pace = λ m. let later = q.pace m in let sooner = p.pace later.0 in (
      sooner.0,
      λ n far g g'.
          let between = going_between (a n) (b (p.at n)) (c (q.at (p.at n))) (p.matches n) (q.matches (p.at n)) g g' in
          later.1 (p.at n) (sooner.1 n far g between) between g',
    );
  }

-- where all events are compared on both ways
pub all_connect : {E : Type 0} → Connects (all_events {E = E}) all_events (λ trace. trace)
all_connect = record { appends = λ s t. refl; meets = λ trace. refl; refuses = λ final trace event e. (event, e, refl) }

pub compose_all : (a b c : Run) (factor constant factor' constant' factor'' constant'' : ℕ) → Simulates a b factor constant → Simulates b c factor' constant' → ((n j : ℕ) → j ≤ factor * n + constant → factor' * j + constant' ≤ factor'' * n + constant'') → Simulates a c factor'' constant''
compose_all = compose all_events all_events (λ trace. trace) all_connect

-- ---- the same run under other terms

abbrev pub IsTrap : {E : Type 0} → AnswerOf E → Type 0
IsTrap {E} a = (kind : _) × (trace : List E) × (a ≡ Over (Trapped kind) trace)

-- each answer matches itself, but for a trap, which nothing matches
pub matches_refl : (a : Answer) → (IsTrap a → ⊥) → Matches a a
matches_refl (Going trace) h = going trace trace refl
matches_refl (Over (Ended status) trace) h = ended (Ended status) trace trace refl (inl tt)
matches_refl (Over DepthReached trace) h = ended DepthReached trace trace refl (inl tt)
matches_refl (Over (Undefined kind place) trace) h = wrong _ _ tt
matches_refl (Over HeapExhausted trace) h = ended HeapExhausted trace trace refl (inr tt)
matches_refl (Over IndexExhausted trace) h = ended IndexExhausted trace trace refl (inr tt)
matches_refl (Over (Trapped kind) trace) h = absurd (h (kind, trace, refl))

-- what is refused next comes next
refused_prefix : {E F C : Type 0} (by : Comparison E F C) (final : Final) (trace : List F) (whole : List C) → Refused by final trace whole → IsPrefix (by.behind trace) whole
refused_prefix by final trace whole r = prefix_trans _ _ whole (r.event ∷ [], refl) r.next

same_prefix : {C : Type 0} (s t : List C) → s ≡ t → IsPrefix s t
same_prefix s t e = subst (λ l. IsPrefix s l) e (prefix_refl s)

-- what is behind has no event that is not in front
pub matches_prefix : {E F C : Type 0} (by : Comparison E F C) (a : AnswerOf E) (b : AnswerOf F) → MatchesBy by a b → IsUndefined a ⊎ IsPrefix (by.behind (trace_of b)) (by.in_front (trace_of a))
matches_prefix by a b (wrong _ _ u) = inl u
matches_prefix by a b (going trace trace' e) = inr (same_prefix _ _ e)
matches_prefix by a b (ended final trace trace' e k) = inr (same_prefix _ _ e)
matches_prefix by a b (short _ final trace' r refused) = inr (refused_prefix by final trace' _ refused)

module _ {E F C : Type 0} (by : Comparison E F C) where
  -- One fact for each budget makes a simulation: a budget behind that is bounded and matches, and, while both go on, a
  -- bound on the budget in front by the one behind.
  pub simulates_both : (front : RunOf E) (behind : RunOf F) (c d p q : ℕ) → ((n : ℕ) → (j : ℕ) × (j ≤ c * n + d) × MatchesBy by (front n) (behind j) × (IsGoing (front n) → IsGoing (behind j) → n ≤ p + q * j)) → SimulatesBy by front behind c d
  simulates_both front behind c d p q f = record {
    at = λ n. (f n).0;
    bound = λ n. (f n).1;
    matches = λ n. (f n).2;
    pace = λ m. (suc (p + q * m), λ n far g g'. ⊎_elim (λ lt. absurd (slow n m (f n).0 far ((f n).3 g g') lt)) (λ le. le) (cases_lt (f n).0 m));
  }
    where
      slow : (n m j : ℕ) → suc (p + q * m) ≤ n → n ≤ p + q * j → suc j ≤ m → ⊥
      slow n m j far near lt =
          let le : j ≤ m = omega arith in
          omega (arith, mul-le-mul_left q le)

  -- the same where the bound holds while the front goes on
  pub simulates_from : (front : RunOf E) (behind : RunOf F) (c d p q : ℕ) → ((n : ℕ) → (j : ℕ) × (j ≤ c * n + d) × MatchesBy by (front n) (behind j) × (IsGoing (front n) → n ≤ p + q * j)) → SimulatesBy by front behind c d
  simulates_from front behind c d p q f = simulates_both front behind c d p q (λ n. ((f n).0, (f n).1, (f n).2, λ g g'. (f n).3 g))

  pub simulates_front : (front front' : RunOf E) (behind : RunOf F) (c d : ℕ) → ((n : ℕ) → front n ≡ front' n) → SimulatesBy by front behind c d → SimulatesBy by front' behind c d
  simulates_front front front' behind c d e = subst (λ run. SimulatesBy by run behind c d) (λ i n. e n i)

  pub simulates_behind : (front : RunOf E) (behind behind' : RunOf F) (c d : ℕ) → ((n : ℕ) → behind n ≡ behind' n) → SimulatesBy by front behind c d → SimulatesBy by front behind' c d
  simulates_behind front behind behind' c d e = subst (λ run. SimulatesBy by front run c d) (λ i n. e n i)

  -- a wider bound
  pub simulates_within : (front : RunOf E) (behind : RunOf F) (c d c' d' : ℕ) → ((n : ℕ) → c * n + d ≤ c' * n + d') → SimulatesBy by front behind c d → SimulatesBy by front behind c' d'
  simulates_within front behind c d c' d' le s = record {
    at = s.at;
    bound = λ n. let b = s.bound n in let w = le n in omega arith;
    matches = s.matches;
    pace = s.pace;
  }

  -- k units more behind, for what comes before its start
  pub simulates_later : (front : RunOf E) (behind behind' : RunOf F) (c d k d' : ℕ) → ((n : ℕ) → (j : ℕ) × (j ≡ n + k) × (behind' j ≡ behind n)) → d' ≡ d + k → SimulatesBy by front behind c d → SimulatesBy by front behind' c d'
  simulates_later front behind behind' c d k d' later e s = record {
    at = λ n. (later (s.at n)).0;
    bound = λ n. let b = s.bound n in let j = (later (s.at n)).1 in omega arith;
    matches = λ n. subst (MatchesBy by (front n)) (sym (later (s.at n)).2) (s.matches n);
    pace = λ m. let far = s.pace m in
        (far.0, λ n le g g'. let j = (later (s.at n)).1 in let m' = far.1 n le g (subst IsGoing (later (s.at n)).2 g') in omega arith);
  }

-- a run that never traps simulates itself
pub simulates_same : (run : Run) → ((n : ℕ) → IsTrap (run n) → ⊥) → Simulates run run 1 0
simulates_same run h = simulates_from all_events run run 1 0 0 1 (λ n. (n, omega arith, matches_refl (run n) (h n), λ g. omega arith))

pub same_run : {E : Type 0} (run run' : RunOf E) → ((n : ℕ) → run n ≡ run' n) → IsRun run → IsRun run'
same_run run run' e = subst IsRun (λ i n. e n i)

-- what is simulated by a run that meets no limit meets none either
pub never_in_front : {E F C : Type 0} (by : Comparison E F C) (front : RunOf E) (behind : RunOf F) (c d : ℕ) → SimulatesBy by front behind c d → NeverExhausts behind → NeverExhausts front
never_in_front by front behind c d s never n final trace r e = go (behind (s.at n)) refl (subst (λ a. MatchesBy by a (behind (s.at n))) e (s.matches n))
  where
    go : (b : _) → behind (s.at n) ≡ b → MatchesBy by (Over final trace) b → ⊥
    go b same (wrong _ _ u) = resource_defined final r u
    go b same (ended _ _ trace' _ _) = never (s.at n) final trace' r same
    go b same (short _ final' trace' r' _) = never (s.at n) final' trace' r' same

-- ---- the reverse direction

module _ {E F C : Type 0} (by : Comparison E F C) where
  -- what a matching answer says of the run in front
  explains_match : (front : RunOf E) (n : ℕ) (a : AnswerOf E) (b : AnswerOf F) → front n ≡ a → MatchesBy by a b → ExplainsBy by front b
  explains_match front n a b e (wrong _ _ u) = goes_wrong b n (subst IsUndefined (sym e) u)
  explains_match front n a b e (going trace trace' same) = is_part trace' n (subst (λ x. IsPrefix (by.behind trace') (by.in_front (trace_of x))) (sym e) (same_prefix _ _ same))
  explains_match front n a b e (ended final trace trace' same k) = ends_alike final trace trace' n k e same
  explains_match front n a b e (short _ final trace' r refused) = is_cut final trace' n r (subst (λ x. Refused by final trace' (by.in_front (trace_of x))) (sym e) refused)

  -- where one side is over, the one behind is, unless the program goes wrong
  over_behind : (a : AnswerOf E) (b : AnswerOf F) → MatchesBy by a b → ((IsGoing a × IsGoing b) → ⊥) → IsUndefined a ⊎ IsOver b
  over_behind a b (wrong _ _ u) h = inl u
  over_behind a b (going trace trace' same) h = absurd (h (tt, tt))
  over_behind a b (ended final trace trace' same e) h = inr tt
  over_behind a b (short _ final trace' r p) h = inr tt

  agrees : (a : AnswerOf E) (b : AnswerOf F) → (IsUndefined a → ⊥) → MatchesBy by a b → AgreesBy by a b
  agrees a b h (wrong _ _ u) = absurd (h u)
  agrees a b h (going trace trace' same) = both_go_on trace trace' same
  agrees a b h (ended final trace trace' same e) = both_end final trace trace' same
  agrees a b h (short _ final trace' r refused) = is_refused a final trace' r refused

  module _ (appends : Appends by.behind) where
    -- and what an earlier answer does
    explains_earlier : (front : RunOf E) (n : ℕ) (a : AnswerOf E) (b earlier : AnswerOf F) → front n ≡ a → MatchesBy by a b → IsPrefix (trace_of earlier) (trace_of b) → (IsOver earlier → b ≡ earlier) → ExplainsBy by front earlier
    explains_earlier front n a b (Over final trace) e m p same = subst (ExplainsBy by front) (same tt) (explains_match front n a b e m)
    explains_earlier front n a b (Going trace) e m p same =
        ⊎_elim (λ u. goes_wrong (Going trace) n (subst IsUndefined (sym e) u)) (λ q. is_part trace n (subst (λ x. IsPrefix (by.behind trace) (by.in_front (trace_of x))) (sym e) (prefix_trans _ _ _ (seen-prefix by.behind appends trace (trace_of b) p) q))) (matches_prefix by a b m)

    -- The reverse direction: what a run does that simulates a program, the program does, unless it goes wrong.
    pub explains : (front : RunOf E) (behind : RunOf F) (c d : ℕ) → SimulatesBy by front behind c d → IsRun behind → (m : ℕ) → ExplainsBy by front (behind m)
    explains front behind c d s r m = go (cases_lt j m)
      where
        n : ℕ
        n = (s.pace m).0

        j : ℕ
        j = s.at n

        go : (suc j ≤ m) ⊎ (m ≤ j) → ExplainsBy by front (behind m)
        go (inr le) = explains_earlier front n (front n) (behind j) (behind m) refl (s.matches n) (r.grows m j le) (r.stays m j le)
        go (inl lt) =
            let slow : (IsGoing (front n) × IsGoing (behind j)) → ⊥ = λ g. let le = (s.pace m).1 n (omega arith) g.0 g.1 in omega arith in
            ⊎_elim (λ u. goes_wrong (behind m) n u) (λ over. subst (ExplainsBy by front) (sym (r.stays j m (omega arith) over)) (explains_match front n (front n) (behind j) refl (s.matches n))) (over_behind (front n) (behind j) (s.matches n) slow)

    -- where a run ends at a limit that the program doesn't have, this refused its next event
    exhausted : (program : RunOf E) → NeverExhausts program → (answer : AnswerOf F) (final : Final) (trace : List F) → IsResourceEnd final → answer ≡ Over final trace → ExplainsBy by program answer → (n : ℕ) × (IsUndefined (program n) ⊎ Refused by final trace (by.in_front (trace_of (program n))))
    exhausted program never answer final trace r e (goes_wrong _ n u) = (n, inl u)
    exhausted program never answer final trace r e (ends_alike final' front trace' n k over same) = absurd (never n final front r (over ∙ ap (λ f. Over f front) (final_of e)))
    exhausted program never answer final trace r e (is_part trace' n p) = absurd (cc)
    exhausted program never answer final trace r e (is_cut final' trace' n r' refused) = (n, inr (subst (λ t. Refused by final t (by.in_front (trace_of (program n)))) (events_of e) (subst (λ f. Refused by f trace' (by.in_front (trace_of (program n)))) (final_of e) refused)))

    pub follows : (program : RunOf E) (run : RunOf F) (c d : ℕ) → SimulatesBy by program run c d → IsRun run → NeverExhausts program → ((n : ℕ) → c * n + d ≤ steps_per_unit * (n + 1)) → FollowsBy by program run
    follows program run c d s r never le = record {
      forward = λ n h. (s.at n, within n, agrees (program n) (run (s.at n)) h (s.matches n));
      backward = explains program run c d s r;
      exhaustion = λ m final trace limit e. exhausted program never (run m) final trace limit e (explains program run c d s r m);
    }
      where
        within : (n : ℕ) → s.at n ≤ steps_per_unit * (n + 1)
        within n = let b = s.bound n in let w = le n in omega arith
