-- What a reader has of a run that follows a program.
use Rattle.std.proofs.Common.{◌≡◌, ℕ, ◌⊎◌, inl, inr, ap, sym, ◌∙◌, refl, subst}
use Rattle.run_theory.specs.declared.ends.TrapKind.{TrapKind}
use Rattle.run_theory.specs.Runs.{Trace, output_of, Final, Ended, DepthReached, Undefined, HeapExhausted, IndexExhausted, Trapped, Answer, Going, Over, trace_of, Run, IsUndefined, IsProgramEnd, IsResourceEnd, IsPrefix, all_events, ExplainsBy, goes_wrong, ends_alike, is_part, is_cut, Follows}
use Rattle.run_theory.proofs.Traces.{prefix_refl, output_of-prefix}

no_limit : (final : Final) → IsProgramEnd final → IsResourceEnd final → ⊥
no_limit (Ended status) p r = r
no_limit DepthReached p r = r
no_limit (Undefined kind place) p r = r
no_limit HeapExhausted p r = p
no_limit IndexExhausted p r = p
no_limit (Trapped kind) p r = r

same_final : (final final' : Final) (trace trace' : Trace) → Over final trace ≡ Over final' trace' → final ≡ final'
same_final final final' trace trace' e = cc

-- what explains an end that is not at a limit
explained_end : (front : Run) (answer : Answer) (final : Final) (trace : Trace) → ExplainsBy all_events front answer → answer ≡ Over final trace → (IsResourceEnd final → ⊥) → (n : ℕ) × (IsUndefined (front n) ⊎ (IsProgramEnd final × (front n ≡ Over final trace)))
explained_end front answer final trace (goes_wrong _ n u) e h = (n, inl u)
explained_end front answer final trace (ends_alike final' trace'' trace' n k f same) e h =
    let here : front n ≡ Over final' trace' = f ∙ ap (Over final') (sym same) in
    (n, elim k [ inl p ↦ inr (subst IsProgramEnd (same_final final' final trace' trace e) p, here ∙ e) | inr r ↦ absurd (h (subst IsResourceEnd (same_final final' final trace' trace e) r)) ])
explained_end front answer final trace (is_part trace' n p) e h = absurd (cc)
explained_end front answer final trace (is_cut final' trace' n r p) e h = absurd (h (subst IsResourceEnd (same_final final' final trace' trace e) r))

module _ (program run : Run) (follows : Follows program run) where
  -- an end of the run is the program's
  pub follows_end : (m : ℕ) (final : Final) (trace : Trace) → IsProgramEnd final → run m ≡ Over final trace → (n : ℕ) × (IsUndefined (program n) ⊎ (program n ≡ Over final trace))
  follows_end m final trace p e =
      let found = explained_end program (run m) final trace (follows.backward m) e (no_limit final p) in
      (found.0, elim found.1 [ inl u ↦ inl u | inr q ↦ inr q.1 ])

  -- an end that is neither the program's nor a limit's
  pub follows_wrong : (m : ℕ) (final : Final) (trace : Trace) → (IsProgramEnd final → ⊥) → (IsResourceEnd final → ⊥) → run m ≡ Over final trace → (n : ℕ) × IsUndefined (program n)
  follows_wrong m final trace p r e =
      let found = explained_end program (run m) final trace (follows.backward m) e r in
      (found.0, elim found.1 [ inl u ↦ u | inr q ↦ absurd (p q.0) ])

  pub follows_ended : (m status : ℕ) (trace : Trace) → run m ≡ Over (Ended status) trace → (n : ℕ) × (IsUndefined (program n) ⊎ (program n ≡ Over (Ended status) trace))
  follows_ended m status trace e = follows_end m (Ended status) trace tt e

  pub follows_trapped : (m : ℕ) (kind : TrapKind) (trace : Trace) → run m ≡ Over (Trapped kind) trace → (n : ℕ) × IsUndefined (program n)
  follows_trapped m kind trace e = follows_wrong m (Trapped kind) trace (λ p. p) (λ r. r) e

  pub follows_undefined : (m : ℕ) → IsUndefined (run m) → (n : ℕ) × IsUndefined (program n)
  follows_undefined m u = go (run m) refl u
    where
      go : (answer : Answer) → run m ≡ answer → IsUndefined answer → (n : ℕ) × IsUndefined (program n)
      go (Over (Undefined kind place) trace) e u = follows_wrong m (Undefined kind place) trace (λ p. p) (λ r. r) e
      go (Going trace) e u = absurd u
      go (Over (Ended status) trace) e u = absurd u
      go (Over DepthReached trace) e u = absurd u
      go (Over HeapExhausted trace) e u = absurd u
      go (Over IndexExhausted trace) e u = absurd u
      go (Over (Trapped kind) trace) e u = absurd u

  -- all that the run has written, the program writes
  pub follows_output : (m : ℕ) → (n : ℕ) × (IsUndefined (program n) ⊎ IsPrefix (output_of (trace_of (run m))) (output_of (trace_of (program n))))
  follows_output m = go (run m) (follows.backward m)
    where
      go : (answer : Answer) → ExplainsBy all_events program answer → (n : ℕ) × (IsUndefined (program n) ⊎ IsPrefix (output_of (trace_of answer)) (output_of (trace_of (program n))))
      go answer (goes_wrong _ n u) = (n, inl u)
      go answer (ends_alike final trace trace' n k e same) = (n, inr (subst (λ a. IsPrefix (output_of trace') (output_of (trace_of a))) (sym e) (subst (λ t. IsPrefix (output_of trace') (output_of t)) same (prefix_refl (output_of trace')))))
      go answer (is_part trace n p) = (n, inr (output_of-prefix trace (trace_of (program n)) p))
      go answer (is_cut final trace n r refused) = absurd (let e = refused.refused in cc)
