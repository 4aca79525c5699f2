-- What a reader has of a machine that follows a program: where it traps, the program goes wrong.
use Rattle.std.proofs.Common.{◌≡◌, ℕ, ◌⊎◌, inl, inr}
use Rattle.run_theory.specs.declared.ends.TrapKind.{TrapKind}
use Rattle.run_theory.specs.Runs.{Trace, Final, Ended, DepthReached, Undefined, HeapExhausted, IndexExhausted, Trapped, Answer, Over, Run, IsUndefined, IsProgramEnd, IsResourceEnd, ExplainsBy, goes_wrong, ends_alike, is_part, is_cut, FollowsBy}
use Rattle.run_theory.proofs.Simulations.{final_of}
use Rattle.backend_correct.specs.HeapEvents.{heap_events}

not_trapped : (final : Final) (kind : TrapKind) → final ≡ Trapped kind → IsProgramEnd final ⊎ IsResourceEnd final → ⊥
not_trapped (Ended status) kind same is = absurd (cc)
not_trapped DepthReached kind same is = absurd (cc)
not_trapped (Undefined ub place) kind same is = absurd (cc)
not_trapped HeapExhausted kind same is = absurd (cc)
not_trapped IndexExhausted kind same is = absurd (cc)
not_trapped (Trapped other) kind same (inl is) = is
not_trapped (Trapped other) kind same (inr is) = is

module _ (slabs : ℕ) (program run : Run) (follows : FollowsBy (heap_events slabs) program run) where
  explained_trap : (answer : Answer) (kind : TrapKind) (trace : Trace) → ExplainsBy (heap_events slabs) program answer → answer ≡ Over (Trapped kind) trace → (n : ℕ) × IsUndefined (program n)
  explained_trap answer kind trace (goes_wrong _ n is) same = (n, is)
  explained_trap answer kind trace (ends_alike final front behind n end is alike) same = absurd (not_trapped final kind (final_of same) end)
  explained_trap answer kind trace (is_part behind n front) same = absurd (cc)
  explained_trap answer kind trace (is_cut final behind n limit refused) same = absurd (not_trapped final kind (final_of same) (inr limit))

  pub trapped_is_undefined : (m : ℕ) (kind : TrapKind) (trace : Trace) → run m ≡ Over (Trapped kind) trace → (n : ℕ) × IsUndefined (program n)
  trapped_is_undefined m kind trace same = explained_trap (run m) kind trace (follows.backward m) same
