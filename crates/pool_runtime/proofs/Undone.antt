-- A run that was taken and is given back leaves the space as it was.
use Rattle.std.proofs.Common.{◌≡◌, ℕ, ◌*◌, ◌≤◌, Some, None, length, replicate, refl, ap, ◌∙◌, arith}
use Rattle.std.proofs.lemmas.List.{length-replicate}
use Rattle.slab_space.specs.Runs.{IsFreeRun}
use Rattle.slab_space.specs.Space.{Space, IsZero, with_taken, with_given}
use Rattle.slab_space.proofs.WithRun.{with_run_twice, with_run_same, given_free}
use Rattle.pool_runtime.specs.Tables.{IsSpace}

pub new_space : (space : Space) (limit : ℕ) → limit ≤ 1048576 → space.owners ≡ replicate limit None → length space.bytes ≡ 4096 * limit → IsSpace space
new_space space limit most owners bytes =
    let long = ap length owners ∙ length-replicate limit None in
    record { whole = omega (arith, long); small = omega (arith, long) }

module _ (space : Space) (first count : ℕ) (is : IsSpace space) (run : IsFreeRun space.owners first count) where
  pub given_back : IsZero space.bytes (4096 * first) (4096 * count) → with_given (with_taken space first count) first count ≡ space
  given_back zero =
      let owners = with_run_twice space.owners first count (Some first) None run.inside ∙ given_free space.owners first count run in
      let bytes = with_run_same space.bytes (4096 * first) (4096 * count) 0 (omega (arith, run.inside, is.whole)) zero in
      rw (owners, bytes) refl
