use Rattle.std.proofs.Common.{◌-◌, ◌≡◌, ◌≤◌}
use Rattle.slab_space.specs.Runs.{with_run}
use Rattle.pool_runtime.proofs.memory.clear.Given as goal

abbrev pub invariant-loop-done : goal.invariant-loop-done
invariant-loop-done l = record {
  cleared : l.space ≡ record l.initial.space { bytes = with_run l.initial.space.bytes l.place l.done 0 };
  some : l.done ≤ l.count;
}

abbrev pub decreases-loop-done : goal.decreases-loop-done
decreases-loop-done l = l.count - l.done
