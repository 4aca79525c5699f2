use Rattle.std.proofs.Common.{◌≡◌, ℕ, List, None, length, ap, sym, arith, ◌∙◌}
use Rattle.std.specs.Prelude.{is_some}
use Rattle.std.specs.BTreeMap.{get}
use Rattle.std.specs.Map.{lookup}
use Rattle.std.specs.BTreeMap.{is_at}
use Rattle.std.specs.Ordering.{nat_cmp}
use Rattle.std.proofs.lemmas.List.{length-replicate}
use Rattle.slab_space.specs.Runs.{free_count}
use Rattle.slab_space.proofs.WithRun.{free_count-replicate_free}
use Rattle.pool_runtime.specs.declared.pool.Pool.{Pool}
use Rattle.pool_runtime.specs.Tables.{slabs_held}
use Rattle.pool_runtime.proofs.pools.Pools.new.Goals as goal
use Rattle.pool_runtime.proofs.pools.Pools.new.Goals.{After-new-2}

nothing : (c : After-new-2) (id : ℕ) → get nat_cmp c.new-2.result id ≡ None
nothing c id = ap (λ (es : List (ℕ × Pool)). lookup (is_at (nat_cmp id)) es) c.new-2.ensures.empty

pub invariant_of-result : goal.invariant_of-result
invariant_of-result c = record {
  space = c.new.ensures.space;
  numbers = λ id some. let never = sym (ap is_some (nothing c id)) ∙ some in absurd cc;
  pools = λ id pool e. let never = sym (nothing c id) ∙ e in absurd cc;
  counted =
      let none = ap slabs_held c.new-2.ensures.empty in
      let free = ap free_count c.new.ensures.owners ∙ free_count-replicate_free c.args.slabs in
      let long = ap length c.new.ensures.owners ∙ length-replicate c.args.slabs None in
      omega (arith, none, free, long);
}
