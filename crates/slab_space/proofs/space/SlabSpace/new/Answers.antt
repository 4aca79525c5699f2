use Rattle.std.proofs.Common.{◌≡◌, ◌-◌, List, Option, ap, ◌∙◌, arith}
use Rattle.slab_space.specs.declared.slots.HeldSlab.{HeldSlab}
use Rattle.slab_space.specs.Runs.{free_count}
use Rattle.slab_space.specs.Slots.{all_owners}
use Rattle.slab_space.proofs.WithRun.{free_count-replicate_free}
use Rattle.slab_space.proofs.space.SlabSpace.new.Goals as goal

pub invariant_of-result : goal.invariant_of-result
invariant_of-result c =
    let free : free_count (all_owners c.new.result.items c.args.limit) ≡ c.args.limit - 0 =
    ap (λ (slots : List (Option HeldSlab)). free_count (all_owners slots c.args.limit)) c.new.ensures.items ∙ free_count-replicate_free (c.args.limit - 0) in
    record {
      within = omega (arith, c.new.result.ok.0);
      small = c.requires.most;
      counted = omega (arith, free);
      front = λ slab low. absurd (omega arith);
    }
