-- With each group that gets its graph the graphs are the least below one number more.
use Rattle.std.proofs.Common.{◌≡◌, ℕ, suc, ◌<◌, ◌≤◌, ◌⊎◌, inl, inr, subst, arith}
use Rattle.std.proofs.lemmas.Bool.{cases_lt}
use Rattle.heap_graph.specs.Graphs.{ProgramGraphs}
use Rattle.heap_graph.specs.Closed.{Family}
use Rattle.heap_graph.specs.Steps.{unmoved}
use Rattle.heap_graph.specs.declared.program.ProgramGraphs as memory_graphs
use Rattle.dsa_inlining.specs.Before.{GraphsBefore}
use Rattle.dsa_bottom_up.specs.AssembledGroups.Making.{family_at, BeginsWith}
use Rattle.dsa_bottom_up.specs.Mapping.{GroupMaps, MapsBelow}
use Rattle.dsa_bottom_up.specs.Below.{ClosedBelow, LeastBelow}
use Rattle.dsa_bottom_up.specs.LeastGraphs.Making.{other_at, AreLeast}
use Rattle.dsa_bottom_up.proofs.SaturatedBelow.{least_mapped}

pub none_below : (family : Family) → LeastBelow family 0
none_below family graphs at reach closed = ((λ group. unmoved), λ function less. absurd (omega (arith, reach, less)))

pub below_more : (before : GraphsBefore) (number : ℕ) → AreLeast before (suc number) → (all : memory_graphs.ProgramGraphs) → BeginsWith before (suc number) all → LeastBelow (family_at before all) number
    → LeastBelow (family_at before all) (suc number)
below_more before number least all begins less graphs at reach closed = by (cases_lt number at)
  where
    by : (number < at) ⊎ (at ≤ number) → (maps : GroupMaps) × MapsBelow (family_at before all) (other_at before graphs) at maps
    by (inr within) = less graphs at within closed
    by (inl past) =
        let same : at ≡ suc number = omega (arith, past, reach) in
        subst (λ n. ClosedBelow (other_at before graphs) n → (maps : GroupMaps) × MapsBelow (family_at before all) (other_at before graphs) n maps) (omega (arith, same)) (least_mapped before (suc number) least all begins graphs) closed
