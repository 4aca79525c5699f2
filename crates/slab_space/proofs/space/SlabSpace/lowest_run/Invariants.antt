use Rattle.slab_space.specs.Table.{space_of}
use Rattle.slab_space.proofs.RunsFound.{Searched}
use Rattle.slab_space.proofs.space.SlabSpace.lowest_run.Given as goal

abbrev pub invariant-loop-at : goal.invariant-loop-at
invariant-loop-at l = Searched (space_of l.self-inside).owners l.count l.first l.at
