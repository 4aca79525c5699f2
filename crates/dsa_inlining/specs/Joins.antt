-- How names are joined with copies of a function's nodes.
use Rattle.std.specs.Prelude.{◌≡◌, false, List}
use Rattle.tac_ir.specs.Code.{Tac}
use Rattle.tac_ir.specs.States.{Owner}
use Rattle.heap_graph.specs.Graphs.{Name, Graph}
use Rattle.heap_graph.specs.Targets.{has_target}
use Rattle.heap_graph.specs.Merging.{GraphMap, Maps}
use Rattle.graph_unification.specs.Going.{GoesOn}
use Rattle.dsa_local.specs.Told.{NamesTold}
use Rattle.dsa_inlining.specs.Crossed.{is_mentioned, StaticsFit}

-- A graph goes on to one in which something holds, on the way to each in which it does and the variables and literals fit of which the graph of
-- the function that is called tells. Only these may get targets, and what is told of all names of the group's is told still.
pub record Joins (tac : Tac) (callee : Graph) (wanted : Graph → Type 0) (old new : Graph) : Type 0 where
  pub goes : GoesOn tac.structs old new
  pub names : (name : Name) → is_mentioned callee name ≡ false → has_target (new.targets name) ≡ has_target (old.targets name)
  pub told : (owners : List Owner) → NamesTold tac owners old → NamesTold tac owners new
  pub leads : (other : Graph) (into : GraphMap) → Maps tac.structs old other into → StaticsFit tac callee other → wanted other → (rest : GraphMap) × Maps tac.structs new other rest
  pub joined : wanted new
