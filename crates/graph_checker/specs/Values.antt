-- A program with the graph of `start`, while its first values are judged.
use Rattle.std.specs.Prelude.{ℕ, Bool, ◌&&◌, List, [], None}
use Rattle.c_typed.specs.declared.definition.Static as memory_static
use Rattle.c_typed.specs.declared.part.Part.{Part}
use Rattle.c_typed.specs.Types.{Void}
use Rattle.c_typed.specs.DefinitionViews.{static_of, LiteralsStand}
use Rattle.c_typed.specs.Values.{FirstPlace}
use Rattle.tac_ir.specs.declared.program.Tac.{Tac}
use Rattle.tac_ir.specs.Views.{tac_of}
use Rattle.heap_graph.specs.Targets as T
use Rattle.heap_graph.specs.Targets.{has_target, at_target}
use Rattle.heap_graph.specs.Closed.{Family, in_start}
use Rattle.heap_graph.specs.declared.frozen.FrozenGraph.{FrozenGraph}
use Rattle.heap_graph.specs.Frozen.{bare}
use Rattle.heap_graph.specs.Numbers.{AreNumbers}
use Rattle.graph_checker.specs.declared.values.Values.{Values}

-- the program with the graph of `start` alone
abbrev pub alone : Tac → FrozenGraph → Family
alone tac start = record { tac = tac_of tac; groups = []; graphs = record { graphs = []; start = bare tac.types start; embedding = λ crossing node. None } }

abbrev pub family_of : Values → Family
family_of values = alone values.tac.now values.start.now

-- the numbers are the program's
pub record IsProgram (values : Values) : Type 0 where
  pub numbers : AreNumbers values.tac.now values.numbers.now
  pub literals : LiteralsStand values.tac.now.types values.tac.now.literals.items

abbrev pub place_in : memory_static.Static → List Part → ℕ → FirstPlace
place_in root steps index = record { root = static_of root; steps = steps; index = index }

-- a variable has a target that is written
abbrev pub is_stored : Family → T.Part → Bool
is_stored family global = has_target global.target && at_target (in_start family) global.target (λ node shift. node.flags.modified)

-- nothing, of which no object is
abbrev pub nothing : T.Part
nothing = record { target = None; c_type = Void }
