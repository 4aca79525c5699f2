-- What steps ask of a graph.
use Rattle.std.specs.Prelude.{◌≡◌, ℕ, Bool, true, false, List, Some}
use Rattle.c_typed.specs.Types.{CType}
use Rattle.c_typed.specs.Layouts.{StructDef}
use Rattle.heap_graph.specs.Graphs.{Target, Flags}
use Rattle.heap_graph.specs.Targets.{at_target, holds_part}
use Rattle.heap_graph.specs.Merging.{mapped, Asked}
use Rattle.graph_unification.specs.declared.marks.Mark.{Mark}
use Rattle.graph_unification.specs.declared.marks.Mark.TheVariants as M

-- a part of the type begins at the target, or its node is collapsed
abbrev pub HoldsPart : List StructDef → CType → Target → Asked
HoldsPart structs c_type at other map = at_target other (mapped other map at) (holds_part structs c_type) ≡ true

-- ---- flags

abbrev pub has_mark : Mark → Flags → Bool
has_mark M.Heap flags = flags.heap
has_mark M.Array flags = flags.array
has_mark M.Modified flags = flags.modified
has_mark M.Read flags = flags.read
has_mark M.Certain flags = flags.certain

-- the flags, and that one too
abbrev pub marked : Mark → Flags → Flags
marked M.Heap flags = record flags { heap = true }
marked M.Array flags = record flags { array = true }
marked M.Modified flags = record flags { modified = true }
marked M.Read flags = record flags { read = true }
marked M.Certain flags = record flags { certain = true }

-- no flags
abbrev pub bare : Flags
bare = record { heap = false; stack = false; global = false; array = false; modified = false; read = false; complete = false; certain = false }

-- the node has the flag
abbrev pub HasMark : ℕ → Mark → Asked
HasMark number mark other map = at_target other (Some (map number)) (λ node shift. has_mark mark node.flags) ≡ true
