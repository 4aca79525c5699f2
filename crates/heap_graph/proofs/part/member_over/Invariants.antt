use Rattle.std.proofs.Common.{◌-◌, length}
use Rattle.c_typed.specs.Types.{Struct}
use Rattle.c_typed.specs.Table.{tag_in, structs_in, members_of}
use Rattle.heap_graph.specs.Searching.{Searched}
use Rattle.heap_graph.proofs.part.member_over.Given as goal

abbrev pub invariant-loop-member : goal.invariant-loop-member
invariant-loop-member l = Searched l.types (tag_in l.types l.id) l.slot l.front l.number

abbrev pub decreases-loop-member : goal.decreases-loop-member
decreases-loop-member l = length (members_of (structs_in l.types) (Struct (tag_in l.types l.id))) - l.number
