-- What is asked of the node of an allocation.
use Rattle.std.specs.Prelude.{Bool, false, ◌&&◌, ◌||◌, List, Option, Some, None, ℤ, pos}
use Rattle.std.specs.Ordering.{int_eq}
use Rattle.c_typed.specs.Layouts.{StructDef}
use Rattle.tac_ir.specs.Code.{Tree}
use Rattle.tac_ir.specs.Layouts.{size_of}
use Rattle.tac_ir.specs.Trees.{no_registers, computes}
use Rattle.heap_graph.specs.Graphs.{Target, Element, OfType, Graph}
use Rattle.heap_graph.specs.Targets.{has_target, at_target}

-- the size of one object of the node's type, told by a constant
abbrev pub is_size_of : List StructDef → Tree → Element → Bool
is_size_of structs size (OfType c_type) = by (computes no_registers size)
  where
    by : Option ℤ → Bool
    by None = false
    by (Some z) = int_eq z (pos (size_of structs c_type))
is_size_of structs size element = false

abbrev pub is_allocation : List StructDef → Graph → Option Target → Tree → Bool
is_allocation structs graph target size = has_target target && at_target graph target (λ node shift. node.flags.heap && (is_size_of structs size node.element || node.flags.array))
