-- What targets, elements and flags in memory stand for.
use Rattle.c_typed.specs.Table.{Interned, type_in, Stands}
use Rattle.heap_graph.specs.declared.graph.Target as memory_target
use Rattle.heap_graph.specs.declared.graph.Element as memory_element
use Rattle.heap_graph.specs.declared.graph.Element.TheVariants as E
use Rattle.heap_graph.specs.declared.graph.Flags as memory_flags
use Rattle.heap_graph.specs.Graphs.{Target, Element, Missing, OfType, Collapsed, Flags}

abbrev pub target_of : memory_target.Target → Target
target_of target = record { node = target.node; shift = target.shift }

abbrev pub element_in : Interned → memory_element.Element → Element
element_in table E.Missing = Missing
element_in table (E.OfType c_type) = OfType (type_in table c_type)
element_in table E.Collapsed = Collapsed

-- its number stands for a type
abbrev pub ElementStands : Interned → memory_element.Element → Type 0
ElementStands table (E.OfType c_type) = Stands table c_type
ElementStands table element = Unit {0}

abbrev pub flags_of : memory_flags.Flags → Flags
flags_of flags =
    record { heap = flags.heap; stack = flags.stack; global = flags.global; array = flags.array; modified = flags.modified; read = flags.read; complete = flags.complete; certain = flags.certain }
