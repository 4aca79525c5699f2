-- Targets in a graph, and the parts of a node's objects.
use Rattle.std.specs.Prelude.{ℕ, ◌+◌, ◌==◌, Bool, true, false, ◌&&◌, ◌||◌, not, if◌then◌else◌, List, slice_get, Option, Some, None}
use Rattle.c_typed.specs.Types.{CType, Void, Struct, Array}
use Rattle.c_typed.specs.Layouts.{StructDef, layouts, members_by_tag, known_members, member_slots, member_type, is_complete}
use Rattle.heap_graph.specs.Parts.{alike, has_part}
use Rattle.heap_graph.specs.Graphs.{Target, Element, Missing, OfType, Collapsed, Flags, Node, Graph, edge_in, node_at}

-- ---- targets

abbrev pub same_target : Option Target → Option Target → Bool
same_target None None = true
same_target (Some a) (Some b) = (a.node == b.node) && (a.shift == b.shift)
same_target _ _ = false

abbrev pub has_target : Option Target → Bool
has_target None = false
has_target (Some target) = true

-- something holds of the node of a target and its shift; where there is no target it does
abbrev pub at_target : Graph → Option Target → (Node → ℕ → Bool) → Bool
at_target graph None holds = true
at_target graph (Some target) holds = by (node_at graph target.node)
  where
    by : Option Node → Bool
    by None = false
    by (Some node) = holds node target.shift

abbrev pub is_collapsed : Element → Bool
is_collapsed Collapsed = true
is_collapsed element = false

-- so many slots behind a target; a collapsed node has one slot
abbrev pub shifted : Graph → ℕ → Option Target → Option Target
shifted graph slots None = None
shifted graph slots (Some target) = by (node_at graph target.node)
  where
    by : Option Node → Option Target
    by None = None
    by (Some node) = Some (record { node = target.node; shift = if is_collapsed node.element then 0 else target.shift + slots })

-- what the pointer there points to
abbrev pub edge_at : Graph → Option Target → Option Target
edge_at graph None = None
edge_at graph (Some target) = by (node_at graph target.node)
  where
    by : Option Node → Option Target
    by None = None
    by (Some node) = edge_in node.edges target.shift

-- ---- types at targets

-- a part of the type begins at the shift, or the node is collapsed
abbrev pub holds_part : List StructDef → CType → Node → ℕ → Bool
holds_part structs c_type node shift = by node.element
  where
    by : Element → Bool
    by Missing = false
    by (OfType own) = has_part structs own shift c_type
    by Collapsed = true

-- what is told by a pointer to a type of what it points to: nothing by one to void, to functions, or to a structure that isn't completed
abbrev pub points_to : List StructDef → Graph → CType → Option Target → Bool
points_to structs graph c_type target = if is_complete structs c_type then at_target graph target (holds_part structs c_type) else true

-- ---- what is kept of a node where it is merged with others

-- where one test holds, so does the other
abbrev pub implies : Bool → Bool → Bool
implies test other = not test || other

abbrev pub types_differ : Element → Element → Bool
types_differ (OfType a) (OfType b) = not (alike a b)
types_differ _ _ = false

abbrev pub flags_kept : Flags → Flags → Bool
flags_kept old new =
    implies old.heap new.heap && (implies old.stack new.stack && (implies old.global new.global && (implies old.array new.array && (implies old.modified new.modified && implies old.read new.read))))

-- those, and that it isn't of null pointers alone, which is known of nodes while a graph is made
abbrev pub marks_kept : Flags → Flags → Bool
marks_kept old new = implies old.certain new.certain && flags_kept old new

abbrev pub element_kept : List StructDef → Element → Node → ℕ → Bool
element_kept structs Missing node shift = true
element_kept structs (OfType c_type) node shift = holds_part structs c_type node shift
element_kept structs Collapsed node shift = is_collapsed node.element

-- ---- steps

-- the part of a node's objects to which a path leads, and its type
pub record Part : Type 0 where
  pub target : Option Target
  pub c_type : CType

-- the slots in front of a member, and its type
abbrev pub slots_before : List StructDef → CType → ℕ → ℕ
slots_before structs (Struct tag) number = let members = known_members (members_by_tag structs tag) in member_slots (layouts structs) members number (slice_get members number)
slots_before structs c_type number = 0

abbrev pub or_void : Option CType → CType
or_void None = Void
or_void (Some c_type) = c_type

abbrev pub type_of_member : List StructDef → CType → ℕ → CType
type_of_member structs (Struct tag) number = or_void (member_type (slice_get (known_members (members_by_tag structs tag)) number))
type_of_member structs c_type number = Void

abbrev pub member_part : List StructDef → Graph → ℕ → Part → Part
member_part structs graph number part = record { target = shifted graph (slots_before structs part.c_type number) part.target; c_type = type_of_member structs part.c_type number }

abbrev pub element_type : CType → CType
element_type (Array element length) = element
element_type c_type = Void

abbrev pub element_part : Part → Part
element_part part = record part { c_type = element_type part.c_type }

abbrev pub is_array : CType → Bool
is_array (Array element length) = true
is_array c_type = false

-- what an object of a type has as elements: those of an array, or itself
abbrev pub elements_of : CType → CType
elements_of (Array element length) = element
elements_of c_type = c_type
