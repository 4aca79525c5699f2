-- Objects of the nodes of a graph.
use Rattle.std.specs.Prelude.{◌≡◌, ℕ, ◌<◌, Bool, true, ◌&&◌, List, slice_get, Option, Some, None}
use Rattle.c_typed.specs.Types.{CType}
use Rattle.c_typed.specs.Layouts.{StructDef}
use Rattle.heap_graph.specs.Graphs.{Target, Flags, Graph}
use Rattle.heap_graph.specs.Parts.{slots_of}
use Rattle.heap_graph.specs.Targets.{has_target, at_target, holds_part, is_array, elements_of, implies}
use Rattle.graph_checker.specs.declared.objects.Place.{Place}
use Rattle.graph_checker.specs.declared.objects.Place.TheVariants as P

-- ---- slots

-- the elements of an object of this type have a slot
abbrev pub HasSlot : List StructDef → CType → Type 0
HasSlot structs c_type = 0 < slots_of structs (elements_of c_type)

abbrev pub ObjectsHaveSlots : List StructDef → List CType → Type 0
ObjectsHaveSlots structs types = (number : ℕ) (c_type : CType) → slice_get types number ≡ Some c_type → HasSlot structs c_type

-- ---- objects

-- the flag of nodes whose objects may be there
abbrev pub kept_at : Place → Flags → Bool
kept_at P.Frame flags = flags.stack
kept_at P.Static flags = flags.global

-- an object is one of the target's node: its type, or that of its elements, is a part
abbrev pub is_object : List StructDef → Graph → CType → (Flags → Bool) → Option Target → Bool
is_object structs graph c_type kind target =
    has_target target && at_target graph target (λ node shift. holds_part structs (elements_of c_type) node shift && (kind node.flags && implies (is_array c_type) node.flags.array))

-- Nothing is asked where there is no object outside functions, or where the graph doesn't tell of it.
abbrev pub is_static : List StructDef → Graph → Option Target → Option CType → Bool
is_static structs graph target None = true
is_static structs graph target (Some c_type) = implies (has_target target) (is_object structs graph c_type (λ flags. flags.global) target)

-- of the object outside functions with this number
abbrev pub static_at : List StructDef → Graph → (ℕ → Option Target) → List CType → ℕ → Bool
static_at structs graph targets types number = is_static structs graph (targets number) (slice_get types number)
