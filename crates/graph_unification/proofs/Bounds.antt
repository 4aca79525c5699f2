-- Shifts of slots fit a word.
use Rattle.std.proofs.Common.{ℕ, ◌<◌, ◌≤◌, ◌^◌, Bool, true, false, cond, List, [], ◌∷◌, arith}
use Rattle.std.specs.Prelude.{bytes_eq}
use Rattle.c_typed.specs.Types.{CType, Void, Integer, Pointer, Array, Struct, Function}
use Rattle.c_typed.specs.Layouts.{StructDef, MemberDef, Layout, Table, greatest, layouts, layout_in, layout_by_tag, member_layout, behind, members_layout, struct_layout, no_layout}
use Rattle.heap_graph.specs.Graphs.{Target, Element, Missing, OfType, Collapsed, Graph}
use Rattle.heap_graph.specs.Merging.{slots, IsSlot}

members_few : (table : Table) (members : List MemberDef) (front : Layout) → front.slots ≤ greatest → (members_layout table front members).slots ≤ greatest
members_few table [] front few = few
members_few table (member ∷ members) front few = members_few table members (behind front (member_layout table member)) (omega arith)

tag_few : (structs : List StructDef) (tag : List ℕ) → (layout_by_tag (layouts structs) tag).slots ≤ greatest
tag_few [] tag = omega arith
tag_few (newest ∷ older) tag = by (bytes_eq newest.tag tag) (tag_few older tag)
  where
    by : (b : Bool) → (layout_by_tag (layouts older) tag).slots ≤ greatest → (cond b (struct_layout (layouts older) newest.members) (layout_by_tag (layouts older) tag)).slots ≤ greatest
    by true rest = members_few (layouts older) newest.members no_layout (omega arith)
    by false rest = rest

type_few : (structs : List StructDef) (t : CType) → (layout_in (layouts structs) t).slots ≤ greatest
type_few structs Void = omega arith
type_few structs (Integer t) = omega arith
type_few structs (Pointer t) = omega arith
type_few structs (Array element length) = type_few structs element
type_few structs (Struct tag) = tag_few structs tag
type_few structs (Function t ts) = omega arith

few_slots : (structs : List StructDef) (e : Element) → slots structs e ≤ greatest
few_slots structs Missing = omega arith
few_slots structs (OfType t) = type_few structs t
few_slots structs Collapsed = omega arith

pub slot_fits : (structs : List StructDef) (graph : Graph) (t : Target) → IsSlot structs graph t → t.shift < 2 ^ 64
slot_fits structs graph t slot = let few = few_slots structs slot.node.element in let inside = slot.inside in omega (arith, few, inside)
