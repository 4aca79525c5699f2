-- What the shape of a type's number tells of the type.
use Rattle.std.proofs.Common.{◌≡◌, ℕ, ◌≤◌, List, [], ◌∷◌, take, Option, Some, None, refl, sym, ap, ◌∙◌, arith}
use Rattle.std.specs.Prelude.{slice_get}
use Rattle.c_typed.specs.declared.c_type.CType as number
use Rattle.c_typed.specs.declared.c_type.Shape.{Shape}
use Rattle.c_typed.specs.declared.structure.Step.TheVariants as Steps
use Rattle.c_typed.specs.Types.{CType, Void, Integer, Pointer, Array, Struct, Function}
use Rattle.c_typed.specs.Layouts.{StructDef, MemberDef, Layout, Table, greatest, no_layout, behind, member_layout, members_layout, layouts, members_by_tag, known_members, member_type, member_slots, slot_at}
use Rattle.c_typed.specs.Table.{Interned, type_in, IsNumberOf, HasShape, shape_type, IsMemberType}
use Rattle.c_typed.proofs.Grown.{void_stands}
use Rattle.heap_graph.specs.Targets as G

pub shaped : {A : Type 0} (f : CType → A) (table : Interned) (c_type : CType) (own : number.CType) (shape : Shape) → IsNumberOf table c_type own → HasShape table (type_in table own) shape
    → f (shape_type table shape) ≡ f c_type
shaped f table c_type own shape is has = ap f (sym has.means ∙ is.means)

-- ---- slots in front of members

slots_small : (table : Table) (front : Layout) (members : List MemberDef) → front.slots ≤ greatest → (members_layout table front members).slots ≤ greatest
slots_small table front [] small = small
slots_small table front (member ∷ members) small = slots_small table (behind front (member_layout table member)) members (omega arith)

member_slots_small : (table : Table) (members : List MemberDef) (number : ℕ) (member : Option MemberDef) → member_slots table members number member ≤ greatest
member_slots_small table members number None = omega arith
member_slots_small table members number (Some member) = slots_small table no_layout (take number members) (omega arith)

pub slots_small_before : (structs : List StructDef) (c_type : CType) (number : ℕ) → G.slots_before structs c_type number ≤ greatest
slots_small_before structs (Struct tag) number =
    let members = known_members (members_by_tag structs tag) in
    member_slots_small (layouts structs) members number (slice_get members number)
slots_small_before structs Void number = omega arith
slots_small_before structs (Integer int_type) number = omega arith
slots_small_before structs (Pointer target) number = omega arith
slots_small_before structs (Array element length) number = omega arith
slots_small_before structs (Function result parameters) number = omega arith

pub slots_found : (structs : List StructDef) (c_type : CType) (number : ℕ) → slot_at structs (Some c_type) (Steps.Member number ∷ []) ≡ G.slots_before structs c_type number
slots_found structs (Struct tag) number = let small = slots_small_before structs (Struct tag) number in omega arith
slots_found structs Void number = refl
slots_found structs (Integer int_type) number = refl
slots_found structs (Pointer target) number = refl
slots_found structs (Array element length) number = refl
slots_found structs (Function result parameters) number = refl

-- ---- void

pub is_void : (table : Interned) → type_in table (record { 0 = 0 }) ≡ Void
is_void table = (void_stands table (record { 0 = 0 }) refl).1

-- a type is void where that of a shape is
pub void_for : (f : CType → CType) (table : Interned) (c_type : CType) (own : number.CType) (shape : Shape) → IsNumberOf table c_type own → HasShape table (type_in table own) shape
    → f (shape_type table shape) ≡ Void → type_in table (record { 0 = 0 }) ≡ f c_type
void_for f table c_type own shape is has void = is_void table ∙ (sym void ∙ shaped f table c_type own shape is has)

-- ---- members without a type

pub no_member : (table : Interned) (member : Option MemberDef) → IsMemberType table member None → G.or_void (member_type member) ≡ Void
no_member table None is = refl
no_member table (Some member) is = absurd is

pub no_type : (table : Interned) (member : Option MemberDef) → IsMemberType table member (Some None) → G.or_void (member_type member) ≡ Void
no_type table None is = absurd is
no_type table (Some member) is = ap G.or_void (sym is.0)
