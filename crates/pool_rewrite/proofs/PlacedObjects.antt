-- Objects that are placed one behind another.
use Rattle.std.proofs.Common.{◌≡◌, ℕ, zero, suc, ◌+◌, ◌<◌, ◌≤◌, List, [], ◌∷◌, ◌++◌, map, take, length, get_or, refl, sym, ap, subst, ◌∙◌, arith}
use Rattle.std.proofs.lemmas.List.{append_assoc, map-append}
use Rattle.std.proofs.Math.Seq.{take-suc}
use Rattle.c_typed.specs.declared.definition.GlobalDef as memory_global
use Rattle.c_typed.specs.declared.definition.LiteralDef as memory_literal
use Rattle.c_typed.specs.Types.{CType, literal_type}
use Rattle.c_typed.specs.Layouts.{Layout, layout_of, greatest}
use Rattle.c_typed.specs.Table.{Interned, type_in, structs_in}
use Rattle.c_typed.specs.DefinitionViews.{LiteralsStand}
use Rattle.tac_ir.specs.declared.program.LocalObject as memory_object
use Rattle.tac_ir.specs.Views.{object_in}
use Rattle.tac_ir.specs.Code as C
use Rattle.pool_ir.specs.Code.{FrameObject}
use Rattle.pool_ir.specs.Views.{object_of}
use Rattle.pool_rewrite.specs.declared.statics.Statics.{Statics}
use Rattle.pool_rewrite.specs.declared.frames.Place.{Place}
use Rattle.pool_rewrite.specs.Placing.{begins, end_behind, begin_of, static_layouts, literal_offset, frame_objects}
use Rattle.pool_rewrite.specs.Rewritable.{layout_in_table, global_layouts, literal_layouts, local_layouts}
use Rattle.pool_rewrite.specs.Places.{begins_of, PlacesMore, AreStatics, IsPlace, frame_objects_of, local_objects_of}
use Rattle.pool_rewrite.proofs.AlignedLayouts.{IsAligned, aligned_above, aligned_layout}

-- ---- one behind another

pub begins_more : (front : ℕ) (a b : List Layout) → begins_of front (a ++ b) ≡ begins_of front a ++ begins_of (end_behind front a) b
begins_more front [] b = refl
begins_more front (first ∷ others) b = ap (λ rest. begins front first ∷ rest) (begins_more (begins front first + first.size) others b)

pub end_more : (front : ℕ) (a b : List Layout) → end_behind front (a ++ b) ≡ end_behind (end_behind front a) b
end_more front [] b = refl
end_more front (first ∷ others) b = end_more (begins front first + first.size) others b

-- where the one of a number begins, or the end
pub begin_read : (front : ℕ) (layouts : List Layout) (n : ℕ) → get_or (begins_of front layouts) n (end_behind front layouts) ≡ begin_of front layouts n
begin_read front [] n = refl
begin_read front (first ∷ others) zero = refl
begin_read front (first ∷ others) (suc n) = begin_read (begins front first + first.size) others n

pub begin_past : (front : ℕ) (layouts : List Layout) (n : ℕ) → length layouts ≤ n → begin_of front layouts n ≡ end_behind front layouts
begin_past front [] n le = refl
begin_past front (first ∷ others) zero le = absurd (omega (arith, le))
begin_past front (first ∷ others) (suc n) le = begin_past (begins front first + first.size) others n (omega (arith, le))

pub length_begins : (front : ℕ) (layouts : List Layout) → length (begins_of front layouts) ≡ length layouts
length_begins front [] = refl
length_begins front (first ∷ others) = ap suc (length_begins (begins front first + first.size) others)

pub placed_more : (first second third : Statics) (a b : List Layout) → PlacesMore first second a → PlacesMore second third b → PlacesMore first third (a ++ b)
placed_more first second third a b p q = record {
  begins = q.begins ∙ ((λ i. p.begins i ++ begins_of (p.size i) b) ∙ (append_assoc first.begins.items (begins_of first.size a) (begins_of (end_behind first.size a) b)
      ∙ ap (λ rest. first.begins.items ++ rest) (sym (begins_more first.size a b))));
  globals = q.globals ∙ p.globals;
  size = q.size ∙ (ap (λ n. end_behind n b) p.size ∙ sym (end_more first.size a b));
}

-- ---- static objects, by their numbers

pub static_read : (tac : C.Tac) (statics : Statics) (n : ℕ) → AreStatics tac statics → get_or statics.begins.items n statics.size ≡ begin_of 0 (static_layouts tac) n
static_read tac statics n are = (λ i. get_or (are.begins i) n (are.size i)) ∙ begin_read 0 (static_layouts tac) n

pub literal_read : (tac : C.Tac) (statics : Statics) (literal n : ℕ) → AreStatics tac statics → n ≡ statics.globals + literal → get_or statics.begins.items n statics.size ≡ literal_offset tac literal
literal_read tac statics literal n are is = static_read tac statics n are ∙ ap (λ k. begin_of 0 (static_layouts tac) k) (is ∙ ap (λ k. k + literal) are.globals)

pub literal_past : (tac : C.Tac) (statics : Statics) (literal : ℕ) → AreStatics tac statics → length statics.begins.items ≤ statics.globals + literal → statics.size ≡ literal_offset tac literal
literal_past tac statics literal are le =
    let count : length statics.begins.items ≡ length (static_layouts tac) = ap length are.begins ∙ length_begins 0 (static_layouts tac) in
    let globals : statics.globals ≡ length tac.globals = are.globals in
    are.size ∙ sym (begin_past 0 (static_layouts tac) (length tac.globals + literal) (omega (arith, le, count, globals)))

-- ---- aligned layouts

abbrev pub AllAligned : List Layout → Type 0
AllAligned [] = Unit {0}
AllAligned (first ∷ others) = IsAligned first × AllAligned others

pub end_above : (front : ℕ) (layouts : List Layout) → AllAligned layouts → front ≤ end_behind front layouts
end_above front [] h = omega arith
end_above front (first ∷ others) h = by (begins front first) (end_behind (begins front first + first.size) others) (aligned_above first.alignment front h.0.one) (end_above (begins front first + first.size) others h.1)
  where
    by : (start end : ℕ) → front ≤ start → start + first.size ≤ end → front ≤ end
    by start end le le' = omega (arith, le, le')

pub globals_aligned : (table : Interned) (globals : List memory_global.GlobalDef) → AllAligned (global_layouts table globals)
globals_aligned table [] = tt
globals_aligned table (first ∷ others) = (aligned_layout (structs_in table) (type_in table first.c_type), globals_aligned table others)

pub literals_aligned : (table : Interned) (literals : List memory_literal.LiteralDef) → AllAligned (literal_layouts table literals)
literals_aligned table [] = tt
literals_aligned table (first ∷ others) = (aligned_layout (structs_in table) (literal_type first.bytes), literals_aligned table others)

pub locals_aligned : (table : Interned) (objects : List memory_object.LocalObject) → AllAligned (local_layouts table objects)
locals_aligned table [] = tt
locals_aligned table (first ∷ others) = (aligned_layout (structs_in table) (type_in table first.c_type), locals_aligned table others)

-- ---- variables

pub globals_next : (table : Interned) (globals : List memory_global.GlobalDef) (n : ℕ) (global : memory_global.GlobalDef) → n < length globals → global ≡ get_or globals n global
    → global_layouts table (take (suc n) globals) ≡ global_layouts table (take n globals) ++ layout_in_table table global.c_type ∷ []
globals_next table [] n global lt is = absurd (omega (arith, lt))
globals_next table (first ∷ others) zero global lt is = ap (λ (g : memory_global.GlobalDef). layout_in_table table g.c_type ∷ []) (sym is)
globals_next table (first ∷ others) (suc n) global lt is = ap (λ rest. layout_in_table table first.c_type ∷ rest) (globals_next table others n global (omega (arith, lt)) is)

pub globals_inside : (table : Interned) (front : ℕ) (globals : List memory_global.GlobalDef) (n : ℕ) (global : memory_global.GlobalDef) → n < length globals → global ≡ get_or globals n global
    → end_behind (end_behind front (global_layouts table (take n globals))) (layout_in_table table global.c_type ∷ []) ≤ end_behind front (global_layouts table globals)
globals_inside table front [] n global lt is = absurd (omega (arith, lt))
globals_inside table front (first ∷ others) zero global lt is =
    subst (λ (g : memory_global.GlobalDef). end_behind front (layout_in_table table g.c_type ∷ []) ≤ end_behind front (global_layouts table (first ∷ others))) (sym is)
    (end_above (begins front (layout_in_table table first.c_type) + (layout_in_table table first.c_type).size) (global_layouts table others) (globals_aligned table others))
globals_inside table front (first ∷ others) (suc n) global lt is = globals_inside table (begins front (layout_in_table table first.c_type) + (layout_in_table table first.c_type).size) others n global (omega (arith, lt)) is

-- ---- literals, whose types stand for those of their bytes

pub literals_next : (table : Interned) (literals : List memory_literal.LiteralDef) (n : ℕ) (literal : memory_literal.LiteralDef) → LiteralsStand table literals → n < length literals → literal ≡ get_or literals n literal
    → literal_layouts table (take (suc n) literals) ≡ literal_layouts table (take n literals) ++ layout_in_table table literal.c_type ∷ []
literals_next table [] n literal h lt is = absurd (omega (arith, lt))
literals_next table (first ∷ others) zero literal h lt is = (λ i. layout_of (structs_in table) (sym h.0.1 i) ∷ []) ∙ ap (λ (g : memory_literal.LiteralDef). layout_in_table table g.c_type ∷ []) (sym is)
literals_next table (first ∷ others) (suc n) literal h lt is = ap (λ rest. literal_layouts table (first ∷ []) ++ rest) (literals_next table others n literal h.1 (omega (arith, lt)) is)

pub literals_inside : (table : Interned) (front : ℕ) (literals : List memory_literal.LiteralDef) (n : ℕ) (literal : memory_literal.LiteralDef) → LiteralsStand table literals → n < length literals → literal ≡ get_or literals n literal
    → end_behind (end_behind front (literal_layouts table (take n literals))) (layout_in_table table literal.c_type ∷ []) ≤ end_behind front (literal_layouts table literals)
literals_inside table front [] n literal h lt is = absurd (omega (arith, lt))
literals_inside table front (first ∷ others) zero literal h lt is =
    subst (λ (g : memory_literal.LiteralDef). end_behind front (layout_in_table table g.c_type ∷ []) ≤ end_behind front (literal_layouts table (first ∷ others))) (sym is)
    (subst (λ (t : CType). end_behind front (layout_of (structs_in table) t ∷ []) ≤ end_behind front (literal_layouts table (first ∷ others))) (sym h.0.1)
    (end_above (end_behind front (literal_layouts table (first ∷ []))) (literal_layouts table others) (literals_aligned table others)))
literals_inside table front (first ∷ others) (suc n) literal h lt is = literals_inside table (end_behind front (literal_layouts table (first ∷ []))) others n literal h.1 (omega (arith, lt)) is

-- ---- locals

pub locals_next : (table : Interned) (front : ℕ) (objects : List memory_object.LocalObject) (n : ℕ) (object : memory_object.LocalObject) → n < length objects → object ≡ get_or objects n object
    → end_behind front (local_layouts table (take (suc n) objects)) ≡ end_behind (end_behind front (local_layouts table (take n objects))) (layout_in_table table object.c_type ∷ [])
locals_next table front [] n object lt is = absurd (omega (arith, lt))
locals_next table front (first ∷ others) zero object lt is = ap (λ (g : memory_object.LocalObject). end_behind front (layout_in_table table g.c_type ∷ [])) (sym is)
locals_next table front (first ∷ others) (suc n) object lt is = locals_next table (end_behind front (layout_in_table table first.c_type ∷ [])) others n object (omega (arith, lt)) is

pub locals_inside : (table : Interned) (front : ℕ) (objects : List memory_object.LocalObject) (n : ℕ) (object : memory_object.LocalObject) → n < length objects → object ≡ get_or objects n object
    → end_behind (end_behind front (local_layouts table (take n objects))) (layout_in_table table object.c_type ∷ []) ≤ end_behind front (local_layouts table objects)
locals_inside table front [] n object lt is = absurd (omega (arith, lt))
locals_inside table front (first ∷ others) zero object lt is =
    subst (λ (g : memory_object.LocalObject). end_behind front (layout_in_table table g.c_type ∷ []) ≤ end_behind front (local_layouts table (first ∷ others))) (sym is)
    (end_above (end_behind front (layout_in_table table first.c_type ∷ [])) (local_layouts table others) (locals_aligned table others))
locals_inside table front (first ∷ others) (suc n) object lt is = locals_inside table (end_behind front (layout_in_table table first.c_type ∷ [])) others n object (omega (arith, lt)) is

-- the frame's entry of a local behind so many bytes
abbrev pub frame_entry : Interned → ℕ → memory_object.LocalObject → FrameObject
frame_entry table front object =
    record { local = object.local; offset = begins front (layout_in_table table object.c_type); size = (layout_in_table table object.c_type).size }

pub frame_next : (table : Interned) (front : ℕ) (objects : List memory_object.LocalObject) (n : ℕ) (object : memory_object.LocalObject) → n < length objects → object ≡ get_or objects n object
    → frame_objects (structs_in table) front (map (object_in table) (take (suc n) objects))
    ≡ frame_objects (structs_in table) front (map (object_in table) (take n objects)) ++ frame_entry table (end_behind front (local_layouts table (take n objects))) object ∷ []
frame_next table front [] n object lt is = absurd (omega (arith, lt))
frame_next table front (first ∷ others) zero object lt is = ap (λ (g : memory_object.LocalObject). frame_entry table front g ∷ []) (sym is)
frame_next table front (first ∷ others) (suc n) object lt is =
    ap (λ rest. frame_entry table front first ∷ rest) (frame_next table (end_behind front (layout_in_table table first.c_type ∷ [])) others n object (omega (arith, lt)) is)

-- ---- the places of locals

abbrev local_object_of : Place → memory_object.LocalObject
local_object_of place = record { local = place.object.local; c_type = place.c_type }

placed_entry : (table : Interned) (front : ℕ) (object : memory_object.LocalObject) (place : Place) → IsPlace table front object place → object_of place.object ≡ frame_entry table front object
placed_entry table front object place is = λ i. record { local = is.local i; offset = is.offset i; size = is.size i }

placed_local : (table : Interned) (front : ℕ) (object : memory_object.LocalObject) (place : Place) → IsPlace table front object place → local_object_of place ≡ object
placed_local table front object place is = λ i. record { local = is.local i; c_type = is.c_type i }

-- where the next one begins
pub placed_end : (table : Interned) (front : ℕ) (object : memory_object.LocalObject) (place : Place) → IsPlace table front object place
    → place.object.offset + place.object.size ≡ end_behind front (layout_in_table table object.c_type ∷ [])
placed_end table front object place is = λ i. is.offset i + is.size i

pub end_next : (table : Interned) (front : ℕ) (objects : List memory_object.LocalObject) (n : ℕ) (object : memory_object.LocalObject) (end : ℕ) (place : Place) → n < length objects → object ≡ get_or objects n object
    → IsPlace table end object place → end ≡ end_behind front (local_layouts table (take n objects))
    → place.object.offset + place.object.size ≡ end_behind front (local_layouts table (take (suc n) objects))
end_next table front objects n object end place lt is placed at =
    placed_end table end object place placed ∙ (ap (λ k. end_behind k (layout_in_table table object.c_type ∷ [])) at ∙ sym (locals_next table front objects n object lt is))

pub entries_next : (table : Interned) (front : ℕ) (objects : List memory_object.LocalObject) (n : ℕ) (object : memory_object.LocalObject) (end : ℕ) (place : Place) (places : List Place) → n < length objects → object ≡ get_or objects n object
    → IsPlace table end object place → end ≡ end_behind front (local_layouts table (take n objects))
    → frame_objects_of places ≡ frame_objects (structs_in table) front (map (object_in table) (take n objects))
    → frame_objects_of (places ++ place ∷ []) ≡ frame_objects (structs_in table) front (map (object_in table) (take (suc n) objects))
entries_next table front objects n object end place places lt is placed at has =
    let entry : object_of place.object ≡ frame_entry table (end_behind front (local_layouts table (take n objects))) object = placed_entry table end object place placed ∙ ap (λ k. frame_entry table k object) at in
    map-append (λ (own : Place). object_of own.object) places (place ∷ []) ∙ ((λ i. has i ++ entry i ∷ []) ∙ sym (frame_next table front objects n object lt is))

pub objects_next : (table : Interned) (objects : List memory_object.LocalObject) (n : ℕ) (object : memory_object.LocalObject) (end : ℕ) (place : Place) (places : List Place) → n < length objects → object ≡ get_or objects n object
    → IsPlace table end object place → local_objects_of places ≡ take n objects → local_objects_of (places ++ place ∷ []) ≡ take (suc n) objects
objects_next table objects n object end place places lt is placed has =
    let own : local_object_of place ≡ get_or objects n object = placed_local table end object place placed ∙ is in
    map-append local_object_of places (place ∷ []) ∙ ((λ i. has i ++ own i ∷ []) ∙ sym (take-suc objects n object lt))

-- the next one lies in the frame
pub next_inside : (table : Interned) (front : ℕ) (objects : List memory_object.LocalObject) (n : ℕ) (object : memory_object.LocalObject) (end : ℕ) → n < length objects → object ≡ get_or objects n object
    → end ≡ end_behind front (local_layouts table (take n objects)) → end_behind front (local_layouts table objects) ≤ greatest → end_behind end (layout_in_table table object.c_type ∷ []) ≤ greatest
next_inside table front objects n object end lt is at small =
    let inside = locals_inside table front objects n object lt is in
    subst (λ k. end_behind k (layout_in_table table object.c_type ∷ []) ≤ greatest) (sym at) (omega (arith, inside, small))

pub above_next : (table : Interned) (end : ℕ) (object : memory_object.LocalObject) → end ≤ end_behind end (layout_in_table table object.c_type ∷ [])
above_next table end object = end_above end (layout_in_table table object.c_type ∷ []) (aligned_layout (structs_in table) (type_in table object.c_type), tt)

-- what is in front of the objects lies in the frame
pub front_inside : (table : Interned) (front : ℕ) (objects : List memory_object.LocalObject) → front ≤ end_behind front (local_layouts table objects)
front_inside table front objects = end_above front (local_layouts table objects) (locals_aligned table objects)
