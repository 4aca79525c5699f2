-- Where objects lie that are no objects of the heap: variables outside functions and literals in the globals, one behind another, each
-- aligned; locals in memory in their frames, likewise, behind the words of descriptors and registers.
use Rattle.std.specs.Prelude.{ℕ, zero, suc, ◌+◌, if◌then◌else◌, List, [], ◌∷◌, ◌++◌, length, map}
use Rattle.c_typed.specs.Types.{literal_type}
use Rattle.c_typed.specs.Layouts.{StructDef, Layout, layout_of, aligned}
use Rattle.c_typed.specs.Typed.{GlobalDef, LiteralDef}
use Rattle.tac_ir.specs.declared.register.Local.{Local}
use Rattle.tac_ir.specs.Values.{same_local}
use Rattle.tac_ir.specs.Code.{LocalObject, Function, Tac}
use Rattle.pool_ir.specs.Code.{FrameObject, FrameLayout}
use Rattle.pool_ir.specs.Frames.{objects_start}
use Rattle.pool_rewrite.specs.Plan.{FunctionPlan}

-- where the first of these begins, behind so many bytes
abbrev pub begins : ℕ → Layout → ℕ
begins front layout = aligned layout.alignment front

-- how many bytes there are with all of these behind so many
abbrev pub end_behind : ℕ → List Layout → ℕ
end_behind front [] = front
end_behind front (first ∷ others) = end_behind (begins front first + first.size) others

-- where the one of this number begins
abbrev pub begin_of : ℕ → List Layout → ℕ → ℕ
begin_of front [] number = front
begin_of front (first ∷ others) zero = begins front first
begin_of front (first ∷ others) (suc number) = begin_of (begins front first + first.size) others number

-- ---- globals and literals

abbrev pub static_layouts : Tac → List Layout
static_layouts tac = map (λ (global : GlobalDef). layout_of tac.structs global.c_type) tac.globals ++ map (λ (literal : LiteralDef). layout_of tac.structs (literal_type literal.bytes)) tac.literals

abbrev pub global_offset : Tac → ℕ → ℕ
global_offset tac number = begin_of 0 (static_layouts tac) number

abbrev pub literal_offset : Tac → ℕ → ℕ
literal_offset tac number = begin_of 0 (static_layouts tac) (length tac.globals + number)

abbrev pub statics_size : Tac → ℕ
statics_size tac = end_behind 0 (static_layouts tac)

-- ---- frames

abbrev pub frame_objects : List StructDef → ℕ → List LocalObject → List FrameObject
frame_objects structs front [] = []
frame_objects structs front (first ∷ others) =
    let layout = layout_of structs first.c_type in
    record { local = first.local; offset = begins front layout; size = layout.size } ∷ frame_objects structs (begins front layout + layout.size) others

abbrev pub own_layouts : List StructDef → List LocalObject → List Layout
own_layouts structs objects = map (λ (own : LocalObject). layout_of structs own.c_type) objects

abbrev pub words_alone : FunctionPlan → Function → FrameLayout
words_alone plan function = record { descriptors = plan.descriptors; parameters = function.parameters; registers = function.counts; objects = []; size = 0 }

abbrev pub frame_of : List StructDef → FunctionPlan → Function → FrameLayout
frame_of structs plan function =
    let front = objects_start (words_alone plan function) in
    record (words_alone plan function) { objects = frame_objects structs front function.objects; size = end_behind front (own_layouts structs function.objects) }

abbrev pub offset_of_local : List FrameObject → Local → ℕ
offset_of_local [] local = 0
offset_of_local (first ∷ others) local = if same_local first.local local then first.offset else offset_of_local others local
