-- Where static objects and the locals of a function lie, and the signatures of types, as they are found before points are rewritten.
use Rattle.std.specs.Prelude.{◌≡◌, ℕ, ◌+◌, ◌*◌, ◌==◌, ◌++◌, suc, if◌then◌else◌, List, [], ◌∷◌, length, map, Option, Some, None, unwrap_or}
use Rattle.indexmap.specs.IndexMap.{IndexMap, get_by}
use Rattle.c_typed.specs.declared.c_type.CType as number
use Rattle.c_typed.specs.Types.{CType, same_type}
use Rattle.c_typed.specs.Layouts.{Layout}
use Rattle.c_typed.specs.Table.{Interned, Stands, type_in, structs_in}
use Rattle.tac_ir.specs.declared.register.Local.{Local}
use Rattle.tac_ir.specs.declared.register.Local.TheVariants as L
use Rattle.tac_ir.specs.declared.program.LocalObject as memory_object
use Rattle.tac_ir.specs.declared.program.Function as memory_function
use Rattle.tac_ir.specs.Code as C
use Rattle.tac_ir.specs.Views.{object_in, function_in}
use Rattle.tac_ir.specs.Values.{same_local}
use Rattle.tac_ir.specs.Objects.{own_type}
use Rattle.pool_ir.specs.Code.{FrameObject, FrameLayout}
use Rattle.pool_ir.specs.Views.{object_of}
use Rattle.pool_rewrite.specs.declared.statics.Statics.{Statics}
use Rattle.pool_rewrite.specs.declared.frames.Place.{Place}
use Rattle.pool_rewrite.specs.declared.frames.Places as memory_places
use Rattle.pool_rewrite.specs.declared.locals.Locals.{Locals}
use Rattle.pool_rewrite.specs.declared.signatures.Signatures.{Signatures}
use Rattle.pool_rewrite.specs.Plan.{FunctionPlan}
use Rattle.pool_rewrite.specs.Placing.{begins, end_behind, static_layouts, statics_size, frame_objects, offset_of_local}
use Rattle.pool_rewrite.specs.Rewriting.{inner_type, signature_from}
use Rattle.pool_rewrite.specs.Rewritable.{layout_in_table, local_layouts, word_count, known_type}

-- ---- static objects

-- where each of these begins, behind so many bytes
abbrev pub begins_of : ℕ → List Layout → List ℕ
begins_of front [] = []
begins_of front (first ∷ others) = begins front first ∷ begins_of (begins front first + first.size) others

-- these were placed behind the others
pub record PlacesMore (old new : Statics) (layouts : List Layout) : Type 0 where
  pub begins : new.begins.items ≡ old.begins.items ++ begins_of old.size layouts
  pub globals : new.globals ≡ old.globals
  pub size : new.size ≡ end_behind old.size layouts

pub record AreStatics (tac : C.Tac) (statics : Statics) : Type 0 where
  pub begins : statics.begins.items ≡ begins_of 0 (static_layouts tac)
  pub globals : statics.globals ≡ length tac.globals
  pub size : statics.size ≡ statics_size tac

-- ---- frames

pub record IsPlace (table : Interned) (front : ℕ) (object : memory_object.LocalObject) (place : Place) : Type 0 where
  pub local : place.object.local ≡ object.local
  pub offset : place.object.offset ≡ begins front (layout_in_table table object.c_type)
  pub size : place.object.size ≡ (layout_in_table table object.c_type).size
  pub c_type : place.c_type ≡ object.c_type

abbrev pub frame_objects_of : List Place → List FrameObject
frame_objects_of places = map (λ (place : Place). object_of place.object) places

abbrev pub local_objects_of : List Place → List memory_object.LocalObject
local_objects_of places = map (λ (place : Place). record { local = place.object.local; c_type = place.c_type }) places

-- these objects lie behind so many bytes
pub record ArePlaces (table : Interned) (front : ℕ) (objects : List memory_object.LocalObject) (places : memory_places.Places) : Type 0 where
  pub placed : frame_objects_of places.locals.items ≡ frame_objects (structs_in table) front (map (object_in table) objects)
  pub locals : local_objects_of places.locals.items ≡ objects
  pub end : places.end ≡ end_behind front (local_layouts table objects)

abbrev pub LiesInFrame : Interned → FunctionPlan → memory_function.Function → memory_places.Places → Type 0
LiesInFrame table plan function places = ArePlaces table (8 * word_count plan function) function.objects.items places

-- ---- locals

-- the first of a local
abbrev pub place_among : List Place → Local → Option Place
place_among [] local = None
place_among (first ∷ others) local = if same_local first.object.local local then Some first else place_among others local

abbrev pub found_in : Locals → Local → Option Place
found_in locals (L.Parameter number) = get_by (λ key. number == key) locals.parameters
found_in locals (L.Variable number) = get_by (λ key. number == key) locals.variables

abbrev pub TellsPlaces : List Place → Locals → Type 0
TellsPlaces places locals = (local : Local) → found_in locals local ≡ place_among places local

abbrev pub found_offset : Option Place → ℕ
found_offset None = 0
found_offset (Some place) = place.object.offset

abbrev pub found_type : Option Place → Option number.CType
found_type None = None
found_type (Some place) = Some place.c_type

-- what is found of a local is its place in the frame and its type
pub record IsFound (table : Interned) (own : List C.LocalObject) (frame : FrameLayout) (local : Local) (found : Option Place) : Type 0 where
  pub offset : found_offset found ≡ offset_of_local frame.objects local
  pub c_type : known_type table (found_type found) ≡ inner_type (own_type own local)

abbrev pub TellsLocals : Interned → List C.LocalObject → FrameLayout → Locals → Type 0
TellsLocals table own frame locals = (local : Local) → IsFound table own frame local (found_in locals local)

-- ---- signatures

abbrev pub signature_for : Signatures → number.CType → ℕ
signature_for signatures t = unwrap_or (get_by (λ (key : number.CType). t.0 == key.0) signatures.firsts) signatures.count

-- the first function of a type, from a number on
abbrev pub first_of_type : ℕ → List C.Function → CType → Option ℕ
first_of_type number [] c_type = None
first_of_type number (first ∷ others) c_type = if same_type first.c_type c_type then Some number else first_of_type (suc number) others c_type

-- the numbers of functions by their types, from a number on
abbrev pub NumbersTypes : {S : Type 0} → Interned → IndexMap number.CType ℕ S → ℕ → List memory_function.Function → Type 0
NumbersTypes table numbers first functions =
    (t : number.CType) → Stands table t → get_by (λ (key : number.CType). t.0 == key.0) numbers ≡ first_of_type first (map (function_in table) functions) (type_in table t)

abbrev pub TellsSignatures : Interned → List memory_function.Function → Signatures → Type 0
TellsSignatures table functions signatures =
    (t : number.CType) → Stands table t → signature_for signatures t ≡ signature_from 0 (map (function_in table) functions) (type_in table t)
