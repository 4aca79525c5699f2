-- What is found of a local is its place in the frame and its type.
use Rattle.std.proofs.Common.{◌≡◌, Bool, true, false, if◌then◌else◌, List, [], ◌∷◌, map, Option, Some, refl, sym, ap, subst, ◌∙◌}
use Rattle.c_typed.specs.Table.{Interned, type_in, structs_in}
use Rattle.tac_ir.specs.declared.register.Local.{Local}
use Rattle.tac_ir.specs.declared.program.LocalObject as memory_object
use Rattle.tac_ir.specs.declared.program.Function as memory_function
use Rattle.tac_ir.specs.Values.{same_local}
use Rattle.tac_ir.specs.Objects.{own_type, whole}
use Rattle.tac_ir.specs.Views.{object_in, function_in}
use Rattle.pool_ir.specs.Code.{FrameObject}
use Rattle.pool_rewrite.specs.declared.frames.Place.{Place}
use Rattle.pool_rewrite.specs.declared.frames.Places as memory_places
use Rattle.pool_rewrite.specs.declared.locals.Locals.{Locals}
use Rattle.pool_rewrite.specs.Plan.{FunctionPlan}
use Rattle.pool_rewrite.specs.Placing.{frame_of, offset_of_local}
use Rattle.pool_rewrite.specs.Rewriting.{inner_type}
use Rattle.pool_rewrite.specs.Rewritable.{known_type}
use Rattle.pool_rewrite.specs.Places.{frame_objects_of, local_objects_of, place_among, found_offset, found_type, IsFound, TellsPlaces, TellsLocals, LiesInFrame}

offset_found : (places : List Place) (local : Local) → found_offset (place_among places local) ≡ offset_of_local (frame_objects_of places) local
offset_found [] local = refl
offset_found (first ∷ others) local = by (same_local first.object.local local) (offset_found others local)
  where
    by : (t : Bool) → found_offset (place_among others local) ≡ offset_of_local (frame_objects_of others) local
        → found_offset (if t then Some first else place_among others local) ≡ (if t then first.object.offset else offset_of_local (frame_objects_of others) local)
    by true e = refl
    by false e = e

type_found : (table : Interned) (places : List Place) (local : Local) → known_type table (found_type (place_among places local)) ≡ inner_type (own_type (map (object_in table) (local_objects_of places)) local)
type_found table [] local = refl
type_found table (first ∷ others) local = by (same_local first.object.local local) (type_found table others local)
  where
    by : (t : Bool) → known_type table (found_type (place_among others local)) ≡ inner_type (own_type (map (object_in table) (local_objects_of others)) local)
        → known_type table (found_type (if t then Some first else place_among others local)) ≡ inner_type (if t then whole (type_in table first.c_type) else own_type (map (object_in table) (local_objects_of others)) local)
    by true e = refl
    by false e = e

pub locals_told : (table : Interned) (plan : FunctionPlan) (function : memory_function.Function) (places : memory_places.Places) (locals : Locals)
    → LiesInFrame table plan function places → TellsPlaces places.locals.items locals
    → TellsLocals table (function_in table function).objects (frame_of (structs_in table) plan (function_in table function)) locals
locals_told table plan function places locals lies tells = λ local.
    let items = places.locals.items in
    subst (λ (found : Option Place). IsFound table (function_in table function).objects (frame_of (structs_in table) plan (function_in table function)) local found) (sym (tells local)) (record {
      offset = offset_found items local ∙ ap (λ (objects : List FrameObject). offset_of_local objects local) lies.placed;
      c_type = type_found table items local ∙ ap (λ (objects : List memory_object.LocalObject). inner_type (own_type (map (object_in table) objects) local)) lies.locals;
    })
