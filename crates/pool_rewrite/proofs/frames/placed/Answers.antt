use Rattle.std.proofs.Common.{◌≡◌, ◌+◌, ◌<◌, suc, List, length, map, take, get_or, sym, ap, ◌∙◌, arith}
use Rattle.std.proofs.Math.Numerals.{add-one}
use Rattle.std.proofs.lemmas.List.{take_all}
use Rattle.c_typed.specs.Table.{structs_in}
use Rattle.tac_ir.specs.declared.register.Local.TheVariants as L
use Rattle.tac_ir.specs.declared.program.LocalObject.{LocalObject}
use Rattle.tac_ir.specs.Views.{object_in}
use Rattle.pool_rewrite.specs.Placing.{end_behind, frame_objects}
use Rattle.pool_rewrite.specs.Rewritable.{local_layouts}
use Rattle.pool_rewrite.specs.Places.{frame_objects_of, local_objects_of}
use Rattle.pool_rewrite.proofs.InsertedEntries.{read_again}
use Rattle.pool_rewrite.proofs.PlacedObjects.{end_next, placed_end, entries_next, objects_next, next_inside, above_next}
use Rattle.pool_rewrite.proofs.frames.placed.Goals as goal

abbrev none : LocalObject
none = record { local = L.Parameter 0; c_type = record { 0 = 0 } }

pub place_of-place-requires : goal.place_of-place-requires
place_of-place-requires c =
    let table = c.args.types.now in
    let objects = c.args.objects.now in
    let n = c.loop-object.object-index in
    let object : LocalObject = get_or objects n none in
    let lt : n < length objects = c.loop-object-test.true in
    let small = next_inside table c.args.front objects n object c.loop-object.end lt (read_again objects n none lt) c.loop-object.invariant.end c.requires in
    let above = above_next table c.loop-object.end object in
    omega (arith, small, above)

pub overflow_add-end : goal.overflow_add-end
overflow_add-end c =
    let table = c.args.types.now in
    let objects = c.args.objects.now in
    let n = c.loop-object.object-index in
    let object : LocalObject = get_or objects n none in
    let lt : n < length objects = c.loop-object-test.true in
    let small = next_inside table c.args.front objects n object c.loop-object.end lt (read_again objects n none lt) c.loop-object.invariant.end c.requires in
    let at = placed_end table c.loop-object.end object c.place_of-place.result c.place_of-place.ensures in
    omega (arith, small, at)

pub loop-object-preserved : goal.loop-object-preserved
loop-object-preserved c =
    let table = c.args.types.now in
    let objects = c.args.objects.now in
    let n = c.loop-object.object-index in
    let object : LocalObject = get_or objects n none in
    let lt : n < length objects = c.loop-object-test.true in
    let again : object ≡ get_or objects n object = read_again objects n none lt in
    let back : suc n ≡ n + 1 = sym (add-one n) in
    record {
      objects = ap frame_objects_of c.in_ok-push.ensures.items
          ∙ (entries_next table c.args.front objects n object c.loop-object.end c.place_of-place.result c.loop-object.locals.items lt again c.place_of-place.ensures c.loop-object.invariant.end c.loop-object.invariant.objects
          ∙ ap (λ k. frame_objects (structs_in table) c.args.front (map (object_in table) (take k objects))) back);
      locals = ap local_objects_of c.in_ok-push.ensures.items
          ∙ (objects_next table objects n object c.loop-object.end c.place_of-place.result c.loop-object.locals.items lt again c.place_of-place.ensures c.loop-object.invariant.locals
          ∙ ap (λ k. take k objects) back);
      end = end_next table c.args.front objects n object c.loop-object.end c.place_of-place.result lt again c.place_of-place.ensures c.loop-object.invariant.end
          ∙ ap (λ k. end_behind c.args.front (local_layouts table (take k objects))) back;
    }

pub returns : goal.returns
returns c =
    let table = c.args.types.now in
    let objects = c.args.objects.now in
    let all : take c.loop-object.object-index objects ≡ objects = take_all c.loop-object.object-index objects (omega (arith, c.loop-object-test.false)) in
    record {
      placed = c.loop-object.invariant.objects ∙ ap (λ (items : List LocalObject). frame_objects (structs_in table) c.args.front (map (object_in table) items)) all;
      locals = c.loop-object.invariant.locals ∙ all;
      end = c.loop-object.invariant.end ∙ ap (λ (items : List LocalObject). end_behind c.args.front (local_layouts table items)) all;
    }
