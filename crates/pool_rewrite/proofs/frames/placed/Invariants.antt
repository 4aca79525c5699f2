use Rattle.std.proofs.Common.{◌≡◌, map, take}
use Rattle.c_typed.specs.Table.{structs_in}
use Rattle.tac_ir.specs.Views.{object_in}
use Rattle.pool_rewrite.specs.Placing.{end_behind, frame_objects}
use Rattle.pool_rewrite.specs.Rewritable.{local_layouts}
use Rattle.pool_rewrite.specs.Places.{frame_objects_of, local_objects_of}
use Rattle.pool_rewrite.proofs.frames.placed.Given as goal

-- the objects before the index are placed
abbrev pub invariant-loop-object : goal.invariant-loop-object
invariant-loop-object l = record {
  objects : frame_objects_of l.locals.items ≡ frame_objects (structs_in l.types) l.front (map (object_in l.types) (take l.object-index l.objects));
  locals : local_objects_of l.locals.items ≡ take l.object-index l.objects;
  end : l.end ≡ end_behind l.front (local_layouts l.types (take l.object-index l.objects));
}
