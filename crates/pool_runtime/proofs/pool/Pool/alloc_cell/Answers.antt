use Rattle.std.proofs.Common.{◌<◌, ◌≤◌, length, refl, sym, ap, subst, ◌∙◌, arith}
use Rattle.std.specs.Prelude.{slice_index_or}
use Rattle.slab_space.specs.Runs.{need}
use Rattle.slab_space.specs.Pool.{has_room, no_cells}
use Rattle.slab_space.specs.Pool as seen
use Rattle.pool_runtime.specs.Seen.{class_seen, pool_seen}
use Rattle.pool_runtime.proofs.Places.{some_per_run}
use Rattle.pool_runtime.proofs.Sums.{length-mapped}
use Rattle.pool_runtime.proofs.AddRun.{class_is, seen_is, need_some}
use Rattle.pool_runtime.proofs.Allocated.{room_is, changes_then, step_limit, step_room, ends_without, step_more, room_more, class_more, same_cell, cells_within}
use Rattle.pool_runtime.proofs.pool.Pool.alloc_cell.Goals as goal

pub returns-then-is_limited-clause-ends : goal.returns-then-is_limited-clause-ends
returns-then-is_limited-clause-ends c =
    let old = c.args.slabs.now.space in let p = pool_seen old.bytes c.args.self.now in
    (step_limit c.args.limit c.args.class old.owners p (slice_index_or p.classes c.args.class (no_cells 0)) (sym (c.is_limited.ensures old.bytes) ∙ c.if-is_limited.true), (refl, refl))

pub take_cell-requires-clause-room : goal.take_cell-requires-clause-room
take_cell-requires-clause-room c =
    let old = c.args.slabs.now in let pool = c.args.self.now in let r = c.index.result.now in
    ap has_room (seen_is c.args.id c.args.class old pool r c.requires.space c.requires.pool c.requires.class c.index.ensures)
    ∙ room_is old.space.bytes r (class_is c.args.id c.args.class old pool r c.requires.space c.requires.pool c.requires.class c.index.ensures).cells ∙ sym c.has_room.ensures ∙ c.if-has_room.true

pub returns-then-has_room-clause-ends : goal.returns-then-has_room-clause-ends
returns-then-has_room-clause-ends c =
    let old = c.args.slabs.now in let pool = c.args.self.now in let r = c.index.result.now in let p = pool_seen old.space.bytes pool in
    let room = ap has_room (seen_is c.args.id c.args.class old pool r c.requires.space c.requires.pool c.requires.class c.index.ensures)
    ∙ room_is old.space.bytes r (class_is c.args.id c.args.class old pool r c.requires.space c.requires.pool c.requires.class c.index.ensures).cells ∙ sym c.has_room.ensures ∙ c.if-has_room.true in
    step_room c.args.limit c.args.class old.space.owners p (slice_index_or p.classes c.args.class (no_cells 0)) (sym (c.is_limited.ensures old.space.bytes) ∙ c.if-is_limited.false) room
    ∙ c.take_cell.ensures.step

pub take_cell-requires-in-Ok-clause-room : goal.take_cell-requires-in-Ok-clause-room
take_cell-requires-in-Ok-clause-room c =
    let old = c.args.slabs.now in let pool = c.args.self.now in let r = c.index.result.now in let p = pool_seen old.space.bytes pool in let k = c.args.class in
    let was = slice_index_or p.classes k (no_cells 0) in let added = c.in-Ok.ensures.added in
    let is = seen_is c.args.id k old pool r c.requires.space c.requires.pool c.requires.class c.index.ensures in
    let table = (class_is c.args.id k old pool r c.requires.space c.requires.pool c.requires.class c.index.ensures).cells in
    let inside : k < length p.classes = omega (arith, length-mapped (class_seen old.space.bytes) pool.classes.items, c.requires.class) in
    ap (λ (q : seen.Pool). has_room (slice_index_or q.classes k (no_cells 0))) added.seen
    ∙ ap has_room (class_more c.args.limit k old.space.owners p was added.first added.lowest inside)
    ∙ room_more c.args.limit k old.space.owners p was added.first added.lowest inside (cells_within old.space.bytes r was is table) (some_per_run was.size)

pub returns-in-Ok-clause-changes : goal.returns-in-Ok-clause-changes
returns-in-Ok-clause-changes c =
    changes_then c.args.id c.args.slabs.now c.add_run.new.slabs c.take_cell-in-Ok.new.slabs c.args.self.now c.add_run.new.self c.take_cell-in-Ok.new.self c.in-Ok.ensures.changes c.take_cell-in-Ok.ensures.changes

pub returns-in-Ok-clause-ends : goal.returns-in-Ok-clause-ends
returns-in-Ok-clause-ends c =
    let old = c.args.slabs.now in let pool = c.args.self.now in let r = c.index.result.now in let p = pool_seen old.space.bytes pool in let k = c.args.class in
    let was = slice_index_or p.classes k (no_cells 0) in let added = c.in-Ok.ensures.added in
    let is = seen_is c.args.id k old pool r c.requires.space c.requires.pool c.requires.class c.index.ensures in
    let table = (class_is c.args.id k old pool r c.requires.space c.requires.pool c.requires.class c.index.ensures).cells in
    let room = ap has_room is ∙ room_is old.space.bytes r table ∙ sym c.has_room.ensures ∙ c.if-has_room.false in
    let inside : k < length p.classes = omega (arith, length-mapped (class_seen old.space.bytes) pool.classes.items, c.requires.class) in
    step_more c.args.limit k old.space.owners p was added.first added.lowest inside (sym (c.is_limited.ensures old.space.bytes) ∙ c.if-is_limited.false) room
    ∙ same_cell k (sym added.owners) (sym added.seen) (sym (ap (λ (q : seen.Pool). slice_index_or q.classes k (no_cells 0)) added.seen ∙ class_more c.args.limit k old.space.owners p was added.first added.lowest inside))
    ∙ c.take_cell-in-Ok.ensures.step

pub returns-in-Err-clause-ends : goal.returns-in-Err-clause-ends
returns-in-Err-clause-ends c =
    let old = c.args.slabs.now in let pool = c.args.self.now in let r = c.index.result.now in let p = pool_seen old.space.bytes pool in let k = c.args.class in
    let was = slice_index_or p.classes k (no_cells 0) in
    let is = seen_is c.args.id k old pool r c.requires.space c.requires.pool c.requires.class c.index.ensures in
    let table = (class_is c.args.id k old pool r c.requires.space c.requires.pool c.requires.class c.index.ensures).cells in
    let room = ap has_room is ∙ room_is old.space.bytes r table ∙ sym c.has_room.ensures ∙ c.if-has_room.false in
    let some = subst (λ (x : seen.Cells). 1 ≤ need x.size) (sym is) (need_some c.args.id k old pool r c.requires.space c.requires.pool c.requires.class c.index.ensures) in
    ends_without c.args.limit k old.space.owners p was old c.add_run.new.slabs pool c.add_run.new.self c.in-Err.end refl (sym (c.is_limited.ensures old.space.bytes) ∙ c.if-is_limited.false) room some c.in-Err.ensures.added
