use Rattle.std.proofs.Common.{◌≡◌, ◌+◌, ◌≤◌, List, [], ◌∷◌, ◌++◌, take, sym, ap, subst, ◌∙◌, arith}
use Rattle.std.proofs.Math.Numerals.{add-one}
use Rattle.std.proofs.lemmas.List.{take_all}
use Rattle.c_typed.specs.declared.definition.GlobalDef.{GlobalDef}
use Rattle.c_typed.specs.Layouts.{Layout, greatest}
use Rattle.pool_rewrite.specs.Placing.{end_behind}
use Rattle.pool_rewrite.specs.Rewritable.{layout_in_table, global_layouts}
use Rattle.pool_rewrite.specs.Places.{PlacesMore}
use Rattle.pool_rewrite.proofs.PlacedObjects.{placed_more, globals_next, globals_inside}
use Rattle.pool_rewrite.proofs.statics.Statics.place_globals.Goals as goal

pub place-requires : goal.place-requires
place-requires c =
    let table = c.args.types.now in
    let globals = c.args.globals.now in
    let global = c.global-item.result in
    let inside = globals_inside table c.args.self.now.size globals c.loop-global.global-index global c.loop-global-test.true c.global-item.is in
    subst (λ size. end_behind size (layout_in_table table global.c_type ∷ []) ≤ greatest) (sym c.loop-global.invariant.size) (omega (arith, inside, c.requires))

pub loop-global-preserved : goal.loop-global-preserved
loop-global-preserved c =
    let table = c.args.types.now in
    let globals = c.args.globals.now in
    let n = c.loop-global.global-index in
    let global = c.global-item.result in
    let back : global_layouts table (take n globals) ++ layout_in_table table global.c_type ∷ [] ≡ global_layouts table (take (n + 1) globals) = sym (globals_next table globals n global c.loop-global-test.true c.global-item.is) ∙ ap (λ k. global_layouts table (take k globals)) (sym (add-one n)) in
    subst (λ (layouts : List Layout). PlacesMore c.args.self.now c.place.new.self layouts) back
    (placed_more c.args.self.now c.loop-global.self c.place.new.self (global_layouts table (take n globals)) (layout_in_table table global.c_type ∷ []) c.loop-global.invariant c.in_ok-place.ensures)

pub returns : goal.returns
returns c =
    let globals = c.args.globals.now in
    subst (λ (items : List GlobalDef). PlacesMore c.args.self.now c.loop-global.self (global_layouts c.args.types.now items)) (take_all c.loop-global.global-index globals (omega (arith, c.loop-global-test.false))) c.loop-global.invariant
