use Rattle.std.proofs.Common.{◌≤◌, length, sym, refl, ap, ◌∙◌, arith, false-eqb, eqb-true, length-drop, length-take-le}
use Rattle.std.proofs.lemmas.List.{map_push, nil_from_length}
use Rattle.run_theory.specs.Places.{place_behind}
use Rattle.c_grammar.specs.Leaves.{leaves_of}
use Rattle.c_lexer.specs.Tokens.{line_behind}
use Rattle.c_lexer.proofs.Widths.{front_within}
use Rattle.c_lexer.proofs.Dividing.{cut_first, cut_step, cut_end, cut_refused, refused_only, one_division}
use Rattle.c_lexer.proofs.Spans.{stand_first, stand_step, stand_end, placed_first, placed_token, placed_room, stand_room}
use Rattle.c_lexer.proofs.lexer.tokens.Goals as goal

pub loop-rest-init : goal.loop-rest-init
loop-rest-init c = record {
  cut = cut_first c.args.text.now _ c.start-place.result c.new-found.ensures.items c.start-place.ensures;
  stand = stand_first c.args.text.now _ c.new-found.ensures.items;
  placed = placed_first c.args.text.now c.start-place.result c.start-place.ensures;
}

pub returns-in-Err-clause-refused : goal.returns-in-Err-clause-refused
returns-in-Err-clause-refused c =
    let some : 1 ≤ length c.loop-rest.rest.now = omega (arith, false-eqb _ 0 c.loop-rest-test.ensures) in
    cut_refused c.args.text.now _ c.loop-rest.line c.loop-rest.place c.loop-rest.rest.now c.in-Err.error some c.in-Err.ensures.refused c.loop-rest.invariant.cut

pub returns-in-Err-clause-only : goal.returns-in-Err-clause-only
returns-in-Err-clause-only c = λ leaves divides.
    let some : 1 ≤ length c.loop-rest.rest.now = omega (arith, false-eqb _ 0 c.loop-rest-test.ensures) in
    refused_only c.args.text.now c.in-Err.error leaves (cut_refused c.args.text.now _ c.loop-rest.line c.loop-rest.place c.loop-rest.rest.now c.in-Err.error some c.in-Err.ensures.refused c.loop-rest.invariant.cut) divides

pub keep-requires : goal.keep-requires
keep-requires c =
    let some : 1 ≤ length c.loop-rest.rest.now = omega (arith, false-eqb _ 0 c.loop-rest-test.ensures) in
    let fits = front_within c.loop-rest.line c.loop-rest.place c.loop-rest.rest.now c.in-Ok.front some c.in-Ok.ensures.found in
    let room = stand_room c.args.text.now _ c.loop-rest.start c.loop-rest.rest.now c.loop-rest.invariant.stand in
    omega (arith, fits.1, room)

pub split_at-requires : goal.split_at-requires
split_at-requires c =
    let some : 1 ≤ length c.loop-rest.rest.now = omega (arith, false-eqb _ 0 c.loop-rest-test.ensures) in
    let fits = front_within c.loop-rest.line c.loop-rest.place c.loop-rest.rest.now c.in-Ok.front some c.in-Ok.ensures.found in
    omega (arith, fits.1, c.width-width.ensures)

pub behind-place-requires-clause-line_room : goal.behind-place-requires-clause-line_room
behind-place-requires-clause-line_room c =
    let some : 1 ≤ length c.loop-rest.rest.now = omega (arith, false-eqb _ 0 c.loop-rest-test.ensures) in
    let fits = front_within c.loop-rest.line c.loop-rest.place c.loop-rest.rest.now c.in-Ok.front some c.in-Ok.ensures.found in
    let room = placed_room c.args.text.now c.loop-rest.place c.loop-rest.rest.now c.loop-rest.invariant.placed in
    omega (arith, fits.1, c.width-width.ensures, room.0, ap length c.split_at.ensures.front, length-take-le c.width-width.result c.loop-rest.rest.now)

pub behind-place-requires-clause-column_room : goal.behind-place-requires-clause-column_room
behind-place-requires-clause-column_room c =
    let some : 1 ≤ length c.loop-rest.rest.now = omega (arith, false-eqb _ 0 c.loop-rest-test.ensures) in
    let fits = front_within c.loop-rest.line c.loop-rest.place c.loop-rest.rest.now c.in-Ok.front some c.in-Ok.ensures.found in
    let room = placed_room c.args.text.now c.loop-rest.place c.loop-rest.rest.now c.loop-rest.invariant.placed in
    omega (arith, fits.1, c.width-width.ensures, room.1, ap length c.split_at.ensures.front, length-take-le c.width-width.result c.loop-rest.rest.now)

pub loop-rest-smaller : goal.loop-rest-smaller
loop-rest-smaller c =
    let some : 1 ≤ length c.loop-rest.rest.now = omega (arith, false-eqb _ 0 c.loop-rest-test.ensures) in
    let fits = front_within c.loop-rest.line c.loop-rest.place c.loop-rest.rest.now c.in-Ok.front some c.in-Ok.ensures.found in
    let left = length-drop c.width-width.result c.loop-rest.rest.now in
    omega (arith, some, fits.0, fits.1, c.width-width.ensures, ap length c.split_at.ensures.back, left)

pub loop-rest-preserved : goal.loop-rest-preserved
loop-rest-preserved c =
    let some : 1 ≤ length c.loop-rest.rest.now = omega (arith, false-eqb _ 0 c.loop-rest-test.ensures) in
    let width = c.width-width.result in
    let counted = c.width-width.ensures in
    let kept = c.in-Ok-keep.ensures.kept in
    let taken = c.split_at.ensures.front in
    let after = c.split_at.ensures.back in
    let goes = c.line_behind-line.ensures ∙ ap (λ bytes. line_behind c.loop-rest.line bytes) taken in
    let past = c.behind-place.ensures ∙ ap (λ bytes. place_behind c.loop-rest.place bytes) taken in
    record {
      cut = cut_step c.args.text.now c.loop-rest.found.items c.keep.new.found.items c.loop-rest.line c.line_behind-line.result c.loop-rest.place c.behind-place.result c.loop-rest.rest.now _ c.in-Ok.front c.loop-rest.start width counted kept goes past after some c.in-Ok.ensures.found c.loop-rest.invariant.cut;
      stand = stand_step c.args.text.now c.loop-rest.found.items c.keep.new.found.items c.loop-rest.start _ c.loop-rest.rest.now _ c.loop-rest.line c.loop-rest.place c.in-Ok.front width counted kept after refl some c.in-Ok.ensures.found c.loop-rest.invariant.stand;
      placed = placed_token c.args.text.now c.loop-rest.place c.behind-place.result c.loop-rest.rest.now _ width past after c.loop-rest.invariant.placed;
    }

pub returns-in-Ok-push-clause-found : goal.returns-in-Ok-push-clause-found
returns-in-Ok-push-clause-found c =
    cut_end _ _ _ c.loop-rest.line c.loop-rest.place c.loop-rest.rest.now (ap leaves_of c.in-Ok-push.ensures.items ∙ map_push _ _ _) (nil_from_length _ (eqb-true _ 0 (sym c.loop-rest-test.ensures))) c.loop-rest.invariant.cut

pub returns-in-Ok-push-clause-spans : goal.returns-in-Ok-push-clause-spans
returns-in-Ok-push-clause-spans c =
    stand_end _ _ _ c.loop-rest.start c.loop-rest.rest.now c.loop-rest.place c.in-Ok-push.ensures.items (nil_from_length _ (eqb-true _ 0 (sym c.loop-rest-test.ensures))) c.loop-rest.invariant.stand

pub returns-in-Ok-push-clause-only : goal.returns-in-Ok-push-clause-only
returns-in-Ok-push-clause-only c = λ leaves divides.
    one_division _ _ _ _ leaves (cut_end _ _ _ c.loop-rest.line c.loop-rest.place c.loop-rest.rest.now (ap leaves_of c.in-Ok-push.ensures.items ∙ map_push _ _ _) (nil_from_length _ (eqb-true _ 0 (sym c.loop-rest-test.ensures))) c.loop-rest.invariant.cut) divides
