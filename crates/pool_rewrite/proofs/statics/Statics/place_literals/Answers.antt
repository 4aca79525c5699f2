use Rattle.std.proofs.Common.{◌≡◌, ◌+◌, ◌≤◌, List, [], ◌∷◌, ◌++◌, take, sym, ap, subst, ◌∙◌, arith}
use Rattle.std.proofs.Math.Numerals.{add-one}
use Rattle.std.proofs.lemmas.List.{take_all}
use Rattle.c_typed.specs.declared.definition.LiteralDef.{LiteralDef}
use Rattle.c_typed.specs.Layouts.{Layout, greatest}
use Rattle.pool_rewrite.specs.Placing.{end_behind}
use Rattle.pool_rewrite.specs.Rewritable.{layout_in_table, literal_layouts}
use Rattle.pool_rewrite.specs.Places.{PlacesMore}
use Rattle.pool_rewrite.proofs.PlacedObjects.{placed_more, literals_next, literals_inside}
use Rattle.pool_rewrite.proofs.statics.Statics.place_literals.Goals as goal

pub place-requires : goal.place-requires
place-requires c =
    let table = c.args.types.now in
    let literals = c.args.literals.now in
    let literal = c.literal-item.result in
    let inside = literals_inside table c.args.self.now.size literals c.loop-literal.literal-index literal c.requires.stand c.loop-literal-test.true c.literal-item.is in
    subst (λ size. end_behind size (layout_in_table table literal.c_type ∷ []) ≤ greatest) (sym c.loop-literal.invariant.size) (omega (arith, inside, c.requires.small))

pub loop-literal-preserved : goal.loop-literal-preserved
loop-literal-preserved c =
    let table = c.args.types.now in
    let literals = c.args.literals.now in
    let n = c.loop-literal.literal-index in
    let literal = c.literal-item.result in
    let back : literal_layouts table (take n literals) ++ layout_in_table table literal.c_type ∷ [] ≡ literal_layouts table (take (n + 1) literals) = sym (literals_next table literals n literal c.requires.stand c.loop-literal-test.true c.literal-item.is) ∙ ap (λ k. literal_layouts table (take k literals)) (sym (add-one n)) in
    subst (λ (layouts : List Layout). PlacesMore c.args.self.now c.place.new.self layouts) back
    (placed_more c.args.self.now c.loop-literal.self c.place.new.self (literal_layouts table (take n literals)) (layout_in_table table literal.c_type ∷ []) c.loop-literal.invariant c.in_ok-place.ensures)

pub returns : goal.returns
returns c =
    let literals = c.args.literals.now in
    subst (λ (items : List LiteralDef). PlacesMore c.args.self.now c.loop-literal.self (literal_layouts c.args.types.now items)) (take_all c.loop-literal.literal-index literals (omega (arith, c.loop-literal-test.false))) c.loop-literal.invariant
