use Rattle.std.proofs.Common.{◌≡◌, ◌<◌, ◌∷◌, ◌++◌, [], length, get_or, take, map, Some, sym, ap, subst, ◌∙◌}
use Rattle.c_typed.specs.Table.{Interned}
use Rattle.c_typed.specs.DefinitionViews.{program_of, literal_of, LiteralStands}
use Rattle.ref_semantics.specs.Values.{LiteralObject}
use Rattle.ref_semantics.specs.First.{around_of, first_state, literal_content}
use Rattle.ref_meaning.specs.Firsts.{Has, with_new, unfilled_of}
use Rattle.ref_meaning.proofs.FirstObjects.{literal_stands, mapped_more, unfilled_literal}
use Rattle.ref_meaning.proofs.FirstStore.{at_same}
use Rattle.ref_meaning.proofs.store.Store.add_literals.Goals as goal

pub add_literal-requires : goal.add_literal-requires
add_literal-requires c =
    let literals = c.args.program.now.literals.items in
    let n = c.loop-literal.literal-index in
    let literal = c.literal-item.result in
    let items = c.deref-literal-items.ensures.value in
    let within : n < length literals = subst (λ l. n < length l) items c.loop-literal-test.true in
    let at : literal ≡ get_or literals n literal = c.literal-item.is ∙ ap (λ l. get_or l n literal) items in
    let types = ap (λ t. t.now) c.loop-literal.invariant.types ∙ c.requires.types in
    subst (λ (t : Interned). LiteralStands t literal) (sym types) (literal_stands c.args.program.now.types literals n literal c.requires.stand within at)

pub loop-literal-preserved : goal.loop-literal-preserved
loop-literal-preserved c =
    let program = program_of c.args.program.now in
    let globals = program.globals in
    let literals = c.args.program.now.literals.items in
    let n = c.loop-literal.literal-index in
    let literal = c.literal-item.result in
    let items = c.deref-literal-items.ensures.value in
    let within : n < length literals = subst (λ l. n < length l) items c.loop-literal-test.true in
    let at : literal ≡ get_or literals n literal = c.literal-item.is ∙ ap (λ l. get_or l n literal) items in
    let had = map literal_of (take n literals) in
    let new = c.add_literal.new.self in
    let added = c.in_ok-add_literal.ensures.added (around_of program) 0 (record (first_state program [] 0) { objects = unfilled_of globals had }) c.loop-literal.invariant.has in
    record {
      types = c.in_ok-add_literal.ensures.types ∙ c.loop-literal.invariant.types;
      has = subst (λ l. Has program new (unfilled_of globals l)) (mapped_more literal_of literals n literal within at)
          (at_same (around_of program) new 0 (record (first_state program [] 0) { objects = with_new (LiteralObject literal.place) (literal_content (Some (literal_of literal))) (unfilled_of globals had) })
          (unfilled_of globals (had ++ literal_of literal ∷ [])) (unfilled_literal globals had (literal_of literal)) added);
    }
