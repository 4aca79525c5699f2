use Rattle.std.proofs.Common.{◌≡◌, ◌<◌, ◌≤◌, ◌∷◌, ◌++◌, [], None, length, get_or, take, map, reverse, drop, bytes_eq, take_all, refl, sym, ap, subst, ◌∙◌}
use Rattle.std.specs.List.{list_any}
use Rattle.std.specs.Map.{lookup}
use Rattle.run_theory.specs.declared.byte_string.ByteString.{ByteString}
use Rattle.c_typed.specs.Names.{contains}
use Rattle.ref_meaning.specs.RefStore.Views.{name_of, same_memory}
use Rattle.ref_meaning.specs.RefStore.Holding.{ContentIs, dead}
use Rattle.ref_meaning.proofs.FirstObjects.{mapped_more, unfilled_none}
use Rattle.ref_meaning.proofs.FirstTags.{tag_added}
use Rattle.ref_meaning.proofs.store.Store.empty.Goals as goal

abbrev same : ByteString → ByteString
same name = name

pub loop-tag-preserved : goal.loop-tag-preserved
loop-tag-preserved c = λ tag.
    let tags = c.args.program.now.completed.items in
    let n = c.loop-tag.tag-index in
    let name = c.tag-item.result in
    let items = c.deref-tag-items.ensures.value in
    let within : n < length tags = subst (λ l. n < length l) items c.loop-tag-test.true in
    let at : name ≡ get_or tags n name = c.tag-item.is ∙ ap (λ l. get_or l n name) items in
    let keys = c.loop-tag.completed.keys in
    let had = map same (take n tags) in
    ap (λ l. contains l tag) (sym (mapped_more same tags n name within at))
    ∙ (ap (λ x. contains (had ++ x ∷ []) tag) (sym c.as_slice.ensures)
    ∙ (tag_added keys had c.as_slice.result tag c.loop-tag.invariant
    ∙ ap (list_any (λ key. bytes_eq tag key.now)) (sym c.in_ok-insert.ensures.keys)))

pub returns-clause-made : goal.returns-clause-made
returns-clause-made c =
    let table = c.args.program.now.types in
    let tags = c.args.program.now.completed.items in
    let n = c.loop-tag.tag-index in
    let items = c.deref-tag-items.ensures.value in
    let all : take n tags ≡ tags = take_all n tags (subst (λ l. length l ≤ n) items c.loop-tag-test.false) in
    record {
      structs = refl;
      completed = λ tag. ap (λ l. contains (map same l) tag) (sym all) ∙ c.loop-tag.invariant tag;
      objects = λ name. subst (λ entries. ContentIs table (lookup (same_memory name) entries) _) (sym c.new.ensures.empty) (subst (ContentIs table None) (unfilled_none (name_of name)) dead);
      locals = ap (λ l. reverse (drop 0 l)) (sym c.new-2.ensures.items);
      next_local = refl;
      next_heap = refl;
    }
