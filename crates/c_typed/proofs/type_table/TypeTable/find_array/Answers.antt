use Rattle.std.proofs.Common.{◌≡◌, ◌+◌, sym, ap, subst, ◌∙◌, map}
use Rattle.std.proofs.Math.Nat.{add_comm}
use Rattle.c_typed.specs.declared.c_type.Derived.TheVariants as D
use Rattle.c_typed.specs.Table.{Interned, array_of, meaning_of, the_type, IsAType}
use Rattle.c_typed.specs.Inside.{types_of, tags_of}
use Rattle.c_typed.proofs.Apart.{type-is}
use Rattle.c_typed.proofs.Keys.{found_there}
use Rattle.c_typed.proofs.Meanings.{entry-means}
use Rattle.c_typed.proofs.type_table.TypeTable.find_array.Goals as goal

pub returns : goal.returns
returns c =
    let had = c.self.inside in
    let table = c.args.self.now in
    let element = c.args.element.0 in
    let length = c.args.length in
    let index = c.in_ok-index.index in
    let entry = D.Array c.args.element length in
    let there = found_there (map (λ e. e.0) had.entries.entries) entry index (sym c.get_index_of.ensures.index ∙ c.in_ok-index.was {u = tt}) in
    let inside = (entry-means (tags_of had.tags.entries) (types_of had.entries.entries) index entry c.self.invariant.meanings there).0 in
    let found = subst (λ (t : Interned). meaning_of t (9 + index) ≡ array_of (meaning_of t element) length) c.self.view_is inside in
    let means =
    ap (meaning_of table) (add_comm index 9)
    ∙ found
    ∙ ap (λ m. array_of m length) (type-is (meaning_of table element) c.requires) in
    (subst IsAType (sym means) tt, ap the_type means)
