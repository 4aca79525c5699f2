use Rattle.std.proofs.Common.{sym, ap, subst, ◌∙◌}
use Rattle.c_typed.specs.Table.{Interned, numbered, struct_of, the_type, IsAType}
use Rattle.c_typed.specs.Inside.{IsSomething}
use Rattle.c_typed.proofs.Tags.{tag_absent, tag_found}
use Rattle.c_typed.proofs.type_table.TypeTable.struct_type.Goals as goal

pub intern-requires-clause-means : goal.intern-requires-clause-means
intern-requires-clause-means c =
    let found = tag_found c.self.inside.tags.entries c.args.tag.now c.in-Some.index (sym c.get_index_of.ensures.index ∙ c.in-Some.is) in
    subst IsSomething (sym (ap struct_of (sym (ap (λ (t : Interned). numbered t.tags c.in-Some.index) c.self.view_is) ∙ found))) tt

pub new_struct_type-requires : goal.new_struct_type-requires
new_struct_type-requires c = λ n at.
    tag_absent c.self.inside.tags.entries c.args.tag.now (sym c.get_index_of.ensures.index ∙ c.in-None.is) n (ap (λ (t : Interned). numbered t.tags n) c.self.view_is ∙ at)

pub returns-in_ok-intern-in-Some-clause-ok : goal.returns-in_ok-intern-in-Some-clause-ok
returns-in_ok-intern-in-Some-clause-ok c =
    let found = tag_found c.self.inside.tags.entries c.args.tag.now c.in-Some.index (sym c.get_index_of.ensures.index ∙ c.in-Some.is) in
    let made = c.in_ok-intern-in-Some.ensures.ok in
    let means = made.means ∙ ap struct_of (sym (ap (λ (t : Interned). numbered t.tags c.in-Some.index) c.self.view_is) ∙ found) in
    record { stands = subst IsAType (sym means) tt; means = ap the_type means; grows = made.grows }
