use Rattle.std.proofs.Common.{◌≡◌, eqb, subst, ◌∙◌}
use Rattle.c_typed.specs.Types.{same_type}
use Rattle.c_typed.specs.Table.{Interned, Stands, type_in}
use Rattle.c_typed.specs.Inside.{types_of, tags_of}
use Rattle.c_typed.proofs.Apart.{same_numbers}
use Rattle.c_typed.proofs.type_table.TypeTable.are_same.Goals as goal

pub returns : goal.returns
returns c = λ stands_a stands_b.
    let entries = c.self.inside.entries.entries in
    let tags = c.self.inside.tags.entries in
    c.eq.ensures ∙
    subst (λ (table : Interned). Stands table c.args.a → Stands table c.args.b → eqb c.args.a.0 c.args.b.0 ≡ same_type (type_in table c.args.a) (type_in table c.args.b)) c.self.view_is
    (same_numbers (tags_of tags) (types_of entries) c.self.invariant.meanings c.self.invariant.apart c.self.invariant.tags_apart c.args.a.0 c.args.b.0) stands_a stands_b
