use Rattle.std.proofs.Common.{sym, ap, ◌∙◌}
use Rattle.c_typed.specs.Table.{Interned, tag_in}
use Rattle.c_typed.proofs.Tags.{tag_kept}
use Rattle.c_typed.proofs.type_table.TypeTable.tag.Goals as goal

pub returns : goal.returns
returns c =
    c.as_slice.ensures.value
    ∙ sym (tag_kept c.self.inside.tags.entries c.args.id.0 (c.in-Some.tag.now, c.in-Some.field-0-1.now) (sym c.in-Some.ensures.entry))
    ∙ ap (λ (t : Interned). tag_in t c.args.id) c.self.view_is
