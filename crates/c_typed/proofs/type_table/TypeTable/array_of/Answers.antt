use Rattle.std.proofs.Common.{◌*◌, ◌∙◌}
use Rattle.c_typed.specs.Layouts.{saturated}
use Rattle.c_typed.proofs.type_table.TypeTable.array_of.Goals as goal

pub intern-requires-clause-extent : goal.intern-requires-clause-extent
intern-requires-clause-extent c =
    let inner = c.extent.ensures.layout in (
      c.extent.ensures.sized c.requires.complete,
      c.repeated-extent.ensures ∙ (λ i. record { size = saturated ((inner i).size * c.args.length); alignment = (inner i).alignment; slots = (inner i).slots }),
    )
