use Rattle.std.proofs.Common.{sym, ◌∙◌}
use Rattle.tac_build.proofs.Numbering.{first_there, first_found}
use Rattle.tac_build.proofs.names.Source.literal.Goals as goal

pub unreachable-requires : goal.unreachable-requires
unreachable-requires c = first_there _ c.requires.there (sym (c.requires.source.literals c.args.place) ∙ sym c.in-None.ensures.value)

pub returns : goal.returns
returns c = first_found _ c.in-Some.number.now (sym (c.requires.source.literals c.args.place) ∙ sym c.in-Some.ensures.value)
