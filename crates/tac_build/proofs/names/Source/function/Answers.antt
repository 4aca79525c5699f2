use Rattle.std.proofs.Common.{sym, ◌∙◌}
use Rattle.tac_build.proofs.Numbering.{there_not_none}
use Rattle.tac_build.proofs.names.Source.function.Goals as goal

pub unreachable-requires : goal.unreachable-requires
unreachable-requires c = there_not_none _ c.requires.there (sym (c.requires.source.functions c.args.name.now) ∙ sym c.in-None.ensures.value)

pub returns : goal.returns
returns c = sym (c.requires.source.functions c.args.name.now) ∙ sym c.in-Some.ensures.value
