use Rattle.std.proofs.Common.{sym, ◌∙◌}
use Rattle.tac_build.proofs.Calling.{through_told}
use Rattle.tac_build.proofs.calls.through.Goals as goal

pub returns : goal.returns
returns c = λ table register target is. through_told c.pointer-found.result.register register _ target (sym (c.pointer-found.ensures table) ∙ is)
