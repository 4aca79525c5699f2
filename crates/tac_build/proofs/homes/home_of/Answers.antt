use Rattle.std.proofs.Common.{ap, ◌∙◌}
use Rattle.tac_build.specs.Building.{optional_home}
use Rattle.tac_build.proofs.Scopes.{item_copied, home_read}
use Rattle.tac_build.proofs.homes.home_of.Goals as goal

pub returns-clause-home : goal.returns-clause-home
returns-clause-home c =
    let read = c.copied.ensures ∙ item_copied c.args.scope.now c.args.number c.get.result c.get.ensures.lookup in
    λ table. ap (optional_home table) read ∙ home_read table c.args.scope.now c.args.number
