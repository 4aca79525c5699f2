use Rattle.std.proofs.Common.{sym, ap, ◌∙◌}
use Rattle.tac_build.specs.Building.{home_in, optional_home}
use Rattle.tac_build.proofs.Points.{if_ok}
use Rattle.tac_build.proofs.builder.Builder.local.Goals as goal

pub returns : goal.returns
returns c = if_ok _ _ c.whole.result (λ lowered is table. (home_in table c.in-Some.home, sym (c.home_of.ensures.home table) ∙ ap (optional_home table) c.in-Some.is, is table)) c.whole.ensures
