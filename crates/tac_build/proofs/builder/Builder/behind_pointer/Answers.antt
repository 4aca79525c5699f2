use Rattle.std.proofs.Common.{◌∙◌}
use Rattle.c_typed.specs.Table.{type_in}
use Rattle.tac_ir.specs.Code.{Indexed}
use Rattle.tac_ir.specs.Views.{tree_of}
use Rattle.tac_build.specs.Spots.{AsObject}
use Rattle.tac_build.specs.Code.{path_from}
use Rattle.tac_build.proofs.Points.{if_ok}
use Rattle.tac_build.proofs.builder.Builder.behind_pointer.Goals as goal

pub returns-clause-code : goal.returns-clause-code
returns-clause-code c =
    let from = c.args.from in
    if_ok _ _ c.whole.result (λ lowered is table points fills. (
      tree_of c.in_ok-kept.kept.value,
      c.in_ok-kept.ensures.code table points fills,
      is table ∙ (λ i. AsObject (path_from (Indexed from.register (type_in table from.target) (tree_of (c.into_inner.ensures i)))) (type_in table from.target)),
    )) c.whole.ensures
