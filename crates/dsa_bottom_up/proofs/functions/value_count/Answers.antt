use Rattle.std.proofs.Common.{◌∙◌}
use Rattle.dsa_bottom_up.proofs.Arms.{if_then}
use Rattle.dsa_bottom_up.proofs.Scoping.{values_count}
use Rattle.dsa_bottom_up.proofs.functions.value_count.Goals as goal

pub returns : goal.returns
returns c =
    if_then c.values.result
    (λ n its. values_count c.args.program.now c.in_ok-names.names c.as_slice.result.now c.args.values.now n (c.as_slice.ensures.value ∙ c.new-scope.ensures.items) c.in_ok-names.ensures.variables c.in_ok-names.ensures.functions its c.requires)
    c.values.ensures
