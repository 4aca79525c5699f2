use Rattle.std.proofs.Common.{ap, option_map, ◌∙◌}
use Rattle.c_typed.specs.Table.{type_in}
use Rattle.dsa_bottom_up.specs.ExpressionTypes.{type_or_void}
use Rattle.dsa_bottom_up.proofs.Shapes.{void_in}
use Rattle.dsa_bottom_up.proofs.names.Names.function.Goals as goal

pub returns-in-None : goal.returns-in-None
returns-in-None c = λ table. void_in table ∙ ap (λ found. type_or_void (option_map (type_in table) found)) c.in-None.ensures.value
