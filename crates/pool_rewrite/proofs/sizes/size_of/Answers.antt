use Rattle.std.proofs.Common.{ap, ◌∙◌}
use Rattle.c_typed.specs.Types.{CType}
use Rattle.c_typed.specs.Table.{structs_in}
use Rattle.tac_ir.specs.Layouts.{size_of}
use Rattle.pool_rewrite.proofs.sizes.size_of.Goals as goal

pub size_of-requires : goal.size_of-requires
size_of-requires c = c.number_of.ensures.stands

pub returns : goal.returns
returns c = c.size_of.ensures ∙ ap (λ (t : CType). size_of (structs_in c.args.types.now) t) c.number_of.ensures.means
