use Rattle.std.proofs.Common.{◌∙◌, ap}
use Rattle.c_syntax.specs.Views.{program_tree}
use Rattle.c_types_state.specs.NameTables.{State}
use Rattle.c_types_state.specs.Lists.{with_outline}
use Rattle.graph_text.specs.Adding.{scope_at}
use Rattle.graph_text.proofs.ScopesWithin.{begins-there}
use Rattle.graph_text.proofs.program.before_items.Goals as goal

pub returns : goal.returns
unfolding scope_at
returns c =
    let program = program_tree c.args.program.now in
    begins-there program c.outermost.new.checker (c.in_ok-outermost.ensures ∙ ap (λ (state : State). with_outline program.items state) c.new-marker.ensures.state)
