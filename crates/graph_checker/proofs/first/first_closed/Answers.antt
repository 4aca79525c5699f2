use Rattle.std.proofs.Common.{map, ap, ◌∙◌}
use Rattle.c_typed.specs.DefinitionViews.{global_in}
use Rattle.heap_graph.specs.Closed.{first_closed}
use Rattle.graph_checker.specs.Values.{alone}
use Rattle.graph_checker.proofs.ClosedFirst.Shown.{first_shown}
use Rattle.graph_checker.proofs.first.first_closed.Goals as goal

pub returns : goal.returns
returns c = λ family same shows.
    let tac = c.args.tac.now in
    c.globals_closed.ensures
    ∙ (ap (λ globals. first_closed (alone tac c.args.start.now) 0 (map (global_in tac.types) globals)) c.as_slice.ensures.value
    ∙ first_shown tac c.args.start.now family same shows)
