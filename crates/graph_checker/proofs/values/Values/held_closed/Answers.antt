use Rattle.std.proofs.Common.{◌≡◌, true, ap, ◌∙◌}
use Rattle.c_typed.specs.DefinitionViews.{scalar_of, held_of}
use Rattle.heap_graph.specs.Closed.{in_start, first_part, constant_closed}
use Rattle.heap_graph.specs.Targets.{edge_at}
use Rattle.heap_graph.specs.Frozen.{optional_target}
use Rattle.heap_graph.specs.TargetParts.Parts.{root_in}
use Rattle.graph_checker.specs.Values.{family_of, is_stored}
use Rattle.graph_checker.proofs.HeldLists.{held_told}
use Rattle.graph_checker.proofs.values.Values.held_closed.Goals as goal

pub returns : goal.returns
returns c =
    let own = c.args.self.now in
    let global = root_in own.tac.now.types c.args.global in
    let stored : is_stored (family_of own) global ≡ true = cc in
    let edge : optional_target c.edge_at.result ≡ edge_at (in_start (family_of own)) (first_part (family_of own) c.args.held.now.parts.items global).target
    = c.edge_at.ensures own.tac.now.types ∙ ap (edge_at (in_start (family_of own))) (c.place_of-at.ensures ∙ ap (λ steps. (first_part (family_of own) steps global).target) c.as_slice.ensures.value) in
    held_told (family_of own) global (held_of c.args.held.now) c.constant_closed.result stored
    (c.constant_closed.ensures ∙ ap (λ e. constant_closed (family_of own) e (scalar_of c.args.held.now.value)) edge)
