use Rattle.std.proofs.Common.{◌≡◌, true, sym, ap, ◌∙◌}
use Rattle.heap_graph.specs.Closed.{in_start, first_part}
use Rattle.heap_graph.specs.Targets.{has_target, same_target, at_target, implies}
use Rattle.heap_graph.specs.Frozen.{optional_target}
use Rattle.heap_graph.specs.TargetParts.Parts.{root_in}
use Rattle.graph_checker.specs.Values.{family_of, place_in}
use Rattle.graph_checker.proofs.HeldLists.{place_told}
use Rattle.graph_checker.proofs.values.Values.place_closed.Goals as goal

pub returns : goal.returns
returns c =
    let own = c.args.self.now in
    let root = root_in own.tac.now.types c.static_root-root.result in
    let edge = optional_target c.args.edge in
    let there : has_target root.target ≡ true = cc in
    let test : c.is_at.result ≡ true = cc in
    let here : same_target edge (first_part (family_of own) c.args.parts.now root).target ≡ true = ap (same_target edge) (sym c.place_of.ensures) ∙ (sym c.is_at.ensures ∙ test) in
    place_told (family_of own) edge (place_in c.args.root.now c.args.parts.now c.args.index) root c.is_array_if.result c.static_root-root.ensures there here
    (c.is_array_if.ensures own.tac.now.types ∙ ap (λ asked. at_target (in_start (family_of own)) root.target (λ node shift. implies asked node.flags.array)) c.is_moved.ensures)
