-- Edges that stand in the order of their slots already.
use Rattle.std.proofs.Common.{◌≡◌, ◌<◌, List, [], ◌∷◌, refl, ap, ◌∙◌, arith}
use Rattle.std.specs.Prelude.{if◌then◌else◌}
use Rattle.std.proofs.lemmas.Bool.{le-ltb}
use Rattle.heap_graph.specs.declared.frozen.Edge.{Edge}
use Rattle.heap_graph.specs.Orders.{insert_edge, by_slot, SlotsAscend}

later_slot : (edge next : Edge) (others : List Edge) → edge.slot < next.slot → insert_edge edge (next ∷ others) ≡ edge ∷ next ∷ others
later_slot edge next others lt = ap (λ b. if b then next ∷ insert_edge edge others else edge ∷ next ∷ others) (le-ltb next.slot edge.slot (omega arith))

pub by_slot_same : (edges : List Edge) → SlotsAscend edges → by_slot edges ≡ edges
by_slot_same [] ascend = refl
by_slot_same (edge ∷ []) ascend = refl
by_slot_same (edge ∷ next ∷ others) ascend = ap (insert_edge edge) (by_slot_same (next ∷ others) ascend.1) ∙ later_slot edge next others ascend.0
