-- A graph in which copies have targets.
use Rattle.std.proofs.Common.{◌≡◌, ℕ, true, Option}
use Rattle.heap_graph.specs.Graphs.{Target, Name, OfRegister, OfResult, OfObject, OfGlobal, OfLiteral, OfCopy, Graph}
use Rattle.heap_graph.specs.Closed.{is_slot}
use Rattle.heap_graph.specs.Completed.{HasNodes}
use Rattle.dsa_bottom_up.proofs.SamePoints.{with_copies}

module _ (graph : Graph) (at : ℕ → Option Target) where
  pub copies_sound : HasNodes graph → ((number : ℕ) → is_slot graph (at number) ≡ true) → HasNodes (with_copies graph at)
  copies_sound sound slots = record { names = by; edges = λ number node is. sound.edges number node is }
    where
      by : (name : Name) → is_slot (with_copies graph at) ((with_copies graph at).targets name) ≡ true
      by (OfRegister owner register) = sound.names (OfRegister owner register)
      by (OfResult owner) = sound.names (OfResult owner)
      by (OfObject owner local) = sound.names (OfObject owner local)
      by (OfGlobal number) = sound.names (OfGlobal number)
      by (OfLiteral number) = sound.names (OfLiteral number)
      by (OfCopy number) = slots number
