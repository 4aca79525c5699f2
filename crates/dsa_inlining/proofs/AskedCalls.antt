-- Nodes that are of arrays only where copies at calls ask for it.
use Rattle.std.proofs.Common.{◌≡◌, ℕ, List, Some}
use Rattle.std.specs.Prelude.{slice_get}
use Rattle.heap_graph.specs.Graphs.{Element, Name, Graph}
use Rattle.dsa_inlining.specs.declared.copies.Copies.{Copies}
use Rattle.dsa_inlining.specs.Copied.{numbers_in}
use Rattle.dsa_inlining.specs.CallCopies.Telling.{AsksCopy}
use Rattle.dsa_inlining.proofs.AskedCopies.{copy_asked}
use Rattle.dsa_inlining.specs.declared.before.Crossings.{Crossings}
use Rattle.dsa_inlining.specs.Before.{GraphsBefore, IsReached, nodes_reached}
use Rattle.dsa_inlining.specs.Crossings.{copies_at}
use Rattle.dsa_inlining.specs.Asking.{AsksOwn, AsksCall}

module _ (before : GraphsBefore) (old new : Graph) (names : (name : Name) → new.targets name ≡ old.targets name) where
  pub own_asked : (own : Crossings) (site called : ℕ) (copies : Copies) → copies_at own site called ≡ Some copies → (reached : IsReached before called) (number : ℕ) (element : Element)
      → AsksCopy new (nodes_reached before called reached) (numbers_in copies) number element → AsksOwn before own old number element
  own_asked own site called copies at reached number element asks = record {
    site = site;
    called = called;
    copies = copies;
    at = at;
    reached = reached;
    asks = copy_asked old new (nodes_reached before called reached) (numbers_in copies) names number element asks;
  }

  pub call_asked : (all : List Crossings) (place : ℕ) (own : Crossings) → slice_get all place ≡ Some own → (number : ℕ) (element : Element) → AsksOwn before own new number element → AsksCall before all old number element
  call_asked all place own there number element asks = record {
    place = place;
    own = own;
    there = there;
    asks = own_asked own asks.site asks.called asks.copies asks.at asks.reached number element asks.asks;
  }

  -- all that was asked of the one graph is asked of the other
  pub calls_asked : (all : List Crossings) (number : ℕ) (element : Element) → AsksCall before all new number element → AsksCall before all old number element
  calls_asked all number element asks = call_asked all asks.place asks.own asks.there number element asks.asks
