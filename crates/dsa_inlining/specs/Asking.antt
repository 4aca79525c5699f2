-- Where copies at calls ask that what they come to is of an array.
use Rattle.std.specs.Prelude.{◌≡◌, ℕ, List, slice_get, Some}
use Rattle.heap_graph.specs.Graphs.{Element, Graph}
use Rattle.dsa_inlining.specs.declared.copies.Copies.{Copies}
use Rattle.dsa_inlining.specs.Copied.{numbers_in}
use Rattle.dsa_inlining.specs.CallCopies.Telling.{AsksCopy}
use Rattle.dsa_inlining.specs.declared.before.Crossings.{Crossings}
use Rattle.dsa_inlining.specs.Before.{GraphsBefore, IsReached, nodes_reached}
use Rattle.dsa_inlining.specs.Crossings.{copies_at}

-- a copy at one of a function's calls does
pub record AsksOwn (before : GraphsBefore) (own : Crossings) (graph : Graph) (number : ℕ) (element : Element) : Type 0 where
  pub site : ℕ
  pub called : ℕ
  pub copies : Copies
  pub at : copies_at own site called ≡ Some copies
  pub reached : IsReached before called
  pub asks : AsksCopy graph (nodes_reached before called reached) (numbers_in copies) number element

-- one at a call of a group does
pub record AsksCall (before : GraphsBefore) (all : List Crossings) (graph : Graph) (number : ℕ) (element : Element) : Type 0 where
  pub place : ℕ
  pub own : Crossings
  pub there : slice_get all place ≡ Some own
  pub asks : AsksOwn before own graph number element
