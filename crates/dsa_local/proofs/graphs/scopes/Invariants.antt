use Rattle.std.proofs.Common.{◌≡◌, take}
use Rattle.call_graph.specs.ClassLists.{numbers_of}
use Rattle.dsa_local.specs.Rounds.{owners_of}
use Rattle.dsa_local.specs.Local.{owners_in, AreScopes}
use Rattle.dsa_local.proofs.graphs.scopes.Given as goal

-- what is known of the functions so far
abbrev pub invariant-loop-member : goal.invariant-loop-member
invariant-loop-member l = record {
  owners : owners_of l.scopes.items ≡ owners_in (numbers_of (take l.member-index l.members));
  each : AreScopes l.tac l.scopes.items;
}
