use Rattle.std.proofs.Common.{◌≡◌, map, take, Some}
use Rattle.dsa_bottom_up.proofs.making.owners_of.Given as goal

abbrev pub invariant-loop-member : goal.invariant-loop-member
invariant-loop-member l = l.owners.items ≡ map Some (take l.member-index l.members)
