use Rattle.std.proofs.Common.{◌≡◌, ◌+◌, get_or, drop}
use Rattle.call_graph.specs.ClassLists.{numbers_of}
use Rattle.dsa_inlining.specs.Counting.{total}
use Rattle.dsa_bottom_up.proofs.counting.own_count.Given as goal

abbrev pub invariant-loop-member : goal.invariant-loop-member
invariant-loop-member l =
    l.own + total (λ function. get_or l.counts.functions.items function 0) (numbers_of (drop l.member-index l.members)) ≡ total (λ function. get_or l.counts.functions.items function 0) (numbers_of l.members)
