use Rattle.std.proofs.Common.{◌≡◌, None, replicate}
use Rattle.machine.proofs.pages.Paged.zeros.Given as goal

abbrev pub invariant-loop-page : goal.invariant-loop-page
invariant-loop-page l = l.pages.items ≡ replicate l._page None
