use Rattle.std.proofs.Common.{sym}
use Rattle.machine.proofs.PageBytes.{length_taken}
use Rattle.machine.proofs.pages.Paged.len.Goals as goal

pub returns : goal.returns
returns c = rw (← c.self.view_is) (sym (length_taken c.self.inside.pages.items c.self.inside.len c.self.invariant))
