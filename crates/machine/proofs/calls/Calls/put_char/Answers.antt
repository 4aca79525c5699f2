use Rattle.std.proofs.Common.{reverse}
use Rattle.machine.proofs.Written.{put_on}
use Rattle.machine.proofs.calls.Calls.put_char.Goals as goal

pub returns-in-Ok-clause-does : goal.returns-in-Ok-clause-does
returns-in-Ok-clause-does g c = λ code function heap left history input base trace told old.
    let innermost = c.self.inside.innermost in
    rw (← c.self.view_is)
    (put_on innermost (reverse c.self.inside.callers.items) heap history innermost.operands c.in-Some.word c.from.result c.replace.new.self input base trace left _ _ c.in-Some.ensures c.from.ensures c.replace.ensures told old (rw (← c.from.ensures) at c.in-Ok.ensures.written))
