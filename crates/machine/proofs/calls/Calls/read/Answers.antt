use Rattle.std.proofs.Common.{reverse, arith, rules}
use Rattle.machine.proofs.FrameSearch.{read_last}
use Rattle.machine.proofs.calls.Calls.read.Goals as goal

pub returns-then-start-address-clause-word : goal.returns-then-start-address-clause-word
returns-then-start-address-clause-word c =
    let frame = c.self.inside.innermost in let callers = reverse c.self.inside.callers.items in
    let last = read_last c.args.address c.args.size c.requires.low frame callers c.self.invariant (omega arith) in
    rw (← c.self.view_is, last) (search rules)
