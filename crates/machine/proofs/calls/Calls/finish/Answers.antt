use Rattle.machine.specs.Steps.{state_of, activations_of}
use Rattle.machine.proofs.Calling.{returns_on}
use Rattle.machine.proofs.calls.Calls.finish.Goals as goal

pub returns : goal.returns
returns c = λ code function heap history input trace.
    let new = c.leave.new.self in
    returns_on c.args.self.now.callers new.innermost new.callers (state_of (activations_of c.args.self.now) heap history input trace) c.leave.ensures
