use Rattle.machine.proofs.activation.Activation.duplicate.Goals as goal

pub returns-in-Some-clause-performs : goal.returns-in-Some-clause-performs
returns-in-Some-clause-performs c = λ function h code callers heap history input trace. rw c.in-Some.ensures (rw c.in-Some.ensures at (c.push_if_room.ensures.performs function h code callers heap history input trace))
