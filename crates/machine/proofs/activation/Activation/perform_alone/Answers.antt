use Rattle.machine.proofs.activation.Activation.perform_alone.Goals as goal

pub returns-in-Constant-clause-performs : goal.returns-in-Constant-clause-performs
returns-in-Constant-clause-performs c = λ function h. rw c.in-Constant.is (c.push_if_room.ensures.performs function h)

pub returns-in-Discard-clause-performs : goal.returns-in-Discard-clause-performs
returns-in-Discard-clause-performs c = λ function h. rw c.in-Discard.is (c.discard_last.ensures.performs function)

pub returns-in-Duplicate-clause-performs : goal.returns-in-Duplicate-clause-performs
returns-in-Duplicate-clause-performs c = λ function h. rw c.in-Duplicate.is (c.duplicate.ensures.performs function h)

pub returns-in-Swap-clause-performs : goal.returns-in-Swap-clause-performs
returns-in-Swap-clause-performs c = λ function h. rw c.in-Swap.is (c.swap.ensures.performs function)

pub returns-in-Local-clause-performs : goal.returns-in-Local-clause-performs
returns-in-Local-clause-performs c = λ function h. rw (c.in-Local.is, ← c.address.ensures) (c.push_if_room-in-Local.ensures.performs function h)

pub returns-in-JumpIfZero-clause-performs : goal.returns-in-JumpIfZero-clause-performs
returns-in-JumpIfZero-clause-performs c = λ function h. rw c.in-JumpIfZero.is (c.jump_if_zero.ensures.performs function)

pub returns-in-JumpIfNotZero-clause-performs : goal.returns-in-JumpIfNotZero-clause-performs
returns-in-JumpIfNotZero-clause-performs c = λ function h. rw c.in-JumpIfNotZero.is (c.jump_if_not_zero.ensures.performs function)

pub returns-in-Exit-clause-performs : goal.returns-in-Exit-clause-performs
returns-in-Exit-clause-performs c = λ function h. rw c.in-Exit.is (c.exit.ensures function)

pub returns-in-Binary-clause-performs : goal.returns-in-Binary-clause-performs
returns-in-Binary-clause-performs c = λ function h. rw c.in-Binary.is (c.binary.ensures.performs function)

pub returns-in-Negate-clause-performs : goal.returns-in-Negate-clause-performs
returns-in-Negate-clause-performs c = λ function h. rw c.in-Negate.is (c.negate.ensures.performs function)

pub returns-in-Complement-clause-performs : goal.returns-in-Complement-clause-performs
returns-in-Complement-clause-performs c = λ function h. rw c.in-Complement.is (c.complement.ensures.performs function)

pub returns-in-Compare-clause-performs : goal.returns-in-Compare-clause-performs
returns-in-Compare-clause-performs c = λ function h. rw c.in-Compare.is (c.compare.ensures.performs function)

pub returns-in-Convert-clause-performs : goal.returns-in-Convert-clause-performs
returns-in-Convert-clause-performs c = λ function h. rw c.in-Convert.is (c.convert.ensures.performs function)
