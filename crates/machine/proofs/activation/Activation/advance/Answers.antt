use Rattle.pool_isa.specs.declared.instr.Instr.TheVariants as instrs
use Rattle.machine.proofs.Advancing.{after_step, at_any_height}
use Rattle.machine.proofs.activation.Activation.advance.Goals as goal

pub returns-in-Local-clause-advances : goal.returns-in-Local-clause-advances
returns-in-Local-clause-advances c = rw (c.in-Local.is, ← c.address.ensures) c.push_within.ensures.advances

pub returns-in-Constant-clause-advances : goal.returns-in-Constant-clause-advances
returns-in-Constant-clause-advances c = rw c.in-Constant.is c.push_within-in-Constant.ensures.advances

pub returns-in-Duplicate-clause-advances : goal.returns-in-Duplicate-clause-advances
returns-in-Duplicate-clause-advances c = rw c.in-Duplicate.is c.duplicate_within.ensures.advances

pub returns-in-Convert-clause-advances : goal.returns-in-Convert-clause-advances
returns-in-Convert-clause-advances c = rw (c.in-Convert.is, c.goes_on.ensures) (after_step c.args.height (instrs.Convert c.in-Convert.int_type) c.convert.result c.args.self.now c.convert.new.self c.convert.ensures.performs c.convert.ensures.kept)

pub returns-in-Binary-clause-advances : goal.returns-in-Binary-clause-advances
returns-in-Binary-clause-advances c = rw (c.in-Binary.is, c.goes_on-in-Binary.ensures) (after_step c.args.height (instrs.Binary c.in-Binary.operator c.in-Binary.int_type) c.binary.result c.args.self.now c.binary.new.self c.binary.ensures.performs c.binary.ensures.kept)

pub returns-in-Compare-clause-advances : goal.returns-in-Compare-clause-advances
returns-in-Compare-clause-advances c = rw (c.in-Compare.is, c.goes_on-in-Compare.ensures) (after_step c.args.height (instrs.Compare c.in-Compare.relation c.in-Compare.int_type) c.compare.result c.args.self.now c.compare.new.self c.compare.ensures.performs c.compare.ensures.kept)

pub returns-in-JumpIfZero-clause-advances : goal.returns-in-JumpIfZero-clause-advances
returns-in-JumpIfZero-clause-advances c = rw (c.in-JumpIfZero.is, c.goes_on-in-JumpIfZero.ensures) (after_step c.args.height (instrs.JumpIfZero c.in-JumpIfZero.target) c.jump_if_zero.result c.args.self.now c.jump_if_zero.new.self c.jump_if_zero.ensures.performs c.jump_if_zero.ensures.kept)

pub returns-in-JumpIfNotZero-clause-advances : goal.returns-in-JumpIfNotZero-clause-advances
returns-in-JumpIfNotZero-clause-advances c = rw (c.in-JumpIfNotZero.is, c.goes_on-in-JumpIfNotZero.ensures) (after_step c.args.height (instrs.JumpIfNotZero c.in-JumpIfNotZero.target) c.jump_if_not_zero.result c.args.self.now c.jump_if_not_zero.new.self c.jump_if_not_zero.ensures.performs c.jump_if_not_zero.ensures.kept)

pub returns-in-Discard-clause-advances : goal.returns-in-Discard-clause-advances
returns-in-Discard-clause-advances c = rw (c.in-Discard.is, c.goes_on-in-Discard.ensures) (after_step c.args.height instrs.Discard c.discard_last.result c.args.self.now c.discard_last.new.self c.discard_last.ensures.performs c.discard_last.ensures.kept)

pub returns-in-Swap-clause-advances : goal.returns-in-Swap-clause-advances
returns-in-Swap-clause-advances c = rw (c.in-Swap.is, c.goes_on-in-Swap.ensures) (after_step c.args.height instrs.Swap c.swap.result c.args.self.now c.swap.new.self c.swap.ensures.performs c.swap.ensures.kept)

pub returns-in-Negate-clause-advances : goal.returns-in-Negate-clause-advances
returns-in-Negate-clause-advances c = rw (c.in-Negate.is, c.goes_on-in-Negate.ensures) (after_step c.args.height (instrs.Negate c.in-Negate.int_type) c.negate.result c.args.self.now c.negate.new.self c.negate.ensures.performs c.negate.ensures.kept)

pub returns-in-Complement-clause-advances : goal.returns-in-Complement-clause-advances
returns-in-Complement-clause-advances c = rw (c.in-Complement.is, c.goes_on-in-Complement.ensures) (after_step c.args.height (instrs.Complement c.in-Complement.int_type) c.complement.result c.args.self.now c.complement.new.self c.complement.ensures.performs c.complement.ensures.kept)

pub returns-in-Load-clause-advances : goal.returns-in-Load-clause-advances
returns-in-Load-clause-advances c = rw c.in-Load.is (at_any_height c.args.height (instrs.Load c.in-Load.int_type) c.load_in_frame.result c.args.self.now c.load_in_frame.new.self c.load_in_frame.ensures.advances)

pub returns-in-Store-clause-advances : goal.returns-in-Store-clause-advances
returns-in-Store-clause-advances c = rw c.in-Store.is (at_any_height c.args.height (instrs.Store c.in-Store.width) c.store_in_frame.result c.args.self.now c.store_in_frame.new.self c.store_in_frame.ensures.advances)
