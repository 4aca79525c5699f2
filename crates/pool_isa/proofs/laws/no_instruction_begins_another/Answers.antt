use Rattle.pool_isa.proofs.Instrs.{same_instr}
use Rattle.pool_isa.proofs.laws.no_instruction_begins_another.Goals as goal

pub returns : goal.returns
returns c = same_instr
