use Rattle.pool_isa.proofs.Numbers.{same_number}
use Rattle.pool_isa.proofs.laws.no_number_begins_another.Goals as goal

pub returns : goal.returns
returns c = same_number
