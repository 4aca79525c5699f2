use Rattle.slab_space.proofs.Inverse.{numbers_tell_addresses}
use Rattle.slab_space.proofs.laws.numbers_tell_addresses.Goals as goal

pub returns : goal.returns
returns c = numbers_tell_addresses
