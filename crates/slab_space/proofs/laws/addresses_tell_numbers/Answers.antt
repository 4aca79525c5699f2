use Rattle.slab_space.proofs.Inverse.{addresses_tell_numbers}
use Rattle.slab_space.proofs.laws.addresses_tell_numbers.Goals as goal

pub returns : goal.returns
returns c = addresses_tell_numbers
