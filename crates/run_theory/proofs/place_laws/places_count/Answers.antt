use Rattle.run_theory.proofs.Places.{places_count}
use Rattle.run_theory.proofs.place_laws.places_count.Goals as goal

pub returns : goal.returns
returns c = places_count
