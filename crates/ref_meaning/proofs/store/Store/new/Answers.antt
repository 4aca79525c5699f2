use Rattle.ref_meaning.proofs.FirstTyped.{globals_fit}
use Rattle.ref_meaning.proofs.store.Store.new.Goals as goal

pub add_globals-requires-clause-fit : goal.add_globals-requires-clause-fit
add_globals-requires-clause-fit c = globals_fit c.args.program.now c.requires.stand c.requires.well_typed c.requires.storable

pub first_values-requires-clause-fit : goal.first_values-requires-clause-fit
first_values-requires-clause-fit c = globals_fit c.args.program.now c.requires.stand c.requires.well_typed c.requires.storable

pub hold_firsts-requires-clause-fit : goal.hold_firsts-requires-clause-fit
hold_firsts-requires-clause-fit c = globals_fit c.args.program.now c.requires.stand c.requires.well_typed c.requires.storable
