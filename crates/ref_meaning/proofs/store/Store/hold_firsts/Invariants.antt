use Rattle.std.proofs.Common.{◌≡◌, ◌≤◌, length, map, drop}
use Rattle.c_typed.specs.DefinitionViews.{program_of, global_in}
use Rattle.ref_meaning.specs.Beginning.{unfilled_objects}
use Rattle.ref_meaning.specs.Firsts.{Has, AreFirsts, filled}
use Rattle.ref_meaning.proofs.store.Store.hold_firsts.Given as goal

abbrev pub invariant-loop-elements : goal.invariant-loop-elements
invariant-loop-elements l = record {
  types : l.self.types ≡ l.fn.self.types;
  within : length l.firsts.items ≤ length l.program.globals.items;
  firsts : AreFirsts (program_of l.program) l.self.types.now l.program.globals.items l.firsts.items;
  has : Has (program_of l.program) l.self (filled (program_of l.program) (map (global_in l.program.types) (drop (length l.firsts.items) l.program.globals.items)) (unfilled_objects (program_of l.program)));
}

abbrev pub decreases-loop-elements : goal.decreases-loop-elements
decreases-loop-elements l = length l.firsts.items
