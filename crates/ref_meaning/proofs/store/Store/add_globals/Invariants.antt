use Rattle.std.proofs.Common.{◌≡◌, [], map, take}
use Rattle.c_typed.specs.DefinitionViews.{program_of, global_in}
use Rattle.ref_meaning.specs.Firsts.{Has, unfilled_of}
use Rattle.ref_meaning.proofs.store.Store.add_globals.Given as goal

abbrev pub invariant-loop-global : goal.invariant-loop-global
invariant-loop-global l = record {
  types : l.self.types ≡ l.fn.self.types;
  has : Has (program_of l.program) l.self (unfilled_of (map (global_in l.program.types) (take l.global-index l.program.globals.items)) []);
}
