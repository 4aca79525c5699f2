use Rattle.std.proofs.Common.{◌≡◌, map, take}
use Rattle.c_typed.specs.DefinitionViews.{program_of, literal_of}
use Rattle.ref_meaning.specs.Firsts.{Has, unfilled_of}
use Rattle.ref_meaning.proofs.store.Store.add_literals.Given as goal

abbrev pub invariant-loop-literal : goal.invariant-loop-literal
invariant-loop-literal l = record {
  types : l.self.types ≡ l.fn.self.types;
  has : Has (program_of l.program) l.self (unfilled_of (program_of l.program).globals (map literal_of (take l.literal-index l.program.literals.items)));
}
