use Rattle.std.proofs.Common.{◌≡◌, length}
use Rattle.c_typed.specs.DefinitionViews.{program_of}
use Rattle.ref_meaning.specs.Firsts.{AreFirsts}
use Rattle.ref_meaning.proofs.store.Store.first_values.Given as goal

abbrev pub invariant-loop-global : goal.invariant-loop-global
invariant-loop-global l = record {
  length : length l.firsts.items ≡ l.global-index;
  firsts : AreFirsts (program_of l.program) l.self.types.now l.program.globals.items l.firsts.items;
}
