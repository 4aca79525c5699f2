use Rattle.std.proofs.Common.{◌≡◌, true, take}
use Rattle.c_typed.specs.Table.{type_in}
use Rattle.c_typed.specs.DefinitionViews.{program_of, all_first}
use Rattle.ref_semantics.specs.First.{first_held}
use Rattle.ref_meaning.specs.RefStore.Holding.{AllHeld}
use Rattle.ref_meaning.proofs.store.Store.first_elements.Given as goal

abbrev pub invariant-loop-first : goal.invariant-loop-first
invariant-loop-first l = record {
  is_static : l.elements.is_static ≡ true;
  c_type : l.elements.c_type ≡ l.global.c_type;
  count : l.elements.count ≡ 1;
  held : AllHeld l.self.types.now l.elements.held (first_held (program_of l.program) (type_in l.self.types.now l.global.c_type) (all_first (take l.first-index l.global.first.items)));
}
