use Rattle.std.proofs.Common.{◌≡◌, drop}
use Rattle.c_typed.specs.Table.{structs_in}
use Rattle.ref_semantics.specs.Store.{TypeEnvironment}
use Rattle.ref_semantics.specs.First as rules
use Rattle.ref_meaning.specs.RefStore.Views.{place_in, PlaceStands}
use Rattle.ref_meaning.specs.Firsts.{StepsLead}
use Rattle.ref_meaning.proofs.store.Store.walked.Given as goal

abbrev pub invariant-loop-part : goal.invariant-loop-part
invariant-loop-part l = record {
  stands : PlaceStands l.self.types.now l.reached;
  found : (around : TypeEnvironment) → around.structs ≡ structs_in l.self.types.now
      → rules.walked around (place_in l.self.types.now l.fn.place) l.parts l.index ≡ rules.walked around (place_in l.self.types.now l.reached) (drop l.part-index l.parts) l.index;
  leads : (around : TypeEnvironment) → around.structs ≡ structs_in l.self.types.now → StepsLead around (place_in l.self.types.now l.reached) (drop l.part-index l.parts) l.index;
}
