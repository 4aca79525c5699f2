use Rattle.std.proofs.Common.{◌≡◌, ℕ, Option, take}
use Rattle.c_typed.specs.Table.{structs_in}
use Rattle.ref_semantics.specs.Values as meaning
use Rattle.ref_semantics.specs.Store.{TypeEnvironment}
use Rattle.ref_meaning.specs.RefStore.Views.{place_in}
use Rattle.ref_meaning.specs.RefStore.Holding.{AllHeld, IsUndisturbed}
use Rattle.ref_meaning.specs.Firsts.{with_text}
use Rattle.ref_meaning.proofs.store.Store.hold_text.Given as goal

abbrev pub invariant-loop-byte : goal.invariant-loop-byte
invariant-loop-byte l = record {
  index : l.index ≡ l.byte-index;
  same : IsUndisturbed l.fn.elements l.elements;
  held : (around : TypeEnvironment) (held : ℕ → Option meaning.Scalar) → around.structs ≡ structs_in l.self.types.now → AllHeld l.self.types.now l.fn.elements.held held
      → AllHeld l.self.types.now l.elements.held (with_text around (place_in l.self.types.now l.place) l.int_type 0 (take l.byte-index l.bytes) held);
}
