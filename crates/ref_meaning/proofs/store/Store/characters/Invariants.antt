use Rattle.std.proofs.Common.{◌≡◌, ℕ, true, nat_eq, take}
use Rattle.indexmap.specs.IndexMap.{get}
use Rattle.ref_semantics.specs.First.{characters}
use Rattle.ref_meaning.specs.RefStore.Holding.{HeldIs}
use Rattle.ref_meaning.proofs.store.Store.characters.Given as goal

abbrev pub invariant-loop-byte : goal.invariant-loop-byte
invariant-loop-byte l = record {
  offset : l.offset ≡ l.byte-index;
  is_static : l.elements.is_static ≡ true;
  c_type : l.elements.c_type ≡ l.literal.c_type;
  count : l.elements.count ≡ 1;
  held : (k : ℕ) → HeldIs l.self.types.now (get nat_eq l.elements.held k) (characters (take l.byte-index l.literal.bytes) k);
}
