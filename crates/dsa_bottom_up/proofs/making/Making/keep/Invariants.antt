use Rattle.std.proofs.Common.{◌≡◌, ◌+◌, drop, length}
use Rattle.std.specs.Iterator.Adapters.{enumerate_count, enumerate_source}
use Rattle.std.specs.Vec.Iter.{into_iter_items, into_iter_len}
use Rattle.dsa_bottom_up.proofs.Keeping.{KeepsSome}
use Rattle.dsa_bottom_up.proofs.making.Making.keep.Given as goal

abbrev pub invariant-loop-place : goal.invariant-loop-place
invariant-loop-place l = record {
  rest : into_iter_items (enumerate_source l.place-iterator) ≡ drop (enumerate_count l.place-iterator) l.fn.functions.items;
  left : into_iter_len (enumerate_source l.place-iterator) + enumerate_count l.place-iterator ≡ length l.fn.functions.items;
  some : KeepsSome l.fn.self l.self l.fn.members l.fn.graph l.fn.functions.items (enumerate_count l.place-iterator);
}
