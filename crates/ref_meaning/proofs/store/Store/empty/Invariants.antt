use Rattle.std.proofs.Common.{◌≡◌, ℕ, List, take, map, bytes_eq}
use Rattle.std.specs.List.{list_any}
use Rattle.c_typed.specs.Names.{contains}
use Rattle.ref_meaning.proofs.store.Store.empty.Given as goal

abbrev pub invariant-loop-tag : goal.invariant-loop-tag
invariant-loop-tag l = (tag : List ℕ) → contains (map (λ name. name) (take l.tag-index l.program.completed.items)) tag ≡ list_any (λ key. bytes_eq tag key.now) l.completed.keys
