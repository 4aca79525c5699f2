-- What is collected from a function's code.
use Rattle.std.proofs.Common.{◌≡◌, ℕ, ◌+◌, ◌<◌, ◌≤◌, Bool, true, false, ◌||◌, if◌then◌else◌, List, [], ◌∷◌, length, map, drop, get_or, refl, sym, ap, ◌∙◌}
use Rattle.std.specs.List.{list_any}
use Rattle.std.proofs.lemmas.List.{at_drop_more, at_drop_all}
use Rattle.c_typed.specs.Types.{Void}
use Rattle.c_typed.specs.Table.{Interned, type_in}
use Rattle.c_typed.proofs.Grown.{void_stands}
use Rattle.tac_ir.specs.declared.register.Local.{Local}
use Rattle.tac_ir.specs.declared.program.LocalObject.{LocalObject}
use Rattle.tac_ir.specs.Objects.{own_type, whole}
use Rattle.tac_ir.specs.Values.{same_local}
use Rattle.tac_ir.specs.Views.{object_in}
use Rattle.heap_graph.specs.Points.{type_of_inner}
use Rattle.heap_graph.specs.Known.{void}
use Rattle.heap_graph.specs.Scopes.{type_among}

-- ---- marks

or_no : (b : Bool) → (b || false) ≡ b
or_no true = refl
or_no false = refl

exchanged : (one others before : Bool) → (others || (one || before)) ≡ ((one || others) || before)
exchanged true true before = refl
exchanged true false before = refl
exchanged false others before = refl

module _ {X Y : Type 0} (f : X → Y) (test : Y → Bool) where
  -- the item at this index is marked
  pub one_marked : (xs : List X) (i : ℕ) (x : X) (old new all : Bool) → i < length xs → x ≡ get_or xs i x → new ≡ (test (f x) || old) → (list_any test (map f (drop i xs)) || old) ≡ all
      → (list_any test (map f (drop (i + 1) xs)) || new) ≡ all
  one_marked xs i x old new all less is marks so_far =
      ap (λ b. list_any test (map f (drop (i + 1) xs)) || b) marks
      ∙ (exchanged (test (f x)) (list_any test (map f (drop (i + 1) xs))) old
      ∙ (ap (λ y. (test (f y) || list_any test (map f (drop (i + 1) xs))) || old) is
      ∙ (ap (λ b. b || old) (sym (at_drop_more (λ l. list_any test (map f l)) xs i x less)) ∙ so_far)))

  -- all are
  pub all_marked : (xs : List X) (i : ℕ) (old all : Bool) → length xs ≤ i → (list_any test (map f (drop i xs)) || old) ≡ all → old ≡ all
  all_marked xs i old all end so_far = ap (λ b. b || old) (sym (at_drop_all (λ l. list_any test (map f l)) xs i end)) ∙ so_far

-- where nothing was marked
pub marked_alone : (found before all : Bool) → before ≡ false → all ≡ (found || before) → all ≡ found
marked_alone found before all none e = e ∙ (ap (λ b. found || b) none ∙ or_no found)

-- ---- types

void_is : (table : Interned) → type_in table void ≡ Void
void_is table = (void_stands table void refl).1

pub type_told : (table : Interned) (objects : List LocalObject) (local : Local) → type_in table (type_among objects local) ≡ type_of_inner (own_type (map (object_in table) objects) local)
type_told table [] local = void_is table
type_told table (first ∷ others) local = by (same_local first.local local) (type_told table others local)
  where
    by : (b : Bool) → type_in table (type_among others local) ≡ type_of_inner (own_type (map (object_in table) others) local)
        → type_in table (if b then first.c_type else type_among others local) ≡ type_of_inner (if b then whole (type_in table first.c_type) else own_type (map (object_in table) others) local)
    by true later = refl
    by false later = later
