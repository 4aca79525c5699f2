use Rattle.std.proofs.Common.{◌≡◌, ℕ, ◌-◌, ◌<◌, ◌≤◌, List, Option, true, false, Some, length, get_or, refl, sym, ap, subst, ◌∙◌, arith}
use Rattle.std.specs.Prelude.{slice_get, slice_index_or}
use Rattle.std.proofs.lemmas.Option.{same_Some, slice_get_within, slice_get-get_or, some_pair_parts}
use Rattle.slab_space.specs.Space.{Space}
use Rattle.pool_runtime.specs.declared.cells.Cells.{Cells}
use Rattle.pool_runtime.specs.declared.slabs.Found.{Found}
use Rattle.pool_runtime.specs.Lookup.{cell_of}
use Rattle.pool_runtime.proofs.Lookups.{cell_there, some_number, made_number}
use Rattle.pool_runtime.proofs.Loads.{class_runs}
use Rattle.pool_runtime.proofs.Begun.{no_cell_freed, cell_freed}
use Rattle.pool_runtime.proofs.Freed.{freed_changes, freed_seen_now, some_live, with_one_freed, same_end}
use Rattle.pool_runtime.proofs.pool.Pool.free_cell.Goals as goal

pub returns-in_default-clause-frees : goal.returns-in_default-clause-frees
returns-in_default-clause-frees c = λ address finds. (
  no_cell_freed c.args.slabs.now c.args.self.now c.args.found.now.home.pool c.requires.pool address (Some c.args.found.now) finds c.args.found.now refl c.args.class c.args.run c.requires.held c.args.slabs.now.space.owners (λ r n at cell.
      let both = sym c.in_default.is ∙ c.cell_at.ensures ∙ cell in absurd cc),
  (refl, refl),
)

pub returns-then-off-gt0-clause-frees : goal.returns-then-off-gt0-clause-frees
returns-then-off-gt0-clause-frees c = λ address finds. (
  no_cell_freed c.args.slabs.now c.args.self.now c.args.found.now.home.pool c.requires.pool address (Some c.args.found.now) finds c.args.found.now refl c.args.class c.args.run c.requires.held c.args.slabs.now.space.owners (λ r n at cell.
      let both = some_pair_parts c.in-Some.number n c.in-Some.off 0 (sym c.in-Some.is ∙ c.cell_at.ensures ∙ cell) in absurd (omega (arith, both.1, c.if-off-gt0.true))),
  (refl, refl),
)

at_begin : (o : Option (ℕ × ℕ)) (number off : ℕ) (p : Option (ℕ × ℕ)) → o ≡ p → o ≡ Some (number, off) → off ≤ 0 → p ≡ Some (number, 0)
at_begin o number off p e is none = let zero : off ≡ 0 = omega (arith, none) in sym e ∙ is ∙ ap (λ n. Some (number, n)) zero

class_there : (classes : List Cells) (found : Found) (class run number : ℕ) → cell_of classes found class run ≡ Some (number, 0) → class < length classes
class_there classes found class run number cell = let th = cell_there classes found class run number 0 cell in slice_get_within classes class th.cells th.at

-- the class, and the number of its cell
record InClass (classes : List Cells) (class number : ℕ) (r : Cells) : Type 0 where
  at : slice_get classes class ≡ Some r
  some : 1 ≤ number
  made : number ≤ r.made

in_class : (classes : List Cells) (found : Found) (class run number : ℕ) (r : Cells) → cell_of classes found class run ≡ Some (number, 0) → r ≡ get_or classes class r → InClass classes class number r
in_class classes found class run number r cell is =
    let th = cell_there classes found class run number 0 cell in
    let at = slice_get-get_or classes class r (class_there classes found class run number cell) ∙ ap Some (sym is) in
    let same : th.cells ≡ r = same_Some th.cells r (sym th.at ∙ at) in
    record {
      at = at;
      some = some_number classes found class run number 0 th;
      made = subst (λ (x : Cells). number ≤ x.made) same (made_number classes found class run number 0 th);
    }

pub index-requires : goal.index-requires
index-requires c =
    let inside = class_there c.args.self.now.classes.items c.args.found.now c.args.class c.args.run c.in-Some.number (at_begin c.cell_at.result c.in-Some.number c.in-Some.off _ c.cell_at.ensures c.in-Some.is c.if-off-gt0.false) in
    omega (arith, inside, c.args.self.now.classes.ok.0)

pub is_live-requires-clause-made : goal.is_live-requires-clause-made
is_live-requires-clause-made c =
    let i = in_class c.args.self.now.classes.items c.args.found.now c.args.class c.args.run c.in-Some.number c.index.result.now (at_begin c.cell_at.result c.in-Some.number c.in-Some.off _ c.cell_at.ensures c.in-Some.is c.if-off-gt0.false) c.index.ensures in
    omega (arith, i.made, (c.requires.pool.classes c.args.class c.index.result.now i.at).cells.made)

pub returns-then-not-is_live-clause-frees : goal.returns-then-not-is_live-clause-frees
returns-then-not-is_live-clause-frees c = λ address finds.
    let cell' = at_begin c.cell_at.result c.in-Some.number c.in-Some.off _ c.cell_at.ensures c.in-Some.is c.if-off-gt0.false in
    let i = in_class c.args.self.now.classes.items c.args.found.now c.args.class c.args.run c.in-Some.number c.index.result.now cell' c.index.ensures in (
      no_cell_freed c.args.slabs.now c.args.self.now c.args.found.now.home.pool c.requires.pool address (Some c.args.found.now) finds c.args.found.now refl c.args.class c.args.run c.requires.held c.args.slabs.now.space.owners (λ r n at cell.
          let number = (some_pair_parts c.in-Some.number n 0 0 (sym cell' ∙ cell)).0 in
          let same : c.index.result.now ≡ r = same_Some c.index.result.now r (sym i.at ∙ at) in
          ap (λ m. slice_index_or r.live.items (m - 1) false) (sym number) ∙ ap (λ (x : Cells). slice_index_or x.live.items (c.in-Some.number - 1) false) (sym same) ∙ sym c.if-not-is_live.ensures),
      (refl, refl),
    )

pub index_mut-requires : goal.index_mut-requires
index_mut-requires c =
    let inside = class_there c.args.self.now.classes.items c.args.found.now c.args.class c.args.run c.in-Some.number (at_begin c.cell_at.result c.in-Some.number c.in-Some.off _ c.cell_at.ensures c.in-Some.is c.if-off-gt0.false) in
    omega (arith, inside, c.args.self.now.classes.ok.0)

pub give-requires-clause-cells : goal.give-requires-clause-cells
give-requires-clause-cells c =
    let i = in_class c.args.self.now.classes.items c.args.found.now c.args.class c.args.run c.in-Some.number c.index_mut.result.now (at_begin c.cell_at.result c.in-Some.number c.in-Some.off _ c.cell_at.ensures c.in-Some.is c.if-off-gt0.false) c.index_mut.ensures.value in
    (c.requires.pool.classes c.args.class c.index_mut.result.now i.at).cells

pub give-requires-clause-runs : goal.give-requires-clause-runs
give-requires-clause-runs c =
    let i = in_class c.args.self.now.classes.items c.args.found.now c.args.class c.args.run c.in-Some.number c.index_mut.result.now (at_begin c.cell_at.result c.in-Some.number c.in-Some.off _ c.cell_at.ensures c.in-Some.is c.if-off-gt0.false) c.index_mut.ensures.value in
    class_runs c.args.slabs.now c.args.found.now.home.pool c.args.class c.index_mut.result.now (c.requires.pool.classes c.args.class c.index_mut.result.now i.at)

pub give-requires-clause-made : goal.give-requires-clause-made
give-requires-clause-made c =
    (in_class c.args.self.now.classes.items c.args.found.now c.args.class c.args.run c.in-Some.number c.index_mut.result.now (at_begin c.cell_at.result c.in-Some.number c.in-Some.off _ c.cell_at.ensures c.in-Some.is c.if-off-gt0.false) c.index_mut.ensures.value).made

live_too : (classes : List Cells) (class number : ℕ) (r r' : Cells) → InClass classes class number r → InClass classes class number r' → slice_index_or r.live.items (number - 1) false ≡ true → slice_index_or r'.live.items (number - 1) false ≡ true
live_too classes class number r r' i i' live =
    let same : r ≡ r' = same_Some r r' (sym i.at ∙ i'.at) in subst (λ (x : Cells). slice_index_or x.live.items (number - 1) false ≡ true) same live

pub give-requires-clause-live : goal.give-requires-clause-live
give-requires-clause-live c =
    let cell = at_begin c.cell_at.result c.in-Some.number c.in-Some.off _ c.cell_at.ensures c.in-Some.is c.if-off-gt0.false in
    live_too c.args.self.now.classes.items c.args.class c.in-Some.number c.index.result.now c.index_mut.result.now
    (in_class c.args.self.now.classes.items c.args.found.now c.args.class c.args.run c.in-Some.number c.index.result.now cell c.index.ensures)
    (in_class c.args.self.now.classes.items c.args.found.now c.args.class c.args.run c.in-Some.number c.index_mut.result.now cell c.index_mut.ensures.value) (sym c.if-not-is_live.ensures)

pub overflow_sub-self : goal.overflow_sub-self
overflow_sub-self c =
    let i = in_class c.args.self.now.classes.items c.args.found.now c.args.class c.args.run c.in-Some.number c.index_mut.result.now (at_begin c.cell_at.result c.in-Some.number c.in-Some.off _ c.cell_at.ensures c.in-Some.is c.if-off-gt0.false) c.index_mut.ensures.value in
    some_live c.args.found.now.home.pool c.args.class c.args.slabs.now c.args.self.now c.index_mut.result.now c.give.new.self c.give.new.space.bytes c.in-Some.number c.requires.pool i.at c.give.ensures.cells c.give.ensures.seen

pub returns-clause-changes : goal.returns-clause-changes
returns-clause-changes c =
    let r = c.index_mut.result.now in let id = c.args.found.now.home.pool in let pool = c.args.self.now in let old = c.args.slabs.now in let number = c.in-Some.number in
    let i = in_class pool.classes.items c.args.found.now c.args.class c.args.run number r (at_begin c.cell_at.result number c.in-Some.off _ c.cell_at.ensures c.in-Some.is c.if-off-gt0.false) c.index_mut.ensures.value in
    let live = some_live id c.args.class old pool r c.give.new.self c.give.new.space.bytes number c.requires.pool i.at c.give.ensures.cells c.give.ensures.seen in
    freed_changes id c.args.class old pool r c.requires.space c.requires.pool i.at number r.last_freed i.some i.made
    (record { space = c.give.new.space; homes = old.homes }) (with_one_freed pool c.args.class c.give.new.self) c.give.new.self c.give.ensures.space refl refl refl refl refl (omega (arith, live)) refl
    c.give.ensures.size c.give.ensures.same_runs c.give.ensures.seen c.give.ensures.cells

pub returns-clause-frees : goal.returns-clause-frees
returns-clause-frees c = λ address finds.
    let r = c.index_mut.result.now in let id = c.args.found.now.home.pool in let pool = c.args.self.now in let old = c.args.slabs.now in let number = c.in-Some.number in
    let cell = at_begin c.cell_at.result number c.in-Some.off _ c.cell_at.ensures c.in-Some.is c.if-off-gt0.false in
    let i = in_class pool.classes.items c.args.found.now c.args.class c.args.run number r cell c.index_mut.ensures.value in
    let i' = in_class pool.classes.items c.args.found.now c.args.class c.args.run number c.index.result.now cell c.index.ensures in
    let live = some_live id c.args.class old pool r c.give.new.self c.give.new.space.bytes number c.requires.pool i.at c.give.ensures.cells c.give.ensures.seen in
    cell_freed old pool id c.requires.pool address (Some c.args.found.now) finds c.args.found.now refl c.args.class c.args.run c.requires.held r number i.at cell old.space.owners
    (live_too pool.classes.items c.args.class number c.index.result.now r i' i (sym c.if-not-is_live.ensures))
    ∙ same_end (sym (ap (λ (s : Space). s.owners) c.give.ensures.space)) (sym (freed_seen_now id c.args.class old pool r c.requires.space c.requires.pool i.at number r.last_freed i.some i.made
    (record { space = c.give.new.space; homes = old.homes }) (with_one_freed pool c.args.class c.give.new.self) c.give.new.self c.give.ensures.space refl refl refl refl refl (omega (arith, live)) refl
    c.give.ensures.size c.give.ensures.same_runs c.give.ensures.seen c.give.ensures.cells))
