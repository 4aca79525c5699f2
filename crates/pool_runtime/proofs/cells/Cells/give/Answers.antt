use Rattle.std.proofs.Common.{ℕ, ◌+◌, ◌-◌, ◌^◌, ◌<◌, List, false, refl, subst, sym, ap, ◌∙◌, arith}
use Rattle.std.specs.Vec.{with_item}
use Rattle.run_theory.specs.Words.{with_word}
use Rattle.slab_space.specs.Space.{Space}
use Rattle.pool_runtime.specs.declared.cells.Cells.{Cells}
use Rattle.pool_runtime.specs.Seen.{class_seen}
use Rattle.pool_runtime.specs.Tables.{AreHeld, IsCells}
use Rattle.pool_runtime.proofs.CellsSteps.{start_held, given, given_kept}
use Rattle.pool_runtime.proofs.cells.Cells.give.Goals as goal

pub write_word-requires-clause-held : goal.write_word-requires-clause-held
write_word-requires-clause-held c =
    let s = c.args.self.now in let space = c.args.space.now in
    subst (λ p. AreHeld space.owners p 4) (sym c.place.ensures) (start_held space c.requires.space s c.requires.cells c.requires.runs c.args.number c.requires.some (omega (arith, c.requires.made, c.requires.cells.made)))

pub returns-clause-seen : goal.returns-clause-seen
returns-clause-seen c =
    let s = c.args.self.now in let old = c.args.space.now in let number = c.args.number in
    let new : Cells = record s { live = with_item s.live (number - 1) false; freed = s.freed + 1; last_freed = number } in
    let small : s.last_freed < 256 ^ 4 = omega arith in
    let bytes = ap (λ (t : Space). t.bytes) c.write_word.ensures ∙ ap (λ p. with_word old.bytes p 4 s.last_freed) c.place.ensures in
    ap (λ (b : List ℕ). class_seen b new) bytes
    ∙ given old c.requires.space s c.requires.cells c.requires.runs new number refl refl refl refl refl refl c.requires.some c.requires.made c.requires.live small

pub returns-clause-cells : goal.returns-clause-cells
returns-clause-cells c =
    let s = c.args.self.now in let old = c.args.space.now in let number = c.args.number in
    let new : Cells = record s { live = with_item s.live (number - 1) false; freed = s.freed + 1; last_freed = number } in
    let small : s.last_freed < 256 ^ 4 = omega arith in
    let bytes = ap (λ (t : Space). t.bytes) c.write_word.ensures ∙ ap (λ p. with_word old.bytes p 4 s.last_freed) c.place.ensures in
    subst (λ (b : List ℕ). IsCells b new) (sym bytes)
    (given_kept old c.requires.space s c.requires.cells c.requires.runs new number refl refl refl refl refl refl c.requires.some c.requires.made c.requires.live small)
