use Rattle.std.proofs.Common.{ℕ, ◌+◌, List, ap, sym, subst, ◌∙◌, arith}
use Rattle.run_theory.specs.Words.{with_word}
use Rattle.slab_space.specs.Space.{Space}
use Rattle.slab_space.proofs.WithRun.{length-with_run}
use Rattle.pool_runtime.specs.Tables.{IsSpace}
use Rattle.pool_runtime.proofs.Pieces.{cleared_more}
use Rattle.pool_runtime.proofs.Ranges.{held_inside}
use Rattle.pool_runtime.proofs.memory.clear.Goals as goal

pub overflow_add-place : goal.overflow_add-place
overflow_add-place c =
    let old = c.args.space.now in
    omega (arith, held_inside old c.requires.space c.args.place c.args.count (omega arith) c.requires.held, c.requires.space.whole, c.requires.space.small)

pub write_word-requires-clause-space : goal.write_word-requires-clause-space
write_word-requires-clause-space c =
    let old = c.args.space.now in let done = c.loop-done.done in
    let all = held_inside old c.requires.space c.args.place c.args.count (omega arith) c.requires.held in
    subst IsSpace (sym c.loop-done.invariant.cleared)
    (record { whole = length-with_run old.bytes c.args.place done 0 (omega arith) ∙ c.requires.space.whole; small = c.requires.space.small })

pub loop-done-preserved : goal.loop-done-preserved
loop-done-preserved c =
    let old = c.args.space.now in let done = c.loop-done.done in let width = c.min-width.result in
    let all = held_inside old c.requires.space c.args.place c.args.count (omega arith) c.requires.held in
    record {
      cleared = c.write_word.ensures ∙ ap (λ (s : Space). record s { bytes = with_word s.bytes (c.args.place + done) width 0 }) c.loop-done.invariant.cleared
          ∙ ap (λ (bytes : List ℕ). record old { bytes = bytes }) (cleared_more old.bytes c.args.place done width (omega (arith, c.min-width.ensures)));
      some = omega (arith, c.min-width.ensures);
    }
