use Rattle.std.proofs.Common.{inl, inr, refl, arith}
use Rattle.c_reader.proofs.WordRows.{no_words, one_word}
use Rattle.c_reader.proofs.words.pass_words.Goals as goal

pub loop-next-init : goal.loop-next-init
loop-next-init c = record { so_far = λ own room. no_words own room _ _; shorter = omega arith; passed = inl refl }

pub loop-next-preserved : goal.loop-next-preserved
loop-next-preserved c = record { so_far = λ own room. one_word (c.loop-next.invariant.so_far own room) c.in-Some.ensures.passes; shorter = omega (arith, c.loop-next.invariant.shorter, c.in-Some.ensures.shorter); passed = inr (omega (arith, c.loop-next.invariant.shorter, c.in-Some.ensures.shorter)) }
