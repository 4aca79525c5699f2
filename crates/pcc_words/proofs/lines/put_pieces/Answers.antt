use Rattle.std.proofs.Common.{◌+◌, drop, refl, ◌∙◌}
use Rattle.pcc_words.specs.Said.{line_of}
use Rattle.pcc_words.proofs.Pieces.{AddsBefore-start, AddsBefore-piece, AddsBefore-at, AddsBefore-end, Puts-failed, Puts-last}
use Rattle.pcc_words.proofs.lines.put_pieces.Goals as goal

pub loop-piece-init : goal.loop-piece-init
loop-piece-init g c = record { before = AddsBefore-start _ _; faultless = refl }

pub returns-in_err-write_all-clause-puts : goal.returns-in_err-write_all-clause-puts
returns-in_err-write_all-clause-puts g c =
    Puts-failed c.from_residual.result _ _ _ _ c.as_bytes.result.now (line_of (drop (c.loop-piece.piece-index + 1) c.args.pieces.now)) _ _ _ c.from_residual.ensures.0
    (AddsBefore-at _ _ _ c.args.pieces.now c.loop-piece.piece-index _ _ c.loop-piece-test.true c.as_bytes.ensures.value c.loop-piece.invariant.before)
    c.in_err-write_all.ensures.part c.loop-piece.invariant.faultless c.in_err-write_all.ensures.fault

pub loop-piece-preserved : goal.loop-piece-preserved
loop-piece-preserved g c = record {
  before = AddsBefore-piece _ _ _ _ c.as_bytes.result.now (line_of (drop (c.loop-piece.piece-index + 1) c.args.pieces.now))
      (AddsBefore-at _ _ _ c.args.pieces.now c.loop-piece.piece-index _ _ c.loop-piece-test.true c.as_bytes.ensures.value c.loop-piece.invariant.before) c.in_ok-write_all.ensures.all;
  faultless = c.in_ok-write_all.ensures.faultless ∙ c.loop-piece.invariant.faultless;
}

pub returns-clause-puts : goal.returns-clause-puts
returns-clause-puts g c =
    Puts-last c.write_all-2.result _ _ _ _ _ _ _ _ (AddsBefore-end _ _ _ c.args.pieces.now c.loop-piece.piece-index c.loop-piece-test.false c.loop-piece.invariant.before)
    c.loop-piece.invariant.faultless c.write_all-2.ensures.all c.write_all-2.ensures.part c.write_all-2.ensures.fault c.write_all-2.ensures.faultless
