use Rattle.std.proofs.Common.{codes, refl}
use Rattle.pcc_words.specs.Said.{line_of}
use Rattle.pcc_words.proofs.Pieces.{AddsBefore-start, AddsBefore-piece, Puts-failed, Puts-behind}
use Rattle.pcc_words.proofs.lines.put_line.Goals as goal

pub returns-in_err-write_all-clause-puts : goal.returns-in_err-write_all-clause-puts
returns-in_err-write_all-clause-puts g c =
    Puts-failed c.from_residual.result _ _ _ _ (codes "poolcc: ") (line_of c.args.pieces.now) _ _ _ c.from_residual.ensures.0 (AddsBefore-start _ _) c.in_err-write_all.ensures.part refl c.in_err-write_all.ensures.fault

pub returns-clause-puts : goal.returns-clause-puts
returns-clause-puts g c =
    Puts-behind c.put_pieces.result _ _ _ _ _ _ _ _ (AddsBefore-piece _ _ _ _ (codes "poolcc: ") (line_of c.args.pieces.now) (AddsBefore-start _ _) c.in_ok-write_all.ensures.all)
    c.in_ok-write_all.ensures.faultless c.put_pieces.ensures.puts
