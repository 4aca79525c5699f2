use Rattle.std.proofs.Common.{codes, decimal, ◌++◌, [], ◌∷◌, refl, ◌∙◌}
use Rattle.pcc_words.proofs.Pieces.{AddsBefore-start, AddsBefore-piece, Puts-failed, Puts-behind}
use Rattle.pcc_words.proofs.lines.put_pools.Goals as goal

pub returns-in_err-write_all-clause-puts : goal.returns-in_err-write_all-clause-puts
returns-in_err-write_all-clause-puts g c =
    Puts-failed c.from_residual.result _ _ _ _ (codes "poolcc: refused pools of ") (c.args.function.now ++ (32 ∷ (decimal c.args.pools ++ 10 ∷ []))) _ _ _ c.from_residual.ensures.0
    (AddsBefore-start _ _) c.in_err-write_all.ensures.part refl c.in_err-write_all.ensures.fault

pub returns-in_err-write_all-2-clause-puts : goal.returns-in_err-write_all-2-clause-puts
returns-in_err-write_all-2-clause-puts g c =
    Puts-failed c.from_residual-in_err-write_all-2.result _ _ _ _ c.args.function.now (32 ∷ (decimal c.args.pools ++ 10 ∷ [])) _ _ _ c.from_residual-in_err-write_all-2.ensures.0
    (AddsBefore-piece _ _ _ _ (codes "poolcc: refused pools of ") _ (AddsBefore-start _ _) c.in_ok-write_all.ensures.all)
    c.in_err-write_all-2.ensures.part c.in_ok-write_all.ensures.faultless c.in_err-write_all-2.ensures.fault

pub returns-clause-puts : goal.returns-clause-puts
returns-clause-puts g c =
    Puts-behind c.put_pieces.result _ _ _ _ _ _ _ _
    (AddsBefore-piece _ _ _ _ c.args.function.now (32 ∷ (decimal c.args.pools ++ 10 ∷ []))
    (AddsBefore-piece _ _ _ _ (codes "poolcc: refused pools of ") _ (AddsBefore-start _ _) c.in_ok-write_all.ensures.all) c.in_ok-write_all-2.ensures.all)
    (c.in_ok-write_all-2.ensures.faultless ∙ c.in_ok-write_all.ensures.faultless) (rw c.format-pools.ensures.text at c.put_pieces.ensures.puts)
