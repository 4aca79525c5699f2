use Rattle.std.proofs.Common.{◌∙◌, codes}
use Rattle.clap.specs.Words.{found_of}
use Rattle.pcc_words.proofs.FoundLine.{given_row}
use Rattle.pcc_words.proofs.matches.one_pool_in.Goals as goal

pub returns : goal.returns
returns c = c.contains_id.ensures ∙ given_row (found_of c.args.found.now) (codes "one-pool")
