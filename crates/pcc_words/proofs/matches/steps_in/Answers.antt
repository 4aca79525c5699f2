use Rattle.std.proofs.Common.{◌∙◌, ℕ, Option, ap, codes, List}
use Rattle.std.specs.Option.{option_map_or}
use Rattle.std.specs.Str.Parse.{ParsesUnsigned, ExplainsUnsignedError, HasUnsignedDigitsIfOk}
use Rattle.clap.specs.Words.{found_of, one_text}
use Rattle.clap.proofs.WalkLemmas.{one_text-rows}
use Rattle.pcc_words.specs.Found.{number_or}
use Rattle.pcc_words.proofs.NumberReads.{number_read}
use Rattle.pcc_words.proofs.matches.steps_in.Goals as goal

pub returns : goal.returns
returns c =
    let found = found_of c.args.found.now in
    c.unwrap_or.ensures
    ∙ number_read _ (λ bs r. ParsesUnsigned 64 10 bs r × ExplainsUnsignedError 10 bs r × HasUnsignedDigitsIfOk bs r) 64 1000000000 (λ t x g. g.0)
    (one_text found (codes "steps")) c.get_one.result c.get_one.ensures.none c.get_one.ensures.value
    ∙ ap (λ (o : Option (List ℕ)). option_map_or (number_or 64 1000000000) o 1000000000) (one_text-rows found (codes "steps"))
