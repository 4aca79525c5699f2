use Rattle.std.proofs.Common.{◌≡◌, ◌∙◌, ℕ, Option, ap, codes, List}
use Rattle.std.specs.Option.{option_map_or}
use Rattle.std.specs.Str.Parse.{ParsesUnsigned, ExplainsUnsignedError, HasUnsignedDigitsIfOk}
use Rattle.clap.specs.Words.{found_of, one_text, rows_of}
use Rattle.clap.proofs.WalkLemmas.{one_text-rows}
use Rattle.pcc_words.specs.Line.{Limits, Slabs, Index}
use Rattle.pcc_words.specs.Found.{found_number, number_or}
use Rattle.pcc_words.proofs.NumberReads.{number_read}
use Rattle.pcc_words.proofs.matches.limits_in.Goals as goal

pub returns : goal.returns
returns c =
    let found = found_of c.args.found.now in
    let slabs : c.unwrap_or.result ≡ found_number 32 Slabs (rows_of found) = c.unwrap_or.ensures
    ∙ number_read _ (λ bs r. ParsesUnsigned 32 10 bs r × ExplainsUnsignedError 10 bs r × HasUnsignedDigitsIfOk bs r) 32 65536 (λ t x g. g.0)
    (one_text found (codes "slabs")) c.get_one.result c.get_one.ensures.none c.get_one.ensures.value
    ∙ ap (λ (o : Option (List ℕ)). option_map_or (number_or 32 65536) o 65536) (one_text-rows found (codes "slabs")) in
    let index : c.unwrap_or-2.result ≡ found_number 32 Index (rows_of found) = c.unwrap_or-2.ensures
    ∙ number_read _ (λ bs r. ParsesUnsigned 32 10 bs r × ExplainsUnsignedError 10 bs r × HasUnsignedDigitsIfOk bs r) 32 4294967295 (λ t x g. g.0)
    (one_text found (codes "index")) c.get_one-2.result c.get_one-2.ensures.none c.get_one-2.ensures.value
    ∙ ap (λ (o : Option (List ℕ)). option_map_or (number_or 32 4294967295) o 4294967295) (one_text-rows found (codes "index")) in
    let same : (a b x y : ℕ) → a ≡ x → b ≡ y → ◌≡◌ {A = Limits} (record { slabs = a; index = b }) (record { slabs = x; index = y })
    = λ a b x y e f i. record { slabs = e i; index = f i } in
    same _ _ _ _ slabs index
