-- The rows that are chosen make trees, and what is begun can be completed.
use Rattle.std.proofs.Common.{◌≡◌, refl, arith}
use Rattle.c_grammar.specs.Laws.{Completes}
use Rattle.c_grammar.specs.declared.kind.Kind.{Kind}
use Rattle.c_grammar.specs.Forms
use Rattle.c_grammar.specs.Language.{language}
use Rattle.c_grammar.proofs.LanguageBounds.{good_at}
use Rattle.c_grammar.proofs.LanguageLeast.{orderly, same_needs, next_at, token_free, sample_fits, least_is_part, free_at, least_is_low}
use Rattle.c_grammar.proofs.LanguageClosed.{closed}
use Rattle.c_grammar.proofs.LanguageBegun.{least_bars, begun, begun_two}

module _ {Leaf : Type 0} (kind_of : Leaf → Kind) (sample : Kind → Leaf) (real : (kind : Kind) → kind_of (sample kind) ≡ kind) where
  pub completes : Completes (language kind_of sample)
  completes = record {
    row = λ sort level text form first second chosen.
        let at = good_at kind_of sample sort level text form first second chosen in
        let same = same_needs kind_of sample (Forms.symbols_of form) in
        record { own_sort = at.good.own_sort; own_row = at.good.own_row; own_left = at.good.own_left; own_level = at.good.own_level; enough = omega (arith, same, at.good.enough) };
    next = next_at kind_of sample;
    closed = closed kind_of sample;
    orderly = orderly kind_of sample;
    sample_fits = sample_fits kind_of sample real;
    sample_free = λ kind tree plain. token_free kind_of sample real kind tree plain;
    least_spelled = least_is_part kind_of sample real;
    least_height = least_is_low kind_of sample real;
    least_bars = least_bars kind_of sample real;
    least_free = free_at kind_of sample real;
    no_text = λ sort level. refl;
    begun = begun kind_of sample real;
    begun_two = begun_two kind_of sample real;
  }
