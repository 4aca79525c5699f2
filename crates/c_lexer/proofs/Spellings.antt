-- The tables of the code are those of the specification.
use Rattle.std.proofs.Common.{◌≡◌, map, refl}
use Rattle.c_lexer.specs.declared.tables.TheConstants.{WORDS, PUNCTUATORS}
use Rattle.c_lexer.specs.Tables.{words, punctuators}

pub words_alike : map (λ row. (row.0.now, row.1)) WORDS ≡ words
unfolding words
words_alike = refl

pub punctuators_alike : map (λ row. (row.0.now, row.1)) PUNCTUATORS ≡ punctuators
unfolding punctuators
punctuators_alike = refl
