use Rattle.pool_isa.proofs.Numbers.{number_grammar_lem}
use Rattle.pool_isa.proofs.laws.number_grammar.Goals as goal

pub returns : goal.returns
returns c = number_grammar_lem
