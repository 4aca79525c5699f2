use Rattle.c_lexer.proofs.Dividing.{decided}
use Rattle.c_lexer.proofs.laws.texts_divide_or_have_a_fault.Goals as goal

pub returns : goal.returns
returns c = λ text. decided text
