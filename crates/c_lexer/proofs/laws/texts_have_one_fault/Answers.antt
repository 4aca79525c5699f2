use Rattle.std.proofs.Common.{true}
use Rattle.run_theory.specs.Places.{first_place}
use Rattle.c_lexer.proofs.Dividing.{one_fault}
use Rattle.c_lexer.proofs.laws.texts_have_one_fault.Goals as goal

pub returns : goal.returns
returns c = λ text error error' one other. one_fault true first_place text error error' one other
