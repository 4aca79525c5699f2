use Rattle.std.proofs.Common.{true}
use Rattle.run_theory.specs.Places.{first_place}
use Rattle.c_lexer.proofs.Dividing.{one_division}
use Rattle.c_lexer.proofs.laws.texts_divide_in_one_way.Goals as goal

pub returns : goal.returns
returns c = λ text leaves leaves' one other. one_division true first_place text leaves leaves' one other
