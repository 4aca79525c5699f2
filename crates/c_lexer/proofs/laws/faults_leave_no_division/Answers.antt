use Rattle.std.proofs.Common.{true}
use Rattle.run_theory.specs.Places.{first_place}
use Rattle.c_lexer.proofs.Dividing.{no_both}
use Rattle.c_lexer.proofs.laws.faults_leave_no_division.Goals as goal

pub returns : goal.returns
returns c = λ text error leaves fault division. no_both true first_place text error leaves fault division
