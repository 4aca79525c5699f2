use Rattle.std.proofs.Common.{subst}
use Rattle.tac_build.specs.Numbers.{NumbersFunctions, NumbersGlobals, NumbersLiterals}
use Rattle.tac_build.proofs.names.Names.of_program.Goals as goal

pub returns-clause-functions : goal.returns-clause-functions
returns-clause-functions c = subst (NumbersFunctions c.in_ok-functions.functions 0) c.as_slice.ensures.value c.in_ok-functions.ensures

pub returns-clause-globals : goal.returns-clause-globals
returns-clause-globals c = subst (NumbersGlobals c.in_ok-globals.globals 0) c.as_slice-2.ensures.value c.in_ok-globals.ensures

pub returns-clause-literals : goal.returns-clause-literals
returns-clause-literals c = subst (NumbersLiterals c.in_ok-literals.literals 0) c.as_slice-3.ensures.value c.in_ok-literals.ensures
