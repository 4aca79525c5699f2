use Rattle.ref_meaning.proofs.Arguments.{there-is, none-is}
use Rattle.ref_meaning.proofs.Numbered.{found-there, argument-stands}
use Rattle.ref_meaning.proofs.call.numbered.Goals as goal

pub returns-in-Some-clause-is : goal.returns-in-Some-clause-is
returns-in-Some-clause-is c = λ table. there-is table c.args.arguments.now c.args.number c.in-Some.argument c.in-Some.ensures.lookup

pub returns-in-Some-clause-stands : goal.returns-in-Some-clause-stands
returns-in-Some-clause-stands c = λ table stands.
    argument-stands table c.args.arguments.now c.args.number c.in-Some.argument.now (found-there c.args.arguments.now c.args.number c.in-Some.argument c.in-Some.ensures.lookup) stands

pub returns-in-None-clause-is : goal.returns-in-None-clause-is
returns-in-None-clause-is c = λ table. none-is table c.args.arguments.now c.args.number c.in-None.ensures.lookup
