use Rattle.std.proofs.Common.{IfOk, sym, subst}
use Rattle.c_typed.specs.declared.typed.LibraryFunction.TheVariants as F
use Rattle.tac_build.specs.Building.{lowered_in, LibraryTakes, LibraryGives, Lowers}
use Rattle.tac_build.proofs.Points.{if_ok}
use Rattle.tac_build.proofs.Calling.{exit_gives}
use Rattle.tac_build.proofs.builder.Builder.library.Goals as goal

pub allocate-requires : goal.allocate-requires
allocate-requires c = subst (λ function. LibraryTakes function c.args.argument) c.in-Malloc.is c.requires

pub release-requires : goal.release-requires
release-requires c = subst (λ function. LibraryTakes function c.args.argument) c.in-Free.is c.requires

pub put_char-requires : goal.put_char-requires
put_char-requires c = subst (λ function. LibraryTakes function c.args.argument) c.in-PutChar.is c.requires

pub exit-requires : goal.exit-requires
exit-requires c = subst (λ function. LibraryTakes function c.args.argument) c.in-Exit.is c.requires

pub unreachable-requires : goal.unreachable-requires
unreachable-requires c = subst (λ function. LibraryTakes function c.args.argument) c.in-GetChar.is c.requires

pub returns-in-Malloc-clause-code : goal.returns-in-Malloc-clause-code
returns-in-Malloc-clause-code c =
    subst (λ function. IfOk c.allocate.result (Lowers (λ table points. LibraryGives function c.args.site points (lowered_in table c.args.argument)) c.args.self.now c.allocate.new.self)) (sym c.in-Malloc.is) c.allocate.ensures.code

pub returns-in-Free-clause-code : goal.returns-in-Free-clause-code
returns-in-Free-clause-code c =
    subst (λ function. IfOk c.release.result (Lowers (λ table points. LibraryGives function c.args.site points (lowered_in table c.args.argument)) c.args.self.now c.release.new.self)) (sym c.in-Free.is) c.release.ensures.code

pub returns-in-PutChar-clause-code : goal.returns-in-PutChar-clause-code
returns-in-PutChar-clause-code c =
    subst (λ function. IfOk c.put_char.result (Lowers (λ table points. LibraryGives function c.args.site points (lowered_in table c.args.argument)) c.args.self.now c.put_char.new.self)) (sym c.in-PutChar.is) c.put_char.ensures.code

pub returns-in-Exit-clause-code : goal.returns-in-Exit-clause-code
returns-in-Exit-clause-code c =
    subst (λ function. IfOk c.exit.result (Lowers (λ table points. LibraryGives function c.args.site points (lowered_in table c.args.argument)) c.args.self.now c.exit.new.self)) (sym c.in-Exit.is)
    (if_ok _ _ c.exit.result (λ lowered told table points fills. exit_gives c.args.site points (lowered_in table c.args.argument) _ _ (lowered_in table lowered) (told table points fills)) c.exit.ensures.code)
