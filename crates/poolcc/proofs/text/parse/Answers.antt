use Rattle.std.proofs.Common.{Err, sym, ap, ◌∙◌, subst}
use Rattle.run_theory.specs.Places.{first_place}
use Rattle.c_grammar.specs.Leaves.{leaves_of}
use Rattle.c_lexer.specs.Tokens.{Divides}
use Rattle.c_syntax.specs.Views.{program_tree}
use Rattle.c_reader.specs.ProgramReadings.{Refuses, IsReadUnlessMemory}
use Rattle.poolcc.proofs.Reading.{reads_as, unread}
use Rattle.poolcc.proofs.text.parse.Goals as goal

pub returns-in-Ok-read-clause-found : goal.returns-in-Ok-read-clause-found
returns-in-Ok-read-clause-found c =
    let same = ap leaves_of c.deref.ensures.value in
    let divides = subst (Divides first_place c.args.text.now) (sym same) c.in-Ok.ensures.found in
    reads_as c.args.text.now (leaves_of c.deref.result.now) divides (λ leaves other. same ∙ c.in-Ok.ensures.only leaves other) (program_tree c.in-Ok-read.program) c.in-Ok-read.ensures.found c.in-Ok-read.ensures.only

pub returns-in-Err-At-clause-stop : goal.returns-in-Err-At-clause-stop
returns-in-Err-At-clause-stop c =
    let same = ap leaves_of c.deref.ensures.value in
    let divides = subst (Divides first_place c.args.text.now) (sym same) c.in-Ok.ensures.found in
    record {
      leaves = leaves_of c.deref.result.now;
      divides = divides;
      misplaced = subst (Refuses (leaves_of c.deref.result.now)) c.in-Err-At.field-0-is c.in-Err-At.ensures.refused;
      unread = unread c.args.text.now (leaves_of c.deref.result.now) divides (λ leaves other. same ∙ c.in-Ok.ensures.only leaves other) (λ program is. subst (λ e. IsReadUnlessMemory (Err e) program) c.in-Err-At.field-0-is (c.in-Err-At.ensures.only program is));
    }

pub returns-in-Err-TooDeep-clause-stop : goal.returns-in-Err-TooDeep-clause-stop
returns-in-Err-TooDeep-clause-stop c =
    let same = ap leaves_of c.deref.ensures.value in
    let divides = subst (Divides first_place c.args.text.now) (sym same) c.in-Ok.ensures.found in
    record {
      leaves = leaves_of c.deref.result.now;
      divides = divides;
      misplaced = subst (Refuses (leaves_of c.deref.result.now)) c.in-Err-TooDeep.field-0-is c.in-Err-TooDeep.ensures.refused;
      unread = unread c.args.text.now (leaves_of c.deref.result.now) divides (λ leaves other. same ∙ c.in-Ok.ensures.only leaves other) (λ program is. subst (λ e. IsReadUnlessMemory (Err e) program) c.in-Err-TooDeep.field-0-is (c.in-Err-TooDeep.ensures.only program is));
    }
