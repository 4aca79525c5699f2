use Rattle.std.proofs.Common.{List, map, is_some, sym, ap, subst, ◌∙◌}
use Rattle.c_grammar.specs.declared.token.Token.{Token}
use Rattle.c_grammar.specs.Leaves.{leaves_of}
use Rattle.c_syntax.specs.Views.{program_tree}
use Rattle.c_reader.specs.ProgramReadings.{IsProgram}
use Rattle.c_typed.specs.DefinitionViews.{program_of}
use Rattle.c_types_expressions.specs.Passes.{named_type}
use Rattle.accepted_programs.proofs.Premises.{Premises, accepted_premises}
use Rattle.ref_meaning_vectors.proofs.answer.Given as given
use Rattle.ref_meaning_vectors.proofs.answer.Goals as goal

premises : (g : given.Over) (c : goal.After-answer_program-arg-2-1 g) → Premises (program_of c.in-Ok-check.typed.program)
premises g c =
    let program = program_tree c.in-Ok-read.program in
    let made = c.in-Ok-check.typed.program in
    let spelled = subst (λ (tokens : List Token). IsProgram (leaves_of tokens) program) c.deref.ensures.value c.in-Ok-read.ensures.found in
    let listed = ap (map (named_type made.types)) c.as_slice.ensures.value ∙ c.in-Ok-check.ensures.named in
    let within = ap is_some (sym c.check_limits.ensures) ∙ (sym c.is_some.ensures ∙ c.if-is_some.false) in
    accepted_premises c.args.text.now (leaves_of c.in-Ok.tokens.items) program (program_of made) (map (named_type made.types) c.as_slice.result.now) c.in-Ok.ensures.found spelled
    c.in-Ok-check.ensures.accepted c.in-Ok-check.ensures.typed listed within

pub answer_program-requires-clause-well_typed : goal.answer_program-requires-clause-well_typed
answer_program-requires-clause-well_typed g c = (premises g c).well_typed

pub answer_program-requires-clause-storable : goal.answer_program-requires-clause-storable
answer_program-requires-clause-storable g c = (premises g c).storable
