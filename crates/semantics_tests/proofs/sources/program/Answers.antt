use Rattle.std.proofs.Common.{List, map, is_some, sym, ap, subst, ◌∙◌}
use Rattle.c_grammar.specs.declared.token.Token.{Token}
use Rattle.c_grammar.specs.Leaves.{leaves_of}
use Rattle.c_syntax.specs.Views.{program_tree}
use Rattle.c_reader.specs.ProgramReadings.{IsProgram}
use Rattle.c_typed.specs.DefinitionViews.{program_of}
use Rattle.c_types_expressions.specs.Passes.{named_type}
use Rattle.accepted_programs.proofs.Premises.{Premises, accepted_premises}
use Rattle.semantics_tests.proofs.sources.program.Goals as goal

premises : (c : goal.After-drop-tokens-2) → Premises (program_of c.in-Ok-check.typed.program)
premises c =
    let program = program_tree c.in-Ok-read.program in
    let made = c.in-Ok-check.typed.program in
    let spelled = subst (λ (tokens : List Token). IsProgram (leaves_of tokens) program) c.deref.ensures.value c.in-Ok-read.ensures.found in
    let listed = ap (map (named_type made.types)) c.as_slice.ensures.value ∙ c.in-Ok-check.ensures.named in
    let within = ap is_some (sym c.check_limits.ensures) ∙ (sym c.is_some.ensures ∙ c.if-is_some.false) in
    accepted_premises c.as_bytes.result.now (leaves_of c.in-Ok.tokens.items) program (program_of made) (map (named_type made.types) c.as_slice.result.now) c.in-Ok.ensures.found spelled
    c.in-Ok-check.ensures.accepted c.in-Ok-check.ensures.typed listed within

pub returns-clause-well_typed : goal.returns-clause-well_typed
returns-clause-well_typed c = (premises c).well_typed

pub returns-clause-storable : goal.returns-clause-storable
returns-clause-storable c = (premises c).storable
