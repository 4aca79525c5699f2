use Rattle.std.proofs.Common.{◌≡◌, ap, sym, subst, ◌∙◌}
use Rattle.c_typed.specs.DefinitionViews.{program_of, static_of}
use Rattle.ref_semantics.specs.Values.{object_place}
use Rattle.ref_semantics.specs.First.{around_of, name_of, static_type, walked}
use Rattle.ref_meaning.specs.RefStore.Views.{place_in}
use Rattle.ref_meaning.specs.Firsts.{StepsLead}
use Rattle.ref_meaning.proofs.Ways.{steps_same}
use Rattle.ref_meaning.proofs.store.Store.first_place.Goals as goal

pub walked-requires-clause-leads : goal.walked-requires-clause-leads
walked-requires-clause-leads c = λ around same.
    let program = program_of c.args.program.now in
    subst (λ p. StepsLead around p c.args.parts.now c.args.index) (sym (c.root-place.ensures.means ∙ ap (λ name. object_place name (static_type program name)) c.static_name.ensures))
    (steps_same (around_of program) around (c.requires.unfilled.structs ∙ sym same) _ c.args.parts.now c.args.index c.requires.leads)

pub returns-clause-means : goal.returns-clause-means
returns-clause-means c =
    let table = c.args.self.now.types.now in
    let program = program_of c.args.program.now in
    let root : place_in table c.root-place.result ≡ object_place (name_of (static_of c.args.root.now)) (static_type program (name_of (static_of c.args.root.now))) =
    c.root-place.ensures.means ∙ ap (λ name. object_place name (static_type program name)) c.static_name.ensures in
    c.walked.ensures.found (around_of program) c.requires.unfilled.structs ∙ ap (λ p. walked (around_of program) p c.args.parts.now c.args.index) root
