use Rattle.std.proofs.Common.{Some, None, refl, sym, ap, subst, ◌∙◌}
use Rattle.c_typed.specs.Table.{structs_in}
use Rattle.ref_meaning.specs.Fitting.{AllEnd}
use Rattle.ref_meaning.proofs.Fitting.{first_stands, void_ends, whole_fits}
use Rattle.c_typed.specs.DefinitionViews.{program_of}
use Rattle.c_typed.proofs.Grown.{void_stands}
use Rattle.ref_semantics.specs.Values.{whole_row, first_of_row}
use Rattle.ref_meaning.specs.RefStore.Views.{name_of, place_in}
use Rattle.ref_meaning.specs.Beginning.{unfilled_objects}
use Rattle.ref_meaning.proofs.FirstObjects.{row_of_static}
use Rattle.ref_meaning.proofs.FirstStore.{looked, found_row, missing_row}
use Rattle.ref_meaning.proofs.store.Store.root.Goals as goal

pub returns-in-Some-clause-means : goal.returns-in-Some-clause-means
returns-in-Some-clause-means c =
    let table = c.args.self.now.types.now in
    let name = c.args.name in
    let content = unfilled_objects (program_of c.args.program.now) (name_of name) in
    let memory = c.in-Some.content.now in
    let is = looked table c.args.self.now.objects name (Some memory) content c.in-Some.ensures.value (c.requires.objects name) in
    ap (place_in table) c.first.ensures ∙ ap (first_of_row (name_of name)) (c.row.ensures.means table content is ∙ (found_row table memory content is ∙ row_of_static (program_of c.args.program.now) (name_of name)))

pub returns-in-Some-clause-stands : goal.returns-in-Some-clause-stands
returns-in-Some-clause-stands c =
    let table = c.args.self.now.types.now in
    let name = c.args.name in
    let content = unfilled_objects (program_of c.args.program.now) (name_of name) in
    let is = looked table c.args.self.now.objects name (Some c.in-Some.content.now) content c.in-Some.ensures.value (c.requires.objects name) in
    first_stands table c.first.result name c.row.result c.first.ensures (c.row.ensures.stands table content is) (c.row.ensures.fits table content is).0

pub returns-in-None-clause-means : goal.returns-in-None-clause-means
returns-in-None-clause-means c =
    let table = c.args.self.now.types.now in
    let name = c.args.name in
    let content = unfilled_objects (program_of c.args.program.now) (name_of name) in
    let is = looked table c.args.self.now.objects name None content c.in-None.ensures.value (c.requires.objects name) in
    ap (place_in table) c.first-in-None.ensures ∙ ap (first_of_row (name_of name)) (missing_row table content is ∙ row_of_static (program_of c.args.program.now) (name_of name))

pub returns-in-None-clause-stands : goal.returns-in-None-clause-stands
returns-in-None-clause-stands c =
    let table = c.args.self.now.types.now in
    let stands = void_stands table (record { 0 = 0 }) refl in
    let all = subst (λ t. AllEnd (structs_in table) (whole_row t 1)) (sym stands.1) (void_ends (structs_in table) 1) in
    first_stands table c.first-in-None.result c.args.name (record { start = 0; c_type = record { 0 = 0 }; count = 1 }) c.first-in-None.ensures stands.0
    (whole_fits table (record { 0 = 0 }) 1 (stands.0, all, all))
