use Rattle.std.proofs.Common.{None, Some}
use Rattle.ref_meaning.specs.RefStore.Views.{name_of}
use Rattle.ref_meaning.proofs.Found.{found_is, no_row_found, comes-named}
use Rattle.ref_meaning.proofs.Scalars.{nothing, void_stands, nothing_means}
use Rattle.ref_meaning.proofs.Fitting.{first_stands, first_element, nothing_row_fits, nothing_row_room}
use Rattle.ref_meaning.proofs.store.Store.named.Goals as goal

pub returns-in-Some-clause-gives : goal.returns-in-Some-clause-gives
returns-in-Some-clause-gives c = λ around base state at.
    let table = c.args.self.now.types.now in
    let content = state.objects (name_of c.args.name) in
    comes-named around c.args.self.now base state c.args.name c.first.result c.row.result c.first.ensures
    (c.row.ensures.means table content (found_is table c.args.self.now.objects c.args.name (Some c.in-Some.content.now) content c.in-Some.ensures.value (at.objects c.args.name))) at

pub returns-in-Some-clause-stands : goal.returns-in-Some-clause-stands
returns-in-Some-clause-stands c = λ around base state at.
    let table = c.args.self.now.types.now in
    let content = state.objects (name_of c.args.name) in
    let is = found_is table c.args.self.now.objects c.args.name (Some c.in-Some.content.now) content c.in-Some.ensures.value (at.objects c.args.name) in
    first_stands table c.first.result c.args.name c.row.result c.first.ensures (c.row.ensures.stands table content is) (c.row.ensures.fits table content is).0

pub returns-in-Some-clause-element : goal.returns-in-Some-clause-element
returns-in-Some-clause-element c = λ around base state at.
    let table = c.args.self.now.types.now in
    let content = state.objects (name_of c.args.name) in
    let is = found_is table c.args.self.now.objects c.args.name (Some c.in-Some.content.now) content c.in-Some.ensures.value (at.objects c.args.name) in
    first_element table c.first.result c.args.name c.row.result c.first.ensures (c.row.ensures.fits table content is).1

pub returns-in-None-clause-gives : goal.returns-in-None-clause-gives
returns-in-None-clause-gives c = λ around base state at.
    let table = c.args.self.now.types.now in
    let content = state.objects (name_of c.args.name) in
    comes-named around c.args.self.now base state c.args.name c.first-in-None.result nothing c.first-in-None.ensures
    (no_row_found table content (found_is table c.args.self.now.objects c.args.name None content c.in-None.ensures.value (at.objects c.args.name))) at

pub returns-in-None-clause-stands : goal.returns-in-None-clause-stands
returns-in-None-clause-stands c = λ around base state at.
    let table = c.args.self.now.types.now in
    first_stands table c.first-in-None.result c.args.name nothing c.first-in-None.ensures (void_stands table) (nothing_row_fits table nothing (nothing_means table))

pub returns-in-None-clause-element : goal.returns-in-None-clause-element
returns-in-None-clause-element c = λ around base state at.
    let table = c.args.self.now.types.now in
    first_element table c.first-in-None.result c.args.name nothing c.first-in-None.ensures (nothing_row_room table nothing (nothing_means table))
