use Rattle.std.proofs.Common.{Some, sym, subst}
use Rattle.c_typed.specs.Table.{Stands, structs_in}
use Rattle.ref_meaning.specs.Fitting.{Fits, HasRoom}
use Rattle.ref_meaning.specs.RefStore.Views.{row_in}
use Rattle.ref_meaning.specs.RefStore.Holding.{ContentIs}
use Rattle.ref_meaning.proofs.Scalars.{void_stands, raw_row, nothing_means, elements_stand}
use Rattle.ref_meaning.proofs.Fitting.{nothing_row_fits, nothing_row_room, whole_fits, whole_room}
use Rattle.ref_meaning.proofs.object.Content.row.Goals as goal

pub returns-in-Raw-clause-means : goal.returns-in-Raw-clause-means
returns-in-Raw-clause-means c = λ table content is. raw_row table content c.in-Raw.field-0 (subst (λ memory. ContentIs table (Some memory) content) c.in-Raw.is is)

pub returns-in-Raw-clause-stands : goal.returns-in-Raw-clause-stands
returns-in-Raw-clause-stands c = λ table content is. void_stands table

pub returns-in-Raw-clause-fits : goal.returns-in-Raw-clause-fits
returns-in-Raw-clause-fits c = λ table content is. (nothing_row_fits table _ (nothing_means table), nothing_row_room table _ (nothing_means table))

pub returns-in-Elements-clause-stands : goal.returns-in-Elements-clause-stands
returns-in-Elements-clause-stands c = λ table content is.
    let stand = elements_stand table content c.in-Elements.elements (subst (λ memory. ContentIs table (Some memory) content) c.in-Elements.is is) in
    subst (λ r. Stands table r.c_type) (sym c.row.ensures) stand.0

pub returns-in-Elements-clause-fits : goal.returns-in-Elements-clause-fits
returns-in-Elements-clause-fits c = λ table content is.
    let made = c.in-Elements.elements in
    let stand = elements_stand table content made (subst (λ memory. ContentIs table (Some memory) content) c.in-Elements.is is) in
    subst (λ r. Fits (structs_in table) (row_in table r) × HasRoom (structs_in table) (row_in table r) 0) (sym c.row.ensures) (whole_fits table made.c_type made.count stand, whole_room table made.c_type made.count stand)
