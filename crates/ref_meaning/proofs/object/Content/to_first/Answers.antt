use Rattle.std.proofs.Common.{Some, subst, ◌∙◌, ap}
use Rattle.ref_meaning.specs.declared.value.Name.TheVariants as N
use Rattle.ref_meaning.specs.RefStore.Holding.{ContentIs}
use Rattle.ref_meaning.proofs.Scalars.{elements_stand}
use Rattle.ref_meaning.proofs.Fitting.{whole_fits, first_stands}
use Rattle.ref_meaning.proofs.object.Content.to_first.Goals as goal

pub returns-in-Elements-clause-stands : goal.returns-in-Elements-clause-stands
returns-in-Elements-clause-stands c = λ table content is.
    let made = c.in-Elements.elements in
    let stand = elements_stand table content made (subst (λ memory. ContentIs table (Some memory) content) c.in-Elements.is is) in
    first_stands table c.first.result (N.Heap c.args.number) (record { start = 0; c_type = made.c_type; count = made.count })
    (c.first.ensures ∙ ap (λ r. record { name = N.Heap c.args.number; row = r; index = 0 }) c.row.ensures) stand.0 (whole_fits table made.c_type made.count stand)
