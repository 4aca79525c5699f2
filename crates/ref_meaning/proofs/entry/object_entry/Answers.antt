use Rattle.std.proofs.Common.{subst}
use Rattle.ref_meaning.specs.declared.value.Name.TheVariants as M
use Rattle.ref_meaning.proofs.Fitting.{literal_elements, first_stands, first_element, whole_fits, whole_room}
use Rattle.ref_meaning.specs.Trees.{ObjectFits}
use Rattle.ref_meaning.proofs.entry.object_entry.Goals as goal

pub returns-in-Literal-clause-stands : goal.returns-in-Literal-clause-stands
returns-in-Literal-clause-stands c = λ table node fits.
    let literal = c.in-Literal in
    let is = subst (ObjectFits table) literal.is fits in
    let stand = literal_elements table literal.c_type literal.bytes is.0 is.1 in
    first_stands table c.first.result (M.Text literal.place) (record { start = 0; c_type = literal.c_type; count = 1 }) c.first.ensures is.0 (whole_fits table literal.c_type 1 stand)

pub returns-in-Literal-clause-finds : goal.returns-in-Literal-clause-finds
returns-in-Literal-clause-finds c = λ table fits.
    let literal = c.in-Literal in
    let is = subst (ObjectFits table) literal.is fits in
    let stand = literal_elements table literal.c_type literal.bytes is.0 is.1 in
    first_element table c.first.result (M.Text literal.place) (record { start = 0; c_type = literal.c_type; count = 1 }) c.first.ensures (whole_room table literal.c_type 1 stand)
