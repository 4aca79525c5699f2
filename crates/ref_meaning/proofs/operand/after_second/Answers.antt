use Rattle.std.proofs.Common.{sym, subst}
use Rattle.ref_semantics.specs.Parts.{both_of}
use Rattle.ref_meaning.specs.RefStore.Views.{scalar_in}
use Rattle.ref_meaning.specs.RefStore.Holding.{CallGives}
use Rattle.ref_meaning.specs.Views.{part_in}
use Rattle.ref_meaning.proofs.operand.after_second.Goals as goal

pub returns-in-Value-clause-gives : goal.returns-in-Value-clause-gives
returns-in-Value-clause-gives c = λ around base.
    let store = c.args.store.now in
    let table = store.types.now in
    let a = scalar_in table c.args.first in
    let b = scalar_in table c.args.second in
    subst (λ node. CallGives around store c.after_value.new.store base (scalar_in table) (both_of around (part_in table node) a b) c.after_value.result) (sym c.in-Value.is) (c.after_value.ensures.gives around base)

pub returns-in-Object-clause-gives : goal.returns-in-Object-clause-gives
returns-in-Object-clause-gives c = λ around base.
    let store = c.args.store.now in
    let table = store.types.now in
    let a = scalar_in table c.args.first in
    let b = scalar_in table c.args.second in
    subst (λ node. CallGives around store store base (scalar_in table) (both_of around (part_in table node) a b) c.after_object.result) (sym c.in-Object.is) (c.after_object.ensures.gives around base)

pub returns-in-Address-clause-gives : goal.returns-in-Address-clause-gives
returns-in-Address-clause-gives c = λ around base.
    let store = c.args.store.now in
    let table = store.types.now in
    let a = scalar_in table c.args.first in
    let b = scalar_in table c.args.second in
    subst (λ node. CallGives around store store base (scalar_in table) (both_of around (part_in table node) a b) c.after_address.result) (sym c.in-Address.is) (c.after_address.ensures.gives around base)
