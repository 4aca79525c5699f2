use Rattle.std.proofs.Common.{map, reverse, sym, ap}
use Rattle.image_form.specs.Form.{code_of, form_of, function_of}
use Rattle.machine.specs.Heaps.{heap_of}
use Rattle.machine.proofs.Performing.{performs_from_alone}
use Rattle.machine.proofs.calls.Calls.perform_inside.Goals as goal

pub returns-in-Load : goal.returns-in-Load
returns-in-Load c = λ function h. rw c.in-Load.is (c.load.ensures (code_of (form_of c.args.image.now)) function)

pub returns-in-Store : goal.returns-in-Store
returns-in-Store c = λ function h. rw c.in-Store.is (c.store.ensures (code_of (form_of c.args.image.now)) function)

pub returns-in-LoadLink : goal.returns-in-LoadLink
returns-in-LoadLink c = λ function h. rw c.in-LoadLink.is (c.load_link.ensures (code_of (form_of c.args.image.now)) function)

pub returns-in-StoreLink : goal.returns-in-StoreLink
returns-in-StoreLink c = λ function h. rw c.in-StoreLink.is (c.store_link.ensures (code_of (form_of c.args.image.now)) function)

pub returns-in-Call : goal.returns-in-Call
returns-in-Call c = λ function h. rw c.in-Call.is (c.call.ensures (code_of (form_of c.args.image.now)) function (heap_of c.args.heap.now) (ap (map function_of) (sym c.deref.ensures.value)))

pub returns-in-CallIndirect : goal.returns-in-CallIndirect
returns-in-CallIndirect c = λ function h. rw c.in-CallIndirect.is (c.call_indirect.ensures (code_of (form_of c.args.image.now)) function (heap_of c.args.heap.now) (ap (map function_of) (sym c.deref-in-CallIndirect.ensures.value)))

pub returns-in-Return : goal.returns-in-Return
returns-in-Return c = λ function h. rw c.in-Return.is (c.finish.ensures (code_of (form_of c.args.image.now)) function (heap_of c.args.heap.now))

pub returns-in-ReturnValue : goal.returns-in-ReturnValue
returns-in-ReturnValue c = λ function h. rw c.in-ReturnValue.is (c.finish_with_value.ensures (code_of (form_of c.args.image.now)) function (heap_of c.args.heap.now) (ap (map function_of) (sym c.deref-in-ReturnValue.ensures.value)))

pub returns-in_default : goal.returns-in_default
returns-in_default c = λ function h.
    rw (← c.self.view_is)
    (performs_from_alone (code_of (form_of c.args.image.now)) function c.args.instr c.self.inside.innermost c.perform_alone.new.self (reverse c.self.inside.callers.items) (heap_of c.args.heap.now) c.perform_alone.result (c.perform_alone.ensures.performs function h))
