use Rattle.std.proofs.Common.{sym, ap, subst, ◌∙◌}
use Rattle.c_typed.specs.Table.{type_in}
use Rattle.c_typed.specs.Views.{values_in, value_in, ValueStands}
use Rattle.c_typed.proofs.TypedStays.{value_in-library_call, ValueStands-library_call}
use Rattle.c_rules.specs.Operators.{call_of}
use Rattle.c_types_state.specs.Finding.{typed_in}
use Rattle.c_types_expressions.proofs.calls.call_value.Goals as goal

pub returns-in_ok-new-in-Library-clause-stands : goal.returns-in_ok-new-in-Library-clause-stands
returns-in_ok-new-in-Library-clause-stands c = λ table called its items.
    subst (ValueStands table) (sym c.in_ok-new-in-Library.ensures.ok) (ValueStands-library_call table c.args.values c.in-Library.function c.in-Library.groups c.args.whole items)

pub returns-in_ok-new-in-Library-clause-call : goal.returns-in_ok-new-in-Library-clause-call
returns-in_ok-new-in-Library-clause-call c = λ table.
    ap (value_in table) c.in_ok-new-in-Library.ensures.ok
    ∙ value_in-library_call table c.args.values c.in-Library.function c.in-Library.groups c.args.whole
    ∙ sym (ap (λ called. call_of c.args.whole c.args.is_array (typed_in table called) (type_in table c.args.c_type) (values_in table c.args.values.items)) c.in-Library.is)
