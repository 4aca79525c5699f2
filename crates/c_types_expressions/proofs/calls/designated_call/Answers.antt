use Rattle.std.proofs.Common.{true, sym, ap, subst, ◌∙◌}
use Rattle.c_typed.specs.Views.{value_in, ValueStands}
use Rattle.c_typed.proofs.TypedStays.{value_in-call, ValueStands-call}
use Rattle.c_types_expressions.proofs.calls.designated_call.Goals as goal

pub returns-clause-stands : goal.returns-clause-stands
returns-clause-stands c = λ table called its items.
    subst (ValueStands table) (sym c.in_ok-new.ensures.ok) (ValueStands-call table c.args.values true c.args.whole c.args.function c.args.c_type called its items)

pub returns-clause-call : goal.returns-clause-call
returns-clause-call c = λ table.
    ap (value_in table) c.in_ok-new.ensures.ok ∙ value_in-call table c.args.values true c.args.whole c.args.function c.args.c_type
