use Rattle.c_types_state.proofs.ReadValues.{finds-read}
use Rattle.c_types_state.proofs.values.read.Goals as goal

pub returns : goal.returns
returns c =
    finds-read c.args.checker.now c.decayed.new.checker c.args.place c.args.known c.in_ok-decayed.field-0 c.is_array-is_array.result c.in_ok-value_from.field-0 c.in_ok-address.address
    c.requires c.in_ok-decayed.ensures c.is_array-is_array.ensures c.in_ok-value_from.ensures.stands c.in_ok-value_from.ensures.value c.in_ok-address.ensures.stands c.in_ok-address.ensures.value
