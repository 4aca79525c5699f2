use Rattle.std.proofs.Common.{List, map, refl, arith}
use Rattle.c_typed.specs.Table.{structs_in, type_in}
use Rattle.c_typed.specs.Layouts.{layouts}
use Rattle.c_typed.specs.declared.c_type.CType.{CType}
use Rattle.c_types.specs.Limits.{types_size}
use Rattle.c_types.proofs.Totals.{types_size-before, whole_at-end}
use Rattle.c_types.proofs.limits.types_size.Goals as goal

pub loop-c_type-init : goal.loop-c_type-init
loop-c_type-init c =
    let table = c.args.types.now in
    record { stand = c.requires; fits = omega arith; whole = types_size-before (layouts (structs_in table)) (map (type_in table) c.args.list.now) }

pub returns : goal.returns
returns c =
    let table = c.args.types.now in
    whole_at-end (λ (list : List CType). types_size (layouts (structs_in table)) (map (type_in table) list)) c.args.list.now c.loop-c_type.c_type-index c.loop-c_type.size (omega arith) refl (omega arith) c.loop-c_type.invariant.whole
