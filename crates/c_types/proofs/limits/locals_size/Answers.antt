use Rattle.std.proofs.Common.{List, map, refl, arith}
use Rattle.c_typed.specs.Table.{structs_in}
use Rattle.c_typed.specs.Layouts.{layouts}
use Rattle.c_typed.specs.StatementViews.{local_in}
use Rattle.c_typed.specs.declared.statement.LocalDef.{LocalDef}
use Rattle.c_types.specs.Limits.{locals_size}
use Rattle.c_types.proofs.Totals.{locals_size-before, whole_at-end}
use Rattle.c_types.proofs.limits.locals_size.Goals as goal

pub loop-local-init : goal.loop-local-init
loop-local-init c =
    let table = c.args.types.now in
    record { stand = c.requires; fits = omega arith; whole = locals_size-before (layouts (structs_in table)) (map (local_in table) c.args.locals.now) }

pub returns : goal.returns
returns c =
    let table = c.args.types.now in
    whole_at-end (λ (list : List LocalDef). locals_size (layouts (structs_in table)) (map (local_in table) list)) c.args.locals.now c.loop-local.local-index c.loop-local.size (omega arith) refl (omega arith) c.loop-local.invariant.whole
