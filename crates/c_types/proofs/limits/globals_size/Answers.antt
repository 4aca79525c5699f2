use Rattle.std.proofs.Common.{List, map, refl, arith}
use Rattle.c_typed.specs.Table.{structs_in}
use Rattle.c_typed.specs.Layouts.{layouts}
use Rattle.c_typed.specs.DefinitionViews.{global_in}
use Rattle.c_typed.specs.declared.definition.GlobalDef.{GlobalDef}
use Rattle.c_types.specs.Limits.{globals_size}
use Rattle.c_types.proofs.Totals.{globals_size-before, whole_at-end}
use Rattle.c_types.proofs.limits.globals_size.Goals as goal

pub loop-global-init : goal.loop-global-init
loop-global-init c =
    let table = c.args.types.now in
    record { stand = c.requires; fits = omega arith; whole = globals_size-before (layouts (structs_in table)) (map (global_in table) c.args.globals.now) }

pub returns : goal.returns
returns c =
    let table = c.args.types.now in
    whole_at-end (λ (list : List GlobalDef). globals_size (layouts (structs_in table)) (map (global_in table) list)) c.args.globals.now c.loop-global.global-index c.loop-global.size (omega arith) refl (omega arith) c.loop-global.invariant.whole
