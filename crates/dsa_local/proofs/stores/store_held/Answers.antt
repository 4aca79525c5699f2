use Rattle.std.proofs.Common.{sym, subst}
use Rattle.c_typed.specs.DefinitionViews.{held_of}
use Rattle.tac_ir.specs.Views.{tac_of}
use Rattle.graph_unification.specs.Memory.{graph_in}
use Rattle.dsa_local.specs.Storing.{IsValueStored}
use Rattle.dsa_local.proofs.GoingOn.{written_kept}
use Rattle.dsa_local.proofs.Mentioning.{keeps_then}
use Rattle.dsa_local.proofs.Storing.{held_told, held_parts}
use Rattle.dsa_local.proofs.stores.store_held.Goals as goal

pub returns-clause-keeps : goal.returns-clause-keeps
returns-clause-keeps c =
    let tac = c.args.tac.now in
    keeps_then (tac_of tac) c.requires.code.made (graph_in tac.types c.args.graph.now) (graph_in tac.types c.write.new.graph) (graph_in tac.types c.store_value.new.graph) c.requires.graph.sound c.in_ok-write.ensures.keeps
    c.in_ok-store_value.ensures.keeps

pub returns-clause-stored : goal.returns-clause-stored
returns-clause-stored c =
    let tac = c.args.tac.now in
    let held = held_of c.args.held.now in
    let new = graph_in tac.types c.store_value.new.graph in
    held_told (tac_of tac) new c.args.global.0 held
    (written_kept (tac_of tac) c.requires.code.made (graph_in tac.types c.write.new.graph) new c.in_ok-write.ensures.graph.sound c.in_ok-store_value.ensures.keeps.goes c.args.global.0 c.in_ok-write.ensures.written)
    (subst (λ leaf. IsValueStored (tac_of tac) new c.args.global.0 leaf held.value) c.as_slice.ensures.value c.in_ok-store_value.ensures.stored)

pub write-requires-clause-asked : goal.write-requires-clause-asked
write-requires-clause-asked c = λ other told. (held_parts (tac_of c.args.tac.now) other c.args.global.0 (held_of c.args.held.now) (c.requires.asked other told)).0

pub store_value-requires-clause-asked : goal.store_value-requires-clause-asked
store_value-requires-clause-asked c = λ other told.
    let held = held_of c.args.held.now in
    subst (λ leaf. IsValueStored (tac_of c.args.tac.now) other c.args.global.0 leaf held.value) (sym c.as_slice.ensures.value)
    (held_parts (tac_of c.args.tac.now) other c.args.global.0 held (c.requires.asked other told)).1
