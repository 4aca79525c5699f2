use Rattle.std.proofs.Common.{length, sym, ap, subst, ◌∙◌}
use Rattle.std.specs.Prelude.{◌==◌}
use Rattle.c_typed.specs.declared.definition.First as memory_first
use Rattle.c_typed.specs.DefinitionViews.{held_of, first_of}
use Rattle.tac_ir.specs.Views.{tac_of}
use Rattle.graph_unification.specs.Memory.{graph_in}
use Rattle.dsa_local.specs.Storing.{AreStored}
use Rattle.dsa_local.proofs.Storing.{one_stored, one_told, text_told, text_written, no_text}
use Rattle.dsa_local.proofs.Mentioning.{keeps_same}
use Rattle.dsa_local.proofs.values.store_first.Goals as goal

pub returns-in_ok-store_held-in-Scalar-clause-stored : goal.returns-in_ok-store_held-in-Scalar-clause-stored
returns-in_ok-store_held-in-Scalar-clause-stored c =
    let tac = c.args.tac.now in
    let new = graph_in tac.types c.store_held.new.graph in
    subst (λ (one : memory_first.First). AreStored (tac_of tac) new c.args.global.0 (first_of one)) (sym c.in-Scalar.is)
    (one_stored (tac_of tac) new c.args.global.0 (held_of c.in-Scalar.held) c.in_ok-store_held-in-Scalar.ensures.stored)

pub returns-in_ok-write-in-Text-clause-stored : goal.returns-in_ok-write-in-Text-clause-stored
returns-in_ok-write-in-Text-clause-stored c =
    let tac = c.args.tac.now in
    let new = graph_in tac.types c.write.new.graph in
    subst (λ (one : memory_first.First). AreStored (tac_of tac) new c.args.global.0 (first_of one)) (sym c.in-Text.is)
    (text_told (tac_of tac) new c.args.global.0 c.in-Text.parts.items c.in-Text.int_type 0 c.in-Text.bytes c.in_ok-write-in-Text.ensures.written)

pub returns-then-is_empty-clause-keeps : goal.returns-then-is_empty-clause-keeps
returns-then-is_empty-clause-keeps c = keeps_same (tac_of c.args.tac.now) c.requires.code.made (graph_in c.args.tac.now.types c.args.graph.now) c.requires.graph.sound

pub returns-then-is_empty-clause-stored : goal.returns-then-is_empty-clause-stored
returns-then-is_empty-clause-stored c =
    let tac = c.args.tac.now in
    let graph = graph_in tac.types c.args.graph.now in
    subst (λ (one : memory_first.First). AreStored (tac_of tac) graph c.args.global.0 (first_of one)) (sym c.in-Text.is)
    (no_text (tac_of tac) graph c.args.global.0 c.in-Text.parts.items c.in-Text.int_type c.in-Text.bytes
    (ap (λ bytes. length bytes == 0) (sym c.as_slice.ensures) ∙ (sym c.is_empty.ensures ∙ c.if-is_empty.true)))

pub store_held-requires-clause-asked : goal.store_held-requires-clause-asked
store_held-requires-clause-asked c = λ other told.
    let tac = tac_of c.args.tac.now in
    one_told tac other c.args.global.0 (held_of c.in-Scalar.held) (subst (λ (one : memory_first.First). AreStored tac other c.args.global.0 (first_of one)) c.in-Scalar.is (c.requires.asked other told))

pub write-requires-clause-asked : goal.write-requires-clause-asked
write-requires-clause-asked c = λ other told.
    let tac = tac_of c.args.tac.now in
    text_written tac other c.args.global.0 c.in-Text.parts.items c.in-Text.int_type c.in-Text.bytes
    (ap (λ bytes. length bytes == 0) (sym c.as_slice.ensures) ∙ (sym c.is_empty.ensures ∙ c.if-is_empty.false))
    (subst (λ (one : memory_first.First). AreStored tac other c.args.global.0 (first_of one)) c.in-Text.is (c.requires.asked other told))
