use Rattle.std.proofs.Common.{◌≡◌, true, Some, option_copied, sym, ap, subst, ◌∙◌}
use Rattle.std.specs.Prelude.{slice_get, OnOk}
use Rattle.c_typed.specs.Table.{type_in}
use Rattle.tac_ir.specs.States.{InStart}
use Rattle.tac_ir.specs.Views.{tac_of}
use Rattle.heap_graph.specs.Graphs.{OfGlobal, OfLiteral}
use Rattle.heap_graph.specs.Points.{base_part}
use Rattle.heap_graph.specs.Targets.{has_target}
use Rattle.graph_unification.specs.Memory.{graph_in}
use Rattle.graph_unification.specs.GraphNames.First.{object_node, static_flags}
use Rattle.graph_unification.proofs.FoundStatics.{got}
use Rattle.dsa_local.proofs.Found.{global_slot, literal_slot}
use Rattle.dsa_local.specs.Keeping.{IsAsked}
use Rattle.dsa_local.specs.Roots.{base_at}
use Rattle.dsa_local.proofs.Mentioning.{on_ok_global, on_ok_literal, on_ok_has}
use Rattle.dsa_local.proofs.changes.add.Goals as goal

pub add_global-requires-clause-slot : goal.add_global-requires-clause-slot
add_global-requires-clause-slot c =
    let n = c.in-Global.global.0 in
    let there : slice_get c.args.tac.now.globals.items n ≡ Some c.in-Some.definition.now
    = ap (λ items. slice_get items n) (sym c.deref.ensures.value) ∙ (got c.deref.result.now n c.get.result c.get.ensures.lookup ∙ ap option_copied c.in-Some.is) in
    global_slot c.args.tac.now n c.in-Some.definition.now there c.requires.code

pub add_literal-requires-clause-slot : goal.add_literal-requires-clause-slot
add_literal-requires-clause-slot c =
    let n = c.in-Literal.literal.0 in
    let there : slice_get c.args.tac.now.literals.items n ≡ Some c.in-Some-get.definition.now
    = ap (λ items. slice_get items n) (sym c.deref-in-Literal.ensures.value) ∙ (got c.deref-in-Literal.result.now n c.get-in-Literal.result c.get-in-Literal.ensures.lookup ∙ ap option_copied c.in-Some-get.is) in
    literal_slot c.args.tac.now n c.in-Some-get.definition.now there c.requires.literals c.requires.code

pub returns-in-Some-clause-keeps : goal.returns-in-Some-clause-keeps
returns-in-Some-clause-keeps c =
    let tac = c.args.tac.now in
    let n = c.in-Global.global.0 in
    let there : slice_get tac.globals.items n ≡ Some c.in-Some.definition.now
    = ap (λ items. slice_get items n) (sym c.deref.ensures.value) ∙ (got c.deref.result.now n c.get.result c.get.ensures.lookup ∙ ap option_copied c.in-Some.is) in
    on_ok_global tac c.requires.code.made (graph_in tac.types c.args.graph.now) (graph_in tac.types c.add_global.new.graph) c.requires.graph.sound n c.add_global.result c.in-Some.definition.now there
    (subst (λ root. IsAsked (tac_of tac) (λ other. has_target (base_part (tac_of tac) other InStart (base_at root)).target ≡ true)) c.in-Global.is c.requires.asked) c.add_global.ensures.adds

pub returns-in-Some-clause-has : goal.returns-in-Some-clause-has
returns-in-Some-clause-has c =
    let tac = c.args.tac.now in
    let type = type_in tac.types c.in-Some.definition.now.c_type in
    let new = graph_in tac.types c.add_global.new.graph in
    subst (λ root. OnOk c.add_global.result (has_target (base_part (tac_of tac) new InStart (base_at root)).target ≡ true)) (sym c.in-Global.is)
    (on_ok_has c.add_global.result (graph_in tac.types c.args.graph.now) new (OfGlobal c.in-Global.global.0) (object_node type (static_flags type)) c.add_global.ensures.adds)

pub returns-in-Some-get-clause-keeps : goal.returns-in-Some-get-clause-keeps
returns-in-Some-get-clause-keeps c =
    let tac = c.args.tac.now in
    let n = c.in-Literal.literal.0 in
    let there : slice_get tac.literals.items n ≡ Some c.in-Some-get.definition.now
    = ap (λ items. slice_get items n) (sym c.deref-in-Literal.ensures.value) ∙ (got c.deref-in-Literal.result.now n c.get-in-Literal.result c.get-in-Literal.ensures.lookup ∙ ap option_copied c.in-Some-get.is) in
    on_ok_literal tac c.requires.code.made (graph_in tac.types c.args.graph.now) (graph_in tac.types c.add_literal.new.graph) c.requires.graph.sound n c.add_literal.result c.in-Some-get.definition.now there
    c.requires.literals (subst (λ root. IsAsked (tac_of tac) (λ other. has_target (base_part (tac_of tac) other InStart (base_at root)).target ≡ true)) c.in-Literal.is c.requires.asked)
    c.add_literal.ensures.adds

pub returns-in-Some-get-clause-has : goal.returns-in-Some-get-clause-has
returns-in-Some-get-clause-has c =
    let tac = c.args.tac.now in
    let type = type_in tac.types c.in-Some-get.definition.now.c_type in
    let new = graph_in tac.types c.add_literal.new.graph in
    subst (λ root. OnOk c.add_literal.result (has_target (base_part (tac_of tac) new InStart (base_at root)).target ≡ true)) (sym c.in-Literal.is)
    (on_ok_has c.add_literal.result (graph_in tac.types c.args.graph.now) new (OfLiteral c.in-Literal.literal.0) (object_node type (static_flags type)) c.add_literal.ensures.adds)
