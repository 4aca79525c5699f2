use Rattle.std.proofs.Common.{sym, subst}
use Rattle.c_typed.specs.declared.definition.Scalar as memory_scalar
use Rattle.c_typed.specs.DefinitionViews.{scalar_of}
use Rattle.c_typed.specs.Values as first
use Rattle.tac_ir.specs.Views.{tac_of}
use Rattle.dsa_local.specs.Storing.{place_in, IsValueStored}
use Rattle.graph_unification.specs.Memory.{graph_in}
use Rattle.dsa_local.proofs.Mentioning.{keeps_same}
use Rattle.dsa_local.proofs.stores.store_value.Goals as goal

pub returns-in-Integer-clause-keeps : goal.returns-in-Integer-clause-keeps
returns-in-Integer-clause-keeps c = keeps_same (tac_of c.args.tac.now) c.requires.code.made (graph_in c.args.tac.now.types c.args.graph.now) c.requires.graph.sound

pub returns-in-Null-clause-keeps : goal.returns-in-Null-clause-keeps
returns-in-Null-clause-keeps c = keeps_same (tac_of c.args.tac.now) c.requires.code.made (graph_in c.args.tac.now.types c.args.graph.now) c.requires.graph.sound

pub returns-in-Function-clause-keeps : goal.returns-in-Function-clause-keeps
returns-in-Function-clause-keeps c = keeps_same (tac_of c.args.tac.now) c.requires.code.made (graph_in c.args.tac.now.types c.args.graph.now) c.requires.graph.sound

pub store_place-requires-clause-asked : goal.store_place-requires-clause-asked
store_place-requires-clause-asked c = λ other told.
    let tac = tac_of c.args.tac.now in
    let told = subst (λ (v : memory_scalar.Scalar). IsValueStored tac other c.args.global.0 c.args.leaf.now (scalar_of v)) c.in-Pointer.is (c.requires.asked other told) in
    subst (λ steps. IsValueStored tac other c.args.global.0 c.args.leaf.now (first.PointerValue (place_in c.in-Pointer.root steps c.in-Pointer.index))) (sym c.as_slice.ensures.value) told
