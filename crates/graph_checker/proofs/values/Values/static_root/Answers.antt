use Rattle.std.proofs.Common.{◌≡◌, Some, option_map, sym, ap, subst, ◌∙◌}
use Rattle.c_typed.specs.declared.definition.Static as memory_static
use Rattle.c_typed.specs.DefinitionViews.{static_of}
use Rattle.tac_ir.specs.First.{named_global}
use Rattle.tac_ir.specs.Views.{tac_of}
use Rattle.heap_graph.specs.Closed.{static_part}
use Rattle.graph_checker.specs.Values.{family_of}
use Rattle.graph_checker.proofs.NamedParts.{global_found, literal_found}
use Rattle.graph_checker.proofs.values.Values.static_root.Goals as goal

pub returns-in-Some : goal.returns-in-Some
returns-in-Some c =
    let own = c.args.self.now in
    let tac = own.tac.now in
    let n = c.in-Some.number.0 in
    let found : Some n ≡ option_map (λ found. found.0) (named_global 0 (tac_of tac).globals c.in-Variable.name)
    = subst (λ name. Some n ≡ option_map (λ found. found.0) (named_global 0 (tac_of tac).globals name)) c.as_slice.ensures (c.in-Some.ensures tac c.requires.program.numbers) in
    c.global_root.ensures ∙ (global_found tac own.start.now c.in-Variable.name n found ∙ sym (ap (λ (root : memory_static.Static). static_part (family_of own) (static_of root)) c.in-Variable.is))

pub returns-in-Some-literal : goal.returns-in-Some-literal
returns-in-Some-literal c =
    let own = c.args.self.now in
    let tac = own.tac.now in
    c.literal_root.ensures
    ∙ (literal_found tac own.start.now c.in-Literal.place c.in-Some-literal.number.0 (c.in-Some-literal.ensures tac c.requires.program.numbers)
    ∙ sym (ap (λ (root : memory_static.Static). static_part (family_of own) (static_of root)) c.in-Literal.is))
