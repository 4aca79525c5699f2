use Rattle.std.proofs.Common.{length, sym, ap, ◌∙◌}
use Rattle.std.specs.Prelude.{◌==◌}
use Rattle.c_typed.specs.declared.definition.First as memory_first
use Rattle.c_typed.specs.DefinitionViews.{first_of}
use Rattle.heap_graph.specs.Closed.{all_held_closed}
use Rattle.heap_graph.specs.TargetParts.Parts.{root_in}
use Rattle.graph_checker.specs.Values.{family_of}
use Rattle.graph_checker.proofs.HeldLists.{text_told}
use Rattle.graph_checker.proofs.values.Values.one_closed.Goals as goal

pub returns-else-is_empty : goal.returns-else-is_empty
returns-else-is_empty c =
    let own = c.args.self.now in
    let global = root_in own.tac.now.types c.args.global in
    c.is_stored.ensures
    ∙ sym (ap (λ (first : memory_first.First). all_held_closed (family_of own) global (first_of first)) c.in-Text.is
    ∙ text_told (family_of own) global c.in-Text.parts.items c.in-Text.int_type c.in-Text.bytes
    (ap (λ bytes. length bytes == 0) (sym c.as_slice.ensures) ∙ (sym c.is_empty.ensures ∙ c.if-is_empty.false)))
