use Rattle.std.proofs.Common.{sym, ◌∙◌}
use Rattle.std.proofs.lemmas.Bool.{false≢true}
use Rattle.graph_checker.proofs.SlotsTold.{each_static, all_statics}
use Rattle.graph_checker.proofs.slots.statics_are_slots.Goals as goal

pub returns-then-static_slots : goal.returns-then-static_slots
returns-then-static_slots c = λ table.
    let graph = c.args.graph.now in
    let literals = c.static_slots-then-static_slots.ensures in (
      λ is. record {
        globals = each_static table graph graph.globals.entries (sym c.static_slots.ensures.slots ∙ c.if-static_slots.true);
        literals = each_static table graph graph.literals.entries (sym literals.slots ∙ is);
      },
      λ told. literals.slots ∙ all_statics table graph graph.literals.entries literals.unique told.literals,
    )

pub returns-else-static_slots : goal.returns-else-static_slots
returns-else-static_slots c = λ table.
    let graph = c.args.graph.now in (
      λ is. absurd (false≢true (sym c.if-static_slots.false ∙ is)),
      λ told. c.static_slots.ensures.slots ∙ all_statics table graph graph.globals.entries c.static_slots.ensures.unique told.globals,
    )
