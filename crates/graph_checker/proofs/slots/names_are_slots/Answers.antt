use Rattle.std.proofs.Common.{sym, ◌∙◌}
use Rattle.std.proofs.lemmas.Bool.{false≢true}
use Rattle.graph_checker.proofs.SlotsTold.{names_told, registers_pass, others_pass}
use Rattle.graph_checker.proofs.slots.names_are_slots.Goals as goal

pub returns-then-registers_slots : goal.returns-then-registers_slots
returns-then-registers_slots c = λ table.
    let graph = c.args.graph.now in
    let names = c.args.names.now in
    (λ others. names_told table graph names (sym c.if-registers_slots.ensures) (sym c.other_slots.ensures ∙ others), λ told. c.other_slots.ensures ∙ others_pass table graph names told)

pub returns-else-registers_slots : goal.returns-else-registers_slots
returns-else-registers_slots c = λ table.
    let graph = c.args.graph.now in
    let names = c.args.names.now in
    (λ registers. absurd (false≢true (sym c.if-registers_slots.false ∙ registers)), λ told. c.registers_slots.ensures ∙ registers_pass table graph names told)
