use Rattle.std.proofs.Common.{sym, ◌∙◌}
use Rattle.std.proofs.lemmas.Bool.{false≢true}
use Rattle.graph_checker.proofs.OwnTold.{registers_told, registers_pass}
use Rattle.graph_checker.proofs.owned.names_are_own.Goals as goal

pub returns-then-objects : goal.returns-then-objects
returns-then-objects c = λ table.
    let function = c.args.function.now in
    let names = c.args.names.now in (
      λ own. record { registers = registers_told table function names (sym c.registers_are_own.ensures ∙ own); objects = (c.in_ok-objects.ensures table).0 c.if-objects.true },
      λ told. c.registers_are_own.ensures ∙ registers_pass table function names told.registers,
    )

pub returns-else-objects : goal.returns-else-objects
returns-else-objects c = λ table. (λ own. absurd (false≢true (sym c.if-objects.false ∙ own)), λ told. (c.in_ok-objects.ensures table).1 told.objects)
