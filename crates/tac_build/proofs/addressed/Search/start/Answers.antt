use Rattle.std.proofs.Common.{false, List, map, sym, ap, subst, ◌∙◌}
use Rattle.std.proofs.lemmas.Result.{on_ok_weaker}
use Rattle.c_typed.specs.declared.statement.LocalDef as memory_local
use Rattle.c_typed.specs.Typed as T
use Rattle.c_typed.specs.Views.{value_in}
use Rattle.c_typed.specs.StatementViews.{local_in, start_in}
use Rattle.tac_build.specs.Homes.{takes}
use Rattle.tac_build.specs.Marks.{Starts}
use Rattle.tac_build.proofs.Opening.{passes_marks}
use Rattle.tac_build.proofs.MarkedStatements.{passes_nothing}
use Rattle.tac_build.proofs.addressed.Search.start.Goals as goal

pub returns-in-Nothing : goal.returns-in-Nothing
returns-in-Nothing c = λ table. subst (λ start. Starts c.args.self.now c.args.self.now (start_in table start)) (sym c.in-Nothing.is) (passes_nothing c.args.self.now)

pub returns-in-Value : goal.returns-in-Value
returns-in-Value c = λ table.
    subst (λ start. Starts c.args.self.now c.value.new.self (start_in table start)) (sym c.in-Value.is)
    (passes_marks c.args.self.now c.value.new.self (λ number. takes false number (value_in table c.in-Value.value)) (c.value.ensures table))

pub returns-in-Locals : goal.returns-in-Locals
returns-in-Locals c = λ table.
    on_ok_weaker c.locals.result
    (λ starts. subst (λ start. Starts c.args.self.now c.locals.new.self start)
    (ap (λ (locals : List memory_local.LocalDef). T.StartLocals (map (local_in table) locals)) c.as_slice.ensures.value ∙ sym (ap (start_in table) c.in-Locals.is)) starts)
    (c.locals.ensures table)
