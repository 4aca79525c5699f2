use Rattle.std.proofs.Common.{sym, subst}
use Rattle.c_typed.specs.StatementViews.{optional_value_in}
use Rattle.tac_build.specs.Homes.{takes_optional}
use Rattle.tac_build.specs.Marks.{Marks}
use Rattle.tac_build.proofs.Marking.{marks_none}
use Rattle.tac_build.proofs.addressed.Search.optional.Goals as goal

pub returns-in-Some : goal.returns-in-Some
returns-in-Some c = λ table. subst (λ f. Marks c.args.self.now c.value.new.self f) (λ i. λ number. takes_optional number (optional_value_in table (sym c.in-Some.is i))) (c.value.ensures table)

pub returns-in_default : goal.returns-in_default
returns-in_default c = λ table. subst (λ f. Marks c.args.self.now c.args.self.now f) (λ i. λ number. takes_optional number (optional_value_in table (sym c.in_default.is i))) (marks_none c.args.self.now)
