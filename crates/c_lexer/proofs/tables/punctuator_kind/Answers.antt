use Rattle.std.proofs.Common.{ap, ◌∙◌}
use Rattle.c_lexer.specs.Tables.{kind_in}
use Rattle.c_lexer.proofs.Spellings.{punctuators_alike}
use Rattle.c_lexer.proofs.tables.punctuator_kind.Goals as goal

pub returns : goal.returns
returns c = c.kind_in.ensures ∙ ap (λ rows. kind_in rows c.args.spelling.now) punctuators_alike
