use Rattle.std.proofs.Common.{◌≡◌, sym, arith}
use Rattle.c_lexer.specs.Constants.{escape_width}
use Rattle.c_lexer.proofs.Quotes.{spelled_bad}
use Rattle.c_lexer.proofs.quoted.read_byte.Goals as goal

pub returns-in-None-clause-refused : goal.returns-in-None-clause-refused
returns-in-None-clause-refused c =
    spelled_bad c.args.place c.args.first c.args.rest.now (omega arith) (λ (none : escape_width c.args.rest.now ≡ 0). omega (arith, none)) (sym c.in-None.ensures)
