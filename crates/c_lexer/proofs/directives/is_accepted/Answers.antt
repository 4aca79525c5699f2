use Rattle.std.proofs.Common.{sym, ap, ◌∙◌}
use Rattle.std.proofs.lemmas.List.{take_rest}
use Rattle.c_lexer.specs.Fronts.{is_known_header, after_blanks}
use Rattle.c_lexer.proofs.Cases.{accepted_named}
use Rattle.c_lexer.proofs.directives.is_accepted.Goals as goal

pub returns-then-starts_with : goal.returns-then-starts_with
returns-then-starts_with c =
    c.is_known_header.ensures ∙ ap is_known_header (c.after_blanks.ensures ∙ ap after_blanks (take_rest c.after_blanks-word.result.now 7))
    ∙ sym (accepted_named c.args.line.now c.after_blanks-word.result.now c.after_blanks-word.ensures (sym c.if-starts_with.ensures.value))
