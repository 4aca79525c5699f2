use Rattle.std.proofs.Common.{◌≡◌, ◌∙◌, cond, sym, ap, List, map, string_bytes}
use Rattle.clap.specs.Simple.{App, app_of, subcommand_of, is_simple}
use Rattle.clap.specs.Walk.{Text}
use Rattle.clap.specs.Faults.{fault_of, is_simple_and_free}
use Rattle.pcc_words.specs.Line.{NoCommand, NoLine}
use Rattle.pcc_words.specs.Clap.{app, names_command}
use Rattle.pcc_words.specs.Found.{found_line}
use Rattle.pcc_words.proofs.WordTexts.{all_text, none_among, taken, refused}
use Rattle.pcc_words.proofs.Ranges.{has_ranges}
use Rattle.pcc_words.proofs.line.read_line.Goals as goal

pub returns-in-Ok-clause-says : goal.returns-in-Ok-clause-says
returns-in-Ok-clause-says c =
    let words : List Text = map string_bytes c.args.words.now in
    let app_is : app_of c.in_ok-command.command ≡ app = c.in_ok-command.ensures in
    c.line_found.ensures
    ∙ ap (λ s. found_line s) (c.in-Ok.ensures.matches (ap (λ (a : App). is_simple a) app_is)).1
    ∙ ap (λ (a : App). found_line (subcommand_of a words)) app_is
    ∙ taken words (all_text c.args.words.now) (sym (ap (λ (a : App). fault_of a words) app_is) ∙ c.in-Ok.ensures.kinds (ap (λ (a : App). is_simple_and_free a) app_is))

pub returns-in-Ok-clause-ranges : goal.returns-in-Ok-clause-ranges
returns-in-Ok-clause-ranges c = has_ranges c.line_found.result (map string_bytes c.args.words.now) (returns-in-Ok-clause-says c)

pub returns-in_default-clause-says : goal.returns-in_default-clause-says
returns-in_default-clause-says c =
    let words : List Text = map string_bytes c.args.words.now in
    let app_is : app_of c.in_ok-command.command ≡ app = c.in_ok-command.ensures in
    let fails = c.in-Err.ensures.kinds (ap (λ (a : App). is_simple_and_free a) app_is) in
    sym (refused words (all_text c.args.words.now) (λ none. none_among _ (fault_of (app_of c.in_ok-command.command) words) fails
    (λ e. c.in_default.not-OutOfMemory (c.kind.ensures ∙ e)) (ap (λ (a : App). fault_of a words) app_is ∙ none))
    ∙ ap (λ b. cond b NoLine NoCommand) (sym (ap (λ (a : App). names_command a words) app_is) ∙ sym c.names_command-is_command.ensures ∙ c.if-is_command.true))

pub returns-clause-says : goal.returns-clause-says
returns-clause-says c =
    let words : List Text = map string_bytes c.args.words.now in
    let app_is : app_of c.in_ok-command.command ≡ app = c.in_ok-command.ensures in
    let fails = c.in-Err.ensures.kinds (ap (λ (a : App). is_simple_and_free a) app_is) in
    sym (refused words (all_text c.args.words.now) (λ none. none_among _ (fault_of (app_of c.in_ok-command.command) words) fails
    (λ e. c.in_default.not-OutOfMemory (c.kind.ensures ∙ e)) (ap (λ (a : App). fault_of a words) app_is ∙ none))
    ∙ ap (λ b. cond b NoLine NoCommand) (sym (ap (λ (a : App). names_command a words) app_is) ∙ sym c.names_command-is_command.ensures ∙ c.if-is_command.false))
