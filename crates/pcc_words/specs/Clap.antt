-- The commands in the words of `clap`.
use Rattle.std.specs.Prelude.{ℕ, ◌≡◌, false, true, Bool, List, [], ◌∷◌, codes, find, is_some, Some}
use Rattle.clap.specs.Walk.{Rule, Text, answers_to}
use Rattle.clap.specs.Simple.{App, label_of, new_app, new_rule, with_rule, with_subcommand}
use Rattle.clap.specs.declared.builder.action.ArgAction.TheVariants.{Set}
use Rattle.clap.specs.declared.builder.command.Command.{Command}
use Rattle.clap.specs.declared.builder.command.Command.TheViews.{out-Command}
use Rattle.clap.specs.declared.builder.value_parser.ValueParser.TheVariants.{Unsigned}
use Rattle.pcc_words.specs.Line.{Choice, Numbered, Flagged, Setting, build_choices, exec_choices, run_choices, graph_choices, flag_name, name_of, most_of}

-- no argument of the command is global
abbrev pub IsLocal : Command → Type 0
IsLocal command = (out-Command command).has_globals ≡ false

abbrev pub file_rule : Rule
file_rule = record (new_rule (codes "file")) { required = true }

abbrev pub number_rule : Text → ℕ → Rule
number_rule name most = record (new_rule name) { long = Some name; parser = Some (Unsigned 1 most) }

abbrev pub setting_rule : Setting → Rule
setting_rule setting = number_rule (name_of setting) (most_of setting)

-- an option that takes no value, and has the value `true` where it is given
abbrev pub flag_rule : Text → Rule
flag_rule name = record (new_rule name) {
  long = Some name;
  action = Some Set;
  range = Some (record { start_inclusive = 0; end_inclusive = 0 });
  missing = codes "true" ∷ [];
}

abbrev pub choice_rule : Choice → Rule
choice_rule (Numbered setting) = setting_rule setting
choice_rule (Flagged flag) = flag_rule (flag_name flag)

abbrev pub with_choices : App → List Choice → App
with_choices command [] = command
with_choices command (choice ∷ choices) = with_choices (with_rule command (choice_rule choice)) choices

abbrev pub leaf : Text → List Choice → App
leaf name choices = with_choices (with_rule (new_app name) file_rule) choices

abbrev pub bare : App
bare = record {
  top = record (new_app (codes "poolcc")).top {
    subcommand_required = true;
    disable_help_flag = true;
    disable_help_subcommand = true;
  };
  subs = [];
}

abbrev pub app : App
app =
    with_subcommand (with_subcommand (with_subcommand (with_subcommand (with_subcommand bare (leaf (codes "build") build_choices).top)
    (leaf (codes "exec") exec_choices).top)
    (leaf (codes "run") run_choices).top)
    (leaf (codes "ref") run_choices).top)
    (leaf (codes "graph") graph_choices).top

-- the second word is one of the commands
abbrev pub names_command : App → List Text → Bool
names_command a (name ∷ command ∷ words) = is_some (find (λ s. answers_to command (label_of s)) a.subs)
names_command a words = false
