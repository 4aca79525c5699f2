-- What `clap` makes of the words of a whole line.
use Rattle.std.proofs.Common.{◌≡◌, ◌∙◌, ◌&&◌, Bool, cond, true, false, refl, sym, ap, List, [], ◌∷◌, Option, Some, None, codes, is_some}
use Rattle.std.specs.Prelude.{find, fold, option_map}
use Rattle.std.specs.Option.{option_map_or}
use Rattle.std.specs.Str.{IsUtf8, bytes_eq}
use Rattle.clap.specs.Lexer.{long_of, short_of}
use Rattle.clap.specs.Kinds.{Kinds, or_else}
use Rattle.clap.specs.Walk.{Names, Row, Text, Walk, after_step, finished, settled, answers_to, idle, nothing_held, rows_after, subcommand_met, subcommand_or_other, walk, walk_from, walked}
use Rattle.clap.specs.Faults.{bundle_fault, bundle_step_fault, built_fault, check_fault, defaults_fault, entered_fault, fault_of, flag_word_fault, flags_fault, level_fault, other_fault, settle_fault, step_fault, turn_fault, walk_fault}
use Rattle.clap.specs.Simple.{App, Shape, built, entered, label_of, names_of, new_shape, rows_at, subcommand_of}
use Rattle.clap.specs.declared.error.kind.ErrorKind.TheVariants.{DisplayHelp, InvalidSubcommand, MissingSubcommand, UnknownArgument}
use Rattle.clap.proofs.WalkLemmas.{walk_stopped}
use Rattle.clap.proofs.FaultLemmas.{stopped_fault}
use Rattle.pcc_words.specs.Line.{Line, Look, Dashes, Named, Valued, Letters, Plain, NoCommand, NoLine, Build, Exec, Run, Ref, Choice, OnePool, Part, build_choices, exec_choices, run_choices, graph_choices, build_line, exec_line, run_line, ref_line, graph_line, command_line, line_from, line_of, look_of, part_at, words_joined}
use Rattle.pcc_words.specs.Clap.{app, names_command}
use Rattle.pcc_words.specs.Found.{file_line, found_line}
use Rattle.pcc_words.proofs.WordRules.{built_shape, rows_with, rules_with, some_kind}
use Rattle.pcc_words.proofs.WordLooks.{HasFlags, LooksLike, dashes, seen}
use Rattle.pcc_words.proofs.WordWalk.{standing}
use Rattle.pcc_words.proofs.WordTurns.{AllText}
use Rattle.pcc_words.proofs.WordLine.{LevelSays, first_part, level_says}
use Rattle.pcc_words.proofs.WordNumbers.{AllGood, GoodIf, flag_agrees, good_words, limits_are, steps_are}

abbrev pub built_top : Shape
built_top = record (new_shape (codes "poolcc")) {
  is_leaf = false;
  disable_help_flag = true;
  disable_help_subcommand = true;
  subcommand_required = true;
  is_built = true;
}

abbrev pub built_app : App
built_app = record {
  top = built_top;
  subs = built_shape (codes "build") build_choices ∷ built_shape (codes "exec") exec_choices
      ∷ built_shape (codes "run") run_choices ∷ built_shape (codes "ref") run_choices
      ∷ built_shape (codes "graph") graph_choices ∷ [];
}

pub app_built : built app ≡ built_app
app_built = refl

abbrev names : Names
names = names_of built_app

first_none : (a b : Kinds) → or_else a b ≡ [] → a ≡ []
first_none [] b e = refl
first_none (k ∷ ks) b e = e

second_none : (a b : Kinds) → or_else a b ≡ [] → b ≡ []
second_none [] b e = e
second_none (k ∷ ks) b e = absurd (some_kind (k ∷ ks) (k ∷ ks) refl refl e)

-- ---- the second word is a command

abbrev stopped_at : Text → List Text → Walk
stopped_at name rest = record (walk_from nothing_held) { stopped = Some (name, rest) }

module _ (command : Text) (rest : List Text) where
  abbrev start : Walk
  start = walk_from nothing_held

  abbrev stop_walk : Walk
  stop_walk = walk [] names nothing_held (command ∷ rest)

  entered_walked : (name : Text) → subcommand_met names idle command ≡ Some name → walked [] names start command ≡ stopped_at name []
  unfolding walked
  entered_walked name met =
      ap (λ o. after_step [] command start (subcommand_or_other [] o idle 1 command nothing_held).0 (subcommand_or_other [] o idle 1 command nothing_held).1) met

  walk_is : (name : Text) → subcommand_met names idle command ≡ Some name → stop_walk ≡ stopped_at name rest
  walk_is name met = ap (λ (w : Walk). fold (walked [] names) w rest) (entered_walked name met) ∙ sym (walk_stopped [] names start name [] rest)

  walk_faults : (name : Text) → subcommand_met names idle command ≡ Some name → bytes_eq name (codes "help") ≡ false → walk_fault built_top names start (command ∷ rest) ≡ []
  unfolding walk_fault
  walk_faults name met plain =
      ap (λ k. or_else k (walk_fault built_top names (walked [] names start command) rest)) turn
      ∙ ap (λ (w : Walk). walk_fault built_top names w rest) (entered_walked name met)
      ∙ stopped_fault built_top names start (name, []) rest
    where
      turn : turn_fault built_top names start command ≡ []
      turn =
          ap (λ o. or_else (other_fault built_top o command nothing_held)
          (step_fault built_top 1 (subcommand_or_other [] o idle 1 command nothing_held).0 (subcommand_or_other [] o idle 1 command nothing_held).1)) met
          ∙ ap (λ b. or_else (cond (b && false) (DisplayHelp ∷ InvalidSubcommand ∷ []) []) []) plain

  -- the faults behind the walk
  abbrev faults_after : Walk → Kinds
  faults_after w =
      or_else (entered_fault built_app w.stopped)
      (or_else (settle_fault [] false w.held)
      (or_else (defaults_fault (settled [] w.held).rows []) (check_fault built_top (finished [] w.held) (is_some (entered built_app w.stopped)))))

  abbrev all_faults : Kinds
  all_faults = built_fault built_app nothing_held (command ∷ rest)

  -- the faults are those of the command's own level
  known_faults : (name : Text) (choices : List Choice) → subcommand_met names idle command ≡ Some name → bytes_eq name (codes "help") ≡ false
      → find (λ (s : Shape). answers_to name (label_of s)) built_app.subs ≡ Some (built_shape name choices)
      → all_faults ≡ or_else (level_fault (built_shape name choices) [] nothing_held rest false []) []
  unfolding defaults_fault
  known_faults name choices met plain is =
      ap (λ k. or_else k (faults_after stop_walk)) (walk_faults name met plain)
      ∙ ap (λ (w : Walk). faults_after w) (walk_is name met)
      ∙ ap (λ (o : Option Shape). or_else (option_map_or (λ (s : Shape). level_fault s [] nothing_held rest false []) o [])
      (or_else [] (or_else [] (check_fault built_top [] (is_some (option_map (λ (s : Shape). rows_at s rest) o)))))) is

  known_rows : (name : Text) (choices : List Choice) → subcommand_met names idle command ≡ Some name
      → find (λ (s : Shape). answers_to name (label_of s)) built_app.subs ≡ Some (built_shape name choices)
      → entered built_app stop_walk.stopped ≡ Some (name, rows_after (rules_with choices) [] rest)
  known_rows name choices met is =
      ap (λ (w : Walk). entered built_app w.stopped) (walk_is name met) ∙ ap (λ (o : Option Shape). option_map (λ (s : Shape). rows_at s rest) o) is

  -- ---- it is none

  turn_is : subcommand_met names idle command ≡ None
      → turn_fault built_top names start command ≡ or_else (other_fault built_top None command nothing_held)
      (step_fault built_top 1 (subcommand_or_other [] None idle 1 command nothing_held).0 (subcommand_or_other [] None idle 1 command nothing_held).1)
  turn_is met = ap (λ o. or_else (other_fault built_top o command nothing_held)
      (step_fault built_top 1 (subcommand_or_other [] o idle 1 command nothing_held).0 (subcommand_or_other [] o idle 1 command nothing_held).1)) met

  walk_first : walk_fault built_top names start (command ∷ rest) ≡ or_else (turn_fault built_top names start command) (walk_fault built_top names (walked [] names start command) rest)
  unfolding walk_fault
  walk_first = refl

  flag_refused : subcommand_met names idle command ≡ None → (other_fault built_top None command nothing_held ≡ [] → ⊥) → all_faults ≡ [] → ⊥
  flag_refused met h none = h (first_none _ _ (sym (turn_is met) ∙ first_none _ _ (sym walk_first ∙ first_none _ (faults_after stop_walk) none)))

  flag_is : bytes_eq command dashes ≡ false → other_fault built_top None command nothing_held ≡ flag_word_fault [] false (long_of command) command nothing_held
  flag_is e = ap (λ b. cond b [] (flag_word_fault [] false (long_of command) command nothing_held)) e

  letters_refused : long_of command ≡ None → HasFlags command → flag_word_fault [] false (long_of command) command nothing_held ≡ [] → ⊥
  unfolding flags_fault
  letters_refused long f =
      some_kind _ (UnknownArgument ∷ [])
      (ap (λ o. flag_word_fault [] false o command nothing_held) long
      ∙ ap (λ o. option_map_or (λ flags. bundle_fault [] false flags nothing_held) o []) f.short
      ∙ ap (λ n. flags_fault [] false n f.flags 0 nothing_held) f.size
      ∙ ap (λ o. bundle_step_fault [] false o f.flags 0 nothing_held (flags_fault [] false f.less)) f.is_first) refl

  trailing_walked : subcommand_met names idle command ≡ None → bytes_eq command dashes ≡ true → walked [] names start command ≡ standing nothing_held idle false true
  unfolding walked
  trailing_walked met e =
      ap (λ o. after_step [] command start (subcommand_or_other [] o idle 1 command nothing_held).0 (subcommand_or_other [] o idle 1 command nothing_held).1) met
      ∙ rw e refl

  plain_refused : subcommand_met names idle command ≡ None → bytes_eq command dashes ≡ false → long_of command ≡ None → short_of command ≡ None → all_faults ≡ [] → ⊥
  plain_refused met e long short none =
      let stray : turn_fault built_top names start command ≡ UnknownArgument ∷ InvalidSubcommand ∷ [] = turn_is met ∙ rw (e, long, short) refl in
      some_kind _ _ stray refl (first_none _ _ (sym walk_first ∙ first_none _ (faults_after stop_walk) none))

trailing_refused : (command : Text) (rest : List Text) → subcommand_met names idle command ≡ None → bytes_eq command dashes ≡ true → built_fault built_app nothing_held (command ∷ rest) ≡ [] → ⊥
unfolding walk_fault defaults_fault
trailing_refused command [] met e none =
    some_kind _ (MissingSubcommand ∷ []) (ap (λ (w : Walk). faults_after command [] w) (trailing_walked command [] met e)) refl
    (second_none _ (faults_after command [] (walk [] names nothing_held (command ∷ []))) none)
trailing_refused command (word ∷ words) met e none =
    let behind : walk_fault built_top names (walked [] names (walk_from nothing_held) command) (word ∷ words) ≡ [] =
    second_none _ _ (sym (walk_first command (word ∷ words)) ∙ first_none _ (faults_after command (word ∷ words) (walk [] names nothing_held (command ∷ word ∷ words))) none) in
    some_kind _ (UnknownArgument ∷ InvalidSubcommand ∷ []) refl refl
    (first_none _ (walk_fault built_top names (walked [] names (standing nothing_held idle false true) word) words)
    (sym (ap (λ (w : Walk). walk_fault built_top names w (word ∷ words)) (trailing_walked command (word ∷ words) met e)) ∙ behind))

unknown : (command : Text) (rest : List Text) → subcommand_met names idle command ≡ None → (l : Look) → LooksLike l command → built_fault built_app nothing_held (command ∷ rest) ≡ [] → ⊥
unknown command rest met Dashes looks = trailing_refused command rest met looks.0
unknown command rest met (Named n) looks =
    flag_refused command rest met (some_kind _ (UnknownArgument ∷ []) (flag_is command rest looks.0 ∙ ap (λ o. flag_word_fault [] false o command nothing_held) looks.1) refl)
unknown command rest met (Valued n v) looks =
    flag_refused command rest met (some_kind _ (UnknownArgument ∷ []) (flag_is command rest looks.0 ∙ ap (λ o. flag_word_fault [] false o command nothing_held) looks.1) refl)
unknown command rest met Letters looks =
    flag_refused command rest met (λ none. letters_refused command rest looks.1 looks.2 (sym (flag_is command rest looks.0) ∙ none))
unknown command rest met Plain looks = plain_refused command rest met looks.0 looks.1 looks.2

pub no_words : built_fault built_app nothing_held [] ≡ [] → ⊥
unfolding walk_fault defaults_fault
no_words = some_kind _ (MissingSubcommand ∷ []) refl refl

-- ---- lines

level_line : (make : List Part → Text → Line) (name : Text) (r : Option (List Part)) (kinds : Kinds) (rows : List Row)
    → ((parts : List Part) (file : Text) → AllGood parts → file_line name (rows_with parts) file ≡ make parts file)
    → LevelSays name [] r kinds rows → GoodIf r
    → (kinds ≡ [] → found_line (Some (name, rows)) ≡ line_from make r) × ((kinds ≡ [] → ⊥) → line_from make r ≡ NoLine)
level_line make name None kinds rows same says good = (λ none. absurd (says none), λ some. refl)
level_line make name (Some parts) kinds rows same says good = go (part_at (codes "file") parts) refl
  where
    go : (o : Option Text) → part_at (codes "file") parts ≡ o
        → (kinds ≡ [] → found_line (Some (name, rows)) ≡ option_map_or (make parts) (part_at (codes "file") parts) NoLine)
        × ((kinds ≡ [] → ⊥) → option_map_or (make parts) (part_at (codes "file") parts) NoLine ≡ NoLine)
    go None e = (
      λ none. absurd (says.1 (ap (λ o. is_some o) e) none),
      λ some. ap (λ o. option_map_or (make parts) o NoLine) e,
    )
    go (Some file) e = (
      λ none. ap (λ rs. found_line (Some (name, rs))) (says.0 (ap (λ o. is_some o) e)).1
          ∙ ap (λ o. option_map_or (file_line name (rows_with parts)) o NoLine) (first_part (codes "file") parts ∙ e)
          ∙ same parts file good ∙ sym (ap (λ o. option_map_or (make parts) o NoLine) e),
      λ some. absurd (some (says.0 (ap (λ o. is_some o) e)).0),
    )

-- ---- the whole line

-- what the parse found where it has no fault, and what the line is where it has one
abbrev pub Says : Line → Kinds → Option (Text × List Row) → Bool → Type 0
Says line kinds sub known = (kinds ≡ [] → found_line sub ≡ line) × ((kinds ≡ [] → ⊥) → line ≡ cond known NoLine NoCommand)

says_as : (line line' : Line) (kinds : Kinds) (sub : Option (Text × List Row)) (known known' : Bool) → line ≡ line' → known ≡ known' → Says line' kinds sub known' → Says line kinds sub known
says_as line line' kinds sub known known' e f h = (
  λ none. h.0 none ∙ sym e,
  λ some. e ∙ h.1 some ∙ ap (λ b. cond b NoLine NoCommand) (sym f),
)

module _ (program command : Text) (rest : List Text) (utf8 : IsUtf8 command) (texts : AllText rest) where
  abbrev kinds_found : Kinds
  kinds_found = built_fault built_app nothing_held (command ∷ rest)

  abbrev sub_found : Option (Text × List Row)
  sub_found = entered built_app (walk [] names nothing_held (command ∷ rest)).stopped

  one_command : (make : List Part → Text → Line) (name : Text) (choices : List Choice) → subcommand_met names idle command ≡ Some name → bytes_eq name (codes "help") ≡ false
      → find (λ (s : Shape). answers_to name (label_of s)) built_app.subs ≡ Some (built_shape name choices)
      → ((parts : List Part) (file : Text) → AllGood parts → file_line name (rows_with parts) file ≡ make parts file)
      → Says (command_line make choices rest) kinds_found sub_found true
  one_command make name choices met plain is same =
      let level = level_line make name (words_joined choices rest None []) (level_fault (built_shape name choices) [] nothing_held rest false []) (rows_after (rules_with choices) [] rest) same
      (level_says name choices rest texts) (good_words choices rest None [] tt) in
      let faults = known_faults command rest name choices met plain is in (
        λ none. ap (λ s. found_line s) (known_rows command rest name choices met is) ∙ level.0 (first_none _ [] (sym faults ∙ none)),
        λ some. level.1 (λ none. some (faults ∙ ap (λ k. or_else k []) none)),
      )

  same_build : (parts : List Part) (file : Text) → AllGood parts → file_line (codes "build") (rows_with parts) file ≡ build_line parts file
  same_build parts file all = λ i. Build file (limits_are parts all i) (flag_agrees OnePool parts i)

  same_exec : (parts : List Part) (file : Text) → AllGood parts → file_line (codes "exec") (rows_with parts) file ≡ exec_line parts file
  same_exec parts file all = λ i. Exec file (limits_are parts all i) (flag_agrees OnePool parts i) (steps_are parts all i)

  same_run : (parts : List Part) (file : Text) → AllGood parts → file_line (codes "run") (rows_with parts) file ≡ run_line parts file
  same_run parts file all = ap (λ n. Run file n) (steps_are parts all)

  same_ref : (parts : List Part) (file : Text) → AllGood parts → file_line (codes "ref") (rows_with parts) file ≡ ref_line parts file
  same_ref parts file all = ap (λ n. Ref file n) (steps_are parts all)

  same_graph : (parts : List Part) (file : Text) → AllGood parts → file_line (codes "graph") (rows_with parts) file ≡ graph_line parts file
  same_graph parts file all = refl

  line_says : Says (line_of (program ∷ command ∷ rest)) kinds_found sub_found (names_command app (program ∷ command ∷ rest))
  line_says = go (bytes_eq (codes "build") command) (bytes_eq (codes "exec") command) (bytes_eq (codes "run") command) (bytes_eq (codes "ref") command) (bytes_eq (codes "graph") command) refl refl refl refl refl
    where
      go : (a b c d g : Bool) → bytes_eq (codes "build") command ≡ a → bytes_eq (codes "exec") command ≡ b → bytes_eq (codes "run") command ≡ c → bytes_eq (codes "ref") command ≡ d → bytes_eq (codes "graph") command ≡ g
          → Says (line_of (program ∷ command ∷ rest)) kinds_found sub_found (names_command app (program ∷ command ∷ rest))
      go true b c d g ea eb ec ed eg =
          says_as (line_of (program ∷ command ∷ rest)) (command_line build_line build_choices rest) kinds_found sub_found (names_command app (program ∷ command ∷ rest)) true (rw ea refl) (rw ea refl)
          (one_command build_line (codes "build") build_choices (rw ea refl) refl refl same_build)
      go false true c d g ea eb ec ed eg =
          says_as (line_of (program ∷ command ∷ rest)) (command_line exec_line exec_choices rest) kinds_found sub_found (names_command app (program ∷ command ∷ rest)) true (rw (ea, eb) refl) (rw (ea, eb) refl)
          (one_command exec_line (codes "exec") exec_choices (rw (ea, eb) refl) refl refl same_exec)
      go false false true d g ea eb ec ed eg =
          says_as (line_of (program ∷ command ∷ rest)) (command_line run_line run_choices rest) kinds_found sub_found (names_command app (program ∷ command ∷ rest)) true (rw (ea, eb, ec) refl) (rw (ea, eb, ec) refl)
          (one_command run_line (codes "run") run_choices (rw (ea, eb, ec) refl) refl refl same_run)
      go false false false true g ea eb ec ed eg =
          says_as (line_of (program ∷ command ∷ rest)) (command_line ref_line run_choices rest) kinds_found sub_found (names_command app (program ∷ command ∷ rest)) true (rw (ea, eb, ec, ed) refl) (rw (ea, eb, ec, ed) refl)
          (one_command ref_line (codes "ref") run_choices (rw (ea, eb, ec, ed) refl) refl refl same_ref)
      go false false false false true ea eb ec ed eg =
          says_as (line_of (program ∷ command ∷ rest)) (command_line graph_line graph_choices rest) kinds_found sub_found (names_command app (program ∷ command ∷ rest)) true (rw (ea, eb, ec, ed, eg) refl) (rw (ea, eb, ec, ed, eg) refl)
          (one_command graph_line (codes "graph") graph_choices (rw (ea, eb, ec, ed, eg) refl) refl refl same_graph)
      go false false false false false ea eb ec ed eg =
          says_as (line_of (program ∷ command ∷ rest)) NoCommand kinds_found sub_found (names_command app (program ∷ command ∷ rest)) false (rw (ea, eb, ec, ed, eg) refl) (rw (ea, eb, ec, ed, eg) refl)
          (λ none. absurd (unknown command rest (rw (ea, eb, ec, ed, eg) refl) (look_of command) (seen command utf8) none), λ some. refl)

pub all_say : (words : List Text) → AllText words → Says (line_of words) (fault_of app words) (subcommand_of app words) (names_command app words)
all_say [] texts = (λ none. absurd (no_words none), λ some. refl)
all_say (program ∷ []) texts = (λ none. absurd (no_words none), λ some. refl)
all_say (program ∷ command ∷ rest) texts = line_says program command rest texts.1.0 texts.1.1
