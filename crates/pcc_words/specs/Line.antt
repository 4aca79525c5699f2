-- Command lines: the program's name, a command, and what the command takes.
use Rattle.std.specs.Prelude.{ℕ, ◌^◌, ◌&&◌, ◌==◌, Bool, true, not, nat_lt, nat_le, List, [], ◌∷◌, ◌++◌, length, codes, find, Option, Some, None, option_map, option_and_then, if◌then◌else◌}
use Rattle.std.specs.List.{after_first, before_first, list_all, list_any}
use Rattle.std.specs.Option.{option_map_or}
use Rattle.std.specs.Char.{digit_value}
use Rattle.std.specs.Str.{bytes_eq}
use Rattle.std.specs.Str.Parse.{digits_value, without_leading_plus}

-- how large the memory of a built program may grow: how many slabs it has at most, and the greatest index of an object
pub record Limits : Type 0 where
  pub slabs : ℕ
  pub index : ℕ

-- what the words say: no command, a command with words that are no line of it, or a command on a file
pub data Line : Type 0 where
  NoCommand : Line
  NoLine : Line
  Build : (file : List ℕ) (limits : Limits) (one_pool : Bool) → Line
  Exec : (file : List ℕ) (limits : Limits) (one_pool : Bool) (steps : ℕ) → Line
  Run : (file : List ℕ) (steps : ℕ) → Line
  Ref : (file : List ℕ) (steps : ℕ) → Line
  Graph : (file : List ℕ) → Line

-- ---- the options: a setting has a number, a flag no value

pub data Setting : Type 0 where
  Slabs : Setting
  Index : Setting
  Steps : Setting

pub data Flag : Type 0 where
  OnePool : Flag

pub data Choice : Type 0 where
  Numbered : (setting : Setting) → Choice
  Flagged : (flag : Flag) → Choice

-- what stands behind the dashes of the option
abbrev pub name_of : Setting → List ℕ
name_of Slabs = codes "slabs"
name_of Index = codes "index"
name_of Steps = codes "steps"

abbrev pub flag_name : Flag → List ℕ
flag_name OnePool = codes "one-pool"

abbrev pub choice_name : Choice → List ℕ
choice_name (Numbered setting) = name_of setting
choice_name (Flagged flag) = flag_name flag

-- the greatest number that a setting takes; the least is 1
abbrev pub most_of : Setting → ℕ
most_of Slabs = 1048576
most_of Index = 4294967295
most_of Steps = 2 ^ 62

-- the number where the setting is not given
abbrev pub default_of : Setting → ℕ
default_of Slabs = 65536
default_of Index = 4294967295
default_of Steps = 1000000000

-- decimal digits, at least one
abbrev pub is_numeral : List ℕ → Bool
is_numeral digits = nat_lt 0 (length digits) && list_all (λ digit. nat_lt (digit_value digit) 10) digits

-- the number that a text gives, as Rust reads a u64: a numeral, perhaps behind a plus
abbrev pub number_of : List ℕ → ℕ
number_of text = digits_value 10 (without_leading_plus text)

abbrev pub is_number : ℕ → List ℕ → Bool
is_number most text = is_numeral (without_leading_plus text) && (nat_lt (number_of text) (2 ^ 64) && (nat_le 1 (number_of text) && nat_le (number_of text) most))

-- the option of this name, among those that a command takes
abbrev pub choice_named : List Choice → List ℕ → Option Choice
choice_named choices name = find (λ choice. bytes_eq (choice_name choice) name) choices

-- the options of the commands
abbrev pub build_choices : List Choice
build_choices = Numbered Slabs ∷ Numbered Index ∷ Flagged OnePool ∷ []

abbrev pub exec_choices : List Choice
exec_choices = Numbered Slabs ∷ Numbered Index ∷ Flagged OnePool ∷ Numbered Steps ∷ []

-- of `run` and of `ref`
abbrev pub run_choices : List Choice
run_choices = Numbered Steps ∷ []

abbrev pub graph_choices : List Choice
graph_choices = []

-- ---- the parts of a line

-- a file, under the label `file`; a number, under the name of its setting; or a flag, under its name, which has the value `true`
pub record Part : Type 0 where
  pub label : List ℕ
  pub value : List ℕ

abbrev pub has_part : List ℕ → List Part → Bool
has_part label parts = list_any (λ part. bytes_eq part.label label) parts

abbrev pub part_at : List ℕ → List Part → Option (List ℕ)
part_at label parts = option_map (λ part. part.value) (find (λ part. bytes_eq part.label label) parts)

-- one more part: nothing is given twice, and the value has to be right
abbrev pub joined : Bool → List ℕ → List ℕ → List Part → Option (List Part)
joined is_right label value parts = if not (has_part label parts) && is_right then Some (parts ++ record { label = label; value = value } ∷ []) else None

abbrev pub file_joined : List ℕ → List Part → Option (List Part)
file_joined = joined true (codes "file")

abbrev pub setting_joined : Setting → List ℕ → List Part → Option (List Part)
setting_joined setting value = joined (is_number (most_of setting) value) (name_of setting) value

abbrev pub flag_joined : Flag → List Part → Option (List Part)
flag_joined flag = joined true (flag_name flag) (codes "true")

-- what a word is by its looks: `--`; `--name`; `--name=value`; `-letters`; or another, as `-` or the empty word
pub data Look : Type 0 where
  Dashes : Look
  Named : (name : List ℕ) → Look
  Valued : (name value : List ℕ) → Look
  Letters : Look
  Plain : Look

abbrev pub is_equals : ℕ → Bool
is_equals byte = byte == 61

abbrev pub behind_dashes : List ℕ → Look
behind_dashes [] = Dashes
behind_dashes (byte ∷ bytes) =
    if list_any is_equals (byte ∷ bytes)
    then Valued (before_first is_equals (byte ∷ bytes)) (after_first is_equals (byte ∷ bytes))
    else Named (before_first is_equals (byte ∷ bytes))

abbrev pub behind_dash : List ℕ → Look
behind_dash [] = Plain
behind_dash (byte ∷ bytes) = if byte == 45 then behind_dashes bytes else Letters

abbrev pub look_of : List ℕ → Look
look_of [] = Plain
look_of (byte ∷ bytes) = if byte == 45 then behind_dash bytes else Plain

-- behind `--` each word is a file
abbrev pub files_joined : List (List ℕ) → List Part → Option (List Part)
files_joined [] parts = Some parts
files_joined (word ∷ words) parts = option_and_then (files_joined words) (file_joined word parts)

-- what waits for the next word: nothing, or a setting for its number
abbrev pub Wanting : Type 0
Wanting = Option Setting

-- `--name`: a setting waits for its number, and a flag is given
abbrev pub named_joined : Choice → (Wanting → List Part → Option (List Part)) → List Part → Option (List Part)
named_joined (Numbered setting) next parts = next (Some setting) parts
named_joined (Flagged flag) next parts = option_and_then (next None) (flag_joined flag parts)

-- `--name=value`: no flag takes a value
abbrev pub valued_joined : Choice → List ℕ → List Part → Option (List Part)
valued_joined (Numbered setting) value parts = setting_joined setting value parts
valued_joined (Flagged flag) value parts = None

abbrev pub word_joined : List Choice → List ℕ → Look → (Wanting → List Part → Option (List Part)) → (List Part → Option (List Part)) → List Part → Option (List Part)
word_joined choices word Dashes next files parts = files parts
word_joined choices word (Named name) next files parts = option_and_then (λ choice. named_joined choice next parts) (choice_named choices name)
word_joined choices word (Valued name value) next files parts =
    option_and_then (λ choice. option_and_then (next None) (valued_joined choice value parts)) (choice_named choices name)
word_joined choices word Letters next files parts = None
word_joined choices word Plain next files parts = option_and_then (next None) (file_joined word parts)

-- the parts so far and those of the words, where these are a line. A setting is `--name value` or `--name=value`, a
-- flag `--name`, each at most once; they stand before the file or behind it, in any order. A file begins with no dash, but is `-` alone, or stands
-- behind `--`, where no option is
abbrev pub words_joined : List Choice → List (List ℕ) → Wanting → List Part → Option (List Part)
words_joined choices [] None parts = Some parts
words_joined choices [] (Some setting) parts = None
words_joined choices (word ∷ words) None parts = word_joined choices word (look_of word) (words_joined choices words) (files_joined words) parts
words_joined choices (word ∷ words) (Some setting) parts = option_and_then (words_joined choices words None) (setting_joined setting word parts)

-- ---- lines

abbrev pub number_in : Setting → List Part → ℕ
number_in setting parts = option_map_or number_of (part_at (name_of setting) parts) (default_of setting)

abbrev pub limits_in : List Part → Limits
limits_in parts = record { slabs = number_in Slabs parts; index = number_in Index parts }

abbrev pub flag_in : Flag → List Part → Bool
flag_in flag parts = has_part (flag_name flag) parts

abbrev pub build_line : List Part → List ℕ → Line
build_line parts file = Build file (limits_in parts) (flag_in OnePool parts)

abbrev pub exec_line : List Part → List ℕ → Line
exec_line parts file = Exec file (limits_in parts) (flag_in OnePool parts) (number_in Steps parts)

abbrev pub run_line : List Part → List ℕ → Line
run_line parts file = Run file (number_in Steps parts)

abbrev pub ref_line : List Part → List ℕ → Line
ref_line parts file = Ref file (number_in Steps parts)

abbrev pub graph_line : List Part → List ℕ → Line
graph_line parts file = Graph file

-- a line has a file
abbrev pub line_from : (List Part → List ℕ → Line) → Option (List Part) → Line
line_from make None = NoLine
line_from make (Some parts) = option_map_or (make parts) (part_at (codes "file") parts) NoLine

abbrev pub command_line : (List Part → List ℕ → Line) → List Choice → List (List ℕ) → Line
command_line make choices words = line_from make (words_joined choices words None [])

abbrev pub line_of : List (List ℕ) → Line
line_of [] = NoCommand
line_of (name ∷ []) = NoCommand
line_of (name ∷ command ∷ words) =
    if bytes_eq (codes "build") command then command_line build_line build_choices words
    else if bytes_eq (codes "exec") command then command_line exec_line exec_choices words
    else if bytes_eq (codes "run") command then command_line run_line run_choices words
    else if bytes_eq (codes "ref") command then command_line ref_line run_choices words
    else if bytes_eq (codes "graph") command then command_line graph_line graph_choices words
    else NoCommand
