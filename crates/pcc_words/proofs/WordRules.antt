-- The arguments of the commands as `clap` builds them, and what it finds among them.
use Rattle.std.proofs.Common.{◌≡◌, ◌∙◌, ◌&&◌, ◌||◌, ◌==◌, ℕ, Bool, cond, true, false, not, refl, sym, ap, List, [], ◌∷◌, ◌++◌, map, append-nil, Option, Some, None, true≢false, codes, is_some}
use Rattle.std.specs.Prelude.{find, option_map, unwrap_or}
use Rattle.std.specs.Option.{option_map_or}
use Rattle.std.specs.Str.{bytes_eq}
use Rattle.std.proofs.lemmas.List.Folds.{list_any-append}
use Rattle.clap.specs.Values.{reading_of}
use Rattle.clap.specs.ValueTests.{accepts}
use Rattle.clap.specs.Kinds.{Kinds}
use Rattle.clap.specs.Walk.{Row, Rule, Text, arg_by_id, arg_by_index, arg_by_long, arg_by_short, at_row, has_long, has_row, has_short, more_values, used, with_values}
use Rattle.clap.specs.Faults.{use_fault}
use Rattle.clap.specs.Simple.{Shape, new_shape}
use Rattle.clap.specs.declared.builder.action.ArgAction.TheVariants.{Set}
use Rattle.clap.specs.declared.builder.value_parser.ValueParser.{ValueParser}
use Rattle.clap.specs.declared.builder.value_parser.ValueParser.TheVariants.{String, Unsigned}
use Rattle.clap.specs.declared.parser.matches.ValueSource.TheVariants.{CommandLine}
use Rattle.clap.specs.declared.builder.value_parser.Reading.TheVariants.{AsWritten}
use Rattle.clap.proofs.WalkLemmas.{list_any-map}
use Rattle.pcc_words.specs.Line.{Choice, Numbered, Flagged, Flag, OnePool, Part, Setting, Slabs, Index, Steps, choice_name, choice_named, flag_name, has_part, most_of, name_of}

-- an argument with one value a use
abbrev pub plain_rule : Text → Option Text → Option ℕ → ValueParser → Bool → Rule
plain_rule id long index parser required = record {
  id = id;
  long = long;
  aliases = [];
  short = None;
  short_aliases = [];
  index = index;
  action = Some Set;
  range = Some (record { start_inclusive = 1; end_inclusive = 1 });
  value_names = 0;
  defaults = [];
  missing = [];
  trailing_var_arg = false;
  parser = Some parser;
  ignore_case = false;
  required = required;
  is_simple = true;
  is_free = true;
}

abbrev pub built_file : Rule
built_file = plain_rule (codes "file") None (Some 1) String true

-- how many values an option takes
abbrev pub count_of : Choice → ℕ
count_of (Numbered setting) = 1
count_of (Flagged flag) = 0

-- the values of a use with none
abbrev pub missing_of : Choice → List Text
missing_of (Numbered setting) = []
missing_of (Flagged flag) = codes "true" ∷ []

abbrev pub parser_of : Choice → ValueParser
parser_of (Numbered setting) = Unsigned 1 (most_of setting)
parser_of (Flagged flag) = String

abbrev pub built_choice : Choice → Rule
built_choice choice = record (plain_rule (choice_name choice) (Some (choice_name choice)) None (parser_of choice) false) {
  range = Some (record { start_inclusive = count_of choice; end_inclusive = count_of choice });
  missing = missing_of choice;
}

abbrev pub rules_with : List Choice → List Rule
rules_with choices = built_file ∷ map built_choice choices

abbrev pub built_shape : Text → List Choice → Shape
built_shape name choices = record (new_shape name) { rules = rules_with choices; disable_help_flag = true; disable_help_subcommand = true; is_built = true }

pub some≢none : {X : Type 0} (x : X) → Some x ≡ None → ⊥
some≢none x e = true≢false (ap (λ o. is_some o) e)

pub some-same : {X : Type 0} (x y : X) → Some x ≡ Some y → x ≡ y
some-same x y e = ap (λ o. unwrap_or o x) e

pub and_false : (b : Bool) → (b && false) ≡ false
and_false true = refl
and_false false = refl

pub or_true : (b : Bool) → (b || true) ≡ true
or_true true = refl
or_true false = refl

or_false : (a b : Bool) → (a || b) ≡ false → (a ≡ false) × (b ≡ false)
or_false true b e = absurd (true≢false e)
or_false false b e = (refl, e)

-- ---- names

pub own_name : (s : Setting) → bytes_eq (name_of s) (name_of s) ≡ true
own_name Slabs = refl
own_name Index = refl
own_name Steps = refl

pub flag_own_name : (f : Flag) → bytes_eq (flag_name f) (flag_name f) ≡ true
flag_own_name OnePool = refl

choice_own_name : (c : Choice) → bytes_eq (choice_name c) (choice_name c) ≡ true
choice_own_name (Numbered s) = own_name s
choice_own_name (Flagged f) = flag_own_name f

pub not_file : (c : Choice) → bytes_eq (codes "file") (choice_name c) ≡ false
not_file (Numbered Slabs) = refl
not_file (Numbered Index) = refl
not_file (Numbered Steps) = refl
not_file (Flagged OnePool) = refl

pub no_file : (c : Choice) → bytes_eq (choice_name c) (codes "file") ≡ false
no_file (Numbered Slabs) = refl
no_file (Numbered Index) = refl
no_file (Numbered Steps) = refl
no_file (Flagged OnePool) = refl

no_flag : (s : Setting) (f : Flag) → bytes_eq (name_of s) (flag_name f) ≡ false
no_flag Slabs OnePool = refl
no_flag Index OnePool = refl
no_flag Steps OnePool = refl

pub no_setting : (f : Flag) (s : Setting) → bytes_eq (flag_name f) (name_of s) ≡ false
no_setting OnePool Slabs = refl
no_setting OnePool Index = refl
no_setting OnePool Steps = refl

pub same_name : (a b : Setting) → bytes_eq (name_of a) (name_of b) ≡ true → a ≡ b
same_name Slabs Slabs e = refl
same_name Slabs Index e = absurd (true≢false (sym e))
same_name Slabs Steps e = absurd (true≢false (sym e))
same_name Index Slabs e = absurd (true≢false (sym e))
same_name Index Index e = refl
same_name Index Steps e = absurd (true≢false (sym e))
same_name Steps Slabs e = absurd (true≢false (sym e))
same_name Steps Index e = absurd (true≢false (sym e))
same_name Steps Steps e = refl

same_flag : (a b : Flag) → bytes_eq (flag_name a) (flag_name b) ≡ true → a ≡ b
same_flag OnePool OnePool e = refl

same_choice : (a b : Choice) → bytes_eq (choice_name a) (choice_name b) ≡ true → a ≡ b
same_choice (Numbered s) (Numbered t) e = ap (λ x. Numbered x) (same_name s t e)
same_choice (Numbered s) (Flagged f) e = absurd (true≢false (sym e ∙ no_flag s f))
same_choice (Flagged f) (Numbered s) e = absurd (true≢false (sym e ∙ no_setting f s))
same_choice (Flagged f) (Flagged g) e = ap (λ x. Flagged x) (same_flag f g e)

-- ---- look-ups

pub by_long : (choices : List Choice) (name : Text) → arg_by_long (rules_with choices) name ≡ option_map built_choice (choice_named choices name)
by_long choices name = among choices
  where
    among : (ss : List Choice) → find (λ (a : Rule). not (is_some a.index) && has_long a name) (map built_choice ss) ≡ option_map built_choice (choice_named ss name)
    among [] = refl
    among (s ∷ ss) = go (bytes_eq (choice_name s) name) (among ss)
      where
        go : (b : Bool) → find (λ (a : Rule). not (is_some a.index) && has_long a name) (map built_choice ss) ≡ option_map built_choice (choice_named ss name)
            → cond (b || false) (Some (built_choice s)) (find (λ (a : Rule). not (is_some a.index) && has_long a name) (map built_choice ss))
            ≡ option_map built_choice (cond b (Some s) (choice_named ss name))
        go true e = refl
        go false e = e

pub by_short : (choices : List Choice) (x : ℕ) → arg_by_short (rules_with choices) x ≡ None
by_short choices x = among choices
  where
    among : (ss : List Choice) → find (λ (a : Rule). not (is_some a.index) && has_short a x) (map built_choice ss) ≡ None
    among [] = refl
    among (s ∷ ss) = among ss

pub by_second : (choices : List Choice) → arg_by_index (rules_with choices) 2 ≡ None
by_second choices = among choices
  where
    among : (ss : List Choice) → find (λ (a : Rule). option_map_or (λ k. k == 2) a.index false) (map built_choice ss) ≡ None
    among [] = refl
    among (s ∷ ss) = among ss

id_among : (choices : List Choice) (s : Choice) (name : Text) → choice_named choices name ≡ Some s
    → find (λ (a : Rule). bytes_eq a.id (choice_name s)) (map built_choice choices) ≡ Some (built_choice s)
id_among [] s name e = absurd (some≢none s (sym e))
id_among (t ∷ ts) s name e = go (bytes_eq (choice_name t) (choice_name s)) (bytes_eq (choice_name t) name) refl e (id_among ts s name)
  where
    go : (b d : Bool) → bytes_eq (choice_name t) (choice_name s) ≡ b → cond d (Some t) (choice_named ts name) ≡ Some s
        → (choice_named ts name ≡ Some s → find (λ (a : Rule). bytes_eq a.id (choice_name s)) (map built_choice ts) ≡ Some (built_choice s))
        → cond b (Some (built_choice t)) (find (λ (a : Rule). bytes_eq a.id (choice_name s)) (map built_choice ts)) ≡ Some (built_choice s)
    go true d eq e ih = ap (λ x. Some (built_choice x)) (same_choice t s eq)
    go false true eq e ih =
        absurd (true≢false (sym (choice_own_name s) ∙ ap (λ x. bytes_eq (choice_name x) (choice_name s)) (sym (some-same t s e)) ∙ eq))
    go false false eq e ih = ih e

pub by_id : (choices : List Choice) (s : Choice) (name : Text) → choice_named choices name ≡ Some s → arg_by_id (rules_with choices) (choice_name s) ≡ Some (built_choice s)
by_id choices s name e =
    ap (λ b. cond b (Some built_file) (find (λ (a : Rule). bytes_eq a.id (choice_name s)) (map built_choice choices))) (not_file s) ∙ id_among choices s name e

-- ---- rows

abbrev pub row_with : Part → Row
row_with part = record { id = part.label; values = part.value ∷ []; count = None; source = Some CommandLine; reading = AsWritten }

abbrev pub rows_with : List Part → List Row
rows_with parts = map row_with parts

pub has_rows : (label : Text) (parts : List Part) → has_row label (rows_with parts) ≡ has_part label parts
has_rows label parts = sym (list_any-map (λ (r : Row). bytes_eq r.id label) row_with parts)

at_absent : (id : Text) (change : Row → List Row) (missing rows : List Row) → has_row id rows ≡ false → at_row id change missing rows ≡ rows ++ missing
at_absent id change missing [] e = refl
at_absent id change missing (r ∷ rs) e =
    let parts = or_false (bytes_eq r.id id) (has_row id rs) e in
    rw parts.0 (ap (λ xs. r ∷ xs) (at_absent id change missing rs parts.1))

pub has_part_after : (id label : Text) (v : Text) (parts : List Part)
    → has_part id (parts ++ record { label = label; value = v } ∷ []) ≡ (has_part id parts || (bytes_eq label id || false))
has_part_after id label v parts = list_any-append (λ (part : Part). bytes_eq part.label id) parts _

abbrev pub is_none : Kinds → Bool
is_none [] = true
is_none (k ∷ ks) = false

pub some_kind : (ks rest : Kinds) → ks ≡ rest → is_none rest ≡ false → ks ≡ [] → ⊥
some_kind ks rest e some none = true≢false (ap is_none (sym none ∙ e) ∙ some)

module _ (id : Text) (long : Option Text) (index : Option ℕ) (parser : ValueParser) (required : Bool) where
  abbrev rule : Rule
  rule = plain_rule id long index parser required

  pub used_new : (v : Text) (rows : List Row) → has_row id rows ≡ false
      → used rule (v ∷ []) rows ≡ rows ++ record { id = id; values = v ∷ []; count = None; source = Some CommandLine; reading = reading_of parser } ∷ []
  used_new v rows e =
      ap (λ rs. with_values id (reading_of parser) CommandLine (v ∷ []) rs) (at_absent id (λ _. []) [] rows e ∙ append-nil rows)
      ∙ at_absent id (more_values CommandLine (v ∷ [])) _ rows e

  pub use_right : (v : Text) (rows : List Row) → has_row id rows ≡ false → accepts false parser v ≡ true → use_fault false rule (v ∷ []) rows ≡ []
  use_right v rows e a = rw (e, a) refl

  pub use_again : (v : Text) (rows : List Row) → has_row id rows ≡ true → use_fault false rule (v ∷ []) rows ≡ [] → ⊥
  use_again v rows e none =
      let bad = rw e at none in
      some_kind _ _ refl refl bad

  pub use_wrong : (v : Text) (rows : List Row) → has_row id rows ≡ false → accepts false parser v ≡ false → use_fault false rule (v ∷ []) rows ≡ [] → ⊥
  use_wrong v rows e a none =
      let bad = rw (e, a) at none in
      some_kind _ _ refl refl bad
