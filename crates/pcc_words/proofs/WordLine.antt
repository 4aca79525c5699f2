-- What `clap` makes of a whole command line.
use Rattle.std.proofs.Common.{◌≡◌, ◌∙◌, ◌&&◌, ◌||◌, Bool, cond, true, false, not, refl, sym, ap, ap₂, List, [], ◌∷◌, map, Option, Some, None, codes, is_some}
use Rattle.std.specs.Prelude.{find, fold, option_map, option_and_then, slice_get}
use Rattle.std.specs.Option.{option_map_or}
use Rattle.std.specs.List.{list_all, list_any}
use Rattle.std.specs.Str.{bytes_eq}
use Rattle.clap.specs.Kinds.{Kinds, or_else}
use Rattle.clap.specs.Facts.{explicit_source}
use Rattle.clap.specs.Takes.{is_given}
use Rattle.clap.specs.Walk.{Held, Row, Rule, Text, default_rows, finished, first_of, has_row, is_empty, nothing_held, one_of, reading_by, row_text, rows_after, walk_from, walked, with_default}
use Rattle.clap.specs.Faults.{check_fault, default_fault, defaults_fault, given_default_fault, level_fault, settle_fault, walk_fault}
use Rattle.clap.specs.Simple.{Shape}
use Rattle.clap.specs.declared.error.kind.ErrorKind.TheVariants.{MissingRequiredArgument}
use Rattle.clap.proofs.WalkLemmas.{both, find-map}
use Rattle.clap.proofs.SimpleLemmas.{is_nil}
use Rattle.pcc_words.specs.Line.{Choice, Part, part_at, words_joined}
use Rattle.pcc_words.proofs.WordRules.{built_choice, built_shape, row_with, rows_with, rules_with, some_kind}
use Rattle.pcc_words.proofs.WordWalk.{Agrees, end_rows, total}
use Rattle.pcc_words.proofs.WordTurns.{AllText, words_end}

-- ---- no argument has a default

abbrev pub has_no_defaults : List Rule → Bool
has_no_defaults c = list_all (λ a. is_empty a.defaults) c

or_true : (b : Bool) → (b || true) ≡ true
or_true true = refl
or_true false = refl

no_default : (a : Rule) (rows : List Row) → is_empty a.defaults ≡ true → (default_fault rows a ≡ []) × (with_default rows a ≡ rows)
no_default a rows e = (
  ap (λ b. cond (has_row a.id rows || b) [] (given_default_fault a a.defaults)) e ∙ ap (λ b. cond b [] (given_default_fault a a.defaults)) (or_true (has_row a.id rows)),
  ap (λ (vs : List Text). cond (has_row a.id rows) rows (default_rows a.id (reading_by a) vs rows)) (is_nil a.defaults e) ∙ same (has_row a.id rows),
)
  where
    same : (b : Bool) → cond b rows rows ≡ rows
    same true = refl
    same false = refl

no_defaults : (c : List Rule) (rows : List Row) → has_no_defaults c ≡ true → (defaults_fault rows c ≡ []) × (fold with_default rows c ≡ rows)
unfolding defaults_fault
no_defaults [] rows e = (refl, refl)
no_defaults (a ∷ c) rows e =
    let parts = both (is_empty a.defaults) (has_no_defaults c) e in
    let one = no_default a rows parts.0 in
    let rest = no_defaults c rows parts.1 in (
      ap₂ (λ k rs. or_else k (defaults_fault rs c)) one.0 one.1 ∙ rest.0,
      ap (λ rs. fold with_default rs c) one.1 ∙ rest.1,
    )

choices_default : (choices : List Choice) → has_no_defaults (map built_choice choices) ≡ true
choices_default [] = refl
choices_default (s ∷ ss) = choices_default ss

-- ---- the file is required

part_row : (label : Text) (parts : List Part) → find (λ (r : Row). bytes_eq r.id label) (rows_with parts) ≡ option_map row_with (find (λ (p : Part). bytes_eq p.label label) parts)
part_row label parts = sym (find-map (λ (r : Row). bytes_eq r.id label) row_with parts)

file_given : (parts : List Part) → is_given (codes "file") (rows_with parts) ≡ is_some (part_at (codes "file") parts)
file_given parts = ap (λ o. option_map_or (λ (r : Row). explicit_source r.source) o false) (part_row (codes "file") parts) ∙ go (find (λ (p : Part). bytes_eq p.label (codes "file")) parts)
  where
    go : (o : Option Part) → option_map_or (λ (r : Row). explicit_source r.source) (option_map row_with o) false ≡ is_some (option_map (λ (p : Part). p.value) o)
    go None = refl
    go (Some p) = refl

pub first_part : (label : Text) (parts : List Part) → first_of label (rows_with parts) ≡ part_at label parts
first_part label parts = ap (λ o. option_and_then (λ (r : Row). slice_get r.values 0) o) (part_row label parts) ∙ go (find (λ (p : Part). bytes_eq p.label label) parts)
  where
    go : (o : Option Part) → option_and_then (λ (r : Row). slice_get r.values 0) (option_map row_with o) ≡ option_map (λ (p : Part). p.value) o
    go None = refl
    go (Some p) = refl

pub one_part : (label : Text) (parts : List Part) → one_of label (rows_with parts) ≡ part_at label parts
one_part label parts = ap (λ o. option_and_then row_text o) (part_row label parts) ∙ go (find (λ (p : Part). bytes_eq p.label label) parts)
  where
    go : (o : Option Part) → option_and_then row_text (option_map row_with o) ≡ option_map (λ (p : Part). p.value) o
    go None = refl
    go (Some p) = refl

module _ (name : Text) (choices : List Choice) where
  abbrev shape : Shape
  shape = built_shape name choices

  abbrev rules : List Rule
  rules = rules_with choices

  none_required : (rows : List Row) (ss : List Choice) → list_any (λ (a : Rule). a.required && not (is_given a.id rows)) (map built_choice ss) ≡ false
  none_required rows [] = refl
  none_required rows (s ∷ ss) = none_required rows ss

  check_is : (rows : List Row) → check_fault shape rows false ≡ cond (not (is_given (codes "file") rows)) (MissingRequiredArgument ∷ []) []
  check_is rows = ap (λ b. cond (not (is_given (codes "file") rows) || b) (MissingRequiredArgument ∷ []) []) (none_required rows choices) ∙ go (is_given (codes "file") rows)
    where
      go : (b : Bool) → ◌≡◌ {A = Kinds} (cond (not b || false) (MissingRequiredArgument ∷ []) []) (cond (not b) (MissingRequiredArgument ∷ []) [])
      go true = refl
      go false = refl

  split : (a b : Kinds) (rest : Kinds) → or_else a (or_else b rest) ≡ or_else (or_else a b) rest
  split [] b rest = refl
  split (k ∷ ks) b rest = refl

  abbrev end : List Text → Held
  end words = (fold (walked rules []) (walk_from nothing_held) words).held

  -- the faults of a level: those of the words, and then a missing file
  level_is : (words : List Text) → level_fault shape [] nothing_held words false []
      ≡ or_else (total shape (walk_from nothing_held) words) (cond (not (is_given (codes "file") (end_rows shape (walk_from nothing_held) words))) (MissingRequiredArgument ∷ []) [])
  level_is words =
      let rows : List Row = end_rows shape (walk_from nothing_held) words in
      let plain = no_defaults rules rows (choices_default choices) in
      split (walk_fault shape [] (walk_from nothing_held) words) (settle_fault rules false (end words)) (or_else (defaults_fault rows rules) (check_fault shape (finished rules (end words)) false))
      ∙ ap₂ (λ k rs. or_else (total shape (walk_from nothing_held) words) (or_else k (check_fault shape rs false))) plain.0 plain.1
      ∙ ap (λ k. or_else (total shape (walk_from nothing_held) words) k) (check_is rows)

  rows_are : (words : List Text) → rows_after rules [] words ≡ end_rows shape (walk_from nothing_held) words
  rows_are words = (no_defaults rules (end_rows shape (walk_from nothing_held) words) (choices_default choices)).1

  -- the line of the words, where they have one; the level agrees with it
  abbrev pub LevelSays : Option (List Part) → Kinds → List Row → Type 0
  LevelSays None kinds rows = kinds ≡ [] → ⊥
  LevelSays (Some parts) kinds rows = (is_some (part_at (codes "file") parts) ≡ true → (kinds ≡ []) × (rows ≡ rows_with parts)) × (is_some (part_at (codes "file") parts) ≡ false → kinds ≡ [] → ⊥)

  pub level_says : (words : List Text) → AllText words → LevelSays (words_joined choices words None []) (level_fault shape [] nothing_held words false []) (rows_after rules [] words)
  level_says words texts = go (words_joined choices words None []) (words_end name choices words texts)
    where
      first_none : (a b : Kinds) → or_else a b ≡ [] → a ≡ []
      first_none [] b e = refl
      first_none (k ∷ ks) b e = e

      go : (r : Option (List Part)) → Agrees r (total shape (walk_from nothing_held) words) (end_rows shape (walk_from nothing_held) words)
          → LevelSays r (level_fault shape [] nothing_held words false []) (rows_after rules [] words)
      go None h = λ none. h (first_none _ _ (sym (level_is words) ∙ none))
      go (Some parts) h = (
        λ given. (level_is words ∙ faults ∙ ap (λ b. cond (not b) (MissingRequiredArgument ∷ []) []) given, rows_are words ∙ h.1),
        λ missing none. some_kind _ (MissingRequiredArgument ∷ []) (level_is words ∙ faults ∙ ap (λ b. cond (not b) (MissingRequiredArgument ∷ []) []) missing) refl none,
      )
        where
          faults : or_else (total shape (walk_from nothing_held) words) (cond (not (is_given (codes "file") (end_rows shape (walk_from nothing_held) words))) (MissingRequiredArgument ∷ []) [])
              ≡ cond (not (is_some (part_at (codes "file") parts))) (MissingRequiredArgument ∷ []) []
          faults = ap₂ (λ k rs. or_else k (cond (not (is_given (codes "file") rs)) (MissingRequiredArgument ∷ []) [])) h.0 h.1
              ∙ ap (λ b. cond (not b) (MissingRequiredArgument ∷ []) []) (file_given parts)
