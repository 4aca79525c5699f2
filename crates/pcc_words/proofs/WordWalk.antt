-- The walk of `clap` over the words behind a command, and the parts of a line.
use Rattle.std.proofs.Common.{◌≡◌, ◌∙◌, ◌&&◌, ◌||◌, ℕ, Bool, cond, true, false, not, refl, sym, ap, subst, List, [], ◌∷◌, ◌++◌, Option, Some, None, codes}
use Rattle.std.specs.Prelude.{fold, option_and_then}
use Rattle.std.specs.Option.{option_map_or}
use Rattle.std.proofs.lemmas.List.{map-append}
use Rattle.clap.specs.Values.{reading_of}
use Rattle.clap.specs.ValueTests.{accepts}
use Rattle.clap.specs.Kinds.{Kinds, or_else}
use Rattle.clap.specs.Walk.{Held, Row, Rule, Text, Waiting, Walk, idle, arg_by_id, arg_by_index, is_pending, pushed, settled, to_positional, used, used_by_id, value, walked}
use Rattle.clap.specs.Faults.{positional_fault, settle_fault, step_fault, stray_fault, turn_fault, use_fault, walk_fault}
use Rattle.clap.specs.Simple.{Shape}
use Rattle.clap.specs.declared.builder.value_parser.ValueParser.{ValueParser}
use Rattle.clap.specs.declared.builder.value_parser.ValueParser.TheVariants.{String}
use Rattle.clap.specs.declared.builder.value_parser.Reading.{Reading}
use Rattle.clap.specs.declared.builder.value_parser.Reading.TheVariants.{AsWritten}
use Rattle.clap.specs.declared.parser.matches.ValueSource.TheVariants.{CommandLine}
use Rattle.pcc_words.specs.Line.{Choice, Part, choice_name, file_joined, files_joined, has_part, joined}
use Rattle.pcc_words.proofs.WordRules.{and_false, or_true, no_file, by_second, built_file, built_shape, rules_with, plain_rule, has_part_after, has_rows, row_with, rows_with, some_kind, use_again, use_right, use_wrong, used_new}

-- ---- what the words have come to

-- the parts, or none where they are no line; what is held in the walk agrees
abbrev pub Holds : List Choice → Option (List Part) → Held → Type 0
Holds choices None h = (h.skip ≡ 0) × (settle_fault (rules_with choices) false h ≡ [] → ⊥)
Holds choices (Some parts) h = (h.skip ≡ 0) × (settle_fault (rules_with choices) false h ≡ []) × ((settled (rules_with choices) h).rows ≡ rows_with parts)

-- whether the file was given
abbrev pub IsFull : Option (List Part) → Bool → Type 0
IsFull None full = Unit {0}
IsFull (Some parts) full = has_part (codes "file") parts ≡ full

-- the end of the walk agrees: its faults and its rows
abbrev pub Agrees : Option (List Part) → Kinds → List Row → Type 0
Agrees None kinds rows = kinds ≡ [] → ⊥
Agrees (Some parts) kinds rows = (kinds ≡ []) × (rows ≡ rows_with parts)

pub agrees_as : (r : Option (List Part)) (k k' : Kinds) (rows rows' : List Row) → k ≡ k' → rows ≡ rows' → Agrees r k' rows' → Agrees r k rows
agrees_as None k k' rows rows' e f h = λ none. h (sym e ∙ none)
agrees_as (Some parts) k k' rows rows' e f h = (e ∙ h.0, f ∙ h.1)

pub agrees_none : (r : Option (List Part)) (k : Kinds) (rows : List Row) → r ≡ None → (k ≡ [] → ⊥) → Agrees r k rows
agrees_none r k rows e h = subst (λ o. Agrees o k rows) (sym e) h

abbrev pub total : Shape → Walk → List Text → Kinds
total s w words = or_else (walk_fault s [] w words) (settle_fault s.rules false (fold (walked s.rules []) w words).held)

abbrev pub end_rows : Shape → Walk → List Text → List Row
end_rows s w words = (settled s.rules (fold (walked s.rules []) w words).held).rows

first_none : (a b : Kinds) → or_else a b ≡ [] → a ≡ []
first_none [] b e = refl
first_none (k ∷ ks) b e = e

total_next : (s : Shape) (w : Walk) (word : Text) (words : List Text)
    → total s w (word ∷ words) ≡ or_else (or_else (turn_fault s [] w word) (walk_fault s [] (walked s.rules [] w word) words)) (settle_fault s.rules false (fold (walked s.rules []) (walked s.rules [] w word) words).held)
unfolding walk_fault
total_next s w word words = refl

pub total_ends : (s : Shape) (w : Walk) → total s w [] ≡ settle_fault s.rules false w.held
unfolding walk_fault
total_ends s w = refl

pub refuses : (s : Shape) (w : Walk) (word : Text) (words : List Text) → (turn_fault s [] w word ≡ [] → ⊥) → total s w (word ∷ words) ≡ [] → ⊥
refuses s w word words h none = h (first_none _ _ (first_none _ _ (sym (total_next s w word words) ∙ none)))

pub goes_on : (s : Shape) (w next : Walk) (word : Text) (words : List Text) (r : Option (List Part)) → turn_fault s [] w word ≡ [] → walked s.rules [] w word ≡ next
    → Agrees r (total s next words) (end_rows s next words) → Agrees r (total s w (word ∷ words)) (end_rows s w (word ∷ words))
goes_on s w next word words r turn is h =
    agrees_as r _ _ _ _
    (total_next s w word words
    ∙ ap (λ k. or_else (or_else k (walk_fault s [] (walked s.rules [] w word) words)) (settle_fault s.rules false (fold (walked s.rules []) (walked s.rules [] w word) words).held)) turn
    ∙ ap (λ (n : Walk). total s n words) is)
    (ap (λ (n : Walk). end_rows s n words) is) h

abbrev pub standing : Held → Waiting → Bool → Bool → Walk
standing h waiting full trailing = record { held = h; waiting = waiting; position = cond full 2 1; is_trailing = trailing; stopped = None }

-- a value that is held and not yet settled
abbrev pub valued : Text → Text → List Row → Held
valued id v rows = record { rows = rows; pending = Some (id, v ∷ []); skip = 0 }

-- ---- parts

module _ (choices : List Choice) where
  abbrev rules : List Rule
  rules = rules_with choices

  module _ (id : Text) (long : Option Text) (index : Option ℕ) (parser : ValueParser) (required : Bool) where
    abbrev rule : Rule
    rule = plain_rule id long index parser required

    -- the rows after a use that passes
    pub rows_after_use : (v : Text) (parts : List Part) → reading_of parser ≡ AsWritten → has_part id parts ≡ false
        → used rule (v ∷ []) (rows_with parts) ≡ rows_with (parts ++ record { label = id; value = v } ∷ [])
    rows_after_use v parts how e =
        used_new id long index parser required v (rows_with parts) (has_rows id parts ∙ e)
        ∙ ap (λ (r : Reading). rows_with parts ++ record { id = id; values = v ∷ []; count = None; source = Some CommandLine; reading = r } ∷ []) how
        ∙ sym (map-append row_with parts _)

    -- a value that waits to be settled
    pub holds_pending : (v : Text) (parts : List Part) (rows : List Row) → reading_of parser ≡ AsWritten → arg_by_id rules id ≡ Some rule → rows ≡ rows_with parts
        → Holds choices (joined (accepts false parser v) id v parts) (valued id v rows)
    holds_pending v parts rows how found same = go (has_part id parts) (accepts false parser v) refl refl
      where
        faults : settle_fault rules false (valued id v rows) ≡ use_fault false rule (v ∷ []) (rows_with parts)
        faults = ap (λ o. option_map_or (λ a. use_fault false a (v ∷ []) rows) o []) found ∙ ap (λ rs. use_fault false rule (v ∷ []) rs) same

        rows_are : (settled rules (valued id v rows)).rows ≡ used rule (v ∷ []) (rows_with parts)
        rows_are = ap (λ o. used_by_id o (v ∷ []) rows) found ∙ ap (λ rs. used rule (v ∷ []) rs) same

        go : (b d : Bool) → has_part id parts ≡ b → accepts false parser v ≡ d
            → Holds choices (cond (not b && d) (Some (parts ++ record { label = id; value = v } ∷ [])) None) (valued id v rows)
        go true d e a = (refl, λ none. use_again id long index parser required v (rows_with parts) (has_rows id parts ∙ e) (sym faults ∙ none))
        go false true e a = (refl, faults ∙ use_right id long index parser required v (rows_with parts) (has_rows id parts ∙ e) a, rows_are ∙ rows_after_use v parts how e)
        go false false e a = (refl, λ none. use_wrong id long index parser required v (rows_with parts) (has_rows id parts ∙ e) a (sym faults ∙ none))

  full_after : (ok : Bool) (v : Text) (parts : List Part) → IsFull (joined ok (codes "file") v parts) true
  full_after ok v parts = go (not (has_part (codes "file") parts) && ok)
    where
      go : (b : Bool) → IsFull (cond b (Some (parts ++ record { label = codes "file"; value = v } ∷ [])) None) true
      go true = has_part_after (codes "file") (codes "file") v parts ∙ or_true (has_part (codes "file") parts)
      go false = tt

  pub full_kept : (ok : Bool) (s : Choice) (v : Text) (parts : List Part) (full : Bool) → has_part (codes "file") parts ≡ full → IsFull (joined ok (choice_name s) v parts) full
  full_kept ok s v parts full e = go (not (has_part (choice_name s) parts) && ok)
    where
      or_none : (b : Bool) → (b || false) ≡ b
      or_none true = refl
      or_none false = refl

      go : (b : Bool) → IsFull (cond b (Some (parts ++ record { label = choice_name s; value = v } ∷ [])) None) full
      go true = has_part_after (codes "file") (choice_name s) v parts ∙ ap (λ b. has_part (codes "file") parts || (b || false)) (no_file s) ∙ or_none _ ∙ e
      go false = tt

  pub joined_again : (ok : Bool) (id v : Text) (parts : List Part) → has_part id parts ≡ true → joined ok id v parts ≡ None
  joined_again ok id v parts e = ap (λ b. cond (not b && ok) (Some (parts ++ record { label = id; value = v } ∷ [])) None) e

  pub joined_wrong : (ok : Bool) (id v : Text) (parts : List Part) → ok ≡ false → joined ok id v parts ≡ None
  joined_wrong ok id v parts e =
      ap (λ b. cond (not (has_part id parts) && b) (Some (parts ++ record { label = id; value = v } ∷ [])) None) e
      ∙ ap (λ b. cond b (Some (parts ++ record { label = id; value = v } ∷ [])) None) (and_false (not (has_part id parts)))

  pub joined_right : (ok : Bool) (id v : Text) (parts : List Part) → has_part id parts ≡ false → ok ≡ true
      → joined ok id v parts ≡ Some (parts ++ record { label = id; value = v } ∷ [])
  joined_right ok id v parts e a = rw (e, a) refl

  -- ---- a word that is a file

  module _ (name : Text) where
    abbrev shape : Shape
    shape = built_shape name choices

    positional_is : (h : Held) → positional_fault rules false built_file h ≡ settle_fault rules false h
    positional_is h = ap (λ b. cond b [] (settle_fault rules false h)) (and_false (is_pending built_file h.pending))

    file_next : (h : Held) (waiting : Waiting) (trailing : Bool) (word : Text)
        → to_positional rules (Some built_file) word (standing h waiting false trailing) h ≡ standing (record { rows = (settled rules h).rows; pending = Some (codes "file", word ∷ []); skip = h.skip }) idle true (trailing || false)
    file_next h waiting trailing word =
        ap (λ b. standing (pushed (codes "file") word (cond b h (settled rules h))) idle true (trailing || false)) (and_false (is_pending built_file h.pending))

    -- the word goes to the file, and the walk goes on
    pub file_word : (h : Held) (waiting : Waiting) (full trailing : Bool) (word : Text) (words : List Text) (r : Option (List Part)) (f : List Part → Option (List Part))
        → Holds choices r h → IsFull r full
        → turn_fault shape [] (standing h waiting full trailing) word ≡ step_fault shape (cond full 2 1) h value
        → walked rules [] (standing h waiting full trailing) word ≡ to_positional rules (arg_by_index rules (cond full 2 1)) word (standing h waiting full trailing) h
        → ((q : Option (List Part)) (k : Held) → Holds choices q k → IsFull q true → Agrees (option_and_then f q) (total shape (standing k idle true (trailing || false)) words) (end_rows shape (standing k idle true (trailing || false)) words))
        → Agrees (option_and_then (λ parts. option_and_then f (file_joined word parts)) r) (total shape (standing h waiting full trailing) (word ∷ words)) (end_rows shape (standing h waiting full trailing) (word ∷ words))
    file_word h waiting true trailing word words r f holds is_full turn next on =
        agrees_none _ _ _ (none r is_full) (refuses shape _ word words
        (some_kind _ _ (turn ∙ ap (λ o. option_map_or (λ a. positional_fault rules false a h) o (stray_fault shape)) (by_second choices)) refl))
      where
        none : (q : Option (List Part)) → IsFull q true → option_and_then (λ parts. option_and_then f (file_joined word parts)) q ≡ None
        none None e = refl
        none (Some parts) e = ap (λ o. option_and_then f o) (joined_again true (codes "file") word parts e)
    file_word h waiting false trailing word words None f holds is_full turn next on =
        refuses shape _ word words (λ none. holds.1 (sym (positional_is h) ∙ sym turn ∙ none))
    file_word h waiting false trailing word words (Some parts) f holds is_full turn next on =
        goes_on shape _ _ word words _ (turn ∙ positional_is h ∙ holds.1) (next ∙ file_next h waiting trailing word)
        (on (file_joined word parts) _ held (full_after true word parts))
      where
        held : Holds choices (file_joined word parts) (record { rows = (settled rules h).rows; pending = Some (codes "file", word ∷ []); skip = h.skip })
        held = subst (λ n. Holds choices (file_joined word parts) (record { rows = (settled rules h).rows; pending = Some (codes "file", word ∷ []); skip = n })) (sym holds.0)
            (holds_pending (codes "file") None (Some 1) String true word parts (settled rules h).rows refl refl holds.2)

    walked_trailing : (h : Held) (waiting : Waiting) (full : Bool) (word : Text)
        → walked rules [] (standing h waiting full true) word ≡ to_positional rules (arg_by_index rules (cond full 2 1)) word (standing h waiting full true) h
    unfolding walked
    walked_trailing h waiting full word = refl

    -- behind `--`
    pub trailing_ok : (words : List Text) (r : Option (List Part)) (h : Held) (waiting : Waiting) (full : Bool) → Holds choices r h → IsFull r full
        → Agrees (option_and_then (files_joined words) r) (total shape (standing h waiting full true) words) (end_rows shape (standing h waiting full true) words)
    trailing_ok [] None h waiting full holds is_full = λ none. holds.1 (sym (total_ends shape (standing h waiting full true)) ∙ none)
    trailing_ok [] (Some parts) h waiting full holds is_full = (total_ends shape (standing h waiting full true) ∙ holds.1, holds.2)
    trailing_ok (word ∷ words) r h waiting full holds is_full =
        file_word h waiting full true word words r (files_joined words) holds is_full refl (walked_trailing h waiting full word)
        (λ q k held after. trailing_ok words q k idle true held after)
