-- The turns of `clap` over the words behind a command, and the parts that these are.
use Rattle.std.proofs.Common.{◌≡◌, ◌∙◌, Bool, cond, true, false, refl, sym, ap, ap₂, subst, List, [], ◌∷◌, length, Option, Some, None, codes}
use Rattle.std.specs.Prelude.{drop, encode_utf8, option_map, option_and_then}
use Rattle.std.specs.Option.{option_map_or}
use Rattle.std.specs.Str.{IsUtf8, bytes_eq}
use Rattle.clap.specs.Lexer.{long_of, short_of}
use Rattle.clap.specs.Kinds.{Kinds, or_else}
use Rattle.clap.specs.Walk.{Held, Row, Rule, Text, Waiting, Walk, idle, option, arg_by_id, arg_by_index, arg_by_long, nothing_held, settled, to_positional, used, value, walk_from, walked}
use Rattle.clap.specs.Faults.{bundle_fault, bundle_step_fault, flag_word_fault, flags_fault, long_fault, react_fault, settle_fault, short_fault, step_fault, turn_fault, use_fault}
use Rattle.clap.specs.Simple.{Shape}
use Rattle.clap.specs.declared.builder.value_parser.ValueParser.TheVariants.{String, Unsigned}
use Rattle.clap.specs.declared.error.kind.ErrorKind.TheVariants.{InvalidValue, TooManyValues, UnknownArgument}
use Rattle.pcc_words.specs.Line.{Choice, Numbered, Flagged, Flag, Look, Dashes, Named, Valued, Letters, Plain, Part, Setting, Wanting, choice_named, files_joined, flag_joined, flag_name, has_part, is_number, look_of, most_of, name_of, named_joined, setting_joined, valued_joined, word_joined, words_joined}
use Rattle.pcc_words.proofs.WordRules.{own_name, by_id, by_long, by_short, built_choice, built_shape, rules_with, has_rows, rows_with, some_kind, use_again, use_right, use_wrong}
use Rattle.pcc_words.proofs.WordLooks.{HasFlags, IsNoNumber, LooksLike, dashes, seen}
use Rattle.pcc_words.proofs.WordWalk.{Agrees, Holds, IsFull, agrees_none, end_rows, file_word, full_kept, goes_on, holds_pending, joined_again, joined_right, joined_wrong, refuses, rows_after_use, standing, total, total_ends, trailing_ok, valued}

abbrev pub AllText : List Text → Type 0
AllText [] = Unit {0}
AllText (word ∷ words) = IsUtf8 word × AllText words

abbrev pub waiting_for : Wanting → Waiting
waiting_for None = idle
waiting_for (Some s) = option (name_of s)

-- the option waits for its value
pub record Waits (choices : List Choice) (s : Setting) (parts : List Part) (h : Held) : Type 0 where
  pub found : arg_by_id (rules_with choices) (name_of s) ≡ Some (built_choice (Numbered s))
  pub skip : h.skip ≡ 0
  pub pending : h.pending ≡ Some (name_of s, [])
  pub rows : h.rows ≡ rows_with parts

abbrev pub Stands : List Choice → Wanting → Option (List Part) → Held → Type 0
Stands choices None r h = Holds choices r h
Stands choices (Some s) None h = ⊥
Stands choices (Some s) (Some parts) h = Waits choices s parts h

module _ (name : Text) (choices : List Choice) where
  abbrev rules : List Rule
  rules = rules_with choices

  abbrev shape : Shape
  shape = built_shape name choices

  abbrev at : Wanting → Held → Bool → Walk
  at want h full = standing h (waiting_for want) full false

  abbrev pub Reads : List Text → Wanting → Option (List Part) → Walk → Type 0
  Reads words want r w = Agrees (option_and_then (words_joined choices words want) r) (total shape w words) (end_rows shape w words)

  abbrev pub Follows : List Text → Type 0
  Follows words = (want : Wanting) (r : Option (List Part)) (h : Held) (full : Bool) → Stands choices want r h → IsFull r full → Reads words want r (at want h full)

  -- ---- turns

  abbrev flag_turn : Held → Text → Kinds
  flag_turn h word = flag_word_fault rules false (long_of word) word h

  turn_is : (want : Wanting) (h : Held) (full : Bool) (word : Text) → bytes_eq word dashes ≡ false → (flag_turn h word ≡ [] → ⊥)
      → turn_fault shape [] (at want h full) word ≡ [] → ⊥
  turn_is None h full word e h1 none = h1 (first _ _ (rw e at none))
    where
      first : (a b : Kinds) → or_else a b ≡ [] → a ≡ []
      first [] b e = refl
      first (k ∷ ks) b e = e
  turn_is (Some s) h full word e h1 none = h1 (first _ _ (rw e at none))
    where
      first : (a b : Kinds) → or_else a b ≡ [] → a ≡ []
      first [] b e = refl
      first (k ∷ ks) b e = e

  letters_fault : (h : Held) (word : Text) → h.skip ≡ 0 → long_of word ≡ None → HasFlags word → flag_turn h word ≡ [] → ⊥
  unfolding flags_fault
  letters_fault h word skip long f =
      some_kind _ _
      (ap (λ o. flag_word_fault rules false o word h) long
      ∙ ap (λ o. option_map_or (λ flags. bundle_fault rules false flags h) o []) f.short
      ∙ ap₂ (λ n k. flags_fault rules false n f.flags k (record h { skip = 0 })) f.size skip
      ∙ ap (λ o. bundle_step_fault rules false o f.flags 0 (record h { skip = 0 }) (flags_fault rules false f.less)) f.is_first
      ∙ ap (λ o. short_fault rules false o (drop (length (encode_utf8 f.first)) f.flags) (record h { skip = 0 }) (flags_fault rules false f.less (drop (length (encode_utf8 f.first)) f.flags) 0)) (by_short choices f.first)) refl

  unknown_fault : (h : Held) (word n : Text) (v : Option Text) → long_of word ≡ Some (n, v) → choice_named choices n ≡ None → flag_turn h word ≡ [] → ⊥
  unknown_fault h word n v long none =
      some_kind _ (UnknownArgument ∷ [])
      (ap (λ o. flag_word_fault rules false o word h) long
      ∙ ap (λ o. long_fault rules false o v h) (by_long choices n ∙ ap (option_map built_choice) none)) refl

  named_fault : (h : Held) (word n : Text) (s : Setting) → long_of word ≡ Some (n, None) → choice_named choices n ≡ Some (Numbered s) → flag_turn h word ≡ settle_fault rules false h
  named_fault h word n s long is =
      ap (λ o. flag_word_fault rules false o word h) long
      ∙ ap (λ o. long_fault rules false o None h) (by_long choices n ∙ ap (option_map built_choice) is)

  valued_fault : (h : Held) (word n v : Text) (s : Setting) → long_of word ≡ Some (n, Some v) → choice_named choices n ≡ Some (Numbered s)
      → flag_turn h word ≡ react_fault rules false (built_choice (Numbered s)) (v ∷ []) h
  valued_fault h word n v s long is =
      ap (λ o. flag_word_fault rules false o word h) long
      ∙ ap (λ o. long_fault rules false o (Some v) h) (by_long choices n ∙ ap (option_map built_choice) is)

  flag_fault : (h : Held) (word n : Text) (f : Flag) → long_of word ≡ Some (n, None) → choice_named choices n ≡ Some (Flagged f)
      → flag_turn h word ≡ react_fault rules false (built_choice (Flagged f)) [] h
  flag_fault h word n f long is =
      ap (λ o. flag_word_fault rules false o word h) long
      ∙ ap (λ o. long_fault rules false o None h) (by_long choices n ∙ ap (option_map built_choice) is)

  -- no flag takes a value
  valued_flag_fault : (h : Held) (word n v : Text) (f : Flag) → long_of word ≡ Some (n, Some v) → choice_named choices n ≡ Some (Flagged f) → flag_turn h word ≡ [] → ⊥
  valued_flag_fault h word n v f long is =
      some_kind _ (TooManyValues ∷ [])
      (ap (λ o. flag_word_fault rules false o word h) long
      ∙ ap (λ o. long_fault rules false o (Some v) h) (by_long choices n ∙ ap (option_map built_choice) is)) refl

  first_some : (a b : Kinds) → (a ≡ [] → ⊥) → or_else a b ≡ [] → ⊥
  first_some [] b h e = h refl
  first_some (k ∷ ks) b h e = h e

  -- an option that still waits is a fault
  unfinished : (s : Setting) (parts : List Part) (h : Held) → Waits choices s parts h → settle_fault rules false h ≡ [] → ⊥
  unfinished s parts h w =
      some_kind _ (InvalidValue ∷ [])
      (ap (λ p. option_map_or (λ (p : Text × List Text). option_map_or (λ a. use_fault false a p.1 h.rows) (arg_by_id rules p.0) []) p []) w.pending
      ∙ ap (λ o. option_map_or (λ a. use_fault false a [] h.rows) o []) w.found) refl

  -- ---- `--`

  dashes_turn : (want : Wanting) (h : Held) (full : Bool) (word : Text) → bytes_eq word dashes ≡ true → turn_fault shape [] (at want h full) word ≡ []
  dashes_turn None h full word e = rw e refl
  dashes_turn (Some s) h full word e = rw e refl

  dashes_walked : (want : Wanting) (h : Held) (full : Bool) (word : Text) → bytes_eq word dashes ≡ true → walked rules [] (at want h full) word ≡ standing h (waiting_for want) full true
  unfolding walked
  dashes_walked None h full word e = rw e refl
  dashes_walked (Some s) h full word e = rw e refl

  -- ---- a flag word, where nothing waits

  named_turn : (h : Held) (full : Bool) (word n : Text) (s : Setting) → bytes_eq word dashes ≡ false → long_of word ≡ Some (n, None) → choice_named choices n ≡ Some (Numbered s)
      → settle_fault rules false h ≡ [] → turn_fault shape [] (at None h full) word ≡ []
  named_turn h full word n s e long is none =
      let found : arg_by_long rules n ≡ Some (built_choice (Numbered s)) = by_long choices n ∙ ap (option_map built_choice) is in
      rw (e, long, found, none) refl

  named_walked : (h : Held) (full : Bool) (word n : Text) (s : Setting) → bytes_eq word dashes ≡ false → long_of word ≡ Some (n, None) → choice_named choices n ≡ Some (Numbered s)
      → walked rules [] (at None h full) word ≡ at (Some s) (record { rows = (settled rules h).rows; pending = Some (name_of s, []); skip = h.skip }) full
  unfolding walked
  named_walked h full word n s e long is =
      let found : arg_by_long rules n ≡ Some (built_choice (Numbered s)) = by_long choices n ∙ ap (option_map built_choice) is in
      rw (e, long, found) refl

  valued_turn : (h : Held) (full : Bool) (word n v : Text) (s : Setting) → bytes_eq word dashes ≡ false → long_of word ≡ Some (n, Some v) → choice_named choices n ≡ Some (Numbered s)
      → settle_fault rules false h ≡ [] → use_fault false (built_choice (Numbered s)) (v ∷ []) (settled rules h).rows ≡ [] → turn_fault shape [] (at None h full) word ≡ []
  valued_turn h full word n v s e long is none right =
      let found : arg_by_long rules n ≡ Some (built_choice (Numbered s)) = by_long choices n ∙ ap (option_map built_choice) is in
      rw (e, long, found, none, right) refl

  valued_walked : (h : Held) (full : Bool) (word n v : Text) (s : Setting) → bytes_eq word dashes ≡ false → long_of word ≡ Some (n, Some v) → choice_named choices n ≡ Some (Numbered s)
      → walked rules [] (at None h full) word ≡ at None (record { rows = used (built_choice (Numbered s)) (v ∷ []) (settled rules h).rows; pending = None; skip = h.skip }) full
  unfolding walked
  valued_walked h full word n v s e long is =
      let found : arg_by_long rules n ≡ Some (built_choice (Numbered s)) = by_long choices n ∙ ap (option_map built_choice) is in
      rw (e, long, found) refl

  flag_given_turn : (h : Held) (full : Bool) (word n : Text) (f : Flag) → bytes_eq word dashes ≡ false → long_of word ≡ Some (n, None) → choice_named choices n ≡ Some (Flagged f)
      → settle_fault rules false h ≡ [] → use_fault false (built_choice (Flagged f)) [] (settled rules h).rows ≡ [] → turn_fault shape [] (at None h full) word ≡ []
  flag_given_turn h full word n f e long is none right =
      let found : arg_by_long rules n ≡ Some (built_choice (Flagged f)) = by_long choices n ∙ ap (option_map built_choice) is in
      rw (e, long, found, none, right) refl

  flag_given_walked : (h : Held) (full : Bool) (word n : Text) (f : Flag) → bytes_eq word dashes ≡ false → long_of word ≡ Some (n, None) → choice_named choices n ≡ Some (Flagged f)
      → walked rules [] (at None h full) word ≡ at None (record { rows = used (built_choice (Flagged f)) [] (settled rules h).rows; pending = None; skip = h.skip }) full
  unfolding walked
  flag_given_walked h full word n f e long is =
      let found : arg_by_long rules n ≡ Some (built_choice (Flagged f)) = by_long choices n ∙ ap (option_map built_choice) is in
      rw (e, long, found) refl

  -- ---- another word

  plain_turn : (h : Held) (full : Bool) (word : Text) → bytes_eq word dashes ≡ false → long_of word ≡ None → short_of word ≡ None
      → turn_fault shape [] (at None h full) word ≡ step_fault shape (cond full 2 1) h value
  plain_turn h full word e long short = rw (e, long, short) refl

  plain_walked : (h : Held) (full : Bool) (word : Text) → bytes_eq word dashes ≡ false → long_of word ≡ None → short_of word ≡ None
      → walked rules [] (at None h full) word ≡ to_positional rules (arg_by_index rules (cond full 2 1)) word (at None h full) h
  unfolding walked
  plain_walked h full word e long short = rw (e, long, short) refl

  value_turn : (s : Setting) (h : Held) (full : Bool) (word : Text) → bytes_eq word dashes ≡ false → long_of word ≡ None → short_of word ≡ None
      → turn_fault shape [] (at (Some s) h full) word ≡ []
  value_turn s h full word e long short = rw (e, long, short) refl

  value_walked : (s : Setting) (parts : List Part) (rows : List Row) (full : Bool) (word : Text) → bytes_eq word dashes ≡ false → long_of word ≡ None → short_of word ≡ None
      → arg_by_id rules (name_of s) ≡ Some (built_choice (Numbered s))
      → walked rules [] (at (Some s) (record { rows = rows; pending = Some (name_of s, []); skip = 0 }) full) word ≡ at None (valued (name_of s) word rows) full
  unfolding walked
  value_walked s parts rows full word e long short found = rw (e, long, short, found, own_name s) refl

  -- ---- a word, where nothing waits

  nothing : (f : List Part → Option (List Part)) (r : Option (List Part)) → ((parts : List Part) → f parts ≡ None) → option_and_then f r ≡ None
  nothing f None e = refl
  nothing f (Some parts) e = e parts

  idle_word : (l : Look) (word : Text) (words : List Text) → LooksLike l word → Follows words → (r : Option (List Part)) (h : Held) (full : Bool) → Holds choices r h → IsFull r full
      → Agrees (option_and_then (word_joined choices word l (words_joined choices words) (files_joined words)) r) (total shape (at None h full) (word ∷ words)) (end_rows shape (at None h full) (word ∷ words))
  idle_word Dashes word words looks ih r h full holds is_full =
      goes_on shape (at None h full) (standing h idle full true) word words (option_and_then (files_joined words) r) (dashes_turn None h full word looks.0) (dashes_walked None h full word looks.0)
      (trailing_ok choices name words r h idle full holds is_full)
  idle_word (Named n) word words looks ih r h full holds is_full = go (choice_named choices n) refl r holds is_full
    where
      next : Flag → Held
      next f = record { rows = used (built_choice (Flagged f)) [] (settled rules h).rows; pending = None; skip = h.skip }

      joins : (f : Flag) (parts : List Part) → choice_named choices n ≡ Some (Flagged f) → Holds choices (Some parts) h → IsFull (Some parts) full
          → (b : Bool) → has_part (flag_name f) parts ≡ b
          → Agrees (option_and_then (words_joined choices words None) (flag_joined f parts)) (total shape (at None h full) (word ∷ words)) (end_rows shape (at None h full) (word ∷ words))
      joins f parts is holds is_full true e =
          agrees_none _ _ _ (ap (λ o. option_and_then (words_joined choices words None) o) (joined_again choices true (flag_name f) (codes "true") parts e))
          (refuses shape (at None h full) word words (turn_is None h full word looks.0 (λ none.
          use_again (flag_name f) (Some (flag_name f)) None String false (codes "true") (rows_with parts) (has_rows (flag_name f) parts ∙ e)
          (sym (ap₂ (λ k rs. or_else k (use_fault false (built_choice (Flagged f)) [] rs)) holds.1 holds.2) ∙ sym (flag_fault h word n f looks.1 is) ∙ none))))
      joins f parts is holds is_full false e =
          goes_on shape (at None h full) (at None (next f) full) word words _
          (flag_given_turn h full word n f looks.0 looks.1 is holds.1
          (ap (λ rs. use_fault false (built_choice (Flagged f)) [] rs) holds.2
          ∙ use_right (flag_name f) (Some (flag_name f)) None String false (codes "true") (rows_with parts) (has_rows (flag_name f) parts ∙ e) refl))
          (flag_given_walked h full word n f looks.0 looks.1 is)
          (ih None (flag_joined f parts) (next f) full held (full_kept choices true (Flagged f) (codes "true") parts full is_full))
        where
          held : Holds choices (flag_joined f parts) (next f)
          held = subst (λ o. Holds choices o (next f)) (sym (joined_right choices true (flag_name f) (codes "true") parts e refl)) (
            holds.0,
            refl,
            ap (λ rs. used (built_choice (Flagged f)) [] rs) holds.2
                ∙ rows_after_use choices (flag_name f) (Some (flag_name f)) None String false (codes "true") parts refl e,
          )

      go : (o : Option Choice) → choice_named choices n ≡ o → (r : Option (List Part)) → Holds choices r h → IsFull r full
          → Agrees (option_and_then (λ parts. option_and_then (λ choice. named_joined choice (words_joined choices words) parts) o) r)
          (total shape (at None h full) (word ∷ words)) (end_rows shape (at None h full) (word ∷ words))
      go None is r holds is_full =
          agrees_none _ _ _ (nothing (λ parts. None) r (λ parts. refl))
          (refuses shape (at None h full) word words (turn_is None h full word looks.0 (unknown_fault h word n None looks.1 is)))
      go (Some (Numbered s)) is None holds is_full =
          refuses shape (at None h full) word words (turn_is None h full word looks.0 (λ none. holds.1 (sym (named_fault h word n s looks.1 is) ∙ none)))
      go (Some (Flagged f)) is None holds is_full =
          refuses shape (at None h full) word words (turn_is None h full word looks.0 (λ none.
          first_some _ _ holds.1 (sym (flag_fault h word n f looks.1 is) ∙ none)))
      go (Some (Flagged f)) is (Some parts) holds is_full = joins f parts is holds is_full (has_part (flag_name f) parts) refl
      go (Some (Numbered s)) is (Some parts) holds is_full =
          goes_on shape (at None h full) _ word words (words_joined choices words (Some s) parts) (named_turn h full word n s looks.0 looks.1 is holds.1)
          (named_walked h full word n s looks.0 looks.1 is)
          (ih (Some s) (Some parts) (record { rows = (settled rules h).rows; pending = Some (name_of s, []); skip = h.skip }) full
          (record { found = by_id choices (Numbered s) n is; skip = holds.0; pending = refl; rows = holds.2 }) is_full)
  idle_word (Valued n v) word words looks ih r h full holds is_full = go (choice_named choices n) refl r holds is_full
    where
      next : Setting → Held
      next s = record { rows = used (built_choice (Numbered s)) (v ∷ []) (settled rules h).rows; pending = None; skip = h.skip }

      joins : (s : Setting) (parts : List Part) → choice_named choices n ≡ Some (Numbered s) → Holds choices (Some parts) h → IsFull (Some parts) full
          → (b d : Bool) → has_part (name_of s) parts ≡ b → is_number (most_of s) v ≡ d
          → Agrees (option_and_then (words_joined choices words None) (setting_joined s v parts)) (total shape (at None h full) (word ∷ words)) (end_rows shape (at None h full) (word ∷ words))
      joins s parts is holds is_full true d e a =
          agrees_none _ _ _ (ap (λ o. option_and_then (words_joined choices words None) o) (joined_again choices (is_number (most_of s) v) (name_of s) v parts e))
          (refuses shape (at None h full) word words (turn_is None h full word looks.0 (λ none.
          use_again (name_of s) (Some (name_of s)) None (Unsigned 1 (most_of s)) false v (rows_with parts) (has_rows (name_of s) parts ∙ e)
          (sym (ap₂ (λ k rs. or_else k (use_fault false (built_choice (Numbered s)) (v ∷ []) rs)) holds.1 holds.2) ∙ sym (valued_fault h word n v s looks.1 is) ∙ none))))
      joins s parts is holds is_full false false e a =
          agrees_none _ _ _ (ap (λ o. option_and_then (words_joined choices words None) o) (joined_wrong choices (is_number (most_of s) v) (name_of s) v parts a))
          (refuses shape (at None h full) word words (turn_is None h full word looks.0 (λ none.
          use_wrong (name_of s) (Some (name_of s)) None (Unsigned 1 (most_of s)) false v (rows_with parts) (has_rows (name_of s) parts ∙ e) a
          (sym (ap₂ (λ k rs. or_else k (use_fault false (built_choice (Numbered s)) (v ∷ []) rs)) holds.1 holds.2) ∙ sym (valued_fault h word n v s looks.1 is) ∙ none))))
      joins s parts is holds is_full false true e a =
          goes_on shape (at None h full) (at None (next s) full) word words _
          (valued_turn h full word n v s looks.0 looks.1 is holds.1
          (ap (λ rs. use_fault false (built_choice (Numbered s)) (v ∷ []) rs) holds.2
          ∙ use_right (name_of s) (Some (name_of s)) None (Unsigned 1 (most_of s)) false v (rows_with parts) (has_rows (name_of s) parts ∙ e) a))
          (valued_walked h full word n v s looks.0 looks.1 is)
          (ih None (setting_joined s v parts) (next s) full held (full_kept choices (is_number (most_of s) v) (Numbered s) v parts full is_full))
        where
          held : Holds choices (setting_joined s v parts) (next s)
          held = subst (λ o. Holds choices o (next s)) (sym (joined_right choices (is_number (most_of s) v) (name_of s) v parts e a)) (
            holds.0,
            refl,
            ap (λ rs. used (built_choice (Numbered s)) (v ∷ []) rs) holds.2
                ∙ rows_after_use choices (name_of s) (Some (name_of s)) None (Unsigned 1 (most_of s)) false v parts refl e,
          )

      go : (o : Option Choice) → choice_named choices n ≡ o → (r : Option (List Part)) → Holds choices r h → IsFull r full
          → Agrees (option_and_then (λ parts. option_and_then (λ choice. option_and_then (words_joined choices words None) (valued_joined choice v parts)) o) r)
          (total shape (at None h full) (word ∷ words)) (end_rows shape (at None h full) (word ∷ words))
      go None is r holds is_full =
          agrees_none _ _ _ (nothing (λ parts. None) r (λ parts. refl))
          (refuses shape (at None h full) word words (turn_is None h full word looks.0 (unknown_fault h word n (Some v) looks.1 is)))
      go (Some (Flagged f)) is r holds is_full =
          agrees_none _ _ _ (nothing (λ parts. None) r (λ parts. refl))
          (refuses shape (at None h full) word words (turn_is None h full word looks.0 (valued_flag_fault h word n v f looks.1 is)))
      go (Some (Numbered s)) is None holds is_full =
          refuses shape (at None h full) word words (turn_is None h full word looks.0 (λ none.
          first_some _ _ holds.1 (sym (valued_fault h word n v s looks.1 is) ∙ none)))
      go (Some (Numbered s)) is (Some parts) holds is_full = joins s parts is holds is_full (has_part (name_of s) parts) (is_number (most_of s) v) refl refl
  idle_word Letters word words looks ih r h full holds is_full =
      agrees_none _ _ _ (nothing (λ parts. None) r (λ parts. refl))
      (refuses shape (at None h full) word words (turn_is None h full word looks.0 (letters_fault h word (skips r holds) looks.1 looks.2)))
    where
      skips : (r : Option (List Part)) → Holds choices r h → h.skip ≡ 0
      skips None holds = holds.0
      skips (Some parts) holds = holds.0
  idle_word Plain word words looks ih r h full holds is_full =
      file_word choices name h idle full false word words r (words_joined choices words None) holds is_full
      (plain_turn h full word looks.0 looks.1 looks.2) (plain_walked h full word looks.0 looks.1 looks.2)
      (λ q k held after. ih None q k true held after)

  -- ---- a word, where an option waits

  waiting_word : (l : Look) (word : Text) (words : List Text) → LooksLike l word → Follows words → (s : Setting) (parts : List Part) (h : Held) (full : Bool)
      → Waits choices s parts h → IsFull (Some parts) full
      → Agrees (option_and_then (words_joined choices words None) (setting_joined s word parts)) (total shape (at (Some s) h full) (word ∷ words)) (end_rows shape (at (Some s) h full) (word ∷ words))
  waiting_word Dashes word words looks ih s parts h full w is_full =
      subst (λ o. Agrees (option_and_then (words_joined choices words None) o) (total shape (at (Some s) h full) (word ∷ words)) (end_rows shape (at (Some s) h full) (word ∷ words)))
      (sym (no_value looks.1))
      (goes_on shape (at (Some s) h full) (standing h (option (name_of s)) full true) word words None (dashes_turn (Some s) h full word looks.0) (dashes_walked (Some s) h full word looks.0)
      (trailing_ok choices name words None h (option (name_of s)) full (w.skip, unfinished s parts h w) tt))
    where
      no_value : IsNoNumber word → setting_joined s word parts ≡ None
      no_value never = joined_wrong choices (is_number (most_of s) word) (name_of s) word parts (never (most_of s))
  waiting_word (Named n) word words looks ih s parts h full w is_full =
      agrees_none _ _ _ (ap (λ o. option_and_then (words_joined choices words None) o) (joined_wrong choices (is_number (most_of s) word) (name_of s) word parts (looks.2 (most_of s))))
      (refuses shape (at (Some s) h full) word words (turn_is (Some s) h full word looks.0 (fault (choice_named choices n) refl)))
    where
      fault : (o : Option Choice) → choice_named choices n ≡ o → flag_turn h word ≡ [] → ⊥
      fault None is = unknown_fault h word n None looks.1 is
      fault (Some (Numbered t)) is = λ none. unfinished s parts h w (sym (named_fault h word n t looks.1 is) ∙ none)
      fault (Some (Flagged f)) is = λ none. first_some _ _ (unfinished s parts h w) (sym (flag_fault h word n f looks.1 is) ∙ none)
  waiting_word (Valued n v) word words looks ih s parts h full w is_full =
      agrees_none _ _ _ (ap (λ o. option_and_then (words_joined choices words None) o) (joined_wrong choices (is_number (most_of s) word) (name_of s) word parts (looks.2 (most_of s))))
      (refuses shape (at (Some s) h full) word words (turn_is (Some s) h full word looks.0 (fault (choice_named choices n) refl)))
    where
      fault : (o : Option Choice) → choice_named choices n ≡ o → flag_turn h word ≡ [] → ⊥
      fault None is = unknown_fault h word n (Some v) looks.1 is
      fault (Some (Flagged f)) is = valued_flag_fault h word n v f looks.1 is
      fault (Some (Numbered t)) is = λ none. first_some _ _ (unfinished s parts h w) (sym (valued_fault h word n v t looks.1 is) ∙ none)
  waiting_word Letters word words looks ih s parts h full w is_full =
      agrees_none _ _ _ (ap (λ o. option_and_then (words_joined choices words None) o) (joined_wrong choices (is_number (most_of s) word) (name_of s) word parts (looks.3 (most_of s))))
      (refuses shape (at (Some s) h full) word words (turn_is (Some s) h full word looks.0 (letters_fault h word w.skip looks.1 looks.2)))
  waiting_word Plain word words looks ih s parts h full w is_full =
      goes_on shape (at (Some s) h full) (at None (valued (name_of s) word h.rows) full) word words _ (value_turn s h full word looks.0 looks.1 looks.2)
      (ap (λ (k : Held). walked rules [] (at (Some s) k full) word) same ∙ value_walked s parts h.rows full word looks.0 looks.1 looks.2 w.found)
      (ih None (setting_joined s word parts) (valued (name_of s) word h.rows) full
      (holds_pending choices (name_of s) (Some (name_of s)) None (Unsigned 1 (most_of s)) false word parts h.rows refl w.found w.rows)
      (full_kept choices (is_number (most_of s) word) (Numbered s) word parts full is_full))
    where
      same : ◌≡◌ {A = Held} h (record { rows = h.rows; pending = Some (name_of s, []); skip = 0 })
      same = λ i. record { rows = h.rows; pending = w.pending i; skip = w.skip i }

  -- ---- all words

  pub words_ok : (words : List Text) → AllText words → Follows words
  words_ok [] texts None None h full holds is_full = λ none. holds.1 (sym (total_ends shape (at None h full)) ∙ none)
  words_ok [] texts None (Some parts) h full holds is_full = (total_ends shape (at None h full) ∙ holds.1, holds.2)
  words_ok [] texts (Some s) None h full w is_full = absurd w
  words_ok [] texts (Some s) (Some parts) h full w is_full = λ none. unfinished s parts h w (sym (total_ends shape (at (Some s) h full)) ∙ none)
  words_ok (word ∷ words) texts None r h full holds is_full = idle_word (look_of word) word words (seen word texts.0) (words_ok words texts.1) r h full holds is_full
  words_ok (word ∷ words) texts (Some s) None h full w is_full = absurd w
  words_ok (word ∷ words) texts (Some s) (Some parts) h full w is_full = waiting_word (look_of word) word words (seen word texts.0) (words_ok words texts.1) s parts h full w is_full

  -- the words behind a command
  pub words_end : (words : List Text) → AllText words → Agrees (words_joined choices words None []) (total shape (walk_from nothing_held) words) (end_rows shape (walk_from nothing_held) words)
  words_end words texts = words_ok words texts None (Some []) nothing_held false (refl, refl, refl) refl
