-- The numbers of a line are read as they were checked.
use Rattle.std.proofs.Common.{◌≡◌, ◌∙◌, ◌^◌, ◌&&◌, ◌<◌, ◌≤◌, ℕ, Bool, cond, true, false, not, refl, sym, ap, ap₂, subst, arith, List, [], ◌∷◌, ◌++◌, Option, Some, None, true≢false, codes}
use Rattle.std.specs.Prelude.{find, option_map, option_and_then}
use Rattle.std.specs.Option.{option_map_or}
use Rattle.std.specs.Str.{bytes_eq}
use Rattle.std.proofs.lemmas.Bool.{leb-true, lt-ltb}
use Rattle.clap.specs.Walk.{Text}
use Rattle.clap.proofs.WalkLemmas.{both}
use Rattle.pcc_words.specs.Line.{Look, Dashes, Named, Valued, Letters, Plain, Choice, Numbered, Flagged, Flag, Part, Setting, Slabs, Index, Steps, Wanting, default_of, file_joined, files_joined, flag_in, flag_joined, flag_name, has_part, is_number, joined, limits_in, look_of, most_of, name_of, named_joined, number_in, number_of, part_at, setting_joined, choice_named, valued_joined, word_joined, words_joined}
use Rattle.pcc_words.specs.Found.{flag_found, found_number, is_unsigned, limits_found, number_or}
use Rattle.pcc_words.proofs.WordRules.{has_rows, no_setting, not_file, rows_with, same_name, some-same, some≢none}
use Rattle.pcc_words.proofs.WordLine.{one_part}

-- a value of an option is a number in its range
abbrev pub IsGood : Part → Type 0
IsGood p = (s : Setting) → bytes_eq p.label (name_of s) ≡ true → is_number (most_of s) p.value ≡ true

abbrev pub AllGood : List Part → Type 0
AllGood [] = Unit {0}
AllGood (p ∷ ps) = IsGood p × AllGood ps

abbrev pub GoodIf : Option (List Part) → Type 0
GoodIf None = Unit {0}
GoodIf (Some parts) = AllGood parts

good_after : (ps : List Part) (p : Part) → AllGood ps → IsGood p → AllGood (ps ++ p ∷ [])
good_after [] p all one = (one, tt)
good_after (q ∷ qs) p all one = (all.0, good_after qs p all.1 one)

pub good_at : (s : Setting) (t : Text) (ps : List Part) → AllGood ps → part_at (name_of s) ps ≡ Some t → is_number (most_of s) t ≡ true
good_at s t [] all e = absurd (some≢none t (sym e))
good_at s t (p ∷ ps) all e = go (bytes_eq p.label (name_of s)) refl e (good_at s t ps all.1)
  where
    go : (b : Bool) → bytes_eq p.label (name_of s) ≡ b → option_map (λ (part : Part). part.value) (cond b (Some p) (find (λ (part : Part). bytes_eq part.label (name_of s)) ps)) ≡ Some t
        → (part_at (name_of s) ps ≡ Some t → is_number (most_of s) t ≡ true) → is_number (most_of s) t ≡ true
    go true is e ih = subst (λ v. is_number (most_of s) v ≡ true) (some-same p.value t e) (all.0 s is)
    go false is e ih = ih e

good_joined : (ok : Bool) (label v : Text) (parts : List Part) → AllGood parts → (ok ≡ true → IsGood (record { label = label; value = v })) → GoodIf (joined ok label v parts)
good_joined ok label v parts all good = go (has_part label parts) ok good
  where
    go : (b d : Bool) → (d ≡ true → IsGood (record { label = label; value = v })) → GoodIf (cond (not b && d) (Some (parts ++ record { label = label; value = v } ∷ [])) None)
    go true d good = tt
    go false true good = good_after parts (record { label = label; value = v }) all (good refl)
    go false false good = tt

good_file : (v : Text) (parts : List Part) → AllGood parts → GoodIf (file_joined v parts)
good_file v parts all = good_joined true (codes "file") v parts all (λ right s is. absurd (true≢false (sym is ∙ not_file (Numbered s))))

good_setting : (s : Setting) (v : Text) (parts : List Part) → AllGood parts → GoodIf (setting_joined s v parts)
good_setting s v parts all = good_joined (is_number (most_of s) v) (name_of s) v parts all (λ right t is. subst (λ x. is_number (most_of x) v ≡ true) (same_name s t is) right)

good_flag : (flag : Flag) (parts : List Part) → AllGood parts → GoodIf (flag_joined flag parts)
good_flag flag parts all = good_joined true (flag_name flag) (codes "true") parts all (λ right s is. absurd (true≢false (sym is ∙ no_setting flag s)))

good_then : (f : List Part → Option (List Part)) (r : Option (List Part)) → GoodIf r → ((parts : List Part) → AllGood parts → GoodIf (f parts)) → GoodIf (option_and_then f r)
good_then f None good next = tt
good_then f (Some parts) good next = next parts good

good_files : (words : List Text) (parts : List Part) → AllGood parts → GoodIf (files_joined words parts)
good_files [] parts all = all
good_files (word ∷ words) parts all = good_then (files_joined words) (file_joined word parts) (good_file word parts all) (good_files words)

module _ (choices : List Choice) where
  good_word : (l : Look) (word : Text) (words : List Text) → ((want : Wanting) (parts : List Part) → AllGood parts → GoodIf (words_joined choices words want parts))
      → (parts : List Part) → AllGood parts → GoodIf (word_joined choices word l (words_joined choices words) (files_joined words) parts)
  good_word Dashes word words ih parts all = good_files words parts all
  good_word (Named n) word words ih parts all = go (choice_named choices n)
    where
      go : (o : Option Choice) → GoodIf (option_and_then (λ choice. named_joined choice (words_joined choices words) parts) o)
      go None = tt
      go (Some (Numbered s)) = ih (Some s) parts all
      go (Some (Flagged f)) = good_then (words_joined choices words None) (flag_joined f parts) (good_flag f parts all) (ih None)
  good_word (Valued n v) word words ih parts all = go (choice_named choices n)
    where
      go : (o : Option Choice) → GoodIf (option_and_then (λ choice. option_and_then (words_joined choices words None) (valued_joined choice v parts)) o)
      go None = tt
      go (Some (Flagged f)) = tt
      go (Some (Numbered s)) = good_then (words_joined choices words None) (setting_joined s v parts) (good_setting s v parts all) (ih None)
  good_word Letters word words ih parts all = tt
  good_word Plain word words ih parts all = good_then (words_joined choices words None) (file_joined word parts) (good_file word parts all) (ih None)

  pub good_words : (words : List Text) (want : Wanting) (parts : List Part) → AllGood parts → GoodIf (words_joined choices words want parts)
  good_words [] None parts all = all
  good_words [] (Some s) parts all = tt
  good_words (word ∷ words) None parts all = good_word (look_of word) word words (good_words words) parts all
  good_words (word ∷ words) (Some s) parts all = good_then (words_joined choices words None) (setting_joined s word parts) (good_setting s word parts all) (good_words words None)

number_fits : (bits most : ℕ) (t : Text) → most < 2 ^ bits → is_number most t ≡ true → is_unsigned bits t ≡ true
number_fits bits most t fits e =
    let outer = both _ _ e in
    let inner = both _ _ outer.1 in
    let range = both _ _ inner.1 in
    let below : number_of t ≤ most = leb-true _ _ range.1 in
    ap₂ (λ a b. a && b) outer.0 (lt-ltb (number_of t) (2 ^ bits) (omega (arith, below, fits)))

pub number_is : (bits : ℕ) (s : Setting) (parts : List Part) → most_of s < 2 ^ bits → AllGood parts → found_number bits s (rows_with parts) ≡ number_in s parts
number_is bits s parts fits all =
    ap (λ o. option_map_or (number_or bits (default_of s)) o (default_of s)) (one_part (name_of s) parts) ∙ go (part_at (name_of s) parts) refl
  where
    go : (o : Option Text) → part_at (name_of s) parts ≡ o → option_map_or (number_or bits (default_of s)) o (default_of s) ≡ option_map_or number_of o (default_of s)
    go None e = refl
    go (Some t) e = ap (λ b. cond b (number_of t) (default_of s)) (number_fits bits (most_of s) t fits (good_at s t parts all e))

pub limits_are : (parts : List Part) → AllGood parts → limits_found (rows_with parts) ≡ limits_in parts
limits_are parts all = λ i. record { slabs = number_is 32 Slabs parts (omega arith) all i; index = number_is 32 Index parts (omega arith) all i }

pub steps_are : (parts : List Part) → AllGood parts → found_number 64 Steps (rows_with parts) ≡ number_in Steps parts
steps_are parts all = number_is 64 Steps parts (omega arith) all

pub flag_agrees : (flag : Flag) (parts : List Part) → flag_found flag (rows_with parts) ≡ flag_in flag parts
flag_agrees flag parts = has_rows (flag_name flag) parts
