-- The line that the code makes of what was found.
use Rattle.std.proofs.Common.{◌≡◌, ◌∙◌, ◌||◌, Bool, cond, true, false, refl, sym, ap, List, [], ◌∷◌, map, Option, Some, None, codes, is_some}
use Rattle.std.specs.Prelude.{find, option_map}
use Rattle.std.specs.Option.{option_map_or}
use Rattle.std.specs.Str.{bytes_eq}
use Rattle.std.specs.Box.{box_value}
use Rattle.clap.specs.Matches.{found_of, matched_of, subcommand_name_of}
use Rattle.clap.specs.Simple.{subcommand_rows_of}
use Rattle.clap.specs.Facts.{Entry}
use Rattle.clap.specs.Walk.{Row, Text, first_of, has_row, row_of, rows_of}
use Rattle.clap.specs.declared.parser.matches.ArgMatches.{ArgMatches}
use Rattle.clap.specs.declared.parser.matches.Found.{Found}
use Rattle.clap.specs.declared.parser.matches.ArgMatches.TheViews.{out-ArgMatches, out-SubCommand}
use Rattle.pcc_words.specs.Line.{NoCommand, NoLine}
use Rattle.pcc_words.specs.Found.{file_line, found_line}
use Rattle.pcc_words.proofs.NumberReads.{both_found, text_is}

-- the subcommand's name and its rows
pub sub_is : (m : ArgMatches) (name : Text) (rows : List Row) → Some name ≡ subcommand_name_of m → Some rows ≡ option_map (λ (p : Text × List Row). p.1) (subcommand_rows_of m)
    → Some (name, rows) ≡ subcommand_rows_of m
sub_is m name rows named found =
    both_found (λ b. (out-SubCommand (box_value b)).name.now) (λ b. rows_of (found_of (out-SubCommand (box_value b)).matches)) (out-ArgMatches m).subcommand name rows named found

pub with_file : (sub : Option (Text × List Row)) (name file : Text) (rows : List Row) → Some (name, rows) ≡ sub → first_of (codes "file") rows ≡ Some file
    → file_line name rows file ≡ found_line sub
with_file sub name file rows is given = sym (ap (λ o. option_map_or (file_line name rows) o NoLine) given) ∙ ap (λ s. found_line s) is

pub with_none : (sub : Option (Text × List Row)) (name : Text) (rows : List Row) → Some (name, rows) ≡ sub → first_of (codes "file") rows ≡ None → NoLine ≡ found_line sub
with_none sub name rows is none = sym (ap (λ o. option_map_or (file_line name rows) o NoLine) none) ∙ ap (λ s. found_line s) is

not_text : (a b : Text) → (a ≡ b → ⊥) → bytes_eq a b ≡ false
not_text a b differ = go (bytes_eq a b) refl
  where
    go : (t : Bool) → bytes_eq a b ≡ t → bytes_eq a b ≡ false
    go true e = absurd (differ (text_is a b e))
    go false e = e

pub no_command : (name : Text) (rows : List Row) (file : Text) → (name ≡ codes "build" → ⊥) → (name ≡ codes "exec" → ⊥) → (name ≡ codes "run" → ⊥) → (name ≡ codes "ref" → ⊥)
    → (name ≡ codes "graph" → ⊥) → NoCommand ≡ file_line name rows file
no_command name rows file a b c d e = rw (not_text name (codes "build") a, not_text name (codes "exec") b, not_text name (codes "run") c, not_text name (codes "ref") d, not_text name (codes "graph") e) refl

-- an id has an entry where it has a row
pub given_row : (found : Found) (id : Text) → is_some (matched_of found id) ≡ has_row id (rows_of found)
given_row found id = go found.entries.items
  where
    go : (entries : List Entry) → is_some (option_map (λ (e : Entry). e.1) (find (λ (e : Entry). bytes_eq e.0.now id) entries)) ≡ has_row id (map row_of entries)
    go [] = refl
    go (e ∷ entries) = pick (bytes_eq e.0.now id) (go entries)
      where
        pick : (b : Bool) → is_some (option_map (λ (e : Entry). e.1) (find (λ (e : Entry). bytes_eq e.0.now id) entries)) ≡ has_row id (map row_of entries)
            → is_some (option_map (λ (e : Entry). e.1) (cond b (Some e) (find (λ (e : Entry). bytes_eq e.0.now id) entries))) ≡ (b || has_row id (map row_of entries))
        pick true ih = refl
        pick false ih = ih
