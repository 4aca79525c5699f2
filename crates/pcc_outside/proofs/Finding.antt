-- Finding a file by its name.
use Rattle.std.proofs.Common.{◌≡◌, ℕ, List, [], ◌∷◌, Bool, true, false, cond, Option, Some, None, String, string_bytes, Vec, map, nat_cmp, refl}
use Rattle.std.proofs.lemmas.Map.Text.{is_eq-slice_cmp}
use Rattle.std.specs.BTreeMap.{BTreeMap, get_by_text, is_at}
use Rattle.std.specs.Cmp.Lexicographic.{slice_cmp}
use Rattle.std.specs.Map.{lookup}
use Rattle.std.specs.Borrow.{Bor}
use Rattle.std.specs.Prelude.{bytes_eq, option_copied, IfSome, IfNone}
use Rattle.pcc_outside.specs.Outside.{Told, Missing, Holds}
use Rattle.pcc_outside.specs.Memory.{files_of, file_of}

-- what a look-up in a map tells
abbrev pub told : {B : Type 0} → Option (Vec ℕ B) → Told
told None = Missing
told (Some bytes) = Holds bytes.items

-- what is told of a choice
told-cond : {B : Type 0} (b : Bool) (file : Vec ℕ B) (rest : Option (Vec ℕ B)) → cond b (Holds file.items) (told rest) ≡ told (cond b (Some file) rest)
told-cond true file rest = refl
told-cond false file rest = refl

-- a list of files tells what a look-up by the name does
told-lookup : {A B : Type 0} (name : List ℕ) → (entries : List (String A × Vec ℕ B)) →
    file_of (map (λ file. (string_bytes file.0, file.1.items)) entries) name
    ≡ told (lookup (is_at (λ key. slice_cmp nat_cmp name (string_bytes key))) entries)
told-lookup name [] = refl
told-lookup name (file ∷ files) = rw (is_eq-slice_cmp, told-lookup name files) (told-cond (bytes_eq name (string_bytes file.0)) file.1 _)

-- the same of a map
pub told-get : {A B : Type 0} (files : BTreeMap (String A) (Vec ℕ B)) (name : List ℕ) → file_of (files_of files) name ≡ told (get_by_text files name)
told-get files name = told-lookup name files.entries

-- what was looked up, by whether a file was found
pub told-found : {B : Type 0} (found : Option (Bor (Vec ℕ B))) (file : Told) → file ≡ told (option_copied found) → IfSome found (λ bytes. file ≡ Holds bytes.now.items) × IfNone found (file ≡ Missing)
told-found None file is = (tt, is)
told-found (Some bytes) file is = (is, tt)
