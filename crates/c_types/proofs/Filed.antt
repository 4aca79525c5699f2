-- Names outside functions, and the types that were named with them.
use Rattle.std.proofs.Common.{◌≡◌, rules, ℕ, Bool, true, false, not, is_none, if◌then◌else◌, List, [], ◌∷◌, Option, Some, None, refl, sym, ap, ◌∙◌}
use Rattle.std.specs.Prelude.{bytes_eq}
use Rattle.std.proofs.lemmas.Option.{none-some}
use Rattle.std.proofs.lemmas.Slice.Eq.{bytes_eq-Decides}
use Rattle.c_typed.specs.declared.c_type.CType as number
use Rattle.c_typed.specs.Table.{Interned, Stands, type_in, KnownStands, known_in, Grows}
use Rattle.c_typed.proofs.Grown.{stays}
use Rattle.c_types_state.specs.declared.file_name.FileEntry.{FileEntry}
use Rattle.c_rules.specs.Names.{FileName, file_name, library_named, is_library}
use Rattle.c_types_state.specs.NameTables.{IsFileEntry, file_row}
use Rattle.c_types_state.specs.Finding.{AllStand, each_in}
use Rattle.c_types.specs.Outside.{row_of}

-- a type, where there is one, stays while a table grows
module _ (old new : Interned) (grows : Grows old new) where
  pub each_stays : (t : Option number.CType) → AllStand Stands old t → AllStand Stands new t × (each_in type_in new t ≡ each_in type_in old t)
  each_stays None h = (tt, refl)
  each_stays (Some t) h = let kept = stays old new grows t h in (kept.0, λ i. Some (kept.1 i))

-- what is known of a type, by either word
pub known-each : (table : Interned) (t : Option number.CType) → known_in table.tags table.entries t ≡ each_in type_in table t
known-each table None = refl
known-each table (Some t) = refl

pub known_stands-each : (table : Interned) (t : Option number.CType) → AllStand Stands table t → KnownStands table t
known_stands-each table None h = tt
known_stands-each table (Some t) h = h

pub each-known_stands : (table : Interned) (t : Option number.CType) → KnownStands table t → AllStand Stands table t
each-known_stands table None h = tt
each-known_stands table (Some t) h = h

-- a row, where its type stays
pub row-stays : (old new : Interned) (grows : Grows old new) (name : List ℕ) (entry : FileEntry) → KnownStands old entry.c_type → row_of new name entry ≡ row_of old name entry
row-stays old new grows name entry h =
    let kept = each_stays old new grows entry.c_type (each-known_stands old entry.c_type h) in
    λ i. record { name = name; c_type = (known-each new entry.c_type ∙ kept.1 ∙ sym (known-each old entry.c_type)) i; has_init = entry.has_init; has_body = entry.has_body }

-- a row as it was found
pub row-found : (table : Interned) (name : FileName) (bytes : List ℕ) (entry : FileEntry) → name.name ≡ bytes → name ≡ file_row table (record { name = name.name; entry = entry }) → name ≡ row_of table bytes entry
row-found table name bytes entry same is = is ∙ ap (λ b. row_of table b entry) same

or_else : FileName → Option FileName → FileName
or_else other None = other
or_else other (Some name) = name

-- what is found by a name has it
file_name-step : (first n : FileName) (others : List FileName) (bytes : List ℕ) → (file_name others bytes ≡ Some n → n.name ≡ bytes) → file_name (first ∷ others) bytes ≡ Some n → n.name ≡ bytes
unfolding or_else
file_name-step first n others bytes further e = by (bytes_eq first.name bytes) refl
  where
    by : (b : Bool) → bytes_eq first.name bytes ≡ b → n.name ≡ bytes
    by true is =
        let same : first ≡ n = ap (or_else first) (sym (ap (λ b. if b then Some first else file_name others bytes) is) ∙ e) in
        sym (ap (λ (f : FileName). f.name) same) ∙ (bytes_eq-Decides first.name bytes).0 is
    by false is = further (sym (ap (λ b. if b then Some first else file_name others bytes) is) ∙ e)

file_name-name : (files : List FileName) (bytes : List ℕ) (n : FileName) → file_name files bytes ≡ Some n → n.name ≡ bytes
file_name-name [] bytes n e = absurd (none-some n e)
file_name-name (first ∷ others) bytes n e = file_name-step first n others bytes (file_name-name others bytes n) e

pub entry-row : (table : Interned) (files : List FileName) (bytes : List ℕ) (entry : FileEntry) → IsFileEntry table (file_name files bytes) (Some entry) → (file_name files bytes ≡ Some (row_of table bytes entry)) × KnownStands table entry.c_type
entry-row table files bytes entry found = by (file_name files bytes) refl found
  where
    by : (o : Option FileName) → file_name files bytes ≡ o → IsFileEntry table o (Some entry) → (file_name files bytes ≡ Some (row_of table bytes entry)) × KnownStands table entry.c_type
    by None e h = absurd h
    by (Some n) e h = (e ∙ ap Some (row-found table n bytes entry (file_name-name files bytes n e) h.1), h.0)

pub known_stays : (old new : Interned) (grows : Grows old new) (t : Option number.CType) → KnownStands old t → KnownStands new t × (known_in new.tags new.entries t ≡ known_in old.tags old.entries t)
known_stays old new grows t h =
    let kept = each_stays old new grows t (each-known_stands old t h) in
    (known_stands-each new t kept.0, known-each new t ∙ kept.1 ∙ sym (known-each old t))

-- a name that no library function has
pub is_free : (bytes : List ℕ) → is_none (library_named bytes) ≡ not (is_library bytes)
is_free bytes = search rules
