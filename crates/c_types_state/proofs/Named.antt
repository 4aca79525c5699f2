-- What a checker's maps and sets find by a name.
use Rattle.std.proofs.Common.{◌≡◌, ℕ, zero, suc, ◌-◌, ◌≤◌, Bool, true, false, not, cond, ◌||◌, if◌then◌else◌, List, [], ◌∷◌, ◌++◌, length, map, take, drop, Option, Some, None, is_some, Bor, refl, sym, ap, subst, ◌∙◌, arith, Vec}
use Rattle.std.specs.Prelude.{bytes_eq}
use Rattle.std.specs.Option.{option_copied}
use Rattle.std.specs.List.{list_any}
use Rattle.std.specs.Map.{lookup}
use Rattle.std.proofs.lemmas.Bool.{false≢true}
use Rattle.std.proofs.lemmas.List.{length-map, length-drop, map-append, take-map, drop-map, take-append-drop}
use Rattle.std.proofs.Math.Seq.{take-append_seam, drop-append_seam}
use Rattle.std.proofs.lemmas.Slice.Eq.{bytes_eq-Decides}
use Rattle.run_theory.specs.declared.place.Pos.{Pos}
use Rattle.c_syntax.specs.Trees.{NameTree}
use Rattle.indexmap.specs.IndexMap.{IndexMap, insert_entry}
use Rattle.indexmap.proofs.CallerLemmas.{insert_entry-new}
use Rattle.indexmap.specs.IndexSet.{insert_key}
use Rattle.c_typed.specs.declared.c_type.CType as number
use Rattle.c_typed.specs.Types.{CType}
use Rattle.c_typed.specs.declared.typed.LibraryFunction.{LibraryFunction}
use Rattle.c_typed.specs.Table.{Interned, KnownStands, known_in}
use Rattle.c_types_state.specs.declared.file_name.FileEntry.{FileEntry}
use Rattle.c_rules.specs.Known.{is_before}
use Rattle.c_rules.specs.Names.{meaning_of, FileName, LocalName, Meaning, Local, Outer, Library, NoMeaning, library_type, declares_tag, file_name, file_meaning, library_meaning, library_named, local_meaning, has_local, with_file_name}
use Rattle.c_typed.specs.Names.{contains}
use Rattle.c_types_state.specs.NameTables.{State, scope_of, all_locals, ScopeGrows, LocalTable, LocalEntry, local_name, local_number, local_type, has_entry, FileRow, file_row, IsFileEntry, FileStands, LocalsStand, with_tag, with_once}
use Rattle.c_rules.specs.Programs.{has_tag}
use Rattle.c_types_state.specs.Checkers.{tags_of, names_of, rows_of, AreNames}

-- it doesn't matter which of the two stands first
bytes_eq-swap : (a b : List ℕ) → bytes_eq a b ≡ bytes_eq b a
bytes_eq-swap a b = by (bytes_eq a b) (bytes_eq b a) refl refl
  where
    by : (l r : Bool) → bytes_eq a b ≡ l → bytes_eq b a ≡ r → l ≡ r
    by true true e f = refl
    by false false e f = refl
    by true false e f = absurd (false≢true (sym f ∙ (bytes_eq-Decides b a).1 (sym ((bytes_eq-Decides a b).0 e))))
    by false true e f = absurd (false≢true (sym e ∙ (bytes_eq-Decides a b).1 (sym ((bytes_eq-Decides b a).0 f))))

-- ---- sets of names

module _ {Z : Type 0} where
  pub contains_names : (name : List ℕ) (keys : List (Vec ℕ Z)) → list_any (λ (k : Vec ℕ Z). bytes_eq name k.items) keys ≡ contains (names_of keys) name
  contains_names name [] = refl
  contains_names name (key ∷ keys) = λ i. bytes_eq-swap name key.items i || contains_names name keys i

  names_pushed : (b : Bool) (keys : List (Vec ℕ Z)) (key : Vec ℕ Z) → names_of (if b then keys else keys ++ key ∷ []) ≡ (if b then names_of keys else names_of keys ++ key.items ∷ [])
  names_pushed true keys key = refl
  names_pushed false keys key = map-append (λ (k : Vec ℕ Z). k.items) keys (key ∷ [])

  -- a name that is added
  pub names_with : (keys : List (Vec ℕ Z)) (key : Vec ℕ Z) (name : List ℕ) → key.items ≡ name → names_of (insert_key (λ (a b : Vec ℕ Z). bytes_eq a.items b.items) keys key) ≡ with_once (names_of keys) name
  names_with keys key name is =
      names_pushed (list_any (λ (k : Vec ℕ Z). bytes_eq key.items k.items) keys) keys key
      ∙ ap (λ b. if b then names_of keys else names_of keys ++ key.items ∷ []) (contains_names key.items keys)
      ∙ ap (with_once (names_of keys)) is

-- and one that is there
pub once_there : (names : List (List ℕ)) (name : List ℕ) → contains names name ≡ true → names ≡ with_once names name
once_there names name there = sym (ap (λ b. if b then names else names ++ name ∷ []) there)

-- with other names
abbrev pub completed_set : State → List (List ℕ) → State
completed_set state names = record state { completed = names }

abbrev pub defined_set : State → List (List ℕ) → State
defined_set state names = record state { defined = names }

abbrev pub tags_set : State → List NameTree → State
tags_set state tags = record state { tags = tags }

-- ---- tags

abbrev pub is_declared : Option Pos → NameTree → Bool
is_declared (Some first) use_of = not (is_before use_of.place first)
is_declared None use_of = false

module _ {Z : Type 0} where
  tag_declared : (use_of : NameTree) (entries : List (Vec ℕ Z × Pos))
      → declares_tag (tags_of entries) use_of ≡ is_declared (lookup (λ (k : Vec ℕ Z). bytes_eq use_of.bytes k.items) entries) use_of
  tag_declared use_of [] = refl
  tag_declared use_of (e ∷ es) =
      ap (λ b. if b then not (is_before use_of.place e.1) else declares_tag (tags_of es) use_of) (bytes_eq-swap e.0.items use_of.bytes)
      ∙ by (bytes_eq use_of.bytes e.0.items) (tag_declared use_of es)
    where
      by : (b : Bool) → declares_tag (tags_of es) use_of ≡ is_declared (lookup (λ (k : Vec ℕ Z). bytes_eq use_of.bytes k.items) es) use_of
          → (if b then not (is_before use_of.place e.1) else declares_tag (tags_of es) use_of) ≡ is_declared (cond b (Some e.1) (lookup (λ (k : Vec ℕ Z). bytes_eq use_of.bytes k.items) es)) use_of
      by true rest = refl
      by false rest = rest

  pub declared_by : (use_of : NameTree) (entries : List (Vec ℕ Z × Pos)) (slice : List ℕ) → slice ≡ use_of.bytes
      → is_declared (lookup (λ (k : Vec ℕ Z). bytes_eq slice k.items) entries) use_of ≡ declares_tag (tags_of entries) use_of
  declared_by use_of entries slice is =
      ap (λ (bs : List ℕ). is_declared (lookup (λ (k : Vec ℕ Z). bytes_eq bs k.items) entries) use_of) is ∙ sym (tag_declared use_of entries)

  has_found : (name : List ℕ) (entries : List (Vec ℕ Z × Pos)) → has_tag (tags_of entries) name ≡ is_some (lookup (λ (k : Vec ℕ Z). bytes_eq name k.items) entries)
  has_found name [] = refl
  has_found name (e ∷ es) =
      ap (λ b. b || has_tag (tags_of es) name) (bytes_eq-swap e.0.items name)
      ∙ by (bytes_eq name e.0.items) (has_found name es)
    where
      by : (b : Bool) → has_tag (tags_of es) name ≡ is_some (lookup (λ (k : Vec ℕ Z). bytes_eq name k.items) es) → (b || has_tag (tags_of es) name) ≡ is_some (cond b (Some e.1) (lookup (λ (k : Vec ℕ Z). bytes_eq name k.items) es))
      by true rest = refl
      by false rest = rest

copied-found : {A : Type 0} (found : Option (Bor A)) → is_some (option_copied found) ≡ is_some found
copied-found None = refl
copied-found (Some a) = refl

none_found : {A : Type 0} (found : Option A) → is_some found ≡ false → found ≡ None
none_found None h = refl
none_found (Some a) h = absurd (false≢true (sym h))

-- whether a tag is there
pub has_from : {Z : Type 0} (entries : List (Vec ℕ Z × Pos)) (slice name : List ℕ) → slice ≡ name → (found : Option (Bor Pos)) → option_copied found ≡ lookup (λ (k : Vec ℕ Z). bytes_eq slice k.items) entries
    → (b : Bool) → is_some found ≡ b → has_tag (tags_of entries) name ≡ b
has_from {Z} entries slice name is found at b some =
    ap (has_tag (tags_of entries)) (sym is)
    ∙ has_found slice entries
    ∙ ap is_some (sym at)
    ∙ copied-found found
    ∙ some

-- a tag that is added
pub tags_with : {Z S : Type 0} (tags : IndexMap (Vec ℕ Z) Pos S) (key : Vec ℕ Z) (tag : NameTree) → key.items ≡ tag.bytes → has_tag (tags_of tags.entries) tag.bytes ≡ false
    → tags_of (insert_entry (λ (a b : Vec ℕ Z). bytes_eq a.items b.items) tags.entries key tag.place) ≡ with_tag (tags_of tags.entries) tag
tags_with {Z} tags key tag is new =
    let absent : lookup (λ (k : Vec ℕ Z). bytes_eq key.items k.items) tags.entries ≡ None = none_found _ (sym (has_found key.items tags.entries) ∙ ap (has_tag (tags_of tags.entries)) is ∙ new) in
    ap tags_of (insert_entry-new (λ (a b : Vec ℕ Z). bytes_eq a.items b.items) tags key tag.place absent)
    ∙ map-append (λ (e : Vec ℕ Z × Pos). the_tag e) tags.entries ((key, tag.place) ∷ [])
    ∙ (λ i. tags_of tags.entries ++ record { bytes = is i; place = tag.place } ∷ [])
    ∙ sym (ap (λ b. if b then tags_of tags.entries else tags_of tags.entries ++ tag ∷ []) new)
  where
    the_tag : Vec ℕ Z × Pos → NameTree
    the_tag e = record { bytes = e.0.items; place = e.1 }

-- and one that is there
pub tag_there : (tags : List NameTree) (tag : NameTree) → has_tag tags tag.bytes ≡ true → tags ≡ with_tag tags tag
tag_there tags tag there = sym (ap (λ b. if b then tags else tags ++ tag ∷ []) there)

-- ---- names outside functions

module _ {Z : Type 0} (table : Interned) where
  pub file_found : (name : List ℕ) (entries : List (Vec ℕ Z × FileEntry)) → FileStands table (rows_of entries)
      → IsFileEntry table (file_name (map (file_row table) (rows_of entries)) name) (lookup (λ (k : Vec ℕ Z). bytes_eq name k.items) entries)
  file_found name [] h = tt
  file_found name (e ∷ es) h =
      subst (λ b. IsFileEntry table (if b then Some (file_row table (record { name = e.0.items; entry = e.1 })) else file_name (map (file_row table) (rows_of es)) name) (cond (bytes_eq name e.0.items) (Some e.1) (lookup (λ (k : Vec ℕ Z). bytes_eq name k.items) es)))
      (bytes_eq-swap name e.0.items) (by (bytes_eq name e.0.items) (file_found name es h.1))
    where
      by : (b : Bool) → IsFileEntry table (file_name (map (file_row table) (rows_of es)) name) (lookup (λ (k : Vec ℕ Z). bytes_eq name k.items) es)
          → IsFileEntry table (if b then Some (file_row table (record { name = e.0.items; entry = e.1 })) else file_name (map (file_row table) (rows_of es)) name) (cond b (Some e.1) (lookup (λ (k : Vec ℕ Z). bytes_eq name k.items) es))
      by true rest = (h.0, refl)
      by false rest = rest

  -- a name that is put in the place of the same name
  pub file_stands : (entries : List (Vec ℕ Z × FileEntry)) (key : Vec ℕ Z) (entry : FileEntry) → FileStands table (rows_of entries) → KnownStands table entry.c_type
      → FileStands table (rows_of (insert_entry (λ (a b : Vec ℕ Z). bytes_eq a.items b.items) entries key entry))
  file_stands [] key entry h stands = (stands, tt)
  file_stands (e ∷ es) key entry h stands = by (bytes_eq key.items e.0.items) (file_stands es key entry h.1 stands)
    where
      by : (b : Bool) → FileStands table (rows_of (insert_entry (λ (a b : Vec ℕ Z). bytes_eq a.items b.items) es key entry))
          → FileStands table (rows_of (if b then (e.0, entry) ∷ es else e ∷ insert_entry (λ (a b : Vec ℕ Z). bytes_eq a.items b.items) es key entry))
      by true rest = (stands, h.1)
      by false rest = (h.0, rest)

  pub file_put : (entries : List (Vec ℕ Z × FileEntry)) (key : Vec ℕ Z) (entry : FileEntry)
      → map (file_row table) (rows_of (insert_entry (λ (a b : Vec ℕ Z). bytes_eq a.items b.items) entries key entry))
      ≡ with_file_name (file_row table (record { name = key.items; entry = entry })) (map (file_row table) (rows_of entries))
  file_put [] key entry = refl
  file_put (e ∷ es) key entry =
      by (bytes_eq key.items e.0.items) refl (file_put es key entry)
      ∙ ap (λ b. if b then put ∷ map (file_row table) (rows_of es) else file_row table (record { name = e.0.items; entry = e.1 }) ∷ with_file_name put (map (file_row table) (rows_of es))) (bytes_eq-swap key.items e.0.items)
    where
      put : FileName
      put = file_row table (record { name = key.items; entry = entry })

      by : (b : Bool) → bytes_eq key.items e.0.items ≡ b
          → map (file_row table) (rows_of (insert_entry (λ (a b : Vec ℕ Z). bytes_eq a.items b.items) es key entry)) ≡ with_file_name put (map (file_row table) (rows_of es))
          → map (file_row table) (rows_of (if b then (e.0, entry) ∷ es else e ∷ insert_entry (λ (a b : Vec ℕ Z). bytes_eq a.items b.items) es key entry))
          ≡ (if b then put ∷ map (file_row table) (rows_of es) else file_row table (record { name = e.0.items; entry = e.1 }) ∷ with_file_name put (map (file_row table) (rows_of es)))
      by true e1 rest =
          let same : e.0.items ≡ key.items = sym ((bytes_eq-Decides key.items e.0.items).0 e1) in
          λ i. file_row table (record { name = same i; entry = entry }) ∷ map (file_row table) (rows_of es)
      by false e1 rest = ap (λ rows. file_row table (record { name = e.0.items; entry = e.1 }) ∷ rows) rest

module _ (table : Interned) (name : List ℕ) where
  -- what it means
  pub file_means : (known : Option FileName) (entry : FileEntry) → IsFileEntry table known (Some entry) → Outer (known_in table.tags table.entries entry.c_type) ≡ file_meaning known name
  file_means (Some found) entry h = ap (λ (found : FileName). Outer found.c_type) (sym h.1)
  file_means None entry h = absurd h

  pub file_entry_stands : (known : Option FileName) (entry : FileEntry) → IsFileEntry table known (Some entry) → KnownStands table entry.c_type
  file_entry_stands (Some found) entry h = h.0
  file_entry_stands None entry h = absurd h

  pub file_nothing : (known : Option FileName) → IsFileEntry table known None → file_meaning known name ≡ library_meaning (library_named name)
  file_nothing (Some found) h = absurd h
  file_nothing None h = refl

-- ---- locals

-- what a name means by its local, or else outside
abbrev pub local_or : Option ℕ → Option CType → Meaning → Meaning
local_or (Some n) c_type outside = Local n c_type
local_or None c_type outside = outside

module _ (table : Interned) (name : List ℕ) where
  pub local_means : (locals : List LocalEntry) (outside : Meaning)
      → local_meaning (map (local_name table) locals) name outside ≡ local_or (local_number locals name) (known_in table.tags table.entries (local_type locals name)) outside
  local_means [] outside = refl
  local_means (newest ∷ others) outside = by (bytes_eq newest.name name) (local_means others outside)
    where
      by : (b : Bool)
          → local_meaning (map (local_name table) others) name outside ≡ local_or (local_number others name) (known_in table.tags table.entries (local_type others name)) outside
          → (if b then Local (length (map (local_name table) others)) (known_in table.tags table.entries newest.c_type) else local_meaning (map (local_name table) others) name outside)
          ≡ local_or (if b then Some (length others) else local_number others name) (known_in table.tags table.entries (if b then newest.c_type else local_type others name)) outside
      by true rest = ap (λ n. Local n (known_in table.tags table.entries newest.c_type)) (length-map others (local_name table))
      by false rest = rest

  pub local_stands : (locals : List LocalEntry) → LocalsStand table locals → KnownStands table (local_type locals name)
  local_stands [] h = tt
  local_stands (newest ∷ others) h = by (bytes_eq newest.name name) (local_stands others h.1)
    where
      by : (b : Bool) → KnownStands table (local_type others name) → KnownStands table (if b then newest.c_type else local_type others name)
      by true rest = h.0
      by false rest = rest

  pub local_here : (locals : List LocalEntry) → has_entry locals name ≡ has_local (map (local_name table) locals) name
  local_here [] = refl
  local_here (newest ∷ others) = by (bytes_eq newest.name name) (local_here others)
    where
      by : (b : Bool) → has_entry others name ≡ has_local (map (local_name table) others) name → (if b then true else has_entry others name) ≡ (b || has_local (map (local_name table) others) name)
      by true rest = refl
      by false rest = rest

module _ (table : Interned) where
  pub locals_joined : (inner outer : List LocalEntry) → LocalsStand table inner → LocalsStand table outer → LocalsStand table (inner ++ outer)
  locals_joined [] outer h k = k
  locals_joined (newest ∷ inner) outer h k = (h.0, locals_joined inner outer h.1 k)

  pub locals_taken : (n : ℕ) (locals : List LocalEntry) → LocalsStand table locals → LocalsStand table (take n locals)
  locals_taken zero locals h = tt
  locals_taken (suc n) [] h = tt
  locals_taken (suc n) (newest ∷ locals) h = (h.0, locals_taken n locals h.1)

  pub locals_dropped : (n : ℕ) (locals : List LocalEntry) → LocalsStand table locals → LocalsStand table (drop n locals)
  locals_dropped zero locals h = h
  locals_dropped (suc n) [] h = tt
  locals_dropped (suc n) (newest ∷ locals) h = locals_dropped n locals h.1

-- where a block begins
pub entered_stand : {Z : Type 0} (table : Interned) {entries : List (Vec ℕ Z × FileEntry)} (old new : LocalTable) → new ≡ record { inner = []; outer = all_locals old }
    → FileStands table (rows_of entries) → LocalsStand table old.inner → LocalsStand table old.outer → AreNames table entries new
entered_stand table {entries} old new is file inner outer =
    subst (AreNames table entries) (sym is) (record { file = file; inner = tt; outer = locals_joined table old.inner old.outer inner outer })

-- ---- a checker's names

module _ (state : State) (name : List ℕ) where
  abbrev outside : Meaning
  outside = file_meaning (file_name (scope_of state).file name) name

  meaning_is : meaning_of (scope_of state) name
      ≡ local_or (local_number (all_locals state.locals) name) (known_in state.table.tags state.table.entries (local_type (all_locals state.locals) name)) outside
  meaning_is =
      ap (λ locals. local_meaning locals name outside) (sym (map-append (local_name state.table) state.locals.inner state.locals.outer))
      ∙ local_means state.table name (all_locals state.locals) outside

  pub means_local : (n : ℕ) (c_type : Option number.CType) → Some n ≡ local_number (all_locals state.locals) name → c_type ≡ local_type (all_locals state.locals) name
      → Local n (known_in state.table.tags state.table.entries c_type) ≡ meaning_of (scope_of state) name
  means_local n c_type at is = (λ i. local_or (at i) (known_in state.table.tags state.table.entries (is i)) outside) ∙ sym meaning_is

  no_local : None ≡ local_number (all_locals state.locals) name → outside ≡ meaning_of (scope_of state) name
  no_local none = ap (λ n. local_or n (known_in state.table.tags state.table.entries (local_type (all_locals state.locals) name)) outside) none ∙ sym meaning_is

  pub means_outer : None ≡ local_number (all_locals state.locals) name → (entry : FileEntry) → IsFileEntry state.table (file_name (scope_of state).file name) (Some entry)
      → Outer (known_in state.table.tags state.table.entries entry.c_type) ≡ meaning_of (scope_of state) name
  means_outer none entry is = file_means state.table name (file_name (scope_of state).file name) entry is ∙ no_local none

  not_declared : None ≡ local_number (all_locals state.locals) name → IsFileEntry state.table (file_name (scope_of state).file name) None
      → library_meaning (library_named name) ≡ meaning_of (scope_of state) name
  not_declared none is = sym (file_nothing state.table name (file_name (scope_of state).file name) is) ∙ no_local none

  pub means_library : None ≡ local_number (all_locals state.locals) name → IsFileEntry state.table (file_name (scope_of state).file name) None
      → (function : LibraryFunction) → Some function ≡ library_named name → Library function (library_type function) ≡ meaning_of (scope_of state) name
  means_library none is function named = ap library_meaning named ∙ not_declared none is

  pub means_nothing : None ≡ local_number (all_locals state.locals) name → IsFileEntry state.table (file_name (scope_of state).file name) None
      → None ≡ library_named name → NoMeaning ≡ meaning_of (scope_of state) name
  means_nothing none is unnamed = ap library_meaning unnamed ∙ not_declared none is

module _ (state now : State) (view : state ≡ now) where
  -- with another list of names outside functions
  pub file_leads : (rows : List FileRow) (name : List ℕ) (entry : FileEntry)
      → map (file_row state.table) rows ≡ with_file_name (file_row state.table (record { name = name; entry = entry })) (map (file_row state.table) state.file)
      → ScopeGrows (record (scope_of now) { file = with_file_name (file_row now.table (record { name = name; entry = entry })) (scope_of now).file }) now (record state { file = rows })
  file_leads rows name entry put =
      subst (λ (s : State). ScopeGrows (record (scope_of s) { file = with_file_name (file_row s.table (record { name = name; entry = entry })) (scope_of s).file }) s (record state { file = rows })) view
      (record { table = refl; scope = λ i. record (scope_of state) { file = put i }; least = refl })

  -- where the innermost block is left, for the block around it
  pub left_leads : (locals : LocalTable) (n : ℕ)
      → ((block around : List LocalEntry) → state.locals.outer ≡ block ++ around → length around ≡ n → locals ≡ record { inner = block; outer = around })
      → (block around : List LocalName) → (scope_of now).outer ≡ block ++ around → length around ≡ n
      → ScopeGrows (record (scope_of now) { inner = block; outer = around }) now (record state { locals = locals })
  left_leads locals n left block around split long =
      subst (λ (s : State). ScopeGrows (record (scope_of s) { inner = block; outer = around }) s (record state { locals = locals })) view
      (record { table = refl; scope = ap (λ (ls : LocalTable). scope_of (record state { locals = ls })) is ∙ (λ i. record (scope_of state) { inner = inner_is i; outer = outer_is i }); least = refl })
    where
      f : LocalEntry → LocalName
      f = local_name state.table

      k : ℕ
      k = length block

      there : map f state.locals.outer ≡ block ++ around
      there = ap (λ (s : State). map (local_name s.table) s.locals.outer) view ∙ split

      inner_is : map f (take k state.locals.outer) ≡ block
      inner_is = sym (take-map f k state.locals.outer) ∙ ap (take k) there ∙ take-append_seam block around

      outer_is : map f (drop k state.locals.outer) ≡ around
      outer_is = sym (drop-map f k state.locals.outer) ∙ ap (drop k) there ∙ drop-append_seam block around

      is : locals ≡ record { inner = take k state.locals.outer; outer = drop k state.locals.outer }
      is = left (take k state.locals.outer) (drop k state.locals.outer) (sym (take-append-drop k state.locals.outer)) (sym (length-map (drop k state.locals.outer) f) ∙ ap length outer_is ∙ long)

  -- and then the types of all names stand
  pub left_stand : {Z : Type 0} {entries : List (Vec ℕ Z × FileEntry)} (locals : LocalTable) (n : ℕ) → n ≤ length (scope_of now).outer
      → ((block around : List LocalEntry) → state.locals.outer ≡ block ++ around → length around ≡ n → locals ≡ record { inner = block; outer = around })
      → FileStands state.table (rows_of entries) → LocalsStand state.table state.locals.outer → AreNames state.table entries locals
  left_stand {entries = entries} locals n le left file stand =
      let old = state.locals.outer in
      let k = length old - n in
      let same = ap (λ (s : State). length s.locals.outer) view in
      let long : length (drop k old) ≡ n = omega (arith, length-drop k old, length-map now.locals.outer (local_name now.table)) in
      subst (AreNames state.table entries) (sym (left (take k old) (drop k old) (sym (take-append-drop k old)) long))
      (record { file = file; inner = locals_taken state.table k old stand; outer = locals_dropped state.table k old stand })
