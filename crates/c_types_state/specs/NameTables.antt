-- What a checker holds.
use Rattle.std.specs.Prelude.{◌≡◌, ℕ, Bool, true, false, if◌then◌else◌, List, [], ◌∷◌, ◌++◌, length, map, Option, Some, None, bytes_eq}
use Rattle.c_syntax.specs.Trees.{NameTree}
use Rattle.c_typed.specs.declared.c_type.CType as number
use Rattle.c_typed.specs.Table.{Interned, empty, KnownStands, known_in, structs_in}
use Rattle.c_rules.specs.declared.violation.Violation.{Violation}
use Rattle.c_types_state.specs.declared.file_name.FileEntry as memory_file
use Rattle.c_types_state.specs.declared.name_meaning.NameMeaning.{NameMeaning}
use Rattle.c_types_state.specs.declared.name_meaning.NameMeaning.TheVariants as M
use Rattle.c_rules.specs.Names.{Scope, FileName, LocalName, Meaning, NoMeaning, Local, Outer, Library, library_type}
use Rattle.c_typed.specs.Names.{contains}
use Rattle.c_rules.specs.Programs.{has_tag}

-- ---- locals

-- a local's name, and the number of its type where it has one
pub record LocalEntry : Type 0 where
  pub name : List ℕ
  pub c_type : Option number.CType

-- the locals in scope, the newest first, those of the innermost block apart
pub record LocalTable : Type 0 where
  pub inner : List LocalEntry
  pub outer : List LocalEntry

abbrev pub no_locals : LocalTable
no_locals = record { inner = []; outer = [] }

abbrev pub all_locals : LocalTable → List LocalEntry
all_locals table = table.inner ++ table.outer

-- the newest of a name, by how many stand behind it
abbrev pub local_number : List LocalEntry → List ℕ → Option ℕ
local_number [] name = None
local_number (newest ∷ others) name = if bytes_eq newest.name name then Some (length others) else local_number others name

abbrev pub local_type : List LocalEntry → List ℕ → Option number.CType
local_type [] name = None
local_type (newest ∷ others) name = if bytes_eq newest.name name then newest.c_type else local_type others name

abbrev pub has_entry : List LocalEntry → List ℕ → Bool
has_entry [] name = false
has_entry (newest ∷ others) name = if bytes_eq newest.name name then true else has_entry others name

-- ---- names outside functions

pub record FileRow : Type 0 where
  pub name : List ℕ
  pub entry : memory_file.FileEntry

-- ---- the scope that they stand for

abbrev pub local_name : Interned → LocalEntry → LocalName
local_name table local = record { name = local.name; c_type = known_in table.tags table.entries local.c_type }

abbrev pub file_row : Interned → FileRow → FileName
file_row table row =
    record {
      name = row.name;
      c_type = known_in table.tags table.entries row.entry.c_type;
      has_init = row.entry.has_init;
      has_body = row.entry.has_body;
    }

-- The types of the program, the names that are known at a place of its text, and the least violation that was found so far. Of
-- the tags that the program declares each stands once, with its first place, and each structure that it completes and each
-- function that it defines once.
pub record State : Type 0 where
  pub table : Interned
  pub tags : List NameTree
  pub completed : List (List ℕ)
  pub defined : List (List ℕ)
  pub file : List FileRow
  pub locals : LocalTable
  pub least : Option Violation

abbrev pub scope_of : State → Scope
scope_of state =
    record {
      tags = state.tags;
      completed = state.completed;
      defined = state.defined;
      structs = structs_in state.table;
      file = map (file_row state.table) state.file;
      inner = map (local_name state.table) state.locals.inner;
      outer = map (local_name state.table) state.locals.outer;
    }

-- each of the types stands for one
abbrev pub LocalsStand : Interned → List LocalEntry → Type 0
LocalsStand table [] = Unit {0}
LocalsStand table (local ∷ locals) = KnownStands table local.c_type × LocalsStand table locals

abbrev pub FileStands : Interned → List FileRow → Type 0
FileStands table [] = Unit {0}
FileStands table (row ∷ rows) = KnownStands table row.entry.c_type × FileStands table rows

-- ---- what a name means

abbrev pub meaning_in : Interned → NameMeaning → Meaning
meaning_in table M.Nothing = NoMeaning
meaning_in table (M.Local number c_type) = Local number (known_in table.tags table.entries c_type)
meaning_in table (M.Outer c_type) = Outer (known_in table.tags table.entries c_type)
meaning_in table (M.Library function) = Library function (library_type function)

abbrev pub MeaningStands : Interned → NameMeaning → Type 0
MeaningStands table (M.Local number c_type) = KnownStands table c_type
MeaningStands table (M.Outer c_type) = KnownStands table c_type
MeaningStands table _ = Unit {0}

abbrev pub IsFileEntry : Interned → Option FileName → Option memory_file.FileEntry → Type 0
IsFileEntry table (Some name) (Some entry) = KnownStands table entry.c_type × (name ≡ file_row table (record { name = name.name; entry = entry }))
IsFileEntry table None None = Unit {0}
IsFileEntry table _ _ = ⊥

-- ---- what is added

-- a tag, where it is new
abbrev pub with_tag : List NameTree → NameTree → List NameTree
with_tag tags tag = if has_tag tags tag.bytes then tags else tags ++ tag ∷ []

abbrev pub with_once : List (List ℕ) → List ℕ → List (List ℕ)
with_once names name = if contains names name then names else names ++ name ∷ []

-- where nothing is known
abbrev pub no_state : State
no_state = record { table = empty; tags = []; completed = []; defined = []; file = []; locals = no_locals; least = None }

-- another scope, and all else stays
pub record ScopeGrows (there : Scope) (old new : State) : Type 0 where
  pub table : new.table ≡ old.table
  pub scope : scope_of new ≡ there
  pub least : new.least ≡ old.least
