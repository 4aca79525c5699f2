-- What the fields of a checker stand for.
use Rattle.std.specs.Prelude.{ℕ, List, map, Option, Vec}
use Rattle.run_theory.specs.declared.place.Pos.{Pos}
use Rattle.c_syntax.specs.Trees.{NameTree}
use Rattle.c_typed.specs.Table.{Interned}
use Rattle.c_types_state.specs.declared.file_name.FileEntry.{FileEntry}
use Rattle.c_rules.specs.declared.violation.Violation.{Violation}
use Rattle.c_types_state.specs.NameTables.{State, FileRow, LocalTable, LocalsStand, FileStands}

abbrev pub tags_of : {Z : Type 0} → List (Vec ℕ Z × Pos) → List NameTree
tags_of entries = map (λ entry. record { bytes = entry.0.items; place = entry.1 }) entries

abbrev pub names_of : {Z : Type 0} → List (Vec ℕ Z) → List (List ℕ)
names_of keys = map (λ key. key.items) keys

abbrev pub rows_of : {Z : Type 0} → List (Vec ℕ Z × FileEntry) → List FileRow
rows_of entries = map (λ entry. record { name = entry.0.items; entry = entry.1 }) entries

abbrev pub state_of : {Z : Type 0} → Interned → List (Vec ℕ Z × Pos) → List (Vec ℕ Z) → List (Vec ℕ Z) → List (Vec ℕ Z × FileEntry) → LocalTable → Option Violation → State
state_of table tags completed defined entries locals least =
    record {
      table = table;
      tags = tags_of tags;
      completed = names_of completed;
      defined = names_of defined;
      file = rows_of entries;
      locals = locals;
      least = least;
    }

-- the types of all names stand
pub record AreNames {Z : Type 0} (table : Interned) (entries : List (Vec ℕ Z × FileEntry)) (locals : LocalTable) : Type 0 where
  pub file : FileStands table (rows_of entries)
  pub inner : LocalsStand table locals.inner
  pub outer : LocalsStand table locals.outer
