-- What names stand for stays while the table of types grows.
use Rattle.std.proofs.Common.{◌≡◌, ℕ, List, [], ◌∷◌, map, Option, Some, None, refl, ap, subst, sym, Vec}
use Rattle.c_typed.specs.declared.c_type.CType as number
use Rattle.c_typed.specs.declared.c_type.Parameters as numbers
use Rattle.c_typed.specs.Types.{CType, CTypes}
use Rattle.c_typed.specs.Table.{Interned, MemberEntry, KnownStands, known_in, Grows, MakesType, MakesList, completed}
use Rattle.c_typed.proofs.Grown.{stays}
use Rattle.c_types_state.specs.declared.file_name.FileEntry.{FileEntry}
use Rattle.c_rules.specs.Known.{give}
use Rattle.c_types_state.specs.NameTables.{LocalEntry, LocalTable, FileRow, State, local_name, file_row, scope_of, LocalsStand, FileStands}
use Rattle.c_types_state.specs.Checkers.{rows_of, AreNames}
use Rattle.c_types_state.specs.Finding.{Finds, IsType, IsTypes}

module _ (old new : Interned) (grows : Grows old new) where
  pub known_stays : (t : Option number.CType) → KnownStands old t → KnownStands new t × (known_in new.tags new.entries t ≡ known_in old.tags old.entries t)
  known_stays None h = (tt, refl)
  known_stays (Some t) h =
      let kept = stays old new grows t h in
      (kept.0, ap Some kept.1)

  pub rows_stay : (rows : List FileRow) → FileStands old rows → FileStands new rows × (map (file_row new) rows ≡ map (file_row old) rows)
  rows_stay [] h = (tt, refl)
  rows_stay (row ∷ rows) h =
      let first = known_stays row.entry.c_type h.0 in
      let others = rows_stay rows h.1 in (
        (first.0, others.0),
        λ i. record { name = row.name; c_type = first.1 i; has_init = row.entry.has_init; has_body = row.entry.has_body } ∷ others.1 i,
      )

  pub locals_stay : (locals : List LocalEntry) → LocalsStand old locals → LocalsStand new locals × (map (local_name new) locals ≡ map (local_name old) locals)
  locals_stay [] h = (tt, refl)
  locals_stay (local ∷ locals) h =
      let first = known_stays local.c_type h.0 in
      let others = locals_stay locals h.1 in
      ((first.0, others.0), λ i. record { name = local.name; c_type = first.1 i } ∷ others.1 i)

  -- so the names of a checker do
  pub names_stay : {Z : Type 0} (entries : List (Vec ℕ Z × FileEntry)) (locals : LocalTable) → AreNames old entries locals → AreNames new entries locals
  names_stay entries locals names = record {
    file = (rows_stay (rows_of entries) names.file).0;
    inner = (locals_stay locals.inner names.inner).0;
    outer = (locals_stay locals.outer names.outer).0;
  }

-- each of the types in a checker's state stands for one
pub record StateStands (state : State) : Type 0 where
  pub file : FileStands state.table state.file
  pub inner : LocalsStand state.table state.locals.inner
  pub outer : LocalsStand state.table state.locals.outer

-- the same state with another table
abbrev pub with_table : State → Interned → State
with_table state table = record state { table = table }

module _ (state : State) (stand : StateStands state) (new : Interned) (grows : Grows state.table new) where
  pub scope_stays : scope_of (with_table state new) ≡ scope_of state
  scope_stays =
      let file = rows_stay state.table new grows state.file stand.file in
      let inner = locals_stay state.table new grows state.locals.inner stand.inner in
      let outer = locals_stay state.table new grows state.locals.outer stand.outer in
      λ i. record {
        tags = state.tags;
        completed = state.completed;
        defined = state.defined;
        structs = grows.structs i;
        file = file.1 i;
        inner = inner.1 i;
        outer = outer.1 i;
      }

-- and what is found where a type or a list is made
module _ (state now : State) (view : state ≡ now) (stand : StateStands state) (new : Interned) where
  pub type_found : (made : number.CType) (c_type : Interned → CType) → MakesType state.table new made (c_type state.table) → Finds IsType (give (c_type now.table)) now (with_table state new) (Some made)
  type_found made c_type makes =
      subst (λ (s : State). Finds IsType (give (c_type s.table)) s (with_table state new) (Some made)) view
      (record {
        grows = makes.grows;
        scope = scope_stays state stand new makes.grows;
        least = refl;
        known = (makes.stands, makes.means);
      })

  pub types_found : (made : numbers.Parameters) (c_types : Interned → CTypes) → MakesList state.table new made (c_types state.table) → Finds IsTypes (give (c_types now.table)) now (with_table state new) (Some made)
  types_found made c_types makes =
      subst (λ (s : State). Finds IsTypes (give (c_types s.table)) s (with_table state new) (Some made)) view
      (record {
        grows = makes.grows;
        scope = scope_stays state stand new makes.grows;
        least = refl;
        known = (makes.stands, makes.means);
      })

-- what names stand for stays where a structure is completed
module _ (table : Interned) (tag : ℕ) (members : List MemberEntry) where
  known_with : (t : Option number.CType) → KnownStands table t → KnownStands (completed table tag members) t
  known_with None h = tt
  known_with (Some t) h = h

  rows_with : (rows : List FileRow) → FileStands table rows → FileStands (completed table tag members) rows
  rows_with [] h = tt
  rows_with (row ∷ rows) h = (known_with row.entry.c_type h.0, rows_with rows h.1)

  locals_with : (locals : List LocalEntry) → LocalsStand table locals → LocalsStand (completed table tag members) locals
  locals_with [] h = tt
  locals_with (local ∷ locals) h = (known_with local.c_type h.0, locals_with locals h.1)

  pub names_with : {Z : Type 0} (new : Interned) → new ≡ completed table tag members → (entries : List (Vec ℕ Z × FileEntry)) (locals : LocalTable) → AreNames table entries locals → AreNames new entries locals
  names_with new is entries locals names =
      subst (λ (t : Interned). AreNames t entries locals) (sym is)
      (record {
        file = rows_with (rows_of entries) names.file;
        inner = locals_with locals.inner names.inner;
        outer = locals_with locals.outer names.outer;
      })
