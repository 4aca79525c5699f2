-- What the table of the locals in scope holds.
use Rattle.std.specs.Prelude.{◌≡◌, ℕ, ◌≤◌, List, [], ◌∷◌, length, reverse, map, take, drop, Option, Vec, bytes_eq}
use Rattle.indexmap.specs.IndexMap.{IndexMap, get_by}
use Rattle.c_types_state.specs.declared.locals.Local as memory_local
use Rattle.c_types_state.specs.NameTables.{LocalEntry, LocalTable, local_number}

abbrev pub entry_of : memory_local.Local → LocalEntry
entry_of local = record { name = local.name.items; c_type = local.c_type }

abbrev pub entries_of : List memory_local.Local → List LocalEntry
entries_of locals = map entry_of locals

-- the table of these locals, which stand in the order of their declarations, where so many were declared outside of the
-- innermost block
abbrev pub table_of : List memory_local.Local → ℕ → LocalTable
table_of locals outer = record { inner = entries_of (reverse (drop outer locals)); outer = entries_of (reverse (take outer locals)) }

-- each of the locals, the newest first, has what its name meant before
abbrev pub HaveHidden : List memory_local.Local → Type 0
HaveHidden [] = Unit {0}
HaveHidden (newest ∷ locals) = (newest.hidden ≡ local_number (entries_of locals) newest.name.items) × HaveHidden locals

abbrev pub number_in : {S Z : Type 0} → IndexMap (Vec ℕ Z) ℕ S → List ℕ → Option ℕ
number_in numbers name = get_by (λ key. bytes_eq name key.items) numbers

-- the map has what each name means
pub record IsTable {S Z : Type 0} (numbers : IndexMap (Vec ℕ Z) ℕ S) (locals : List memory_local.Local) (outer : ℕ) : Type 0 where
  pub meaning : (name : List ℕ) → number_in numbers name ≡ local_number (entries_of (reverse locals)) name
  pub hidden : HaveHidden (reverse locals)
  pub within : outer ≤ length locals
