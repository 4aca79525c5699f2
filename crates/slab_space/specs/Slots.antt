-- What the table of the slabs reached so far says of them.
use Rattle.std.specs.Prelude.{◌≡◌, ℕ, ◌-◌, ◌*◌, ◌≤◌, List, ◌++◌, map, length, replicate, max, Option, Some, None}
use Rattle.std.specs.List.{flat_map}
use Rattle.run_theory.specs.Words.{zeros}
use Rattle.slab_space.specs.declared.slots.HeldSlab.{HeldSlab}

abbrev pub slot_owner : Option HeldSlab → Option ℕ
slot_owner None = None
slot_owner (Some slab) = Some slab.run

abbrev pub slot_bytes : Option HeldSlab → List ℕ
slot_bytes None = zeros 4096
slot_bytes (Some slab) = slab.memory.bytes

abbrev pub owners_in : List (Option HeldSlab) → List (Option ℕ)
owners_in slots = map slot_owner slots

abbrev pub bytes_in : List (Option HeldSlab) → List ℕ
bytes_in slots = flat_map slot_bytes slots

-- the owners and the bytes of all slabs below the limit; slabs that were never reached are free
abbrev pub all_owners : List (Option HeldSlab) → ℕ → List (Option ℕ)
all_owners slots limit = owners_in slots ++ replicate (limit - length slots) None

abbrev pub all_bytes : List (Option HeldSlab) → ℕ → List ℕ
all_bytes slots limit = bytes_in slots ++ zeros (4096 * (limit - length slots))

-- the table has grown, to at most so many slabs, by free ones
pub record Reaches (old new : List (Option HeldSlab)) (end : ℕ) : Type 0 where
  pub extra : ℕ
  pub grown : new ≡ old ++ replicate extra None
  pub within : length new ≤ max (length old) end
