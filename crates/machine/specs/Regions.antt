-- The bytes of a frame, or of the globals.
use Rattle.std.specs.Prelude.{ℕ, List}
use Rattle.machine.specs.declared.region.Store.{Store}
use Rattle.machine.specs.declared.region.Store.TheVariants.{Small, Large}

abbrev pub stored_bytes : Store → List ℕ
stored_bytes (Small bytes) = bytes.items
stored_bytes (Large bytes) = bytes
