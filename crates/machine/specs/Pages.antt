-- Bytes in pages of 4,096: a page that was never written has no memory, and its bytes are zero.
use Rattle.std.specs.Prelude.{ℕ, List, Option, Some, None}
use Rattle.std.specs.List.{flat_map}
use Rattle.run_theory.specs.Words.{zeros}
use Rattle.raw_slab.specs.declared.RawSlab.{RawSlab}

abbrev pub page_bytes : Option RawSlab → List ℕ
page_bytes None = zeros 4096
page_bytes (Some page) = page.bytes

-- the bytes of all pages, one after another
abbrev pub bytes_in : List (Option RawSlab) → List ℕ
bytes_in pages = flat_map page_bytes pages
