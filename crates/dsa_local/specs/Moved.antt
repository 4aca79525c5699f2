-- Pointers that are moved within an array.
use Rattle.std.specs.Prelude.{◌==◌, Bool, true, not}
use Rattle.c_typed.specs.declared.part.Part.{Part}
use Rattle.c_typed.specs.declared.part.Part.TheVariants as P

-- whether a step leads to another element than the first of a row
abbrev pub moves : Part → Bool
moves (P.Member index number) = not (index == 0)
moves (P.Elements index) = true
