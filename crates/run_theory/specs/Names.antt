-- The names of ends as they are printed.
use Rattle.std.specs.Prelude.{ℕ, List, codes}
use Rattle.run_theory.specs.declared.ends.UbKind.{UbKind}
use Rattle.run_theory.specs.declared.ends.UbKind.TheVariants.{U01, U02, U03, U04, U05, U06, U07, U08, U09, U10, U11, U12, U13, U14, U15, U16, U17}
use Rattle.run_theory.specs.declared.ends.TrapKind.{TrapKind}
use Rattle.run_theory.specs.declared.ends.TrapKind.TheVariants.{BadAccess, BadPool, BadFree, BadSize, BadCall, StackEmpty, StackFull, Reached}

abbrev pub undefined_name : UbKind → List ℕ
undefined_name U01 = codes "U01"
undefined_name U02 = codes "U02"
undefined_name U03 = codes "U03"
undefined_name U04 = codes "U04"
undefined_name U05 = codes "U05"
undefined_name U06 = codes "U06"
undefined_name U07 = codes "U07"
undefined_name U08 = codes "U08"
undefined_name U09 = codes "U09"
undefined_name U10 = codes "U10"
undefined_name U11 = codes "U11"
undefined_name U12 = codes "U12"
undefined_name U13 = codes "U13"
undefined_name U14 = codes "U14"
undefined_name U15 = codes "U15"
undefined_name U16 = codes "U16"
undefined_name U17 = codes "U17"

abbrev pub trap_name : TrapKind → List ℕ
trap_name BadAccess = codes "BadAccess"
trap_name BadPool = codes "BadPool"
trap_name BadFree = codes "BadFree"
trap_name BadSize = codes "BadSize"
trap_name BadCall = codes "BadCall"
trap_name StackEmpty = codes "StackEmpty"
trap_name StackFull = codes "StackFull"
trap_name Reached = codes "Reached"
