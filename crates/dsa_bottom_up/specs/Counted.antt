-- Structures whose slots are counted exactly.
use Rattle.std.specs.Prelude.{◌<◌, List}
use Rattle.std.specs.List.{AllByRecursion}
use Rattle.c_typed.specs.Types.{Struct}
use Rattle.c_typed.specs.Layouts.{StructDef, layout_of, greatest}

-- each structure has fewer slots than the number at which they end
abbrev pub HaveFewSlots : List StructDef → Type 0
HaveFewSlots structs = AllByRecursion (λ (one : StructDef). (layout_of structs (Struct one.tag)).slots < greatest) structs
