-- Types whose sizes are told exactly: those that are not cut off at the greatest size.
use Rattle.std.specs.Prelude.{◌<◌, List}
use Rattle.c_typed.specs.Types.{CType}
use Rattle.c_typed.specs.Layouts.{StructDef, greatest}
use Rattle.tac_ir.specs.Values.{Content, Typed}
use Rattle.tac_ir.specs.Layouts.{size_of}

abbrev pub IsExact : List StructDef → CType → Type 0
IsExact structs c_type = size_of structs c_type < greatest

-- what an object holds is of such a type, if of any
abbrev pub HasExactType : List StructDef → Content → Type 0
HasExactType structs (Typed c_type count held) = IsExact structs c_type
HasExactType structs content = Unit {0}
