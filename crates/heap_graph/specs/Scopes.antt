-- What is added to what is known of a function's code.
use Rattle.std.specs.Prelude.{◌≡◌, false, ◌||◌, if◌then◌else◌, List, [], ◌∷◌}
use Rattle.std.specs.List.{list_any}
use Rattle.c_typed.specs.declared.c_type.CType as number
use Rattle.tac_ir.specs.declared.register.Local.{Local}
use Rattle.tac_ir.specs.declared.register.Register.{Register}
use Rattle.tac_ir.specs.declared.program.LocalObject.{LocalObject}
use Rattle.tac_ir.specs.Code.{Op}
use Rattle.tac_ir.specs.Trees.{same_register}
use Rattle.tac_ir.specs.Values.{same_local}
use Rattle.heap_graph.specs.Points.{makes_null}
use Rattle.heap_graph.specs.declared.scope.RegisterMarks.{RegisterMarks}
use Rattle.heap_graph.specs.declared.scope.LocalTypes.{LocalTypes}
use Rattle.heap_graph.specs.Known.{is_marked, local_type, void}

abbrev pub AreBlank : RegisterMarks → Type 0
AreBlank marks = (register : Register) → is_marked marks register ≡ false

-- one register is marked
abbrev pub Marks : RegisterMarks → RegisterMarks → Register → Type 0
Marks old new marked = (register : Register) → is_marked new register ≡ (same_register marked register || is_marked old register)

-- that of a null pointer constant is
abbrev pub MarksNull : RegisterMarks → RegisterMarks → Op → Type 0
MarksNull old new op = (register : Register) → is_marked new register ≡ (makes_null register op || is_marked old register)

-- all of these are
abbrev pub MarksNulls : RegisterMarks → RegisterMarks → List Op → Type 0
MarksNulls old new points = (register : Register) → is_marked new register ≡ (list_any (makes_null register) points || is_marked old register)

-- the type of the first object of a local
abbrev pub type_among : List LocalObject → Local → number.CType
type_among [] local = void
type_among (first ∷ others) local = if same_local first.local local then first.c_type else type_among others local

abbrev pub TellsTypes : List LocalObject → LocalTypes → Type 0
TellsTypes objects locals = (local : Local) → local_type locals local ≡ type_among objects local

-- an object is put in front of the others
abbrev pub AddsType : LocalTypes → LocalTypes → LocalObject → Type 0
AddsType old new object = (local : Local) → local_type new local ≡ (if same_local object.local local then object.c_type else local_type old local)
