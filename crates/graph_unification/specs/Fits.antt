-- What has to be known of a point before what it asks is done to a graph.
use Rattle.std.specs.Prelude.{◌≡◌, ℕ, ◌+◌, ◌<◌, Bool, true, false, List, [], ◌∷◌, Option, Some}
use Rattle.std.specs.List.{list_any}
use Rattle.c_typed.specs.Types.{CType}
use Rattle.c_typed.specs.Layouts.{StructDef, is_complete}
use Rattle.tac_ir.specs.declared.register.Register.{Register}
use Rattle.tac_ir.specs.declared.register.Register.TheVariants as R
use Rattle.tac_ir.specs.Code as O
use Rattle.tac_ir.specs.Code.{Base, Pointed, Indexed, Step, Member, Element, Path, Operand, IntegerOperand, PointerOperand, Op, Tac}
use Rattle.tac_ir.specs.States.{Owner}
use Rattle.heap_graph.specs.Graphs.{OfResult, Graph}
use Rattle.heap_graph.specs.Parts.{slots_of, has_part}
use Rattle.heap_graph.specs.Targets.{has_target, at_target, holds_part, slots_before, type_of_member, element_type, elements_of}
use Rattle.heap_graph.specs.Points.{is_null, is_data_pointer, is_member, of_register, base_part}

-- ---- where steps lead within an object

-- how many slots lie in front of the part to which steps lead, and its type
abbrev pub slots_to : List StructDef → List Step → CType → ℕ
slots_to structs [] c_type = 0
slots_to structs (Member number ∷ steps) c_type = slots_before structs c_type number + slots_to structs steps (type_of_member structs c_type number)
slots_to structs (Element index ∷ steps) c_type = slots_to structs steps (element_type c_type)

abbrev pub type_at : List StructDef → List Step → CType → CType
type_at structs [] c_type = c_type
type_at structs (Member number ∷ steps) c_type = type_at structs steps (type_of_member structs c_type number)
type_at structs (Element index ∷ steps) c_type = type_at structs steps (element_type c_type)

-- ---- bases of paths

abbrev pub is_object : Base → Bool
is_object (Pointed pointer target) = false
is_object (Indexed pointer target number) = false
is_object base = true

-- what is known of what a path begins with: an object's node tells the type of its elements, a pointer tells what it points to
abbrev pub told_of : Base → CType → CType
told_of (Pointed pointer target) c_type = c_type
told_of (Indexed pointer target number) c_type = c_type
told_of base c_type = elements_of c_type

-- steps lead from what is known to a part of it that has a slot
pub record LeadsToPart (structs : List StructDef) (base : Base) (steps : List Step) (c_type : CType) : Type 0 where
  pub complete : is_complete structs c_type ≡ true
  pub part : has_part structs (told_of base c_type) (slots_to structs steps c_type) (type_at structs steps c_type) ≡ true
  pub some : 0 < slots_of structs (type_at structs steps c_type)

module _ (tac : Tac) (graph : Graph) (owner : Owner) where
  abbrev pub has_own : Register → Bool
  has_own register = has_target (of_register tac graph owner register)

  -- a path whose object keeps its type, and whose members are parts of it
  pub record PathFits (path : Path) : Type 0 where
    pub based : is_object path.base ≡ true → has_target (base_part tac graph owner path.base).target ≡ true
    pub object : is_object path.base ≡ true
        → at_target graph (base_part tac graph owner path.base).target (holds_part tac.structs (elements_of (base_part tac graph owner path.base).c_type)) ≡ true
    pub leads : list_any is_member path.steps ≡ true → LeadsToPart tac.structs path.base path.steps (base_part tac graph owner path.base).c_type

  -- a scalar is read or written there: where a pointer tells a type whose size is known, that has a slot
  abbrev pub SlotsFit : Path → Type 0
  SlotsFit path = is_object path.base ≡ false → is_complete tac.structs (base_part tac graph owner path.base).c_type ≡ true → 0 < slots_of tac.structs (base_part tac graph owner path.base).c_type

  -- what takes a pointer that isn't a null constant has a target, and so has the pointer
  abbrev pub TakesFit : Bool → Register → Type 0
  TakesFit taker from = is_null tac owner from ≡ false → (taker ≡ true) × (has_own from ≡ true)

  abbrev pub ValueFits : CType → Operand → Type 0
  ValueFits scalar (IntegerOperand tree) = Unit {0}
  ValueFits scalar (PointerOperand register) = is_data_pointer scalar ≡ true → is_null tac owner register ≡ false → has_own register ≡ true

  abbrev pub ReturnFits : Option Operand → Type 0
  ReturnFits (Some (PointerOperand register)) = TakesFit (has_target (graph.targets (OfResult owner))) register
  ReturnFits value = Unit {0}

  abbrev pub OpFits : Op → Type 0
  OpFits (O.Copy to from) = TakesFit (has_own to) from
  OpFits (O.Move to from element is_minus number) = TakesFit (has_own to) from
  OpFits (O.Repoint to target from) = TakesFit (has_own to) from × (is_complete tac.structs target ≡ true → 0 < slots_of tac.structs target)
  OpFits (O.AddressOf to path) = (has_own to ≡ true) × PathFits path
  OpFits (O.Load to scalar path) = (is_data_pointer scalar ≡ true → has_own to ≡ true) × (PathFits path × SlotsFit path)
  OpFits (O.Store path scalar value) = ValueFits scalar value × (PathFits path × SlotsFit path)
  OpFits (O.Allocate site size) = has_own (R.Call site) ≡ true
  OpFits (O.Return value) = ReturnFits value
  OpFits op = Unit {0}

  abbrev pub AllFit : List Op → Type 0
  AllFit [] = Unit {0}
  AllFit (op ∷ ops) = OpFits op × AllFit ops
