-- What is known of first values and of `start` before the graphs of a program are made: each first value lies within its variable, a pointer
-- points into an object that is there, and `start` calls functions by their names alone.
use Rattle.std.specs.Prelude.{◌≡◌, ℕ, List, map, slice_get, Option, Some, None, pos}
use Rattle.std.specs.List.{AllByRecursion}
use Rattle.c_typed.specs.declared.part.Part.{Part}
use Rattle.c_typed.specs.declared.part.Part.TheVariants as P
use Rattle.c_typed.specs.Values as first
use Rattle.c_typed.specs.Types.{CType}
use Rattle.c_typed.specs.Typed.{GlobalDef, LiteralDef}
use Rattle.tac_ir.specs.declared.register.Register.{Register}
use Rattle.tac_ir.specs.Code.{Base, AtGlobal, AtLiteral, Step, Member, Element, Constant, Path, Through, Tac}
use Rattle.tac_ir.specs.Code as O
use Rattle.tac_ir.specs.First.{named_global, placed_literal}
use Rattle.tac_ir.specs.States.{InStart}
use Rattle.graph_unification.specs.Standing.{PathStands, CodeStands}

-- ---- paths

-- of an array one element stands for all
abbrev pub step_in : Part → Step
step_in (P.Member index number) = Member number
step_in (P.Elements index) = Element (Constant (pos 0))

abbrev pub path_to : Base → List Part → Path
path_to base steps = record { base = base; steps = map step_in steps }

abbrev pub global_base : Option (ℕ × GlobalDef) → Option Base
global_base None = None
global_base (Some found) = Some (AtGlobal found.0)

abbrev pub literal_base : Option (ℕ × LiteralDef) → Option Base
literal_base None = None
literal_base (Some found) = Some (AtLiteral found.0)

-- the object that a constant names
abbrev pub base_of : Tac → first.Static → Option Base
base_of tac (first.StaticVariable name) = global_base (named_global 0 tac.globals name)
base_of tac (first.StaticLiteral place) = literal_base (placed_literal 0 tac.literals place)

-- ---- what is known

abbrev pub IsWithin : Tac → Base → List Part → Type 0
IsWithin tac base steps = PathStands tac InStart tac.start (path_to base steps)

pub record PlaceStands (tac : Tac) (place : first.FirstPlace) : Type 0 where
  pub base : Base
  pub is : base_of tac place.root ≡ Some base
  pub within : IsWithin tac base place.steps

abbrev pub ValueStands : Tac → first.FirstScalar → Type 0
ValueStands tac (first.PointerValue place) = PlaceStands tac place
ValueStands tac value = Unit {0}

pub record HeldStands (tac : Tac) (number : ℕ) (held : first.Held) : Type 0 where
  pub place : IsWithin tac (AtGlobal number) held.leaf.steps
  pub value : ValueStands tac held.value

abbrev pub FirstStands : Tac → Type 0
FirstStands tac = (number : ℕ) (global : GlobalDef) → slice_get tac.globals number ≡ Some global → AllByRecursion (HeldStands tac number) global.first

-- ---- `start`

abbrev pub CallsByName : Tac → Type 0
CallsByName tac = (at site : ℕ) (pointer : Register) (c_type : CType) (arguments : List Register) → slice_get tac.start.points at ≡ Some (O.Call site (Through pointer c_type) arguments) → ⊥

-- ---- programs

-- what has to be known of a program whose graphs are made
pub record ProgramStands (tac : Tac) : Type 0 where
  pub code : CodeStands tac
  pub first : FirstStands tac
  pub start : CallsByName tac
