-- First values of plain data stand inside static objects: each where a scalar is, all of whose bytes are there, and the places on the way
-- lie before the greatest size.
use Rattle.std.specs.Prelude.{◌≡◌, ℕ, suc, ◌+◌, ◌≤◌, List, [], ◌∷◌, Some}
use Rattle.c_typed.specs.Types.{CType}
use Rattle.c_typed.specs.Typed.{GlobalDef}
use Rattle.c_typed.specs.Values.{FirstScalar, PointerValue, Held}
use Rattle.tac_ir.specs.Layouts.{Inner, leaf_at}
use Rattle.tac_ir.specs.First.{static_of, offset_in}
use Rattle.tac_ir.specs.Code.{Tac}
use Rattle.pool_ir.specs.Memory.{slot_size}
use Rattle.pool_rewrite.specs.Rewriting.{slot_of}
use Rattle.pool_rewrite.specs.Placing.{statics_size, global_offset}
use Rattle.pool_rewrite.specs.Firsts.{element_in, PartsFit, RootFits}

abbrev pub ValueInside : Tac → FirstScalar → Type 0
ValueInside tac (PointerValue place) = RootFits tac.structs place.steps place.index (static_of tac place.root)
ValueInside tac value = Unit {0}

-- in an object of a type, which begins so many bytes behind the beginning of the static objects
pub record HeldInside (tac : Tac) (c_type : CType) (start : ℕ) (held : Held) : Type 0 where
  pub inner : Inner
  pub reached : element_in tac.structs (record { offset = 0; c_type = c_type }) held.leaf.steps held.leaf.index ≡ Some inner
  pub place : offset_in tac c_type held.leaf.steps held.leaf.index ≡ Some inner.offset
  pub scalar : leaf_at tac.structs c_type 1 inner.offset ≡ Some inner.c_type
  pub room : start + inner.offset + slot_size (slot_of inner.c_type) ≤ statics_size tac
  pub parts_fit : PartsFit tac.structs held.leaf.steps held.leaf.index (record { offset = 0; c_type = c_type })
  pub value : ValueInside tac held.value

abbrev pub AllInside : Tac → CType → ℕ → List Held → Type 0
AllInside tac c_type start [] = Unit {0}
AllInside tac c_type start (one ∷ others) = HeldInside tac c_type start one × AllInside tac c_type start others

abbrev pub GlobalsInsideFrom : Tac → ℕ → List GlobalDef → Type 0
GlobalsInsideFrom tac number [] = Unit {0}
GlobalsInsideFrom tac number (global ∷ others) = AllInside tac global.c_type (global_offset tac number) global.first × GlobalsInsideFrom tac (suc number) others

-- those of each variable
abbrev pub GlobalsInside : Tac → Type 0
GlobalsInside tac = GlobalsInsideFrom tac 0 tac.globals
