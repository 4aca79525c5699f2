-- Spots in the code of a function: how many points stand in front, how many registers of each kind are named there, and which locals
-- lie in memory. Code leads from a spot to a spot, and its points are just those in between.
use Rattle.std.specs.Prelude.{ℕ, suc, Bool, true, false, List}
use Rattle.c_num.specs.declared.IntType.{IntType}
use Rattle.c_typed.specs.Types.{CType}
use Rattle.tac_ir.specs.declared.program.Counts.{Counts}
use Rattle.tac_ir.specs.declared.register.Register.{Register}
use Rattle.tac_ir.specs.declared.register.Register.TheVariants as R
use Rattle.tac_ir.specs.Code.{Tree, Path, LocalObject}

pub record Spot : Type 0 where
  pub at : ℕ
  pub counts : Counts
  pub objects : List LocalObject

abbrev pub behind : Spot → Spot
behind spot = record spot { at = suc spot.at }

-- ---- new names

abbrev pub with_variable : Spot → Spot
with_variable spot = record spot { counts = record spot.counts { variables = suc spot.counts.variables } }

abbrev pub with_call : Spot → Spot
with_call spot = record spot { counts = record spot.counts { calls = suc spot.counts.calls } }

abbrev pub with_argument : Spot → Spot
with_argument spot = record spot { counts = record spot.counts { arguments = suc spot.counts.arguments } }

abbrev pub with_expression : Spot → Spot
with_expression spot = record spot { counts = record spot.counts { expressions = suc spot.counts.expressions } }

abbrev pub with_temporary : Spot → Spot
with_temporary spot = record spot { counts = record spot.counts { temporaries = suc spot.counts.temporaries } }

abbrev pub argument : Spot → Register
argument spot = R.Argument spot.counts.arguments

abbrev pub expression : Spot → Register
expression spot = R.Expression spot.counts.expressions

abbrev pub temporary : Spot → Register
temporary spot = R.Temporary spot.counts.temporaries

-- ---- what expressions come to

-- An integer of a type is computed by a tree, a pointer to a type lies in a register, and a path leads to an object of a type; some
-- expressions have no value.
pub data Lowered : Type 0 where
  AsInteger : (int_type : IntType) (tree : Tree) → Lowered
  AsPointer : (register : Register) (target : CType) → Lowered
  AsObject : (path : Path) (c_type : CType) → Lowered
  AsNothing : Lowered

-- What a value is needed for: itself, or no value; the object that it points to; or an element of the row into which it points. Where
-- more code follows before an object is used, its path stands in registers that this doesn't write.
pub data Mode : Type 0 where
  Kept : Mode
  Dropped : Mode
  Behind : (followed : Bool) → Mode
  Row : (followed : Bool) → Mode

abbrev pub is_used : Mode → Bool
is_used Dropped = false
is_used mode = true

abbrev pub is_followed : Mode → Bool
is_followed (Behind followed) = followed
is_followed (Row followed) = followed
is_followed mode = false

abbrev pub is_address : Mode → Bool
is_address (Behind followed) = false
is_address mode = true

abbrev pub cast_mode : Mode → Mode
cast_mode Dropped = Dropped
cast_mode mode = Kept

abbrev pub pointed_mode : Bool → Bool → Mode
pointed_mode true followed = Kept
pointed_mode false followed = Behind followed
