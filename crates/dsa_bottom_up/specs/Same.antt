-- When two three-address codes are the same. The name and the type of `start` are left out: what code a program has says nothing of them.
use Rattle.std.specs.Prelude.{◌≡◌, ℕ, List}
use Rattle.c_typed.specs.Types.{CType}
use Rattle.tac_ir.specs.Code.{Tac}

pub record SameCode (a b : Tac) : Type 0 where
  pub structs : a.structs ≡ b.structs
  pub globals : a.globals ≡ b.globals
  pub literals : a.literals ≡ b.literals
  pub functions : a.functions ≡ b.functions
  -- those of `start`
  pub points : a.start.points ≡ b.start.points
  pub objects : a.start.objects ≡ b.start.objects
  pub counts : a.start.counts ≡ b.start.counts
  pub parameters : a.start.parameters ≡ b.start.parameters

-- with another name and type of `start`
abbrev pub renamed : List ℕ → CType → Tac → Tac
renamed name c_type tac = record tac { start = record tac.start { name = name; c_type = c_type } }
