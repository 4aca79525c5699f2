-- How two nodes lie to each other, of which two slots have to be one.
use Rattle.std.specs.Prelude.{ℕ, ◌-◌, nat_lt, ◌&&◌, not, if◌then◌else◌, List}
use Rattle.c_typed.specs.Layouts.{StructDef}
use Rattle.heap_graph.specs.Parts.{has_part}
use Rattle.heap_graph.specs.Graphs.{Element, Missing, OfType, Collapsed}

pub data Relation : Type 0 where
  -- the first lies in the second, behind so many of its slots
  Inside : (distance : ℕ) → Relation
  -- the second in the first
  Around : (distance : ℕ) → Relation
  Clashing : Relation

-- a slot of the one and a slot of the other
abbrev pub relation : List StructDef → Element → ℕ → Element → ℕ → Relation
relation structs Missing i b j = Inside j
relation structs (OfType t) i Missing j = Around i
relation structs (OfType t) i (OfType u) j =
    if not (nat_lt j i) && has_part structs u (j - i) t then Inside (j - i) else if not (nat_lt i j) && has_part structs t (i - j) u then Around (i - j) else Clashing
relation structs (OfType t) i Collapsed j = Clashing
relation structs Collapsed i Missing j = Around i
relation structs Collapsed i (OfType u) j = Clashing
relation structs Collapsed i Collapsed j = Inside 0
