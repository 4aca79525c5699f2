-- The functions that a call may reach, and the first of them.
use Rattle.std.specs.Prelude.{◌≡◌, ℕ, ◌<◌, ◌↔◌, true, List, [], ◌∷◌, Option, Some, None}
use Rattle.tac_ir.specs.Code.{Callee, Known, Through, Tac}
use Rattle.call_graph.specs.RowLists.{Has}
use Rattle.tac_ir.specs.Targets.{is_target}

-- each stands before the next
abbrev pub IsRising : List ℕ → Type 0
IsRising [] = Unit {0}
IsRising (first ∷ others) = ((other : ℕ) → Has others other → first < other) × IsRising others

-- exactly what a call may reach, in the order of the text
pub record AreTargets (tac : Tac) (callee : Callee) (functions : List ℕ) : Type 0 where
  pub each : (function : ℕ) → Has functions function ↔ (is_target tac callee function ≡ true)
  pub in_order : IsRising functions

-- the first function that a call may reach, if any
abbrev pub IsFirstTarget : Tac → Callee → Option ℕ → Type 0
IsFirstTarget tac callee (Some first) = (is_target tac callee first ≡ true) × ((function : ℕ) → function < first → is_target tac callee function ≡ true → ⊥)
IsFirstTarget tac callee None = (function : ℕ) → is_target tac callee function ≡ true → ⊥

-- the class that a call may reach through a pointer, by its first function
abbrev pub IsClassOf : Tac → Callee → Option ℕ → Type 0
IsClassOf tac (Known function) found = found ≡ None
IsClassOf tac (Through pointer c_type) found = IsFirstTarget tac (Through pointer c_type) found
