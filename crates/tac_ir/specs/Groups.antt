-- Groups of functions: the strong components of the graph of calls, in which functions that one call may reach through a pointer call each
-- other. Callees come first, and among groups that might come next the one whose first function stands first in the text.
use Rattle.std.specs.Prelude.{◌≡◌, ℕ, ◌<◌, ◌≤◌, ◌⊎◌, true, List, [], ◌∷◌, ◌++◌, length, slice_get, Some}
use Rattle.c_typed.specs.Types.{CType}
use Rattle.tac_ir.specs.declared.register.Register.{Register}
use Rattle.tac_ir.specs.Code as O
use Rattle.tac_ir.specs.Code.{Callee, Through, Function, Tac}
use Rattle.tac_ir.specs.Targets.{is_target}

-- a function has this call
pub record Makes (tac : Tac) (caller : ℕ) (callee : Callee) : Type 0 where
  pub function : Function
  pub is : slice_get tac.functions caller ≡ Some function
  pub at : ℕ
  pub site : ℕ
  pub arguments : List Register
  pub point : slice_get function.points at ≡ Some (O.Call site callee arguments)

-- one function may call another; two of a class count as doing so
pub data Calls (tac : Tac) (caller called : ℕ) : Type 0 where
  by_call : (callee : Callee) → Makes tac caller callee → is_target tac callee called ≡ true → Calls tac caller called
  in_class : (other : ℕ) (pointer : Register) (c_type : CType) → Makes tac other (Through pointer c_type) → is_target tac (Through pointer c_type) caller ≡ true
      → is_target tac (Through pointer c_type) called ≡ true → Calls tac caller called

pub data Reaches (tac : Tac) : ℕ → ℕ → Type 0 where
  itself : (function : ℕ) → Reaches tac function function
  through : (caller called last : ℕ) → Calls tac caller called → Reaches tac called last → Reaches tac caller last

abbrev pub AreTogether : Tac → ℕ → ℕ → Type 0
AreTogether tac a b = Reaches tac a b × Reaches tac b a

-- ---- groups as lists of functions

abbrev pub IsIn : ℕ → List ℕ → Type 0
IsIn number [] = ⊥
IsIn number (first ∷ others) = (number ≡ first) ⊎ IsIn number others

abbrev pub IsAmong : ℕ → List (List ℕ) → Type 0
IsAmong number [] = ⊥
IsAmong number (group ∷ groups) = IsIn number group ⊎ IsAmong number groups

-- in the order of the text, at least one
abbrev pub IsAscending : List ℕ → Type 0
IsAscending [] = ⊥
IsAscending (last ∷ []) = Unit {0}
IsAscending (first ∷ next ∷ others) = (first < next) × IsAscending (next ∷ others)

-- what the functions of a group call is in it or stands before
abbrev pub IsReady : Tac → List (List ℕ) → List ℕ → Type 0
IsReady tac before group = (caller called : ℕ) → IsIn caller group → Calls tac caller called → IsIn called group ⊎ IsAmong called before

abbrev pub BeginsFirst : List ℕ → List ℕ → Type 0
BeginsFirst [] other = Unit {0}
BeginsFirst (first ∷ group) [] = Unit {0}
BeginsFirst (first ∷ group) (other ∷ others) = first ≤ other

pub record AreGroups (tac : Tac) (groups : List (List ℕ)) : Type 0 where
  -- the functions of the program, each once
  pub all : (function : ℕ) → function < length tac.functions → IsAmong function groups
  pub only : (function : ℕ) → IsAmong function groups → function < length tac.functions
  pub once : (before after : List (List ℕ)) (group : List ℕ) (function : ℕ) → groups ≡ before ++ group ∷ after → IsIn function group → IsAmong function (before ++ after) → ⊥
  pub ascending : (before after : List (List ℕ)) (group : List ℕ) → groups ≡ before ++ group ∷ after → IsAscending group
  -- those that call each other
  pub together : (before after : List (List ℕ)) (group : List ℕ) (a b : ℕ) → groups ≡ before ++ group ∷ after → IsIn a group → AreTogether tac a b → IsIn b group
  pub apart : (before after : List (List ℕ)) (group : List ℕ) (a b : ℕ) → groups ≡ before ++ group ∷ after → IsIn a group → IsIn b group → AreTogether tac a b
  -- callees first, and of those that are ready the first
  pub ready : (before after : List (List ℕ)) (group : List ℕ) → groups ≡ before ++ group ∷ after → IsReady tac before group
  pub next : (before after : List (List ℕ)) (group other : List ℕ) (before_other after_other : List (List ℕ)) → groups ≡ before ++ group ∷ after → after ≡ before_other ++ other ∷ after_other
      → IsReady tac before other → BeginsFirst group other
