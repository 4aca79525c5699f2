-- The functions of groups before from which something escapes, by the classes of calls through pointers.
use Rattle.std.specs.Prelude.{◌≡◌, ◌↔◌, ℕ, ◌<◌, ◌==◌, Bool, true, false, ◌&&◌, if◌then◌else◌, List, [], ◌∷◌, ◌++◌, length, slice_get, Option, Some, None, unwrap_or}
use Rattle.tac_ir.specs.declared.program.Tac as memory_tac
use Rattle.tac_ir.specs.declared.register.Register.{Register}
use Rattle.c_typed.specs.Types.{CType}
use Rattle.tac_ir.specs.Code.{Callee, Through}
use Rattle.tac_ir.specs.Views.{tac_of}
use Rattle.tac_ir.specs.Targets.{is_target}
use Rattle.call_graph.specs.TargetLists.{IsFirstTarget}
use Rattle.call_graph.specs.RowLists.{Has}
use Rattle.call_graph.specs.Rows.{row_at, AddsEdge}
use Rattle.dsa_inlining.specs.declared.live.LiveTargets.{LiveTargets}
use Rattle.dsa_inlining.specs.Before.{GraphsBefore, is_listed, is_live}

-- each stands once
abbrev pub IsOnce : List ℕ → Type 0
IsOnce [] = Unit {0}
IsOnce (first ∷ others) = (Has others first → ⊥) × IsOnce others

-- ---- classes

-- of each function one of those with which it is linked, if there are any
pub record TellClasses (count : ℕ) (links : List (ℕ × ℕ)) (classes : List (Option ℕ)) : Type 0 where
  pub each : length classes ≡ count
  pub from : (first function : ℕ) → slice_get classes function ≡ Some (Some first) → Has links (first, function)
  pub to : (first function : ℕ) → Has links (first, function) → function < count → (other : ℕ) × (slice_get classes function ≡ Some (Some other))

abbrev pub class_from : Option (Option ℕ) → Option ℕ
class_from None = None
class_from (Some class) = class

-- the class of a function, if it has one
abbrev pub class_in : LiveTargets → ℕ → Option ℕ
class_in live called = class_from (slice_get live.classes.items called)

-- The class of a function is the first of those to which a call may come that may come to it.
pub record AreClassesOf (tac : memory_tac.Tac) (live : LiveTargets) : Type 0 where
  pub class : (pointer : Register) (c_type : CType) (first called : ℕ) → IsFirstTarget (tac_of tac) (Through pointer c_type) (Some first) → is_target (tac_of tac) (Through pointer c_type) called ≡ true → class_in live called ≡ Some first
  pub target : (pointer : Register) (c_type : CType) (first called : ℕ) → IsFirstTarget (tac_of tac) (Through pointer c_type) (Some first) → class_in live called ≡ Some first → is_target (tac_of tac) (Through pointer c_type) called ≡ true
  pub within : (first called : ℕ) → class_in live called ≡ Some first → first < length tac.functions.items

-- ---- rows

-- those of a class
abbrev pub row_in : LiveTargets → Option ℕ → List ℕ
row_in live None = []
row_in live (Some first) = unwrap_or (row_at live.rows first) []

-- no function is among them
pub record AreNoneLive (tac : memory_tac.Tac) (live : LiveTargets) : Type 0 where
  pub classes : AreClassesOf tac live
  pub each : length live.rows.items ≡ length tac.functions.items
  pub none : (class : Option ℕ) → row_in live class ≡ []

-- a function is added to those of its class
abbrev pub AddsTo : Option ℕ → ℕ → LiveTargets → LiveTargets → Type 0
AddsTo None called old new = new.rows ≡ old.rows
AddsTo (Some first) called old new = AddsEdge (first, called) old.rows new.rows

pub record AddsLive (called : ℕ) (old new : LiveTargets) : Type 0 where
  pub classes : new.classes ≡ old.classes
  pub adds : AddsTo (class_in old called) called old new

-- a class is the one of this first function
abbrev pub is_class : Option ℕ → ℕ → Bool
is_class None first = false
is_class (Some own) first = own == first

-- of these functions, those of a class from which something escapes
abbrev pub live_among : List (List ℕ) → LiveTargets → ℕ → List ℕ → List ℕ
live_among escaping live first [] = []
live_among escaping live first (called ∷ others) =
    if is_listed escaping called && is_class (class_in live called) first then called ∷ live_among escaping live first others else live_among escaping live first others

-- those of these functions are added to their classes
pub record AddsMembers (escaping : List (List ℕ)) (members : List ℕ) (old new : LiveTargets) : Type 0 where
  pub classes : new.classes ≡ old.classes
  pub each : length new.rows.items ≡ length old.rows.items
  pub row : (first : ℕ) → first < length old.rows.items → row_in new (Some first) ≡ row_in old (Some first) ++ live_among escaping old first members

-- exactly the functions from which something escapes, by their classes
pub record AreLive (tac : memory_tac.Tac) (escaping : List (List ℕ)) (live : LiveTargets) : Type 0 where
  pub classes : AreClassesOf tac live
  pub each : length live.rows.items ≡ length tac.functions.items
  pub rows : (first called : ℕ) → first < length tac.functions.items → Has (row_in live (Some first)) called ↔ ((class_in live called ≡ Some first) × (is_listed escaping called ≡ true))
  pub once : (first : ℕ) → first < length tac.functions.items → IsOnce (row_in live (Some first))

-- ---- calls

-- exactly the functions to which a call may come and from which something escapes, each once
pub record AreLiveTargets (before : GraphsBefore) (callee : Callee) (functions : List ℕ) : Type 0 where
  pub each : (called : ℕ) → Has functions called ↔ ((is_target (tac_of before.tac) callee called ≡ true) × (is_live before called ≡ true))
  pub once : IsOnce functions
