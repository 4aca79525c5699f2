-- The graph of calls, while edges are added to it. A call leads to the first function that it may reach.
use Rattle.std.specs.Prelude.{◌≡◌, ℕ, ◌<◌, ◌⊎◌, true, Bool, List, slice_get, Some}
use Rattle.tac_ir.specs.declared.register.Register.{Register}
use Rattle.c_typed.specs.Types.{CType}
use Rattle.tac_ir.specs.Code as O
use Rattle.tac_ir.specs.Code.{Callee, Through, Op, Tac}
use Rattle.call_graph.specs.RowLists.{Has}
use Rattle.tac_ir.specs.Groups.{Makes, Calls}
use Rattle.call_graph.specs.TargetLists.{IsFirstTarget}

-- points have a call
pub record HasCall (points : List Op) (callee : Callee) : Type 0 where
  pub site : ℕ
  pub arguments : List Register
  pub has : Has points (O.Call site callee arguments)

-- a call of some points that leads to a function
pub record CallsTo (tac : Tac) (points : List Op) (node : ℕ) : Type 0 where
  pub callee : Callee
  pub call : HasCall points callee
  pub first : IsFirstTarget tac callee (Some node)

-- edges are added for the calls of points
pub record AddsCalls (tac : Tac) (caller : ℕ) (points : List Op) (old new : List (ℕ × ℕ)) : Type 0 where
  pub kept : (edge : ℕ × ℕ) → Has old edge → Has new edge
  pub to : (callee : Callee) (node : ℕ) → HasCall points callee → IsFirstTarget tac callee (Some node) → Has new (caller, node)
  pub from : (edge : ℕ × ℕ) → Has new edge → Has old edge ⊎ ((edge.0 ≡ caller) × CallsTo tac points edge.1)

-- a call of some points through a pointer, and the first function that it may reach
pub record CallsClass (tac : Tac) (points : List Op) (first : ℕ) : Type 0 where
  pub pointer : Register
  pub c_type : CType
  pub call : HasCall points (Through pointer c_type)
  pub first' : IsFirstTarget tac (Through pointer c_type) (Some first)

-- the classes are added that points call
pub record AddsCalled (tac : Tac) (points : List Op) (old new : List ℕ) : Type 0 where
  pub kept : (first : ℕ) → Has old first → Has new first
  pub to : (first : ℕ) → CallsClass tac points first → Has new first
  pub from : (first : ℕ) → Has new first → Has old first ⊎ CallsClass tac points first

-- those of the first functions
pub record AreFirstCalls (tac : Tac) (count : ℕ) (edges : List (ℕ × ℕ)) (called : List ℕ) : Type 0 where
  pub to : (caller : ℕ) (callee : Callee) (node : ℕ) → caller < count → Makes tac caller callee → IsFirstTarget tac callee (Some node) → Has edges (caller, node)
  pub from : (edge : ℕ × ℕ) → Has edges edge → (callee : Callee) × Makes tac edge.0 callee × IsFirstTarget tac callee (Some edge.1)
  pub class_to : (caller : ℕ) (pointer : Register) (c_type : CType) (first : ℕ) → caller < count → Makes tac caller (Through pointer c_type) → IsFirstTarget tac (Through pointer c_type) (Some first) → Has called first
  pub class_from : (first : ℕ) → Has called first → (caller : ℕ) × (pointer : Register) × (c_type : CType) × Makes tac caller (Through pointer c_type) × IsFirstTarget tac (Through pointer c_type) (Some first)

-- a link of a class that is called
pub record IsJoined (is_called : List Bool) (links : List (ℕ × ℕ)) (edge : ℕ × ℕ) : Type 0 where
  pub first : ℕ
  pub member : ℕ
  pub link : Has links (first, member)
  pub called : slice_get is_called first ≡ Some true
  pub is : (edge ≡ (first, member)) ⊎ (edge ≡ (member, first))

-- edges are added both ways for the links of classes that are called
pub record AddsClasses (is_called : List Bool) (links : List (ℕ × ℕ)) (old new : List (ℕ × ℕ)) : Type 0 where
  pub kept : (edge : ℕ × ℕ) → Has old edge → Has new edge
  pub to : (edge : ℕ × ℕ) → IsJoined is_called links edge → Has new edge
  pub from : (edge : ℕ × ℕ) → Has new edge → Has old edge ⊎ IsJoined is_called links edge

-- what a call leads to: the function that it reaches, or one that is joined to that
abbrev pub LeadsTo : List (ℕ × ℕ) → ℕ → ℕ → Type 0
LeadsTo edges node called = (node ≡ called) ⊎ (Has edges (node, called) × Has edges (called, node))

-- the graph of calls
pub record IsCallGraph (tac : Tac) (edges : List (ℕ × ℕ)) : Type 0 where
  pub from : (caller called : ℕ) → Has edges (caller, called) → Calls tac caller called
  pub to : (caller called : ℕ) → Calls tac caller called → (node : ℕ) × Has edges (caller, node) × LeadsTo edges node called
