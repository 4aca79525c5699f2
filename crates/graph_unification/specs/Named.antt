-- Graphs in which the names of a function have targets.
use Rattle.std.specs.Prelude.{◌≡◌, ℕ, true, slice_get, Some}
use Rattle.c_typed.specs.Types.{literal_type}
use Rattle.c_typed.specs.Typed.{GlobalDef, LiteralDef}
use Rattle.tac_ir.specs.declared.register.Local.{Local}
use Rattle.tac_ir.specs.declared.register.Register.{Register}
use Rattle.tac_ir.specs.Code.{Base, AtGlobal, AtLiteral, Function, Op, Tac}
use Rattle.tac_ir.specs.Code as O
use Rattle.tac_ir.specs.Layouts.{Inner}
use Rattle.tac_ir.specs.Objects.{own_type}
use Rattle.tac_ir.specs.States.{Owner}
use Rattle.std.specs.List.{AllByRecursion}
use Rattle.heap_graph.specs.Graphs.{Graph, OfRegister, OfResult, OfObject, OfGlobal, OfLiteral}
use Rattle.heap_graph.specs.Targets.{has_target, at_target, holds_part, elements_of}
use Rattle.heap_graph.specs.Closed.{has_register}

module _ (tac : Tac) (graph : Graph) where
  -- a variable outside functions or a literal has a node with its elements
  pub record HasGlobal (number : ℕ) : Type 0 where
    pub has : has_target (graph.targets (OfGlobal number)) ≡ true
    pub part : (global : GlobalDef) → slice_get tac.globals number ≡ Some global → at_target graph (graph.targets (OfGlobal number)) (holds_part tac.structs (elements_of global.c_type)) ≡ true

  pub record HasLiteral (number : ℕ) : Type 0 where
    pub has : has_target (graph.targets (OfLiteral number)) ≡ true
    pub part : (literal : LiteralDef) → slice_get tac.literals number ≡ Some literal
        → at_target graph (graph.targets (OfLiteral number)) (holds_part tac.structs (elements_of (literal_type literal.bytes))) ≡ true

  -- what a path begins with, if it is outside functions
  abbrev pub BaseNamed : Base → Type 0
  BaseNamed (AtGlobal number) = HasGlobal number
  BaseNamed (AtLiteral number) = HasLiteral number
  BaseNamed base = Unit {0}

  abbrev pub OpNamed : Op → Type 0
  OpNamed (O.AddressOf to path) = BaseNamed path.base
  OpNamed (O.Load to scalar path) = BaseNamed path.base
  OpNamed (O.Store path scalar value) = BaseNamed path.base
  OpNamed op = Unit {0}

  -- registers and the result of the function have targets, and each local in memory has a node with its elements; so has what its paths begin
  -- with
  pub record HasNames (owner : Owner) (function : Function) : Type 0 where
    pub registers : (register : Register) → has_register function register ≡ true → has_target (graph.targets (OfRegister owner register)) ≡ true
    pub result : has_target (graph.targets (OfResult owner)) ≡ true
    pub objects : (local : Local) (inner : Inner) → own_type function.objects local ≡ Some inner
        → (has_target (graph.targets (OfObject owner local)) ≡ true) × (at_target graph (graph.targets (OfObject owner local)) (holds_part tac.structs (elements_of inner.c_type)) ≡ true)
    pub outside : AllByRecursion OpNamed function.points
