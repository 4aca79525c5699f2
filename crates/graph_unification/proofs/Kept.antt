-- A graph that has the names of a function has them where it goes on.
use Rattle.std.proofs.Common.{◌≡◌, ℕ, true, List, [], ◌∷◌}
use Rattle.std.specs.List.{AllByRecursion}
use Rattle.c_typed.specs.Types.{CType, literal_type}
use Rattle.tac_ir.specs.Code as O
use Rattle.tac_ir.specs.Code.{Base, AtLocal, AtGlobal, AtLiteral, Pointed, Indexed, Function, Op, Tac}
use Rattle.tac_ir.specs.States.{Owner}
use Rattle.heap_graph.specs.Graphs.{Name, OfRegister, OfResult, OfObject, OfGlobal, OfLiteral, Graph}
use Rattle.heap_graph.specs.Structures.{AreMade}
use Rattle.heap_graph.specs.Targets.{has_target, at_target, holds_part, elements_of}
use Rattle.heap_graph.specs.Merging.{IsSound}
use Rattle.graph_unification.proofs.Staying.{has_kept, held_kept}
use Rattle.graph_unification.specs.Going.{GoesOn}
use Rattle.graph_unification.specs.Named.{HasGlobal, HasLiteral, BaseNamed, OpNamed, HasNames}

module _ (tac : Tac) (made : AreMade tac.structs) (old new : Graph) (sound : IsSound tac.structs old) (goes : GoesOn tac.structs old new) where
  has : (name : Name) → has_target (old.targets name) ≡ true → has_target (new.targets name) ≡ true
  has name h = has_kept tac.structs made old new goes.map sound goes.maps name h

  held : (name : Name) (c_type : CType) → has_target (old.targets name) ≡ true → at_target old (old.targets name) (holds_part tac.structs c_type) ≡ true
      → at_target new (new.targets name) (holds_part tac.structs c_type) ≡ true
  held name c_type h k = held_kept tac.structs made old new goes.map sound goes.maps name c_type h k

  pub global_kept : (number : ℕ) → HasGlobal tac old number → HasGlobal tac new number
  global_kept number its = record { has = has (OfGlobal number) its.has; part = λ global is. held (OfGlobal number) (elements_of global.c_type) its.has (its.part global is) }

  pub literal_kept : (number : ℕ) → HasLiteral tac old number → HasLiteral tac new number
  literal_kept number its = record { has = has (OfLiteral number) its.has; part = λ literal is. held (OfLiteral number) (elements_of (literal_type literal.bytes)) its.has (its.part literal is) }

  base_kept : (base : Base) → BaseNamed tac old base → BaseNamed tac new base
  base_kept (AtLocal local) named = tt
  base_kept (AtGlobal number) named = global_kept number named
  base_kept (AtLiteral number) named = literal_kept number named
  base_kept (Pointed pointer target) named = tt
  base_kept (Indexed pointer target number) named = tt

  op_kept : (op : Op) → OpNamed tac old op → OpNamed tac new op
  op_kept (O.AddressOf to path) named = base_kept path.base named
  op_kept (O.Load to scalar path) named = base_kept path.base named
  op_kept (O.Store path scalar value) named = base_kept path.base named
  op_kept (O.Copy to from) named = tt
  op_kept (O.Move to from element is_minus number) named = tt
  op_kept (O.Repoint to target from) named = tt
  op_kept (O.Allocate site size) named = tt
  op_kept (O.Return value) named = tt
  op_kept O.Reserved named = tt
  op_kept (O.Jump to) named = tt
  op_kept (O.Branch int_type condition holds fails) named = tt
  op_kept (O.Assign to tree) named = tt
  op_kept (O.Null to) named = tt
  op_kept (O.FunctionAddress to callee) named = tt
  op_kept (O.Test to pointer) named = tt
  op_kept (O.Difference to element left right) named = tt
  op_kept (O.ComparePointers to relation left right) named = tt
  op_kept (O.Free site pointer) named = tt
  op_kept (O.Call site callee arguments) named = tt
  op_kept (O.GetChar site) named = tt
  op_kept (O.PutChar site value) named = tt
  op_kept (O.Exit status) named = tt

  ops_kept : (ops : List Op) → AllByRecursion (OpNamed tac old) ops → AllByRecursion (OpNamed tac new) ops
  ops_kept [] named = tt
  ops_kept (op ∷ ops) named = (op_kept op named.0, ops_kept ops named.1)

  pub names_kept : (owner : Owner) (function : Function) → HasNames tac old owner function → HasNames tac new owner function
  names_kept owner function its = record {
    registers = λ register is. has (OfRegister owner register) (its.registers register is);
    result = has (OfResult owner) its.result;
    objects = λ local inner is.
        let both = its.objects local inner is in
        (has (OfObject owner local) both.0, held (OfObject owner local) (elements_of inner.c_type) both.0 both.1);
    outside = ops_kept function.points its.outside;
  }
