-- Graphs to which the first nodes of a function's names can be mapped.
use Rattle.std.specs.Prelude.{◌≡◌, ℕ, ◌<◌, true, List, slice_get, Some}
use Rattle.c_typed.specs.Layouts.{StructDef}
use Rattle.tac_ir.specs.declared.register.Local.{Local}
use Rattle.tac_ir.specs.declared.register.Register.{Register}
use Rattle.tac_ir.specs.Code.{Function}
use Rattle.tac_ir.specs.Layouts.{Inner}
use Rattle.tac_ir.specs.Objects.{own_type}
use Rattle.tac_ir.specs.States.{Owner}
use Rattle.heap_graph.specs.Graphs.{Name, OfRegister, OfResult, OfObject, Graph}
use Rattle.heap_graph.specs.Targets.{has_target, at_target, element_kept, marks_kept}
use Rattle.heap_graph.specs.Closed.{parameters_of, has_register, is_slot}
use Rattle.graph_unification.specs.GraphNames.First.{is_pointer_there, formal_at, object_node, local_flags}

-- The registers of the function and its result have targets, those of formals that are pointers to objects or to void are certain, and each
-- local in memory is an object of its target's node.
pub record FunctionFits (structs : List StructDef) (other : Graph) (owner : Owner) (function : Function) : Type 0 where
  pub slots : (name : Name) → is_slot other (other.targets name) ≡ true
  pub registers : (register : Register) → has_register function register ≡ true → has_target (other.targets (OfRegister owner register)) ≡ true
  pub formals : (number : ℕ) → number < function.parameters → is_pointer_there (slice_get (parameters_of function.c_type) number) ≡ true
      → at_target other (other.targets (formal_at owner number)) (λ image shift. image.flags.certain) ≡ true
  pub result : has_target (other.targets (OfResult owner)) ≡ true
  pub objects : (local : Local) (inner : Inner) → own_type function.objects local ≡ Some inner → has_target (other.targets (OfObject owner local)) ≡ true
  pub elements : (local : Local) (inner : Inner) → own_type function.objects local ≡ Some inner
      → at_target other (other.targets (OfObject owner local)) (element_kept structs (object_node inner.c_type (local_flags inner.c_type)).element) ≡ true
  pub flags : (local : Local) (inner : Inner) → own_type function.objects local ≡ Some inner
      → at_target other (other.targets (OfObject owner local)) (λ image shift. marks_kept (local_flags inner.c_type) image.flags) ≡ true
