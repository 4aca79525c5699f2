-- What each kind of name of a function has.
use Rattle.std.proofs.Common.{◌≡◌, Bool, true, false, cond, Option, Some, None, refl, ap}
use Rattle.std.proofs.lemmas.Bool.{cond-false, lt-ltb}
use Rattle.tac_ir.specs.declared.register.Local.TheVariants as L
use Rattle.tac_ir.specs.declared.register.Register.{Register}
use Rattle.tac_ir.specs.declared.register.Register.TheVariants as R
use Rattle.tac_ir.specs.Code.{Function}
use Rattle.tac_ir.specs.Objects.{own_type}
use Rattle.tac_ir.specs.States.{Owner}
use Rattle.heap_graph.specs.Escaping.{same_owner}
use Rattle.heap_graph.specs.Graphs.{Node, Name, OfRegister, OfResult, OfObject, OfGlobal, OfLiteral, OfCopy, Graph}
use Rattle.heap_graph.specs.Closed.{has_register}
use Rattle.graph_unification.specs.Adding.{HasOwnNode}
use Rattle.graph_unification.specs.GraphNames.First.{pointer_node, is_certain_register, of_register, of_inner, is_of, first_node, AddsFunction, FunctionNodes}
use Rattle.graph_unification.proofs.WholeFunction.{register_first, result_first, object_first}

none_of : (owner : Owner) (function : Function) (name : Name) → is_of owner name ≡ false → first_node owner function name ≡ None
none_of owner function (OfRegister other register) h = cond-false (same_owner other owner) (of_register function register) None h
none_of owner function (OfResult other) h = cond-false (same_owner other owner) (Some (pointer_node false)) None h
none_of owner function (OfObject other local) h = cond-false (same_owner other owner) (of_inner (own_type function.objects local)) None h
none_of owner function (OfGlobal number) h = refl
none_of owner function (OfLiteral number) h = refl
none_of owner function (OfCopy number) h = refl

-- a choice of nothing
both_none : {A : Type 0} (b : Bool) (x : Option A) → x ≡ None → cond b x None ≡ None
both_none true x e = e
both_none false x e = refl

pub function_nodes : (old new : Graph) (owner : Owner) (function : Function) → AddsFunction old new owner function
    → ((name : Name) (node : Node) → first_node owner function name ≡ Some node → old.targets name ≡ None) → FunctionNodes old new owner function
function_nodes old new owner function added blank = record {
  formals = λ number less. of_kind (R.Local (L.Parameter number)) (lt-ltb number function.parameters less);
  variables = λ number less. of_kind (R.Local (L.Variable number)) (lt-ltb number function.counts.variables less);
  calls = λ number less. of_kind (R.Call number) (lt-ltb number function.counts.calls less);
  arguments = λ number less. of_kind (R.Argument number) (lt-ltb number function.counts.arguments less);
  expressions = λ number less. of_kind (R.Expression number) (lt-ltb number function.counts.expressions less);
  result = own (OfResult owner) (pointer_node false) (result_first owner function);
  objects = λ local inner e. own (OfObject owner local) _ (object_first owner function local _ (ap of_inner e));
  only_registers = λ register h.
      added.others (OfRegister owner register)
      (both_none (same_owner owner owner) (of_register function register) (cond-false (has_register function register) (Some (pointer_node (is_certain_register function register))) None h));
  only_objects = λ local e. added.others (OfObject owner local) (both_none (same_owner owner owner) (of_inner (own_type function.objects local)) (ap of_inner e));
  others = λ name h. added.others name (none_of owner function name h);
  nodes = added.nodes;
}
  where
    own : (name : Name) (node : Node) → first_node owner function name ≡ Some node → HasOwnNode old new name node
    own name node e = added.own name node e (blank name node e)

    of_kind : (register : Register) → has_register function register ≡ true → HasOwnNode old new (OfRegister owner register) (pointer_node (is_certain_register function register))
    of_kind register has = own (OfRegister owner register) (pointer_node (is_certain_register function register)) (register_first owner function register has)
