-- All names of a function, one kind after another.
use Rattle.std.proofs.Common.{◌≡◌, Bool, true, false, cond, Option, Some, None, refl, sym, ap, ◌∙◌}
use Rattle.std.specs.Prelude.{slice_get, Result, Ok, Err, OnOk}
use Rattle.std.proofs.lemmas.Bool.{false≢true, cond-true, eq-eqb, eqb-true, lt-ltb, ltb-true}
use Rattle.std.proofs.lemmas.Option.{none-some}
use Rattle.tac_ir.specs.declared.register.Local.{Local}
use Rattle.tac_ir.specs.declared.register.Local.TheVariants as L
use Rattle.tac_ir.specs.declared.register.Register.{Register}
use Rattle.tac_ir.specs.declared.register.Register.TheVariants as R
use Rattle.tac_ir.specs.Code.{Function}
use Rattle.tac_ir.specs.Objects.{own_type}
use Rattle.tac_ir.specs.States.{Owner, InStart, InFunction}
use Rattle.heap_graph.specs.Escaping.{same_owner}
use Rattle.heap_graph.specs.Graphs.{Node, Name, OfRegister, OfResult, OfObject, OfGlobal, OfLiteral, OfCopy, Graph}
use Rattle.heap_graph.specs.Targets.{has_target}
use Rattle.heap_graph.specs.Closed.{parameters_of, has_register}
use Rattle.graph_unification.specs.declared.functions.Numbered.TheVariants as N
use Rattle.graph_unification.specs.Adding.{AddsMissing, AddsSome, AddsEach}
use Rattle.graph_unification.specs.GraphNames.First.{pointer_node, is_pointer_there, is_certain_register, of_register, of_inner, first_node, AddsObjects, AddsFunction, numbered_at, formal_at}
use Rattle.graph_unification.proofs.Missing.{joined, missing_some, missing_has, some_stay}
use Rattle.graph_unification.proofs.LocalNodes.{own_found}
use Rattle.graph_unification.proofs.Leading.{own_node, others_kept, targets_kept, nodes_kept}

owner_itself : (owner : Owner) → same_owner owner owner ≡ true
owner_itself InStart = refl
owner_itself (InFunction number) = eq-eqb number number refl

pub owner_eq : (a b : Owner) → same_owner a b ≡ true → a ≡ b
owner_eq InStart InStart h = refl
owner_eq InStart (InFunction b) h = absurd (false≢true h)
owner_eq (InFunction a) InStart h = absurd (false≢true h)
owner_eq (InFunction a) (InFunction b) h = ap InFunction (eqb-true a b h)

-- a choice that gives something
pub cond_some : {A : Type 0} (b : Bool) (x : Option A) (y : A) → cond b x None ≡ Some y → (b ≡ true) × (x ≡ Some y)
cond_some true x y e = (refl, e)
cond_some false x y e = absurd (none-some y e)

-- ---- first nodes

pub register_first : (owner : Owner) (function : Function) (register : Register) → has_register function register ≡ true
    → first_node owner function (OfRegister owner register) ≡ Some (pointer_node (is_certain_register function register))
register_first owner function register has =
    cond-true (same_owner owner owner) (of_register function register) None (owner_itself owner)
    ∙ cond-true (has_register function register) (Some (pointer_node (is_certain_register function register))) None has

pub result_first : (owner : Owner) (function : Function) → first_node owner function (OfResult owner) ≡ Some (pointer_node false)
result_first owner function = cond-true (same_owner owner owner) (Some (pointer_node false)) None (owner_itself owner)

pub object_first : (owner : Owner) (function : Function) (local : Local) (node : Node) → of_inner (own_type function.objects local) ≡ Some node → first_node owner function (OfObject owner local) ≡ Some node
object_first owner function local node e = cond-true (same_owner owner owner) (of_inner (own_type function.objects local)) None (owner_itself owner) ∙ e

-- ---- one kind after another

module _ (owner : Owner) (function : Function) (g0 g1 g2 g3 g4 g5 g6 g7 : Graph)
    (formals : AddsEach g0 g1 (formal_at owner) (λ number. pointer_node (is_pointer_there (slice_get (parameters_of function.c_type) number))) function.parameters)
    (variables : AddsEach g1 g2 (numbered_at owner N.Variable) (λ number. pointer_node false) function.counts.variables)
    (calls : AddsEach g2 g3 (numbered_at owner N.Call) (λ number. pointer_node false) function.counts.calls)
    (arguments : AddsEach g3 g4 (numbered_at owner N.Argument) (λ number. pointer_node false) function.counts.arguments)
    (expressions : AddsEach g4 g5 (numbered_at owner N.Expression) (λ number. pointer_node false) function.counts.expressions)
    (result : AddsMissing g5 g6 (OfResult owner) (pointer_node false))
    (objects : AddsObjects g6 g7 owner function.objects) where
  abbrev first : Name → Option Node
  first = first_node owner function

  to_1 : AddsSome first g0 g1
  to_1 = formals.adds first (λ number less. register_first owner function (R.Local (L.Parameter number)) (lt-ltb number function.parameters less))

  to_2 : AddsSome first g1 g2
  to_2 = variables.adds first (λ number less. register_first owner function (R.Local (L.Variable number)) (lt-ltb number function.counts.variables less))

  to_3 : AddsSome first g2 g3
  to_3 = calls.adds first (λ number less. register_first owner function (R.Call number) (lt-ltb number function.counts.calls less))

  to_4 : AddsSome first g3 g4
  to_4 = arguments.adds first (λ number less. register_first owner function (R.Argument number) (lt-ltb number function.counts.arguments less))

  to_5 : AddsSome first g4 g5
  to_5 = expressions.adds first (λ number less. register_first owner function (R.Expression number) (lt-ltb number function.counts.expressions less))

  to_6 : AddsSome first g5 g6
  to_6 = missing_some first g5 g6 (OfResult owner) (pointer_node false) result (λ none. result_first owner function)

  to_7 : AddsSome first g6 g7
  to_7 = objects.adds first (λ local node e. object_first owner function local node e)

  from_5 : AddsSome first g5 g7
  from_5 = joined first g5 g6 g7 to_6 to_7

  from_4 : AddsSome first g4 g7
  from_4 = joined first g4 g5 g7 to_5 from_5

  from_3 : AddsSome first g3 g7
  from_3 = joined first g3 g4 g7 to_4 from_4

  from_2 : AddsSome first g2 g7
  from_2 = joined first g2 g3 g7 to_3 from_3

  from_1 : AddsSome first g1 g7
  from_1 = joined first g1 g2 g7 to_2 from_2

  register_has : (register : Register) → has_register function register ≡ true → has_target (g7.targets (OfRegister owner register)) ≡ true
  register_has (R.Local (L.Parameter number)) h = some_stay first g1 g7 (OfRegister owner (R.Local (L.Parameter number))) from_1 (formals.has number (ltb-true number function.parameters h))
  register_has (R.Local (L.Variable number)) h = some_stay first g2 g7 (OfRegister owner (R.Local (L.Variable number))) from_2 (variables.has number (ltb-true number function.counts.variables h))
  register_has (R.Call number) h = some_stay first g3 g7 (OfRegister owner (R.Call number)) from_3 (calls.has number (ltb-true number function.counts.calls h))
  register_has (R.Argument number) h = some_stay first g4 g7 (OfRegister owner (R.Argument number)) from_4 (arguments.has number (ltb-true number function.counts.arguments h))
  register_has (R.Expression number) h = some_stay first g5 g7 (OfRegister owner (R.Expression number)) from_5 (expressions.has number (ltb-true number function.counts.expressions h))
  register_has (R.Temporary number) h = absurd (false≢true h)

  name_has : (name : Name) (node : Node) → first_node owner function name ≡ Some node → has_target (g7.targets name) ≡ true
  name_has (OfRegister other register) node e =
      let of_owner = cond_some (same_owner other owner) (of_register function register) node e in
      let there = cond_some (has_register function register) (Some (pointer_node (is_certain_register function register))) node of_owner.1 in
      ap (λ o. has_target (g7.targets (OfRegister o register))) (owner_eq other owner of_owner.0) ∙ register_has register there.0
  name_has (OfResult other) node e =
      let of_owner = cond_some (same_owner other owner) (Some (pointer_node false)) node e in
      ap (λ o. has_target (g7.targets (OfResult o))) (owner_eq other owner of_owner.0)
      ∙ some_stay first g6 g7 (OfResult owner) to_7 (missing_has g5 g6 (OfResult owner) (pointer_node false) result)
  name_has (OfObject other local) node e =
      let of_owner = cond_some (same_owner other owner) (of_inner (own_type function.objects local)) node e in
      let found = own_found function.objects local node of_owner.1 in
      ap (λ o. has_target (g7.targets (OfObject o local))) (owner_eq other owner of_owner.0)
      ∙ (ap (λ l. has_target (g7.targets (OfObject owner l))) (sym found.of_local) ∙ objects.has found.number found.object found.is)
  name_has (OfGlobal number) node e = absurd (none-some node e)
  name_has (OfLiteral number) node e = absurd (none-some node e)
  name_has (OfCopy number) node e = absurd (none-some node e)

  all : AddsSome first g0 g7
  all = joined first g0 g1 g7 to_1 from_1

  pub function_added : AddsFunction g0 g7 owner function
  function_added = record {
    adds = all;
    has = name_has;
    own = λ name node is none. own_node first g0 g7 name node all is none (name_has name node is);
    others = others_kept first g0 g7 all;
    targets = targets_kept first g0 g7 all;
    nodes = nodes_kept first g0 g7 all;
  }

pub on_ok_added : {E : Type 0} (last : Result (Unit {0}) E) (owner : Owner) (function : Function) (g0 g1 g2 g3 g4 g5 g6 g7 : Graph)
    → AddsEach g0 g1 (formal_at owner) (λ number. pointer_node (is_pointer_there (slice_get (parameters_of function.c_type) number))) function.parameters
    → AddsEach g1 g2 (numbered_at owner N.Variable) (λ number. pointer_node false) function.counts.variables
    → AddsEach g2 g3 (numbered_at owner N.Call) (λ number. pointer_node false) function.counts.calls
    → AddsEach g3 g4 (numbered_at owner N.Argument) (λ number. pointer_node false) function.counts.arguments
    → AddsEach g4 g5 (numbered_at owner N.Expression) (λ number. pointer_node false) function.counts.expressions
    → AddsMissing g5 g6 (OfResult owner) (pointer_node false)
    → OnOk last (AddsObjects g6 g7 owner function.objects) → OnOk last (AddsFunction g0 g7 owner function)
on_ok_added (Ok x) owner function g0 g1 g2 g3 g4 g5 g6 g7 formals variables calls arguments expressions result objects =
    function_added owner function g0 g1 g2 g3 g4 g5 g6 g7 formals variables calls arguments expressions result objects
on_ok_added (Err e) owner function g0 g1 g2 g3 g4 g5 g6 g7 formals variables calls arguments expressions result objects = tt
