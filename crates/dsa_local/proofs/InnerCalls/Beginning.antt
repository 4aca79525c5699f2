-- Formals with which a graph begins are certain where they are pointers to objects or to void.
use Rattle.std.proofs.Common.{◌≡◌, ℕ, true, Some, None, refl, sym, ap, ◌∙◌, arith, eq-eqb, lt-ltb}
use Rattle.std.specs.Prelude.{slice_get}
use Rattle.std.proofs.lemmas.Bool.{cond-true}
use Rattle.std.proofs.lemmas.Option.{slice_get_within}
use Rattle.tac_ir.specs.declared.register.Register.TheVariants as R
use Rattle.tac_ir.specs.declared.register.Local.TheVariants as L
use Rattle.tac_ir.specs.Code.{Function, Tac}
use Rattle.tac_ir.specs.States.{Owner, InFunction}
use Rattle.heap_graph.specs.Escaping.{same_owner}
use Rattle.heap_graph.specs.Graphs.{Graph}
use Rattle.heap_graph.specs.Closed.{parameters_of, type_of, function_type, formal, has_register}
use Rattle.heap_graph.specs.Asks.{is_certain}
use Rattle.heap_graph.proofs.Certain.{certain_some}
use Rattle.graph_unification.specs.GraphNames.First.{pointer_node, is_pointer_there, of_register, first_node, AddsFunction}
use Rattle.graph_unification.specs.Standing.{CodeStands}
use Rattle.graph_unification.specs.Named.{HasNames}
use Rattle.dsa_local.specs.Joined.{FormalsCertain, HasOwn}

-- where they had no targets before
pub formals_begin : (tac : Tac) → CodeStands tac → (old new : Graph) (number : ℕ) (function : Function) → slice_get tac.functions number ≡ Some function
    → ((k : ℕ) → old.targets (formal number k) ≡ None) → AddsFunction old new (InFunction number) function → FormalsCertain tac number new
formals_begin tac code old new number function is none adds k c_type at pointer =
    let own = InFunction number in
    let told : function_type tac number ≡ function.c_type = ap type_of is in
    let here : slice_get (parameters_of function.c_type) k ≡ Some c_type = ap (λ t. slice_get (parameters_of t) k) (sym told) ∙ at in
    let less = slice_get_within (parameters_of function.c_type) k c_type here in
    let many = code.parameters number function is in
    let register = R.Local (L.Parameter k) in
    let has : has_register function register ≡ true = lt-ltb k function.parameters (omega (arith, less, many)) in
    let first : first_node own function (formal number k) ≡ Some (pointer_node true) =
    cond-true (same_owner own own) (of_register function register) None (eq-eqb number number refl)
    ∙ (cond-true (has_register function register) (Some (pointer_node (is_pointer_there (slice_get (parameters_of function.c_type) k)))) None has
    ∙ ap (λ b. Some (pointer_node b)) (ap is_pointer_there here ∙ pointer)) in
    let node = adds.own (formal number k) (pointer_node true) first (none k) in
    ap (is_certain new) node.target ∙ certain_some new (record { node = node.number; shift = 0 }) (pointer_node true) node.at

-- a graph that has the names of a function has its registers and its result
pub own_named : (tac : Tac) (graph : Graph) (owner : Owner) (function : Function) → HasNames tac graph owner function → HasOwn owner function graph
own_named tac graph owner function names = record { registers = names.registers; result = names.result }
