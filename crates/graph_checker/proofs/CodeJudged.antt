-- What is judged of a function's code is what it asks.
use Rattle.std.proofs.Common.{◌≡◌, ℕ, ◌↔◌, Bool, true, false, Some, refl, sym, ap, subst, ◌∙◌}
use Rattle.std.specs.Prelude.{slice_get}
use Rattle.std.specs.List.{list_any}
use Rattle.std.proofs.lemmas.Bool.{false≢true}
use Rattle.std.proofs.lemmas.Option.{same_Some}
use Rattle.c_typed.specs.DefinitionViews.{LiteralsStand}
use Rattle.c_typed.specs.Sizes.{are_filled}
use Rattle.tac_ir.specs.declared.program.Function as memory_function
use Rattle.tac_ir.specs.Code.{Function}
use Rattle.tac_ir.specs.Objects.{own_type}
use Rattle.tac_ir.specs.States.{Owner, InStart, InFunction, function_of, points_of, objects_of}
use Rattle.tac_ir.specs.Views.{function_in}
use Rattle.heap_graph.specs.Points.{makes_null, type_of_inner}
use Rattle.heap_graph.specs.Structures.{AreMade}
use Rattle.heap_graph.specs.Closed.{Family, parameters_of, formals_closed, locals_closed, FunctionClosed}
use Rattle.heap_graph.specs.Known.{Describes}
use Rattle.graph_checker.specs.declared.context.Context.{Context}
use Rattle.graph_checker.specs.Contexts.{code_of, owner_of, IsContext}
use Rattle.heap_graph.specs.Plain.{plain_closed}
use Rattle.heap_graph.specs.Asked.{AllAsked}
use Rattle.heap_graph.specs.Code.{CodeClosed, IsMemberClosed}
use Rattle.heap_graph.proofs.Whole.{CallsWithin, whole_closed, code_from}

pub context_is : (context : Context) (code : memory_function.Function) → Describes context.tac.now.types code context.scope.now
    → function_of (code_of context) (owner_of context) ≡ Some (function_in context.tac.now.types code) → LiteralsStand context.tac.now.types context.tac.now.literals.items
    → AreMade (code_of context).structs → are_filled (code_of context).structs ≡ true → IsContext context
context_is context code told is literals made filled = record {
  nulls = λ register. told.nulls register ∙ ap (λ f. list_any (makes_null register) (points_of f)) (sym is);
  types = λ local. told.types local ∙ ap (λ f. type_of_inner (own_type (objects_of f) local)) (sym is);
  literals = literals;
  made = made;
  filled = filled;
}

module _ (family : Family) (owner : Owner) (function : Function) where
  abbrev Judges : Bool → Type 0
  Judges test = (test ≡ true → CodeClosed family owner function) × (CodeClosed family owner function → test ≡ true)

  pub locals_fail : (test : Bool) → test ≡ locals_closed family owner function.objects → test ≡ false → Judges false
  locals_fail test is fails = ((λ h. absurd (false≢true h)), (λ code. sym fails ∙ (is ∙ code.locals)))

  pub points_fail : (test : Bool) → test ≡ plain_closed family.tac family owner function.points → test ≡ false → Judges false
  points_fail test is fails = ((λ h. absurd (false≢true h)), (λ code. sym fails ∙ (is ∙ code.points)))

  pub calls_judged : (locals points : Bool) → locals ≡ locals_closed family owner function.objects → locals ≡ true → points ≡ plain_closed family.tac family owner function.points → points ≡ true
      → (test : Bool) → (test ≡ true) ↔ AllAsked family owner function.points → Judges test
  calls_judged locals points are hold points_are points_hold test asked =
      ((λ t. record { locals = sym are ∙ hold; points = sym points_are ∙ points_hold; calls = asked.0 t }), (λ code. asked.1 code.calls))

-- ---- a function with its formals

abbrev number_in : ℕ → Owner → ℕ
number_in other InStart = other
number_in other (InFunction number) = number

module _ (family : Family) (number : ℕ) (function : Function) (defined : slice_get family.tac.functions number ≡ Some function) where
  abbrev Tells : Bool → Type 0
  Tells test = (test ≡ true → IsMemberClosed family number) × (IsMemberClosed family number → test ≡ true)

  abbrev formals : Bool
  formals = formals_closed family (InFunction number) number 0 (parameters_of function.c_type)

  pub formals_fail : (test : Bool) → test ≡ formals → test ≡ false → Tells test
  formals_fail test is fails = ((λ t. absurd (false≢true (sym fails ∙ t))), (λ closed. is ∙ (closed function defined).formals number refl))

  pub function_judged : CallsWithin family (InFunction number) function → (test : Bool) → test ≡ formals → test ≡ true → (code : Bool) → (code ≡ true) ↔ CodeClosed family (InFunction number) function → Tells code
  function_judged within test is holds code judged = (
    (λ t other found.
        subst (FunctionClosed family (InFunction number)) (same_Some function other (sym defined ∙ found)) (whole_closed family (InFunction number) function each (judged.0 t))),
    (λ closed. judged.1 (code_from family (InFunction number) function within (closed function defined))),
  )
    where
      each : (other : ℕ) → InFunction number ≡ InFunction other → formals_closed family (InFunction number) other 0 (parameters_of function.c_type) ≡ true
      each other same = subst (λ n. formals_closed family (InFunction number) n 0 (parameters_of function.c_type) ≡ true) (ap (number_in number) same) (sym is ∙ holds)

abbrev is_function : Owner → Bool
is_function InStart = false
is_function (InFunction number) = true

pub start_judged : (family : Family) (function : Function) → CallsWithin family InStart function → (code : Bool) → (code ≡ true) ↔ CodeClosed family InStart function
    → (code ≡ true → FunctionClosed family InStart function) × (FunctionClosed family InStart function → code ≡ true)
start_judged family function within code judged =
    ((λ t. whole_closed family InStart function never (judged.0 t)), (λ closed. judged.1 (code_from family InStart function within closed)))
  where
    never : (number : ℕ) → InStart ≡ InFunction number → formals_closed family InStart number 0 (parameters_of function.c_type) ≡ true
    never number same = absurd (false≢true (ap is_function same))
