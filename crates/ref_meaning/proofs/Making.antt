-- A call of a function of the program is made.
use Rattle.std.proofs.Common.{◌≡◌, ℕ, ◌<◌, Bool, true, false, not, List, [], ◌∷◌, length, slice_get, slice_index_or, Bor, codes, Some, None, option_map, refl, sym, ap, subst, ◌∙◌, arith}
use Rattle.std.proofs.lemmas.Option.{slice_get_read, slice_get_within, same_Some}
use Rattle.run_theory.specs.declared.place.Pos.{Pos}
use Rattle.run_theory.specs.declared.ends.UbKind.TheVariants as Ub
use Rattle.run_theory.specs.Runs as Runs
use Rattle.c_typed.specs.declared.c_type.CType as number
use Rattle.c_typed.specs.declared.definition.FunctionDef as memory_function
use Rattle.c_typed.specs.Types.{CType, same_type}
use Rattle.c_typed.specs.Typed.{FunctionDef}
use Rattle.c_typed.specs.Table.{Stands, type_in}
use Rattle.c_typed.specs.DefinitionViews.{function_in}
use Rattle.ref_meaning.specs.Trees.{FunctionFits}
use Rattle.ref_semantics.specs.Values.{Scalar, NullValue, FunctionValue}
use Rattle.ref_semantics.specs.Store.{Eval, State, give, unless, premise}
use Rattle.ref_semantics.specs.Meaning.{function_from}
use Rattle.ref_semantics.specs.First.{main_type}
use Rattle.ref_semantics.specs.Steps as steps
use Rattle.ref_semantics.specs.Steps.{Config}
use Rattle.ref_semantics.specs.Units as units
use Rattle.ref_meaning.specs.declared.value.Scalar as memory_scalar
use Rattle.ref_meaning.specs.declared.value.Scalar.TheVariants as M
use Rattle.ref_meaning.specs.RefStore.Views.{scalar_in}
use Rattle.ref_meaning.specs.RefStore.Holding.{left}
use Rattle.ref_meaning.proofs.Giving.{unless-fails}
use Rattle.ref_meaning.specs.declared.control.Task.TheVariants as K
use Rattle.ref_meaning.specs.declared.run.RefRun.{RefRun}
use Rattle.ref_meaning.specs.Views.{config_in, around_run, functions_of, table_of, operands_of, part_in, task_in}
use Rattle.ref_meaning.specs.Holding.{IsConsistent}
use Rattle.ref_meaning.specs.Doing.{acting}
use Rattle.ref_meaning.specs.Moving.{IsOver}
use Rattle.ref_meaning.proofs.Called.{Found, found-at, item-stands}

-- ---- the function of a number

module _ (run : RefRun) (holds : IsConsistent run) (name : List ℕ) (number : ℕ) (numbered : option_map (λ found. found.0) (function_from 0 (functions_of run) name) ≡ Some number) where
  found : Found run.program.now.types 0 run.program.now.functions.items name number
  found = found-at run.program.now.types 0 run.program.now.functions.items name number numbered

  there : slice_get run.program.now.functions.items number ≡ Some found.item
  there = subst (λ n. slice_get run.program.now.functions.items n ≡ Some found.item) (omega (arith, found.number)) found.there

  pub number-within : number < length run.program.now.functions.items
  number-within = slice_get_within run.program.now.functions.items number found.item there

  module _ (function : memory_function.FunctionDef) (at : function ≡ slice_index_or run.program.now.functions.items number function) where
    item-is : found.item ≡ function
    item-is = same_Some found.item function (sym there ∙ slice_get_read run.program.now.functions.items (length run.program.now.functions.items) number function refl number-within at)

    pub called-is : function_from 0 (functions_of run) name ≡ Some (number, function_in (table_of run) function)
    called-is = found.is ∙ (λ i. Some (number, function_in (sym holds.types i) (item-is i)))

    program-stands : FunctionFits run.program.now.types function
    program-stands = subst (FunctionFits run.program.now.types) item-is (item-stands run.program.now.types run.program.now.functions.items number found.item there holds.program.functions)

    pub called-stands : FunctionFits (table_of run) function
    called-stands = subst (λ table. FunctionFits table function) (sym holds.types) program-stands

    pub called-type-stands : Stands run.program.now.types function.c_type
    called-type-stands = program-stands.0

-- ---- what making the call comes to

module _ (run : RefRun) (is_used : Bool) (here : Pos) (c_type : CType) (given : List Scalar) where
  -- of what is no function
  pub no-function : (function : memory_scalar.Scalar) → ((name : Bor (List ℕ)) → function ≡ M.Function name → ⊥) → (state : State)
      → IsOver (steps.make_call (around_run run) (functions_of run) is_used here c_type (scalar_in (table_of run) function) given (config_in run)) state (Runs.Undefined Ub.U15 here)
  no-function (M.Function name) differs state = absurd (differs name refl)
  no-function (M.Integer value) differs state = record { there = state; is = λ units input. refl; quiet = refl }
  no-function M.Null differs state = record { there = state; is = λ units input. refl; quiet = refl }
  no-function (M.Pointer place) differs state = record { there = state; is = λ units input. refl; quiet = refl }
  no-function (M.Raw number) differs state = record { there = state; is = λ units input. refl; quiet = refl }

  module _ (name : List ℕ) (number : ℕ) (function : FunctionDef) (is : function_from 0 (functions_of run) name ≡ Some (number, function)) where
    abbrev begun : Eval Config
    begun = steps.begin_call (around_run run) (functions_of run) is_used here number function given (config_in run).frames (config_in run).depth

    -- its type is another one
    pub type-differs : false ≡ same_type function.c_type c_type → (state : State)
        → IsOver (steps.make_call (around_run run) (functions_of run) is_used here c_type (FunctionValue name) given (config_in run)) state (Runs.Undefined Ub.U14 here)
    type-differs differs state = record {
      there = state;
      is = λ units input.
          ap (λ found. steps.make_known (around_run run) (functions_of run) is_used here c_type given (config_in run) found (left units input state)) is
          ∙ unless-fails here (not (same_type function.c_type c_type)) Ub.U14 [] begun (left units input state) (ap not (sym differs));
      quiet = refl;
    }

    pub type-fits : true ≡ same_type function.c_type c_type
        → steps.make_call (around_run run) (functions_of run) is_used here c_type (FunctionValue name) given (config_in run) ≡ begun
    type-fits same =
        ap (steps.make_known (around_run run) (functions_of run) is_used here c_type given (config_in run)) is
        ∙ ap (λ b. unless here (premise (not b) Ub.U14 ∷ []) begun) (sym same)

-- the types are those of the program
pub in-table : (run : RefRun) → IsConsistent run → (t : number.CType) (b : Bool) (c_type : CType) → b ≡ same_type (type_in run.program.now.types t) c_type → b ≡ same_type (type_in (table_of run) t) c_type
in-table run holds t b c_type e = subst (λ table. b ≡ same_type (type_in table t) c_type) (sym holds.types) e

-- what a program begins with
pub acting-start : (run : RefRun) → run.control.task ≡ K.Start
    → acting run ≡ steps.make_call (around_run run) (functions_of run) true (record { line = 1; column = 1 }) main_type (FunctionValue (codes "main")) [] (config_in run)
acting-start run e = ap (λ task. units.act (around_run run) (functions_of run) (task_in (table_of run) (operands_of run) (part_in (table_of run) run.control.node) task) (config_in run)) e

-- ---- a call of a name in memory

module _ (run : RefRun) (is_used : Bool) (here : Pos) (c_type : number.CType) (given : List Scalar) (function : memory_scalar.Scalar) (name : Bor (List ℕ)) (number : ℕ) (item : memory_function.FunctionDef)
    (holds : IsConsistent run) (named : function ≡ M.Function name) (is : function_from 0 (functions_of run) name.now ≡ Some (number, function_in (table_of run) item)) where
  abbrev made : memory_scalar.Scalar → Eval Config
  made f = steps.make_call (around_run run) (functions_of run) is_used here (type_in (table_of run) c_type) (scalar_in (table_of run) f) given (config_in run)

  both-in-table : (b : Bool) → b ≡ same_type (type_in run.program.now.types item.c_type) (type_in run.program.now.types c_type) → b ≡ same_type (type_in (table_of run) item.c_type) (type_in (table_of run) c_type)
  both-in-table b e = subst (λ table. b ≡ same_type (type_in table item.c_type) (type_in table c_type)) (sym holds.types) e

  pub call-differs : false ≡ same_type (type_in run.program.now.types item.c_type) (type_in run.program.now.types c_type) → (state : State) → IsOver (made function) state (Runs.Undefined Ub.U14 here)
  call-differs differs state =
      subst (λ f. IsOver (made f) state (Runs.Undefined Ub.U14 here)) (sym named)
      (type-differs run is_used here (type_in (table_of run) c_type) given name.now number (function_in (table_of run) item) is (both-in-table false differs) state)

  pub call-fits : true ≡ same_type (type_in run.program.now.types item.c_type) (type_in run.program.now.types c_type)
      → made function ≡ steps.begin_call (around_run run) (functions_of run) is_used here number (function_in (table_of run) item) given (config_in run).frames (config_in run).depth
  call-fits same = ap made named ∙ type-fits run is_used here (type_in (table_of run) c_type) given name.now number (function_in (table_of run) item) is (both-in-table true same)

-- no function has the name
pub call-unknown : (run : RefRun) (is_used : Bool) (here : Pos) (c_type : CType) (given : List Scalar) (function : memory_scalar.Scalar) (name : Bor (List ℕ)) → function ≡ M.Function name
    → function_from 0 (functions_of run) name.now ≡ None
    → steps.make_call (around_run run) (functions_of run) is_used here c_type (scalar_in (table_of run) function) given (config_in run)
    ≡ give (steps.came (around_run run) (functions_of run) (steps.ScalarGiven NullValue) (config_in run))
call-unknown run is_used here c_type given function name named none =
    ap (λ f. steps.make_call (around_run run) (functions_of run) is_used here c_type (scalar_in (table_of run) f) given (config_in run)) named
    ∙ ap (steps.make_known (around_run run) (functions_of run) is_used here c_type given (config_in run)) none
