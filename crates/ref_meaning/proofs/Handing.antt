-- What is handed on to what waits.
use Rattle.std.proofs.Common.{◌≡◌, List, refl, sym, ap, ◌∙◌}
use Rattle.c_typed.specs.Typed as T
use Rattle.c_typed.specs.Typed.{FunctionDef, Stmt, Value}
use Rattle.ref_semantics.specs.Store.{TypeEnvironment}
use Rattle.ref_semantics.specs.Values.{Scalar}
use Rattle.ref_semantics.specs.Parts.{Part, ValuePart, StmtPart}
use Rattle.ref_semantics.specs.Steps as steps
use Rattle.ref_semantics.specs.Steps.{Given, ScalarGiven, Config}
use Rattle.ref_meaning.specs.declared.control.Stage as memory_stage
use Rattle.ref_meaning.specs.declared.control.Stage.TheVariants as S
use Rattle.ref_meaning.specs.declared.run.RefRun.{RefRun}
use Rattle.ref_meaning.specs.Views.{config_in, around_run, functions_of, waiting}
use Rattle.ref_meaning.specs.Doing.{IsOfStatement, innermost, popped, taking}

value-scalar : (around : TypeEnvironment) (functions : List FunctionDef) (v : Value) (given : Given) (config : Config)
    → steps.take around functions (waiting (ValuePart v)) given config ≡ steps.take around functions (waiting (ValuePart v)) (ScalarGiven (steps.scalar_of given)) config
value-scalar around functions (T.Call is_used place function c_type arguments) given config = refl
value-scalar around functions _ given config = refl

stmt-scalar : (around : TypeEnvironment) (functions : List FunctionDef) (s : Stmt) (given : Given) (config : Config)
    → steps.take around functions (waiting (StmtPart s)) given config ≡ steps.take around functions (waiting (StmtPart s)) (ScalarGiven (steps.scalar_of given)) config
stmt-scalar around functions (T.If condition taken) given config = refl
stmt-scalar around functions _ given config = refl

part-scalar : (around : TypeEnvironment) (functions : List FunctionDef) (part : Part) (given : Given) (config : Config)
    → steps.take around functions (waiting part) given config ≡ steps.take around functions (waiting part) (ScalarGiven (steps.scalar_of given)) config
part-scalar around functions (ValuePart v) given config = value-scalar around functions v given config
part-scalar around functions (StmtPart s) given config = stmt-scalar around functions s given config
part-scalar around functions _ given config = refl

-- what waits for its first value takes the scalar that it is given
pub taking-first : (run : RefRun) (part : Part) (given : Given) (a : Scalar) → a ≡ steps.scalar_of given → taking run (innermost run part S.First) given ≡ taking run (waiting part) (ScalarGiven a)
taking-first run part given a is = part-scalar (around_run run) (functions_of run) part given (popped (config_in run)) ∙ ap (λ b. taking run (waiting part) (ScalarGiven b)) (sym is)

-- the stages that are left are those of statements
pub of-statement : (stage : memory_stage.Stage) → (stage ≡ S.First → ⊥) → ((a : _) → stage ≡ S.Second a → ⊥) → (stage ≡ S.Right → ⊥) → ((function : _) (count : _) → stage ≡ S.Argument function count → ⊥)
    → ((is_used : _) (place : _) (base : _) → stage ≡ S.Call is_used place base → ⊥) → IsOfStatement stage
of-statement S.First no_first no_second no_right no_argument no_call = absurd (no_first refl)
of-statement (S.Second a) no_first no_second no_right no_argument no_call = absurd (no_second a refl)
of-statement S.Right no_first no_second no_right no_argument no_call = absurd (no_right refl)
of-statement (S.Argument function count) no_first no_second no_right no_argument no_call = absurd (no_argument function count refl)
of-statement (S.Call is_used place base) no_first no_second no_right no_argument no_call = absurd (no_call is_used place base refl)
of-statement _ no_first no_second no_right no_argument no_call = tt
