-- The functions of the code with pools, by their numbers and by their signatures.
use Rattle.std.proofs.Common.{◌≡◌, ℕ, ◌==◌, true, if◌then◌else◌, List, length, Some, None, ap, eq-eqb}
use Rattle.std.specs.Prelude.{slice_get, nat_lt}
use Rattle.std.proofs.lemmas.Bool.{and_from}
use Rattle.run_theory.specs.declared.ends.TrapKind.TheVariants as traps
use Rattle.run_theory.specs.Runs.{DepthReached, Halt}
use Rattle.c_typed.specs.Types.{CType, same_type}
use Rattle.c_typed.proofs.Same.{same_type-true}
use Rattle.tac_ir.specs.Calls.{greatest_depth}
use Rattle.tac_ir.specs.Code.{Function, Tac}
use Rattle.pool_ir.specs.Code as C
use Rattle.pool_ir.specs.Code.{PoolCode}
use Rattle.pool_ir.specs.States as P
use Rattle.pool_ir.specs.Meaning as M
use Rattle.pool_rewrite.specs.Plan.{FunctionPlan}
use Rattle.pool_rewrite.specs.Rewriting.{signature_of, function_of}

-- functions of one type have one signature
pub same_signature : (tac : Tac) (own : FunctionPlan) (function : Function) (c_type : CType) → same_type (function.c_type) c_type ≡ true → ((function_of tac own function).signature == signature_of tac c_type) ≡ true
same_signature tac own function c_type same = eq-eqb (signature_of tac function.c_type) (signature_of tac c_type) (ap (signature_of tac) (same_type-true function.c_type c_type same))

pub of_signature_is : (code : PoolCode) (signature number : ℕ) (function : C.Function) → slice_get code.functions number ≡ Some function → (function.signature == signature) ≡ true → M.of_signature code signature (Some number) ≡ Some number
of_signature_is code signature number function is same = rw is (ap (λ b. if b then Some number else None) same)

-- what a call comes to
pub call_is : (code : PoolCode) (site number : ℕ) (function : C.Function) (words pools : List ℕ) (machine : P.State) → slice_get code.functions number ≡ Some function
    → length words ≡ function.frame.parameters → length pools ≡ function.taken
    → M.call code site (Some number) words pools machine ≡ (if nat_lt (length machine.callers) greatest_depth then M.enter code site number function words pools machine else Halt DepthReached machine)
call_is code site number function words pools machine is arguments taken =
    rw is (ap (λ b. if b then (if nat_lt (length machine.callers) greatest_depth then M.enter code site number function words pools machine else Halt DepthReached machine) else P.trap traps.BadCall machine)
    (and_from (length words == function.frame.parameters) (length pools == function.taken) (eq-eqb (length words) function.frame.parameters arguments) (eq-eqb (length pools) function.taken taken)))
