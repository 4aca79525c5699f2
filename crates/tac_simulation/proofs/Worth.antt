-- What a tick is worth: more units than the body of any function of the program spends at most.
use Rattle.std.proofs.Common.{◌≡◌, ℕ, suc, ◌+◌, ◌≤◌, ◌<◌, Bool, true, false, List, [], ◌∷◌, Some, bytes_eq, cond, ap, arith}
use Rattle.std.proofs.lemmas.Option.{none-some, same_Some}
use Rattle.c_typed.specs.Typed.{FunctionDef}
use Rattle.ref_semantics.specs.Meaning.{function_from}
use Rattle.tac_simulation.proofs.Executing.{block_units}

abbrev pub IsWorth : List FunctionDef → ℕ → Type 0
IsWorth [] worth = Unit {0}
IsWorth (first ∷ others) worth = (block_units first.body < worth) × IsWorth others worth

abbrev pub bodies_worth : List FunctionDef → ℕ
bodies_worth [] = 0
bodies_worth (first ∷ others) = suc (block_units first.body) + bodies_worth others

worth_more : (functions : List FunctionDef) (worth more : ℕ) → worth ≤ more → IsWorth functions worth → IsWorth functions more
worth_more [] worth more less is = tt
worth_more (first ∷ others) worth more less is = let own = is.0 in (omega (arith, own, less), worth_more others worth more less is.1)

pub some_worth : (functions : List FunctionDef) → IsWorth functions (bodies_worth functions)
some_worth [] = tt
some_worth (first ∷ others) = (omega arith, worth_more others (bodies_worth others) (suc (block_units first.body) + bodies_worth others) (omega arith) (some_worth others))

pub found_worth : (functions : List FunctionDef) (worth from : ℕ) (name : List ℕ) (found : ℕ × FunctionDef) → IsWorth functions worth → function_from from functions name ≡ Some found → block_units found.1.body < worth
found_worth [] worth from name found is there = absurd (none-some found there)
found_worth (first ∷ others) worth from name found is there = by (bytes_eq first.name name) there (found_worth others worth (suc from) name found is.1)
  where
    by : (b : Bool) → cond b (Some (from, first)) (function_from (suc from) others name) ≡ Some found
        → (function_from (suc from) others name ≡ Some found → block_units found.1.body < worth) → block_units found.1.body < worth
    by true e rest = let same = ap (λ (p : ℕ × FunctionDef). block_units p.1.body) (same_Some (from, first) found e) in let own = is.0 in omega (arith, same, own)
    by false e rest = rest e
