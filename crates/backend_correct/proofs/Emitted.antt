-- The functions of the code with one pool: what an image asks of each, beside that the code fits into frames.
use Rattle.std.proofs.Common.{◌≡◌, ℕ, zero, suc, ◌^◌, ◌<◌, ◌≤◌, List, [], ◌∷◌, length, map, Some, refl, sym, ap, subst, arith}
use Rattle.std.specs.Prelude.{slice_get}
use Rattle.std.specs.List.{AllByRecursion}
use Rattle.std.proofs.lemmas.List.{length-append}
use Rattle.std.proofs.lemmas.Option.{none-some, same_Some}
use Rattle.c_typed.specs.TypedNodes.{greatest_nodes}
use Rattle.tac_ir.specs.Code.{Tac}
use Rattle.tac_ir.specs.Code as T
use Rattle.pool_ir.specs.Code.{Action}
use Rattle.pool_ir.specs.Code as O
use Rattle.pool_ir.specs.States.{actions_from}
use Rattle.pool_rewrite.specs.Plan.{FunctionPlan, one_pool_function, one_pool_start}
use Rattle.pool_rewrite.specs.Placing.{frame_of, statics_size}
use Rattle.pool_rewrite.specs.Rewriting.{signature_of, op_of, function_of, functions_of}
use Rattle.stack_code.specs.Emitting.{blocks, opening, function_code, place_of, words_taken}
use Rattle.stack_code.specs.FitsImage.{OpInRange, KindIsThere}
use Rattle.backend_correct.proofs.ImagePremises.Functions.{FunctionNamed, worth}
use Rattle.backend_correct.proofs.Lengths.{blocks_length}
use Rattle.backend_correct.proofs.Numbers.{signature_low, op_in_range}

-- what an image asks of a function, in a program with so many kinds of pools and so many functions
pub record IsEmitted (kinds functions : ℕ) (function : O.Function) : Type 0 where
  pub parameters : words_taken function ≤ 320
  pub signature : function.signature < 2 ^ 32
  pub short : length (function_code function) < 2 ^ 32
  pub begins : 0 < length function.points
  pub points : (number : ℕ) (op : O.Op) → slice_get function.points number ≡ Some op → OpInRange functions (length function.points) number op
  pub entering : AllByRecursion (KindIsThere kinds) function.entering
  pub leaving : AllByRecursion (KindIsThere kinds) function.leaving
  pub edges : (from to : ℕ) → AllByRecursion (KindIsThere kinds) (actions_from function.edges from to)

length_map : {A B : Type 0} (f : A → B) (xs : List A) → length (map f xs) ≡ length xs
length_map f [] = refl
length_map f (first ∷ xs) = ap suc (length_map f xs)

got_mapped : {A B : Type 0} (f : A → B) (holds : B → Type 0) (xs : List A) (number : ℕ) (y : B) → ((x : A) → slice_get xs number ≡ Some x → holds (f x)) → slice_get (map f xs) number ≡ Some y → holds y
got_mapped f holds [] number y so there = absurd (none-some y there)
got_mapped f holds (first ∷ xs) zero y so there = subst holds (same_Some (f first) y there) (so first refl)
got_mapped f holds (first ∷ xs) (suc number) y so there = got_mapped f holds xs number y so there

-- points of a function with one pool
module _ (tac : Tac) (small : statics_size tac ≤ 1073741824) (few : length tac.functions ≤ 4096) (plan : FunctionPlan) (function : T.Function) where
  rewritten_points : (most : ℕ) → FunctionNamed (length tac.functions) most function → (number : ℕ) (op : O.Op) → slice_get (function_of tac plan function).points number ≡ Some op
      → OpInRange (length tac.functions) (length (function_of tac plan function).points) number op
  rewritten_points most named number op there =
      subst (λ (points : ℕ). OpInRange (length tac.functions) points number op) (sym (length_map rewrite function.points))
      (got_mapped rewrite (OpInRange (length tac.functions) (length function.points) number) function.points number op
      (λ found is. op_in_range tac small few plan function.objects frame (length function.points) number found (named.named number found is).0 (named.named number found is).1) there)
    where
      frame : O.FrameLayout
      frame = frame_of tac.structs plan function

      rewrite : T.Op → O.Op
      rewrite found = op_of tac plan function.objects (frame_of tac.structs plan function) found

  few_signatures : signature_of tac function.c_type < 2 ^ 32
  few_signatures = let low = signature_low 0 tac.functions function.c_type in omega (arith, low, few)

  -- a function to which its caller passes the pool, or `start`, which makes it
  few_instructions : (entering : List Action) (taken nodes : ℕ) → nodes ≤ greatest_nodes → ((site : ℕ) → length (plan.passes site) ≡ 1) → FunctionNamed (length tac.functions) (worth nodes) function
      → (made : O.Function) → made ≡ record (function_of tac plan function) { taken = taken; entering = entering; edges = []; leaving = [] } → length (opening made) ≤ 3
      → length (function_code made) < 2 ^ 32
  few_instructions entering taken nodes low one named made is begun =
      let frame = frame_of tac.structs plan function in
      let points = map (op_of tac plan function.objects frame) function.points in
      let own : O.Function = record (function_of tac plan function) { taken = taken; entering = entering; edges = []; leaving = [] } in
      let all = blocks_length (signature_of tac function.c_type) taken frame entering points tac plan function.objects frame one (place_of own) function.points 0 in
      let same : length (function_code made) ≡ length (function_code own) = ap (λ (found : O.Function). length (function_code found)) is in
      let begins : length (opening made) ≡ length (opening own) = ap (λ (found : O.Function). length (opening found)) is in
      let more = length-append (opening own) (blocks (place_of own) own 0 own.points) in
      let weight = named.weight in
      omega (arith, all, same, begins, more, weight, begun, low)

module _ (tac : Tac) (small : statics_size tac ≤ 1073741824) (few : length tac.functions ≤ 4096) (nodes : ℕ) (low : nodes ≤ greatest_nodes) where
  pub function_emitted : (own function : T.Function) → FunctionNamed (length tac.functions) (worth nodes) function → IsEmitted 1 (length tac.functions) (function_of tac (one_pool_function own) function)
  function_emitted own function named = record {
    parameters = let most = named.parameters in omega (arith, most);
    signature = few_signatures tac small few (one_pool_function own) function;
    short = few_instructions tac small few (one_pool_function own) function [] 1 nodes low (λ site. refl) named (function_of tac (one_pool_function own) function) refl (omega arith);
    begins = let long = length_map (op_of tac (one_pool_function own) function.objects (frame_of tac.structs (one_pool_function own) function)) function.points in
        let some = named.begins in
        omega (arith, long, some);
    points = rewritten_points tac small few (one_pool_function own) function (worth nodes) named;
    entering = tt;
    leaving = tt;
    edges = λ from to. tt;
  }

  pub start_emitted : (function : T.Function) → FunctionNamed (length tac.functions) (worth nodes) function → IsEmitted 1 (length tac.functions) (function_of tac one_pool_start function)
  start_emitted function named = record {
    parameters = let most = named.parameters in omega (arith, most);
    signature = few_signatures tac small few one_pool_start function;
    short = few_instructions tac small few one_pool_start function (O.Make 0 0 ∷ []) 0 nodes low (λ site. refl) named (function_of tac one_pool_start function) refl (omega arith);
    begins = let long = length_map (op_of tac one_pool_start function.objects (frame_of tac.structs one_pool_start function)) function.points in
        let some = named.begins in
        omega (arith, long, some);
    points = rewritten_points tac small few one_pool_start function (worth nodes) named;
    entering = (omega arith, tt);
    leaving = tt;
    edges = λ from to. tt;
  }

-- there are as many functions
pub made_alike : (tac : Tac) (functions : List T.Function) → length (functions_of tac (map one_pool_function functions) functions) ≡ length functions
made_alike tac [] = refl
made_alike tac (first ∷ others) = ap suc (made_alike tac others)

-- what is so of each function with the plan of one pool is so of each that is made
pub each_made : (tac : Tac) (holds : O.Function → Type 0) (functions : List T.Function) (number : ℕ) (made : O.Function)
    → ((own function : T.Function) → slice_get functions number ≡ Some function → holds (function_of tac (one_pool_function own) function))
    → slice_get (functions_of tac (map one_pool_function functions) functions) number ≡ Some made → holds made
each_made tac holds [] number made so there = absurd (none-some made there)
each_made tac holds (first ∷ others) zero made so there = subst holds (same_Some (function_of tac (one_pool_function first) first) made there) (so first first refl)
each_made tac holds (first ∷ others) (suc number) made so there = each_made tac holds others number made so there
