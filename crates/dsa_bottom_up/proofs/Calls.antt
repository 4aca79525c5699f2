-- Calls by name are of functions of the program, and call sites are at one point each.
use Rattle.std.proofs.Common.{◌≡◌, ℕ, zero, suc, ◌<◌, List, [], ◌∷◌, length, Some, ap, subst, ◌∙◌, arith}
use Rattle.std.specs.Prelude.{slice_get}
use Rattle.std.proofs.lemmas.Option.{none-some}
use Rattle.c_typed.specs.Typed.{Program}
use Rattle.tac_ir.specs.declared.register.Register.{Register}
use Rattle.tac_ir.specs.Code.{Known, Function, Tac}
use Rattle.tac_ir.specs.Code as O
use Rattle.tac_ir.specs.States.{Owner, InFunction, function_of}
use Rattle.tac_build.specs.ProgramCode.{Code}
use Rattle.tac_ir.specs.Groups.{Makes}
use Rattle.dsa_bottom_up.specs.Sites.{HasSitesOnce, HasSitesBelow}
use Rattle.dsa_bottom_up.proofs.LoweredCalls.Leading.{site_in}
use Rattle.dsa_bottom_up.proofs.LoweredCalls.Functions.{as_many, whole}

get_below : {A : Type 0} (xs : List A) (number : ℕ) (x : A) → slice_get xs number ≡ Some x → number < length xs
get_below [] number x there = absurd (none-some x there)
get_below (first ∷ xs) zero x there = omega arith
get_below (first ∷ xs) (suc number) x there = let lt = get_below xs number x there in omega (arith, lt)

module _ (program : Program) (tac : Tac) (code : Code program tac) where
  -- a function or `start` calls by name only functions of the program
  pub names_known : (owner : Owner) (function : Function) → function_of tac owner ≡ Some function → (at site called : ℕ) (arguments : List Register)
      → slice_get function.points at ≡ Some (O.Call site (Known called) arguments) → called < length tac.functions
  names_known owner function is at site called arguments there =
      subst (λ count. called < count) (as_many program program.functions tac.functions code.functions)
      ((whole program tac code owner function is).known at site called arguments (omega arith) (get_below function.points at (O.Call site (Known called) arguments) there) there)

  -- calls by name are of functions of the program
  pub calls_known : (caller function : ℕ) → Makes tac caller (Known function) → function < length tac.functions
  calls_known caller function made = names_known (InFunction caller) made.function made.is made.at made.site function made.arguments made.point

  -- of a function or of `start` no two points have one site
  pub sites_once : (owner : Owner) (function : Function) → function_of tac owner ≡ Some function → HasSitesOnce function
  sites_once owner function is i j a b site there_i there_j site_i site_j =
      (whole program tac code owner function is).once i j site (omega arith) (get_below function.points i a there_i) (omega arith) (get_below function.points j b there_j)
      (ap site_in there_i ∙ site_i) (ap site_in there_j ∙ site_j)

  -- a function has a register for each of its sites
  pub sites_below : (owner : Owner) (function : Function) → function_of tac owner ≡ Some function → HasSitesBelow function
  sites_below owner function is at op site there site_there =
      ((whole program tac code owner function is).sites at site (omega arith) (get_below function.points at op there) (ap site_in there ∙ site_there)).1
