-- A program is refused for its graphs by one count, and not where it has graphs.
use Rattle.std.proofs.Common.{◌≡◌, ℕ, List, [], length, subst}
use Rattle.c_typed.specs.Typed.{Values, Program}
use Rattle.tac_ir.specs.Code.{Tac}
use Rattle.tac_build.specs.ProgramCode.{Code}
use Rattle.tac_ir.specs.Groups.{AreGroups}
use Rattle.heap_graph.specs.Graphs.{ProgramGraphs}
use Rattle.dsa_bottom_up.proofs.Below.{closed_below}
use Rattle.dsa_bottom_up.proofs.CodeIsOne.Programs.{code_is_one}
use Rattle.dsa_bottom_up.proofs.Groups.{one_list_of_groups}
use Rattle.dsa_bottom_up.proofs.Refusals.{refused_once, few_not_refused}
use Rattle.dsa_bottom_up.proofs.SameRefused.{same_refused}
use Rattle.dsa_bottom_up.specs.Counting.{within, counted_values, counted_functions}
use Rattle.dsa_bottom_up.specs.Refused.{IsRefused}
use Rattle.dsa_bottom_up.specs.Graphed.{family_of, HasGraphs, IsOvergrown}

module _ (program : Program) (first : Values) where
  -- a refusal of the one code is one of the other
  refused_by : (tac : Tac) (groups : List (List ℕ)) → Code program tac → AreGroups tac groups → (n : ℕ) → IsOvergrown program first n
      → IsRefused tac groups (counted_functions program) (counted_values (within program []) first) n
  refused_by tac groups code are n overgrown =
      same_refused tac overgrown.tac (code_is_one program tac overgrown.tac code overgrown.code) groups (counted_functions program) (counted_values (within program []) first) n
      (subst (λ lists. IsRefused overgrown.tac lists (counted_functions program) (counted_values (within program []) first) n)
      (one_list_of_groups program overgrown.tac tac overgrown.groups groups overgrown.code code overgrown.are are) overgrown.refused)

  pub one_overgrown : (n m : ℕ) → IsOvergrown program first n → IsOvergrown program first m → n ≡ m
  one_overgrown n m one other =
      refused_once one.tac one.groups one.are (counted_functions program) (counted_values (within program []) first) n m one.refused (refused_by one.tac one.groups one.code one.are m other)

  pub not_overgrown : (tac : Tac) (groups : List (List ℕ)) (graphs : ProgramGraphs) → HasGraphs program first tac groups graphs → (n : ℕ) → IsOvergrown program first n → ⊥
  not_overgrown tac groups graphs has n overgrown =
      few_not_refused (family_of tac groups graphs) has.are (closed_below (family_of tac groups graphs) has.closed (length groups)) has.least_below (counted_functions program)
      (counted_values (within program []) first) has.few has.few_first n (refused_by tac groups has.code has.are n overgrown)
