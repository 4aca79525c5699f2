-- What comes to copies of what the graphs of groups tell, one group after the other.
use Rattle.std.proofs.Common.{◌≡◌, ℕ, ◌<◌, ◌≤◌, List, length, get_or, Contains, Option, Result, Ok, Err, subst, ◌∙◌, arith}
use Rattle.std.specs.Prelude.{OnOk}
use Rattle.std.proofs.lemmas.List.{get_or_default}
use Rattle.std.proofs.lemmas.List.Elements.{Contains-get_or}
use Rattle.tac_ir.specs.declared.register.Register.{Register}
use Rattle.tac_ir.specs.Code.{Tac}
use Rattle.tac_ir.specs.States.{Owner}
use Rattle.heap_graph.specs.Structures.{AreMade}
use Rattle.heap_graph.specs.Graphs.{Graph}
use Rattle.dsa_inlining.specs.declared.told_statics.GroupStatics.{GroupStatics}
use Rattle.dsa_inlining.specs.Crossed.{IsCrossed}
use Rattle.dsa_inlining.specs.Joins.{Joins}
use Rattle.dsa_inlining.specs.OuterCalls.Listed.{ToldCome}
use Rattle.dsa_inlining.proofs.Kept.{Keeps}
use Rattle.dsa_inlining.proofs.Joining.{Below, joins_for}
use Rattle.dsa_inlining.specs.Joined.{RepresentativesCome, BasesCome, GroupComes, GroupsCome}
use Rattle.dsa_inlining.proofs.Aligning.{list_come_kept}

-- ---- results

pub on_both : {X E A B C : Type 0} (r : Result X E) → OnOk r A → OnOk r B → (A → B → C) → OnOk r C
on_both (Ok x) a b gives = gives a b
on_both (Err e) a b gives = tt

-- ---- so many, one after the other

-- what holds for the number at a place of a list
abbrev pub EachAt : (ℕ → Graph → Type 0) → List ℕ → ℕ → Graph → Type 0
EachAt P numbers place graph = place < length numbers → P (get_or numbers place 0) graph

-- what holds for each
abbrev pub ForEach : (ℕ → Graph → Type 0) → List ℕ → Graph → Type 0
ForEach P numbers graph = (number : ℕ) → Contains numbers number → P number graph

module _ (tac : Tac) (made : AreMade tac.structs) (callee : Graph) (P : ℕ → Graph → Type 0) (numbers : List ℕ) where
  pub each_at_kept : ((number : ℕ) → Keeps tac.structs (P number)) → (place : ℕ) → Keeps tac.structs (EachAt P numbers place)
  each_at_kept keeps place old new sound goes its = λ within. keeps (get_or numbers place 0) old new sound goes (its within)

  pub one_joined : (place : ℕ) → place < length numbers → (old new : Graph) → Joins tac callee (P (get_or numbers place 0)) old new → Joins tac callee (EachAt P numbers place) old new
  one_joined place within old new joins = joins_for tac made callee old new (P (get_or numbers place 0)) (EachAt P numbers place) (λ graph its. its within) (λ its less. its) joins

  -- where there are no more, all were joined
  pub each_joined : (count : ℕ) → length numbers ≤ count → (old new : Graph) → Joins tac callee (Below (EachAt P numbers) count) old new → Joins tac callee (ForEach P numbers) old new
  each_joined count out old new joins =
      joins_for tac made callee old new (Below (EachAt P numbers) count) (ForEach P numbers) (λ graph all place less within. all (get_or numbers place 0) (Contains-get_or numbers place 0 within))
      (λ below number among.
      let within = among.1 in
      let there : get_or numbers among.0 0 ≡ number = get_or_default numbers among.0 0 number within ∙ among.2 in
      subst (λ n. P n new) there (below among.0 (omega (arith, within, out)) within))
      joins

-- ---- what is kept

module _ (tac : Tac) (made : AreMade tac.structs) (all : List GroupStatics) (callee : Graph) (copies : ℕ → Option ℕ) where
  pub representatives_kept : (group : ℕ) → Keeps tac.structs (RepresentativesCome all callee copies group)
  representatives_kept group old new sound goes come = λ its is. list_come_kept tac.structs made callee copies its.representatives old new sound goes (come its is)

  pub bases_kept : (bases : List ℕ) → Keeps tac.structs (BasesCome all callee copies bases)
  bases_kept bases old new sound goes come = λ base among. representatives_kept base old new sound goes (come base among)

  pub group_kept : (group : ℕ) → Keeps tac.structs (GroupComes all callee copies group)
  group_kept group old new sound goes come = λ its is.
      let both = come its is in
      (list_come_kept tac.structs made callee copies its.own old new sound goes both.0, bases_kept its.bases.items old new sound goes both.1)

-- ---- a call

pub crossed_told : (tac : Tac) (owner : Owner) (site : ℕ) (arguments : List Register) (called : ℕ) (callee : Graph) (copies : ℕ → Option ℕ) (graph : Graph) → IsCrossed tac owner site arguments called callee copies graph
    → ToldCome callee callee copies graph
crossed_told tac owner site arguments called callee copies graph its = record { globals = λ number target is. its.globals number; literals = λ number target is. its.literals number }

-- ---- where all come of which the graph of the function that is called tells

module _ (all : List GroupStatics) (callee : Graph) (copies : ℕ → Option ℕ) (graph : Graph) (told : ToldCome callee callee copies graph) where
  pub told_representatives : (group : ℕ) → RepresentativesCome all callee copies group graph
  told_representatives group = λ its is. record { globals = λ number among target at. told.globals number target at target at; literals = λ number among target at. told.literals number target at target at }

  pub told_group : (group : ℕ) → GroupComes all callee copies group graph
  told_group group = λ its is. (
    record { globals = λ number among target at. told.globals number target at target at; literals = λ number among target at. told.literals number target at target at },
    λ base among. told_representatives base,
  )

  pub told_groups : (groups : List ℕ) → GroupsCome all callee copies groups graph
  told_groups groups = λ group among. told_group group
