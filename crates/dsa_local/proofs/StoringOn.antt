-- First values that are stored one after another.
use Rattle.std.proofs.Common.{◌≡◌, ℕ, suc, ◌+◌, ◌<◌, ◌≤◌, zero, true, List, [], ◌∷◌, ◌++◌, map, drop, length, get_or, Some, option_map, refl, sym, ap, subst, ◌∙◌, arith}
use Rattle.std.specs.Prelude.{slice_get}
use Rattle.std.specs.List.{AllByRecursion}
use Rattle.std.proofs.lemmas.List.{at_drop_more, drop_all, length-map}
use Rattle.std.proofs.lemmas.Option.{slice_get-map, slice_get_read}
use Rattle.c_typed.specs.declared.definition.First as memory_first
use Rattle.c_typed.specs.declared.definition.GlobalDef as memory_global
use Rattle.c_typed.specs.DefinitionViews.{first_of, all_first, global_in}
use Rattle.c_typed.specs.Values as first
use Rattle.tac_ir.specs.Code.{Tac}
use Rattle.tac_ir.specs.declared.program.Tac as memory_tac
use Rattle.tac_ir.specs.Views.{tac_of}
use Rattle.heap_graph.specs.Graphs.{Graph}
use Rattle.heap_graph.specs.Structures.{AreMade}
use Rattle.heap_graph.specs.Closed.{first_closed}
use Rattle.heap_graph.specs.Merging.{IsSound}
use Rattle.graph_unification.specs.Going.{GoesOn}
use Rattle.graph_unification.proofs.Goes.{goes_same, goes_then}
use Rattle.dsa_local.specs.FirstTold.{alone, FirstTold}
use Rattle.dsa_local.specs.Storing.{AreStored}
use Rattle.dsa_local.proofs.GoingOn.{stored_kept}
use Rattle.dsa_local.proofs.Storing.{stored_split, stored_more, global_told}

-- ---- lists

-- the next of a list, and those behind it
next_of : {X : Type 0} (xs : List X) (i : ℕ) (x : X) → x ≡ get_or xs i x → i < length xs → drop i xs ≡ x ∷ drop (i + 1) xs
next_of xs i x is within = at_drop_more (λ l. l) xs i x within ∙ ap (λ y. y ∷ drop (i + 1) xs) (sym is)

front : {X : Type 0} (P : X → Type 0) (xs ys : List X) → AllByRecursion P (xs ++ ys) → AllByRecursion P xs
front P [] ys all = tt
front P (x ∷ xs) ys all = (all.0, front P xs ys all.1)

back : {X : Type 0} (P : X → Type 0) (xs ys : List X) → AllByRecursion P (xs ++ ys) → AllByRecursion P ys
back P [] ys all = all
back P (x ∷ xs) ys all = back P xs ys all.1

-- what holds of all first values holds of those of each
pub each_first : (P : first.Held → Type 0) (firsts : List memory_first.First) (i : ℕ) (one : memory_first.First) → one ≡ get_or firsts i one → i < length firsts → AllByRecursion P (all_first firsts)
    → AllByRecursion P (first_of one)
each_first P firsts i one is within all =
    front P (first_of one) (all_first (drop (i + 1) firsts)) (subst (λ l. AllByRecursion P (all_first l)) (next_of firsts i one is within) (left firsts i all))
  where
    left : (xs : List memory_first.First) (n : ℕ) → AllByRecursion P (all_first xs) → AllByRecursion P (all_first (drop n xs))
    left [] zero all = tt
    left [] (suc n) all = tt
    left (x ∷ xs) zero all = all
    left (x ∷ xs) (suc n) all = left xs n (back P (first_of x) (all_first xs) all)

-- what is stored of all first values is stored of each
pub each_stored : (tac : Tac) (graph : Graph) (number : ℕ) (firsts : List memory_first.First) (i : ℕ) (one : memory_first.First) → one ≡ get_or firsts i one → i < length firsts
    → AreStored tac graph number (all_first firsts) → AreStored tac graph number (first_of one)
each_stored tac graph number firsts i one is within all =
    (stored_split tac graph number (first_of one) (all_first (drop (i + 1) firsts)) (subst (λ l. AreStored tac graph number (all_first l)) (next_of firsts i one is within) (left firsts i all))).0
  where
    left : (xs : List memory_first.First) (n : ℕ) → AreStored tac graph number (all_first xs) → AreStored tac graph number (all_first (drop n xs))
    left [] zero all = all
    left [] (suc n) all = all
    left (x ∷ xs) zero all = all
    left (x ∷ xs) (suc n) all = left xs n (stored_split tac graph number (first_of x) (all_first xs) all).1

-- ---- what is left

-- where a graph goes on, and what is left is done, all is done
abbrev pub EndsIn : Tac → Graph → (Graph → Type 0) → (Graph → Type 0) → Type 0
EndsIn tac graph left all = (other : Graph) → GoesOn tac.structs graph other → left other → all other

module _ (tac : Tac) (made : AreMade tac.structs) where
  pub ends_last : (graph : Graph) → IsSound tac.structs graph → (left all : Graph → Type 0) → EndsIn tac graph left all → left graph → all graph
  ends_last graph sound left all ends h = ends graph (goes_same tac.structs made graph sound) h

  ends_more : (graph next : Graph) → IsSound tac.structs graph → GoesOn tac.structs graph next → (both left all : Graph → Type 0) → ((other : Graph) → GoesOn tac.structs next other → left other → both other)
      → EndsIn tac graph both all → EndsIn tac next left all
  ends_more graph next sound goes both left all joined ends = λ other later h. ends other (goes_then tac.structs made graph next other sound goes later) (joined other later h)

-- ---- the values of one variable

abbrev pub FirstLeft : Tac → ℕ → List memory_first.First → Graph → Type 0
FirstLeft tac number firsts graph = AreStored tac graph number (all_first firsts)

module _ (tac : Tac) (made : AreMade tac.structs) (number : ℕ) (firsts : List memory_first.First) where
  pub first_next : (graph next : Graph) → IsSound tac.structs graph → IsSound tac.structs next → GoesOn tac.structs graph next → (i : ℕ) (one : memory_first.First) → one ≡ get_or firsts i one → i < length firsts
      → AreStored tac next number (first_of one) → EndsIn tac graph (FirstLeft tac number (drop i firsts)) (FirstLeft tac number firsts)
      → EndsIn tac next (FirstLeft tac number (drop (i + 1) firsts)) (FirstLeft tac number firsts)
  first_next graph next sound later goes i one is within stored ends =
      ends_more tac made graph next sound goes (FirstLeft tac number (one ∷ drop (i + 1) firsts)) (FirstLeft tac number (drop (i + 1) firsts)) (FirstLeft tac number firsts)
      (λ other on h. stored_more tac other number (first_of one) (all_first (drop (i + 1) firsts)) (stored_kept tac made next other later on number (first_of one) stored) h)
      (subst (λ l. EndsIn tac graph (FirstLeft tac number l) (FirstLeft tac number firsts)) (next_of firsts i one is within) ends)

  pub first_end : (graph : Graph) → IsSound tac.structs graph → (i : ℕ) → length firsts ≤ i → EndsIn tac graph (FirstLeft tac number (drop i firsts)) (FirstLeft tac number firsts) → FirstLeft tac number firsts graph
  first_end graph sound i past ends =
      ends_last tac made graph sound (FirstLeft tac number (drop i firsts)) (FirstLeft tac number firsts) ends
      (subst (λ l. FirstLeft tac number l graph) (sym (drop_all i firsts past)) refl)

-- ---- all variables

abbrev pub GlobalsLeft : memory_tac.Tac → ℕ → List memory_global.GlobalDef → Graph → Type 0
GlobalsLeft tac number globals graph = first_closed (alone (tac_of tac) graph) number (map (global_in tac.types) globals) ≡ true

module _ (tac : memory_tac.Tac) (made : AreMade (tac_of tac).structs) (globals : List memory_global.GlobalDef) (all : globals ≡ tac.globals.items) where
  pub global_there : (i : ℕ) (one : memory_global.GlobalDef) → one ≡ get_or globals i one → i < length globals → slice_get (tac_of tac).globals i ≡ Some (global_in tac.types one)
  global_there i one is within =
      slice_get-map (global_in tac.types) tac.globals.items i
      ∙ ap (option_map (global_in tac.types)) (ap (λ l. slice_get l i) (sym all) ∙ slice_get_read globals (length globals) i one refl within is)

  pub global_within : (i : ℕ) → i < length globals → i < length (tac_of tac).globals
  global_within i within = let same = ap length all in let plain = length-map tac.globals.items (global_in tac.types) in omega (arith, same, plain, within)

  pub global_next : (graph next : Graph) → IsSound (tac_of tac).structs graph → IsSound (tac_of tac).structs next → GoesOn (tac_of tac).structs graph next → (i : ℕ) (one : memory_global.GlobalDef) → one ≡ get_or globals i one
      → i < length globals → AreStored (tac_of tac) next i (all_first one.first.items) → EndsIn (tac_of tac) graph (GlobalsLeft tac i (drop i globals)) (GlobalsLeft tac 0 globals)
      → EndsIn (tac_of tac) next (GlobalsLeft tac (i + 1) (drop (i + 1) globals)) (GlobalsLeft tac 0 globals)
  global_next graph next sound later goes i one is within stored ends =
      let plain = tac_of tac in
      let same : i + 1 ≡ suc i = omega arith in
      ends_more plain made graph next sound goes (GlobalsLeft tac i (one ∷ drop (i + 1) globals)) (GlobalsLeft tac (i + 1) (drop (i + 1) globals)) (GlobalsLeft tac 0 globals)
      (λ other on h.
      global_told plain other i (global_in tac.types one) (map (global_in tac.types) (drop (i + 1) globals)) (global_there i one is within)
      (stored_kept plain made next other later on i (all_first one.first.items) stored)
      (subst (λ n. first_closed (alone plain other) n (map (global_in tac.types) (drop (i + 1) globals)) ≡ true) same h))
      (subst (λ l. EndsIn plain graph (GlobalsLeft tac i l) (GlobalsLeft tac 0 globals)) (next_of globals i one is within) ends)

  pub globals_end : (graph : Graph) → IsSound (tac_of tac).structs graph → (i : ℕ) → length globals ≤ i → EndsIn (tac_of tac) graph (GlobalsLeft tac i (drop i globals)) (GlobalsLeft tac 0 globals)
      → FirstTold (tac_of tac) graph
  globals_end graph sound i past ends =
      subst (λ l. GlobalsLeft tac 0 l graph) all
      (ends_last (tac_of tac) made graph sound (GlobalsLeft tac i (drop i globals)) (GlobalsLeft tac 0 globals) ends
      (subst (λ l. GlobalsLeft tac i l graph) (sym (drop_all i globals past)) refl))
