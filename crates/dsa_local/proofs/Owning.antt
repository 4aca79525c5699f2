-- The functions of a group, in its list and by their numbers.
use Rattle.std.proofs.Common.{◌≡◌, ℕ, ◌<◌, ◌==◌, ◌||◌, true, List, [], ◌∷◌, get_or, length, Some, refl, sym, ap, subst, ◌∙◌, inl, inr, arith}
use Rattle.std.specs.Prelude.{slice_get}
use Rattle.std.proofs.lemmas.List.{length-map}
use Rattle.std.proofs.lemmas.Option.{same_Some, slice_get-get_or, get_or_from_slice_get}
use Rattle.tac_ir.specs.States.{InFunction}
use Rattle.tac_ir.specs.Views.{function_in}
use Rattle.tac_ir.specs.Groups.{IsIn, AreGroups}
use Rattle.call_graph.specs.RowLists.{Has}
use Rattle.heap_graph.specs.Closed.{is_in}
use Rattle.call_graph.specs.GroupViews.{groups_of, IsOf}
use Rattle.heap_graph.proofs.GroupNumbers.{in_is, is_then_in, stands, among_at}
use Rattle.dsa_local.specs.Mentioned.{is_among}
use Rattle.dsa_local.specs.declared.members.Group.{Group}
use Rattle.dsa_local.specs.Members.{code_of, is_inside}
use Rattle.dsa_local.proofs.Inside.{in_list, listed_inside}
use Rattle.dsa_local.specs.Local.{owners_in, owners_at}

-- ---- what stands in lists

pub has_in : (list : List ℕ) (number : ℕ) → Has list number → IsIn number list
has_in [] number has = absurd has
has_in (first ∷ others) number (inl same) = inl same
has_in (first ∷ others) number (inr has) = inr (has_in others number has)

pub in_has : (list : List ℕ) (number : ℕ) → IsIn number list → Has list number
in_has [] number is = absurd is
in_has (first ∷ others) number (inl same) = inl same
in_has (first ∷ others) number (inr is) = inr (in_has others number is)

among_is : (function : ℕ) (list : List ℕ) → is_among (InFunction function) (owners_in list) ≡ is_in function list
among_is function [] = refl
among_is function (first ∷ others) = ap (λ b. (first == function) || b) (among_is function others)

-- ---- groups in memory

module _ (group : Group) (of : IsOf group.tac.now group.groups.now) where
  abbrev lists : List (List ℕ)
  lists = groups_of group.groups.now

  -- a function that is inside is among the owners
  pub inside_among : (function : ℕ) → is_inside group function ≡ true → is_among (InFunction function) (owners_at (groups_of group.groups.now) group.number) ≡ true
  inside_among function is =
      let place = in_list group of function is in
      among_is function (get_or lists group.number [])
      ∙ (ap (is_in function) (get_or_from_slice_get lists group.number place.0 [] place.1) ∙ is_then_in function place.0 place.2)

  -- it stands in the group's list
  pub inside_has : (list : List ℕ) → slice_get (groups_of group.groups.now) group.number ≡ Some list → (function : ℕ) → is_inside group function ≡ true → Has list function
  inside_has list at function is =
      let place = in_list group of function is in
      subst (λ l. Has l function) (same_Some place.0 list (sym place.1 ∙ at)) (in_has place.0 function place.2)

  module _ (are : AreGroups (code_of group) (groups_of group.groups.now)) where
    -- what is in a group's list is one of the program
    pub listed_within : (list : List ℕ) → slice_get (groups_of group.groups.now) group.number ≡ Some list → (function : ℕ) → Has list function → function < length group.tac.now.functions.items
    listed_within list at function has =
        let place = stands lists group.number list at in
        let less = are.only function (among_at place.before place.after list function lists place.is (has_in list function has)) in
        let long = length-map group.tac.now.functions.items (function_in group.tac.now.types) in
        omega (arith, less, long)

    -- and inside
    pub has_inside : (list : List ℕ) → slice_get (groups_of group.groups.now) group.number ≡ Some list → (function : ℕ) → Has list function → is_inside group function ≡ true
    has_inside list at function has = listed_inside group of are list function at (has_in list function has) (listed_within list at function has)

    -- a function that is among the owners is inside
    pub among_inside : group.number < length (groups_of group.groups.now) → (function : ℕ) → is_among (InFunction function) (owners_at (groups_of group.groups.now) group.number) ≡ true → is_inside group function ≡ true
    among_inside less function is =
        let list = get_or lists group.number [] in
        let at : slice_get lists group.number ≡ Some list = slice_get-get_or lists group.number [] less in
        has_inside list at function (in_has list function (in_is function list (sym (among_is function list) ∙ is)))
