-- The functions of groups, and the number of each function's group, are put together one after another.
use Rattle.std.proofs.Common.{◌≡◌, ℕ, suc, ◌+◌, ◌<◌, ◌⊎◌, List, [], ◌∷◌, ◌++◌, length, set, get_or, Vec, Some, option_map, inl, inr, sym, ap, subst, ◌∙◌, arith, length-set, length-append}
use Rattle.std.specs.Prelude.{slice_get, vec_items}
use Rattle.std.proofs.lemmas.Bool.{cases_eq}
use Rattle.std.proofs.lemmas.List.{map-append, get_or-set_same, get_or-set_other}
use Rattle.std.proofs.lemmas.Option.{none-some, same_Some, slice_get_within, slice_get-map}
use Rattle.call_graph.specs.RowLists.{Has}
use Rattle.call_graph.specs.Rows.{row_of, AreRows}
use Rattle.call_graph.proofs.RowLists.{in_either, at_has, among_has, some_at}
use Rattle.call_graph.proofs.RowPlaces.{at_more}
use Rattle.call_graph.specs.Orders.{IsOrder}
use Rattle.call_graph.proofs.Turned.{under}
use Rattle.tac_ir.specs.Groups.{IsIn}
use Rattle.call_graph.specs.GroupLists.{AreCallHeads, links_of, functions_in, in_groups, AreBelow, ArePlaces, AreNumbers}
use Rattle.call_graph.proofs.MadeGroups.{holds, divided}

-- ---- links

pub link_more : (number : ℕ) (done : List ℕ) (head at : ℕ) → at ≡ number + length done → links_of number (done ++ head ∷ []) ≡ links_of number done ++ (head, at) ∷ []
link_more number [] head at e = let same : number ≡ at = omega (arith, e) in ap (λ n. (head, n) ∷ []) same
link_more number (first ∷ done) head at e = ap (λ l. (first, number) ∷ l) (link_more (suc number) done head at (omega (arith, e)))

-- ---- members

pub group_row : {A B : Type 0} (heads : List ℕ) (links : List (ℕ × ℕ)) (rows : Vec (Vec ℕ A) B) (head : ℕ) (row : Vec ℕ A) → links ≡ links_of 0 heads → AreRows (length heads) links rows → head < length heads → slice_get rows.items head ≡ Some row
    → row.items ≡ functions_in 0 heads head
group_row heads links rows head row is made lt there =
    same_Some row.items (functions_in 0 heads head) (sym (ap (option_map vec_items) there) ∙ (made.row head lt ∙ ap (λ l. Some (row_of head l)) is))

pub group_more : (heads done more : List ℕ) (head : ℕ) (old new : List (List ℕ)) (group : List ℕ) → old ≡ in_groups heads done → more ≡ done ++ head ∷ [] → group ≡ functions_in 0 heads head → new ≡ old ++ group ∷ [] → new ≡ in_groups heads more
group_more heads done more head old new group known e is adds =
    adds ∙ ((λ i. known i ++ is i ∷ []) ∙ (sym (map-append (functions_in 0 heads) done (head ∷ [])) ∙ ap (in_groups heads) (sym e)))

-- ---- places

module _ (count : ℕ) (order : List ℕ) where
  -- those of the first of an order
  pub record ArePlacesOf (done places : List ℕ) : Type 0 where
    pub each : length places ≡ count
    pub place : (head : ℕ) → Has done head → slice_get order (get_or places head 0) ≡ Some head

  pub no_places : (places : List ℕ) → length places ≡ count → ArePlacesOf [] places
  no_places places long = record { each = long; place = λ head none. absurd none }

  pub one_place : (done more : List ℕ) (head at : ℕ) (places places' : List ℕ) → ArePlacesOf done places → more ≡ done ++ head ∷ [] → head < count → slice_get order at ≡ Some head → places' ≡ set places head at → ArePlacesOf more places'
  one_place done more head at places places' known e lt there is = record {
    each = ap length is ∙ (length-set places head at ∙ known.each);
    place = λ other has. ap (λ l. slice_get order (get_or l other 0)) is ∙ by other (in_either done (head ∷ []) other (subst (λ l. Has l other) e has)) (cases_eq other head);
  }
    where
      by : (other : ℕ) → Has done other ⊎ Has (head ∷ []) other → (other ≡ head) ⊎ (other ≡ head → ⊥) → slice_get order (get_or (set places head at) other 0) ≡ Some other
      by other which (inl same) =
          ap (λ n. slice_get order (get_or (set places head at) n 0)) same ∙ (ap (slice_get order) (get_or-set_same places head at 0 (omega (arith, lt, known.each))) ∙ (there ∙ ap Some (sym same)))
      by other (inl before) (inr differs) = ap (slice_get order) (get_or-set_other places head other at 0 differs) ∙ known.place other before
      by other (inr (inl same)) (inr differs) = absurd (differs same)
      by other (inr (inr none)) (inr differs) = absurd none

-- ---- numbers of groups

pub no_numbers : (order numbers : List ℕ) → numbers ≡ [] → AreNumbers [] order numbers
no_numbers order numbers none = record { each = ap length none; number = λ function head number here there has. absurd (none-some head here) }

pub number_more : (order places done more numbers numbers' : List ℕ) (head number : ℕ) (count : ℕ) → ArePlaces count order places → AreNumbers done order numbers → more ≡ done ++ head ∷ [] → number ≡ get_or places head 0
    → numbers' ≡ numbers ++ number ∷ [] → AreNumbers more order numbers'
number_more order places done more numbers numbers' head number count placed known e is adds = subst (λ l. AreNumbers l order numbers') (sym e) (record {
  each = ap length adds ∙ (length-append numbers (number ∷ []) ∙ (omega (arith, known.each) ∙ sym (length-append done (head ∷ []))));
  number = λ function own place here there has. by function own place has (at_more done head function own here) (at_more numbers number function place (ap (λ l. slice_get l function) (sym adds) ∙ there));
})
  where
    by : (function own place : ℕ) → Has order own → (slice_get done function ≡ Some own) ⊎ ((function ≡ length done) × (head ≡ own)) → (slice_get numbers function ≡ Some place) ⊎ ((function ≡ length numbers) × (number ≡ place))
        → slice_get order place ≡ Some own
    by function own place has (inl here) (inl there) = known.number function own place here there has
    by function own place has (inr here) (inr there) =
        ap (slice_get order) (sym there.1 ∙ is) ∙ (ap (λ h. slice_get order (get_or places h 0)) here.1 ∙ placed.place own has)
    by function own place has (inl here) (inr there) = absurd (omega (arith, slice_get_within done function own here, there.0, known.each))
    by function own place has (inr here) (inl there) = absurd (omega (arith, slice_get_within numbers function place there, here.0, known.each))

-- ---- functions of the program

pub order_below : (edges : List (ℕ × ℕ)) (heads order : List ℕ) → IsOrder heads edges order → AreBelow (length heads) order
order_below edges heads order ordered head has = let own = divided order head has in slice_get_within heads head head (ordered.in_order own.0 own.1 head own.2).head

pub heads_below : (edges : List (ℕ × ℕ)) (heads : List ℕ) (count : ℕ) → AreCallHeads count edges heads → AreBelow (length heads) heads
heads_below edges heads count made head has = let own = at_has heads head has in slice_get_within heads head head (under edges heads made.of own.0 head own.1).itself

-- the group of a function
pub own_group : (edges : List (ℕ × ℕ)) (heads order numbers : List ℕ) (count : ℕ) → AreCallHeads count edges heads → IsOrder heads edges order → AreNumbers heads order numbers → (function number : ℕ) → slice_get numbers function ≡ Some number
    → (group : List ℕ) × (slice_get (in_groups heads order) number ≡ Some group) × IsIn function group
own_group edges heads order numbers count made ordered numbered function number is =
    by function (some_at heads function (omega (arith, slice_get_within numbers function number is, numbered.each)))
  where
    by : (f : ℕ) → (head : ℕ) × (slice_get heads function ≡ Some head) → (group : List ℕ) × (slice_get (in_groups heads order) number ≡ Some group) × IsIn function group
    by f own =
        let has = among_has own.0 order (ordered.all own.0 (under edges heads made.of function own.0 own.1).itself) in
        let place = numbered.number function own.0 number own.1 is has in
        (functions_in 0 heads own.0, slice_get-map (functions_in 0 heads) order number ∙ ap (option_map (functions_in 0 heads)) place, holds heads own.0 function own.1)
