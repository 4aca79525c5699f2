-- Functions one after the other, and round after round.
use Rattle.std.proofs.Common.{◌≡◌, ℕ, zero, suc, ◌+◌, ◌<◌, ◌≤◌, Bool, true, false, List, [], ◌∷◌, length, drop, get_or, Some, Bor, refl, sym, ap, subst, ◌∙◌}
use Rattle.std.specs.Prelude.{◌||◌, slice_get}
use Rattle.std.specs.List.{AllByRecursion}
use Rattle.std.proofs.lemmas.List.{at_drop_more, drop_all}
use Rattle.std.specs.Slice.{IsItemAt}
use Rattle.std.proofs.lemmas.Option.{same_Some, none-some, slice_get_read}
use Rattle.tac_ir.specs.declared.program.Tac as memory_tac
use Rattle.tac_ir.specs.Code.{Op, Tac}
use Rattle.tac_ir.specs.States.{Owner}
use Rattle.tac_ir.specs.Views.{tac_of}
use Rattle.heap_graph.specs.Graphs.{Graph}
use Rattle.heap_graph.specs.Structures.{AreMade}
use Rattle.heap_graph.specs.Merging.{IsSound, GraphMap, Maps}
use Rattle.heap_graph.specs.declared.scope.Scope.{Scope}
use Rattle.heap_graph.specs.Known.{owner_at}
use Rattle.graph_unification.proofs.Going.{leads_itself, leads_on, leads_less}
use Rattle.graph_unification.specs.Applying.{Applies, IsAsked, AllAsked}
use Rattle.graph_unification.specs.Fits.{OpFits, AllFit}
use Rattle.graph_unification.proofs.Changing.{nothing, both}
use Rattle.graph_unification.proofs.PointCases.{all_kept}
use Rattle.graph_unification.proofs.Goes.{goes_same, goes_then, applies_goes}
use Rattle.dsa_local.specs.Rounds.{points_at, owners_of, Settled, IsFit, AreFit, Advances, RoundGoesOn}

-- the next of a list, and those behind it
pub next_of : {X : Type 0} (xs : List X) (i : ℕ) (x : X) → x ≡ get_or xs i x → i < length xs → drop i xs ≡ x ∷ drop (i + 1) xs
next_of xs i x is within = at_drop_more (λ l. l) xs i x within ∙ ap (λ y. y ∷ drop (i + 1) xs) (sym is)

-- what is found of a slice
pub item_at : {X : Type 0} (xs : List X) (number : ℕ) (x : Bor X) → IsItemAt xs number (Some x) → slice_get xs number ≡ Some x.now
item_at xs number x h = slice_get_read xs (length xs) number x.now refl h.3.0 h.1

-- what holds of all holds of each
pub each_at : {X : Type 0} (P : X → Type 0) (xs : List X) (number : ℕ) (x : X) → AllByRecursion P xs → slice_get xs number ≡ Some x → P x
each_at P [] number x all at = absurd (none-some x at)
each_at P (y ∷ ys) zero x all at = subst P (same_Some y x at) all.0
each_at P (y ∷ ys) (suc number) x all at = each_at P ys number x all.1 at

-- ---- what has to be known stays known

module _ (tac : memory_tac.Tac) (old new : Graph) (map : GraphMap) (made : AreMade (tac_of tac).structs) (sound : IsSound (tac_of tac).structs old) (maps : Maps (tac_of tac).structs old new map) where
  fit_kept : (scope : Scope) → IsFit tac old scope → IsFit tac new scope
  fit_kept scope its = record {
    nulls = its.nulls;
    types = its.types;
    fit = all_kept (tac_of tac) (owner_at scope.owner) made old new map sound maps (points_at (tac_of tac) (owner_at scope.owner)) its.fit;
  }

  pub each_kept : (scopes : List Scope) → AllByRecursion (IsFit tac old) scopes → AllByRecursion (IsFit tac new) scopes
  each_kept [] each = tt
  each_kept (scope ∷ scopes) each = (fit_kept scope each.0, each_kept scopes each.1)

  pub are_kept : (scopes : List Scope) → AreFit tac old scopes → AreFit tac new scopes
  are_kept scopes fit = record { made = fit.made; literals = fit.literals; each = each_kept scopes fit.each }

-- ---- what is done

module _ (tac : Tac) (made : AreMade tac.structs) where
  pub begins : (start : Graph) (all : List Owner) → RoundGoesOn tac start all false start all
  begins start all = λ b new its. its

  pub goes_on : (start : Graph) (all : List Owner) (changed applied : Bool) (graph next : Graph) → IsSound tac.structs graph → (owner : Owner) (left : List Owner) → RoundGoesOn tac start all changed graph (owner ∷ left)
      → Applies tac.structs applied graph next (AllAsked tac owner (points_at tac owner)) → RoundGoesOn tac start all (changed || applied) next left
  goes_on start all changed applied graph next sound owner left gives points = λ b new its.
      subst (λ x. Applies tac.structs x start new (Settled tac all)) (grouped changed applied b)
      (gives (applied || b) new (both tac.structs made applied b graph next new sound (AllAsked tac owner (points_at tac owner)) (Settled tac left) points its))
    where
      grouped : (x y z : Bool) → (x || (y || z)) ≡ ((x || y) || z)
      grouped true y z = refl
      grouped false y z = refl

  pub ends : (start : Graph) (all : List Owner) (changed : Bool) (graph : Graph) → IsSound tac.structs graph → RoundGoesOn tac start all changed graph [] → Applies tac.structs changed start graph (Settled tac all)
  ends start all changed graph sound gives =
      subst (λ x. Applies tac.structs x start graph (Settled tac all)) (alone changed) (gives false graph (nothing tac.structs made graph sound (Settled tac []) tt))
    where
      alone : (x : Bool) → (x || false) ≡ x
      alone true = refl
      alone false = refl

-- the functions behind the last
pub none_left : (scopes : List Scope) (i : ℕ) → length scopes ≤ i → owners_of (drop i scopes) ≡ []
none_left scopes i out = ap owners_of (drop_all i scopes out)

-- ---- a point

asked_at : (tac : Tac) (owner : Owner) (graph : Graph) (ops : List Op) (number : ℕ) (op : Op) → AllAsked tac owner ops graph → slice_get ops number ≡ Some op → IsAsked tac owner op graph
asked_at tac owner graph [] number op all at = absurd (none-some op at)
asked_at tac owner graph (first ∷ ops) zero op all at = subst (λ o. IsAsked tac owner o graph) (same_Some first op at) all.0
asked_at tac owner graph (first ∷ ops) (suc number) op all at = asked_at tac owner graph ops number op all.1 at

pub fits_at : (tac : Tac) (owner : Owner) (graph : Graph) (ops : List Op) (number : ℕ) (op : Op) → AllFit tac graph owner ops → slice_get ops number ≡ Some op → OpFits tac graph owner op
fits_at tac owner graph [] number op all at = absurd (none-some op at)
fits_at tac owner graph (first ∷ ops) zero op all at = subst (OpFits tac graph owner) (same_Some first op at) all.0
fits_at tac owner graph (first ∷ ops) (suc number) op all at = fits_at tac owner graph ops number op all.1 at

-- what a point of one of the functions asks
pub settled_asks : (tac : Tac) (graph : Graph) (scopes : List Scope) (at number : ℕ) (scope : Scope) (op : Op) → slice_get scopes at ≡ Some scope → slice_get (points_at tac (owner_at scope.owner)) number ≡ Some op
    → Settled tac (owners_of scopes) graph → IsAsked tac (owner_at scope.owner) op graph
settled_asks tac graph [] at number scope op is found settled = absurd (none-some scope is)
settled_asks tac graph (first ∷ scopes) zero number scope op is found settled =
    asked_at tac (owner_at scope.owner) graph (points_at tac (owner_at scope.owner)) number op
    (subst (λ (x : Scope). AllAsked tac (owner_at x.owner) (points_at tac (owner_at x.owner)) graph) (same_Some first scope is) settled.0) found
settled_asks tac graph (first ∷ scopes) (suc at) number scope op is found settled = settled_asks tac graph scopes at number scope op is found settled.1

-- ---- on the way

module _ (tac : memory_tac.Tac) (scopes : List Scope) (made : AreMade (tac_of tac).structs) where
  pub stays : (graph : Graph) → IsSound (tac_of tac).structs graph → Advances tac scopes graph graph
  stays graph sound = record { goes = goes_same (tac_of tac).structs made graph sound; leads = leads_itself (tac_of tac).structs graph (Settled (tac_of tac) (owners_of scopes)) }

  pub advances_on : (one two three : Graph) → IsSound (tac_of tac).structs one → Advances tac scopes one two → Advances tac scopes two three → Advances tac scopes one three
  advances_on one two three sound first then = record {
    goes = goes_then (tac_of tac).structs made one two three sound first.goes then.goes;
    leads = leads_on (tac_of tac).structs one two three (Settled (tac_of tac) (owners_of scopes)) first.leads then.leads;
  }

  -- by a round
  pub by_round : (changed : Bool) (old new : Graph) → Applies (tac_of tac).structs changed old new (Settled (tac_of tac) (owners_of scopes)) → Advances tac scopes old new
  by_round changed old new its = record { goes = applies_goes (tac_of tac).structs made changed old new (Settled (tac_of tac) (owners_of scopes)) its; leads = its.leads }

  -- by a point
  pub by_point : (at number : ℕ) (scope : Scope) (op : Op) → slice_get scopes at ≡ Some scope → slice_get (points_at (tac_of tac) (owner_at scope.owner)) number ≡ Some op
      → (changed : Bool) (old new : Graph) → Applies (tac_of tac).structs changed old new (IsAsked (tac_of tac) (owner_at scope.owner) op) → Advances tac scopes old new
  by_point at number scope op is found changed old new its = record {
    goes = applies_goes (tac_of tac).structs made changed old new (IsAsked (tac_of tac) (owner_at scope.owner) op) its;
    leads = leads_less (tac_of tac).structs old new (IsAsked (tac_of tac) (owner_at scope.owner) op) (Settled (tac_of tac) (owners_of scopes))
        (λ other settled. settled_asks (tac_of tac) other scopes at number scope op is found settled) its.leads;
  }

  pub fit_on : (old new : Graph) → IsSound (tac_of tac).structs old → Advances tac scopes old new → AreFit tac old scopes → AreFit tac new scopes
  fit_on old new sound its fit = are_kept tac old new its.goes.map made sound its.goes.maps scopes fit
