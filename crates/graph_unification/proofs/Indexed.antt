-- A list of nodes of which one is changed.
use Rattle.std.proofs.Common.{◌≡◌, ℕ, zero, suc, ◌+◌, ◌-◌, ◌^◌, ◌<◌, ◌≤◌, min, eqb, ◌++◌, map, List, [], ◌∷◌, length, drop, get_or, Option, Some, None, refl, sym, ap, subst, ◌∙◌, arith, get_or-set_same}
use Rattle.std.specs.Prelude.{slice_get, ◌==◌, if◌then◌else◌, Result, Ok, Err, OnOk}
use Rattle.std.specs.Result.{is_ok}
use Rattle.std.proofs.Math.Seq.{drop-cons}
use Rattle.std.proofs.lemmas.Bool.{cond-true, cond-false, eq-eqb, ne_eqb}
use Rattle.std.proofs.Math.ListN.{set}
use Rattle.std.proofs.lemmas.List.{length-set}
use Rattle.std.proofs.lemmas.Option.{none-some, same_Some, slice_get-get_or, slice_get_within}
use Rattle.graph_unification.specs.declared.ask.Ask as memory_ask
use Rattle.graph_unification.specs.declared.ask.Ask.TheVariants as A
use Rattle.graph_unification.specs.declared.node.SlotEdge.{SlotEdge}
use Rattle.graph_unification.specs.declared.node.Node as memory_node
use Rattle.graph_unification.specs.declared.nodes.Nodes.{Nodes}
use Rattle.graph_unification.specs.Memory.{made_edge}
use Rattle.graph_unification.specs.Turns.{ChangesAt, AddsCell, AsksEdges, More, asked_again}

get_set_other : {A : Type 0} (xs : List A) (n m : ℕ) (a : A) → (m ≡ n → ⊥) → slice_get (set xs n a) m ≡ slice_get xs m
get_set_other [] n m a differ = refl
get_set_other (x ∷ xs) zero zero a differ = absurd (differ refl)
get_set_other (x ∷ xs) zero (suc m) a differ = refl
get_set_other (x ∷ xs) (suc n) zero a differ = refl
get_set_other (x ∷ xs) (suc n) (suc m) a differ = get_set_other xs n m a (λ e. differ (ap suc e))

pub set_changes : (old : List (Option memory_node.Node)) (n : ℕ) (before after : Option memory_node.Node) → n < length old → before ≡ get_or old n before → ChangesAt old (set old n after) n before after
set_changes old n before after lt is = record {
  was = slice_get-get_or old n before lt ∙ ap Some (sym is);
  now = slice_get-get_or (set old n after) n after (let same = length-set old n after in omega (arith, lt, same)) ∙ ap Some (get_or-set_same old n after after lt);
  others = λ m differ. get_set_other old n m after differ;
  length = length-set old n after;
}

-- a node that is there becomes another
pub changes_held : (old : List (Option memory_node.Node)) (n : ℕ) (before after : memory_node.Node) → n < length old → slice_get old n ≡ Some (Some before) → ChangesAt old (set old n (Some after)) n (Some before) (Some after)
changes_held old n before after lt at =
    set_changes old n (Some before) (Some after) lt (same_Some (Some before) (get_or old n (Some before)) (sym at ∙ slice_get-get_or old n (Some before) lt))

-- what indexing gave is what is there
pub same_item : (old : List (Option memory_node.Node)) (n : ℕ) (x : Option memory_node.Node) (before : memory_node.Node) → n < length old → x ≡ get_or old n x → slice_get old n ≡ Some (Some before) → x ≡ Some before
same_item old n x before lt is at = same_Some x (Some before) (ap Some is ∙ sym (slice_get-get_or old n x lt) ∙ at)

pub same_before : (old : List (Option memory_node.Node)) (n : ℕ) (x : Option memory_node.Node) (node before : memory_node.Node) → n < length old → x ≡ get_or old n x → x ≡ Some node → slice_get old n ≡ Some (Some before) → node ≡ before
same_before old n x node before lt is some at = same_Some node before (sym some ∙ same_item old n x before lt is at)

pub not_gone : (old : List (Option memory_node.Node)) (n : ℕ) (x : Option memory_node.Node) (before : memory_node.Node) → n < length old → x ≡ get_or old n x → x ≡ None → slice_get old n ≡ Some (Some before) → ⊥
not_gone old n x before lt is none at = none-some before (sym none ∙ same_item old n x before lt is at)

-- the item that indexing gave
pub item_there : (old : List (Option memory_node.Node)) (n : ℕ) (x : Option memory_node.Node) → n < length old → x ≡ get_or old n x → slice_get old n ≡ Some x
item_there old n x lt is = slice_get-get_or old n x lt ∙ ap Some (sym is)

-- a node is taken out of its place
pub part_goes : (old : List (Option memory_node.Node)) (n : ℕ) (x rest : Option memory_node.Node) (node : memory_node.Node) → n < length old → x ≡ get_or old n x → x ≡ Some node → rest ≡ None → ChangesAt old (set old n rest) n (Some node) None
part_goes old n x rest node lt is some none =
    subst (λ r. ChangesAt old (set old n rest) n (Some node) r) none (set_changes old n (Some node) rest lt (subst (λ y. y ≡ get_or old n y) some is))

pub within_set : (old : List (Option memory_node.Node)) (n m : ℕ) (rest : Option memory_node.Node) (node : memory_node.Node) → slice_get old m ≡ Some (Some node) → m < length (set old n rest)
within_set old n m rest node at = let lt = slice_get_within old m (Some node) at in let same = length-set old n rest in omega (arith, lt, same)

-- what was appended, where it was
pub extended : {A T E : Type 0} (r : Result T E) (new both old : List A) → new ≡ (if is_ok r then both else old) → OnOk r (new ≡ both)
extended (Ok x) new both old e = e
extended (Err x) new both old e = tt

pub drop_length : {A : Type 0} (xs : List A) → drop (length xs) xs ≡ []
drop_length [] = refl
drop_length (x ∷ xs) = drop_length xs

-- one edge more is asked again
pub again : (node : ℕ) (edges : List SlotEdge) (left : ℕ) (d : SlotEdge) (old now : List memory_ask.Ask) → 0 < left → left ≤ length edges → now ≡ map (asked_again node) (drop left edges) ++ old
    → asked_again node (get_or edges (left - 1) d) ∷ now ≡ map (asked_again node) (drop (left - 1) edges) ++ old
again node edges left d old now some fits is =
    let next : suc (left - 1) ≡ left = omega (arith, some) in
    ap (λ w. asked_again node (get_or edges (left - 1) d) ∷ w) is
    ∙ ap (λ k. map (asked_again node) (get_or edges (left - 1) d ∷ drop k edges) ++ old) (sym next)
    ∙ ap (λ l. map (asked_again node) l ++ old) (sym (drop-cons edges (left - 1) d (omega (arith, some, fits))))

-- one edge more is asked at a new cell
pub asks_more : (node distance : ℕ) (old middle new : Nodes) (before asks after : List memory_ask.Ask) (edges : List SlotEdge) (left : ℕ) (d : SlotEdge) (at shift : ℕ) → 0 < left → left ≤ length edges
    → AsksEdges node distance old before (drop left edges) middle asks → shift ≡ min ((get_or edges (left - 1) d).slot + distance) (2 ^ 64 - 1) → AddsCell middle new at (record { node = node; shift = shift })
    → after ≡ A.Points at (get_or edges (left - 1) d).to ∷ asks → AsksEdges node distance old before (drop (left - 1) edges) new after
asks_more node distance old middle new before asks after edges left d at shift some fits rest sum adds is =
    let next : suc (left - 1) ≡ left = omega (arith, some) in
    subst (λ l. AsksEdges node distance old before l new after) (sym (drop-cons edges (left - 1) d (omega (arith, some, fits))))
    (subst (λ w. AsksEdges node distance old before (get_or edges (left - 1) d ∷ drop (suc (left - 1)) edges) new w) (sym is)
    (More (get_or edges (left - 1) d) (drop (suc (left - 1)) edges) middle new asks at
    (subst (λ k. AsksEdges node distance old before (drop k edges) middle asks) (sym next) rest)
    (subst (λ s. AddsCell middle new at (record { node = node; shift = s })) sum adds)))

-- the edge of a slot is among those that are left
pub made_left : (edges : List SlotEdge) (slot n : ℕ) (d : SlotEdge) → n < length edges → made_edge (drop n edges) slot ≡ (if (get_or edges n d).slot == slot then Some (get_or edges n d).to else made_edge (drop (n + 1) edges) slot)
made_left edges slot n d lt =
    let next : suc n ≡ n + 1 = omega arith in
    ap (λ l. made_edge l slot) (drop-cons edges n d lt) ∙ ap (λ k. made_edge (get_or edges n d ∷ drop k edges) slot) next

pub made_here : (edges : List SlotEdge) (slot n : ℕ) (d : SlotEdge) → n < length edges → (get_or edges n d).slot ≡ slot → made_edge (drop n edges) slot ≡ Some (get_or edges n d).to
made_here edges slot n d lt e =
    made_left edges slot n d lt
    ∙ cond-true (eqb (get_or edges n d).slot slot) (Some (get_or edges n d).to) (made_edge (drop (n + 1) edges) slot) (eq-eqb (get_or edges n d).slot slot e)

pub made_later : (edges : List SlotEdge) (slot n : ℕ) (d : SlotEdge) → n < length edges → ((get_or edges n d).slot ≡ slot → ⊥) → made_edge (drop n edges) slot ≡ made_edge (drop (n + 1) edges) slot
made_later edges slot n d lt differ =
    made_left edges slot n d lt
    ∙ cond-false (eqb (get_or edges n d).slot slot) (Some (get_or edges n d).to) (made_edge (drop (n + 1) edges) slot) (ne_eqb (get_or edges n d).slot slot differ)
