-- The nodes in which variables outside functions or literals lie, met one after the other.
use Rattle.std.proofs.Common.{◌≡◌, ◌⊎◌, inl, inr, ℕ, Bool, true, false, cond, not, List, [], ◌∷◌, ◌++◌, map, Contains, Bor, Option, Some, None, refl, sym, ap, subst, ◌∙◌, true≢false, arith}
use Rattle.std.specs.Cmp.{nat_eq_equiv}
use Rattle.std.specs.List.{list_any}
use Rattle.std.specs.Map.Iter.{deref_pair}
use Rattle.std.specs.Prelude.{nat_eq}
use Rattle.std.proofs.lemmas.Bool.{eqb-true}
use Rattle.std.proofs.lemmas.List.Elements.{Contains-append_left, Contains-push, Contains-push_cases}
use Rattle.std.proofs.lemmas.Map.Views.{Contains-from_lookup, lookup-from_Contains}
use Rattle.std.proofs.lemmas.Option.{none-some, same_Some}
use Rattle.c_typed.specs.Table.{Interned}
use Rattle.indexmap.specs.IndexMap.{IndexMap, IsUnique, get_by}
use Rattle.indexmap.specs.IndexSet.{insert_key}
use Rattle.indexmap.proofs.CallerLemmas.{Contains-list_any, Contains-insert_key}
use Rattle.heap_graph.specs.declared.graph.Target as memory_target
use Rattle.heap_graph.specs.Graphs.{Target, OfGlobal, OfLiteral}
use Rattle.heap_graph.specs.Memory.{target_of}
use Rattle.heap_graph.specs.Frozen.{bare, optional_target}
use Rattle.heap_graph.specs.declared.frozen.FrozenGraph.{FrozenGraph}
use Rattle.dsa_inlining.specs.declared.told_statics.Statics.{Statics}
use Rattle.dsa_inlining.specs.Seen.{HasListed, SeesNodes}
use Rattle.dsa_inlining.specs.GroupStatics.Listed.{IsRepresented, Represents}

-- ---- a number that is inserted

-- it is among the numbers, which are those that were and itself
pub inserted_cases : (numbers : List ℕ) (new number : ℕ) → Contains (insert_key nat_eq numbers new) number → Contains numbers number ⊎ (new ≡ number)
inserted_cases numbers new number has = by (list_any (nat_eq new) numbers) has
  where
    by : (test : Bool) → Contains (cond test numbers (numbers ++ new ∷ [])) number → Contains numbers number ⊎ (new ≡ number)
    by true has = inl has
    by false has = Contains-push_cases numbers new number has

inserted_kept : (numbers : List ℕ) (new number : ℕ) → Contains numbers number → Contains (insert_key nat_eq numbers new) number
inserted_kept numbers new number has = by (list_any (nat_eq new) numbers)
  where
    by : (test : Bool) → Contains (cond test numbers (numbers ++ new ∷ [])) number
    by true = has
    by false = Contains-append_left numbers (new ∷ []) number has

-- one that isn't new is among them
pub seen_before : (numbers : List ℕ) (number : ℕ) (is_new : Bool) → is_new ≡ not (list_any (nat_eq number) numbers) → is_new ≡ false → Contains numbers number
seen_before numbers number is_new tells old = Contains-list_any nat_eq eqb-true numbers number (by (list_any (nat_eq number) numbers) (sym tells ∙ old))
  where
    by : (test : Bool) → not test ≡ false → test ≡ true
    by true e = refl
    by false e = absurd (true≢false e)

-- ---- entries, one after the other

-- an entry with a listed number leads to the node
pub record HasEntry (entries : List (ℕ × memory_target.Target)) (numbers : List ℕ) (node : ℕ) : Type 0 where
  pub number : ℕ
  pub among : Contains numbers number
  pub target : memory_target.Target
  pub entry : Contains entries (number, target)
  pub there : target.node ≡ node

-- the nodes of entries are seen, and in each that wasn't seen before lies one of the list
pub record SeesEntries (entries : List (ℕ × memory_target.Target)) (before after numbers : List ℕ) : Type 0 where
  pub seen : (number : ℕ) (target : memory_target.Target) → Contains entries (number, target) → Contains after target.node
  pub first : (node : ℕ) → Contains after node → Contains before node ⊎ HasEntry entries numbers node

pub none_contained : {X : Type 0} (x : X) → Contains [] x → ⊥
none_contained x has = let less = has.1 in omega (arith, less)

pub none_seen : (before : List ℕ) → SeesEntries [] before before []
none_seen before = record { seen = λ number target has. absurd (none_contained (number, target) has); first = λ node has. inl has }

-- the node of the next is seen now, where it wasn't before its number is listed
pub more_seen : (entries : List (ℕ × memory_target.Target)) (before after numbers more_numbers more : List ℕ) (number : ℕ) (target : memory_target.Target) → SeesEntries entries before after numbers
    → more ≡ insert_key nat_eq after target.node → ((other : ℕ) → Contains numbers other → Contains more_numbers other) → Contains after target.node ⊎ Contains more_numbers number
    → SeesEntries (entries ++ (number, target) ∷ []) before more more_numbers
more_seen entries before after numbers more_numbers more number target its more_is kept new = record {
  seen = λ other at has. subst (λ l. Contains l at.node) (sym more_is) (seen_now other at (Contains-push_cases entries (number, target) (other, at) has));
  first = λ node has. first_now node (inserted_cases after target.node node (subst (λ l. Contains l node) more_is has));
}
  where
    entry : ℕ × memory_target.Target
    entry = (number, target)

    seen_now : (other : ℕ) (at : memory_target.Target) → Contains entries (other, at) ⊎ (entry ≡ (other, at)) → Contains (insert_key nat_eq after target.node) at.node
    seen_now other at (inl has) = inserted_kept after target.node at.node (its.seen other at has)
    seen_now other at (inr same) =
        subst (λ (e : ℕ × memory_target.Target). Contains (insert_key nat_eq after target.node) e.1.node) same (Contains-insert_key nat_eq eqb-true after target.node)

    still : (node : ℕ) → Contains before node ⊎ HasEntry entries numbers node → Contains before node ⊎ HasEntry (entries ++ (number, target) ∷ []) more_numbers node
    still node (inl has) = inl has
    still node (inr one) = inr (record {
      number = one.number;
      among = kept one.number one.among;
      target = one.target;
      entry = Contains-append_left entries ((number, target) ∷ []) (one.number, one.target) one.entry;
      there = one.there;
    })

    this : (node : ℕ) → target.node ≡ node → Contains after target.node ⊎ Contains more_numbers number → Contains before node ⊎ HasEntry (entries ++ (number, target) ∷ []) more_numbers node
    this node same (inl has) = still node (its.first node (subst (Contains after) same has))
    this node same (inr listed) = inr (record { number = number; among = listed; target = target; entry = Contains-push entries (number, target); there = same })

    first_now : (node : ℕ) → Contains after node ⊎ (target.node ≡ node) → Contains before node ⊎ HasEntry (entries ++ (number, target) ∷ []) more_numbers node
    first_now node (inl has) = still node (its.first node has)
    first_now node (inr same) = this node same new

-- an iterator's entries are seen as what they lead to
pub entries_push : (entries : List (Bor ℕ × Bor memory_target.Target)) (entry : Bor ℕ × Bor memory_target.Target)
    → map deref_pair (entries ++ entry ∷ []) ≡ map deref_pair entries ++ (entry.0.now, entry.1.now) ∷ []
entries_push [] entry = refl
entries_push (first ∷ entries) entry = ap (λ l. deref_pair first ∷ l) (entries_push entries entry)

-- where all entries were met, all targets were
module _ {S : Type 0} (targets : IndexMap ℕ memory_target.Target S) where
  pub all_seen : (before after numbers : List ℕ) → IsUnique nat_eq targets → SeesEntries targets.entries before after numbers → SeesNodes targets before after numbers
  all_seen before after numbers unique its = record {
    seen = λ number target is. found number target (get_by (nat_eq number) targets) refl is;
    first = λ node has. listed node (its.first node has);
  }
    where
      found : (number : ℕ) (target : Target) (o : Option memory_target.Target) → get_by (nat_eq number) targets ≡ o → optional_target (get_by (nat_eq number) targets) ≡ Some target → Contains after target.node
      found number target None none is = absurd (none-some target (sym (ap optional_target none) ∙ is))
      found number target (Some value) there is =
          let same : target_of value ≡ target = same_Some (target_of value) target (sym (ap optional_target there) ∙ is) in
          subst (λ (t : Target). Contains after t.node) same (its.seen number value (Contains-from_lookup {eq = nat_eq} eqb-true number value targets.entries there))

      listed : (node : ℕ) → Contains before node ⊎ HasEntry targets.entries numbers node → Contains before node ⊎ HasListed targets numbers node
      listed node (inl has) = inl has
      listed node (inr one) = inr (record {
        number = one.number;
        among = one.among;
        target = target_of one.target;
        is = ap optional_target (lookup-from_Contains {eq = nat_eq} nat_eq_equiv one.number one.target targets.entries unique one.entry);
        there = one.there;
      })

-- ---- a graph

-- variables outside functions first, then literals
pub both_seen : (table : Interned) (graph : FrozenGraph) (made : Statics) (before middle after : List ℕ) → before ≡ [] → SeesNodes graph.globals before middle made.globals.items
    → SeesNodes graph.literals middle after made.literals.items → Represents made (bare table graph)
both_seen table graph made before middle after empty globals literals = record {
  globals = λ number target is. of_global target.node (globals.seen number target is);
  literals = λ number target is. of_literal target.node (literals.first target.node (literals.seen number target is));
}
  where
    by : (node : ℕ) → Contains before node ⊎ HasListed graph.globals made.globals.items node → IsRepresented made (bare table graph) node
    by node (inl has) = absurd (none_contained node (subst (λ l. Contains l node) empty has))
    by node (inr one) = record { name = OfGlobal one.number; listed = one.among; target = one.target; is = one.is; node = one.there }

    of_global : (node : ℕ) → Contains middle node → IsRepresented made (bare table graph) node
    of_global node has = by node (globals.first node has)

    of_literal : (node : ℕ) → Contains middle node ⊎ HasListed graph.literals made.literals.items node → IsRepresented made (bare table graph) node
    of_literal node (inl has) = of_global node has
    of_literal node (inr one) = record { name = OfLiteral one.number; listed = one.among; target = one.target; is = one.is; node = one.there }
