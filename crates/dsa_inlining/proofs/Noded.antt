-- Nodes that get copies, one after another.
use Rattle.std.proofs.Common.{◌≡◌, ℕ, ◌+◌, ◌<◌, ◌≤◌, Bool, true, false, eqb, List, length, get_or, Contains, Option, Some, None, refl, sym, ap, subst, ◌∙◌, ◌⊎◌, inl, inr, arith}
use Rattle.std.proofs.lemmas.Bool.{cases_eq, cases_lt}
use Rattle.std.proofs.lemmas.Option.{none-some, same_Some}
use Rattle.c_typed.specs.Layouts.{StructDef}
use Rattle.heap_graph.specs.Structures.{AreMade}
use Rattle.heap_graph.specs.Graphs.{Target, Node, Name, Graph, node_at, OfCopy}
use Rattle.heap_graph.specs.Targets.{has_target, is_collapsed, implies, marks_kept, element_kept}
use Rattle.heap_graph.specs.Merging.{IsSound, GraphMap, Maps}
use Rattle.heap_graph.proofs.MapsCompose.{at_from}
use Rattle.heap_graph.proofs.StepsCompose.{kept_itself, flags_itself}
use Rattle.graph_unification.specs.Adding.{AddsName, Added, NameFits}
use Rattle.graph_unification.proofs.OneName.{adds_leads}
use Rattle.graph_unification.specs.Going.{GoesOn}
use Rattle.dsa_inlining.specs.Copied.{copied, NodesCopied}
use Rattle.dsa_inlining.specs.Adding.{AreFree, AreNumbered, NamesStay}
use Rattle.dsa_inlining.specs.Steps.{GetsCopy, Stays, Gets, NodesAdded}
use Rattle.graph_unification.proofs.Goes.{goes_same, goes_then, missing_goes}
use Rattle.dsa_inlining.proofs.Carried.{nodes_kept}

-- ---- numbers

abbrev number_of : Name → ℕ
number_of (OfCopy copy) = copy
number_of name = 0

same_copy : (a b : ℕ) → OfCopy a ≡ OfCopy b → a ≡ b
same_copy a b same = ap number_of same

-- copies with numbers from the one on and below the other, for the first nodes of a list
pub record AreFirst (callee : Graph) (nodes : List ℕ) (count : ℕ) (copies : ℕ → Option ℕ) (first next : ℕ) : Type 0 where
  pub all : (index number : ℕ) (node : Node) → index < count → get_or nodes index number ≡ number → node_at callee number ≡ Some node → (copy : ℕ) × (copies number ≡ Some copy)
  pub only : (number copy : ℕ) → copies number ≡ Some copy → Contains nodes number × ((node : Node) × (node_at callee number ≡ Some node))
  pub within : (number copy : ℕ) → copies number ≡ Some copy → (first ≤ copy) × (copy < next)
  pub apart : (a b copy : ℕ) → copies a ≡ Some copy → copies b ≡ Some copy → a ≡ b
  pub each : (copy : ℕ) → first ≤ copy → copy < next → (number : ℕ) × (copies number ≡ Some copy)
  pub past : first ≤ next

pub first_none : (callee : Graph) (nodes : List ℕ) (copies : ℕ → Option ℕ) (first : ℕ) → ((number : ℕ) → copies number ≡ None) → AreFirst callee nodes 0 copies first first
first_none callee nodes copies first none = record {
  all = λ index number node less is there. absurd (omega (arith, less));
  only = λ number copy is. absurd (none-some copy (sym (none number) ∙ is));
  within = λ number copy is. absurd (none-some copy (sym (none number) ∙ is));
  apart = λ a b copy is also. absurd (none-some copy (sym (none a) ∙ is));
  each = λ copy from below. absurd (omega (arith, from, below));
  past = omega arith;
}

pub first_all : (callee : Graph) (nodes : List ℕ) (count : ℕ) (copies : ℕ → Option ℕ) (first next : ℕ) → length nodes ≤ count → AreFirst callee nodes count copies first next
    → AreNumbered callee nodes copies first next
first_all callee nodes count copies first next long its = record {
  all = λ number node has is. its.all has.0 number node (omega (arith, long, has.1)) has.2 is;
  only = its.only;
  within = its.within;
  apart = its.apart;
  each = its.each;
}

module _ (callee : Graph) (nodes : List ℕ) (count first : ℕ) where
  -- the next node has a copy already, or isn't there
  stays : (before after : ℕ → Option ℕ) (number next last : ℕ) → ((other : ℕ) → after other ≡ before other) → last ≡ next → ((node : Node) → node_at callee number ≡ Some node → (copy : ℕ) × (before number ≡ Some copy))
      → ((index : ℕ) (other : ℕ) → index ≡ count → get_or nodes index other ≡ other → other ≡ number) → AreFirst callee nodes count before first next → AreFirst callee nodes (count + 1) after first last
  stays before after number next last same end has it its = record {
    all = λ index other node less at is. by index other node at is (cases_lt index count) less;
    only = λ other copy is. its.only other copy (sym (same other) ∙ is);
    within = λ other copy is. let w = its.within other copy (sym (same other) ∙ is) in (w.0, subst (λ n. copy < n) (sym end) w.1);
    apart = λ a b copy is also. its.apart a b copy (sym (same a) ∙ is) (sym (same b) ∙ also);
    each = λ copy from below. let e = its.each copy from (subst (λ n. copy < n) end below) in (e.0, same e.0 ∙ e.1);
    past = subst (λ n. first ≤ n) (sym end) its.past;
  }
    where
      by : (index other : ℕ) (node : Node) → get_or nodes index other ≡ other → node_at callee other ≡ Some node → (index < count) ⊎ (count ≤ index) → index < count + 1 → (copy : ℕ) × (after other ≡ Some copy)
      by index other node at is (inl lt) less = let c = its.all index other node lt at is in (c.0, same other ∙ c.1)
      by index other node at is (inr le) less =
          let own : other ≡ number = it index other (omega (arith, le, less)) at in
          let c = has node (sym (ap (node_at callee) own) ∙ is) in
          (c.0, same other ∙ ap before own ∙ c.1)

  -- it gets one
  gets : (before after : ℕ → Option ℕ) (number next last : ℕ) (own : Node) → node_at callee number ≡ Some own → before number ≡ None → after number ≡ Some next
      → ((other : ℕ) → (other ≡ number → ⊥) → after other ≡ before other) → last ≡ next + 1 → Contains nodes number
      → ((index : ℕ) (other : ℕ) → index ≡ count → get_or nodes index other ≡ other → other ≡ number) → AreFirst callee nodes count before first next → AreFirst callee nodes (count + 1) after first last
  gets before after number next last own there none now others end among it its = record {
    all = λ index other node less at is. all index other node at is (cases_lt index count) less;
    only = λ other copy is. only other copy is (cases_eq other number);
    within = λ other copy is. within other copy is (cases_eq other number);
    apart = λ a b copy is also. apart a b copy is also (cases_eq a number) (cases_eq b number);
    each = λ copy from below. each copy from below (cases_eq copy next);
    past = omega (arith, its.past, end);
  }
    where
      was : (other copy : ℕ) → (other ≡ number → ⊥) → after other ≡ Some copy → before other ≡ Some copy
      was other copy differs is = sym (others other differs) ∙ is

      is_next : (other copy : ℕ) → other ≡ number → after other ≡ Some copy → copy ≡ next
      is_next other copy same is = same_Some copy next (sym is ∙ ap after same ∙ now)

      kept : (other copy : ℕ) → before other ≡ Some copy → after other ≡ Some copy
      kept other copy is = others other (λ same. none-some copy (sym none ∙ sym (ap before same) ∙ is)) ∙ is

      all : (index other : ℕ) (node : Node) → get_or nodes index other ≡ other → node_at callee other ≡ Some node → (index < count) ⊎ (count ≤ index) → index < count + 1 → (copy : ℕ) × (after other ≡ Some copy)
      all index other node at is (inl lt) less = let c = its.all index other node lt at is in (c.0, kept other c.0 c.1)
      all index other node at is (inr le) less = (next, ap after (it index other (omega (arith, le, less)) at) ∙ now)

      only : (other copy : ℕ) → after other ≡ Some copy → (other ≡ number) ⊎ (other ≡ number → ⊥) → Contains nodes other × ((node : Node) × (node_at callee other ≡ Some node))
      only other copy is (inl same) = (subst (λ n. Contains nodes n) (sym same) among, (own, ap (node_at callee) same ∙ there))
      only other copy is (inr differs) = its.only other copy (was other copy differs is)

      within : (other copy : ℕ) → after other ≡ Some copy → (other ≡ number) ⊎ (other ≡ number → ⊥) → (first ≤ copy) × (copy < last)
      within other copy is (inl same) = let e = is_next other copy same is in (omega (arith, its.past, e), omega (arith, e, end))
      within other copy is (inr differs) = let w = its.within other copy (was other copy differs is) in (w.0, omega (arith, w.1, end))

      apart : (a b copy : ℕ) → after a ≡ Some copy → after b ≡ Some copy → (a ≡ number) ⊎ (a ≡ number → ⊥) → (b ≡ number) ⊎ (b ≡ number → ⊥) → a ≡ b
      apart a b copy is also (inl one) (inl two) = one ∙ sym two
      apart a b copy is also (inl one) (inr two) = let e = is_next a copy one is in let w = its.within b copy (was b copy two also) in absurd (omega (arith, e, w.1))
      apart a b copy is also (inr one) (inl two) = let e = is_next b copy two also in let w = its.within a copy (was a copy one is) in absurd (omega (arith, e, w.1))
      apart a b copy is also (inr one) (inr two) = its.apart a b copy (was a copy one is) (was b copy two also)

      each : (copy : ℕ) → first ≤ copy → copy < last → (copy ≡ next) ⊎ (copy ≡ next → ⊥) → (other : ℕ) × (after other ≡ Some copy)
      each copy from below (inl same) = (number, now ∙ ap Some (sym same))
      each copy from below (inr differs) = let e = its.each copy from (less_of copy next last below end differs) in (e.0, kept e.0 copy e.1)
        where
          less_of : (a b c : ℕ) → a < c → c ≡ b + 1 → (a ≡ b → ⊥) → a < b
          less_of a b c lt e differs = elim (cases_lt a b) [ inl h ↦ h | inr h ↦ absurd (differs (omega (arith, h, lt, e))) ]

  pub first_more : (old new : Graph) (before after : ℕ → Option ℕ) (number next last : ℕ) → GetsCopy old new callee before after number next last → Contains nodes number
      → ((index : ℕ) (other : ℕ) → index ≡ count → get_or nodes index other ≡ other → other ≡ number) → AreFirst callee nodes count before first next → AreFirst callee nodes (count + 1) after first last
  first_more old new before after number next last (Stays graph same end has) among it its = stays before after number next last same end has it its
  first_more old new before after number next last (Gets node there none now others end adds) among it its = gets before after number next last node there none now others end among it its

-- ---- graphs

module _ (structs : List StructDef) (made : AreMade structs) (callee : Graph) where
  pub added_none : (graph : Graph) (copies : ℕ → Option ℕ) (first : ℕ) → IsSound structs graph → ((number : ℕ) → copies number ≡ None) → AreFree graph first → NodesAdded structs graph graph callee copies first first
  added_none graph copies first sound none free = record {
    goes = goes_same structs made graph sound;
    names = λ name differs. refl;
    free = free;
    copied = λ number copy node is there. absurd (none-some copy (sym (none number) ∙ is));
    leads = λ other into maps its. (into, maps);
  }

  -- a name that got a node fits it
  own_fits : (old new : Graph) (name : Name) (node : Node) → AddsName old new name node → NameFits structs new name node
  own_fits old new name node adds =
      let at : Target = record { node = adds.number; shift = 0 } in
      record {
        target = at;
        is = adds.target;
        slot = at_from new at (λ own shift. implies (is_collapsed own.element) (eqb shift 0)) node adds.at (first_slot (is_collapsed node.element));
        element = at_from new at (element_kept structs node.element) node adds.at (kept_itself structs made node.element node.flags node.edges);
        flags = at_from new at (λ image shift. marks_kept node.flags image.flags) node adds.at (flags_itself node.flags);
      }
    where
      first_slot : (c : Bool) → implies c true ≡ true
      first_slot true = refl
      first_slot false = refl

  added_same : (old middle new : Graph) (before after : ℕ → Option ℕ) (first next last : ℕ) → new ≡ middle → ((other : ℕ) → after other ≡ before other) → last ≡ next
      → NodesAdded structs old middle callee before first next → NodesAdded structs old new callee after first last
  added_same old middle new before after first next last graph same end its =
      subst (λ (g : Graph). NodesAdded structs old g callee after first last) (sym graph)
      (record {
        goes = its.goes;
        names = its.names;
        free = subst (AreFree middle) (sym end) its.free;
        copied = λ number copy node is there. its.copied number copy node (sym (same number) ∙ is) there;
        leads = λ other into maps copied. its.leads other into maps (λ number copy node is there. copied number copy node (same number ∙ is) there);
      })

  module _ (old middle new : Graph) (before after : ℕ → Option ℕ) (number first next last : ℕ) (own : Node) (there : node_at callee number ≡ Some own) (none : before number ≡ None) (now : after number ≡ Some next)
      (others : (other : ℕ) → (other ≡ number → ⊥) → after other ≡ before other) (end : last ≡ next + 1) (past : first ≤ next) (adds : AddsName middle new (OfCopy next) (copied own))
      (start : IsSound structs old) (sound : IsSound structs middle) (its : NodesAdded structs old middle callee before first next) where
    goes : GoesOn structs middle new
    goes = missing_goes structs made middle new (OfCopy next) (copied own) sound (Added adds)

    kept : (other copy : ℕ) → before other ≡ Some copy → after other ≡ Some copy
    kept other copy is = others other (λ same. none-some copy (sym none ∙ sym (ap before same) ∙ is)) ∙ is

    names : NamesStay old new first
    names name differs = ap has_target (adds.names name (differs next past)) ∙ its.names name differs

    free : AreFree new last
    free copy from = adds.names (OfCopy copy) (λ same. by copy from (same_copy copy next same)) ∙ its.free copy (omega (arith, from, end))
      where
        by : (copy : ℕ) → last ≤ copy → copy ≡ next → ⊥
        by copy from same = omega (arith, from, end, same)

    fits : NodesCopied structs new callee after
    fits other copy node is at = by (cases_eq other number)
      where
        by : (other ≡ number) ⊎ (other ≡ number → ⊥) → NameFits structs new (OfCopy copy) (copied node)
        by (inl same) =
            let one : node ≡ own = same_Some node own (sym at ∙ ap (node_at callee) same ∙ there) in
            let two : copy ≡ next = same_Some copy next (sym is ∙ ap after same ∙ now) in
            subst (λ (n : Node). NameFits structs new (OfCopy copy) (copied n)) (sym one) (subst (λ k. NameFits structs new (OfCopy k) (copied own)) (sym two) (own_fits middle new (OfCopy next) (copied own) adds))
        by (inr differs) = nodes_kept structs made middle new callee before sound goes its.copied other copy node (sym (others other differs) ∙ is) at

    leads : (other : Graph) (into : GraphMap) → Maps structs old other into → NodesCopied structs other callee after → (rest : GraphMap) × Maps structs new other rest
    leads other into maps copied_there =
        let rest = its.leads other into maps (λ n copy node is at. copied_there n copy node (kept n copy is) at) in
        let more = adds_leads structs middle new (OfCopy next) (copied own) adds other rest.0 rest.1 (copied_there number next own now there) in
        (more.0, more.1)

    added_one : NodesAdded structs old new callee after first last
    added_one = record { goes = goes_then structs made old middle new start its.goes goes; names = names; free = free; copied = fits; leads = leads }

  pub added_more : (old middle new : Graph) (before after : ℕ → Option ℕ) (number first next last : ℕ) → first ≤ next → IsSound structs old → IsSound structs middle
      → GetsCopy middle new callee before after number next last → NodesAdded structs old middle callee before first next → NodesAdded structs old new callee after first last
  added_more old middle new before after number first next last past start sound (Stays graph same end has) its = added_same old middle new before after first next last graph same end its
  added_more old middle new before after number first next last past start sound (Gets node there none now others end adds) its =
      added_one old middle new before after number first next last node there none now others end past adds start sound its
