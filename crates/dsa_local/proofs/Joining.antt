-- Graphs that go on to ones in which something holds.
use Rattle.std.proofs.Common.{◌≡◌, ℕ, ◌+◌, ◌<◌, Bool, true, false, List, Some, sym, ap, subst, ◌∙◌, arith, below_more}
use Rattle.std.specs.Prelude.{slice_get}
use Rattle.std.proofs.lemmas.Option.{same_Some}
use Rattle.c_typed.specs.Layouts.{StructDef}
use Rattle.heap_graph.specs.Structures.{AreMade}
use Rattle.heap_graph.specs.Graphs.{Target, Name, Graph}
use Rattle.heap_graph.specs.Targets.{has_target, at_target, element_kept}
use Rattle.heap_graph.specs.Merging.{IsSound, GraphMap, mapped, Maps, AreOne}
use Rattle.heap_graph.proofs.MapsCompose.{at_there, at_from, mapped_there, target_in}
use Rattle.heap_graph.specs.Asks.{is_certain}
use Rattle.heap_graph.proofs.Certain.{certain_some, target_of_certain}
use Rattle.graph_unification.specs.declared.marks.Mark.TheVariants as M
use Rattle.graph_unification.specs.Asked.{has_mark, HasMark}
use Rattle.graph_unification.specs.Leading.{Least}
use Rattle.graph_unification.proofs.Going.{leads_itself, leads_on, leads_less, leads_least}
use Rattle.graph_unification.specs.Applying.{IsMarked}
use Rattle.graph_unification.proofs.Staying.{certain_kept}
use Rattle.graph_unification.proofs.NamedSteps.{marked_at}
use Rattle.graph_unification.specs.Going.{GoesOn}
use Rattle.graph_unification.proofs.Goes.{goes_same, goes_then, least_goes}
use Rattle.dsa_local.specs.Joined.{HaveOne, IsPassed, Joins}

-- what is kept where a graph goes on
abbrev pub Keeps : List StructDef → (Graph → Type 0) → Type 0
Keeps structs told = (old new : Graph) → IsSound structs old → GoesOn structs old new → told old → told new

abbrev pub IsCertain : Name → Graph → Type 0
IsCertain name graph = is_certain graph (graph.targets name) ≡ true

-- what holds of each number below
abbrev pub Below : (ℕ → Graph → Type 0) → ℕ → Graph → Type 0
Below P count graph = (number : ℕ) → number < count → P number graph

-- what holds of the item of a number
abbrev pub AtEach : {X : Type 0} → (X → Graph → Type 0) → List X → ℕ → Graph → Type 0
AtEach P xs number graph = (x : _) → slice_get xs number ≡ Some x → P x graph

module _ (structs : List StructDef) (old new : Graph) (map : GraphMap) (maps : Maps structs old new map) (sound : IsSound structs old) where
  -- a target of a name has an image
  pub image_of : (name : Name) (target : Target) → old.targets name ≡ Some target → (image : Target) × (mapped new map target ≡ Some image)
  image_of name target is =
      let slot = sound.names name target is in
      let there = at_there new (map target.node) (element_kept structs slot.node.element) (maps.elements target.node slot.node slot.is) in
      (target_in map target there.node, mapped_there new map target there.node there.is)

  pub mapped_one : (a b : Name) (x y : Target) → old.targets a ≡ Some x → old.targets b ≡ Some y → mapped new map x ≡ mapped new map y → HaveOne a b new
  mapped_one a b x y at_a at_b same =
      let image = image_of a x at_a in
      record { target = image.0; first = maps.names a x at_a ∙ image.1; second = maps.names b y at_b ∙ (sym same ∙ image.1) }

-- ---- what is kept

module _ (structs : List StructDef) (made : AreMade structs) where
  pub one_kept : (a b : Name) → Keeps structs (HaveOne a b)
  one_kept a b old new sound goes one =
      mapped_one structs old new goes.map goes.maps sound a b one.target one.target one.first one.second (λ i. mapped new goes.map one.target)

  pub certainty_kept : (name : Name) → Keeps structs (IsCertain name)
  certainty_kept name old new sound goes is = certain_kept structs made old new goes.map sound goes.maps name is

  pub passed_kept : (argument formal : Name) → Keeps structs (IsPassed argument formal)
  passed_kept argument formal old new sound goes is = record {
    certain = certainty_kept argument old new sound goes is.certain;
    one = one_kept argument formal old new sound goes is.one;
  }

  -- ---- one change after the other

  pub joins_same : (graph : Graph) → IsSound structs graph → (wanted : Graph → Type 0) → wanted graph → Joins structs graph graph wanted
  joins_same graph sound wanted holds = record { goes = goes_same structs made graph sound; leads = leads_itself structs graph wanted; joined = holds }

  pub joins_then : (one two three : Graph) → IsSound structs one → IsSound structs two → (first then both : Graph → Type 0) → Keeps structs first → ((graph : Graph) → both graph → first graph × then graph)
      → ((graph : Graph) → first graph → then graph → both graph) → Joins structs one two first → Joins structs two three then → Joins structs one three both
  joins_then one two three sound fine first then both keeps parts whole x y = record {
    goes = goes_then structs made one two three sound x.goes y.goes;
    leads = leads_on structs one two three both (leads_less structs one two first both (λ other its. (parts other its).0) x.leads) (leads_less structs two three then both (λ other its. (parts other its).1) y.leads);
    joined = whole three (keeps two three fine y.goes x.joined) y.joined;
  }

  -- where another thing is wanted
  pub joins_for : (old new : Graph) (wanted other_wanted : Graph → Type 0) → ((graph : Graph) → other_wanted graph → wanted graph) → (wanted new → other_wanted new) → Joins structs old new wanted
      → Joins structs old new other_wanted
  joins_for old new wanted other_wanted gives holds its = record { goes = its.goes; leads = leads_less structs old new wanted other_wanted gives its.leads; joined = holds its.joined }

  -- ---- so many, one after the other

  module _ (P : ℕ → Graph → Type 0) where
    pub joins_none : (graph : Graph) → IsSound structs graph → Joins structs graph graph (Below P 0)
    joins_none graph sound = joins_same graph sound (Below P 0) (λ number less. absurd (omega (arith, less)))

    pub joins_more : ((number : ℕ) → Keeps structs (P number)) → (start current next : Graph) → IsSound structs start → IsSound structs current → (count : ℕ) → Joins structs start current (Below P count)
        → Joins structs current next (P count) → Joins structs start next (Below P (count + 1))
    joins_more keeps start current next sound fine count before now =
        joins_then start current next sound fine (Below P count) (P count) (Below P (count + 1))
        (λ old new its goes all number less. keeps number old new its goes (all number less))
        (λ graph all. ((λ number less. all number (omega (arith, less))), all count (omega arith)))
        (λ graph all last. below_more _ _ all last) before now

  module _ {X : Type 0} (P : X → Graph → Type 0) (xs : List X) (keeps : (x : X) → Keeps structs (P x)) where
    each_kept : (number : ℕ) → Keeps structs (AtEach P xs number)
    each_kept number old new sound goes all = λ x at. keeps x old new sound goes (all x at)

    joins_each : (number : ℕ) (x : X) → slice_get xs number ≡ Some x → (old new : Graph) → Joins structs old new (P x) → Joins structs old new (AtEach P xs number)
    joins_each number x at old new its =
        joins_for old new (P x) (AtEach P xs number) (λ graph all. all x at) (λ one y here. subst (λ z. P z new) (same_Some x y (sym at ∙ here)) one) its

    -- one item more
    pub joins_next : (start current next : Graph) → IsSound structs start → IsSound structs current → (number : ℕ) (x : X) → slice_get xs number ≡ Some x → Joins structs start current (Below (AtEach P xs) number)
        → Joins structs current next (P x) → Joins structs start next (Below (AtEach P xs) (number + 1))
    joins_next start current next sound fine number x at before now =
        joins_more (AtEach P xs) each_kept start current next sound fine number before (joins_each number x at current next now)

  -- ---- steps

  module _ (old new : Graph) (sound : IsSound structs old) (names : (name : Name) → has_target (new.targets name) ≡ has_target (old.targets name)) where
    pub joins_one : (a b : Name) (x y : Target) → old.targets a ≡ Some x → old.targets b ≡ Some y → Least structs old new (AreOne x y) → Joins structs old new (HaveOne a b)
    joins_one a b x y at_a at_b least = record {
      goes = least_goes structs made old new (AreOne x y) least;
      leads = leads_least structs old new (AreOne x y) (HaveOne a b) (λ other into maps one. sym (maps.names a x at_a) ∙ one.first ∙ sym one.second ∙ maps.names b y at_b) names least;
      joined = mapped_one structs old new least.map least.maps sound a b x y at_a at_b least.holds;
    }

    certain_marked : (name : Name) (graph : Graph) → IsCertain name graph → IsMarked name M.Certain graph
    certain_marked name graph is =
        let x = target_of_certain graph (graph.targets name) is in
        ap (λ t. at_target graph t (λ node shift. node.flags.certain)) x.1 ∙ at_from graph x.0 (λ node shift. node.flags.certain) x.2.node x.2.is x.2.so

    pub joins_certain : (changed : Bool) (name : Name) (x : Target) → old.targets name ≡ Some x → Least structs old new (HasMark x.node M.Certain)
        → (changed ≡ false → (new ≡ old) × (at_target old (Some (record { node = x.node; shift = 0 })) (λ n shift. has_mark M.Certain n.flags) ≡ true)) → Joins structs old new (IsCertain name)
    joins_certain changed name x at least done =
        let there = at_there new (least.map x.node) (λ n shift. has_mark M.Certain n.flags) least.holds in
        record {
          goes = least_goes structs made old new (HasMark x.node M.Certain) least;
          leads = leads_less structs old new (IsMarked name M.Certain) (IsCertain name) (certain_marked name) (marked_at structs made old new sound changed names name x M.Certain at least done).leads;
          joined =
              ap (is_certain new) (least.maps.names name x at ∙ mapped_there new least.map x there.node there.is)
              ∙ (certain_some new (target_in least.map x there.node) there.node there.is ∙ there.so);
        }

    -- it is certain, and then one with the formal
    pub joins_passed : (last : Graph) → IsSound structs new → (argument formal : Name) → Joins structs old new (IsCertain argument) → Joins structs new last (HaveOne argument formal)
        → Joins structs old last (IsPassed argument formal)
    joins_passed last fine argument formal first then =
        joins_then old new last sound fine (IsCertain argument) (HaveOne argument formal) (IsPassed argument formal) (certainty_kept argument) (λ g is. (is.certain, is.one))
        (λ g certain one. record { certain = certain; one = one }) first then
