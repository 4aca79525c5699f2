-- Graphs that go on to ones in which names come to copies.
use Rattle.std.proofs.Common.{◌≡◌, ℕ, ◌+◌, ◌<◌, true, false, List, Option, Some, None, refl, sym, ap, subst, ◌∙◌, arith, below_more}
use Rattle.std.proofs.lemmas.Bool.{true≢false, and_parts}
use Rattle.std.proofs.lemmas.Option.{same_Some}
use Rattle.c_typed.specs.Layouts.{StructDef}
use Rattle.tac_ir.specs.Code.{Tac}
use Rattle.tac_ir.specs.States.{InFunction}
use Rattle.heap_graph.specs.Structures.{AreMade}
use Rattle.heap_graph.specs.Escaping.{is_outside}
use Rattle.heap_graph.specs.Graphs.{Target, Name, OfCopy, Graph}
use Rattle.heap_graph.specs.Targets.{has_target, shifted, implies, marks_kept, flags_kept}
use Rattle.heap_graph.specs.Merging.{IsSound, AreOne}
use Rattle.heap_graph.proofs.MapsCompose.{shift_in, shifted_there, at_there}
use Rattle.heap_graph.specs.Asks.{is_certain}
use Rattle.heap_graph.proofs.Certain.{certain_some}
use Rattle.graph_unification.specs.Leading.{Least}
use Rattle.graph_unification.specs.Going.{GoesOn}
use Rattle.graph_unification.proofs.Goes.{goes_same, goes_then, least_goes}
use Rattle.dsa_local.proofs.GroupBegins.Kept.{told_kept}
use Rattle.dsa_inlining.specs.Copied.{named_copy, image, copied, NodesCopied, AreCopied}
use Rattle.dsa_inlining.specs.Adding.{AreFree}
use Rattle.dsa_inlining.specs.Steps.{LeadsToSlot}
use Rattle.dsa_inlining.proofs.Carried.{image_carried, copies_kept}
use Rattle.dsa_inlining.proofs.Placed.{place_of}
use Rattle.dsa_inlining.specs.Crossed.{IsImage, IsCopied, IsCallee}
use Rattle.dsa_inlining.specs.Joins.{Joins}
use Rattle.dsa_inlining.proofs.Kept.{Keeps, image_of}

-- what holds of each number below
abbrev pub Below : (ℕ → Graph → Type 0) → ℕ → Graph → Type 0
Below P count graph = (number : ℕ) → number < count → P number graph

-- nothing is asked
abbrev pub Nothing : Graph → Type 0
Nothing graph = Unit {0}

-- ---- where targets are

-- a slot of a node that is copied is a slot of its copy
pub copied_place : (structs : List StructDef) → AreMade structs → (graph callee : Graph) (copies : ℕ → Option ℕ) → IsSound structs graph → NodesCopied structs graph callee copies → (target : Target)
    → IsCopied structs callee copies target → LeadsToSlot structs graph (image graph copies target)
copied_place structs made graph callee copies sound are target its =
    place_of structs made graph callee copies sound are target.node its.copy target.shift its.slot.node its.is its.slot.is its.slot.inside

-- where callers see a target its node is copied
pub outside_is_copied : (tac : Tac) (called : ℕ) (callee : Graph) (copies : ℕ → Option ℕ) → IsCallee tac called callee copies → (name : Name) (target : Target) → is_outside (InFunction called) name ≡ true
    → callee.targets name ≡ Some target → IsCopied tac.structs callee copies target
outside_is_copied tac called callee copies its name target outside is =
    let copy = its.copied name target outside is in
    record { slot = its.sound.names name target is; copy = copy.0; is = copy.1 }

-- its node is certain
pub copied_certain : (structs : List StructDef) (graph callee : Graph) (copies : ℕ → Option ℕ) → NodesCopied structs graph callee copies → (target : Target) → IsCopied structs callee copies target
    → (place : Target) → image graph copies target ≡ Some place → is_certain graph (Some place) ≡ true
copied_certain structs graph callee copies are target its place is =
    let fits = are target.node its.copy its.slot.node its.is its.slot.is in
    let there = at_there graph fits.target (λ image shift. marks_kept (copied its.slot.node).flags image.flags) fits.flags in
    let certain : there.node.flags.certain ≡ true = (and_parts (implies true there.node.flags.certain) (flags_kept its.slot.node.flags there.node.flags) there.so).0 in
    let at = ap (shifted graph target.shift) (ap (named_copy graph) its.is ∙ fits.is) ∙ shifted_there graph target.shift fits.target there.node there.is in
    subst (λ (t : Target). is_certain graph (Some t) ≡ true) (same_Some _ place (sym at ∙ is))
    (certain_some graph (record { node = fits.target.node; shift = shift_in there.node (fits.target.shift + target.shift) }) there.node there.is ∙ certain)

module _ (tac : Tac) (made : AreMade tac.structs) (callee : Graph) where
  -- ---- one change after the other

  pub joins_same : (graph : Graph) → IsSound tac.structs graph → (wanted : Graph → Type 0) → wanted graph → Joins tac callee wanted graph graph
  joins_same graph sound wanted holds = record {
    goes = goes_same tac.structs made graph sound;
    names = λ name other. refl;
    told = λ owners told. told;
    leads = λ other into maps fits its. (into, maps);
    joined = holds;
  }

  pub joins_then : (one two three : Graph) → IsSound tac.structs one → IsSound tac.structs two → (first then both : Graph → Type 0) → Keeps tac.structs first → ((graph : Graph) → both graph → first graph × then graph)
      → ((graph : Graph) → first graph → then graph → both graph) → Joins tac callee first one two → Joins tac callee then two three → Joins tac callee both one three
  joins_then one two three sound fine first then both keeps parts whole x y = record {
    goes = goes_then tac.structs made one two three sound x.goes y.goes;
    names = λ name other. y.names name other ∙ x.names name other;
    told = λ owners told. y.told owners (x.told owners told);
    leads = λ other into maps fits its.
        let middle = x.leads other into maps fits (parts other its).0 in
        y.leads other middle.0 middle.1 fits (parts other its).1;
    joined = whole three (keeps two three fine y.goes x.joined) y.joined;
  }

  -- where another thing is wanted
  pub joins_for : (old new : Graph) (wanted other_wanted : Graph → Type 0) → ((graph : Graph) → other_wanted graph → wanted graph) → (wanted new → other_wanted new) → Joins tac callee wanted old new
      → Joins tac callee other_wanted old new
  joins_for old new wanted other_wanted gives holds its = record {
    goes = its.goes;
    names = its.names;
    told = its.told;
    leads = λ other into maps fits is. its.leads other into maps fits (gives other is);
    joined = holds its.joined;
  }

  -- ---- so many, one after the other

  module _ (P : ℕ → Graph → Type 0) where
    pub joins_none : (graph : Graph) → IsSound tac.structs graph → Joins tac callee (Below P 0) graph graph
    joins_none graph sound = joins_same graph sound (Below P 0) (λ number less. absurd (omega (arith, less)))

    pub joins_more : ((number : ℕ) → Keeps tac.structs (P number)) → (start current next : Graph) → IsSound tac.structs start → IsSound tac.structs current → (count : ℕ) → Joins tac callee (Below P count) start current
        → Joins tac callee (P count) current next → Joins tac callee (Below P (count + 1)) start next
    joins_more keeps start current next sound fine count before now =
        joins_then start current next sound fine (Below P count) (P count) (Below P (count + 1))
        (λ old new its goes all number less. keeps number old new its goes (all number less))
        (λ graph all. ((λ number less. all number (omega (arith, less))), all count (omega arith)))
        (λ graph all last. below_more _ _ all last) before now

  -- ---- a name that comes to a copy

  module _ (copies : ℕ → Option ℕ) (old new : Graph) (sound : IsSound tac.structs old) (names : (name : Name) → has_target (new.targets name) ≡ has_target (old.targets name)) where
    pub joins_image : (nodes : Graph) → AreCopied tac.structs old nodes copies → (name : Name) (target : Target) → IsCopied tac.structs nodes copies target → (own place : Target) → old.targets name ≡ Some own
        → image old copies target ≡ Some place → Least tac.structs old new (AreOne own place) → Joins tac callee (IsImage copies name target) old new
    joins_image nodes are name target its own place at is least = record {
      goes = goes;
      names = λ other apart. names other;
      told = λ owners told. told_kept tac made old new sound goes owners (λ other apart. names other) told;
      leads = λ other into maps fits wanted.
          let rest = least.least other into maps (sym (maps.names name own at) ∙ wanted.is ∙ sym wanted.copied ∙ image_carried tac.structs made old other into sound maps copies target place is) in
          (rest.0, rest.1);
      joined =
          let end = image_of tac.structs old new least.map least.maps sound name own at in
          let there = image_carried tac.structs made old new least.map sound least.maps copies target place is ∙ (sym least.holds ∙ end.1) in
          record {
            at = end.0;
            is = least.maps.names name own at ∙ end.1;
            certain = copied_certain tac.structs new nodes copies (copies_kept tac.structs made old new nodes copies sound goes are).nodes target its end.0 there;
            copied = there;
          };
    }
      where
        goes : GoesOn tac.structs old new
        goes = least_goes tac.structs made old new (AreOne own place) least

-- ---- names of copies

-- copies that have no targets get none
pub free_kept : (tac : Tac) (callee : Graph) (wanted : Graph → Type 0) (old new : Graph) → Joins tac callee wanted old new → (first : ℕ) → AreFree old first → AreFree new first
free_kept tac callee wanted old new its first free copy from = none (new.targets (OfCopy copy)) (its.names (OfCopy copy) refl ∙ ap has_target (free copy from))
  where
    none : (target : Option Target) → has_target target ≡ false → target ≡ None
    none None has = refl
    none (Some target) has = absurd (true≢false has)
