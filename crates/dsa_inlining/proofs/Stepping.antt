-- One step after the other by which calls are joined with copies.
use Rattle.std.proofs.Common.{◌≡◌, ℕ, ◌+◌, ◌<◌, ◌≤◌, ◌⊎◌, true, List, length, Option, Some, None, inl, inr, refl, sym, ap, subst, ◌∙◌, arith, below_more}
use Rattle.std.specs.Prelude.{slice_get}
use Rattle.std.proofs.lemmas.Bool.{cases_lt}
use Rattle.std.proofs.lemmas.Option.{none-some, same_Some, slice_get_within}
use Rattle.c_typed.specs.Layouts.{StructDef}
use Rattle.c_typed.specs.Table.{structs_in}
use Rattle.tac_ir.specs.declared.register.Register.{Register}
use Rattle.tac_ir.specs.Code as O
use Rattle.tac_ir.specs.Code.{Callee, Function, Op}
use Rattle.tac_ir.specs.States.{Owner, function_of}
use Rattle.tac_ir.specs.Views.{tac_of}
use Rattle.heap_graph.specs.Structures.{AreMade}
use Rattle.heap_graph.specs.Graphs.{Target, Name, OfCopy, Graph}
use Rattle.heap_graph.specs.Targets.{element_kept}
use Rattle.heap_graph.specs.Merging.{IsSound}
use Rattle.heap_graph.proofs.MapsCompose.{at_there, target_in, mapped_there}
use Rattle.tac_ir.specs.Targets.{is_target}
use Rattle.call_graph.proofs.RowLists.{has_at, at_has}
use Rattle.graph_unification.specs.Going.{GoesOn}
use Rattle.graph_unification.proofs.Goes.{goes_same, goes_then}
use Rattle.dsa_inlining.specs.declared.copies.Copies.{Copies}
use Rattle.dsa_inlining.specs.Copied.{numbers_in}
use Rattle.dsa_inlining.proofs.Carried.{copies_kept}
use Rattle.dsa_inlining.proofs.Kept.{crossed_kept}
use Rattle.dsa_inlining.specs.declared.before.Crossings.{Crossings}
use Rattle.dsa_inlining.specs.Before.{GraphsBefore, graph_reached, nodes_reached, is_out}
use Rattle.dsa_inlining.specs.Crossings.{CopiesStand, UsesCopies, EntriesStand, CallsCross}
use Rattle.dsa_inlining.specs.Live.{AreLiveTargets}
use Rattle.dsa_inlining.specs.CallSteps.{OwnStands, HasEntry, TargetCrosses, TargetsCross, PointCrosses, IsOfEntry, EntriesStay, Crosses, OwnerCrosses}

abbrev pub Wanted : Type 1
Wanted = Crossings → Graph → Type 0

-- what holds of each number below
abbrev pub Below : (ℕ → Wanted) → ℕ → Wanted
Below P count own graph = (number : ℕ) → number < count → P number own graph

-- what holds of the item of a number
abbrev pub AtEach : {X : Type 0} → (X → Wanted) → List X → ℕ → Wanted
AtEach P xs number own graph = (x : _) → slice_get xs number ≡ Some x → P x own graph

-- what is kept with further copies where a graph goes on
abbrev pub Keeps : List StructDef → Wanted → Type 0
Keeps structs P = (own after : Crossings) (old new : Graph) → EntriesStay own after → IsSound structs old → GoesOn structs old new → P own old → P after new

-- what holds of another graph with further copies holds with those that there were, where these are enough
abbrev pub Backs : Wanted → Type 0
Backs P = (own after : Crossings) (graph other : Graph) → EntriesStay own after → P own graph → P after other → P own other

pub entries_same : (own : Crossings) → EntriesStay own own
entries_same own = λ site called copies at. at

entry_stays : (own after : Crossings) (number : ℕ) → EntriesStay own after → IsOfEntry own number → IsOfEntry after number
entry_stays own after number stay its = record { site = its.site; called = its.called; copies = its.copies; at = stay its.site its.called its.copies its.at; node = its.node; is = its.is }

-- a name that has no target had none before
none_before : (structs : List StructDef) (old new : Graph) → IsSound structs old → GoesOn structs old new → (name : Name) → new.targets name ≡ None → old.targets name ≡ None
none_before structs old new sound goes name none = by (old.targets name) refl
  where
    by : (found : Option Target) → old.targets name ≡ found → old.targets name ≡ None
    by None is = is
    by (Some target) is =
        let slot = sound.names name target is in
        let image = at_there new (goes.map target.node) (element_kept structs slot.node.element) (goes.maps.elements target.node slot.node slot.is) in
        absurd (none-some (target_in goes.map target image.node) (sym none ∙ (goes.maps.names name target is ∙ mapped_there new goes.map target image.node image.is)))

same_call : (a b : ℕ) (c d : Callee) (p q : List Register) → O.Call a c p ≡ O.Call b d q → (a ≡ b) × (c ≡ d) × (p ≡ q)
same_call a b c d p q e = (cc, cc, cc)

module _ (before : GraphsBefore) (made : AreMade (structs_in before.tac.types)) where
  abbrev structs : List StructDef
  structs = structs_in before.tac.types

  -- ---- what is kept

  abbrev pub stand_kept : (called : ℕ) (copies : Copies) (old new : Graph) → IsSound structs old → GoesOn structs old new → CopiesStand before called copies old → CopiesStand before called copies new
  stand_kept called copies old new sound goes its = record {
    reached = its.reached;
    first = its.first;
    next = its.next;
    numbered = its.numbered;
    copied = copies_kept structs made old new (nodes_reached before called its.reached) (numbers_in copies) sound goes its.copied;
  }

  pub entries_kept : (group : Option ℕ) (owner : Owner) (own : Crossings) (old new : Graph) → IsSound structs old → GoesOn structs old new → EntriesStand before group owner own old → EntriesStand before group owner own new
  entries_kept group owner own old new sound goes stand = λ site called copies at.
      let its = stand site called copies at in
      (stand_kept called copies old new sound goes its.0, its.1)

  module _ (owner : Owner) (site : ℕ) (arguments : List Register) (called : ℕ) where
    uses_kept : Keeps structs (UsesCopies before owner site arguments called)
    uses_kept own after old new stay sound goes its = record {
      copies = its.copies;
      is = stay site called its.copies its.is;
      stand = stand_kept called its.copies old new sound goes its.stand;
      crossed = crossed_kept structs made (tac_of before.tac) owner site arguments called (graph_reached before called its.stand.reached) (numbers_in its.copies) old new sound goes its.crossed;
    }

    uses_back : Backs (UsesCopies before owner site arguments called)
    uses_back own after graph other stay here its =
        let same : here.copies ≡ its.copies = same_Some here.copies its.copies (sym (stay site called here.copies here.is) ∙ its.is) in
        record { copies = its.copies; is = here.is ∙ ap Some same; stand = its.stand; crossed = its.crossed }

  pub entry_kept : (site called : ℕ) → Keeps structs (HasEntry before site called)
  entry_kept site called own after old new stay sound goes its =
      record { copies = its.copies; is = stay site called its.copies its.is; stand = stand_kept called its.copies old new sound goes its.stand }

  pub entry_back : (site called : ℕ) → Backs (HasEntry before site called)
  entry_back site called own after graph other stay here its =
      let same : here.copies ≡ its.copies = same_Some here.copies its.copies (sym (stay site called here.copies here.is) ∙ its.is) in
      record { copies = its.copies; is = here.is ∙ ap Some same; stand = its.stand }

  module _ (group : Option ℕ) (owner : Owner) where
    pub target_kept : (site : ℕ) (arguments : List Register) (called : ℕ) → Keeps structs (TargetCrosses before group owner site arguments called)
    target_kept site arguments called own after old new stay sound goes its = λ out. uses_kept owner site arguments called own after old new stay sound goes (its out)

    pub target_back : (site : ℕ) (arguments : List Register) (called : ℕ) → Backs (TargetCrosses before group owner site arguments called)
    target_back site arguments called own after graph other stay here its = λ out. uses_back owner site arguments called own after graph other stay (here out) (its out)

    pub point_kept : (op : Op) → Keeps structs (PointCrosses before group owner op)
    point_kept op own after old new stay sound goes its = λ site callee arguments called same target out live.
        uses_kept owner site arguments called own after old new stay sound goes (its site callee arguments called same target out live)

    pub point_back : (op : Op) → Backs (PointCrosses before group owner op)
    point_back op own after graph other stay here its = λ site callee arguments called same target out live.
        uses_back owner site arguments called own after graph other stay (here site callee arguments called same target out live) (its site callee arguments called same target out live)

    pub calls_kept : (own : Crossings) (old new : Graph) → IsSound structs old → GoesOn structs old new → CallsCross before group owner own old → CallsCross before group owner own new
    calls_kept own old new sound goes its = λ function at op is point. point_kept op own own old new (entries_same own) sound goes (its function at op is point)

    -- ---- one step after the other

    pub crosses_same : (wanted : Wanted) (own : Crossings) (graph : Graph) → IsSound structs graph → OwnStands before group owner own graph → wanted own graph → Crosses before group owner wanted own own graph graph
    crosses_same wanted own graph sound stands holds = record {
      goes = goes_same structs made graph sound;
      told = λ owners told. told;
      stay = entries_same own;
      given = λ number from less. absurd (omega (arith, from, less));
      apart = λ its. its;
      added = λ number its. inl its;
      stands = stands;
      crossed = holds;
      leads = λ other into maps fits its. (into, maps);
    }

    pub crosses_then : (first then both : Wanted) → Keeps structs first → Backs first → ((own : Crossings) (graph : Graph) → both own graph → first own graph × then own graph)
        → ((own : Crossings) (graph : Graph) → first own graph → then own graph → both own graph) → (a b c : Crossings) (one two three : Graph) → IsSound structs one → IsSound structs two
        → Crosses before group owner first a b one two → Crosses before group owner then b c two three → Crosses before group owner both a c one three
    crosses_then first then both keeps backs parts whole a b c one two three sound fine x y = record {
      goes = goes_then structs made one two three sound x.goes y.goes;
      told = λ owners told. y.told owners (x.told owners told);
      stay = λ site called copies at. y.stay site called copies (x.stay site called copies at);
      given = λ number from less. by number from less (cases_lt number b.next);
      apart = λ its. y.apart (x.apart its);
      added = λ number its. elim (y.added number its) [
        | inl earlier ↦ x.added number earlier
        | inr none ↦ inr (none_before structs one two sound x.goes (OfCopy number) none)
      ];
      stands = y.stands;
      crossed = whole c three (keeps b c two three y.stay fine y.goes x.crossed) y.crossed;
      leads = λ other into maps fits its.
          let wants = parts c other its in
          let middle = x.leads other into maps fits (backs b c two other y.stay x.crossed wants.0) in
          y.leads other middle.0 middle.1 fits wants.1;
    }
      where
        by : (number : ℕ) → a.next ≤ number → number < c.next → (number < b.next) ⊎ (b.next ≤ number) → IsOfEntry c number
        by number from less (inl below) = entry_stays b c number y.stay (x.given number from below)
        by number from less (inr behind) = y.given number behind less

    -- the call has copies, and then uses them
    pub one_crosses : (site : ℕ) (arguments : List Register) (called : ℕ) → is_out before.groups group called ≡ true → (a b : Crossings) (one two three : Graph) → IsSound structs one → IsSound structs two
        → Crosses before group owner (HasEntry before site called) a b one two → Crosses before group owner (TargetCrosses before group owner site arguments called) b b two three
        → Crosses before group owner (TargetCrosses before group owner site arguments called) a b one three
    one_crosses site arguments called out a b one two three sound fine x y =
        crosses_then (HasEntry before site called) (TargetCrosses before group owner site arguments called) (TargetCrosses before group owner site arguments called) (entry_kept site called) (entry_back site called)
        (λ own graph its. (record { copies = (its out).copies; is = (its out).is; stand = (its out).stand }, its)) (λ own graph entry its. its) a b b one two three sound fine x y

    -- where another thing is wanted
    pub crosses_for : (wanted other_wanted : Wanted) → ((own : Crossings) (graph : Graph) → other_wanted own graph → wanted own graph) → (own after : Crossings) (old new : Graph) → (wanted after new → other_wanted after new)
        → Crosses before group owner wanted own after old new → Crosses before group owner other_wanted own after old new
    crosses_for wanted other_wanted gives own after old new holds its = record {
      goes = its.goes;
      told = its.told;
      stay = its.stay;
      given = its.given;
      apart = its.apart;
      added = its.added;
      stands = its.stands;
      crossed = holds its.crossed;
      leads = λ other into maps fits is. its.leads other into maps fits (gives after other is);
    }

    -- ---- so many, one after the other

    module _ {X : Type 0} (P : X → Wanted) (xs : List X) where
      pub crosses_none : (own : Crossings) (graph : Graph) → IsSound structs graph → OwnStands before group owner own graph → Crosses before group owner (Below (AtEach P xs) 0) own own graph graph
      crosses_none own graph sound stands = crosses_same (Below (AtEach P xs) 0) own graph sound stands (λ number less. absurd (omega (arith, less)))

      pub crosses_next : ((x : X) → Keeps structs (P x)) → ((x : X) → Backs (P x)) → (start current next : Crossings) (old graph new : Graph) → IsSound structs old → IsSound structs graph → (number : ℕ) (x : X)
          → slice_get xs number ≡ Some x → Crosses before group owner (Below (AtEach P xs) number) start current old graph → Crosses before group owner (P x) current next graph new
          → Crosses before group owner (Below (AtEach P xs) (number + 1)) start next old new
      crosses_next keeps backs start current next old graph new sound fine number x at before_it now =
          crosses_then (Below (AtEach P xs) number) (AtEach P xs number) (Below (AtEach P xs) (number + 1))
          (λ own after one two stay s goes all k less y is. keeps y own after one two stay s goes (all k less y is))
          (λ own after one other stay here its k less y is. backs y own after one other stay (here k less y is) (its k less y is))
          (λ own g all. ((λ k less. all k (omega (arith, less))), all number (omega arith)))
          (λ own g all last. below_more _ _ all last) start current next old graph new sound fine before_it
          (crosses_for (P x) (AtEach P xs number) (λ own g all. all x at) current next graph new (λ one y here. subst (λ z. P z next new) (same_Some x y (sym at ∙ here)) one) now)

    -- ---- the functions of a call, and the points of a function

    pub targets_done : (site : ℕ) (arguments : List Register) (targets : List ℕ) (own after : Crossings) (old new : Graph) (count : ℕ) → length targets ≤ count
        → Crosses before group owner (Below (AtEach (TargetCrosses before group owner site arguments) targets) count) own after old new
        → Crosses before group owner (TargetsCross before group owner site arguments targets) own after old new
    targets_done site arguments targets own after old new count long its =
        crosses_for (Below (AtEach (TargetCrosses before group owner site arguments) targets) count) (TargetsCross before group owner site arguments targets)
        (λ own' g all k less called at. all called (has_at targets k called at)) own after old new
        (λ below called has.
        let there = at_has targets called has in
        let less = slice_get_within targets there.0 called there.1 in
        below there.0 (omega (arith, less, long)) called there.1)
        its

    pub call_done : (site : ℕ) (callee : Callee) (arguments : List Register) (targets : List ℕ) → AreLiveTargets before callee targets → (own after : Crossings) (old new : Graph)
        → Crosses before group owner (TargetsCross before group owner site arguments targets) own after old new → Crosses before group owner (PointCrosses before group owner (O.Call site callee arguments)) own after old new
    call_done site callee arguments targets are own after old new its =
        crosses_for (TargetsCross before group owner site arguments targets) (PointCrosses before group owner (O.Call site callee arguments))
        (λ own' g wanted called has out. let its = (are.each called).0 has in wanted site callee arguments called refl its.0 out its.1) own after old new
        (λ all site' callee' arguments' called same target out live.
        let parts = same_call site site' callee callee' arguments arguments' same in
        let uses = all called ((are.each called).1 (subst (λ (c : Callee). is_target (tac_of before.tac) c called ≡ true) (sym parts.1) target, live)) out in
        subst (λ s. UsesCopies before owner s arguments' called after new) parts.0 (subst (λ l. UsesCopies before owner site l called after new) parts.2 uses))
        its

    -- points that are no calls ask nothing
    pub no_call_crosses : (op : Op) → ((site : ℕ) (callee : Callee) (arguments : List Register) → op ≡ O.Call site callee arguments → ⊥) → (own : Crossings) (graph : Graph) → PointCrosses before group owner op own graph
    no_call_crosses op none own graph = λ site callee arguments called same target out live. absurd (none site callee arguments same)

    pub points_done : (function : Function) → function_of (tac_of before.tac) owner ≡ Some function → (own after : Crossings) (old new : Graph) (count : ℕ) → length function.points ≤ count
        → Crosses before group owner (Below (AtEach (PointCrosses before group owner) function.points) count) own after old new → Crosses before group owner (CallsCross before group owner) own after old new
    points_done function is own after old new count long its =
        crosses_for (Below (AtEach (PointCrosses before group owner) function.points) count) (CallsCross before group owner) (λ own' g all k less op at. all function k op is at) own after old new
        (λ below other k op there at.
        let here : slice_get function.points k ≡ Some op = ap (λ (f : Function). slice_get f.points k) (same_Some function other (sym is ∙ there)) ∙ at in
        let less = slice_get_within function.points k op here in
        below k (omega (arith, less, long)) op here)
        its

    -- all calls of an owner, of which none had copies before
    pub owner_done : (start own : Crossings) (old new : Graph) (first : ℕ) → start.next ≡ first → ((number : ℕ) → IsOfEntry start number → ⊥)
        → Crosses before group owner (CallsCross before group owner) start own old new → OwnerCrosses before group owner first own old new
    owner_done start own old new first is none its = record {
      goes = its.goes;
      told = its.told;
      given = λ number from less. its.given number (omega (arith, from, is)) less;
      apart = its.apart (λ number a b. absurd (none number a));
      added = λ number entry. elim (its.added number entry) [
        | inl earlier ↦ absurd (none number earlier)
        | inr free ↦ free
      ];
      stands = its.stands;
      crossed = its.crossed;
      leads = its.leads;
    }
