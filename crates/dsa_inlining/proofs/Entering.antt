-- A call gets copies of what escapes a function, and is joined with them.
use Rattle.std.proofs.Common.{◌≡◌, ℕ, ◌==◌, Bool, true, false, cond, List, [], Option, Some, None, Bor, option_copied, inl, inr, ◌⊎◌, refl, sym, ap, subst, ◌∙◌, arith, eqb-true, eq-eqb}
use Rattle.std.specs.Prelude.{◌&&◌}
use Rattle.std.specs.Map.{lookup}
use Rattle.std.specs.Option.{is_some}
use Rattle.std.proofs.lemmas.Bool.{false≢true, and_parts, and_from}
use Rattle.std.proofs.lemmas.Option.{none-some, same_Some}
use Rattle.indexmap.specs.IndexMap.{IndexMap, get_by}
use Rattle.c_typed.specs.Layouts.{StructDef}
use Rattle.c_typed.specs.Table.{structs_in}
use Rattle.tac_ir.specs.declared.register.Register.{Register}
use Rattle.tac_ir.specs.States.{Owner}
use Rattle.tac_ir.specs.Views.{tac_of}
use Rattle.heap_graph.specs.Structures.{AreMade}
use Rattle.heap_graph.specs.Graphs.{Target, OfCopy, is_copy, Graph}
use Rattle.heap_graph.specs.Merging.{IsSound}
use Rattle.heap_graph.specs.declared.program.Crossing.{Crossing}
use Rattle.heap_graph.specs.Programs.{is_crossing}
use Rattle.graph_unification.specs.Going.{GoesOn}
use Rattle.dsa_local.specs.Told.{SameNames}
use Rattle.dsa_local.proofs.GroupBegins.Kept.{told_kept}
use Rattle.dsa_inlining.specs.declared.copies.Copies.{Copies}
use Rattle.dsa_inlining.specs.Copied.{numbers_in, AreCopied}
use Rattle.dsa_inlining.specs.Adding.{AreFree, AreNumbered, NamesStay, LeadsCopied}
use Rattle.dsa_inlining.specs.Crossed.{IsCrossed}
use Rattle.dsa_inlining.specs.Joins.{Joins}
use Rattle.dsa_inlining.proofs.Joining.{free_kept}
use Rattle.dsa_inlining.specs.declared.before.Crossings.{Crossings}
use Rattle.dsa_inlining.specs.Before.{GraphsBefore, IsReached, graph_reached, nodes_reached}
use Rattle.dsa_inlining.specs.Crossings.{CopiesStand, IsCalledFrom, copies_at, EntriesStand}
use Rattle.dsa_inlining.specs.CallSteps.{OwnStands, HasEntry, TargetCrosses, IsOfEntry, IsOneEntry, EntriesApart, AreNew, EntriesStay, Crosses}
use Rattle.dsa_inlining.proofs.Reached.{one_nodes, one_reached}
use Rattle.dsa_inlining.proofs.Stepping.{entries_same, entries_kept, stand_kept}

-- ---- keys

same_number : (a b : ℕ) → (a == b) ≡ (b == a)
same_number a b = by (a == b) refl (b == a) refl
  where
    by : (one : Bool) → (a == b) ≡ one → (other : Bool) → (b == a) ≡ other → one ≡ other
    by true e true f = refl
    by false e false f = refl
    by true e false f = sym (sym f ∙ eq-eqb b a (sym (eqb-true a b e)))
    by false e true f = sym e ∙ eq-eqb a b (sym (eqb-true b a f))

-- keys are compared either way
pub found_either_way : {V S : Type 0} (map' : IndexMap Crossing V S) (site called : ℕ) → get_by (λ (key : Crossing). (site == key.site) && (called == key.called)) map' ≡ get_by (is_crossing site called) map'
found_either_way map' site called = λ i. get_by (λ (key : Crossing). same_number site key.site i && same_number called key.called i) map'

abbrev pub is_key : ℕ → ℕ → ℕ → ℕ → Bool
is_key site called other_site other = (site == other_site) && (called == other)

-- one call has these copies now, and others those that they had
pub record Enters (own after : Crossings) (site called : ℕ) (copies : Copies) : Type 0 where
  pub at : (other_site other : ℕ) → copies_at after other_site other ≡ cond (is_key site called other_site other) (Some copies) (copies_at own other_site other)
  pub next : after.next ≡ copies.next

-- the copies that were found are those that the call has
pub found_copies : (own : Crossings) (site called : ℕ) (copies : Copies) (found : Option (Bor Copies)) (value : Bor Copies)
    → option_copied found ≡ get_by (λ (key : Crossing). (site == key.site) && (called == key.called)) own.copies → found ≡ Some value → copies_at own site called ≡ Some copies → copies ≡ value.now
found_copies own site called copies found value lookup_is is at = same_Some copies value.now (sym at ∙ (sym (lookup_is ∙ found_either_way own.copies site called) ∙ ap option_copied is))

pub some_there : {X : Type 0} (found : Option (Bor X)) → is_some found ≡ true → (x : X) × (option_copied found ≡ Some x)
some_there None h = absurd (false≢true h)
some_there (Some x) h = (x.now, refl)

pub none_there : {X : Type 0} (found : Option (Bor X)) → is_some found ≡ false → option_copied found ≡ None
none_there None h = refl
none_there (Some x) h = absurd (false≢true (sym h))

-- where no calls have copies, no numbers are of them
pub empty_entries : (own : Crossings) → own.copies.entries ≡ [] → (number : ℕ) → IsOfEntry own number → ⊥
empty_entries own empty number its = none-some its.copies (sym (ap (λ entries. lookup (is_crossing its.site its.called) entries) empty) ∙ its.at)

module _ (before : GraphsBefore) (made : AreMade (structs_in before.tac.types)) (group : Option ℕ) (owner : Owner) where
  abbrev structs : List StructDef
  structs = structs_in before.tac.types

  -- ---- no calls have copies at first

  pub no_entries : (own : Crossings) (graph : Graph) → own.copies.entries ≡ [] → AreFree graph own.next → OwnStands before group owner own graph
  no_entries own graph empty free = record { entries = λ site called copies at. absurd (none-some copies (sym (ap (λ entries. lookup (is_crossing site called) entries) empty) ∙ at)); free = free }

  -- ---- a call that has copies

  pub has_entry : (site called : ℕ) (own : Crossings) (graph : Graph) (copies : Copies) → copies_at own site called ≡ Some copies → OwnStands before group owner own graph → HasEntry before site called own graph
  has_entry site called own graph copies is stands = record { copies = copies; is = is; stand = (stands.entries site called copies is).0 }

  -- ---- a call that gets copies

  module _ (site called : ℕ) (reached : IsReached before called) (from : IsCalledFrom before group owner site called) (own after : Crossings) (copies : Copies) (none : copies_at own site called ≡ None)
      (enters : Enters own after site called copies) (old new : Graph) (sound : IsSound structs old) (stands : OwnStands before group owner own old) (goes : GoesOn structs old new) (names : NamesStay old new own.next)
      (numbered : AreNumbered (nodes_reached before called reached) reached.numbers (numbers_in copies) own.next copies.next)
      (are_copied : AreCopied structs new (nodes_reached before called reached) (numbers_in copies)) where
    here : copies_at after site called ≡ Some copies
    here = enters.at site called ∙ ap (λ b. cond b (Some copies) (copies_at own site called)) (both site called)
      where
        both : (s c : ℕ) → is_key s c s c ≡ true
        both s c = and_from _ _ (eq-eqb s s refl) (eq-eqb c c refl)

    stand : CopiesStand before called copies new
    stand = record { reached = reached; first = own.next; next = copies.next; numbered = numbered; copied = are_copied }

    -- a call is this one, or another one
    stays : EntriesStay own after
    stays other_site other its at = by (is_key site called other_site other) refl
      where
        by : (b : Bool) → is_key site called other_site other ≡ b → copies_at after other_site other ≡ Some its
        by false e = enters.at other_site other ∙ (ap (λ b. cond b (Some copies) (copies_at own other_site other)) e ∙ at)
        by true e =
            let parts = and_parts (site == other_site) (called == other) e in
            let same_site = eqb-true site other_site parts.0 in
            let same_called = eqb-true called other parts.1 in
            let was : copies_at own site called ≡ Some its = ap (λ s. copies_at own s called) same_site ∙ (ap (λ c. copies_at own other_site c) same_called ∙ at) in
            absurd (none-some its (sym none ∙ was))

    entries : EntriesStand before group owner after new
    entries other_site other its at = by (is_key site called other_site other) refl
      where
        by : (b : Bool) → is_key site called other_site other ≡ b → CopiesStand before other its new × IsCalledFrom before group owner other_site other
        by false e =
            let was : copies_at own other_site other ≡ Some its = sym (enters.at other_site other ∙ ap (λ b. cond b (Some copies) (copies_at own other_site other)) e) ∙ at in
            entries_kept before made group owner own old new sound goes stands.entries other_site other its was
        by true e =
            let parts = and_parts (site == other_site) (called == other) e in
            let same_its : copies ≡ its = same_Some copies its (sym (enters.at other_site other ∙ ap (λ b. cond b (Some copies) (copies_at own other_site other)) e) ∙ at) in
            let same_called : called ≡ other = eqb-true called other parts.1 in
            let same_site : site ≡ other_site = eqb-true site other_site parts.0 in (
              subst (λ c. CopiesStand before c its new) same_called (subst (λ k. CopiesStand before called k new) same_its stand),
              subst (λ c. IsCalledFrom before group owner other_site c) same_called (subst (λ s. IsCalledFrom before group owner s called) same_site from),
            )

    -- a number is of this call, or one of a call before
    of_this : (number : ℕ) (its : IsOfEntry after number) → (is_key site called its.site its.called ≡ true) → (site ≡ its.site) × (called ≡ its.called) × (copies ≡ its.copies)
    of_this number its e =
        let parts = and_parts (site == its.site) (called == its.called) e in (
          eqb-true site its.site parts.0,
          eqb-true called its.called parts.1,
          same_Some copies its.copies (sym (enters.at its.site its.called ∙ ap (λ b. cond b (Some copies) (copies_at own its.site its.called)) e) ∙ its.at),
        )

    of_other : (number : ℕ) (its : IsOfEntry after number) → (is_key site called its.site its.called ≡ false) → IsOfEntry own number
    of_other number its e = record {
      site = its.site;
      called = its.called;
      copies = its.copies;
      at = sym (enters.at its.site its.called ∙ ap (λ b. cond b (Some copies) (copies_at own its.site its.called)) e) ∙ its.at;
      node = its.node;
      is = its.is;
    }

    -- what is of this call has no target yet, and what is of one before has one
    this_free : (number : ℕ) (its : IsOfEntry after number) → (copies ≡ its.copies) → old.targets (OfCopy number) ≡ None
    this_free number its same = stands.free number (numbered.within its.node number (ap (λ k. numbers_in k its.node) same ∙ its.is)).0

    other_there : (number : ℕ) (its : IsOfEntry own number) → (target : Target) × (old.targets (OfCopy number) ≡ Some target)
    other_there number its =
        let stand = (stands.entries its.site its.called its.copies its.at).0 in
        let node = (stand.numbered.only its.node number its.is).1 in
        let fits = stand.copied.nodes its.node number node.0 its.is node.1 in
        (fits.target, fits.is)

    numbers_added : AreNew own after old
    numbers_added number its = by (is_key site called its.site its.called) refl
      where
        by : (b : Bool) → is_key site called its.site its.called ≡ b → IsOfEntry own number ⊎ (old.targets (OfCopy number) ≡ None)
        by true e = inr (this_free number its (of_this number its e).2)
        by false e = inl (of_other number its e)

    numbers_apart : EntriesApart own → EntriesApart after
    unfolding of_other
    numbers_apart apart number a b = by (is_key site called a.site a.called) refl (is_key site called b.site b.called) refl
      where
        by : (one : Bool) → is_key site called a.site a.called ≡ one → (other : Bool) → is_key site called b.site b.called ≡ other → IsOneEntry after number a b
        by true e true f =
            let x = of_this number a e in
            let y = of_this number b f in
            record {
              site = sym x.0 ∙ y.0;
              called = sym x.1 ∙ y.1;
              node = numbered.apart a.node b.node number (ap (λ k. numbers_in k a.node) x.2 ∙ a.is) (ap (λ k. numbers_in k b.node) y.2 ∙ b.is);
            }
        by false e false f = let same = apart number (of_other number a e) (of_other number b f) in record { site = same.site; called = same.called; node = same.node }
        by true e false f = let there = other_there number (of_other number b f) in absurd (none-some there.0 (sym (this_free number a (of_this number a e).2) ∙ there.1))
        by false e true f = let there = other_there number (of_other number a e) in absurd (none-some there.0 (sym (this_free number b (of_this number b f).2) ∙ there.1))

    same_names : SameNames old new
    same_names name plain = names name (λ copy first is. false≢true (sym plain ∙ ap is_copy is))

    pub crosses_copied : AreFree new copies.next → LeadsCopied structs old new (nodes_reached before called reached) (numbers_in copies)
        → Crosses before group owner (HasEntry before site called) own after old new
    crosses_copied free leads = record {
      goes = goes;
      told = λ owners told. told_kept (tac_of before.tac) made old new sound goes owners same_names told;
      stay = stays;
      given = λ number first less.
          let its = numbered.each number first (omega (arith, less, enters.next)) in
          record { site = site; called = called; copies = copies; at = here; node = its.0; is = its.1 };
      apart = numbers_apart;
      added = numbers_added;
      stands = record { entries = entries; free = λ copy first. free copy (omega (arith, first, enters.next)) };
      crossed = record { copies = copies; is = here; stand = stand };
      leads = λ other into maps fits its.
          let same : its.copies ≡ copies = same_Some its.copies copies (sym its.is ∙ here) in
          leads other into maps
          (subst (λ (g : Graph). AreCopied structs other g (numbers_in copies)) (one_nodes before called its.stand.reached reached)
          (subst (λ k. AreCopied structs other (nodes_reached before called its.stand.reached) (numbers_in k)) same its.stand.copied));
    }

  -- ---- a call that is joined with its copies

  module _ (site : ℕ) (arguments : List Register) (called : ℕ) (from : IsCalledFrom before group owner site called) (own : Crossings) (old new : Graph) (sound : IsSound structs old)
      (stands : OwnStands before group owner own old) (entry : HasEntry before site called own old) where
    abbrev callee : Graph
    callee = graph_reached before called entry.stand.reached

    abbrev Wanted : Graph → Type 0
    Wanted = IsCrossed (tac_of before.tac) owner site arguments called callee (numbers_in entry.copies)

    its_joined : Joins (tac_of before.tac) callee Wanted old new → Crosses before group owner (TargetCrosses before group owner site arguments called) own own old new
    its_joined joins = record {
      goes = joins.goes;
      told = joins.told;
      stay = entries_same own;
      given = λ number first less. absurd (omega (arith, first, less));
      apart = λ its. its;
      added = λ number its. inl its;
      stands = record {
        entries = entries_kept before made group owner own old new sound joins.goes stands.entries;
        free = free_kept (tac_of before.tac) callee Wanted old new joins own.next stands.free;
      };
      crossed = λ out. record { copies = entry.copies; is = entry.is; stand = stand_kept before made called entry.copies old new sound joins.goes entry.stand; crossed = joins.joined };
      leads = λ other into maps fits its.
          let uses = its from.out in
          let same : uses.copies ≡ entry.copies = same_Some uses.copies entry.copies (sym uses.is ∙ entry.is) in
          joins.leads other into maps (fits site called from entry.stand.reached)
          (subst (λ (g : Graph). IsCrossed (tac_of before.tac) owner site arguments called g (numbers_in entry.copies) other) (one_reached before called uses.stand.reached entry.stand.reached)
          (subst (λ k. IsCrossed (tac_of before.tac) owner site arguments called (graph_reached before called uses.stand.reached) (numbers_in k) other) same uses.crossed));
    }

    pub crosses_joined : (other : Graph) (numbers : ℕ → Option ℕ) → callee ≡ other → numbers_in entry.copies ≡ numbers → Joins (tac_of before.tac) other (IsCrossed (tac_of before.tac) owner site arguments called other numbers) old new
        → Crosses before group owner (TargetCrosses before group owner site arguments called) own own old new
    crosses_joined other numbers same_callee same_numbers joins =
        its_joined
        (subst (λ (n : ℕ → Option ℕ). Joins (tac_of before.tac) callee (IsCrossed (tac_of before.tac) owner site arguments called callee n) old new) (sym same_numbers)
        (subst (λ (g : Graph). Joins (tac_of before.tac) g (IsCrossed (tac_of before.tac) owner site arguments called g numbers) old new) (sym same_callee) joins))
