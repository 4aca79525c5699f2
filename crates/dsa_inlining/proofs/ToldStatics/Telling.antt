-- The groups that are told of, one after the other.
use Rattle.std.proofs.Common.{◌≡◌, ◌⊎◌, inl, inr, ℕ, ◌+◌, ◌<◌, Bool, true, false, cond, not, List, [], ◌∷◌, ◌++◌, length, Contains, Option, Some, None, refl, sym, ap, subst, ◌∙◌, true≢false, append_assoc, length-append, arith}
use Rattle.std.specs.List.{list_any}
use Rattle.std.specs.Prelude.{nat_eq, slice_get}
use Rattle.std.proofs.lemmas.List.Elements.{Contains-append_left, Contains-append_right, Contains-push, Contains-push_cases, Contains-append_cases}
use Rattle.indexmap.specs.IndexSet.{insert_key}
use Rattle.dsa_inlining.specs.declared.told_statics.GroupStatics.{GroupStatics}
use Rattle.dsa_inlining.specs.Searched.{Reaches, here, along, AreClosed, AddsTold}
use Rattle.dsa_inlining.specs.GroupStatics.Telling.{bases_of, IsTelling, IsFromBase, AreFromBases}
use Rattle.dsa_inlining.proofs.SeenNodes.{none_contained}
use Rattle.dsa_inlining.proofs.Untold.{untold, untold_less}

-- ---- a number that is inserted

pub not_there : (numbers : List ℕ) (number : ℕ) (is_new : Bool) → is_new ≡ not (list_any (nat_eq number) numbers) → is_new ≡ true → list_any (nat_eq number) numbers ≡ false
not_there numbers number is_new tells new = by (list_any (nat_eq number) numbers) (sym tells ∙ new)
  where
    by : (test : Bool) → not test ≡ true → test ≡ false
    by true e = absurd (true≢false (sym e))
    by false e = refl

there_already : (numbers : List ℕ) (number : ℕ) (is_new : Bool) → is_new ≡ not (list_any (nat_eq number) numbers) → is_new ≡ false → list_any (nat_eq number) numbers ≡ true
there_already numbers number is_new tells old = by (list_any (nat_eq number) numbers) (sym tells ∙ old)
  where
    by : (test : Bool) → not test ≡ false → test ≡ true
    by true e = refl
    by false e = absurd (true≢false e)

pub same_keys : (numbers more : List ℕ) (number : ℕ) (is_new : Bool) → more ≡ insert_key nat_eq numbers number → is_new ≡ not (list_any (nat_eq number) numbers) → is_new ≡ false → more ≡ numbers
same_keys numbers more number is_new keys tells old = keys ∙ ap (λ test. cond test numbers (numbers ++ number ∷ [])) (there_already numbers number is_new tells old)

pub more_keys : (numbers more : List ℕ) (number : ℕ) (is_new : Bool) → more ≡ insert_key nat_eq numbers number → is_new ≡ not (list_any (nat_eq number) numbers) → is_new ≡ true → more ≡ numbers ++ number ∷ []
more_keys numbers more number is_new keys tells new = keys ∙ ap (λ test. cond test numbers (numbers ++ number ∷ [])) (not_there numbers number is_new tells new)

-- ---- bases

bases_are : (all : List GroupStatics) (group : ℕ) (its : GroupStatics) → slice_get all group ≡ Some its → bases_of all group ≡ its.bases.items
bases_are all group its is = rw is refl

no_bases : (all : List GroupStatics) (group : ℕ) → slice_get all group ≡ None → bases_of all group ≡ []
no_bases all group none = rw none refl

-- a group with bases has its place
found_bases : (all : List GroupStatics) (group base : ℕ) → Contains (bases_of all group) base → (its : GroupStatics) × (slice_get all group ≡ Some its) × Contains its.bases.items base
found_bases all group base has = by (slice_get all group) refl
  where
    by : (found : Option GroupStatics) → slice_get all group ≡ found → (its : GroupStatics) × (slice_get all group ≡ Some its) × Contains its.bases.items base
    by None none = absurd (none_contained base (subst (λ l. Contains l base) (no_bases all group none) has))
    by (Some its) is = (its, is, subst (λ l. Contains l base) (bases_are all group its is) has)

-- one base further
pub reaches_base : (all : List GroupStatics) (group one base : ℕ) → Reaches all group one → Contains (bases_of all one) base → Reaches all group base
reaches_base all group one base (here g) has = let its = found_bases all g base has in along g base base its.0 its.1 its.2 (here base)
reaches_base all group one base (along g next last its is among rest) has = along g next base its is among (reaches_base all next last base rest has)

-- ---- the search

module _ (all : List GroupStatics) (group : ℕ) (old : List ℕ) where
  pub telling_begins : (told added pending : List ℕ) → told ≡ old → added ≡ [] → pending ≡ [] ++ group ∷ [] → IsTelling all group old told added pending
  telling_begins told added pending told_is added_is pending_is = record {
    keys = told_is ∙ sym (ap (λ l. old ++ l) added_is ∙ append_nil old);
    start = inr (subst (λ l. Contains l group) (sym pending_is) (Contains-push [] group));
    reached = λ one has. absurd (none_contained one (subst (λ l. Contains l one) added_is has));
    waiting = λ one has. only one (Contains-push_cases [] group one (subst (λ l. Contains l one) pending_is has));
    closed = λ closed one base its has is among. inl (subst (λ l. Contains l base) (sym told_is) (closed one base its (subst (λ l. Contains l one) told_is has) is among));
  }
    where
      append_nil : (l : List ℕ) → l ++ [] ≡ l
      append_nil [] = refl
      append_nil (x ∷ l) = ap (λ rest. x ∷ rest) (append_nil l)

      only : (one : ℕ) → Contains [] one ⊎ (group ≡ one) → Reaches all group one
      only one (inl has) = absurd (none_contained one has)
      only one (inr same) = subst (Reaches all group) same (here group)

  module _ (told added pending rest : List ℕ) (next : ℕ) (its : IsTelling all group old told added pending) (popped : pending ≡ rest ++ next ∷ []) where
    was_waiting : Contains pending next
    was_waiting = subst (λ l. Contains l next) (sym popped) (Contains-push rest next)

    waited : (one : ℕ) → Contains pending one → Contains rest one ⊎ (next ≡ one)
    waited one has = Contains-push_cases rest next one (subst (λ l. Contains l one) popped has)

    still_waiting : (one : ℕ) → Contains rest one → Contains pending one
    still_waiting one has = subst (λ l. Contains l one) (sym popped) (Contains-append_left rest (next ∷ []) one has)

    -- one that is told of already
    pub telling_again : (told_now : List ℕ) → told_now ≡ told → Contains told next → IsTelling all group old told_now added rest
    telling_again told_now same has = record {
      keys = same ∙ its.keys;
      start = here_or (its.start);
      reached = its.reached;
      waiting = λ one among. its.waiting one (still_waiting one among);
      closed = λ closed one base at among is of_base. based base (its.closed closed one base at (subst (λ l. Contains l one) same among) is of_base);
    }
      where
        based : (base : ℕ) → Contains told base ⊎ Contains pending base → Contains told_now base ⊎ Contains rest base
        based base (inl known) = inl (subst (λ l. Contains l base) (sym same) known)
        based base (inr waits) =
            elim (waited base waits) [
              | inl still ↦ inr still
              | inr is ↦ inl (subst (λ l. Contains l base) (sym same) (subst (Contains told) is has))
            ]

        here_or : Contains told group ⊎ Contains pending group → Contains told_now group ⊎ Contains rest group
        here_or known = based group known

    -- one that is new
    pub telling_more : (told_now added_now pending_now : List ℕ) → told_now ≡ told ++ next ∷ [] → added_now ≡ added ++ next ∷ [] → pending_now ≡ rest ++ bases_of all next
        → IsTelling all group old told_now added_now pending_now
    telling_more told_now added_now pending_now told_is added_is pending_is = record {
      keys = told_is ∙ ap (λ l. l ++ next ∷ []) its.keys ∙ append_assoc old added (next ∷ []) ∙ ap (λ l. old ++ l) (sym added_is);
      start = based group its.start;
      reached = λ one has. reached_now one (Contains-push_cases added next one (subst (λ l. Contains l one) added_is has));
      waiting = λ one has. waiting_now one (Contains-append_cases rest (bases_of all next) one (subst (λ l. Contains l one) pending_is has));
      closed = λ closed one base at has is among. closed_now closed one base at is among (Contains-push_cases told next one (subst (λ l. Contains l one) told_is has));
    }
      where
        known : (one : ℕ) → Contains told one → Contains told_now one
        known one has = subst (λ l. Contains l one) (sym told_is) (Contains-append_left told (next ∷ []) one has)

        this : Contains told_now next
        this = subst (λ l. Contains l next) (sym told_is) (Contains-push told next)

        based : (base : ℕ) → Contains told base ⊎ Contains pending base → Contains told_now base ⊎ Contains pending_now base
        based base (inl has) = inl (known base has)
        based base (inr waits) =
            elim (waited base waits) [
              | inl still ↦ inr (subst (λ l. Contains l base) (sym pending_is) (Contains-append_left rest (bases_of all next) base still))
              | inr is ↦ inl (subst (Contains told_now) is this)
            ]

        reaches_next : Reaches all group next
        reaches_next = its.waiting next was_waiting

        reached_now : (one : ℕ) → Contains added one ⊎ (next ≡ one) → Reaches all group one
        reached_now one (inl has) = its.reached one has
        reached_now one (inr same) = subst (Reaches all group) same reaches_next

        waiting_now : (one : ℕ) → Contains rest one ⊎ Contains (bases_of all next) one → Reaches all group one
        waiting_now one (inl has) = its.waiting one (still_waiting one has)
        waiting_now one (inr has) = reaches_base all group next one reaches_next has

        of_next : (one base : ℕ) (at : GroupStatics) → slice_get all one ≡ Some at → Contains at.bases.items base → next ≡ one → Contains (bases_of all next) base
        of_next one base at is among same = subst (λ l. Contains l base) (sym (ap (bases_of all) same ∙ bases_are all one at is)) among

        closed_now : AreClosed all old → (one base : ℕ) (at : GroupStatics) → slice_get all one ≡ Some at → Contains at.bases.items base → Contains told one ⊎ (next ≡ one) → Contains told_now base ⊎ Contains pending_now base
        closed_now closed one base at is among (inl has) = based base (its.closed closed one base at has is among)
        closed_now closed one base at is among (inr same) =
            inr (subst (λ l. Contains l base) (sym pending_is) (Contains-append_right rest (bases_of all next) base (of_next one base at is among same)))

  -- when nothing waits
  pub telling_ends : (told added pending : List ℕ) → length pending ≡ 0 → IsTelling all group old told added pending → AddsTold all group old told added
  telling_ends told added pending none its = record {
    keys = its.keys;
    told = by group its.start;
    reached = its.reached;
    closed = λ closed one base at has is among. by base (its.closed closed one base at has is among);
  }
    where
      by : (one : ℕ) → Contains told one ⊎ Contains pending one → Contains told one
      by one (inl has) = has
      by one (inr waits) = let less = waits.1 in absurd (omega (arith, less, none))

-- what isn't told of and what waits gets less
pub again_less : (all : List GroupStatics) (told told_now pending rest : List ℕ) (next : ℕ) → told_now ≡ told → pending ≡ rest ++ next ∷ [] → untold all told_now + length rest < untold all told + length pending
again_less all told told_now pending rest next same popped =
    let one = ap (untold all) same in
    let other = ap length popped ∙ length-append rest (next ∷ []) in
    omega (arith, one, other)

pub more_less : (all : List GroupStatics) (told told_now pending rest pending_now : List ℕ) (next : ℕ) → list_any (nat_eq next) told ≡ false → told_now ≡ told ++ next ∷ [] → pending ≡ rest ++ next ∷ []
    → pending_now ≡ rest ++ bases_of all next → untold all told_now + length pending_now < untold all told + length pending
more_less all told told_now pending rest pending_now next none told_is popped pending_is =
    let one = ap (untold all) told_is in
    let less = untold_less all told next none in
    let other = ap length popped ∙ length-append rest (next ∷ []) in
    let more = ap length pending_is ∙ length-append rest (bases_of all next) in
    omega (arith, one, less, other, more)

-- ---- more than one group

pub from_none : (all : List GroupStatics) (bases keys : List ℕ) → keys ≡ [] → AreFromBases all bases keys
from_none all bases keys none = λ group has. absurd (none_contained group (subst (λ l. Contains l group) none has))

pub from_more : (all : List GroupStatics) (bases keys more added : List ℕ) (base : ℕ) → Contains bases base → AreFromBases all bases keys → AddsTold all base keys more added → AreFromBases all bases more
from_more all bases keys more added base among its adds = λ group has. by group (Contains-append_cases keys added group (subst (λ l. Contains l group) adds.keys has))
  where
    by : (group : ℕ) → Contains keys group ⊎ Contains added group → IsFromBase all bases group
    by group (inl has) = its group has
    by group (inr has) = record { base = base; among = among; reached = adds.reached group has }
