-- Embeddings of calls, one after another.
use Rattle.std.proofs.Common.{◌≡◌, ℕ, zero, suc, ◌+◌, ◌==◌, Bool, true, false, cond, List, [], ◌∷◌, length, take, Option, Some, None, refl, sym, ap, subst, ◌∙◌, eqb-true, eq-eqb, arith}
use Rattle.std.specs.Prelude.{◌&&◌, slice_get}
use Rattle.std.specs.Bool.{Decides}
use Rattle.std.specs.Cmp.{IsEquivalence, decided}
use Rattle.std.specs.Map.{lookup}
use Rattle.std.proofs.lemmas.Bool.{and_parts, and_from}
use Rattle.std.proofs.lemmas.Option.{none-some, same_Some}
use Rattle.std.proofs.lemmas.Map.Entries.{lookup_from_place}
use Rattle.indexmap.specs.IndexMap.{IndexMap, IsUnique, get_by, get, Updates}
use Rattle.heap_graph.specs.declared.graph.Target as memory_target
use Rattle.heap_graph.specs.Graphs.{Graph}
use Rattle.heap_graph.specs.declared.program.Crossing.{Crossing}
use Rattle.heap_graph.specs.Programs.{is_crossing}
use Rattle.dsa_inlining.specs.declared.copies.Copies.{Copies}
use Rattle.dsa_inlining.specs.Copies.{TellsCopies}
use Rattle.dsa_inlining.specs.declared.before.Crossings.{Crossings}
use Rattle.dsa_inlining.specs.Crossings.{TellsEntry, TellsCrossings}

-- ---- calls

abbrev pub same_call : Crossing → Crossing → Bool
same_call a b = (a.site == b.site) && (a.called == b.called)

same_decides : (a b : Crossing) → Decides (same_call a b) (a ≡ b)
same_decides a b = (
  λ h. let parts = and_parts _ _ h in λ i. record { site = eqb-true a.site b.site parts.0 i; called = eqb-true a.called b.called parts.1 i },
  λ e. and_from _ _ (eq-eqb a.site b.site (ap (λ (c : Crossing). c.site) e)) (eq-eqb a.called b.called (ap (λ (c : Crossing). c.called) e)),
)

same_equivalence : IsEquivalence same_call
same_equivalence = decided same_call same_decides

-- keys are compared either way
found_by : {V S : Type 0} (map' : IndexMap Crossing V S) (site called : ℕ) → get same_call map' (record { site = site; called = called }) ≡ get_by (is_crossing site called) map'
found_by map' site called = λ i. get_by (λ (key : Crossing). same_equivalence.symm (record { site = site; called = called }) key i) map'

-- the copies that stand at a place are those at its call
pub call_found : {V S : Type 0} (map' : IndexMap Crossing V S) → IsUnique same_call map' → (place : ℕ) (call : Crossing) (value : V) → slice_get map'.entries place ≡ Some (call, value)
    → get_by (is_crossing call.site call.called) map' ≡ Some value
call_found map' unique place call value is = sym (found_by map' call.site call.called) ∙ lookup_from_place same_equivalence map'.entries place call value unique is

-- ---- entries of a list

abbrev or_else : {V : Type 0} → Option V → Option V → Option V
or_else None other = other
or_else (Some value) other = Some value

module _ {K V : Type 0} (test : K → Bool) where
  -- what is found among the first is found among all
  found_first : (entries : List (K × V)) (count : ℕ) (value : V) → lookup test (take count entries) ≡ Some value → lookup test entries ≡ Some value
  found_first [] zero value is = is
  found_first [] (suc count) value is = is
  found_first (entry ∷ entries) zero value is = absurd (none-some value is)
  found_first (entry ∷ entries) (suc count) value is = by (test entry.0) is (found_first entries count value)
    where
      by : (b : Bool) → cond b (Some entry.1) (lookup test (take count entries)) ≡ Some value → (lookup test (take count entries) ≡ Some value → lookup test entries ≡ Some value)
          → cond b (Some entry.1) (lookup test entries) ≡ Some value
      by true e later = e
      by false e later = later e

  one_more : (entries : List (K × V)) (count : ℕ) (entry : K × V) → slice_get entries count ≡ Some entry
      → lookup test (take (suc count) entries) ≡ or_else (lookup test (take count entries)) (cond (test entry.0) (Some entry.1) None)
  one_more [] count entry is = absurd (none-some entry is)
  one_more (first ∷ entries) zero entry is = ap (λ (e : K × V). cond (test e.0) (Some e.1) None) (same_Some first entry is)
  one_more (first ∷ entries) (suc count) entry is = by (test first.0) (one_more entries count entry is)
    where
      by : (b : Bool) → lookup test (take (suc count) entries) ≡ or_else (lookup test (take count entries)) (cond (test entry.0) (Some entry.1) None)
          → cond b (Some first.1) (lookup test (take (suc count) entries)) ≡ or_else (cond b (Some first.1) (lookup test (take count entries))) (cond (test entry.0) (Some entry.1) None)
      by true e = refl
      by false e = e

take_all : {X : Type 0} (items : List X) → take (length items) items ≡ items
take_all [] = refl
take_all (item ∷ items) = ap (λ l. item ∷ l) (take_all items)

-- ---- embeddings

abbrev Embeddings : Type 0 → Type 0 → Type 0
Embeddings S T = IndexMap Crossing (IndexMap ℕ memory_target.Target S) T

-- what is found among the first entries
abbrev pub first_found : List (Crossing × Copies) → ℕ → ℕ → ℕ → Option Copies
first_found entries count site called = lookup (is_crossing site called) (take count entries)

-- it is told of the first entries
abbrev pub TellsFirst : {S T : Type 0} → Graph → List (Crossing × Copies) → ℕ → IndexMap Crossing (IndexMap ℕ memory_target.Target S) T → Type 0
TellsFirst graph entries count embeddings = (site called : ℕ) → TellsEntry graph (first_found entries count site called) (get_by (is_crossing site called) embeddings)

-- no call is among none
pub tells_none : {S T : Type 0} (graph : Graph) (entries : List (Crossing × Copies)) (embeddings : IndexMap Crossing (IndexMap ℕ memory_target.Target S) T) → embeddings.entries ≡ [] → TellsFirst graph entries 0 embeddings
tells_none graph entries embeddings empty site called =
    subst (λ (es : List (Crossing × IndexMap ℕ memory_target.Target _)). TellsEntry graph None (lookup (is_crossing site called) es)) (sym empty) tt

module _ {S T U : Type 0} (graph : Graph) (copies : IndexMap Crossing Copies S) (unique : IsUnique same_call copies) (count : ℕ) (entry : Crossing × Copies) (is : slice_get copies.entries count ≡ Some entry)
    (old new : IndexMap Crossing (IndexMap ℕ memory_target.Target T) U) (targets : IndexMap ℕ memory_target.Target T) (told : TellsCopies graph entry.1.names targets)
    (updates : Updates same_call old new entry.0 (Some targets)) (tells : TellsFirst graph copies.entries count old) where
  -- whatever was found of this call before, it has the same copies
  same_copies : (site called : ℕ) → is_crossing site called entry.0 ≡ true → (value : Copies) → first_found copies.entries count site called ≡ Some value → value ≡ entry.1
  same_copies site called here value found =
      let same : entry.0 ≡ record { site = site; called = called } = (same_decides entry.0 (record { site = site; called = called })).0 here in
      same_Some value entry.1
      (sym (found_first (is_crossing site called) copies.entries count value found) ∙ sym (found_by copies site called) ∙ ap (get same_call copies) (sym same)
      ∙ lookup_from_place same_equivalence copies.entries count entry.0 entry.1 unique is)

  more : (site called : ℕ) (here : Bool) → is_crossing site called entry.0 ≡ here → (found : Option Copies) → first_found copies.entries count site called ≡ found
      → TellsEntry graph found (get_by (is_crossing site called) old) → TellsEntry graph (or_else found (cond here (Some entry.1) None)) (cond here (Some targets) (get_by (is_crossing site called) old))
  more site called true e None f was = told
  more site called true e (Some value) f was = subst (λ (c : Copies). TellsCopies graph c.names targets) (sym (same_copies site called e value f)) told
  more site called false e None f was = was
  more site called false e (Some value) f was = was

  pub tells_more : TellsFirst graph copies.entries (count + 1) new
  tells_more site called =
      let next : suc count ≡ count + 1 = omega arith in
      subst (λ n. TellsEntry graph (first_found copies.entries n site called) (get_by (is_crossing site called) new)) next
      (subst (λ o. TellsEntry graph o (get_by (is_crossing site called) new)) (sym (one_more (is_crossing site called) copies.entries count entry is))
      (subst (λ o. TellsEntry graph (or_else (first_found copies.entries count site called) (cond (is_crossing site called entry.0) (Some entry.1) None)) o) (sym now)
      (more site called (is_crossing site called entry.0) refl (first_found copies.entries count site called) refl (tells site called))))
    where
      now : get_by (is_crossing site called) new ≡ cond (is_crossing site called entry.0) (Some targets) (get_by (is_crossing site called) old)
      now = sym (found_by new site called) ∙ updates.0 (record { site = site; called = called }) ∙ ap (cond (is_crossing site called entry.0) (Some targets)) (found_by old site called)

-- it is told of all
pub tells_all : {S T : Type 0} (graph : Graph) (own : Crossings) (embeddings : IndexMap Crossing (IndexMap ℕ memory_target.Target S) T) (count : ℕ) → count ≡ length own.copies.entries
    → TellsFirst graph own.copies.entries count embeddings → TellsCrossings graph own embeddings
tells_all graph own embeddings count long tells = λ site called.
    subst (λ (l : List (Crossing × Copies)). TellsEntry graph (lookup (is_crossing site called) l) (get_by (is_crossing site called) embeddings)) (ap (λ n. take n own.copies.entries) long ∙ take_all own.copies.entries) (tells site called)
