-- Copies of which is told what types tell, one after another.
use Rattle.std.proofs.Common.{◌≡◌, ℕ, ◌+◌, ◌<◌, ◌≤◌, ◌⊎◌, inl, inr, List, length, Some, sym, ap, subst, ◌∙◌, eqb-true, arith}
use Rattle.std.specs.Prelude.{slice_get}
use Rattle.std.proofs.lemmas.Bool.{and_parts, cases_eq}
use Rattle.std.proofs.lemmas.Option.{same_Some, slice_get_within}
use Rattle.std.proofs.lemmas.Map.Entries.{place_from_lookup}
use Rattle.heap_graph.specs.Graphs.{Graph}
use Rattle.heap_graph.specs.declared.program.Crossing.{Crossing}
use Rattle.heap_graph.specs.Programs.{is_crossing}
use Rattle.dsa_inlining.specs.declared.copies.Copies.{Copies}
use Rattle.dsa_inlining.specs.Copied.{numbers_in}
use Rattle.dsa_inlining.specs.CallCopies.Telling.{CopiesTold, ArraysTold}
use Rattle.dsa_inlining.proofs.Told.{copies_told}
use Rattle.dsa_inlining.specs.declared.before.Crossings.{Crossings}
use Rattle.dsa_inlining.specs.Before.{GraphsBefore, IsReached, nodes_reached}
use Rattle.dsa_inlining.specs.Crossings.{copies_at, AllCopiesTold}

-- ---- the first of a list

abbrev pub EachFirst : {X : Type 0} → (X → Type 0) → List X → ℕ → Type 0
EachFirst holds items count = (place : ℕ) (item : _) → place < count → slice_get items place ≡ Some item → holds item

module _ {X : Type 0} (holds : X → Type 0) (items : List X) where
  pub first_more : (count : ℕ) (item : X) → slice_get items count ≡ Some item → EachFirst holds items count → holds item → EachFirst holds items (count + 1)
  first_more count item is each last place other less there = by (cases_eq place count)
    where
      by : (place ≡ count) ⊎ (place ≡ count → ⊥) → holds other
      by (inl same) = subst holds (same_Some item other (sym is ∙ ap (slice_get items) (sym same) ∙ there)) last
      by (inr apart) = each place other (omega (arith, less, apart)) there

  pub first_all : (count : ℕ) → length items ≤ count → EachFirst holds items count → (place : ℕ) (item : X) → slice_get items place ≡ Some item → holds item
  first_all count long each place item there = let within = slice_get_within items place item there in each place item (omega (arith, long, within)) there

-- ---- copies

-- it is told of the copies at one call
abbrev pub OneTold : GraphsBefore → Graph → ℕ → Copies → Type 0
OneTold before graph called copies = (reached : IsReached before called) → CopiesTold graph (nodes_reached before called reached) (numbers_in copies)

abbrev pub EntryTold : GraphsBefore → Graph → Crossing × Copies → Type 0
EntryTold before graph entry = OneTold before graph entry.0.called entry.1

-- of those at the calls of one function
abbrev pub OwnTold : GraphsBefore → Graph → Crossings → Type 0
OwnTold before graph own = (site called : ℕ) (copies : Copies) → copies_at own site called ≡ Some copies → OneTold before graph called copies

module _ (before : GraphsBefore) (old new : Graph) (arrays : ArraysTold old new) where
  pub one_still : (called : ℕ) (copies : Copies) → OneTold before old called copies → OneTold before new called copies
  one_still called copies told reached = copies_told old new (nodes_reached before called reached) (numbers_in copies) arrays (told reached)

  pub entries_still : (entries : List (Crossing × Copies)) (count : ℕ) → EachFirst (EntryTold before old) entries count → EachFirst (EntryTold before new) entries count
  entries_still entries count told place entry less there = one_still entry.0.called entry.1 (told place entry less there)

  pub owners_still : (all : List Crossings) (count : ℕ) → EachFirst (OwnTold before old) all count → EachFirst (OwnTold before new) all count
  owners_still all count told place own less there = λ site called copies at. one_still called copies (told place own less there site called copies at)

-- where it is told of all entries, it is of those at each call
pub own_told : (before : GraphsBefore) (graph : Graph) (own : Crossings) (count : ℕ) → length own.copies.entries ≤ count → EachFirst (EntryTold before graph) own.copies.entries count → OwnTold before graph own
own_told before graph own count long told = λ site called copies at.
    let found = place_from_lookup (is_crossing site called) own.copies.entries copies at in
    let same : found.1.called ≡ called = eqb-true found.1.called called (and_parts _ _ found.3).1 in
    subst (λ function. OneTold before graph function copies) same (first_all (EntryTold before graph) own.copies.entries count long told found.0 (found.1, copies) found.2)

pub all_told : (before : GraphsBefore) (graph : Graph) (all : List Crossings) (count : ℕ) → length all ≤ count → EachFirst (OwnTold before graph) all count → AllCopiesTold before all graph
all_told before graph all count long told = λ place own site called copies there at. first_all (OwnTold before graph) all count long told place own there site called copies at
