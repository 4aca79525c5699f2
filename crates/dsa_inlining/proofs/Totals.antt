-- What is counted in the end.
use Rattle.std.proofs.Common.{◌≡◌, ℕ, ◌+◌, ◌||◌, Bool, false, List, [], ◌∷◌, length, sym, ap, ◌∙◌, arith}
use Rattle.tac_ir.specs.Code.{Tac}
use Rattle.tac_ir.specs.States.{Owner, InStart}
use Rattle.heap_graph.specs.Graphs.{Name, OfGlobal, OfLiteral}
use Rattle.dsa_inlining.specs.declared.before.Before.{Before}
use Rattle.dsa_inlining.specs.declared.mentions.Mentions.{Mentions}
use Rattle.dsa_inlining.specs.declared.tally.Tally.{Tally}
use Rattle.dsa_inlining.specs.Counting as C
use Rattle.dsa_inlining.specs.Counting.{Outside, count_below, total, copies_in, first_global, first_literal}
use Rattle.dsa_inlining.specs.Marks.{is_marked}
use Rattle.dsa_inlining.specs.Tallies.{Adds, IsNew, Counts, any_of, owner_mentions}
use Rattle.dsa_inlining.specs.FirstValues.{first_names}
use Rattle.dsa_inlining.proofs.MarkSteps.{or_false, marks_counted}
use Rattle.dsa_inlining.proofs.GroupCounts.Adding.{adds_both}
use Rattle.dsa_inlining.proofs.GroupCounts.ToldGroups.{told_first}

abbrev pub marked_globals : Mentions → ℕ
marked_globals mentions = count_below (length mentions.globals.items) (is_marked mentions.globals.items)

abbrev pub marked_literals : Mentions → ℕ
marked_literals mentions = count_below (length mentions.literals.items) (is_marked mentions.literals.items)

added : (own copies globals literals : ℕ) → (own + copies) + (globals + literals) ≡ own + (copies + (globals + literals))
added own copies globals literals = omega arith

module _ (tac : Tac) (outside : Outside) (before : Before) (own : ℕ) (old new : Tally) (fresh : IsNew tac own old) where
  pub group_counted : (owners : List Owner) → Counts before (total (copies_in tac outside) owners) (any_of (owner_mentions tac outside) owners) old new
      → new.count + (marked_globals new.mentions + marked_literals new.mentions) ≡ C.group_count tac outside own owners
  group_counted owners counts =
      let adds = counts.names (told_first before old fresh.told) in
      (λ i. (counts.count ∙ ap (λ n. n + total (copies_in tac outside) owners) fresh.count) i
      + (marks_counted (length tac.globals) old.mentions.globals.items new.mentions.globals.items (λ number. any_of (owner_mentions tac outside) owners (OfGlobal number)) fresh.names.globals adds.globals i
      + marks_counted (length tac.literals) old.mentions.literals.items new.mentions.literals.items (λ number. any_of (owner_mentions tac outside) owners (OfLiteral number)) fresh.names.literals adds.literals i))
      ∙ added own (total (copies_in tac outside) owners) (C.globals_counted tac outside (λ number. false) owners) (C.literals_counted tac outside (λ number. false) owners)

  pub start_counted : (mid : Tally) → mid.count ≡ old.count → mid.told ≡ old.told → Adds (first_names tac 0 tac.globals) old.mentions mid.mentions
      → Counts before (copies_in tac outside InStart) (owner_mentions tac outside InStart) mid new → new.count + (marked_globals new.mentions + marked_literals new.mentions) ≡ C.start_count tac outside own
  start_counted mid same kept first counts =
      (λ i. (counts.count ∙ ap (λ n. n + copies_in tac outside InStart) (same ∙ fresh.count)) i + ((globals ∙ more globals_count (first_global tac) (λ number. OfGlobal number)) i + (literals ∙ more literals_count (first_literal tac) (λ number. OfLiteral number)) i))
      ∙ (added own (copies_in tac outside InStart) (C.globals_counted tac outside (first_global tac) (InStart ∷ [])) (C.literals_counted tac outside (first_literal tac) (InStart ∷ []))
      ∙ ap (λ n. own + (n + (C.globals_counted tac outside (first_global tac) (InStart ∷ []) + C.literals_counted tac outside (first_literal tac) (InStart ∷ [])))) (plus_none (copies_in tac outside InStart)))
    where
      plus_none : (n : ℕ) → n ≡ n + 0
      plus_none n = omega arith

      globals_count : ℕ
      globals_count = length tac.globals

      literals_count : ℕ
      literals_count = length tac.literals

      both : Name → Bool
      both name = first_names tac 0 tac.globals name || owner_mentions tac outside InStart name

      all : Adds both old.mentions new.mentions
      all = adds_both (first_names tac 0 tac.globals) (owner_mentions tac outside InStart) old.mentions mid.mentions new.mentions first (counts.names (told_first before mid (ap (λ set. set.keys) kept ∙ fresh.told)))

      globals : marked_globals new.mentions ≡ count_below globals_count (λ number. both (OfGlobal number))
      globals = marks_counted globals_count old.mentions.globals.items new.mentions.globals.items (λ number. both (OfGlobal number)) fresh.names.globals all.globals

      literals : marked_literals new.mentions ≡ count_below literals_count (λ number. both (OfLiteral number))
      literals = marks_counted literals_count old.mentions.literals.items new.mentions.literals.items (λ number. both (OfLiteral number)) fresh.names.literals all.literals

      -- `start` alone is all owners
      more : (count : ℕ) (beside : ℕ → Bool) (name : ℕ → Name) → count_below count (λ number. beside number || owner_mentions tac outside InStart (name number))
          ≡ count_below count (λ number. beside number || (owner_mentions tac outside InStart (name number) || false))
      more count beside name = λ i. count_below count (λ number. beside number || sym (or_false (owner_mentions tac outside InStart (name number))) i)
