-- Names that are mentioned one after another.
use Rattle.std.proofs.Common.{◌≡◌, ℕ, ◌+◌, ◌<◌, ◌≤◌, ◌||◌, Bool, false, List, ◌∷◌, map, drop, length, get_or, refl, sym, ap, subst, ◌∙◌, arith}
use Rattle.std.proofs.lemmas.List.{drop_more, drop_all}
use Rattle.heap_graph.specs.Graphs.{Name, OfGlobal, OfLiteral}
use Rattle.dsa_inlining.specs.declared.before.Before.{Before}
use Rattle.dsa_inlining.specs.declared.mentions.Mentions.{Mentions}
use Rattle.dsa_inlining.specs.declared.tally.Tally.{Tally}
use Rattle.dsa_inlining.specs.Counting.{total}
use Rattle.dsa_inlining.specs.Tallies.{Adds, Counts, any_of}
use Rattle.dsa_inlining.proofs.MarkSteps.{marks_nothing, marks_both, marks_same}

-- ---- names

pub adds_nothing : (names : Name → Bool) (mentions : Mentions) → ((name : Name) → names name ≡ false) → Adds names mentions mentions
adds_nothing names mentions never = record {
  globals = marks_nothing (λ number. names (OfGlobal number)) mentions.globals.items (λ number. never (OfGlobal number));
  literals = marks_nothing (λ number. names (OfLiteral number)) mentions.literals.items (λ number. never (OfLiteral number));
}

pub adds_both : (first second : Name → Bool) (old mid new : Mentions) → Adds first old mid → Adds second mid new → Adds (λ name. first name || second name) old new
adds_both first second old mid new one two = record {
  globals = marks_both (λ number. first (OfGlobal number)) (λ number. second (OfGlobal number)) old.globals.items mid.globals.items new.globals.items one.globals two.globals;
  literals = marks_both (λ number. first (OfLiteral number)) (λ number. second (OfLiteral number)) old.literals.items mid.literals.items new.literals.items one.literals two.literals;
}

pub adds_same : (names other : Name → Bool) (old new : Mentions) → ((name : Name) → names name ≡ other name) → Adds names old new → Adds other old new
adds_same names other old new same adds = record {
  globals = marks_same (λ number. names (OfGlobal number)) (λ number. other (OfGlobal number)) old.globals.items new.globals.items (λ number. same (OfGlobal number)) adds.globals;
  literals = marks_same (λ number. names (OfLiteral number)) (λ number. other (OfLiteral number)) old.literals.items new.literals.items (λ number. same (OfLiteral number)) adds.literals;
}

-- in a loop over numbers: adding the names of those that are left adds all
module _ (names : ℕ → Name → Bool) (numbers : List ℕ) (start : Mentions) where
  pub record NamesLeft (i : ℕ) (now : Mentions) : Type 0 where
    pub to : (final : Mentions) → Adds (any_of names (drop i numbers)) now final → Adds (any_of names numbers) start final

  pub names_start : NamesLeft 0 start
  names_start = record { to = λ final adds. adds }

  pub names_more : (i : ℕ) → i < length numbers → (now mid : Mentions) → Adds (names (get_or numbers i 0)) now mid → NamesLeft i now → NamesLeft (i + 1) mid
  names_more i within now mid adds left = record {
    to = λ final rest. left.to final (subst (λ l. Adds (any_of names l) now final) (sym (drop_more numbers i 0 within))
        (adds_both (names (get_or numbers i 0)) (any_of names (drop (i + 1) numbers)) now mid final adds rest));
  }

  pub names_end : (i : ℕ) (now : Mentions) → length numbers ≤ i → NamesLeft i now → Adds (any_of names numbers) start now
  names_end i now out left = left.to now (subst (λ l. Adds (any_of names l) now now) (sym (drop_all i numbers out)) (adds_nothing (λ name. false) now (λ name. refl)))

-- ---- with counts

pub counts_nothing : (before : Before) (names : Name → Bool) (tally : Tally) → ((name : Name) → names name ≡ false) → Counts before 0 names tally tally
counts_nothing before names tally never = record { count = omega arith; names = λ are. adds_nothing names tally.mentions never; told = λ are. are }

pub counts_both : (before : Before) (more most : ℕ) (first second : Name → Bool) (old mid new : Tally) → Counts before more first old mid → Counts before most second mid new
    → Counts before (more + most) (λ name. first name || second name) old new
counts_both before more most first second old mid new one two = record {
  count = let a : mid.count ≡ old.count + more = one.count in let b : new.count ≡ mid.count + most = two.count in omega (arith, a, b);
  names = λ are. adds_both first second old.mentions mid.mentions new.mentions (one.names are) (two.names (one.told are));
  told = λ are. two.told (one.told are);
}

pub counts_same : (before : Before) (more most : ℕ) (names other : Name → Bool) (old new : Tally) → more ≡ most → ((name : Name) → names name ≡ other name) → Counts before more names old new → Counts before most other old new
counts_same before more most names other old new equal same counts = record {
  count = counts.count ∙ ap (λ n. old.count + n) equal;
  names = λ are. adds_same names other old.mentions new.mentions same (counts.names are);
  told = counts.told;
}

-- ---- in a loop: counting what is left counts all

module _ {X Y : Type 0} (before : Before) (f : X → Y) (of : Y → ℕ) (names : Y → Name → Bool) (xs : List X) (start : Tally) where
  pub record Left (i : ℕ) (now : Tally) : Type 0 where
    pub to : (final : Tally) → Counts before (total of (map f (drop i xs))) (any_of names (map f (drop i xs))) now final → Counts before (total of (map f xs)) (any_of names (map f xs)) start final

  pub at_start : Left 0 start
  at_start = record { to = λ final counts. counts }

  split : (i : ℕ) (d x : X) → x ≡ get_or xs i d → i < length xs → map f (drop i xs) ≡ f x ∷ map f (drop (i + 1) xs)
  split i d x is within = ap (map f) (drop_more xs i d within) ∙ ap (λ y. f y ∷ map f (drop (i + 1) xs)) (sym is)

  pub one_more : (i : ℕ) (d x : X) → x ≡ get_or xs i d → i < length xs → (now mid : Tally) → Counts before (of (f x)) (names (f x)) now mid → Left i now → Left (i + 1) mid
  one_more i d x is within now mid counts left = record {
    to = λ final rest. left.to final (subst (λ l. Counts before (total of l) (any_of names l) now final) (sym (split i d x is within))
        (counts_both before (of (f x)) (total of (map f (drop (i + 1) xs))) (names (f x)) (any_of names (map f (drop (i + 1) xs))) now mid final counts rest));
  }

  pub ends : (i : ℕ) (now : Tally) → length xs ≤ i → Left i now → Counts before (total of (map f xs)) (any_of names (map f xs)) start now
  ends i now out left = left.to now (subst (λ l. Counts before (total of (map f l)) (any_of names (map f l)) now now) (sym (drop_all i xs out)) (counts_nothing before (λ name. false) now (λ name. refl)))
