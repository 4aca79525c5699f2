-- Marks that are added one after another.
use Rattle.std.proofs.Common.{◌≡◌, ℕ, ◌+◌, ◌<◌, ◌≤◌, ◌⊎◌, inl, inr, true, length, Option, None, refl, sym, subst, ◌∙◌, arith}
use Rattle.std.proofs.lemmas.Bool.{cases_lt}
use Rattle.heap_graph.specs.Graphs.{Target}
use Rattle.heap_graph.specs.Marks.{is_marked, Adds, IsNodeOf, IsAmong}
use Rattle.heap_graph.specs.declared.marks.NodeMarks.{NodeMarks}
use Rattle.heap_graph.proofs.ReachedNodes.Numbers.{marked_within}

-- ---- one after another

pub adds_nothing : (marks : NodeMarks) (added : ℕ → Type 0) → ((number : ℕ) → added number → ⊥) → Adds marks marks added
adds_nothing marks added never = record { size = refl; exactly = λ number within. (λ is. inl is, λ or. by number or) }
  where
    by : (number : ℕ) → is_marked marks number ≡ true ⊎ added number → is_marked marks number ≡ true
    by number (inl is) = is
    by number (inr added) = absurd (never number added)

pub adds_both : (old mid new : NodeMarks) (first second : ℕ → Type 0) → Adds old mid first → Adds mid new second → Adds old new (λ number. first number ⊎ second number)
adds_both old mid new first second one two =
    record {
      size = two.size ∙ one.size;
      exactly = λ number within. (λ is. only number within ((two.exactly number (subst (λ n. number < n) (sym one.size) within)).0 is), λ or. all number within or);
    }
  where
    only : (number : ℕ) → number < length old.marks.items → is_marked mid number ≡ true ⊎ second number → is_marked old number ≡ true ⊎ (first number ⊎ second number)
    only number within (inl is) = by ((one.exactly number within).0 is)
      where
        by : is_marked old number ≡ true ⊎ first number → is_marked old number ≡ true ⊎ (first number ⊎ second number)
        by (inl is) = inl is
        by (inr is) = inr (inl is)
    only number within (inr is) = inr (inr is)

    before : (number : ℕ) → number < length old.marks.items → is_marked old number ≡ true ⊎ first number → is_marked new number ≡ true
    before number within or = (two.exactly number (subst (λ n. number < n) (sym one.size) within)).1 (inl ((one.exactly number within).1 or))

    all : (number : ℕ) → number < length old.marks.items → is_marked old number ≡ true ⊎ (first number ⊎ second number) → is_marked new number ≡ true
    all number within (inl is) = before number within (inl is)
    all number within (inr (inl is)) = before number within (inr is)
    all number within (inr (inr is)) = (two.exactly number (subst (λ n. number < n) (sym one.size) within)).1 (inr is)

-- what is added, said in other words
pub adds_same : (old new : NodeMarks) (added other : ℕ → Type 0) → ((number : ℕ) → added number → other number) → ((number : ℕ) → other number → added number)
    → Adds old new added → Adds old new other
adds_same old new added other to from adds =
    record { size = adds.size; exactly = λ number within. (λ is. forth number ((adds.exactly number within).0 is), λ or. (adds.exactly number within).1 (back number or)) }
  where
    forth : (number : ℕ) → is_marked old number ≡ true ⊎ added number → is_marked old number ≡ true ⊎ other number
    forth number (inl is) = inl is
    forth number (inr is) = inr (to number is)

    back : (number : ℕ) → is_marked old number ≡ true ⊎ other number → is_marked old number ≡ true ⊎ added number
    back number (inl is) = inl is
    back number (inr is) = inr (from number is)

-- ---- in a loop

-- it is the node of one of the first targets
abbrev pub IsAmongFirst : ℕ → (ℕ → Option Target) → ℕ → Type 0
IsAmongFirst count targets number = (place : ℕ) × (place < count) × IsNodeOf (targets place) number

pub adds_none : (marks : NodeMarks) (targets : ℕ → Option Target) → Adds marks marks (IsAmongFirst 0 targets)
adds_none marks targets = adds_nothing marks (IsAmongFirst 0 targets) (λ number found. omega (arith, found.1))

pub one_more : (targets : ℕ → Option Target) (count number : ℕ) → IsAmongFirst count targets number ⊎ IsNodeOf (targets count) number → IsAmongFirst (count + 1) targets number
one_more targets count number (inl found) = (found.0, omega (arith, found.1), found.2)
one_more targets count number (inr is) = (count, omega arith, is)

pub of_more : (targets : ℕ → Option Target) (count number : ℕ) → IsAmongFirst (count + 1) targets number → IsAmongFirst count targets number ⊎ IsNodeOf (targets count) number
of_more targets count number found =
    elim (cases_lt found.0 count) [
      | inl lt ↦ inl (found.0, lt, found.2)
      | inr le ↦ let same : found.0 ≡ count = omega (arith, le, found.1) in inr (subst (λ n. IsNodeOf (targets n) number) same found.2)
    ]

pub adds_more : (old mid new : NodeMarks) (targets : ℕ → Option Target) (count : ℕ) → Adds old mid (IsAmongFirst count targets) → Adds mid new (IsNodeOf (targets count))
    → Adds old new (IsAmongFirst (count + 1) targets)
adds_more old mid new targets count one two =
    adds_same old new (λ number. IsAmongFirst count targets number ⊎ IsNodeOf (targets count) number) (IsAmongFirst (count + 1) targets) (one_more targets count) (of_more targets count)
    (adds_both old mid new (IsAmongFirst count targets) (IsNodeOf (targets count)) one two)

pub adds_all : (old new : NodeMarks) (targets : ℕ → Option Target) (count : ℕ) → ((place : ℕ) → count ≤ place → targets place ≡ None) → Adds old new (IsAmongFirst count targets)
    → Adds old new (IsAmong targets)
adds_all old new targets count past = adds_same old new (IsAmongFirst count targets) (IsAmong targets) (λ number found. (found.0, found.2)) from
  where
    from : (number : ℕ) → IsAmong targets number → IsAmongFirst count targets number
    from number found = elim (cases_lt found.0 count) [ inl lt ↦ (found.0, lt, found.1) | inr le ↦ absurd (subst (λ t. IsNodeOf t number) (past found.0 le) found.1) ]

-- what was marked is still marked
pub adds_kept : (old new : NodeMarks) (added : ℕ → Type 0) → Adds old new added → (number : ℕ) → is_marked old number ≡ true → is_marked new number ≡ true
adds_kept old new added adds number is = (adds.exactly number (marked_within old number is)).1 (inl is)
