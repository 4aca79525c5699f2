-- Marks that are set one after another.
use Rattle.std.proofs.Common.{◌≡◌, ℕ, zero, suc, ◌+◌, ◌<◌, ◌≤◌, ◌==◌, ◌||◌, Bool, true, false, if◌then◌else◌, List, length, drop, get_or, refl, sym, ap, subst, ◌∙◌, arith}
use Rattle.std.proofs.lemmas.List.{drop_more, drop_all}
use Rattle.call_graph.specs.RowLists.{is_among}
use Rattle.dsa_inlining.specs.Counting.{count_below}
use Rattle.dsa_inlining.specs.Marks.{is_marked, AddsMarks, AreUnmarked}

-- ---- Booleans

pub or_false : (a : Bool) → (a || false) ≡ a
or_false true = refl
or_false false = refl

pub or_assoc : (a b c : Bool) → ((a || b) || c) ≡ (a || (b || c))
or_assoc true b c = refl
or_assoc false b c = refl

-- ---- more of them

pub marks_nothing : (test : ℕ → Bool) (marks : List Bool) → ((number : ℕ) → test number ≡ false) → AddsMarks test marks marks
marks_nothing test marks never = record {
  size = refl;
  is = λ number less. sym (or_false (is_marked marks number)) ∙ ap (λ t. is_marked marks number || t) (sym (never number));
}

pub marks_both : (first second : ℕ → Bool) (old mid new : List Bool) → AddsMarks first old mid → AddsMarks second mid new → AddsMarks (λ number. first number || second number) old new
marks_both first second old mid new one two = record {
  size = two.size ∙ one.size;
  is = λ number less.
      two.is number (subst (λ n. number < n) (sym one.size) less)
      ∙ (ap (λ t. t || second number) (one.is number less) ∙ or_assoc (is_marked old number) (first number) (second number));
}

pub marks_same : (test other : ℕ → Bool) (old new : List Bool) → ((number : ℕ) → test number ≡ other number) → AddsMarks test old new → AddsMarks other old new
marks_same test other old new same adds = record {
  size = adds.size;
  is = λ number less. adds.is number less ∙ ap (λ t. is_marked old number || t) (same number);
}

-- ---- in a loop over numbers

pub record MarksLeft (numbers : List ℕ) (start : List Bool) (i : ℕ) (now : List Bool) : Type 0 where
  pub to : (final : List Bool) → AddsMarks (λ number. is_among number (drop i numbers)) now final → AddsMarks (λ number. is_among number numbers) start final

pub marks_start : (numbers : List ℕ) (start : List Bool) → MarksLeft numbers start 0 start
marks_start numbers start = record { to = λ final adds. adds }

pub marks_more : (numbers : List ℕ) (start : List Bool) (i : ℕ) (now mid : List Bool) → i < length numbers → AddsMarks (λ other. get_or numbers i 0 == other) now mid → MarksLeft numbers start i now
    → MarksLeft numbers start (i + 1) mid
marks_more numbers start i now mid less adds left = record {
  to = λ final rest. left.to final
      (marks_same (λ number. (get_or numbers i 0 == number) || is_among number (drop (i + 1) numbers)) (λ number. is_among number (drop i numbers)) now final
      (λ number. ap (is_among number) (sym (drop_more numbers i 0 less)))
      (marks_both (λ other. get_or numbers i 0 == other) (λ number. is_among number (drop (i + 1) numbers)) now mid final adds rest));
}

pub marks_end : (numbers : List ℕ) (start : List Bool) (i : ℕ) (now : List Bool) → length numbers ≤ i → MarksLeft numbers start i now → AddsMarks (λ number. is_among number numbers) start now
marks_end numbers start i now long left = left.to now (marks_nothing (λ number. is_among number (drop i numbers)) now (λ number. ap (is_among number) (drop_all i numbers long)))

-- ---- how many

pub counts_same : (count : ℕ) (test other : ℕ → Bool) → ((number : ℕ) → number < count → test number ≡ other number) → count_below count test ≡ count_below count other
counts_same zero test other same = refl
counts_same (suc count) test other same =
    let rest = counts_same count test other (λ number less. same number (omega (arith, less))) in
    λ i. if same count (omega arith) i then suc (rest i) else rest i

-- fresh marks, to which these were added
pub marks_counted : (count : ℕ) (old new : List Bool) (test : ℕ → Bool) → AreUnmarked count old → AddsMarks test old new → count_below (length new) (is_marked new) ≡ count_below count test
marks_counted count old new test none adds =
    ap (λ n. count_below n (is_marked new)) (adds.size ∙ none.size)
    ∙ counts_same count (is_marked new) test (λ number less. adds.is number (subst (λ n. number < n) (sym none.size) less) ∙ ap (λ t. t || test number) (none.is number))

-- one number more
pub count_more : (marks : List Bool) (i count next : ℕ) (mark : Bool) → is_marked marks i ≡ mark → next ≡ (if mark then count + 1 else count) → count ≡ count_below i (is_marked marks)
    → next ≡ count_below (i + 1) (is_marked marks)
count_more marks i count next mark at is so = is ∙ (by mark at ∙ ap (λ n. count_below n (is_marked marks)) more)
  where
    more : suc i ≡ i + 1
    more = omega arith

    by : (b : Bool) → is_marked marks i ≡ b → (if b then count + 1 else count) ≡ count_below (suc i) (is_marked marks)
    by true e = (omega arith ∙ ap suc so) ∙ ap (λ t. if t then suc (count_below i (is_marked marks)) else count_below i (is_marked marks)) (sym e)
    by false e = so ∙ ap (λ t. if t then suc (count_below i (is_marked marks)) else count_below i (is_marked marks)) (sym e)
