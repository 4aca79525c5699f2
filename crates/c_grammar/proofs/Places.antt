-- Where a refusal stands, and which tree was read.
use Rattle.std.proofs.Common.{◌≡◌, ℕ, suc, ◌+◌, ◌<◌, ◌≤◌, ◌⊎◌, inl, inr, List, [], ◌∷◌, ◌++◌, length, sym, refl, ◌∙◌, ap, subst, arith, append_assoc}
use Rattle.std.proofs.lemmas.List.{append-nil}
use Rattle.c_grammar.specs.Table.{Tree, Table, leaves, height, IsPart}
use Rattle.c_grammar.specs.Runs.{Whole, Fault, Bad, Deep, Outcome, Done, Failed, Run, no_more}
use Rattle.c_grammar.specs.Laws.{Tells, Bounds, Completes, ReadsTrees}
use Rattle.c_grammar.specs.Prefixes.{Accepted, BeginsAccepted, IsMisfit, IsTooDeep}
use Rattle.c_grammar.proofs.Exact.{Verdict, exact}
use Rattle.c_grammar.proofs.Agree.{Agrees, agree}
use Rattle.c_grammar.proofs.Sound.{completes}
use Rattle.c_grammar.proofs.Deep.{deepens}
use Rattle.c_grammar.proofs.Complete.{reads_chain}

refuted : (n limit h : ℕ) → h ≤ limit → (suc n ≤ n) ⊎ (limit < h) → ⊥
refuted n limit h fits (inl le) = omega (arith, le)
refuted n limit h fits (inr lt) = omega (arith, fits, lt)

length_append : {A : Type 0} (xs ys : List A) → length (xs ++ ys) ≡ length xs + length ys
length_append [] ys = omega arith
length_append (x ∷ xs) ys = omega (arith, length_append xs ys)

module _ {Leaf Kind Sort Production : Type 0} (T : Table Leaf Kind Sort Production) (Ends Stands : Sort → ℕ → Tree Leaf Production → List Leaf → Type 0) (tells : Tells T) (bounds : Bounds T) (complete : Completes T) (reads : ReadsTrees T Ends Stands) (sort : Sort) (level : ℕ) (at_text_end : (tree : Tree Leaf Production) → IsPart T sort level tree → Ends sort level tree []) where
  -- an accepted text is read
  pub is_read : (limit : ℕ) (text : List Leaf) (accepted : Accepted T sort level limit text) → Run T (Whole sort level) limit text (Done accepted.tree [])
  is_read limit text accepted =
      let ends = reads.ends sort level accepted.tree [] accepted.spelled (at_text_end accepted.tree accepted.spelled) in
      let run = reads_chain T Ends Stands bounds reads accepted.spelled level (omega arith) [] limit (Done accepted.tree []) ends.1 accepted.nesting (no_more ends.0) in
      subst (λ x. Run T (Whole sort level) limit x (Done accepted.tree [])) (append-nil (leaves accepted.tree) ∙ accepted.same_leaves) run

  one_more : (front others : List Leaf) (leaf : Leaf) → front ++ leaf ∷ others ≡ (front ++ leaf ∷ []) ++ others
  one_more front others leaf = sym (append_assoc front (leaf ∷ []) others)

  verdict_at : (limit larger : ℕ) (text front others : List Leaf) (leaf : Leaf) (fault : Fault) → Run T (Whole sort level) limit text (Failed fault (leaf ∷ others)) → text ≡ front ++ leaf ∷ others → (begins : BeginsAccepted T sort level larger (front ++ leaf ∷ [])) → Verdict T limit others begins.more begins.accepted.tree [] (Failed fault (leaf ∷ others))
  verdict_at limit larger text front others leaf fault run passed begins =
      exact T tells bounds run (front ++ leaf ∷ []) others begins.more ((front ++ leaf ∷ []) ++ begins.more) (passed ∙ one_more front others leaf) refl larger begins.accepted.tree [] (is_read larger ((front ++ leaf ∷ []) ++ begins.more) begins.accepted)

  pub misfit : (limit : ℕ) (text behind : List Leaf) → T.need sort level ≤ limit → Run T (Whole sort level) limit text (Failed Bad behind) → IsMisfit T sort level limit text behind
  misfit limit text behind enough run =
      let c = completes T complete run tt enough in
      record {
        front = c.0.front;
        passed = c.0.passed;
        before = record { more = c.0.more; accepted = record { tree = c.0.tree; spelled = c.0.spelled; same_leaves = c.0.continues; nesting = c.0.fits } };
        none = λ leaf others here larger begins.
            let run1 = subst (λ x. Run T (Whole sort level) limit text (Failed Bad x)) here run in
            let passed = c.0.passed ∙ ap (λ x. c.0.front ++ x) here in
            let verdict : length (leaf ∷ others) ≤ length others = verdict_at limit larger text c.0.front others leaf Bad run1 passed begins in
            absurd (omega (arith, verdict));
      }

  pub same_front : (front front' behind : List Leaf) → front ++ behind ≡ front' ++ behind → front ≡ front'
  same_front [] [] behind e = refl
  same_front [] (x ∷ front') behind e = absurd (omega (arith, ap length e, length_append front' behind))
  same_front (x ∷ front) [] behind e = absurd (omega (arith, ap length e, length_append front behind))
  same_front (x ∷ front) (y ∷ front') behind e =
      let h : x ∷ (front ++ behind) ≡ y ∷ (front' ++ behind) = e in
      let tail : front ++ behind ≡ front' ++ behind = cc h in
      let head : x ≡ y = cc h in
      let rest = same_front front front' behind tail in
      cc (head, rest)

  pub too_deep : (limit : ℕ) (text behind : List Leaf) → T.need sort level ≤ limit → Run T (Whole sort level) limit text (Failed Deep behind) → IsTooDeep T sort level limit text behind
  too_deep limit text behind enough run =
      let c = completes T complete run tt enough in
      let d = deepens T complete run refl in
      let fronts : c.0.front ≡ d.front = same_front c.0.front d.front behind (sym c.0.passed ∙ d.passed) in
      record {
        front = d.front;
        leaf = d.leaf;
        others = d.others;
        passed = d.passed;
        here = d.at;
        before = record { more = c.0.more; accepted = record { tree = c.0.tree; spelled = c.0.spelled; same_leaves = c.0.continues ∙ ap (λ x. x ++ c.0.more) fronts; nesting = c.0.fits } };
        none = λ begins.
            let run1 = subst (λ x. Run T (Whole sort level) limit text (Failed Deep x)) d.at run in
            let passed = d.passed ∙ ap (λ x. d.front ++ x) d.at in
            let verdict : (length (d.leaf ∷ d.others) ≤ length d.others) ⊎ (limit < height T begins.accepted.tree) = verdict_at limit limit text d.front d.others d.leaf Deep run1 passed begins in
            refuted (length d.others) limit (height T begins.accepted.tree) begins.accepted.nesting verdict;
        larger = height T d.tree;
        deeper = record { more = d.more; accepted = record { tree = d.tree; spelled = d.spelled; same_leaves = d.continues ∙ one_more d.front d.more d.leaf; nesting = omega arith } };
      }

  -- What is read is the tree of the text, whatever its height.
  pub only : (limit : ℕ) (text : List Leaf) (outcome : Outcome Leaf Production) → Run T (Whole sort level) limit text outcome → (larger : ℕ) (accepted : Accepted T sort level larger text) → Agrees T limit accepted.tree [] outcome
  only limit text outcome run larger accepted = agree T bounds run text refl larger accepted.tree [] (is_read larger text accepted)
