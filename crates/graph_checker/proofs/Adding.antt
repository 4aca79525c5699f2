-- A loop that adds nodes for each of a list: adding those for what is left adds all.
use Rattle.std.proofs.Common.{◌≡◌, ℕ, ◌+◌, ◌<◌, ◌≤◌, List, ◌∷◌, map, drop, length, get_or, sym, ap, subst, ◌∙◌}
use Rattle.std.proofs.lemmas.List.{drop_more, drop_all}
use Rattle.heap_graph.specs.declared.marks.NodeMarks.{NodeMarks}
use Rattle.heap_graph.specs.Marks.{Adds}
use Rattle.heap_graph.proofs.Adding.{adds_nothing, adds_both}
use Rattle.graph_checker.specs.Needed.{AnyOf}

module _ {X Y : Type 0} (f : X → Y) (Has : Y → ℕ → Type 0) (xs : List X) (old : NodeMarks) where
  abbrev pub Rest : ℕ → ℕ → Type 0
  Rest i = AnyOf Has (map f (drop i xs))

  pub record Left (i : ℕ) (now : NodeMarks) : Type 0 where
    pub to : (final : NodeMarks) → Adds now final (Rest i) → Adds old final (AnyOf Has (map f xs))

  pub at_start : Left 0 old
  at_start = record { to = λ final adds. adds }

  split : (i : ℕ) (d x : X) → x ≡ get_or xs i d → i < length xs → map f (drop i xs) ≡ f x ∷ map f (drop (i + 1) xs)
  split i d x is within = ap (map f) (drop_more xs i d within) ∙ ap (λ y. f y ∷ map f (drop (i + 1) xs)) (sym is)

  pub one_more : (i : ℕ) (d x : X) → x ≡ get_or xs i d → i < length xs → (now mid : NodeMarks) → Adds now mid (Has (f x)) → Left i now → Left (i + 1) mid
  one_more i d x is within now mid adds left = record {
    to = λ final rest. left.to final (subst (λ l. Adds now final (AnyOf Has l)) (sym (split i d x is within)) (adds_both now mid final (Has (f x)) (Rest (i + 1)) adds rest));
  }

  pub ends : (i : ℕ) (now : NodeMarks) → length xs ≤ i → Left i now → Adds old now (AnyOf Has (map f xs))
  ends i now out left = left.to now (adds_nothing now (Rest i) (λ number any. subst (λ l. AnyOf Has (map f l) number) (drop_all i xs out) any))
