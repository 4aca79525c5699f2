-- A search that grows.
use Rattle.std.proofs.Common.{◌≡◌, ℕ, ◌+◌, ◌<◌, ◌⊎◌, inl, inr, Bool, true, false, not, cond, [], ◌∷◌, ◌++◌, length, get_or, set, Contains, count_by, Option, refl, sym, ap, subst, ◌∙◌, arith}
use Rattle.std.proofs.lemmas.Bool.{cases_lt, cases_eq}
use Rattle.std.proofs.lemmas.List.{length-set, get_or-set_same, get_or-set_other, get_or_past, get_or_default, length_push}
use Rattle.std.proofs.lemmas.List.Elements.{Contains-append_left, Contains-push, Contains-push_cases}
use Rattle.std.proofs.lemmas.List.Sums.{sum_by-set}
use Rattle.heap_graph.specs.Graphs.{Target}
use Rattle.heap_graph.specs.declared.search.Search.{Search}
use Rattle.heap_graph.specs.Marks.{is_marked, Adds, IsNodeOf}
use Rattle.heap_graph.specs.Edges.{unmarked, Grows}
use Rattle.heap_graph.proofs.Adding.{IsAmongFirst, one_more, of_more, adds_nothing, adds_both, adds_same, adds_kept}

-- ---- a node that is come to

pub is_unset : (result mark : Bool) → result ≡ not mark → result ≡ true → mark ≡ false
is_unset result false is new = refl
is_unset result true is new = cc

-- one that was marked, or that isn't one of the graph's
pub grows_not : (search : Search) (number : ℕ) → get_or search.found.marks.items number true ≡ true → Grows search search (λ other. number ≡ other)
grows_not search number known =
    record {
      marks = record { size = refl; exactly = λ other within. (λ is. inl is, λ or. by other within or) };
      waits = λ other is. inl is;
      kept = λ other has. has;
      known = λ other has. inl has;
      left = refl;
    }
  where
    by : (other : ℕ) → other < length search.found.marks.items → is_marked search.found other ≡ true ⊎ (number ≡ other) → is_marked search.found other ≡ true
    by other within (inl is) = is
    by other within (inr same) = get_or_default search.found.marks.items other false true within ∙ subst (λ n. get_or search.found.marks.items n true ≡ true) same known

-- one that wasn't
module _ (old new : Search) (number : ℕ) (unknown : get_or old.found.marks.items number true ≡ false) (marked : new.found.marks.items ≡ set old.found.marks.items number true)
    (waiting : new.pending.items ≡ old.pending.items ++ number ∷ []) where
  own_within : number < length old.found.marks.items
  own_within = elim (cases_lt number (length old.found.marks.items)) [ inl lt ↦ lt | inr le ↦ absurd (cc (get_or_past old.found.marks.items number true le)) ]

  own_marked : is_marked new.found number ≡ true
  own_marked = ap (λ l. get_or l number false) marked ∙ get_or-set_same old.found.marks.items number true false own_within

  other_marked : (other : ℕ) → (other ≡ number → ⊥) → is_marked new.found other ≡ is_marked old.found other
  other_marked other differs = ap (λ l. get_or l other false) marked ∙ get_or-set_other old.found.marks.items number other true false differs

  one_marked : Adds old.found new.found (λ other. number ≡ other)
  one_marked =
      record {
        size = ap length marked ∙ length-set old.found.marks.items number true;
        exactly = λ other within. (λ is. elim (cases_eq other number) [ inl same ↦ inr (sym same) | inr differs ↦ inl (sym (other_marked other differs) ∙ is) ], λ or. by other or);
      }
    where
      still : (other : ℕ) → is_marked old.found other ≡ true → is_marked new.found other ≡ true
      still other is = elim (cases_eq other number) [ inl same ↦ subst (λ n. is_marked new.found n ≡ true) (sym same) own_marked | inr differs ↦ other_marked other differs ∙ is ]

      by : (other : ℕ) → is_marked old.found other ≡ true ⊎ (number ≡ other) → is_marked new.found other ≡ true
      by other (inl is) = still other is
      by other (inr same) = subst (λ n. is_marked new.found n ≡ true) same own_marked

  own_waits : Contains new.pending.items number
  own_waits = subst (λ l. Contains l number) (sym waiting) (Contains-push old.pending.items number)

  one_less : unmarked new.found + length new.pending.items ≡ unmarked old.found + length old.pending.items
  one_less =
      let items = old.found.marks.items in
      let unset : get_or items number false ≡ false = get_or_default items number false true own_within ∙ unknown in
      let weights = sum_by-set (λ b. cond (not b) 1 0) items number true false own_within in
      let own : ◌≡◌ {A = ℕ} (cond (not (get_or items number false)) 1 0) 1 = ap (λ b. cond (not b) 1 0) unset in
      omega (arith, weights, own, ap (count_by not) marked, ap length waiting, length_push old.pending.items number)

  pub grows_one : Grows old new (λ other. number ≡ other)
  grows_one =
      record {
        marks = one_marked;
        waits = λ other is. elim (cases_eq other number) [ inl same ↦ inr (subst (Contains new.pending.items) (sym same) own_waits) | inr differs ↦ inl (sym (other_marked other differs) ∙ is) ];
        kept = λ other has. subst (λ l. Contains l other) (sym waiting) (Contains-append_left old.pending.items (number ∷ []) other has);
        known = λ other has. elim (Contains-push_cases old.pending.items number other (subst (λ l. Contains l other) waiting has)) [
          | inl before ↦ inl before
          | inr same ↦ inr (subst (λ n. is_marked new.found n ≡ true) same own_marked)
        ];
        left = one_less;
      }

-- ---- one after another

pub grows_nothing : (search : Search) (added : ℕ → Type 0) → ((number : ℕ) → added number → ⊥) → Grows search search added
grows_nothing search added never =
    record { marks = adds_nothing search.found added never; waits = λ other is. inl is; kept = λ other has. has; known = λ other has. inl has; left = refl }

pub grows_both : (old mid new : Search) (first second : ℕ → Type 0) → Grows old mid first → Grows mid new second → Grows old new (λ number. first number ⊎ second number)
grows_both old mid new first second one two =
    record {
      marks = adds_both old.found mid.found new.found first second one.marks two.marks;
      waits = λ other is. waits other (two.waits other is);
      kept = λ other has. two.kept other (one.kept other has);
      known = λ other has. known other (two.known other has);
      left = two.left ∙ one.left;
    }
  where
    waits : (other : ℕ) → is_marked mid.found other ≡ true ⊎ Contains new.pending.items other → is_marked old.found other ≡ true ⊎ Contains new.pending.items other
    waits other (inl is) = elim (one.waits other is) [ inl before ↦ inl before | inr has ↦ inr (two.kept other has) ]
    waits other (inr has) = inr has

    known : (other : ℕ) → Contains mid.pending.items other ⊎ (is_marked new.found other ≡ true) → Contains old.pending.items other ⊎ (is_marked new.found other ≡ true)
    known other (inl has) = elim (one.known other has) [ inl before ↦ inl before | inr is ↦ inr (adds_kept mid.found new.found second two.marks other is) ]
    known other (inr is) = inr is

pub grows_same : (old new : Search) (added other : ℕ → Type 0) → ((number : ℕ) → added number → other number) → ((number : ℕ) → other number → added number)
    → Grows old new added → Grows old new other
grows_same old new added other to from grows = record { marks = adds_same old.found new.found added other to from grows.marks; waits = grows.waits; kept = grows.kept; known = grows.known; left = grows.left }

-- ---- in a loop

pub grows_none : (search : Search) (targets : ℕ → Option Target) → Grows search search (IsAmongFirst 0 targets)
grows_none search targets = grows_nothing search (IsAmongFirst 0 targets) (λ number found. omega (arith, found.1))

pub grows_more : (old mid new : Search) (targets : ℕ → Option Target) (count : ℕ) → Grows old mid (IsAmongFirst count targets) → Grows mid new (IsNodeOf (targets count))
    → Grows old new (IsAmongFirst (count + 1) targets)
grows_more old mid new targets count one two =
    grows_same old new (λ number. IsAmongFirst count targets number ⊎ IsNodeOf (targets count) number) (IsAmongFirst (count + 1) targets) (one_more targets count) (of_more targets count)
    (grows_both old mid new (IsAmongFirst count targets) (IsNodeOf (targets count)) one two)
