-- Each step of the search for strong components keeps what is known.
use Rattle.std.proofs.Common.{◌≡◌, ℕ, ◌+◌, ◌<◌, ◌≤◌, ◌⊎◌, inl, inr, sym, subst, arith}
use Rattle.std.proofs.lemmas.Bool.{cases_lt}
use Rattle.call_graph.specs.Search.{Path, stay, along, IsFound, is_done, is_open, IsSearch}

pub joined : (Edge : ℕ → ℕ → Type 0) (x y z : ℕ) → Path Edge x y → Path Edge y z → Path Edge x z
joined Edge x y z (stay _) q = q
joined Edge x y z (along _ next _ edge p) q = along x next z edge (joined Edge next y z p q)

module _ (Edge opened done : ℕ → ℕ → Type 0) (starts : ℕ → Type 0) (waits : ℕ → ℕ → Type 0) (count size : ℕ) (known : IsSearch Edge opened done starts waits count size) where
  -- All open nodes reach the source of an edge that waits, where no start stands above it.
  pub reach_source : (i x : ℕ) → opened x i → ((s : ℕ) → starts s → s ≤ i) → (z j : ℕ) → opened z j → Path Edge z x
  reach_source i x at top z j there = elim (cases_lt i j) [
    | inl above ↦ known.back x z i j at there (omega (arith, above)) (λ s is le. top s is)
    | inr below ↦ known.down z x j i there at below
  ]

  pub reach_target : (i y : ℕ) → waits i y → ((s : ℕ) → starts s → s ≤ i) → (z j : ℕ) → opened z j → Path Edge z y
  reach_target i y wait top z j there =
      let source = known.waiting i y wait in
      joined Edge z source.0 y (reach_source i source.0 source.1 top z j there) (along source.0 y y source.2 (stay y))

  -- ---- an edge to a node that is done

  module _ (waits' : ℕ → ℕ → Type 0) (i y : ℕ) (one : (j z : ℕ) → waits j z → waits' j z ⊎ ((j ≡ i) × (z ≡ y))) (fewer : (j z : ℕ) → waits' j z → waits j z) where
    pub passed : IsFound opened done starts i y → IsSearch Edge opened done starts waits' count size
    passed found = record {
      inside = known.inside;
      within = known.within;
      begun = known.begun;
      down = known.down;
      back = known.back;
      further = further;
      waiting = λ j z wait. known.waiting j z (fewer j z wait);
      below = known.below;
      callees = known.callees;
      together = known.together;
    }
      where
        further : (x z j : ℕ) → opened x j → Edge x z → waits' j z ⊎ IsFound opened done starts j z
        further x z j at edge = elim (known.further x z j at edge) [
          | inl wait ↦ (elim (one j z wait) [
            | inl still ↦ inl still
            | inr same ↦ inr (subst (λ n. IsFound opened done starts n z) (sym same.0) (subst (λ n. IsFound opened done starts i n) (sym same.1) found))
          ])
          | inr is ↦ inr is
        ]

  -- ---- an edge to an open node: the groups above its own are one

  module _ (starts' : ℕ → Type 0) (i y k : ℕ) (wait : waits i y) (top : (s : ℕ) → starts s → s ≤ i) (at : opened y k) (kept : (s : ℕ) → starts' s → starts s) (low : (s : ℕ) → starts' s → s ≤ k)
      (stays : (s : ℕ) → starts s → s ≤ k → starts' s) where
    merged_back : (x z a b : ℕ) → opened x a → opened z b → a ≤ b → ((s : ℕ) → starts' s → s ≤ b → s ≤ a) → Path Edge z x
    merged_back x z a b here there le none = elim (cases_lt k b) [
      | inl above ↦ joined Edge z y x (reach_target i y wait top z b there) (elim (cases_lt a k) [
        | inl under ↦ known.back x y a k here at (omega (arith, under)) (λ s is small. none s (stays s is small) (omega (arith, small, above)))
        | inr over ↦ known.down y x k a at here over
      ])
      | inr under ↦ known.back x z a b here there le (λ s is small. none s (stays s is (omega (arith, small, under))) small)
    ]

    merged_begun : (x j : ℕ) → opened x j → (s : ℕ) × starts' s × (s ≤ j)
    merged_begun x j there =
        let own = known.begun x j there in
        elim (cases_lt k own.0) [
          | inl above ↦ (let other = known.begun y k at in (other.0, stays other.0 other.1 other.2, omega (arith, other.2, above, own.2)))
          | inr under ↦ (own.0, stays own.0 own.1 under, own.2)
        ]

    merged_found : (j z : ℕ) → IsFound opened done starts j z → IsFound opened done starts' j z
    merged_found j z (is_done c is) = is_done c is
    merged_found j z (is_open k' is above) = is_open k' is (λ s start. above s (kept s start))

    pub merged : IsSearch Edge opened done starts' waits count size
    merged = record {
      inside = known.inside;
      within = λ s is. known.within s (kept s is);
      begun = merged_begun;
      down = known.down;
      back = merged_back;
      further = λ x z j here edge. elim (known.further x z j here edge) [ inl still ↦ inl still | inr is ↦ inr (merged_found j z is) ];
      waiting = known.waiting;
      below = known.below;
      callees = known.callees;
      together = known.together;
    }

    pub merged_target : IsFound opened done starts' i y
    merged_target = is_open k at (λ s is le. low s is)

  -- ---- a node that is opened

  module _ (opened' : ℕ → ℕ → Type 0) (starts' : ℕ → Type 0) (waits' : ℕ → ℕ → Type 0) (y : ℕ)
      (apart : (i : ℕ) → opened y i → ⊥) (undone : (c : ℕ) → done y c → ⊥)
      (open_old : (x i : ℕ) → opened' x i → opened x i ⊎ ((x ≡ y) × (i ≡ size))) (open_stays : (x i : ℕ) → opened x i → opened' x i) (open_new : opened' y size)
      (start_old : (s : ℕ) → starts' s → starts s ⊎ (s ≡ size)) (start_stays : (s : ℕ) → starts s → starts' s) (start_new : starts' size)
      (wait_old : (j z : ℕ) → waits' j z → waits j z ⊎ ((j ≡ size) × Edge y z)) (wait_stays : (j z : ℕ) → waits j z → waits' j z ⊎ (z ≡ y)) (wait_new : (z : ℕ) → Edge y z → waits' size z)
      (reaches : (x i : ℕ) → opened x i → Path Edge x y) where
    opened_down : (x z i j : ℕ) → opened' x i → opened' z j → i ≤ j → Path Edge x z
    opened_down x z i j here there le = elim (open_old x i here) [
      | inl old ↦ (elim (open_old z j there) [
        | inl old' ↦ known.down x z i j old old' le
        | inr new' ↦ subst (λ n. Path Edge x n) (sym new'.0) (reaches x i old)
      ])
      | inr new ↦ (elim (open_old z j there) [
        | inl old' ↦ absurd (omega (arith, known.inside z j old', new.1, le))
        | inr new' ↦ subst (λ n. Path Edge n z) (sym new.0) (subst (λ n. Path Edge y n) (sym new'.0) (stay y))
      ])
    ]

    opened_back : (x z i j : ℕ) → opened' x i → opened' z j → i ≤ j → ((s : ℕ) → starts' s → s ≤ j → s ≤ i) → Path Edge z x
    opened_back x z i j here there le none = elim (open_old x i here) [
      | inl old ↦ (elim (open_old z j there) [
        | inl old' ↦ known.back x z i j old old' le (λ s is. none s (start_stays s is))
        | inr new' ↦ absurd (omega (arith, known.inside x i old, none size start_new (omega (arith, new'.1))))
      ])
      | inr new ↦ (elim (open_old z j there) [
        | inl old' ↦ absurd (omega (arith, known.inside z j old', new.1, le))
        | inr new' ↦ subst (λ n. Path Edge z n) (sym new.0) (subst (λ n. Path Edge n y) (sym new'.0) (stay y))
      ])
    ]

    opened_found : (x j z : ℕ) → opened x j → IsFound opened done starts j z → IsFound opened' done starts' j z
    opened_found x j z here (is_done c is) = is_done c is
    opened_found x j z here (is_open k is above) =
        is_open k (open_stays z k is) (λ s start le. elim (start_old s start) [ inl old ↦ above s old le | inr new ↦ absurd (omega (arith, known.inside x j here, new, le)) ])

    opened_further : (x z j : ℕ) → opened' x j → Edge x z → waits' j z ⊎ IsFound opened' done starts' j z
    opened_further x z j here edge = elim (open_old x j here) [
      | inl old ↦ (elim (known.further x z j old edge) [
        | inl wait ↦ (elim (wait_stays j z wait) [
          | inl still ↦ inl still
          | inr same ↦ inr (is_open size (subst (λ n. opened' n size) (sym same) open_new) (λ s start le. omega (arith, known.inside x j old, le)))
        ])
        | inr is ↦ inr (opened_found x j z old is)
      ])
      | inr new ↦ inl (subst (λ n. waits' n z) (sym new.1) (wait_new z (subst (λ n. Edge n z) new.0 edge)))
    ]

    opened_waiting : (j z : ℕ) → waits' j z → (x : ℕ) × opened' x j × Edge x z
    opened_waiting j z wait = elim (wait_old j z wait) [
      | inl old ↦ (let source = known.waiting j z old in (source.0, open_stays source.0 j source.1, source.2))
      | inr new ↦ (y, subst (λ n. opened' y n) (sym new.0) open_new, new.1)
    ]

    pub node_opened : IsSearch Edge opened' done starts' waits' count (size + 1)
    node_opened = record {
      inside = λ x i here. elim (open_old x i here) [ inl old ↦ omega (arith, known.inside x i old) | inr new ↦ omega (arith, new.1) ];
      within = λ s start. elim (start_old s start) [ inl old ↦ omega (arith, known.within s old) | inr new ↦ omega (arith, new) ];
      begun = λ x i here. elim (open_old x i here) [
        | inl old ↦ (let own = known.begun x i old in (own.0, start_stays own.0 own.1, own.2))
        | inr new ↦ (size, start_new, omega (arith, new.1))
      ];
      down = opened_down;
      back = opened_back;
      further = opened_further;
      waiting = opened_waiting;
      below = known.below;
      callees = known.callees;
      together = known.together;
    }

  -- ---- a group that is closed

  module _ (opened' done' : ℕ → ℕ → Type 0) (starts' : ℕ → Type 0) (t : ℕ) (start : starts t)
      (open_old : (x i : ℕ) → opened' x i → opened x i × (i < t)) (open_stays : (x i : ℕ) → opened x i → i < t → opened' x i)
      (done_old : (x c : ℕ) → done' x c → done x c ⊎ ((c ≡ count) × ((i : ℕ) × (t ≤ i) × opened x i))) (done_stays : (x c : ℕ) → done x c → done' x c)
      (done_new : (x i : ℕ) → opened x i → t ≤ i → done' x count)
      (start_old : (s : ℕ) → starts' s → starts s) (start_stays : (s : ℕ) → starts s → starts' s ⊎ (s ≡ t)) (last : (s : ℕ) → starts s → s ≤ t)
      (none : (j z : ℕ) → waits j z → j < t) where
    closed_begun : (x i : ℕ) → opened' x i → (s : ℕ) × starts' s × (s ≤ i)
    closed_begun x i here =
        let old = open_old x i here in
        let own = known.begun x i old.0 in
        elim (start_stays own.0 own.1) [ inl still ↦ (own.0, still, own.2) | inr same ↦ absurd (omega (arith, same, own.2, old.1)) ]

    closed_found : (j z : ℕ) → IsFound opened done starts j z → IsFound opened' done' starts' j z
    closed_found j z (is_done c is) = is_done c (done_stays z c is)
    closed_found j z (is_open k is above) = elim (cases_lt k t) [
      | inl under ↦ is_open k (open_stays z k is under) (λ s begins. above s (start_old s begins))
      | inr over ↦ is_done count (done_new z k is over)
    ]

    closed_back : (x z i j : ℕ) → opened' x i → opened' z j → i ≤ j → ((s : ℕ) → starts' s → s ≤ j → s ≤ i) → Path Edge z x
    closed_back x z i j here there le no_start =
        let old = open_old x i here in
        let old' = open_old z j there in
        known.back x z i j old.0 old'.0 le (λ s begins small. elim (start_stays s begins) [ inl still ↦ no_start s still small | inr same ↦ absurd (omega (arith, same, small, old'.1)) ])

    -- of a node of the group
    own_callee : (i y : ℕ) → t ≤ i → IsFound opened done starts i y → (d : ℕ) × done' y d × (d ≤ count)
    own_callee i y le (is_done d is) = (d, done_stays y d is, omega (arith, known.below y d is))
    own_callee i y le (is_open k is above) = (count, done_new y k is (above t start le), omega arith)

    closed_callees : (x y c : ℕ) → done' x c → Edge x y → (d : ℕ) × done' y d × (d ≤ c)
    closed_callees x y c here edge = elim (done_old x c here) [
      | inl old ↦ (let callee = known.callees x y c old edge in (callee.0, done_stays y callee.0 callee.1, callee.2))
      | inr new ↦ (elim (known.further x y new.1.0 new.1.2 edge) [
        | inl wait ↦ absurd (omega (arith, none new.1.0 y wait, new.1.1))
        | inr found ↦ (let callee = own_callee new.1.0 y new.1.1 found in (callee.0, callee.1, omega (arith, callee.2, new.0)))
      ])
    ]

    own_together : (x y i j : ℕ) → opened x i → opened y j → t ≤ i → t ≤ j → Path Edge x y
    own_together x y i j here there le le' = elim (cases_lt j i) [
      | inl above ↦ known.back y x j i there here (omega (arith, above)) (λ s begins small. omega (arith, last s begins, le'))
      | inr under ↦ known.down x y i j here there under
    ]

    closed_together : (x y c : ℕ) → done' x c → done' y c → Path Edge x y
    closed_together x y c here there = elim (done_old x c here) [
      | inl old ↦ (elim (done_old y c there) [
        | inl old' ↦ known.together x y c old old'
        | inr new' ↦ absurd (omega (arith, known.below x c old, new'.0))
      ])
      | inr new ↦ (elim (done_old y c there) [
        | inl old' ↦ absurd (omega (arith, known.below y c old', new.0))
        | inr new' ↦ own_together x y new.1.0 new'.1.0 new.1.2 new'.1.2 new.1.1 new'.1.1
      ])
    ]

    pub group_closed : IsSearch Edge opened' done' starts' waits (count + 1) t
    group_closed = record {
      inside = λ x i here. (open_old x i here).1;
      within = λ s begins. last s (start_old s begins);
      begun = closed_begun;
      down = λ x y i j here there. known.down x y i j (open_old x i here).0 (open_old y j there).0;
      back = closed_back;
      further = λ x y i here edge. elim (known.further x y i (open_old x i here).0 edge) [ inl still ↦ inl still | inr is ↦ inr (closed_found i y is) ];
      waiting = λ j z wait. let source = known.waiting j z wait in (source.0, open_stays source.0 j source.1 (none j z wait), source.2);
      below = λ x c here. elim (done_old x c here) [ inl old ↦ omega (arith, known.below x c old) | inr new ↦ omega (arith, new.0) ];
      callees = closed_callees;
      together = closed_together;
    }

-- ---- the same in other words

module _ (Edge opened opened' done done' : ℕ → ℕ → Type 0) (starts starts' : ℕ → Type 0) (waits waits' : ℕ → ℕ → Type 0) (count count' size size' : ℕ)
    (open_to : (x i : ℕ) → opened x i → opened' x i) (open_from : (x i : ℕ) → opened' x i → opened x i) (done_to : (x c : ℕ) → done x c → done' x c) (done_from : (x c : ℕ) → done' x c → done x c)
    (start_to : (s : ℕ) → starts s → starts' s) (start_from : (s : ℕ) → starts' s → starts s) (wait_to : (j z : ℕ) → waits j z → waits' j z) (wait_from : (j z : ℕ) → waits' j z → waits j z)
    (counts : count' ≡ count) (sizes : size' ≡ size) where
  found_to : (j z : ℕ) → IsFound opened done starts j z → IsFound opened' done' starts' j z
  found_to j z (is_done c is) = is_done c (done_to z c is)
  found_to j z (is_open k is above) = is_open k (open_to z k is) (λ s begins. above s (start_from s begins))

  pub retold : IsSearch Edge opened done starts waits count size → IsSearch Edge opened' done' starts' waits' count' size'
  retold known = record {
    inside = λ x i is. omega (arith, known.inside x i (open_from x i is), sizes);
    within = λ s begins. omega (arith, known.within s (start_from s begins), sizes);
    begun = λ x i is. let own = known.begun x i (open_from x i is) in (own.0, start_to own.0 own.1, own.2);
    down = λ x y i j here there le. known.down x y i j (open_from x i here) (open_from y j there) le;
    back = λ x y i j here there le none. known.back x y i j (open_from x i here) (open_from y j there) le (λ s begins small. none s (start_to s begins) small);
    further = λ x y i here edge. elim (known.further x y i (open_from x i here) edge) [ inl wait ↦ inl (wait_to i y wait) | inr found ↦ inr (found_to i y found) ];
    waiting = λ i y wait. let source = known.waiting i y (wait_from i y wait) in (source.0, open_to source.0 i source.1, source.2);
    below = λ x c is. omega (arith, known.below x c (done_from x c is), counts);
    callees = λ x y c is edge. let callee = known.callees x y c (done_from x c is) edge in (callee.0, done_to y callee.0 callee.1, callee.2);
    together = λ x y c here there. known.together x y c (done_from x c here) (done_from y c there);
  }

-- ---- at the end

module _ (Edge done : ℕ → ℕ → Type 0) (callees : (x y c : ℕ) → done x c → Edge x y → (d : ℕ) × done y d × (d ≤ c)) (one : (x c d : ℕ) → done x c → done x d → c ≡ d) where
  pub reached_below : (x y c : ℕ) → done x c → Path Edge x y → (d : ℕ) × done y d × (d ≤ c)
  reached_below x y c is (stay _) = (c, is, omega arith)
  reached_below x y c is (along _ next _ edge rest) =
      let callee = callees x next c is edge in
      let last = reached_below next y callee.0 callee.1 rest in
      (last.0, last.1, omega (arith, last.2, callee.2))

  -- nodes that reach each other are in one component
  pub same_component : (x y c d : ℕ) → done x c → done y d → Path Edge x y → Path Edge y x → c ≡ d
  same_component x y c d here there to from =
      let forth = reached_below x y c here to in
      let back = reached_below y x d there from in
      let e = one y forth.0 d forth.1 there in
      let e' = one x back.0 c back.1 here in
      omega (arith, forth.2, back.2, e, e')
