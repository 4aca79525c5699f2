-- A component that is placed is next, and what is known holds again.
use Rattle.std.proofs.Common.{◌≡◌, ℕ, zero, suc, ◌+◌, ◌<◌, ◌≤◌, ◌⊎◌, ◌==◌, ◌&&◌, ◌||◌, Bool, true, false, if◌then◌else◌, nat_cmp, List, [], ◌∷◌, ◌++◌, length, get_or, Vec, Some, option_map, inl, inr, refl, sym, ap, subst, ◌∙◌, arith, eqb-true, eq-eqb}
use Rattle.std.specs.Prelude.{slice_get, vec_items}
use Rattle.std.specs.BTreeSet.{contains}
use Rattle.std.proofs.lemmas.Bool.{false≢true, cases_eq, or_cases, and_parts}
use Rattle.std.proofs.lemmas.Option.{same_Some, slice_get_within, slice_get_read}
use Rattle.call_graph.specs.RowLists.{Has, is_among}
use Rattle.call_graph.specs.Rows.{row_of, AreRows}
use Rattle.call_graph.proofs.RowLists.{among_has, has_among}
use Rattle.call_graph.proofs.RowEdges.{row_edge}
use Rattle.call_graph.specs.declared.order.Ordering.{Ordering}
use Rattle.call_graph.specs.Heads.{turned_edges}
use Rattle.call_graph.specs.Orders.{IsPrepared, IsNext, AreInOrder, AreOfComponents, open_edges, occurrences, AreCovered, IsReady, IsOrdering, AreCounts, Begins, Places}
use Rattle.call_graph.proofs.Counting.{occurs_has, all_closed, some_open, closed_edge, still_among, own_among, among_either, open_split}
use Rattle.call_graph.proofs.Turned.{under, turned_from, turned_to, lower}

-- ---- one more at the end of an order

split_last : (order before after : List ℕ) (c d : ℕ) → order ++ c ∷ [] ≡ before ++ d ∷ after → ((order ≡ before) × (c ≡ d)) ⊎ ((rest : List ℕ) × (order ≡ before ++ d ∷ rest))
split_last [] [] after c d e = inl (refl, cc)
split_last [] (x ∷ []) after c d e = absurd (cc)
split_last [] (x ∷ y ∷ before) after c d e = absurd (cc)
split_last (y ∷ order) [] after c d e = let head : y ≡ d = cc in inr (order, λ i. head i ∷ order)
split_last (y ∷ order) (x ∷ before) after c d e =
    let head : y ≡ x = cc in
    let tail : order ++ c ∷ [] ≡ before ++ d ∷ after = cc in
    elim (split_last order before after c d tail) [
      | inl same ↦ inl ((λ i. head i ∷ same.0 i), same.1)
      | inr more ↦ inr (more.0, λ i. head i ∷ more.1 i)
    ]

pub order_more : (heads : List ℕ) (edges : List (ℕ × ℕ)) (order new : List ℕ) (component : ℕ) → AreInOrder heads edges order → IsNext heads edges order component → new ≡ order ++ component ∷ [] → AreInOrder heads edges new
order_more heads edges order new component placed next is = λ before after other e. elim (split_last order before after component other (sym is ∙ e)) [
  | inl same ↦ (let moved : IsNext heads edges before component = subst (λ l. IsNext heads edges l component) same.0 next in subst (λ (c : ℕ). IsNext heads edges before c) same.1 moved)
  | inr more ↦ placed before more.0 other more.1
]

pub no_order : (heads : List ℕ) (edges : List (ℕ × ℕ)) (order : List ℕ) → order ≡ [] → AreInOrder heads edges order
no_order heads edges order is = λ before after component e. absurd (by before after component (sym is ∙ e))
  where
    by : (before after : List ℕ) (component : ℕ) → [] ≡ before ++ component ∷ after → ⊥
    by [] after component e = cc
    by (x ∷ before) after component e = cc

-- the row of a node in memory
pub own_row : {A B : Type 0} (rows : Vec (Vec ℕ A) B) (nodes : ℕ) (edges edges' : List (ℕ × ℕ)) → AreRows nodes edges rows → edges ≡ edges' → (head : ℕ) → head < nodes → (row : Vec ℕ A) → row ≡ get_or rows.items head row → row.items ≡ row_of head edges'
own_row rows nodes edges edges' made e head lt row is =
    let there : slice_get rows.items head ≡ Some row = slice_get_read rows.items nodes head row (sym made.each) lt is in
    same_Some row.items (row_of head edges') (sym (ap (option_map vec_items) there) ∙ (made.row head lt ∙ ap (λ l. Some (row_of head l)) e))

module _ (edges : List (ℕ × ℕ)) (heads : List ℕ) (of : AreOfComponents edges heads) where
  abbrev turned : List (ℕ × ℕ)
  turned = turned_edges heads edges

  -- ---- what is prepared

  pub prepared_none : (before : List ℕ) (component : ℕ) → IsPrepared heads edges before component → open_edges before turned component ≡ 0
  prepared_none before component prepared = all_closed before turned component (λ callee is.
      let between = turned_from edges heads of callee component is in
      elim (prepared between.from between.to callee between.of_from between.edge between.of_to) [
        | inl same ↦ absurd (between.apart (sym same))
        | inr placed ↦ placed
      ])

  pub none_prepared : (before : List ℕ) (component : ℕ) → open_edges before turned component ≡ 0 → IsPrepared heads edges before component
  none_prepared before component none from to callee here has there = elim (cases_eq callee component) [
    | inl same ↦ inl same
    | inr other ↦ inr (closed_edge before turned callee component none (turned_to edges heads of from to component callee has here there (λ e. other (sym e))))
  ]

  -- ---- at first

  pub begins : (counts : List ℕ) (made : Ordering) → AreCounts (length heads) turned counts → Begins heads counts made → IsOrdering heads turned made
  begins counts made counted begins' =
      let none_placed : (node : ℕ) → is_among node made.placed.items ≡ false = λ node. ap (is_among node) begins'.placed in
      let same : (node : ℕ) → open_edges made.placed.items turned node ≡ open_edges [] turned node = λ node. ap (λ l. open_edges l turned node) begins'.placed in
      record {
        each = ap length begins'.counts' ∙ counted.each;
        counts = λ node lt. ap (λ l. get_or l node 0) begins'.counts' ∙ (counted.count node lt ∙ sym (same node));
        ready = λ node is.
            let own = begins'.ready node is in
            record { head = own.0; none = same node ∙ (sym (counted.count node (slice_get_within heads node node own.0)) ∙ own.1); new = none_placed node };
        waits = λ node is. begins'.waits node is.head (counted.count node (slice_get_within heads node node is.head) ∙ (sym (same node) ∙ is.none));
        closed = λ node is. absurd (false≢true (sym (none_placed node) ∙ is));
      }

  -- ---- a component is placed

  module _ (old popped : Ordering) (kept : IsOrdering heads turned old) (head : ℕ) (found : contains nat_cmp old.ready head ≡ true)
      (left : (node : ℕ) → contains nat_cmp popped.ready node ≡ (if head == node then false else contains nat_cmp old.ready node))
      (same_counts : popped.counts.items ≡ old.counts.items) (same_placed : popped.placed.items ≡ old.placed.items) (row : List ℕ) (is_row : row ≡ row_of head turned) where
    first : IsReady heads old.placed.items turned head
    first = kept.ready head found

    pub head_inside : head < length heads
    head_inside = slice_get_within heads head head first.head

    pub head_new : is_among head old.placed.items ≡ false
    head_new = first.new

    abbrev further : List ℕ
    further = old.placed.items ++ head ∷ []

    split : (node : ℕ) → open_edges old.placed.items turned node ≡ open_edges further turned node + occurrences node row
    split node = open_split old.placed.items head turned node first.new ∙ ap (λ l. open_edges further turned node + occurrences node l) (sym is_row)

    -- those that are counted down
    caller : (node : ℕ) → Has row node → Has turned (head, node) × (slice_get heads node ≡ Some node) × (head ≡ node → ⊥)
    caller node is =
        let edge = row_edge head node turned (subst (λ l. Has l node) is_row is) in
        let between = turned_from edges heads of head node edge in
        (edge, (under edges heads of between.from node between.of_from).itself, λ e. between.apart (sym e))

    pub covered : AreCovered row popped.counts.items
    covered node = by (occurrences node row) refl
      where
        by : (n : ℕ) → occurrences node row ≡ n → occurrences node row ≤ get_or popped.counts.items node 0
        by zero e = omega (arith, e)
        by (suc n) e =
            let own = caller node (occurs_has node row (omega (arith, e))) in
            let counted = ap (λ l. get_or l node 0) same_counts ∙ kept.counts node (slice_get_within heads node node own.1) in
            omega (arith, counted, split node)

    pub is_next : ((other : ℕ) → contains nat_cmp old.ready other ≡ true → head ≤ other) → IsNext heads edges old.placed.items head
    is_next least = record {
      head = first.head;
      new = first.new;
      prepared = none_prepared old.placed.items head first.none;
      first = λ other here new' prepared. least other (kept.waits other (record { head = here; none = prepared_none old.placed.items other prepared; new = new' }));
    }

    module _ (new : Ordering) (places : Places head row popped new) where
      placed_is : new.placed.items ≡ further
      placed_is = places.placed ∙ ap (λ l. l ++ head ∷ []) same_placed

      now : (node : ℕ) → open_edges new.placed.items turned node ≡ open_edges further turned node
      now node = ap (λ l. open_edges l turned node) placed_is

      fewer : (node : ℕ) → open_edges old.placed.items turned node ≡ 0 → open_edges new.placed.items turned node ≡ 0
      fewer node none = omega (arith, split node, none, now node)

      counted : (node : ℕ) → node < length heads → get_or new.counts.items node 0 ≡ open_edges new.placed.items turned node
      counted node lt = omega (arith, ap (λ l. get_or l node 0) same_counts, kept.counts node lt, places.counted.counts node, split node, now node)

      not_placed : (node : ℕ) → is_among node old.placed.items ≡ false → (head ≡ node → ⊥) → is_among node new.placed.items ≡ false
      not_placed node was other = by (is_among node new.placed.items) refl
        where
          by : (b : Bool) → is_among node new.placed.items ≡ b → is_among node new.placed.items ≡ false
          by false e = e
          by true e = absurd (elim (among_either node head old.placed.items (ap (is_among node) (sym placed_is) ∙ e)) [
            | inl before ↦ absurd (false≢true (sym was ∙ before))
            | inr same ↦ other (sym same)
          ])

      was_ready : (node : ℕ) → contains nat_cmp popped.ready node ≡ true → IsReady heads new.placed.items turned node
      was_ready node is = by (head == node) refl (sym (left node) ∙ is)
        where
          by : (b : Bool) → (head == node) ≡ b → (if b then false else contains nat_cmp old.ready node) ≡ true → IsReady heads new.placed.items turned node
          by true e t = absurd (false≢true t)
          by false e t =
              let own = kept.ready node t in
              record { head = own.head; none = fewer node own.none; new = not_placed node own.new (λ same. false≢true (sym e ∙ eq-eqb head node same)) }

      is_ready : (node : ℕ) → Has row node → get_or new.counts.items node 0 ≡ 0 → IsReady heads new.placed.items turned node
      is_ready node is none =
          let own = caller node is in
          record {
            head = own.1;
            none = sym (counted node (slice_get_within heads node node own.1)) ∙ none;
            new = not_placed node (by (is_among node old.placed.items) refl own.0) own.2;
          }
        where
          by : (b : Bool) → is_among node old.placed.items ≡ b → Has turned (head, node) → is_among node old.placed.items ≡ false
          by false e edge = e
          by true e edge = absurd (false≢true (sym first.new ∙ closed_edge old.placed.items turned head node (kept.closed node e) edge))

      now_ready : (node : ℕ) → contains nat_cmp new.ready node ≡ true → IsReady heads new.placed.items turned node
      now_ready node is = elim (or_cases (contains nat_cmp popped.ready node) (is_among node row && (get_or new.counts.items node 0 == 0)) (sym (places.counted.ready node) ∙ is)) [
        | inl before ↦ was_ready node before
        | inr here ↦ (let parts = and_parts (is_among node row) (get_or new.counts.items node 0 == 0) here in
            is_ready node (among_has node row parts.0) (eqb-true (get_or new.counts.items node 0) 0 parts.1))
      ]

      now_waits : (node : ℕ) → IsReady heads new.placed.items turned node → contains nat_cmp new.ready node ≡ true
      now_waits node is = places.counted.ready node ∙ by (occurrences node row) refl
        where
          no_head : head ≡ node → ⊥
          no_head same = false≢true (sym is.new ∙ (ap (is_among node) placed_is ∙ (ap (λ n. is_among n further) (sym same) ∙ own_among head old.placed.items)))

          was_new : (b : Bool) → is_among node old.placed.items ≡ b → is_among node old.placed.items ≡ false
          was_new false e = e
          was_new true e = absurd (false≢true (sym is.new ∙ (ap (is_among node) placed_is ∙ still_among node head old.placed.items e)))

          or_left' : (a b : Bool) → a ≡ true → (a || b) ≡ true
          or_left' true b e = refl
          or_left' false b e = absurd (false≢true e)

          or_right' : (a b c : Bool) → b ≡ true → c ≡ true → (a || (b && c)) ≡ true
          or_right' true b c e f = refl
          or_right' false true c e f = f
          or_right' false false c e f = absurd (false≢true e)

          still : (b : Bool) → (head == node) ≡ b → contains nat_cmp old.ready node ≡ true → (if b then false else contains nat_cmp old.ready node) ≡ true
          still true e t = absurd (no_head (eqb-true head node e))
          still false e t = t

          by : (n : ℕ) → occurrences node row ≡ n → (contains nat_cmp popped.ready node || (is_among node row && (get_or new.counts.items node 0 == 0))) ≡ true
          by zero e =
              let none : open_edges old.placed.items turned node ≡ 0 = omega (arith, split node, e, now node, is.none) in
              let was = kept.waits node (record { head = is.head; none = none; new = was_new (is_among node old.placed.items) refl }) in
              or_left' (contains nat_cmp popped.ready node) _ (left node ∙ still (head == node) refl was)
          by (suc n) e =
              or_right' (contains nat_cmp popped.ready node) (is_among node row) (get_or new.counts.items node 0 == 0)
              (has_among node row (occurs_has node row (omega (arith, e))))
              (eq-eqb (get_or new.counts.items node 0) 0 (counted node (slice_get_within heads node node is.head) ∙ is.none))

      pub places_keep : IsOrdering heads turned new
      places_keep = record {
        each = places.counted.each ∙ (ap length same_counts ∙ kept.each);
        counts = counted;
        ready = now_ready;
        waits = now_waits;
        closed = λ node is. elim (among_either node head old.placed.items (ap (is_among node) (sym placed_is) ∙ is)) [
          | inl before ↦ fewer node (kept.closed node before)
          | inr same ↦ fewer node (ap (open_edges old.placed.items turned) same ∙ first.none)
        ];
      }

      pub more_placed : (node : ℕ) → is_among node old.placed.items ≡ true → is_among node new.placed.items ≡ true
      more_placed node is = ap (is_among node) placed_is ∙ still_among node head old.placed.items is

      pub head_placed : is_among head new.placed.items ≡ true
      head_placed = ap (is_among head) placed_is ∙ own_among head old.placed.items

  -- ---- at the end

  module _ (last : Ordering) (kept : IsOrdering heads turned last) (empty : (node : ℕ) → contains nat_cmp last.ready node ≡ false) where
    placed_below : (bound component number : ℕ) → slice_get heads component ≡ Some component → slice_get of.numbers component ≡ Some number → number < bound → is_among component last.placed.items ≡ true
    placed_below zero component number here is lt = absurd (omega (arith, lt))
    placed_below (suc bound) component number here is lt = by (λ other n here' is' lt'. placed_below bound other n here' is' lt') (is_among component last.placed.items) refl
      where
        by : ((other n : ℕ) → slice_get heads other ≡ Some other → slice_get of.numbers other ≡ Some n → n < bound → is_among other last.placed.items ≡ true)
            → (b : Bool) → is_among component last.placed.items ≡ b → is_among component last.placed.items ≡ true
        by below true e = e
        by below false e = absurd (elim (some_open last.placed.items turned component) [
          | inl none ↦ false≢true (sym (empty component) ∙ kept.waits component (record { head = here; none = none; new = e }))
          | inr some ↦ (let low = lower edges heads of some.0 component (turned_from edges heads of some.0 component some.1) number is in
              false≢true (sym some.2 ∙ below some.0 low.0 low.3 low.1 (omega (arith, low.2, lt))))
        ])

    pub all_placed : (component : ℕ) → slice_get heads component ≡ Some component → is_among component last.placed.items ≡ true
    all_placed component here = let own = under edges heads of component component here in placed_below (suc own.number) component own.number here own.own (omega arith)
