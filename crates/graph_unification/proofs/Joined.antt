-- A node in memory became part of another: a step of merging.
use Rattle.std.proofs.Common.{◌≡◌, ℕ, suc, ◌+◌, ◌-◌, ◌^◌, ◌<◌, ◌≤◌, min, Bool, true, false, cond, eqb, List, [], ◌∷◌, map, length, Option, Some, None, refl, sym, ap, subst, ◌∙◌, ◌⊎◌, inl, inr, arith}
use Rattle.std.specs.Prelude.{option_map, slice_get}
use Rattle.std.proofs.lemmas.Bool.{cases_eq, cond-true, cond-false, eq-eqb, ne_eqb}
use Rattle.std.proofs.lemmas.Option.{none-some, same_Some}
use Rattle.std.proofs.lemmas.List.{length-map}
use Rattle.c_typed.specs.Table.{Interned, structs_in}
use Rattle.heap_graph.specs.Structures.{AreMade}
use Rattle.heap_graph.specs.declared.graph.Target as memory_target
use Rattle.heap_graph.specs.Memory.{target_of, element_in, ElementStands, flags_of}
use Rattle.heap_graph.specs.Graphs.{Target, Node, node_at, there}
use Rattle.heap_graph.specs.Targets.{element_kept}
use Rattle.heap_graph.specs.Merging.{slots, IsSlot, count}
use Rattle.heap_graph.specs.Steps.{One, Collapse, Points, IsOf, AllAreOf, Step, moved, moved_edges, moved_node, moved_ask, moved_asks, asked_edges, both_flags, BecomesPart}
use Rattle.heap_graph.proofs.PartStep.{of_map, moved_part, moved_other, slot_moved, sound_new, part_step}
use Rattle.graph_unification.specs.declared.ask.Ask as memory_ask
use Rattle.graph_unification.specs.declared.ask.Ask.TheVariants as A
use Rattle.graph_unification.specs.declared.node.Node as memory_node
use Rattle.graph_unification.specs.declared.graph.Graph as memory_graph
use Rattle.graph_unification.specs.Cells.{moved_cell, has_number}
use Rattle.graph_unification.specs.Memory.{held, node_in, or_nowhere, content, edge_of, node_there, graph_in, AreApart, IsHeld, IsGraph}
use Rattle.graph_unification.specs.Turns.{ask_in, asks_in, Joins}
use Rattle.graph_unification.proofs.Bounds.{slot_fits}
use Rattle.graph_unification.proofs.CellLists.{has_left, has_right, all_changed}
use Rattle.graph_unification.proofs.HeldNodes.{at_held, gone_in, held_slots, are_found, edges_now, names_now, node_now, content_now, content_of_node}

-- ---- the number of nodes

pub count_fewer : (xs ys : List (Option Node)) → length ys ≡ length xs → ((n : ℕ) → there (slice_get xs n) ≡ None → there (slice_get ys n) ≡ None) → count ys ≤ count xs
count_fewer [] [] same none = omega arith
count_fewer [] (y ∷ ys) same none = absurd (omega (arith, same))
count_fewer (x ∷ xs) [] same none = omega arith
count_fewer (None ∷ xs) (y ∷ ys) same none = by y (none 0 refl) (count_fewer xs ys (omega (arith, same)) (λ n e. none (suc n) e))
  where
    by : (y : Option Node) → y ≡ None → count ys ≤ count xs → count (y ∷ ys) ≤ count xs
    by None e rest = rest
    by (Some node) e rest = absurd (none-some node (sym e))
count_fewer (Some x ∷ xs) (y ∷ ys) same none = by y (count_fewer xs ys (omega (arith, same)) (λ n e. none (suc n) e))
  where
    by : (y : Option Node) → count ys ≤ count xs → count (y ∷ ys) ≤ suc (count xs)
    by None rest = omega (arith, rest)
    by (Some node) rest = omega (arith, rest)

-- a target that moves has the node of its first slot's
pub moved_node_only : (part whole distance : ℕ) (t : Target) → (moved part whole distance (record { node = t.node; shift = 0 })).node ≡ (moved part whole distance t).node
moved_node_only part whole distance t = by (eqb t.node part)
  where
    by : (b : Bool) → (cond {A = Target} b (record { node = whole; shift = 0 + distance }) (record { node = t.node; shift = 0 })).node ≡ (cond {A = Target} b (record { node = whole; shift = t.shift + distance }) t).node
    by true = refl
    by false = refl

module _ (table : Interned) (made : AreMade (structs_in table)) (old new : memory_graph.Graph) (part whole distance : ℕ) (fine : IsGraph table old) (same_names : new.names ≡ old.names)
    (differ : part ≡ whole → ⊥) (joins : Joins old.nodes new.nodes part whole distance)
    (kept : element_kept (structs_in table) (element_in table joins.inner.element) (node_there table (content old.nodes) joins.outer) distance ≡ true)
    (fits : distance + slots (structs_in table) (element_in table joins.inner.element) ≤ slots (structs_in table) (element_in table joins.outer.element)) where
  abbrev joined : memory_node.Node
  joined = joins.gains.after

  abbrev inner_there : Node
  inner_there = node_there table (content old.nodes) joins.inner

  abbrev outer_there : Node
  outer_there = node_there table (content old.nodes) joins.outer

  -- ---- the nodes

  part_was : node_in old.nodes.list.items part ≡ Some joins.inner
  part_was = ap held joins.goes.was

  whole_was : node_in old.nodes.list.items whole ≡ Some joins.outer
  whole_was = ap held joins.whole_is

  part_now : node_in new.nodes.list.items part ≡ None
  part_now = ap held (joins.gains.change.others part differ ∙ joins.goes.now)

  whole_now : node_in new.nodes.list.items whole ≡ Some joined
  whole_now = ap held joins.gains.change.now

  others_now : (n : ℕ) → (n ≡ part → ⊥) → (n ≡ whole → ⊥) → node_in new.nodes.list.items n ≡ node_in old.nodes.list.items n
  others_now n p w = ap held (joins.gains.change.others n w ∙ joins.goes.others n p)

  -- ---- the cells

  inner_slot : (t : Target) → IsSlot (structs_in table) (graph_in table old) t → t.node ≡ part → t.shift < slots (structs_in table) (element_in table joins.inner.element)
  inner_slot t slot at =
      let same : inner_there ≡ slot.node = same_Some inner_there slot.node (sym (at_held table old part joins.inner part_was) ∙ ap (node_at (graph_in table old)) (sym at) ∙ slot.is) in
      subst (λ (n : Node). t.shift < slots (structs_in table) n.element) (sym same) slot.inside

  moves : (t : memory_target.Target) → IsSlot (structs_in table) (graph_in table old) (target_of t) → target_of (moved_cell part whole distance t) ≡ moved part whole distance (target_of t)
  moves t slot = by (cases_eq t.node part)
    where
      by : (t.node ≡ part) ⊎ (t.node ≡ part → ⊥) → target_of (moved_cell part whole distance t) ≡ moved part whole distance (target_of t)
      by (inl at) =
          let inside = inner_slot (target_of t) slot at in
          let small : t.shift + distance < 2 ^ 64 =
          slot_fits (structs_in table) (graph_in table old) (record { node = whole; shift = t.shift + distance })
          (record { node = outer_there; is = at_held table old whole joins.outer whole_was; inside = omega (arith, inside, fits) }) in
          ap target_of (cond-true (eqb t.node part) (record { node = whole; shift = min (t.shift + distance) (2 ^ 64 - 1) }) t (eq-eqb t.node part at))
          ∙ ap (λ s. record { node = whole; shift = s }) (omega (arith, small)) ∙ sym (moved_part part whole distance (target_of t) at)
      by (inr other) =
          ap target_of (cond-false (eqb t.node part) (record { node = whole; shift = min (t.shift + distance) (2 ^ 64 - 1) }) t (ne_eqb t.node part other))
          ∙ sym (moved_other part whole distance (target_of t) other)

  stays : (t : memory_target.Target) → (t.node ≡ part → ⊥) → moved_cell part whole distance t ≡ t
  stays t other = cond-false (eqb t.node part) (record { node = whole; shift = min (t.shift + distance) (2 ^ 64 - 1) }) t (ne_eqb t.node part other)

  goes_there : (t : memory_target.Target) → t.node ≡ part → moved_cell part whole distance t ≡ record { node = whole; shift = min (t.shift + distance) (2 ^ 64 - 1) }
  goes_there t at = cond-true (eqb t.node part) (record { node = whole; shift = min (t.shift + distance) (2 ^ 64 - 1) }) t (eq-eqb t.node part at)

  twice : (t : memory_target.Target) → moved_cell part whole distance (moved_cell part whole distance t) ≡ moved_cell part whole distance t
  twice t = by (cases_eq t.node part)
    where
      by : (t.node ≡ part) ⊎ (t.node ≡ part → ⊥) → moved_cell part whole distance (moved_cell part whole distance t) ≡ moved_cell part whole distance t
      by (inl at) = stays (moved_cell part whole distance t) (λ e. differ (sym e ∙ ap (λ (m : memory_target.Target). m.node) (goes_there t at)))
      by (inr other) = ap (moved_cell part whole distance) (stays t other)

  cells_now : (cell : ℕ) → slice_get new.nodes.cells.items cell ≡ option_map (moved_cell part whole distance) (slice_get old.nodes.cells.items cell)
  cells_now cell = ap (λ l. slice_get l cell) joins.cells ∙ all_changed (moved_cell part whole distance) twice joins.inner.cells.items old.nodes.cells.items cell (λ t e. by t e (cases_eq t.node part))
    where
      by : (t : memory_target.Target) → slice_get old.nodes.cells.items cell ≡ Some t → (t.node ≡ part) ⊎ (t.node ≡ part → ⊥) → (has_number joins.inner.cells.items cell ≡ true) ⊎ (moved_cell part whole distance t ≡ t)
      by t e (inl at) =
          let its = fine.held cell t e in
          let same : its.node ≡ joins.inner = same_Some its.node joins.inner (sym its.is ∙ ap (node_in old.nodes.list.items) at ∙ part_was) in
          inl (subst (λ (n : memory_node.Node). has_number n.cells.items cell ≡ true) same its.among)
      by t e (inr other) = inr (stays t other)

  contents : (cell : ℕ) (t : memory_target.Target) → slice_get old.nodes.cells.items cell ≡ Some t → content new.nodes cell ≡ moved part whole distance (target_of t)
  contents cell t e = ap (or_nowhere (length new.nodes.list.items)) (cells_now cell ∙ ap (option_map (moved_cell part whole distance)) e) ∙ moves t (fine.slots cell t e)

  -- ---- the change

  whole_node : node_at (graph_in table new) whole ≡ Some (record { element = outer_there.element; flags = both_flags outer_there.flags inner_there.flags; edges = moved_edges part whole distance outer_there.edges })
  whole_node =
      at_held table new whole joined whole_now
      ∙ ap (λ e. Some (record { element = element_in table e; flags = flags_of joined.flags; edges = map (edge_of (content new.nodes)) joined.edges.items })) joins.gains.element
      ∙ ap (λ f. Some (record { element = element_in table joins.outer.element; flags = f; edges = map (edge_of (content new.nodes)) joined.edges.items })) joins.gains.both
      ∙ ap (λ es. Some (record { element = element_in table joins.outer.element; flags = both_flags (flags_of joins.outer.flags) (flags_of joins.inner.flags); edges = es }))
      (ap (map (edge_of (content new.nodes))) joins.gains.edges
      ∙ edges_now table old new fine (moved part whole distance) same_names contents joins.outer.edges.items (held_slots table old fine whole joins.outer whole_was))

  other_nodes : (n : ℕ) → (n ≡ part → ⊥) → (n ≡ whole → ⊥) → node_at (graph_in table new) n ≡ option_map (moved_node part whole distance) (node_at (graph_in table old) n)
  other_nodes n p w = node_now table old new fine (moved part whole distance) same_names contents n (others_now n p w)

  fewer_now : count (graph_in table new).nodes ≤ count (graph_in table old).nodes
  fewer_now = count_fewer (graph_in table old).nodes (graph_in table new).nodes same_length (λ n none. by n none (cases_eq n part) (cases_eq n whole))
    where
      same_length : length (graph_in table new).nodes ≡ length (graph_in table old).nodes
      same_length =
          length-map new.nodes.list.items (option_map (node_there table (content new.nodes))) ∙ joins.gains.change.length ∙ joins.goes.length
          ∙ sym (length-map old.nodes.list.items (option_map (node_there table (content old.nodes))))

      by : (n : ℕ) → node_at (graph_in table old) n ≡ None → (n ≡ part) ⊎ (n ≡ part → ⊥) → (n ≡ whole) ⊎ (n ≡ whole → ⊥) → node_at (graph_in table new) n ≡ None
      by n none (inl is) w = ap (node_at (graph_in table new)) is ∙ gone_in table new part part_now
      by n none (inr p) (inl is) = absurd (none-some outer_there (sym none ∙ ap (node_at (graph_in table old)) is ∙ at_held table old whole joins.outer whole_was))
      by n none (inr p) (inr w) = other_nodes n p w ∙ ap (option_map (moved_node part whole distance)) none

  change : BecomesPart (structs_in table) (graph_in table old) (graph_in table new) part whole distance inner_there outer_there
  change = record {
    differ = differ;
    part_is = at_held table old part joins.inner part_was;
    whole_is = at_held table old whole joins.outer whole_was;
    found = are_found (content old.nodes) joins.inner.edges.items (fine.apart part joins.inner part_was);
    kept = kept;
    fits = fits;
    names = names_now table old new fine (moved part whole distance) same_names contents;
    gone = gone_in table new part part_now;
    at_whole = whole_node;
    others = other_nodes;
    fewer = fewer_now;
  }

  -- ---- what is asked

  pub moved_content : (cell : ℕ) → IsSlot (structs_in table) (graph_in table old) (content old.nodes cell) → content new.nodes cell ≡ moved part whole distance (content old.nodes cell)
  moved_content = content_now table old new fine (moved part whole distance) same_names contents

  ask_now : (ask : memory_ask.Ask) → IsOf (structs_in table) (graph_in table old) (ask_in old.nodes ask) → moved_ask part whole distance (ask_in old.nodes ask) ≡ ask_in new.nodes ask
  ask_now (A.One a b) its =
      ap (λ x. One x (moved part whole distance (content old.nodes b))) (sym (moved_content a its.0)) ∙ ap (One (content new.nodes a)) (sym (moved_content b its.1))
  ask_now (A.Collapse cell) its =
      ap Collapse (moved_node_only part whole distance (content old.nodes cell)
      ∙ ap (λ (t : Target). t.node) (sym (content_of_node table old new fine (moved part whole distance) same_names contents cell its)))
  ask_now (A.Points at to) its =
      ap (λ (x : Target). Points x.node x.shift (moved part whole distance (content old.nodes to))) (sym (moved_content at its.0))
      ∙ ap (Points (content new.nodes at).node (content new.nodes at).shift) (sym (moved_content to its.1))

  pub asks_now : (asks : List memory_ask.Ask) → AllAreOf (structs_in table) (graph_in table old) (asks_in old.nodes asks) → moved_asks part whole distance (asks_in old.nodes asks) ≡ asks_in new.nodes asks
  asks_now [] its = refl
  asks_now (ask ∷ asks) its =
      ap (λ x. x ∷ moved_asks part whole distance (asks_in old.nodes asks)) (ask_now ask its.0) ∙ ap (λ rest. ask_in new.nodes ask ∷ rest) (asks_now asks its.1)

  -- ---- the graph

  held_now : (cell : ℕ) (target : memory_target.Target) → slice_get new.nodes.cells.items cell ≡ Some target → IsHeld new.nodes.list.items cell target
  held_now cell target e =
      let was = of_map (moved_cell part whole distance) (slice_get old.nodes.cells.items cell) target (sym (cells_now cell) ∙ e) in
      subst (IsHeld new.nodes.list.items cell) was.1.1 (by was.0 (fine.held cell was.0 was.1.0) (cases_eq was.0.node part) (cases_eq was.0.node whole))
    where
      by : (t : memory_target.Target) → IsHeld old.nodes.list.items cell t → (t.node ≡ part) ⊎ (t.node ≡ part → ⊥) → (t.node ≡ whole) ⊎ (t.node ≡ whole → ⊥) → IsHeld new.nodes.list.items cell (moved_cell part whole distance t)
      by t its (inl at) w =
          let same : its.node ≡ joins.inner = same_Some its.node joins.inner (sym its.is ∙ ap (node_in old.nodes.list.items) at ∙ part_was) in
          subst (IsHeld new.nodes.list.items cell) (sym (goes_there t at))
          (record {
            node = joined;
            is = whole_now;
            among = subst (λ l. has_number l cell ≡ true) (sym joins.gains.cells)
                (has_right joins.outer.cells.items joins.inner.cells.items cell (subst (λ (n : memory_node.Node). has_number n.cells.items cell ≡ true) same its.among));
          })
      by t its (inr p) (inl at) =
          let same : its.node ≡ joins.outer = same_Some its.node joins.outer (sym its.is ∙ ap (node_in old.nodes.list.items) at ∙ whole_was) in
          subst (IsHeld new.nodes.list.items cell) (sym (stays t p))
          (record {
            node = joined;
            is = ap (node_in new.nodes.list.items) at ∙ whole_now;
            among = subst (λ l. has_number l cell ≡ true) (sym joins.gains.cells)
                (has_left joins.outer.cells.items joins.inner.cells.items cell (subst (λ (n : memory_node.Node). has_number n.cells.items cell ≡ true) same its.among));
          })
      by t its (inr p) (inr w) =
          subst (IsHeld new.nodes.list.items cell) (sym (stays t p)) (record { node = its.node; is = others_now t.node p w ∙ its.is; among = its.among })

  -- what holds of each node still does
  all_nodes : (P : memory_node.Node → Type 0) → ((n : ℕ) (node : memory_node.Node) → node_in old.nodes.list.items n ≡ Some node → P node) → P joined → (n : ℕ) (node : memory_node.Node) → node_in new.nodes.list.items n ≡ Some node → P node
  all_nodes P was now n node is = by (cases_eq n part) (cases_eq n whole)
    where
      by : (n ≡ part) ⊎ (n ≡ part → ⊥) → (n ≡ whole) ⊎ (n ≡ whole → ⊥) → P node
      by (inl at) w = absurd (none-some node (sym part_now ∙ ap (node_in new.nodes.list.items) (sym at) ∙ is))
      by (inr p) (inl at) = subst P (same_Some joined node (sym whole_now ∙ ap (node_in new.nodes.list.items) (sym at) ∙ is)) now
      by (inr p) (inr w) = was n node (sym (others_now n p w) ∙ is)

  slots_now : (cell : ℕ) (target : memory_target.Target) → slice_get new.nodes.cells.items cell ≡ Some target → IsSlot (structs_in table) (graph_in table new) (target_of target)
  slots_now cell target e =
      let was = of_map (moved_cell part whole distance) (slice_get old.nodes.cells.items cell) target (sym (cells_now cell) ∙ e) in
      let slot = fine.slots cell was.0 was.1.0 in
      subst (IsSlot (structs_in table) (graph_in table new)) (sym (moves was.0 slot) ∙ ap target_of was.1.1)
      (slot_moved (structs_in table) made (graph_in table old) (graph_in table new) part whole distance inner_there outer_there fine.sound change (target_of was.0) slot)

  pub graph_now : IsGraph table new
  graph_now = record {
    held = held_now;
    apart = all_nodes (λ node. AreApart node.edges.items) fine.apart (subst AreApart (sym joins.gains.edges) (fine.apart whole joins.outer whole_was));
    stand = all_nodes (λ node. ElementStands table node.element) fine.stand (subst (ElementStands table) (sym joins.gains.element) (fine.stand whole joins.outer whole_was));
    slots = slots_now;
    sound = sound_new (structs_in table) made (graph_in table old) (graph_in table new) part whole distance inner_there outer_there fine.sound change;
  }

  -- its edges are asked of the whole
  pub joins_step : (a b : Target) → a.node ≡ part → b.node ≡ whole → a.shift + distance ≡ b.shift → IsSlot (structs_in table) (graph_in table old) a → IsSlot (structs_in table) (graph_in table old) b
      → (asks : List memory_ask.Ask) → AllAreOf (structs_in table) (graph_in table old) (asks_in old.nodes asks)
      → Step (structs_in table) (graph_in table old) (graph_in table new) (One a b ∷ asks_in old.nodes asks) (asked_edges part whole distance inner_there.edges (asks_in new.nodes asks))
  joins_step a b of_part of_whole lies at_a at_b asks its =
      subst (λ rest. Step (structs_in table) (graph_in table old) (graph_in table new) (One a b ∷ asks_in old.nodes asks) (asked_edges part whole distance inner_there.edges rest)) (asks_now asks its)
      (part_step (structs_in table) made (graph_in table old) (graph_in table new) part whole distance inner_there outer_there fine.sound change a b of_part of_whole lies (asks_in old.nodes asks) at_a at_b its)
