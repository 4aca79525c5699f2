-- What lies in a graph as far apart as in that of a group does so in a graph in which what that tells lies so.
use Rattle.std.proofs.Common.{◌≡◌, ℕ, ◌+◌, Bool, true, false, cond, Option, Some, None, refl, sym, ap, subst, ◌∙◌, arith}
use Rattle.std.proofs.lemmas.Bool.{false≢true}
use Rattle.std.proofs.lemmas.Option.{none-some, same_Some}
use Rattle.heap_graph.specs.Graphs.{Target, Node, Name, OfGlobal, OfLiteral, Graph, node_at}
use Rattle.heap_graph.specs.Targets.{shifted, is_collapsed}
use Rattle.heap_graph.proofs.MapsCompose.{shift_in, shifted_there}
use Rattle.dsa_inlining.specs.Aligned.{is_collapsed_at, IsPlaced, AreAligned}

pub collapsed_there : (graph : Graph) (number : ℕ) (node : Node) → node_at graph number ≡ Some node → is_collapsed_at graph number ≡ is_collapsed node.element
collapsed_there graph number node is = rw is refl

-- a place behind another is of the same node
pub record IsBehind (graph : Graph) (slots : ℕ) (place at : Target) : Type 0 where
  pub node : Node
  pub is : node_at graph place.node ≡ Some node
  pub same : ◌≡◌ {A = Target} (record { node = place.node; shift = shift_in node (place.shift + slots) }) at

nothing_behind : (graph : Graph) (slots : ℕ) (place : Target) → node_at graph place.node ≡ None → shifted graph slots (Some place) ≡ None
nothing_behind graph slots place none = rw none refl

pub behind : (graph : Graph) (slots : ℕ) (place at : Target) → shifted graph slots (Some place) ≡ Some at → IsBehind graph slots place at
behind graph slots place at is = by (node_at graph place.node) refl
  where
    by : (found : Option Node) → node_at graph place.node ≡ found → IsBehind graph slots place at
    by None none = absurd (none-some at (sym (nothing_behind graph slots place none) ∙ is))
    by (Some node) there =
        record {
          node = node;
          is = there;
          same = same_Some (record { node = place.node; shift = shift_in node (place.shift + slots) }) at (sym (shifted_there graph slots place node there) ∙ is);
        }

shifts : (two three : Bool) → (two ≡ true → three ≡ true) → (q p s : ℕ) → cond three 0 ((q + p) + s) ≡ cond three 0 (q + cond two 0 (p + s))
shifts two true kept q p s = refl
shifts true false kept q p s = absurd (false≢true (kept refl))
shifts false false kept q p s = omega arith

-- the place behind a place
abbrev pub place_behind : Target → Target → Target
place_behind place further = record { node = further.node; shift = further.shift + place.shift }

pub placed_through : (one two three : Graph) (name : Name) (target place further : Target) (first : IsPlaced one two name target place) → IsPlaced two three name first.at further
    → IsPlaced one three name target (place_behind place further)
placed_through one two three name target place further first second =
    let a = behind two target.shift place first.at first.behind in
    let b = behind three first.at.shift further second.at second.behind in
    let node_same : place.node ≡ first.at.node = ap (λ (t : Target). t.node) a.same in
    let shift_same : shift_in a.node (place.shift + target.shift) ≡ first.at.shift = ap (λ (t : Target). t.shift) a.same in
    let last_same : further.node ≡ second.at.node = ap (λ (t : Target). t.node) b.same in
    record {
      at = second.at;
      is = second.is;
      certain = second.certain;
      behind = shifted_there three target.shift (place_behind place further) b.node b.is
          ∙ ap (λ s. Some (record { node = further.node; shift = s }))
          (shifts (is_collapsed a.node.element) (is_collapsed b.node.element)
          (λ collapsed. sym (collapsed_there three further.node b.node b.is) ∙ ap (is_collapsed_at three) last_same
          ∙ second.collapsed (sym (ap (is_collapsed_at two) node_same) ∙ (collapsed_there two place.node a.node a.is ∙ collapsed)))
          further.shift place.shift target.shift ∙ ap (λ s. shift_in b.node (further.shift + s)) shift_same)
          ∙ ap (λ t. Some t) b.same;
      collapsed = λ collapsed. second.collapsed (first.collapsed collapsed);
    }

-- the node of a name's target is that of its place
pub same_node : (one two : Graph) (name : Name) (target place : Target) (first : IsPlaced one two name target place) → first.at.node ≡ place.node
same_node one two name target place first = sym (ap (λ (t : Target). t.node) (behind two target.shift place first.at first.behind).same)

pub aligned_through : (one two three : Graph) → AreAligned one two → AreAligned two three → AreAligned one three
aligned_through one two three first second = record {
  places = λ number. place_behind (first.places number) (second.places (first.places number).node);
  globals = λ number target is.
      let its = first.globals number target is in
      let then = second.globals number its.at its.is in
      placed_through one two three (OfGlobal number) target (first.places target.node) (second.places (first.places target.node).node) its
      (subst (λ n. IsPlaced two three (OfGlobal number) its.at (second.places n)) (same_node one two (OfGlobal number) target (first.places target.node) its) then);
  literals = λ number target is.
      let its = first.literals number target is in
      let then = second.literals number its.at its.is in
      placed_through one two three (OfLiteral number) target (first.places target.node) (second.places (first.places target.node).node) its
      (subst (λ n. IsPlaced two three (OfLiteral number) its.at (second.places n)) (same_node one two (OfLiteral number) target (first.places target.node) its) then);
}
