-- What is told of a graph is told where it has more flags.
use Rattle.std.proofs.Common.{◌≡◌, ℕ, ◌+◌, Bool, true, false, eqb, List, [], Option, Some, None, refl, sym, ap, subst, ◌∙◌, eqb-true}
use Rattle.std.proofs.lemmas.Bool.{false≢true, eq-eqb}
use Rattle.std.proofs.lemmas.Option.{same_Some, none-some}
use Rattle.heap_graph.specs.Graphs.{Target, Edge, Element, Flags, Node, Graph, edge_in, node_at}
use Rattle.heap_graph.specs.Targets.{at_target, shifted, edge_at}
use Rattle.heap_graph.proofs.MapsCompose.{shift_in, at_there, at_from, shifted_there, edge_there}
use Rattle.graph_unification.specs.Changes.{SetsFlags}
use Rattle.graph_unification.specs.declared.marks.Mark.TheVariants as M
use Rattle.graph_unification.specs.Asked.{marked}
use Rattle.heap_graph.specs.Asks.{is_certain}
use Rattle.heap_graph.proofs.Certain.{certain_some}
use Rattle.dsa_local.specs.Growing.{FlagsGrow, NodeGrows, IsGrown, OnlyFlagsGrow}

-- ---- one after the other

flags_same : (flags : Flags) → FlagsGrow flags flags
flags_same flags = record { heap = λ h. h; stack = λ h. h; global = λ h. h; array = λ h. h; modified = λ h. h; read = λ h. h; certain = refl }

node_same : (node : Node) → NodeGrows node node
node_same node = record { element = refl; edges = refl; flags = flags_same node.flags }

node_then : (a b c : Node) → NodeGrows a b → NodeGrows b c → NodeGrows a c
node_then a b c first then = record {
  element = then.element ∙ first.element;
  edges = then.edges ∙ first.edges;
  flags = record {
    heap = λ h. then.flags.heap (first.flags.heap h);
    stack = λ h. then.flags.stack (first.flags.stack h);
    global = λ h. then.flags.global (first.flags.global h);
    array = λ h. then.flags.array (first.flags.array h);
    modified = λ h. then.flags.modified (first.flags.modified h);
    read = λ h. then.flags.read (first.flags.read h);
    certain = then.flags.certain ∙ first.flags.certain;
  };
}

pub grown_same : (graph : Graph) → OnlyFlagsGrow graph graph
grown_same graph = record { names = λ name. refl; nodes = λ number node is. record { now = node; is = is; grows = node_same node }; none = λ number is. is }

pub grown_then : (one two three : Graph) → OnlyFlagsGrow one two → OnlyFlagsGrow two three → OnlyFlagsGrow one three
grown_then one two three first then = record {
  names = λ name. then.names name ∙ first.names name;
  nodes = λ number node is.
      let middle = first.nodes number node is in
      let end = then.nodes number middle.now middle.is in
      record { now = end.now; is = end.is; grows = node_then node middle.now end.now middle.grows end.grows };
  none = λ number is. then.none number (first.none number is);
}

-- ---- a flag that is set

array_grows : (node : Node) → NodeGrows node (record node { flags = marked M.Array node.flags })
array_grows node = record {
  element = refl;
  edges = refl;
  flags = record { heap = λ h. h; stack = λ h. h; global = λ h. h; array = λ h. refl; modified = λ h. h; read = λ h. h; certain = refl };
}

pub grown_by_array : (old new : Graph) (number : ℕ) (own : Node) → node_at old number ≡ Some own → SetsFlags old new number (marked M.Array own.flags) → OnlyFlagsGrow old new
grown_by_array old new number own own_is sets = record { names = sets.names; nodes = nodes; none = none }
  where
    nodes : (n : ℕ) (node : Node) → node_at old n ≡ Some node → IsGrown new n node
    nodes n node e = by (eqb n number) refl
      where
        by : (b : Bool) → eqb n number ≡ b → IsGrown new n node
        by true t =
            let same = eqb-true n number t in
            let its : own ≡ node = same_Some own node (sym own_is ∙ ap (node_at old) (sym same) ∙ e) in
            record { now = record own { flags = marked M.Array own.flags }; is = ap (node_at new) same ∙ sets.at own own_is; grows = subst (λ (x : Node). NodeGrows x (record own { flags = marked M.Array own.flags })) its (array_grows own) }
        by false t = record { now = node; is = sets.others n (λ same. false≢true (sym t ∙ eq-eqb n number same)) ∙ e; grows = node_same node }

    none : (n : ℕ) → node_at old n ≡ None → node_at new n ≡ None
    none n e = by (eqb n number) refl
      where
        by : (b : Bool) → eqb n number ≡ b → node_at new n ≡ None
        by true t = absurd (none-some own (sym e ∙ ap (node_at old) (eqb-true n number t) ∙ own_is))
        by false t = sets.others n (λ same. false≢true (sym t ∙ eq-eqb n number same)) ∙ e

-- ---- targets

-- what holds of a node holds of it with more flags
abbrev pub Upward : (Node → ℕ → Bool) → Type 0
Upward holds = (a b : Node) (shift : ℕ) → NodeGrows a b → holds a shift ≡ true → holds b shift ≡ true

certain_none : (graph : Graph) (target : Target) → node_at graph target.node ≡ None → is_certain graph (Some target) ≡ false
certain_none graph target e = rw e refl

shifted_none : (graph : Graph) (slots : ℕ) (target : Target) → node_at graph target.node ≡ None → shifted graph slots (Some target) ≡ None
shifted_none graph slots target e = rw e refl

edge_none : (graph : Graph) (target : Target) → node_at graph target.node ≡ None → edge_at graph (Some target) ≡ None
edge_none graph target e = rw e refl

module _ (old new : Graph) (grows : OnlyFlagsGrow old new) where
  pub at_grown : (target : Option Target) (holds : Node → ℕ → Bool) → Upward holds → at_target old target holds ≡ true → at_target new target holds ≡ true
  at_grown None holds up h = refl
  at_grown (Some x) holds up h =
      let was = at_there old x holds h in
      let now = grows.nodes x.node was.node was.is in
      at_from new x holds now.now now.is (up was.node now.now x.shift now.grows was.so)

  pub certain_grown : (target : Option Target) → is_certain new target ≡ is_certain old target
  certain_grown None = refl
  certain_grown (Some x) = by (node_at old x.node) refl
    where
      by : (o : Option Node) → node_at old x.node ≡ o → is_certain new (Some x) ≡ is_certain old (Some x)
      by None e = certain_none new x (grows.none x.node e) ∙ sym (certain_none old x e)
      by (Some node) e = let now = grows.nodes x.node node e in certain_some new x now.now now.is ∙ (now.grows.flags.certain ∙ sym (certain_some old x node e))

  pub shifted_grown : (slots : ℕ) (target : Option Target) → shifted new slots target ≡ shifted old slots target
  shifted_grown slots None = refl
  shifted_grown slots (Some x) = by (node_at old x.node) refl
    where
      by : (o : Option Node) → node_at old x.node ≡ o → shifted new slots (Some x) ≡ shifted old slots (Some x)
      by None e = shifted_none new slots x (grows.none x.node e) ∙ sym (shifted_none old slots x e)
      by (Some node) e =
          let now = grows.nodes x.node node e in
          shifted_there new slots x now.now now.is
          ∙ (ap (λ (t : Element). Some (record { node = x.node; shift = shift_in (record { element = t; flags = node.flags; edges = [] }) (x.shift + slots) })) now.grows.element ∙ sym (shifted_there old slots x node e))

  pub edge_grown : (target : Option Target) → edge_at new target ≡ edge_at old target
  edge_grown None = refl
  edge_grown (Some x) = by (node_at old x.node) refl
    where
      by : (o : Option Node) → node_at old x.node ≡ o → edge_at new (Some x) ≡ edge_at old (Some x)
      by None e = edge_none new x (grows.none x.node e) ∙ sym (edge_none old x e)
      by (Some node) e = let now = grows.nodes x.node node e in edge_there new x now.now now.is ∙ (ap (λ (es : List Edge). edge_in es x.shift) now.grows.edges ∙ sym (edge_there old x node e))
