-- Nodes that names of a graph have, and those that the names in memory have.
use Rattle.std.proofs.Common.{◌≡◌, ℕ, ◌↔◌, ◌⊎◌, inl, inr, Bool, true, false, List, Option, Some, None, refl, sym, ap, subst, ◌∙◌, arith}
use Rattle.std.specs.Prelude.{slice_get}
use Rattle.std.proofs.lemmas.Option.{none-some, slice_get_cases}
use Rattle.indexmap.specs.IndexMap.{IndexMap}
use Rattle.c_typed.specs.Table.{Interned}
use Rattle.tac_ir.specs.States.{Owner, InStart, InFunction}
use Rattle.heap_graph.specs.declared.graph.Target as memory_target
use Rattle.heap_graph.specs.Graphs.{Target, Name, OfRegister, OfResult, OfObject, OfGlobal, OfLiteral, OfCopy, Graph, Crossing}
use Rattle.heap_graph.specs.Closed.{Family, graph_of, is_in, IsCrossing, IsNeeded, named, embedded}
use Rattle.heap_graph.specs.Frozen.{static_in}
use Rattle.heap_graph.specs.declared.frozen.FunctionNames.{FunctionNames}
use Rattle.heap_graph.specs.declared.frozen.FrozenGraph.{FrozenGraph}
use Rattle.heap_graph.specs.declared.program.FunctionGraph.{FunctionGraph}
use Rattle.heap_graph.specs.Shows.{ShowsGraph, ShowsNames, HasNoNames, ShowsGroup}
use Rattle.heap_graph.specs.Marks.{IsNodeOf, IsNamedBy, by_register, by_result, by_object, IsMentionedBy, IsImageOf}

-- ---- nodes of targets

pub node_is : (target : Option Target) (number : ℕ) → IsNodeOf target number → (own : Target) × (target ≡ Some own) × (own.node ≡ number)
node_is None number is = absurd is
node_is (Some target) number is = (target, refl, is)

pub is_node : (target : Option Target) (own : Target) (number : ℕ) → target ≡ Some own → own.node ≡ number → IsNodeOf target number
is_node target own number is node = subst (λ t. IsNodeOf t number) (sym is) node

-- ---- names

-- the node of one of the graph's names
pub record HasName (shown : Graph) (number : ℕ) : Type 0 where
  pub name : Name
  pub target : Target
  pub is : shown.targets name ≡ Some target
  pub node : target.node ≡ number

pub name_at : (shown : Graph) (number : ℕ) (name : Name) (target : Option Target) → shown.targets name ≡ target → IsNodeOf target number → HasName shown number
name_at shown number name target same is = let own = node_is target number is in record { name = name; target = own.0; is = same ∙ own.1; node = own.2 }

pub named_has_name : (family : Family) (owner : Owner) (names : FunctionNames) → ShowsNames family owner names → (number : ℕ) → IsNamedBy names number → HasName (graph_of family owner) number
named_has_name family owner names shows number (by_register register is) = name_at (graph_of family owner) number (OfRegister owner register) _ (shows.registers register) is
named_has_name family owner names shows number (by_result is) = name_at (graph_of family owner) number (OfResult owner) _ shows.returned is
named_has_name family owner names shows number (by_object local is) = name_at (graph_of family owner) number (OfObject owner local) _ (shows.objects local) is

pub mentioned_has_name : (table : Interned) (family : Family) (owner : Owner) (graph : FrozenGraph) → ShowsGraph table family owner graph → (number : ℕ) → IsMentionedBy graph number
    → HasName (graph_of family owner) number
mentioned_has_name table family owner graph shows number (inl found) = name_at (graph_of family owner) number (OfGlobal found.0) _ (shows.globals found.0) found.1
mentioned_has_name table family owner graph shows number (inr found) = name_at (graph_of family owner) number (OfLiteral found.0) _ (shows.literals found.0) found.1

node_there : (target : Target) (own found : Option Target) → own ≡ Some target → own ≡ found → IsNodeOf found target.node
node_there target own found is same = is_node found target target.node (sym same ∙ is) refl

-- ---- of a group

-- a name of one of the group's functions has this node
pub record IsNamedIn (group : List ℕ) (functions : List FunctionGraph) (number : ℕ) : Type 0 where
  pub function : ℕ
  pub inside : is_in function group ≡ true
  pub own : FunctionGraph
  pub there : slice_get functions function ≡ Some own
  pub names : IsNamedBy own.names number

module _ (table : Interned) (family : Family) (group : List ℕ) (graph : FrozenGraph) (functions : List FunctionGraph) (shows : ShowsGroup table family group graph functions)
    (one : ℕ) (inside : is_in one group ≡ true) where
  abbrev one_graph : Graph
  one_graph = graph_of family (InFunction one)

  own_there : (function : ℕ) → is_in function group ≡ true → (own : FunctionGraph) × (slice_get functions function ≡ Some own)
  own_there function is = elim (slice_get_cases functions function).1 [ inl found ↦ (found.0, found.2) | inr past ↦ absurd (omega (arith, past.0, shows.there function is)) ]

  nameless : (name : Name) (target : Target) → one_graph.targets name ≡ Some target → one_graph.targets name ≡ None → ⊥
  nameless name target is none = none-some target (sym none ∙ is)

  pub group_has_name : (number : ℕ) → IsMentionedBy graph number ⊎ IsNamedIn group functions number → HasName one_graph number
  group_has_name number (inl is) = mentioned_has_name table family (InFunction one) graph (shows.one one inside) number is
  group_has_name number (inr is) =
      subst (λ g. HasName g number) (sym (shows.same one is.function inside is.inside))
      (named_has_name family (InFunction is.function) is.own.names (shows.names is.function is.own is.inside is.there) number is.names)

  module _ (function : ℕ) (is : is_in function group ≡ true) where
    own_names : ShowsNames family (InFunction function) (own_there function is).0.names
    own_names = shows.names function (own_there function is).0 is (own_there function is).1

    of_function : (name : Name) (target : Target) → one_graph.targets name ≡ Some target → IsNamedBy (own_there function is).0.names target.node → IsNamedIn group functions target.node
    of_function name target at names = record { function = function; inside = is; own = (own_there function is).0; there = (own_there function is).1; names = names }

    in_one : (name : Name) → one_graph.targets name ≡ (graph_of family (InFunction function)).targets name
    in_one name = ap (λ g. g.targets name) (shows.same one function inside is)

  by_owner : (name : Name) (target : Target) (function : ℕ) → one_graph.targets name ≡ Some target → (HasNoNames one_graph (InFunction function) → one_graph.targets name ≡ None)
      → ((is : is_in function group ≡ true) → IsNamedBy (own_there function is).0.names target.node) → IsNamedIn group functions target.node
  by_owner name target function at none there = by (is_in function group) refl
    where
      by : (test : Bool) → is_in function group ≡ test → IsNamedIn group functions target.node
      by true is = of_function function is name target at (there is)
      by false out = absurd (nameless name target at (none (shows.others one (InFunction function) inside out)))

  of_name : (name : Name) (target : Target) → one_graph.targets name ≡ Some target → IsMentionedBy graph target.node ⊎ IsNamedIn group functions target.node
  of_name (OfRegister InStart register) target at = absurd (nameless (OfRegister InStart register) target at ((shows.others one InStart inside refl).registers register))
  of_name (OfResult InStart) target at = absurd (nameless (OfResult InStart) target at (shows.others one InStart inside refl).returned)
  of_name (OfObject InStart local) target at = absurd (nameless (OfObject InStart local) target at ((shows.others one InStart inside refl).objects local))
  of_name (OfRegister (InFunction function) register) target at =
      inr (by_owner (OfRegister (InFunction function) register) target function at (λ none. none.registers register)
      (λ is. by_register register (node_there target _ _ at (in_one function is (OfRegister (InFunction function) register) ∙ (own_names function is).registers register))))
  of_name (OfResult (InFunction function)) target at =
      inr (by_owner (OfResult (InFunction function)) target function at (λ none. none.returned)
      (λ is. by_result (node_there target _ _ at (in_one function is (OfResult (InFunction function)) ∙ (own_names function is).returned))))
  of_name (OfObject (InFunction function) local) target at =
      inr (by_owner (OfObject (InFunction function) local) target function at (λ none. none.objects local)
      (λ is. by_object local (node_there target _ _ at (in_one function is (OfObject (InFunction function) local) ∙ (own_names function is).objects local))))
  of_name (OfGlobal number) target at = inl (inl (number, node_there target _ _ at ((shows.one one inside).globals number)))
  of_name (OfLiteral number) target at = inl (inr (number, node_there target _ _ at ((shows.one one inside).literals number)))
  of_name (OfCopy number) target at = absurd (nameless (OfCopy number) target at ((shows.one one inside).copies number))

  -- the nodes of a group's names are those that its functions name and those that its graph mentions
  pub group_names : (number : ℕ) → HasName one_graph number ↔ (IsMentionedBy graph number ⊎ IsNamedIn group functions number)
  group_names number =
      (λ has. subst (λ n. IsMentionedBy graph n ⊎ IsNamedIn group functions n) has.node (of_name has.name has.target has.is), group_has_name number)

-- ---- of `start`

module _ (table : Interned) (family : Family) (graph : FrozenGraph) (names : FunctionNames) (shows : ShowsGraph table family InStart graph) (own : ShowsNames family InStart names)
    (others : (function : ℕ) → HasNoNames (graph_of family InStart) (InFunction function)) where
  start_has_name : (number : ℕ) → IsMentionedBy graph number ⊎ IsNamedBy names number → HasName (graph_of family InStart) number
  start_has_name number (inl is) = mentioned_has_name table family InStart graph shows number is
  start_has_name number (inr is) = named_has_name family InStart names own number is

  of_start : (name : Name) (target : Target) → (graph_of family InStart).targets name ≡ Some target → IsMentionedBy graph target.node ⊎ IsNamedBy names target.node
  of_start (OfRegister InStart register) target at = inr (by_register register (node_there target _ _ at (own.registers register)))
  of_start (OfResult InStart) target at = inr (by_result (node_there target _ _ at own.returned))
  of_start (OfObject InStart local) target at = inr (by_object local (node_there target _ _ at (own.objects local)))
  of_start (OfRegister (InFunction function) register) target at = absurd (none-some target (sym ((others function).registers register) ∙ at))
  of_start (OfResult (InFunction function)) target at = absurd (none-some target (sym (others function).returned ∙ at))
  of_start (OfObject (InFunction function) local) target at = absurd (none-some target (sym ((others function).objects local) ∙ at))
  of_start (OfGlobal number) target at = inl (inl (number, node_there target _ _ at (shows.globals number)))
  of_start (OfLiteral number) target at = inl (inr (number, node_there target _ _ at (shows.literals number)))
  of_start (OfCopy number) target at = absurd (none-some target (sym (shows.copies number) ∙ at))

  pub start_names : (number : ℕ) → HasName (graph_of family InStart) number ↔ (IsMentionedBy graph number ⊎ IsNamedBy names number)
  start_names number = (λ has. subst (λ n. IsMentionedBy graph n ⊎ IsNamedBy names n) has.node (of_start has.name has.target has.is), start_has_name number)

-- ---- needed nodes

pub needed_by_name : (family : Family) (shown : Graph) (owners : Owner → Bool) (number : ℕ) → HasName shown number → IsNeeded family shown owners number
needed_by_name family shown owners number has = named has.name has.target has.is has.node

pub needed_by_image : {S : Type 0} (family : Family) (shown : Graph) (owners : Owner → Bool) (at : Crossing) (embedding : IndexMap ℕ memory_target.Target S) (number : ℕ)
    → owners at.owner ≡ true → IsCrossing family at → ((node : ℕ) → family.graphs.embedding at node ≡ static_in embedding node) → IsImageOf embedding number
    → IsNeeded family shown owners number
needed_by_image family shown owners at embedding number owned crosses same image =
    let own = node_is (static_in embedding image.0) number image.1 in
    embedded at image.0 own.0 owned crosses (same image.0 ∙ own.1) own.2

-- a node that is needed has a name, or is an image
pub needed_name_or_image : (family : Family) (shown : Graph) (owners : Owner → Bool) (number : ℕ) → IsNeeded family shown owners number
    → HasName shown number ⊎ ((at : Crossing) × (owners at.owner ≡ true) × IsCrossing family at × (node : ℕ) × IsNodeOf (family.graphs.embedding at node) number)
needed_name_or_image family shown owners number (named name target is node) = inl (record { name = name; target = target; is = is; node = node })
needed_name_or_image family shown owners number (embedded at node target owned crosses is same) =
    inr (at, owned, crosses, node, is_node (family.graphs.embedding at node) target number is same)
