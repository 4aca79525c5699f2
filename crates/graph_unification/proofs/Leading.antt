-- Names that got nodes of their own: what is known of them, and maps to other graphs.
use Rattle.std.proofs.Common.{◌≡◌, ℕ, true, List, [], Option, Some, None, refl, sym, ap, subst, ◌∙◌, ◌⊎◌, inl, inr}
use Rattle.std.proofs.lemmas.Bool.{false≢true}
use Rattle.std.proofs.lemmas.Option.{none-some, same_Some}
use Rattle.c_typed.specs.Layouts.{StructDef}
use Rattle.tac_ir.specs.Code.{Function}
use Rattle.tac_ir.specs.States.{Owner}
use Rattle.heap_graph.specs.Graphs.{Target, Node, Name, Graph, node_at}
use Rattle.heap_graph.specs.Targets.{has_target}
use Rattle.heap_graph.specs.Merging.{GraphMap, Maps}
use Rattle.graph_unification.proofs.NameKeys.{name_cases}
use Rattle.graph_unification.specs.Adding.{AddsName, AddsMissing, Added, Had, AddsSome, Same, More, HasOwnNode, NameFits, NamesFit}
use Rattle.graph_unification.specs.GraphNames.First.{first_node, AddsFunction}
use Rattle.graph_unification.proofs.OneName.{adds_leads, new_or_old}

-- ---- nodes

-- a node that was there is there
pub nodes_kept : (first : Name → Option Node) (old new : Graph) → AddsSome first old new → (number : ℕ) (its : Node) → node_at old number ≡ Some its → node_at new number ≡ Some its
nodes_kept first old new Same number its e = e
nodes_kept first old new (More middle _ name node more is adds) number its e =
    let was = nodes_kept first old middle more number its e in
    adds.nodes number (λ same. none-some its (sym adds.fresh ∙ (ap (node_at middle) (sym same) ∙ was))) ∙ was

-- a name without a first node has the target that it had
pub others_kept : (first : Name → Option Node) (old new : Graph) → AddsSome first old new → (name : Name) → first name ≡ None → new.targets name ≡ old.targets name
others_kept first old new Same name none = refl
others_kept first old new (More middle _ added node more is adds) name none =
    adds.names name (λ same. none-some node (sym none ∙ (ap first same ∙ is))) ∙ others_kept first old middle more name none

-- so has one that had a target
pub targets_kept : (first : Name → Option Node) (old new : Graph) → AddsSome first old new → (name : Name) (target : Target) → old.targets name ≡ Some target → new.targets name ≡ Some target
targets_kept first old new Same name target e = e
targets_kept first old new (More middle _ added node more is adds) name target e =
    let was = targets_kept first old middle more name target e in
    adds.names name (λ same. none-some target (sym adds.had_none ∙ (ap middle.targets (sym same) ∙ was))) ∙ was

gone_before : (first : Name → Option Node) (old middle : Graph) → AddsSome first old middle → (number : ℕ) → node_at middle number ≡ None → node_at old number ≡ None
gone_before first old middle more number gone = by (node_at old number) refl
  where
    by : (o : Option Node) → node_at old number ≡ o → o ≡ None
    by None e = refl
    by (Some its) e = absurd (none-some its (sym gone ∙ nodes_kept first old middle more number its e))

-- the name that got a node last
own_last : (first : Name → Option Node) (old middle new : Graph) (name : Name) (node : Node) → AddsSome first old middle → AddsName middle new name node → HasOwnNode old new name node
own_last first old middle new name node more adds = record {
  number = adds.number;
  target = adds.target;
  fresh = gone_before first old middle more adds.number adds.fresh;
  at = adds.at;
  alone = λ other target e there. alone_in other target e there (name_cases name other);
}
  where
    alone_in : (other : Name) (target : Target) → new.targets other ≡ Some target → target.node ≡ adds.number → (other ≡ name) ⊎ (other ≡ name → ⊥) → other ≡ name
    alone_in other target e there (inl is) = is
    alone_in other target e there (inr differ) = absurd (adds.unnamed other target (sym (adds.names other differ) ∙ e) there)

-- one that got it before
own_before : (old middle new : Graph) (name : Name) (node : Node) (added : Name) (its : Node) → AddsName middle new added its → (name ≡ added → ⊥) → HasOwnNode old middle name node → HasOwnNode old new name node
own_before old middle new name node added its adds differ own = record {
  number = own.number;
  target = adds.names name differ ∙ own.target;
  fresh = own.fresh;
  at = adds.nodes own.number far ∙ own.at;
  alone = λ other target e there. alone_in other target e there (name_cases added other);
}
  where
    far : own.number ≡ adds.number → ⊥
    far same = none-some node (sym adds.fresh ∙ (ap (node_at middle) (sym same) ∙ own.at))

    alone_in : (other : Name) (target : Target) → new.targets other ≡ Some target → target.node ≡ own.number → (other ≡ added) ⊎ (other ≡ added → ⊥) → other ≡ name
    alone_in other target e there (inl is) =
        let t = same_Some target (record { node = adds.number; shift = 0 }) (sym e ∙ (ap new.targets is ∙ adds.target)) in
        absurd (far (sym there ∙ ap (λ (t : Target). t.node) t))
    alone_in other target e there (inr differs) = own.alone other target (sym (adds.names other differs) ∙ e) there

own_step : (first : Name → Option Node) (old middle new : Graph) (name : Name) (node : Node) (added : Name) (its : Node) → AddsSome first old middle → first added ≡ Some its → AddsName middle new added its
    → first name ≡ Some node → ((name ≡ added → ⊥) → HasOwnNode old middle name node) → (name ≡ added) ⊎ (name ≡ added → ⊥) → HasOwnNode old new name node
own_step first old middle new name node added its more is adds of_name before (inl same) =
    let one : its ≡ node = same_Some its node (sym is ∙ (ap first (sym same) ∙ of_name)) in
    subst (λ (n : Name). HasOwnNode old new n node) (sym same) (subst (HasOwnNode old new added) one (own_last first old middle new added its more adds))
own_step first old middle new name node added its more is adds of_name before (inr differ) = own_before old middle new name node added its adds differ (before differ)

no_target : (t : Option Target) → t ≡ None → has_target t ≡ true → ⊥
no_target None e h = false≢true h
no_target (Some t) e h = none-some t (sym e)

-- a name that had no target and has one now has its first node, which no other name has
pub own_node : (first : Name → Option Node) (old new : Graph) (name : Name) (node : Node) → AddsSome first old new → first name ≡ Some node → old.targets name ≡ None
    → has_target (new.targets name) ≡ true → HasOwnNode old new name node
own_node first old new name node Same of_name none has = absurd (no_target (old.targets name) none has)
own_node first old new name node (More middle _ added its more is adds) of_name none has =
    own_step first old middle new name node added its more is adds of_name
    (λ differ. own_node first old middle name node more of_name none (ap has_target (sym (adds.names name differ)) ∙ has))
    (name_cases added name)

-- ---- maps

-- a map of the old graph is extended to the new one
pub leads : (structs : List StructDef) (first : Name → Option Node) (old new other : Graph) (into : GraphMap) → AddsSome first old new → Maps structs old other into → NamesFit structs other first
    → (rest : GraphMap) × Maps structs new other rest × ((number : ℕ) (its : Node) → node_at old number ≡ Some its → rest number ≡ into number)
leads structs first old new other into Same maps fit = (into, maps, λ number its e. refl)
leads structs first old new other into (More middle _ name node more is adds) maps fit =
    let before = leads structs first old middle other into more maps fit in
    let now = adds_leads structs middle new name node adds other before.0 before.1 (fit name node is) in
    (now.0, now.1, λ number its e. now.2 number its (nodes_kept first old middle more number its e) ∙ before.2 number its e)

-- that of a function's names
pub function_leads : (structs : List StructDef) (old new other : Graph) (owner : Owner) (function : Function) (into : GraphMap) → AddsFunction old new owner function → Maps structs old other into
    → NamesFit structs other (first_node owner function)
    → (rest : GraphMap) × Maps structs new other rest × ((number : ℕ) (its : Node) → node_at old number ≡ Some its → rest number ≡ into number)
function_leads structs old new other owner function into added maps fit = leads structs (first_node owner function) old new other into added.adds maps fit

-- that of one name, where it had no target
pub missing_leads : (structs : List StructDef) (old new other : Graph) (name : Name) (node : Node) (into : GraphMap) → AddsMissing old new name node → Maps structs old other into
    → (old.targets name ≡ None → NameFits structs other name node)
    → (rest : GraphMap) × Maps structs new other rest × ((number : ℕ) (its : Node) → node_at old number ≡ Some its → rest number ≡ into number)
missing_leads structs old new other name node into (Added adds) maps fits = adds_leads structs old new name node adds other into maps (fits adds.had_none)
missing_leads structs old new other name node into (Had target e same) maps fits = (into, subst (λ (g : Graph). Maps structs g other into) (sym same) maps, λ number its e. refl)

-- and what is known of it: it has a target; where it had none, that of a node of its own; all others and all nodes are as they were
pub missing_own : (old new : Graph) (name : Name) (node : Node) → AddsMissing old new name node → old.targets name ≡ None → HasOwnNode old new name node
missing_own old new name node (Added adds) none = own_last (λ n. None) old old new name node Same adds
missing_own old new name node (Had target e same) none = absurd (none-some target (sym none ∙ e))

-- ---- nodes that are new

-- a name has a node at its first slot
pub record IsNamed (first : Name → Option Node) (new : Graph) (number : ℕ) (node : Node) : Type 0 where
  pub name : Name
  pub is : first name ≡ Some node
  pub target : new.targets name ≡ Some (record { node = number; shift = 0 })

named_stays : (first : Name → Option Node) (old new : Graph) (name : Name) (node : Node) → AddsName old new name node → (number : ℕ) (its : Node) → IsNamed first old number its → IsNamed first new number its
named_stays first old new name node adds number its named = record {
  name = named.name;
  is = named.is;
  target = adds.names named.name (λ same. none-some _ (sym adds.had_none ∙ (ap old.targets (sym same) ∙ named.target))) ∙ named.target;
}

named_step : (first : Name → Option Node) (old middle new : Graph) (name : Name) (node : Node) → first name ≡ Some node → (adds : AddsName middle new name node) → (number : ℕ) (its : Node)
    → (node_at middle number ≡ Some its → (node_at old number ≡ Some its) ⊎ IsNamed first middle number its)
    → ((number ≡ adds.number) × (its ≡ node)) ⊎ ((number ≡ adds.number → ⊥) × (node_at middle number ≡ Some its)) → (node_at old number ≡ Some its) ⊎ IsNamed first new number its
named_step first old middle new name node of_name adds number its before (inl is) =
    inr (record { name = name; is = of_name ∙ ap Some (sym is.1); target = adds.target ∙ ap (λ n. Some (record { node = n; shift = 0 })) (sym is.0) })
named_step first old middle new name node of_name adds number its before (inr was) = by (before was.1)
  where
    by : (node_at old number ≡ Some its) ⊎ IsNamed first middle number its → (node_at old number ≡ Some its) ⊎ IsNamed first new number its
    by (inl e) = inl e
    by (inr named) = inr (named_stays first middle new name node adds number its named)

-- each node is an old one, or the first node of a name
pub old_or_named : (first : Name → Option Node) (old new : Graph) → AddsSome first old new → (number : ℕ) (its : Node) → node_at new number ≡ Some its
    → (node_at old number ≡ Some its) ⊎ IsNamed first new number its
old_or_named first old new Same number its e = inl e
old_or_named first old new (More middle _ name node more is adds) number its e =
    named_step first old middle new name node is adds number its (λ was. old_or_named first old middle more number its was) (new_or_old [] middle new name node adds number its e)
