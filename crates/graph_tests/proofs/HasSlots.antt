-- What is tested of a program and its graphs is what is asked of them.
use Rattle.std.proofs.Common.{◌≡◌, Bool, true, List, [], ◌∷◌, map, Option, Some, None, refl, sym, ap, subst, arith}
use Rattle.std.specs.Prelude.{slice_get}
use Rattle.std.specs.List.{AllByRecursion}
use Rattle.std.proofs.lemmas.List.{length-map}
use Rattle.std.proofs.lemmas.Option.{slice_get_within}
use Rattle.c_typed.specs.Table.{Interned, type_in}
use Rattle.tac_ir.specs.declared.program.Function.{Function}
use Rattle.tac_ir.specs.declared.program.LocalObject.{LocalObject}
use Rattle.tac_ir.specs.declared.program.Tac.{Tac}
use Rattle.heap_graph.specs.declared.frozen.Node.{Node}
use Rattle.heap_graph.specs.declared.frozen.FrozenGraph.{FrozenGraph}
use Rattle.heap_graph.specs.Frozen.{inner}
use Rattle.heap_graph.specs.Embeddings.{OptionHasSlots, NodesHaveSlots}
use Rattle.graph_checker.specs.Fits.{ObjectsFit}
use Rattle.heap_graph.proofs.Whole.{each_at, at_each}
use Rattle.graph_tests.specs.Plain.{HasNoObjects}

pub map_same : {X : Type 0} (xs : List X) → map (λ x. x) xs ≡ xs
map_same [] = refl
map_same (x ∷ xs) = ap (λ ys. x ∷ ys) (map_same xs)

pub objects_fit : (tac : Tac) (function : Function) → HasNoObjects function → ObjectsFit tac function
objects_fit tac function none number c_type is =
    let less = slice_get_within (map (λ (object : LocalObject). type_in tac.types object.c_type) function.objects.items) number c_type is in
    let same = length-map function.objects.items (λ (object : LocalObject). type_in tac.types object.c_type) in
    absurd (omega (arith, less, same, none))

module _ (table : Interned) (graph : FrozenGraph) where
  pub nodes_fit : AllByRecursion (OptionHasSlots table) graph.nodes.items → NodesHaveSlots table graph
  nodes_fit all number = by (slice_get graph.nodes.items number) refl
    where
      by : (found : Option (Option Node)) → slice_get graph.nodes.items number ≡ found → OptionHasSlots table (inner found)
      by None e = tt
      by (Some node) e = at_each (OptionHasSlots table) graph.nodes.items all number node e

  pub fit_nodes : NodesHaveSlots table graph → AllByRecursion (OptionHasSlots table) graph.nodes.items
  fit_nodes fit = each_at (OptionHasSlots table) graph.nodes.items (λ at node is. subst (λ (o : Option (Option Node)). OptionHasSlots table (inner o)) is (fit at))

-- what is judged of all
pub same_all : {X : Type 0} (P : X → Type 0) (xs : List X) (test : Bool) → (test ≡ true → AllByRecursion P (map (λ x. x) xs)) × (AllByRecursion P (map (λ x. x) xs) → test ≡ true)
    → (test ≡ true → AllByRecursion P xs) × (AllByRecursion P xs → test ≡ true)
same_all P xs test judged = subst (λ ys. (test ≡ true → AllByRecursion P ys) × (AllByRecursion P ys → test ≡ true)) (map_same xs) judged

pub told : (table : Interned) (graph : FrozenGraph) (nodes : List (Option Node)) → nodes ≡ graph.nodes.items → (test : Bool)
    → (test ≡ true → AllByRecursion (OptionHasSlots table) (map (λ node. node) nodes)) × (AllByRecursion (OptionHasSlots table) (map (λ node. node) nodes) → test ≡ true)
    → (test ≡ true → NodesHaveSlots table graph) × (NodesHaveSlots table graph → test ≡ true)
told table graph nodes same test judged =
    let all = same_all (OptionHasSlots table) nodes test judged in (
      (λ t. nodes_fit table graph (subst (AllByRecursion (OptionHasSlots table)) same (all.0 t))),
      (λ fit. all.1 (subst (AllByRecursion (OptionHasSlots table)) (sym same) (fit_nodes table graph fit))),
    )
