-- Variables outside functions and literals that get nodes.
use Rattle.std.proofs.Common.{◌≡◌, ℕ, true, List, Option, Some, sym, ap, subst, ◌∙◌}
use Rattle.std.specs.Prelude.{slice_get}
use Rattle.std.proofs.lemmas.Bool.{false≢true}
use Rattle.std.proofs.lemmas.Option.{same_Some}
use Rattle.c_typed.specs.Types.{literal_type}
use Rattle.c_typed.specs.Typed.{GlobalDef, LiteralDef}
use Rattle.tac_ir.specs.Code.{Tac}
use Rattle.tac_ir.specs.States.{Owner}
use Rattle.heap_graph.specs.Structures.{AreMade}
use Rattle.heap_graph.specs.Graphs.{Target, Node, Name, OfGlobal, OfLiteral, Graph}
use Rattle.heap_graph.specs.Targets.{has_target}
use Rattle.heap_graph.specs.Merging.{IsSound}
use Rattle.graph_unification.specs.Adding.{AddsMissing, Added, Had, NameFits}
use Rattle.graph_unification.specs.GraphNames.First.{object_node, static_flags}
use Rattle.graph_unification.proofs.Leading.{missing_leads}
use Rattle.graph_unification.proofs.Goes.{missing_goes}
use Rattle.dsa_local.specs.Told.{NamesTold}
use Rattle.dsa_local.proofs.GroupBegins.Kept.{global_told, literal_told}
use Rattle.dsa_inlining.specs.Crossed.{Comes, IsImage, is_mentioned, StaticsFit}
use Rattle.dsa_inlining.specs.Joins.{Joins}
use Rattle.dsa_inlining.proofs.Joining.{Nothing, joins_then}

others_same : (old new : Graph) (name : Name) (node : Node) → AddsMissing old new name node → (other : Name) → (other ≡ name → ⊥) → new.targets other ≡ old.targets other
others_same old new name node (Added adds) other differs = adds.names other differs
others_same old new name node (Had target is same) other differs = ap (λ (g : Graph). g.targets other) same

module _ (tac : Tac) (made : AreMade tac.structs) (callee : Graph) (old new : Graph) (sound : IsSound tac.structs old) where
  added : (name : Name) (node : Node) → is_mentioned callee name ≡ true → AddsMissing old new name node → ((owners : List Owner) → NamesTold tac owners old → NamesTold tac owners new)
      → ((other : Graph) → StaticsFit tac callee other → NameFits tac.structs other name node) → Joins tac callee Nothing old new
  added name node mentioned adds told fits = record {
    goes = missing_goes tac.structs made old new name node sound adds;
    names = λ other apart. ap has_target (others_same old new name node adds other (λ same. false≢true (sym apart ∙ (ap (is_mentioned callee) same ∙ mentioned))));
    told = told;
    leads = λ other into maps statics nothing.
        let rest = missing_leads tac.structs old new other name node into adds maps (λ none. fits other statics) in
        (rest.0, rest.1);
    joined = tt;
  }

  pub global_added : (number : ℕ) (global : GlobalDef) → slice_get tac.globals number ≡ Some global → is_mentioned callee (OfGlobal number) ≡ true
      → AddsMissing old new (OfGlobal number) (object_node global.c_type (static_flags global.c_type)) → Joins tac callee Nothing old new
  global_added number global is mentioned adds =
      added (OfGlobal number) (object_node global.c_type (static_flags global.c_type)) mentioned adds
      (λ owners told. global_told tac made owners old new sound number global is adds told) (λ other statics. statics.globals number global is mentioned)

  pub literal_added : (number : ℕ) (literal : LiteralDef) → slice_get tac.literals number ≡ Some literal → is_mentioned callee (OfLiteral number) ≡ true
      → AddsMissing old new (OfLiteral number) (object_node (literal_type literal.bytes) (static_flags (literal_type literal.bytes))) → Joins tac callee Nothing old new
  literal_added number literal is mentioned adds =
      added (OfLiteral number) (object_node (literal_type literal.bytes) (static_flags (literal_type literal.bytes))) mentioned adds
      (λ owners told. literal_told tac made owners old new sound number literal is adds told) (λ other statics. statics.literals number literal is mentioned)

-- it gets a node, and then comes to its copy
pub added_comes : (tac : Tac) (made : AreMade tac.structs) (callee : Graph) (copies : ℕ → Option ℕ) (name its : Name) (one two three : Graph) → IsSound tac.structs one → IsSound tac.structs two → (target : Target)
    → callee.targets its ≡ Some target → Joins tac callee Nothing one two → Joins tac callee (IsImage copies name target) two three → Joins tac callee (Comes callee copies name its) one three
added_comes tac made callee copies name its one two three sound fine target at first then =
    joins_then tac made callee one two three sound fine Nothing (IsImage copies name target) (Comes callee copies name its) (λ old new before goes nothing. nothing)
    (λ graph comes. (tt, comes target at)) (λ graph nothing image other is. same graph image other is) first then
  where
    same : (graph : Graph) → IsImage copies name target graph → (other : Target) → callee.targets its ≡ Some other → IsImage copies name other graph
    same graph image other is = subst (λ t. IsImage copies name t graph) (same_Some target other (sym at ∙ is)) image
