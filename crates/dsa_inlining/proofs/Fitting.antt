-- Variables outside functions and literals that are objects in another graph fit the nodes that they get.
use Rattle.std.proofs.Common.{◌≡◌, ℕ, Bool, true, false, List, Option, Some, None, refl, sym, ap, ◌∙◌}
use Rattle.std.proofs.lemmas.Bool.{false≢true, and_from}
use Rattle.std.proofs.lemmas.Option.{same_Some}
use Rattle.c_typed.specs.Types.{CType, literal_type}
use Rattle.c_typed.specs.Layouts.{StructDef}
use Rattle.tac_ir.specs.Code.{Tac}
use Rattle.heap_graph.specs.Graphs.{Target, Flags, Node, Name, OfGlobal, OfLiteral, Graph, is_copy, node_at}
use Rattle.heap_graph.specs.Targets.{has_target, at_target, is_array, implies, marks_kept, element_kept}
use Rattle.heap_graph.specs.Closed.{is_slot}
use Rattle.heap_graph.proofs.MapsCompose.{at_there, at_from}
use Rattle.heap_graph.proofs.Certain.{target_of_certain}
use Rattle.graph_unification.specs.Adding.{NameFits}
use Rattle.graph_unification.specs.GraphNames.First.{object_node, static_flags}
use Rattle.dsa_local.specs.Told.{IsObject, StaticsTold}
use Rattle.dsa_inlining.specs.Crossed.{AllCome, StaticsFit}

static_kept : (c_type : CType) (flags : Flags) → flags.certain ≡ true → flags.global ≡ true → implies (is_array c_type) flags.array ≡ true → marks_kept (static_flags c_type) flags ≡ true
static_kept c_type flags certain global array = and_from flags.certain _ certain (and_from flags.global _ global (and_from _ true array refl))

-- an object fits its first node
object_fits : (structs : List StructDef) (graph : Graph) (name : Name) (c_type : CType) → is_slot graph (graph.targets name) ≡ true
    → IsObject structs graph c_type (λ flags. flags.global) (graph.targets name) → NameFits structs graph name (object_node c_type (static_flags c_type))
object_fits structs graph name c_type slot its =
    let found = target_of_certain graph (graph.targets name) its.certain in
    let target = found.0 in
    let node = found.2 in
    record {
      target = target;
      is = found.1;
      slot = ap (is_slot graph) (sym found.1) ∙ slot;
      element = ap (λ t. at_target graph t (element_kept structs (object_node c_type (static_flags c_type)).element)) (sym found.1) ∙ its.part;
      flags = at_from graph target (λ image shift. marks_kept (static_flags c_type) image.flags) node.node node.is
          (static_kept c_type node.node.flags node.so (so target node.node node.is found.1 (λ n. n.flags.global) its.flag) (so target node.node node.is found.1 (λ n. implies (is_array c_type) n.flags.array) its.array));
    }
  where
    so : (target : Target) (node : Node) → node_at graph target.node ≡ Some node → graph.targets name ≡ Some target → (holds : Node → Bool) → at_target graph (graph.targets name) (λ n shift. holds n) ≡ true
        → holds node ≡ true
    so target node is at holds h =
        let there = at_there graph target (λ n shift. holds n) (ap (λ t. at_target graph t (λ n shift. holds n)) (sym at) ∙ h) in
        ap holds (same_Some node there.node (sym is ∙ there.is)) ∙ there.so

-- so do those of which the graph of the function that is called tells, where they come to its copies
module _ (tac : Tac) (callee other : Graph) (copies : ℕ → Option ℕ) (slots : (name : Name) → is_copy name ≡ false → is_slot other (other.targets name) ≡ true) (told : StaticsTold tac other) where
  mentioned_has : (name : ℕ → Name) → AllCome callee copies name other → (number : ℕ) → (t : Option Target) → callee.targets (name number) ≡ t → has_target t ≡ true → has_target (other.targets (name number)) ≡ true
  mentioned_has name come number None e has = absurd (false≢true has)
  mentioned_has name come number (Some target) e has = ap has_target (come number target e).is

  pub statics_fit : AllCome callee copies OfGlobal other → AllCome callee copies OfLiteral other → StaticsFit tac callee other
  statics_fit globals literals = record {
    globals = λ number global is mentioned.
        object_fits tac.structs other (OfGlobal number) global.c_type (slots (OfGlobal number) refl)
        (told.globals number global is (mentioned_has OfGlobal globals number (callee.targets (OfGlobal number)) refl mentioned));
    literals = λ number literal is mentioned.
        object_fits tac.structs other (OfLiteral number) (literal_type literal.bytes) (slots (OfLiteral number) refl)
        (told.literals number literal is (mentioned_has OfLiteral literals number (callee.targets (OfLiteral number)) refl mentioned));
  }
