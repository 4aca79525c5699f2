-- The graph with which a group begins can be mapped to each in which its names are.
use Rattle.std.proofs.Common.{◌≡◌, Bool, true, Option, Some, None, refl, sym, ap, subst, ◌∙◌}
use Rattle.std.specs.Prelude.{ℕ, slice_get, List}
use Rattle.std.proofs.lemmas.Bool.{and_from}
use Rattle.std.proofs.lemmas.Option.{none-some, same_Some}
use Rattle.c_typed.specs.Types.{CType, literal_type}
use Rattle.c_typed.specs.Layouts.{StructDef}
use Rattle.c_typed.specs.Typed.{GlobalDef, LiteralDef}
use Rattle.tac_ir.specs.Code.{Function, Tac}
use Rattle.tac_ir.specs.Objects.{global_type, literal_object}
use Rattle.tac_ir.specs.States.{Owner, function_of}
use Rattle.heap_graph.specs.Graphs.{Target, Flags, Node, Name, OfRegister, OfResult, OfObject, OfGlobal, OfLiteral, OfCopy, Graph}
use Rattle.heap_graph.specs.Targets.{at_target, is_array, implies, marks_kept, element_kept}
use Rattle.heap_graph.specs.Closed.{no_graph, is_slot}
use Rattle.heap_graph.specs.Merging.{GraphMap, Maps}
use Rattle.heap_graph.specs.Steps.{unmoved}
use Rattle.heap_graph.proofs.MapsCompose.{at_there, at_from}
use Rattle.heap_graph.specs.Asks.{is_certain}
use Rattle.heap_graph.proofs.Certain.{Certain, certain_there}
use Rattle.graph_unification.specs.Adding.{NameFits, NamesFit}
use Rattle.graph_unification.specs.GraphNames.First.{object_node, static_flags}
use Rattle.graph_unification.proofs.FittingNames.{target_there, names_fit}
use Rattle.graph_unification.proofs.Leading.{leads}
use Rattle.graph_unification.proofs.WholeFunction.{cond_some}
use Rattle.dsa_local.specs.Mentioned.{is_global, is_literal, any_begins, is_among}
use Rattle.dsa_local.specs.Beginning.{static_node, global_node, literal_node, function_node, member_node, group_node, Begins}
use Rattle.dsa_local.specs.Told.{IsObject, GroupFits}
use Rattle.dsa_local.proofs.Telling.{certain_has}

static_kept : (c_type : CType) (flags : Flags) → flags.certain ≡ true → flags.global ≡ true → implies (is_array c_type) flags.array ≡ true → marks_kept (static_flags c_type) flags ≡ true
static_kept c_type flags certain global array = and_from flags.certain _ certain (and_from flags.global _ global (and_from _ true array refl))

-- an object fits its first node
object_fits : (structs : List StructDef) (graph : Graph) (name : Name) (c_type : CType) → is_slot graph (graph.targets name) ≡ true
    → IsObject structs graph c_type (λ flags. flags.global) (graph.targets name) → NameFits structs graph name (object_node c_type (static_flags c_type))
object_fits structs graph name c_type slot its = record {
  target = target;
  is = found.1;
  slot = here (λ t. is_slot graph t) slot;
  element = here (λ t. at_target graph t (element_kept structs (object_node c_type (static_flags c_type)).element)) its.part;
  flags = at_from graph target (λ image shift. marks_kept (static_flags c_type) image.flags) node.node node.is
      (static_kept c_type node.node.flags node.so (so (λ n shift. n.flags.global) its.flag) (so (λ n shift. implies (is_array c_type) n.flags.array) its.array));
}
  where
    found : (target : Target) × (graph.targets name ≡ Some target)
    found = target_there graph name (graph.targets name) refl (certain_has graph (graph.targets name) its.certain)

    target : Target
    target = found.0

    here : (what : Option Target → Bool) → what (graph.targets name) ≡ true → what (Some target) ≡ true
    here what h = ap what (sym found.1) ∙ h

    node : Certain graph target
    node = certain_there graph target (here (is_certain graph) its.certain)

    so : (holds : Node → ℕ → Bool) → at_target graph (graph.targets name) holds ≡ true → holds node.node target.shift ≡ true
    so holds h =
        let there = at_there graph target holds (here (λ t. at_target graph t holds) h) in
        ap (λ n. holds n target.shift) (same_Some node.node there.node (sym node.is ∙ there.is)) ∙ there.so

module _ (tac : Tac) (owners : List Owner) (graph : Graph) (fits : GroupFits tac owners graph) where
  member_fits : (owner : Owner) (name : Name) (node : Node) → member_node tac owners owner name ≡ Some node → NameFits tac.structs graph name node
  member_fits owner name node e =
      let its = cond_some (is_among owner owners) (function_node owner (function_of tac owner) name) node e in
      by its.0 (function_of tac owner) refl its.1
    where
      by : is_among owner owners ≡ true → (found : Option Function) → function_of tac owner ≡ found → function_node owner found name ≡ Some node → NameFits tac.structs graph name node
      by among None there e = absurd (none-some node e)
      by among (Some function) there e = names_fit tac.structs graph owner function (fits.functions owner function among there) name node e

  global_fits : (number : ℕ) (node : Node) → any_begins (is_global number) tac owners ≡ true → (found : Option GlobalDef) → slice_get tac.globals number ≡ found → static_node (global_type found) ≡ Some node
      → NameFits tac.structs graph (OfGlobal number) node
  global_fits number node any None is e = absurd (none-some node e)
  global_fits number node any (Some global) is e =
      subst (NameFits tac.structs graph (OfGlobal number)) (same_Some (object_node global.c_type (static_flags global.c_type)) node e)
      (object_fits tac.structs graph (OfGlobal number) global.c_type (fits.slots (OfGlobal number)) (fits.globals number global is any))

  literal_fits : (number : ℕ) (node : Node) → any_begins (is_literal number) tac owners ≡ true → (found : Option LiteralDef) → slice_get tac.literals number ≡ found → static_node (literal_object found) ≡ Some node
      → NameFits tac.structs graph (OfLiteral number) node
  literal_fits number node any None is e = absurd (none-some node e)
  literal_fits number node any (Some literal) is e =
      subst (NameFits tac.structs graph (OfLiteral number)) (same_Some (object_node (literal_type literal.bytes) (static_flags (literal_type literal.bytes))) node e)
      (object_fits tac.structs graph (OfLiteral number) (literal_type literal.bytes) (fits.slots (OfLiteral number)) (fits.literals number literal is any))

  -- each name of the group fits
  pub group_fits : NamesFit tac.structs graph (group_node tac owners)
  group_fits (OfRegister owner register) node e = member_fits owner (OfRegister owner register) node e
  group_fits (OfResult owner) node e = member_fits owner (OfResult owner) node e
  group_fits (OfObject owner local) node e = member_fits owner (OfObject owner local) node e
  group_fits (OfGlobal number) node e =
      let its = cond_some (any_begins (is_global number) tac owners) (global_node tac number) node e in
      global_fits number node its.0 (slice_get tac.globals number) refl its.1
  group_fits (OfLiteral number) node e =
      let its = cond_some (any_begins (is_literal number) tac owners) (literal_node tac number) node e in
      literal_fits number node its.0 (slice_get tac.literals number) refl its.1
  group_fits (OfCopy number) node e = absurd (none-some node e)

blank_maps : (structs : List StructDef) (other : Graph) → Maps structs no_graph other unmoved
blank_maps structs other = record {
  names = λ name target e. absurd (none-some target e);
  elements = λ number node e. absurd (none-some node e);
  flags = λ number node e. absurd (none-some node e);
  edges = λ number slot node to e has. absurd (none-some node e);
}

-- where the names of a group fit, its graph is mapped
pub begins_leads : (structs : List StructDef) (tac : Tac) (owners : List Owner) (graph other : Graph) → Begins tac owners graph → NamesFit structs other (group_node tac owners) → (rest : GraphMap) × Maps structs graph other rest
begins_leads structs tac owners graph other begins fit =
    let all = leads structs (group_node tac owners) no_graph graph other unmoved begins.adds (blank_maps structs other) fit in
    (all.0, all.1)
