use Rattle.std.proofs.Common.{refl, sym, ap, subst, ◌∙◌}
use Rattle.c_typed.specs.Table.{structs_in}
use Rattle.tac_ir.specs.Views.{tree_of}
use Rattle.heap_graph.specs.Graphs.{node_at}
use Rattle.heap_graph.specs.Memory.{target_of}
use Rattle.graph_unification.specs.Changes.{SetsFlags}
use Rattle.graph_unification.specs.Memory.{name_of, graph_in}
use Rattle.graph_unification.specs.declared.marks.Mark.TheVariants as K
use Rattle.graph_unification.specs.Asked.{marked, HasMark}
use Rattle.graph_unification.proofs.Marking.{marks}
use Rattle.graph_unification.proofs.Seen.{told_node, told_none}
use Rattle.graph_unification.proofs.Goes.{goes_same, least_goes}
use Rattle.dsa_local.specs.Sizes.{is_size_of}
use Rattle.dsa_local.proofs.Grown.{grown_by_array}
use Rattle.dsa_local.specs.Sizes.{AsksSize}
use Rattle.dsa_local.proofs.ArraySteps.{arrays_same, array_set}
use Rattle.dsa_local.proofs.SizeSteps.{one_object, of_array}
use Rattle.dsa_local.proofs.sizes.tell_size.Goals as goal

pub returns-in_default-clause-goes : goal.returns-in_default-clause-goes
returns-in_default-clause-goes c = goes_same (structs_in c.args.types.now) c.requires.made (graph_in c.args.types.now c.args.graph.now) c.requires.graph.sound

pub returns-in_default-node-clause-goes : goal.returns-in_default-node-clause-goes
returns-in_default-node-clause-goes c = goes_same (structs_in c.args.types.now) c.requires.made (graph_in c.args.types.now c.args.graph.now) c.requires.graph.sound

pub returns-in_default-node-clause-told : goal.returns-in_default-node-clause-told
returns-in_default-node-clause-told c =
    let table = c.args.types.now in
    let slot = c.requires.graph.sound.names (name_of c.args.name) (target_of c.in-Some.target) (sym (c.in-Some.ensures table c.requires.graph)) in
    absurd (told_none table (node_at (graph_in table c.args.graph.now) c.in-Some.target.node) slot.node (c.in_default-node.ensures.tells table) slot.is)

pub returns-then-is_size_of-clause-goes : goal.returns-then-is_size_of-clause-goes
returns-then-is_size_of-clause-goes c = goes_same (structs_in c.args.types.now) c.requires.made (graph_in c.args.types.now c.args.graph.now) c.requires.graph.sound

pub returns-then-is_size_of-clause-told : goal.returns-then-is_size_of-clause-told
returns-then-is_size_of-clause-told c =
    let table = c.args.types.now in
    let structs = structs_in table in
    let size = tree_of c.args.size.now in
    let graph = graph_in table c.args.graph.now in
    let told = told_node table graph c.in-Some.target.node c.in-Some-node.element c.in-Some-node.flags (c.in-Some-node.ensures.tells table) in
    one_object structs (name_of c.args.name) size graph (target_of c.in-Some.target) told.node (c.in-Some.ensures table c.requires.graph) told.is
    (sym (ap (is_size_of structs size) told.element) ∙ (sym c.is_size_of.ensures ∙ c.if-is_size_of.true))

pub returns-clause-goes : goal.returns-clause-goes
returns-clause-goes c =
    let table = c.args.types.now in
    let structs = structs_in table in
    let number = c.in-Some.target.node in
    let old = graph_in table c.args.graph.now in
    let new = graph_in table c.set_flags.new.self in
    let told = told_node table old number c.in-Some-node.element c.in-Some-node.flags (c.in-Some-node.ensures.tells table) in
    least_goes structs c.requires.made old new (HasMark number K.Array)
    (marks structs c.requires.made old new number K.Array told.node told.is (subst (λ f. SetsFlags old new number f) (ap (marked K.Array) told.flags) (c.set_flags.ensures.sets table))
    (c.set_flags.ensures.graph table c.requires.graph).sound)

pub returns-clause-grows : goal.returns-clause-grows
returns-clause-grows c =
    let table = c.args.types.now in
    let number = c.in-Some.target.node in
    let old = graph_in table c.args.graph.now in
    let new = graph_in table c.set_flags.new.self in
    let told = told_node table old number c.in-Some-node.element c.in-Some-node.flags (c.in-Some-node.ensures.tells table) in
    grown_by_array old new number told.node told.is (subst (λ f. SetsFlags old new number f) (ap (marked K.Array) told.flags) (c.set_flags.ensures.sets table))

pub returns-clause-told : goal.returns-clause-told
returns-clause-told c =
    let table = c.args.types.now in
    let number = c.in-Some.target.node in
    let old = graph_in table c.args.graph.now in
    let new = graph_in table c.set_flags.new.self in
    let told = told_node table old number c.in-Some-node.element c.in-Some-node.flags (c.in-Some-node.ensures.tells table) in
    of_array (structs_in table) (name_of c.args.name) (tree_of c.args.size.now) old new (target_of c.in-Some.target) told.node (c.in-Some.ensures table c.requires.graph) told.is
    (subst (λ f. SetsFlags old new number f) (ap (marked K.Array) told.flags) (c.set_flags.ensures.sets table))

pub returns-in_default-clause-arrays : goal.returns-in_default-clause-arrays
returns-in_default-clause-arrays c =
    let table = c.args.types.now in
    let graph = graph_in table c.args.graph.now in
    arrays_same (AsksSize (structs_in table) (name_of c.args.name) (tree_of c.args.size.now) graph) graph

pub returns-in_default-node-clause-arrays : goal.returns-in_default-node-clause-arrays
returns-in_default-node-clause-arrays c =
    let table = c.args.types.now in
    let graph = graph_in table c.args.graph.now in
    arrays_same (AsksSize (structs_in table) (name_of c.args.name) (tree_of c.args.size.now) graph) graph

pub returns-then-is_size_of-clause-arrays : goal.returns-then-is_size_of-clause-arrays
returns-then-is_size_of-clause-arrays c =
    let table = c.args.types.now in
    let graph = graph_in table c.args.graph.now in
    arrays_same (AsksSize (structs_in table) (name_of c.args.name) (tree_of c.args.size.now) graph) graph

pub returns-clause-arrays : goal.returns-clause-arrays
returns-clause-arrays c =
    let table = c.args.types.now in
    let structs = structs_in table in
    let size = tree_of c.args.size.now in
    let number = c.in-Some.target.node in
    let old = graph_in table c.args.graph.now in
    let new = graph_in table c.set_flags.new.self in
    let told = told_node table old number c.in-Some-node.element c.in-Some-node.flags (c.in-Some-node.ensures.tells table) in
    array_set (AsksSize structs (name_of c.args.name) size old) old new number told.node told.is
    (record {
      target = target_of c.in-Some.target;
      is = sym (c.in-Some.ensures table c.requires.graph);
      node = refl;
      differs = sym (ap (is_size_of structs size) told.element) ∙ (sym c.is_size_of.ensures ∙ c.if-is_size_of.false);
    })
    (subst (λ f. SetsFlags old new number f) (ap (marked K.Array) told.flags) (c.set_flags.ensures.sets table))
