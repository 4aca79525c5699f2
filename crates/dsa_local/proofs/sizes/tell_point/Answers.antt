use Rattle.c_typed.specs.Table.{structs_in}
use Rattle.tac_ir.specs.declared.register.Register.TheVariants as R
use Rattle.tac_ir.specs.Views.{tree_of, op_in, tac_of}
use Rattle.heap_graph.specs.Graphs.{OfRegister}
use Rattle.heap_graph.specs.Known.{owner_at}
use Rattle.graph_unification.specs.Memory.{graph_in}
use Rattle.graph_unification.proofs.Goes.{goes_same}
use Rattle.dsa_local.proofs.Grown.{grown_same}
use Rattle.dsa_local.specs.Sizes.{AsksSize, AsksOp}
use Rattle.dsa_local.proofs.ArraySteps.{arrays_same, arrays_more, allocation_asked}
use Rattle.dsa_local.proofs.SizeSteps.{no_allocation}
use Rattle.dsa_local.proofs.sizes.tell_point.Goals as goal

pub returns-in_default : goal.returns-in_default
returns-in_default c =
    let table = c.args.tac.now.types in
    let graph = graph_in table c.args.graph.now in
    record {
      graph = c.requires.graph;
      goes = goes_same (structs_in table) c.requires.made graph c.requires.graph.sound;
      grows = grown_same graph;
      told = no_allocation table (tac_of c.args.tac.now) graph (owner_at c.args.owner) c.args.op.now c.in_default.not-Allocate;
      arrays = arrays_same (AsksOp (tac_of c.args.tac.now) (owner_at c.args.owner) (op_in table c.args.op.now) graph) graph;
    }

pub returns-in-Allocate-clause-arrays : goal.returns-in-Allocate-clause-arrays
returns-in-Allocate-clause-arrays c =
    let table = c.args.tac.now.types in
    let tac = tac_of c.args.tac.now in
    let owner = owner_at c.args.owner in
    let op = c.args.op.now in
    let site = c.in-Allocate.site in
    let size = c.in-Allocate.size in
    let old = graph_in table c.args.graph.now in
    arrays_more (AsksSize (structs_in table) (OfRegister owner (R.Call site)) (tree_of size) old) (AsksOp tac owner (op_in table op) old) old (graph_in table c.tell_size.new.graph)
    (allocation_asked table tac owner op site size old c.in-Allocate.is) c.tell_size.ensures.arrays
