use Rattle.std.proofs.lemmas.List.Elements.{Contains-get_or}
use Rattle.c_typed.specs.Table.{structs_in}
use Rattle.graph_unification.specs.Memory.{graph_in}
use Rattle.heap_graph.specs.Frozen.{bare}
use Rattle.dsa_inlining.specs.Copied.{numbers_in}
use Rattle.dsa_inlining.proofs.Noded.{first_none, first_more, first_all, added_none, added_more}
use Rattle.dsa_inlining.proofs.Seen.{nothing_in, number_at}
use Rattle.dsa_inlining.proofs.nodes.copy_nodes.Goals as goal

pub loop-number-init : goal.loop-number-init
loop-number-init c =
    let table = c.args.types.now in
    let callee = bare table c.args.callee.now in
    let none = nothing_in c.new.result c.new.ensures.empty in
    record {
      graph = c.requires.graph;
      numbered = first_none callee c.args.escaping.now _ c.args.first none;
      added = added_none (structs_in table) c.requires.made callee (graph_in table c.args.graph.now) _ c.args.first c.requires.graph.sound none c.requires.free;
    }

pub loop-number-preserved : goal.loop-number-preserved
loop-number-preserved c =
    let table = c.args.types.now in
    let callee = bare table c.args.callee.now in
    let numbers = c.args.escaping.now in
    let index = c.loop-number.number-index in
    let before = numbers_in c.loop-number.copies in
    let after = numbers_in c.add.new.self in
    let middle = graph_in table c.loop-number.graph in
    let new = graph_in table c.add.new.graph in
    record {
      graph = c.in_ok-add.ensures.graph;
      numbered = first_more callee numbers index c.args.first middle new before after _ c.loop-number.copies.next c.add.new.self.next c.in_ok-add.ensures.gets (Contains-get_or numbers index 0 c.loop-number-test.true)
          (number_at numbers index 0 c.loop-number-test.true) c.loop-number.invariant.numbered;
      added = added_more (structs_in table) c.requires.made callee (graph_in table c.args.graph.now) middle new before after _ c.args.first c.loop-number.copies.next c.add.new.self.next
          c.loop-number.invariant.numbered.past c.requires.graph.sound c.loop-number.invariant.graph.sound c.in_ok-add.ensures.gets c.loop-number.invariant.added;
    }

pub returns-clause-numbered : goal.returns-clause-numbered
returns-clause-numbered c =
    let table = c.args.types.now in
    first_all (bare table c.args.callee.now) c.args.escaping.now c.loop-number.number-index (numbers_in c.loop-number.copies) c.args.first c.loop-number.copies.next c.loop-number-test.false c.loop-number.invariant.numbered
