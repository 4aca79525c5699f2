use Rattle.std.proofs.Common.{◌∷◌, reverse, refl, sym, ap, subst, ◌∙◌}
use Rattle.std.proofs.lemmas.Result.{on_ok_weaker}
use Rattle.heap_graph.specs.Graphs.{Target}
use Rattle.heap_graph.specs.Steps.{One}
use Rattle.graph_unification.specs.Memory.{content}
use Rattle.graph_unification.specs.Turns.{asks_in, Goes}
use Rattle.graph_unification.proofs.GoingOn.{goes_turned}
use Rattle.graph_unification.proofs.Linked.{lays_nodes}
use Rattle.graph_unification.proofs.Turning.{asks_clash}
use Rattle.graph_unification.proofs.Relating.{found_there, not_missing, its_slot, its_stands, its_relation, found_lays}
use Rattle.graph_unification.proofs.graph.Graph.relate.Goals as goal

pub returns-in_default : goal.returns-in_default
returns-in_default c =
    absurd (not_missing c.args.types.now c.args.self.now c.requires.graph c.find-first.result (content c.args.self.now.nodes c.args.a) c.find-first.ensures c.requires.first c.element.result c.in_default.is c.element.ensures)

pub returns-in_default-element : goal.returns-in_default-element
returns-in_default-element c =
    absurd (not_missing c.args.types.now c.args.self.now c.requires.graph c.find-second.result (content c.args.self.now.nodes c.args.b) c.find-second.ensures c.requires.second c.element-2.result c.in_default-element.is c.element-2.ensures)

pub relation_of-requires-clause-made : goal.relation_of-requires-clause-made
relation_of-requires-clause-made c = c.requires.made

pub relation_of-requires-clause-first : goal.relation_of-requires-clause-first
relation_of-requires-clause-first c =
    its_stands c.args.types.now c.args.self.now c.requires.graph c.find-first.result (content c.args.self.now.nodes c.args.a) c.find-first.ensures c.requires.first c.in-Some.one c.in-Some.ensures

pub relation_of-requires-clause-second : goal.relation_of-requires-clause-second
relation_of-requires-clause-second c =
    its_stands c.args.types.now c.args.self.now c.requires.graph c.find-second.result (content c.args.self.now.nodes c.args.b) c.find-second.ensures c.requires.second c.in-Some-element.other c.in-Some-element.ensures

pub relation_of-requires-clause-from : goal.relation_of-requires-clause-from
relation_of-requires-clause-from c =
    its_slot c.args.types.now c.args.self.now c.requires.graph c.find-first.result (content c.args.self.now.nodes c.args.a) c.find-first.ensures c.requires.first c.in-Some.one c.in-Some.ensures

pub relation_of-requires-clause-to : goal.relation_of-requires-clause-to
relation_of-requires-clause-to c =
    its_slot c.args.types.now c.args.self.now c.requires.graph c.find-second.result (content c.args.self.now.nodes c.args.b) c.find-second.ensures c.requires.second c.in-Some-element.other c.in-Some-element.ensures

pub lay-requires-clause-part : goal.lay-requires-clause-part
lay-requires-clause-part c = found_there c.args.types.now c.args.self.now c.requires.graph c.find-first.result (content c.args.self.now.nodes c.args.a) c.find-first.ensures c.requires.first

pub lay-requires-clause-whole : goal.lay-requires-clause-whole
lay-requires-clause-whole c = found_there c.args.types.now c.args.self.now c.requires.graph c.find-second.result (content c.args.self.now.nodes c.args.b) c.find-second.ensures c.requires.second

pub lay-requires-clause-differ : goal.lay-requires-clause-differ
lay-requires-clause-differ c = λ e. c.requires.differ (sym (ap (λ (t : Target). t.node) c.find-first.ensures) ∙ e ∙ ap (λ (t : Target). t.node) c.find-second.ensures)

pub lay-requires-in-Around-clause-part : goal.lay-requires-in-Around-clause-part
lay-requires-in-Around-clause-part c = found_there c.args.types.now c.args.self.now c.requires.graph c.find-second.result (content c.args.self.now.nodes c.args.b) c.find-second.ensures c.requires.second

pub lay-requires-in-Around-clause-whole : goal.lay-requires-in-Around-clause-whole
lay-requires-in-Around-clause-whole c = found_there c.args.types.now c.args.self.now c.requires.graph c.find-first.result (content c.args.self.now.nodes c.args.a) c.find-first.ensures c.requires.first

pub lay-requires-in-Around-clause-differ : goal.lay-requires-in-Around-clause-differ
lay-requires-in-Around-clause-differ c = λ e. c.requires.differ (sym (ap (λ (t : Target). t.node) c.find-first.ensures) ∙ sym e ∙ ap (λ (t : Target). t.node) c.find-second.ensures)

pub returns-in-Inside : goal.returns-in-Inside
returns-in-Inside c =
    on_ok_weaker c.lay.result
    (λ lays. lays_nodes c.args.types.now c.requires.made c.args.self.now (record { nodes = c.lay.new.self; names = c.args.self.now.names }) c.requires.graph refl (content c.args.self.now.nodes c.args.a) (content c.args.self.now.nodes c.args.b) c.in-Inside.distance
    c.requires.differ c.requires.first c.requires.second
    (its_relation c.args.types.now c.requires.made c.args.self.now c.requires.graph c.find-first.result c.find-second.result (content c.args.self.now.nodes c.args.a) (content c.args.self.now.nodes c.args.b) c.find-first.ensures c.find-second.ensures
    c.requires.first c.requires.second c.in-Some.one c.in-Some-element.other c.in-Some.ensures c.in-Some-element.ensures _ c.in-Inside.ensures)
    (reverse c.args.work.now.items) (reverse c.lay.new.work.items) c.requires.asks
    (found_lays c.args.self.now.nodes c.lay.new.self c.find-first.result c.find-second.result (content c.args.self.now.nodes c.args.a) (content c.args.self.now.nodes c.args.b) c.find-first.ensures c.find-second.ensures c.in-Inside.distance
    (reverse c.args.work.now.items) (reverse c.lay.new.work.items) lays))
    c.lay.ensures

pub returns-in-Around : goal.returns-in-Around
returns-in-Around c =
    on_ok_weaker c.lay-in-Around.result
    (λ lays. goes_turned c.args.types.now c.requires.made c.args.self.now (record { nodes = c.lay-in-Around.new.self; names = c.args.self.now.names }) c.requires.graph (asks_in c.args.self.now.nodes (reverse c.args.work.now.items))
    (asks_in c.lay-in-Around.new.self (reverse c.lay-in-Around.new.work.items)) c.requires.asks (content c.args.self.now.nodes c.args.a) (content c.args.self.now.nodes c.args.b) c.requires.first c.requires.second
    (lays_nodes c.args.types.now c.requires.made c.args.self.now (record { nodes = c.lay-in-Around.new.self; names = c.args.self.now.names }) c.requires.graph refl (content c.args.self.now.nodes c.args.b) (content c.args.self.now.nodes c.args.a) c.in-Around.distance
    (λ e. c.requires.differ (sym e)) c.requires.second c.requires.first
    (its_relation c.args.types.now c.requires.made c.args.self.now c.requires.graph c.find-first.result c.find-second.result (content c.args.self.now.nodes c.args.a) (content c.args.self.now.nodes c.args.b) c.find-first.ensures c.find-second.ensures
    c.requires.first c.requires.second c.in-Some.one c.in-Some-element.other c.in-Some.ensures c.in-Some-element.ensures _ c.in-Around.ensures)
    (reverse c.args.work.now.items) (reverse c.lay-in-Around.new.work.items) c.requires.asks
    (found_lays c.args.self.now.nodes c.lay-in-Around.new.self c.find-second.result c.find-first.result (content c.args.self.now.nodes c.args.b) (content c.args.self.now.nodes c.args.a) c.find-second.ensures c.find-first.ensures c.in-Around.distance
    (reverse c.args.work.now.items) (reverse c.lay-in-Around.new.work.items) lays)))
    c.lay-in-Around.ensures

pub returns-in-Clashing : goal.returns-in-Clashing
returns-in-Clashing c =
    on_ok_weaker c.clash.result
    (λ e. subst (λ w. Goes c.args.types.now c.args.self.now c.args.self.now (One (content c.args.self.now.nodes c.args.a) (content c.args.self.now.nodes c.args.b) ∷ asks_in c.args.self.now.nodes (reverse c.args.work.now.items)) (asks_in c.args.self.now.nodes w)) (sym e)
    (asks_clash c.args.types.now c.requires.made c.args.self.now c.requires.graph (reverse c.args.work.now.items) c.requires.asks c.args.a c.args.b c.requires.first c.requires.second
    (its_relation c.args.types.now c.requires.made c.args.self.now c.requires.graph c.find-first.result c.find-second.result (content c.args.self.now.nodes c.args.a) (content c.args.self.now.nodes c.args.b) c.find-first.ensures c.find-second.ensures
    c.requires.first c.requires.second c.in-Some.one c.in-Some-element.other c.in-Some.ensures c.in-Some-element.ensures _ c.in-Clashing.ensures)))
    c.clash.ensures
