use Rattle.std.proofs.Common.{refl, sym, ap, subst, ◌∙◌}
use Rattle.c_typed.specs.Table.{structs_in}
use Rattle.heap_graph.specs.Graphs.{node_at}
use Rattle.heap_graph.specs.Targets.{has_target}
use Rattle.heap_graph.specs.Steps.{unmoved}
use Rattle.heap_graph.proofs.MapsCompose.{at_from}
use Rattle.graph_unification.specs.Memory.{graph_in}
use Rattle.graph_unification.specs.Changes.{SetsFlags}
use Rattle.graph_unification.specs.Asked.{has_mark, marked, HasMark}
use Rattle.graph_unification.proofs.LeastGraphs.{least_same}
use Rattle.graph_unification.proofs.Seen.{told_node, told_none}
use Rattle.graph_unification.proofs.Marking.{marks}
use Rattle.graph_unification.proofs.steps.mark.Goals as goal

pub returns-in_default-clause-least : goal.returns-in_default-clause-least
returns-in_default-clause-least c = λ table made fine own.
    absurd (told_none table (node_at (graph_in table c.args.graph.now) c.args.node) own.0 (c.in_default.ensures.tells table) own.1)

pub returns-in_default-clause-done : goal.returns-in_default-clause-done
returns-in_default-clause-done c = λ table fine own same.
    absurd (told_none table (node_at (graph_in table c.args.graph.now) c.args.node) own.0 (c.in_default.ensures.tells table) own.1)

pub returns-then-is_set-clause-least : goal.returns-then-is_set-clause-least
returns-then-is_set-clause-least c = λ table made fine own.
    let graph = graph_in table c.args.graph.now in
    let told = told_node table graph c.args.node c.in-Some.field-0-0 c.in-Some.flags (c.in-Some.ensures.tells table) in
    least_same (structs_in table) made graph fine.sound (HasMark c.args.node c.args.mark)
    (at_from graph (unmoved c.args.node) (λ node shift. has_mark c.args.mark node.flags) told.node told.is (sym (c.if-is_set.ensures ∙ ap (has_mark c.args.mark) told.flags)))

pub returns-then-is_set-clause-done : goal.returns-then-is_set-clause-done
returns-then-is_set-clause-done c = λ table fine own same.
    let graph = graph_in table c.args.graph.now in
    let told = told_node table graph c.args.node c.in-Some.field-0-0 c.in-Some.flags (c.in-Some.ensures.tells table) in
    (refl, at_from graph (unmoved c.args.node) (λ node shift. has_mark c.args.mark node.flags) told.node told.is (sym (c.if-is_set.ensures ∙ ap (has_mark c.args.mark) told.flags)))

pub returns-clause-names : goal.returns-clause-names
returns-clause-names c = λ table name. ap has_target ((c.set_flags.ensures.sets table).names name)

pub returns-clause-least : goal.returns-clause-least
returns-clause-least c = λ table made fine own.
    let old = graph_in table c.args.graph.now in
    let new = graph_in table c.set_flags.new.self in
    let told = told_node table old c.args.node c.in-Some.field-0-0 c.in-Some.flags (c.in-Some.ensures.tells table) in
    marks (structs_in table) made old new c.args.node c.args.mark told.node told.is
    (subst (λ f. SetsFlags old new c.args.node f) (c.set.ensures ∙ ap (marked c.args.mark) told.flags) (c.set_flags.ensures.sets table)) (c.set_flags.ensures.graph table fine).sound
