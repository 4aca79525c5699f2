use Rattle.std.proofs.Common.{◌+◌, ◌&&◌, map, drop, sym, ap, ◌∙◌, arith}
use Rattle.std.specs.List.{list_all}
use Rattle.std.proofs.lemmas.List.{at_drop_more, at_drop_all}
use Rattle.c_typed.specs.Table.{structs_in, type_in}
use Rattle.heap_graph.specs.Frozen.{bare, static_in}
use Rattle.graph_checker.specs.Objects.{static_at}
use Rattle.graph_checker.proofs.StaticObjects.{globals_shown}
use Rattle.graph_checker.proofs.statics.globals_closed.Goals as goal

pub returns-then-not-global_closed : goal.returns-then-not-global_closed
returns-then-not-global_closed c =
    let table = c.args.types.now in
    let graph = c.args.graph.now in
    let test = static_at (structs_in table) (bare table graph) (static_in graph.globals) (map (λ global. type_in table global.c_type) c.args.globals.now) in
    let numbers = c.as_slice-number-items.result.now in
    let index = c.loop-number.number-index in
    let fails = sym c.if-not-global_closed.true ∙ c.global_closed.ensures in
    λ family owner shows.
    (λ i. fails i && list_all test (drop (index + 1) numbers))
    ∙ (sym (at_drop_more (list_all test) numbers index 0 c.loop-number-test.true)
    ∙ (c.loop-number.invariant ∙ (ap (list_all test) (c.as_slice-number-items.ensures ∙ c.keys.ensures.rest) ∙ globals_shown table family owner graph shows c.args.globals.now)))

pub returns : goal.returns
returns c =
    let table = c.args.types.now in
    let graph = c.args.graph.now in
    let test = static_at (structs_in table) (bare table graph) (static_in graph.globals) (map (λ global. type_in table global.c_type) c.args.globals.now) in
    let numbers = c.as_slice-number-items.result.now in
    λ family owner shows.
    sym (at_drop_all (list_all test) numbers c.loop-number.number-index (omega arith))
    ∙ (c.loop-number.invariant ∙ (ap (list_all test) (c.as_slice-number-items.ensures ∙ c.keys.ensures.rest) ∙ globals_shown table family owner graph shows c.args.globals.now))
