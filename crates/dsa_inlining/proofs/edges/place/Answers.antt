use Rattle.std.proofs.Common.{◌+◌, cond, Some, sym, ap, ◌∙◌, arith}
use Rattle.std.specs.Prelude.{option_map}
use Rattle.c_typed.specs.Table.{structs_in}
use Rattle.heap_graph.specs.Memory.{target_of}
use Rattle.graph_unification.specs.Memory.{graph_in}
use Rattle.dsa_inlining.specs.Copied.{numbers_in, image}
use Rattle.dsa_inlining.proofs.Seen.{place_none, place_some, place_small}
use Rattle.dsa_inlining.proofs.edges.place.Goals as goal

pub returns-in_err-element : goal.returns-in_err-element
returns-in_err-element c = λ table fine slot.
    let graph = graph_in table c.args.graph.now in
    ap (option_map target_of) c.from_residual-in_err-element.ensures
    ∙ sym (place_none graph (numbers_in c.args.copies.now) c.args.node c.args.slot c.in_ok-copy.copy.now (target_of c.in_ok-target.target) (sym c.in_ok-copy.ensures.value)
    (sym (c.in_ok-target.ensures table fine)) table (c.in_err-element.ensures.tells table))

pub returns-then-is_collapsed : goal.returns-then-is_collapsed
returns-then-is_collapsed c = λ table fine slot.
    let graph = graph_in table c.args.graph.now in
    let target = target_of c.in_ok-target.target in
    let is = place_some graph (numbers_in c.args.copies.now) c.args.node c.args.slot c.in_ok-copy.copy.now target (sym c.in_ok-copy.ensures.value)
    (sym (c.in_ok-target.ensures table fine)) table c.in_ok-element.element c.in_ok-element.field-0-1 (c.in_ok-element.ensures.tells table) in
    sym (is ∙ ap (λ b. Some (record { node = target.node; shift = cond b 0 (target.shift + c.args.slot) })) (sym (c.is_collapsed.ensures table) ∙ c.if-is_collapsed.true))

pub returns-else-is_collapsed : goal.returns-else-is_collapsed
returns-else-is_collapsed c = λ table fine slot.
    let graph = graph_in table c.args.graph.now in
    let copies = numbers_in c.args.copies.now in
    let target = target_of c.in_ok-target.target in
    let is = place_some graph copies c.args.node c.args.slot c.in_ok-copy.copy.now target (sym c.in_ok-copy.ensures.value)
    (sym (c.in_ok-target.ensures table fine)) table c.in_ok-element.element c.in_ok-element.field-0-1 (c.in_ok-element.ensures.tells table)
    ∙ ap (λ b. Some (record { node = target.node; shift = cond b 0 (target.shift + c.args.slot) })) (sym (c.is_collapsed.ensures table) ∙ c.if-is_collapsed.false) in
    let small = place_small (structs_in table) graph (image graph copies (record { node = c.args.node; shift = c.args.slot })) target.node (target.shift + c.args.slot) is slot in
    ap (λ s. Some (record { node = target.node; shift = s })) (omega (arith, small, c.saturating_add-shift.ensures)) ∙ sym is
