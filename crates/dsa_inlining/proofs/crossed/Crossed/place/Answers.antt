use Rattle.std.proofs.Common.{◌+◌, cond, Some, sym, ap, ◌∙◌, arith}
use Rattle.std.specs.Prelude.{option_map}
use Rattle.c_typed.specs.Table.{structs_in}
use Rattle.heap_graph.specs.Memory.{target_of}
use Rattle.graph_unification.specs.Memory.{graph_in}
use Rattle.dsa_inlining.specs.Copied.{numbers_in, image}
use Rattle.dsa_inlining.proofs.Seen.{place_none, place_some, place_small}
use Rattle.dsa_inlining.proofs.crossed.Crossed.place.Goals as goal

pub returns-in_err-element : goal.returns-in_err-element
returns-in_err-element c =
    let table = c.args.self.tac.now.types in
    let graph = graph_in table c.args.graph.now in
    ap (option_map target_of) c.from_residual-in_err-element.ensures
    ∙ sym (place_none graph (numbers_in c.args.self.copies.now) c.args.target.node c.args.target.shift c.in_ok-copy.copy.now (target_of c.in_ok-own.own) (sym c.in_ok-copy.ensures.value)
    (sym (c.in_ok-own.ensures table c.requires.graph)) table (c.in_err-element.ensures.tells table))

pub returns-then-is_collapsed : goal.returns-then-is_collapsed
returns-then-is_collapsed c =
    let table = c.args.self.tac.now.types in
    let graph = graph_in table c.args.graph.now in
    let own = target_of c.in_ok-own.own in
    let is = place_some graph (numbers_in c.args.self.copies.now) c.args.target.node c.args.target.shift c.in_ok-copy.copy.now own (sym c.in_ok-copy.ensures.value)
    (sym (c.in_ok-own.ensures table c.requires.graph)) table c.in_ok-element.element c.in_ok-element.field-0-1 (c.in_ok-element.ensures.tells table) in
    sym (is ∙ ap (λ b. Some (record { node = own.node; shift = cond b 0 (own.shift + c.args.target.shift) })) (sym (c.is_collapsed.ensures table) ∙ c.if-is_collapsed.true))

pub returns-else-is_collapsed : goal.returns-else-is_collapsed
returns-else-is_collapsed c =
    let table = c.args.self.tac.now.types in
    let graph = graph_in table c.args.graph.now in
    let copies = numbers_in c.args.self.copies.now in
    let own = target_of c.in_ok-own.own in
    let is = place_some graph copies c.args.target.node c.args.target.shift c.in_ok-copy.copy.now own (sym c.in_ok-copy.ensures.value)
    (sym (c.in_ok-own.ensures table c.requires.graph)) table c.in_ok-element.element c.in_ok-element.field-0-1 (c.in_ok-element.ensures.tells table)
    ∙ ap (λ b. Some (record { node = own.node; shift = cond b 0 (own.shift + c.args.target.shift) })) (sym (c.is_collapsed.ensures table) ∙ c.if-is_collapsed.false) in
    let small = place_small (structs_in table) graph (image graph copies (target_of c.args.target)) own.node (own.shift + c.args.target.shift) is c.requires.slot in
    ap (λ s. Some (record { node = own.node; shift = s })) (omega (arith, small, c.saturating_add-shift.ensures)) ∙ sym is
