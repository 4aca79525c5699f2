use Rattle.std.proofs.Common.{◌≡◌, ◌+◌, ◌<◌, suc, true, false, drop, length, refl, sym, ap, ◌∙◌, arith}
use Rattle.std.specs.Prelude.{◌&&◌}
use Rattle.c_typed.specs.DefinitionViews.{first_of, all_first}
use Rattle.heap_graph.specs.Closed.{all_held_closed}
use Rattle.heap_graph.specs.TargetParts.Parts.{root_in}
use Rattle.graph_checker.specs.Values.{family_of}
use Rattle.graph_checker.proofs.HeldLists.{all_from}
use Rattle.graph_checker.proofs.values.Values.all_closed.Goals as goal

pub returns-then-not-one_closed : goal.returns-then-not-one_closed
returns-then-not-one_closed c =
    let own = c.args.self.now in
    let global = root_in own.tac.now.types c.args.global in
    let n = c.loop-first.first-index in
    let fails : all_held_closed (family_of own) global (first_of c.first-item.result) ≡ false = cc in
    let lt : n < length c.args.firsts.now = omega (arith, c.loop-first-test.true) in
    sym (sym c.loop-first.invariant
    ∙ (all_from (family_of own) global c.args.firsts.now n (suc n) c.first-item.result lt c.first-item.is refl ∙ ap (λ b. b && all_held_closed (family_of own) global (all_first (drop (suc n) c.args.firsts.now))) fails))

pub loop-first-preserved : goal.loop-first-preserved
loop-first-preserved c =
    let own = c.args.self.now in
    let global = root_in own.tac.now.types c.args.global in
    let n = c.loop-first.first-index in
    let holds : all_held_closed (family_of own) global (first_of c.first-item.result) ≡ true = cc in
    let lt : n < length c.args.firsts.now = omega (arith, c.loop-first-test.true) in
    let next : n + 1 ≡ suc n = omega arith in
    sym (all_from (family_of own) global c.args.firsts.now n (n + 1) c.first-item.result lt c.first-item.is next ∙ ap (λ b. b && all_held_closed (family_of own) global (all_first (drop (n + 1) c.args.firsts.now))) holds)
    ∙ c.loop-first.invariant
