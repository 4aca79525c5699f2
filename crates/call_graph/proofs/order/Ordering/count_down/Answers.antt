use Rattle.std.proofs.Common.{◌≡◌, ◌-◌, ◌<◌, length, set, get_or, nat_cmp, refl, sym, ap, ◌∙◌, arith, length-set}
use Rattle.std.specs.BTreeSet.{contains}
use Rattle.std.proofs.lemmas.Grind.{get_or_default_zero}
use Rattle.call_graph.proofs.CountingDown.{inserted_down, kept_down}
use Rattle.call_graph.proofs.order.Ordering.count_down.Goals as goal

pub returns-in_ok-insert : goal.returns-in_ok-insert
returns-in_ok-insert c =
    let counts = c.args.self.now.counts.items in
    let caller = c.args.caller in
    let written = set counts caller (c.index_mut.result.now - 1) in
    let lt : caller < length written = omega (arith, c.requires.inside, length-set counts caller (c.index_mut.result.now - 1)) in
    let none : get_or written caller 0 ≡ 0 = sym (c.index.ensures ∙ get_or_default_zero written caller c.index.result.now lt) ∙ c.if-index-eq0.true in
    record {
      counts = ap (λ n. set counts caller (n - 1)) (c.index_mut.ensures.value ∙ get_or_default_zero counts caller c.index_mut.result.now c.requires.inside);
      ready = λ node. inserted_down caller node (get_or written caller 0) (contains nat_cmp c.args.self.now.ready node) (contains nat_cmp c.insert.new.self node) none (c.in_ok-insert.ensures.updates.0 node);
      placed = refl;
    }

pub returns-else-index-eq0 : goal.returns-else-index-eq0
returns-else-index-eq0 c =
    let counts = c.args.self.now.counts.items in
    let caller = c.args.caller in
    let written = set counts caller (c.index_mut.result.now - 1) in
    let lt : caller < length written = omega (arith, c.requires.inside, length-set counts caller (c.index_mut.result.now - 1)) in
    record {
      counts = ap (λ n. set counts caller (n - 1)) (c.index_mut.ensures.value ∙ get_or_default_zero counts caller c.index_mut.result.now c.requires.inside);
      ready = λ node. kept_down caller node (get_or written caller 0) (contains nat_cmp c.args.self.now.ready node) (λ none. c.if-index-eq0.false (c.index.ensures ∙ (get_or_default_zero written caller c.index.result.now lt ∙ none)));
      placed = refl;
    }
