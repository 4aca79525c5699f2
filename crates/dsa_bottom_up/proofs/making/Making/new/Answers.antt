use Rattle.std.proofs.Common.{[], length, ap, ◌∙◌, arith}
use Rattle.std.proofs.lemmas.List.{length-replicate}
use Rattle.dsa_inlining.specs.Before.{is_listed}
use Rattle.dsa_bottom_up.proofs.Keeping.{none_listed}
use Rattle.dsa_bottom_up.proofs.making.Making.new.Goals as goal

pub returns : goal.returns
returns c =
    let before = c.loop.invariant in
    let most = c.loop.auto.index-end in
    let past = c.loop-test.false in
    let many = ap length c.as_slice-items.ensures.value in
    let len = c.len.ensures in
    let own = c.args.tac.now.functions.ok.0 in
    record {
      graphs = c.new.ensures.items;
      functions = omega (arith, before, most, past, many);
      escaping = ap length c.in_ok-new.ensures ∙ (length-replicate c.len.result [] ∙ omega (arith, len, own));
      none = λ called. ap (λ l. is_listed l called) c.in_ok-new.ensures ∙ none_listed c.len.result called;
      live = c.in_ok-new-2.ensures;
      statics = c.new-4.ensures.items;
    }
