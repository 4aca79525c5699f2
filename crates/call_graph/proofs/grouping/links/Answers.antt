use Rattle.std.proofs.Common.{◌≡◌, ◌+◌, ◌∷◌, [], ◌++◌, length, take, get_or, refl, sym, ap, ◌∙◌, arith}
use Rattle.std.proofs.lemmas.List.{length-take-le}
use Rattle.call_graph.proofs.RowLists.{read_take, take_all}
use Rattle.call_graph.specs.GroupLists.{links_of}
use Rattle.call_graph.proofs.MemberSteps.{link_more}
use Rattle.call_graph.proofs.grouping.links.Goals as goal

pub loop-function-preserved : goal.loop-function-preserved
loop-function-preserved c =
    let heads = c.args.heads.now in
    let i = c.loop-function.function in
    let head = get_or heads i 0 in
    let here : i ≡ 0 + length (take i heads) = omega (arith, length-take-le i heads (omega arith)) in
    c.in_ok-push.ensures.items
    ∙ (ap (λ l. l ++ (head, i) ∷ []) c.loop-function.invariant
    ∙ (sym (link_more 0 (take i heads) head i here) ∙ ap (links_of 0) (sym (read_take heads i (i + 1) head 0 refl c.loop-function-test.true refl))))

pub returns : goal.returns
returns c = c.loop-function.invariant ∙ ap (links_of 0) (take_all c.loop-function.function c.args.heads.now (omega arith))
