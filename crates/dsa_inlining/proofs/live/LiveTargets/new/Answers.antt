use Rattle.std.proofs.Common.{◌≡◌, [], length, subst, ◌∙◌}
use Rattle.call_graph.specs.Rows.{AreRows}
use Rattle.dsa_inlining.specs.declared.live.LiveTargets.{LiveTargets}
use Rattle.dsa_inlining.specs.Live.{TellClasses}
use Rattle.dsa_inlining.proofs.LiveClasses.{classes_of}
use Rattle.dsa_inlining.proofs.LiveRows.{none_live}
use Rattle.dsa_inlining.proofs.live.LiveTargets.new.Goals as goal

pub returns : goal.returns
returns c =
    let tac = c.args.tac.now in
    let classes = c.args.classes.now in
    let count : c.len-count.result ≡ length tac.functions.items = c.len-count.ensures ∙ tac.functions.ok.0 in
    let live : LiveTargets = record { classes = c.in_ok-numbers.numbers; rows = c.in_ok-rows.rows } in
    none_live tac live
    (classes_of tac classes c.requires live
    (subst (λ n. TellClasses n classes.links.items c.in_ok-numbers.numbers.items) count
    (subst (λ l. TellClasses c.len-count.result l c.in_ok-numbers.numbers.items) c.as_slice.ensures.value c.in_ok-numbers.ensures)))
    (subst (λ n. AreRows n [] c.in_ok-rows.rows) count c.in_ok-rows.ensures)
