use Rattle.std.proofs.Common.{◌≡◌, [], length, slice_get, None, unwrap_or, sym, ap, ◌∙◌}
use Rattle.std.specs.Option.{option_copied}
use Rattle.std.proofs.lemmas.Option.{unwrap_or-slice_get}
use Rattle.call_graph.specs.Lists.{rows_in}
use Rattle.dsa_inlining.proofs.outside.escaping.Goals as goal

pub returns-in-None : goal.returns-in-None
returns-in-None c =
    let rows = rows_in c.args.before.escaping.now in
    let none : slice_get rows c.args.called ≡ None = sym c.get.ensures ∙ ap option_copied c.in-None.is in
    ap (λ o. length (unwrap_or o [])) (sym none) ∙ ap length (unwrap_or-slice_get rows c.args.called [])
