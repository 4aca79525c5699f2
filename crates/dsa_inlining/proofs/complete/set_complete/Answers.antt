use Rattle.std.proofs.Common.{Some, sym, ap, ◌∙◌}
use Rattle.std.specs.Prelude.{option_map}
use Rattle.dsa_inlining.specs.Complete.{with_complete}
use Rattle.dsa_inlining.proofs.MarkedNodes.{set_there}
use Rattle.dsa_inlining.proofs.complete.set_complete.Goals as goal

pub returns-in-Some : goal.returns-in-Some
returns-in-Some c =
    set_there c.args.nodes.now.items c.args.number c.args.complete c.index_mut.result.now (Some (with_complete c.args.complete c.in-Some.node)) c.requires c.index_mut.ensures.value
    (sym (ap (option_map (with_complete c.args.complete)) c.in-Some.is))

pub returns-in-None : goal.returns-in-None
returns-in-None c =
    set_there c.args.nodes.now.items c.args.number c.args.complete c.index_mut.result.now c.index_mut.result.now c.requires c.index_mut.ensures.value
    (c.in-None.is ∙ sym (ap (option_map (with_complete c.args.complete)) c.in-None.is))
