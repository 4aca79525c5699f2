use Rattle.std.proofs.Common.{subst}
use Rattle.dsa_inlining.specs.Own.{AreOwnAmong}
use Rattle.dsa_inlining.proofs.OwnNames.{own_left}
use Rattle.dsa_inlining.proofs.own.own_statics.Goals as goal

pub returns : goal.returns
returns c = λ table graphs have bases.
    own_left table graphs c.args.all.now have c.args.graph.now c.args.bases.now bases c.in_ok-groups.groups.keys c.in_ok-told.told (record { globals = c.in_ok-globals.globals; literals = c.in_ok-literals.literals })
    c.in_ok-groups.ensures (subst (λ groups. AreOwnAmong c.args.all.now groups c.in_ok-told.told) c.as_slice.ensures.keys c.in_ok-told.ensures) c.in_ok-globals.ensures c.in_ok-literals.ensures
