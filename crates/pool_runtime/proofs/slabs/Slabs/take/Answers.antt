use Rattle.std.proofs.Common.{◌∙◌, ◌*◌, ap, subst}
use Rattle.slab_space.specs.Space.{Space, IsZero, with_given}
use Rattle.pool_runtime.proofs.Undone.{given_back}
use Rattle.pool_runtime.proofs.slabs.Slabs.take.Goals as goal

pub returns-then-is_err-clause-err : goal.returns-then-is_err-clause-err
returns-then-is_err-clause-err c =
    let first = c.in-Ok.first in
    let taken = c.note.ensures.space ∙ c.in-Ok.ensures.taken in
    c.give_run.ensures ∙ ap (λ (s : Space). with_given s first c.args.count) taken
    ∙ given_back c.args.self.now.space first c.args.count c.requires.space c.in-Ok.ensures.lowest.free
    (subst (λ (s : Space). IsZero s.bytes (4096 * first) (4096 * c.args.count)) c.in-Ok.ensures.taken c.in-Ok.ensures.zero)
