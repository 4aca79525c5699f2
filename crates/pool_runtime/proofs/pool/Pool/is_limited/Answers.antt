use Rattle.std.proofs.Common.{Bool, sym, ap, ◌∙◌}
use Rattle.std.specs.Prelude.{◌==◌, ◌&&◌, nat_le}
use Rattle.slab_space.specs.PoolSteps.{at_limit}
use Rattle.slab_space.specs.Pool as seen
use Rattle.pool_runtime.proofs.Allocated.{limit_is, not_limited, class_read}
use Rattle.pool_runtime.proofs.pool.Pool.is_limited.Goals as goal

pub returns-then-is_indexed : goal.returns-then-is_indexed
returns-then-is_indexed c = λ bytes.
    let s = c.args.self.now in let r = c.index.result.now in
    c.at_limit.ensures
    ∙ sym (ap (λ (x : seen.Cells). at_limit c.args.limit s.kind x) (class_read bytes s.classes.items c.args.class r c.requires c.index.ensures) ∙ limit_is c.args.limit s.kind bytes r
    ∙ ap (λ (b : Bool). b && (r.freed == 0 && nat_le c.args.limit r.made)) (sym c.is_indexed.ensures ∙ c.if-is_indexed.true))

pub returns-else-is_indexed : goal.returns-else-is_indexed
returns-else-is_indexed c = λ bytes. c.if-is_indexed.false ∙ sym (not_limited c.args.limit c.args.self.now.kind _ (sym c.is_indexed.ensures ∙ c.if-is_indexed.false))
