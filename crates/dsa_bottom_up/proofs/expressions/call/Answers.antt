use Rattle.std.proofs.Common.{◌≡◌, ap, ◌+◌, ◌∙◌}
use Rattle.c_typed.specs.Table.{Interned, shape_type}
use Rattle.dsa_bottom_up.specs.declared.counts.Counted.{Counted}
use Rattle.dsa_bottom_up.specs.Counting.{point}
use Rattle.dsa_bottom_up.proofs.Arms.{if_both, if_all}
use Rattle.dsa_bottom_up.proofs.expressions.call.Goals as goal

pub returns : goal.returns
returns c =
    if_both c.expression.result
    (λ made same total. record { own = same; total = λ table. total table ∙ ap (λ below. point (shape_type table c.args.shape) + below) (c.in_ok-below.ensures {u = tt}) })
    c.expression.ensures.shape (if_all (λ (table : Interned) (made : Counted). made.count ≡ point (shape_type table c.args.shape) + c.in_ok-below.below) c.expression.result c.expression.ensures.count)
