use Rattle.image_form.specs.Form.{kind_bytes, IsKind}
use Rattle.image_form.specs.Reading.{kinds_of}
use Rattle.image_form.proofs.KindFields.{unique_kind_at, mixed_at}
use Rattle.image_form.proofs.Lists.{kept_more, item_refused}
use Rattle.image_form.proofs.kinds.kinds.Goals as goal

pub returns-in-Err : goal.returns-in-Err
returns-in-Err c = item_refused kind_bytes (λ index kind. IsKind kind) unique_kind_at mixed_at c.args.bytes.now c.args.at c.args.count c.loop-index.here c.loop-index.index (kinds_of c.loop-index.kinds) c.in-Err.fault c.loop-index-test.true c.loop-index.invariant c.in-Err.ensures

pub loop-index-preserved : goal.loop-index-preserved
loop-index-preserved c = kept_more kind_bytes (λ index kind. IsKind kind) unique_kind_at mixed_at c.args.bytes.now c.args.at c.args.count c.loop-index.here c.in-Ok.found.1 c.loop-index.index (kinds_of c.loop-index.kinds) (kinds_of c.push.new.self) c.in-Ok.found.0 c.loop-index-test.true c.in-Ok-push.ensures.items c.in-Ok.ensures.0 c.in-Ok.ensures.1 c.loop-index.invariant
