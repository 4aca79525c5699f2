use Rattle.std.proofs.Common.{◌≢◌, ◌<◌, ◌≤◌, length, get_or, ◌⊎◌, inl, inr}
use Rattle.image_form.specs.Reading.{first_bytes}
use Rattle.image_form.proofs.ImageFields.{first_wrong}
use Rattle.image_form.proofs.reading.first_bytes.Goals as goal
use Rattle.image_form.proofs.reading.first_bytes.Goals.{then-index-bytes-via-then-index-bytes, then-index-bytes-via-else-index-bytes+then-bytes-index}

pub returns-then-index-bytes : goal.returns-then-index-bytes
returns-then-index-bytes c =
    let bad : (length c.args.bytes.now ≤ c.loop-index.index) ⊎ ((c.loop-index.index < length c.args.bytes.now) × (get_or c.args.bytes.now c.loop-index.index 0 ≢ get_or first_bytes c.loop-index.index 0)) =
    elim c.then-index-bytes.branch [
      | then-index-bytes-via-then-index-bytes w ↦ inl w.if-index-bytes.true
      | then-index-bytes-via-else-index-bytes+then-bytes-index w ↦ inr (w.if-index-bytes.false, w.if-bytes-index.true)
    ] in
    first_wrong c.args.bytes.now c.loop-index.index c.loop-index-test.true c.loop-index.invariant bad
