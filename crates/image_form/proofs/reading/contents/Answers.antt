use Rattle.std.proofs.Common.{◌≡◌, ℕ, suc, ◌-◌, ◌<◌, drop, get_or, ap, arith}
use Rattle.std.proofs.lemmas.List.{take_rest}
use Rattle.image_form.specs.Reading.{contents_of}
use Rattle.image_form.proofs.ContentFields.{too_short, ends_zero, contents_found}
use Rattle.image_form.proofs.reading.contents.Goals as goal
use Rattle.image_form.proofs.reading.contents.Goals.{else-count-gt0-via-then-count-gt0+else-rest-count-eq0, else-count-gt0-via-else-count-gt0}

pub returns-then-rest-count : goal.returns-then-rest-count
returns-then-rest-count c = too_short c.args.bytes.now c.args.at c.args.count (λ i. omega (arith, c.type_inv.bytes i)) c.requires (rw take_rest at c.if-rest-count.true)

pub returns-then-rest-count-eq0 : goal.returns-then-rest-count-eq0
returns-then-rest-count-eq0 c =
    ends_zero c.args.bytes.now c.args.at c.args.count (λ i. omega (arith, c.type_inv.bytes i)) c.requires (c.args.count - 1) (omega arith) (rw take_rest at c.if-rest-count.false) (rw take_rest at c.if-rest-count-eq0.true)

pub returns-in-Ok : goal.returns-in-Ok
returns-in-Ok c =
    let some : (last : ℕ) → suc last ≡ c.args.count → 0 < get_or (drop c.args.at c.args.bytes.now) last 0 = λ last is.
    elim c.else-count-gt0.branch [
      | else-count-gt0-via-then-count-gt0+else-rest-count-eq0 w ↦
          let here : last ≡ c.args.count - 1 = omega arith in
          let not_zero = rw take_rest at w.if-rest-count-eq0.false in
          let same = ap (λ k. get_or (drop c.args.at c.args.bytes.now) k 0) here in
          omega arith
      | else-count-gt0-via-else-count-gt0 w ↦ absurd (omega arith)
    ] in
    contents_found c.args.bytes.now c.args.at c.args.count (λ i. omega (arith, c.type_inv.bytes i)) c.requires (contents_of c.in-Ok.contents) (rw take_rest at c.if-rest-count.false) some (rw take_rest at c.in-Ok.ensures.items)
