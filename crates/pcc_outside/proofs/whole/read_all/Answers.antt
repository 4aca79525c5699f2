use Rattle.std.proofs.Common.{◌≡◌, ◌≤◌, ◌∙◌, [], length, arith, ap, take, refl}
use Rattle.std.proofs.lemmas.List.{length-take, length-take-le}
use Rattle.pcc_outside.proofs.Faults.{Rose-after}
use Rattle.pcc_outside.proofs.Reading.{IsFront-start, IsFront-more, IsFront-whole, IsFront-longer, Gives-behind, written_is}
use Rattle.pcc_outside.proofs.whole.read_all.Goals as goal

pub loop-buf-init : goal.loop-buf-init
loop-buf-init g c = record {
  front = rw c.new-bytes.ensures.items (IsFront-start _);
  near = omega (arith, c.new-bytes.ensures.len);
  room = omega (arith, c.in_ok-buf.ensures.len);
  faultless = λ other. refl;
  kept = λ other. refl;
}

pub returns-in_err-n-clause-fault : goal.returns-in_err-n-clause-fault
returns-in_err-n-clause-fault g c = λ _. Rose-after _ _ _ (omega (arith, c.loop-buf.invariant.faultless c.args.name.now)) c.in_err-n.ensures.fault

pub returns-in_err-n-clause-counted : goal.returns-in_err-n-clause-counted
returns-in_err-n-clause-counted g c = λ other. omega (arith, c.in_err-n.ensures.counted other, c.loop-buf.invariant.faultless other)

pub returns-in_err-n-clause-kept : goal.returns-in_err-n-clause-kept
returns-in_err-n-clause-kept g c = λ other. c.in_err-n.ensures.kept other ∙ c.loop-buf.invariant.kept other

pub returns-then-n-eq0-clause-whole : goal.returns-then-n-eq0-clause-whole
returns-then-n-eq0-clause-whole g c =
    let none : take c.in_ok-n.n c.read_at.new.buf ≡ [] = ap (λ n. take n c.read_at.new.buf) c.if-n-eq0.true in
    IsFront-whole _ _ _ none c.loop-buf.invariant.front
    (Gives-behind _ _ _ _ _ (c.loop-buf.invariant.kept _) (c.len-at.ensures ∙ c.loop-buf.bytes.ok.0) c.in_ok-n.ensures.gives)

pub returns-then-n-eq0-clause-kept : goal.returns-then-n-eq0-clause-kept
returns-then-n-eq0-clause-kept g c = λ other. c.in_ok-n.ensures.kept other ∙ c.loop-buf.invariant.kept other

pub returns-then-n-eq0-clause-counted : goal.returns-then-n-eq0-clause-counted
returns-then-n-eq0-clause-counted g c = λ other. omega (arith, c.in_ok-n.ensures.faultless other, c.loop-buf.invariant.faultless other)

pub returns-then-n-limit-clause-longer : goal.returns-then-n-limit-clause-longer
returns-then-n-limit-clause-longer g c = λ _.
    let within : c.in_ok-n.n ≤ length c.read_at.new.buf = omega (arith, c.in_ok-n.ensures.within, c.read_at.auto.buf) in
    let got = length-take-le c.in_ok-n.n c.read_at.new.buf within in
    IsFront-longer _ _ _ _ (omega (arith, got, c.len-at.ensures, c.loop-buf.bytes.ok.0, c.if-n-limit.true)) c.loop-buf.invariant.front
    (Gives-behind _ _ _ _ _ (c.loop-buf.invariant.kept _) (c.len-at.ensures ∙ c.loop-buf.bytes.ok.0) c.in_ok-n.ensures.gives)

pub returns-then-n-limit-clause-kept : goal.returns-then-n-limit-clause-kept
returns-then-n-limit-clause-kept g c = λ other. c.in_ok-n.ensures.kept other ∙ c.loop-buf.invariant.kept other

pub returns-then-n-limit-clause-counted : goal.returns-then-n-limit-clause-counted
returns-then-n-limit-clause-counted g c = λ other. omega (arith, c.in_ok-n.ensures.faultless other, c.loop-buf.invariant.faultless other)

pub returns-then-n-eq0-clause-faultless : goal.returns-then-n-eq0-clause-faultless
returns-then-n-eq0-clause-faultless g c = λ other. c.in_ok-n.ensures.faultless other ∙ c.loop-buf.invariant.faultless other

pub returns-then-n-limit-clause-long_cause : goal.returns-then-n-limit-clause-long_cause
returns-then-n-limit-clause-long_cause g c = λ _ other. c.in_ok-n.ensures.faultless other ∙ c.loop-buf.invariant.faultless other

pub loop-buf-preserved : goal.loop-buf-preserved
loop-buf-preserved g c =
    let read = written_is _ _ _ _ (c.read_at.auto.buf ∙ c.deref_mut.ensures.len) c.deref.ensures.value in
    record {
      front = rw (c.in_ok-extend_from_slice.ensures.items, read)
          (IsFront-more _ _ _ c.loop-buf.invariant.front
          (Gives-behind _ _ _ _ _ (c.loop-buf.invariant.kept _) (c.len-at.ensures ∙ c.loop-buf.bytes.ok.0) c.in_ok-n.ensures.gives));
      near = omega (arith, length-take c.in_ok-n.n c.deref.result.now, c.in_ok-extend_from_slice.ensures.len, c.len-at.ensures, c.if-n-limit.false, c.loop-buf.invariant.near);
      room = c.loop-buf.invariant.room;
      faultless = λ other. c.in_ok-n.ensures.faultless other ∙ c.loop-buf.invariant.faultless other;
      kept = λ other. c.in_ok-n.ensures.kept other ∙ c.loop-buf.invariant.kept other;
    }

pub returns-in_err-extend_from_slice-clause-counted :
    goal.returns-in_err-extend_from_slice-clause-counted
returns-in_err-extend_from_slice-clause-counted g c = λ other. omega (arith, c.in_ok-n.ensures.faultless other, c.loop-buf.invariant.faultless other)

pub returns-in_err-extend_from_slice-clause-memory_cause :
    goal.returns-in_err-extend_from_slice-clause-memory_cause
returns-in_err-extend_from_slice-clause-memory_cause g c = λ _ other. c.in_ok-n.ensures.faultless other ∙ c.loop-buf.invariant.faultless other

pub returns-in_err-extend_from_slice-clause-kept :
    goal.returns-in_err-extend_from_slice-clause-kept
returns-in_err-extend_from_slice-clause-kept g c = λ other. c.in_ok-n.ensures.kept other ∙ c.loop-buf.invariant.kept other
