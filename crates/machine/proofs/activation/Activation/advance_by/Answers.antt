use Rattle.std.proofs.Common.{◌≡◌, Some, slice_get, length, refl, sym, ap, ◌∙◌}
use Rattle.std.proofs.lemmas.Option.{slice_get_read}
use Rattle.machine.proofs.Advancing.{advanced_more}
use Rattle.machine.proofs.activation.Activation.advance_by.Goals as goal

pub loop-made-preserved : goal.loop-made-preserved
loop-made-preserved c = record {
  function = c.advance.ensures.function ∙ c.loop-made.invariant.function;
  frame = c.advance.ensures.frame ∙ c.loop-made.invariant.frame;
  start = c.advance.ensures.start ∙ c.loop-made.invariant.start;
  advances = λ function h k.
      let instrs = c.args.code.now in
      let instr = c.in-Some.instr.now in
      let lookup = c.in-Some.ensures.lookup in
      let found : slice_get instrs c.loop-made.self.place ≡ Some instr = ap (slice_get instrs) (sym c.place.ensures) ∙ slice_get_read instrs (length instrs) c.place.result instr refl lookup.3.0 lookup.1 in
      advanced_more function instr c.loop-made.made c.args.self.now c.loop-made.self c.advance.new.self (c.loop-made.invariant.advances function h k) c.loop-made.invariant.function (ap (λ code. slice_get code c.loop-made.self.place) h ∙ found) (c.if-not-advance.ensures.advances function k);
}
