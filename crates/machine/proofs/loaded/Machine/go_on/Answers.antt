use Rattle.std.proofs.Common.{◌≡◌, ◌+◌, ◌-◌, suc, refl, sym, ◌∙◌, arith}
use Rattle.machine.specs.declared.ends.RunEnd.TheVariants as ends
use Rattle.machine.specs.declared.ends.Step.TheVariants.{On, Over}
use Rattle.machine.specs.Run.{Ready, state_at}
use Rattle.machine.specs.Loaded.{ready_of}
use Rattle.machine.proofs.Running.{no_end, same_end, same_ready, spent_before, still_kept, kept_after, heap_after, spent_after, stands_first, stands_next, stands_after, gives_over, gives_spent, as_steps}
use Rattle.machine.proofs.loaded.Machine.go_on.Goals as goal

pub loop-remaining-init : goal.loop-remaining-init
loop-remaining-init g c = record {
  loaded = c.requires.loaded;
  kept = record { code = refl; limits = refl; last = refl };
  within = omega arith;
  spent = refl;
  read_faultless = refl;
  write_faultless = refl;
  stands = λ made count history left base trace told wrote.
      let none : made ≡ 0 = omega (arith, count) in
      stands_first (ready_of c.args.self.now).code (state_at (ready_of c.args.self.now) history left trace) base made _ _ none (told, wrote);
}

pub step-requires : goal.step-requires
step-requires g c = c.loop-remaining.invariant.loaded

pub overflow_add-self : goal.overflow_add-self
overflow_add-self g c = omega (arith, c.requires.spent, c.loop-remaining.invariant.within, c.loop-remaining.invariant.spent, spent_before (ready_of c.args.self.now) (ready_of c.loop-remaining.self) (ready_of c.step.new.self) c.step.ensures.same)

pub overflow_add-self-then-is_final : goal.overflow_add-self-then-is_final
overflow_add-self-then-is_final g c = omega (arith, c.requires.spent, c.loop-remaining.invariant.within, c.loop-remaining.invariant.spent, spent_before (ready_of c.args.self.now) (ready_of c.loop-remaining.self) (ready_of c.step.new.self) c.step.ensures.same)

pub loop-remaining-preserved : goal.loop-remaining-preserved
loop-remaining-preserved g c =
    let from = ready_of c.args.self.now in
    let now = ready_of c.loop-remaining.self in
    let new = ready_of c.step.new.self in
    let mid : Ready = record new { spent = c.step.new.self.spent + 1 } in
    let after = ready_of c.advance-remaining.new.self in
    let spent = c.step.new.self.spent + 1 + c.advance-remaining.result in
    let one = still_kept from now new c.step.ensures.same (c.step.new.self.spent + 1) c.loop-remaining.invariant.kept in
    let same = c.advance-remaining.ensures.same in
    record {
      loaded = c.advance-remaining.ensures.loaded;
      kept = kept_after from mid after spent same one;
      within = omega (arith, c.loop-remaining.invariant.within);
      spent = omega (arith, c.loop-remaining.invariant.within, c.loop-remaining.invariant.spent, c.advance-remaining.ensures.within, spent_before from now new c.step.ensures.same, spent_after from mid after spent same);
      read_faultless = c.step.ensures.read_faultless (no_end c.step.result _ c.in-On.is) ∙ c.loop-remaining.invariant.read_faultless;
      write_faultless = c.step.ensures.write_faultless (no_end c.step.result _ c.in-On.is) ∙ c.loop-remaining.invariant.write_faultless;
      stands = λ made count history left base trace told wrote.
          let state = state_at from history left trace in
          let done = c.args.steps - c.loop-remaining.remaining in
          let then : made ≡ done + 1 + c.advance-remaining.result = omega (arith, count, c.loop-remaining.invariant.within, c.advance-remaining.ensures.within) in
          let stood = c.loop-remaining.invariant.stands done (omega (arith, c.loop-remaining.invariant.within)) history left base trace told wrote in
          let next = stands_next from.code state base done now.activations now.heap _ _ stood new.activations new.heap _ _
          (as_steps from.code state base now.code now.activations now.heap _ _ On c.step.result new.activations new.heap _ _ c.loop-remaining.invariant.kept.code c.in-On.is c.step.ensures.gives) in
          stands_after from.code state base (done + 1) new.activations new.heap _ _ next c.advance-remaining.result made _ after.activations after.heap then one.code (heap_after from mid after spent same) c.advance-remaining.ensures.meaning;
    }

pub returns-then-is_final-clause-meaning : goal.returns-then-is_final-clause-meaning
returns-then-is_final-clause-meaning g c = λ history left base trace told wrote.
    let from = ready_of c.args.self.now in
    let now = ready_of c.loop-remaining.self in
    let new = ready_of c.step.new.self in
    let state = state_at from history left trace in
    let done = c.args.steps - c.loop-remaining.remaining in
    let stood = c.loop-remaining.invariant.stands done (omega (arith, c.loop-remaining.invariant.within)) history left base trace told wrote in
    let made : new.spent + 1 - from.spent ≡ suc done = omega (arith, c.loop-remaining.invariant.within, c.loop-remaining.invariant.spent, spent_before from now new c.step.ensures.same) in
    gives_over from.code state base done now.activations now.heap _ _ stood c.args.steps _ (omega (arith, c.loop-remaining.invariant.within)) c.in-Over.end _ (sym c.if-is_final.true ∙ c.is_final.ensures) made new.activations new.heap _ _
    (as_steps from.code state base now.code now.activations now.heap _ _ (Over c.in-Over.end) c.step.result new.activations new.heap _ _ c.loop-remaining.invariant.kept.code c.in-Over.is c.step.ensures.gives)

pub returns-then-is_final-clause-same : goal.returns-then-is_final-clause-same
returns-then-is_final-clause-same g c =
    same_ready (ready_of c.args.self.now) _ (still_kept (ready_of c.args.self.now) (ready_of c.loop-remaining.self) (ready_of c.step.new.self) c.step.ensures.same (c.step.new.self.spent + 1) c.loop-remaining.invariant.kept)

pub returns-then-is_final-clause-more : goal.returns-then-is_final-clause-more
returns-then-is_final-clause-more g c = omega (arith, c.loop-remaining.invariant.within, c.loop-remaining.invariant.spent, spent_before (ready_of c.args.self.now) (ready_of c.loop-remaining.self) (ready_of c.step.new.self) c.step.ensures.same)

pub returns-then-is_final-clause-within : goal.returns-then-is_final-clause-within
returns-then-is_final-clause-within g c = omega (arith, c.loop-remaining.invariant.within, c.loop-remaining.invariant.spent, spent_before (ready_of c.args.self.now) (ready_of c.loop-remaining.self) (ready_of c.step.new.self) c.step.ensures.same)

pub returns-else-is_final-clause-meaning : goal.returns-else-is_final-clause-meaning
returns-else-is_final-clause-meaning g c = λ history left base trace told wrote.
    let from = ready_of c.args.self.now in
    let now = ready_of c.loop-remaining.self in
    let new = ready_of c.step.new.self in
    let state = state_at from history left trace in
    let done = c.args.steps - c.loop-remaining.remaining in
    let stood = c.loop-remaining.invariant.stands done (omega (arith, c.loop-remaining.invariant.within)) history left base trace told wrote in
    let made : new.spent - from.spent ≡ done = omega (arith, c.loop-remaining.invariant.within, c.loop-remaining.invariant.spent, spent_before from now new c.step.ensures.same) in
    gives_over from.code state base done now.activations now.heap _ _ stood c.args.steps _ (omega (arith, c.loop-remaining.invariant.within)) c.in-Over.end _ (sym c.if-is_final.false ∙ c.is_final.ensures) made new.activations new.heap _ _
    (as_steps from.code state base now.code now.activations now.heap _ _ (Over c.in-Over.end) c.step.result new.activations new.heap _ _ c.loop-remaining.invariant.kept.code c.in-Over.is c.step.ensures.gives)

pub returns-else-is_final-clause-same : goal.returns-else-is_final-clause-same
returns-else-is_final-clause-same g c =
    same_ready (ready_of c.args.self.now) (ready_of c.step.new.self) (still_kept (ready_of c.args.self.now) (ready_of c.loop-remaining.self) (ready_of c.step.new.self) c.step.ensures.same _ c.loop-remaining.invariant.kept)

pub returns-else-is_final-clause-more : goal.returns-else-is_final-clause-more
returns-else-is_final-clause-more g c = omega (arith, c.loop-remaining.invariant.within, c.loop-remaining.invariant.spent, spent_before (ready_of c.args.self.now) (ready_of c.loop-remaining.self) (ready_of c.step.new.self) c.step.ensures.same)

pub returns-else-is_final-clause-within : goal.returns-else-is_final-clause-within
returns-else-is_final-clause-within g c = omega (arith, c.loop-remaining.invariant.within, c.loop-remaining.invariant.spent, spent_before (ready_of c.args.self.now) (ready_of c.loop-remaining.self) (ready_of c.step.new.self) c.step.ensures.same)

pub returns-clause-meaning : goal.returns-clause-meaning
returns-clause-meaning g c = λ history left base trace told wrote.
    let from = ready_of c.args.self.now in
    let now = ready_of c.loop-remaining.self in
    let made : now.spent - from.spent ≡ c.args.steps = omega (arith, c.loop-remaining.invariant.spent) in
    let stood = c.loop-remaining.invariant.stands c.args.steps (omega arith) history left base trace told wrote in
    gives_spent from.code (state_at from history left trace) base c.args.steps now.activations now.heap _ _ stood _ made

pub returns-clause-loaded : goal.returns-clause-loaded
returns-clause-loaded g c = c.loop-remaining.invariant.loaded

pub returns-clause-same : goal.returns-clause-same
returns-clause-same g c =
    same_ready (ready_of c.args.self.now) (ready_of c.loop-remaining.self) c.loop-remaining.invariant.kept

pub returns-clause-more : goal.returns-clause-more
returns-clause-more g c = omega (arith, c.loop-remaining.invariant.spent)

pub returns-clause-within : goal.returns-clause-within
returns-clause-within g c = omega (arith, c.loop-remaining.invariant.spent)

pub returns-then-is_final-clause-read_faultless : goal.returns-then-is_final-clause-read_faultless
returns-then-is_final-clause-read_faultless g c = λ other. c.step.ensures.read_faultless (λ e. other (same_end c.step.result c.in-Over.end ends.ReadFault c.in-Over.is e)) ∙ c.loop-remaining.invariant.read_faultless

pub returns-then-is_final-clause-write_faultless : goal.returns-then-is_final-clause-write_faultless
returns-then-is_final-clause-write_faultless g c = λ other. c.step.ensures.write_faultless (λ e. other (same_end c.step.result c.in-Over.end ends.WriteFault c.in-Over.is e)) ∙ c.loop-remaining.invariant.write_faultless

pub returns-else-is_final-clause-read_faultless : goal.returns-else-is_final-clause-read_faultless
returns-else-is_final-clause-read_faultless g c = λ other. c.step.ensures.read_faultless (λ e. other (same_end c.step.result c.in-Over.end ends.ReadFault c.in-Over.is e)) ∙ c.loop-remaining.invariant.read_faultless

pub returns-else-is_final-clause-write_faultless : goal.returns-else-is_final-clause-write_faultless
returns-else-is_final-clause-write_faultless g c = λ other. c.step.ensures.write_faultless (λ e. other (same_end c.step.result c.in-Over.end ends.WriteFault c.in-Over.is e)) ∙ c.loop-remaining.invariant.write_faultless
