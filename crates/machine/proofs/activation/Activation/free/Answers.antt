use Rattle.std.proofs.Common.{drop, sym, ap, subst, ◌∙◌}
use Rattle.std.proofs.lemmas.Bool.{eq-eqb, eqb-true, false_from_ne_true}
use Rattle.machine.specs.Heaps.{heap_of, FreesTo}
use Rattle.machine.proofs.Pooling.{freed_inside, nothing_freed}
use Rattle.machine.proofs.activation.Activation.free.Goals as goal
use Rattle.machine.proofs.activation.Activation.free.Goals.{else-address-ne0-via-then-address-ne0+else-not-free, else-address-ne0-via-else-address-ne0}

pub returns-clause-performs : goal.returns-clause-performs
returns-clause-performs c = λ code function callers history input trace.
    let old = c.args.self.now in
    let heap = heap_of c.args.heap.now in
    let heap' = heap_of c.else-address-ne0.heap in
    let pool = c.in-Some.pool in
    let address = c.in-Some.address in
    let rest = drop 2 old.operands in
    let lives = sym c.lives.ensures ∙ c.if-not-lives.false in
    elim c.else-address-ne0.branch [
      | else-address-ne0-via-then-address-ne0+else-not-free w ↦
          freed_inside old c.discard.new.self callers heap heap' history input trace pool address rest c.in-Some.ensures lives
          (false_from_ne_true _ (λ e. w.if-address-ne0.true (eqb-true address 0 e)))
          (subst (λ h. FreesTo pool address heap (heap_of h)) (sym w.heap-is) w.if-not-free.ensures.freed) c.discard.ensures
      | else-address-ne0-via-else-address-ne0 w ↦
          nothing_freed old c.discard.new.self callers heap heap' history input trace pool address rest c.in-Some.ensures lives
          (eq-eqb address 0 w.if-address-ne0.false) (ap heap_of w.heap-is) c.discard.ensures
    ]
