use Rattle.std.proofs.Common.{◌≡◌, ◌≤◌, ◌∷◌, Bool, true, false, List, reverse, arith, refl, subst, sym, ap, ◌∙◌}
use Rattle.std.specs.Bool.{OnFalse}
use Rattle.std.proofs.lemmas.List.{with_items_is}
use Rattle.byteorder.specs.Endian.{little_bytes}
use Rattle.byteorder.specs.Numbers.{length-bytes_low_first}
use Rattle.pool_isa.specs.Machine.{Activation}
use Rattle.machine.specs.Steps.{CallStack, IsStacked}
use Rattle.machine.proofs.FrameSearch.{write_nowhere}
use Rattle.machine.proofs.Frames.{after_missed, write_here, write_outward, stacked_written, stacked_tried, on_false}
use Rattle.machine.proofs.calls.Calls.write.Goals as goal

abbrev the_stack : Activation → List Activation → CallStack
the_stack innermost callers = record { innermost = innermost; callers = callers }

at_false : {P : Type 0} (b : Bool) → b ≡ false → OnFalse b P → P
at_false true e h = absurd cc
at_false false e h = h

pub invariant_of-self : goal.invariant_of-self
invariant_of-self c =
    let new = little_bytes c.args.size c.args.word in
    let callers = reverse c.self.inside.callers.items in
    let written = write_here c.self.inside.innermost c.write.new.self callers c.args.address c.args.size new (length-bytes_low_first 0 c.args.size c.args.word) c.write.ensures.bytes (sym c.write.ensures.written ∙ c.if-write.true) in
    (stacked_written c.args.address new (c.self.inside.innermost ∷ callers) (c.write.new.self ∷ callers) c.self.invariant written).2

pub returns-then-write-clause-written : goal.returns-then-write-clause-written
returns-then-write-clause-written c =
    let new = little_bytes c.args.size c.args.word in
    let callers = reverse c.self.inside.callers.items in
    let written = write_here c.self.inside.innermost c.write.new.self callers c.args.address c.args.size new (length-bytes_low_first 0 c.args.size c.args.word) c.write.ensures.bytes (sym c.write.ensures.written ∙ c.if-write.true) in
    rw (← c.self.view_is) written

pub invariant_of-self-then-start-address : goal.invariant_of-self-then-start-address
invariant_of-self-then-start-address c =
    let frame = c.self.inside.innermost in
    let missed = sym c.write.ensures.written ∙ c.if-write.false in
    let left = after_missed frame frame c.write.new.self c.args.address c.args.size (little_bytes c.args.size c.args.word) refl c.write.ensures.bytes missed in
    subst (λ (f : Activation). IsStacked (f ∷ reverse c.self.inside.callers.items)) (sym left) c.self.invariant

pub returns-then-start-address-clause-written : goal.returns-then-start-address-clause-written
returns-then-start-address-clause-written c =
    let new = little_bytes c.args.size c.args.word in
    let frame = c.self.inside.innermost in
    let callers = reverse c.self.inside.callers.items in
    let missed = sym c.write.ensures.written ∙ c.if-write.false in
    let left = after_missed frame frame c.write.new.self c.args.address c.args.size new refl c.write.ensures.bytes missed in
    let begins : frame.start ≤ c.args.address = omega (arith, ap (λ (f : Activation). f.start) left) in
    rw (← c.self.view_is) (write_nowhere c.args.address c.args.size c.requires.low new (length-bytes_low_first 0 c.args.size c.args.word) frame callers c.self.invariant begins missed)

pub returns-then-start-address-clause-kept : goal.returns-then-start-address-clause-kept
returns-then-start-address-clause-kept c =
    let frame = c.self.inside.innermost in
    let missed = sym c.write.ensures.written ∙ c.if-write.false in
    let left = after_missed frame frame c.write.new.self c.args.address c.args.size (little_bytes c.args.size c.args.word) refl c.write.ensures.bytes missed in
    rw (← c.self.view_is) (ap (λ f. the_stack f (reverse c.self.inside.callers.items)) left)

pub returns-then-start-address-clause-spare : goal.returns-then-start-address-clause-spare
returns-then-start-address-clause-spare c = at_false c.write.result c.if-write.false c.write.ensures.spare

pub invariant_of-self-2 : goal.invariant_of-self-2
invariant_of-self-2 c =
    let new = little_bytes c.args.size c.args.word in
    let frame = c.self.inside.innermost in
    let callers = reverse c.self.inside.callers.items in
    let sized = length-bytes_low_first 0 c.args.size c.args.word in
    let missed = sym c.write.ensures.written ∙ c.if-write.false in
    let same : c.deref_mut.result.now ≡ c.self.inside.callers.items = c.deref_mut.ensures.value in
    let stored = with_items_is c.self.inside.callers c.write_to.new.callers (c.write_to.auto.callers ∙ c.deref_mut.ensures.len) in
    let outward = write_outward frame c.write.new.self callers c.args.address c.args.size new sized c.write.ensures.bytes c.write_to.result (reverse c.write_to.new.callers) missed (rw same at c.write_to.ensures.written) in
    let left = after_missed frame frame c.write.new.self c.args.address c.args.size new refl c.write.ensures.bytes missed in
    let kept : OnFalse c.write_to.result (c.write.new.self ∷ reverse c.write_to.new.callers ≡ frame ∷ callers) =
    on_false c.write_to.result (λ (e : c.write_to.new.callers ≡ c.deref_mut.result.now). ap (λ f. f ∷ reverse c.write_to.new.callers) left ∙ ap (λ (fs : List Activation). frame ∷ reverse fs) (e ∙ same)) c.write_to.ensures.kept in
    let room = stacked_tried c.args.address new c.write_to.result (frame ∷ callers) (c.write.new.self ∷ reverse c.write_to.new.callers) c.self.invariant outward kept in
    subst (λ (fs : List Activation). IsStacked (c.write.new.self ∷ reverse fs)) (sym stored) room

pub returns-clause-written : goal.returns-clause-written
returns-clause-written c =
    let new = little_bytes c.args.size c.args.word in
    let frame = c.self.inside.innermost in
    let callers = reverse c.self.inside.callers.items in
    let sized = length-bytes_low_first 0 c.args.size c.args.word in
    let missed = sym c.write.ensures.written ∙ c.if-write.false in
    let same : c.deref_mut.result.now ≡ c.self.inside.callers.items = c.deref_mut.ensures.value in
    let stored = with_items_is c.self.inside.callers c.write_to.new.callers (c.write_to.auto.callers ∙ c.deref_mut.ensures.len) in
    let outward = write_outward frame c.write.new.self callers c.args.address c.args.size new sized c.write.ensures.bytes c.write_to.result (reverse c.write_to.new.callers) missed (rw same at c.write_to.ensures.written) in
    rw (← c.self.view_is, stored) outward

pub returns-clause-kept : goal.returns-clause-kept
returns-clause-kept c =
    let frame = c.self.inside.innermost in
    let callers = reverse c.self.inside.callers.items in
    let missed = sym c.write.ensures.written ∙ c.if-write.false in
    let same : c.deref_mut.result.now ≡ c.self.inside.callers.items = c.deref_mut.ensures.value in
    let stored = with_items_is c.self.inside.callers c.write_to.new.callers (c.write_to.auto.callers ∙ c.deref_mut.ensures.len) in
    let left = after_missed frame frame c.write.new.self c.args.address c.args.size (little_bytes c.args.size c.args.word) refl c.write.ensures.bytes missed in
    let kept : OnFalse c.write_to.result (the_stack c.write.new.self (reverse c.write_to.new.callers) ≡ the_stack frame callers) =
    on_false c.write_to.result (λ (e : c.write_to.new.callers ≡ c.deref_mut.result.now). ap (λ f. the_stack f (reverse c.write_to.new.callers)) left ∙ ap (λ (fs : List Activation). the_stack frame (reverse fs)) (e ∙ same)) c.write_to.ensures.kept in
    rw (← c.self.view_is, stored) kept

pub write_to-requires-clause-spare : goal.write_to-requires-clause-spare
write_to-requires-clause-spare c = omega (arith, at_false c.write.result c.if-write.false c.write.ensures.spare, c.requires.spare)

pub returns-clause-spare : goal.returns-clause-spare
returns-clause-spare c =
    let same = at_false c.write.result c.if-write.false c.write.ensures.spare in
    on_false c.write_to.result (λ (e : c.write_to.new.spare ≡ c.write.new.spare). e ∙ same) c.write_to.ensures.spare
