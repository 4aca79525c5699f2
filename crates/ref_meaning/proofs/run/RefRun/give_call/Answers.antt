use Rattle.std.proofs.Common.{bytes_eq, refl, ◌∙◌, true, false}
use Rattle.c_typed.proofs.Grown.{void_stands}
use Rattle.ref_meaning.specs.declared.control.Frame.{Frame}
use Rattle.ref_meaning.specs.declared.control.Stage.TheVariants as S
use Rattle.ref_meaning.specs.Views.{table_of}
use Rattle.ref_meaning.proofs.Moves.{ok-moves}
use Rattle.ref_meaning.proofs.Returning.{GivesBack, gives-value, gives-none, IsUsed, used-value, used-main, used-nothing, used-needed, is-needed, not-needed, no-body, returns-nothing, returns-value}
use Rattle.ref_meaning.proofs.run.RefRun.give_call.Goals as goal
use Rattle.ref_meaning.proofs.run.RefRun.give_call.Goals.{in-Return, in_default, in-Some, in-None+in-Body+then-eq, in-None+in-Body+else-eq+else-is_used, else-is_used-via-then-is_used+else-not-same, else-is_used-via-else-is_used, in-None+in_default-node}

pub same-requires-clause-b : goal.same-requires-clause-b
same-requires-clause-b c = (void_stands c.args.self.now.program.now.types (record { 0 = 0 }) refl).0

pub returns-then-not-same-clause-moves : goal.returns-then-not-same-clause-moves
returns-then-not-same-clause-moves c = λ state at.
    let old = c.args.self.now in
    let r = c.requires in
    let back : GivesBack (table_of old) c.args.way c.match-way.returned = elim c.match-way.branch [
      | in-Return w ↦ gives-value (table_of old) c.args.way w.in-Return.value c.match-way.returned w.in-Return.is w.returned-is r.way
      | in_default w ↦ gives-none (table_of old) c.args.way c.match-way.returned w.in_default.not-Return w.returned-is
    ] in
    let other = c.if-eq.ensures ∙ (λ i. bytes_eq (c.as_slice.ensures i) (c.as_slice-in-Body.ensures i)) in
    returns-nothing old c.args.node c.args.is_used c.args.place c.args.base c.args.way r.innermost.0 c.match-way.returned r.holds r.free r.innermost.1 back
    (used-needed (table_of old) c.args.is_used c.args.place c.args.node c.match-way.returned c.in-Body.function c.in-Body.is c.in-None.is other
    (is-needed old c.args.is_used c.in-Body.function.now false r.holds c.if-is_used.true c.if-not-same.ensures))
    state

pub returns-clause-moves : goal.returns-clause-moves
returns-clause-moves c =
    let old = c.args.self.now in
    let r = c.requires in
    let table = table_of old in
    let back : GivesBack table c.args.way c.match-way.returned = elim c.match-way.branch [
      | in-Return w ↦ gives-value table c.args.way w.in-Return.value c.match-way.returned w.in-Return.is w.returned-is r.way
      | in_default w ↦ gives-none table c.args.way c.match-way.returned w.in_default.not-Return w.returned-is
    ] in
    let used : IsUsed table c.args.is_used c.args.place c.args.node c.match-way.returned c.match-returned.value = elim c.match-returned.branch [
      | in-Some w ↦ used-value table c.args.is_used c.args.place c.args.node c.match-way.returned w.in-Some.value c.match-returned.value w.in-Some.is w.value-is back.1
      | in-None+in-Body+then-eq w ↦ used-main table c.args.is_used c.args.place c.args.node c.match-way.returned w.in-Body.function w.in-Body.is w.in-None.is c.match-returned.value
          (w.if-eq.ensures ∙ (λ i. bytes_eq (w.as_slice.ensures i) (w.as_slice-in-Body.ensures i))) w.value-is
      | in-None+in-Body+else-eq+else-is_used w ↦ used-nothing table c.args.is_used c.args.place c.args.node c.match-way.returned w.in-Body.function w.in-Body.is w.in-None.is c.match-returned.value
          (w.if-eq.ensures ∙ (λ i. bytes_eq (w.as_slice.ensures i) (w.as_slice-in-Body.ensures i)))
          (elim w.else-is_used.branch [
            | else-is_used-via-then-is_used+else-not-same v ↦ is-needed old c.args.is_used w.in-Body.function.now true r.holds v.if-is_used.true v.if-not-same.ensures
            | else-is_used-via-else-is_used v ↦ not-needed table c.args.is_used w.in-Body.function.now v.if-is_used.false
          ])
          w.value-is
      | in-None+in_default-node w ↦ absurd (no-body c.args.node r.body w.in_default-node.not-Body)
    ] in
    let first : Frame = record { node = r.innermost.1.node; stage = S.Call c.args.is_used c.args.place c.args.base } in
    ok-moves old c.done.new.self _ c.done.result c.done.ensures.ok
    (returns-value old c.args.node c.args.is_used c.args.place c.args.base c.args.way r.innermost.0 c.match-way.returned r.holds r.free r.innermost.1 back
    c.done.new.self c.leave.new.self c.match-returned.value used c.leave.ensures.types c.leave.ensures.left c.leave.ensures.locals
    (c.done.ensures.becomes first r.innermost.1.others r.innermost.1.stack))
