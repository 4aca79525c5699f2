use Rattle.std.proofs.Common.{None, refl, sym, ap, ◌∙◌}
use Rattle.std.proofs.lemmas.List.{append-nil}
use Rattle.machine.specs.Loaded.{ready_of}
use Rattle.machine.proofs.Reports.{no_kind, row_next, rows_end}
use Rattle.machine.proofs.loaded.Machine.append_rows.Goals as goal
use Rattle.machine.proofs.loaded.Machine.append_rows.Goals.{in-PoolInit+in_ok-append_row, in_default}

pub loop-place-init : goal.loop-place-init
loop-place-init c = refl

pub loop-place-preserved : goal.loop-place-preserved
loop-place-preserved c =
    let ready = ready_of c.args.self.now in
    elim c.match-instr.branch [
      | in-PoolInit+in_ok-append_row w ↦
          row_next ready.heap.tally ready.code.kinds c.args.function c.loop-place.rows.items c.match-instr.rows.items _ c.args.code.now c.loop-place.place _ _ _ c.loop-place-test.true w.in-PoolInit.is refl (ap (λ rows. rows.items) w.rows-is ∙ w.in_ok-append_row.ensures) c.loop-place.invariant
      | in_default w ↦
          let none = no_kind ready.heap.tally ready.code.kinds _ w.in_default.not-PoolInit in
          row_next ready.heap.tally ready.code.kinds c.args.function c.loop-place.rows.items c.match-instr.rows.items _ c.args.code.now c.loop-place.place _ _ None c.loop-place-test.true refl none (ap (λ rows. rows.items) w.rows-is ∙ sym (append-nil c.loop-place.rows.items)) c.loop-place.invariant
    ]

pub returns : goal.returns
returns c =
    let ready = ready_of c.args.self.now in
    rows_end ready.heap.tally ready.code.kinds c.args.function c.loop-place.rows.items _ c.args.code.now c.loop-place.place c.loop-place-test.false c.loop-place.invariant
