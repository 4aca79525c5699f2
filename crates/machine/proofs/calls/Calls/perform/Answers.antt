use Rattle.std.proofs.Common.{[], refl, arith}
use Rattle.pool_isa.specs.declared.instr.Instr.TheVariants as instrs
use Rattle.image_form.specs.Form.{code_of, form_of}
use Rattle.pool_isa.specs.Machine.{Function}
use Rattle.machine.specs.Heaps.{heap_of}
use Rattle.machine.proofs.Performing.{does_as, does_from_performs, no_read_fault, no_write_fault}
use Rattle.machine.proofs.calls.Calls.perform.Goals as goal

pub returns-in-GetChar-clause-does : goal.returns-in-GetChar-clause-does
returns-in-GetChar-clause-does g c = λ function h.
    let code = code_of (form_of c.args.image.now) in
    let heap = heap_of c.args.heap.now in
    does_as code function c.args.self.now heap c.get_char.result c.get_char.new.self heap instrs.GetChar c.args.instr _ _ _ _ c.in-GetChar.is (c.get_char.ensures.does code function heap _ h)

pub returns-in-GetChar-clause-write_cause : goal.returns-in-GetChar-clause-write_cause
returns-in-GetChar-clause-write_cause g c = λ e. absurd (c.get_char.ensures.other e)

pub returns-in-PutChar-clause-does : goal.returns-in-PutChar-clause-does
returns-in-PutChar-clause-does g c = λ function h.
    let code = code_of (form_of c.args.image.now) in
    let heap = heap_of c.args.heap.now in
    does_as code function c.args.self.now heap c.put_char.result c.put_char.new.self heap instrs.PutChar c.args.instr _ _ _ _ c.in-PutChar.is (c.put_char.ensures.does code function heap _)

pub returns-in-PutChar-clause-read_cause : goal.returns-in-PutChar-clause-read_cause
returns-in-PutChar-clause-read_cause g c = λ e. absurd (c.put_char.ensures.other e)

pub returns-in_default : goal.returns-in_default
returns-in_default g c =
    let code = code_of (form_of c.args.image.now) in
    let old = c.args.self.now in
    let new = c.perform_inside.new.self in
    let result = c.perform_inside.result in
    let heap = heap_of c.args.heap.now in
    let heap' = heap_of c.perform_inside.new.heap in
    let some : Function = record { parameters = 0; extra = 0; height = c.args.height; signature = 0; code = [] } in
    record {
      does = λ function h. does_from_performs code function c.args.instr old heap result new heap' (c.perform_inside.ensures function h) _ _;
      read_cause = λ e. absurd (no_read_fault code some c.args.instr old heap result new heap' (c.perform_inside.ensures some refl) e);
      write_cause = λ e. absurd (no_write_fault code some c.args.instr old heap result new heap' (c.perform_inside.ensures some refl) e);
      read_faultless = λ _. refl;
      write_faultless = λ _. refl;
      reads_counted = omega arith;
      writes_counted = omega arith;
    }
