use Rattle.pool_isa.specs.Instr.{spelling}
use Rattle.image_form.specs.Reading.{IsInstrAt, instrs_of}
use Rattle.image_form.proofs.Instructions.{unique_at, trap_at}
use Rattle.image_form.proofs.Lists.{kept_more, item_refused}
use Rattle.image_form.proofs.code.code.Goals as goal

pub returns-in-Err : goal.returns-in-Err
returns-in-Err c = item_refused spelling (IsInstrAt c.args.counts) (unique_at c.args.counts) (trap_at c.args.counts) c.args.bytes.now c.args.at c.args.counts.instrs c.loop-index.here c.loop-index.index (instrs_of c.loop-index.code) c.in-Err.fault c.loop-index-test.true c.loop-index.invariant c.in-Err.ensures

pub loop-index-preserved : goal.loop-index-preserved
loop-index-preserved c = kept_more spelling (IsInstrAt c.args.counts) (unique_at c.args.counts) (trap_at c.args.counts) c.args.bytes.now c.args.at c.args.counts.instrs c.loop-index.here c.in-Ok.found.1 c.loop-index.index (instrs_of c.loop-index.code) (instrs_of c.push.new.self) c.in-Ok.found.0 c.loop-index-test.true c.in-Ok-push.ensures.items c.in-Ok.ensures.0 c.in-Ok.ensures.1 c.loop-index.invariant
