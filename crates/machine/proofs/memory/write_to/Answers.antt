use Rattle.std.proofs.Common.{◌≡◌, ◌+◌, sym, ap, ◌∙◌, arith}
use Rattle.byteorder.specs.Endian.{little_bytes}
use Rattle.byteorder.specs.Numbers.{length-bytes_low_first}
use Rattle.pool_isa.specs.Machine.{covers}
use Rattle.machine.specs.Promises.{with_frame_word}
use Rattle.machine.proofs.FrameSearch.{write_none, written_last, kept_last}
use Rattle.machine.proofs.memory.write_to.Goals as goal

pub returns-in-Some-clause-written : goal.returns-in-Some-clause-written
returns-in-Some-clause-written c =
    let count = c.begun_at.result in let last = c.in-Some.last in let x = c.index-callers-last.result in
    let address = c.args.address in let size = c.args.size in let word = c.args.word in
    let e : count ≡ last + 1 = omega arith in
    let is = c.index-callers-last.is in
    written_last c.args.callers.now address size count c.requires.low c.requires.stacked c.begun_at.ensures.within c.begun_at.ensures.point last x e is
    (little_bytes size word) (length-bytes_low_first 0 size word) c.write.result c.write.new.self
    (c.write.ensures.written ∙ ap (λ f. covers f address size) (sym is)) (c.write.ensures.bytes ∙ ap (λ f. with_frame_word f address size word) (sym is))

pub returns-in-Some-clause-kept : goal.returns-in-Some-clause-kept
returns-in-Some-clause-kept c =
    let count = c.begun_at.result in let last = c.in-Some.last in let x = c.index-callers-last.result in
    let address = c.args.address in let size = c.args.size in let word = c.args.word in
    let e : count ≡ last + 1 = omega arith in
    let is = c.index-callers-last.is in
    kept_last c.args.callers.now address size count c.requires.low c.requires.stacked c.begun_at.ensures.within c.begun_at.ensures.point last x e is
    (little_bytes size word) (length-bytes_low_first 0 size word) c.write.result c.write.new.self
    (c.write.ensures.written ∙ ap (λ f. covers f address size) (sym is)) (c.write.ensures.bytes ∙ ap (λ f. with_frame_word f address size word) (sym is))

pub returns-in-None-clause-written : goal.returns-in-None-clause-written
returns-in-None-clause-written c =
    let size = c.args.size in
    write_none c.args.callers.now c.args.address size c.begun_at.result c.requires.low c.requires.stacked c.begun_at.ensures.within c.begun_at.ensures.point
    (little_bytes size c.args.word) (length-bytes_low_first 0 size c.args.word) (omega arith)
