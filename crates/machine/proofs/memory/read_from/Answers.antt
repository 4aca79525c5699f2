use Rattle.std.proofs.Common.{◌≡◌, ◌+◌, sym, ◌∙◌, arith, rules}
use Rattle.machine.proofs.FrameSearch.{read_none, read_found}
use Rattle.machine.proofs.memory.read_from.Goals as goal

pub returns-in_err-last-clause-word : goal.returns-in_err-last-clause-word
returns-in_err-last-clause-word c =
    let count = c.begun_at.result in let size = c.args.size in
    let none : count ≡ 0 = omega arith in
    let nothing = read_none c.args.callers.now c.args.address size count c.requires.low c.requires.stacked c.begun_at.ensures.within c.begun_at.ensures.point none in
    rw nothing (search rules)

pub returns-clause-word : goal.returns-clause-word
returns-clause-word c =
    let count = c.begun_at.result in let last = c.in_ok-last.last in
    let e : count ≡ last + 1 = omega arith in
    c.read.ensures.word
    ∙ sym (read_found c.args.callers.now c.args.address c.args.size count c.requires.low c.requires.stacked c.begun_at.ensures.within c.begun_at.ensures.point last c.index-callers-last.result e c.index-callers-last.is)
