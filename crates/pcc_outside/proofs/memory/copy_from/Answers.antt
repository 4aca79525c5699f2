use Rattle.std.proofs.Common.{◌≡◌, arith, length, drop, take, ◌-◌}
use Rattle.std.proofs.lemmas.List.{take_rest, drop_min}
use Rattle.pcc_outside.proofs.Reading.{Gives-front}
use Rattle.pcc_outside.proofs.memory.copy_from.Goals as goal

pub returns-clause-gives : goal.returns-clause-gives
returns-clause-gives c =
    let e = c.copy_front.ensures in
    let start = c.min-start.ensures in
    let rest_is : take (length c.args.file.now - c.min-start.result) (drop c.min-start.result c.args.file.now) ≡ drop c.args.at c.args.file.now =
    rw (take_rest, start, drop_min) in
    Gives-front c.args.file.now _ _ c.args.at _ rest_is e.copied (omega (arith, e.count)) (λ none. omega (arith, e.count, none))
