use Rattle.std.proofs.Common.{◌≡◌, slice_get, ap, subst, ◌∙◌, arith}
use Rattle.c_typed.specs.Table.{empty}
use Rattle.c_typed.specs.StatementViews.{block_in}
use Rattle.tac_build.specs.Homes.{takes_block}
use Rattle.tac_build.specs.Taken.{taken_block}
use Rattle.tac_build.proofs.MarkedStatements.{Fresh, fresh_none, fresh_more, found_parameters, length_found, take_found, drop_found, get_first}
use Rattle.tac_build.proofs.addressed.find_addressed.Goals as goal

pub loop-number-init : goal.loop-number-init
loop-number-init c = fresh_none _ c.new.ensures.items c.new-2.ensures.items

pub loop-number-preserved : goal.loop-number-preserved
loop-number-preserved c = fresh_more c.loop-number.search _ _ c.loop-number.invariant (c.in_ok-push.ensures {u = tt}).items (c.in_ok-push-2.ensures {u = tt}).items

pub split_off-requires : goal.split_off-requires
split_off-requires c =
    let all = block_in empty c.args.body.now in
    let count = c.args.parameters in
    let end : c.loop-number.number ≡ count = omega arith in
    let flags = c.block.new.self.flags in
    let found = found_parameters c.loop-number.search c.block.new.self count all (subst (λ n. Fresh c.loop-number.search n) end c.loop-number.invariant) (c.in_ok-block.ensures {u = tt} empty) in
    let less = length_found (λ n. takes_block n all) count flags.items (taken_block count all) found in
    let long = flags.ok.0 in
    omega (arith, less, long)

pub returns-clause-taken : goal.returns-clause-taken
returns-clause-taken c = λ table number less.
    let all = block_in table c.args.body.now in
    let count = c.args.parameters in
    let end : c.loop-number.number ≡ count = omega arith in
    let flags = c.block.new.self.flags in
    let found = found_parameters c.loop-number.search c.block.new.self count all (subst (λ n. Fresh c.loop-number.search n) end c.loop-number.invariant) (c.in_ok-block.ensures {u = tt} table) in
    ap (λ flags. slice_get flags number) ((c.in_ok-variables.ensures {u = tt}).items ∙ take_found (λ n. takes_block n all) count flags.items (taken_block count all) found)
    ∙ get_first (λ n. takes_block n all) count number less

pub returns-clause-variables : goal.returns-clause-variables
returns-clause-variables c = λ table.
    let all = block_in table c.args.body.now in
    let count = c.args.parameters in
    let end : c.loop-number.number ≡ count = omega arith in
    let flags = c.block.new.self.flags in
    let found = found_parameters c.loop-number.search c.block.new.self count all (subst (λ n. Fresh c.loop-number.search n) end c.loop-number.invariant) (c.in_ok-block.ensures {u = tt} table) in
    (c.in_ok-variables.ensures {u = tt}).tail ∙ drop_found (λ n. takes_block n all) count flags.items (taken_block count all) found
