use Rattle.std.proofs.Common.{◌≡◌, length, drop, replicate, ap, take_at, ◌∙◌}
use Rattle.tac_ir.specs.Views.{tac_of}
use Rattle.pool_rewrite.specs.Placing.{statics_size}
use Rattle.pool_rewrite.specs.Rewriting.{with_globals, with_literals}
use Rattle.pool_rewrite.proofs.contents.first_contents.Goals as goal

pub returns : goal.returns
returns c =
    let tac = tac_of c.args.tac.now in
    let len = c.in_ok-bytes.bytes.len in
    let items = c.in_ok-bytes.bytes.items in
    let after_globals = c.write_globals.new.bytes in
    let after_literals = c.write_literals.new.bytes in
    let zeros : items ≡ replicate (statics_size tac) 0 = c.in_ok-bytes.ensures.items_if_clones_equal (λ y e. e) ∙ ap (λ n. replicate n 0) c.requires.statics.size in
    let first_long : length after_globals ≡ len = c.write_globals.auto.bytes ∙ c.as_mut_slice.ensures.len in
    let first : after_globals ≡ with_globals tac 0 tac.globals (replicate (statics_size tac) 0) = c.write_globals.ensures ∙ ap (with_globals tac 0 tac.globals) (c.as_mut_slice.ensures.value ∙ zeros) in
    let between : c.as_mut_slice-2.result.now ≡ after_globals = c.as_mut_slice-2.ensures.value ∙ take_at after_globals (drop (length after_globals) items) len first_long in
    let second_long : length after_literals ≡ len = c.write_literals.auto.bytes ∙ (ap length between ∙ first_long) in
    take_at after_literals _ len second_long ∙ (c.write_literals.ensures ∙ ap (with_literals tac 0 tac.literals) (between ∙ first))
