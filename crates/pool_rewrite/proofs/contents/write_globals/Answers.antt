use Rattle.std.proofs.Common.{◌≡◌, length, sym, subst, ◌∙◌, arith}
use Rattle.c_typed.specs.Table.{type_in}
use Rattle.c_typed.specs.DefinitionViews.{all_first}
use Rattle.tac_ir.specs.Views.{tac_of}
use Rattle.pool_rewrite.specs.Placing.{global_offset, statics_size}
use Rattle.pool_rewrite.specs.Rewriting.{with_first}
use Rattle.pool_rewrite.specs.Firsts.{FirstsFit}
use Rattle.pool_rewrite.proofs.PlacedFirsts.{global_fits, globals_up}
use Rattle.pool_rewrite.proofs.contents.write_globals.Goals as goal

pub write_firsts-requires-clause-fit : goal.write_firsts-requires-clause-fit
write_firsts-requires-clause-fit c =
    let tac = c.args.tac.now in
    let n = c.loop-number.number in
    let global = c.index-global.result.now in
    let fits = global_fits tac 0 tac.globals.items n n global c.requires.fit (omega (arith, c.loop-number-test.true, c.len-number-end.ensures)) c.index-global.ensures (omega arith) in
    let start = c.global.ensures (tac_of tac) c.requires.program.lie in
    let lies = subst (λ at. FirstsFit tac (record { c_type = global.c_type; start = at }) (statics_size (tac_of tac)) global.first.items) (sym start) fits in
    let room = subst (λ size. FirstsFit tac (record { c_type = global.c_type; start = c.global.result }) size global.first.items) (sym c.loop-number.invariant.long) lies in
    subst (λ firsts. FirstsFit tac (record { c_type = global.c_type; start = c.global.result }) (length c.loop-number.bytes) firsts) (sym c.as_slice.ensures.value) room

pub loop-number-preserved : goal.loop-number-preserved
loop-number-preserved c =
    let tac = c.args.tac.now in
    let n = c.loop-number.number in
    let global = c.index-global.result.now in
    let t = type_in tac.types global.c_type in
    let start : c.global.result ≡ global_offset (tac_of tac) n = c.global.ensures (tac_of tac) c.requires.program.lie in
    let written : c.write_firsts.new.bytes ≡ with_first (tac_of tac) t (global_offset (tac_of tac) n) (all_first global.first.items) c.loop-number.bytes =
    c.write_firsts.ensures ∙ (λ i. with_first (tac_of tac) t (start i) (all_first (c.as_slice.ensures.value i)) c.loop-number.bytes) in
    record {
      written = globals_up (tac_of tac) tac.types tac.globals.items n global c.loop-number.bytes c.write_firsts.new.bytes _ (omega (arith, c.loop-number-test.true, c.len-number-end.ensures)) c.index-global.ensures written c.loop-number.invariant.written;
      long = c.write_firsts.auto.bytes ∙ c.loop-number.invariant.long;
    }
