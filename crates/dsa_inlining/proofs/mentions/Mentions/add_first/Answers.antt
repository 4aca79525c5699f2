use Rattle.std.proofs.Common.{◌<◌, ◌≤◌, List, length, get_or, ap, subst, ◌∙◌, arith}
use Rattle.c_typed.specs.declared.definition.First as memory_first
use Rattle.c_typed.specs.DefinitionViews.{all_first}
use Rattle.tac_ir.specs.Views.{tac_of}
use Rattle.dsa_inlining.specs.Tallies.{Adds}
use Rattle.dsa_inlining.specs.FirstValues.{values_mention}
use Rattle.dsa_inlining.proofs.Firsts.{globals_start, globals_more, globals_end}
use Rattle.dsa_inlining.proofs.mentions.Mentions.add_first.Goals as goal

pub loop-number-init : goal.loop-number-init
loop-number-init c = globals_start (tac_of c.args.tac.now) c.args.tac.now.types c.args.tac.now.globals.items c.args.self.now

pub loop-number-preserved : goal.loop-number-preserved
loop-number-preserved c =
    let tac = c.args.tac.now in
    let globals = tac.globals.items in
    let i = c.loop-number.number in
    let global = c.global-item.result in
    let same = c.deref-global-items.ensures.value in
    let less : i < length globals = omega (arith, c.loop-number-test.true, ap (λ l. length l) same) in
    globals_more (tac_of tac) tac.types globals c.args.self.now i global (c.global-item.is ∙ ap (λ l. get_or l i global) same) less c.loop-number.self c.add_values.new.self
    (subst (λ (l : List memory_first.First). Adds (values_mention (tac_of tac) i (all_first l)) c.loop-number.self c.add_values.new.self) c.as_slice.ensures.value (c.add_values.ensures tac c.requires))
    c.loop-number.invariant

pub returns : goal.returns
returns c =
    let tac = c.args.tac.now in
    let globals = tac.globals.items in
    let all : length globals ≤ c.loop-number.number = omega (arith, c.loop-number-test.false, ap (λ l. length l) c.deref-global-items.ensures.value) in
    globals_end (tac_of tac) tac.types globals c.args.self.now c.loop-number.number c.loop-number.self all c.loop-number.invariant
