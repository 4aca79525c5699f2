use Rattle.std.proofs.Common.{◌≡◌, sym, ap, ◌∙◌, arith}
use Rattle.std.specs.Prelude.{option_map}
use Rattle.std.proofs.lemmas.Option.{none-some, slice_get_within}
use Rattle.std.proofs.lemmas.Result.{on_ok_weaker}
use Rattle.graph_unification.specs.Memory.{held}
use Rattle.graph_unification.specs.Turns.{element_of, Itself, Turned}
use Rattle.graph_unification.proofs.nodes.Nodes.lay.Goals as goal

pub link-requires-clause-part : goal.link-requires-clause-part
link-requires-clause-part c = c.requires.part

pub link-requires-clause-whole : goal.link-requires-clause-whole
link-requires-clause-whole c = c.requires.whole

pub link-requires-clause-differ : goal.link-requires-clause-differ
link-requires-clause-differ c = c.requires.differ

pub returns-then-distance-gt0 : goal.returns-then-distance-gt0
returns-then-distance-gt0 c = on_ok_weaker c.link.result (λ links. Itself links) c.link.ensures

pub retype-requires : goal.retype-requires
retype-requires c = slice_get_within c.args.self.now.list.items c.args.part _ c.requires.part.1

pub link-requires-in-Some-clause-part : goal.link-requires-in-Some-clause-part
link-requires-in-Some-clause-part c =
    let gets = c.retype.ensures c.requires.part.0 c.requires.part.1 in
    (c.requires.whole.0, gets.change.others c.args.whole (λ e. c.requires.differ (sym e)) ∙ c.requires.whole.1)

pub link-requires-in-Some-clause-whole : goal.link-requires-in-Some-clause-whole
link-requires-in-Some-clause-whole c =
    let gets = c.retype.ensures c.requires.part.0 c.requires.part.1 in
    (gets.after, gets.change.now)

pub link-requires-in-Some-clause-differ : goal.link-requires-in-Some-clause-differ
link-requires-in-Some-clause-differ c = λ e. c.requires.differ (sym e)

pub returns-in-Some : goal.returns-in-Some
returns-in-Some c =
    let least = c.if-distance-gt0.false in
    let zero : c.args.distance ≡ 0 = omega (arith, least) in
    on_ok_weaker c.link-in-Some.result (λ links. Turned c.retype.new.self c.in-Some.element zero (sym c.in-Some.ensures) c.retype.ensures links) c.link-in-Some.ensures

pub returns-in-None : goal.returns-in-None
returns-in-None c = absurd (none-some (element_of c.requires.whole.0) (c.in-None.ensures ∙ ap (λ o. option_map element_of (held o)) c.requires.whole.1))
