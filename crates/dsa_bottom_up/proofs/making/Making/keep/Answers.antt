use Rattle.std.proofs.Common.{◌≡◌, ◌<◌, suc, length, drop, sym, ap, ◌∙◌, subst, arith}
use Rattle.std.specs.Prelude.{get_or}
use Rattle.std.proofs.lemmas.Option.{slice_get-get_or}
use Rattle.std.specs.Iterator.Adapters.{enumerate_count, enumerate_source}
use Rattle.std.specs.Vec.Iter.{into_iter_items}
use Rattle.std.proofs.lemmas.Result.{on_ok_weaker}
use Rattle.dsa_bottom_up.specs.Making.{KeepsOne}
use Rattle.dsa_bottom_up.proofs.Keeping.{KeepsSome, keeps_more, keeps_all, next_of}
use Rattle.dsa_bottom_up.proofs.making.Making.keep.Goals as goal

pub loop-place-preserved : goal.loop-place-preserved
loop-place-preserved c =
    let functions = c.args.functions.items in
    let members = c.args.members.now in
    let count = enumerate_count c.loop-place.place-iterator in
    let steps = c.in-Some.ensures.steps in
    let rest = c.loop-place.invariant.rest in
    let left = c.loop-place.invariant.left in
    let fewer = steps.0.1 in
    let more = steps.2 in
    let size = c.requires.size in
    let its = next_of count functions (into_iter_items (enumerate_source c.next.new.self)) c.in-Some.own (sym steps.0.0 ∙ rest) in
    let next : enumerate_count c.next.new.self ≡ suc count = omega (arith, more) in
    let less : count < length members = omega (arith, left, fewer, size) in
    let member = get_or members count (record { 0 = 0 }) in
    let one = subst (λ place. KeepsOne c.loop-place.self c.keep_one.new.self (get_or members place (record { 0 = 0 })).0 c.args.graph.now c.in-Some.own) steps.1 c.in_ok-keep_one.ensures in
    let some =
    keeps_more c.args.self.now c.loop-place.self c.keep_one.new.self members c.args.graph.now functions count member c.in-Some.own c.requires.apart c.loop-place.invariant.some one
    (slice_get-get_or members count (record { 0 = 0 }) less)
    its.0 in
    record {
      rest = its.1 ∙ ap (λ n. drop n functions) (sym next);
      left = omega (arith, left, fewer, more);
      some = subst (KeepsSome c.args.self.now c.keep_one.new.self members c.args.graph.now functions) (sym next) some;
    }

pub returns : goal.returns
returns c =
    let steps = c.in-None.ensures.steps in
    let left = c.loop-place.invariant.left in
    let none = steps.0.0 in
    let members = c.args.members.now in
    on_ok_weaker c.add_members.result
    (λ adds.
    keeps_all c.args.self.now c.loop-place.self c.add_members.new.self members c.args.graph.now c.args.functions.items (enumerate_count c.loop-place.place-iterator) c.requires.size (omega (arith, left, none))
    adds c.loop-place.invariant.some)
    c.add_members.ensures
