use Rattle.std.proofs.Common.{[], ◌∷◌, length, Some, None, sym, ap, subst, length-append, arith}
use Rattle.std.specs.Prelude.{slice_get}
use Rattle.std.proofs.lemmas.Option.{slice_get-get_or, slice_get_past}
use Rattle.graph_unification.specs.Memory.{graph_in}
use Rattle.graph_unification.proofs.ToldLists.{each_pushed, each_all}
use Rattle.dsa_inlining.specs.Owners.{TellsAt}
use Rattle.dsa_inlining.proofs.names.names_of_owners.Goals as goal

pub loop-owner-init : goal.loop-owner-init
loop-owner-init c = record { long = ap length c.new-names.ensures.items; told = λ table fine n less. absurd (omega (arith, less)) }

pub loop-owner-preserved : goal.loop-owner-preserved
loop-owner-preserved c =
    let owners = c.args.owners.now in
    let tac = c.args.tac.now in
    let at = c.loop-owner.owner-index in
    record {
      long = omega (arith, ap length c.in-Ok.ensures.items, length-append c.loop-owner.names.items (c.in_ok-own.own ∷ []), c.loop-owner.invariant.long);
      told = λ table fine.
          let graph = graph_in table c.args.graph.now in
          each_pushed (λ n o. TellsAt graph tac (slice_get owners n) o) c.loop-owner.names.items c.push.new.self.items c.in_ok-own.own at c.in-Ok.ensures.items c.loop-owner.invariant.long
          (c.loop-owner.invariant.told table fine)
          (subst (λ o. TellsAt graph tac o (Some c.in_ok-own.own)) (sym (slice_get-get_or owners at None c.loop-owner-test.true))
          (record { function = c.function_of-function.result.now; is = c.function_of-function.ensures; tells = c.in_ok-own.ensures table fine }));
    }

pub returns-clause-size : goal.returns-clause-size
returns-clause-size c = let most = c.loop-owner.auto.owner-index-end in omega (arith, c.loop-owner.invariant.long, c.loop-owner-test.false, most)

pub returns-clause-tells : goal.returns-clause-tells
returns-clause-tells c = λ table fine.
    let graph = graph_in table c.args.graph.now in
    each_all (λ n o. TellsAt graph c.args.tac.now (slice_get c.args.owners.now n) o) c.loop-owner.names.items c.loop-owner.owner-index c.loop-owner.invariant.long (c.loop-owner.invariant.told table fine)
    (λ n over. subst (λ o. TellsAt graph c.args.tac.now o None) (sym (slice_get_past c.args.owners.now n (omega (arith, over, c.loop-owner-test.false)))) tt)
