use Rattle.std.proofs.Common.{◌+◌, drop, ap, sym, subst, refl, arith, ◌∙◌}
use Rattle.std.proofs.lemmas.List.{drop_more, drop_all}
use Rattle.c_typed.specs.declared.part.Part.TheVariants as Parts
use Rattle.c_typed.specs.Table.{structs_in}
use Rattle.ref_semantics.specs.First.{walked}
use Rattle.ref_meaning.specs.Fitting.{with_structs}
use Rattle.ref_meaning.specs.RefStore.Views.{place_in}
use Rattle.ref_meaning.specs.Firsts.{StepsLead}
use Rattle.ref_meaning.proofs.Fitting.{at_stands}
use Rattle.ref_meaning.proofs.store.Store.walked.Goals as goal

pub stepped-reached-requires-clause-below : goal.stepped-reached-requires-clause-below
stepped-reached-requires-clause-below c =
    let table = c.args.self.now.types.now in
    let parts = c.args.parts.now in
    let n = c.loop-part.part-index in
    let around = with_structs (structs_in table) in
    (subst (λ l. StepsLead around (place_in table c.loop-part.reached) l c.args.index) (drop_more parts n (Parts.Member 0 0) c.loop-part-test.true) (c.loop-part.invariant.leads around refl)).0

pub loop-part-preserved : goal.loop-part-preserved
loop-part-preserved c =
    let table = c.args.self.now.types.now in
    let parts = c.args.parts.now in
    let n = c.loop-part.part-index in
    record {
      stands = c.stepped-reached.ensures.stands;
      found = λ around structs.
          c.loop-part.invariant.found around structs
          ∙ (ap (λ l. walked around (place_in table c.loop-part.reached) l c.args.index) (drop_more parts n (Parts.Member 0 0) c.loop-part-test.true)
          ∙ ap (λ place. walked around place (drop (n + 1) parts) c.args.index) (sym (c.stepped-reached.ensures.found around structs)));
      leads = λ around structs.
          subst (λ place. StepsLead around place (drop (n + 1) parts) c.args.index) (sym (c.stepped-reached.ensures.found around structs))
          (subst (λ l. StepsLead around (place_in table c.loop-part.reached) l c.args.index) (drop_more parts n (Parts.Member 0 0) c.loop-part-test.true) (c.loop-part.invariant.leads around structs)).1;
    }

pub returns-clause-stands : goal.returns-clause-stands
returns-clause-stands c =
    let table = c.args.self.now.types.now in
    let parts = c.args.parts.now in
    let around = with_structs (structs_in table) in
    at_stands table c.loop-part.reached c.args.index c.loop-part.invariant.stands
    (subst (λ l. StepsLead around (place_in table c.loop-part.reached) l c.args.index) (drop_all c.loop-part.part-index parts (omega (arith, c.loop-part-test.false))) (c.loop-part.invariant.leads around refl))
