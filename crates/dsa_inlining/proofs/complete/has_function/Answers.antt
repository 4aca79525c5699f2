use Rattle.std.proofs.Common.{refl, sym, ◌∙◌, arith}
use Rattle.std.proofs.lemmas.Bool.{false≢true}
use Rattle.std.proofs.lemmas.Option.{slice_get_within}
use Rattle.dsa_inlining.proofs.OwnersListed.{some_owner, none_owner, none_more}
use Rattle.dsa_inlining.proofs.complete.has_function.Goals as goal

pub loop-owner-init : goal.loop-owner-init
loop-owner-init c = λ place less. absurd (omega (arith, less))

pub returns-then-is_some : goal.returns-then-is_some
returns-then-is_some c = (
  λ so. (let found = some_owner c.args.owners.now c.loop-owner.owner-index c.loop-owner-test.true (sym c.is_some.ensures ∙ c.if-is_some.true) in (c.loop-owner.owner-index, found.0, found.1)),
  λ has. refl,
)

pub loop-owner-preserved : goal.loop-owner-preserved
loop-owner-preserved c =
    none_more c.args.owners.now c.loop-owner.owner-index c.loop-owner.invariant (none_owner c.args.owners.now c.loop-owner.owner-index c.loop-owner-test.true (sym c.is_some.ensures ∙ c.if-is_some.false))

pub returns : goal.returns
returns c = (
  λ wrong. absurd (false≢true wrong),
  λ has. (let within = slice_get_within c.args.owners.now has.0 _ has.2 in absurd (c.loop-owner.invariant has.0 (omega (arith, within, c.loop-owner-test.false)) has.1 has.2)),
)
