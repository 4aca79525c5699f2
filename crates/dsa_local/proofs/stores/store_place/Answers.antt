use Rattle.std.proofs.Common.{sym, subst, ◌∙◌}
use Rattle.std.proofs.lemmas.Option.{none-some, same_Some}
use Rattle.tac_ir.specs.Views.{tac_of}
use Rattle.graph_unification.specs.Memory.{graph_in}
use Rattle.graph_unification.specs.GraphPremises.First.{IsWithin}
use Rattle.dsa_local.specs.Roots.{base_at}
use Rattle.dsa_local.specs.Storing.{place_in}
use Rattle.dsa_local.proofs.Storing.{points_told, value_points}
use Rattle.dsa_local.proofs.stores.store_place.Goals as goal

pub store_pointer-requires-clause-parts : goal.store_pointer-requires-clause-parts
store_pointer-requires-clause-parts c =
    let tac = tac_of c.args.tac.now in
    let stands = c.requires.stands in
    subst (λ base. IsWithin tac base c.args.parts.now) (same_Some stands.base (base_at c.in-Some.target) (sym stands.is ∙ sym (c.in-Some.ensures c.args.tac.now c.requires.numbers))) stands.within

pub returns-in_ok-store_pointer-in-Some-clause-stored : goal.returns-in_ok-store_pointer-in-Some-clause-stored
returns-in_ok-store_pointer-in-Some-clause-stored c =
    let tac = c.args.tac.now in
    points_told (tac_of tac) (graph_in tac.types c.store_pointer.new.graph) c.args.global.0 c.args.leaf.now (place_in c.args.root.now c.args.parts.now c.args.index) (base_at c.in-Some.target)
    (sym (c.in-Some.ensures tac c.requires.numbers)) c.in_ok-store_pointer-in-Some.ensures.points

pub returns-in-None-clause-keeps : goal.returns-in-None-clause-keeps
returns-in-None-clause-keeps c = let stands = c.requires.stands in absurd (none-some stands.base (c.in-None.ensures c.args.tac.now c.requires.numbers ∙ stands.is))

pub returns-in-None-clause-stored : goal.returns-in-None-clause-stored
returns-in-None-clause-stored c = let stands = c.requires.stands in absurd (none-some stands.base (c.in-None.ensures c.args.tac.now c.requires.numbers ∙ stands.is))

pub store_pointer-requires-clause-asked : goal.store_pointer-requires-clause-asked
store_pointer-requires-clause-asked c = λ other told.
    value_points (tac_of c.args.tac.now) other c.args.global.0 c.args.leaf.now (place_in c.args.root.now c.args.parts.now c.args.index) (base_at c.in-Some.target)
    (sym (c.in-Some.ensures c.args.tac.now c.requires.numbers)) (c.requires.asked other told)
