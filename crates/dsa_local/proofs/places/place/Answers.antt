use Rattle.std.proofs.Common.{◌<◌, ◌^◌, map, sym, ap, subst, ◌∙◌, arith}
use Rattle.std.proofs.lemmas.Bool.{false≢true}
use Rattle.c_typed.specs.Table.{structs_in, type_in}
use Rattle.tac_ir.specs.States.{InStart}
use Rattle.tac_ir.specs.Views.{tac_of}
use Rattle.heap_graph.specs.Memory.{target_of, element_in}
use Rattle.heap_graph.specs.Targets.{has_target}
use Rattle.graph_unification.specs.Memory.{graph_in}
use Rattle.graph_unification.specs.Fits.{slots_to}
use Rattle.graph_unification.proofs.PathSteps.{place_plain}
use Rattle.graph_unification.proofs.PlaceSteps.{no_node, sum_small, at_missing, at_collapsed, at_type}
use Rattle.dsa_local.specs.Roots.{base_at}
use Rattle.graph_unification.specs.GraphPremises.First.{step_in, path_to}
use Rattle.dsa_local.proofs.RootPaths.{root_typed}
use Rattle.dsa_local.proofs.places.place.Goals as goal

pub returns-in_err-target : goal.returns-in_err-target
returns-in_err-target c =
    let table = c.args.tac.now.types in
    absurd (false≢true (ap has_target (c.in_err-target.ensures table c.requires.graph) ∙ (ap has_target (c.name.ensures (tac_of c.args.tac.now) (graph_in table c.args.graph.now)) ∙ c.requires.there)))

pub returns-then-not-has_member : goal.returns-then-not-has_member
returns-then-not-has_member c =
    let table = c.args.tac.now.types in
    let tac = tac_of c.args.tac.now in
    let graph = graph_in table c.args.graph.now in
    place_plain tac InStart graph (path_to (base_at c.args.root) c.args.parts.now) (target_of c.in_ok-target.target) (sym (c.name.ensures tac graph) ∙ sym (c.in_ok-target.ensures table c.requires.graph)) (sym c.if-not-has_member.ensures)

pub returns-in_err-element : goal.returns-in_err-element
returns-in_err-element c =
    let table = c.args.tac.now.types in
    let tac = tac_of c.args.tac.now in
    let graph = graph_in table c.args.graph.now in
    absurd (no_node tac c.requires.made InStart graph c.requires.graph.sound (path_to (base_at c.args.root) c.args.parts.now) c.requires.fits (root_typed tac graph c.args.root c.args.parts.now)
    (target_of c.in_ok-target.target) (sym (c.name.ensures tac graph) ∙ sym (c.in_ok-target.ensures table c.requires.graph)) (sym c.if-not-has_member.ensures) table (c.in_err-element.ensures.tells table))

pub slots_to-slots-requires : goal.slots_to-slots-requires
slots_to-slots-requires c =
    let table = c.args.tac.now.types in
    let tac = tac_of c.args.tac.now in
    let graph = graph_in table c.args.graph.now in
    record {
      small = subst (λ n. n < 2 ^ 64) (sym (ap (slots_to (structs_in table) (map step_in c.args.parts.now)) (c.c_type.ensures graph)))
          (sum_small tac c.requires.made InStart graph c.requires.graph.sound (path_to (base_at c.args.root) c.args.parts.now) c.requires.fits (root_typed tac graph c.args.root c.args.parts.now)
          (target_of c.in_ok-target.target) (sym (c.name.ensures tac graph) ∙ sym (c.in_ok-target.ensures table c.requires.graph)) (sym c.if-not-has_member.ensures) table);
    }

pub returns-in-Missing : goal.returns-in-Missing
returns-in-Missing c =
    let table = c.args.tac.now.types in
    let tac = tac_of c.args.tac.now in
    let graph = graph_in table c.args.graph.now in
    absurd (at_missing tac c.requires.made InStart graph c.requires.graph.sound (path_to (base_at c.args.root) c.args.parts.now) c.requires.fits (root_typed tac graph c.args.root c.args.parts.now)
    (target_of c.in_ok-target.target) (sym (c.name.ensures tac graph) ∙ sym (c.in_ok-target.ensures table c.requires.graph)) (sym c.if-not-has_member.ensures) table c.in_ok-element.element c.in_ok-element.field-0-1
    (c.in_ok-element.ensures.tells table) (ap (element_in table) c.in-Missing.is))

pub returns-in-OfType : goal.returns-in-OfType
returns-in-OfType c =
    let table = c.args.tac.now.types in
    let tac = tac_of c.args.tac.now in
    let graph = graph_in table c.args.graph.now in
    let slots = c.slots_to-slots.ensures ∙ ap (slots_to (structs_in table) (map step_in c.args.parts.now)) (c.c_type.ensures graph) in
    at_type tac c.requires.made InStart graph c.requires.graph.sound (path_to (base_at c.args.root) c.args.parts.now) c.requires.fits (root_typed tac graph c.args.root c.args.parts.now)
    (target_of c.in_ok-target.target) (sym (c.name.ensures tac graph) ∙ sym (c.in_ok-target.ensures table c.requires.graph)) (sym c.if-not-has_member.ensures) table c.in_ok-element.element c.in_ok-element.field-0-1
    (c.in_ok-element.ensures.tells table) (type_in table c.in-OfType.field-0) (ap (element_in table) c.in-OfType.is)
    c.saturating_add-shift.result (λ small. omega (arith, small, slots, c.saturating_add-shift.ensures))

pub returns-in-Collapsed : goal.returns-in-Collapsed
returns-in-Collapsed c =
    let table = c.args.tac.now.types in
    let tac = tac_of c.args.tac.now in
    let graph = graph_in table c.args.graph.now in
    at_collapsed tac c.requires.made InStart graph c.requires.graph.sound (path_to (base_at c.args.root) c.args.parts.now) c.requires.fits (root_typed tac graph c.args.root c.args.parts.now)
    (target_of c.in_ok-target.target) (sym (c.name.ensures tac graph) ∙ sym (c.in_ok-target.ensures table c.requires.graph)) (sym c.if-not-has_member.ensures) table c.in_ok-element.element c.in_ok-element.field-0-1
    (c.in_ok-element.ensures.tells table) (ap (element_in table) c.in-Collapsed.is)
