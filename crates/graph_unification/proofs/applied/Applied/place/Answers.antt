use Rattle.std.proofs.Common.{◌<◌, ◌^◌, map, sym, ap, subst, ◌∙◌, arith}
use Rattle.std.specs.List.{list_any}
use Rattle.std.proofs.lemmas.Bool.{false≢true}
use Rattle.c_typed.specs.Table.{structs_in, type_in}
use Rattle.tac_ir.specs.Views.{step_of, path_in}
use Rattle.heap_graph.specs.Memory.{target_of, element_in}
use Rattle.heap_graph.specs.Targets.{has_target}
use Rattle.heap_graph.specs.Points.{is_member}
use Rattle.graph_unification.specs.Fits.{slots_to}
use Rattle.graph_unification.specs.Applying.{code_of, owner_of, shown}
use Rattle.graph_unification.proofs.PathSteps.{place_plain}
use Rattle.graph_unification.proofs.PlaceSteps.{no_node, sum_small, at_missing, at_collapsed, at_type}
use Rattle.graph_unification.proofs.applied.Applied.place.Goals as goal

pub returns-in_err-target : goal.returns-in_err-target
returns-in_err-target c =
    let own = c.args.self in
    absurd (false≢true (ap has_target (c.in_err-target.ensures own.tac.now.types c.requires.graph) ∙ ap has_target (c.base_name.ensures (shown own c.args.graph.now)) ∙ c.requires.base))

pub returns-then-not-has_member : goal.returns-then-not-has_member
returns-then-not-has_member c =
    let own = c.args.self in
    let table = own.tac.now.types in
    let graph = shown own c.args.graph.now in
    let path = path_in table c.args.path.now in
    place_plain (code_of own) (owner_of own) graph path (target_of c.in_ok-target.target) (sym (c.base_name.ensures graph) ∙ sym (c.in_ok-target.ensures table c.requires.graph))
    (ap (λ s. list_any is_member (map step_of s)) (sym c.as_slice-steps.ensures.value) ∙ sym c.if-not-has_member.ensures)

pub returns-in_err-element : goal.returns-in_err-element
returns-in_err-element c =
    let own = c.args.self in
    let table = own.tac.now.types in
    let graph = shown own c.args.graph.now in
    let path = path_in table c.args.path.now in
    absurd (no_node (code_of own) c.requires.known.made (owner_of own) graph c.requires.graph.sound path c.requires.fits c.requires.typed (target_of c.in_ok-target.target)
    (sym (c.base_name.ensures graph) ∙ sym (c.in_ok-target.ensures table c.requires.graph)) (ap (λ s. list_any is_member (map step_of s)) (sym c.as_slice-steps.ensures.value) ∙ sym c.if-not-has_member.ensures)
    table (c.in_err-element.ensures.tells table))

pub slots_to-slots-requires : goal.slots_to-slots-requires
slots_to-slots-requires c =
    let own = c.args.self in
    let table = own.tac.now.types in
    let structs = structs_in table in
    let graph = shown own c.args.graph.now in
    let path = path_in table c.args.path.now in
    record {
      small = subst (λ n. n < 2 ^ 64)
          (sym (ap (λ s. slots_to structs (map step_of s) (type_in table c.base_type.result)) c.as_slice-steps.ensures.value ∙ ap (slots_to structs path.steps) (c.base_type.ensures graph)))
          (sum_small (code_of own) c.requires.known.made (owner_of own) graph c.requires.graph.sound path c.requires.fits c.requires.typed (target_of c.in_ok-target.target)
          (sym (c.base_name.ensures graph) ∙ sym (c.in_ok-target.ensures table c.requires.graph))
          (ap (λ s. list_any is_member (map step_of s)) (sym c.as_slice-steps.ensures.value) ∙ sym c.if-not-has_member.ensures) table);
    }

pub returns-in-Missing : goal.returns-in-Missing
returns-in-Missing c =
    let own = c.args.self in
    let table = own.tac.now.types in
    let graph = shown own c.args.graph.now in
    let path = path_in table c.args.path.now in
    absurd (at_missing (code_of own) c.requires.known.made (owner_of own) graph c.requires.graph.sound path c.requires.fits c.requires.typed (target_of c.in_ok-target.target)
    (sym (c.base_name.ensures graph) ∙ sym (c.in_ok-target.ensures table c.requires.graph)) (ap (λ s. list_any is_member (map step_of s)) (sym c.as_slice-steps.ensures.value) ∙ sym c.if-not-has_member.ensures)
    table c.in_ok-element.element c.in_ok-element.field-0-1 (c.in_ok-element.ensures.tells table) (ap (element_in table) c.in-Missing.is))

pub returns-in-OfType : goal.returns-in-OfType
returns-in-OfType c =
    let own = c.args.self in
    let table = own.tac.now.types in
    let structs = structs_in table in
    let graph = shown own c.args.graph.now in
    let path = path_in table c.args.path.now in
    let slots = c.slots_to-slots.ensures ∙ ap (λ s. slots_to structs (map step_of s) (type_in table c.base_type.result)) c.as_slice-steps.ensures.value ∙ ap (slots_to structs path.steps) (c.base_type.ensures graph) in
    at_type (code_of own) c.requires.known.made (owner_of own) graph c.requires.graph.sound path c.requires.fits c.requires.typed (target_of c.in_ok-target.target)
    (sym (c.base_name.ensures graph) ∙ sym (c.in_ok-target.ensures table c.requires.graph)) (ap (λ s. list_any is_member (map step_of s)) (sym c.as_slice-steps.ensures.value) ∙ sym c.if-not-has_member.ensures)
    table c.in_ok-element.element c.in_ok-element.field-0-1 (c.in_ok-element.ensures.tells table) (type_in table c.in-OfType.field-0) (ap (element_in table) c.in-OfType.is)
    c.saturating_add-shift.result (λ small. omega (arith, small, slots, c.saturating_add-shift.ensures))

pub returns-in-Collapsed : goal.returns-in-Collapsed
returns-in-Collapsed c =
    let own = c.args.self in
    let table = own.tac.now.types in
    let graph = shown own c.args.graph.now in
    let path = path_in table c.args.path.now in
    at_collapsed (code_of own) c.requires.known.made (owner_of own) graph c.requires.graph.sound path c.requires.fits c.requires.typed (target_of c.in_ok-target.target)
    (sym (c.base_name.ensures graph) ∙ sym (c.in_ok-target.ensures table c.requires.graph)) (ap (λ s. list_any is_member (map step_of s)) (sym c.as_slice-steps.ensures.value) ∙ sym c.if-not-has_member.ensures)
    table c.in_ok-element.element c.in_ok-element.field-0-1 (c.in_ok-element.ensures.tells table) (ap (element_in table) c.in-Collapsed.is)
