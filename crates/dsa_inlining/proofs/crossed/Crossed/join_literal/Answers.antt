use Rattle.std.proofs.Common.{◌≡◌, Some, None, option_copied, refl, sym, ap, subst, ◌∙◌}
use Rattle.std.specs.Prelude.{slice_get}
use Rattle.c_typed.specs.DefinitionViews.{literal_of}
use Rattle.c_typed.specs.Table.{type_in}
use Rattle.heap_graph.specs.Graphs.{OfLiteral}
use Rattle.heap_graph.specs.Memory.{target_of}
use Rattle.heap_graph.specs.Targets.{has_target}
use Rattle.heap_graph.specs.Frozen.{bare}
use Rattle.graph_unification.specs.Adding.{AddsMissing}
use Rattle.graph_unification.specs.GraphNames.First.{object_node, static_flags}
use Rattle.graph_unification.proofs.Missing.{missing_has}
use Rattle.graph_unification.proofs.FoundStatics.{got}
use Rattle.graph_unification.proofs.NamedSteps.{on_ok}
use Rattle.graph_unification.proofs.Goes.{missing_goes}
use Rattle.dsa_local.proofs.Found.{literal_slot}
use Rattle.dsa_inlining.proofs.Carried.{copies_kept}
use Rattle.dsa_inlining.specs.Shown.{code_of, shown, callee_of, copies_of}
use Rattle.dsa_inlining.proofs.Joining.{outside_is_copied}
use Rattle.dsa_inlining.proofs.OuterCalls.Adding.{literal_added, added_comes}
use Rattle.dsa_inlining.proofs.Passing.{nothing_given}
use Rattle.dsa_inlining.proofs.Found.{literal_there, literal_is, no_literal}
use Rattle.dsa_inlining.proofs.crossed.Crossed.join_literal.Goals as goal

pub returns-in_default-clause-joins : goal.returns-in_default-clause-joins
returns-in_default-clause-joins c =
    let own = c.args.self in
    nothing_given (code_of own) c.requires.known.code.made (callee_of own) (copies_of own) (OfLiteral c.args.number) (OfLiteral c.args.number) (sym c.in_default.ensures) (shown own c.args.graph.now) c.requires.graph.sound

pub returns-in_default-get-clause-joins : goal.returns-in_default-get-clause-joins
returns-in_default-get-clause-joins c =
    let own = c.args.self in
    let n = c.args.number in
    let none : slice_get own.tac.now.literals.items n ≡ None
    = ap (λ items. slice_get items n) (sym c.deref.ensures.value) ∙ (got c.deref.result.now n c.get.result c.get.ensures.lookup ∙ ap option_copied c.in_default-get.is) in
    absurd (no_literal own.tac.now n none (c.requires.known.callee.literals n (target_of c.in-Some.target) (sym c.in-Some.ensures)))

pub add_literal-requires-clause-slot : goal.add_literal-requires-clause-slot
add_literal-requires-clause-slot c =
    let own = c.args.self in
    let n = c.args.number in
    let there : slice_get own.tac.now.literals.items n ≡ Some c.in-Some-get.definition.now
    = ap (λ items. slice_get items n) (sym c.deref.ensures.value) ∙ (got c.deref.result.now n c.get.result c.get.ensures.lookup ∙ ap option_copied c.in-Some-get.is) in
    literal_slot own.tac.now n c.in-Some-get.definition.now there c.requires.known.literals c.requires.known.code

pub join_image-requires-clause-copied : goal.join_image-requires-clause-copied
join_image-requires-clause-copied c =
    let own = c.args.self in
    let structs = (code_of own).structs in
    let made = c.requires.known.code.made in
    let c_type = type_in own.tac.now.types c.in-Some-get.definition.now.c_type in
    let old = shown own c.args.graph.now in
    let new = shown own c.add_literal.new.graph in
    copies_kept structs made old new (bare own.tac.now.types own.callee.now) (copies_of own) c.requires.graph.sound
    (missing_goes structs made old new (OfLiteral c.args.number) (object_node c_type (static_flags c_type)) c.requires.graph.sound c.in_ok-add_literal.ensures.adds) c.requires.copied

pub join_image-requires-clause-target : goal.join_image-requires-clause-target
join_image-requires-clause-target c =
    let own = c.args.self in
    outside_is_copied (code_of own) own.called (callee_of own) (copies_of own) c.requires.known.callee (OfLiteral c.args.number) (target_of c.in-Some.target) refl (sym c.in-Some.ensures)

pub join_image-requires-clause-named : goal.join_image-requires-clause-named
join_image-requires-clause-named c =
    let own = c.args.self in
    let c_type = type_in own.tac.now.types c.in-Some-get.definition.now.c_type in
    missing_has (shown own c.args.graph.now) (shown own c.add_literal.new.graph) (OfLiteral c.args.number) (object_node c_type (static_flags c_type)) c.in_ok-add_literal.ensures.adds

pub returns-clause-joins : goal.returns-clause-joins
returns-clause-joins c =
    let own = c.args.self in
    let n = c.args.number in
    let tac = code_of own in
    let made = c.requires.known.code.made in
    let one = shown own c.args.graph.now in
    let two = shown own c.add_literal.new.graph in
    let there : slice_get own.tac.now.literals.items n ≡ Some c.in-Some-get.definition.now
    = ap (λ items. slice_get items n) (sym c.deref.ensures.value) ∙ (got c.deref.result.now n c.get.result c.get.ensures.lookup ∙ ap option_copied c.in-Some-get.is) in
    let added = literal_added tac made (callee_of own) one two c.requires.graph.sound n (literal_of c.in-Some-get.definition.now) (literal_there own.tac.now n c.in-Some-get.definition.now there c.requires.known.literals)
    (ap has_target (sym c.in-Some.ensures))
    (subst (λ t. AddsMissing one two (OfLiteral n) (object_node t (static_flags t))) (literal_is own.tac.now n c.in-Some-get.definition.now there c.requires.known.literals) c.in_ok-add_literal.ensures.adds) in
    on_ok c.join_image.result c.join_image.ensures.joins
    (λ then. added_comes tac made (callee_of own) (copies_of own) (OfLiteral n) (OfLiteral n) one two (shown own c.join_image.new.graph) c.requires.graph.sound c.in_ok-add_literal.ensures.graph.sound
    (target_of c.in-Some.target) (sym c.in-Some.ensures) added then)
