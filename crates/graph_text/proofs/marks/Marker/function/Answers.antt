use Rattle.std.proofs.Common.{◌≡◌, ◌∙◌, ◌++◌, List, Vec, Global, length, map, ap, subst, arith}
use Rattle.c_syntax.specs.Views.{declarator_tree, block_of}
use Rattle.c_rules.specs.Names.{Scope, LocalName}
use Rattle.c_rules.specs.Programs.{own_parameters, entered_function}
use Rattle.c_types.specs.Parts.{behind_block}
use Rattle.graph_text.specs.declared.marks.Mark.{Mark}
use Rattle.graph_text.specs.declared.marks.Marker.{Marker}
use Rattle.graph_text.specs.Adding.{mark_of, scope_at}
use Rattle.graph_text.specs.Marks.{marks_in_block}
use Rattle.graph_text.specs.ProgramLabels as L
use Rattle.graph_text.proofs.ScopesWithin.{left-function}
use Rattle.graph_text.proofs.marks.Marker.function.Goals as goal

pub enter_body-requires : goal.enter_body-requires
unfolding scope_at
enter_body-requires c = c.requires.outside

pub leave-requires : goal.leave-requires
leave-requires c =
    let none = (c.in_ok-outer.ensures {u = tt}).outer in
    omega arith

pub returns-clause-scope : goal.returns-clause-scope
unfolding scope_at
returns-clause-scope c =
    let scope = scope_at c.args.self.now in
    let parameters = own_parameters (declarator_tree c.args.declarator.now) in
    let body = block_of c.args.body.now.items.items in
    let inside : scope_at (record { pass = c.enter_body.new.pass; marks = c.clear.new.self }) ≡ (entered_function scope parameters).scope = (c.in_ok-outer.ensures {u = tt}).scope in
    let is : scope_at c.block.new.self ≡ behind_block (entered_function scope parameters).scope body = (c.in_ok-block.ensures {u = tt}).scope ∙ (λ i. behind_block (inside i) (block_of (c.as_slice.ensures.value i))) in
    left-function scope (scope_at c.leave.new.self) parameters body c.in_ok-outer.outer c.requires.outside (c.in_ok-outer.ensures {u = tt}).outer
    (subst (λ (there : Scope). (block around : List LocalName) → there.outer ≡ block ++ around → length around ≡ c.in_ok-outer.outer → scope_at c.leave.new.self ≡ record there { inner = block; outer = around }) is c.leave.ensures.scope)

pub returns-clause-labels : goal.returns-clause-labels
unfolding scope_at
returns-clause-labels c =
    let scope = scope_at c.args.self.now in
    let parameters = own_parameters (declarator_tree c.args.declarator.now) in
    let body = block_of c.args.body.now.items.items in
    let begun : Marker = record { pass = c.enter_body.new.pass; marks = c.clear.new.self } in
    let inside : scope_at begun ≡ (entered_function scope parameters).scope = (c.in_ok-outer.ensures {u = tt}).scope in
    let marks : map mark_of c.as_slice-marks.result.now ≡ marks_in_block (entered_function scope parameters).scope body
    = ap (map mark_of) (c.as_slice-marks.ensures.value ∙ ap (λ (marks : Vec Mark Global). marks.items) c.leave.ensures.marks) ∙ (c.in_ok-block.ensures {u = tt}).marks
    ∙ ap (λ items. map mark_of items ++ marks_in_block (scope_at begun) (block_of c.as_slice.result.now)) c.clear.ensures.items
    ∙ (λ i. marks_in_block (inside i) (block_of (c.as_slice.ensures.value i))) in
    let name = (c.in_ok-from_slice.ensures {u = tt}).items ∙ c.as_slice-2.ensures in
    let names = c.in_ok-parameter_names.ensures {u = tt} ∙ ap L.parameter_names c.own_parameters.ensures in
    let locals = c.in_ok-local_names.ensures {u = tt} ∙ ap L.local_names marks in
    let calls = c.in_ok-call_numbers.ensures {u = tt} ∙ ap (L.call_numbers 0) marks in
    let arguments = c.in_ok-argument_numbers.ensures {u = tt} ∙ ap (L.argument_numbers 0) marks in
    λ i. record { name = name i; parameters = names i; variables = locals i; calls = calls i; arguments = arguments i }
