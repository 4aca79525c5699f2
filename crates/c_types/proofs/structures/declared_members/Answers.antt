use Rattle.std.proofs.Common.{option_map, Bor, map, drop, ◌+◌, refl, sym, ap, subst, ◌∙◌}
use Rattle.c_syntax.specs.declared.name.Name.{Name}
use Rattle.c_syntax.specs.Views.{name_tree, declarator_tree}
use Rattle.c_typed.specs.Table.{type_in}
use Rattle.c_typed.proofs.Grown.{grows_refl, grows_trans}
use Rattle.c_rules.specs.Expressions.{Required, declared_type, name_place}
use Rattle.c_types_state.specs.Finding.{IsType, each_in}
use Rattle.c_types_state.specs.NameTables.{scope_of}
use Rattle.c_types_expressions.specs.declared.pass.Pass.{Pass}
use Rattle.c_rules.specs.Named.{named_in_declarator}
use Rattle.c_types_expressions.specs.Passes.{Passes}
use Rattle.c_types.specs.declared.structures.Members.{Members}
use Rattle.c_types.specs.Outside.{defs_in}
use Rattle.c_types.proofs.VariableNumbers.{option-none}
use Rattle.c_types.proofs.DeclaredMembers.{trees-next, trees-end, base-stays, held-stays, own-covers, Steps, steps-named, steps-unnamed, declared-start, declared-more, declared-end}
use Rattle.c_types.proofs.structures.declared_members.Goals.{in-Some+in_ok-add_member, in_default}
use Rattle.c_types.proofs.structures.declared_members.Goals as goal

pub loop-declarator-init : goal.loop-declarator-init
loop-declarator-init c =
    let s = c.args.pass.now in
    record {
      scope = refl;
      grows = grows_refl s.checker.table;
      held = c.requires.held;
      declared = declared-start s c.args.tree.now.simple.place (each_in type_in s.checker.table c.args.base) (map declarator_tree c.args.tree.now.declarators.items) (defs_in s.checker.table c.args.members.now);
    }

pub declared_type-requires : goal.declared_type-requires
declared_type-requires c = (base-stays c.args.pass.now.checker.table c.loop-declarator.pass.checker.table c.loop-declarator.invariant.grows c.args.base c.requires.base).0

pub add_member-requires-clause-held : goal.add_member-requires-clause-held
add_member-requires-clause-held c =
    let s = c.args.pass.now in
    let now = c.loop-declarator.pass in
    let so_far = c.loop-declarator.invariant in
    let declarator = declarator_tree c.declarator-item.result in
    let place = c.args.tree.now.simple.place in
    let kept = base-stays s.checker.table now.checker.table so_far.grows c.args.base c.requires.base in
    let own = own-covers {now = now} {p = c.declared_type.new.pass} {q = c.name_type.new.self} {u = c.as_object-own.new.checker} (scope_of s.checker) place c.name_place-here.result (each_in type_in s.checker.table c.args.base) declarator so_far.scope
    (c.name_place-here.ensures ∙ ap (λ name. name_place name place) c.declared_name-name.ensures)
    (subst (λ base. Passes IsType (declared_type (scope_of now.checker) c.name_place-here.result Required base declarator) (named_in_declarator (scope_of now.checker) declarator) now c.declared_type.new.pass c.in_ok-declared.declared) kept.1 c.in_ok-declared.ensures)
    c.as_object-own.ensures c.in_ok-name_type.ensures.checker c.in_ok-name_type.ensures.names in
    held-stays now.checker.table c.name_type.new.self.checker.table own.0.grows c.loop-declarator.members so_far.held

pub loop-declarator-preserved : goal.loop-declarator-preserved
loop-declarator-preserved c =
    let s = c.args.pass.now in
    let scope = scope_of s.checker in
    let now = c.loop-declarator.pass in
    let q = c.name_type.new.self in
    let before = c.loop-declarator.members in
    let next = c.match-name.pass in
    let after = c.match-name.members in
    let so_far = c.loop-declarator.invariant in
    let items = c.args.tree.now.declarators.items in
    let index = c.loop-declarator.declarator-index in
    let declarator = declarator_tree c.declarator-item.result in
    let place = c.args.tree.now.simple.place in
    let base = each_in type_in s.checker.table c.args.base in
    let view = λ (name : Bor Name). name_tree name.now in
    let kept = base-stays s.checker.table now.checker.table so_far.grows c.args.base c.requires.base in
    let own = own-covers {now = now} {p = c.declared_type.new.pass} {q = q} {u = c.as_object-own.new.checker} scope place c.name_place-here.result base declarator so_far.scope
    (c.name_place-here.ensures ∙ ap (λ name. name_place name place) c.declared_name-name.ensures)
    (subst (λ base. Passes IsType (declared_type (scope_of now.checker) c.name_place-here.result Required base declarator) (named_in_declarator (scope_of now.checker) declarator) now c.declared_type.new.pass c.in_ok-declared.declared) kept.1 c.in_ok-declared.ensures)
    c.as_object-own.ensures c.in_ok-name_type.ensures.checker c.in_ok-name_type.ensures.names in
    let step : Steps scope place base declarator now before next after = elim c.match-name.branch [
      | in-Some+in_ok-add_member w ↦ subst (λ (p : Pass). Steps scope place base declarator now before p after) (sym w.pass-is)
          (subst (λ (m : Members). Steps scope place base declarator now before w.add_member.new.pass m) (sym w.members-is)
          (steps-named scope place base declarator now q before so_far.held c.as_object-own.result own.0 own.1 w.add_member.new.pass w.add_member.new.members (name_tree w.in-Some.name.now)
          (ap (option_map view) (sym w.in-Some.is) ∙ c.declared_name-name.ensures) w.in_ok-add_member.ensures.covers w.in_ok-add_member.ensures.held w.in_ok-add_member.ensures.members))
      | in_default w ↦ subst (λ (p : Pass). Steps scope place base declarator now before p after) (sym w.pass-is)
          (subst (λ (m : Members). Steps scope place base declarator now before q m) (sym w.members-is)
          (steps-unnamed scope place base declarator now q before so_far.held c.as_object-own.result own.0 own.1
          (ap (option_map view) (sym (option-none c.declared_name-name.result w.in_default.not-Some)) ∙ c.declared_name-name.ensures)))
    ] in
    record {
      scope = step.covers.scope;
      grows = grows_trans s.checker.table now.checker.table next.checker.table so_far.grows step.covers.grows;
      held = step.held;
      declared = declared-more s place base (map declarator_tree items) (defs_in s.checker.table c.args.members.now) (map declarator_tree (drop index items)) (map declarator_tree (drop (index + 1) items)) (defs_in now.checker.table before) (defs_in next.checker.table after) now next declarator
          (trees-next declarator_tree items c.as_slice-declarator-items.result.now c.as_slice-declarator-items.ensures.value index c.declarator-item.result c.loop-declarator-test.true c.declarator-item.is)
          step.covers step.members so_far.declared;
    }

pub returns-clause-covers : goal.returns-clause-covers
returns-clause-covers c =
    let s = c.args.pass.now in
    let now = c.loop-declarator.pass in
    let items = c.args.tree.now.declarators.items in
    let index = c.loop-declarator.declarator-index in
    (declared-end s c.args.tree.now.simple.place (each_in type_in s.checker.table c.args.base) (map declarator_tree items) (defs_in s.checker.table c.args.members.now) (map declarator_tree (drop index items)) (defs_in now.checker.table c.loop-declarator.members) now
    (trees-end declarator_tree items c.as_slice-declarator-items.result.now c.as_slice-declarator-items.ensures.value index c.loop-declarator-test.false) c.loop-declarator.invariant.scope c.loop-declarator.invariant.declared).0
