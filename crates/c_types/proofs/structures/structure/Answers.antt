use Rattle.std.proofs.Common.{not, Some, [], ◌++◌, map, sym, ap, subst, ◌∙◌}
use Rattle.c_syntax.specs.Views.{name_tree, member_tree}
use Rattle.c_typed.specs.Types as T
use Rattle.c_typed.specs.Table.{member_entries}
use Rattle.c_rules.specs.declared.rule.TypeRule.TheVariants as Rule
use Rattle.c_rules.specs.Known.{give, unless}
use Rattle.c_types_state.specs.Finding.{Finds, IsType}
use Rattle.c_types_state.specs.NameTables.{scope_of}
use Rattle.c_rules.specs.Programs as programs
use Rattle.c_types_expressions.specs.declared.pass.Pass.{Pass}
use Rattle.c_rules.specs.Named.{named_at}
use Rattle.c_rules.specs.NamedItems.{named_in_all_members}
use Rattle.c_types.proofs.Completions.{is_again, covers-struct, struct-stays, members-same, not-again, is-before, still-open, Completes, reaches-completed, reaches-before, is-a-struct, reaches-named}
use Rattle.c_types.proofs.structures.structure.Goals.{in-Struct-true+in_ok-complete, in_default, in_default-via-in-Struct+else-is_open, in_default-via-in_default}
use Rattle.c_types.proofs.structures.structure.Goals as goal

pub shape-requires : goal.shape-requires
shape-requires c =
    let s = c.args.pass.now in
    let t = c.struct_type.new.self in
    let u = c.require.new.self in
    let name = name_tree c.args.name.now in
    let made = c.in_ok-c_type.c_type in
    let fresh = not c.is_complete-is_open.result in
    let is_fresh = ap not c.is_complete-is_open.ensures in
    let trees = map member_tree c.args.members.now in
    let found = subst (λ bytes. Finds IsType (give (T.Struct bytes)) s.checker t (Some made)) c.as_slice.ensures c.in_ok-c_type.ensures.made in
    (struct-stays s {t = t} {u = u} name made fresh found is_fresh c.require.ensures.noted {p = c.all_members.new.pass} trees c.in_ok-members.ensures.covers).0

pub complete-requires-clause-open_until_now : goal.complete-requires-clause-open_until_now
complete-requires-clause-open_until_now c =
    let s = c.args.pass.now in
    let t = c.struct_type.new.self in
    let u = c.require.new.self in
    let name = name_tree c.args.name.now in
    let made = c.in_ok-c_type.c_type in
    let fresh = not c.is_complete-is_open.result in
    let is_fresh = ap not c.is_complete-is_open.ensures in
    let trees = map member_tree c.args.members.now in
    let found = subst (λ bytes. Finds IsType (give (T.Struct bytes)) s.checker t (Some made)) c.as_slice.ensures c.in_ok-c_type.ensures.made in
    still-open s {t = t} {u = u} name made fresh found is_fresh c.require.ensures.noted {p = c.all_members.new.pass} trees c.in_ok-members.ensures.covers c.in-Struct-true.id c.in-Struct-true.ensures c.in-Struct-true.ensures'

pub name_type-requires : goal.name_type-requires
name_type-requires c =
    let s = c.args.pass.now in
    let t = c.struct_type.new.self in
    let u = c.require.new.self in
    let name = name_tree c.args.name.now in
    let made = c.in_ok-c_type.c_type in
    let fresh = not c.is_complete-is_open.result in
    let is_fresh = ap not c.is_complete-is_open.ensures in
    let trees = map member_tree c.args.members.now in
    let found = subst (λ bytes. Finds IsType (give (T.Struct bytes)) s.checker t (Some made)) c.as_slice.ensures c.in_ok-c_type.ensures.made in
    let scope = scope_of s.checker in
    let all = programs.all_members scope trees [] in
    let violations = unless (not (is_again scope name.bytes)) Rule.T04 name.place ++ all.found in
    let named = named_in_all_members scope trees in
    let there = programs.with_struct name.bytes all.members scope in
    let covers = covers-struct s {t = t} {u = u} name made fresh found is_fresh c.require.ensures.noted {p = c.all_members.new.pass} trees c.in_ok-members.ensures.covers in
    let struct_there = struct-stays s {t = t} {u = u} name made fresh found is_fresh c.require.ensures.noted {p = c.all_members.new.pass} trees c.in_ok-members.ensures.covers in
    let completed : Completes violations named there made name.bytes s c.match-shape.pass = elim c.match-shape.branch [
      | in-Struct-true+in_ok-complete w ↦ subst (λ (now : Pass). Completes violations named there made name.bytes s now) (sym w.pass-is)
          (reaches-completed scope name.bytes made all.members covers struct_there {v = w.complete.new.self} w.in-Struct-true.id (member_entries c.in_ok-members.members.items) w.in-Struct-true.ensures
          (not-again s {t = t} {u = u} name made fresh found is_fresh c.require.ensures.noted {p = c.all_members.new.pass} trees c.in_ok-members.ensures.covers w.in-Struct-true.ensures')
          (members-same s {t = t} {u = u} name made fresh found is_fresh c.require.ensures.noted {p = c.all_members.new.pass} trees c.in_ok-members.ensures.covers _ c.in_ok-members.ensures.made.1) w.in_ok-complete.ensures.done)
      | in_default w ↦ subst (λ (now : Pass). Completes violations named there made name.bytes s now) (sym w.pass-is)
          (elim w.in_default.branch [
            | in_default-via-in-Struct+else-is_open w' ↦
                reaches-before scope name.bytes made all.members covers struct_there (is-before s {t = t} {u = u} name made fresh found is_fresh c.require.ensures.noted {p = c.all_members.new.pass} trees c.in_ok-members.ensures.covers (ap not (sym c.is_complete-is_open.ensures) ∙ assumption tt))
            | in_default-via-in_default w' ↦ absurd (is-a-struct scope name.bytes made all.members covers struct_there c.shape.result c.shape.ensures w'.in_default.not-Struct-0)
          ])
    ] in
    completed.is.0

-- what was reached, with the type that is named
reached : (c : goal.Joined-drop-2) → let scope = scope_of c.args.pass.now.checker in let name = name_tree c.args.name.now in let all = programs.all_members scope (map member_tree c.args.members.now) [] in
    Completes ((unless (not (is_again scope name.bytes)) Rule.T04 name.place ++ all.found) ++ []) (named_in_all_members scope (map member_tree c.args.members.now) ++ named_at name.place (Some (T.Struct name.bytes))) (programs.with_struct name.bytes all.members scope) c.in_ok-c_type.c_type name.bytes c.args.pass.now c.name_type.new.self
reached c =
    let s = c.args.pass.now in
    let t = c.struct_type.new.self in
    let u = c.require.new.self in
    let name = name_tree c.args.name.now in
    let made = c.in_ok-c_type.c_type in
    let fresh = not c.is_complete-is_open.result in
    let is_fresh = ap not c.is_complete-is_open.ensures in
    let trees = map member_tree c.args.members.now in
    let found = subst (λ bytes. Finds IsType (give (T.Struct bytes)) s.checker t (Some made)) c.as_slice.ensures c.in_ok-c_type.ensures.made in
    let scope = scope_of s.checker in
    let all = programs.all_members scope trees [] in
    let violations = unless (not (is_again scope name.bytes)) Rule.T04 name.place ++ all.found in
    let named = named_in_all_members scope trees in
    let there = programs.with_struct name.bytes all.members scope in
    let covers = covers-struct s {t = t} {u = u} name made fresh found is_fresh c.require.ensures.noted {p = c.all_members.new.pass} trees c.in_ok-members.ensures.covers in
    let struct_there = struct-stays s {t = t} {u = u} name made fresh found is_fresh c.require.ensures.noted {p = c.all_members.new.pass} trees c.in_ok-members.ensures.covers in
    let completed : Completes violations named there made name.bytes s c.match-shape.pass = elim c.match-shape.branch [
      | in-Struct-true+in_ok-complete w ↦ subst (λ (now : Pass). Completes violations named there made name.bytes s now) (sym w.pass-is)
          (reaches-completed scope name.bytes made all.members covers struct_there {v = w.complete.new.self} w.in-Struct-true.id (member_entries c.in_ok-members.members.items) w.in-Struct-true.ensures
          (not-again s {t = t} {u = u} name made fresh found is_fresh c.require.ensures.noted {p = c.all_members.new.pass} trees c.in_ok-members.ensures.covers w.in-Struct-true.ensures')
          (members-same s {t = t} {u = u} name made fresh found is_fresh c.require.ensures.noted {p = c.all_members.new.pass} trees c.in_ok-members.ensures.covers _ c.in_ok-members.ensures.made.1) w.in_ok-complete.ensures.done)
      | in_default w ↦ subst (λ (now : Pass). Completes violations named there made name.bytes s now) (sym w.pass-is)
          (elim w.in_default.branch [
            | in_default-via-in-Struct+else-is_open w' ↦
                reaches-before scope name.bytes made all.members covers struct_there (is-before s {t = t} {u = u} name made fresh found is_fresh c.require.ensures.noted {p = c.all_members.new.pass} trees c.in_ok-members.ensures.covers (ap not (sym c.is_complete-is_open.ensures) ∙ assumption tt))
            | in_default-via-in_default w' ↦ absurd (is-a-struct scope name.bytes made all.members covers struct_there c.shape.result c.shape.ensures w'.in_default.not-Struct-0)
          ])
    ] in
    reaches-named name.place name.bytes made completed c.in_ok-name_type.ensures.checker c.in_ok-name_type.ensures.names

pub returns-clause-reaches : goal.returns-clause-reaches
returns-clause-reaches c place = (reached c).reaches

pub returns-clause-made : goal.returns-clause-made
returns-clause-made c = (reached c).is
