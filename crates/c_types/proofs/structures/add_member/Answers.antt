use Rattle.std.proofs.Common.{Some, not, refl, sym, ap, subst, ◌∙◌}
use Rattle.c_syntax.specs.Views.{name_tree}
use Rattle.c_typed.specs.Names.{contains}
use Rattle.c_types_state.specs.NameTables.{State}
use Rattle.c_types_state.specs.Checkers.{names_of}
use Rattle.c_types_expressions.proofs.ParameterNames.{contains_names, names-added}
use Rattle.c_types.specs.declared.structures.Members.{Members}
use Rattle.c_types.specs.Outside.{defs_in, AreHeld}
use Rattle.c_types.proofs.DeclaredMembers.{clash-noted, held-more}
use Rattle.c_types.proofs.structures.add_member.Goals as goal

pub returns-clause-covers : goal.returns-clause-covers
returns-clause-covers c =
    let s = c.args.pass.now in
    let name = name_tree c.args.name.now in
    let members = c.args.members.now in
    let keys = members.names.keys in
    let same = c.in_ok-from_slice.ensures.items ∙ c.as_slice-bytes.ensures in
    clash-noted {s = s} {t = record s { checker = c.require.new.self }} (defs_in s.checker.table members) name c.in_ok-is_new.is_new
    (c.in_ok-is_new.ensures.added ∙ ap not (contains_names c.in_ok-from_slice.field-0.items keys ∙ ap (contains (names_of keys)) same ∙ c.requires.held.names name.bytes))
    c.require.ensures.noted refl

pub returns-clause-held : goal.returns-clause-held
returns-clause-held c =
    let s = c.args.pass.now in
    let name = name_tree c.args.name.now in
    let old = c.args.members.now in
    let new : Members = record { names = c.insert.new.self; members = c.push.new.self } in
    let same = c.in_ok-from_slice.ensures.items ∙ c.as_slice-bytes.ensures in
    subst (λ (state : State). AreHeld state.table new) (sym c.require.ensures.noted)
    (held-more s.checker.table old new name (record { name = c.in_ok-from_slice-2.field-0; c_type = c.args.c_type }) (c.in_ok-from_slice-2.ensures.items ∙ c.as_slice-bytes.ensures) c.in_ok-push.ensures.items c.requires.held c.requires.c_type
    (names-added old.names.keys c.insert.new.self.keys c.in_ok-from_slice.field-0 (Some name) name refl same c.in_ok-is_new.ensures.keys))
