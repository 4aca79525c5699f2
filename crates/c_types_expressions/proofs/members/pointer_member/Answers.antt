use Rattle.c_syntax.specs.Views.{name_tree}
use Rattle.c_types_expressions.proofs.PointedMembers.{pointer-missing, pointer-found}
use Rattle.c_types_expressions.proofs.members.pointer_member.Goals as goal

pub returns-in_default : goal.returns-in_default
returns-in_default c =
    pointer-missing c.args.checker.now c.require.new.self c.member_of.new.checker c.args.whole (name_tree c.args.member.now) c.args.pointer c.target_of-target.result c.member_of.result
    c.is_pointer_to_complete-is_complete.result c.require.result c.is_pointer_to_complete-is_complete.ensures c.require.ensures.result c.require.ensures.noted c.if-not-require.false c.target_of-target.ensures.target c.member_of.ensures
    c.in_default.not-Some

pub returns : goal.returns
returns c =
    pointer-found c.args.checker.now c.require.new.self c.member_of.new.checker c.args.whole (name_tree c.args.member.now) c.args.pointer c.target_of-target.result c.member_of.result
    c.is_pointer_to_complete-is_complete.result c.require.result c.is_pointer_to_complete-is_complete.ensures c.require.ensures.result c.require.ensures.noted c.if-not-require.false c.target_of-target.ensures.target c.member_of.ensures
    c.in-Some.found c.in_ok-object.object.value c.in_ok-address.address c.object_at.result c.in-Some.is c.in_ok-object.ensures.ok c.requires c.in_ok-address.ensures.stands c.in_ok-address.ensures.member c.object_at.ensures
