use Rattle.std.proofs.Common.{sym, subst}
use Rattle.c_syntax.specs.Views.{name_tree}
use Rattle.c_typed.specs.Table.{type_in, structs_in, members_of, IsMember}
use Rattle.c_types_expressions.specs.Members.{IsMemberOf}
use Rattle.c_types_expressions.proofs.MemberRules.{missing-finds, untyped-finds, typed-finds}
use Rattle.c_types_expressions.proofs.members.member_of.Goals as goal

pub returns-in_default : goal.returns-in_default
returns-in_default c =
    missing-finds c.args.checker.now c.args.whole (name_tree c.args.member.now) (type_in c.args.checker.now.table c.args.c_type) c.note.new.self c.member.result c.in_default.not-Some (subst (λ bytes. IsMember c.args.checker.now.table (members_of (structs_in c.args.checker.now.table) (type_in c.args.checker.now.table c.args.c_type)) bytes c.member.result) c.as_slice.ensures c.member.ensures) c.note.ensures

pub returns-in_err-found : goal.returns-in_err-found
returns-in_err-found c =
    subst (IsMemberOf c.args.checker.now c.args.checker.now c.args.whole (type_in c.args.checker.now.table c.args.c_type) (name_tree c.args.member.now)) (sym c.from_residual.ensures)
    (untyped-finds c.args.checker.now c.args.whole (name_tree c.args.member.now) (type_in c.args.checker.now.table c.args.c_type) c.member.result c.in-Some.found c.in-Some.is (subst (λ bytes. IsMember c.args.checker.now.table (members_of (structs_in c.args.checker.now.table) (type_in c.args.checker.now.table c.args.c_type)) bytes c.member.result) c.as_slice.ensures c.member.ensures) c.in_err-found.was)

pub returns : goal.returns
returns c =
    typed-finds c.args.checker.now c.args.whole (name_tree c.args.member.now) (type_in c.args.checker.now.table c.args.c_type) c.member.result c.in-Some.found c.in-Some.is (subst (λ bytes. IsMember c.args.checker.now.table (members_of (structs_in c.args.checker.now.table) (type_in c.args.checker.now.table c.args.c_type)) bytes c.member.result) c.as_slice.ensures c.member.ensures) c.in_ok-found.field-0 c.in_ok-found.was
