use Rattle.std.proofs.Common.{sym, ap, ◌∙◌}
use Rattle.c_typed.specs.Table.{structs_in}
use Rattle.c_typed.specs.Expressions.{member_of}
use Rattle.dsa_bottom_up.specs.ExpressionTypes.{type_or_void}
use Rattle.dsa_bottom_up.proofs.Shapes.{void_in, no_member, member_none, member_known}
use Rattle.dsa_bottom_up.proofs.types.member.Goals as goal

pub returns-in_default : goal.returns-in_default
returns-in_default c =
    let table = c.args.types.now in
    void_in table ∙ sym (ap (λ t. type_or_void (member_of (structs_in table) c.args.number t)) c.shape_of.ensures.means ∙ no_member table c.args.number c.shape_of.result c.in_default.not-Struct)

pub returns-in-None : goal.returns-in-None
returns-in-None c =
    let table = c.args.types.now in
    void_in table ∙ sym (ap (λ t. type_or_void (member_of (structs_in table) c.args.number t)) (c.in-Struct.ensures {u = tt}).means ∙ member_none table _ (c.in-None.ensures {u = tt}))

pub returns-in-Some : goal.returns-in-Some
returns-in-Some c =
    let table = c.args.types.now in
    member_known table _ c.in-Some.c_type c.unwrap_or.result (c.in-Some.ensures {u = tt}) c.unwrap_or.ensures
    ∙ sym (ap (λ t. type_or_void (member_of (structs_in table) c.args.number t)) (c.in-Struct.ensures {u = tt}).means)
