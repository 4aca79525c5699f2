use Rattle.std.proofs.Common.{sym, ◌∙◌}
use Rattle.graph_checker.specs.Programs.{family_of}
use Rattle.graph_checker.proofs.TargetsAsked.{not_one, one_judged}
use Rattle.graph_checker.proofs.program.Program.share.Goals as goal

pub returns-then-is_same_group : goal.returns-then-is_same_group
returns-then-is_same_group c =
    one_judged c.args.self.tac.now.types (family_of c.args.self) c.args.a.0 c.args.b.0 c.member-one.result c.member-other.result c.member-one.ensures.member c.member-other.ensures.member
    (sym c.is_same_group.ensures ∙ c.if-is_same_group.true) c.share_names.result c.share_names.ensures

pub returns-else-is_same_group : goal.returns-else-is_same_group
returns-else-is_same_group c =
    not_one c.args.self.tac.now.types (family_of c.args.self) c.args.a.0 c.args.b.0 c.member-one.result c.member-other.result c.member-one.ensures.member c.member-other.ensures.member
    c.is_same_group.result c.is_same_group.ensures c.if-is_same_group.false
