use Rattle.std.proofs.Common.{sym, ◌∙◌}
use Rattle.graph_checker.specs.Programs.{family_of}
use Rattle.graph_checker.proofs.TargetsAsked.{same_told, graphs_same, inner_judged, not_together}
use Rattle.graph_checker.proofs.program.Program.target_asked.Goals as goal

pub returns-then-is_same_group : goal.returns-then-is_same_group
returns-then-is_same_group c = λ owner member.
    let table = c.args.self.tac.now.types in
    let family = family_of c.args.self in
    let other = c.member-other.result in
    let also = c.member-other.ensures.member in
    let same = sym (same_told table family c.args.called.0 c.args.site c.args.arguments.now c.args.own other also owner member) ∙ (sym c.is_same_group.ensures ∙ c.if-is_same_group.true) in
    inner_judged table family c.args.called.0 c.args.site c.args.arguments.now c.args.own other also owner same c.inner_call.result
    (c.inner_call.ensures family owner c.args.called.0 member.graph member.names also.names
    (graphs_same table family c.args.called.0 c.args.site c.args.arguments.now c.args.own other also owner same) also.c_type)

pub outer_asked-requires-clause-some : goal.outer_asked-requires-clause-some
outer_asked-requires-clause-some c = c.requires.program.nodes _ c.member-other.result.graph.now c.member-other.ensures.stored

pub outer_asked-requires-clause-edges : goal.outer_asked-requires-clause-edges
outer_asked-requires-clause-edges c =
    let less = c.requires.before (not_together c.args.own.group c.member-other.result.group _ c.member-other.ensures.member.group (sym c.is_same_group.ensures ∙ c.if-is_same_group.false)) in
    c.requires.sound.edges _ less c.member-other.result.graph.now c.member-other.ensures.stored

pub outer_asked-requires-clause-inside : goal.outer_asked-requires-clause-inside
outer_asked-requires-clause-inside c =
    let less = c.requires.before (not_together c.args.own.group c.member-other.result.group _ c.member-other.ensures.member.group (sym c.is_same_group.ensures ∙ c.if-is_same_group.false)) in
    c.requires.sound.inside c.args.called.0 less
