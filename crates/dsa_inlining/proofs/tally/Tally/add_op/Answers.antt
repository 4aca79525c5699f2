use Rattle.std.proofs.Common.{refl, ap}
use Rattle.std.proofs.lemmas.Result.{IfOk-weaker}
use Rattle.tac_ir.specs.Views.{tac_of, op_in, callee_in}
use Rattle.dsa_inlining.specs.Before.{graphs_before}
use Rattle.dsa_inlining.specs.declared.tally.Tally.{Tally}
use Rattle.dsa_inlining.specs.Sums.{outside_of}
use Rattle.dsa_inlining.proofs.Points.{call_counted, others_counted, other_point}
use Rattle.dsa_inlining.proofs.tally.Tally.add_op.Goals as goal

pub returns-in-Call : goal.returns-in-Call
returns-in-Call c =
    let tac = c.args.before.tac.now in
    let outside = outside_of (graphs_before c.args.before) c.args.group in
    let old = c.args.self.now in
    let mid : Tally = record { count = old.count; mentions = c.add_path.new.self; told = old.told } in
    IfOk-weaker c.add_call.result _ _
    (λ _ counts.
    call_counted (tac_of tac) outside c.args.before old mid refl refl (op_in tac.types c.args.op.now) c.in-Call.site (callee_in tac.types c.in-Call.callee) c.in-Call.arguments.items
    (ap (op_in tac.types) c.in-Call.is) (c.add_path.ensures tac.types) c.add_call.new.self counts)
    c.add_call.ensures

pub returns-in_default : goal.returns-in_default
returns-in_default c =
    let tac = c.args.before.tac.now in
    let outside = outside_of (graphs_before c.args.before) c.args.group in
    let old = c.args.self.now in
    let mid : Tally = record { count = old.count; mentions = c.add_path.new.self; told = old.told } in
    let other = other_point (tac_of tac) outside tac.types c.args.op.now c.in_default.not-Call in
    others_counted (tac_of tac) outside c.args.before old mid refl refl (op_in tac.types c.args.op.now) other.none other.never (c.add_path.ensures tac.types)
