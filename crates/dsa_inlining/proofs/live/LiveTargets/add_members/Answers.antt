use Rattle.std.proofs.Common.{get_or, refl, sym, subst, ◌∙◌, arith}
use Rattle.std.proofs.lemmas.List.{length-map, drop_all}
use Rattle.tac_ir.specs.declared.register.FunctionId.{FunctionId}
use Rattle.call_graph.specs.ClassLists.{numbers_of}
use Rattle.call_graph.specs.Lists.{rows_in}
use Rattle.dsa_inlining.specs.Live.{AddsLive}
use Rattle.dsa_inlining.proofs.LiveRows.{adds_none, adds_one, adds_no, adds_all, next_number}
use Rattle.dsa_inlining.proofs.live.LiveTargets.add_members.Goals.{then-is_live+in_ok-add, else-is_live}
use Rattle.dsa_inlining.proofs.live.LiveTargets.add_members.Goals as goal

pub loop-member-init : goal.loop-member-init
loop-member-init c = adds_none (rows_in c.args.escaping.now) (numbers_of c.args.members.now) _ refl c.args.self.now

pub loop-member-preserved : goal.loop-member-preserved
loop-member-preserved c =
    let escaping = rows_in c.args.escaping.now in
    let members = c.args.members.now in
    let i = c.loop-member.member-index in
    let called = (get_or members i (record { 0 = 0 })).0 in
    let next = next_number members i c.loop-member-test.true in
    elim c.if-is_live.branch [
      | then-is_live+in_ok-add w ↦ adds_one escaping (numbers_of members) c.args.self.now c.loop-member.self _ _ _ called next c.loop-member.invariant (sym c.is_live.ensures ∙ w.if-is_live.true)
          (subst (AddsLive called c.loop-member.self) (sym w.self-is) w.in_ok-add.ensures)
      | else-is_live w ↦ adds_no escaping (numbers_of members) c.args.self.now c.loop-member.self _ _ _ called next c.loop-member.invariant (sym c.is_live.ensures ∙ w.if-is_live.false) w.self-is
    ]

pub returns : goal.returns
returns c =
    let members = c.args.members.now in
    let long = length-map members (λ (f : FunctionId). f.0) in
    adds_all (rows_in c.args.escaping.now) (numbers_of members) c.args.self.now c.loop-member.self _ (drop_all c.loop-member.member-index (numbers_of members) (omega (arith, long, c.loop-member-test.false))) c.loop-member.invariant
