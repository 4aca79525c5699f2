use Rattle.std.proofs.Common.{List, length, subst}
use Rattle.std.proofs.lemmas.Result.{IfOk-weaker}
use Rattle.tac_ir.specs.declared.register.FunctionId.{FunctionId}
use Rattle.tac_ir.specs.Views.{tac_of, callee_in}
use Rattle.call_graph.specs.ClassLists.{numbers_of}
use Rattle.dsa_inlining.specs.Before.{graphs_before, is_live}
use Rattle.dsa_inlining.specs.Counting.{total, copies_to}
use Rattle.dsa_inlining.specs.Sums.{outside_of}
use Rattle.dsa_inlining.specs.Tallies.{Counts, any_of, copies_from, told_from, call_names}
use Rattle.dsa_inlining.proofs.GroupCounts.Adding.{counts_same}
use Rattle.dsa_inlining.proofs.Quiet.{are_quiet}
use Rattle.dsa_inlining.proofs.TargetSums.{ListsLive, copies_counted, names_told}
use Rattle.dsa_inlining.proofs.tally.Tally.add_call.Goals as goal

pub returns : goal.returns
returns c =
    let tac = c.args.before.tac.now in
    let outside = outside_of (graphs_before c.args.before) c.args.group in
    let callee = callee_in tac.types c.args.callee in
    let functions = numbers_of c.in_ok-targets.targets.items in
    let its = c.in_ok-targets.ensures in
    let live = is_live (graphs_before c.args.before) in
    let are : ListsLive (tac_of tac) callee live functions = record { each = its.each; once = its.once } in
    let quiet = are_quiet c.args.before c.requires c.args.group in
    IfOk-weaker c.add_targets.result _ _
    (λ _ counts.
    counts_same c.args.before (total (copies_from (tac_of tac) outside) functions) (copies_to (tac_of tac) outside (length (tac_of tac).functions) callee) (any_of (told_from (tac_of tac) outside) functions)
    (call_names (tac_of tac) outside callee) c.args.self.now c.add_targets.new.self (copies_counted (tac_of tac) outside callee live quiet functions are)
    (names_told (tac_of tac) outside callee live quiet functions are)
    (subst (λ (l : List FunctionId). Counts c.args.before (total (copies_from (tac_of tac) outside) (numbers_of l)) (any_of (told_from (tac_of tac) outside) (numbers_of l)) c.args.self.now c.add_targets.new.self)
    c.as_slice.ensures.value counts))
    c.add_targets.ensures
