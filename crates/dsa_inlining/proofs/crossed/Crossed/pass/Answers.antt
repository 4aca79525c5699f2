use Rattle.std.proofs.Common.{refl, sym}
use Rattle.std.proofs.lemmas.Bool.{eq-eqb}
use Rattle.heap_graph.specs.Closed.{formal}
use Rattle.heap_graph.specs.Graphs.{OfRegister}
use Rattle.heap_graph.specs.Memory.{target_of}
use Rattle.graph_unification.specs.Memory.{owner_of}
use Rattle.graph_unification.proofs.NamedSteps.{on_ok}
use Rattle.dsa_inlining.specs.Shown.{code_of, shown, callee_of, copies_of}
use Rattle.dsa_inlining.proofs.Joining.{outside_is_copied}
use Rattle.dsa_inlining.proofs.Passing.{passed_one}
use Rattle.dsa_inlining.proofs.crossed.Crossed.pass.Goals as goal

pub join_image-requires-clause-target : goal.join_image-requires-clause-target
join_image-requires-clause-target c =
    let own = c.args.self in
    outside_is_copied (code_of own) own.called (callee_of own) (copies_of own) c.requires.known.callee (formal own.called c.args.number) (target_of c.in-Some.target) (eq-eqb own.called own.called refl) (sym c.in-Some.ensures)

pub returns-clause-joins : goal.returns-clause-joins
returns-clause-joins c =
    let own = c.args.self in
    on_ok c.join_image.result c.join_image.ensures.joins
    (λ then. passed_one (code_of own) c.requires.known.code.made (callee_of own) (copies_of own) (OfRegister (owner_of c.args.owner) c.args.argument) (formal own.called c.args.number) (target_of c.in-Some.target)
    (sym c.in-Some.ensures) (shown own c.args.graph.now) (shown own c.join_image.new.graph) then)
