use Rattle.std.proofs.Common.{◌≡◌, true, sym, subst, ◌∙◌}
use Rattle.std.specs.Prelude.{◌==◌, ◌||◌, not}
use Rattle.std.specs.List.{list_any}
use Rattle.tac_ir.specs.States.{InStart}
use Rattle.tac_ir.specs.Views.{tac_of}
use Rattle.heap_graph.specs.Points.{base_part}
use Rattle.heap_graph.specs.Targets.{at_target, implies}
use Rattle.graph_unification.specs.Memory.{graph_in}
use Rattle.dsa_local.specs.Moved.{moves}
use Rattle.dsa_local.specs.Roots.{base_at}
use Rattle.dsa_local.proofs.Mentioning.{keeps_same}
use Rattle.dsa_local.proofs.RootPaths.{not_asked}
use Rattle.dsa_local.proofs.stores.mark_moved.Goals as goal

pub returns-then-not-is_moved-clause-keeps : goal.returns-then-not-is_moved-clause-keeps
returns-then-not-is_moved-clause-keeps c = keeps_same (tac_of c.args.tac.now) c.requires.code.made (graph_in c.args.tac.now.types c.args.graph.now) c.requires.graph.sound

pub returns-then-not-is_moved-clause-array : goal.returns-then-not-is_moved-clause-array
returns-then-not-is_moved-clause-array c =
    not_asked (tac_of c.args.tac.now) (graph_in c.args.tac.now.types c.args.graph.now) c.requires.graph.sound c.args.root (list_any moves c.args.parts.now || not (c.args.index == 0))
    (sym c.is_moved.ensures ∙ c.if-not-is_moved.true)

pub returns-clause-array : goal.returns-clause-array
returns-clause-array c =
    let new = graph_in c.args.tac.now.types c.mark.new.graph in
    subst (λ b. at_target new (base_part (tac_of c.args.tac.now) new InStart (base_at c.args.root)).target (λ node shift. implies b node.flags.array) ≡ true) (sym c.if-not-is_moved.false ∙ c.is_moved.ensures)
    c.mark.ensures.marked

pub mark-requires-clause-asked : goal.mark-requires-clause-asked
mark-requires-clause-asked c = λ other told.
    subst (λ b. at_target other (base_part (tac_of c.args.tac.now) other InStart (base_at c.args.root)).target (λ node shift. implies b node.flags.array) ≡ true) (sym c.is_moved.ensures ∙ c.if-not-is_moved.false)
    (c.requires.asked other told)
