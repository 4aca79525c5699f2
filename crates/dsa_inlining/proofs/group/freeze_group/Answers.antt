use Rattle.std.proofs.Common.{◌≡◌, ℕ, List, refl, sym, subst}
use Rattle.heap_graph.specs.Graphs.{OfGlobal, OfLiteral}
use Rattle.heap_graph.specs.Targets.{has_target}
use Rattle.graph_unification.specs.Cells.{has_number}
use Rattle.graph_unification.specs.Memory.{graph_in}
use Rattle.dsa_inlining.specs.Complete.{AreEscaping}
use Rattle.dsa_inlining.proofs.FrozenGroup.{group_frozen}
use Rattle.dsa_inlining.proofs.group.freeze_group.Goals as goal

pub returns : goal.returns
returns c = λ table fine.
    let made = graph_in table c.args.graph.now in
    group_frozen table c.args.tac.now c.args.owners.now made fine.sound c.deref.result.now c.deref-2.result.now
    (subst (λ (l : List ℕ). (n : ℕ) → has_number l n ≡ has_target (made.targets (OfGlobal n))) (sym c.deref.ensures.value) (c.in_ok-globals.ensures table))
    (subst (λ (l : List ℕ). (n : ℕ) → has_number l n ≡ has_target (made.targets (OfLiteral n))) (sym c.deref-2.ensures.value) (c.in_ok-literals.ensures table))
    c.in_ok-kept.kept (c.in_ok-kept.ensures table fine)
    (record {
      graph = record { nodes = c.mark_complete.new.nodes; globals = c.in_ok-kept.kept.globals; literals = c.in_ok-kept.kept.literals };
      names = c.in_ok-names.names;
    }) (c.in_ok-names.ensures.tells table fine) c.in_ok-escaping.escaping
    (subst (λ l. AreEscaping c.in_ok-kept.kept c.args.owners.now l c.in_ok-escaping.escaping) c.deref-3.ensures.value c.in_ok-escaping.ensures) c.mark_complete.ensures c.in_ok-names.ensures.size refl refl
