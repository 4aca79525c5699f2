use Rattle.heap_graph.proofs.Naming.{adds_in, adds_names}
use Rattle.heap_graph.proofs.needed.NeededNodes.add_names.Goals as goal

pub returns : goal.returns
returns c =
    adds_names c.args.names.now c.args.self.now.marks c.add_targets.new.self c.add_targets-2.new.self c.add_targets-3.new.self c.add_targets-4.new.self c.add_targets-5.new.self
    c.add_targets-6.new.self c.add_targets-7.new.self c.add_target.new.self
    (adds_in _ _ _ _ c.deref.ensures.value c.add_targets.ensures) (adds_in _ _ _ _ c.deref-2.ensures.value c.add_targets-2.ensures)
    (adds_in _ _ _ _ c.deref-3.ensures.value c.add_targets-3.ensures) (adds_in _ _ _ _ c.deref-4.ensures.value c.add_targets-4.ensures)
    (adds_in _ _ _ _ c.deref-5.ensures.value c.add_targets-5.ensures) (adds_in _ _ _ _ c.deref-6.ensures.value c.add_targets-6.ensures)
    (adds_in _ _ _ _ c.deref-7.ensures.value c.add_targets-7.ensures) c.add_target.ensures
