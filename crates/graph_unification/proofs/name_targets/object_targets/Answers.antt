use Rattle.std.proofs.Common.{◌≡◌, cond, get_or, sym, subst}
use Rattle.std.proofs.Math.Seq.{drop-cons}
use Rattle.tac_ir.specs.declared.register.Local.{Local}
use Rattle.tac_ir.specs.declared.register.Local.TheVariants as L
use Rattle.tac_ir.specs.declared.program.LocalObject.{LocalObject}
use Rattle.graph_unification.specs.Memory.{owner_of, graph_in}
use Rattle.heap_graph.specs.Frozen.{optional_target}
use Rattle.graph_unification.specs.Freezing.{same_local, local_in}
use Rattle.graph_unification.proofs.ToldNames.{next_object, put_parameter, put_variable}
use Rattle.graph_unification.proofs.name_targets.object_targets.Goals as goal
use Rattle.graph_unification.proofs.name_targets.object_targets.Goals.{in-Parameter+in_ok-put-in-Parameter, in-Variable+in_ok-put-in-Variable}

pub loop-object-preserved : goal.loop-object-preserved
loop-object-preserved c = λ table fine.
    let object : LocalObject = get_or c.args.objects.now c.loop-object.object-index (record { local = L.Parameter 0; c_type = record { 0 = 0 } }) in
    let it = optional_target c.certain_target-target.result in
    let parameters = c.loop-object.parameters.items in
    let variables = c.loop-object.variables.items in
    let told : (key : Local) → local_in c.match-local.parameters.items c.match-local.variables.items key ≡ cond (same_local object.local key) it (local_in parameters variables key) = elim c.match-local.branch [
      | in-Parameter+in_ok-put-in-Parameter w ↦
          rw (w.parameters-is, w.variables-is) (λ key. subst (λ l. local_in w.put.new.targets.items variables key ≡ cond (same_local l key) it (local_in parameters variables key)) (sym w.in-Parameter.is)
          (put_parameter w.in-Parameter.number it parameters w.put.new.targets.items variables w.in_ok-put-in-Parameter.ensures key))
      | in-Variable+in_ok-put-in-Variable w ↦
          rw (w.parameters-is, w.variables-is) (λ key. subst (λ l. local_in parameters w.put-in-Variable.new.targets.items key ≡ cond (same_local l key) it (local_in parameters variables key)) (sym w.in-Variable.is)
          (put_variable w.in-Variable.number it variables w.put-in-Variable.new.targets.items parameters w.in_ok-put-in-Variable.ensures key))
    ] in
    next_object (graph_in table c.args.graph.now) (owner_of c.args.function) c.args.objects.now c.loop-object.object-index object parameters variables c.match-local.parameters.items c.match-local.variables.items it
    (drop-cons c.args.objects.now c.loop-object.object-index (record { local = L.Parameter 0; c_type = record { 0 = 0 } }) c.loop-object-test.true) (c.loop-object.invariant table fine) (c.certain_target-target.ensures table fine) told
