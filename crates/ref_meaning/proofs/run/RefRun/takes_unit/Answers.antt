use Rattle.std.proofs.Common.{option_map, sym, ◌∙◌}
use Rattle.ref_meaning.specs.declared.control.Task.TheVariants as K
use Rattle.ref_meaning.specs.Views.{part_in, stmt_of, case_items_of, case_items_from}
use Rattle.ref_meaning.proofs.Taking.{task-takes}
use Rattle.ref_meaning.proofs.run.RefRun.takes_unit.Goals as goal

pub returns-in-Label : goal.returns-in-Label
returns-in-Label c =
    let run = c.args.self.now in
    let table = run.store.types.now in
    c.is_case.ensures table c.in-Label.value (option_map (λ n. case_items_from n (case_items_of (stmt_of (part_in table run.control.node)))) c.in-Label.default) c.requires.node
    ∙ sym (task-takes run (K.Label c.in-Label.value c.in-Label.number c.in-Label.default) c.in-Label.is)
