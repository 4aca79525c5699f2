use Rattle.c_typed.specs.Table.{member_entries}
use Rattle.c_types_state.proofs.Growing.{names_with}
use Rattle.c_types_state.proofs.checker.Checker.complete.Goals as goal

pub invariant_of-self-2 : goal.invariant_of-self-2
invariant_of-self-2 c =
    let had = c.self.inside in
    names_with had.types c.args.id.0 (member_entries c.args.members.items) c.complete.new.self c.in_ok-complete.ensures.ok had.file.entries had.locals c.self.invariant
