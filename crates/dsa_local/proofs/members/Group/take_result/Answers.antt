use Rattle.std.proofs.Common.{sym, ◌∙◌}
use Rattle.std.proofs.lemmas.Bool.{false≢true}
use Rattle.c_typed.specs.Table.{structs_in, type_in}
use Rattle.tac_ir.specs.States.{InFunction}
use Rattle.dsa_local.specs.Joined.{IsTaken}
use Rattle.dsa_local.specs.Members.{shown}
use Rattle.dsa_local.proofs.Joining.{joins_same}
use Rattle.dsa_local.proofs.members.Group.take_result.Goals as goal

pub returns-then-not-gives_data_pointer-clause-joins : goal.returns-then-not-gives_data_pointer-clause-joins
returns-then-not-gives_data_pointer-clause-joins c =
    let own = c.args.self in
    let types = own.tac.now.types in
    joins_same (structs_in types) c.requires.stands.made (shown own c.args.graph.now) c.requires.graph.sound (IsTaken (InFunction c.args.caller.0) c.args.site c.args.called (type_in types c.args.c_type))
    (λ is. absurd (false≢true (sym c.if-not-gives_data_pointer.true ∙ (c.gives_data_pointer.ensures ∙ is))))
