use Rattle.c_types_state.specs.Checkers.{state_of}
use Rattle.c_types_state.proofs.Named.{left_leads, left_stand}
use Rattle.c_types_state.proofs.checker.Checker.leave.Goals as goal

pub invariant_of-self : goal.invariant_of-self
invariant_of-self c =
    let had = c.self.inside in
    let state = state_of had.types had.tags.entries had.completed.keys had.defined.keys had.file.entries had.locals had.least in
    left_stand state c.args.self.now c.self.view_is c.leave.new.self c.args.outer c.requires c.leave.ensures c.self.invariant.file c.self.invariant.outer

pub returns : goal.returns
returns c =
    let had = c.self.inside in
    let state = state_of had.types had.tags.entries had.completed.keys had.defined.keys had.file.entries had.locals had.least in
    λ block around split long. left_leads state c.args.self.now c.self.view_is c.leave.new.self c.args.outer c.leave.ensures block around split long
