use Rattle.c_typed.specs.Types as T
use Rattle.c_types_state.specs.Checkers.{state_of}
use Rattle.c_types_state.proofs.Growing.{StateStands, names_stay, type_found}
use Rattle.c_types_state.proofs.checker.Checker.struct_type.Goals as goal

pub invariant_of-self-2 : goal.invariant_of-self-2
invariant_of-self-2 c =
    let had = c.self.inside in
    names_stay had.types c.struct_type.new.self c.in_ok-struct_type.ensures.ok.grows had.file.entries had.locals c.self.invariant

pub returns-clause-made : goal.returns-clause-made
returns-clause-made c =
    let had = c.self.inside in
    let state = state_of had.types had.tags.entries had.completed.keys had.defined.keys had.file.entries had.locals had.least in
    let stand : StateStands state = record { file = c.self.invariant.file; inner = c.self.invariant.inner; outer = c.self.invariant.outer } in
    type_found state c.args.self.now c.self.view_is stand c.struct_type.new.self c.in_ok-struct_type.field-0 (λ _. T.Struct c.args.tag.now) c.in_ok-struct_type.ensures.ok
