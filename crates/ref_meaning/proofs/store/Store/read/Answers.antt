use Rattle.std.proofs.Common.{None, Some, subst}
use Rattle.ref_semantics.specs.Store.{scalar_at}
use Rattle.ref_meaning.specs.RefStore.Views.{name_of, place_in, scalar_in}
use Rattle.ref_meaning.specs.RefStore.Holding.{HeldIs}
use Rattle.ref_meaning.proofs.Found.{found_is}
use Rattle.ref_meaning.proofs.Reading.{read-dead, read-nothing, comes-read}
use Rattle.ref_meaning.proofs.store.Store.read.Goals as goal

pub returns-in_default-clause-gives : goal.returns-in_default-clause-gives
returns-in_default-clause-gives c = λ around base state at.
    let table = c.args.self.now.types.now in
    let place = place_in table c.args.place in
    let content = state.objects (name_of c.args.place.name) in
    read-dead around c.args.here place state table
    (found_is table c.args.self.now.objects c.args.place.name None content c.in_default.ensures.value (at.objects c.args.place.name))

pub returns-in-Some-scalar_in-clause-gives : goal.returns-in-Some-scalar_in-clause-gives
returns-in-Some-scalar_in-clause-gives c = λ around base state at.
    let table = c.args.self.now.types.now in
    let place = place_in table c.args.place in
    let content = state.objects (name_of c.args.place.name) in
    let holds = found_is table c.args.self.now.objects c.args.place.name (Some c.in-Some.content.now) content c.in-Some.ensures.value (at.objects c.args.place.name) in
    let held = subst (λ value. HeldIs table value (scalar_at around content place)) c.in-Some-scalar_in.is (c.scalar_in.ensures around content at.structs holds) in
    comes-read around c.args.here place state table c.in-Some.content.now holds c.args.self.now base (scalar_in table c.in-Some-scalar_in.value) at held.0

pub returns-in-Some-scalar_in-clause-stands : goal.returns-in-Some-scalar_in-clause-stands
returns-in-Some-scalar_in-clause-stands c = λ around base state at.
    let table = c.args.self.now.types.now in
    let place = place_in table c.args.place in
    let content = state.objects (name_of c.args.place.name) in
    let holds = found_is table c.args.self.now.objects c.args.place.name (Some c.in-Some.content.now) content c.in-Some.ensures.value (at.objects c.args.place.name) in
    let held = subst (λ value. HeldIs table value (scalar_at around content place)) c.in-Some-scalar_in.is (c.scalar_in.ensures around content at.structs holds) in
    held.1

pub returns-in-None-clause-gives : goal.returns-in-None-clause-gives
returns-in-None-clause-gives c = λ around base state at.
    let table = c.args.self.now.types.now in
    let place = place_in table c.args.place in
    let content = state.objects (name_of c.args.place.name) in
    let holds = found_is table c.args.self.now.objects c.args.place.name (Some c.in-Some.content.now) content c.in-Some.ensures.value (at.objects c.args.place.name) in
    let none = subst (λ value. HeldIs table value (scalar_at around content place)) c.in-None.is (c.scalar_in.ensures around content at.structs holds) in
    read-nothing around c.args.here place state table c.in-Some.content.now holds none
