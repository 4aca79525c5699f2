use Rattle.std.proofs.Common.{Some, None, sym, ap}
use Rattle.ref_semantics.specs.Values.{Heap}
use Rattle.ref_semantics.specs.Pointers.{to_first}
use Rattle.ref_meaning.specs.declared.value.Name.TheVariants as N
use Rattle.ref_meaning.proofs.Found.{found_is}
use Rattle.ref_meaning.proofs.Allocations.{found_told}
use Rattle.ref_meaning.proofs.store.Store.to_first.Goals as goal

pub returns-in-Some-clause-means : goal.returns-in-Some-clause-means
returns-in-Some-clause-means c = λ around base state at.
    let table = c.args.self.now.types.now in
    let name = N.Heap c.args.number in
    let content = state.objects (Heap c.args.number) in
    c.to_first.ensures.means table content (found_is table c.args.self.now.objects name (Some c.in-Some.content.now) content c.in-Some.ensures.value (at.objects name))

pub returns-in-Some-clause-stands : goal.returns-in-Some-clause-stands
returns-in-Some-clause-stands c = λ around base state at.
    let table = c.args.self.now.types.now in
    let name = N.Heap c.args.number in
    let content = state.objects (Heap c.args.number) in
    c.to_first.ensures.stands table content (found_is table c.args.self.now.objects name (Some c.in-Some.content.now) content c.in-Some.ensures.value (at.objects name))

pub returns-in-None-clause-means : goal.returns-in-None-clause-means
returns-in-None-clause-means c = λ around base state at.
    let table = c.args.self.now.types.now in
    let name = N.Heap c.args.number in
    let content = state.objects (Heap c.args.number) in
    sym (ap (to_first c.args.number) (found_told table c.args.self.now.objects name None content c.in-None.ensures.value (at.objects name)))
