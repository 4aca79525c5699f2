use Rattle.std.specs.Option.{option_copied}
use Rattle.ref_meaning.specs.RefStore.Views.{name_of}
use Rattle.ref_meaning.proofs.Found.{found_is, dead_told}
use Rattle.ref_meaning.proofs.store.Store.is_dead.Goals as goal

pub returns : goal.returns
returns c = λ around base state at.
    let content = state.objects (name_of c.args.name) in
    dead_told c.args.self.now.types.now c.get.result c.is_none.result content c.is_none.ensures
    (found_is c.args.self.now.types.now c.args.self.now.objects c.args.name (option_copied c.get.result) content c.get.ensures.value (at.objects c.args.name))
