use Rattle.std.proofs.Common.{◌≡◌, ◌<◌, ◌∷◌, ◌++◌, [], length, get_or, take, map, Some, sym, ap, subst, ◌∙◌}
use Rattle.c_typed.specs.Table.{Interned, type_in}
use Rattle.ref_meaning.specs.Fitting.{IsObjectType}
use Rattle.c_typed.specs.DefinitionViews.{program_of, global_in}
use Rattle.ref_semantics.specs.Values.{GlobalObject}
use Rattle.ref_semantics.specs.First.{around_of, first_state}
use Rattle.ref_meaning.specs.Beginning.{unfilled}
use Rattle.ref_meaning.specs.Firsts.{Has, with_new, unfilled_of}
use Rattle.ref_meaning.proofs.FirstObjects.{global_fits, mapped_more, unfilled_global}
use Rattle.ref_meaning.proofs.FirstStore.{at_same}
use Rattle.ref_meaning.proofs.store.Store.add_globals.Goals as goal

pub add_global-requires : goal.add_global-requires
add_global-requires c =
    let globals = c.args.program.now.globals.items in
    let n = c.loop-global.global-index in
    let global = c.global-item.result in
    let items = c.deref-global-items.ensures.value in
    let within : n < length globals = subst (λ l. n < length l) items c.loop-global-test.true in
    let at : global ≡ get_or globals n global = c.global-item.is ∙ ap (λ l. get_or l n global) items in
    let types = ap (λ t. t.now) c.loop-global.invariant.types ∙ c.requires.types in
    subst (λ (t : Interned). IsObjectType t global.c_type) (sym types) (global_fits (program_of c.args.program.now) c.args.program.now.types globals n global c.requires.fit within at).0

pub loop-global-preserved : goal.loop-global-preserved
loop-global-preserved c =
    let program = program_of c.args.program.now in
    let known = c.args.program.now.types in
    let globals = c.args.program.now.globals.items in
    let n = c.loop-global.global-index in
    let global = c.global-item.result in
    let items = c.deref-global-items.ensures.value in
    let within : n < length globals = subst (λ l. n < length l) items c.loop-global-test.true in
    let at : global ≡ get_or globals n global = c.global-item.is ∙ ap (λ l. get_or l n global) items in
    let types = ap (λ t. t.now) c.loop-global.invariant.types ∙ c.requires.types in
    let had = map (global_in known) (take n globals) in
    let new = c.add_global.new.self in
    let added : Has program new (with_new (GlobalObject global.name) (unfilled (Some (type_in known global.c_type))) (unfilled_of had [])) =
    subst (λ (t : Interned). Has program new (with_new (GlobalObject global.name) (unfilled (Some (type_in t global.c_type))) (unfilled_of had []))) types
    (c.in_ok-add_global.ensures.added (around_of program) 0 (record (first_state program [] 0) { objects = unfilled_of had [] }) c.loop-global.invariant.has) in
    record {
      types = c.in_ok-add_global.ensures.types ∙ c.loop-global.invariant.types;
      has = subst (λ l. Has program new (unfilled_of l [])) (mapped_more (global_in known) globals n global within at)
          (at_same (around_of program) new 0 (record (first_state program [] 0) { objects = with_new (GlobalObject global.name) (unfilled (Some (type_in known global.c_type))) (unfilled_of had []) })
          (unfilled_of (had ++ global_in known global ∷ []) []) (unfilled_global had (global_in known global)) added);
    }
