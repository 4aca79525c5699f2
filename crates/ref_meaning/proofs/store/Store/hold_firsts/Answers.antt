use Rattle.std.proofs.Common.{◌≡◌, ◌<◌, ◌+◌, ◌-◌, true, ◌++◌, [], length, take, get_or, drop, map, refl, sym, ap, subst, ◌∙◌, arith}
use Rattle.std.proofs.lemmas.List.{drop_all, length_push}
use Rattle.c_typed.specs.Table.{Interned, type_in}
use Rattle.ref_meaning.specs.Fitting.{IsObjectType}
use Rattle.ref_meaning.proofs.Fitting.{object_alone}
use Rattle.c_typed.specs.DefinitionViews.{program_of, global_in, all_first}
use Rattle.ref_semantics.specs.Values.{GlobalObject, Content, Elements}
use Rattle.ref_semantics.specs.Store.{with_content}
use Rattle.ref_semantics.specs.First.{around_of, first_state, first_held, first_objects}
use Rattle.ref_meaning.specs.Beginning.{unfilled_objects}
use Rattle.ref_meaning.specs.Firsts.{Has, AreFirsts, filled}
use Rattle.ref_meaning.proofs.FirstObjects.{filled_all, filled_step, firsts_pop, first_content, global_fits}
use Rattle.ref_meaning.proofs.FirstStore.{at_same}
use Rattle.ref_meaning.proofs.store.Store.hold_firsts.Goals as goal

pub loop-elements-init : goal.loop-elements-init
loop-elements-init c =
    let program = program_of c.args.program.now in
    let globals = c.args.program.now.globals.items in
    record {
      types = refl;
      within = omega (arith, c.requires.length);
      firsts = c.requires.firsts;
      has = subst (λ l. Has program c.args.self.now (filled program (map (global_in c.args.program.now.types) l) (unfilled_objects program))) (sym (drop_all (length c.args.firsts.items) globals (omega (arith, c.requires.length)))) c.requires.unfilled;
    }

pub loop-elements-preserved : goal.loop-elements-preserved
loop-elements-preserved c =
    let program = program_of c.args.program.now in
    let known = c.args.program.now.types in
    let globals = c.args.program.now.globals.items in
    let had = c.loop-elements.invariant in
    let table = c.loop-elements.self.types.now in
    let made = c.pop.new.self.items in
    let last = c.in-Some.elements in
    let popped = c.in-Some.ensures.items in
    let global = c.index.result.now in
    let count : length c.loop-elements.firsts.items ≡ length made + 1 = ap length popped ∙ length_push made last in
    let within : length made < length globals = omega (arith, count, had.within) in
    let count_is : c.len.result ≡ length made = c.len.ensures ∙ c.pop.new.self.ok.0 in
    let at : global ≡ get_or globals (length made) global = c.index.ensures ∙ ap (λ k. get_or globals k global) count_is in
    let rest = firsts_pop program table globals made global last at (subst (AreFirsts program table globals) popped had.firsts) in
    let types = ap (λ t. t.now) had.types ∙ c.requires.types in
    let fits = subst (λ (t : Interned). IsObjectType t global.c_type) (sym types) (global_fits program known globals (length made) global c.requires.fit within at).0 in
    let objects = filled program (map (global_in known) (drop (length c.loop-elements.firsts.items) globals)) (unfilled_objects program) in
    let content : Interned → Content = λ t. Elements true (type_in t global.c_type) 1 (first_held program (type_in t global.c_type) (all_first global.first.items)) in
    let new = c.hold_global.new.self in
    let held = c.in_ok-hold_global.ensures.held (around_of program) 0 (record (first_state program [] 0) { objects = objects }) (content table) (first_content program table global last (object_alone table global.c_type fits) rest.1) had.has in
    record {
      types = c.in_ok-hold_global.ensures.types ∙ had.types;
      within = omega (arith, within);
      firsts = subst (λ t. AreFirsts program t globals made) (ap (λ t. t.now) (sym c.in_ok-hold_global.ensures.types)) rest.0;
      has = subst (Has program new)
          ((λ i. with_content (GlobalObject global.name) (content (types i)) (filled program (map (global_in known) (drop (count i) globals)) (unfilled_objects program)))
          ∙ filled_step program known globals (length made) global (unfilled_objects program) within at)
          held;
    }

pub returns-clause-filled : goal.returns-clause-filled
returns-clause-filled c =
    let program = program_of c.args.program.now in
    let known = c.args.program.now.types in
    let globals = c.args.program.now.globals.items in
    let store = c.loop-elements.self in
    let items = c.loop-elements.firsts.items in
    let popped = c.in_default.ensures in
    let none : items ≡ [] = popped.items ∙ ap (λ l. l ++ []) (popped.rest ∙ ap (λ k. take (k - 1) items) popped.cases.0) in
    let has : Has program store (filled program program.globals (unfilled_objects program)) =
    subst (λ l. Has program store (filled program (map (global_in known) (drop (length l) globals)) (unfilled_objects program))) none c.loop-elements.invariant.has in
    at_same (around_of program) store 0 (record (first_state program [] 0) { objects = filled program program.globals (unfilled_objects program) }) (first_objects program) (filled_all program) has
