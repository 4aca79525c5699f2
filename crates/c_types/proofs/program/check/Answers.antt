use Rattle.std.proofs.Common.{◌+◌, List, map, drop, refl, sym, ap, subst, ◌∙◌}
use Rattle.c_syntax.specs.declared.declaration.Item.{Item}
use Rattle.c_syntax.specs.Views.{program_tree, item_tree}
use Rattle.c_typed.specs.declared.definition.Program as memory_program
use Rattle.c_typed.specs.Table.{Interned, Grows}
use Rattle.c_types_state.specs.NameTables.{State}
use Rattle.c_rules.specs.Programs.{violations}
use Rattle.c_typed.specs.Programs.{IsWellTyped}
use Rattle.c_rules.proofs.ProgramsFit.{elaboration_keeps_types}
use Rattle.c_types_expressions.specs.declared.pass.Pass.{Pass}
use Rattle.c_types_state.specs.Lists.{with_outline}
use Rattle.c_types.proofs.DeclaredMembers.{trees-next, trees-end}
use Rattle.c_types.proofs.VariableNumbers.{option-none}
use Rattle.c_types.proofs.KeptValues.{all-mean, all-stand}
use Rattle.c_types.proofs.ProgramRead.{Reading, Keeping, reading-start, reading-step, reading-end, keeping-start, keeping-step, keeping-end, refusal-noted, least-none, typed-whole, whole-stands, named-whole, not-refused, refused-same}
use Rattle.c_types.proofs.program.check.Goals as goal

pub returns-in_err-outermost-clause-refused : goal.returns-in_err-outermost-clause-refused
returns-in_err-outermost-clause-refused c = λ violation h. not-refused c.from_residual-in_err-outermost.result violation c.from_residual-in_err-outermost.ensures.1 h

pub loop-tree-init : goal.loop-tree-init
loop-tree-init c =
    let program = program_tree c.args.program.now in
    let pass : Pass = record c.new-pass.result { checker = c.outermost.new.checker } in
    let is = c.in_ok-outermost.ensures ∙ ap (with_outline program.items) c.new-pass.ensures.checker in
    record {
      reading =
          subst (λ (items : List Item). Reading program (map item_tree items) pass c.new-defined.result) (sym c.as_slice-tree-items.ensures.value)
          (reading-start program pass c.new-defined.result is c.new-pass.ensures.named c.new-defined.ensures.globals c.new-defined.ensures.functions);
      keeping =
          subst (λ (items : List Item). Keeping program (map item_tree items) pass c.new-first_values.result.items) (sym c.as_slice-tree-items.ensures.value)
          (keeping-start program pass c.new-first_values.result.items is c.new-first_values.ensures.items);
    }

pub item-requires : goal.item-requires
item-requires c = c.loop-tree.invariant.reading.outside

pub returns-in_err-item-clause-refused : goal.returns-in_err-item-clause-refused
returns-in_err-item-clause-refused c = λ violation h. not-refused c.from_residual-in_err-item.result violation c.from_residual-in_err-item.ensures.1 h

pub loop-tree-preserved : goal.loop-tree-preserved
loop-tree-preserved c =
    let slice = c.as_slice-tree-items.result.now in
    let index = c.loop-tree.tree-index in
    let program = program_tree c.args.program.now in
    let left = map item_tree (drop index slice) in
    let others = map item_tree (drop (index + 1) slice) in
    let tree = item_tree c.tree-item.result in
    let more = trees-next item_tree slice slice refl index c.tree-item.result c.loop-tree-test.true c.tree-item.is in
    let own = c.in_ok-item.ensures in
    let far = c.loop-tree.invariant in
    record {
      reading = reading-step program left others tree c.loop-tree.pass c.item.new.pass c.loop-tree.defined c.item.new.defined more own.reaches own.defined far.reading;
      keeping = keeping-step program left others tree c.loop-tree.pass c.item.new.pass c.loop-tree.first_values.items c.item.new.values.items more own.reaches own.values far.keeping;
    }

pub returns-in-Some-clause-refused : goal.returns-in-Some-clause-refused
returns-in-Some-clause-refused c = λ violation h.
    let program = program_tree c.args.program.now in
    let slice = c.as_slice-tree-items.result.now in
    let index = c.loop-tree.tree-index in
    let pass = c.loop-tree.pass in
    let defined = c.loop-tree.defined in
    let read = reading-end program (map item_tree (drop index slice)) pass defined (trees-end item_tree slice slice refl index c.loop-tree-test.false) c.loop-tree.invariant.reading in
    refused-same program c.least.result c.in-Some.violation violation (c.least.ensures ∙ refusal-noted program pass defined c.require.new.self c.defines-has_main.result read c.defines-has_main.ensures c.require.ensures.noted) c.in-Some.is h

pub returns-in_err-completed-clause-refused : goal.returns-in_err-completed-clause-refused
returns-in_err-completed-clause-refused c = λ violation h. not-refused c.from_residual.result violation c.from_residual.ensures.1 h

pub returns-in_err-literals-clause-refused : goal.returns-in_err-literals-clause-refused
returns-in_err-literals-clause-refused c = λ violation h. not-refused c.from_residual-in_err-literals.result violation c.from_residual-in_err-literals.ensures.1 h

pub returns-clause-accepted : goal.returns-clause-accepted
returns-clause-accepted c =
    let program = program_tree c.args.program.now in
    let slice = c.as_slice-tree-items.result.now in
    let index = c.loop-tree.tree-index in
    let pass = c.loop-tree.pass in
    let defined = c.loop-tree.defined in
    let read = reading-end program (map item_tree (drop index slice)) pass defined (trees-end item_tree slice slice refl index c.loop-tree-test.false) c.loop-tree.invariant.reading in
    let refusal-is = refusal-noted program pass defined c.require.new.self c.defines-has_main.result read c.defines-has_main.ensures c.require.ensures.noted in
    least-none (violations program) (sym refusal-is ∙ sym c.least.ensures ∙ option-none c.least.result c.in_default.not-Some)

pub returns-clause-typed : goal.returns-clause-typed
returns-clause-typed c =
    let program = program_tree c.args.program.now in
    let slice = c.as_slice-tree-items.result.now in
    let index = c.loop-tree.tree-index in
    let pass = c.loop-tree.pass in
    let defined = c.loop-tree.defined in
    let read = reading-end program (map item_tree (drop index slice)) pass defined (trees-end item_tree slice slice refl index c.loop-tree-test.false) c.loop-tree.invariant.reading in
    let types = c.into_types-types.ensures ∙ ap (λ (state : State). state.table) c.require.ensures.noted in
    let grows = subst (λ (table : Interned). Grows table c.literals_of.new.types) types c.in_ok-literals.ensures.grows in
    let p : memory_program.Program = record { types = c.literals_of.new.types; completed = c.in_ok-completed.completed; globals = c.into_vec.result; literals = c.in_ok-literals.literals; functions = defined.functions } in
    typed-whole program pass defined p read grows c.in_ok-completed.ensures c.into_vec.ensures c.in_ok-literals.ensures.literals refl

pub returns-clause-named : goal.returns-clause-named
returns-clause-named c =
    let program = program_tree c.args.program.now in
    let slice = c.as_slice-tree-items.result.now in
    let index = c.loop-tree.tree-index in
    let pass = c.loop-tree.pass in
    let defined = c.loop-tree.defined in
    let read = reading-end program (map item_tree (drop index slice)) pass defined (trees-end item_tree slice slice refl index c.loop-tree-test.false) c.loop-tree.invariant.reading in
    let types = c.into_types-types.ensures ∙ ap (λ (state : State). state.table) c.require.ensures.noted in
    let grows = subst (λ (table : Interned). Grows table c.literals_of.new.types) types c.in_ok-literals.ensures.grows in
    (named-whole program pass defined c.literals_of.new.types read grows).1

pub returns-clause-stands : goal.returns-clause-stands
returns-clause-stands c =
    let program = program_tree c.args.program.now in
    let slice = c.as_slice-tree-items.result.now in
    let index = c.loop-tree.tree-index in
    let pass = c.loop-tree.pass in
    let defined = c.loop-tree.defined in
    let read = reading-end program (map item_tree (drop index slice)) pass defined (trees-end item_tree slice slice refl index c.loop-tree-test.false) c.loop-tree.invariant.reading in
    let types = c.into_types-types.ensures ∙ ap (λ (state : State). state.table) c.require.ensures.noted in
    let grows = subst (λ (table : Interned). Grows table c.literals_of.new.types) types c.in_ok-literals.ensures.grows in
    let p : memory_program.Program = record { types = c.literals_of.new.types; completed = c.in_ok-completed.completed; globals = c.into_vec.result; literals = c.in_ok-literals.literals; functions = defined.functions } in
    (whole-stands program pass defined p read grows c.into_vec.ensures c.in_ok-literals.ensures.stand refl, (named-whole program pass defined c.literals_of.new.types read grows).0)

pub returns-clause-first : goal.returns-clause-first
returns-clause-first c =
    let slice = c.as_slice-tree-items.result.now in
    let types = c.into_types-types.ensures ∙ ap (λ (state : State). state.table) c.require.ensures.noted in
    let grows = subst (λ (table : Interned). Grows table c.literals_of.new.types) types c.in_ok-literals.ensures.grows in
    all-mean
    (keeping-end (program_tree c.args.program.now) (map item_tree (drop c.loop-tree.tree-index slice)) c.loop-tree.pass c.loop-tree.first_values.items c.literals_of.new.types
    (trees-end item_tree slice slice refl c.loop-tree.tree-index c.loop-tree-test.false) c.loop-tree.invariant.keeping grows)

pub returns-clause-first_stands : goal.returns-clause-first_stands
returns-clause-first_stands c =
    let slice = c.as_slice-tree-items.result.now in
    let types = c.into_types-types.ensures ∙ ap (λ (state : State). state.table) c.require.ensures.noted in
    let grows = subst (λ (table : Interned). Grows table c.literals_of.new.types) types c.in_ok-literals.ensures.grows in
    all-stand
    (keeping-end (program_tree c.args.program.now) (map item_tree (drop c.loop-tree.tree-index slice)) c.loop-tree.pass c.loop-tree.first_values.items c.literals_of.new.types
    (trees-end item_tree slice slice refl c.loop-tree.tree-index c.loop-tree-test.false) c.loop-tree.invariant.keeping grows)

pub returns-clause-well_typed : goal.returns-clause-well_typed
returns-clause-well_typed c = λ listed. subst IsWellTyped (sym (returns-clause-typed c)) (elaboration_keeps_types (program_tree c.args.program.now) listed (returns-clause-accepted c))
