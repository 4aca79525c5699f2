use Rattle.std.proofs.Common.{◌+◌, [], get_or, sym, ap, ◌∙◌, subst, arith}
use Rattle.std.proofs.lemmas.List.{drop_more}
use Rattle.std.proofs.lemmas.Option.{slice_get_within, slice_get-get_or, get_or_from_slice_get}
use Rattle.c_typed.specs.declared.c_type.CType as numbers
use Rattle.c_typed.specs.Table.{Stands, type_in}
use Rattle.tac_build.specs.Homes.{lies_in_memory, takes_block}
use Rattle.tac_build.specs.Lowering.{types_of_source}
use Rattle.tac_build.proofs.LocalsSoFar.{drop_past}
use Rattle.tac_build.proofs.Parameters.{ParametersSoFar, parameters_begin, parameters_next, parameters_lower, parameters_homes, all_stand, all_scalar}
use Rattle.tac_build.proofs.builder.Builder.parameters.Goals as goal

pub loop-number-init : goal.loop-number-init
loop-number-init c = parameters_begin c.args.source.now c.args.addressed.now c.args.scope.now.items c.args.parameters.now c.args.self.now c.requires.none

pub index-is_taken-requires : goal.index-is_taken-requires
index-is_taken-requires c =
    let source = c.args.source.now in let table = types_of_source source in let addressed = c.args.addressed.now in let scope = c.loop-number.scope.items in
    let all = c.args.parameters.now in let number = c.loop-number.number in let old = c.args.self.now in let now = c.loop-number.self in
    let told = c.requires.foretold in
    let within = slice_get_within addressed.parameters.items number (takes_block number told.0) (told.1 number c.loop-number-test.true) in
    omega (arith, within, addressed.parameters.ok.0)

pub lies_in_memory-requires : goal.lies_in_memory-requires
lies_in_memory-requires c =
    let source = c.args.source.now in let table = types_of_source source in let addressed = c.args.addressed.now in let scope = c.loop-number.scope.items in
    let all = c.args.parameters.now in let number = c.loop-number.number in let old = c.args.self.now in let now = c.loop-number.self in
    let t : numbers.CType = get_or all number (record { 0 = 0 }) in let at = slice_get-get_or all number (record { 0 = 0 }) c.loop-number-test.true in
    subst (λ table. Stands table t) (sym c.types.ensures) (all_stand table all number t c.requires.stand at)

pub parameter-requires-clause-stands : goal.parameter-requires-clause-stands
parameter-requires-clause-stands c =
    let source = c.args.source.now in let table = types_of_source source in let addressed = c.args.addressed.now in let scope = c.loop-number.scope.items in
    let all = c.args.parameters.now in let number = c.loop-number.number in let old = c.args.self.now in let now = c.loop-number.self in
    let t : numbers.CType = get_or all number (record { 0 = 0 }) in let at = slice_get-get_or all number (record { 0 = 0 }) c.loop-number-test.true in
    all_stand table all number t c.requires.stand at

pub parameter-requires-clause-kind : goal.parameter-requires-clause-kind
parameter-requires-clause-kind c =
    let source = c.args.source.now in let table = types_of_source source in let addressed = c.args.addressed.now in let scope = c.loop-number.scope.items in
    let all = c.args.parameters.now in let number = c.loop-number.number in let old = c.args.self.now in let now = c.loop-number.self in
    let t : numbers.CType = get_or all number (record { 0 = 0 }) in let at = slice_get-get_or all number (record { 0 = 0 }) c.loop-number-test.true in
    all_scalar table all number t c.requires.scalars at

pub loop-number-preserved : goal.loop-number-preserved
loop-number-preserved c =
    let source = c.args.source.now in let table = types_of_source source in let addressed = c.args.addressed.now in let scope = c.loop-number.scope.items in
    let all = c.args.parameters.now in let number = c.loop-number.number in let old = c.args.self.now in let now = c.loop-number.self in
    let t : numbers.CType = get_or all number (record { 0 = 0 }) in let at = slice_get-get_or all number (record { 0 = 0 }) c.loop-number-test.true in
    let is_object = c.lies_in_memory.result in let taken = c.index-is_taken.result.now in
    subst (λ scope. ParametersSoFar source addressed scope all (number + 1) old c.parameter.new.self) (sym c.in_ok-push.ensures.items)
    (parameters_next source addressed scope all number t is_object old now c.parameter.new.self (drop_more all number (record { 0 = 0 }) c.loop-number-test.true)
    (λ body told. c.lies_in_memory.ensures
    ∙ ap (λ table. lies_in_memory (type_in table t) taken) c.types.ensures
    ∙ ap (lies_in_memory (type_in table t)) (c.index-is_taken.ensures ∙ get_or_from_slice_get addressed.parameters.items number (takes_block number body) taken (told number c.loop-number-test.true)))
    c.in_ok-parameter.ensures.code c.in_ok-parameter.ensures.grows c.in_ok-parameter.ensures.counts c.loop-number.invariant)

pub returns-clause-code : goal.returns-clause-code
returns-clause-code c =
    let source = c.args.source.now in let table = types_of_source source in let addressed = c.args.addressed.now in let scope = c.loop-number.scope.items in
    let all = c.args.parameters.now in let number = c.loop-number.number in let old = c.args.self.now in let now = c.loop-number.self in
    λ body told. parameters_lower source addressed scope all number old now (drop_past all number c.loop-number-test.false) c.loop-number.invariant body told

pub returns-clause-scope : goal.returns-clause-scope
returns-clause-scope c =
    let source = c.args.source.now in let table = types_of_source source in let addressed = c.args.addressed.now in let scope = c.loop-number.scope.items in
    let all = c.args.parameters.now in let number = c.loop-number.number in let old = c.args.self.now in let now = c.loop-number.self in
    λ body told. parameters_homes source addressed scope all number old now (drop_past all number c.loop-number-test.false) c.loop-number.invariant body told

pub returns-clause-grows : goal.returns-clause-grows
returns-clause-grows c =
    c.loop-number.invariant.grows

pub returns-clause-counts : goal.returns-clause-counts
returns-clause-counts c =
    c.loop-number.invariant.counts
