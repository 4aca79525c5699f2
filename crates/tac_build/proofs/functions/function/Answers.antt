use Rattle.std.proofs.Common.{◌≡◌, true, Some, [], length, map, refl, sym, ap, ◌∙◌, subst, arith}
use Rattle.c_typed.specs.Table.{type_in}
use Rattle.c_typed.specs.StatementViews.{block_in}
use Rattle.c_typed.specs.DefinitionViews.{TypesStand}
use Rattle.c_typed.specs.TypedNodes.{block_nodes}
use Rattle.c_typed.specs.Programs.{are_scalars}
use Rattle.tac_ir.specs.declared.program.Counts.{Counts}
use Rattle.tac_ir.specs.declared.program.Function as memory_function
use Rattle.tac_build.specs.Homes.{takes_block}
use Rattle.tac_build.specs.Code.{Emits}
use Rattle.tac_build.specs.ProgramCode.{end_of}
use Rattle.tac_build.specs.Taken.{taken_block}
use Rattle.tac_build.specs.Building.{Leads, HasRoom}
use Rattle.tac_build.specs.Lowering.{names_for, types_of_source, scope_of, LieInMemory}
use Rattle.tac_build.specs.LoweringStatements.{BlockTyped, Foretold, BlockLowers}
use Rattle.tac_build.specs.LoweringDefinitions.{ParametersForetold, parameter_homes, ParametersLower}
use Rattle.tac_build.proofs.FunctionCodes.{parameters_stand, parameters_scalar, body_scope, body_typed, body_lives, body_foretold, body_room, function_lowers}
use Rattle.tac_build.proofs.functions.function.Goals as goal

pub parameters-requires-clause-stand : goal.parameters-requires-clause-stand
parameters-requires-clause-stand c =
    subst (TypesStand (types_of_source c.args.source.now)) (sym c.as_slice-types.ensures.value) (parameters_stand c.args.source.now c.args.definition.now c.requires.typed)

pub parameters-requires-clause-scalars : goal.parameters-requires-clause-scalars
parameters-requires-clause-scalars c =
    subst (λ types. are_scalars (map (type_in (types_of_source c.args.source.now)) types) ≡ true) (sym c.as_slice-types.ensures.value)
    (parameters_scalar c.args.source.now c.args.definition.now c.requires.typed)

pub parameters-requires-clause-foretold : goal.parameters-requires-clause-foretold
parameters-requires-clause-foretold c =
    let source = c.args.source.now in let table = types_of_source source in let definition = c.args.definition.now in let body = block_in table definition.body.items in
    let typed = c.requires.typed in let addressed = c.in_ok-addressed.addressed in let types = c.as_slice-types.result.now in let same_types = c.as_slice-types.ensures.value in
    let count : c.len-parameters.result ≡ length definition.parameters.items = omega (arith, c.len-parameters.ensures, definition.parameters.ok.0) in
    let long = ap length same_types in
    let told : ParametersForetold addressed (length types) body = (λ number inside. c.in_ok-addressed.ensures.taken table number (omega (arith, inside, count, long))
    ∙ ap (λ items. Some (takes_block number (block_in table items))) c.as_slice-2.ensures.value) in
    (body, told)

pub block-requires-clause-homes : goal.block-requires-clause-homes
block-requires-clause-homes c =
    let source = c.args.source.now in let table = types_of_source source in let definition = c.args.definition.now in let body = block_in table definition.body.items in
    let typed = c.requires.typed in let addressed = c.in_ok-addressed.addressed in let types = c.as_slice-types.result.now in let same_types = c.as_slice-types.ensures.value in
    let count : c.len-parameters.result ≡ length definition.parameters.items = omega (arith, c.len-parameters.ensures, definition.parameters.ok.0) in
    let long = ap length same_types in
    let told : ParametersForetold addressed (length types) body = (λ number inside. c.in_ok-addressed.ensures.taken table number (omega (arith, inside, count, long))
    ∙ ap (λ items. Some (takes_block number (block_in table items))) c.as_slice-2.ensures.value) in
    let scope = c.parameters.new.scope.items in let entered = c.parameters.new.self in let same_body = c.as_slice-body.ensures.value in
    let is_scope = c.in_ok-parameters.ensures.scope body told ∙ ap (parameter_homes table body 0) same_types in
    body_scope source definition typed scope is_scope

pub block-requires-clause-typed : goal.block-requires-clause-typed
block-requires-clause-typed c =
    let source = c.args.source.now in let table = types_of_source source in let definition = c.args.definition.now in let body = block_in table definition.body.items in
    let typed = c.requires.typed in let addressed = c.in_ok-addressed.addressed in let types = c.as_slice-types.result.now in let same_types = c.as_slice-types.ensures.value in
    let count : c.len-parameters.result ≡ length definition.parameters.items = omega (arith, c.len-parameters.ensures, definition.parameters.ok.0) in
    let long = ap length same_types in
    let told : ParametersForetold addressed (length types) body = (λ number inside. c.in_ok-addressed.ensures.taken table number (omega (arith, inside, count, long))
    ∙ ap (λ items. Some (takes_block number (block_in table items))) c.as_slice-2.ensures.value) in
    let scope = c.parameters.new.scope.items in let entered = c.parameters.new.self in let same_body = c.as_slice-body.ensures.value in
    let is_scope = c.in_ok-parameters.ensures.scope body told ∙ ap (parameter_homes table body 0) same_types in
    let own = body_typed source definition typed scope is_scope in
    (own.0, subst (λ items. BlockTyped source scope own.0 items) (sym same_body) own.1)

pub block-requires-clause-lives : goal.block-requires-clause-lives
block-requires-clause-lives c =
    let source = c.args.source.now in let table = types_of_source source in let definition = c.args.definition.now in let body = block_in table definition.body.items in
    let typed = c.requires.typed in let addressed = c.in_ok-addressed.addressed in let types = c.as_slice-types.result.now in let same_types = c.as_slice-types.ensures.value in
    let count : c.len-parameters.result ≡ length definition.parameters.items = omega (arith, c.len-parameters.ensures, definition.parameters.ok.0) in
    let long = ap length same_types in
    let told : ParametersForetold addressed (length types) body = (λ number inside. c.in_ok-addressed.ensures.taken table number (omega (arith, inside, count, long))
    ∙ ap (λ items. Some (takes_block number (block_in table items))) c.as_slice-2.ensures.value) in
    let scope = c.parameters.new.scope.items in let entered = c.parameters.new.self in let same_body = c.as_slice-body.ensures.value in
    let is_scope = c.in_ok-parameters.ensures.scope body told ∙ ap (parameter_homes table body 0) same_types in
    subst (λ items. LieInMemory (scope_of source scope) (λ number. takes_block number (block_in table items))) (sym same_body)
    (body_lives source definition typed scope is_scope)

pub block-requires-clause-foretold : goal.block-requires-clause-foretold
block-requires-clause-foretold c =
    let source = c.args.source.now in let table = types_of_source source in let definition = c.args.definition.now in let body = block_in table definition.body.items in
    let typed = c.requires.typed in let addressed = c.in_ok-addressed.addressed in let types = c.as_slice-types.result.now in let same_types = c.as_slice-types.ensures.value in
    let count : c.len-parameters.result ≡ length definition.parameters.items = omega (arith, c.len-parameters.ensures, definition.parameters.ok.0) in
    let long = ap length same_types in
    let told : ParametersForetold addressed (length types) body = (λ number inside. c.in_ok-addressed.ensures.taken table number (omega (arith, inside, count, long))
    ∙ ap (λ items. Some (takes_block number (block_in table items))) c.as_slice-2.ensures.value) in
    let scope = c.parameters.new.scope.items in let entered = c.parameters.new.self in let same_body = c.as_slice-body.ensures.value in
    let is_scope = c.in_ok-parameters.ensures.scope body told ∙ ap (parameter_homes table body 0) same_types in
    let counts = c.in_ok-parameters.ensures.counts ∙ c.new-builder.ensures.counts in
    let variables = c.in_ok-addressed.ensures.variables table ∙ (λ i. taken_block (count i) (block_in table (c.as_slice-2.ensures.value i))) in
    subst (λ items. Foretold addressed entered.counts.variables (taken_block (length scope) (block_in table items))) (sym same_body)
    (body_foretold source definition typed scope is_scope addressed entered.counts.variables variables (ap (λ (counts : Counts). counts.variables) counts))

pub block-requires-clause-room : goal.block-requires-clause-room
block-requires-clause-room c =
    let source = c.args.source.now in let table = types_of_source source in let definition = c.args.definition.now in let body = block_in table definition.body.items in
    let typed = c.requires.typed in let addressed = c.in_ok-addressed.addressed in let types = c.as_slice-types.result.now in let same_types = c.as_slice-types.ensures.value in
    let count : c.len-parameters.result ≡ length definition.parameters.items = omega (arith, c.len-parameters.ensures, definition.parameters.ok.0) in
    let long = ap length same_types in
    let told : ParametersForetold addressed (length types) body = (λ number inside. c.in_ok-addressed.ensures.taken table number (omega (arith, inside, count, long))
    ∙ ap (λ items. Some (takes_block number (block_in table items))) c.as_slice-2.ensures.value) in
    let scope = c.parameters.new.scope.items in let entered = c.parameters.new.self in let same_body = c.as_slice-body.ensures.value in
    let is_scope = c.in_ok-parameters.ensures.scope body told ∙ ap (parameter_homes table body 0) same_types in
    let counts = c.in_ok-parameters.ensures.counts ∙ c.new-builder.ensures.counts in
    subst (λ items. HasRoom entered (names_for (block_nodes (block_in table items)))) (sym same_body) (body_room source definition typed scope is_scope entered counts)

pub returns : goal.returns
returns c =
    let source = c.args.source.now in let table = types_of_source source in let definition = c.args.definition.now in let body = block_in table definition.body.items in
    let typed = c.requires.typed in let addressed = c.in_ok-addressed.addressed in let types = c.as_slice-types.result.now in let same_types = c.as_slice-types.ensures.value in
    let count : c.len-parameters.result ≡ length definition.parameters.items = omega (arith, c.len-parameters.ensures, definition.parameters.ok.0) in
    let long = ap length same_types in
    let told : ParametersForetold addressed (length types) body = (λ number inside. c.in_ok-addressed.ensures.taken table number (omega (arith, inside, count, long))
    ∙ ap (λ items. Some (takes_block number (block_in table items))) c.as_slice-2.ensures.value) in
    let scope = c.parameters.new.scope.items in let entered = c.parameters.new.self in let same_body = c.as_slice-body.ensures.value in
    let is_scope = c.in_ok-parameters.ensures.scope body told ∙ ap (parameter_homes table body 0) same_types in
    let last = c.block.new.self in let end = c.end.new.self in
    let function : memory_function.Function =
    record { name = c.in_ok-name.name; c_type = definition.c_type; parameters = c.len-parameters.result; counts = end.counts; objects = end.objects; points = end.points } in
    function_lowers source definition typed scope is_scope c.new-builder.result entered last end (record { broken = record { 0 = 0 }; continued = record { 0 = 0 } }) function
    c.new-builder.ensures.points c.new-builder.ensures.counts c.new-builder.ensures.objects
    (subst (λ types. ParametersLower source body types scope c.new-builder.result entered) same_types (c.in_ok-parameters.ensures.code body told))
    refl refl (subst (λ items. BlockLowers source scope (record { broken = record { 0 = 0 }; continued = record { 0 = 0 } }) items entered last) same_body c.in_ok-block.ensures.code) c.in_ok-block.ensures.grows
    (subst (λ name. Leads (λ table points. Emits points (end_of name)) last end) c.as_slice-3.ensures c.in_ok-end.ensures.code) c.in_ok-end.ensures.grows
    (c.in_ok-name.ensures ∙ c.as_slice.ensures) refl count refl refl refl
