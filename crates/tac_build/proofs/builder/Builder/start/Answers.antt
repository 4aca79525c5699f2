use Rattle.std.proofs.Common.{false, List, [], ◌∷◌, map, sym, ap, ◌∙◌, subst}
use Rattle.std.proofs.lemmas.List.{append-nil}
use Rattle.c_typed.specs.Typed as T
use Rattle.c_typed.specs.StatementViews.{local_in, LocalsStand, StartStands, start_in}
use Rattle.c_typed.specs.Views.{value_in}
use Rattle.tac_build.specs.Homes.{takes}
use Rattle.tac_build.specs.Lowering.{types_of_source, scope_of, IsScope, LieInMemory, ValueTyped}
use Rattle.tac_build.specs.LoweringStatements.{EffectLowers}
use Rattle.tac_build.proofs.Points.{on_ok_then, grows_same}
use Rattle.tac_build.proofs.Starting.{nothing_lowers, nothing_depth, nothing_adds, nothing_declares, expression_typed, expression_lives, expression_room, expression_lowers, expression_depth, expression_adds, expression_declares, locals_typed, locals_lives, locals_told, locals_room, locals_lowers, locals_behind, locals_adds, locals_declare}
use Rattle.tac_build.proofs.builder.Builder.start.Goals as goal

pub returns-in-Nothing-clause-code : goal.returns-in-Nothing-clause-code
returns-in-Nothing-clause-code c =
    let source = c.args.source.now in let table = types_of_source source in let scope = c.args.scope.now.items in let start = c.args.start.now in let old = c.args.self.now in
    let is = ap (start_in table) c.in-Nothing.is in
    λ is_taken told. nothing_lowers source scope start old is is_taken

pub returns-in-Nothing-clause-scope : goal.returns-in-Nothing-clause-scope
returns-in-Nothing-clause-scope c =
    let source = c.args.source.now in let table = types_of_source source in let scope = c.args.scope.now.items in let start = c.args.start.now in let old = c.args.self.now in
    let is = ap (start_in table) c.in-Nothing.is in
    ([], sym (append-nil scope))

pub returns-in-Nothing-clause-homes : goal.returns-in-Nothing-clause-homes
returns-in-Nothing-clause-homes c =
    let source = c.args.source.now in let table = types_of_source source in let scope = c.args.scope.now.items in let start = c.args.start.now in let old = c.args.self.now in
    let is = ap (start_in table) c.in-Nothing.is in
    c.requires.homes

pub returns-in-Nothing-clause-depth : goal.returns-in-Nothing-clause-depth
returns-in-Nothing-clause-depth c =
    let source = c.args.source.now in let table = types_of_source source in let scope = c.args.scope.now.items in let start = c.args.start.now in let old = c.args.self.now in
    let is = ap (start_in table) c.in-Nothing.is in
    nothing_depth source scope start old is

pub returns-in-Nothing-clause-grows : goal.returns-in-Nothing-clause-grows
returns-in-Nothing-clause-grows c =
    let source = c.args.source.now in let table = types_of_source source in let scope = c.args.scope.now.items in let start = c.args.start.now in let old = c.args.self.now in
    let is = ap (start_in table) c.in-Nothing.is in
    grows_same old

pub returns-in-Nothing-clause-adds : goal.returns-in-Nothing-clause-adds
returns-in-Nothing-clause-adds c =
    let source = c.args.source.now in let table = types_of_source source in let scope = c.args.scope.now.items in let start = c.args.start.now in let old = c.args.self.now in
    let is = ap (start_in table) c.in-Nothing.is in
    nothing_adds source scope start old is

pub returns-in-Nothing-clause-variables : goal.returns-in-Nothing-clause-variables
returns-in-Nothing-clause-variables c =
    let source = c.args.source.now in let table = types_of_source source in let scope = c.args.scope.now.items in let start = c.args.start.now in let old = c.args.self.now in
    let is = ap (start_in table) c.in-Nothing.is in
    λ is_taken. nothing_declares source scope start old is is_taken

pub effect-requires-clause-homes : goal.effect-requires-clause-homes
effect-requires-clause-homes c =
    let source = c.args.source.now in let table = types_of_source source in let scope = c.args.scope.now.items in let start = c.args.start.now in let old = c.args.self.now in
    let value = c.in-Value.value in let is = ap (start_in table) c.in-Value.is in let same = c.as_slice.ensures.value in
    subst (IsScope source) (sym same) c.requires.homes

pub effect-requires-clause-typed : goal.effect-requires-clause-typed
effect-requires-clause-typed c =
    let source = c.args.source.now in let table = types_of_source source in let scope = c.args.scope.now.items in let start = c.args.start.now in let old = c.args.self.now in
    let value = c.in-Value.value in let is = ap (start_in table) c.in-Value.is in let same = c.as_slice.ensures.value in
    subst (λ scope. ValueTyped source scope value) (sym same) (expression_typed source scope start value is (subst (StartStands table) c.in-Value.is c.requires.typed.stands) c.requires.typed)

pub effect-requires-clause-lives : goal.effect-requires-clause-lives
effect-requires-clause-lives c =
    let source = c.args.source.now in let table = types_of_source source in let scope = c.args.scope.now.items in let start = c.args.start.now in let old = c.args.self.now in
    let value = c.in-Value.value in let is = ap (start_in table) c.in-Value.is in let same = c.as_slice.ensures.value in
    subst (λ scope. LieInMemory (scope_of source scope) (λ number. takes false number (value_in table value))) (sym same) (expression_lives source scope start value is c.requires.lives)

pub effect-requires-clause-room : goal.effect-requires-clause-room
effect-requires-clause-room c =
    let source = c.args.source.now in let table = types_of_source source in let scope = c.args.scope.now.items in let start = c.args.start.now in let old = c.args.self.now in
    let value = c.in-Value.value in let is = ap (start_in table) c.in-Value.is in let same = c.as_slice.ensures.value in
    expression_room source scope start value is old c.requires.room

pub returns-in-Value-clause-code : goal.returns-in-Value-clause-code
returns-in-Value-clause-code c =
    let source = c.args.source.now in let table = types_of_source source in let scope = c.args.scope.now.items in let start = c.args.start.now in let old = c.args.self.now in
    let value = c.in-Value.value in let is = ap (start_in table) c.in-Value.is in let new = c.effect.new.self in let same = c.as_slice.ensures.value in
    on_ok_then c.effect.result (λ lowers is_taken told. expression_lowers source scope start value is old new (subst (λ scope. EffectLowers source scope value old new) same lowers) is_taken) c.effect.ensures.code

pub returns-in-Value-clause-scope : goal.returns-in-Value-clause-scope
returns-in-Value-clause-scope c =
    let source = c.args.source.now in let table = types_of_source source in let scope = c.args.scope.now.items in let start = c.args.start.now in let old = c.args.self.now in
    let value = c.in-Value.value in let is = ap (start_in table) c.in-Value.is in let new = c.effect.new.self in let same = c.as_slice.ensures.value in
    on_ok_then c.effect.result (λ grows. ([], sym (append-nil scope))) c.effect.ensures.grows

pub returns-in-Value-clause-homes : goal.returns-in-Value-clause-homes
returns-in-Value-clause-homes c =
    let source = c.args.source.now in let table = types_of_source source in let scope = c.args.scope.now.items in let start = c.args.start.now in let old = c.args.self.now in
    let value = c.in-Value.value in let is = ap (start_in table) c.in-Value.is in let new = c.effect.new.self in let same = c.as_slice.ensures.value in
    on_ok_then c.effect.result (λ grows. c.requires.homes) c.effect.ensures.grows

pub returns-in-Value-clause-depth : goal.returns-in-Value-clause-depth
returns-in-Value-clause-depth c =
    let source = c.args.source.now in let table = types_of_source source in let scope = c.args.scope.now.items in let start = c.args.start.now in let old = c.args.self.now in
    let value = c.in-Value.value in let is = ap (start_in table) c.in-Value.is in let new = c.effect.new.self in let same = c.as_slice.ensures.value in
    on_ok_then c.effect.result (λ grows. expression_depth source scope start value is) c.effect.ensures.grows

pub returns-in-Value-clause-adds : goal.returns-in-Value-clause-adds
returns-in-Value-clause-adds c =
    let source = c.args.source.now in let table = types_of_source source in let scope = c.args.scope.now.items in let start = c.args.start.now in let old = c.args.self.now in
    let value = c.in-Value.value in let is = ap (start_in table) c.in-Value.is in let new = c.effect.new.self in let same = c.as_slice.ensures.value in
    on_ok_then c.effect.result (λ adds. expression_adds source scope start value is old new adds) c.effect.ensures.adds

pub returns-in-Value-clause-variables : goal.returns-in-Value-clause-variables
returns-in-Value-clause-variables c =
    let source = c.args.source.now in let table = types_of_source source in let scope = c.args.scope.now.items in let start = c.args.start.now in let old = c.args.self.now in
    let value = c.in-Value.value in let is = ap (start_in table) c.in-Value.is in let new = c.effect.new.self in let same = c.as_slice.ensures.value in
    λ is_taken. on_ok_then c.effect.result (λ same. expression_declares source scope start value is old new same is_taken) c.effect.ensures.variables

pub declare_all-requires-clause-typed : goal.declare_all-requires-clause-typed
declare_all-requires-clause-typed c =
    let source = c.args.source.now in let table = types_of_source source in let scope = c.args.scope.now.items in let start = c.args.start.now in let old = c.args.self.now in
    let locals = c.as_slice-in-Locals.result.now in let seen = c.as_slice-in-Locals.ensures.value in
    let is = ap (start_in table) c.in-Locals.is ∙ ap (λ locals. T.StartLocals (map (local_in table) locals)) (sym seen) in
    locals_typed source scope start locals is (subst (LocalsStand table) (sym seen) (subst (StartStands table) c.in-Locals.is c.requires.typed.stands)) c.requires.typed

pub declare_all-requires-clause-lives : goal.declare_all-requires-clause-lives
declare_all-requires-clause-lives c =
    let source = c.args.source.now in let table = types_of_source source in let scope = c.args.scope.now.items in let start = c.args.start.now in let old = c.args.self.now in
    let locals = c.as_slice-in-Locals.result.now in let seen = c.as_slice-in-Locals.ensures.value in
    let is = ap (start_in table) c.in-Locals.is ∙ ap (λ locals. T.StartLocals (map (local_in table) locals)) (sym seen) in
    locals_lives source scope start locals is c.requires.lives

pub declare_all-requires-clause-foretold : goal.declare_all-requires-clause-foretold
declare_all-requires-clause-foretold c =
    let source = c.args.source.now in let table = types_of_source source in let scope = c.args.scope.now.items in let start = c.args.start.now in let old = c.args.self.now in
    let locals = c.as_slice-in-Locals.result.now in let seen = c.as_slice-in-Locals.ensures.value in
    let is = ap (start_in table) c.in-Locals.is ∙ ap (λ locals. T.StartLocals (map (local_in table) locals)) (sym seen) in
    (c.requires.foretold.0, locals_told source scope start locals is c.args.addressed.now old.counts.variables c.requires.foretold.0 c.requires.foretold.1)

pub declare_all-requires-clause-room : goal.declare_all-requires-clause-room
declare_all-requires-clause-room c =
    let source = c.args.source.now in let table = types_of_source source in let scope = c.args.scope.now.items in let start = c.args.start.now in let old = c.args.self.now in
    let locals = c.as_slice-in-Locals.result.now in let seen = c.as_slice-in-Locals.ensures.value in
    let is = ap (start_in table) c.in-Locals.is ∙ ap (λ locals. T.StartLocals (map (local_in table) locals)) (sym seen) in
    locals_room source scope start locals is old c.requires.room

pub returns-in-Locals-clause-code : goal.returns-in-Locals-clause-code
returns-in-Locals-clause-code c =
    let source = c.args.source.now in let table = types_of_source source in let scope = c.args.scope.now.items in let start = c.args.start.now in let old = c.args.self.now in
    let locals = c.as_slice-in-Locals.result.now in let seen = c.as_slice-in-Locals.ensures.value in let new = c.declare_all.new.self in
    let is = ap (start_in table) c.in-Locals.is ∙ ap (λ locals. T.StartLocals (map (local_in table) locals)) (sym seen) in
    on_ok_then c.declare_all.result (λ lowers is_taken told. locals_lowers source scope start locals is c.declare_all.new.scope.items old new is_taken
    (lowers is_taken (locals_told source scope start locals is c.args.addressed.now old.counts.variables is_taken told))) c.declare_all.ensures.code

pub returns-in-Locals-clause-depth : goal.returns-in-Locals-clause-depth
returns-in-Locals-clause-depth c =
    let source = c.args.source.now in let table = types_of_source source in let scope = c.args.scope.now.items in let start = c.args.start.now in let old = c.args.self.now in
    let locals = c.as_slice-in-Locals.result.now in let seen = c.as_slice-in-Locals.ensures.value in let new = c.declare_all.new.self in
    let is = ap (start_in table) c.in-Locals.is ∙ ap (λ locals. T.StartLocals (map (local_in table) locals)) (sym seen) in
    on_ok_then c.declare_all.result (λ long. locals_behind source scope start locals is c.declare_all.new.scope.items long) c.declare_all.ensures.depth

pub returns-in-Locals-clause-adds : goal.returns-in-Locals-clause-adds
returns-in-Locals-clause-adds c =
    let source = c.args.source.now in let table = types_of_source source in let scope = c.args.scope.now.items in let start = c.args.start.now in let old = c.args.self.now in
    let locals = c.as_slice-in-Locals.result.now in let seen = c.as_slice-in-Locals.ensures.value in let new = c.declare_all.new.self in
    let is = ap (start_in table) c.in-Locals.is ∙ ap (λ locals. T.StartLocals (map (local_in table) locals)) (sym seen) in
    on_ok_then c.declare_all.result (λ adds. locals_adds source scope start locals is old new adds) c.declare_all.ensures.adds

pub returns-in-Locals-clause-variables : goal.returns-in-Locals-clause-variables
returns-in-Locals-clause-variables c =
    let source = c.args.source.now in let table = types_of_source source in let scope = c.args.scope.now.items in let start = c.args.start.now in let old = c.args.self.now in
    let locals = c.as_slice-in-Locals.result.now in let seen = c.as_slice-in-Locals.ensures.value in let new = c.declare_all.new.self in
    let is = ap (start_in table) c.in-Locals.is ∙ ap (λ locals. T.StartLocals (map (local_in table) locals)) (sym seen) in
    λ is_taken. on_ok_then c.declare_all.result (λ more. locals_declare source scope start locals is old new more is_taken) c.declare_all.ensures.variables
