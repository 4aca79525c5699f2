use Rattle.std.proofs.Common.{◌+◌, List, [], ◌∷◌, drop, subst, arith}
use Rattle.c_typed.specs.declared.statement.LocalDef as memory_local
use Rattle.tac_build.proofs.LocalsSoFar.{LocalsSoFar, drop_next, drop_past, locals_begin, locals_at, local_typed, local_lives, local_own, local_room, locals_turn, locals_lower, locals_depth, locals_add, locals_count}
use Rattle.tac_build.proofs.builder.Builder.declare_all.Goals as goal

pub loop-local-init : goal.loop-local-init
loop-local-init c = locals_begin c.args.source.now c.args.addressed.now c.args.scope.now.items c.args.locals.now c.args.self.now c.requires.homes c.requires.typed c.requires.lives c.requires.foretold

pub declare-requires-clause-homes : goal.declare-requires-clause-homes
declare-requires-clause-homes c =
    c.loop-local.invariant.homes

pub declare-requires-clause-typed : goal.declare-requires-clause-typed
declare-requires-clause-typed c =
    let source = c.args.source.now in let addressed = c.args.addressed.now in let outer = c.args.scope.now.items in let scope = c.loop-local.scope.items in
    let all = c.args.locals.now in let here = c.loop-local.local-index in let local = c.local-item.result in let rest = drop (here + 1) all in
    let old = c.args.self.now in let now = c.loop-local.self in
    let far = locals_at source addressed outer scope all (drop here all) local rest old now (drop_next all here local c.loop-local-test.true c.local-item.is) c.loop-local.invariant in
    local_typed source addressed outer scope all rest local old now far

pub declare-requires-clause-lives : goal.declare-requires-clause-lives
declare-requires-clause-lives c =
    let source = c.args.source.now in let addressed = c.args.addressed.now in let outer = c.args.scope.now.items in let scope = c.loop-local.scope.items in
    let all = c.args.locals.now in let here = c.loop-local.local-index in let local = c.local-item.result in let rest = drop (here + 1) all in
    let old = c.args.self.now in let now = c.loop-local.self in
    let far = locals_at source addressed outer scope all (drop here all) local rest old now (drop_next all here local c.loop-local-test.true c.local-item.is) c.loop-local.invariant in
    local_lives source addressed outer scope all rest local old now far

pub declare-requires-clause-own : goal.declare-requires-clause-own
declare-requires-clause-own c =
    let source = c.args.source.now in let addressed = c.args.addressed.now in let outer = c.args.scope.now.items in let scope = c.loop-local.scope.items in
    let all = c.args.locals.now in let here = c.loop-local.local-index in let local = c.local-item.result in let rest = drop (here + 1) all in
    let old = c.args.self.now in let now = c.loop-local.self in
    let far = locals_at source addressed outer scope all (drop here all) local rest old now (drop_next all here local c.loop-local-test.true c.local-item.is) c.loop-local.invariant in
    local_own source addressed outer scope all rest local old now far

pub declare-requires-clause-room : goal.declare-requires-clause-room
declare-requires-clause-room c =
    let source = c.args.source.now in let addressed = c.args.addressed.now in let outer = c.args.scope.now.items in let scope = c.loop-local.scope.items in
    let all = c.args.locals.now in let here = c.loop-local.local-index in let local = c.local-item.result in let rest = drop (here + 1) all in
    let old = c.args.self.now in let now = c.loop-local.self in
    let far = locals_at source addressed outer scope all (drop here all) local rest old now (drop_next all here local c.loop-local-test.true c.local-item.is) c.loop-local.invariant in
    local_room source addressed outer scope all rest local old now far c.requires.room

pub loop-local-preserved : goal.loop-local-preserved
loop-local-preserved c =
    let source = c.args.source.now in let addressed = c.args.addressed.now in let outer = c.args.scope.now.items in let scope = c.loop-local.scope.items in
    let all = c.args.locals.now in let here = c.loop-local.local-index in let local = c.local-item.result in let rest = drop (here + 1) all in
    let old = c.args.self.now in let now = c.loop-local.self in
    let far = locals_at source addressed outer scope all (drop here all) local rest old now (drop_next all here local c.loop-local-test.true c.local-item.is) c.loop-local.invariant in
    locals_turn source addressed outer scope c.declare.new.scope.items all rest local old now c.declare.new.self far
    c.in_ok-declare.ensures.code c.in_ok-declare.ensures.homes c.in_ok-declare.ensures.grows c.in_ok-declare.ensures.adds c.in_ok-declare.ensures.variables

pub returns-clause-code : goal.returns-clause-code
returns-clause-code c =
    let source = c.args.source.now in let addressed = c.args.addressed.now in let outer = c.args.scope.now.items in let scope = c.loop-local.scope.items in
    let all = c.args.locals.now in let here = c.loop-local.local-index in let old = c.args.self.now in let now = c.loop-local.self in
    let far = subst (λ left. LocalsSoFar source addressed outer scope all left old now) (drop_past all here (omega (arith, c.loop-local-test.false))) c.loop-local.invariant in
    locals_lower source addressed outer scope all old now far

pub returns-clause-scope : goal.returns-clause-scope
returns-clause-scope c =
    c.loop-local.invariant.begun

pub returns-clause-homes : goal.returns-clause-homes
returns-clause-homes c =
    c.loop-local.invariant.homes

pub returns-clause-depth : goal.returns-clause-depth
returns-clause-depth c =
    let source = c.args.source.now in let addressed = c.args.addressed.now in let outer = c.args.scope.now.items in let scope = c.loop-local.scope.items in
    let all = c.args.locals.now in let here = c.loop-local.local-index in let old = c.args.self.now in let now = c.loop-local.self in
    let far = subst (λ left. LocalsSoFar source addressed outer scope all left old now) (drop_past all here (omega (arith, c.loop-local-test.false))) c.loop-local.invariant in
    locals_depth source addressed outer scope all old now far

pub returns-clause-grows : goal.returns-clause-grows
returns-clause-grows c =
    c.loop-local.invariant.grows

pub returns-clause-adds : goal.returns-clause-adds
returns-clause-adds c =
    let source = c.args.source.now in let addressed = c.args.addressed.now in let outer = c.args.scope.now.items in let scope = c.loop-local.scope.items in
    let all = c.args.locals.now in let here = c.loop-local.local-index in let old = c.args.self.now in let now = c.loop-local.self in
    let far = subst (λ left. LocalsSoFar source addressed outer scope all left old now) (drop_past all here (omega (arith, c.loop-local-test.false))) c.loop-local.invariant in
    locals_add source addressed outer scope all old now far

pub returns-clause-variables : goal.returns-clause-variables
returns-clause-variables c =
    let source = c.args.source.now in let addressed = c.args.addressed.now in let outer = c.args.scope.now.items in let scope = c.loop-local.scope.items in
    let all = c.args.locals.now in let here = c.loop-local.local-index in let old = c.args.self.now in let now = c.loop-local.self in
    let far = subst (λ left. LocalsSoFar source addressed outer scope all left old now) (drop_past all here (omega (arith, c.loop-local-test.false))) c.loop-local.invariant in
    locals_count source addressed outer scope all old now far
