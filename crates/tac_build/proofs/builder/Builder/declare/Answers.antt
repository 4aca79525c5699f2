use Rattle.std.proofs.Common.{◌+◌, Bool, true, List, [], ◌∷◌, ◌++◌, sym, ◌∙◌, subst, arith}
use Rattle.c_typed.specs.Table.{Stands, type_in}
use Rattle.c_typed.specs.Views.{value_in}
use Rattle.c_typed.specs.StatementViews.{local_in}
use Rattle.tac_build.specs.declared.lowered.Mode.TheVariants as N
use Rattle.tac_build.specs.declared.homes.Home as memory_home
use Rattle.tac_build.specs.Homes.{takes_optional}
use Rattle.tac_build.specs.Spots.{Kept}
use Rattle.tac_build.specs.StatementCode as codes
use Rattle.tac_build.specs.Building.{lowered_in, home_in, IsScalarType, LeadsIn}
use Rattle.tac_build.specs.Lowering.{types_of_source, scope_of, IsScope, ValueTyped, ValueLives, ValueLowers}
use Rattle.tac_build.proofs.Points.{on_ok_then, grows_on, grows_equal}
use Rattle.tac_build.proofs.Declaring.{new_home_in, new_stands, new_scope, new_lie, first_typed, scalar_type, first_scalar, first_lives, first_room, first_adds, home_adds, home_spot, begin_keeps, first_keeps, home_counts, none_lowers, first_lowers, on_ok_two, home_room}
use Rattle.tac_build.proofs.builder.Builder.declare.Goals as goal

pub new_home-home-requires-clause-stands : goal.new_home-home-requires-clause-stands
new_home-home-requires-clause-stands c =
    subst (λ table. Stands table c.args.local.now.c_type) (sym c.types.ensures) c.requires.typed.stands.0

pub new_home-home-requires-clause-own : goal.new_home-home-requires-clause-own
new_home-home-requires-clause-own c =
    (c.requires.own.0, c.requires.own.1)

pub new_home-home-requires-clause-room : goal.new_home-home-requires-clause-room
new_home-home-requires-clause-room c =
    home_room (types_of_source c.args.source.now) c.args.local.now c.args.self.now c.requires.room

pub value-requires-clause-homes : goal.value-requires-clause-homes
value-requires-clause-homes c =
    let source = c.args.source.now in let table = types_of_source source in let scope = c.args.scope.now.items in let local = c.args.local.now in
    let old = c.args.self.now in let home = c.new_home-home.result in
    let is_new = new_home_in c.types.result.now table c.args.addressed.now old local home c.types.ensures c.new_home-home.ensures.home in
    let own = c.requires.own in let is_own = is_new own.0 own.1 in
    let value = c.in-Some.value in let is = c.in-Some.is in
    let inner = scope ++ home ∷ [] in let same = c.as_slice.ensures.value ∙ c.in_ok-push.ensures.items in
    let named = c.new_home-home.new.self in let mid = c.with_home.new.self in
    let first = first_typed source scope local value home is is_own.1 c.requires.typed in
    subst (IsScope source) (sym same) (new_scope source scope local own.0 home old is_own c.requires.typed c.requires.homes)

pub value-requires-clause-typed : goal.value-requires-clause-typed
value-requires-clause-typed c =
    let source = c.args.source.now in let table = types_of_source source in let scope = c.args.scope.now.items in let local = c.args.local.now in
    let old = c.args.self.now in let home = c.new_home-home.result in
    let is_new = new_home_in c.types.result.now table c.args.addressed.now old local home c.types.ensures c.new_home-home.ensures.home in
    let own = c.requires.own in let is_own = is_new own.0 own.1 in
    let value = c.in-Some.value in let is = c.in-Some.is in
    let inner = scope ++ home ∷ [] in let same = c.as_slice.ensures.value ∙ c.in_ok-push.ensures.items in
    let named = c.new_home-home.new.self in let mid = c.with_home.new.self in
    let first = first_typed source scope local value home is is_own.1 c.requires.typed in
    subst (λ scope. ValueTyped source scope value) (sym same) first.typed

pub value-requires-clause-lives : goal.value-requires-clause-lives
value-requires-clause-lives c =
    let source = c.args.source.now in let table = types_of_source source in let scope = c.args.scope.now.items in let local = c.args.local.now in
    let old = c.args.self.now in let home = c.new_home-home.result in
    let is_new = new_home_in c.types.result.now table c.args.addressed.now old local home c.types.ensures c.new_home-home.ensures.home in
    let own = c.requires.own in let is_own = is_new own.0 own.1 in
    let value = c.in-Some.value in let is = c.in-Some.is in
    let inner = scope ++ home ∷ [] in let same = c.as_slice.ensures.value ∙ c.in_ok-push.ensures.items in
    let named = c.new_home-home.new.self in let mid = c.with_home.new.self in
    let first = first_typed source scope local value home is is_own.1 c.requires.typed in
    subst (λ scope. ValueLives (scope_of source scope) Kept (value_in table value)) (sym same) (first_lives source inner local value is
    (new_lie source scope local own.0 home old is_own (λ number. takes_optional number (local_in table local).first) c.requires.lives own.2))

pub value-requires-clause-room : goal.value-requires-clause-room
value-requires-clause-room c =
    let source = c.args.source.now in let table = types_of_source source in let scope = c.args.scope.now.items in let local = c.args.local.now in
    let old = c.args.self.now in let home = c.new_home-home.result in
    let is_new = new_home_in c.types.result.now table c.args.addressed.now old local home c.types.ensures c.new_home-home.ensures.home in
    let own = c.requires.own in let is_own = is_new own.0 own.1 in
    let value = c.in-Some.value in let is = c.in-Some.is in
    let inner = scope ++ home ∷ [] in let same = c.as_slice.ensures.value ∙ c.in_ok-push.ensures.items in
    let named = c.new_home-home.new.self in let mid = c.with_home.new.self in
    let first = first_typed source scope local value home is is_own.1 c.requires.typed in
    first_room table local value old named mid is c.new_home-home.ensures.adds c.with_home.ensures.counts c.requires.room

pub begin-requires-clause-stands : goal.begin-requires-clause-stands
begin-requires-clause-stands c =
    let source = c.args.source.now in let table = types_of_source source in let scope = c.args.scope.now.items in let local = c.args.local.now in
    let old = c.args.self.now in let home = c.new_home-home.result in
    let is_new = new_home_in c.types.result.now table c.args.addressed.now old local home c.types.ensures c.new_home-home.ensures.home in
    let own = c.requires.own in let is_own = is_new own.0 own.1 in
    let value = c.in-Some.value in let is = c.in-Some.is in
    let inner = scope ++ home ∷ [] in let same = c.as_slice.ensures.value ∙ c.in_ok-push.ensures.items in
    let named = c.new_home-home.new.self in let mid = c.with_home.new.self in
    let first = first_typed source scope local value home is is_own.1 c.requires.typed in
    let found = c.value.new.self in let lowered = c.in_ok-given-in-Some.given in
    let lowers = subst (λ scope. ValueLowers source scope N.Kept value mid found lowered) same c.in_ok-given-in-Some.ensures.code in
    subst (λ table. Stands table home.c_type) (sym c.types-in-Some.ensures) (new_stands source scope local own.0 home old is_own c.requires.typed)

pub begin-requires-clause-kind : goal.begin-requires-clause-kind
begin-requires-clause-kind c =
    let source = c.args.source.now in let table = types_of_source source in let scope = c.args.scope.now.items in let local = c.args.local.now in
    let old = c.args.self.now in let home = c.new_home-home.result in
    let is_new = new_home_in c.types.result.now table c.args.addressed.now old local home c.types.ensures c.new_home-home.ensures.home in
    let own = c.requires.own in let is_own = is_new own.0 own.1 in
    let value = c.in-Some.value in let is = c.in-Some.is in
    let inner = scope ++ home ∷ [] in let same = c.as_slice.ensures.value ∙ c.in_ok-push.ensures.items in
    let named = c.new_home-home.new.self in let mid = c.with_home.new.self in
    let first = first_typed source scope local value home is is_own.1 c.requires.typed in
    let found = c.value.new.self in let lowered = c.in_ok-given-in-Some.given in
    let lowers = subst (λ scope. ValueLowers source scope N.Kept value mid found lowered) same c.in_ok-given-in-Some.ensures.code in
    subst (λ table. IsScalarType (type_in table home.c_type)) (sym c.types-in-Some.ensures) (scalar_type (type_in table home.c_type) first.scalar)

pub begin-requires-clause-value : goal.begin-requires-clause-value
begin-requires-clause-value c =
    let source = c.args.source.now in let table = types_of_source source in let scope = c.args.scope.now.items in let local = c.args.local.now in
    let old = c.args.self.now in let home = c.new_home-home.result in
    let is_new = new_home_in c.types.result.now table c.args.addressed.now old local home c.types.ensures c.new_home-home.ensures.home in
    let own = c.requires.own in let is_own = is_new own.0 own.1 in
    let value = c.in-Some.value in let is = c.in-Some.is in
    let inner = scope ++ home ∷ [] in let same = c.as_slice.ensures.value ∙ c.in_ok-push.ensures.items in
    let named = c.new_home-home.new.self in let mid = c.with_home.new.self in
    let first = first_typed source scope local value home is is_own.1 c.requires.typed in
    let found = c.value.new.self in let lowered = c.in_ok-given-in-Some.given in
    let lowers = subst (λ scope. ValueLowers source scope N.Kept value mid found lowered) same c.in_ok-given-in-Some.ensures.code in
    first_scalar source inner (type_in table home.c_type) value mid found lowered first lowers

pub returns-in_ok-given-in-Some-clause-code : goal.returns-in_ok-given-in-Some-clause-code
returns-in_ok-given-in-Some-clause-code c =
    let source = c.args.source.now in let table = types_of_source source in let scope = c.args.scope.now.items in let local = c.args.local.now in
    let old = c.args.self.now in let home = c.new_home-home.result in
    let is_new = new_home_in c.types.result.now table c.args.addressed.now old local home c.types.ensures c.new_home-home.ensures.home in
    let own = c.requires.own in let is_own = is_new own.0 own.1 in
    let value = c.in-Some.value in let is = c.in-Some.is in
    let inner = scope ++ home ∷ [] in let same = c.as_slice.ensures.value ∙ c.in_ok-push.ensures.items in
    let named = c.new_home-home.new.self in let mid = c.with_home.new.self in
    let first = first_typed source scope local value home is is_own.1 c.requires.typed in
    let found = c.value.new.self in let lowered = c.in_ok-given-in-Some.given in
    let lowers = subst (λ scope. ValueLowers source scope N.Kept value mid found lowered) same c.in_ok-given-in-Some.ensures.code in
    let spot = home_spot table home old named mid (c.new_home-home.ensures.spot table) (c.in_ok-with_home.ensures.spot table) in
    on_ok_two c.begin.result (λ begins grows. (
      home,
      c.in_ok-push.ensures.items,
      λ flag at.
          first_lowers source scope local flag home value old mid found c.begin.new.self lowered is (is_new flag at) spot lowers
          (subst (λ table. LeadsIn table (λ points. codes.Begins points (home_in table home) (lowered_in table lowered)) found c.begin.new.self) c.types-in-Some.ensures begins) grows,
    ))
    c.begin.ensures.code c.begin.ensures.grows

pub returns-in_ok-given-in-Some-clause-homes : goal.returns-in_ok-given-in-Some-clause-homes
returns-in_ok-given-in-Some-clause-homes c =
    let source = c.args.source.now in let table = types_of_source source in let scope = c.args.scope.now.items in let local = c.args.local.now in
    let old = c.args.self.now in let home = c.new_home-home.result in
    let is_new = new_home_in c.types.result.now table c.args.addressed.now old local home c.types.ensures c.new_home-home.ensures.home in
    let own = c.requires.own in let is_own = is_new own.0 own.1 in
    let value = c.in-Some.value in let is = c.in-Some.is in
    let inner = scope ++ home ∷ [] in let same = c.as_slice.ensures.value ∙ c.in_ok-push.ensures.items in
    let named = c.new_home-home.new.self in let mid = c.with_home.new.self in
    let first = first_typed source scope local value home is is_own.1 c.requires.typed in
    on_ok_then c.begin.result (λ grows. subst (IsScope source) (sym c.in_ok-push.ensures.items) (new_scope source scope local own.0 home old is_own c.requires.typed c.requires.homes)) c.begin.ensures.grows

pub returns-in_ok-given-in-Some-clause-grows : goal.returns-in_ok-given-in-Some-clause-grows
returns-in_ok-given-in-Some-clause-grows c =
    let source = c.args.source.now in let table = types_of_source source in let scope = c.args.scope.now.items in let local = c.args.local.now in
    let old = c.args.self.now in let home = c.new_home-home.result in
    let is_new = new_home_in c.types.result.now table c.args.addressed.now old local home c.types.ensures c.new_home-home.ensures.home in
    let own = c.requires.own in let is_own = is_new own.0 own.1 in
    let value = c.in-Some.value in let is = c.in-Some.is in
    let inner = scope ++ home ∷ [] in let same = c.as_slice.ensures.value ∙ c.in_ok-push.ensures.items in
    let named = c.new_home-home.new.self in let mid = c.with_home.new.self in
    let first = first_typed source scope local value home is is_own.1 c.requires.typed in
    let found = c.value.new.self in let lowered = c.in_ok-given-in-Some.given in
    let lowers = subst (λ scope. ValueLowers source scope N.Kept value mid found lowered) same c.in_ok-given-in-Some.ensures.code in
    on_ok_then c.begin.result (λ grows. grows_on old mid c.begin.new.self (grows_on old named mid (grows_equal old named c.new_home-home.ensures.points) (grows_equal named mid c.with_home.ensures.points)) (grows_on mid found c.begin.new.self c.in_ok-given-in-Some.ensures.grows grows)) c.begin.ensures.grows

pub returns-in_ok-given-in-Some-clause-adds : goal.returns-in_ok-given-in-Some-clause-adds
returns-in_ok-given-in-Some-clause-adds c =
    let source = c.args.source.now in let table = types_of_source source in let scope = c.args.scope.now.items in let local = c.args.local.now in
    let old = c.args.self.now in let home = c.new_home-home.result in
    let is_new = new_home_in c.types.result.now table c.args.addressed.now old local home c.types.ensures c.new_home-home.ensures.home in
    let own = c.requires.own in let is_own = is_new own.0 own.1 in
    let value = c.in-Some.value in let is = c.in-Some.is in
    let inner = scope ++ home ∷ [] in let same = c.as_slice.ensures.value ∙ c.in_ok-push.ensures.items in
    let named = c.new_home-home.new.self in let mid = c.with_home.new.self in
    let first = first_typed source scope local value home is is_own.1 c.requires.typed in
    let found = c.value.new.self in let lowered = c.in_ok-given-in-Some.given in
    let lowers = subst (λ scope. ValueLowers source scope N.Kept value mid found lowered) same c.in_ok-given-in-Some.ensures.code in
    on_ok_then c.begin.result (λ adds. first_adds table local value old named mid found c.begin.new.self is c.new_home-home.ensures.adds c.with_home.ensures.counts c.in_ok-given-in-Some.ensures.adds adds) c.begin.ensures.adds

pub returns-in_ok-given-in-Some-clause-variables : goal.returns-in_ok-given-in-Some-clause-variables
returns-in_ok-given-in-Some-clause-variables c =
    let source = c.args.source.now in let table = types_of_source source in let scope = c.args.scope.now.items in let local = c.args.local.now in
    let old = c.args.self.now in let home = c.new_home-home.result in
    let is_new = new_home_in c.types.result.now table c.args.addressed.now old local home c.types.ensures c.new_home-home.ensures.home in
    let own = c.requires.own in let is_own = is_new own.0 own.1 in
    let value = c.in-Some.value in let is = c.in-Some.is in
    let inner = scope ++ home ∷ [] in let same = c.as_slice.ensures.value ∙ c.in_ok-push.ensures.items in
    let named = c.new_home-home.new.self in let mid = c.with_home.new.self in
    let first = first_typed source scope local value home is is_own.1 c.requires.typed in
    let found = c.value.new.self in let lowered = c.in_ok-given-in-Some.given in
    let lowers = subst (λ scope. ValueLowers source scope N.Kept value mid found lowered) same c.in_ok-given-in-Some.ensures.code in
    on_ok_then c.begin.result (λ begins. begin_keeps table home lowered found c.begin.new.self
    (subst (λ table. LeadsIn table (λ points. codes.Begins points (home_in table home) (lowered_in table lowered)) found c.begin.new.self) c.types-in-Some.ensures begins)
    ∙ first_keeps source inner value mid found lowered lowers ∙ (λ i. (c.with_home.ensures.counts i).variables) ∙ home_counts table old named (c.new_home-home.ensures.spot table)) c.begin.ensures.code

pub returns-in-None-clause-code : goal.returns-in-None-clause-code
returns-in-None-clause-code c =
    let source = c.args.source.now in let table = types_of_source source in let scope = c.args.scope.now.items in let local = c.args.local.now in
    let old = c.args.self.now in let home = c.new_home-home.result in
    let is_new = new_home_in c.types.result.now table c.args.addressed.now old local home c.types.ensures c.new_home-home.ensures.home in
    let own = c.requires.own in let is_own = is_new own.0 own.1 in
    let named = c.new_home-home.new.self in let mid = c.with_home.new.self in
    let spot = home_spot table home old named mid (c.new_home-home.ensures.spot table) (c.in_ok-with_home.ensures.spot table) in
    (home, c.in_ok-push.ensures.items, λ flag at. none_lowers source scope local flag home old mid c.in-None.is (is_new flag at) spot)

pub returns-in-None-clause-homes : goal.returns-in-None-clause-homes
returns-in-None-clause-homes c =
    let source = c.args.source.now in let table = types_of_source source in let scope = c.args.scope.now.items in let local = c.args.local.now in
    let old = c.args.self.now in let home = c.new_home-home.result in
    let is_new = new_home_in c.types.result.now table c.args.addressed.now old local home c.types.ensures c.new_home-home.ensures.home in
    let own = c.requires.own in let is_own = is_new own.0 own.1 in
    let named = c.new_home-home.new.self in let mid = c.with_home.new.self in
    subst (IsScope source) (sym c.in_ok-push.ensures.items) (new_scope source scope local own.0 home old is_own c.requires.typed c.requires.homes)

pub returns-in-None-clause-grows : goal.returns-in-None-clause-grows
returns-in-None-clause-grows c =
    let source = c.args.source.now in let table = types_of_source source in let scope = c.args.scope.now.items in let local = c.args.local.now in
    let old = c.args.self.now in let home = c.new_home-home.result in
    let is_new = new_home_in c.types.result.now table c.args.addressed.now old local home c.types.ensures c.new_home-home.ensures.home in
    let own = c.requires.own in let is_own = is_new own.0 own.1 in
    let named = c.new_home-home.new.self in let mid = c.with_home.new.self in
    grows_on old named mid (grows_equal old named c.new_home-home.ensures.points) (grows_equal named mid c.with_home.ensures.points)

pub returns-in-None-clause-adds : goal.returns-in-None-clause-adds
returns-in-None-clause-adds c =
    let source = c.args.source.now in let table = types_of_source source in let scope = c.args.scope.now.items in let local = c.args.local.now in
    let old = c.args.self.now in let home = c.new_home-home.result in
    let is_new = new_home_in c.types.result.now table c.args.addressed.now old local home c.types.ensures c.new_home-home.ensures.home in
    let own = c.requires.own in let is_own = is_new own.0 own.1 in
    let named = c.new_home-home.new.self in let mid = c.with_home.new.self in
    home_adds table local old named mid c.new_home-home.ensures.adds c.with_home.ensures.counts

pub returns-in-None-clause-variables : goal.returns-in-None-clause-variables
returns-in-None-clause-variables c =
    let source = c.args.source.now in let table = types_of_source source in let scope = c.args.scope.now.items in let local = c.args.local.now in
    let old = c.args.self.now in let home = c.new_home-home.result in
    let is_new = new_home_in c.types.result.now table c.args.addressed.now old local home c.types.ensures c.new_home-home.ensures.home in
    let own = c.requires.own in let is_own = is_new own.0 own.1 in
    let named = c.new_home-home.new.self in let mid = c.with_home.new.self in
    (λ i. (c.with_home.ensures.counts i).variables) ∙ home_counts table old named (c.new_home-home.ensures.spot table)
