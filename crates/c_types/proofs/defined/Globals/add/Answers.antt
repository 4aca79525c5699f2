use Rattle.std.proofs.Common.{◌≡◌, ◌==◌, arith, length, List, [], ◌∷◌, ◌++◌, map, None, is_ok, if◌then◌else◌, refl, sym, ap, subst, ◌∙◌}
use Rattle.std.specs.Option.{option_copied}
use Rattle.c_typed.specs.declared.definition.GlobalDef.{GlobalDef}
use Rattle.c_typed.specs.declared.definition.First.{First}
use Rattle.c_typed.specs.Typed as typed
use Rattle.c_typed.specs.Table.{type_in}
use Rattle.c_typed.specs.DefinitionViews.{global_in, all_first, GlobalsStand}
use Rattle.c_types_state.specs.LocalTables.{number_in}
use Rattle.c_rules.specs.Elaborated.{with_global}
use Rattle.c_types.specs.Globals.{global_number}
use Rattle.c_types.proofs.VariableNumbers.{number-below, numbers-set, stand-set, globals-set, globals-stay, no-number, numbers-pushed, globals-pushed, stand-pushed, none-not, none-is, option-none}
use Rattle.c_types.proofs.defined.Globals.add.Goals as goal

-- ---- a variable that is there

pub index_mut-requires : goal.index_mut-requires
index_mut-requires c =
    let had = c.self.inside in
    let there = sym (c.self.invariant c.args.name.now) ∙ sym c.get.ensures.value ∙ ap option_copied c.in-Some.is in
    let lt = number-below had.globals.items c.args.name.now c.in-Some.number.now there in
    omega (arith, lt, had.globals.ok.0)

pub invariant_of-self : goal.invariant_of-self
invariant_of-self c =
    let items = c.self.inside.globals.items in
    let n = c.in-Some.number.now in
    let d = c.index_mut.result.now in
    let there = sym (c.self.invariant c.args.name.now) ∙ sym c.get.ensures.value ∙ ap option_copied c.in-Some.is in
    λ name. c.self.invariant name
    ∙ numbers-set d items n (record { name = d.name; c_type = d.c_type; first = c.args.first }) (number-below items c.args.name.now n there) (ap (λ (global : GlobalDef). global.name) c.index_mut.ensures.value) name

pub returns-then-not-are_none-clause-globals : goal.returns-then-not-are_none-clause-globals
returns-then-not-are_none-clause-globals c =
    let items = c.self.inside.globals.items in
    let n = c.in-Some.number.now in
    let d = c.index_mut.result.now in
    let there = sym (c.self.invariant c.args.name.now) ∙ sym c.get.ensures.value ∙ ap option_copied c.in-Some.is in
    let some = none-not (length (all_first c.args.first.items)) c.are_none.result (c.are_none.ensures ∙ ap (λ (firsts : List First). length (all_first firsts) == 0) c.as_slice.ensures.value) c.if-not-are_none.true in
    λ table.
    let told : typed.GlobalDef = record { name = c.args.name.now; c_type = type_in table c.args.c_type; first = all_first c.args.first.items } in
    globals-set d table items n (record { name = d.name; c_type = d.c_type; first = c.args.first }) told there
    (ap (λ (global : GlobalDef). global.name) c.index_mut.ensures.value) (ap (λ (global : GlobalDef). global.c_type) c.index_mut.ensures.value) some refl
    ∙ ap (λ (globals : List GlobalDef). with_global told (map (global_in table) globals)) c.self.view_is

pub returns-then-not-are_none-clause-stand : goal.returns-then-not-are_none-clause-stand
returns-then-not-are_none-clause-stand c =
    let items = c.self.inside.globals.items in
    let n = c.in-Some.number.now in
    let d = c.index_mut.result.now in
    let there = sym (c.self.invariant c.args.name.now) ∙ sym c.get.ensures.value ∙ ap option_copied c.in-Some.is in
    λ table h stands. stand-set d table items n (record { name = d.name; c_type = d.c_type; first = c.args.first }) (number-below items c.args.name.now n there)
    (ap (λ (global : GlobalDef). global.c_type) c.index_mut.ensures.value) (subst (GlobalsStand table) (sym c.self.view_is) h)

pub returns-else-not-are_none-clause-globals : goal.returns-else-not-are_none-clause-globals
returns-else-not-are_none-clause-globals c =
    let items = c.self.inside.globals.items in
    let n = c.in-Some.number.now in
    let there = sym (c.self.invariant c.args.name.now) ∙ sym c.get.ensures.value ∙ ap option_copied c.in-Some.is in
    let none = none-is (all_first c.args.first.items) c.are_none.result (c.are_none.ensures ∙ ap (λ (firsts : List First). length (all_first firsts) == 0) c.as_slice.ensures.value) c.if-not-are_none.false in
    λ table.
    let told : typed.GlobalDef = record { name = c.args.name.now; c_type = type_in table c.args.c_type; first = all_first c.args.first.items } in
    ap (map (global_in table)) (sym c.self.view_is)
    ∙ globals-stay table items n told there none
    ∙ ap (λ (globals : List GlobalDef). with_global told (map (global_in table) globals)) c.self.view_is

-- ---- one more variable

pub invariant_of-self-2 : goal.invariant_of-self-2
invariant_of-self-2 c =
    let had = c.self.inside in
    let global : GlobalDef = record { name = c.in_ok-name.name; c_type = c.args.c_type; first = c.args.first } in
    let none : number_in had.numbers c.args.name.now ≡ None = sym c.get.ensures.value ∙ ap option_copied (option-none c.get.result c.in_default.not-Some) in
    let pushed : c.push.new.self.items ≡ had.globals.items ++ global ∷ [] =
    c.push.ensures.items
    ∙ ap (λ r. if is_ok r then c.reserve.new.self.items ++ global ∷ [] else c.reserve.new.self.items) c.unwrap.ensures
    ∙ ap (λ (items : List GlobalDef). items ++ global ∷ []) c.in_ok-reserve.ensures.items in
    λ name. numbers-pushed had.numbers c.insert.new.self had.globals.items c.self.invariant global c.in_ok-key.key.items c.len-number.result (c.in_ok-key.ensures.items ∙ sym c.in_ok-name.ensures)
    (ap (number_in had.numbers) c.in_ok-key.ensures.items ∙ none) (c.len-number.ensures ∙ c.reserve.new.self.ok.0 ∙ ap length c.in_ok-reserve.ensures.items) c.in_ok-insert.ensures.updates name
    ∙ ap (λ (items : List GlobalDef). global_number items name) (sym pushed)

pub returns-clause-globals : goal.returns-clause-globals
returns-clause-globals c =
    let had = c.self.inside in
    let global : GlobalDef = record { name = c.in_ok-name.name; c_type = c.args.c_type; first = c.args.first } in
    let none : number_in had.numbers c.args.name.now ≡ None = sym c.get.ensures.value ∙ ap option_copied (option-none c.get.result c.in_default.not-Some) in
    let pushed : c.push.new.self.items ≡ had.globals.items ++ global ∷ [] =
    c.push.ensures.items
    ∙ ap (λ r. if is_ok r then c.reserve.new.self.items ++ global ∷ [] else c.reserve.new.self.items) c.unwrap.ensures
    ∙ ap (λ (items : List GlobalDef). items ++ global ∷ []) c.in_ok-reserve.ensures.items in
    λ table.
    let new : global_number had.globals.items global.name ≡ None = no-number had.numbers c.insert.new.self had.globals.items c.self.invariant global.name (ap (number_in had.numbers) c.in_ok-name.ensures ∙ none) in
    ap (map (global_in table)) pushed
    ∙ globals-pushed table had.globals.items global new
    ∙ (λ i. with_global (record { name = c.in_ok-name.ensures i; c_type = type_in table c.args.c_type; first = all_first c.args.first.items }) (map (global_in table) (c.self.view_is i)))

pub returns-clause-stand : goal.returns-clause-stand
returns-clause-stand c =
    let had = c.self.inside in
    let global : GlobalDef = record { name = c.in_ok-name.name; c_type = c.args.c_type; first = c.args.first } in
    let pushed : c.push.new.self.items ≡ had.globals.items ++ global ∷ [] =
    c.push.ensures.items
    ∙ ap (λ r. if is_ok r then c.reserve.new.self.items ++ global ∷ [] else c.reserve.new.self.items) c.unwrap.ensures
    ∙ ap (λ (items : List GlobalDef). items ++ global ∷ []) c.in_ok-reserve.ensures.items in
    λ table h stands. subst (GlobalsStand table) (sym pushed) (stand-pushed table had.globals.items global (subst (GlobalsStand table) (sym c.self.view_is) h) stands)
