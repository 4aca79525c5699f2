use Rattle.std.proofs.Common.{◌≡◌, map, length, get_or, Some, None, option_map, refl, sym, ap, subst, ◌∙◌, arith}
use Rattle.c_typed.specs.declared.definition.Static as memory_static
use Rattle.c_typed.specs.declared.definition.Static.TheVariants as V
use Rattle.c_typed.specs.DefinitionViews as D
use Rattle.c_typed.specs.DefinitionViews.{global_in, literal_of}
use Rattle.tac_ir.specs.First.{named_global, placed_literal, static_of}
use Rattle.tac_ir.specs.Views.{tac_of}
use Rattle.pool_rewrite.specs.declared.first.Root.{Root}
use Rattle.pool_rewrite.specs.Firsts.{IsRoot}
use Rattle.pool_rewrite.proofs.FoundStatics.{global_there, literal_there, variable_missing, variable_found, literal_found}
use Rattle.pool_rewrite.proofs.first.root_of.Goals as goal

pub returns-in_err-number-in-Variable : goal.returns-in_err-number-in-Variable
returns-in_err-number-in-Variable c =
    let tac = c.args.tac.now in
    let none : option_map (λ found. found.0) (named_global 0 (map (global_in tac.types) tac.globals.items) c.as_slice.result.now) ≡ None =
    sym (c.requires.program.named.globals tac.types c.as_slice.result.now) ∙ sym c.in_err-number-in-Variable.ensures.value in
    let missing = variable_missing tac c.in-Variable.name (subst (λ name. option_map (λ found. found.0) (named_global 0 (map (global_in tac.types) tac.globals.items) name) ≡ None) c.as_slice.ensures none) in
    subst (λ (r : memory_static.Static). IsRoot tac (static_of (tac_of tac) (D.static_of r)) c.from_residual.result) (sym c.in-Variable.is)
    (subst (IsRoot tac (static_of (tac_of tac) (D.static_of (V.Variable c.in-Variable.name)))) (sym c.from_residual.ensures) missing)

pub returns-in_err-get-in-Variable : goal.returns-in_err-get-in-Variable
returns-in_err-get-in-Variable c =
    let tac = c.args.tac.now in
    let number = sym (c.requires.program.named.globals tac.types c.as_slice.result.now) ∙ sym c.in_ok-number-in-Variable.ensures.value in
    let there = global_there tac.types tac.globals.items c.as_slice.result.now c.in_ok-number-in-Variable.field-0.now number in
    let past = c.in_err-get-in-Variable.ensures.lookup.3 in
    let long = ap length c.deref.ensures.value in
    absurd (omega (arith, there, past, long))

pub returns-in_err-get-in-Literal : goal.returns-in_err-get-in-Literal
returns-in_err-get-in-Literal c =
    let tac = c.args.tac.now in
    let number = sym (c.requires.program.named.literals c.in-Literal.place) ∙ sym c.in_ok-number-in-Literal.ensures.value in
    let there = literal_there tac.literals.items c.in-Literal.place c.in_ok-number-in-Literal.field-0.now number in
    let past = c.in_err-get-in-Literal.ensures.lookup.3 in
    let long = ap length c.deref-in-Literal.ensures.value in
    absurd (omega (arith, there, past, long))

pub returns-in_ok-get-in-Variable : goal.returns-in_ok-get-in-Variable
returns-in_ok-get-in-Variable c =
    let tac = c.args.tac.now in
    let n = c.in_ok-number-in-Variable.field-0.now in
    let global = c.in_ok-get-in-Variable.field-0.now in
    let number : option_map (λ found. found.0) (named_global 0 (map (global_in tac.types) tac.globals.items) c.as_slice.result.now) ≡ Some n =
    sym (c.requires.program.named.globals tac.types c.as_slice.result.now) ∙ sym c.in_ok-number-in-Variable.ensures.value in
    let own = subst (λ name. option_map (λ found. found.0) (named_global 0 (map (global_in tac.types) tac.globals.items) name) ≡ Some n) c.as_slice.ensures number in
    let there = global_there tac.types tac.globals.items c.in-Variable.name n own in
    let root : Root = record { offset = c.global.result; c_type = global.c_type } in
    let found = c.in_ok-get-in-Variable.ensures.lookup in
    subst (λ (r : memory_static.Static). IsRoot tac (static_of (tac_of tac) (D.static_of r)) (Some root)) (sym c.in-Variable.is)
    (variable_found tac c.in-Variable.name n global root own there (found.1 ∙ ap (λ all. get_or all n global) c.deref.ensures.value) refl (c.global.ensures (tac_of tac) c.requires.program.lie) c.requires.program.small)

pub returns-in_ok-get-in-Literal : goal.returns-in_ok-get-in-Literal
returns-in_ok-get-in-Literal c =
    let tac = c.args.tac.now in
    let n = c.in_ok-number-in-Literal.field-0.now in
    let literal = c.in_ok-get-in-Literal.field-0.now in
    let number : option_map (λ found. found.0) (placed_literal 0 (map literal_of tac.literals.items) c.in-Literal.place) ≡ Some n =
    sym (c.requires.program.named.literals c.in-Literal.place) ∙ sym c.in_ok-number-in-Literal.ensures.value in
    let there = literal_there tac.literals.items c.in-Literal.place n number in
    let root : Root = record { offset = c.literal.result; c_type = literal.c_type } in
    let found = c.in_ok-get-in-Literal.ensures.lookup in
    subst (λ (r : memory_static.Static). IsRoot tac (static_of (tac_of tac) (D.static_of r)) (Some root)) (sym c.in-Literal.is)
    (literal_found tac c.in-Literal.place n literal root number there (found.1 ∙ ap (λ all. get_or all n literal) c.deref-in-Literal.ensures.value) refl (c.literal.ensures (tac_of tac) c.requires.program.lie) c.requires.program.small c.requires.program.literals)
