use Rattle.std.proofs.Common.{◌+◌, List, drop, refl, sym, ap, subst, ◌∙◌, arith}
use Rattle.std.proofs.lemmas.List.{drop_all}
use Rattle.c_syntax.specs.declared.declaration.Init.{Init}
use Rattle.c_syntax.specs.Views.{init_tree, inits_of}
use Rattle.c_syntax.proofs.SyntaxRows.{init_tree-list}
use Rattle.c_rules.specs.Initializers as rules
use Rattle.c_types_state.specs.NameTables.{scope_of}
use Rattle.c_rules.specs.NamedItems.{named_in_init, named_in_inits}
use Rattle.c_types.proofs.Covering.{covers-same}
use Rattle.c_types.specs.InitialValues.{init_values, inits_values}
use Rattle.c_types.proofs.Firsts.{Passed, passed-none, passed-more, passed-all, left-more, on_ok}
use Rattle.c_types.proofs.KeptValues.{ValuesFar, adds-same, kept-none, kept-init, kept-all}
use Rattle.c_types.proofs.initializers.+within.Goals as goal

pub found_within-returns-in-List-clause-found : goal.found_within-returns-in-List-clause-found
found_within-returns-in-List-clause-found t c =
    let scope = scope_of c.args.pass.now.checker in
    let tree = ap init_tree c.in-List.is ∙ init_tree-list c.in-List.place c.in-List.inits in
    let same = ap inits_of c.deref.ensures.value in
    on_ok c.found_within_all.result
    (λ h. covers-same (ap (λ inits. rules.found_within_all scope inits) same ∙ ap (λ init. rules.found_within scope init) (sym tree))
    (ap (λ inits. named_in_inits scope inits) same ∙ ap (λ init. named_in_init scope init) (sym tree)) refl h)
    c.found_within_all.ensures.found

pub found_within-returns-in-List-clause-values : goal.found_within-returns-in-List-clause-values
found_within-returns-in-List-clause-values t c =
    let scope = scope_of c.args.pass.now.checker in
    let tree = ap init_tree c.in-List.is ∙ init_tree-list c.in-List.place c.in-List.inits in
    on_ok c.found_within_all.result
    (λ h. adds-same (ap (λ inits. inits_values scope inits) (ap inits_of c.deref.ensures.value) ∙ ap (λ init. init_values scope init) (sym tree)) h)
    c.found_within_all.ensures.values

pub found_within_all-loop-init-init : goal.found_within_all-loop-init-init
found_within_all-loop-init-init t c =
    let scope = scope_of c.args.pass.now.checker in
    let all = inits_of c.args.inits.now in
    record {
      passed = passed-none (rules.found_within_all scope all) (named_in_inits scope all) c.args.pass.now;
      values = kept-none (inits_values scope all) c.args.pass.now.checker.table c.args.values.now.items;
    }

pub found_within_all-loop-init-preserved : goal.found_within_all-loop-init-preserved
found_within_all-loop-init-preserved t c =
    let all = c.args.inits.now in
    let here = c.loop-init.init-index in
    let init = c.init-item.result in
    let scope = scope_of c.args.pass.now.checker in
    let more = left-more all here init (omega arith) c.init-item.is in
    let far = c.loop-init.invariant in
    let own = c.in_ok-found_within.ensures {u = tt} in
    record {
      passed =
          passed-more (λ scope. rules.found_within scope (init_tree init)) (λ scope. named_in_init scope (init_tree init))
          {left = rules.found_within_all scope (inits_of (drop (here + 1) all))} {left_named = named_in_inits scope (inits_of (drop (here + 1) all))}
          (subst (λ (left : List Init). Passed (rules.found_within_all scope (inits_of all)) (rules.found_within_all scope (inits_of left)) (named_in_inits scope (inits_of all)) (named_in_inits scope (inits_of left)) c.args.pass.now c.loop-init.pass)
          more far.passed)
          own.found;
      values =
          kept-init (init_tree init) (inits_of (drop (here + 1) all)) far.passed.covers.scope
          (subst (λ (left : List Init). ValuesFar (inits_values scope (inits_of all)) (inits_values scope (inits_of left)) c.loop-init.pass.checker.table c.args.values.now.items c.loop-init.values.items) more far.values)
          own.found.grows own.values;
    }

pub found_within_all-returns : goal.found_within_all-returns
found_within_all-returns t c =
    let all = c.args.inits.now in
    let here = c.loop-init.init-index in
    let scope = scope_of c.args.pass.now.checker in
    let none = drop_all here all (omega arith) in
    record {
      found =
          passed-all
          (subst (λ (left : List Init). Passed (rules.found_within_all scope (inits_of all)) (rules.found_within_all scope (inits_of left)) (named_in_inits scope (inits_of all)) (named_in_inits scope (inits_of left)) c.args.pass.now c.loop-init.pass)
          none c.loop-init.invariant.passed);
      values =
          kept-all
          (subst (λ (left : List Init). ValuesFar (inits_values scope (inits_of all)) (inits_values scope (inits_of left)) c.loop-init.pass.checker.table c.args.values.now.items c.loop-init.values.items) none c.loop-init.invariant.values);
    }
