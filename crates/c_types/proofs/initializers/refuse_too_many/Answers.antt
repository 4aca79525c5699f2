use Rattle.std.proofs.Common.{◌≡◌, [], ◌++◌, refl, sym, ap, ◌∙◌}
use Rattle.std.specs.Option.{option_copied}
use Rattle.c_syntax.specs.Views.{inits_of}
use Rattle.c_rules.specs.declared.rule.TypeRule.TheVariants as T
use Rattle.c_rules.specs.Known.{at}
use Rattle.c_rules.specs.Initializers as rules
use Rattle.c_types_state.specs.NameTables.{scope_of}
use Rattle.c_types_state.specs.Finding.{noted}
use Rattle.c_types_expressions.specs.declared.pass.Pass.{Pass}
use Rattle.c_rules.specs.NamedItems.{named_in_inits}
use Rattle.c_types.specs.InitialValues.{inits_values}
use Rattle.c_types.proofs.KeptValues.{adds-same}
use Rattle.c_types.proofs.Covering.{covers-same}
use Rattle.c_types.proofs.Firsts.{covers-behind, on_ok}
use Rattle.c_types.proofs.LiteralFirsts.{too_many-first, too_many-none}
use Rattle.c_types.proofs.initializers.refuse_too_many.Goals.{in-Some, in_default}
use Rattle.c_types.proofs.initializers.refuse_too_many.Goals as goal

pub returns-clause-found : goal.returns-clause-found
returns-clause-found c =
    let s = c.args.pass.now in
    let r = c.match-first.pass in
    let u = c.found_within_all.new.pass in
    let inits = c.args.inits.now in
    let scope = scope_of s.checker in
    elim c.match-first.branch [
      | in-Some w ↦
          let place = w.init_place.result in
          let noting : r.checker ≡ record s.checker { least = noted s.checker.least (at T.T18 place) } = ap (λ (p : Pass). p.checker) w.pass-is ∙ w.note.ensures in
          let all = too_many-first scope inits w.in-Some.first.now (sym c.first.ensures.value ∙ ap option_copied w.in-Some.is) in
          on_ok c.found_within_all.result
          (λ h. covers-same ((λ i. at T.T18 (w.init_place.ensures i) ++ rules.found_within_all scope (inits_of inits)) ∙ all) refl refl
          (covers-behind (λ scope. rules.found_within_all scope (inits_of inits)) (λ scope. named_in_inits scope (inits_of inits)) (λ scope. scope) (at T.T18 place) noting (ap (λ (p : Pass). p.named.items) w.pass-is) h))
          c.found_within_all.ensures.found
      | in_default w ↦
          let all = too_many-none scope inits (sym c.first.ensures.value ∙ ap option_copied w.in_default.is) in
          on_ok c.found_within_all.result
          (λ h. covers-same all refl refl
          (covers-behind (λ scope. rules.found_within_all scope (inits_of inits)) (λ scope. named_in_inits scope (inits_of inits)) (λ scope. scope) [] (ap (λ (p : Pass). p.checker) w.pass-is) (ap (λ (p : Pass). p.named.items) w.pass-is) h))
          c.found_within_all.ensures.found
    ]

pub returns-clause-values : goal.returns-clause-values
returns-clause-values c =
    let s = c.args.pass.now in
    let inits = inits_of c.args.inits.now in
    let same : scope_of c.match-first.pass.checker ≡ scope_of s.checker =
    elim c.match-first.branch [
      | in-Some w ↦ ap (λ (p : Pass). scope_of p.checker) w.pass-is ∙ ap scope_of w.note.ensures
      | in_default w ↦ ap (λ (p : Pass). scope_of p.checker) w.pass-is
    ] in
    on_ok c.found_within_all.result (λ h. adds-same (ap (λ scope. inits_values scope inits) same) h) c.found_within_all.ensures.values
