use Rattle.std.proofs.Common.{not, List, Option, Some, ℤ, sym, ap, subst, ◌∙◌, rules, to_z, of_z, FitsSigned}
use Rattle.std.specs.Int.{w128}
use Rattle.std.proofs.lemmas.Int.{to_z-of_z}
use Rattle.c_rules.specs.Statements.{repeats, with_label}
use Rattle.c_types.specs.Parts.{SameLabels}
use Rattle.c_types.proofs.Repeating.{any-label, same-inserted}
use Rattle.c_types.proofs.labels.Labels.add.Goals as goal

pub returns-in_ok-insert-in-Some-clause-is_new : goal.returns-in_ok-insert-in-Some-clause-is_new
returns-in_ok-insert-in-Some-clause-is_new c =
    let labels = c.args.self.now.values.keys in
    let fits : FitsSigned w128 c.in-Some.label = search rules in
    let label = to_z-of_z w128 c.in-Some.label fits in
    c.in_ok-insert-in-Some.ensures.added ∙ ap not (any-label (to_z w128 (of_z w128 c.in-Some.label)) labels ∙ (λ i. repeats labels (Some (label i))) ∙ ap (repeats labels) (sym c.in-Some.is))

pub returns-in_ok-insert-in-Some-clause-values : goal.returns-in_ok-insert-in-Some-clause-values
returns-in_ok-insert-in-Some-clause-values c =
    let labels = c.args.self.now.values.keys in
    let fits : FitsSigned w128 c.in-Some.label = search rules in
    let label = to_z-of_z w128 c.in-Some.label fits in
    subst (λ (o : Option ℤ). SameLabels c.insert.new.self.keys (with_label o labels)) (sym c.in-Some.is)
    (subst (λ (l : ℤ). SameLabels c.insert.new.self.keys (with_label (Some l) labels)) label
    (subst (λ (keys : List ℤ). SameLabels keys (with_label (Some (to_z w128 (of_z w128 c.in-Some.label))) labels)) (sym c.in_ok-insert-in-Some.ensures.keys) (same-inserted labels (to_z w128 (of_z w128 c.in-Some.label)))))
