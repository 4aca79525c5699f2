use Rattle.std.proofs.Common.{◌≡◌, ◌<◌, ◌==◌, sym, ap, subst, ◌∙◌, arith}
use Rattle.std.proofs.lemmas.Bool.{false≢true, lt-ltb}
use Rattle.c_syntax.specs.declared.expr.Declarator.{Declarator}
use Rattle.c_syntax.specs.Views.{direct_tree, suffixes_of}
use Rattle.c_rules.specs.Expressions.{direct_adds}
use Rattle.c_types_expressions.proofs.Deriving.{nested-adds, adds-stars, adds-suffixes, adds-inner, some-there, none-there}
use Rattle.c_types_expressions.proofs.words.+adds.Goals.{then-deref-gt0, else-deref-gt0}
use Rattle.c_types_expressions.proofs.words.+adds.Goals as goal

pub returns-then-not-is_empty : goal.returns-then-not-is_empty
returns-then-not-is_empty t c =
    let inner = c.in-Nested.inner.value in
    c.if-not-is_empty.true
    ∙ sym (nested-adds c.args.direct.now c.in-Nested.inner c.in-Nested.is
    ∙ elim c.if-deref-gt0.branch [
      | then-deref-gt0 w ↦ adds-stars inner.stars (direct_tree inner.direct) (suffixes_of inner.suffixes.items) (subst (λ (d : Declarator). 0 < d.stars) c.deref.ensures w.if-deref-gt0.true)
      | else-deref-gt0 w ↦ adds-suffixes inner.stars (direct_tree inner.direct) inner.suffixes.items
          (some-there inner.suffixes.len _ c.if-deref-gt0.value w.is_empty.result inner.suffixes.ok.0 c.if-not-is_empty.true w.value-is (subst (λ (d : Declarator). w.is_empty.result ≡ (d.suffixes.len == 0)) w.deref-else-deref-gt0.ensures w.is_empty.ensures))
    ])

pub returns-else-not-is_empty : goal.returns-else-not-is_empty
returns-else-not-is_empty t c =
    let inner = c.in-Nested.inner.value in
    c.adds.ensures
    ∙ ap (λ (d : Declarator). direct_adds (direct_tree d.direct)) c.deref-else-not-is_empty.ensures
    ∙ sym (nested-adds c.args.direct.now c.in-Nested.inner c.in-Nested.is
    ∙ elim c.if-deref-gt0.branch [
      | then-deref-gt0 w ↦ absurd (false≢true (sym c.if-not-is_empty.false ∙ w.value-is ∙ lt-ltb 0 c.deref.result.now.stars w.if-deref-gt0.true))
      | else-deref-gt0 w ↦ adds-inner inner.stars (direct_tree inner.direct) inner.suffixes.items (subst (λ (d : Declarator). d.stars ≡ 0) c.deref.ensures (omega (arith, w.if-deref-gt0.false)))
          (none-there inner.suffixes.items inner.suffixes.len c.if-deref-gt0.value w.is_empty.result inner.suffixes.ok.0 c.if-not-is_empty.false w.value-is (subst (λ (d : Declarator). w.is_empty.result ≡ (d.suffixes.len == 0)) w.deref-else-deref-gt0.ensures w.is_empty.ensures))
    ])
