use Rattle.std.proofs.Common.{◌≡◌, ◌<◌, Some, length, get_or, refl, sym, ap, subst, ◌∙◌, inl, inr, arith}
use Rattle.std.proofs.lemmas.Bool.{cases_lt}
use Rattle.std.proofs.lemmas.Option.{slice_get-get_or, get_or_from_slice_get}
use Rattle.pool_runtime.specs.declared.cells.Cells.{Cells}
use Rattle.pool_runtime.proofs.Classes.{first_class, no_class}
use Rattle.pool_runtime.proofs.pool.Pool.least_class.Goals as goal

pub returns-then-bytes-index-clause-class : goal.returns-then-bytes-index-clause-class
returns-then-bytes-index-clause-class c = λ memory.
    let cs = c.args.self.now.classes.items in let r = c.index.result.now in let i = c.loop-class.class in
    let inside : i < length cs = omega (arith, c.len-class-end.ensures, c.args.self.now.classes.ok.0) in
    first_class memory cs c.args.bytes i c.loop-class.invariant r (slice_get-get_or cs i r inside ∙ ap Some (sym c.index.ensures)) inside (omega arith)

pub loop-class-preserved : goal.loop-class-preserved
loop-class-preserved c = λ k x low at.
    let cs = c.args.self.now.classes.items in let r = c.index.result.now in
    elim (cases_lt k c.loop-class.class) [
      | inl before ↦ c.loop-class.invariant k x before at
      | inr from ↦ (
          let e : k ≡ c.loop-class.class = omega arith in
          let same : x ≡ r = sym (get_or_from_slice_get cs k x r at) ∙ ap (λ i. get_or cs i r) e ∙ sym c.index.ensures in
          subst (λ (y : Cells). y.size < c.args.bytes) (sym same) (omega arith))
    ]

pub returns-clause-class : goal.returns-clause-class
returns-clause-class c = λ memory.
    let cs = c.args.self.now.classes.items in
    no_class memory cs c.args.bytes (length cs) (λ k x low at. c.loop-class.invariant k x (omega (arith, c.len-class-end.ensures, c.args.self.now.classes.ok.0)) at) refl
