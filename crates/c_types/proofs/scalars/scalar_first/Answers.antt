use Rattle.std.proofs.Common.{◌≡◌, [], if◌then◌else◌, refl, sym, ap, subst, ◌∙◌}
use Rattle.c_typed.specs.Types.{CType}
use Rattle.c_typed.specs.Table.{type_in, shape_type}
use Rattle.c_typed.specs.DefinitionViews.{scalar_of}
use Rattle.c_rules.specs.declared.rule.TypeRule.TheVariants as R
use Rattle.c_rules.specs.Initializers.{known_first}
use Rattle.c_rules.specs.Elaborated as elaborated
use Rattle.c_types_state.specs.NameTables.{State, scope_of}
use Rattle.c_types_state.specs.Finding.{noted}
use Rattle.c_types_state.specs.Operands.{operand_in}
use Rattle.c_types.specs.FirstValues.{HoldsFirst}
use Rattle.c_types.proofs.Firsts.{noted-scalar, unless-met, holds-one}
use Rattle.c_types.proofs.KeptValues.{adds-one, adds-noted}
use Rattle.c_types.proofs.scalars.scalar_first.Goals.{in-Integer, in-Pointer}
use Rattle.c_types.proofs.scalars.scalar_first.Goals as goal

pub returns-clause-found : goal.returns-clause-found
returns-clause-found c =
    let s = c.args.pass.now in
    let u = c.require.new.self in
    let place = c.args.place in
    let known = operand_in u.table c.args.operand in
    let met = sym c.require.ensures.result ∙ c.if-not-require.false in
    elim c.match-shape.branch [
      | in-Integer w ↦
          noted-scalar s c.match-shape.pass u place (λ table. type_in table c.args.c_type) (λ table. operand_in table c.args.operand) c.fits-fits.result c.fits-fits.ensures met c.require.ensures.noted
          ((λ i. (w.pass-is i).checker) ∙ w.integer_first-value.ensures.found
          ∙ ap (λ (c_type : CType). record u { least = noted u.least (known_first (scope_of u) place c_type known) }) (sym (c.shape.ensures.means ∙ ap (shape_type u.table) w.in-Integer.is)))
          (λ i. (w.pass-is i).named.items)
      | in-Pointer w ↦
          noted-scalar s c.match-shape.pass u place (λ table. type_in table c.args.c_type) (λ table. operand_in table c.args.operand) c.fits-fits.result c.fits-fits.ensures met c.require.ensures.noted
          ((λ i. (w.pass-is i).checker) ∙ w.pointer_first-value.ensures.found
          ∙ ap (λ (c_type : CType). record u { least = noted u.least (known_first (scope_of u) place c_type known) }) (sym (c.shape.ensures.means ∙ ap (shape_type u.table) w.in-Pointer.is)))
          (λ i. (w.pass-is i).named.items)
    ]

pub returns-clause-held : goal.returns-clause-held
returns-clause-held c =
    let s = c.args.pass.now in
    let u = c.require.new.self in
    let met = sym c.require.ensures.result ∙ c.if-not-require.false in
    let here = unless-met s.checker u R.T10 c.args.place c.fits-fits.result met c.require.ensures.noted in
    let there = ap (λ (u : State). elaborated.scalar_of (scope_of u) (type_in u.table c.args.c_type) (operand_in u.table c.args.operand)) here in
    let value : scalar_of c.match-shape.value ≡ elaborated.scalar_of (scope_of s.checker) (type_in s.checker.table c.args.c_type) (operand_in s.checker.table c.args.operand) =
    elim c.match-shape.branch [
      | in-Integer w ↦
          ap scalar_of w.value-is ∙ w.integer_first-value.ensures.value
          ∙ ap (λ (c_type : CType). elaborated.scalar_of (scope_of u) c_type (operand_in u.table c.args.operand)) (sym (c.shape.ensures.means ∙ ap (shape_type u.table) w.in-Integer.is)) ∙ there
      | in-Pointer w ↦
          ap scalar_of w.value-is ∙ w.pointer_first-value.ensures.value
          ∙ ap (λ (c_type : CType). elaborated.scalar_of (scope_of u) c_type (operand_in u.table c.args.operand)) (sym (c.shape.ensures.means ∙ ap (shape_type u.table) w.in-Pointer.is)) ∙ there
    ] in
    let steps = c.args.target.now.parts.items in
    let one = elaborated.held_at steps c.args.index (elaborated.scalar_of (scope_of s.checker) (type_in s.checker.table c.args.c_type) (operand_in s.checker.table c.args.operand)) in
    subst (λ b. HoldsFirst (if b then one else []) c.args.target.now (record c.args.target.now { first = c.push-2.new.self })) (sym met ∙ c.fits-fits.ensures)
    (holds-one _ refl c.in_ok-push-2.ensures.items (λ i. elaborated.held_at (c.in_ok-parts.ensures i) c.args.index (value i)))

pub returns-then-not-require-clause-values : goal.returns-then-not-require-clause-values
returns-then-not-require-clause-values c = adds-noted c.args.pass.now.checker c.require.new.self _ c.require.ensures.noted (adds-one c.args.operand.value.value c.into_inner.result c.into_inner.ensures c.in_ok-push.ensures.items c.requires.operand.1 refl)

pub returns-in_default-clause-values : goal.returns-in_default-clause-values
returns-in_default-clause-values c = adds-noted c.args.pass.now.checker c.require.new.self _ c.require.ensures.noted (adds-one c.args.operand.value.value c.into_inner.result c.into_inner.ensures c.in_ok-push.ensures.items c.requires.operand.1 refl)

pub returns-clause-values : goal.returns-clause-values
returns-clause-values c =
    let there = adds-noted c.args.pass.now.checker c.require.new.self _ c.require.ensures.noted (adds-one c.args.operand.value.value c.into_inner.result c.into_inner.ensures c.in_ok-push.ensures.items c.requires.operand.1 refl) in
    elim c.match-shape.branch [
      | in-Integer w ↦ adds-noted c.require.new.self c.match-shape.pass.checker _ ((λ i. (w.pass-is i).checker) ∙ w.integer_first-value.ensures.found) there
      | in-Pointer w ↦ adds-noted c.require.new.self c.match-shape.pass.checker _ ((λ i. (w.pass-is i).checker) ∙ w.pointer_first-value.ensures.found) there
    ]
