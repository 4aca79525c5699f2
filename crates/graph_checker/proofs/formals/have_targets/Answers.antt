use Rattle.std.proofs.Common.{refl, sym, ap, ◌∙◌, length, arith}
use Rattle.c_typed.specs.Types.{CTypes}
use Rattle.c_typed.specs.Table.{type_in, types_in}
use Rattle.heap_graph.specs.Closed.{parameters_in}
use Rattle.heap_graph.specs.Frozen.{target_in}
use Rattle.graph_checker.specs.Formals.{have_targets}
use Rattle.graph_checker.proofs.Formal.{fails, goes_on}
use Rattle.graph_checker.proofs.formals.have_targets.Goals as goal

pub loop-c_type-init : goal.loop-c_type-init
loop-c_type-init c = record { stands = c.requires; whole = refl }

pub first_parameter-requires : goal.first_parameter-requires
first_parameter-requires c = c.loop-c_type.invariant.stands

pub returns-then-not-has_first_target : goal.returns-then-not-has_first_target
returns-then-not-has_first_target c =
    let table = c.args.types.now in
    fails (target_in c.loop-c_type.left.now) (types_in table c.loop-c_type.rest) (type_in table c.in-Some.c_type) (types_in table c.in-Some.others) c.in-Some.ensures.0
    (sym c.if-not-has_first_target.true ∙ c.has_first_target.ensures)
    ∙ c.loop-c_type.invariant.whole

pub loop-c_type-smaller : goal.loop-c_type-smaller
loop-c_type-smaller c =
    let e = ap (λ (types : CTypes). length (parameters_in types)) c.in-Some.ensures.0 in
    omega (arith, e)

pub loop-c_type-preserved : goal.loop-c_type-preserved
loop-c_type-preserved c =
    let table = c.args.types.now in
    record {
      stands = c.in-Some.ensures.2;
      whole =
          goes_on (target_in c.loop-c_type.left.now) (types_in table c.loop-c_type.rest) (type_in table c.in-Some.c_type) (types_in table c.in-Some.others) c.in-Some.ensures.0
          (target_in c.without_first-left.result.now) c.without_first-left.ensures (sym c.if-not-has_first_target.false ∙ c.has_first_target.ensures)
          ∙ c.loop-c_type.invariant.whole;
    }

pub returns : goal.returns
returns c = sym (ap (λ (types : CTypes). have_targets (target_in c.loop-c_type.left.now) 0 (parameters_in types)) c.in_default.ensures) ∙ c.loop-c_type.invariant.whole
