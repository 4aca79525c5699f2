use Rattle.std.proofs.Common.{◌<◌, map, Some, sym, subst, ap, ◌∙◌, arith}
use Rattle.c_typed.specs.Table.{type_in, types_in, structs_in}
use Rattle.c_typed.specs.Layouts.{layouts}
use Rattle.c_types.specs.Limits.{parts, parts_of_each, first_above}
use Rattle.c_types.specs.Measures.{measured}
use Rattle.c_types.proofs.Weights.{weights}
use Rattle.c_types.proofs.FirstAbove.{above-behind, above-before, above-whole}
use Rattle.c_types.proofs.limits.+parts.Goals as goal

pub function_above-returns-in-Some : goal.function_above-returns-in-Some
function_above-returns-in-Some t c =
    let table = c.args.types.now in
    sym (above-before (measured (layouts (structs_in table)) c.args.measure) c.args.greatest c.in-Some.count (parts (type_in table c.args.returned)) (parts_of_each (types_in table c.args.parameters)) (sym c.in-Some.ensures))

pub function_above-loop-first-init : goal.function_above-loop-first-init
function_above-loop-first-init t c =
    let table = c.args.types.now in
    record {
      stands = c.requires.parameters;
      lighter = omega arith;
      whole = sym (above-behind (measured (layouts (structs_in table)) c.args.measure) c.args.greatest (parts (type_in table c.args.returned)) (parts_of_each (types_in table c.args.parameters)) (sym c.in_default.ensures));
    }

pub function_above-returns-in-Some-part_above : goal.function_above-returns-in-Some-part_above
function_above-returns-in-Some-part_above t c =
    let table = c.args.types.now in
    let measure = measured (layouts (structs_in table)) c.args.measure in
    let first = c.in-Some-first_parameter.first in
    let others = c.in-Some-first_parameter.others in
    sym (above-before measure c.args.greatest c.in-Some-part_above.count (parts (type_in table first)) (parts_of_each (types_in table others)) (sym c.in-Some-part_above.ensures))
    ∙ sym (ap (λ list. first_above c.args.greatest (map measure (parts_of_each list))) c.in-Some-first_parameter.ensures.0)
    ∙ c.loop-first.invariant.whole

pub function_above-loop-first-preserved : goal.function_above-loop-first-preserved
function_above-loop-first-preserved t c =
    let table = c.args.types.now in
    let measure = measured (layouts (structs_in table)) c.args.measure in
    let first = c.in-Some-first_parameter.first in
    let others = c.in-Some-first_parameter.others in
    let heavier = ap weights c.in-Some-first_parameter.ensures.0 in
    record {
      stands = c.in-Some-first_parameter.ensures.2;
      lighter = omega (arith, heavier, c.loop-first.invariant.lighter);
      whole = sym (above-behind measure c.args.greatest (parts (type_in table first)) (parts_of_each (types_in table others)) (sym c.in_default-part_above.ensures))
          ∙ sym (ap (λ list. first_above c.args.greatest (map measure (parts_of_each list))) c.in-Some-first_parameter.ensures.0)
          ∙ c.loop-first.invariant.whole;
    }

pub part_above-returns-then-count-greatest : goal.part_above-returns-then-count-greatest
part_above-returns-then-count-greatest t c =
    let table = c.args.types.now in
    let measure = measured (layouts (structs_in table)) c.args.measure in
    let rest = type_in table c.loop-measure.rest in
    ap Some c.of-count.ensures ∙ sym (above-whole measure c.args.greatest rest (subst (λ count. c.args.greatest < count) c.of-count.ensures c.if-count-greatest.true)) ∙ c.loop-measure.invariant.whole
