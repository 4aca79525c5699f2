use Rattle.std.proofs.Common.{◌≡◌, ℕ, List, map, length, None, sym, ap, ◌∙◌}
use Rattle.std.proofs.lemmas.List.{length-map}
use Rattle.std.specs.Option.{option_or}
use Rattle.c_typed.specs.Table.{structs_in}
use Rattle.c_typed.specs.Layouts.{layouts}
use Rattle.c_typed.specs.declared.definition.FunctionDef.{FunctionDef}
use Rattle.c_typed.specs.DefinitionViews.{function_in, global_in, literal_of}
use Rattle.c_types_expressions.specs.Passes.{named_type}
use Rattle.c_types.specs.declared.limits.Limit.TheVariants.{L1, L2, L3, L4, L5, L6}
use Rattle.c_types.specs.declared.limits.Measure.TheVariants as M
use Rattle.c_types.specs.Limits.{exceeds, above, excess_count, first_excess, first_above, frames, added, globals_size, literals_size}
use Rattle.c_types.specs.Measures.{measured}
use Rattle.c_types.proofs.LimitOrder.{exceeds-one, exceeds-two, exceeds-three, exceeds-four, exceeds-five}
use Rattle.c_types.proofs.limits.check_limits.Goals as goal

pub returns : goal.returns
returns c =
    let program = c.args.program.now in
    let types = program.types in
    let table = layouts (structs_in types) in
    let functions = map (function_in types) program.functions.items in
    let named = map (named_type types) c.args.named.now in
    let found = λ (measure : M.the_data) (greatest : ℕ). excess_count (first_excess (measured table measure) greatest named) in
    let same_functions = ap (λ (items : List FunctionDef). map (function_in types) items) c.as_slice-functions.ensures.value in
    let a1 = above 4096 (length functions) in
    let a2 = found M.Parameters 64 in
    let a3 = found M.Slots 1024 in
    let a4 = found M.Size 1048576 in
    let a5 = first_above 1048576 (frames table functions) in
    let a6 = above 1073741824 (added (globals_size table (map (global_in types) program.globals.items)) (literals_size (map literal_of program.literals.items))) in
    let e1 : c.exceeds.result ≡ exceeds L1 a1 None =
    c.exceeds.ensures ∙ ap (λ a. exceeds L1 a None) (c.above.ensures ∙ ap (above 4096) (ap length c.as_slice-functions.ensures.value ∙ sym (length-map program.functions.items (function_in types)))) in
    let e2 : c.exceeds-2.result ≡ exceeds L2 a2 None =
    c.exceeds-2.ensures ∙ ap (λ a. exceeds L2 a None) c.first_excess.ensures in
    let e3 : c.exceeds-3.result ≡ exceeds L3 a3 None =
    c.exceeds-3.ensures ∙ ap (λ a. exceeds L3 a None) c.first_excess-2.ensures in
    let e4 : c.exceeds-4.result ≡ exceeds L4 a4 None =
    c.exceeds-4.ensures ∙ ap (λ a. exceeds L4 a None) c.first_excess-3.ensures in
    let e5 : c.exceeds-5.result ≡ exceeds L5 a5 None =
    c.exceeds-5.ensures ∙ ap (λ a. exceeds L5 a None) (c.first_frame.ensures ∙ ap (λ functions. first_above 1048576 (frames table functions)) same_functions) in
    let e6 : c.exceeds-6.result ≡ exceeds L6 a6 None =
    c.exceeds-6.ensures ∙ ap (λ a. exceeds L6 a None) (c.above-2.ensures ∙ ap (above 1073741824) c.static_size.ensures) in
    let o2 : c.or.result ≡ exceeds L1 a1 (exceeds L2 a2 None) = c.or.ensures ∙ (λ i. option_or (e1 i) (e2 i)) ∙ exceeds-one L1 a1 (exceeds L2 a2 None) in
    let o3 : c.or-2.result ≡ exceeds L1 a1 (exceeds L2 a2 (exceeds L3 a3 None)) = c.or-2.ensures ∙ (λ i. option_or (o2 i) (e3 i)) ∙ exceeds-two L1 L2 a1 a2 (exceeds L3 a3 None) in
    let o4 : c.or-3.result ≡ exceeds L1 a1 (exceeds L2 a2 (exceeds L3 a3 (exceeds L4 a4 None))) = c.or-3.ensures ∙ (λ i. option_or (o3 i) (e4 i)) ∙ exceeds-three L1 L2 L3 a1 a2 a3 (exceeds L4 a4 None) in
    let o5 : c.or-4.result ≡ exceeds L1 a1 (exceeds L2 a2 (exceeds L3 a3 (exceeds L4 a4 (exceeds L5 a5 None)))) =
    c.or-4.ensures ∙ (λ i. option_or (o4 i) (e5 i)) ∙ exceeds-four L1 L2 L3 L4 a1 a2 a3 a4 (exceeds L5 a5 None) in
    c.or-5.ensures ∙ (λ i. option_or (o5 i) (e6 i)) ∙ exceeds-five L1 L2 L3 L4 L5 a1 a2 a3 a4 a5 (exceeds L6 a6 None)
