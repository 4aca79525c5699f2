use Rattle.std.proofs.Common.{◌≡◌, ◌+◌, map, Some, None, sym, subst, ◌∙◌, arith}
use Rattle.std.proofs.lemmas.List.{length-map}
use Rattle.c_typed.specs.declared.definition.Scalar as memory_scalar
use Rattle.c_typed.specs.DefinitionViews.{scalar_of}
use Rattle.tac_ir.specs.First.{named_function, constant_of}
use Rattle.tac_ir.specs.Views.{tac_of, function_in}
use Rattle.pool_rewrite.specs.Rewriting.{value_word}
use Rattle.pool_rewrite.proofs.FoundStatics.{function_below, function_word_is, no_function_word}
use Rattle.pool_rewrite.proofs.first.word_of.Goals as goal

pub overflow_add-result : goal.overflow_add-result
overflow_add-result c =
    let tac = c.args.tac.now in
    let named = sym (c.requires.program.named.functions tac.types c.as_slice.result.now) ∙ sym c.in-Some.ensures.value in
    let below = function_below 0 (map (function_in tac.types) tac.functions.items) c.as_slice.result.now c.in-Some.number.now named in
    let long = length-map tac.functions.items (function_in tac.types) in
    let few = c.requires.program.functions in
    omega (arith, below, long, few)

pub overflow_add-result-in-Some : goal.overflow_add-result-in-Some
overflow_add-result-in-Some c =
    let tac = c.args.tac.now in
    let named = sym (c.requires.program.named.functions tac.types c.as_slice.result.now) ∙ sym c.in-Some.ensures.value in
    let below = function_below 0 (map (function_in tac.types) tac.functions.items) c.as_slice.result.now c.in-Some.number.now named in
    let long = length-map tac.functions.items (function_in tac.types) in
    let few = c.requires.program.functions in
    omega (arith, below, long, few)

pub returns-in-Some : goal.returns-in-Some
returns-in-Some c =
    let tac = c.args.tac.now in
    let named = sym (c.requires.program.named.functions tac.types c.as_slice.result.now) ∙ sym c.in-Some.ensures.value in
    let own = subst (λ name. named_function 0 (map (function_in tac.types) tac.functions.items) name ≡ Some c.in-Some.number.now) c.as_slice.ensures named in
    subst (λ (v : memory_scalar.Scalar). 281474976710656 + c.in-Some.number.now + 1 ≡ value_word (tac_of tac) (constant_of (tac_of tac) (scalar_of v))) (sym c.in-Function.is)
    (function_word_is (tac_of tac) c.in-Function.name c.in-Some.number.now own)

pub returns-in-None : goal.returns-in-None
returns-in-None c =
    let tac = c.args.tac.now in
    let named = sym (c.requires.program.named.functions tac.types c.as_slice.result.now) ∙ sym c.in-None.ensures.value in
    let own = subst (λ name. named_function 0 (map (function_in tac.types) tac.functions.items) name ≡ None) c.as_slice.ensures named in
    subst (λ (v : memory_scalar.Scalar). 0 ≡ value_word (tac_of tac) (constant_of (tac_of tac) (scalar_of v))) (sym c.in-Function.is) (no_function_word (tac_of tac) c.in-Function.name own)
