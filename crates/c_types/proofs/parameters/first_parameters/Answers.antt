use Rattle.std.proofs.Common.{◌<◌, ◌∷◌, length, drop, sym, ap, ◌∙◌, arith}
use Rattle.std.proofs.lemmas.List.{drop_more}
use Rattle.c_syntax.specs.declared.expr.Suffix.{Suffix}
use Rattle.c_syntax.specs.Views.{parameters_of}
use Rattle.c_types.proofs.Declaring.{first-list}
use Rattle.c_types.proofs.parameters.first_parameters.Goals as goal

pub returns-in-Function : goal.returns-in-Function
returns-in-Function c =
    let suffixes = c.args.suffixes.now in
    let lt : 0 < length suffixes = omega (arith, c.in-len1-up.len_at_least) in
    ap parameters_of c.as_slice.ensures.value
    ∙ first-list suffixes (drop 1 suffixes) c.first-item.result c.in-Function.parameters
    (drop_more suffixes 0 c.first-item.result lt ∙ ap (λ (first : Suffix). first ∷ drop 1 suffixes) (sym c.first-item.is)) c.in-Function.is
