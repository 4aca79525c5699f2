-- The calls of a program within the limits have few arguments.
use Rattle.std.proofs.Common.{◌≡◌, [], None, codes, refl}
use Rattle.std.proofs.lemmas.Option.{none-some}
use Rattle.c_syntax.specs.Trees.{ProgramTree}
use Rattle.c_typed.specs.Names.{contains}
use Rattle.c_typed.specs.TypedArguments.{CallsFew}
use Rattle.c_rules.specs.declared.rule.TypeRule.TheVariants as T
use Rattle.c_rules.specs.Known.{unless}
use Rattle.c_rules.specs.Programs.{violations, items, outermost}
use Rattle.c_rules.specs.Elaborated.{typed_of}
use Rattle.c_rules.proofs.Nothing.{both_none}
use Rattle.c_rules.proofs.Outside.{Good}
use Rattle.c_rules.specs.NamedItems.{named_types}
use Rattle.c_types.specs.Limits.{exceeded}
use Rattle.accepted_programs.specs.Narrow.{NarrowNames}
use Rattle.accepted_programs.proofs.CTypesArguments.Functions.{items_narrow}
use Rattle.accepted_programs.proofs.CTypesArguments.Bounds.{named_narrow}

-- No call of the typed tree of a program that violates no rule and exceeds no limit has many arguments.
pub limits_give_few_arguments : (program : ProgramTree) → violations program ≡ [] → exceeded (typed_of program) (named_types program) ≡ None → CallsFew (typed_of program)
limits_give_few_arguments program none within =
    let begin = outermost program in
    let no_rule = (both_none (items begin program.items) (unless (contains begin.defined (codes "main")) T.T01 program.end) none).0 in
    let begins : Good begin = record { locals = refl; structs = tt; file = λ name entry at. absurd (none-some entry at) } in
    let names : NarrowNames begin = record { locals = tt; file = tt; members = tt } in
    items_narrow begin begins names program.items no_rule (named_narrow (typed_of program) (named_types program) within)
