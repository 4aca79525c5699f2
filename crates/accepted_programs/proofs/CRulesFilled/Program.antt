-- The typed tree of a program that violates no rule is filled, where its structures declare members and its lists of first values have one.
use Rattle.std.proofs.Common.{◌≡◌, true, ◌&&◌, List, [], ◌∷◌, codes, refl, ap, subst, ◌∙◌}
use Rattle.std.proofs.lemmas.Bool.{and_from}
use Rattle.std.proofs.lemmas.Option.{none-some}
use Rattle.c_syntax.specs.Trees.{ProgramTree}
use Rattle.c_typed.specs.Types.{literal_type}
use Rattle.c_typed.specs.Names.{contains}
use Rattle.c_typed.specs.Layouts.{StructDef}
use Rattle.c_typed.specs.Typed.{GlobalDef, LiteralDef}
use Rattle.c_rules.specs.declared.rule.TypeRule.TheVariants as T
use Rattle.c_rules.specs.Known.{unless}
use Rattle.c_rules.specs.Programs.{violations, items, outermost}
use Rattle.c_rules.specs.Elaborated.{typed_of, in_items}
use Rattle.c_rules.proofs.Nothing.{both_none}
use Rattle.c_rules.proofs.Structures.{Keeps}
use Rattle.c_rules.proofs.Outside.{Good}
use Rattle.c_rules.proofs.Items.{last, last_structs, items_pass}
use Rattle.accepted_programs.specs.Knows.{Every}
use Rattle.c_typed.specs.Sizes.{IsFilled, fills, are_filled, globals_make, literals_make, functions_make}
use Rattle.c_typed.proofs.Filled.{literal_filled}
use Rattle.accepted_programs.specs.Whole.{FilledNames}
use Rattle.accepted_programs.specs.Given.{IsGiven}
use Rattle.accepted_programs.proofs.CRulesFilled.Structures.{GlobalFilled, each_global_filled}
use Rattle.accepted_programs.proofs.CRulesFilled.Functions.{items_filled}
use Rattle.accepted_programs.proofs.Completed.{structs_filled, items_structs}

all_globals : (structs : List StructDef) (globals : List GlobalDef) → Every (GlobalFilled structs) globals → globals_make (fills structs) globals ≡ true
all_globals structs [] all = refl
all_globals structs (first ∷ others) all = and_from (fills structs first.c_type) (globals_make (fills structs) others) all.0 (all_globals structs others all.1)

all_literals : (structs : List StructDef) (literals : List LiteralDef) → literals_make (fills structs) literals ≡ true
all_literals structs [] = refl
all_literals structs (first ∷ others) = and_from (fills structs (literal_type first.bytes)) (literals_make (fills structs) others) (literal_filled structs first.bytes) (all_literals structs others)

pub elaboration_gives_filled : (program : ProgramTree) → IsGiven program → violations program ≡ [] → IsFilled (typed_of program)
elaboration_gives_filled program given none =
    let typed = typed_of program in
    let structs = typed.structs in
    let begin = outermost program in
    let no_rule = (both_none (items begin program.items) (unless (contains begin.defined (codes "main")) T.T01 program.end) none).0 in
    let begins : Good begin = record { locals = refl; structs = tt; file = λ name entry at. absurd (none-some entry at) } in
    let names : FilledNames structs begin = record { locals = tt; file = tt; members = tt; keeps = λ tag members at. absurd (none-some members at) } in
    let same = last_structs begin program.items in
    let keeps : Keeps (last begin program.items).structs structs = subst (λ (s : List StructDef). Keeps s structs) same (λ tag members at. at) in
    let all = items_filled structs begin begins names program.items no_rule given keeps in
    let completed = structs_filled (last begin program.items).structs (items_pass begin begins program.items no_rule).0.structs (items_structs begin tt program.items given) in (
      ap are_filled same ∙ completed,
      and_from (globals_make (fills structs) typed.globals && literals_make (fills structs) typed.literals) (functions_make (fills structs) typed.functions)
          (and_from (globals_make (fills structs) typed.globals) (literals_make (fills structs) typed.literals)
          (all_globals structs typed.globals (each_global_filled structs [] (in_items begin program.items).globals tt all.0)) (all_literals structs typed.literals))
          all.1,
    )
