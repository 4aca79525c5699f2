-- Elaboration keeps types: the typed tree of a program that violates no rule is well typed, where of its literals each is found at its
-- place.
use Rattle.std.proofs.Common.{◌≡◌, ℕ, Bool, true, false, ◌&&◌, List, [], Option, Some, None, codes, refl, sym, ap, ◌∙◌}
use Rattle.std.proofs.lemmas.Bool.{and_from}
use Rattle.std.proofs.lemmas.Option.{none-some, same_Some}
use Rattle.c_syntax.specs.Trees.{ProgramTree}
use Rattle.c_typed.specs.Types.{CType, Function, NoTypes, int, same_type}
use Rattle.c_typed.specs.Names.{contains}
use Rattle.c_typed.specs.Typed.{Program}
use Rattle.c_rules.specs.declared.rule.TypeRule.TheVariants as T
use Rattle.c_rules.specs.Names.{Scope, FileName, file_name}
use Rattle.c_rules.specs.Known.{unless}
use Rattle.c_rules.specs.Programs.{violations, items, outermost, defined_in}
use Rattle.c_rules.specs.Elaborated.{literals_in_items, typed_of}
use Rattle.c_typed.specs.Programs.{IsWellTyped, are_structs, all_complete, all_listed, are_globals, are_functions, has_main}
use Rattle.c_rules.specs.Fitting.{AreListed}
use Rattle.c_rules.proofs.Nothing.{both_none, unless_none, name_itself}
use Rattle.c_rules.proofs.Structures.{are_structs_true}
use Rattle.c_rules.proofs.Outside.{type_in, Good}
use Rattle.c_rules.proofs.Items.{Passes, items_pass, last, last_structs}
use Rattle.c_rules.proofs.Completed.{each_contained, all_are_complete, all_are_listed}
use Rattle.c_rules.proofs.Declarations.{IsDefined, matched_items, defined_items}
use Rattle.c_rules.proofs.Around.{Whole}
use Rattle.c_rules.proofs.FunctionsFit.{functions_typed}
use Rattle.c_rules.proofs.GlobalsFit.{globals_typed}

abbrev main_by : Option CType → Bool
main_by None = false
main_by (Some c_type) = same_type c_type (Function int NoTypes)

-- the type that an entry has
entry_of : (entry : Option FileName) (c_type : CType) → type_in entry ≡ Some c_type → (found : FileName) × (entry ≡ Some found) × (found.c_type ≡ Some c_type)
entry_of None c_type e = absurd (none-some c_type e)
entry_of (Some found) c_type e = (found, refl, e)

module _ (program : ProgramTree) (none : violations program ≡ []) where
  abbrev begin : Scope
  begin = outermost program

  abbrev end : Scope
  end = last begin program.items

  abbrev typed : Program
  typed = typed_of program

  parts : (items begin program.items ≡ []) × (unless (contains begin.defined (codes "main")) T.T01 program.end ≡ [])
  parts = both_none (items begin program.items) (unless (contains begin.defined (codes "main")) T.T01 program.end) none

  begins : Good begin
  begins = record { locals = refl; structs = tt; file = λ name entry at. absurd (none-some entry at) }

  passed : Passes begin end
  passed = items_pass begin begins program.items parts.0

  structs_last : typed.structs ≡ end.structs
  structs_last = last_structs begin program.items

  is_defined : (name : List ℕ) → contains begin.defined name ≡ true → IsDefined typed.functions end.file name
  is_defined name inside = defined_items begin begins program.items parts.0 name (sym (each_contained [] (defined_in program.items) name) ∙ inside)

  whole : Whole typed end
  whole = record {
    good = passed.0;
    structs = structs_last;
    completed = sym passed.1.completed;
    listed = ap (all_listed typed.completed) structs_last ∙ all_are_listed begin refl program.items;
    globals = matched_items begin begins program.items parts.0 [] (λ name. refl);
    functions = λ name inside. is_defined name (ap (λ d. contains d name) passed.1.defined ∙ inside);
  }

  main_typed : has_main typed ≡ true
  main_typed =
      let main = is_defined (codes "main") (unless_none (contains begin.defined (codes "main")) T.T01 program.end parts.1) in
      let entry = entry_of (file_name end.file (codes "main")) main.0 main.2 in
      let fit = passed.0.file (codes "main") entry.0 entry.1 in
      let same : fit.c_type ≡ main.0 = same_Some fit.c_type main.0 (sym fit.is ∙ entry.2) in
      ap main_by main.1 ∙ sym (ap (λ t. same_type t (Function int NoTypes)) same) ∙ fit.main (name_itself (codes "main"))

  structs_typed : are_structs typed.structs ≡ true
  structs_typed = ap are_structs structs_last ∙ are_structs_true end.structs passed.0.structs

  tags_typed : all_complete typed.structs typed.completed ≡ true
  tags_typed = ap (λ s. all_complete s typed.completed) structs_last ∙ all_are_complete begin begins program.items parts.0

pub elaboration_keeps_types : (program : ProgramTree) → AreListed (literals_in_items program.items) (literals_in_items program.items) → violations program ≡ [] → IsWellTyped (typed_of program)
elaboration_keeps_types program listed none =
    let t = typed_of program in
    let begin = outermost program in
    let w = whole program none in
    let structures = and_from (are_structs t.structs && all_complete t.structs t.completed) (all_listed t.completed t.structs)
    (and_from (are_structs t.structs) (all_complete t.structs t.completed) (structs_typed program none) (tags_typed program none)) w.listed in
    let variables = globals_typed t (last begin program.items) w begin (begins program none) program.items (parts program none).0 refl listed in
    let functions = functions_typed t (last begin program.items) w begin (begins program none) program.items (parts program none).0 refl listed in
    and_from (are_structs t.structs && all_complete t.structs t.completed && all_listed t.completed t.structs && are_globals t t.globals && are_functions t t.functions) (has_main t)
    (and_from (are_structs t.structs && all_complete t.structs t.completed && all_listed t.completed t.structs && are_globals t t.globals) (are_functions t t.functions)
    (and_from (are_structs t.structs && all_complete t.structs t.completed && all_listed t.completed t.structs) (are_globals t t.globals) structures variables) functions)
    (main_typed program none)
