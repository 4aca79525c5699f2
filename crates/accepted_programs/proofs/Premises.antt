-- What a program's meaning presumes of its typed tree holds of that of an accepted text.
use Rattle.std.proofs.Common.{◌≡◌, ℕ, false, is_some, List, [], Option, Some, None, refl, sym, ap, subst, ◌∙◌}
use Rattle.std.proofs.lemmas.Bool.{true≢false}
use Rattle.run_theory.specs.Places.{first_place}
use Rattle.c_grammar.specs.Leaves.{Leaf}
use Rattle.c_lexer.specs.Tokens.{Divides}
use Rattle.c_syntax.specs.Trees.{ProgramTree}
use Rattle.c_reader.specs.ProgramReadings.{IsProgram}
use Rattle.accepted_programs.proofs.CReaderLiterals.Programs.{literals_apart}
use Rattle.c_typed.specs.Typed.{Program}
use Rattle.c_typed.specs.Programs.{IsWellTyped}
use Rattle.c_typed.specs.Sizes.{HasStorableTypes}
use Rattle.c_typed.proofs.Storable.{storable_types}
use Rattle.c_rules.specs.Programs.{violations}
use Rattle.c_rules.specs.Elaborated.{typed_of}
use Rattle.c_rules.proofs.ProgramsFit.{elaboration_keeps_types}
use Rattle.accepted_programs.proofs.Accepted.{accepted_filled}
use Rattle.c_rules.specs.Named.{NamedType}
use Rattle.c_rules.specs.NamedItems.{named_types}
use Rattle.c_types.specs.Limits.{exceeded}
use Rattle.accepted_programs.proofs.CTypesSizes.Program.{limits_give_small_types}

none_from : {A : Type 0} (option : Option A) → is_some option ≡ false → option ≡ None
none_from None e = refl
none_from (Some a) e = absurd (true≢false e)

-- The typed tree is well typed, and the types of its objects have exact sizes and a byte at least.
pub record Premises (typed : Program) : Type 0 where
  pub well_typed : IsWellTyped typed
  pub storable : HasStorableTypes typed

-- So is that of a program that a text spells, which violates no rule and exceeds no limit.
pub accepted_premises : (text : List ℕ) (leaves : List Leaf) (program : ProgramTree) (typed : Program) (named : List NamedType)
    → Divides first_place text leaves → IsProgram leaves program
    → violations program ≡ [] → typed ≡ typed_of program → named ≡ named_types program → is_some (exceeded typed named) ≡ false → Premises typed
accepted_premises text leaves program typed named divides spelled none elaborated listed within =
    let same = ap (λ types. exceeded typed types) listed ∙ ap (λ (tree : Program). exceeded tree (named_types program)) elaborated in
    subst (λ (tree : Program). Premises tree) (sym elaborated)
    (record {
      well_typed = elaboration_keeps_types program (literals_apart text leaves program divides spelled) none;
      storable = storable_types (typed_of program) (limits_give_small_types program none (sym same ∙ none_from (exceeded typed named) within)) (accepted_filled leaves program spelled none);
    })
