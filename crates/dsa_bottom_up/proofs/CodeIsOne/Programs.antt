-- A program has one code.
use Rattle.std.proofs.Common.{◌≡◌, ℕ, List, sym, ap, subst, ◌∙◌}
use Rattle.std.specs.Prelude.{slice_get}
use Rattle.std.proofs.lemmas.Option.{same_Some}
use Rattle.c_typed.specs.Types.{CType}
use Rattle.c_typed.specs.Typed.{Program}
use Rattle.tac_ir.specs.Code.{Tac}
use Rattle.tac_ir.specs.States.{Owner, InStart, InFunction, function_of, points_of, objects_of}
use Rattle.tac_build.specs.ProgramCode.{start_points, Code}
use Rattle.dsa_bottom_up.specs.Same.{SameCode, renamed}
use Rattle.dsa_bottom_up.proofs.CodeIsOne.Functions.{functions_same}

pub code_is_one : (program : Program) (a b : Tac) → Code program a → Code program b → SameCode a b
code_is_one program a b one two =
    let mains = same_Some one.main two.main (sym one.named ∙ two.named) in
    record {
      structs = one.structs ∙ sym two.structs;
      globals = one.globals ∙ sym two.globals;
      literals = one.literals ∙ sym two.literals;
      functions = sym (functions_same program program.functions a.functions b.functions one.functions two.functions);
      points = one.start ∙ ap start_points mains ∙ sym two.start;
      objects = one.objects ∙ sym two.objects;
      counts = one.counts ∙ sym two.counts;
      parameters = one.parameters ∙ sym two.parameters;
    }

-- ---- functions of the same code

module _ (a b : Tac) (same : SameCode a b) where
  -- but for the name and the type of `start` they are one
  pub same_but_names : a ≡ renamed a.start.name a.start.c_type b
  same_but_names = λ i. record {
    structs = same.structs i;
    globals = same.globals i;
    literals = same.literals i;
    functions = same.functions i;
    start = record { name = a.start.name; c_type = a.start.c_type; parameters = same.parameters i; counts = same.counts i; objects = same.objects i; points = same.points i };
  }

  -- what doesn't see these is told of one as of the other, and what holds whatever they are holds of both
  pub same_seen : {X : Type 0} (see : Tac → X) → ((tac : Tac) (name : List ℕ) (c_type : CType) → see (renamed name c_type tac) ≡ see tac) → see a ≡ see b
  same_seen see blind = ap see same_but_names ∙ blind b a.start.name a.start.c_type

  pub same_held : (Holds : Tac → Type 0) → ((tac : Tac) (name : List ℕ) (c_type : CType) → Holds tac → Holds (renamed name c_type tac)) → Holds b → Holds a
  same_held Holds blind holds = subst Holds (sym same_but_names) (blind b a.start.name a.start.c_type holds)

  -- a function is the other's, with all that it has
  pub same_function : (number : ℕ) → function_of a (InFunction number) ≡ function_of b (InFunction number)
  same_function number = λ i. slice_get (same.functions i) number

  -- and `start` is, but for its name and its type
  pub same_start : a.start ≡ record b.start { name = a.start.name; c_type = a.start.c_type }
  same_start = λ i. (same_but_names i).start

  -- each has the points of the other's, and the locals in memory
  pub same_points : (owner : Owner) → points_of (function_of a owner) ≡ points_of (function_of b owner)
  same_points InStart = same.points
  same_points (InFunction number) = ap points_of (same_function number)

  pub same_objects : (owner : Owner) → objects_of (function_of a owner) ≡ objects_of (function_of b owner)
  same_objects InStart = same.objects
  same_objects (InFunction number) = ap objects_of (same_function number)
