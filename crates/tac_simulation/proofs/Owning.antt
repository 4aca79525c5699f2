-- The objects of a function are those of its own locals, each of another one; and its parameters are the locals in scope where its body
-- begins.
use Rattle.std.proofs.Common.{◌≡◌, ℕ, suc, ◌≤◌, ◌<◌, Bool, true, false, List, [], ◌∷◌, ◌++◌, append-nil, append_assoc, refl, sym, ap, ◌∙◌, subst, ne_eqb, arith}
use Rattle.std.proofs.lemmas.Bool.{cond-false, cond-true}
use Rattle.c_typed.specs.Types.{CType}
use Rattle.c_typed.specs.Typed.{Block, FunctionDef, Program}
use Rattle.c_typed.specs.Programs.{with_parameters}
use Rattle.tac_ir.specs.declared.program.Counts.{Counts}
use Rattle.tac_ir.specs.declared.register.Local.{Local}
use Rattle.tac_ir.specs.declared.register.Local.TheVariants as L
use Rattle.tac_ir.specs.Code.{Op, LocalObject, Function}
use Rattle.tac_ir.specs.Values.{same_local}
use Rattle.tac_ir.specs.Objects.{own_type, whole}
use Rattle.tac_build.specs.Homes.{Home, Scope, takes_block}
use Rattle.tac_build.specs.Spots.{Spot}
use Rattle.tac_build.specs.ProgramCode.{parameter_home, ParameterCode, ParametersCode, first_spot, FunctionCode}
use Rattle.tac_build.specs.Forms.{scope_types, context_of}
use Rattle.tac_simulation.proofs.Memory.{same_local-refl}
use Rattle.tac_simulation.proofs.Executing.{AreNumbered, HaveObjects}
use Rattle.tac_simulation.proofs.Widens.{AreNew, objects_before, block_widens}

-- ---- lists of objects, each of another local

abbrev IsApart : Local → List LocalObject → Type 0
IsApart local [] = Unit {0}
IsApart local (first ∷ others) = (same_local local first.local ≡ false) × IsApart local others

abbrev AreApart : List LocalObject → Type 0
AreApart [] = Unit {0}
AreApart (first ∷ others) = IsApart first.local others × AreApart others

apart_both : (local : Local) (one other : List LocalObject) → IsApart local one → IsApart local other → IsApart local (one ++ other)
apart_both local [] other a b = b
apart_both local (first ∷ others) other a b = (a.0, apart_both local others other a.1 b)

have_more : (first : LocalObject) (own objects : List LocalObject) → IsApart first.local objects → HaveObjects own objects → HaveObjects (first ∷ own) objects
have_more first own [] apart have = tt
have_more first own (object ∷ objects) apart have =
    (cond-false (same_local first.local object.local) (whole first.c_type) (own_type own object.local) apart.0 ∙ have.0, have_more first own objects apart.1 have.1)

have_own : (objects : List LocalObject) → AreApart objects → HaveObjects objects objects
have_own [] apart = tt
have_own (first ∷ others) apart =
    (cond-true (same_local first.local first.local) (whole first.c_type) (own_type others first.local) (same_local-refl first.local), have_more first others others apart.0 (have_own others apart.1))

-- ---- parameters and variables

other_variable : (local : Local) (number : ℕ) → local ≡ L.Variable number → (low high : ℕ) (objects : List LocalObject) → number < low → AreNew low high objects → IsApart local objects
other_variable local number is low high [] less new = tt
other_variable local number is low high (first ∷ others) less new =
    let least = new.2 in (
      (λ i. same_local (is i) (new.1 i)) ∙ ne_eqb number new.0 (λ e. omega (arith, e, less, least)),
      other_variable local number is (suc new.0) high others (omega (arith, less, least)) new.4,
    )

variables_apart : (low high : ℕ) (objects : List LocalObject) → AreNew low high objects → AreApart objects
variables_apart low high [] new = tt
variables_apart low high (first ∷ others) new = (other_variable first.local new.0 new.1 (suc new.0) high others (omega arith) new.4, variables_apart (suc new.0) high others new.4)

-- objects of parameters with numbers from one on
abbrev AreParameters : ℕ → List LocalObject → Type 0
AreParameters low [] = Unit {0}
AreParameters low (first ∷ others) = (number : ℕ) × (first.local ≡ L.Parameter number) × (low ≤ number) × AreParameters (suc number) others

parameters_from : (low later : ℕ) (objects : List LocalObject) → low ≤ later → AreParameters later objects → AreParameters low objects
parameters_from low later [] less are = tt
parameters_from low later (first ∷ others) less are = let least = are.2 in (are.0, are.1, omega (arith, less, least), are.3)

other_parameter : (local : Local) (number : ℕ) → local ≡ L.Parameter number → (low : ℕ) (objects : List LocalObject) → number < low → AreParameters low objects → IsApart local objects
other_parameter local number is low [] less are = tt
other_parameter local number is low (first ∷ others) less are =
    let least = are.2 in (
      (λ i. same_local (is i) (are.1 i)) ∙ ne_eqb number are.0 (λ e. omega (arith, e, less, least)),
      other_parameter local number is (suc are.0) others (omega (arith, less, least)) are.3,
    )

no_variable : (local : Local) (number : ℕ) → local ≡ L.Parameter number → (low high : ℕ) (objects : List LocalObject) → AreNew low high objects → IsApart local objects
no_variable local number is low high [] new = tt
no_variable local number is low high (first ∷ others) new = ((λ i. same_local (is i) (new.1 i)), no_variable local number is (suc new.0) high others new.4)

all_apart : (low from to : ℕ) (parameters variables : List LocalObject) → AreParameters low parameters → AreNew from to variables → AreApart (parameters ++ variables)
all_apart low from to [] variables are new = variables_apart from to variables new
all_apart low from to (first ∷ others) variables are new = (
  apart_both first.local others variables (other_parameter first.local are.0 are.1 (suc are.0) others (omega arith) are.3) (no_variable first.local are.0 are.1 from to variables new),
  all_apart (suc are.0) from to others variables are.3 new,
)

-- ---- the code of parameters

record Added (number : ℕ) (from to : Spot) : Type 0 where
  more : List LocalObject
  objects : to.objects ≡ from.objects ++ more
  are : AreParameters number more

parameter_adds : (points : List Op) (home : Home) (number : ℕ) (from to : Spot) → home.local ≡ L.Parameter number → ParameterCode points home number from to
    → (more : List LocalObject) × (to.objects ≡ from.objects ++ more) × ((later : ℕ) (others : List LocalObject) → number < later → AreParameters later others → AreParameters number (more ++ others))
parameter_adds points home number from to is code = by home.is_object code
  where
    by : (b : Bool) → ParameterCode points (record home { is_object = b }) number from to
        → (more : List LocalObject) × (to.objects ≡ from.objects ++ more) × ((later : ℕ) (others : List LocalObject) → number < later → AreParameters later others → AreParameters number (more ++ others))
    by true code = (
      record { local = home.local; c_type = home.c_type } ∷ [],
      ap (λ (spot : Spot). spot.objects) code.1,
      λ later others less are. (number, is, omega arith, parameters_from (suc number) later others (omega (arith, less)) are),
    )
    by false code = ([], ap (λ (spot : Spot). spot.objects) code ∙ sym (append-nil from.objects), λ later others less are. parameters_from number later others (omega (arith, less)) are)

parameters_add : (points : List Op) (body : Block) (types : List CType) (number : ℕ) (scope : Scope) (from to : Spot) (inner : Scope) → ParametersCode points body types number scope from to inner → Added number from to
parameters_add points body [] number scope from to inner code = record { more = []; objects = ap (λ (spot : Spot). spot.objects) code.0 ∙ sym (append-nil from.objects); are = tt }
parameters_add points body (first ∷ others) number scope from to inner code =
    let one = parameter_adds points (parameter_home number first (takes_block number body)) number from code.0 refl code.1 in
    let rest = parameters_add points body others (suc number) (parameter_home number first (takes_block number body) ∷ scope) code.0 to inner code.2 in
    record {
      more = one.0 ++ rest.more;
      objects = rest.objects ∙ ap (λ objects. objects ++ rest.more) one.1 ∙ append_assoc from.objects one.0 rest.more;
      are = one.2 (suc number) rest.more (omega arith) rest.are;
    }

pub parameters_numbered : (counts : Counts) (points : List Op) (body : Block) (types : List CType) (number : ℕ) (scope : Scope) (from to : Spot) (inner : Scope) → ParametersCode points body types number scope from to inner
    → AreNumbered counts scope → AreNumbered counts inner
parameters_numbered counts points body [] number scope from to inner code are = subst (AreNumbered counts) (sym code.1) are
parameters_numbered counts points body (first ∷ others) number scope from to inner code are =
    parameters_numbered counts points body others (suc number) (parameter_home number first (takes_block number body) ∷ scope) code.0 to inner code.2 (tt, are)

pub parameters_typed : (points : List Op) (body : Block) (types : List CType) (number : ℕ) (scope : Scope) (from to : Spot) (inner : Scope) → ParametersCode points body types number scope from to inner
    → scope_types inner ≡ with_parameters types (scope_types scope)
parameters_typed points body [] number scope from to inner code = ap scope_types code.1
parameters_typed points body (first ∷ others) number scope from to inner code =
    parameters_typed points body others (suc number) (parameter_home number first (takes_block number body) ∷ scope) code.0 to inner code.2

-- ---- functions

module _ (program : Program) (def : FunctionDef) (function : Function) (code : FunctionCode program def function) where
  -- where the body ends
  pub last_have : HaveObjects function.objects code.last.objects
  last_have =
      let front = parameters_add function.points def.body def.parameters 0 [] first_spot code.inside code.scope code.entry in
      let body = block_widens program function.points def.body code.scope code.inside code.last (record { broken = 0; continued = 0 }) code.body in
      let all : code.last.objects ≡ front.more ++ body.more = body.objects ∙ ap (λ objects. objects ++ body.more) front.objects in
      let own : function.objects ≡ code.last.objects = code.objects ∙ ap (λ (spot : Spot). spot.objects) code.ending.1 in
      subst (λ objects. HaveObjects objects code.last.objects) (sym own)
      (subst (λ objects. HaveObjects objects objects) (sym all) (have_own (front.more ++ body.more) (all_apart 0 code.inside.counts.variables code.last.counts.variables front.more body.more front.are body.own)))

  -- and where it begins
  pub inside_have : HaveObjects function.objects code.inside.objects
  inside_have = objects_before function.objects (block_widens program function.points def.body code.scope code.inside code.last (record { broken = 0; continued = 0 }) code.body) last_have

  pub inside_numbered : AreNumbered code.inside.counts code.scope
  inside_numbered = parameters_numbered code.inside.counts function.points def.body def.parameters 0 [] first_spot code.inside code.scope code.entry tt

  pub inside_context : context_of program code.scope ≡ record { program = program; locals = with_parameters def.parameters [] }
  inside_context = ap (λ types. record { program = program; locals = types }) (parameters_typed function.points def.body def.parameters 0 [] first_spot code.inside code.scope code.entry)
