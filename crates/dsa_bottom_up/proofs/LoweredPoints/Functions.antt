-- The points of functions of a well typed program stand, and those of `start`.
use Rattle.std.proofs.Common.{◌≡◌, ℕ, zero, suc, ◌+◌, ◌≤◌, ◌<◌, Bool, true, false, ◌&&◌, ◌||◌, List, [], ◌∷◌, ◌++◌, length, Some, None, refl, sym, ap, subst, ◌∙◌, ne_eqb, arith}
use Rattle.std.specs.Prelude.{slice_get, if◌then◌else◌, bytes_eq, codes}
use Rattle.std.specs.List.{AllByRecursion}
use Rattle.std.proofs.lemmas.Bool.{false≢true, and_parts, lt-ltb}
use Rattle.std.proofs.lemmas.Option.{none-some, same_Some}
use Rattle.c_typed.specs.Types.{CType, Void, Integer, Pointer, Array, Struct, Function, same_type, is_void}
use Rattle.c_typed.specs.Layouts.{StructDef}
use Rattle.c_typed.specs.Typed.{Block, FunctionDef, Program}
use Rattle.c_typed.proofs.Same.{same_type-true}
use Rattle.c_typed.specs.Context.{Context}
use Rattle.c_typed.specs.Expressions.{is_scalar}
use Rattle.c_typed.specs.Programs.{function_of, are_scalars, with_parameters, is_function_def, are_functions}
use Rattle.c_typed.specs.Sizes.{block_makes, functions_make, is_storable}
use Rattle.c_typed.specs.Statements.{Within, is_block}
use Rattle.tac_ir.specs.declared.program.Counts.{Counts}
use Rattle.tac_ir.specs.declared.register.Local.{Local}
use Rattle.tac_ir.specs.declared.register.Local.TheVariants as L
use Rattle.tac_ir.specs.declared.register.Register.TheVariants as R
use Rattle.tac_ir.specs.Code.{AtLocal, IntegerOperand, LocalObject, Op, Tree, Tac}
use Rattle.tac_ir.specs.Code as O
use Rattle.tac_ir.specs.Values.{same_local}
use Rattle.tac_ir.specs.Objects.{own_type, whole}
use Rattle.tac_ir.specs.States.{Owner, InStart}
use Rattle.tac_build.specs.Homes.{Home, Scope, takes_block, lies_in_memory}
use Rattle.tac_build.specs.Spots.{Spot}
use Rattle.tac_build.specs.Code.{path_from}
use Rattle.tac_build.specs.StatementCode.{with_home}
use Rattle.tac_build.specs.ProgramCode.{parameter_home, stored_argument, ParameterCode, ParametersCode, end_of, first_spot, FunctionCode, FunctionsCode, Code}
use Rattle.tac_build.specs.Forms.{scope_types, context_of}
use Rattle.heap_graph.specs.Closed.{parameters_of}
use Rattle.graph_unification.specs.Standing.{HasSlot, IsOwn, ValueStands, ReturnStands, OpStands, FunctionStands}
use Rattle.dsa_bottom_up.proofs.Paths.{IsOf, access_stands}
use Rattle.dsa_bottom_up.proofs.LoweredPoints.Leading.{HaveObjects, HaveSlots, Fits, Sound, stays, emits}
use Rattle.dsa_bottom_up.proofs.LoweredPoints.Expressions.{get_below, HomeStands, ScopeStands}
use Rattle.dsa_bottom_up.proofs.LoweredPoints.Statements.{have_front, have_last, sound_new, Leads, FitsAt, Scoped, on, block_leads}

-- ---- objects of parameters

abbrev IsParameterBelow : ℕ → Local → Type 0
IsParameterBelow count (L.Parameter number) = number < count
IsParameterBelow count (L.Variable number) = ⊥

abbrev AreParametersBelow : ℕ → List LocalObject → Type 0
AreParametersBelow count [] = Unit {0}
AreParametersBelow count (first ∷ others) = IsParameterBelow count first.local × AreParametersBelow count others

none_before : (count : ℕ) (objects : List LocalObject) → AreParametersBelow count objects → own_type objects (L.Parameter count) ≡ None
none_before count [] below = refl
none_before count (first ∷ others) below = by first.local below.0 (none_before count others below.1)
  where
    other : (number : ℕ) → number < count → (b : Bool) → same_local (L.Parameter number) (L.Parameter count) ≡ b → b ≡ false
    other number less b is = sym is ∙ ne_eqb number count (λ e. omega (arith, e, less))

    by : (local : Local) → IsParameterBelow count local → own_type others (L.Parameter count) ≡ None → (if same_local local (L.Parameter count) then whole first.c_type else own_type others (L.Parameter count)) ≡ None
    by (L.Parameter number) less rest = ap (λ b. if b then whole first.c_type else own_type others (L.Parameter count)) (other number less (same_local (L.Parameter number) (L.Parameter count)) refl) ∙ rest
    by (L.Variable number) less rest = absurd less

more_parameters : (count : ℕ) (objects : List LocalObject) → AreParametersBelow count objects → AreParametersBelow (suc count) objects
more_parameters count [] below = tt
more_parameters count (first ∷ others) below = (by first.local below.0, more_parameters count others below.1)
  where
    by : (local : Local) → IsParameterBelow count local → IsParameterBelow (suc count) local
    by (L.Parameter number) less = omega (arith, less)
    by (L.Variable number) less = absurd less

parameter_last : (count : ℕ) (objects : List LocalObject) (own : CType) → AreParametersBelow count objects → AreParametersBelow (suc count) (objects ++ record { local = L.Parameter count; c_type = own } ∷ [])
parameter_last count [] own below = (omega arith, tt)
parameter_last count (first ∷ others) own below = ((more_parameters count (first ∷ others) below).0, parameter_last count others own below.1)

scalar_slot : (structs : List StructDef) (t : CType) → is_scalar t ≡ true → HasSlot structs t
scalar_slot structs Void scalar = absurd (false≢true scalar)
scalar_slot structs (Integer int_type) scalar = omega arith
scalar_slot structs (Pointer target) scalar = omega arith
scalar_slot structs (Array element count) scalar = absurd (false≢true scalar)
scalar_slot structs (Struct tag) scalar = absurd (false≢true scalar)
scalar_slot structs (Function result parameters) scalar = absurd (false≢true scalar)

all_of : (P : Op → Type 0) (points : List Op) → ((number : ℕ) (op : Op) → slice_get points number ≡ Some op → P op) → AllByRecursion P points
all_of P [] each = tt
all_of P (first ∷ others) each = (each zero first refl, all_of P others (λ number op there. each (suc number) op there))

slot_at : (structs : List StructDef) (objects : List LocalObject) → HaveSlots structs objects → (number : ℕ) (object : LocalObject) → slice_get objects number ≡ Some object → HasSlot structs object.c_type
slot_at structs [] have number object there = absurd (none-some object there)
slot_at structs (first ∷ others) have zero object there = subst (λ (o : LocalObject). HasSlot structs o.c_type) (same_Some first object there) have.0
slot_at structs (first ∷ others) have (suc number) object there = slot_at structs others have.1 number object there

have_at : (own objects : List LocalObject) → HaveObjects own objects → (number : ℕ) (object : LocalObject) → slice_get objects number ≡ Some object → own_type own object.local ≡ whole object.c_type
have_at own [] have number object there = absurd (none-some object there)
have_at own (first ∷ others) have zero object there = subst (λ (o : LocalObject). own_type own o.local ≡ whole o.c_type) (same_Some first object there) have.0
have_at own (first ∷ others) have (suc number) object there = have_at own others have.1 number object there

module _ (program : Program) (tac : Tac) (owner : Owner) (function : O.Function) (its : IsOf program tac owner function) where
  -- ---- parameters

  abbrev Passes : Spot → Spot → Type 0
  Passes from to = Leads program tac owner function its from to

  -- an argument that comes to memory is the function's own
  argument_stands : (number : ℕ) (own : CType) → IsOwn tac owner function (R.Local (L.Parameter number)) → ValueStands tac owner function own (stored_argument number own)
  argument_stands number (Integer int_type) mine = tt
  argument_stands number Void mine = λ is_data null. mine
  argument_stands number (Pointer target) mine = λ is_data null. mine
  argument_stands number (Array element count) mine = λ is_data null. mine
  argument_stands number (Struct tag) mine = λ is_data null. mine
  argument_stands number (Function result parameters) mine = λ is_data null. mine

  -- a parameter comes to be in scope
  record Enters (number : ℕ) (from to : Spot) (home : Home) : Type 0 where
    leads : Passes from to
    below : AreParametersBelow (suc number) to.objects
    known : FitsAt program tac owner function its to → HomeStands tac owner function home

  module _ (body : Block) (number : ℕ) (own : CType) (scalar : is_scalar own ≡ true) (few : number < function.parameters) where
    abbrev home_with : Bool → Home
    home_with b = record { local = L.Parameter number; is_object = b; c_type = own }

    mine : IsOwn tac owner function (R.Local (L.Parameter number))
    mine = lt-ltb number function.parameters few

    placed : (from : Spot) → AreParametersBelow number from.objects → Passes from (with_home (home_with true) from)
    placed from below = record {
      order = omega arith;
      fits = λ end. record {
        variables = end.variables;
        calls = end.calls;
        arguments = end.arguments;
        expressions = end.expressions;
        own = have_front function.objects from.objects (record { local = L.Parameter number; c_type = own } ∷ []) end.own;
      };
      sound = λ begin.
          let one : LocalObject = record { local = L.Parameter number; c_type = own } in
          sound_new tac.structs from.counts.variables from.objects one (none_before number from.objects below) tt (scalar_slot tac.structs own scalar) begin;
      stand = λ end none at op low high there. absurd (omega (arith, low, high));
    }

    enters : (b : Bool) (from to : Spot) → ParameterCode function.points (home_with b) number from to → AreParametersBelow number from.objects → Enters number from to (home_with b)
    enters false from to code below = record {
      leads = stays tac owner function (Unit {0}) from to code;
      below = subst (λ (spot : Spot). AreParametersBelow (suc number) spot.objects) (sym code) (more_parameters number from.objects below);
      known = λ end. mine;
    }
    enters true from to code below =
        let front = placed from below in
        let held : FitsAt program tac owner function its (with_home (home_with true) from) → own_type function.objects (L.Parameter number) ≡ whole own =
        λ end. have_last function.objects from.objects (record { local = L.Parameter number; c_type = own }) end.own in
        let stored = emits tac owner function (Unit {0}) (with_home (home_with true) from) to (O.Store (path_from (AtLocal (L.Parameter number))) own (stored_argument number own)) code
        (λ end none. (
          argument_stands number own mine,
          access_stands tac owner function its.here its.made its.filled (path_from (AtLocal (L.Parameter number))) own
              (record { base = (record { offset = 0; c_type = own }, held end); own = own; is = held end; steps = refl }) scalar,
        )) in
        record {
          leads = on program tac owner function its front stored;
          below = subst (λ (spot : Spot). AreParametersBelow (suc number) spot.objects) (sym code.1) (parameter_last number from.objects own below);
          known = λ end. held (stored.fits end);
        }

  record Entered (from to : Spot) (inner : Scope) (locals : List CType) : Type 0 where
    leads : Passes from to
    known : Scoped program tac owner function its to inner
    types : scope_types inner ≡ locals

  parameters_enter : (body : Block) (types : List CType) (number : ℕ) (scope : Scope) (from to : Spot) (inner : Scope) → ParametersCode function.points body types number scope from to inner → are_scalars types ≡ true
      → number + length types ≤ function.parameters → AreParametersBelow number from.objects → Scoped program tac owner function its from scope → Entered from to inner (with_parameters types (scope_types scope))
  parameters_enter body [] number scope from to inner code scalars few below known = record {
    leads = stays tac owner function (Unit {0}) from to code.0;
    known = λ end. subst (ScopeStands tac owner function) (sym code.1) (known (subst (FitsAt program tac owner function its) code.0 end));
    types = ap scope_types code.1;
  }
  parameters_enter body (first ∷ others) number scope from to inner code scalars few below known =
      let parts = and_parts (is_scalar first) (are_scalars others) scalars in
      let home = parameter_home number first (takes_block number body) in
      let one = enters body number first parts.0 (omega (arith, few)) (lies_in_memory first (takes_block number body)) from code.0 code.1 below in
      let rest = parameters_enter body others (suc number) (home ∷ scope) code.0 to inner code.2 parts.1 (omega (arith, few)) one.below (λ end. (one.known end, known (one.leads.fits end))) in
      record { leads = on program tac owner function its one.leads rest.leads; known = rest.known; types = rest.types }

  -- ---- functions

  module _ (def : FunctionDef) (code : FunctionCode program def function) (typed : is_function_def program def ≡ true) (make : block_makes (is_storable program.structs) def.body ≡ true) where
    abbrev around : Context
    around = record { program = program; locals = with_parameters def.parameters [] }

    abbrev inside : Within
    inside = record { result = def.result; may_break = false; may_continue = false }

    typed_parts : (are_scalars def.parameters ≡ true) × (is_block around inside def.body ≡ true)
    typed_parts =
        let front = same_type def.c_type (function_of def.result def.parameters) && (is_scalar def.result || is_void def.result) in
        let parts = and_parts (front && are_scalars def.parameters) (is_block around inside def.body) typed in
        ((and_parts front (are_scalars def.parameters) parts.0).1, parts.1)

    ending_stands : (b : Bool) (tree : Tree) → ReturnStands tac owner function (if b then Some (IntegerOperand tree) else None)
    ending_stands true tree = tt
    ending_stands false tree = tt

    whole_leads : Passes first_spot code.end
    whole_leads =
        let few : 0 + length def.parameters ≤ function.parameters = let same = code.parameters in omega (arith, same) in
        let entry = parameters_enter def.body def.parameters 0 [] first_spot code.inside code.scope code.entry typed_parts.0 few tt (λ end. tt) in
        let same : context_of program code.scope ≡ around = ap (λ locals. record { program = program; locals = locals }) entry.types in
        let body = block_leads program tac owner function its def.body code.scope inside code.inside code.last (record { broken = 0; continued = 0 }) code.body
        (subst (λ context. is_block context inside def.body ≡ true) (sym same) typed_parts.1) make entry.known in
        let ending = emits tac owner function (Unit {0}) code.last code.end (end_of def.name) code.ending (λ end none. ending_stands (bytes_eq def.name (codes "main")) _) in
        on program tac owner function its entry.leads (on program tac owner function its body ending)

    end_sound : Sound tac owner function code.end
    end_sound = whole_leads.sound (record { have = tt; below = tt; slots = tt })

    end_fits : Fits tac owner function code.end
    end_fits =
        let variables = ap (λ (counts : Counts). counts.variables) code.counts in
        let calls = ap (λ (counts : Counts). counts.calls) code.counts in
        let arguments = ap (λ (counts : Counts). counts.arguments) code.counts in
        let expressions = ap (λ (counts : Counts). counts.expressions) code.counts in
        record {
          variables = omega (arith, variables);
          calls = omega (arith, calls);
          arguments = omega (arith, arguments);
          expressions = omega (arith, expressions);
          own = subst (λ own. HaveObjects own code.end.objects) (sym code.objects) end_sound.have;
        }

    pub function_stands : FunctionStands tac owner function
    function_stands = record {
      points = all_of (OpStands tac owner function) function.points
          (λ number op there.
          let low = get_below function.points number op there in
          let same = code.points in
          whole_leads.stand end_fits tt number op (omega arith) (omega (arith, low, same)) there);
      objects = slot_at tac.structs function.objects (subst (HaveSlots tac.structs) (sym code.objects) end_sound.slots);
      apart = have_at function.objects function.objects (subst (λ objects. HaveObjects objects objects) (sym code.objects) end_sound.have);
    }

-- as many parameters as its type tells
parameters_alike : (result : CType) (types : List CType) → length (parameters_of (function_of result types)) ≡ length types
parameters_alike result [] = refl
parameters_alike result (first ∷ others) = ap suc (parameters_alike result others)

pub parameters_told : (program : Program) (def : FunctionDef) (function : O.Function) → FunctionCode program def function → is_function_def program def ≡ true → function.parameters ≡ length (parameters_of function.c_type)
parameters_told program def function code typed =
    let front = same_type def.c_type (function_of def.result def.parameters) && (is_scalar def.result || is_void def.result) in
    let first = and_parts (front && are_scalars def.parameters) _ typed in
    let second = and_parts front (are_scalars def.parameters) first.0 in
    let third = and_parts (same_type def.c_type (function_of def.result def.parameters)) (is_scalar def.result || is_void def.result) second.0 in
    let same = same_type-true def.c_type (function_of def.result def.parameters) third.0 in
    code.parameters ∙ sym (parameters_alike def.result def.parameters) ∙ sym (ap (λ t. length (parameters_of t)) (code.c_type ∙ same))

-- a function of the code and its definition
pub record IsDefined (program : Program) (function : O.Function) : Type 0 where
  pub def : FunctionDef
  pub code : FunctionCode program def function
  pub typed : is_function_def program def ≡ true
  pub make : block_makes (is_storable program.structs) def.body ≡ true

pub defined : (program : Program) (defs : List FunctionDef) (functions : List O.Function) (number : ℕ) (function : O.Function) → FunctionsCode program defs functions → slice_get functions number ≡ Some function
    → are_functions program defs ≡ true → functions_make (is_storable program.structs) defs ≡ true → IsDefined program function
defined program [] [] number function code there typed make = absurd (none-some function there)
defined program [] (own ∷ functions) number function code there typed make = absurd code
defined program (def ∷ defs) [] number function code there typed make = absurd code
defined program (def ∷ defs) (own ∷ functions) zero function code there typed make =
    subst (IsDefined program) (same_Some own function there)
    (record {
      def = def;
      code = code.0;
      typed = (and_parts (is_function_def program def) (are_functions program defs) typed).0;
      make = (and_parts (block_makes (is_storable program.structs) def.body) (functions_make (is_storable program.structs) defs) make).0;
    })
defined program (def ∷ defs) (own ∷ functions) (suc number) function code there typed make =
    defined program defs functions number function code.1 there (and_parts (is_function_def program def) (are_functions program defs) typed).1
    (and_parts (block_makes (is_storable program.structs) def.body) (functions_make (is_storable program.structs) defs) make).1

-- ---- `start`

pub start_stands : (program : Program) (tac : Tac) → Code program tac → FunctionStands tac InStart tac.start
start_stands program tac code = record {
  points = subst (AllByRecursion (OpStands tac InStart tac.start)) (sym code.start) ((own, tt), (tt, tt));
  objects = λ number object there. absurd (none number object there);
  apart = λ number object there. absurd (none number object there);
}
  where
    none : (number : ℕ) (object : LocalObject) → slice_get tac.start.objects number ≡ Some object → ⊥
    none number object there = none-some object (ap (λ objects. slice_get objects number) (sym code.objects) ∙ there)

    own : IsOwn tac InStart tac.start (R.Call 0)
    own = let one = ap (λ (counts : Counts). counts.calls) code.counts in lt-ltb 0 tac.start.counts.calls (omega (arith, one))
