-- The reference keeps types: the first state is sound, and what `main` does keeps it.
use Rattle.std.proofs.Common.{◌≡◌, ℕ, zero, suc, Bool, true, false, if◌then◌else◌, ◌&&◌, ◌||◌, not, cond, List, [], ◌∷◌, Option, Some, None, is_some, bytes_eq, refl, sym, ap, ◌∙◌, subst}
use Rattle.std.specs.Prelude.{codes, pos}
use Rattle.std.proofs.lemmas.Bool.{false≢true, true≢false, and_parts, cond-true, not-false}
use Rattle.std.proofs.lemmas.Option.{none-some, same_Some}
use Rattle.std.proofs.lemmas.Slice.Eq.{bytes_eq-Decides}
use Rattle.run_theory.specs.declared.place.Pos.{Pos}
use Rattle.run_theory.specs.declared.ends.UbKind.TheVariants as Ub
use Rattle.c_num.specs.declared.IntType.TheVariants as I
use Rattle.c_typed.specs.Types.{CType, CTypes, Void, Integer, Pointer, Array, Struct, Function, NoTypes, int, same_type, is_void}
use Rattle.c_typed.specs.Layouts.{is_complete}
use Rattle.c_typed.specs.Typed.{FunctionDef, Program}
use Rattle.c_typed.proofs.Same.{same_type-true}
use Rattle.c_typed.specs.Context.{function_type}
use Rattle.c_typed.specs.Expressions.{is_scalar}
use Rattle.c_typed.specs.Statements.{Within, is_block}
use Rattle.c_typed.specs.Programs.{IsWellTyped, function_of, are_scalars, with_parameters, is_function_def, are_functions, has_main}
use Rattle.c_typed.specs.Sizes.{HasStorableTypes, block_makes, functions_make, is_storable}
use Rattle.ref_semantics.specs.First.{around_of, first_state, run_main}
use Rattle.ref_semantics.specs.Values.{Scalar, IntegerValue, NullValue, FunctionValue, PointerValue, RawPointer}
use Rattle.ref_semantics.specs.Store.{State, Outcome, Then, Stopped, Eval, ◌>>=◌, spend, tick, premise}
use Rattle.ref_semantics.specs.Meaning.{Calls, Completion, Normal, Break, Continue, Return, block, function_from, bind, given_back, main_value, within_own, run_function, used_value, Bodies, call_known, call_named, bodies_within, greatest_depth}
use Rattle.ref_semantics.specs.Sound.{HasType, HaveTypes, Sound, EndsTyped}
use Rattle.ref_semantics.specs.Keeping.{Keeps, GivesValue, CallsKeep}
use Rattle.ref_semantics.proofs.Lasting.{type_lasts, later_trans, types_last, ends_goes, ends_last, keeps_refl, Leads, GivesAt, stopped, leads_then, gives_then, give_gives, halt_gives, aside_keeps, emit_gives, unless_gives}
use Rattle.ref_semantics.proofs.Storable.{scalar_storable}
use Rattle.ref_semantics.proofs.Storing.{Opens, own_state, own_later, restored_state, own_sound, restored_goes, restored_keeps, new_local_keeps, stored_first_keeps}
use Rattle.ref_semantics.proofs.WellTyped.{well_functions}
use Rattle.ref_semantics.proofs.Beginning.{first_sound as beginning_sound}
use Rattle.ref_semantics.proofs.StatementsKeep.{leads_as, gives_leads, then_leads, OpensTo, opens_sound, opens_none, opens_more, opens_keeps, opens_begun, opens_then_some, block_leads}

-- ---- functions of a program

-- `main` has the type that it is called at
abbrev is_main : Option CType → Bool
is_main None = false
is_main (Some c_type) = same_type c_type (Function int NoTypes)

main_from : (program : Program) (known : Option CType) → function_type program.functions (codes "main") ≡ known → has_main program ≡ true → is_main known ≡ true
main_from program None is h = rw is at h
main_from program (Some c_type) is h = rw is at h

-- the parameters of a function's type
abbrev pub parameters_of : CType → CTypes
parameters_of (Function result parameters) = parameters
parameters_of _ = NoTypes

abbrev result_of : CType → CType
result_of (Function result parameters) = result
result_of _ = Void

-- what is known of a function that a name finds
pub record IsFound (program : Program) (functions : List FunctionDef) (name : List ℕ) (function : FunctionDef) : Type 0 where
  pub well : is_function_def program function ≡ true
  pub small : block_makes (is_storable program.structs) function.body ≡ true
  pub typed : function_type functions name ≡ Some function.c_type
  pub named : function.name ≡ name

module _ (program : Program) where
  pub found_is : (functions : List FunctionDef) (name : List ℕ) (number : ℕ) (found : ℕ × FunctionDef) → are_functions program functions ≡ true → functions_make (is_storable program.structs) functions ≡ true
      → function_from number functions name ≡ Some found → IsFound program functions name found.1
  found_is [] name number found well small is = absurd (none-some found is)
  found_is (first ∷ others) name number found well small is =
      let parts = and_parts (is_function_def program first) (are_functions program others) well in
      let sizes = and_parts (block_makes (is_storable program.structs) first.body) (functions_make (is_storable program.structs) others) small in
      by (bytes_eq first.name name) refl parts.0 sizes.0 is (found_is others name (suc number) found parts.1 sizes.1)
    where
      by : (same : Bool) → bytes_eq first.name name ≡ same → is_function_def program first ≡ true → block_makes (is_storable program.structs) first.body ≡ true
          → cond same (Some (number, first)) (function_from (suc number) others name) ≡ Some found
          → (function_from (suc number) others name ≡ Some found → IsFound program others name found.1) → IsFound program (first ∷ others) name found.1
      by true same own own_small is rest =
          subst (λ (f : ℕ × FunctionDef). IsFound program (first ∷ others) name f.1) (same_Some (number, first) found is)
          (record { well = own; small = own_small; typed = cond-true (bytes_eq first.name name) _ _ same; named = (bytes_eq-Decides first.name name).0 same })
      by false same own own_small is rest =
          let inner = rest is in
          record { well = inner.well; small = inner.small; typed = ap (λ b. cond b (Some first.c_type) (function_type others name)) same ∙ inner.typed; named = inner.named }

  pub none_found : (functions : List FunctionDef) (name : List ℕ) (number : ℕ) → function_from number functions name ≡ None → function_type functions name ≡ None
  none_found [] name number is = refl
  none_found (first ∷ others) name number is = by (bytes_eq first.name name) is (none_found others name (suc number))
    where
      by : (same : Bool) → cond same (Some (number, first)) (function_from (suc number) others name) ≡ None
          → (function_from (suc number) others name ≡ None → function_type others name ≡ None) → cond same (Some first.c_type) (function_type others name) ≡ None
      by true is rest = absurd (none-some (number, first) (sym is))
      by false is rest = rest is

-- ---- scalars

pub scalar_complete : (program : Program) (t : CType) → is_scalar t ≡ true → is_complete program.structs t ≡ true
scalar_complete program Void h = absurd (false≢true h)
scalar_complete program (Integer t) h = refl
scalar_complete program (Pointer t) h = refl
scalar_complete program (Array t n) h = absurd (false≢true h)
scalar_complete program (Struct tag) h = absurd (false≢true h)
scalar_complete program (Function t ts) h = absurd (false≢true h)

-- ---- calls

-- what goes on where a unit is left
pub tick_leads : {A : Type 0} {post : State → A → Type 0} (rest : Eval A) (before : State) → ((n : ℕ) → Leads post (rest (record before { units = n }))) → Leads post (tick rest before)
tick_leads {A} {post} rest before one = by before.units
  where
    by : (units : ℕ) → Leads post (spend rest units before)
    by zero = record { leads = λ a after run. absurd (stopped run) }
    by (suc n) = record { leads = (one n).leads }

module _ (program : Program) (well : IsWellTyped program) (storable : HasStorableTypes program) where
  pub first_sound : (input : List ℕ) (units : ℕ) → Sound (record { program = program; locals = [] }) (first_state program input units)
  first_sound input units = beginning_sound program well storable input units

  -- parameters begin to live with the arguments
  pub bind_leads : (result : CType) (types : List CType) (given : List Scalar) (locals : List CType) (before : State) → are_scalars types ≡ true
      → Sound (record { program = program; locals = locals }) before → HaveTypes program before (parameters_of (function_of result types)) given
      → Leads (λ after way. OpensTo program locals (with_parameters types locals) before after) (bind (around_of program) types given before)
  bind_leads result [] given locals before scalars sound typed = then_leads Normal before (opens_none (keeps_refl _ before sound))
  bind_leads result (t ∷ types) [] locals before scalars sound typed = absurd typed
  bind_leads result (t ∷ types) (a ∷ given) locals before scalars sound typed =
      let parts = and_parts (is_scalar t) (are_scalars types) scalars in
      leads_then (new_local_keeps program well locals before sound t (scalar_complete program t parts.0) (scalar_storable program.structs t parts.0)) (λ place middle begins.
      leads_then (gives_leads (stored_first_keeps program well (t ∷ locals) middle begins.sound t place (Some a) begins.is_element (parts.0, type_lasts program begins.later t a typed.0))) (λ way last h.
      leads_as (bind_leads result types given (t ∷ locals) last parts.1 h.0.sound (types_last program (later_trans begins.later h.0.later) (parameters_of (function_of result types)) given typed.1)) (λ way' after rest.
      opens_more (opens_keeps (opens_begun begins) h.0) rest)))

  -- a function's own locals die at its end
  pub own_gives : (locals : List CType) (result : CType) (inside : Eval Completion) (before : State) → Sound (record { program = program; locals = locals }) before
      → Leads (λ after way. Opens (record { program = program; locals = [] }) (own_state before) after × EndsTyped program after result way) (inside (own_state before))
      → GivesAt (record { program = program; locals = locals }) (λ after way. EndsTyped program after result way) (within_own inside) before
  own_gives locals result inside before sound one = record { gives = by (inside (own_state before)) one }
    where
      by : (outcome : Outcome Completion) → Leads (λ after way. Opens (record { program = program; locals = [] }) (own_state before) after × EndsTyped program after result way) outcome
          → (way : Completion) (after : State) → within_own (λ state. outcome) before ≡ Then way after
          → Keeps (record { program = program; locals = locals }) before after × EndsTyped program after result way
      by (Then way middle) known =
          let h = known.leads way middle refl in
          (then_leads {post = λ after way. Keeps (record { program = program; locals = locals }) before after × EndsTyped program after result way} way (restored_state before.locals middle)
          (restored_keeps sound h.0, ends_goes program (restored_goes sound h.0) result way h.1)).leads
      by (Stopped answer middle) known = λ way after run. absurd (stopped run)

  pub given_back_ends : (state : State) (result : CType) (way : Completion) → EndsTyped program state result way → EndsTyped program state result (Return (given_back way))
  given_back_ends state result Normal h = tt
  given_back_ends state result Break h = tt
  given_back_ends state result Continue h = tt
  given_back_ends state result (Return value) h = h

  -- `main` gives an int
  pub main_ends : (state : State) (result : CType) (name : List ℕ) (value : Option Scalar) → (name ≡ codes "main" → result ≡ int) → EndsTyped program state result (Return value)
      → EndsTyped program state result (Return (main_value name value))
  main_ends state result name (Some value) is h = h
  main_ends state result name None is h = by (bytes_eq name (codes "main")) refl
    where
      by : (same : Bool) → bytes_eq name (codes "main") ≡ same → EndsTyped program state result (Return (cond same (Some (IntegerValue (pos 0))) None))
      by true same = subst (λ t. HasType program state t (IntegerValue (pos 0))) (sym (is ((bytes_eq-Decides name (codes "main")).0 same))) refl
      by false same = tt

  abbrev pub body_within : FunctionDef → Within
  body_within function = record { result = function.result; may_break = false; may_continue = false }

  -- what is asked of a function that is found
  pub record FunctionParts (function : FunctionDef) : Type 0 where
    pub typed : function.c_type ≡ function_of function.result function.parameters
    pub scalars : are_scalars function.parameters ≡ true
    pub body : is_block (record { program = program; locals = with_parameters function.parameters [] }) (body_within function) function.body ≡ true

  pub function_parts : (function : FunctionDef) → is_function_def program function ≡ true → FunctionParts function
  function_parts function h =
      let own = same_type function.c_type (function_of function.result function.parameters) in
      let result = is_scalar function.result || is_void function.result in
      let three = and_parts (own && result && are_scalars function.parameters) _ h in
      let two = and_parts (own && result) _ three.0 in
      record { typed = same_type-true function.c_type (function_of function.result function.parameters) (and_parts own _ two.0).0; scalars = two.1; body = three.1 }

  well_main : has_main program ≡ true
  well_main = (and_parts _ (has_main program) well).1

  pub main_result : (function : FunctionDef) (name : List ℕ) → IsFound program program.functions name function → function.name ≡ codes "main" → function.result ≡ int
  main_result function name found is =
      let known : function_type program.functions (codes "main") ≡ Some function.c_type = subst (λ n. function_type program.functions n ≡ Some function.c_type) (sym found.named ∙ is) found.typed in
      let same = same_type-true function.c_type (Function int NoTypes) (main_from program (Some function.c_type) known well_main) in
      ap result_of (sym (function_parts function found.well).typed ∙ same)

  -- bodies of functions that names find keep what is sound, and give values of their results
  abbrev pub BodiesKeep : Bodies → Type 0
  BodiesKeep bodies = (locals : List CType) (number : ℕ) (name : List ℕ) (function : FunctionDef) (given : List Scalar) (before : State)
      → IsFound program program.functions name function → Sound (record { program = program; locals = locals }) before
      → HaveTypes program before (parameters_of (function_of function.result function.parameters)) given
      → GivesAt (record { program = program; locals = locals }) (λ after value. EndsTyped program after function.result (Return value)) (bodies number function given) before

  pub functions_small : functions_make (is_storable program.structs) program.functions ≡ true
  functions_small = (and_parts _ (functions_make (is_storable program.structs) program.functions) storable.1).1

  -- the value of a call that is used
  pub used_gives : (locals : List CType) (here : Pos) (is_used : Bool) (own result : CType) (value : Option Scalar) (before : State) → own ≡ result → Sound (record { program = program; locals = locals }) before
      → EndsTyped program before own (Return value)
      → GivesAt (record { program = program; locals = locals }) (λ after value. HasType program after (if is_used then result else Void) value) (used_value here is_used own value) before
  used_gives locals here true own result (Some value) before same sound h = give_gives sound (subst (λ t. HasType program before t value) same h)
  used_gives locals here false own result (Some value) before same sound h = give_gives sound tt
  used_gives locals here is_used own result None before same sound h =
      unless_gives here (premise (is_used && not (is_void own)) Ub.U16 ∷ []) (λ holds. give_gives sound (by is_used own same holds.0))
    where
      by : (is_used : Bool) (own : CType) → own ≡ result → (is_used && not (is_void own)) ≡ false → HasType program before (if is_used then result else Void) NullValue
      by false own same fails = tt
      by true Void same fails = subst (λ t. HasType program before t NullValue) same tt
      by true (Integer t) same fails = absurd (true≢false fails)
      by true (Pointer t) same fails = absurd (true≢false fails)
      by true (Array t n) same fails = absurd (true≢false fails)
      by true (Struct tag) same fails = absurd (true≢false fails)
      by true (Function t ts) same fails = absurd (true≢false fails)

  -- a call through a name that finds a function
  pub known_gives : (bodies : Bodies) → BodiesKeep bodies → (locals : List CType) (here : Pos) (is_used : Bool) (result : CType) (parameters : CTypes) (given : List Scalar) (name : List ℕ)
      (found : ℕ × FunctionDef) (before : State) → IsFound program program.functions name found.1 → Sound (record { program = program; locals = locals }) before
      → HaveTypes program before parameters given
      → GivesAt (record { program = program; locals = locals }) (λ after value. HasType program after (if is_used then result else Void) value)
      (call_known bodies here is_used (Function result parameters) given (Some found)) before
  known_gives bodies keep locals here is_used result parameters given name found before known sound typed =
      unless_gives here (premise (not (same_type found.1.c_type (Function result parameters))) Ub.U14 ∷ []) (λ holds.
      let same = sym (function_parts found.1 known.well).typed ∙ same_type-true found.1.c_type (Function result parameters) (not-false (same_type found.1.c_type (Function result parameters)) holds.0) in
      gives_then (keep locals found.0 name found.1 given before known sound (subst (λ t. HaveTypes program before (parameters_of t) given) (sym same) typed)) (λ value middle keeps h.
      used_gives locals here is_used found.1.result result value middle (ap result_of same) keeps.sound h))

  called_gives : (bodies : Bodies) → BodiesKeep bodies → (locals : List CType) (here : Pos) (is_used : Bool) (result : CType) (parameters : CTypes) (given : List Scalar) (name : List ℕ)
      (found : Option (ℕ × FunctionDef)) (before : State) → function_from 0 program.functions name ≡ found → is_some (function_type program.functions name) ≡ true
      → Sound (record { program = program; locals = locals }) before → HaveTypes program before parameters given
      → GivesAt (record { program = program; locals = locals }) (λ after value. HasType program after (if is_used then result else Void) value)
      (call_known bodies here is_used (Function result parameters) given found) before
  called_gives bodies keep locals here is_used result parameters given name None before is there sound typed =
      absurd (false≢true (ap is_some (sym (none_found program program.functions name 0 is)) ∙ there))
  called_gives bodies keep locals here is_used result parameters given name (Some found) before is there sound typed =
      known_gives bodies keep locals here is_used result parameters given name found before
      (found_is program program.functions name 0 found (well_functions program well) functions_small is) sound typed

  calls_from : (bodies : Bodies) → BodiesKeep bodies → CallsKeep program (call_named program.functions bodies)
  calls_from bodies keep locals here is_used result parameters NullValue given before sound pointer typed value after run = absurd (stopped run)
  calls_from bodies keep locals here is_used result parameters (PointerValue place) given before sound pointer typed value after run = absurd (stopped run)
  calls_from bodies keep locals here is_used result parameters (RawPointer number) given before sound pointer typed value after run = absurd (stopped run)
  calls_from bodies keep locals here is_used result parameters (IntegerValue z) given before sound pointer typed value after run = absurd pointer
  calls_from bodies keep locals here is_used result parameters (FunctionValue name) given before sound pointer typed value after run =
      (called_gives bodies keep locals here is_used result parameters given name (function_from 0 program.functions name) before refl pointer.1 sound typed).gives value after run

  -- what a function that is found does inside its own locals, where calls keep what is sound
  pub body_leads : (calls : Calls) → CallsKeep program calls → (name : List ℕ) (function : FunctionDef) (given : List Scalar) (before : State)
      → IsFound program program.functions name function → Sound (record { program = program; locals = [] }) before
      → HaveTypes program before (parameters_of (function_of function.result function.parameters)) given
      → Leads (λ after way. Opens (record { program = program; locals = [] }) before after × EndsTyped program after function.result way)
      ((bind (around_of program) function.parameters given >>= λ bound. tick (block (around_of program) calls function.body)) before)
  body_leads calls keep name function given before known sound typed =
      leads_then (bind_leads function.result function.parameters given [] before (function_parts function known.well).scalars sound typed) (λ bound middle opens.
      tick_leads (block (around_of program) calls function.body) middle (λ n.
      let inner = opens_sound opens in
      let keeps = aside_keeps (record middle { units = n }) inner refl refl refl refl in
      leads_as (block_leads program well calls keep (with_parameters function.parameters []) (body_within function) function.body
      (function_parts function known.well).body known.small (record middle { units = n }) keeps.sound) (λ way after h. (opens_then_some (opens_keeps opens keeps) h.0, h.1))))

  -- a function that is found
  pub run_gives : (calls : Calls) → CallsKeep program calls → (locals : List CType) (name : List ℕ) (function : FunctionDef) (given : List Scalar) (before : State)
      → IsFound program program.functions name function → Sound (record { program = program; locals = locals }) before
      → HaveTypes program before (parameters_of (function_of function.result function.parameters)) given
      → GivesAt (record { program = program; locals = locals }) (λ after value. EndsTyped program after function.result (Return value)) (run_function (around_of program) calls function given) before
  run_gives calls keep locals name function given before known sound typed =
      gives_then (own_gives locals function.result (bind (around_of program) function.parameters given >>= λ bound. tick (block (around_of program) calls function.body)) before sound
      (body_leads calls keep name function given (own_state before) known (own_sound sound)
      (types_last program (own_later before) (parameters_of (function_of function.result function.parameters)) given typed)))
      (λ way last keeps h. give_gives keeps.sound (main_ends last function.result function.name (given_back way) (main_result function name known) (given_back_ends last function.result way h)))

  pub bodies_keep : (depth : ℕ) → BodiesKeep (bodies_within (around_of program) program.functions depth)
  unfolding bodies_within
  bodies_keep zero locals number name function given before known sound typed = halt_gives
  bodies_keep (suc depth) locals number name function given before known sound typed =
      gives_then (emit_gives sound (λ middle keeps same.
      run_gives (call_named program.functions (bodies_within (around_of program) program.functions depth)) (calls_from (bodies_within (around_of program) program.functions depth) (bodies_keep depth))
      locals name function given middle known keeps.sound (types_last program keeps.later (parameters_of (function_of function.result function.parameters)) given typed)))
      (λ value last keeps h. emit_gives keeps.sound (λ after keeps' same. give_gives keeps'.sound (ends_last program keeps'.later function.result (Return value) h)))

  -- calls that may nest so deep
  pub calls_keep : (depth : ℕ) → CallsKeep program (call_named program.functions (bodies_within (around_of program) program.functions depth))
  calls_keep depth = calls_from (bodies_within (around_of program) program.functions depth) (bodies_keep depth)

  pub main_keeps : GivesValue (record { program = program; locals = [] }) int (run_main program)
  main_keeps before sound =
      calls_keep greatest_depth [] (record { line = 1; column = 1 }) true int NoTypes (FunctionValue (codes "main")) [] before sound
      (refl, main_there (function_type program.functions (codes "main")) (main_from program (function_type program.functions (codes "main")) refl well_main)) tt
    where
      main_there : (known : Option CType) → is_main known ≡ true → is_some known ≡ true
      main_there None h = h
      main_there (Some t) h = refl
