-- A well typed statement keeps what is sound, and a value that it returns is one of the function's result.
use Rattle.std.proofs.Common.{◌≡◌, ℕ, zero, suc, Bool, true, false, if◌then◌else◌, ◌&&◌, List, [], ◌∷◌, ◌++◌, length, Option, Some, None, is_some, ℤ, refl, sym, ap, ◌∙◌, subst, le_refl, append_assoc}
use Rattle.std.specs.Ordering.{int_eq}
use Rattle.std.proofs.lemmas.Bool.{false≢true, and_parts}
use Rattle.c_num.specs.declared.IntType.{IntType}
use Rattle.c_typed.specs.Types.{CType, same_type, is_integer, integer_type}
use Rattle.c_typed.specs.Layouts.{is_complete}
use Rattle.c_typed.specs.Typed as T
use Rattle.c_typed.specs.Typed.{Program, Value, Stmt, Block, SwitchItems, LocalDef, ForStart}
use Rattle.c_typed.proofs.Same.{same_type-true}
use Rattle.c_typed.specs.Context.{Context}
use Rattle.c_typed.specs.Expressions.{given, is_scalar, type_of}
use Rattle.c_typed.specs.Statements.{Within, in_loop, in_switch, holds_for, is_expression, is_condition, is_of_type, if_any, is_return, is_local, are_locals, with_locals, is_start, with_start, is_label, is_stmt, is_block, are_items}
use Rattle.c_typed.specs.Programs.{IsWellTyped}
use Rattle.c_typed.specs.Sizes.{makes, any_makes, local_makes, locals_make, start_makes, stmt_makes, block_makes, items_make, is_storable}
use Rattle.ref_semantics.specs.First.{around_of}
use Rattle.ref_semantics.specs.Values.{Place, Scalar, integer_of}
use Rattle.ref_semantics.specs.Store.{State, Outcome, Then, Eval, ◌>>=◌, give}
use Rattle.ref_semantics.specs.Meaning.{Calls, is_true, Completion, Normal, Break, Continue, Return, way_or, turns, loop, after_body, optional_value, holds, scoped, Entry, NoEntry, At, default_at, case_at, entry_or, broken_out, block_rest, do_condition, for_step, value, declare, declare_all, start, stmt, block, switch_from}
use Rattle.ref_semantics.specs.Sound.{HasType, Sound, EndsTyped}
use Rattle.ref_semantics.specs.Keeping.{Keeps, Yields, CallsKeep}
use Rattle.ref_semantics.proofs.Lasting.{later_trans, element_lasts, ends_goes, keeps_refl, Leads, GivesAt, then_value, then_state, leads_then, gives_then, gives_as, give_gives, tick_gives, if_gives}
use Rattle.ref_semantics.proofs.Storing.{newer_from, newer_append, Opens, left, left_goes, left_keeps, Begins, new_local_keeps, IsFirst, stored_first_keeps}
use Rattle.ref_semantics.proofs.ValuesKeep.{value_keeps}

-- ---- what goes on

pub leads_as : {A : Type 0} {post post' : State → A → Type 0} {outcome : Outcome A} → Leads post outcome → ((a : A) (after : State) → post after a → post' after a) → Leads post' outcome
leads_as one other = record { leads = λ a after run. other a after (one.leads a after run) }

pub gives_leads : {A : Type 0} {around : Context} {kind : State → A → Type 0} {eval : Eval A} {before : State} → GivesAt around kind eval before
    → Leads (λ after a. Keeps around before after × kind after a) (eval before)
gives_leads one = record { leads = one.gives }

pub leads_gives : {A : Type 0} {around : Context} {kind : State → A → Type 0} {eval : Eval A} {before : State} → Leads (λ after a. Keeps around before after × kind after a) (eval before)
    → GivesAt around kind eval before
leads_gives one = record { gives = one.leads }

pub then_leads : {A : Type 0} {post : State → A → Type 0} (a : A) (state : State) → post state a → Leads post (Then a state)
then_leads {A} {post} a state h = record { leads = λ b after run. subst (λ last. post last b) (then_state run) (subst (λ c. post state c) (then_value run) h) }

-- ---- locals that begin to live

-- Locals stand in front of those of a state, so that all are of these types.
pub record OpensTo (program : Program) (locals inner : List CType) (before after : State) : Type 0 where
  pub opens : Opens (record { program = program; locals = locals }) before after
  pub inner_is : opens.types ++ locals ≡ inner

pub opens_sound : {program : Program} {locals inner : List CType} {before after : State} → OpensTo program locals inner before after → Sound (record { program = program; locals = inner }) after
opens_sound {program} {locals} {inner} {before} {after} one = subst (λ types. Sound (record { program = program; locals = types }) after) one.inner_is one.opens.sound

-- none yet
pub opens_none : {program : Program} {locals : List CType} {before after : State} → Keeps (record { program = program; locals = locals }) before after → OpensTo program locals locals before after
opens_none {program} {locals} {before} {after} keeps = record {
  opens = record { types = []; names = []; sound = keeps.sound; later = keeps.later; locals = keeps.locals; newer = tt };
  inner_is = refl;
}

-- more of them
pub opens_more : {program : Program} {locals inner innermost : List CType} {first second third : State} → OpensTo program locals inner first second → OpensTo program inner innermost second third
    → OpensTo program locals innermost first third
opens_more {program} {locals} {inner} {innermost} {first} {second} {third} one two =
    let all : (two.opens.types ++ one.opens.types) ++ locals ≡ innermost =
    append_assoc two.opens.types one.opens.types locals ∙ ap (λ types. two.opens.types ++ types) one.inner_is ∙ two.inner_is in
    record {
      opens = record {
        types = two.opens.types ++ one.opens.types;
        names = two.opens.names ++ one.opens.names;
        sound = subst (λ types. Sound (record { program = program; locals = types }) third) (sym all) (opens_sound two);
        later = later_trans one.opens.later two.opens.later;
        locals = two.opens.locals ∙ ap (λ names. two.opens.names ++ names) one.opens.locals ∙ sym (append_assoc two.opens.names one.opens.names first.locals);
        newer = newer_append first.next_local two.opens.names one.opens.names (newer_from first.next_local second.next_local two.opens.names one.opens.later.next_local two.opens.newer) one.opens.newer;
      };
      inner_is = all;
    }

pub opens_keeps : {program : Program} {locals inner : List CType} {first second third : State} → OpensTo program locals inner first second → Keeps (record { program = program; locals = inner }) second third
    → OpensTo program locals inner first third
opens_keeps one keeps = opens_more one (opens_none keeps)

pub opens_begun : {program : Program} {locals : List CType} {before after : State} {c_type : CType} {place : Place} → Begins program locals before c_type after place → OpensTo program locals (c_type ∷ locals) before after
opens_begun {program} {locals} {before} {after} {c_type} {place} begins = record {
  opens = record {
    types = c_type ∷ [];
    names = before.next_local ∷ [];
    sound = begins.sound;
    later = begins.later;
    locals = begins.locals;
    newer = (le_refl before.next_local, tt);
  };
  inner_is = refl;
}

-- the innermost locals are any
pub opens_then_some : {program : Program} {locals inner : List CType} {first second third : State} → OpensTo program locals inner first second → Opens (record { program = program; locals = inner }) second third
    → Opens (record { program = program; locals = locals }) first third
opens_then_some {program} {locals} {inner} {first} {second} {third} one two =
    (opens_more {innermost = two.types ++ inner} one (record { opens = two; inner_is = refl })).opens

-- ---- what rules ask

pub holds_for-some : (test : CType → Bool) (known : Option CType) → holds_for test known ≡ true → (t : CType) × (known ≡ Some t) × (test t ≡ true)
holds_for-some test (Some t) h = (t, refl, h)
holds_for-some test None h = absurd (false≢true h)

pub some_type : (known : Option CType) → is_some known ≡ true → (t : CType) × (known ≡ Some t)
some_type (Some t) h = (t, refl)
some_type None h = absurd (false≢true h)

-- a first value, where there is one, is of the local's type
abbrev pub FirstIs : Program → State → CType → Option Scalar → Type 0
FirstIs program state t None = Unit {0}
FirstIs program state t (Some a) = (is_scalar t ≡ true) × HasType program state t a

-- what a loop's turn ends with
abbrev pub TurnEnds : Program → State → CType → Option Completion → Type 0
TurnEnds program state result (Some way) = EndsTyped program state result way
TurnEnds program state result None = Unit {0}

module _ (program : Program) (well : IsWellTyped program) (calls : Calls) (keep : CallsKeep program calls) where
  -- ---- expressions in statements

  typed_value : (locals : List CType) (t : CType) (v : Value) → holds_for (same_type t) (type_of (record { program = program; locals = locals }) v) ≡ true → makes (is_storable program.structs) v ≡ true
      → (before : State) → Sound (record { program = program; locals = locals }) before
      → GivesAt (record { program = program; locals = locals }) (λ after a. HasType program after t a) (value (around_of program) calls v) before
  typed_value locals t v typed small before sound =
      let known = holds_for-some (same_type t) (type_of (record { program = program; locals = locals }) v) typed in
      record { gives = value_keeps program well calls keep locals v small t (known.1 ∙ ap Some (sym (same_type-true t known.0 known.2))) before sound }

  some_value : (locals : List CType) (v : Value) → is_some (type_of (record { program = program; locals = locals }) v) ≡ true → makes (is_storable program.structs) v ≡ true
      → (before : State) → Sound (record { program = program; locals = locals }) before
      → GivesAt (record { program = program; locals = locals }) (λ after a. Unit {0}) (value (around_of program) calls v) before
  some_value locals v typed small before sound =
      let known = some_type (type_of (record { program = program; locals = locals }) v) typed in
      gives_as (record { gives = value_keeps program well calls keep locals v small known.0 known.1 before sound }) (λ a after keeps h. tt)

  condition_value : (locals : List CType) (v : Value) → is_condition (record { program = program; locals = locals }) v ≡ true → makes (is_storable program.structs) v ≡ true
      → (before : State) → Sound (record { program = program; locals = locals }) before
      → GivesAt (record { program = program; locals = locals }) (λ after a. Unit {0}) (value (around_of program) calls v) before
  condition_value locals v typed small before sound =
      let known = holds_for-some is_integer (type_of (record { program = program; locals = locals }) v) typed in
      gives_as (record { gives = value_keeps program well calls keep locals v small known.0 known.1 before sound }) (λ a after keeps h. tt)

  any_condition : (locals : List CType) (v : Option Value) → if_any (is_condition (record { program = program; locals = locals })) v ≡ true → any_makes (is_storable program.structs) v ≡ true
      → (before : State) → Sound (record { program = program; locals = locals }) before
      → GivesAt (record { program = program; locals = locals }) (λ after a. Unit {0}) (optional_value (value (around_of program) calls) v) before
  any_condition locals None typed small before sound = give_gives sound tt
  any_condition locals (Some v) typed small before sound = gives_then (condition_value locals v typed small before sound) (λ a middle keeps h. give_gives keeps.sound tt)

  any_step : (locals : List CType) (v : Option Value) → if_any (is_expression (record { program = program; locals = locals })) v ≡ true → any_makes (is_storable program.structs) v ≡ true
      → (before : State) → Sound (record { program = program; locals = locals }) before
      → GivesAt (record { program = program; locals = locals }) (λ after a. Unit {0}) (optional_value (value (around_of program) calls) v) before
  any_step locals None typed small before sound = give_gives sound tt
  any_step locals (Some v) typed small before sound = gives_then (some_value locals v typed small before sound) (λ a middle keeps h. give_gives keeps.sound tt)

  -- a value that is returned is of the function's result
  returned_value : (locals : List CType) (result : CType) (v : Option Value) → is_return (record { program = program; locals = locals }) result v ≡ true → any_makes (is_storable program.structs) v ≡ true
      → (before : State) → Sound (record { program = program; locals = locals }) before
      → GivesAt (record { program = program; locals = locals }) (λ after a. EndsTyped program after result (Return a)) (optional_value (value (around_of program) calls) v) before
  returned_value locals result None typed small before sound = give_gives sound tt
  returned_value locals result (Some v) typed small before sound =
      gives_then (typed_value locals result v (and_parts (is_scalar result) (is_of_type (record { program = program; locals = locals }) result v) typed).1 small before sound)
      (λ a middle keeps h. give_gives keeps.sound h)

  -- ---- locals

  first_value : (locals : List CType) (t : CType) (v : Option Value)
      → if_any (λ value. is_scalar t && is_of_type (record { program = program; locals = t ∷ locals }) t value) v ≡ true → any_makes (is_storable program.structs) v ≡ true
      → (before : State) → Sound (record { program = program; locals = t ∷ locals }) before
      → GivesAt (record { program = program; locals = t ∷ locals }) (λ after a. FirstIs program after t a) (optional_value (value (around_of program) calls) v) before
  first_value locals t None typed small before sound = give_gives sound tt
  first_value locals t (Some v) typed small before sound =
      let parts = and_parts (is_scalar t) (is_of_type (record { program = program; locals = t ∷ locals }) t v) typed in
      gives_then (typed_value (t ∷ locals) t v parts.1 small before sound) (λ a middle keeps h. give_gives keeps.sound (parts.0, h))

  declare_leads : (locals : List CType) (local : LocalDef) → is_local (record { program = program; locals = locals }) local ≡ true → local_makes (is_storable program.structs) local ≡ true
      → (before : State) → Sound (record { program = program; locals = locals }) before
      → Leads (λ after way. OpensTo program locals (local.c_type ∷ locals) before after × (way ≡ Normal)) (declare (around_of program) calls local before)
  declare_leads locals local typed small before sound =
      let parts = and_parts (is_complete program.structs local.c_type) _ typed in
      let sizes = and_parts (is_storable program.structs local.c_type) (any_makes (is_storable program.structs) local.first) small in
      leads_then (new_local_keeps program well locals before sound local.c_type parts.0 sizes.0)
      (λ place middle begins. leads_as (gives_leads (gives_then (first_value locals local.c_type local.first parts.1 sizes.1 middle begins.sound)
      (λ a last keeps h. stored_first_keeps program well (local.c_type ∷ locals) last keeps.sound local.c_type place a (element_lasts program keeps.later local.c_type place begins.is_element) (first_is last keeps.sound a h))))
      (λ way after h. (opens_keeps (opens_begun begins) h.0, h.1)))
    where
      first_is : (last : State) (sound : Sound (record { program = program; locals = local.c_type ∷ locals }) last) (a : Option Scalar) → FirstIs program last local.c_type a
          → IsFirst program well (local.c_type ∷ locals) last sound local.c_type a
      first_is last sound None h = tt
      first_is last sound (Some a) h = h

  -- the types of all locals in scope behind these
  abbrev pub types_behind : List LocalDef → List CType → List CType
  types_behind [] locals = locals
  types_behind (first ∷ others) locals = types_behind others (first.c_type ∷ locals)

  behind_is : (defs : List LocalDef) (locals : List CType) → with_locals defs (record { program = program; locals = locals }) ≡ record { program = program; locals = types_behind defs locals }
  behind_is [] locals = refl
  behind_is (first ∷ others) locals = behind_is others (first.c_type ∷ locals)

  declare_all_leads : (locals : List CType) (defs : List LocalDef) → are_locals (record { program = program; locals = locals }) defs ≡ true → locals_make (is_storable program.structs) defs ≡ true
      → (before : State) → Sound (record { program = program; locals = locals }) before
      → Leads (λ after way. OpensTo program locals (types_behind defs locals) before after) (declare_all (around_of program) calls defs before)
  declare_all_leads locals [] typed small before sound = then_leads Normal before (opens_none (keeps_refl _ before sound))
  declare_all_leads locals (first ∷ others) typed small before sound =
      let parts = and_parts (is_local (record { program = program; locals = locals }) first) _ typed in
      let sizes = and_parts (local_makes (is_storable program.structs) first) (locals_make (is_storable program.structs) others) small in
      leads_then (declare_leads locals first parts.0 sizes.0 before sound)
      (λ way middle h. leads_as (declare_all_leads (first.c_type ∷ locals) others parts.1 sizes.1 middle (opens_sound h.0)) (λ way' after rest. opens_more h.0 rest))

  abbrev pub types_begun : ForStart → List CType → List CType
  types_begun (T.StartLocals defs) locals = types_behind defs locals
  types_begun _ locals = locals

  begun_is : (begin : ForStart) (locals : List CType) → with_start begin (record { program = program; locals = locals }) ≡ record { program = program; locals = types_begun begin locals }
  begun_is T.StartNothing locals = refl
  begun_is (T.StartValue v) locals = refl
  begun_is (T.StartLocals defs) locals = behind_is defs locals

  start_leads : (locals : List CType) (begin : ForStart) → is_start (record { program = program; locals = locals }) begin ≡ true → start_makes (is_storable program.structs) begin ≡ true
      → (before : State) → Sound (record { program = program; locals = locals }) before
      → Leads (λ after way. OpensTo program locals (types_begun begin locals) before after) (start (around_of program) calls begin before)
  start_leads locals T.StartNothing typed small before sound = then_leads Normal before (opens_none (keeps_refl _ before sound))
  start_leads locals (T.StartValue v) typed small before sound =
      leads_then (gives_leads (some_value locals v typed small before sound)) (λ a middle h. then_leads Normal middle (opens_none h.0))
  start_leads locals (T.StartLocals defs) typed small before sound = declare_all_leads locals defs typed small before sound

  -- ---- ends of blocks, loops, and labels

  scoped_gives : (locals : List CType) (result : CType) (inside : Eval Completion) (before : State) → Sound (record { program = program; locals = locals }) before
      → Leads (λ after way. Opens (record { program = program; locals = locals }) before after × EndsTyped program after result way) (inside before)
      → GivesAt (record { program = program; locals = locals }) (λ after way. EndsTyped program after result way) (scoped inside) before
  scoped_gives locals result inside before sound one = leads_gives (leads_then one (λ way middle h.
      then_leads way (left (length before.locals) middle) (left_keeps sound h.0, ends_goes program (left_goes sound h.0) result way h.1)))

  way_gives : (locals : List CType) (result : CType) (rest : Eval Completion) (way : Option Completion) (before : State) → Sound (record { program = program; locals = locals }) before
      → TurnEnds program before result way → GivesAt (record { program = program; locals = locals }) (λ after way. EndsTyped program after result way) rest before
      → GivesAt (record { program = program; locals = locals }) (λ after way. EndsTyped program after result way) (way_or way rest) before
  way_gives locals result rest (Some way) before sound h one = give_gives sound h
  way_gives locals result rest None before sound h one = record { gives = one.gives }

  turns_gives : (locals : List CType) (result : CType) (turn : Eval (Option Completion))
      → ((before : State) → Sound (record { program = program; locals = locals }) before → GivesAt (record { program = program; locals = locals }) (λ after way. TurnEnds program after result way) turn before)
      → (n : ℕ) (before : State) → Sound (record { program = program; locals = locals }) before
      → GivesAt (record { program = program; locals = locals }) (λ after way. EndsTyped program after result way) (turns turn n) before
  turns_gives locals result turn one zero before sound = give_gives sound tt
  turns_gives locals result turn one (suc n) before sound =
      gives_then (one before sound) (λ way middle keeps h. way_gives locals result (turns turn n) way middle keeps.sound h (turns_gives locals result turn one n middle keeps.sound))

  loop_gives : (locals : List CType) (result : CType) (turn : Eval (Option Completion))
      → ((before : State) → Sound (record { program = program; locals = locals }) before → GivesAt (record { program = program; locals = locals }) (λ after way. TurnEnds program after result way) turn before)
      → (before : State) → Sound (record { program = program; locals = locals }) before
      → GivesAt (record { program = program; locals = locals }) (λ after way. EndsTyped program after result way) (loop turn) before
  loop_gives locals result turn one before sound = record { gives = (turns_gives locals result turn one (suc before.units) before sound).gives }

  after_ends : (state : State) (result : CType) (way : Completion) → EndsTyped program state result way → TurnEnds program state result (after_body way)
  after_ends state result Normal h = tt
  after_ends state result Break h = tt
  after_ends state result Continue h = tt
  after_ends state result (Return value) h = h

  broken_ends : (state : State) (result : CType) (way : Completion) → EndsTyped program state result way → EndsTyped program state result (broken_out way)
  broken_ends state result Normal h = tt
  broken_ends state result Break h = tt
  broken_ends state result Continue h = tt
  broken_ends state result (Return value) h = h

  -- what stands behind a turn's body
  do_gives : (locals : List CType) (result : CType) (condition : Eval Scalar) (way : Option Completion) (before : State) → Sound (record { program = program; locals = locals }) before
      → TurnEnds program before result way → GivesAt (record { program = program; locals = locals }) (λ after a. Unit {0}) condition before
      → GivesAt (record { program = program; locals = locals }) (λ after way. TurnEnds program after result way) (do_condition way condition) before
  do_gives locals result condition (Some way) before sound h one = give_gives sound h
  do_gives locals result condition None before sound h one = gives_then one (λ c middle keeps none. give_gives keeps.sound (by middle (is_true c)))
    where
      by : (middle : State) (b : Bool) → TurnEnds program middle result (if b then None else Some Normal)
      by middle true = tt
      by middle false = tt

  step_gives : (locals : List CType) (result : CType) (step : Eval (Option Scalar)) (way : Option Completion) (before : State) → Sound (record { program = program; locals = locals }) before
      → TurnEnds program before result way → GivesAt (record { program = program; locals = locals }) (λ after a. Unit {0}) step before
      → GivesAt (record { program = program; locals = locals }) (λ after way. TurnEnds program after result way) (for_step way step) before
  step_gives locals result step (Some way) before sound h one = give_gives sound h
  step_gives locals result step None before sound h one = gives_then one (λ c middle keeps none. give_gives keeps.sound tt)

  rest_gives : (locals : List CType) (result : CType) (rest : Eval Completion) (way : Completion) (before : State) → Sound (record { program = program; locals = locals }) before
      → EndsTyped program before result way → GivesAt (record { program = program; locals = locals }) (λ after way. EndsTyped program after result way) rest before
      → GivesAt (record { program = program; locals = locals }) (λ after way. EndsTyped program after result way) (block_rest way rest) before
  rest_gives locals result rest Normal before sound h one = record { gives = one.gives }
  rest_gives locals result rest Break before sound h one = give_gives sound h
  rest_gives locals result rest Continue before sound h one = give_gives sound h
  rest_gives locals result rest (Return value) before sound h one = give_gives sound h

  rest_leads : (locals : List CType) (result : CType) (rest : Eval Completion) (way : Completion) (before middle : State) → Keeps (record { program = program; locals = locals }) before middle
      → EndsTyped program middle result way
      → Leads (λ after way. Opens (record { program = program; locals = locals }) middle after × EndsTyped program after result way) (rest middle)
      → Leads (λ after way. Opens (record { program = program; locals = locals }) before after × EndsTyped program after result way) (block_rest way rest middle)
  rest_leads locals result rest Normal before middle keeps h one = leads_as one (λ way after rest. (opens_then_some (opens_none keeps) rest.0, rest.1))
  rest_leads locals result rest Break before middle keeps h one = then_leads Break middle ((opens_none keeps).opens, h)
  rest_leads locals result rest Continue before middle keeps h one = then_leads Continue middle ((opens_none keeps).opens, h)
  rest_leads locals result rest (Return value) before middle keeps h one = then_leads (Return value) middle ((opens_none keeps).opens, h)

  case_gives : (locals : List CType) (z : ℤ) (number : ℕ) (items : SwitchItems) (before : State) → Sound (record { program = program; locals = locals }) before
      → GivesAt (record { program = program; locals = locals }) (λ after found. Unit {0}) (case_at z number items) before
  case_gives locals z number T.SwitchEnd before sound = give_gives sound tt
  case_gives locals z number (T.Case label others) before sound =
      tick_gives {rest = if int_eq z label then give (At number) else case_at z (suc number) others} sound (λ middle keeps.
      if_gives {taken = give (At number)} (int_eq z label) (λ same. give_gives {value = At number} keeps.sound tt) (λ other. case_gives locals z (suc number) others middle keeps.sound))
  case_gives locals z number (T.Default others) before sound = record { gives = (case_gives locals z (suc number) others before sound).gives }
  case_gives locals z number (T.SwitchStmt one others) before sound = record { gives = (case_gives locals z (suc number) others before sound).gives }

  -- what follows a loop's condition
  turn_gives : (locals : List CType) (result : CType) (taken : Eval (Option Completion)) (b : Bool) (before : State) → Sound (record { program = program; locals = locals }) before
      → GivesAt (record { program = program; locals = locals }) (λ after way. TurnEnds program after result way) taken before
      → GivesAt (record { program = program; locals = locals }) (λ after way. TurnEnds program after result way) (if b then taken else give (Some Normal)) before
  turn_gives locals result taken true before sound one = record { gives = one.gives }
  turn_gives locals result taken false before sound one = give_gives sound tt

  branch_gives : (locals : List CType) (result : CType) (taken otherwise : Eval Completion) (b : Bool) (before : State)
      → GivesAt (record { program = program; locals = locals }) (λ after way. EndsTyped program after result way) taken before
      → GivesAt (record { program = program; locals = locals }) (λ after way. EndsTyped program after result way) otherwise before
      → GivesAt (record { program = program; locals = locals }) (λ after way. EndsTyped program after result way) (if b then taken else otherwise) before
  branch_gives locals result taken otherwise true before one other = record { gives = one.gives }
  branch_gives locals result taken otherwise false before one other = record { gives = other.gives }

  -- ---- statements

  -- what runs in the scope of a `for`
  abbrev for_inside : ForStart → Option Value → Option Value → Stmt → Eval Completion
  for_inside begin condition step body =
      start (around_of program) calls begin >>= λ begun. loop (optional_value (value (around_of program) calls) condition >>= λ c.
      if holds c then (stmt (around_of program) calls body >>= λ way. for_step (after_body way) (optional_value (value (around_of program) calls) step)) else give (Some Normal))

  -- what a `for` asks, in whose scope its locals stand
  record ForParts (locals : List CType) (within : Within) (begin : ForStart) (condition step : Option Value) (body : Stmt) : Type 0 where
    begins : is_start (record { program = program; locals = locals }) begin ≡ true
    tests : if_any (is_condition (record { program = program; locals = types_begun begin locals })) condition ≡ true
    steps : if_any (is_expression (record { program = program; locals = types_begun begin locals })) step ≡ true
    turns_well : is_stmt (record { program = program; locals = types_begun begin locals }) (in_loop within) body ≡ true
    begins_small : start_makes (is_storable program.structs) begin ≡ true
    tests_small : any_makes (is_storable program.structs) condition ≡ true
    steps_small : any_makes (is_storable program.structs) step ≡ true
    turns_small : stmt_makes (is_storable program.structs) body ≡ true

  for_parts : (locals : List CType) (within : Within) (begin : ForStart) (condition step : Option Value) (body : Stmt)
      → is_stmt (record { program = program; locals = locals }) within (T.For begin condition step body) ≡ true → stmt_makes (is_storable program.structs) (T.For begin condition step body) ≡ true
      → ForParts locals within begin condition step body
  for_parts locals within begin condition step body typed small =
      let around = with_start begin (record { program = program; locals = locals }) in
      let same = begun_is begin locals in
      let three = and_parts (is_start (record { program = program; locals = locals }) begin && if_any (is_condition around) condition && if_any (is_expression around) step) _ typed in
      let two = and_parts (is_start (record { program = program; locals = locals }) begin && if_any (is_condition around) condition) _ three.0 in
      let one = and_parts (is_start (record { program = program; locals = locals }) begin) _ two.0 in
      let three_small = and_parts (start_makes (is_storable program.structs) begin && any_makes (is_storable program.structs) condition && any_makes (is_storable program.structs) step) _ small in
      let two_small = and_parts (start_makes (is_storable program.structs) begin && any_makes (is_storable program.structs) condition) _ three_small.0 in
      let one_small = and_parts (start_makes (is_storable program.structs) begin) _ two_small.0 in
      record {
        begins = one.0;
        tests = subst (λ c. if_any (is_condition c) condition ≡ true) same one.1;
        steps = subst (λ c. if_any (is_expression c) step ≡ true) same two.1;
        turns_well = subst (λ c. is_stmt c (in_loop within) body ≡ true) same three.1;
        begins_small = one_small.0;
        tests_small = one_small.1;
        steps_small = two_small.1;
        turns_small = three_small.1;
      }

  mutual
    pub stmt_gives : (locals : List CType) (within : Within) (s : Stmt) → is_stmt (record { program = program; locals = locals }) within s ≡ true → stmt_makes (is_storable program.structs) s ≡ true
        → (before : State) → Sound (record { program = program; locals = locals }) before
        → GivesAt (record { program = program; locals = locals }) (λ after way. EndsTyped program after within.result way) (stmt (around_of program) calls s) before
    stmt_gives locals within (T.BlockStmt items) typed small before sound =
        tick_gives {rest = scoped (block (around_of program) calls items)} sound (λ middle keeps.
        scoped_gives locals within.result (block (around_of program) calls items) middle keeps.sound (block_leads locals within items typed small middle keeps.sound))
    stmt_gives locals within T.Empty typed small before sound = tick_gives {rest = give Normal} sound (λ middle keeps. give_gives keeps.sound tt)
    stmt_gives locals within (T.Expression v) typed small before sound =
        tick_gives {rest = value (around_of program) calls v >>= λ a. give Normal} sound (λ middle keeps.
        gives_then {next = λ a. give Normal} (some_value locals v typed small middle keeps.sound) (λ a last keeps' h. give_gives {value = Normal} keeps'.sound tt))
    stmt_gives locals within (T.If condition taken) typed small before sound =
        let parts = and_parts (is_condition (record { program = program; locals = locals }) condition) _ typed in
        let sizes = and_parts (makes (is_storable program.structs) condition) _ small in
        tick_gives sound (λ middle keeps. gives_then (condition_value locals condition parts.0 sizes.0 middle keeps.sound) (λ c last keeps' h.
        branch_gives locals within.result _ (give Normal) (is_true c) last (stmt_gives locals within taken parts.1 sizes.1 last keeps'.sound) (give_gives keeps'.sound tt)))
    stmt_gives locals within (T.IfElse condition taken otherwise) typed small before sound =
        let parts = and_parts (is_condition (record { program = program; locals = locals }) condition && is_stmt (record { program = program; locals = locals }) within taken) _ typed in
        let first = and_parts (is_condition (record { program = program; locals = locals }) condition) _ parts.0 in
        let sizes = and_parts (makes (is_storable program.structs) condition && stmt_makes (is_storable program.structs) taken) _ small in
        let first_sizes = and_parts (makes (is_storable program.structs) condition) _ sizes.0 in
        tick_gives sound (λ middle keeps. gives_then (condition_value locals condition first.0 first_sizes.0 middle keeps.sound) (λ c last keeps' h.
        branch_gives locals within.result _ _ (is_true c) last (stmt_gives locals within taken first.1 first_sizes.1 last keeps'.sound) (stmt_gives locals within otherwise parts.1 sizes.1 last keeps'.sound)))
    stmt_gives locals within (T.While condition body) typed small before sound =
        let parts = and_parts (is_condition (record { program = program; locals = locals }) condition) _ typed in
        let sizes = and_parts (makes (is_storable program.structs) condition) _ small in
        tick_gives {rest = loop _} sound (λ middle keeps. loop_gives locals within.result _ (λ from from_sound.
        gives_then (condition_value locals condition parts.0 sizes.0 from from_sound) (λ c next keeps' h.
        turn_gives locals within.result _ (is_true c) next keeps'.sound
        (gives_then (stmt_gives locals (in_loop within) body parts.1 sizes.1 next keeps'.sound) (λ way last keeps'' ends. give_gives keeps''.sound (after_ends last within.result way ends))))) middle keeps.sound)
    stmt_gives locals within (T.DoWhile body condition) typed small before sound =
        let parts = and_parts (is_stmt (record { program = program; locals = locals }) (in_loop within) body) _ typed in
        let sizes = and_parts (stmt_makes (is_storable program.structs) body) _ small in
        tick_gives {rest = loop _} sound (λ middle keeps. loop_gives locals within.result _ (λ from from_sound.
        gives_then (stmt_gives locals (in_loop within) body parts.0 sizes.0 from from_sound) (λ way next keeps' ends.
        do_gives locals within.result (value (around_of program) calls condition) (after_body way) next keeps'.sound (after_ends next within.result way ends)
        (condition_value locals condition parts.1 sizes.1 next keeps'.sound))) middle keeps.sound)
    stmt_gives locals within (T.For begin condition step body) typed small before sound =
        let inner = types_begun begin locals in
        let whole = for_parts locals within begin condition step body typed small in
        tick_gives {rest = scoped (for_inside begin condition step body)} sound (λ middle keeps. scoped_gives locals within.result (for_inside begin condition step body) middle keeps.sound
        (leads_then (start_leads locals begin whole.begins whole.begins_small middle keeps.sound) (λ begun opened opens.
        leads_as (gives_leads (loop_gives inner within.result _ (λ from from_sound.
        gives_then (any_condition inner condition whole.tests whole.tests_small from from_sound) (λ c next keeps' h.
        turn_gives inner within.result _ (holds c) next keeps'.sound
        (gives_then (stmt_gives inner (in_loop within) body whole.turns_well whole.turns_small next keeps'.sound) (λ way last keeps'' ends.
        step_gives inner within.result (optional_value (value (around_of program) calls) step) (after_body way) last keeps''.sound (after_ends last within.result way ends)
        (any_step inner step whole.steps whole.steps_small last keeps''.sound)))))
        opened (opens_sound opens))) (λ way after done. ((opens_keeps opens done.0).opens, done.1)))))
    stmt_gives locals within (T.Switch v items) typed small before sound =
        let parts = and_parts (is_condition (record { program = program; locals = locals }) v) _ typed in
        let sizes = and_parts (makes (is_storable program.structs) v) _ small in
        tick_gives sound (λ middle keeps. gives_then (condition_value locals v parts.0 sizes.0 middle keeps.sound) (λ a next keeps' h.
        gives_then (case_gives locals (integer_of a) 0 items next keeps'.sound) (λ found from keeps'' none.
        gives_then (switch_gives locals (in_switch within) (given (type_of (record { program = program; locals = locals }) v) integer_type) items parts.1 sizes.1 (entry_or found (default_at items)) from keeps''.sound)
        (λ way last kept_on ends. give_gives kept_on.sound (broken_ends last within.result way ends)))))
    stmt_gives locals within T.Break typed small before sound = tick_gives {rest = give Break} sound (λ middle keeps. give_gives keeps.sound tt)
    stmt_gives locals within T.Continue typed small before sound = tick_gives {rest = give Continue} sound (λ middle keeps. give_gives keeps.sound tt)
    stmt_gives locals within (T.Return v) typed small before sound =
        tick_gives {rest = optional_value (value (around_of program) calls) v >>= λ a. give (Return a)} sound (λ middle keeps.
        gives_then {next = λ a. give (Return a)} (returned_value locals within.result v typed small middle keeps.sound) (λ a last keeps' h. give_gives {value = Return a} keeps'.sound h))

    pub block_leads : (locals : List CType) (within : Within) (items : Block) → is_block (record { program = program; locals = locals }) within items ≡ true → block_makes (is_storable program.structs) items ≡ true
        → (before : State) → Sound (record { program = program; locals = locals }) before
        → Leads (λ after way. Opens (record { program = program; locals = locals }) before after × EndsTyped program after within.result way) (block (around_of program) calls items before)
    block_leads locals within T.Close typed small before sound = then_leads Normal before ((opens_none (keeps_refl _ before sound)).opens, tt)
    block_leads locals within (T.Declare local others) typed small before sound =
        let parts = and_parts (is_local (record { program = program; locals = locals }) local) _ typed in
        let sizes = and_parts (local_makes (is_storable program.structs) local) _ small in
        leads_then (declare_leads locals local parts.0 sizes.0 before sound) (λ begun middle h.
        leads_as (block_leads (local.c_type ∷ locals) within others parts.1 sizes.1 middle (opens_sound h.0)) (λ way after rest. (opens_then_some h.0 rest.0, rest.1)))
    block_leads locals within (T.Perform one others) typed small before sound =
        let parts = and_parts (is_stmt (record { program = program; locals = locals }) within one) _ typed in
        let sizes = and_parts (stmt_makes (is_storable program.structs) one) _ small in
        leads_then (gives_leads (stmt_gives locals within one parts.0 sizes.0 before sound)) (λ way middle h.
        rest_leads locals within.result (block (around_of program) calls others) way before middle h.0 h.1 (block_leads locals within others parts.1 sizes.1 middle h.0.sound))

    pub switch_gives : (locals : List CType) (within : Within) (switched : Option IntType) (items : SwitchItems) → are_items (record { program = program; locals = locals }) within switched items ≡ true
        → items_make (is_storable program.structs) items ≡ true → (entry : Entry) → (before : State) → Sound (record { program = program; locals = locals }) before
        → GivesAt (record { program = program; locals = locals }) (λ after way. EndsTyped program after within.result way) (switch_from (around_of program) calls entry items) before
    switch_gives locals within switched items typed small NoEntry before sound = give_gives sound tt
    switch_gives locals within switched T.SwitchEnd typed small (At number) before sound = give_gives sound tt
    switch_gives locals within switched (T.Case label others) typed small (At (suc number)) before sound =
        record { gives = (switch_gives locals within switched others (and_parts (is_label switched label) _ typed).1 small (At number) before sound).gives }
    switch_gives locals within switched (T.Default others) typed small (At (suc number)) before sound =
        record { gives = (switch_gives locals within switched others typed small (At number) before sound).gives }
    switch_gives locals within switched (T.SwitchStmt one others) typed small (At (suc number)) before sound =
        record {
          gives = (switch_gives locals within switched others (and_parts (is_stmt (record { program = program; locals = locals }) within one) _ typed).1
              (and_parts (stmt_makes (is_storable program.structs) one) _ small).1 (At number) before sound).gives;
        }
    switch_gives locals within switched (T.Case label others) typed small (At zero) before sound =
        record { gives = (switch_gives locals within switched others (and_parts (is_label switched label) _ typed).1 small (At zero) before sound).gives }
    switch_gives locals within switched (T.Default others) typed small (At zero) before sound =
        record { gives = (switch_gives locals within switched others typed small (At zero) before sound).gives }
    switch_gives locals within switched (T.SwitchStmt one others) typed small (At zero) before sound =
        let parts = and_parts (is_stmt (record { program = program; locals = locals }) within one) _ typed in
        let sizes = and_parts (stmt_makes (is_storable program.structs) one) _ small in
        gives_then (stmt_gives locals within one parts.0 sizes.0 before sound) (λ way middle keeps ends.
        rest_gives locals within.result (switch_from (around_of program) calls (At 0) others) way middle keeps.sound ends
        (switch_gives locals within switched others parts.1 sizes.1 (At zero) middle keeps.sound))

  -- from each sound state
  pub stmt_keeps : (locals : List CType) (within : Within) (s : Stmt) → is_stmt (record { program = program; locals = locals }) within s ≡ true → stmt_makes (is_storable program.structs) s ≡ true
      → Yields (record { program = program; locals = locals }) (λ after way. EndsTyped program after within.result way) (stmt (around_of program) calls s)
  stmt_keeps locals within s typed small before sound = (stmt_gives locals within s typed small before sound).gives
