-- What is known of a state stays known in each later one, and what evaluations one after another keep.
use Rattle.std.proofs.Common.{◌≡◌, ℕ, zero, suc, ◌≤◌, Bool, true, false, if◌then◌else◌, List, [], ◌∷◌, ◌++◌, Some, None, refl, sym, ap, ◌∙◌, subst, le_refl, le_trans, le_of_eq, lt_of_lt_of_le}
use Rattle.run_theory.specs.declared.place.Pos.{Pos}
use Rattle.run_theory.specs.declared.ends.UbKind.{UbKind}
use Rattle.run_theory.specs.Runs.{Event, Final, Answer}
use Rattle.c_typed.specs.Types.{CType, CTypes, Void, Integer, Pointer, Array, Struct, Function, NoTypes, MoreTypes, literal_type}
use Rattle.c_typed.specs.Typed.{Program}
use Rattle.c_typed.specs.Context.{Context}
use Rattle.ref_semantics.specs.Values.{Name, Heap, GlobalObject, LiteralObject, LocalObject, Place, Scalar, IntegerValue, NullValue, FunctionValue, PointerValue, RawPointer, Content, Dead, Raw, Elements}
use Rattle.ref_semantics.specs.Store.{State, Outcome, Then, Stopped, Eval, ◌>>=◌, continue_with, give, halt, undefined, spend, tick, ticks, emit, with_objects, Objects, Premise, unless}
use Rattle.ref_semantics.specs.Meaning.{Completion, Normal, Break, Continue, Return}
use Rattle.ref_semantics.specs.Rows.{RowOf}
use Rattle.ref_semantics.specs.Sound.{PointsTo, HasType, HaveTypes, StandsIn, IsPlace, WasGiven, IsSoundContent, AreLocals, IsStatic, Sound, Later, MayBecome, LivesOn, IsOfHeap, EndsTyped}
use Rattle.ref_semantics.specs.Keeping.{Keeps, Yields, IsElement}

-- ---- later states

pub may_refl : (content : Content) → MayBecome content content
may_refl Dead = refl
may_refl (Raw size) = tt
may_refl (Elements is_static c_type count held) = (refl, refl, refl)

pub lives_refl : (content : Content) → LivesOn content content
lives_refl Dead = tt
lives_refl (Raw size) = tt
lives_refl (Elements is_static c_type count held) = (held, refl)

pub may_trans : (first second third : Content) → MayBecome first second → MayBecome second third → MayBecome first third
may_trans Dead second third one two = subst (λ content. MayBecome content third) one two
may_trans (Raw size) second third one two = tt
may_trans (Elements s t n held) Dead third one two = subst (λ content. MayBecome (Elements s t n held) content) (sym two) tt
may_trans (Elements s t n held) (Raw size) third one two = absurd one
may_trans (Elements s t n held) (Elements s' t' n' held') Dead one two = tt
may_trans (Elements s t n held) (Elements s' t' n' held') (Raw size) one two = absurd two
may_trans (Elements s t n held) (Elements s' t' n' held') (Elements s'' t'' n'' held'') one two = (one.0 ∙ two.0, one.1 ∙ two.1, one.2 ∙ two.2)

pub lives_trans : (first second third : Content) → LivesOn first second → LivesOn second third → LivesOn first third
lives_trans Dead second third one two = tt
lives_trans (Raw size) second third one two = tt
lives_trans (Elements s t n held) second third one two = subst (λ content. LivesOn content third) one.1 two

given_later : (before after : State) → before.next_local ≤ after.next_local → before.next_heap ≤ after.next_heap → (name : Name) → WasGiven before name → WasGiven after name
given_later before after locals heaps (Heap number) h = lt_of_lt_of_le h heaps
given_later before after locals heaps (LocalObject number) h = lt_of_lt_of_le h locals
given_later before after locals heaps (GlobalObject name) h = tt
given_later before after locals heaps (LiteralObject place) h = tt

pub later_refl : (state : State) → Later state state
later_refl state = record {
  next_local = le_refl state.next_local;
  next_heap = le_refl state.next_heap;
  may = λ name given. may_refl (state.objects name);
  lives = λ name given other. lives_refl (state.objects name);
}

pub later_trans : {first second third : State} → Later first second → Later second third → Later first third
later_trans {first} {second} {third} one two =
    let given = given_later first second one.next_local one.next_heap in
    record {
      next_local = le_trans one.next_local two.next_local;
      next_heap = le_trans one.next_heap two.next_heap;
      may = λ name h. may_trans (first.objects name) (second.objects name) (third.objects name) (one.may name h) (two.may name (given name h));
      lives = λ name h other. lives_trans (first.objects name) (second.objects name) (third.objects name) (one.lives name h other) (two.lives name (given name h) other);
    }

-- the same, but locals may die
pub record Goes (before after : State) : Type 0 where
  pub next_local : before.next_local ≤ after.next_local
  pub next_heap : before.next_heap ≤ after.next_heap
  pub may : (name : Name) → WasGiven before name → MayBecome (before.objects name) (after.objects name)

pub goes_of : {before after : State} → Later before after → Goes before after
goes_of later = record { next_local = later.next_local; next_heap = later.next_heap; may = later.may }

-- ---- what lasts

stands_goes : (program : Program) (before after : Content) → MayBecome before after → (place : Place) → StandsIn program before place → StandsIn program after place
stands_goes program Dead after may place h = subst (λ content. StandsIn program content place) (sym may) tt
stands_goes program (Raw size) after may place h = absurd h
stands_goes program (Elements s t n held) Dead may place h = tt
stands_goes program (Elements s t n held) (Raw size) may place h = absurd may
stands_goes program (Elements s t n held) (Elements s' t' n' held') may place h =
    (subst (λ k. RowOf program.structs t' k place.row) may.2 (subst (λ c_type. RowOf program.structs c_type n place.row) may.1 h.0), h.1)

module _ (program : Program) {before after : State} (goes : Goes before after) where
  pub given_goes : (name : Name) → WasGiven before name → WasGiven after name
  given_goes = given_later before after goes.next_local goes.next_heap

  pub place_goes : (place : Place) → IsPlace program before place → IsPlace program after place
  place_goes place h =
      record { given = given_goes place.name h.given; stands = stands_goes program (before.objects place.name) (after.objects place.name) (goes.may place.name h.given) place h.stands }

  points_goes : (target : CType) (value : Scalar) → PointsTo program before target value → PointsTo program after target value
  points_goes target (IntegerValue z) h = absurd h
  points_goes target NullValue h = tt
  points_goes target (FunctionValue name) h = h
  points_goes target (PointerValue place) h = (h.0, place_goes place h.1, h.2)
  points_goes target (RawPointer number) h = (h.0, lt_of_lt_of_le h.1 goes.next_heap)

  pub type_goes : (t : CType) (value : Scalar) → HasType program before t value → HasType program after t value
  type_goes (Integer t) (IntegerValue z) h = h
  type_goes (Integer t) NullValue h = absurd h
  type_goes (Integer t) (FunctionValue name) h = absurd h
  type_goes (Integer t) (PointerValue place) h = absurd h
  type_goes (Integer t) (RawPointer number) h = absurd h
  type_goes (Pointer t) value h = points_goes t value h
  type_goes Void value h = tt
  type_goes (Array t n) value h = absurd h
  type_goes (Struct tag) value h = absurd h
  type_goes (Function t ts) value h = absurd h

  pub ends_goes : (result : CType) (way : Completion) → EndsTyped program before result way → EndsTyped program after result way
  ends_goes result (Return (Some value)) h = type_goes result value h
  ends_goes result (Return None) h = tt
  ends_goes result Normal h = tt
  ends_goes result Break h = tt
  ends_goes result Continue h = tt

  pub content_goes : (content : Content) → IsSoundContent program before content → IsSoundContent program after content
  content_goes Dead h = tt
  content_goes (Raw size) h = h
  content_goes (Elements s t n held) h = record {
    complete = h.complete;
    small = h.small;
    filled = h.filled;
    some = h.some;
    leaves = λ offset value e. let leaf = h.leaves offset value e in (leaf.0, leaf.1, type_goes leaf.0 value leaf.2);
  }

module _ (program : Program) {before after : State} (later : Later before after) where
  pub given_lasts : (name : Name) → WasGiven before name → WasGiven after name
  given_lasts = given_goes program (goes_of later)

  pub place_lasts : (place : Place) → IsPlace program before place → IsPlace program after place
  place_lasts = place_goes program (goes_of later)

  pub type_lasts : (t : CType) (value : Scalar) → HasType program before t value → HasType program after t value
  type_lasts = type_goes program (goes_of later)

  pub types_last : (ts : CTypes) (given : List Scalar) → HaveTypes program before ts given → HaveTypes program after ts given
  types_last NoTypes [] h = tt
  types_last (MoreTypes t ts) (value ∷ values) h = (type_lasts t value h.0, types_last ts values h.1)
  types_last NoTypes (value ∷ values) h = absurd h
  types_last (MoreTypes t ts) [] h = absurd h

  pub element_lasts : (t : CType) (place : Place) → IsElement program before t place → IsElement program after t place
  element_lasts t place h = record { place_stands = place_lasts place h.place_stands; within = h.within; is_own = h.is_own }

  pub ends_last : (result : CType) (way : Completion) → EndsTyped program before result way → EndsTyped program after result way
  ends_last = ends_goes program (goes_of later)

  pub content_lasts : (content : Content) → IsSoundContent program before content → IsSoundContent program after content
  content_lasts = content_goes program (goes_of later)

  static_lasts : (name : Name) (t : CType) → WasGiven before name → (IsOfHeap name → ⊥) → IsStatic before name t → IsStatic after name t
  static_lasts name t given other h = subst (λ content. LivesOn content (after.objects name)) h.1 (later.lives name given other)

  pub locals_last : (names : List ℕ) (types : List CType) → AreLocals before names types → AreLocals after names types
  locals_last [] [] h = tt
  locals_last (newest ∷ names) (t ∷ types) h = (
    lt_of_lt_of_le h.0 later.next_local,
    subst (λ content. LivesOn content (after.objects (LocalObject newest))) h.1.1 (later.lives (LocalObject newest) h.0 (λ none. none)),
    locals_last names types h.2,
  )
  locals_last [] (t ∷ types) h = absurd h
  locals_last (newest ∷ names) [] h = absurd h

-- what a later state has to show: its contents, that new names name nothing, and its locals
pub sound_later_with : {program : Program} {types types' : List CType} {before after : State} → Sound (record { program = program; locals = types }) before → Later before after
    → ((name : Name) → IsSoundContent program after (after.objects name)) → ((name : Name) → (WasGiven after name → ⊥) → after.objects name ≡ Dead)
    → AreLocals after after.locals types' → Sound (record { program = program; locals = types' }) after
sound_later_with {program} {types} {types'} {before} {after} sound later contents fresh locals = record {
  contents = contents;
  fresh = fresh;
  locals = locals;
  globals = λ name t is. static_lasts program later (GlobalObject name) t tt (λ none. none) (sound.globals name t is);
  literals = λ place bytes is. static_lasts program later (LiteralObject place) (literal_type bytes) tt (λ none. none) (sound.literals place bytes is);
}

pub sound_later : {around : Context} {before after : State} → Sound around before → Later before after
    → ((name : Name) → IsSoundContent around.program after (after.objects name)) → ((name : Name) → (WasGiven after name → ⊥) → after.objects name ≡ Dead)
    → after.locals ≡ before.locals → Sound around after
sound_later {around} {before} {after} sound later contents fresh locals =
    sound_later_with sound later contents fresh (subst (λ names. AreLocals after names around.locals) (sym locals) (locals_last around.program later before.locals around.locals sound.locals))

-- ---- what evaluations keep

pub keeps_refl : (around : Context) (state : State) → Sound around state → Keeps around state state
keeps_refl around state sound = record { sound = sound; later = later_refl state; locals = refl }

pub keeps_trans : {around : Context} {first second third : State} → Keeps around first second → Keeps around second third → Keeps around first third
keeps_trans one two = record { sound = two.sound; later = later_trans one.later two.later; locals = two.locals ∙ one.locals }

-- what holds where an evaluation goes on
pub record Leads {A : Type 0} (post : State → A → Type 0) (outcome : Outcome A) : Type 0 where
  pub leads : (a : A) (after : State) → outcome ≡ Then a after → post after a

-- `Yields around kind eval` is this from each sound state
pub record GivesAt {A : Type 0} (around : Context) (kind : State → A → Type 0) (eval : Eval A) (before : State) : Type 0 where
  pub gives : (a : A) (after : State) → eval before ≡ Then a after → Keeps around before after × kind after a

abbrev goes_on : {A : Type 0} → Outcome A → Type 0
goes_on (Then a state) = Unit {0}
goes_on (Stopped answer state) = ⊥

pub stopped : {A : Type 0} {answer : Answer} {state : State} {a : A} {after : State} → ◌≡◌ {A = Outcome A} (Stopped answer state) (Then a after) → ⊥
stopped e = subst goes_on (sym e) tt

abbrev value_or : {A : Type 0} → A → Outcome A → A
value_or other (Then a state) = a
value_or other (Stopped answer state) = other

abbrev state_of : {A : Type 0} → Outcome A → State
state_of (Then a state) = state
state_of (Stopped answer state) = state

pub then_value : {A : Type 0} {a b : A} {first second : State} → ◌≡◌ {A = Outcome A} (Then a first) (Then b second) → a ≡ b
then_value {A} {a} e = ap (value_or a) e

pub then_state : {A : Type 0} {a b : A} {first second : State} → ◌≡◌ {A = Outcome A} (Then a first) (Then b second) → first ≡ second
then_state e = ap state_of e

-- one after another, whatever holds between them
pub leads_then : {A B : Type 0} {post : State → A → Type 0} {post' : State → B → Type 0} {first : Outcome A} {next : A → Eval B}
    → Leads post first → ((a : A) (middle : State) → post middle a → Leads post' (next a middle)) → Leads post' (continue_with next first)
leads_then {A} {B} {post} {post'} {first} {next} one other = record { leads = λ b after run. by first one b after run }
  where
    by : (outcome : Outcome A) → Leads post outcome → (b : B) (after : State) → continue_with next outcome ≡ Then b after → post' after b
    by (Then a middle) known b after run = (other a middle (known.leads a middle refl)).leads b after run
    by (Stopped answer state) known b after run = absurd (stopped run)

-- The second runs from a state that is sound and later, in which what was known before still holds.
pub gives_then : {A B : Type 0} {around : Context} {kind : State → A → Type 0} {kind' : State → B → Type 0} {first : Eval A} {next : A → Eval B} {before : State}
    → GivesAt around kind first before → ((a : A) (middle : State) → Keeps around before middle → kind middle a → GivesAt around kind' (next a) middle)
    → GivesAt around kind' (first >>= next) before
gives_then {A} {B} {around} {kind} {kind'} {first} {next} {before} one other = record { gives = λ b after run. by (first before) one.gives b after run }
  where
    by : (outcome : Outcome A) → ((a : A) (middle : State) → outcome ≡ Then a middle → Keeps around before middle × kind middle a)
        → (b : B) (after : State) → continue_with next outcome ≡ Then b after → Keeps around before after × kind' after b
    by (Then a middle) known b after run =
        let start = known a middle refl in
        let rest = (other a middle start.0 start.1).gives b after run in
        (keeps_trans start.0 rest.0, rest.1)
    by (Stopped answer state) known b after run = absurd (stopped run)

-- the same kind, said in other words
pub gives_as : {A : Type 0} {around : Context} {kind kind' : State → A → Type 0} {eval : Eval A} {before : State}
    → GivesAt around kind eval before → ((a : A) (after : State) → Keeps around before after → kind after a → kind' after a) → GivesAt around kind' eval before
gives_as one other = record { gives = λ a after run. let done = one.gives a after run in (done.0, other a after done.0 done.1) }

pub give_gives : {A : Type 0} {around : Context} {kind : State → A → Type 0} {value : A} {before : State} → Sound around before → kind before value
    → GivesAt around kind (give value) before
give_gives {A} {around} {kind} {value} {before} sound h = record {
  gives = λ a after run. subst (λ state. Keeps around before state × kind state a) (then_state run)
      (subst (λ b. Keeps around before before × kind before b) (then_value run) (keeps_refl around before sound, h));
}

pub halt_gives : {A : Type 0} {around : Context} {kind : State → A → Type 0} {final : Final} {before : State} → GivesAt around kind (halt final) before
halt_gives = record { gives = λ a after run. absurd (stopped run) }

pub undefined_gives : {A : Type 0} {around : Context} {kind : State → A → Type 0} {why : UbKind} {here : Pos} {before : State}
    → GivesAt around kind (undefined why here) before
undefined_gives = record { gives = λ a after run. absurd (stopped run) }

-- a state with other units, input or trace
pub aside_keeps : {around : Context} {before : State} (after : State) → Sound around before → after.objects ≡ before.objects → after.locals ≡ before.locals
    → after.next_local ≡ before.next_local → after.next_heap ≡ before.next_heap → Keeps around before after
aside_keeps {around} {before} after sound objects locals next_local next_heap =
    let later : Later before after = record {
      next_local = le_of_eq (sym next_local);
      next_heap = le_of_eq (sym next_heap);
      may = λ name given. subst (λ all. MayBecome (before.objects name) (all name)) (sym objects) (may_refl (before.objects name));
      lives = λ name given other. subst (λ all. LivesOn (before.objects name) (all name)) (sym objects) (lives_refl (before.objects name));
    } in
    record {
      sound = sound_later sound later
          (λ name. subst (λ all. IsSoundContent around.program after (all name)) (sym objects) (content_lasts around.program later (before.objects name) (sound.contents name)))
          (λ name fresh. ap (λ all. all name) objects ∙ sound.fresh name (λ given. fresh (given_lasts around.program later name given)))
          locals;
      later = later;
      locals = locals;
    }

-- what goes on from such a state
onward : {A : Type 0} {around : Context} {kind : State → A → Type 0} {rest : Eval A} {before middle : State} → Keeps around before middle → GivesAt around kind rest middle
    → (a : A) (after : State) → rest middle ≡ Then a after → Keeps around before after × kind after a
onward keeps one a after run = let done = one.gives a after run in (keeps_trans keeps done.0, done.1)

pub tick_gives : {A : Type 0} {around : Context} {kind : State → A → Type 0} {rest : Eval A} {before : State} → Sound around before
    → ((middle : State) → Keeps around before middle → GivesAt around kind rest middle) → GivesAt around kind (tick rest) before
tick_gives {A} {around} {kind} {rest} {before} sound one = record { gives = λ a after run. by before.units a after run }
  where
    by : (units : ℕ) (a : A) (after : State) → spend rest units before ≡ Then a after → Keeps around before after × kind after a
    by zero a after run = absurd (stopped run)
    by (suc n) a after run =
        let keeps : Keeps around before (record before { units = n }) = aside_keeps (record before { units = n }) sound refl refl refl refl in
        onward keeps (one (record before { units = n }) keeps) a after run

pub ticks_gives : {A : Type 0} {around : Context} {kind : State → A → Type 0} {rest : Eval A} {before : State} (n : ℕ) → Sound around before
    → ((middle : State) → Keeps around before middle → GivesAt around kind rest middle) → GivesAt around kind (ticks n rest) before
ticks_gives {A} {around} {kind} {rest} {before} zero sound one = one before (keeps_refl around before sound)
ticks_gives {A} {around} {kind} {rest} {before} (suc n) sound one =
    tick_gives sound (λ middle keeps. ticks_gives n keeps.sound (λ last keeps'. one last (keeps_trans keeps keeps')))

pub emit_gives : {A : Type 0} {around : Context} {kind : State → A → Type 0} {rest : Eval A} {events : List Event} {before : State} → Sound around before
    → ((middle : State) → Keeps around before middle → middle.objects ≡ before.objects → GivesAt around kind rest middle) → GivesAt around kind (emit events rest) before
emit_gives {A} {around} {kind} {rest} {events} {before} sound one =
    let middle : State = record before { trace = before.trace ++ events } in
    let keeps : Keeps around before middle = aside_keeps middle sound refl refl refl refl in
    record { gives = λ a after run. onward keeps (one middle keeps refl) a after run }

pub objects_gives : {A : Type 0} {around : Context} {kind : State → A → Type 0} {before : State} (next : Objects → Eval A)
    → GivesAt around kind (next before.objects) before → GivesAt around kind (with_objects next) before
objects_gives next one = record { gives = one.gives }

pub if_gives : {A : Type 0} {around : Context} {kind : State → A → Type 0} {taken otherwise : Eval A} {before : State} (condition : Bool)
    → (condition ≡ true → GivesAt around kind taken before) → (condition ≡ false → GivesAt around kind otherwise before)
    → GivesAt around kind (if condition then taken else otherwise) before
if_gives true one other = one refl
if_gives false one other = other refl

-- no premise fails
abbrev pub NoneFails : List Premise → Type 0
NoneFails [] = Unit {0}
NoneFails (first ∷ others) = (first.fails ≡ false) × NoneFails others

pub unless_gives : {A : Type 0} {around : Context} {kind : State → A → Type 0} {rest : Eval A} {before : State} (here : Pos) (premises : List Premise)
    → (NoneFails premises → GivesAt around kind rest before) → GivesAt around kind (unless here premises rest) before
unless_gives here [] one = one tt
unless_gives here (first ∷ others) one = if_gives first.fails (λ fails. undefined_gives) (λ holds. unless_gives here others (λ all. one (holds, all)))

-- what comes to that
pub guarded : {A : Type 0} {around : Context} {kind : State → A → Type 0} {eval : Eval A} {before : State} (here : Pos) (premises : List Premise) (rest : Eval A)
    → eval before ≡ unless here premises rest before → (NoneFails premises → GivesAt around kind rest before) → GivesAt around kind eval before
guarded here premises rest is one = record { gives = λ a after run. (unless_gives here premises one).gives a after (sym is ∙ run) }

-- from each sound state, and back
pub gives_each : {A : Type 0} {around : Context} {kind : State → A → Type 0} (eval : Eval A) → ((before : State) → Sound around before → GivesAt around kind eval before)
    → Yields around kind eval
gives_each eval one before sound = (one before sound).gives

pub each_gives : {A : Type 0} {around : Context} {kind : State → A → Type 0} {eval : Eval A} → Yields around kind eval → (before : State) → Sound around before
    → GivesAt around kind eval before
each_gives one before sound = record { gives = one before sound }
