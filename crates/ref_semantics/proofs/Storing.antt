-- What reading and writing keep, the life of locals, and the library.
use Rattle.std.proofs.Common.{◌≡◌, ℕ, zero, suc, ◌<◌, ◌≤◌, ◌==◌, ◌%◌, Bool, true, false, not, ◌||◌, nat_lt, if◌then◌else◌, List, [], ◌∷◌, ◌++◌, length, Option, Some, None, ℤ, pos, negsuc, neg_ℤ, refl, sym, ap, ◌∙◌, subst, le_refl, le_trans, lt_of_lt_of_le, le_of_lt, lt-suc_self, lt_irrefl, length-append, append_assoc, eqb-true, eq-eqb, le-leb, arith}
use Rattle.std.proofs.lemmas.Bool.{false≢true, true≢false, and_from, or_parts, not-false, false_from_ne_true, lt-ltb, le-ltb, cond-true, cond-false}
use Rattle.std.proofs.lemmas.Option.{none-some, same_Some}
use Rattle.run_theory.specs.declared.place.Pos.{Pos}
use Rattle.run_theory.specs.Runs.{Stored, Allocated, Freed, Output}
use Rattle.run_theory.specs.declared.ends.UbKind.TheVariants as Ub
use Rattle.c_num.specs.declared.IntType.{IntType}
use Rattle.c_num.specs.declared.IntType.TheVariants as I
use Rattle.c_num.specs.Types.{is_value}
use Rattle.c_num.specs.Conversion.{modulo}
use Rattle.c_typed.specs.declared.typed.LibraryFunction.{LibraryFunction}
use Rattle.c_typed.specs.declared.typed.LibraryFunction.TheVariants as L
use Rattle.c_typed.specs.Types.{CType, CTypes, Void, Integer, Pointer, Array, Struct, Function, NoTypes, MoreTypes, int, is_object_pointer, same_types}
use Rattle.c_typed.specs.Layouts.{is_complete}
use Rattle.c_typed.specs.Typed.{Program}
use Rattle.c_typed.proofs.Same.{same_type-true}
use Rattle.c_typed.specs.Context.{Context}
use Rattle.c_typed.specs.Expressions.{is_scalar, library_result, where_holds}
use Rattle.c_typed.specs.Programs.{IsWellTyped}
use Rattle.ref_semantics.specs.First.{around_of}
use Rattle.ref_semantics.specs.Values.{Name, Heap, GlobalObject, LiteralObject, LocalObject, Place, Scalar, IntegerValue, NullValue, FunctionValue, PointerValue, RawPointer, Content, Dead, Raw, Elements, same_name, object_place, place_of, integer_of}
use Rattle.ref_semantics.specs.Store.{State, Objects, Outcome, Then, Eval, give, emit, premise, store_content, with_content, is_dead, cleared, scalar_or, scalar_at, with_scalar, holding, offset_of}
use Rattle.ref_semantics.specs.Pointers.{access, loaded, read, write}
use Rattle.ref_semantics.specs.Library.{library, low_byte, natural_of, next_byte, written, allocated, freed, is_heap, is_unfreeable}
use Rattle.ref_semantics.specs.Meaning.{Normal, new_local, stored_first, killed, kept}
use Rattle.ref_semantics.specs.Rows.{Whole, LeafAt}
use Rattle.c_typed.specs.Sizes.{is_storable}
use Rattle.ref_semantics.proofs.Storable.{storable_small, storable_filled}
use Rattle.ref_semantics.specs.Sound.{HasType, HaveTypes, StandsIn, WasGiven, IsSoundContent, IsOfHeap, MayBecome, LivesOn, Sound, Later}
use Rattle.ref_semantics.specs.Keeping.{Keeps, IsElement}
use Rattle.ref_semantics.proofs.Lasting.{Leads, GivesAt, Goes, later_trans, may_refl, may_trans, lives_refl, keeps_refl, keeps_trans, aside_keeps, given_lasts, type_lasts, content_goes, content_lasts, locals_last, sound_later, sound_later_with, then_value, then_state, give_gives, gives_then, halt_gives, undefined_gives, emit_gives, guarded}
use Rattle.ref_semantics.proofs.Objects.{either_content, may_dead, store_gives}
use Rattle.ref_semantics.proofs.WellTyped.{well_structs}
use Rattle.ref_semantics.proofs.Leaves.{leaf_type}

-- ---- locals that die

-- each of these names is of a later local
abbrev pub AreNewer : ℕ → List ℕ → Type 0
AreNewer least [] = Unit {0}
AreNewer least (name ∷ names) = (least ≤ name) × AreNewer least names

pub newer_from : (first second : ℕ) (names : List ℕ) → first ≤ second → AreNewer second names → AreNewer first names
newer_from first second [] le h = tt
newer_from first second (name ∷ names) le h = (le_trans le h.0, newer_from first second names le h.1)

pub newer_append : (least : ℕ) (front back : List ℕ) → AreNewer least front → AreNewer least back → AreNewer least (front ++ back)
newer_append least [] back one two = two
newer_append least (name ∷ front) back one two = (one.0, newer_append least front back one.1 two)

not_fewer : (front own : List ℕ) → nat_lt (length (front ++ own)) (length own) ≡ false
not_fewer front own = let long = length-append front own in le-ltb (length (front ++ own)) (length own) (omega (arith, long))

kept_same : (front own : List ℕ) → kept (length own) (front ++ own) ≡ own
kept_same [] [] = refl
kept_same [] (newest ∷ own) = cond-true (nat_lt (length own) (length (newest ∷ own))) _ _ (lt-ltb (length own) (length (newest ∷ own)) (lt-suc_self (length own)))
kept_same (newest ∷ front) own = cond-false (nat_lt (length (front ++ own)) (length own)) _ _ (not_fewer front own) ∙ kept_same front own

killed_may : (count : ℕ) (names : List ℕ) (objects : Objects) (name : Name) → MayBecome (objects name) (killed count names objects name)
killed_may count [] objects name = may_refl (objects name)
killed_may count (newest ∷ others) objects name =
    by (nat_lt (length others) count)
    (may_trans (objects name) (with_content (LocalObject newest) Dead objects name) (killed count others (with_content (LocalObject newest) Dead objects) name)
    (either_content (MayBecome (objects name)) (LocalObject newest) name Dead (objects name) (λ same. may_dead (objects name)) (may_refl (objects name)))
    (killed_may count others (with_content (LocalObject newest) Dead objects) name))
  where
    by : (b : Bool) → MayBecome (objects name) (killed count others (with_content (LocalObject newest) Dead objects) name)
        → MayBecome (objects name) ((if b then objects else killed count others (with_content (LocalObject newest) Dead objects)) name)
    by true h = may_refl (objects name)
    by false h = h

killed_all : (P : Content → Type 0) → P Dead → (count : ℕ) (names : List ℕ) (objects : Objects) → ((name : Name) → P (objects name)) → (name : Name) → P (killed count names objects name)
killed_all P dead count [] objects all name = all name
killed_all P dead count (newest ∷ others) objects all name =
    by (nat_lt (length others) count)
    (killed_all P dead count others (with_content (LocalObject newest) Dead objects) (λ other. either_content P (LocalObject newest) other Dead (objects other) (λ same. dead) (all other)) name)
  where
    by : (b : Bool) → P (killed count others (with_content (LocalObject newest) Dead objects) name) → P ((if b then objects else killed count others (with_content (LocalObject newest) Dead objects)) name)
    by true h = all name
    by false h = h

-- a newer local is none that was there before
other_name : (before : State) (newest : ℕ) (name : Name) → before.next_local ≤ newest → WasGiven before name → same_name (LocalObject newest) name ≡ false
other_name before newest (Heap number) newer given = refl
other_name before newest (GlobalObject name) newer given = refl
other_name before newest (LiteralObject place) newer given = refl
other_name before newest (LocalObject number) newer given =
    false_from_ne_true (newest == number) (λ same. let e = eqb-true newest number same in absurd (lt_irrefl number (lt_of_lt_of_le given (subst (λ n. before.next_local ≤ n) e newer))))

killed_same : (before : State) (front own : List ℕ) → AreNewer before.next_local front → (name : Name) → WasGiven before name → (objects : Objects)
    → killed (length own) (front ++ own) objects name ≡ objects name
killed_same before [] [] newer name given objects = refl
killed_same before [] (newest ∷ own) newer name given objects =
    ap (λ (b : Bool). (if b then objects else killed (length (newest ∷ own)) own (with_content (LocalObject newest) Dead objects)) name)
    (lt-ltb (length own) (length (newest ∷ own)) (lt-suc_self (length own)))
killed_same before (newest ∷ front) own newer name given objects =
    ap (λ (b : Bool). (if b then objects else killed (length own) (front ++ own) (with_content (LocalObject newest) Dead objects)) name) (not_fewer front own)
    ∙ killed_same before front own newer.1 name given (with_content (LocalObject newest) Dead objects)
    ∙ cond-false (same_name (LocalObject newest) name) Dead (objects name) (other_name before newest name newer.0 given)

-- ---- blocks

-- Locals of these types that are newer than a state stand in front of its own.
pub record Opens (around : Context) (before after : State) : Type 0 where
  pub types : List CType
  pub names : List ℕ
  pub sound : Sound (record { program = around.program; locals = types ++ around.locals }) after
  pub later : Later before after
  pub locals : after.locals ≡ names ++ before.locals
  pub newer : AreNewer before.next_local names

-- none yet
pub opens_kept : {around : Context} {before after : State} → Keeps around before after → Opens around before after
opens_kept keeps = record { types = []; names = []; sound = keeps.sound; later = keeps.later; locals = keeps.locals; newer = tt }

pub opens_then : {around : Context} {first second third : State} (one : Opens around first second)
    → Opens (record { program = around.program; locals = one.types ++ around.locals }) second third → Opens around first third
opens_then {around} {first} {second} {third} one two = record {
  types = two.types ++ one.types;
  names = two.names ++ one.names;
  sound = subst (λ types. Sound (record { program = around.program; locals = types }) third) (sym (append_assoc two.types one.types around.locals)) two.sound;
  later = later_trans one.later two.later;
  locals = two.locals ∙ ap (λ names. two.names ++ names) one.locals ∙ sym (append_assoc two.names one.names first.locals);
  newer = newer_append first.next_local two.names one.names (newer_from first.next_local second.next_local two.names one.later.next_local two.newer) one.newer;
}

-- so many of the locals are left, and those in scope are these
abbrev ended : ℕ → List ℕ → State → State
ended count names state = record state { objects = killed count state.locals state.objects; locals = names }

ended_goes : (count : ℕ) (names : List ℕ) (middle : State) → Goes middle (ended count names middle)
ended_goes count names middle = record { next_local = le_refl middle.next_local; next_heap = le_refl middle.next_heap; may = λ name given. killed_may count middle.locals middle.objects name }

ended_keeps : (program : Program) (types types' : List CType) (before middle : State) (front own names : List ℕ) → Sound (record { program = program; locals = types }) before
    → Sound (record { program = program; locals = types' }) middle → Later before middle → middle.locals ≡ front ++ own → AreNewer before.next_local front → names ≡ before.locals
    → Keeps (record { program = program; locals = types }) before (ended (length own) names middle)
ended_keeps program types types' before middle front own names sound inner later is newer same =
    let after = ended (length own) names middle in
    let goes = ended_goes (length own) names middle in
    let whole : Later before after = record {
      next_local = later.next_local;
      next_heap = later.next_heap;
      may = λ name given. may_trans (before.objects name) (middle.objects name) (after.objects name) (later.may name given) (killed_may (length own) middle.locals middle.objects name);
      lives = λ name given other. subst (LivesOn (before.objects name)) (sym (untouched name given)) (later.lives name given other);
    } in
    record {
      sound = sound_later sound whole
          (killed_all (IsSoundContent program after) tt (length own) middle.locals middle.objects (λ name. content_goes program goes (middle.objects name) (inner.contents name)))
          (λ name fresh. dead name (inner.fresh name (λ given. fresh (given_same name given))))
          same;
      later = whole;
      locals = same;
    }
  where
    untouched : (name : Name) → WasGiven before name → killed (length own) middle.locals middle.objects name ≡ middle.objects name
    untouched name given = ap (λ locals. killed (length own) locals middle.objects name) is ∙ killed_same before front own newer name given middle.objects

    dead : (name : Name) → middle.objects name ≡ Dead → killed (length own) middle.locals middle.objects name ≡ Dead
    dead name e = subst (λ content. MayBecome content (killed (length own) middle.locals middle.objects name)) e (killed_may (length own) middle.locals middle.objects name)

    given_same : (name : Name) → WasGiven middle name → WasGiven (ended (length own) names middle) name
    given_same (Heap number) given = given
    given_same (GlobalObject name) given = given
    given_same (LiteralObject place) given = given
    given_same (LocalObject number) given = given

-- the state after a block's end, where the locals that it declared die
abbrev pub left : ℕ → State → State
left count state = record state { objects = killed count state.locals state.objects; locals = kept count state.locals }

pub left_goes : {around : Context} {before middle : State} → Sound around before → Opens around before middle → Goes middle (left (length before.locals) middle)
left_goes {around} {before} {middle} sound opens = ended_goes (length before.locals) (kept (length before.locals) middle.locals) middle

pub left_keeps : {around : Context} {before middle : State} → Sound around before → Opens around before middle → Keeps around before (left (length before.locals) middle)
left_keeps {around} {before} {middle} sound opens =
    ended_keeps around.program around.locals (opens.types ++ around.locals) before middle opens.names before.locals (kept (length before.locals) middle.locals)
    sound opens.sound opens.later opens.locals opens.newer
    (ap (kept (length before.locals)) opens.locals ∙ kept_same opens.names before.locals)

-- a function's own locals begin anew
abbrev pub own_state : State → State
own_state state = record state { locals = [] }

abbrev pub restored_state : List ℕ → State → State
restored_state locals state = record state { objects = killed 0 state.locals state.objects; locals = locals }

pub own_later : (state : State) → Later state (own_state state)
own_later state = record {
  next_local = le_refl state.next_local;
  next_heap = le_refl state.next_heap;
  may = λ name given. may_refl (state.objects name);
  lives = λ name given other. lives_refl (state.objects name);
}

pub own_sound : {program : Program} {locals : List CType} {state : State} → Sound (record { program = program; locals = locals }) state
    → Sound (record { program = program; locals = [] }) (own_state state)
own_sound {program} {locals} {state} sound =
    let later = own_later state in
    sound_later_with sound later (λ name. content_lasts program later (state.objects name) (sound.contents name))
    (λ name fresh. sound.fresh name (λ given. fresh (given_lasts program later name given))) tt

pub restored_goes : {program : Program} {locals : List CType} {before middle : State} → Sound (record { program = program; locals = locals }) before
    → Opens (record { program = program; locals = [] }) (own_state before) middle → Goes middle (restored_state before.locals middle)
restored_goes {program} {locals} {before} {middle} sound opens = ended_goes 0 before.locals middle

pub restored_keeps : {program : Program} {locals : List CType} {before middle : State} → Sound (record { program = program; locals = locals }) before
    → Opens (record { program = program; locals = [] }) (own_state before) middle → Keeps (record { program = program; locals = locals }) before (restored_state before.locals middle)
restored_keeps {program} {locals} {before} {middle} sound opens =
    ended_keeps program locals (opens.types ++ []) before middle opens.names [] before.locals sound opens.sound (later_trans (own_later before) opens.later) opens.locals opens.newer refl

-- ---- a local begins to live

-- what is known where a local has begun to live
pub record Begins (program : Program) (types : List CType) (before : State) (c_type : CType) (after : State) (place : Place) : Type 0 where
  pub sound : Sound (record { program = program; locals = c_type ∷ types }) after
  pub later : Later before after
  pub locals : after.locals ≡ before.next_local ∷ before.locals
  pub is_element : IsElement program after c_type place

pub begins_opens : {program : Program} {locals : List CType} {before : State} {c_type : CType} {after : State} {place : Place}
    → Begins program locals before c_type after place → Opens (record { program = program; locals = locals }) before after
begins_opens {program} {locals} {before} {c_type} begins = record {
  types = c_type ∷ [];
  names = before.next_local ∷ [];
  sound = begins.sound;
  later = begins.later;
  locals = begins.locals;
  newer = (le_refl before.next_local, tt);
}

-- the state in which it does
abbrev begun : State → CType → State
begun before c_type = record before {
  objects = with_content (LocalObject before.next_local) (Elements false c_type 1 (λ offset. None)) before.objects;
  locals = before.next_local ∷ before.locals;
  next_local = suc before.next_local;
}

begun_holds : (before : State) (c_type : CType) → (begun before c_type).objects (LocalObject before.next_local) ≡ Elements false c_type 1 (λ offset. None)
begun_holds before c_type = cond-true (before.next_local == before.next_local) _ _ (eq-eqb before.next_local before.next_local refl)

begun_later : (before : State) (c_type : CType) → Later before (begun before c_type)
begun_later before c_type = record {
  next_local = le_of_lt (lt-suc_self before.next_local);
  next_heap = le_refl before.next_heap;
  may = λ name given. either_content (MayBecome (before.objects name)) (LocalObject before.next_local) name (Elements false c_type 1 (λ offset. None)) (before.objects name)
      (λ same. absurd (fresh name same given)) (may_refl (before.objects name));
  lives = λ name given other. either_content (LivesOn (before.objects name)) (LocalObject before.next_local) name (Elements false c_type 1 (λ offset. None)) (before.objects name)
      (λ same. absurd (fresh name same given)) (lives_refl (before.objects name));
}
  where
    fresh : (name : Name) → LocalObject before.next_local ≡ name → WasGiven before name → ⊥
    fresh name same given = lt_irrefl before.next_local (subst (WasGiven before) (sym same) given)

begun_sound : (program : Program) (locals : List CType) (before : State) (c_type : CType) → Sound (record { program = program; locals = locals }) before
    → is_complete program.structs c_type ≡ true → is_storable program.structs c_type ≡ true → Sound (record { program = program; locals = c_type ∷ locals }) (begun before c_type)
begun_sound program locals before c_type sound complete storable =
    let after = begun before c_type in
    let later = begun_later before c_type in
    let content = Elements false c_type 1 (λ offset. None) in
    sound_later_with sound later
    (λ name. either_content (IsSoundContent program after) (LocalObject before.next_local) name content (before.objects name)
    (λ same. record {
      complete = complete;
      small = storable_small program.structs c_type storable;
      filled = storable_filled program.structs c_type storable complete;
      some = omega arith;
      leaves = λ offset value e. absurd (none-some value e);
    })
    (content_lasts program later (before.objects name) (sound.contents name)))
    (λ name fresh. either_content (λ c. c ≡ Dead) (LocalObject before.next_local) name content (before.objects name)
    (λ same. absurd (fresh (subst (WasGiven after) same (lt-suc_self before.next_local))))
    (sound.fresh name (λ given. fresh (given_lasts program later name given))))
    (lt-suc_self before.next_local, ((λ offset. None), begun_holds before c_type), locals_last program later before.locals locals sound.locals)

leads_given : {A : Type 0} {post : State → A → Type 0} (value : A) (state : State) → post state value → Leads post (Then value state)
leads_given {A} {post} value state h = record {
  leads = λ a after run. subst (λ s. post s a) (then_state run) (subst (λ v. post state v) (then_value run) h);
}

pub new_local_keeps : (program : Program) → IsWellTyped program → (locals : List CType) (before : State) → Sound (record { program = program; locals = locals }) before
    → (c_type : CType) → is_complete program.structs c_type ≡ true → is_storable program.structs c_type ≡ true → Leads (Begins program locals before c_type) (new_local c_type before)
new_local_keeps program well locals before sound c_type complete storable =
    leads_given (object_place (LocalObject before.next_local) c_type) (begun before c_type) (record {
      sound = begun_sound program locals before c_type sound complete storable;
      later = begun_later before c_type;
      locals = refl;
      is_element = record {
        place_stands = record {
          given = lt-suc_self before.next_local;
          stands = subst (λ content. StandsIn program content (object_place (LocalObject before.next_local) c_type)) (sym (begun_holds before c_type)) (Whole, omega arith);
        };
        within = omega arith;
        is_own = refl;
      };
    })

-- ---- reading

cleared_typed : (program : Program) (state : State) (t : CType) → is_scalar t ≡ true → HasType program state t (cleared t)
cleared_typed program state Void h = tt
cleared_typed program state (Integer t) h = by t
  where
    by : (t : IntType) → is_value t (pos 0) ≡ true
    by I.Char = refl
    by I.UChar = refl
    by I.Short = refl
    by I.UShort = refl
    by I.Int = refl
    by I.UInt = refl
    by I.Long = refl
    by I.ULong = refl
cleared_typed program state (Pointer t) h = tt
cleared_typed program state (Array t n) h = absurd (false≢true h)
cleared_typed program state (Struct tag) h = absurd (false≢true h)
cleared_typed program state (Function t ts) h = absurd (false≢true h)

module _ (program : Program) (well : IsWellTyped program) (before : State) where
  -- the scalar at an element
  leaf_at : (s : Bool) (c_type : CType) (count : ℕ) (held : ℕ → Option Scalar) (t : CType) (place : Place) → is_scalar t ≡ true → place.index < place.row.count → place.row.c_type ≡ t
      → StandsIn program (Elements s c_type count held) place → LeafAt program.structs c_type count (offset_of (around_of program) place) t
  leaf_at s c_type count held t place scalar lt is stands =
      record { row = place.row; index = place.index; is_row = stands.0; within = lt; is_own = is; scalar = scalar; stands = refl }

  scalar_typed : (t : CType) (place : Place) → is_scalar t ≡ true → place.index < place.row.count → place.row.c_type ≡ t → (content : Content) → StandsIn program content place
      → IsSoundContent program before content → (value : Scalar) → scalar_at (around_of program) content place ≡ Some value → HasType program before t value
  scalar_typed t place scalar lt is Dead stands h value e = absurd (none-some value e)
  scalar_typed t place scalar lt is (Raw size) stands h value e = absurd stands
  scalar_typed t place scalar lt is (Elements s c_type count held) stands h value e = by (held (offset_of (around_of program) place)) refl s e
    where
      by : (found : Option Scalar) → held (offset_of (around_of program) place) ≡ found → (s : Bool) → scalar_or found s place.row.c_type ≡ Some value → HasType program before t value
      by (Some one) there s e =
          let leaf = h.leaves (offset_of (around_of program) place) one there in
          let same = leaf_type program.structs (well_structs program well) c_type h.small count (offset_of (around_of program) place) leaf.0 t leaf.1
          (leaf_at s c_type count held t place scalar lt is stands) in
          subst (HasType program before t) (same_Some one value e) (subst (λ own. HasType program before own one) same leaf.2)
      by None there true e =
          subst (HasType program before t) (ap cleared (sym is) ∙ same_Some (cleared place.row.c_type) value e) (cleared_typed program before t scalar)
      by None there false e = absurd (none-some value e)

  -- ---- writing

  may_holding : (offset : ℕ) (value : Scalar) (content : Content) → MayBecome content (holding offset value content)
  may_holding offset value Dead = refl
  may_holding offset value (Raw size) = tt
  may_holding offset value (Elements s t n held) = (refl, refl, refl)

  lives_holding : (offset : ℕ) (value : Scalar) (content : Content) → LivesOn content (holding offset value content)
  lives_holding offset value Dead = tt
  lives_holding offset value (Raw size) = tt
  lives_holding offset value (Elements s t n held) = (with_scalar offset value held, refl)

  sound_holding : (t : CType) (place : Place) (value : Scalar) → is_scalar t ≡ true → place.index < place.row.count → place.row.c_type ≡ t → HasType program before t value
      → (content : Content) → StandsIn program content place → IsSoundContent program before content
      → IsSoundContent program before (holding (offset_of (around_of program) place) value content)
  sound_holding t place value scalar lt is typed Dead stands h = tt
  sound_holding t place value scalar lt is typed (Raw size) stands h = h
  sound_holding t place value scalar lt is typed (Elements s c_type count held) stands h =
      record { complete = h.complete; small = h.small; filled = h.filled; some = h.some; leaves = λ offset one e. by (offset_of (around_of program) place == offset) offset refl one e }
    where
      by : (b : Bool) (offset : ℕ) → (offset_of (around_of program) place == offset) ≡ b → (one : Scalar) → (if b then Some value else held offset) ≡ Some one
          → (own : CType) × LeafAt program.structs c_type count offset own × HasType program before own one
      by true offset same one e = (
        t,
        subst (λ n. LeafAt program.structs c_type count n t) (eqb-true (offset_of (around_of program) place) offset same) (leaf_at s c_type count held t place scalar lt is stands),
        subst (HasType program before t) (same_Some value one e) typed,
      )
      by false offset same one e = h.leaves offset one e

-- ---- bytes

byte_typed : (n : ℕ) → n < 256 → is_value I.Int (pos n) ≡ true
byte_typed n lt = and_from _ _ refl (le-leb n 2147483647 (omega arith))

modulo_below : (z : ℤ) → modulo z 256 < 256
modulo_below (pos n) = omega arith
modulo_below (negsuc n) = omega arith

-- what a state that is there gives
given_then : (program : Program) (locals : List CType) (before state : State) (t : CType) (value : Scalar) → Keeps (record { program = program; locals = locals }) before state
    → HasType program state t value → (a : Scalar) (after : State) → ◌≡◌ {A = Outcome Scalar} (Then value state) (Then a after)
    → Keeps (record { program = program; locals = locals }) before after × HasType program after t a
given_then program locals before state t value keeps typed a after run =
    subst (λ s. Keeps (record { program = program; locals = locals }) before s × HasType program s t a) (then_state run) (keeps, subst (HasType program state t) (then_value run) typed)

-- ---- an allocation

abbrev raised : State → ℕ → State
raised before size = record before { objects = with_content (Heap before.next_heap) (Raw size) before.objects; next_heap = suc before.next_heap }

raised_keeps : (program : Program) (locals : List CType) (before : State) (size : ℕ) → 1 ≤ size → Sound (record { program = program; locals = locals }) before
    → Keeps (record { program = program; locals = locals }) before (raised before size)
raised_keeps program locals before size some sound =
    let after = raised before size in
    let later : Later before after = record {
      next_local = le_refl before.next_local;
      next_heap = le_of_lt (lt-suc_self before.next_heap);
      may = λ name given. either_content (MayBecome (before.objects name)) (Heap before.next_heap) name (Raw size) (before.objects name)
          (λ same. absurd (fresh name same given)) (may_refl (before.objects name));
      lives = λ name given other. either_content (LivesOn (before.objects name)) (Heap before.next_heap) name (Raw size) (before.objects name)
          (λ same. absurd (fresh name same given)) (lives_refl (before.objects name));
    } in
    record {
      sound = sound_later sound later
          (λ name. either_content (IsSoundContent program after) (Heap before.next_heap) name (Raw size) (before.objects name) (λ same. some)
          (content_lasts program later (before.objects name) (sound.contents name)))
          (λ name new. either_content (λ c. c ≡ Dead) (Heap before.next_heap) name (Raw size) (before.objects name)
          (λ same. absurd (new (subst (WasGiven after) same (lt-suc_self before.next_heap))))
          (sound.fresh name (λ given. new (given_lasts program later name given))))
          refl;
      later = later;
      locals = refl;
    }
  where
    fresh : (name : Name) → Heap before.next_heap ≡ name → WasGiven before name → ⊥
    fresh name same given = lt_irrefl before.next_heap (subst (WasGiven before) (sym same) given)

-- ---- types of arguments

abbrev parameters_of : CType → CTypes
parameters_of (Function result parameters) = parameters
parameters_of t = NoTypes

types_same : (ps qs : CTypes) → same_types ps qs ≡ true → ps ≡ qs
types_same ps qs h = ap parameters_of (same_type-true (Function Void ps) (Function Void qs) h)

holding_both : (b : Bool) (own t : CType) → where_holds b own ≡ Some t → (b ≡ true) × (own ≡ t)
holding_both true own t is = (refl, same_Some own t is)
holding_both false own t is = absurd (none-some t is)

module _ (program : Program) (well : IsWellTyped program) (locals : List CType) (before : State) (sound : Sound (record { program = program; locals = locals }) before) where
  pub read_keeps : (here : Pos) (t : CType) (place : Place) → is_scalar t ≡ true → IsElement program before t place
      → GivesAt (record { program = program; locals = locals }) (λ after value. HasType program after t value) (read (around_of program) here place) before
  read_keeps here t place scalar h =
      let content = before.objects place.name in
      guarded here (premise (is_dead content) Ub.U06 ∷ []) (loaded here place.name (scalar_at (around_of program) content place)) refl (λ none.
      by (scalar_at (around_of program) content place) (scalar_typed program well before t place scalar h.within h.is_own content h.place_stands.stands (sound.contents place.name)))
    where
      by : (found : Option Scalar) → ((value : Scalar) → found ≡ Some value → HasType program before t value)
          → GivesAt (record { program = program; locals = locals }) (λ after value. HasType program after t value) (loaded here place.name found) before
      by (Some value) typed = emit_gives sound (λ middle keeps same. give_gives keeps.sound (type_lasts program keeps.later t value (typed value refl)))
      by None typed = undefined_gives

  pub write_keeps : (here : Pos) (t : CType) (place : Place) (value : Scalar) → is_scalar t ≡ true → IsElement program before t place → HasType program before t value
      → GivesAt (record { program = program; locals = locals }) (λ after value. HasType program after t value) (write (around_of program) here place value) before
  write_keeps here t place value scalar h typed =
      let content = before.objects place.name in
      let offset = offset_of (around_of program) place in
      let rest = emit (access Stored place.name) (give value) in
      guarded here (premise (is_dead content) Ub.U06 ∷ []) (store_content place.name (holding offset value content) rest) refl (λ none.
      store_gives {rest = rest} place.name (holding offset value content) sound h.place_stands.given
      (may_holding program well before offset value content) (λ other. lives_holding program well before offset value content)
      (sound_holding program well before t place value scalar h.within h.is_own typed content h.place_stands.stands (sound.contents place.name))
      (λ keeps. emit_gives keeps.sound (λ middle keeps' same. give_gives keeps'.sound (type_lasts program (later_trans keeps.later keeps'.later) t value typed))))

  -- a first value, where there is one, is of the local's type
  abbrev pub IsFirst : CType → Option Scalar → Type 0
  IsFirst t None = Unit {0}
  IsFirst t (Some value) = (is_scalar t ≡ true) × HasType program before t value

  pub stored_first_keeps : (t : CType) (place : Place) (value : Option Scalar) → IsElement program before t place → IsFirst t value
      → GivesAt (record { program = program; locals = locals }) (λ after way. way ≡ Normal) (stored_first (around_of program) place value) before
  stored_first_keeps t place None h typed = give_gives sound refl
  stored_first_keeps t place (Some value) h typed =
      gives_then (write_keeps (record { line = 1; column = 1 }) t place value typed.0 h typed.1) (λ a after keeps kind. give_gives keeps.sound refl)

  -- ---- the library

  next_byte_keeps : GivesAt (record { program = program; locals = locals }) (λ after value. HasType program after int value) next_byte before
  next_byte_keeps = record { gives = λ a after. by before.input refl a after }
    where
      by : (input : List ℕ) → before.input ≡ input → (a : Scalar) (after : State) → next_byte before ≡ Then a after
          → Keeps (record { program = program; locals = locals }) before after × HasType program after int a
      by [] e a after = rw e (λ run.
          let start = record before { input = [] } in
          let sound' = (aside_keeps {around = record { program = program; locals = locals }} start sound refl refl refl refl).sound in
          given_then program locals start start int (IntegerValue (neg_ℤ (pos 1))) (keeps_refl (record { program = program; locals = locals }) start sound') refl a after run)
      by (byte ∷ input) e a after = rw e (λ run.
          let start = record before { input = byte ∷ input } in
          let sound' = (aside_keeps {around = record { program = program; locals = locals }} start sound refl refl refl refl).sound in
          given_then program locals start (record before { input = input }) int (IntegerValue (pos (byte % 256)))
          (aside_keeps (record before { input = input }) sound' refl refl refl refl) (byte_typed (byte % 256) (omega arith)) a after run)

  written_keeps : (value : Scalar) → GivesAt (record { program = program; locals = locals }) (λ after value. HasType program after int value) (written (low_byte value)) before
  written_keeps value =
      emit_gives {rest = give (IntegerValue (pos (low_byte value)))} {events = Output (low_byte value) ∷ []} sound (λ middle keeps same. give_gives keeps.sound (byte_typed (low_byte value) (modulo_below (integer_of value))))

  allocated_keeps : (size : ℕ) → GivesAt (record { program = program; locals = locals }) (λ after value. HasType program after (Pointer Void) value) (allocated size) before
  allocated_keeps zero = record { gives = (give_gives {value = NullValue} sound tt).gives }
  allocated_keeps (suc size) =
      let after = raised before (suc size) in
      let keeps = raised_keeps program locals before (suc size) (omega arith) sound in
      let rest : GivesAt (record { program = program; locals = locals }) (λ after value. HasType program after (Pointer Void) value)
      (emit (Allocated before.next_heap (suc size) ∷ []) (give (RawPointer before.next_heap))) after =
      emit_gives {rest = give (RawPointer before.next_heap)} {events = Allocated before.next_heap (suc size) ∷ []} keeps.sound
      (λ middle keeps' same. give_gives keeps'.sound (type_lasts program keeps'.later (Pointer Void) (RawPointer before.next_heap) (refl, lt-suc_self before.next_heap))) in
      record { gives = λ a last run. let done = rest.gives a last run in (keeps_trans keeps done.0, done.1) }

  freeing : (name : Name) → WasGiven before name → IsOfHeap name
      → GivesAt (record { program = program; locals = locals }) (λ after value. HasType program after Void value) (store_content name Dead (emit (access Freed name) (give NullValue))) before
  freeing name given heap =
      store_gives {rest = emit (access Freed name) (give NullValue)} name Dead sound given (may_dead (before.objects name)) (λ other. absurd (other heap)) tt
      (λ keeps. emit_gives {rest = give NullValue} {events = access Freed name} keeps.sound (λ middle keeps' same. give_gives keeps'.sound tt))

  freed_keeps : (here : Pos) (t : CType) (value : Scalar) → HasType program before (Pointer t) value
      → GivesAt (record { program = program; locals = locals }) (λ after value. HasType program after Void value) (freed (around_of program) here value) before
  freed_keeps here t (IntegerValue z) typed = absurd typed
  freed_keeps here t NullValue typed = give_gives sound tt
  freed_keeps here t (FunctionValue name) typed =
      guarded here (premise true Ub.U11 ∷ []) (store_content (place_of (FunctionValue name)).name Dead (emit (access Freed (place_of (FunctionValue name)).name) (give NullValue))) refl
      (λ none. absurd (true≢false none.0))
  freed_keeps here t (PointerValue place) typed =
      guarded here (premise (is_unfreeable (around_of program) before.objects (PointerValue place)) Ub.U11 ∷ [])
      (store_content place.name Dead (emit (access Freed place.name) (give NullValue))) refl
      (λ none. freeing place.name typed.1.given (of_heap place.name
      (not-false (is_heap place.name) (or_parts (not (is_heap place.name)) (is_dead (before.objects place.name) || not (offset_of (around_of program) place == 0)) none.0).0)))
    where
      of_heap : (name : Name) → is_heap name ≡ true → IsOfHeap name
      of_heap (Heap number) h = tt
      of_heap (GlobalObject name) h = absurd (false≢true h)
      of_heap (LiteralObject place) h = absurd (false≢true h)
      of_heap (LocalObject number) h = absurd (false≢true h)
  freed_keeps here t (RawPointer number) typed =
      guarded here (premise (is_unfreeable (around_of program) before.objects (RawPointer number)) Ub.U11 ∷ [])
      (store_content (Heap number) Dead (emit (access Freed (Heap number)) (give NullValue))) refl
      (λ none. freeing (Heap number) typed.1 tt)

  as_result : (eval : Eval Scalar) (own t : CType) → own ≡ t → GivesAt (record { program = program; locals = locals }) (λ after value. HasType program after own value) eval before
      → GivesAt (record { program = program; locals = locals }) (λ after value. HasType program after t value) eval before
  as_result eval own t same one = subst (λ c_type. GivesAt (record { program = program; locals = locals }) (λ after value. HasType program after c_type value) eval before) same one

  pub library_keeps : (function : LibraryFunction) (here : Pos) (types : CTypes) (t : CType) (given : List Scalar) → library_result function types ≡ Some t → HaveTypes program before types given
      → GivesAt (record { program = program; locals = locals }) (λ after value. HasType program after t value) (library (around_of program) function here given) before
  library_keeps L.Malloc here types t given is typed =
      let found = holding_both (same_types (MoreTypes (Integer I.ULong) NoTypes) types) (Pointer Void) t is in
      by given (subst (λ ts. HaveTypes program before ts given) (sym (types_same (MoreTypes (Integer I.ULong) NoTypes) types found.0)) typed)
    where
      by : (given : List Scalar) → HaveTypes program before (MoreTypes (Integer I.ULong) NoTypes) given
          → GivesAt (record { program = program; locals = locals }) (λ after value. HasType program after t value) (library (around_of program) L.Malloc here given) before
      by [] h = absurd h
      by (size ∷ []) h = as_result _ (Pointer Void) t (holding_both (same_types (MoreTypes (Integer I.ULong) NoTypes) types) (Pointer Void) t is).1 (allocated_keeps (natural_of (integer_of size)))
      by (size ∷ more ∷ others) h = absurd h.1
  library_keeps L.Free here NoTypes t given is typed = absurd (none-some t is)
  library_keeps L.Free here (MoreTypes first (MoreTypes second others)) t given is typed = absurd (none-some t is)
  library_keeps L.Free here (MoreTypes first NoTypes) t given is typed = by first given is typed
    where
      by : (first : CType) (given : List Scalar) → library_result L.Free (MoreTypes first NoTypes) ≡ Some t → HaveTypes program before (MoreTypes first NoTypes) given
          → GivesAt (record { program = program; locals = locals }) (λ after value. HasType program after t value) (library (around_of program) L.Free here given) before
      by first [] is h = absurd h
      by first (pointer ∷ more ∷ others) is h = absurd h.1
      by (Pointer target) (pointer ∷ []) is h = as_result _ Void t (holding_both (is_object_pointer (Pointer target)) Void t is).1 (freed_keeps here target pointer h.0)
      by Void (pointer ∷ []) is h = absurd (none-some t is)
      by (Integer int_type) (pointer ∷ []) is h = absurd (none-some t is)
      by (Array element n) (pointer ∷ []) is h = absurd (none-some t is)
      by (Struct tag) (pointer ∷ []) is h = absurd (none-some t is)
      by (Function result parameters) (pointer ∷ []) is h = absurd (none-some t is)
  library_keeps L.GetChar here types t given is typed =
      let found = holding_both (same_types NoTypes types) int t is in
      by given (subst (λ ts. HaveTypes program before ts given) (sym (types_same NoTypes types found.0)) typed)
    where
      by : (given : List Scalar) → HaveTypes program before NoTypes given
          → GivesAt (record { program = program; locals = locals }) (λ after value. HasType program after t value) (library (around_of program) L.GetChar here given) before
      by [] h = as_result _ int t (holding_both (same_types NoTypes types) int t is).1 next_byte_keeps
      by (more ∷ others) h = absurd h
  library_keeps L.PutChar here types t given is typed =
      let found = holding_both (same_types (MoreTypes int NoTypes) types) int t is in
      by given (subst (λ ts. HaveTypes program before ts given) (sym (types_same (MoreTypes int NoTypes) types found.0)) typed)
    where
      by : (given : List Scalar) → HaveTypes program before (MoreTypes int NoTypes) given
          → GivesAt (record { program = program; locals = locals }) (λ after value. HasType program after t value) (library (around_of program) L.PutChar here given) before
      by [] h = absurd h
      by (value ∷ []) h = as_result _ int t (holding_both (same_types (MoreTypes int NoTypes) types) int t is).1 (written_keeps value)
      by (value ∷ more ∷ others) h = absurd h.1
  library_keeps L.Exit here types t given is typed =
      let found = holding_both (same_types (MoreTypes int NoTypes) types) Void t is in
      by given (subst (λ ts. HaveTypes program before ts given) (sym (types_same (MoreTypes int NoTypes) types found.0)) typed)
    where
      by : (given : List Scalar) → HaveTypes program before (MoreTypes int NoTypes) given
          → GivesAt (record { program = program; locals = locals }) (λ after value. HasType program after t value) (library (around_of program) L.Exit here given) before
      by [] h = absurd h
      by (value ∷ []) h = halt_gives
      by (value ∷ more ∷ others) h = absurd h.1
