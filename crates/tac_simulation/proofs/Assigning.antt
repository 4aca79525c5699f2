-- A local in a register is written on both sides.
use Rattle.std.proofs.Common.{◌≡◌, ℕ, suc, ◌==◌, Bool, true, false, if◌then◌else◌, List, [], ◌∷◌, ◌++◌, length, Option, Some, None, ◌⊎◌, inl, inr, refl, sym, ap, ◌∙◌, subst, eq-eqb, ne_eqb, arith}
use Rattle.std.proofs.lemmas.Bool.{cond-false, cond-true, true≢false, false_from_ne_true}
use Rattle.std.proofs.lemmas.List.{append-nil}
use Rattle.c_typed.specs.Typed.{Program}
use Rattle.ref_semantics.specs.Values as V
use Rattle.ref_semantics.specs.Values.{Name, LocalObject, Scalar, same_name}
use Rattle.ref_semantics.specs.Store as S
use Rattle.ref_semantics.proofs.Objects.{same_name-true}
use Rattle.tac_ir.specs.declared.register.Local.{Local}
use Rattle.tac_ir.specs.declared.register.Register.TheVariants as R
use Rattle.tac_ir.specs.Code.{Op, Tac}
use Rattle.tac_ir.specs.Values.{Object, Value, Objects, same_local}
use Rattle.tac_ir.specs.Trees.{Registers, with_register}
use Rattle.tac_ir.specs.States.{State}
use Rattle.tac_ir.proofs.Seen.{seen_crossed}
use Rattle.tac_build.specs.Homes as H
use Rattle.tac_build.specs.Homes.{Home, Scope}
use Rattle.ref_semantics.specs.Meaning.{local_name}
use Rattle.std.proofs.lemmas.Option.{none-some, same_Some}
use Rattle.tac_simulation.specs.Standing.{Placement, Frame, image, IsAlive, IsAmong, IsApart, HoldsFor, ScalarStands, ContentStands, MemoryStands, HomeStands, HomesStand, At}
use Rattle.tac_simulation.proofs.Alive.{LivesBefore, content_lasts, held_lasts, value_lasts}
use Rattle.tac_simulation.proofs.Memory.{same_local-true}
use Rattle.tac_simulation.proofs.Spotting.{Runs, with_written, written_there}

-- ---- locals in scope

-- a local in scope, with its number in the reference
abbrev pub IsHome : Scope → List ℕ → Home → ℕ → Type 0
IsHome [] locals home number = ⊥
IsHome (first ∷ scope) [] home number = ⊥
IsHome (first ∷ scope) (newest ∷ others) home number = ((first ≡ home) × (newest ≡ number)) ⊎ IsHome scope others home number

local_number : (a b : ℕ) → LocalObject a ≡ LocalObject b → a ≡ b
local_number a b e = cc

-- a local by its name on both sides
pub is_home : (scope : Scope) (locals : List ℕ) (index : ℕ) (home : Home) (number : ℕ) → length scope ≡ length locals → H.home_of scope index ≡ Some home → local_name locals index ≡ Some (LocalObject number)
    → IsHome scope locals home number
is_home [] locals index home number same home_is name_is = absurd (none-some home home_is)
is_home (first ∷ scope) [] index home number same home_is name_is = absurd (none-some (LocalObject number) name_is)
is_home (first ∷ scope) (newest ∷ others) index home number same home_is name_is =
    let fewer : length scope ≡ length others = omega (arith, same) in
    by (length scope == index) (length others == index) (ap (λ n. n == index) fewer) home_is name_is (is_home scope others index home number fewer)
  where
    by : (b c : Bool) → b ≡ c → (if b then Some first else H.home_of scope index) ≡ Some home → (if c then Some (LocalObject newest) else local_name others index) ≡ Some (LocalObject number)
        → (H.home_of scope index ≡ Some home → local_name others index ≡ Some (LocalObject number) → IsHome scope others home number) → ((first ≡ home) × (newest ≡ number)) ⊎ IsHome scope others home number
    by true true e home_is name_is further = inl (same_Some first home home_is, local_number newest number (same_Some (LocalObject newest) (LocalObject number) name_is))
    by false false e home_is name_is further = inr (further home_is name_is)
    by true false e home_is name_is further = absurd (true≢false e)
    by false true e home_is name_is further = absurd (true≢false (sym e))

among_home : (scope : Scope) (locals : List ℕ) (home : Home) (number : ℕ) → IsHome scope locals home number → IsAmong number locals
among_home [] locals home number is = absurd is
among_home (first ∷ scope) [] home number is = absurd is
among_home (first ∷ scope) (newest ∷ others) home number (inl same) = inl same.1
among_home (first ∷ scope) (newest ∷ others) home number (inr later) = inr (among_home scope others home number later)

-- a local and a number that differ from another one's
record Differs (local : Local) (number : ℕ) (home : Home) (other : ℕ) : Type 0 where
  locals : local ≡ home.local → ⊥
  numbers : number ≡ other → ⊥

differs_from : (local : Local) (number : ℕ) (scope : Scope) (others : List ℕ) (home : Home) (other : ℕ) → IsApart local number scope others → IsHome scope others home other → Differs local number home other
differs_from local number [] others home other apart is = absurd is
differs_from local number (first ∷ scope) [] home other apart is = absurd is
differs_from local number (first ∷ scope) (older ∷ others) home other apart (inl same) = record {
  locals = λ e. apart.0 (e ∙ sym (ap (λ (h : Home). h.local) same.0));
  numbers = λ e. let less = apart.1 in absurd (omega (arith, e, same.1, less));
}
differs_from local number (first ∷ scope) (older ∷ others) home other apart (inr later) = differs_from local number scope others home other apart.2 later

turned : {home : Home} {number : ℕ} {first : Home} {newest : ℕ} → Differs first.local newest home number → Differs home.local number first newest
turned d = record { locals = λ e. d.locals (sym e); numbers = λ e. d.numbers (sym e) }

lives_with : (name : Name) (content : V.Content) (objects : S.Objects) → IsAlive (objects name) → LivesBefore objects (S.with_content name content objects)
lives_with name content objects alive other lives = by (same_name name other) refl lives
  where
    by : (b : Bool) → same_name name other ≡ b → IsAlive (if b then content else objects other) → IsAlive (objects other)
    by true e lives = subst (λ n. IsAlive (objects n)) (same_name-true name other e) alive
    by false e lives = lives

module _ (program : Program) (placement : Placement) (objects : S.Objects) (number : ℕ) (content : V.Content) (alive : IsAlive (objects (LocalObject number))) where
  -- memory stands: no object of the code is the image of the local
  unplaced_stands : (objects' : Objects) → placement number ≡ None → MemoryStands program placement objects objects' → MemoryStands program placement (S.with_content (LocalObject number) content objects) objects'
  unplaced_stands objects' unplaced memory = record {
    contents = λ other found is. content_lasts program placement objects (S.with_content (LocalObject number) content objects) lives (if same_name (LocalObject number) other then content else objects other) (objects' found)
        (by other found is (same_name (LocalObject number) other) refl);
    apart = λ one other found lives_one lives_other. memory.apart one other found (lives one lives_one) (lives other lives_other);
  }
    where
      lives : LivesBefore objects (S.with_content (LocalObject number) content objects)
      lives = lives_with (LocalObject number) content objects alive

      by : (other : Name) (found : Object) → image program placement other ≡ Some found → (b : Bool) → same_name (LocalObject number) other ≡ b
          → ContentStands program objects placement (if b then content else objects other) (objects' found)
      by other found is true e =
          let none : image program placement other ≡ None = sym (ap (image program placement) (same_name-true (LocalObject number) other e)) ∙ unplaced in
          absurd (cc)
      by other found is false e = memory.contents other found is

  module _ (activation : ℕ) (registers : Registers) (home : Home) (value : Option Value) where
    abbrev after : S.Objects
    after = S.with_content (LocalObject number) content objects

    abbrev written : Registers
    written = with_register (R.Local home.local) value registers

    other_home : (other : Home) (own : ℕ) → Differs home.local number other own → HomeStands program placement activation objects registers other own → HomeStands program placement activation after written other own
    other_home other own d stands = by other.is_object stands
      where
        apart : same_local home.local other.local ≡ false
        apart = false_from_ne_true (same_local home.local other.local) (λ e. d.locals (same_local-true home.local other.local e))

        by : (b : Bool) → HomeStands program placement activation objects registers (record other { is_object = b }) own → HomeStands program placement activation after written (record other { is_object = b }) own
        by true stands = stands
        by false stands = (
          stands.0,
          (
            stands.1.0,
            cond-false (number == own) content (objects (LocalObject own)) (ne_eqb number own d.numbers) ∙ stands.1.1,
            λ scalar is. let holds = held_lasts program placement objects after (lives_with (LocalObject number) content objects alive) scalar (registers (R.Local other.local)) (stands.1.2 scalar is) in
                (holds.0, cond-false (same_local home.local other.local) value (registers (R.Local other.local)) apart ∙ holds.1, holds.2),
          ),
        )

    other_homes : (scope : Scope) (locals : List ℕ) → IsApart home.local number scope locals → HomesStand program placement activation objects registers scope locals
        → HomesStand program placement activation after written scope locals
    other_homes [] [] apart stands = tt
    other_homes (first ∷ scope) (newest ∷ others) apart stands =
        (other_home first newest (record { locals = apart.0; numbers = λ e. let less = apart.1 in absurd (omega (arith, e, less)) }) stands.0, other_homes scope others apart.2 stands.1, stands.2)
    other_homes [] (newest ∷ others) apart stands = absurd stands
    other_homes (first ∷ scope) [] apart stands = absurd stands

    -- the local gets its new value, and the others keep theirs
    written_homes : (scope : Scope) (locals : List ℕ) → IsHome scope locals home number → HomeStands program placement activation after written home number
        → HomesStand program placement activation objects registers scope locals → HomesStand program placement activation after written scope locals
    written_homes [] locals is new stands = absurd is
    written_homes (first ∷ scope) [] is new stands = absurd is
    written_homes (first ∷ scope) (newest ∷ others) (inl same) new stands = (
      subst (λ h. HomeStands program placement activation after written h newest) (sym same.0) (subst (λ n. HomeStands program placement activation after written home n) (sym same.1) new),
      other_homes scope others (subst (λ l. IsApart l number scope others) (ap (λ (h : Home). h.local) same.0) (subst (λ n. IsApart first.local n scope others) same.1 stands.2)) stands.1,
      stands.2,
    )
    written_homes (first ∷ scope) (newest ∷ others) (inr later) new stands =
        (other_home first newest (turned (differs_from first.local newest scope others home number stands.2 later)) stands.0, written_homes scope others later new stands.1, stands.2)

-- there are as many locals on both sides
pub same_length : (program : Program) (placement : Placement) (activation : ℕ) (objects : S.Objects) (registers : Registers) (scope : Scope) (locals : List ℕ) → HomesStand program placement activation objects registers scope locals
    → length scope ≡ length locals
same_length program placement activation objects registers [] [] stands = refl
same_length program placement activation objects registers (home ∷ scope) (newest ∷ others) stands = ap suc (same_length program placement activation objects registers scope others stands.1)
same_length program placement activation objects registers [] (newest ∷ others) stands = absurd stands
same_length program placement activation objects registers (home ∷ scope) [] stands = absurd stands

-- what stands for a local in scope
pub home_of : (program : Program) (placement : Placement) (activation : ℕ) (objects : S.Objects) (registers : Registers) (scope : Scope) (locals : List ℕ) (home : Home) (number : ℕ) → IsHome scope locals home number
    → HomesStand program placement activation objects registers scope locals → HomeStands program placement activation objects registers home number
home_of program placement activation objects registers [] locals home number is stands = absurd is
home_of program placement activation objects registers (first ∷ scope) [] home number is stands = absurd is
home_of program placement activation objects registers (first ∷ scope) (newest ∷ others) home number (inl same) stands =
    subst (λ h. HomeStands program placement activation objects registers h number) same.0 (subst (λ n. HomeStands program placement activation objects registers first n) same.1 stands.0)
home_of program placement activation objects registers (first ∷ scope) (newest ∷ others) home number (inr later) stands =
    home_of program placement activation objects registers scope others home number later stands.1

-- a local in a register
pub record Own (program : Program) (placement : Placement) (objects : S.Objects) (registers : Registers) (home : Home) (number : ℕ) : Type 0 where
  pub unplaced : placement number ≡ None
  pub held : ℕ → Option Scalar
  pub content : objects (LocalObject number) ≡ V.Elements false home.c_type 1 held
  pub holds : (scalar : Scalar) → held 0 ≡ Some scalar → HoldsFor program objects placement scalar (registers (R.Local home.local))

pub own_of : (program : Program) (placement : Placement) (activation : ℕ) (objects : S.Objects) (registers : Registers) (home : Home) (number : ℕ) → home.is_object ≡ false
    → HomeStands program placement activation objects registers home number → Own program placement objects registers home number
own_of program placement activation objects registers home number own stands = by home.is_object own stands
  where
    by : (b : Bool) → b ≡ false → HomeStands program placement activation objects registers (record home { is_object = b }) number → Own program placement objects registers home number
    by true e stands = absurd (true≢false e)
    by false e stands = record { unplaced = stands.0; held = stands.1.0; content = stands.1.1; holds = stands.1.2 }

of_own : (program : Program) (placement : Placement) (activation : ℕ) (objects : S.Objects) (registers : Registers) (home : Home) (number : ℕ) → home.is_object ≡ false
    → Own program placement objects registers home number → HomeStands program placement activation objects registers home number
of_own program placement activation objects registers home number own h = by home.is_object own
  where
    by : (b : Bool) → b ≡ false → HomeStands program placement activation objects registers (record home { is_object = b }) number
    by true e = absurd (true≢false e)
    by false e = (h.unplaced, (h.held, h.content, h.holds))

-- ---- states

-- the reference's state where the local holds a scalar
abbrev pub local_holds : ℕ → Scalar → S.State → S.State
local_holds number scalar s =
    record s { objects = S.with_content (LocalObject number) (S.holding 0 scalar (s.objects (LocalObject number))) s.objects; trace = s.trace ++ [] }

module _ (tac : Tac) (program : Program) (points : List Op) (placement : Placement) (hidden : ℕ → Option V.Content) (frame : Frame) (scope : Scope) (runs : Runs tac program points frame) where
  pub own_at : (at : ℕ) (home : Home) (number : ℕ) (s : S.State) (t : State) → home.is_object ≡ false → IsHome scope s.locals home number → At program placement hidden frame scope at s t
      → Own program placement s.objects t.running.registers home number
  own_at at home number s t own is h =
      own_of program placement frame.number s.objects t.running.registers home number own (home_of program placement frame.number s.objects t.running.registers scope s.locals home number is h.homes)

  pub own_alive : (home : Home) (number : ℕ) (s : S.State) (registers : Registers) → Own program placement s.objects registers home number → IsAlive (s.objects (LocalObject number))
  own_alive home number s registers own = subst IsAlive (sym own.content) tt

  pub own_lives : (home : Home) (number : ℕ) (s : S.State) (registers : Registers) (scalar : Scalar) → Own program placement s.objects registers home number → LivesBefore s.objects (local_holds number scalar s).objects
  own_lives home number s registers scalar own = lives_with (LocalObject number) (S.holding 0 scalar (s.objects (LocalObject number))) s.objects (own_alive home number s registers own)

  pub at_local_written : (at : ℕ) (home : Home) (number : ℕ) (scalar : Scalar) (value : Value) (s : S.State) (t : State) → home.is_object ≡ false → IsHome scope s.locals home number
      → ScalarStands program s.objects placement scalar value → At program placement hidden frame scope at s t
      → At program placement hidden frame scope (suc at) (local_holds number scalar s) (with_written tac program points placement hidden frame scope runs (R.Local home.local) value t)
  at_local_written at home number scalar value s t own is stands h =
      let held = own_at at home number s t own is h in
      let alive = own_alive home number s t.running.registers held in
      let lives = own_lives home number s t.running.registers scalar held in
      let content = S.holding 0 scalar (s.objects (LocalObject number)) in
      let objects = S.with_content (LocalObject number) content s.objects in
      let registers = with_register (R.Local home.local) (Some value) t.running.registers in
      let now : objects (LocalObject number) ≡ V.Elements false home.c_type 1 (S.with_scalar 0 scalar held.held) =
      cond-true (number == number) content (s.objects (LocalObject number)) (eq-eqb number number refl) ∙ ap (S.holding 0 scalar) held.content in
      let new : Own program placement objects registers home number = record {
        unplaced = held.unplaced;
        held = S.with_scalar 0 scalar held.held;
        content = now;
        holds = λ found e. let same : scalar ≡ found = cc in
            (value, written_there (R.Local home.local) (Some value) t.running.registers, subst (λ x. ScalarStands program objects placement x value) same (value_lasts program placement s.objects objects lives scalar value stands));
      } in
      record {
        stands = record {
          input = h.stands.input;
          heap = h.stands.heap;
          trace = seen_crossed t.trace t.running.at (suc t.running.at) ∙ h.stands.trace ∙ sym (append-nil s.trace);
          memory = unplaced_stands program placement s.objects number content alive t.objects held.unplaced h.stands.memory;
          placed = h.stands.placed;
          unchanged = λ other content' hides. let was = h.stands.unchanged other content' hides in (was.0, cond-false (number == other) content (s.objects (LocalObject other)) (ne_eqb number other (λ e. was.3 (subst (λ n. IsAmong n s.locals) e (among_home scope s.locals home number is)))) ∙ was.1, was.2, was.3);
        };
        homes = written_homes program placement s.objects number content alive frame.number t.running.registers home (Some value) scope s.locals is (of_own program placement frame.number objects registers home number own new) h.homes;
        own = record { there = h.own.there; in_scope = λ other local at_local lives_on. h.own.in_scope other local at_local (lives (LocalObject other) lives_on) };
        point = ap suc h.point;
        owner = h.owner;
        number = h.number;
        callers = h.callers;
        paid = refl;
      }
