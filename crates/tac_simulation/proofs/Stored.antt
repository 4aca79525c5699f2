-- Objects in memory are read and written on both sides.
use Rattle.std.proofs.Common.{◌≡◌, ℕ, suc, ◌+◌, ◌<◌, Bool, true, false, if◌then◌else◌, List, [], ◌∷◌, ◌++◌, Option, Some, None, refl, sym, ap, ◌∙◌, subst, arith}
use Rattle.std.proofs.lemmas.Bool.{cond-false, false_from_ne_true}
use Rattle.std.proofs.lemmas.Option.{none-some, same_Some}
use Rattle.run_theory.specs.declared.place.Pos.{Pos}
use Rattle.run_theory.specs.declared.ends.UbKind.TheVariants as Ub
use Rattle.run_theory.specs.Runs.{Event, Loaded, Stored}
use Rattle.c_typed.specs.Types.{CType}
use Rattle.c_typed.specs.Typed.{Program, GlobalDef, LiteralDef}
use Rattle.c_typed.specs.Expressions.{is_scalar}
use Rattle.c_typed.specs.Programs.{IsWellTyped}
use Rattle.ref_semantics.specs.Values as V
use Rattle.ref_semantics.specs.Values.{Name, Heap, GlobalObject, LiteralObject, LocalObject, Place, Scalar, same_name}
use Rattle.ref_semantics.specs.Store as S
use Rattle.ref_semantics.specs.Store.{Outcome, Then, Eval, continue_with, undefined, offset_of, is_dead, scalar_at}
use Rattle.ref_semantics.specs.Pointers as P
use Rattle.ref_semantics.specs.Pointers.{read, write, loaded}
use Rattle.ref_semantics.specs.First.{around_of}
use Rattle.ref_semantics.specs.Rows.{LeafAt}
use Rattle.ref_semantics.specs.Sound.{HasType, Sound}
use Rattle.ref_semantics.specs.Keeping.{Keeps, IsElement}
use Rattle.ref_semantics.proofs.Objects.{same_name-true}
use Rattle.ref_semantics.proofs.Consequences.{accessed_leaf}
use Rattle.ref_semantics.proofs.Storing.{read_keeps, write_keeps}
use Rattle.tac_ir.specs.declared.register.Local.{Local}
use Rattle.tac_ir.specs.declared.register.Register.{Register}
use Rattle.tac_ir.specs.declared.register.Register.TheVariants as R
use Rattle.tac_ir.specs.Code.{Op, Tac, Path, Operand}
use Rattle.tac_ir.specs.Code as O
use Rattle.tac_ir.specs.Events.{TacEvent, Crossed, ReadFrom, WroteTo, seen}
use Rattle.tac_ir.specs.First.{named_global, placed_literal}
use Rattle.tac_ir.specs.Values as M
use Rattle.tac_ir.specs.Values.{Object, OfHeap, OfGlobal, OfLiteral, OfActivation, Value, Content, Typed, with_held, same_object}
use Rattle.tac_ir.specs.Trees.{Registers, with_register, same_register}
use Rattle.tac_ir.specs.Layouts.{Inner}
use Rattle.tac_ir.specs.Objects.{Reached, holding, leads}
use Rattle.tac_ir.specs.Costs.{path_cost, operand_cost}
use Rattle.tac_ir.specs.States.{State, access}
use Rattle.tac_ir.specs.Meaning.{execute, value_of}
use Rattle.tac_ir.proofs.Seen.{seen_emitted}
use Rattle.tac_build.specs.Homes.{Home, Scope}
use Rattle.tac_build.specs.Code.{HasOp}
use Rattle.tac_build.specs.Forms.{context_of, scope_types}
use Rattle.tac_simulation.specs.Standing.{Placement, Frame, image, global_object, literal_object, IsAlive, ScalarStands, MemoryStands, HomeStands, HomesStand, At, PathStands, surroundings}
use Rattle.tac_simulation.proofs.Alive.{LivesBefore, held_lasts}
use Rattle.tac_simulation.proofs.Memory.{same_object-true, lives_before}
use Rattle.tac_simulation.proofs.Placing.{TypedBoth, placed, stands_at}
use Rattle.tac_simulation.proofs.Accessing.{access_stands, read_stands, write_stands}
use Rattle.tac_simulation.proofs.Fitting.{stands_fits}
use Rattle.tac_simulation.proofs.Paths.{Stand, Passage as Passing, Passes, Does, stepped, stray}
use Rattle.tac_simulation.proofs.Spotting.{Runs, IsNoLocal, no_local, homes_same, before_at, around_is}

-- ---- events

module _ (program : Program) (placement : Placement) (event : ℕ → TacEvent) (own : ℕ → Event) (same : (number : ℕ) → seen (event number ∷ []) ≡ own number ∷ []) where
  -- an access is seen where its object is of the heap
  pub seen_access : (name : Name) (object : Object) → image program placement name ≡ Some object
      → ((number : ℕ) (object : Object) → placement number ≡ Some object → (activation : ℕ) × (local : Local) × (object ≡ OfActivation activation local))
      → seen (access event object) ≡ P.access own name
  seen_access (Heap number) object is placed = let e : OfHeap number ≡ object = same_Some (OfHeap number) object is in subst (λ o. seen (access event o) ≡ own number ∷ []) e (same number)
  seen_access (GlobalObject name) object is placed = by (named_global 0 program.globals name) is
    where
      by : (found : Option (ℕ × GlobalDef)) → global_object found ≡ Some object → seen (access event object) ≡ []
      by None e = absurd (none-some object e)
      by (Some found) e = let e' : OfGlobal found.0 ≡ object = same_Some (OfGlobal found.0) object e in subst (λ o. seen (access event o) ≡ []) e' refl
  seen_access (LiteralObject place) object is placed = by (placed_literal 0 program.literals place) is
    where
      by : (found : Option (ℕ × LiteralDef)) → literal_object found ≡ Some object → seen (access event object) ≡ []
      by None e = absurd (none-some object e)
      by (Some found) e = let e' : OfLiteral found.0 ≡ object = same_Some (OfLiteral found.0) object e in subst (λ o. seen (access event o) ≡ []) e' refl
  seen_access (LocalObject number) object is placed = let at = placed number object is in subst (λ o. seen (access event o) ≡ []) (sym at.2) refl

-- ---- states

-- behind a point that reads
abbrev pub with_read : Register → Value → Object → State → State
with_read register value object t =
    record t {
      running = record t.running { registers = with_register register (Some value) t.running.registers; at = suc t.running.at };
      trace = (t.trace ++ access ReadFrom object) ++ Crossed t.running.at (suc t.running.at) ∷ [];
      paid = 0;
    }

abbrev pub was_read : Name → S.State → S.State
was_read name s = record s { trace = s.trace ++ P.access Loaded name }

-- behind a point that writes
abbrev pub with_stored : Object → ℕ → Value → State → State
with_stored object offset value t =
    record t {
      objects = M.with_content object (holding offset value (t.objects object)) t.objects;
      running = record t.running { at = suc t.running.at };
      trace = (t.trace ++ access WroteTo object) ++ Crossed t.running.at (suc t.running.at) ∷ [];
      paid = 0;
    }

abbrev pub was_stored : Name → ℕ → Scalar → S.State → S.State
was_stored name offset scalar s =
    record s { objects = S.with_content name (S.holding offset scalar (s.objects name)) s.objects; trace = s.trace ++ P.access Stored name }

reached_is : (a b : Object) (m n : ℕ) (t u : CType) → a ≡ b → m ≡ n → t ≡ u → ◌≡◌ {A = Option Reached} (Some (record { object = a; inner = record { offset = m; c_type = t } })) (Some (record { object = b; inner = record { offset = n; c_type = u } }))
reached_is a b m n t u e e' e'' = rw (e, e', e'') refl

-- an object keeps its type
stays_typed : (offset : ℕ) (value : Value) (content : Content) (c_type : CType) → (held : ℕ → Option Value) × (content ≡ Typed c_type 1 held) → (held : ℕ → Option Value) × (holding offset value content ≡ Typed c_type 1 held)
stays_typed offset value content c_type h = (with_held offset value h.0, ap (holding offset value) h.1)

module _ (program : Program) (placement : Placement) (activation : ℕ) (objects : S.Objects) (registers : Registers) (name : Name) (object : Object) (content : V.Content)
    (is_image : image program placement name ≡ Some object) (alive : IsAlive (objects name)) (lives : LivesBefore objects (S.with_content name content objects)) where
  -- a local that has no place is another one
  other_name : (number : ℕ) → placement number ≡ None → same_name name (LocalObject number) ≡ false
  other_name number unplaced =
      false_from_ne_true (same_name name (LocalObject number)) (λ e. none-some object (sym unplaced ∙ sym (ap (image program placement) (same_name-true name (LocalObject number) e)) ∙ is_image))

  stored_home : (home : Home) (number : ℕ) → HomeStands program placement activation objects registers home number → HomeStands program placement activation (S.with_content name content objects) registers home number
  stored_home home number stands = by home.is_object stands
    where
      by : (b : Bool) → HomeStands program placement activation objects registers (record home { is_object = b }) number → HomeStands program placement activation (S.with_content name content objects) registers (record home { is_object = b }) number
      by true stands = stands
      by false stands = (
        stands.0,
        (
          stands.1.0,
          cond-false (same_name name (LocalObject number)) content (objects (LocalObject number)) (other_name number stands.0) ∙ stands.1.1,
          λ scalar is. held_lasts program placement objects (S.with_content name content objects) lives scalar (registers (R.Local home.local)) (stands.1.2 scalar is),
        ),
      )

  stored_homes : (scope : Scope) (locals : List ℕ) → HomesStand program placement activation objects registers scope locals → HomesStand program placement activation (S.with_content name content objects) registers scope locals
  stored_homes [] [] stands = tt
  stored_homes (home ∷ scope) (newest ∷ others) stands = (stored_home home newest stands.0, stored_homes scope others stands.1, stands.2)
  stored_homes [] (newest ∷ others) stands = absurd stands
  stored_homes (home ∷ scope) [] stands = absurd stands

module _ (tac : Tac) (program : Program) (worth : ℕ) (points : List Op) (placement : Placement) (hidden : ℕ → Option V.Content) (frame : Frame) (scope : Scope)
    (runs : Runs tac program points frame) (well : IsWellTyped program) where
  pub at_read : (at : ℕ) (register : Register) (value : Value) (name : Name) (object : Object) (s : S.State) (t : State) → IsNoLocal register → image program placement name ≡ Some object
      → At program placement hidden frame scope at s t → At program placement hidden frame scope (suc at) (was_read name s) (with_read register value object t)
  at_read at register value name object s t new is h = record {
    stands = record {
      input = h.stands.input;
      heap = h.stands.heap;
      trace = seen_emitted t.trace (access ReadFrom object) t.running.at (suc t.running.at)
          ∙ ap (λ l. l ++ seen (access ReadFrom object)) h.stands.trace
          ∙ ap (λ l. s.trace ++ l) (seen_access program placement ReadFrom Loaded (λ number. refl) name object is (λ number found at_place. let p = h.stands.placed number found at_place in (p.1.0, p.1.1, p.1.2)));
      memory = h.stands.memory;
      placed = h.stands.placed;
      unchanged = h.stands.unchanged;
    };
    homes = homes_same program placement frame.number s.objects t.running.registers (with_register register (Some value) t.running.registers)
        (λ local. cond-false (same_register register (R.Local local)) (Some value) (t.running.registers (R.Local local)) (no_local register local new)) scope s.locals h.homes;
    own = record { there = h.own.there; in_scope = h.own.in_scope };
    point = ap suc h.point;
    owner = h.owner;
    number = h.number;
    callers = h.callers;
    paid = refl;
  }

  pub at_stored : (at : ℕ) (name : Name) (object : Object) (offset : ℕ) (scalar : Scalar) (value : Value) (s : S.State) (t : State) → image program placement name ≡ Some object → IsAlive (s.objects name)
      → MemoryStands program placement (was_stored name offset scalar s).objects (with_stored object offset value t).objects
      → At program placement hidden frame scope at s t → At program placement hidden frame scope (suc at) (was_stored name offset scalar s) (with_stored object offset value t)
  at_stored at name object offset scalar value s t is alive memory h =
      let content = S.holding offset scalar (s.objects name) in
      let lives = lives_before program placement s.objects t.objects h.stands.memory name object is alive content (t.objects object) in
      record {
        stands = record {
          input = h.stands.input;
          heap = h.stands.heap;
          trace = seen_emitted t.trace (access WroteTo object) t.running.at (suc t.running.at)
              ∙ ap (λ l. l ++ seen (access WroteTo object)) h.stands.trace
              ∙ ap (λ l. s.trace ++ l) (seen_access program placement WroteTo Stored (λ number. refl) name object is (λ number found at_place. let p = h.stands.placed number found at_place in (p.1.0, p.1.1, p.1.2)));
          memory = memory;
          placed = h.stands.placed;
          unchanged = λ other content' hides. let was = h.stands.unchanged other content' hides in
              (was.0, cond-false (same_name name (LocalObject other)) content (s.objects (LocalObject other)) (other_name program placement frame.number s.objects t.running.registers name object content is alive lives other was.2) ∙ was.1, was.2, was.3);
        };
        homes = stored_homes program placement frame.number s.objects t.running.registers name object content is alive lives scope s.locals h.homes;
        own = record {
          there = λ local inner typed.
              let was = h.own.there local inner typed in
              let now = by local inner (was.0, was.1) (same_object object (OfActivation frame.number local)) refl in
              (now.0, now.1, was.2);
          in_scope = λ other local at_local lives_on. h.own.in_scope other local at_local (lives (LocalObject other) lives_on);
        };
        point = ap suc h.point;
        owner = h.owner;
        number = h.number;
        callers = h.callers;
        paid = refl;
      }
    where
      by : (local : Local) (inner : Inner) → (held : ℕ → Option Value) × (t.objects (OfActivation frame.number local) ≡ Typed inner.c_type 1 held) → (b : Bool) → same_object object (OfActivation frame.number local) ≡ b
          → (held : ℕ → Option Value) × ((if b then holding offset value (t.objects object) else t.objects (OfActivation frame.number local)) ≡ Typed inner.c_type 1 held)
      by local inner typed true e = stays_typed offset value (t.objects object) inner.c_type (typed.0, ap t.objects (same_object-true object (OfActivation frame.number local) e) ∙ typed.1)
      by local inner typed false e = typed

  -- ---- accesses

  -- an object that is read or written, on both sides
  pub record Accessed (t : CType) (path : Path) (place : Place) (s : S.State) (state : State) : Type 0 where
    pub object : Object
    pub leads_there : leads (surroundings program frame) state.running.registers path ≡ Some (record { object = object; inner = record { offset = offset_of (around_of program) place; c_type = t } })
    pub is_image : image program placement place.name ≡ Some object
    pub typed : TypedBoth program placement s state.objects place object
    pub leaf : LeafAt program.structs typed.c_type typed.count (offset_of (around_of program) place) t

  pub accessed : (at : ℕ) (t own : CType) (path : Path) (place : Place) (s : S.State) (state : State) → At program placement hidden frame scope at s state → Sound (context_of program scope) s
      → PathStands program frame placement state.running.registers path own place → own ≡ t → is_scalar t ≡ true → IsElement program s t place → is_dead (s.objects place.name) ≡ false
      → Accessed t path place s state
  accessed at t own path place s state h sound stands same scalar element lives =
      let found = placed program well placement (scope_types scope) s sound state.objects h.stands.memory place (M.Address stands.0 stands.1) element.place_stands lives
      (stands_at program well placement (scope_types scope) s sound state.objects h.stands.memory place stands.0 stands.1 stands.3.0 stands.3.1) in
      let one : stands.0 ≡ found.object = same_Some stands.0 found.object (sym stands.3.0 ∙ found.is_image) in
      record {
        object = found.object;
        leads_there = stands.2 ∙ reached_is stands.0 found.object stands.1 (offset_of (around_of program) place) own t one stands.3.1 same;
        is_image = found.is_image;
        typed = found.typed;
        leaf = accessed_leaf program well (scope_types scope) s sound t place scalar element found.typed.is_static found.typed.c_type found.typed.count found.typed.held found.typed.content;
      }

  -- what is known behind a point that reads
  pub record Read (start : State) (n left lag slack at : ℕ) (register : Register) (t : CType) (place : Place) (object : Object) (scalar : Scalar) (value : Value) (s : S.State) (state : State) : Type 0 where
    pub passing : Passing tac worth start (with_read register value object state) n left lag slack
    pub there : At program placement hidden frame scope (suc at) (was_read place.name s) (with_read register value object state)
    pub stands : ScalarStands program s.objects placement scalar value
    pub keeps : Keeps (context_of program scope) s (was_read place.name s)
    pub has : HasType program (was_read place.name s) t scalar

  -- an object is read, and the evaluation goes on
  pub then_read : {B : Type 0} {Stands' : Stand B} {start : State} {n lag lag' slack slack' : ℕ} (between : ℕ) (here : Pos) (next : Scalar → Eval B) (register : Register) (at : ℕ) (t own : CType) (path : Path) (place : Place) (s : S.State) (state : State)
      → Passing tac worth start state n s.units lag slack → At program placement hidden frame scope at s state → Sound (context_of program scope) s
      → PathStands program frame placement state.running.registers path own place → own ≡ t → is_scalar t ≡ true → IsElement program s t place
      → HasOp points at (O.Load register own path) → IsNoLocal register → between + path_cost path < slack
      → ((object : Object) (scalar : Scalar) (value : Value) → Read start n s.units lag between at register t place object scalar value s state → Does tac worth start n lag' slack' Stands' (next scalar (was_read place.name s)))
      → Does tac worth start n lag' slack' Stands' (continue_with next (read (around_of program) here place s))
  then_read {B} {Stands'} {start} {n} {lag} {lag'} {slack} {slack'} between here next register at t own path place s state p h sound stands same is_scalar_type element has new less rest = by (is_dead (s.objects place.name)) refl
    where
      reads : (scalar : Scalar) → is_dead (s.objects place.name) ≡ false → scalar_at (around_of program) (s.objects place.name) place ≡ Some scalar → Does tac worth start n lag' slack' Stands' (next scalar (was_read place.name s))
      reads scalar lives is =
          let a = accessed at t own path place s state h sound stands same is_scalar_type element lives in
          let stands_there = access_stands program well placement s state.objects h.stands.memory t place a.object a.is_image a.typed a.leaf in
          let holds = read_stands program well placement s state.objects h.stands.memory t place a.object a.is_image a.typed a.leaf scalar is element.is_own in
          let read_is : read (around_of program) here place s ≡ Then scalar (was_read place.name s) = rw (lives, is) refl in
          let typed = (read_keeps program well (scope_types scope) s sound here t place is_scalar_type element).gives scalar (was_read place.name s) read_is in
          let fitting = stands_fits program s.objects placement (was_read place.name s) t scalar holds.0 is_scalar_type typed.1 holds.2 in
          let passes : Passes tac (O.Load register own path) state (with_read register holds.0 a.object state) = record {
            before = before_at tac program points placement hidden frame scope runs at (O.Load register own path) s state has h;
            does = ap (λ around. execute tac around (O.Load register own path) state) (around_is tac program points placement hidden frame scope runs at s state h)
                ∙ ap (λ c. execute tac (surroundings program frame) (O.Load register c path) state) same
                ∙ (rw (a.leads_there, stands_there, holds.1, fitting) refl);
          } in
          rest a.object scalar holds.0 (record {
            passing = stepped p passes (omega arith) less;
            there = at_read at register holds.0 place.name a.object s state new a.is_image h;
            stands = holds.2;
            keeps = typed.0;
            has = typed.1;
          })

      found : (b : Option Scalar) → is_dead (s.objects place.name) ≡ false → scalar_at (around_of program) (s.objects place.name) place ≡ b → Does tac worth start n lag' slack' Stands' (continue_with next (loaded here place.name b s))
      found None lives e = stray Ub.U04 here s
      found (Some scalar) lives e = reads scalar lives e

      by : (b : Bool) → is_dead (s.objects place.name) ≡ b
          → Does tac worth start n lag' slack' Stands' (continue_with next ((let rest : Eval Scalar = if b then undefined Ub.U06 here else loaded here place.name (scalar_at (around_of program) (s.objects place.name) place) in rest) s))
      by true e = stray Ub.U06 here s
      by false e = found (scalar_at (around_of program) (s.objects place.name) place) e refl

  -- what is known behind a point that writes
  pub record Wrote (start : State) (n left lag slack at : ℕ) (t : CType) (place : Place) (object : Object) (scalar : Scalar) (value : Value) (s : S.State) (state : State) : Type 0 where
    pub passing : Passing tac worth start (with_stored object (offset_of (around_of program) place) value state) n left lag slack
    pub there : At program placement hidden frame scope (suc at) (was_stored place.name (offset_of (around_of program) place) scalar s) (with_stored object (offset_of (around_of program) place) value state)
    pub lives : LivesBefore s.objects (was_stored place.name (offset_of (around_of program) place) scalar s).objects
    pub keeps : Keeps (context_of program scope) s (was_stored place.name (offset_of (around_of program) place) scalar s)

  -- an object is written, and the evaluation goes on
  pub then_write : {B : Type 0} {Stands' : Stand B} {start : State} {n lag lag' slack slack' : ℕ} (between : ℕ) (here : Pos) (further : Outcome Scalar → Outcome B) (operand : Operand) (at : ℕ) (t own : CType) (path : Path) (place : Place) (scalar : Scalar) (value : Value) (s : S.State) (state : State)
      → (further (undefined Ub.U06 here s) ≡ undefined Ub.U06 here s)
      → Passing tac worth start state n s.units lag slack → At program placement hidden frame scope at s state → Sound (context_of program scope) s
      → PathStands program frame placement state.running.registers path own place → own ≡ t → is_scalar t ≡ true → IsElement program s t place
      → HasOp points at (O.Store path own operand) → value_of state.running.registers operand ≡ Some value → ScalarStands program s.objects placement scalar value → HasType program s t scalar
      → between + (path_cost path + operand_cost operand) < slack
      → ((object : Object) → Wrote start n s.units lag between at t place object scalar value s state
      → Does tac worth start n lag' slack' Stands' (further (Then scalar (was_stored place.name (offset_of (around_of program) place) scalar s))))
      → Does tac worth start n lag' slack' Stands' (further (write (around_of program) here place scalar s))
  then_write {B} {Stands'} {start} {n} {lag} {lag'} {slack} {slack'} between here further operand at t own path place scalar value s state stopped p h sound stands same is_scalar_type element has held is typed less rest = by (is_dead (s.objects place.name)) refl
    where
      offset : ℕ
      offset = offset_of (around_of program) place

      stores : is_dead (s.objects place.name) ≡ false → Does tac worth start n lag' slack' Stands' (further (Then scalar (was_stored place.name (offset_of (around_of program) place) scalar s)))
      stores lives =
          let a = accessed at t own path place s state h sound stands same is_scalar_type element lives in
          let stands_there = access_stands program well placement s state.objects h.stands.memory t place a.object a.is_image a.typed a.leaf in
          let memory = write_stands program well placement s state.objects h.stands.memory t place a.object a.is_image a.typed a.leaf scalar value is in
          let alive : IsAlive (s.objects place.name) = subst IsAlive (sym a.typed.content) tt in
          let write_is : write (around_of program) here place scalar s ≡ Then scalar (was_stored place.name (offset_of (around_of program) place) scalar s) = rw lives refl in
          let after = (write_keeps program well (scope_types scope) s sound here t place scalar is_scalar_type element typed).gives scalar (was_stored place.name (offset_of (around_of program) place) scalar s) write_is in
          let passes : Passes tac (O.Store path own operand) state (with_stored a.object (offset_of (around_of program) place) value state) = record {
            before = before_at tac program points placement hidden frame scope runs at (O.Store path own operand) s state has h;
            does = ap (λ around. execute tac around (O.Store path own operand) state) (around_is tac program points placement hidden frame scope runs at s state h)
                ∙ ap (λ c. execute tac (surroundings program frame) (O.Store path c operand) state) same
                ∙ (rw (held, a.leads_there, stands_there) refl);
          } in
          rest a.object (record {
            passing = stepped p passes (omega arith) less;
            there = at_stored at place.name a.object (offset_of (around_of program) place) scalar value s state a.is_image alive memory h;
            lives = lives_before program placement s.objects state.objects h.stands.memory place.name a.object a.is_image alive (S.holding (offset_of (around_of program) place) scalar (s.objects place.name)) (state.objects a.object);
            keeps = after.0;
          })

      by : (b : Bool) → is_dead (s.objects place.name) ≡ b
          → Does tac worth start n lag' slack' Stands' (further ((let rest : Eval Scalar = if b then undefined Ub.U06 here else S.store_content place.name (S.holding (offset_of (around_of program) place) scalar (s.objects place.name)) (S.emit (P.access Stored place.name) (S.give scalar)) in rest) s))
      by true e = subst (λ outcome. Does tac worth start n lag' slack' Stands' outcome) (sym stopped) (stray Ub.U06 here s)
      by false e = stores e
