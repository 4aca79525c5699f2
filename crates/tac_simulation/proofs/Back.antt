-- A function is left: its caller goes on where it made the call. The locals of the function are dead, and what is hidden within the call
-- holds what it held.
use Rattle.std.proofs.Common.{◌≡◌, ℕ, suc, ◌<◌, ◌≤◌, ◌==◌, ◌||◌, Bool, true, false, List, [], ◌∷◌, ◌++◌, append-nil, Option, Some, None, ◌⊎◌, inl, inr, refl, sym, ap, ◌∙◌, subst, eq-eqb, ne_eqb, arith}
use Rattle.std.proofs.lemmas.Bool.{cond-false}
use Rattle.std.proofs.lemmas.Option.{none-some}
use Rattle.run_theory.specs.Runs
use Rattle.run_theory.specs.Runs.{To}
use Rattle.c_typed.specs.Typed.{GlobalDef, LiteralDef, Program}
use Rattle.ref_semantics.specs.Values as V
use Rattle.ref_semantics.specs.Values.{Name, Heap, GlobalObject, LiteralObject, LocalObject, Scalar}
use Rattle.ref_semantics.specs.Store as S
use Rattle.ref_semantics.specs.Meaning.{Calls, killed}
use Rattle.ref_semantics.specs.Sound.{WasGiven, MayBecome, IsSoundContent, Sound}
use Rattle.tac_ir.specs.declared.register.Local.{Local}
use Rattle.tac_ir.specs.declared.register.Register.{Register}
use Rattle.tac_ir.specs.declared.register.Register.TheVariants as R
use Rattle.tac_ir.specs.Code.{Op, Function, Tac}
use Rattle.tac_ir.specs.Values.{Object, OfHeap, OfGlobal, OfLiteral, OfActivation, Value, Absent, Typed}
use Rattle.tac_ir.specs.Events.{Left, Crossed}
use Rattle.tac_ir.specs.Layouts.{Inner}
use Rattle.tac_ir.specs.Trees.{with_register}
use Rattle.tac_ir.specs.Objects.{own_type}
use Rattle.tac_ir.specs.States.{State}
use Rattle.tac_ir.specs.Calls.{leave, closed}
use Rattle.tac_ir.specs.First.{named_global, placed_literal}
use Rattle.tac_ir.proofs.Seen.{seen_emitted}
use Rattle.tac_build.specs.Homes.{Home, Scope}
use Rattle.tac_build.specs.Forms.{context_of}
use Rattle.tac_simulation.specs.Standing.{Placement, Frame, image, global_object, literal_object, IsAlive, IsAmong, HoldsFor, MemoryStands, HomeStands, HomesStand, At}
use Rattle.tac_simulation.specs.Entered.{entered, is_among, hidden_within}
use Rattle.tac_simulation.proofs.Given.{typed_given, held_given}
use Rattle.tac_simulation.proofs.Fewer.{fewer_stand, fewer_held}
use Rattle.tac_simulation.proofs.Spotting.{written_there}
use Rattle.tac_simulation.proofs.Executing.{Extends}
use Rattle.tac_simulation.proofs.Calling.{IsOther, Returned}
use Rattle.tac_simulation.proofs.Closing.{all_killed, killed_is, killed_same, killed_none, killed_other}

-- ---- the states in which the caller goes on

-- where the function was left, its locals are dead and those of the caller are in scope again
abbrev pub restored : S.State → S.State → S.State
restored outer s = record s { objects = killed 0 s.locals s.objects; locals = outer.locals; trace = s.trace ++ Runs.Returned ∷ [] }

-- the caller goes on with what the function gives
abbrev pub gone_back : ℕ → State → Option Value → State → State
gone_back site outer held t = record t {
  running = record outer.running { registers = with_register (R.Call site) held outer.running.registers; at = suc outer.running.at };
  callers = outer.callers;
  objects = closed t.running.number t.objects;
  trace = (t.trace ++ Left ∷ []) ++ Crossed outer.running.at (suc outer.running.at) ∷ [];
  paid = 0;
}

-- ---- locals that die

pub own_killed : (names : List ℕ) (objects : S.Objects) → killed 0 names objects ≡ all_killed names objects
own_killed names objects = subst (λ all. killed 0 all objects ≡ all_killed names objects) (append-nil names) (killed_is names [] objects)

-- what is alive was alive
alive_before : (old new : V.Content) → MayBecome old new → IsAlive new → IsAlive old
alive_before V.Dead new may lives = subst IsAlive may lives
alive_before (V.Raw size) new may lives = tt
alive_before (V.Elements is_static c_type count held) new may lives = tt

-- ---- what is hidden

pub among_true : (number : ℕ) (names : List ℕ) → IsAmong number names → is_among number names ≡ true
among_true number [] among = absurd among
among_true number (first ∷ others) (inl same) = ap (λ b. b || is_among number others) (eq-eqb first number same)
among_true number (first ∷ others) (inr later) = by (first == number) (among_true number others later)
  where
    by : (b : Bool) → is_among number others ≡ true → (b || is_among number others) ≡ true
    by true e = refl
    by false e = e

pub among_false : (number : ℕ) (names : List ℕ) → (IsAmong number names → ⊥) → is_among number names ≡ false
among_false number [] not = refl
among_false number (first ∷ others) not = ap (λ b. b || is_among number others) (ne_eqb first number (λ e. not (inl e))) ∙ among_false number others (λ later. not (inr later))

module _ (placement : Placement) (locals : List ℕ) (objects : S.Objects) (hidden : ℕ → Option V.Content) (number : ℕ) where
  -- a caller's local in a register
  pub hides_own : IsAmong number locals → placement number ≡ None → hidden_within placement locals objects hidden number ≡ Some (objects (LocalObject number))
  hides_own among unplaced = rw (among_true number locals among) (rw unplaced refl)

  -- what was hidden before
  pub hides_older : (IsAmong number locals → ⊥) → hidden_within placement locals objects hidden number ≡ hidden number
  hides_older not = rw (among_false number locals not) refl

-- ---- the caller goes on

module _ (program : Program) (placement placed : Placement) (hidden : ℕ → Option V.Content) (frame : Frame) (scope inner : Scope) (at last site number : ℕ) (function : Function) (s0 s : S.State) (state t : State)
    (sound : Sound (context_of program scope) s0) (before : At program placement hidden frame scope at s0 state)
    (h : At program placed (hidden_within placement s0.locals s0.objects hidden) (entered site number function state) inner last s t)
    (extends : Extends (entered site number function state) s0.next_local placement placed)
    (newer : s0.next_local ≤ s.next_local) (may : (name : Name) → WasGiven s0 name → MayBecome (s0.objects name) (s.objects name))
    (there : (local : Local) (own : Inner) → own_type frame.objects local ≡ Some own → (held : ℕ → Option Value) × (t.objects (OfActivation frame.number local) ≡ Typed own.c_type 1 held))
    (further : state.next_activation < t.next_activation) where
  was_alive : (name : Name) → IsAlive (all_killed s.locals s.objects name) → IsAlive (s.objects name)
  was_alive name lives = subst IsAlive (killed_same s.locals s.objects name lives) lives

  -- what is alive and was given before the call was alive then
  lived : (name : Name) → WasGiven s0 name → IsAlive (all_killed s.locals s.objects name) → IsAlive (s0.objects name)
  lived name given lives = alive_before (s0.objects name) (s.objects name) (may name given) (was_alive name lives)

  -- none of the function's locals is alive
  not_own : (number : ℕ) (local : Local) → placed number ≡ Some (OfActivation state.next_activation local) → IsAlive (all_killed s.locals s.objects (LocalObject number)) → ⊥
  not_own number local is lives = killed_none s.locals s.objects number lives (h.own.in_scope number local is (was_alive (LocalObject number) lives)).0

  same : (name : Name) → IsAlive (all_killed s.locals s.objects name) → (all_killed s.locals s.objects name ≡ s.objects name) × (image program placement name ≡ image program placed name)
  same (Heap number) lives = (killed_same s.locals s.objects (Heap number) lives, refl)
  same (GlobalObject name) lives = (killed_same s.locals s.objects (GlobalObject name) lives, refl)
  same (LiteralObject place) lives = (killed_same s.locals s.objects (LiteralObject place) lives, refl)
  same (LocalObject number) lives = (killed_same s.locals s.objects (LocalObject number) lives, by (extends number))
    where
      by : ((placed number ≡ placement number) ⊎ ((s0.next_local ≤ number) × ((local : Local) × (placed number ≡ Some (OfActivation state.next_activation local))))) → placement number ≡ placed number
      by (inl e) = sym e
      by (inr new) = absurd (not_own number new.1.0 new.1.1 lives)

  -- what is alive is no object of the function
  not_closed : (name : Name) (activation : ℕ) (local : Local) → IsAlive (all_killed s.locals s.objects name) → image program placed name ≡ Some (OfActivation activation local) → activation ≡ state.next_activation → ⊥
  not_closed (Heap number) activation local lives is e = absurd (cc)
  not_closed (LocalObject number) activation local lives is e = not_own number local (is ∙ ap (λ n. Some (OfActivation n local)) e) lives
  not_closed (GlobalObject name) activation local lives is e = by (named_global 0 program.globals name) is
    where
      by : (found : Option (ℕ × GlobalDef)) → global_object found ≡ Some (OfActivation activation local) → ⊥
      by None e = none-some (OfActivation activation local) e
      by (Some found) e = cc
  not_closed (LiteralObject place) activation local lives is e = by (placed_literal 0 program.literals place) is
    where
      by : (found : Option (ℕ × LiteralDef)) → literal_object found ≡ Some (OfActivation activation local) → ⊥
      by None e = none-some (OfActivation activation local) e
      by (Some found) e = cc

  same' : (name : Name) (object : Object) → IsAlive (all_killed s.locals s.objects name) → image program placed name ≡ Some object → closed t.running.number t.objects object ≡ t.objects object
  same' name (OfHeap number) lives is = refl
  same' name (OfGlobal number) lives is = refl
  same' name (OfLiteral number) lives is = refl
  same' name (OfActivation activation local) lives is =
      cond-false (activation == t.running.number) Absent (t.objects (OfActivation activation local)) (ne_eqb activation t.running.number (λ e. not_closed name activation local lives is (e ∙ h.number)))

  back_memory : MemoryStands program placement (all_killed s.locals s.objects) (closed t.running.number t.objects)
  back_memory = fewer_stand program placed placement s.objects (all_killed s.locals s.objects) t.objects (closed t.running.number t.objects) same same' h.stands.memory

  -- what a value stands for stays
  pub back_held : (scalar : Scalar) (held : Option Value) → HoldsFor program s.objects placed scalar held → HoldsFor program (all_killed s.locals s.objects) placement scalar held
  back_held scalar held holds = fewer_held program placed placement s.objects (all_killed s.locals s.objects) t.objects (closed t.running.number t.objects) same same' scalar held holds

  -- what is hidden holds what it held
  waiting : (number : ℕ) (content : V.Content) → hidden_within placement s0.locals s0.objects hidden number ≡ Some content → all_killed s.locals s.objects (LocalObject number) ≡ content
  waiting number content hides = let was = h.stands.unchanged number content hides in killed_other s.locals s.objects number was.3 ∙ was.1

  back_home : (held : Option Value) (home : Home) (number : ℕ) → IsAmong number s0.locals → HomeStands program placement frame.number s0.objects state.running.registers home number
      → HomeStands program placement frame.number (all_killed s.locals s.objects) (with_register (R.Call site) held state.running.registers) home number
  back_home held home number among stands = by home.is_object stands
    where
      by : (b : Bool) → HomeStands program placement frame.number s0.objects state.running.registers (record home { is_object = b }) number
          → HomeStands program placement frame.number (all_killed s.locals s.objects) (with_register (R.Call site) held state.running.registers) (record home { is_object = b }) number
      by true stands = stands
      by false stands =
          let typed = subst (λ content. IsSoundContent program s0 content) stands.1.1 (sound.contents (LocalObject number)) in (
            stands.0,
            (
              stands.1.0,
              waiting number (s0.objects (LocalObject number)) (hides_own placement s0.locals s0.objects hidden number among stands.0) ∙ stands.1.1,
              λ scalar is.
                  let leaf = typed.leaves 0 scalar is in
                  held_given program s0 placement placement (all_killed s.locals s.objects) lived (λ name given. refl) scalar (state.running.registers (R.Local home.local))
                  (typed_given program s0 leaf.0 scalar leaf.1.scalar leaf.2) (stands.1.2 scalar is),
            ),
          )

  back_homes : (held : Option Value) (more : Scope) (names : List ℕ) → ((number : ℕ) → IsAmong number names → IsAmong number s0.locals)
      → HomesStand program placement frame.number s0.objects state.running.registers more names
      → HomesStand program placement frame.number (all_killed s.locals s.objects) (with_register (R.Call site) held state.running.registers) more names
  back_homes held [] [] known stands = tt
  back_homes held (home ∷ more) (newest ∷ others) known stands =
      (back_home held home newest (known newest (inl refl)) stands.0, back_homes held more others (λ number among. known number (inr among)) stands.1, stands.2)
  back_homes held [] (newest ∷ others) known stands = absurd stands
  back_homes held (home ∷ more) [] known stands = absurd stands

  at_killed : (held : Option Value) → At program placement hidden frame scope (suc at) (record s { objects = all_killed s.locals s.objects; locals = s0.locals; trace = s.trace ++ Runs.Returned ∷ [] }) (gone_back site state held t)
  at_killed held = record {
    stands = record {
      input = h.stands.input;
      heap = h.stands.heap;
      trace = seen_emitted t.trace (Left ∷ []) state.running.at (suc state.running.at) ∙ ap (λ trace. trace ++ Runs.Returned ∷ []) h.stands.trace;
      memory = back_memory;
      placed = λ number object is.
          let was = before.stands.placed number object is in
          let given = was.0 in
          let activation = was.1.3 in
          (omega (arith, given, newer), (was.1.0, was.1.1, was.1.2, omega (arith, activation, further)));
      unchanged = λ number content hides.
          let was = before.stands.unchanged number content hides in
          let given = was.0 in
          (omega (arith, given, newer), waiting number content (hides_older placement s0.locals s0.objects hidden number was.3 ∙ hides), was.2, was.3);
    };
    homes = back_homes held scope s0.locals (λ number among. among) before.homes;
    own = record {
      there = λ local own is.
          let own_there = there local own is in
          let older = (before.own.there local own is).2 in
          (own_there.0, cond-false (frame.number == t.running.number) Absent (t.objects (OfActivation frame.number local)) (ne_eqb frame.number t.running.number (λ e. apart older (e ∙ h.number))) ∙ own_there.1, omega (arith, older, further));
      in_scope = λ number local is lives.
          let given = (before.stands.placed number (OfActivation frame.number local) is).0 in
          before.own.in_scope number local is (lived (LocalObject number) given lives);
    };
    point = ap suc before.point;
    owner = before.owner;
    number = before.number;
    callers = before.callers;
    paid = refl;
  }
    where
      apart : frame.number < state.next_activation → frame.number ≡ state.next_activation → ⊥
      apart older e = omega (arith, e, older)

  -- the code is behind the call
  pub at_back : (held : Option Value) → At program placement hidden frame scope (suc at) (restored s0 s) (gone_back site state held t)
  at_back held =
      subst (λ objects. At program placement hidden frame scope (suc at) (record s { objects = objects; locals = s0.locals; trace = s.trace ++ Runs.Returned ∷ [] }) (gone_back site state held t)) (sym (own_killed s.locals s.objects))
      (at_killed held)

  -- it comes there when the function is left
  pub leaves_to : (held : Option Value) → leave held t ≡ To (gone_back site state held t)
  leaves_to held = ap (λ callers. leave held (record t { callers = callers })) h.callers

  -- with what stands for the value that is given back, and the other registers as they were
  pub goes_back : (tac : Tac) (calls : Calls) (worth : ℕ) (points : List Op) (is_used : Bool) (scalar : Scalar) (held : Option Value) → (is_used ≡ true → HoldsFor program s.objects placed scalar held)
      → Returned tac program calls worth points placement hidden frame scope at site is_used state.running.registers scalar (restored s0 s) (gone_back site state held t)
  goes_back tac calls worth points is_used scalar held gives = record {
    there = at_back held;
    others = other;
    gives = λ used.
        subst (λ v. HoldsFor program (killed 0 s.locals s.objects) placement scalar v) (sym (written_there (R.Call site) held state.running.registers))
        (subst (λ objects. HoldsFor program objects placement scalar held) (sym (own_killed s.locals s.objects)) (back_held scalar held (gives used)));
  }
    where
      other : (register : Register) → IsOther tac program calls worth points placement hidden frame scope site register → with_register (R.Call site) held state.running.registers register ≡ state.running.registers register
      other (R.Local local) apart = refl
      other (R.Call number) apart = cond-false (site == number) held (state.running.registers (R.Call number)) (ne_eqb site number (λ e. apart (sym e)))
      other (R.Argument number) apart = refl
      other (R.Expression number) apart = refl
      other (R.Temporary number) apart = refl
