-- A function is entered: its activation has objects of its own, none of its locals is in scope yet, and the caller's locals that lie in
-- registers are hidden.
use Rattle.std.proofs.Common.{◌≡◌, if◌then◌else◌, ℕ, ◌<◌, ◌==◌, Bool, true, false, ◌||◌, List, [], ◌∷◌, ◌++◌, Option, Some, None, ◌⊎◌, inl, inr, refl, sym, ap, ◌∙◌, subst, eqb-true, arith}
use Rattle.std.proofs.lemmas.Option.{none-some, same_Some}
use Rattle.std.proofs.lemmas.Bool.{true≢false}
use Rattle.run_theory.specs.Runs.{Called}
use Rattle.c_typed.specs.Types.{CType}
use Rattle.c_typed.specs.Typed.{Program}
use Rattle.ref_semantics.specs.Values as V
use Rattle.ref_semantics.specs.Values.{Name, LocalObject}
use Rattle.ref_semantics.specs.Store as S
use Rattle.ref_semantics.specs.Meaning.{Calls}
use Rattle.ref_semantics.specs.Sound.{AreLocals, Sound, Later}
use Rattle.ref_semantics.proofs.Storing.{own_later}
use Rattle.ref_semantics.proofs.Lasting.{sound_later_with, content_lasts, given_lasts}
use Rattle.tac_ir.specs.declared.register.Local.{Local}
use Rattle.tac_ir.specs.Code.{Op, LocalObject as OwnObject, Function, Tac}
use Rattle.tac_ir.specs.Values.{Object, OfActivation, Value, Typed, Objects, with_content, same_local}
use Rattle.tac_ir.specs.Events.{Entered}
use Rattle.tac_ir.specs.Layouts.{Inner}
use Rattle.tac_ir.specs.Objects.{Surroundings, own_type, whole}
use Rattle.tac_ir.specs.States.{State}
use Rattle.tac_ir.specs.Calls.{opened, enter}
use Rattle.tac_ir.proofs.Seen.{seen_append}
use Rattle.tac_build.specs.Homes.{Scope}
use Rattle.tac_build.specs.Forms.{context_of, scope_types}
use Rattle.tac_simulation.specs.Standing.{Placement, Frame, image, IsAmong, ContentStands, At, surroundings}
use Rattle.tac_simulation.specs.Entered.{entered, is_among, hidden_within}
use Rattle.tac_simulation.proofs.Memory.{same_local-true, same_local-refl, same_object-refl}
use Rattle.tac_simulation.proofs.Allocating.{other_content'}
use Rattle.tac_simulation.proofs.Newly.{of_activation}
use Rattle.tac_simulation.proofs.Evaluating.{AtSpot}

-- ---- locals in scope

among-is : (number : ℕ) (locals : List ℕ) → is_among number locals ≡ true → IsAmong number locals
among-is number [] h = absurd (cc)
among-is number (first ∷ others) h = by (first == number) refl h (among-is number others)
  where
    by : (b : Bool) → (first == number) ≡ b → (b || is_among number others) ≡ true → (is_among number others ≡ true → IsAmong number others) → (first ≡ number) ⊎ IsAmong number others
    by true e h later = inl (eqb-true first number e)
    by false e h later = inr (later h)

among_given : (s : S.State) (locals : List ℕ) (types : List CType) → AreLocals s locals types → (number : ℕ) → IsAmong number locals → number < s.next_local
among_given s [] types are number among = absurd among
among_given s (newest ∷ others) [] are number among = absurd are
among_given s (newest ∷ others) (c_type ∷ types) are number (inl same) = subst (λ n. n < s.next_local) same are.0
among_given s (newest ∷ others) (c_type ∷ types) are number (inr later) = among_given s others types are.2 number later

-- ---- objects of a new activation

same_local_of : {activation : ℕ} {local other : Local} → OfActivation activation local ≡ OfActivation activation other → local ≡ other
same_local_of e = cc

-- each object is there, of its type
opened_there : (around : Surroundings) (activation : ℕ) (own : List OwnObject) (objects : Objects) (local : Local) (inner : Inner) → own_type own local ≡ Some inner
    → (held : ℕ → Option Value) × (opened around activation own objects (OfActivation activation local) ≡ Typed inner.c_type 1 held)
opened_there around activation [] objects local inner is = absurd (none-some inner is)
opened_there around activation (first ∷ others) objects local inner is = by (same_local first.local local) refl is (λ later. opened_there around activation others objects local inner later)
  where
    differs : same_local first.local local ≡ false → OfActivation activation first.local ≡ OfActivation activation local → ⊥
    differs e same = true≢false (sym (same_local-refl local) ∙ subst (λ l. same_local l local ≡ false) (same_local_of same) e)

    by : (b : Bool) → same_local first.local local ≡ b → (if b then whole first.c_type else own_type others local) ≡ Some inner
        → (own_type others local ≡ Some inner → (held : ℕ → Option Value) × (opened around activation others objects (OfActivation activation local) ≡ Typed inner.c_type 1 held))
        → (held : ℕ → Option Value) × (with_content (OfActivation activation first.local) (Typed first.c_type 1 (λ offset. None)) (opened around activation others objects) (OfActivation activation local) ≡ Typed inner.c_type 1 held)
    by true e is later =
        let same : first.local ≡ local = same_local-true first.local local e in
        let inner_is : record { offset = 0; c_type = first.c_type } ≡ inner = same_Some _ inner is in (
          (λ offset. None),
          subst (λ l. with_content (OfActivation activation first.local) (Typed first.c_type 1 (λ offset. None)) (opened around activation others objects) (OfActivation activation l) ≡ Typed inner.c_type 1 (λ offset. None)) same
              (ap (λ b. if b then Typed first.c_type 1 (λ offset. None) else opened around activation others objects (OfActivation activation first.local)) (same_object-refl (OfActivation activation first.local))
              ∙ ap (λ (i : Inner). Typed i.c_type 1 (λ offset. None)) inner_is),
        )
    by false e is later =
        let rest = later is in
        (rest.0, other_content' (OfActivation activation first.local) (OfActivation activation local) (Typed first.c_type 1 (λ offset. None)) (opened around activation others objects) (differs e) ∙ rest.1)

-- no other object changes
opened_other : (around : Surroundings) (activation : ℕ) (own : List OwnObject) (objects : Objects) (object : Object) → ((local : Local) → OfActivation activation local ≡ object → ⊥)
    → opened around activation own objects object ≡ objects object
opened_other around activation [] objects object differs = refl
opened_other around activation (first ∷ others) objects object differs =
    other_content' (OfActivation activation first.local) object (Typed first.c_type 1 (λ offset. None)) (opened around activation others objects) (differs first.local) ∙ opened_other around activation others objects object differs

-- ---- the state

same_activation : {activation other : ℕ} {local local' : Local} → OfActivation activation local ≡ OfActivation other local' → activation ≡ other
same_activation e = cc

module _ (tac : Tac) (program : Program) (calls : Calls) (worth : ℕ) (points : List Op) (placement : Placement) (hidden : ℕ → Option V.Content) (frame : Frame) (scope : Scope) (at : ℕ) (s : S.State) (state : State)
    (h : AtSpot tac program calls worth points placement hidden frame scope at s state) (site number : ℕ) (function : Function) (values : List Value) where
  -- no object that stands for one of the reference is of the new activation
  unplaced : (local : Local) (name : Name) → image program placement name ≡ Some (OfActivation state.next_activation local) → ⊥
  unplaced local name is =
      let its = of_activation program placement state.next_activation local name is in
      let placed : placement its.0 ≡ Some (OfActivation state.next_activation local) = ap (image program placement) (sym its.1) ∙ is in
      let was = (h.stands.stands.placed its.0 (OfActivation state.next_activation local) placed).1 in
      let same : state.next_activation ≡ was.0 = same_activation was.2 in
      let less = was.3 in
      omega (arith, same, less)

  same_object : (name : Name) (object : Object) → image program placement name ≡ Some object → opened (surroundings program frame) state.next_activation function.objects state.objects object ≡ state.objects object
  same_object name object is = opened_other (surroundings program frame) state.next_activation function.objects state.objects object (λ local e. unplaced local name (is ∙ ap Some (sym e)))

  -- what is hidden of a local
  abbrev hides_by : ℕ → Bool → Option Object → Option V.Content
  hides_by other true None = Some (s.objects (LocalObject other))
  hides_by other true (Some object) = hidden other
  hides_by other false found = hidden other

  hides_is : (other : ℕ) (b : Bool) → is_among other s.locals ≡ b → (found : Option Object) → placement other ≡ found → hidden_within placement s.locals s.objects hidden other ≡ hides_by other b found
  hides_is other true e None e' = rw (e, e') refl
  hides_is other true e (Some object) e' = rw (e, e') refl
  hides_is other false e found e' = rw e refl

  -- what is hidden holds what it holds
  hides : (other : ℕ) (content : V.Content) → hidden_within placement s.locals s.objects hidden other ≡ Some content → (other < s.next_local) × (s.objects (LocalObject other) ≡ content) × (placement other ≡ None)
  hides other content is = by (is_among other s.locals) refl (placement other) refl (sym (hides_is other (is_among other s.locals) refl (placement other) refl) ∙ is)
    where
      before : hidden other ≡ Some content → (other < s.next_local) × (s.objects (LocalObject other) ≡ content) × (placement other ≡ None)
      before is = let was = h.stands.stands.unchanged other content is in (was.0, was.1, was.2)

      by : (b : Bool) → is_among other s.locals ≡ b → (found : Option Object) → placement other ≡ found → hides_by other b found ≡ Some content
          → (other < s.next_local) × (s.objects (LocalObject other) ≡ content) × (placement other ≡ None)
      by true e None e' is = (among_given s s.locals (scope_types scope) h.sound.locals other (among-is other s.locals e), same_Some _ content is, e')
      by true e (Some object) e' is = before is
      by false e found e' is = before is

  -- the code is at the function's first point
  pub at_entered : At program placement (hidden_within placement s.locals s.objects hidden) (entered site number function state) [] 0 (record s { locals = []; trace = s.trace ++ Called number ∷ [] })
      (enter (surroundings program frame) site number function values state)
  at_entered = record {
    stands = record {
      input = h.stands.stands.input;
      heap = h.stands.stands.heap;
      trace = seen_append state.trace (Entered site number ∷ []) ∙ ap (λ trace. trace ++ Called number ∷ []) h.stands.stands.trace;
      memory = record {
        contents = λ name object is. subst (λ content. ContentStands program s.objects placement (s.objects name) content) (sym (same_object name object is)) (h.stands.stands.memory.contents name object is);
        apart = h.stands.stands.memory.apart;
      };
      placed = λ other object is.
          let was = h.stands.stands.placed other object is in
          let less = was.1.3 in
          (was.0, (was.1.0, was.1.1, was.1.2, omega (arith, less)));
      unchanged = λ other content is. let was = hides other content is in (was.0, was.1, was.2, λ none. none);
    };
    homes = tt;
    own = record {
      there = λ local inner is. let own = opened_there (surroundings program frame) state.next_activation function.objects state.objects local inner is in (own.0, own.1, omega arith);
      in_scope = λ other local is lives. absurd (unplaced local (LocalObject other) is);
    };
    point = refl;
    owner = refl;
    number = refl;
    callers = refl;
    paid = refl;
  }

  pub later_entered : Later s (record s { locals = []; trace = s.trace ++ Called number ∷ [] })
  later_entered = let own = own_later s in record { next_local = own.next_local; next_heap = own.next_heap; may = own.may; lives = own.lives }

  -- and the reference's state is sound
  pub sound_entered : Sound (context_of program []) (record s { locals = []; trace = s.trace ++ Called number ∷ [] })
  sound_entered = sound_later_with h.sound later_entered (λ name. content_lasts program later_entered (s.objects name) (h.sound.contents name))
      (λ name fresh. h.sound.fresh name (λ given. fresh (given_lasts program later_entered name given))) tt
