-- A scope is left on both sides: the locals that it declared die, and have no object any more.
use Rattle.std.proofs.Common.{◌≡◌, ℕ, ◌<◌, ◌≤◌, ◌==◌, Bool, true, false, if◌then◌else◌, nat_lt, List, [], ◌∷◌, ◌++◌, length, Option, Some, None, ◌⊎◌, inl, inr, refl, sym, ap, ◌∙◌, subst, eq-eqb, ne_eqb, length-append, lt-suc_self, arith}
use Rattle.std.proofs.lemmas.Bool.{cond-false, cond-true, lt-ltb, le-ltb}
use Rattle.std.proofs.lemmas.Option.{none-some}
use Rattle.c_typed.specs.Types.{CType}
use Rattle.c_typed.specs.Typed.{Program}
use Rattle.ref_semantics.specs.Values as V
use Rattle.ref_semantics.specs.Values.{Name, Heap, GlobalObject, LiteralObject, LocalObject, Scalar, same_name}
use Rattle.ref_semantics.specs.Store as S
use Rattle.ref_semantics.specs.Meaning.{killed, kept}
use Rattle.ref_semantics.specs.Sound.{AreLocals, Sound}
use Rattle.ref_semantics.proofs.Storing.{left}
use Rattle.tac_ir.specs.declared.register.Local.{Local}
use Rattle.tac_ir.specs.declared.register.Register.TheVariants as R
use Rattle.tac_ir.specs.Values.{OfActivation, Value}
use Rattle.tac_ir.specs.Trees.{Registers}
use Rattle.tac_ir.specs.States.{State}
use Rattle.tac_build.specs.Homes.{Home, Scope}
use Rattle.tac_build.specs.Forms.{scope_types, context_of}
use Rattle.tac_simulation.specs.Standing.{Placement, Frame, image, IsAlive, IsAmong, IsApart, HoldsFor, MemoryStands, HomeStands, HomesStand, At}
use Rattle.tac_simulation.proofs.Executing.{Extends}
use Rattle.tac_simulation.proofs.Fewer.{fewer_stand, fewer_held}

-- ---- locals that die

-- all of these die
abbrev pub all_killed : List ℕ → S.Objects → S.Objects
all_killed [] objects = objects
all_killed (newest ∷ others) objects = all_killed others (S.with_content (LocalObject newest) V.Dead objects)

not_fewer : (front own : List ℕ) → nat_lt (length (front ++ own)) (length own) ≡ false
not_fewer front own = let long = length-append front own in le-ltb (length (front ++ own)) (length own) (omega (arith, long))

pub killed_is : (front own : List ℕ) (objects : S.Objects) → killed (length own) (front ++ own) objects ≡ all_killed front objects
killed_is [] [] objects = refl
killed_is [] (newest ∷ own) objects = cond-true (nat_lt (length own) (length (newest ∷ own))) _ _ (lt-ltb (length own) (length (newest ∷ own)) (lt-suc_self (length own)))
killed_is (newest ∷ front) own objects =
    cond-false (nat_lt (length (front ++ own)) (length own)) _ _ (not_fewer front own) ∙ killed_is front own (S.with_content (LocalObject newest) V.Dead objects)

pub kept_is : (front own : List ℕ) → kept (length own) (front ++ own) ≡ own
kept_is [] [] = refl
kept_is [] (newest ∷ own) = cond-true (nat_lt (length own) (length (newest ∷ own))) _ _ (lt-ltb (length own) (length (newest ∷ own)) (lt-suc_self (length own)))
kept_is (newest ∷ front) own = cond-false (nat_lt (length (front ++ own)) (length own)) _ _ (not_fewer front own) ∙ kept_is front own

-- a dead one stays dead
stays_dead : (front : List ℕ) (objects : S.Objects) (name : Name) → objects name ≡ V.Dead → all_killed front objects name ≡ V.Dead
stays_dead [] objects name dead = dead
stays_dead (newest ∷ others) objects name dead = stays_dead others (S.with_content (LocalObject newest) V.Dead objects) name (by (same_name (LocalObject newest) name))
  where
    by : (b : Bool) → (if b then V.Dead else objects name) ≡ V.Dead
    by true = refl
    by false = dead

-- what is alive holds what it held, and is none of them
pub killed_same : (front : List ℕ) (objects : S.Objects) (name : Name) → IsAlive (all_killed front objects name) → all_killed front objects name ≡ objects name
killed_same [] objects name lives = refl
killed_same (newest ∷ others) objects name lives =
    let further = killed_same others (S.with_content (LocalObject newest) V.Dead objects) name lives in
    further ∙ by (same_name (LocalObject newest) name) (subst IsAlive further lives)
  where
    by : (b : Bool) → IsAlive (if b then V.Dead else objects name) → (if b then V.Dead else objects name) ≡ objects name
    by true lives = absurd lives
    by false lives = refl

pub killed_none : (front : List ℕ) (objects : S.Objects) (number : ℕ) → IsAlive (all_killed front objects (LocalObject number)) → IsAmong number front → ⊥
killed_none [] objects number lives among = among
killed_none (newest ∷ others) objects number lives (inr later) = killed_none others (S.with_content (LocalObject newest) V.Dead objects) number lives later
killed_none (newest ∷ others) objects number lives (inl same) =
    subst IsAlive (stays_dead others (S.with_content (LocalObject newest) V.Dead objects) (LocalObject number)
    (cond-true (newest == number) V.Dead (objects (LocalObject number)) (eq-eqb newest number same))) lives

-- what is none of them holds what it held
pub killed_other : (front : List ℕ) (objects : S.Objects) (number : ℕ) → (IsAmong number front → ⊥) → all_killed front objects (LocalObject number) ≡ objects (LocalObject number)
killed_other [] objects number not = refl
killed_other (newest ∷ others) objects number not =
    killed_other others (S.with_content (LocalObject newest) V.Dead objects) number (λ later. not (inr later))
    ∙ cond-false (newest == number) V.Dead (objects (LocalObject number)) (ne_eqb newest number (λ e. not (inl e)))

pub among_front : (front own : List ℕ) (number : ℕ) → IsAmong number front → IsAmong number (front ++ own)
among_front [] own number among = absurd among
among_front (newest ∷ front) own number (inl same) = inl same
among_front (newest ∷ front) own number (inr later) = inr (among_front front own number later)

pub among_own : (front own : List ℕ) (number : ℕ) → IsAmong number own → IsAmong number (front ++ own)
among_own [] own number among = among
among_own (newest ∷ front) own number among = inr (among_own front own number among)

pub among_either : (front own : List ℕ) (number : ℕ) → IsAmong number (front ++ own) → (IsAmong number front → ⊥) → IsAmong number own
among_either [] own number among not = among
among_either (newest ∷ front) own number (inl same) not = absurd (not (inl same))
among_either (newest ∷ front) own number (inr later) not = among_either front own number later (λ among. not (inr among))

-- locals in scope were given
pub among_given : (s : S.State) (locals : List ℕ) (types : List CType) (number : ℕ) → AreLocals s locals types → IsAmong number locals → number < s.next_local
among_given s [] types number are among = absurd among
among_given s (newest ∷ others) [] number are among = absurd are
among_given s (newest ∷ others) (c_type ∷ types) number are (inl same) = subst (λ n. n < s.next_local) same are.0
among_given s (newest ∷ others) (c_type ∷ types) number are (inr later) = among_given s others types number are.2 later

-- the outer locals stand behind the newer ones
pub outer_homes : (program : Program) (placement : Placement) (activation : ℕ) (objects : S.Objects) (registers : Registers) (more scope : Scope) (fresh outer : List ℕ) → length fresh ≡ length more
    → HomesStand program placement activation objects registers (more ++ scope) (fresh ++ outer) → HomesStand program placement activation objects registers scope outer
outer_homes program placement activation objects registers [] scope [] outer same stands = stands
outer_homes program placement activation objects registers (home ∷ more) scope (newest ∷ fresh) outer same stands =
    outer_homes program placement activation objects registers more scope fresh outer (omega (arith, same)) stands.1
outer_homes program placement activation objects registers [] scope (newest ∷ fresh) outer same stands = absurd (omega (arith, same))
outer_homes program placement activation objects registers (home ∷ more) scope [] outer same stands = absurd (omega (arith, same))

-- each outer local is none of the newer ones
not_fresh : (program : Program) (placement : Placement) (activation : ℕ) (objects : S.Objects) (registers : Registers) (more scope : Scope) (fresh outer : List ℕ) (number : ℕ) → length fresh ≡ length more
    → HomesStand program placement activation objects registers (more ++ scope) (fresh ++ outer) → IsAmong number fresh → IsAmong number outer → ⊥
not_fresh program placement activation objects registers more scope [] outer number same stands in_fresh in_outer = in_fresh
not_fresh program placement activation objects registers [] scope (newest ∷ fresh) outer number same stands in_fresh in_outer = absurd (omega (arith, same))
not_fresh program placement activation objects registers (home ∷ more) scope (newest ∷ fresh) outer number same stands (inr later) in_outer =
    not_fresh program placement activation objects registers more scope fresh outer number (omega (arith, same)) stands.1 later in_outer
not_fresh program placement activation objects registers (home ∷ more) scope (newest ∷ fresh) outer number same stands (inl is) in_outer =
    let less = older home.local newest (more ++ scope) (fresh ++ outer) number stands.1 stands.2 (among_own fresh outer number in_outer) in omega (arith, less, is)
  where
    older : (local : Local) (newest : ℕ) (inner : Scope) (others : List ℕ) (number : ℕ) → HomesStand program placement activation objects registers inner others → IsApart local newest inner others → IsAmong number others → number < newest
    older local newest [] [] number stands apart among = absurd among
    older local newest [] (first ∷ others) number stands apart among = absurd stands
    older local newest (home ∷ inner) [] number stands apart among = absurd stands
    older local newest (home ∷ inner) (first ∷ others) number stands apart (inl same) = subst (λ n. n < newest) same apart.1
    older local newest (home ∷ inner) (first ∷ others) number stands apart (inr later) = older local newest inner others number stands.1 apart.2 later

-- ---- states

module _ (program : Program) (placement placed : Placement) (hidden : ℕ → Option V.Content) (frame : Frame) (more scope : Scope) (fresh : List ℕ) (at0 at : ℕ) (s0 s : S.State) (t0 t : State)
    (sound : Sound (context_of program scope) s0) (before : At program placement hidden frame scope at0 s0 t0) (extends : Extends frame s0.next_local placement placed) (own : s.locals ≡ fresh ++ s0.locals)
    (depth : length fresh ≡ length more) (h : At program placed hidden frame (more ++ scope) at s t) where
  abbrev after : S.Objects
  after = all_killed fresh s.objects

  homes_here : HomesStand program placed frame.number s.objects t.running.registers (more ++ scope) (fresh ++ s0.locals)
  homes_here = subst (λ locals. HomesStand program placed frame.number s.objects t.running.registers (more ++ scope) locals) own h.homes

  outer_given : (number : ℕ) → IsAmong number s0.locals → number < s0.next_local
  outer_given number among = among_given s0 s0.locals (scope_types scope) number sound.locals among

  outer_none : (number : ℕ) → IsAmong number s0.locals → IsAmong number fresh → ⊥
  outer_none number among in_fresh = not_fresh program placed frame.number s.objects t.running.registers more scope fresh s0.locals number depth homes_here in_fresh among

  -- what had a number before has the place that it had
  same_place : (number : ℕ) → number < s0.next_local → placed number ≡ placement number
  same_place number less = by (extends number)
    where
      by : ((placed number ≡ placement number) ⊎ ((s0.next_local ≤ number) × ((local : Local) × (placed number ≡ Some (OfActivation frame.number local))))) → placed number ≡ placement number
      by (inl same) = same
      by (inr new) = let least = new.0 in absurd (omega (arith, less, least))

  -- a local of the activation that is still alive is one of the outer ones
  still_in_scope : (number : ℕ) (local : Local) → placed number ≡ Some (OfActivation frame.number local) → IsAlive (all_killed fresh s.objects (LocalObject number)) → IsAmong number s0.locals
  still_in_scope number local is lives =
      let was : IsAlive (s.objects (LocalObject number)) = subst IsAlive (killed_same fresh s.objects (LocalObject number) lives) lives in
      among_either fresh s0.locals number (subst (λ locals. IsAmong number locals) own (h.own.in_scope number local is was).0) (killed_none fresh s.objects number lives)

  same : (name : Name) → IsAlive (all_killed fresh s.objects name) → (all_killed fresh s.objects name ≡ s.objects name) × (image program placement name ≡ image program placed name)
  same (Heap number) lives = (killed_same fresh s.objects (Heap number) lives, refl)
  same (GlobalObject name) lives = (killed_same fresh s.objects (GlobalObject name) lives, refl)
  same (LiteralObject place) lives = (killed_same fresh s.objects (LiteralObject place) lives, refl)
  same (LocalObject number) lives = (killed_same fresh s.objects (LocalObject number) lives, by (extends number))
    where
      by : ((placed number ≡ placement number) ⊎ ((s0.next_local ≤ number) × ((local : Local) × (placed number ≡ Some (OfActivation frame.number local))))) → placement number ≡ placed number
      by (inl e) = sym e
      by (inr new) = let less = outer_given number (still_in_scope number new.1.0 new.1.1 lives) in let least = new.0 in absurd (omega (arith, less, least))

  left_memory : MemoryStands program placement (all_killed fresh s.objects) t.objects
  left_memory = fewer_stand program placed placement s.objects (all_killed fresh s.objects) t.objects t.objects same (λ name object lives is. refl) h.stands.memory

  -- what a value stands for stays
  pub left_held : (scalar : Scalar) (held : Option Value) → HoldsFor program s.objects placed scalar held → HoldsFor program (all_killed fresh s.objects) placement scalar held
  left_held scalar held holds = fewer_held program placed placement s.objects (all_killed fresh s.objects) t.objects t.objects same (λ name object lives is. refl) scalar held holds

  left_home : (registers : Registers) (home : Home) (number : ℕ) → number < s0.next_local → (IsAmong number fresh → ⊥) → HomeStands program placed frame.number s.objects registers home number
      → HomeStands program placement frame.number (all_killed fresh s.objects) registers home number
  left_home registers home number less none stands = by home.is_object stands
    where
      by : (b : Bool) → HomeStands program placed frame.number s.objects registers (record home { is_object = b }) number → HomeStands program placement frame.number (all_killed fresh s.objects) registers (record home { is_object = b }) number
      by true stands = sym (same_place number less) ∙ stands
      by false stands =
          (sym (same_place number less) ∙ stands.0, (stands.1.0, killed_other fresh s.objects number none ∙ stands.1.1, λ scalar is. left_held scalar (registers (R.Local home.local)) (stands.1.2 scalar is)))

  left_homes : (registers : Registers) (inner : Scope) (locals : List ℕ) → ((number : ℕ) → IsAmong number locals → (number < s0.next_local) × (IsAmong number fresh → ⊥))
      → HomesStand program placed frame.number s.objects registers inner locals → HomesStand program placement frame.number (all_killed fresh s.objects) registers inner locals
  left_homes registers [] [] known stands = tt
  left_homes registers (home ∷ inner) (newest ∷ others) known stands =
      let own = known newest (inl refl) in
      (left_home registers home newest own.0 own.1 stands.0, left_homes registers inner others (λ number among. known number (inr among)) stands.1, stands.2)
  left_homes registers [] (newest ∷ others) known stands = absurd stands
  left_homes registers (home ∷ inner) [] known stands = absurd stands

  abbrev pub left_state : S.State
  left_state = record s { objects = all_killed fresh s.objects; locals = s0.locals }

  pub left_is : left (length s0.locals) s ≡ record s { objects = all_killed fresh s.objects; locals = s0.locals }
  left_is =
      let objects = ap (λ locals. killed (length s0.locals) locals s.objects) own ∙ killed_is fresh s0.locals s.objects in
      let locals = ap (kept (length s0.locals)) own ∙ kept_is fresh s0.locals in
      λ i. record s { objects = objects i; locals = locals i }

  -- the code is where it was, with the outer locals in scope
  pub at_left : At program placement hidden frame scope at (record s { objects = all_killed fresh s.objects; locals = s0.locals }) t
  at_left = record {
    stands = record {
      input = h.stands.input;
      heap = h.stands.heap;
      trace = h.stands.trace;
      memory = left_memory;
      placed = λ number object is. let given = (before.stands.placed number object is).0 in h.stands.placed number object (same_place number given ∙ is);
      unchanged = λ number content hides.
          let was = h.stands.unchanged number content hides in
          let none : IsAmong number fresh → ⊥ = λ among. was.3 (subst (λ locals. IsAmong number locals) (sym own) (among_front fresh s0.locals number among)) in (
            was.0,
            killed_other fresh s.objects number none ∙ was.1,
            unplaced number (extends number) was.2,
            λ among. was.3 (subst (λ locals. IsAmong number locals) (sym own) (among_own fresh s0.locals number among)),
          );
    };
    homes = left_homes t.running.registers scope s0.locals (λ number among. (outer_given number among, outer_none number among))
        (outer_homes program placed frame.number s.objects t.running.registers more scope fresh s0.locals depth homes_here);
    own = record {
      there = h.own.there;
      in_scope = λ number local is lives.
          let given = (before.stands.placed number (OfActivation frame.number local) is).0 in
          let at_inner = same_place number given ∙ is in
          (still_in_scope number local at_inner lives, (h.own.in_scope number local at_inner (subst IsAlive (killed_same fresh s.objects (LocalObject number) lives) lives)).1);
    };
    point = h.point;
    owner = h.owner;
    number = h.number;
    callers = h.callers;
    paid = h.paid;
  }
    where
      unplaced : (number : ℕ) → ((placed number ≡ placement number) ⊎ ((s0.next_local ≤ number) × ((local : Local) × (placed number ≡ Some (OfActivation frame.number local))))) → placed number ≡ None → placement number ≡ None
      unplaced number (inl e) is = sym e ∙ is
      unplaced number (inr new) is = absurd (none-some _ (sym is ∙ new.1.1))
