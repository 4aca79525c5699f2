-- A local begins to live on both sides, wherever its home is apart from those in scope: a parameter's, too.
use Rattle.std.proofs.Common.{◌≡◌, ℕ, suc, ◌<◌, ◌≤◌, ◌==◌, Bool, true, false, if◌then◌else◌, List, [], ◌∷◌, Option, Some, None, ◌⊎◌, inl, inr, refl, sym, ap, ◌∙◌, subst, eq-eqb, ne_eqb, eqb-true, lt_irrefl, arith}
use Rattle.std.proofs.lemmas.Bool.{cond-false, cond-true, true≢false}
use Rattle.std.proofs.lemmas.Option.{none-some, same_Some}
use Rattle.c_typed.specs.Types.{CType}
use Rattle.c_typed.specs.Typed.{GlobalDef, LiteralDef, Program}
use Rattle.ref_semantics.specs.Values as V
use Rattle.ref_semantics.specs.Values.{Name, Heap, GlobalObject, LiteralObject, LocalObject, Scalar, same_name}
use Rattle.ref_semantics.specs.Store as S
use Rattle.ref_semantics.specs.Sound.{WasGiven, IsSoundContent, AreLocals, Sound}
use Rattle.ref_semantics.proofs.Objects.{same_name-true}
use Rattle.tac_ir.specs.declared.register.Local.{Local}
use Rattle.tac_ir.specs.declared.register.Register.TheVariants as R
use Rattle.tac_ir.specs.Values.{Object, OfActivation, Value, Content, Typed, Objects}
use Rattle.tac_ir.specs.Trees.{Registers}
use Rattle.tac_ir.specs.Layouts.{Inner}
use Rattle.tac_ir.specs.Objects.{own_type}
use Rattle.tac_ir.specs.States.{State}
use Rattle.tac_ir.specs.First.{named_global, placed_literal}
use Rattle.tac_build.specs.Homes.{Home, Scope}
use Rattle.tac_build.specs.Forms.{scope_types, context_of}
use Rattle.tac_simulation.specs.Standing.{Placement, Frame, image, global_object, literal_object, IsAlive, IsAmong, IsApart, ContentStands, MemoryStands, HomeStands, HomesStand, At}
use Rattle.tac_simulation.proofs.Executing.{Extends}
use Rattle.tac_simulation.proofs.Given.{NamesGiven, typed_given, content_given, held_given}
use Rattle.tac_simulation.proofs.Memory.{same_name-refl}
use Rattle.tac_simulation.proofs.Allocating.{other_content}
use Rattle.tac_simulation.proofs.Opening.{opened, home_object, placed_with, HasOwn}

pub new_place : (number : ℕ) (own : Option Object) (placement : Placement) → placed_with number own placement number ≡ own
new_place number own placement = cond-true (number == number) own (placement number) (eq-eqb number number refl)

old_place : (number : ℕ) (own : Option Object) (placement : Placement) (other : ℕ) → (number ≡ other → ⊥) → placed_with number own placement other ≡ placement other
old_place number own placement other differs = cond-false (number == other) own (placement other) (ne_eqb number other differs)

pub got_content : (name : Name) (content : V.Content) (objects : S.Objects) → S.with_content name content objects name ≡ content
got_content name content objects = ap (λ b. if b then content else objects name) (same_name-refl name)

module _ (program : Program) (placement : Placement) (types : List CType) (s : S.State) (sound : Sound (record { program = program; locals = types }) s) (c_type : CType) (own : Option Object) where
  -- what was given is not the new local
  not_given : (name : Name) → WasGiven s name → LocalObject s.next_local ≡ name → ⊥
  not_given name given e = by s.next_local (subst (WasGiven s) (sym e) given)
    where
      by : (n : ℕ) → n < n → ⊥
      by n lt = omega arith

  old_content : (name : Name) → (LocalObject s.next_local ≡ name → ⊥) → (opened c_type s).objects name ≡ s.objects name
  old_content name differs = other_content (LocalObject s.next_local) name (V.Elements false c_type 1 (λ offset. None)) s.objects differs

  old_image : (name : Name) → (LocalObject s.next_local ≡ name → ⊥) → image program (placed_with s.next_local own placement) name ≡ image program placement name
  old_image (Heap number) differs = refl
  old_image (GlobalObject name) differs = refl
  old_image (LiteralObject place) differs = refl
  old_image (LocalObject number) differs = old_place s.next_local own placement number (λ e. differs (ap LocalObject e))

  pub lives_given : (name : Name) → WasGiven s name → IsAlive ((opened c_type s).objects name) → IsAlive (s.objects name)
  lives_given name given lives = subst IsAlive (old_content name (not_given name given)) lives

  pub images_given : (name : Name) → WasGiven s name → image program (placed_with s.next_local own placement) name ≡ image program placement name
  images_given name given = old_image name (not_given name given)

  moves : (name : Name) (content : Content) → ContentStands program s.objects placement (s.objects name) content → ContentStands program (opened c_type s).objects (placed_with s.next_local own placement) (s.objects name) content
  moves name content stands = content_given program s placement (placed_with s.next_local own placement) (opened c_type s).objects lives_given images_given (s.objects name) content (sound.contents name) stands

  -- memory stands: the object holds what it held before, of which nothing is read
  opened_stands : (objects' : Objects) → ((object : Object) → own ≡ Some object → (held : ℕ → Option Value) × (objects' object ≡ Typed c_type 1 held))
      → ((other : Name) (object : Object) → own ≡ Some object → IsAlive (s.objects other) → image program placement other ≡ Some object → ⊥)
      → MemoryStands program placement s.objects objects' → MemoryStands program (placed_with s.next_local own placement) (opened c_type s).objects objects'
  opened_stands objects' there unique memory = record {
    contents = λ name object is. contents name object is (same_name (LocalObject s.next_local) name) refl;
    apart = λ one other object lives lives' is is'. apart one other object lives lives' is is' (same_name (LocalObject s.next_local) one) refl (same_name (LocalObject s.next_local) other) refl;
  }
    where
      differs : (other : Name) → same_name (LocalObject s.next_local) other ≡ false → LocalObject s.next_local ≡ other → ⊥
      differs other e same = true≢false (sym (same_name-refl other) ∙ subst (λ n. same_name n other ≡ false) same e)

      its_own : (name : Name) (object : Object) → image program (placed_with s.next_local own placement) name ≡ Some object → same_name (LocalObject s.next_local) name ≡ true → own ≡ Some object
      its_own name object is e =
          sym (new_place s.next_local own placement) ∙ ap (image program (placed_with s.next_local own placement)) (same_name-true (LocalObject s.next_local) name e) ∙ is

      contents : (name : Name) (object : Object) → image program (placed_with s.next_local own placement) name ≡ Some object → (b : Bool) → same_name (LocalObject s.next_local) name ≡ b
          → ContentStands program (opened c_type s).objects (placed_with s.next_local own placement) ((opened c_type s).objects name) (objects' object)
      contents name object is true e =
          let held = there object (its_own name object is e) in
          let content : (opened c_type s).objects name ≡ V.Elements false c_type 1 (λ offset. None) = sym (ap (opened c_type s).objects (same_name-true (LocalObject s.next_local) name e)) ∙ got_content (LocalObject s.next_local) (V.Elements false c_type 1 (λ offset. None)) s.objects in
          subst (λ content. ContentStands program (opened c_type s).objects (placed_with s.next_local own placement) content (objects' object)) (sym content)
          (held.0, held.1, λ offset leaf scalar at_leaf is_held. absurd (none-some scalar is_held))
      contents name object is false e =
          subst (λ content. ContentStands program (opened c_type s).objects (placed_with s.next_local own placement) content (objects' object)) (sym (old_content name (differs name e)))
          (moves name (objects' object) (memory.contents name object (sym (old_image name (differs name e)) ∙ is)))

      lived : (name : Name) → same_name (LocalObject s.next_local) name ≡ false → IsAlive ((opened c_type s).objects name) → IsAlive (s.objects name)
      lived name e lives = subst IsAlive (old_content name (differs name e)) lives

      apart : (one other : Name) (object : Object) → IsAlive ((opened c_type s).objects one) → IsAlive ((opened c_type s).objects other) → image program (placed_with s.next_local own placement) one ≡ Some object
          → image program (placed_with s.next_local own placement) other ≡ Some object → (b : Bool) → same_name (LocalObject s.next_local) one ≡ b → (b' : Bool) → same_name (LocalObject s.next_local) other ≡ b' → one ≡ other
      apart one other object lives lives' is is' true e true e' = sym (same_name-true (LocalObject s.next_local) one e) ∙ same_name-true (LocalObject s.next_local) other e'
      apart one other object lives lives' is is' true e false e' =
          absurd (unique other object (its_own one object is e) (lived other e' lives') (sym (old_image other (differs other e')) ∙ is'))
      apart one other object lives lives' is is' false e true e' =
          absurd (unique one object (its_own other object is' e') (lived one e lives) (sym (old_image one (differs one e)) ∙ is))
      apart one other object lives lives' is is' false e false e' =
          memory.apart one other object (lived one e lives) (lived other e' lives') (sym (old_image one (differs one e)) ∙ is) (sym (old_image other (differs other e')) ∙ is')

  -- ---- homes

  not_older : (number : ℕ) → number < s.next_local → s.next_local ≡ number → ⊥
  not_older number less e = omega (arith, e, less)

  local_named : (number : ℕ) (own_type : CType) (held : ℕ → Option Scalar) → s.objects (LocalObject number) ≡ V.Elements false own_type 1 held → (scalar : Scalar) → held 0 ≡ Some scalar → NamesGiven s scalar
  local_named number own_type held content scalar is =
      let holds = subst (IsSoundContent program s) content (sound.contents (LocalObject number)) in
      let leaf = holds.leaves 0 scalar is in
      typed_given program s leaf.0 scalar leaf.1.scalar leaf.2

  module _ (activation : ℕ) (registers : Registers) where
    old_home : (home : Home) (number : ℕ) → number < s.next_local → HomeStands program placement activation s.objects registers home number
        → HomeStands program (placed_with s.next_local own placement) activation (opened c_type s).objects registers home number
    old_home home number less stands = by home.is_object stands
      where
        by : (b : Bool) → HomeStands program placement activation s.objects registers (record home { is_object = b }) number
            → HomeStands program (placed_with s.next_local own placement) activation (opened c_type s).objects registers (record home { is_object = b }) number
        by true stands = old_place s.next_local own placement number (not_older number less) ∙ stands
        by false stands = (
          old_place s.next_local own placement number (not_older number less) ∙ stands.0,
          (
            stands.1.0,
            old_content (LocalObject number) (not_given (LocalObject number) less) ∙ stands.1.1,
            λ scalar is. held_given program s placement (placed_with s.next_local own placement) (opened c_type s).objects lives_given images_given scalar (registers (R.Local home.local))
                (local_named number home.c_type stands.1.0 stands.1.1 scalar is) (stands.1.2 scalar is),
          ),
        )

    old_homes : (scope : Scope) (locals : List ℕ) → AreLocals s locals (scope_types scope) → HomesStand program placement activation s.objects registers scope locals
        → HomesStand program (placed_with s.next_local own placement) activation (opened c_type s).objects registers scope locals
    old_homes [] [] are stands = tt
    old_homes (home ∷ scope) (newest ∷ others) are stands = (old_home home newest are.0 stands.0, old_homes scope others are.2 stands.1, stands.2)
    old_homes [] (newest ∷ others) are stands = absurd stands
    old_homes (home ∷ scope) [] are stands = absurd stands

-- ---- names

same_local_of : {activation : ℕ} {local other : Local} → OfActivation activation local ≡ OfActivation activation other → local ≡ other
same_local_of e = cc

-- no local in scope has the object of the new one
among_apart : (program : Program) (placement : Placement) (activation : ℕ) (objects : S.Objects) (registers : Registers) (new : Local) (newest : ℕ) (scope : Scope) (locals : List ℕ) (number : ℕ)
    → HomesStand program placement activation objects registers scope locals → IsApart new newest scope locals → IsAmong number locals → placement number ≡ Some (OfActivation activation new) → ⊥
among_apart program placement activation objects registers new newest [] [] number stands apart among is = among
among_apart program placement activation objects registers new newest [] (older ∷ others) number stands apart among is = stands
among_apart program placement activation objects registers new newest (home ∷ scope) [] number stands apart among is = stands
among_apart program placement activation objects registers new newest (home ∷ scope) (older ∷ others) number stands apart (inr later) is =
    among_apart program placement activation objects registers new newest scope others number stands.1 apart.2 later is
among_apart program placement activation objects registers new newest (home ∷ scope) (older ∷ others) number stands apart (inl same) is =
    by home.is_object (subst (λ n. HomeStands program placement activation objects registers home n) same stands.0)
  where
    by : (b : Bool) → HomeStands program placement activation objects registers (record home { is_object = b }) number → ⊥
    by true at = let e : OfActivation activation new ≡ OfActivation activation home.local = same_Some _ _ (sym is ∙ at) in apart.0 (same_local_of e)
    by false at = none-some _ (sym at.0 ∙ is)

-- only a local has an object of an activation
pub of_activation : (program : Program) (placement : Placement) (activation : ℕ) (local : Local) (other : Name) → image program placement other ≡ Some (OfActivation activation local) → (number : ℕ) × (other ≡ LocalObject number)
of_activation program placement activation local (Heap number) is = absurd (cc)
of_activation program placement activation local (LocalObject number) is = (number, refl)
of_activation program placement activation local (GlobalObject name) is = absurd (by (named_global 0 program.globals name) is)
  where
    by : (found : Option (ℕ × GlobalDef)) → global_object found ≡ Some (OfActivation activation local) → ⊥
    by None e = none-some (OfActivation activation local) e
    by (Some found) e = cc
of_activation program placement activation local (LiteralObject place) is = absurd (by (placed_literal 0 program.literals place) is)
  where
    by : (found : Option (ℕ × LiteralDef)) → literal_object found ≡ Some (OfActivation activation local) → ⊥
    by None e = none-some (OfActivation activation local) e
    by (Some found) e = cc

-- ---- states

is_own : (activation : ℕ) (home : Home) (object : Object) → home_object activation home ≡ Some object → (home.is_object ≡ true) × (object ≡ OfActivation activation home.local)
is_own activation home object e = by home.is_object e
  where
    by : (b : Bool) → (if b then Some (OfActivation activation home.local) else None) ≡ Some object → (b ≡ true) × (object ≡ OfActivation activation home.local)
    by true e = (refl, sym (same_Some (OfActivation activation home.local) object e))
    by false e = absurd (none-some object e)

module _ (program : Program) (placement : Placement) (hidden : ℕ → Option V.Content) (frame : Frame) (scope : Scope) (home : Home) (at : ℕ) (s : S.State) (t : State)
    (own : HasOwn frame home) (apart : IsApart home.local s.next_local scope s.locals) (sound : Sound (context_of program scope) s) (h : At program placement hidden frame scope at s t) where
  abbrev object : Option Object
  object = home_object frame.number home

  abbrev after : Placement
  after = placed_with s.next_local object placement

  -- the new number has no object yet
  pub unplaced : placement s.next_local ≡ None
  unplaced = by (placement s.next_local) refl
    where
      by : (found : Option Object) → placement s.next_local ≡ found → found ≡ None
      by None e = refl
      by (Some found) e = absurd (lt_irrefl s.next_local (h.stands.placed s.next_local found e).0)

  there : (found : Object) → home_object frame.number home ≡ Some found → (held : ℕ → Option Value) × (t.objects found ≡ Typed home.c_type 1 held) × (frame.number < t.next_activation)
  there found e =
      let is = is_own frame.number home found e in
      let was = h.own.there home.local (record { offset = 0; c_type = home.c_type }) (own is.0) in
      (was.0, ap t.objects is.1 ∙ was.1, was.2)

  unique : (other : Name) (found : Object) → home_object frame.number home ≡ Some found → IsAlive (s.objects other) → image program placement other ≡ Some found → ⊥
  unique other found e lives is =
      let its = is_own frame.number home found e in
      let same : image program placement other ≡ Some (OfActivation frame.number home.local) = is ∙ ap Some its.1 in
      let local = of_activation program placement frame.number home.local other same in
      let placed : placement local.0 ≡ Some (OfActivation frame.number home.local) = ap (image program placement) (sym local.1) ∙ same in
      among_apart program placement frame.number s.objects t.running.registers home.local s.next_local scope s.locals local.0 h.homes apart
      (h.own.in_scope local.0 home.local placed (subst (λ n. IsAlive (s.objects n)) local.1 lives)).0 placed

  pub begun_extends : Extends frame s.next_local placement (placed_with s.next_local (home_object frame.number home) placement)
  begun_extends number = by (s.next_local == number) refl
    where
      new : (b : Bool) → s.next_local ≡ number → (((if b then Some (OfActivation frame.number home.local) else None) ≡ placement number) ⊎ ((s.next_local ≤ number) × ((local : Local) × ((if b then Some (OfActivation frame.number home.local) else None) ≡ Some (OfActivation frame.number local)))))
      new true e = inr (omega (arith, e), (home.local, refl))
      new false e = inl (sym unplaced ∙ ap placement e)

      by : (b : Bool) → (s.next_local == number) ≡ b
          → ((if b then home_object frame.number home else placement number) ≡ placement number) ⊎ ((s.next_local ≤ number) × ((local : Local) × ((if b then home_object frame.number home else placement number) ≡ Some (OfActivation frame.number local))))
      by true e = new home.is_object (eqb-true s.next_local number e)
      by false e = inl refl

  new_home_stands : HomeStands program (placed_with s.next_local (home_object frame.number home) placement) frame.number (opened home.c_type s).objects t.running.registers home s.next_local
  new_home_stands = by home.is_object (new_place s.next_local (home_object frame.number home) placement)
    where
      by : (b : Bool) → placed_with s.next_local (home_object frame.number home) placement s.next_local ≡ (if b then Some (OfActivation frame.number home.local) else None)
          → HomeStands program (placed_with s.next_local (home_object frame.number home) placement) frame.number (opened home.c_type s).objects t.running.registers (record home { is_object = b }) s.next_local
      by true is = is
      by false is = (is, ((λ offset. None), got_content (LocalObject s.next_local) (V.Elements false home.c_type 1 (λ offset. None)) s.objects, λ scalar e. absurd (none-some scalar e)))

  -- the code is where it was, and one more local is in scope
  pub at_begun : At program (placed_with s.next_local (home_object frame.number home) placement) hidden frame (home ∷ scope) at (opened home.c_type s) t
  at_begun = record {
    stands = record {
      input = h.stands.input;
      heap = h.stands.heap;
      trace = h.stands.trace;
      memory = opened_stands program placement (scope_types scope) s sound home.c_type (home_object frame.number home) t.objects (λ found e. let own = there found e in (own.0, own.1)) unique h.stands.memory;
      placed = λ number found is. placed_by number found (s.next_local == number) refl is;
      unchanged = λ number content hides.
          let was = h.stands.unchanged number content hides in (
            later number was.0,
            old_content program placement (scope_types scope) s sound home.c_type (home_object frame.number home) (LocalObject number) (not_given program placement (scope_types scope) s sound home.c_type (home_object frame.number home) (LocalObject number) was.0) ∙ was.1,
            old_place s.next_local (home_object frame.number home) placement number (older number was.0) ∙ was.2,
            not_among number was.0 was.3,
          );
    };
    homes = (new_home_stands, old_homes program placement (scope_types scope) s sound home.c_type (home_object frame.number home) frame.number t.running.registers scope s.locals sound.locals h.homes, apart);
    own = record { there = h.own.there; in_scope = λ number local is lives. in_scope number local (s.next_local == number) refl is lives };
    point = h.point;
    owner = h.owner;
    number = h.number;
    callers = h.callers;
    paid = h.paid;
  }
    where
      later : (number : ℕ) → number < s.next_local → number < suc s.next_local
      later number less = omega (arith, less)

      older : (number : ℕ) → number < s.next_local → s.next_local ≡ number → ⊥
      older number less e = omega (arith, e, less)

      not_among : (number : ℕ) → number < s.next_local → (IsAmong number s.locals → ⊥) → IsAmong number (s.next_local ∷ s.locals) → ⊥
      not_among number less not (inl same) = older number less same
      not_among number less not (inr among) = not among

      placed_by : (number : ℕ) (found : Object) (b : Bool) → (s.next_local == number) ≡ b → (if b then home_object frame.number home else placement number) ≡ Some found
          → (number < suc s.next_local) × ((activation : ℕ) × (local : _) × (found ≡ OfActivation activation local) × (activation < t.next_activation))
      placed_by number found true e is =
          let same = eqb-true s.next_local number e in
          (omega (arith, same), (frame.number, home.local, (is_own frame.number home found is).1, (there found is).2))
      placed_by number found false e is = let was = h.stands.placed number found is in (later number was.0, was.1)

      same_local_of : {local : Local} → OfActivation frame.number local ≡ OfActivation frame.number home.local → local ≡ home.local
      same_local_of e = cc

      in_scope : (number : ℕ) (local : Local) (b : Bool) → (s.next_local == number) ≡ b → (if b then home_object frame.number home else placement number) ≡ Some (OfActivation frame.number local)
          → IsAlive ((opened home.c_type s).objects (LocalObject number)) → IsAmong number (s.next_local ∷ s.locals) × ((inner : Inner) × (own_type frame.objects local ≡ Some inner))
      in_scope number local true e is lives =
          let its = is_own frame.number home (OfActivation frame.number local) is in
          let same : local ≡ home.local = same_local_of its.1 in
          (inl (eqb-true s.next_local number e), (record { offset = 0; c_type = home.c_type }, ap (own_type frame.objects) same ∙ own its.0))
      in_scope number local false e is lives =
          let given = (h.stands.placed number (OfActivation frame.number local) is).0 in
          let was = h.own.in_scope number local is (lives_given program placement (scope_types scope) s sound home.c_type (home_object frame.number home) (LocalObject number) given lives) in
          (inr was.0, was.1)
