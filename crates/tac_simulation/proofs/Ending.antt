-- At the end of a block its locals are given up: they are dead, and what stands for the locals outside and for values stays.
use Rattle.std.proofs.Common.{◌≡◌, ℕ, ◌≤◌, ◌<◌, ◌==◌, ◌⊎◌, inl, inr, Bool, true, false, if◌then◌else◌, List, [], ◌∷◌, ◌++◌, length, length-append, Option, Some, None, refl, sym, ap, ◌∙◌, subst, eqb-true, eq-eqb, lt-ltb, arith}
use Rattle.std.specs.Prelude.{nat_lt}
use Rattle.std.proofs.lemmas.Bool.{cond-true, cond-false, false_from_ne_true, ltb-true}
use Rattle.std.proofs.lemmas.Option.{none-some}
use Rattle.c_typed.specs.Typed.{Program}
use Rattle.ref_semantics.specs.Values as V
use Rattle.ref_semantics.specs.Values.{Name, Heap, GlobalObject, LiteralObject, LocalObject, Scalar, IntegerValue, NullValue, FunctionValue, PointerValue, RawPointer, same_name}
use Rattle.ref_semantics.specs.Store as S
use Rattle.ref_semantics.specs.Meaning.{killed, kept}
use Rattle.tac_ir.specs.declared.register.Local.{Local}
use Rattle.tac_ir.specs.declared.register.Register.TheVariants as R
use Rattle.tac_ir.specs.Values.{Object, OfActivation, Value, Content}
use Rattle.tac_ir.specs.Trees.{Registers}
use Rattle.tac_ir.specs.States.{State}
use Rattle.tac_build.specs.Homes.{Home, Scope}
use Rattle.tac_simulation.specs.Standing.{Placement, Frame, image, IsAlive, WhereAlive, ScalarStands, HoldsFor, ContentStands, MemoryStands, HomeStands, HomesStand, IsAmong, At}
use Rattle.tac_simulation.proofs.Alive.{where_alive}
use Rattle.tac_simulation.proofs.Allocating.{other_content}
use Rattle.tac_simulation.proofs.Executing.{Extends}

-- ---- what dies

not_fewer : (fresh outer : List ℕ) → nat_lt (length (fresh ++ outer)) (length outer) ≡ false
not_fewer fresh outer = false_from_ne_true (nat_lt (length (fresh ++ outer)) (length outer)) (λ e. let less = ltb-true (length (fresh ++ outer)) (length outer) e in omega (arith, less, length-append fresh outer))

is_fewer : (newest : ℕ) (others : List ℕ) → nat_lt (length others) (length (newest ∷ others)) ≡ true
is_fewer newest others = lt-ltb (length others) (length (newest ∷ others)) (omega arith)

pub kept_is : (fresh outer : List ℕ) → kept (length outer) (fresh ++ outer) ≡ outer
kept_is [] [] = refl
kept_is [] (newest ∷ outer) = cond-true (nat_lt (length outer) (length (newest ∷ outer))) (newest ∷ outer) (kept (length (newest ∷ outer)) outer) (is_fewer newest outer)
kept_is (newest ∷ fresh) outer = cond-false (nat_lt (length (fresh ++ outer)) (length outer)) (newest ∷ (fresh ++ outer)) (kept (length outer) (fresh ++ outer)) (not_fewer fresh outer) ∙ kept_is fresh outer

abbrev pub ended : List ℕ → List ℕ → S.Objects → S.Objects
ended fresh outer objects = killed (length outer) (fresh ++ outer) objects

none_ended : (outer : List ℕ) (objects : S.Objects) → ended [] outer objects ≡ objects
none_ended [] objects = refl
none_ended (newest ∷ outer) objects =
    cond-true (nat_lt (length outer) (length (newest ∷ outer))) objects (killed (length (newest ∷ outer)) outer (S.with_content (LocalObject newest) V.Dead objects)) (is_fewer newest outer)

more_ended : (newest : ℕ) (fresh outer : List ℕ) (objects : S.Objects) → ended (newest ∷ fresh) outer objects ≡ ended fresh outer (S.with_content (LocalObject newest) V.Dead objects)
more_ended newest fresh outer objects =
    cond-false (nat_lt (length (fresh ++ outer)) (length outer)) objects (killed (length outer) (fresh ++ outer) (S.with_content (LocalObject newest) V.Dead objects)) (not_fewer fresh outer)

other_ended : (fresh outer : List ℕ) (objects : S.Objects) (name : Name) → ((number : ℕ) → IsAmong number fresh → LocalObject number ≡ name → ⊥) → ended fresh outer objects name ≡ objects name
other_ended [] outer objects name differs = ap (λ all. all name) (none_ended outer objects)
other_ended (newest ∷ fresh) outer objects name differs =
    ap (λ all. all name) (more_ended newest fresh outer objects) ∙ other_ended fresh outer (S.with_content (LocalObject newest) V.Dead objects) name (λ number among. differs number (inr among))
    ∙ other_content (LocalObject newest) name V.Dead objects (differs newest (inl refl))

stays_dead : (fresh outer : List ℕ) (objects : S.Objects) (name : Name) → objects name ≡ V.Dead → ended fresh outer objects name ≡ V.Dead
stays_dead [] outer objects name dead = ap (λ all. all name) (none_ended outer objects) ∙ dead
stays_dead (newest ∷ fresh) outer objects name dead =
    ap (λ all. all name) (more_ended newest fresh outer objects) ∙ stays_dead fresh outer (S.with_content (LocalObject newest) V.Dead objects) name (by (same_name (LocalObject newest) name))
  where
    by : (b : Bool) → (if b then V.Dead else objects name) ≡ V.Dead
    by true = refl
    by false = dead

fresh_ended : (fresh outer : List ℕ) (objects : S.Objects) (number : ℕ) → IsAmong number fresh → ended fresh outer objects (LocalObject number) ≡ V.Dead
fresh_ended [] outer objects number among = absurd among
fresh_ended (newest ∷ fresh) outer objects number (inl same) =
    ap (λ all. all (LocalObject number)) (more_ended newest fresh outer objects) ∙ stays_dead fresh outer (S.with_content (LocalObject newest) V.Dead objects) (LocalObject number)
    (cond-true (newest == number) V.Dead (objects (LocalObject number)) (eq-eqb newest number same))
fresh_ended (newest ∷ fresh) outer objects number (inr among) =
    ap (λ all. all (LocalObject number)) (more_ended newest fresh outer objects) ∙ fresh_ended fresh outer (S.with_content (LocalObject newest) V.Dead objects) number among

is_among : (number : ℕ) (names : List ℕ) → IsAmong number names ⊎ (IsAmong number names → ⊥)
is_among number [] = inr (λ none. none)
is_among number (first ∷ others) = by (first == number) refl (is_among number others)
  where
    by : (b : Bool) → (first == number) ≡ b → IsAmong number others ⊎ (IsAmong number others → ⊥) → IsAmong number (first ∷ others) ⊎ (IsAmong number (first ∷ others) → ⊥)
    by true e rest = inl (inl (eqb-true first number e))
    by false e (inl among) = inl (inr among)
    by false e (inr none) = inr (λ among. neither e none among)
      where
        neither : (first == number) ≡ false → (IsAmong number others → ⊥) → IsAmong number (first ∷ others) → ⊥
        neither e none (inl same) = absurd (let yes = eq-eqb first number same in cc)
        neither e none (inr among) = none among

among_split : (number : ℕ) (fresh outer : List ℕ) → IsAmong number (fresh ++ outer) → IsAmong number fresh ⊎ IsAmong number outer
among_split number [] outer among = inr among
among_split number (first ∷ fresh) outer (inl same) = inl (inl same)
among_split number (first ∷ fresh) outer (inr among) = by (among_split number fresh outer among)
  where
    by : IsAmong number fresh ⊎ IsAmong number outer → IsAmong number (first ∷ fresh) ⊎ IsAmong number outer
    by (inl among) = inl (inr among)
    by (inr among) = inr among

among_front : (number : ℕ) (fresh outer : List ℕ) → IsAmong number fresh → IsAmong number (fresh ++ outer)
among_front number [] outer among = absurd among
among_front number (first ∷ fresh) outer (inl same) = inl same
among_front number (first ∷ fresh) outer (inr among) = inr (among_front number fresh outer among)

among_back : (number : ℕ) (fresh outer : List ℕ) → IsAmong number outer → IsAmong number (fresh ++ outer)
among_back number [] outer among = among
among_back number (first ∷ fresh) outer among = inr (among_back number fresh outer among)

local_is : {m n : ℕ} → LocalObject m ≡ LocalObject n → m ≡ n
local_is e = cc

homes_back : (program : Program) (placement : Placement) (activation : ℕ) (objects : S.Objects) (registers : Registers) (scope more : Scope) (fresh outer : List ℕ) → length fresh ≡ length more
    → HomesStand program placement activation objects registers (more ++ scope) (fresh ++ outer) → HomesStand program placement activation objects registers scope outer
homes_back program placement activation objects registers scope [] [] outer depth stands = stands
homes_back program placement activation objects registers scope (home ∷ more) (newest ∷ fresh) outer depth stands = homes_back program placement activation objects registers scope more fresh outer (omega (arith, depth)) stands.1
homes_back program placement activation objects registers scope [] (newest ∷ fresh) outer depth stands = absurd (omega (arith, depth))
homes_back program placement activation objects registers scope (home ∷ more) [] outer depth stands = absurd (omega (arith, depth))

where_then : (content : V.Content) (A B : Type 0) → (IsAlive content → A → B) → WhereAlive content A → WhereAlive content B
where_then V.Dead A B next stands = tt
where_then (V.Raw size) A B next stands = next tt stands
where_then (V.Elements is_static c_type count held) A B next stands = next tt stands

-- ---- what stays

module _ (program : Program) (placement placed : Placement) (hidden : ℕ → Option V.Content) (frame : Frame) (scope more : Scope) (count : ℕ) (fresh outer : List ℕ) (s : S.State) (t : State) (at : ℕ)
    (extends : Extends frame count placement placed) (own : s.locals ≡ fresh ++ outer) (depth : length fresh ≡ length more)
    (older : (number : ℕ) → IsAmong number outer → number < count) (newer : (number : ℕ) → IsAmong number fresh → count ≤ number)
    (below : (number : ℕ) (object : Object) → placement number ≡ Some object → number < count)
    (h : At program placed hidden frame (more ++ scope) at s t) where
  abbrev after : S.Objects
  after = ended fresh outer s.objects

  same_local : (number : ℕ) → (IsAmong number fresh → ⊥) → after (LocalObject number) ≡ s.objects (LocalObject number)
  same_local number none = other_ended fresh outer s.objects (LocalObject number) (λ n among e. none (subst (λ m. IsAmong m fresh) (local_is e) among))

  dead_or_same : (name : Name) → (after name ≡ V.Dead) ⊎ (after name ≡ s.objects name)
  dead_or_same (Heap number) = inr (other_ended fresh outer s.objects (Heap number) (λ n among e. cc))
  dead_or_same (GlobalObject name) = inr (other_ended fresh outer s.objects (GlobalObject name) (λ n among e. cc))
  dead_or_same (LiteralObject place) = inr (other_ended fresh outer s.objects (LiteralObject place) (λ n among e. cc))
  dead_or_same (LocalObject number) = by (is_among number fresh)
    where
      by : IsAmong number fresh ⊎ (IsAmong number fresh → ⊥) → (after (LocalObject number) ≡ V.Dead) ⊎ (after (LocalObject number) ≡ s.objects (LocalObject number))
      by (inl among) = inl (fresh_ended fresh outer s.objects number among)
      by (inr none) = inr (same_local number none)

  lives : (name : Name) → IsAlive (after name) → IsAlive (s.objects name)
  lives name alive = by (dead_or_same name)
    where
      by : (after name ≡ V.Dead) ⊎ (after name ≡ s.objects name) → IsAlive (s.objects name)
      by (inl dead) = absurd (subst IsAlive dead alive)
      by (inr same) = subst IsAlive same alive

  in_outer : (number : ℕ) (local : Local) → placed number ≡ Some (OfActivation frame.number local) → IsAlive (after (LocalObject number)) → IsAmong number outer
  in_outer number local is alive = by (among_split number fresh outer (subst (IsAmong number) own (h.own.in_scope number local is (lives (LocalObject number) alive)).0))
    where
      by : IsAmong number fresh ⊎ IsAmong number outer → IsAmong number outer
      by (inl among) = absurd (subst IsAlive (fresh_ended fresh outer s.objects number among) alive)
      by (inr among) = among

  placed_same : (number : ℕ) → number < count → placed number ≡ placement number
  placed_same number less = by (extends number)
    where
      by : (placed number ≡ placement number) ⊎ ((count ≤ number) × ((local : Local) × (placed number ≡ Some (OfActivation frame.number local)))) → placed number ≡ placement number
      by (inl same) = same
      by (inr new) = absurd (omega (arith, less, new.0))

  images : (name : Name) → IsAlive (after name) → image program placement name ≡ image program placed name
  images (Heap number) alive = refl
  images (GlobalObject name) alive = refl
  images (LiteralObject place) alive = refl
  images (LocalObject number) alive = by (extends number)
    where
      by : (placed number ≡ placement number) ⊎ ((count ≤ number) × ((local : Local) × (placed number ≡ Some (OfActivation frame.number local)))) → placement number ≡ placed number
      by (inl same) = sym same
      by (inr new) = let less = older number (in_outer number new.1.0 new.1.1 alive) in absurd (omega (arith, less, new.0))

  image_before : (name : Name) (object : Object) → image program placement name ≡ Some object → image program placed name ≡ Some object
  image_before (Heap number) object is = is
  image_before (GlobalObject name) object is = is
  image_before (LiteralObject place) object is = is
  image_before (LocalObject number) object is = placed_same number (below number object is) ∙ is

  pub value_ended : (scalar : Scalar) (value : Value) → ScalarStands program s.objects placed scalar value → ScalarStands program after placement scalar value
  value_ended (IntegerValue z) value stands = stands
  value_ended NullValue value stands = stands
  value_ended (FunctionValue name) value stands = stands
  value_ended (PointerValue place) value stands = (
    stands.0,
    where_then (after place.name) _ _ (λ alive g. (g.0, g.1, (images place.name alive ∙ g.2.0, g.2.1), g.3)) (where_alive (s.objects place.name) (after place.name) _ (lives place.name) stands.1),
  )
  value_ended (RawPointer number) value stands = (stands.0, where_alive (s.objects (Heap number)) (after (Heap number)) _ (lives (Heap number)) stands.1)

  pub holds_ended : (scalar : Scalar) (held : Option Value) → HoldsFor program s.objects placed scalar held → HoldsFor program after placement scalar held
  holds_ended scalar held holds = (holds.0, holds.1, value_ended scalar holds.0 holds.2)

  content_ended : (own : V.Content) (content : Content) → ContentStands program s.objects placed own content → ContentStands program after placement own content
  content_ended V.Dead content stands = tt
  content_ended (V.Raw size) content stands = stands
  content_ended (V.Elements is_static c_type n held) content stands = (stands.0, stands.1, λ offset own scalar leaf is. holds_ended scalar (stands.0 offset) (stands.2 offset own scalar leaf is))

  memory_ended : MemoryStands program placement after t.objects
  memory_ended = record {
    contents = λ name object is. by name object is (dead_or_same name);
    apart = λ name other object alive alive' is is'. h.stands.memory.apart name other object (lives name alive) (lives other alive') (image_before name object is) (image_before other object is');
  }
    where
      by : (name : Name) (object : Object) → image program placement name ≡ Some object → (after name ≡ V.Dead) ⊎ (after name ≡ s.objects name) → ContentStands program after placement (after name) (t.objects object)
      by name object is (inl dead) = subst (λ c. ContentStands program after placement c (t.objects object)) (sym dead) tt
      by name object is (inr same) = subst (λ c. ContentStands program after placement c (t.objects object)) (sym same) (content_ended (s.objects name) (t.objects object) (h.stands.memory.contents name object (image_before name object is)))

  home_ended : (home : Home) (number : ℕ) → number < count → HomeStands program placed frame.number s.objects t.running.registers home number → HomeStands program placement frame.number after t.running.registers home number
  home_ended home number less stands = by home.is_object stands
    where
      by : (b : Bool) → HomeStands program placed frame.number s.objects t.running.registers (record home { is_object = b }) number → HomeStands program placement frame.number after t.running.registers (record home { is_object = b }) number
      by true stands = sym (placed_same number less) ∙ stands
      by false stands = (
        sym (placed_same number less) ∙ stands.0,
        (
          stands.1.0,
          same_local number (λ among. let least = newer number among in omega (arith, less, least)) ∙ stands.1.1,
          λ scalar is. holds_ended scalar (t.running.registers (R.Local home.local)) (stands.1.2 scalar is),
        ),
      )

  homes_ended : (inside : Scope) (names : List ℕ) → ((number : ℕ) → IsAmong number names → number < count) → HomesStand program placed frame.number s.objects t.running.registers inside names
      → HomesStand program placement frame.number after t.running.registers inside names
  homes_ended [] [] less stands = tt
  homes_ended (home ∷ inside) (newest ∷ others) less stands = (home_ended home newest (less newest (inl refl)) stands.0, homes_ended inside others (λ number among. less number (inr among)) stands.1, stands.2)
  homes_ended [] (newest ∷ others) less stands = absurd stands
  homes_ended (home ∷ inside) [] less stands = absurd stands

  pub at_ended : At program placement hidden frame scope at (record s { objects = after; locals = outer }) t
  at_ended = record {
    stands = record {
      input = h.stands.input;
      heap = h.stands.heap;
      trace = h.stands.trace;
      memory = memory_ended;
      placed = λ number object is. h.stands.placed number object (image_before (LocalObject number) object is);
      unchanged = λ number content is. let was = h.stands.unchanged number content is in (
        was.0,
        same_local number (λ among. was.3 (subst (IsAmong number) (sym own) (among_front number fresh outer among))) ∙ was.1,
        nowhere number was.2 (extends number),
        λ among. was.3 (subst (IsAmong number) (sym own) (among_back number fresh outer among)),
      );
    };
    homes = homes_ended scope outer older (homes_back program placed frame.number s.objects t.running.registers scope more fresh outer depth (subst (HomesStand program placed frame.number s.objects t.running.registers (more ++ scope)) own h.homes));
    own = record { there = h.own.there; in_scope = λ number local is alive. let was = image_before (LocalObject number) (OfActivation frame.number local) is in (in_outer number local was alive, (h.own.in_scope number local was (lives (LocalObject number) alive)).1) };
    point = h.point;
    owner = h.owner;
    number = h.number;
    callers = h.callers;
    paid = h.paid;
  }
    where
      nowhere : (number : ℕ) → placed number ≡ None → (placed number ≡ placement number) ⊎ ((count ≤ number) × ((local : Local) × (placed number ≡ Some (OfActivation frame.number local)))) → placement number ≡ None
      nowhere number none (inl same) = sym same ∙ none
      nowhere number none (inr new) = absurd (none-some (OfActivation frame.number new.1.0) (sym none ∙ new.1.1))
