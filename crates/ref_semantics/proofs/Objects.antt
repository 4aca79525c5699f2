-- Objects in which one holds something else.
use Rattle.std.proofs.Common.{◌≡◌, ◌==◌, le_refl, true, if◌then◌else◌, refl, ap, subst}
use Rattle.std.proofs.lemmas.Bool.{false≢true, and_parts, eqb-true, cond_both}
use Rattle.std.proofs.lemmas.Slice.Eq.{bytes_eq-Decides}
use Rattle.run_theory.specs.declared.place.Pos.{Pos}
use Rattle.c_typed.specs.Places.{is_same_place}
use Rattle.c_typed.specs.Context.{Context}
use Rattle.ref_semantics.specs.Values.{Name, Heap, GlobalObject, LiteralObject, LocalObject, Content, Dead, Raw, Elements, same_name}
use Rattle.ref_semantics.specs.Store.{State, Eval, with_content, store_content}
use Rattle.ref_semantics.specs.Sound.{Sound, Later, WasGiven, IsSoundContent, MayBecome, LivesOn, IsOfHeap}
use Rattle.ref_semantics.specs.Keeping.{Keeps}
use Rattle.ref_semantics.proofs.Lasting.{GivesAt, may_refl, lives_refl, given_lasts, content_lasts, sound_later, keeps_trans}

pub same_place-true : (a b : Pos) → is_same_place a b ≡ true → a ≡ b
same_place-true a b h =
    let parts = and_parts (a.line == b.line) (a.column == b.column) h in
    let line = eqb-true a.line b.line parts.0 in
    let column = eqb-true a.column b.column parts.1 in
    λ i. record { line = line i; column = column i }

pub same_name-true : (a b : Name) → same_name a b ≡ true → a ≡ b
same_name-true (Heap a) (Heap b) h = ap Heap (eqb-true a b h)
same_name-true (GlobalObject a) (GlobalObject b) h = ap GlobalObject ((bytes_eq-Decides a b).0 h)
same_name-true (LiteralObject a) (LiteralObject b) h = ap LiteralObject (same_place-true a b h)
same_name-true (LocalObject a) (LocalObject b) h = ap LocalObject (eqb-true a b h)
same_name-true _ _ h = absurd (false≢true h)

-- what holds of the one that is stored, and of the others
pub either_content : (P : Content → Type 0) (name other : Name) (content old : Content) → (name ≡ other → P content) → P old → P (if same_name name other then content else old)
either_content P name other content old one two = cond_both (same_name name other) content old P (λ same. one (same_name-true name other same)) (λ apart. two)

pub may_dead : (content : Content) → MayBecome content Dead
may_dead Dead = refl
may_dead (Raw size) = tt
may_dead (Elements is_static c_type count held) = tt

module _ (before : State) (name : Name) (content : Content) where
  abbrev pub stored : State
  stored = record before { objects = with_content name content before.objects }

  pub stored_later : MayBecome (before.objects name) content → ((IsOfHeap name → ⊥) → LivesOn (before.objects name) content) → Later before stored
  stored_later may lives = record {
    next_local = le_refl before.next_local;
    next_heap = le_refl before.next_heap;
    may = λ other given. either_content (MayBecome (before.objects other)) name other content (before.objects other)
        (λ same. subst (λ n. MayBecome (before.objects n) content) same may) (may_refl (before.objects other));
    lives = λ other given apart. either_content (LivesOn (before.objects other)) name other content (before.objects other)
        (λ same. subst (λ n. LivesOn (before.objects n) content) same (lives (λ heap. apart (subst IsOfHeap same heap)))) (lives_refl (before.objects other));
  }

  pub stored_keeps : {around : Context} → Sound around before → WasGiven before name → MayBecome (before.objects name) content
      → ((IsOfHeap name → ⊥) → LivesOn (before.objects name) content) → IsSoundContent around.program before content → Keeps around before stored
  stored_keeps {around} sound given may lives is_sound =
      let later = stored_later may lives in
      let last = content_lasts around.program later in
      record {
        sound = sound_later sound later
            (λ other. either_content (IsSoundContent around.program stored) name other content (before.objects other) (λ same. last content is_sound) (last (before.objects other) (sound.contents other)))
            (λ other fresh. either_content (λ c. c ≡ Dead) name other content (before.objects other)
            (λ same. absurd (fresh (given_lasts around.program later other (subst (WasGiven before) same given))))
            (sound.fresh other (λ known. fresh (given_lasts around.program later other known))))
            refl;
        later = later;
        locals = refl;
      }

pub store_gives : {A : Type 0} {around : Context} {kind : State → A → Type 0} {rest : Eval A} {before : State} (name : Name) (content : Content)
    → Sound around before → WasGiven before name → MayBecome (before.objects name) content → ((IsOfHeap name → ⊥) → LivesOn (before.objects name) content)
    → IsSoundContent around.program before content → (Keeps around before (stored before name content) → GivesAt around kind rest (stored before name content))
    → GivesAt around kind (store_content name content rest) before
store_gives {A} {around} {kind} {rest} {before} name content sound given may lives is_sound one =
    let keeps = stored_keeps before name content sound given may lives is_sound in
    record { gives = λ a after run. let done = (one keeps).gives a after run in (keeps_trans keeps done.0, done.1) }
