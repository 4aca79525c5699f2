-- What an object gets on both sides keeps memory standing.
use Rattle.std.proofs.Common.{◌≡◌, ◌==◌, eqb, Bool, true, false, if◌then◌else◌, Some, refl, sym, ap, ◌∙◌, subst, eqb-true, eq-eqb}
use Rattle.std.proofs.lemmas.Bool.{false≢true, true≢false, and_parts, and_from}
use Rattle.std.proofs.lemmas.Option.{same_Some}
use Rattle.std.proofs.lemmas.Slice.Eq.{bytes_eq-Decides}
use Rattle.c_typed.specs.Typed.{Program}
use Rattle.ref_semantics.specs.Values as V
use Rattle.ref_semantics.specs.Values.{Name, Heap, GlobalObject, LiteralObject, LocalObject, same_name}
use Rattle.ref_semantics.specs.Store as S
use Rattle.ref_semantics.proofs.Objects.{same_name-true}
use Rattle.tac_ir.specs.declared.register.Local.{Local}
use Rattle.tac_ir.specs.declared.register.Local.TheVariants as L
use Rattle.tac_ir.specs.Values.{Object, OfHeap, OfGlobal, OfLiteral, OfActivation, same_local, same_object, Content, Objects, with_content}
use Rattle.tac_simulation.specs.Standing.{Placement, image, ContentStands, IsAlive, MemoryStands}
use Rattle.tac_simulation.proofs.Alive.{LivesBefore, content_lasts}

pub same_local-true : (a b : Local) → same_local a b ≡ true → a ≡ b
same_local-true (L.Parameter a) (L.Parameter b) h = ap L.Parameter (eqb-true a b h)
same_local-true (L.Variable a) (L.Variable b) h = ap L.Variable (eqb-true a b h)
same_local-true _ _ h = absurd (false≢true h)

pub same_object-true : (a b : Object) → same_object a b ≡ true → a ≡ b
same_object-true (OfHeap a) (OfHeap b) h = ap OfHeap (eqb-true a b h)
same_object-true (OfGlobal a) (OfGlobal b) h = ap OfGlobal (eqb-true a b h)
same_object-true (OfLiteral a) (OfLiteral b) h = ap OfLiteral (eqb-true a b h)
same_object-true (OfActivation a x) (OfActivation b y) h =
    let parts = and_parts _ (same_local x y) h in
    ap (λ n. OfActivation n x) (eqb-true a b parts.0) ∙ ap (OfActivation b) (same_local-true x y parts.1)
same_object-true _ _ h = absurd (false≢true h)

pub same_local-refl : (a : Local) → same_local a a ≡ true
same_local-refl (L.Parameter a) = eq-eqb a a refl
same_local-refl (L.Variable a) = eq-eqb a a refl

pub same_object-refl : (a : Object) → same_object a a ≡ true
same_object-refl (OfHeap a) = eq-eqb a a refl
same_object-refl (OfGlobal a) = eq-eqb a a refl
same_object-refl (OfLiteral a) = eq-eqb a a refl
same_object-refl (OfActivation a x) = and_from (a == a) (same_local x x) (eq-eqb a a refl) (same_local-refl x)

pub same_name-refl : (a : Name) → same_name a a ≡ true
same_name-refl (Heap number) = eq-eqb number number refl
same_name-refl (GlobalObject name) = (bytes_eq-Decides name name).1 refl
same_name-refl (LiteralObject place) = and_from (eqb place.line place.line) (eqb place.column place.column) (eq-eqb place.line place.line refl) (eq-eqb place.column place.column refl)
same_name-refl (LocalObject number) = eq-eqb number number refl

-- a dead object stands for anything
dead_stands : (program : Program) (objects : S.Objects) (placement : Placement) (own : V.Content) (content : Content) → (IsAlive own → ⊥) → ContentStands program objects placement own content
dead_stands program objects placement V.Dead content dead = tt
dead_stands program objects placement (V.Raw size) content dead = absurd (dead tt)
dead_stands program objects placement (V.Elements is_static c_type count held) content dead = absurd (dead tt)

module _ (program : Program) (placement : Placement) (objects : S.Objects) (objects' : Objects) (memory : MemoryStands program placement objects objects') where
  module _ (name : Name) (object : Object) (is_image : image program placement name ≡ Some object) (alive : IsAlive (objects name)) (content : V.Content) (content' : Content) where
    after : S.Objects
    after = S.with_content name content objects

    after' : Objects
    after' = with_content object content' objects'

    pub lives_before : LivesBefore objects (S.with_content name content objects)
    lives_before other lives = by (same_name name other) refl lives
      where
        by : (b : Bool) → same_name name other ≡ b → IsAlive (if b then content else objects other) → IsAlive (objects other)
        by true e lives = subst (λ n. IsAlive (objects n)) (same_name-true name other e) alive
        by false e lives = lives

    -- a living object gets a content that stands for another
    pub stored_stands : ContentStands program objects placement content content' → MemoryStands program placement (S.with_content name content objects) (with_content object content' objects')
    stored_stands stands = record {
      contents = λ other found is. content_lasts program placement objects (S.with_content name content objects) lives_before (if same_name name other then content else objects other) (if same_object object found then content' else objects' found) (by other found is (same_name name other) refl (same_object object found) refl);
      apart = λ one other found lives lives'. memory.apart one other found (lives_before one lives) (lives_before other lives');
    }
      where
        by : (other : Name) (found : Object) → image program placement other ≡ Some found → (b : Bool) → same_name name other ≡ b → (b' : Bool) → same_object object found ≡ b'
            → ContentStands program objects placement (if b then content else objects other) (if b' then content' else objects' found)
        by other found is true e true e' = stands
        by other found is true e false e' =
            let same : object ≡ found = same_Some object found (sym is_image ∙ ap (image program placement) (same_name-true name other e) ∙ is) in
            absurd (true≢false (sym (same_object-refl found) ∙ subst (λ o. same_object o found ≡ false) same e'))
        by other found is false e true e' = dead_stands program objects placement (objects other) content'
            (λ lives. absurd (true≢false (sym (same_name-refl other) ∙ subst (λ n. same_name n other ≡ false) (memory.apart name other object alive lives is_image (is ∙ ap Some (sym (same_object-true object found e')))) e)))
        by other found is false e false e' = memory.contents other found is

-- a new object, which was dead, has one that stands for it, and no living object has that one
pub added_stands : (program : Program) (placement placement' : Placement) (objects after : S.Objects) (objects' after' : Objects) (name : Name) (object : Object)
    → ((other : Name) → (name ≡ other → ⊥) → (after other ≡ objects other) × (image program placement' other ≡ image program placement other))
    → ((other : Object) → (object ≡ other → ⊥) → after' other ≡ objects' other)
    → image program placement' name ≡ Some object → ContentStands program after placement' (after name) (after' object)
    → ((other : Name) → (name ≡ other → ⊥) → IsAlive (objects other) → image program placement other ≡ Some object → ⊥)
    → ((other : Name) (content : Content) → ContentStands program objects placement (objects other) content → ContentStands program after placement' (objects other) content)
    → MemoryStands program placement objects objects' → MemoryStands program placement' after after'
added_stands program placement placement' objects after objects' after' name object others others' is_image stands unique lasts memory = record {
  contents = λ other found is. contents other found is (same_name name other) refl (same_object object found) refl;
  apart = λ one other found lives lives' is is'. apart one other found lives lives' is is' (same_name name one) refl (same_name name other) refl;
}
  where
    differs : (other : Name) → same_name name other ≡ false → name ≡ other → ⊥
    differs other e same = true≢false (sym (same_name-refl other) ∙ subst (λ n. same_name n other ≡ false) same e)

    differs' : (other : Object) → same_object object other ≡ false → object ≡ other → ⊥
    differs' other e same = true≢false (sym (same_object-refl other) ∙ subst (λ o. same_object o other ≡ false) same e)

    contents : (other : Name) (found : Object) → image program placement' other ≡ Some found → (b : Bool) → same_name name other ≡ b → (b' : Bool) → same_object object found ≡ b' → ContentStands program after placement' (after other) (after' found)
    contents other found is true e b' e' =
        let same = same_name-true name other e in
        let object_is : object ≡ found = same_Some object found (sym is_image ∙ ap (image program placement') same ∙ is) in
        subst (λ o. ContentStands program after placement' (after other) (after' o)) object_is (subst (λ n. ContentStands program after placement' (after n) (after' object)) same stands)
    contents other found is false e true e' =
        let apart_from = others other (differs other e) in
        let object_is = same_object-true object found e' in
        subst (λ own. ContentStands program after placement' own (after' found)) (sym apart_from.0)
        (dead_stands program after placement' (objects other) (after' found) (λ lives. unique other (differs other e) lives (sym apart_from.1 ∙ is ∙ ap Some (sym object_is))))
    contents other found is false e false e' =
        let apart_from = others other (differs other e) in
        subst (λ own. ContentStands program after placement' own (after' found)) (sym apart_from.0)
        (lasts other (after' found) (subst (λ content. ContentStands program objects placement (objects other) content) (sym (others' found (differs' found e'))) (memory.contents other found (sym apart_from.1 ∙ is))))

    apart : (one other : Name) (found : Object) → IsAlive (after one) → IsAlive (after other) → image program placement' one ≡ Some found → image program placement' other ≡ Some found
        → (b : Bool) → same_name name one ≡ b → (b' : Bool) → same_name name other ≡ b' → one ≡ other
    apart one other found lives lives' is is' true e true e' = sym (same_name-true name one e) ∙ same_name-true name other e'
    apart one other found lives lives' is is' true e false e' =
        let same : object ≡ found = same_Some object found (sym is_image ∙ ap (image program placement') (same_name-true name one e) ∙ is) in
        let apart_from = others other (differs other e') in
        absurd (unique other (differs other e') (subst IsAlive apart_from.0 lives') (sym apart_from.1 ∙ is' ∙ ap Some (sym same)))
    apart one other found lives lives' is is' false e true e' =
        let same : object ≡ found = same_Some object found (sym is_image ∙ ap (image program placement') (same_name-true name other e') ∙ is') in
        let apart_from = others one (differs one e) in
        absurd (unique one (differs one e) (subst IsAlive apart_from.0 lives) (sym apart_from.1 ∙ is ∙ ap Some (sym same)))
    apart one other found lives lives' is is' false e false e' =
        let first = others one (differs one e) in
        let second = others other (differs other e') in
        memory.apart one other found (subst IsAlive first.0 lives) (subst IsAlive second.0 lives') (sym first.1 ∙ is) (sym second.1 ∙ is')
