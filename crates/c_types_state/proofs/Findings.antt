-- What is found of a part of the text from what is found of its parts.
use Rattle.std.proofs.Common.{◌≡◌, Bool, true, false, List, ◌++◌, Option, Some, None, refl, sym, ap, subst, ◌∙◌}
use Rattle.run_theory.specs.declared.place.Pos.{Pos}
use Rattle.c_rules.specs.declared.rule.TypeRule.{TypeRule}
use Rattle.c_typed.specs.Table.{Interned, Grows}
use Rattle.c_typed.proofs.Grown.{grows_refl, grows_trans, stays, list_stays}
use Rattle.c_typed.proofs.TypedStays.{value_stays, object_stays, designator_stays, values_stay}
use Rattle.c_rules.specs.declared.violation.Violation.{Violation}
use Rattle.c_types_state.specs.declared.known.TypedExpr as memory_typed
use Rattle.c_types_state.specs.declared.known.TypedExpr.TheVariants as E
use Rattle.c_types_state.specs.declared.known.Address as memory_address
use Rattle.c_types_state.specs.declared.known.Address.TheVariants as A
use Rattle.c_types_state.specs.declared.known.Known as memory_known
use Rattle.c_rules.specs.Known.{OfValue, OfObject, OfFunction, Element, Checked, give, unknown, refuse, also, unless, require, with_known, given, given_two, given_three}
use Rattle.c_rules.specs.Names.{Scope}
use Rattle.c_types_state.specs.NameTables.{State, scope_of}
use Rattle.c_typed.specs.DefinitionViews.{static_of}
use Rattle.c_types_state.specs.Finding.{typed_in, address_in, expr_in, condition_in, TypedStands, AddressStands, ExprStands, IsExpr, IsType, IsTypes, IsCondition, each_in, lesser, noted, IsOption, Finds}
use Rattle.c_types_state.specs.Staying.{Stays, IsValue, IsObject, IsValues, IsSame, IsSeen}
use Rattle.c_types_state.proofs.Noted.{noted_append}

-- ---- what stays while the table grows

module _ (old new : Interned) (grows : Grows old new) where
  pub typed_stays : (e : memory_typed.TypedExpr) → TypedStands old e → TypedStands new e × (typed_in new e ≡ typed_in old e)
  typed_stays (E.Value value) h =
      let kept = value_stays old new grows value.value h in
      (kept.0, ap OfValue kept.1)
  typed_stays (E.Object object) h =
      let kept = object_stays old new grows object.value h in
      (kept.0, ap OfObject kept.1)
  typed_stays (E.Function function) h =
      let kept = designator_stays old new grows function.value h in
      (kept.0, ap OfFunction kept.1)
  typed_stays (E.Library function groups) h = (tt, refl)

  pub address_stays : (a : memory_address.Address) → AddressStands old a → AddressStands new a × (address_in new a ≡ address_in old a)
  address_stays A.Unknown h = (tt, refl)
  address_stays A.Outside h = (tt, refl)
  address_stays A.Null h = (tt, refl)
  address_stays (A.Function name) h = (tt, refl)
  address_stays (A.Element root parts c_type count index) h =
      let kept = stays old new grows c_type h in
      (kept.0, λ i. Element (static_of root) parts.items (kept.1 i) count index)

  pub expr_stays : (k : memory_known.Known) → ExprStands old k → ExprStands new k × (expr_in new k ≡ expr_in old k)
  expr_stays k h =
      let its = stays old new grows k.c_type h.0 in
      let tree = typed_stays k.typed h.1 in
      let place = address_stays k.address h.2 in (
        (its.0, tree.0, place.0),
        λ i. record { c_type = its.1 i; typed = tree.1 i; constness = k.constness; is_null = k.is_null; address = place.1 i },
      )

pub stays-expr : Stays IsExpr
stays-expr old new grows b a h =
    let kept = expr_stays old new grows b h.0 in
    (kept.0, kept.1 ∙ h.1)

pub stays-type : Stays IsType
stays-type old new grows b a h =
    let kept = stays old new grows b h.0 in
    (kept.0, kept.1 ∙ h.1)

pub stays-types : Stays IsTypes
stays-types old new grows b a h =
    let kept = list_stays old new grows b h.0 in
    (kept.0, kept.1 ∙ h.1)

pub stays-condition : Stays IsCondition
stays-condition old new grows b a h =
    let kept = value_stays old new grows b.test.value h.0 in
    let same : condition_in new b ≡ condition_in old b = λ i. record { test = kept.1 i; constness = b.constness } in
    (kept.0, same ∙ h.1)

pub stays-value : Stays IsValue
stays-value old new grows b a h =
    let kept = value_stays old new grows b h.0 in
    (kept.0, kept.1 ∙ h.1)

pub stays-object : Stays IsObject
stays-object old new grows b a h =
    let kept = object_stays old new grows b h.0 in
    (kept.0, kept.1 ∙ h.1)

pub stays-values : Stays IsValues
stays-values old new grows b a h =
    let kept = values_stay old new grows b h.0 in
    (kept.0, kept.1 ∙ h.1)

pub stays-plain : {A : Type 0} → Stays (IsSame {A = A})
stays-plain old new grows b a h = h

-- ---- steps

module _ {A B : Type 0} {Is : Interned → B → A → Type 0} {s : State} where
  pub finds-give : {b : B} {a : A} → Is s.table b a → Finds Is (give a) s s (Some b)
  finds-give h = record { grows = grows_refl s.table; scope = refl; least = refl; known = h }

  pub finds-unknown : Finds Is unknown s s None
  finds-unknown = record { grows = grows_refl s.table; scope = refl; least = refl; known = tt }

  pub finds-refuse : {t : State} (kind : TypeRule) (place : Pos) → t ≡ record s { least = noted s.least (unless false kind place) } → Finds Is (refuse kind place) s t None
  finds-refuse kind place e =
      subst (λ (t : State). Finds Is (refuse kind place) s t None) (sym e)
      (record { grows = grows_refl s.table; scope = refl; least = refl; known = tt })

  pub finds-refuse-lesser : {t : State} (kind : TypeRule) (place : Pos) → t ≡ record s { least = lesser s.least (record { kind = kind; place = place }) } → Finds Is (refuse kind place) s t None
  finds-refuse-lesser kind place e = finds-refuse kind place e

  pub finds-require-true : {t : State} {r : Option B} {holds : Bool} (kind : TypeRule) (place : Pos) {checked : Checked A} → holds ≡ true → Finds Is checked s t r → Finds Is (require holds kind place checked) s t r
  finds-require-true {t = t} {r = r} kind place {checked = checked} h found =
      subst (λ b. Finds Is (require b kind place checked) s t r) (sym h) found

  pub finds-require-false : {t : State} {holds : Bool} (kind : TypeRule) (place : Pos) (checked : Checked A) → holds ≡ false → t ≡ record s { least = noted s.least (unless holds kind place) } → Finds Is (require holds kind place checked) s t None
  finds-require-false {t = t} kind place checked h e =
      subst (λ b. t ≡ record s { least = noted s.least (unless b kind place) } → Finds Is (require b kind place checked) s t None) (sym h) (finds-refuse kind place) e

  -- the same where what holds was looked at on the way
  pub finds-require-then : {t u : State} {r : Option B} {holds : Bool} (kind : TypeRule) (place : Pos) {checked : Checked A} → holds ≡ true → t ≡ record s { least = noted s.least (unless holds kind place) } → Finds Is checked t u r → Finds Is (require holds kind place checked) s u r
  finds-require-then {t = t} {u = u} {r = r} kind place {checked = checked} h e f =
      subst (λ b. t ≡ record s { least = noted s.least (unless b kind place) } → Finds Is (require b kind place checked) s u r) (sym h)
      (λ (same : t ≡ s). subst (λ (from : State). Finds Is checked from u r) same f) e

-- how a state comes from another, where these violations are found between them
pub record Goes (violations : List Violation) (old new : State) : Type 0 where
  pub grows : Grows old.table new.table
  pub scope : scope_of new ≡ scope_of old
  pub least : new.least ≡ noted old.least violations

pub goes-trans : {xs ys : List Violation} {s t u : State} → Goes xs s t → Goes ys t u → Goes (xs ++ ys) s u
goes-trans {xs = xs} {ys = ys} {s = s} {t = t} {u = u} f g = record {
  grows = grows_trans s.table t.table u.table f.grows g.grows;
  scope = g.scope ∙ f.scope;
  least = g.least ∙ ap (λ l. noted l ys) f.least ∙ sym (noted_append s.least xs ys);
}

module _ {A B : Type 0} {Is : Interned → B → A → Type 0} {r : Option B} where
  pub finds-goes : {s t : State} {checked : Checked A} → Finds Is checked s t r → Goes checked.found s t
  finds-goes f = record { grows = f.grows; scope = f.scope; least = f.least }

  -- what is found behind other violations
  pub finds-after : {s t u : State} {violations : List Violation} {checked : Checked A} → Goes violations s t → Finds Is checked t u r → Finds Is (also violations checked) s u r
  finds-after {checked = checked} g f =
      let whole = goes-trans g (finds-goes f) in
      record { grows = whole.grows; scope = whole.scope; least = whole.least; known = f.known }

  pub finds-also : {s t u : State} (violations : List Violation) {checked : Checked A} → t ≡ record s { least = noted s.least violations } → Finds Is checked t u r → Finds Is (also violations checked) s u r
  finds-also {s = s} {u = u} violations {checked = checked} e f =
      finds-after (record { grows = grows_refl s.table; scope = refl; least = refl }) (subst (λ (t : State). Finds Is checked t u r) e f)

-- only violations, and nothing is known
module _ {A B : Type 0} (Is : Interned → B → A → Type 0) where
  pub goes-finds : {s t : State} {violations : List Violation} → Goes violations s t → Finds Is (also violations unknown) s t None
  goes-finds g = finds-after g finds-unknown

-- ---- parts

-- of two or of three options one is none
abbrev pub EitherIsNone : {A B : Type 0} → Option A → Option B → Type 0
EitherIsNone (Some a) (Some b) = ⊥
EitherIsNone _ _ = Unit {0}

abbrev pub AnyIsNone : {A B C : Type 0} → Option A → Option B → Option C → Type 0
AnyIsNone (Some a) (Some b) (Some c) = ⊥
AnyIsNone _ _ _ = Unit {0}

pub second-is_none : {A C : Type 0} (B : Type 0) (a : Option A) (c : Option C) → AnyIsNone {B = B} a None c
second-is_none B None c = tt
second-is_none B (Some a) c = tt

pub third-is_none : {A B : Type 0} (C : Type 0) (a : Option A) (b : Option B) → AnyIsNone {C = C} a b None
third-is_none C None b = tt
third-is_none C (Some a) None = tt
third-is_none C (Some a) (Some b) = tt

-- what was found stays
option-stays : {A B : Type 0} (Is : Interned → B → A → Type 0) → Stays Is → {s t : State} {violations : List Violation} → Goes violations s t → (b : Option B) (k : Option A) → IsOption (Is s.table) b k → IsOption (Is t.table) b k
option-stays Is stay {s = s} {t = t} g (Some b) (Some a) h = stay s.table t.table g.grows b a h
option-stays Is stay g (Some b) None h = absurd h
option-stays Is stay g None (Some a) h = absurd h
option-stays Is stay g None None h = tt

-- a part, and a rule that needs what is known of it
module _ {A B A' B' : Type 0} {Is : Interned → B → A → Type 0} {Is' : Interned → B' → A' → Type 0} where
  module _ {s0 s1 : State} (part : Checked A) (rule : A → Checked A') where
    pub plain-some : {s2 : State} {x : B} {r : Option B'} → Finds Is part s0 s1 (Some x) → ((v : A) → Is s1.table x v → Finds Is' (rule v) s1 s2 r) → Finds Is' (given part rule) s0 s2 r
    plain-some {s2 = s2} {x = x} {r = r} first behind = finds-after (finds-goes first) (by part.known first.known)
      where
        by : (k : Option A) → IsOption (Is s1.table) (Some x) k → Finds Is' (with_known k rule) s1 s2 r
        by None h = absurd h
        by (Some v) h = behind v h

    pub plain-none : Finds Is part s0 s1 None → Finds Is' (given part rule) s0 s1 None
    plain-none first = finds-after (finds-goes first) (by part.known first.known)
      where
        by : (k : Option A) → IsOption (Is s1.table) None k → Finds Is' (with_known k rule) s1 s1 None
        by None h = finds-unknown
        by (Some v) h = absurd h

  -- a pure step behind a part
  pub finds-trans-give : {s t : State} {b : B} {b' : B'} {part : Checked A} (f : A → A') → Finds Is part s t (Some b) → ((a : A) → Is t.table b a → Is' t.table b' (f a)) → Finds Is' (given part (λ a. give (f a))) s t (Some b')
  finds-trans-give {part = part} f first behind = plain-some part (λ a. give (f a)) first (λ v h. finds-give (behind v h))

  -- what is read in a scope
  module _ {s0 s1 : State} (part : Scope → Checked A) (rule : Scope → A → Checked A') where
    pub given-some : {s2 : State} {x : B} {r : Option B'} → Finds Is (part (scope_of s0)) s0 s1 (Some x) → ((v : A) → Is s1.table x v → Finds Is' (rule (scope_of s1) v) s1 s2 r) → Finds Is' (given (part (scope_of s0)) (rule (scope_of s0))) s0 s2 r
    given-some {s2 = s2} {r = r} first behind =
        plain-some (part (scope_of s0)) (rule (scope_of s0)) first
        (λ v h. subst (λ scope. Finds Is' (rule scope v) s1 s2 r) first.scope (behind v h))

    pub given-none : Finds Is (part (scope_of s0)) s0 s1 None → Finds Is' (given (part (scope_of s0)) (rule (scope_of s0))) s0 s1 None
    given-none first = plain-none (part (scope_of s0)) (rule (scope_of s0)) first

-- two parts
module _ {A B A' B' A'' B'' : Type 0} {Is : Interned → B → A → Type 0} {Is' : Interned → B' → A' → Type 0} {Is'' : Interned → B'' → A'' → Type 0} where
  module _ {s0 s1 s2 : State} (one : Checked A) (two : Checked A') (rule : A → A' → Checked A'') where
    pub plain_two-some : {s3 : State} {x : B} {y : B'} {r : Option B''} → Stays Is → Finds Is one s0 s1 (Some x) → Finds Is' two s1 s2 (Some y) → ((v : A) (w : A') → Is s2.table x v → Is' s2.table y w → Finds Is'' (rule v w) s2 s3 r) → Finds Is'' (given_two one two rule) s0 s3 r
    plain_two-some {s3 = s3} {x = x} {y = y} {r = r} stay first second behind =
        finds-after (goes-trans (finds-goes first) (finds-goes second))
        (by one.known two.known (option-stays Is stay (finds-goes second) (Some x) one.known first.known) second.known)
      where
        by : (k : Option A) (l : Option A') → IsOption (Is s2.table) (Some x) k → IsOption (Is' s2.table) (Some y) l → Finds Is'' (with_known k (λ v. with_known l (rule v))) s2 s3 r
        by None l h h' = absurd h
        by (Some v) None h h' = absurd h'
        by (Some v) (Some w) h h' = behind v w h h'

    pub plain_two-left : {r : Option B'} → Finds Is one s0 s1 None → Finds Is' two s1 s2 r → Finds Is'' (given_two one two rule) s0 s2 None
    plain_two-left first second = finds-after (goes-trans (finds-goes first) (finds-goes second)) (by one.known first.known)
      where
        by : (k : Option A) → IsOption (Is s1.table) None k → Finds Is'' (with_known k (λ v. with_known two.known (rule v))) s2 s2 None
        by None h = finds-unknown
        by (Some v) h = absurd h

    pub plain_two-right : {r : Option B} → Finds Is one s0 s1 r → Finds Is' two s1 s2 None → Finds Is'' (given_two one two rule) s0 s2 None
    plain_two-right first second = finds-after (goes-trans (finds-goes first) (finds-goes second)) (by one.known two.known second.known)
      where
        by : (k : Option A) (l : Option A') → IsOption (Is' s2.table) None l → Finds Is'' (with_known k (λ v. with_known l (rule v))) s2 s2 None
        by None l h = finds-unknown
        by (Some v) None h = finds-unknown
        by (Some v) (Some w) h = absurd h

  module _ {s0 s1 s2 : State} (one : Scope → Checked A) (two : Scope → Checked A') (rule : Scope → A → A' → Checked A'') where
    pub given_two-some : {s3 : State} {x : B} {y : B'} {r : Option B''} → Stays Is → Finds Is (one (scope_of s0)) s0 s1 (Some x) → Finds Is' (two (scope_of s1)) s1 s2 (Some y) → ((v : A) (w : A') → Is s2.table x v → Is' s2.table y w → Finds Is'' (rule (scope_of s2) v w) s2 s3 r) → Finds Is'' (given_two (one (scope_of s0)) (two (scope_of s0)) (rule (scope_of s0))) s0 s3 r
    given_two-some {s3 = s3} {y = y} {r = r} stay first second behind =
        plain_two-some (one (scope_of s0)) (two (scope_of s0)) (rule (scope_of s0)) stay first
        (subst (λ scope. Finds Is' (two scope) s1 s2 (Some y)) first.scope second)
        (λ v w h h'. subst (λ scope. Finds Is'' (rule scope v w) s2 s3 r) (second.scope ∙ first.scope) (behind v w h h'))

    pub given_two-left : {r : Option B'} → Finds Is (one (scope_of s0)) s0 s1 None → Finds Is' (two (scope_of s1)) s1 s2 r → Finds Is'' (given_two (one (scope_of s0)) (two (scope_of s0)) (rule (scope_of s0))) s0 s2 None
    given_two-left {r = r} first second =
        plain_two-left (one (scope_of s0)) (two (scope_of s0)) (rule (scope_of s0)) first
        (subst (λ scope. Finds Is' (two scope) s1 s2 r) first.scope second)

    pub given_two-right : {r : Option B} → Finds Is (one (scope_of s0)) s0 s1 r → Finds Is' (two (scope_of s1)) s1 s2 None → Finds Is'' (given_two (one (scope_of s0)) (two (scope_of s0)) (rule (scope_of s0))) s0 s2 None
    given_two-right first second =
        plain_two-right (one (scope_of s0)) (two (scope_of s0)) (rule (scope_of s0)) first
        (subst (λ scope. Finds Is' (two scope) s1 s2 None) first.scope second)

    -- where one of them isn't known
    pub given_two-none : {r : Option B} {r' : Option B'} → Finds Is (one (scope_of s0)) s0 s1 r → Finds Is' (two (scope_of s1)) s1 s2 r' → EitherIsNone r r' → Finds Is'' (given_two (one (scope_of s0)) (two (scope_of s0)) (rule (scope_of s0))) s0 s2 None
    given_two-none {r = r} {r' = r'} first second lacks = by r r' first second lacks
      where
        by : (r : Option B) (r' : Option B') → Finds Is (one (scope_of s0)) s0 s1 r → Finds Is' (two (scope_of s1)) s1 s2 r' → EitherIsNone r r' → Finds Is'' (given_two (one (scope_of s0)) (two (scope_of s0)) (rule (scope_of s0))) s0 s2 None
        by None r' first second lacks = given_two-left first second
        by (Some x) None first second lacks = given_two-right first second
        by (Some x) (Some y) first second lacks = absurd lacks

-- three parts
module _ {A B A' B' A'' B'' C D : Type 0} {Is : Interned → B → A → Type 0} {Is' : Interned → B' → A' → Type 0} {Is'' : Interned → B'' → A'' → Type 0} {IsWhole : Interned → D → C → Type 0} where
  module _ {s0 s1 s2 s3 : State} (one : Checked A) (two : Checked A') (three : Checked A'') (rule : A → A' → A'' → Checked C) where
    pub plain_three-some : {s4 : State} {x : B} {y : B'} {z : B''} {r : Option D} → Stays Is → Stays Is' → Finds Is one s0 s1 (Some x) → Finds Is' two s1 s2 (Some y) → Finds Is'' three s2 s3 (Some z) → ((u : A) (v : A') (w : A'') → Is s3.table x u → Is' s3.table y v → Is'' s3.table z w → Finds IsWhole (rule u v w) s3 s4 r) → Finds IsWhole (given_three one two three rule) s0 s4 r
    plain_three-some {s4 = s4} {x = x} {y = y} {z = z} {r = r} stay stay' first second third behind =
        let last = finds-goes third in
        let others = goes-trans (finds-goes second) last in
        finds-after (goes-trans (goes-trans (finds-goes first) (finds-goes second)) last)
        (by one.known two.known three.known (option-stays Is stay others (Some x) one.known first.known) (option-stays Is' stay' last (Some y) two.known second.known) third.known)
      where
        by : (k : Option A) (l : Option A') (m : Option A'') → IsOption (Is s3.table) (Some x) k → IsOption (Is' s3.table) (Some y) l → IsOption (Is'' s3.table) (Some z) m → Finds IsWhole (with_known k (λ u. with_known l (λ v. with_known m (rule u v)))) s3 s4 r
        by None l m h h' h'' = absurd h
        by (Some u) None m h h' h'' = absurd h'
        by (Some u) (Some v) None h h' h'' = absurd h''
        by (Some u) (Some v) (Some w) h h' h'' = behind u v w h h' h''

    pub plain_three-none : {r : Option B} {r' : Option B'} {r'' : Option B''} → Finds Is one s0 s1 r → Finds Is' two s1 s2 r' → Finds Is'' three s2 s3 r'' → AnyIsNone r r' r'' → Finds IsWhole (given_three one two three rule) s0 s3 None
    plain_three-none {r = r} {r' = r'} {r'' = r''} first second third lacks =
        finds-after (goes-trans (goes-trans (finds-goes first) (finds-goes second)) (finds-goes third))
        (by r r' r'' one.known two.known three.known lacks first.known second.known third.known)
      where
        by : (b : Option B) (b' : Option B') (b'' : Option B'') (k : Option A) (l : Option A') (m : Option A'') → AnyIsNone b b' b'' → IsOption (Is s1.table) b k → IsOption (Is' s2.table) b' l → IsOption (Is'' s3.table) b'' m → Finds IsWhole (with_known k (λ u. with_known l (λ v. with_known m (rule u v)))) s3 s3 None
        by b b' b'' None l m lacks h h' h'' = finds-unknown
        by b b' b'' (Some u) None m lacks h h' h'' = finds-unknown
        by b b' b'' (Some u) (Some v) None lacks h h' h'' = finds-unknown
        by (Some x) (Some y) (Some z) (Some u) (Some v) (Some w) lacks h h' h'' = absurd lacks
        by None b' b'' (Some u) (Some v) (Some w) lacks h h' h'' = absurd h
        by (Some x) None b'' (Some u) (Some v) (Some w) lacks h h' h'' = absurd h'
        by (Some x) (Some y) None (Some u) (Some v) (Some w) lacks h h' h'' = absurd h''

  module _ {s0 s1 s2 s3 : State} (one : Scope → Checked A) (two : Scope → Checked A') (three : Scope → Checked A'') (rule : Scope → A → A' → A'' → Checked C) where
    pub given_three-some : {s4 : State} {x : B} {y : B'} {z : B''} {r : Option D} → Stays Is → Stays Is' → Finds Is (one (scope_of s0)) s0 s1 (Some x) → Finds Is' (two (scope_of s1)) s1 s2 (Some y) → Finds Is'' (three (scope_of s2)) s2 s3 (Some z) → ((u : A) (v : A') (w : A'') → Is s3.table x u → Is' s3.table y v → Is'' s3.table z w → Finds IsWhole (rule (scope_of s3) u v w) s3 s4 r) → Finds IsWhole (given_three (one (scope_of s0)) (two (scope_of s0)) (three (scope_of s0)) (rule (scope_of s0))) s0 s4 r
    given_three-some {s4 = s4} {y = y} {z = z} {r = r} stay stay' first second third behind =
        let same = second.scope ∙ first.scope in
        plain_three-some (one (scope_of s0)) (two (scope_of s0)) (three (scope_of s0)) (rule (scope_of s0)) stay stay' first
        (subst (λ scope. Finds Is' (two scope) s1 s2 (Some y)) first.scope second)
        (subst (λ scope. Finds Is'' (three scope) s2 s3 (Some z)) same third)
        (λ u v w h h' h''. subst (λ scope. Finds IsWhole (rule scope u v w) s3 s4 r) (third.scope ∙ same) (behind u v w h h' h''))

    -- where one of them isn't known
    pub given_three-none : {r : Option B} {r' : Option B'} {r'' : Option B''} → Finds Is (one (scope_of s0)) s0 s1 r → Finds Is' (two (scope_of s1)) s1 s2 r' → Finds Is'' (three (scope_of s2)) s2 s3 r'' → AnyIsNone r r' r'' → Finds IsWhole (given_three (one (scope_of s0)) (two (scope_of s0)) (three (scope_of s0)) (rule (scope_of s0))) s0 s3 None
    given_three-none {r' = r'} {r'' = r''} first second third lacks =
        plain_three-none (one (scope_of s0)) (two (scope_of s0)) (three (scope_of s0)) (rule (scope_of s0)) first
        (subst (λ scope. Finds Is' (two scope) s1 s2 r') first.scope second)
        (subst (λ scope. Finds Is'' (three scope) s2 s3 r'') (second.scope ∙ first.scope) third)
        lacks

-- ---- where what is known of a part comes as one option

module _ {A B : Type 0} (Stand : Interned → B → Type 0) (view : Interned → B → A) where
  pub seen-known : (table : Interned) (r : Option B) (k : Option A) → IsOption (IsSeen Stand view table) r k → each_in view table r ≡ k
  seen-known table (Some b) (Some a) h = ap Some h.1
  seen-known table (Some b) None h = absurd h
  seen-known table None (Some a) h = absurd h
  seen-known table None None h = refl

  module _ {s t : State} {checked : Checked A} where
    pub finds-known : {r : Option B} → Finds (IsSeen Stand view) checked s t r → each_in view t.table r ≡ checked.known
    finds-known {r = r} found = seen-known t.table r checked.known found.known

    pub finds-stands : {b : B} → Finds (IsSeen Stand view) checked s t (Some b) → Stand t.table b
    finds-stands {b = b} found = by checked.known found.known
      where
        by : (k : Option A) → IsOption (IsSeen Stand view t.table) (Some b) k → Stand t.table b
        by None h = absurd h
        by (Some a) h = h.0

  module _ {A' B' : Type 0} {Is' : Interned → B' → A' → Type 0} {s0 s1 s2 : State} (part : Scope → Checked A) (rule : Scope → A → Checked A') where
    pub finds-then : {r : Option B} {r' : Option B'} → Finds (IsSeen Stand view) (part (scope_of s0)) s0 s1 r → Finds Is' (with_known (each_in view s1.table r) (rule (scope_of s1))) s1 s2 r' → Finds Is' (given (part (scope_of s0)) (rule (scope_of s0))) s0 s2 r'
    finds-then {r = r} {r' = r'} first second =
        finds-after (finds-goes first)
        (subst (λ known. Finds Is' (with_known known (rule (scope_of s0))) s1 s2 r') (seen-known s1.table r (part (scope_of s0)).known first.known)
        (subst (λ scope. Finds Is' (with_known (each_in view s1.table r) (rule scope)) s1 s2 r') first.scope second))

-- and of two
module _ {A B A' B' : Type 0} (Stand : Interned → B → Type 0) (view : Interned → B → A) (Stand' : Interned → B' → Type 0) (view' : Interned → B' → A') where
  module _ {A'' B'' : Type 0} {Is'' : Interned → B'' → A'' → Type 0} {s0 s1 s2 s3 : State} (one : Scope → Checked A) (two : Scope → Checked A') (rule : Scope → A → A' → Checked A'') where
    pub finds-then_two : {r : Option B} {r' : Option B'} {r'' : Option B''} → Stays (IsSeen Stand view) → Finds (IsSeen Stand view) (one (scope_of s0)) s0 s1 r → Finds (IsSeen Stand' view') (two (scope_of s1)) s1 s2 r' → Finds Is'' (with_known (each_in view s2.table r) (λ v. with_known (each_in view' s2.table r') (rule (scope_of s2) v))) s2 s3 r'' → Finds Is'' (given_two (one (scope_of s0)) (two (scope_of s0)) (rule (scope_of s0))) s0 s3 r''
    finds-then_two {r = r} {r' = r'} {r'' = r''} stay first second third =
        let second' = subst (λ scope. Finds (IsSeen Stand' view') (two scope) s1 s2 r') first.scope second in
        let kept = option-stays (IsSeen Stand view) stay (finds-goes second') r (one (scope_of s0)).known first.known in
        let e = seen-known Stand view s2.table r (one (scope_of s0)).known kept in
        let e' = seen-known Stand' view' s2.table r' (two (scope_of s0)).known second'.known in
        let third' = subst (λ scope. Finds Is'' (with_known (each_in view s2.table r) (λ v. with_known (each_in view' s2.table r') (rule scope v))) s2 s3 r'') (second.scope ∙ first.scope) third in
        finds-after (goes-trans (finds-goes first) (finds-goes second'))
        (subst (λ known. Finds Is'' (with_known known (λ v. with_known (two (scope_of s0)).known (rule (scope_of s0) v))) s2 s3 r'') e
        (subst (λ known. Finds Is'' (with_known (each_in view s2.table r) (λ v. with_known known (rule (scope_of s0) v))) s2 s3 r'') e' third'))
