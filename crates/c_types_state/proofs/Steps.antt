-- Rules that were looked at on the way.
use Rattle.std.proofs.Common.{◌≡◌, Bool, true, false, ◌&&◌, if◌then◌else◌, Option, Some, None, refl, sym, subst, ◌∙◌}
use Rattle.run_theory.specs.declared.place.Pos.{Pos}
use Rattle.c_rules.specs.declared.rule.TypeRule.{TypeRule}
use Rattle.c_typed.specs.Table.{Interned}
use Rattle.c_rules.specs.Known.{Checked, give, unless, require}
use Rattle.c_types_state.specs.NameTables.{State}
use Rattle.c_types_state.specs.Finding.{noted, Finds}
use Rattle.c_types_state.proofs.Findings.{finds-give, finds-require-true, finds-require-false, finds-require-then}

-- the state after a rule that holds
pub same_state : {s t : State} {holds : Bool} (kind : TypeRule) (place : Pos) → holds ≡ true → t ≡ record s { least = noted s.least (unless holds kind place) } → t ≡ s
same_state {s = s} {t = t} kind place h e = subst (λ b. t ≡ record s { least = noted s.least (unless b kind place) } → t ≡ s) (sym h) (λ same. same) e

module _ {A B : Type 0} {Is : Interned → B → A → Type 0} {s : State} where
  -- what is given where the state is the same
  pub finds-here : {t : State} {b : B} {a : A} → t ≡ s → Is s.table b a → Finds Is (give a) s t (Some b)
  finds-here {b = b} {a = a} e known = subst (λ (t : State). Finds Is (give a) s t (Some b)) (sym e) (finds-give known)

  -- a rule that holds, and the state after it
  pub finds-passed : {u : State} {r : Option B} {holds looked : Bool} (kind : TypeRule) (place : Pos) {checked : Checked A} → holds ≡ looked → looked ≡ true → Finds Is checked s u r → Finds Is (require holds kind place checked) s u r
  finds-passed kind place e h found = finds-require-true kind place (e ∙ h) found

  -- a rule that doesn't
  pub finds-failed : {t : State} {holds looked : Bool} (kind : TypeRule) (place : Pos) (checked : Checked A) → holds ≡ looked → looked ≡ false → t ≡ record s { least = noted s.least (unless looked kind place) } → Finds Is (require holds kind place checked) s t None
  finds-failed {t = t} kind place checked e h same =
      finds-require-false kind place checked (e ∙ h) (subst (λ b. t ≡ record s { least = noted s.least (unless b kind place) }) (sym e) same)

-- ---- tests one after the other

pub and_taken : (p q r : Bool) → p ≡ true → q ≡ r → (p && q) ≡ r
and_taken p q r h e = subst (λ b. (b && q) ≡ r) (sym h) e

pub and_left : (p q r : Bool) → p ≡ false → r ≡ false → (p && q) ≡ r
and_left p q r h e = subst (λ b. (b && q) ≡ r) (sym h) (sym e)

-- three tests one after the other, none of which holds
pub none_holds : {A : Type 0} (p q r : Bool) (x y z w : A) → p ≡ false → q ≡ false → r ≡ false → (if p then x else if q then y else if r then z else w) ≡ w
none_holds p q r x y z w hp hq hr =
    subst (λ b. (if b then x else if q then y else if r then z else w) ≡ w) (sym hp)
    (subst (λ b. (if b then y else if r then z else w) ≡ w) (sym hq)
    (subst (λ b. (if b then z else w) ≡ w) (sym hr) refl))

-- ---- a test that was looked at on the way

module _ {A B : Type 0} {Is : Interned → B → A → Type 0} {s t : State} {holds result : Bool} (test : Bool) (kind : TypeRule) (place : Pos) (checked : Checked A) where
  pub fails : holds ≡ test → result ≡ holds → result ≡ false → t ≡ record s { least = noted s.least (unless holds kind place) } → Finds Is (require test kind place checked) s t None
  fails tested answered is_false e =
      subst (λ b. Finds Is (require b kind place checked) s t None) tested (finds-require-false kind place checked (sym answered ∙ is_false) e)

  pub passes : {u : State} {r : Option B} → holds ≡ test → result ≡ holds → result ≡ true → t ≡ record s { least = noted s.least (unless holds kind place) } → Finds Is checked t u r → Finds Is (require test kind place checked) s u r
  passes {u = u} {r = r} tested answered is_true e found =
      subst (λ b. Finds Is (require b kind place checked) s u r) tested (finds-require-then kind place {checked = checked} (sym answered ∙ is_true) e found)

-- where it holds, nothing was noted
pub unchanged : {s t : State} {holds result : Bool} (kind : TypeRule) (place : Pos) → result ≡ holds → result ≡ true → t ≡ record s { least = noted s.least (unless holds kind place) } → t ≡ s
unchanged {s = s} {t = t} kind place answered is_true e =
    subst (λ b. t ≡ record s { least = noted s.least (unless b kind place) } → t ≡ s) (sym (sym answered ∙ is_true)) (λ (same : t ≡ s). same) e
