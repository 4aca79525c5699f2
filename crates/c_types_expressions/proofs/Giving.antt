-- What is found of a part, and what rules find behind it.
use Rattle.std.proofs.Common.{◌≡◌, List, [], ◌++◌, Option, Some, None, refl, sym, subst, ◌∙◌}
use Rattle.std.proofs.Common.{append-nil, append_assoc}
use Rattle.run_theory.specs.declared.place.Pos.{Pos}
use Rattle.c_syntax.specs.declared.operator.BinaryOperator.{BinaryOperator}
use Rattle.c_num.specs.declared.BinOp.{BinOp}
use Rattle.c_typed.specs.Table.{Interned, Grows}
use Rattle.c_typed.proofs.Grown.{grows_trans}
use Rattle.c_rules.specs.declared.violation.Violation.{Violation}
use Rattle.c_rules.specs.Names.{Scope}
use Rattle.c_rules.specs.Known.{Checked, Known, also, given, given_three, with_known, give, value_rule}
use Rattle.c_rules.specs.Operators.{OperandKind, AnInteger, AnyValue, AScalar, operand_kind, operand, integer_rule, scalar_rule, assigned_object, assigned_value, modifiable_rule, compound_object}
use Rattle.c_types_state.specs.NameTables.{State, scope_of}
use Rattle.c_types_state.specs.Finding.{Finds, AllStand, each_in, IsOption}
use Rattle.c_types_state.specs.Staying.{IsSeen, Stays}
use Rattle.c_types_state.proofs.Findings.{goes-trans, finds-goes, finds-after, seen-known}
use Rattle.c_types_expressions.specs.Binary.{operand_rule}
use Rattle.c_types_expressions.specs.Assignments.{assigned_object_rule, assigned_value_rule}

-- ---- rules one behind another

pub also-given : {A B : Type 0} (xs : List Violation) (c : Checked A) (g : A → Checked B) → given (also xs c) g ≡ also xs (given c g)
also-given xs c g = λ i. record { found = append_assoc xs c.found (with_known c.known g).found i; known = (with_known c.known g).known }

pub given-given : {A B C : Type 0} (part : Checked A) (f : A → Checked B) (g : B → Checked C) → given (given part f) g ≡ given part (λ a. given (f a) g)
given-given part f g = by part.found part.known
  where
    by : (found : List Violation) (known : Option _) → given (given (record { found = found; known = known }) f) g ≡ given (record { found = found; known = known }) (λ a. given (f a) g)
    by found None = λ i. record { found = append-nil (found ++ []) i; known = None }
    by found (Some a) = also-given found (f a) g

-- what an operator asks of its operand
pub operand-given : (operator : BinaryOperator) (place : Pos) (part : Checked Known) → given part (operand_rule operator place) ≡ operand (operand_kind operator) place part
operand-given operator place part = by (operand_kind operator)
  where
    by : (kind : OperandKind) → given part (λ known. operand kind place (give known)) ≡ operand kind place part
    by AnInteger = sym (given-given part (value_rule place) (integer_rule place))
    by AnyValue = refl
    by AScalar = sym (given-given part (value_rule place) (scalar_rule place))

pub assigned_value-given : (operator : Option BinOp) (place : Pos) (part : Checked Known) → given part (assigned_value_rule operator place) ≡ assigned_value operator place part
assigned_value-given None place part = refl
assigned_value-given (Some op) place part = sym (given-given part (value_rule place) (integer_rule place))

pub assigned_object-given : (scope : Scope) (operator : Option BinOp) (place : Pos) (part : Checked Known) → given part (assigned_object_rule scope operator place) ≡ assigned_object scope operator place part
assigned_object-given scope None place part = refl
assigned_object-given scope (Some op) place part = sym (given-given part (modifiable_rule place) (compound_object scope op place))

-- ---- a part that was seen, and rules behind it

module _ {A B : Type 0} (Stand : Interned → B → Type 0) (view : Interned → B → A) where
  -- it still stands later
  pub still-stands : Stays (IsSeen Stand view) → {s t : State} {part : Checked A} {r : Option B} → Finds (IsSeen Stand view) part s t r → (new : Interned) → Grows t.table new → AllStand Stand new r
  still-stands stay {t = t} {part = part} {r = r} first new grows = by r part.known first.known
    where
      by : (r : Option B) (k : Option A) → IsOption (IsSeen Stand view t.table) r k → AllStand Stand new r
      by None k h = tt
      by (Some b) None h = absurd h
      by (Some b) (Some a) h = (stay t.table new grows b a h).0

  pub stands-now : {s t : State} {part : Checked A} {r : Option B} → Finds (IsSeen Stand view) part s t r → AllStand Stand t.table r
  stands-now {t = t} {part = part} {r = r} first = by r part.known first.known
    where
      by : (r : Option B) (k : Option A) → IsOption (IsSeen Stand view t.table) r k → AllStand Stand t.table r
      by None k h = tt
      by (Some b) None h = absurd h
      by (Some b) (Some a) h = h.0

  module _ {A' B' : Type 0} {Is' : Interned → B' → A' → Type 0} {s0 s1 s2 : State} where
    -- two rules behind it
    pub finds-then-given : {C : Type 0} (part : Checked A) (f : A → Checked C) (g : C → Checked A') {r : Option B} {r' : Option B'} → Finds (IsSeen Stand view) part s0 s1 r → Finds Is' (given (with_known (each_in view s1.table r) f) g) s1 s2 r' → Finds Is' (given (given part f) g) s0 s2 r'
    finds-then-given part f g {r = r} {r' = r'} first second =
        subst (λ checked. Finds Is' checked s0 s2 r') (sym (also-given part.found (with_known part.known f) g))
        (finds-after (finds-goes first)
        (subst (λ known. Finds Is' (given (with_known known f) g) s1 s2 r') (seen-known Stand view s1.table r part.known first.known) second))

    -- three
    pub finds-then-given-given : {C D : Type 0} (part : Checked A) (f : A → Checked C) (g : C → Checked D) (h : D → Checked A') {r : Option B} {r' : Option B'} → Finds (IsSeen Stand view) part s0 s1 r → Finds Is' (given (given (with_known (each_in view s1.table r) f) g) h) s1 s2 r' → Finds Is' (given (given (given part f) g) h) s0 s2 r'
    finds-then-given-given part f g h {r = r} {r' = r'} first second =
        subst (λ checked. Finds Is' (given checked h) s0 s2 r') (sym (also-given part.found (with_known part.known f) g))
        (subst (λ checked. Finds Is' checked s0 s2 r') (sym (also-given part.found (given (with_known part.known f) g) h))
        (finds-after (finds-goes first)
        (subst (λ known. Finds Is' (given (given (with_known known f) g) h) s1 s2 r') (seen-known Stand view s1.table r part.known first.known) second)))

-- ---- three parts that were seen

module _ {A B A' B' A'' B'' C D : Type 0} (Stand : Interned → B → Type 0) (view : Interned → B → A) (Stand' : Interned → B' → Type 0) (view' : Interned → B' → A') (Stand'' : Interned → B'' → Type 0) (view'' : Interned → B'' → A'') {Is : Interned → D → C → Type 0}
    (one : Scope → Checked A) (two : Scope → Checked A') (three : Scope → Checked A'') (rule : Scope → A → A' → A'' → Checked C) where
  pub finds-then_three : {s0 s1 s2 s3 s4 : State} {r : Option B} {r' : Option B'} {r'' : Option B''} {r''' : Option D} → Stays (IsSeen Stand view) → Stays (IsSeen Stand' view')
      → Finds (IsSeen Stand view) (one (scope_of s0)) s0 s1 r → Finds (IsSeen Stand' view') (two (scope_of s1)) s1 s2 r' → Finds (IsSeen Stand'' view'') (three (scope_of s2)) s2 s3 r''
      → Finds Is (with_known (each_in view s3.table r) (λ a. with_known (each_in view' s3.table r') (λ b. with_known (each_in view'' s3.table r'') (rule (scope_of s3) a b)))) s3 s4 r'''
      → Finds Is (given_three (one (scope_of s0)) (two (scope_of s0)) (three (scope_of s0)) (rule (scope_of s0))) s0 s4 r'''
  finds-then_three {s0 = s0} {s1 = s1} {s2 = s2} {s3 = s3} {s4 = s4} {r = r} {r' = r'} {r'' = r''} {r''' = r'''} stay stay' first second third last =
      let scope = scope_of s0 in
      let second' = subst (λ scope. Finds (IsSeen Stand' view') (two scope) s1 s2 r') first.scope second in
      let third' = subst (λ scope. Finds (IsSeen Stand'' view'') (three scope) s2 s3 r'') (second.scope ∙ first.scope) third in
      let kept = option-stays' Stand view stay s1 s3 (grows_trans s1.table s2.table s3.table second.grows third.grows) r (one scope).known first.known in
      let kept' = option-stays' Stand' view' stay' s2 s3 third.grows r' (two scope).known second'.known in
      let e = seen-known Stand view s3.table r (one scope).known kept in
      let e' = seen-known Stand' view' s3.table r' (two scope).known kept' in
      let e'' = seen-known Stand'' view'' s3.table r'' (three scope).known third'.known in
      let last' = subst (λ scope. Finds Is (with_known (each_in view s3.table r) (λ a. with_known (each_in view' s3.table r') (λ b. with_known (each_in view'' s3.table r'') (rule scope a b)))) s3 s4 r''') (third.scope ∙ second.scope ∙ first.scope) last in
      finds-after (goes-trans (goes-trans (finds-goes first) (finds-goes second')) (finds-goes third'))
      (subst (λ known. Finds Is (with_known known (λ a. with_known (two scope).known (λ b. with_known (three scope).known (rule scope a b)))) s3 s4 r''') e
      (subst (λ known. Finds Is (with_known (each_in view s3.table r) (λ a. with_known known (λ b. with_known (three scope).known (rule scope a b)))) s3 s4 r''') e'
      (subst (λ known. Finds Is (with_known (each_in view s3.table r) (λ a. with_known (each_in view' s3.table r') (λ b. with_known known (rule scope a b)))) s3 s4 r''') e'' last')))
    where
      option-stays' : {A B : Type 0} (Stand : Interned → B → Type 0) (view : Interned → B → A) → Stays (IsSeen Stand view) → (s t : State) → Grows s.table t.table → (b : Option B) (k : Option A) → IsOption (IsSeen Stand view s.table) b k → IsOption (IsSeen Stand view t.table) b k
      option-stays' Stand view stay s t grows (Some b) (Some a) h = stay s.table t.table grows b a h
      option-stays' Stand view stay s t grows (Some b) None h = absurd h
      option-stays' Stand view stay s t grows None (Some a) h = absurd h
      option-stays' Stand view stay s t grows None None h = tt

-- ---- places that were looked at

pub at_places : (P : Pos → Pos → Type 0) {p p' q q' : Pos} → p ≡ p' → q ≡ q' → P p q → P p' q'
at_places P {p' = p'} {q = q} e e' h = subst (P p') e' (subst (λ p. P p q) e h)
