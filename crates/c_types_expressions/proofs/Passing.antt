-- Passes over the parts of an expression, with what an operator asks of each, and what it gives of them.
use Rattle.std.proofs.Common.{List, ◌++◌, Option, refl}
use Rattle.c_typed.specs.Table.{Interned}
use Rattle.c_typed.proofs.Grown.{grows_trans}
use Rattle.c_rules.specs.Names.{Scope}
use Rattle.c_rules.specs.Known.{Checked, given, given_two, with_known}
use Rattle.c_types_state.specs.NameTables.{State, scope_of}
use Rattle.c_types_state.specs.Finding.{Finds, each_in}
use Rattle.c_types_state.specs.Staying.{IsSeen, Stays}
use Rattle.c_types_state.proofs.Findings.{finds-then, finds-then_two}
use Rattle.c_types_expressions.specs.declared.pass.Pass.{Pass}
use Rattle.c_rules.specs.Named.{NamedType}
use Rattle.c_types_expressions.specs.Passes.{Passes}
use Rattle.c_types_expressions.proofs.Naming.{names-grow, names-two, passes-made}

-- the same pass, where a checker has gone on
abbrev pub with_checker : Pass → State → Pass
with_checker pass state = record pass { checker = state }

-- ---- one part

module _ {A B : Type 0} (Stand : Interned → B → Type 0) (view : Interned → B → A) where
  module _ {A' B' : Type 0} {Is' : Interned → B' → A' → Type 0} (part : Scope → Checked A) (rule : Scope → A → Checked A') (ns : Scope → List NamedType) where
    pub passes-one : {s0 s1 : Pass} {t : State} {r : Option B} {r' : Option B'} → Passes (IsSeen Stand view) (part (scope_of s0.checker)) (ns (scope_of s0.checker)) s0 s1 r → Finds Is' (with_known (each_in view s1.checker.table r) (rule (scope_of s1.checker))) s1.checker t r' → Passes Is' (given (part (scope_of s0.checker)) (rule (scope_of s0.checker))) (ns (scope_of s0.checker)) s0 (with_checker s1 t) r'
    passes-one first last = passes-made first last.grows refl (finds-then Stand view part rule first.finds last)

-- ---- two parts

module _ {A B A1 B1 : Type 0} (Stand : Interned → B → Type 0) (view : Interned → B → A) (Stand1 : Interned → B1 → Type 0) (view1 : Interned → B1 → A1) where
  -- a part, and two rules behind it
  module _ {A' B' : Type 0} {Is' : Interned → B' → A' → Type 0} (part : Scope → Checked A) (f : Scope → A → Checked A1) (rule : Scope → A1 → Checked A') (ns : Scope → List NamedType) where
    pub passes-one-then : {s0 s1 : Pass} {t u : State} {r : Option B} {r1 : Option B1} {r' : Option B'} → Passes (IsSeen Stand view) (part (scope_of s0.checker)) (ns (scope_of s0.checker)) s0 s1 r → Finds (IsSeen Stand1 view1) (with_known (each_in view s1.checker.table r) (f (scope_of s1.checker))) s1.checker t r1 → Finds Is' (with_known (each_in view1 t.table r1) (rule (scope_of t))) t u r' → Passes Is' (given (given (part (scope_of s0.checker)) (f (scope_of s0.checker))) (rule (scope_of s0.checker))) (ns (scope_of s0.checker)) s0 (with_checker s1 u) r'
    passes-one-then {s1 = s1} {t = t} {u = u} first mid last =
        passes-made first (grows_trans s1.checker.table t.table u.table mid.grows last.grows) refl
        (finds-then Stand1 view1 (λ scope. given (part scope) (f scope)) rule (finds-then Stand view part f first.finds mid) last)

  module _ {A' B' A1' B1' C D : Type 0} (Stand' : Interned → B' → Type 0) (view' : Interned → B' → A') (Stand1' : Interned → B1' → Type 0) (view1' : Interned → B1' → A1') {Is : Interned → D → C → Type 0}
      (one : Scope → Checked A) (f : Scope → A → Checked A1) (two : Scope → Checked A') (g : Scope → A' → Checked A1') (rule : Scope → A1 → A1' → Checked C) (ns ms : Scope → List NamedType) where
    pub passes-two : {s0 s1 s2 : Pass} {t1 t2 t3 : State} {r : Option B} {r1 : Option B1} {r' : Option B'} {r1' : Option B1'} {r'' : Option D} → Stays (IsSeen Stand1 view1)
        → Passes (IsSeen Stand view) (one (scope_of s0.checker)) (ns (scope_of s0.checker)) s0 s1 r → Finds (IsSeen Stand1 view1) (with_known (each_in view s1.checker.table r) (f (scope_of s1.checker))) s1.checker t1 r1
        → Passes (IsSeen Stand' view') (two (scope_of t1)) (ms (scope_of t1)) (with_checker s1 t1) s2 r' → Finds (IsSeen Stand1' view1') (with_known (each_in view' s2.checker.table r') (g (scope_of s2.checker))) s2.checker t2 r1'
        → Finds Is (with_known (each_in view1 t2.table r1) (λ a. with_known (each_in view1' t2.table r1') (rule (scope_of t2) a))) t2 t3 r''
        → Passes Is (given_two (given (one (scope_of s0.checker)) (f (scope_of s0.checker))) (given (two (scope_of s0.checker)) (g (scope_of s0.checker))) (rule (scope_of s0.checker))) (ns (scope_of s0.checker) ++ ms (scope_of s0.checker)) s0 (with_checker s2 t3) r''
    passes-two {s0 = s0} {s1 = s1} {s2 = s2} {t1 = t1} {t2 = t2} {t3 = t3} stay first mid second mid' last =
        let finds = finds-then Stand view one f first.finds mid in
        let finds' = finds-then Stand' view' two g second.finds mid' in
        record {
          finds = finds-then_two Stand1 view1 Stand1' view1' (λ scope. given (one scope) (f scope)) (λ scope. given (two scope) (g scope)) rule stay finds finds' last;
          names = names-grow s2.checker.table t3.table (grows_trans s2.checker.table t2.table t3.table mid'.grows last.grows)
              (names-two (ns (scope_of s0.checker)) ms s1.checker.table s2.checker.table (scope_of t1) (scope_of s0.checker) first.names (grows_trans s1.checker.table t1.table s2.checker.table mid.grows second.finds.grows) finds.scope second.names);
        }

-- two parts, of the first of which nothing is asked
module _ {A B A' B' A1' B1' C D : Type 0} (Stand : Interned → B → Type 0) (view : Interned → B → A) (Stand' : Interned → B' → Type 0) (view' : Interned → B' → A') (Stand1' : Interned → B1' → Type 0) (view1' : Interned → B1' → A1') {Is : Interned → D → C → Type 0}
    (one : Scope → Checked A) (two : Scope → Checked A') (g : Scope → A' → Checked A1') (rule : Scope → A → A1' → Checked C) (ns ms : Scope → List NamedType) where
  pub passes-two-plain : {s0 s1 s2 : Pass} {t2 t3 : State} {r : Option B} {r' : Option B'} {r1' : Option B1'} {r'' : Option D} → Stays (IsSeen Stand view)
      → Passes (IsSeen Stand view) (one (scope_of s0.checker)) (ns (scope_of s0.checker)) s0 s1 r
      → Passes (IsSeen Stand' view') (two (scope_of s1.checker)) (ms (scope_of s1.checker)) s1 s2 r' → Finds (IsSeen Stand1' view1') (with_known (each_in view' s2.checker.table r') (g (scope_of s2.checker))) s2.checker t2 r1'
      → Finds Is (with_known (each_in view t2.table r) (λ a. with_known (each_in view1' t2.table r1') (rule (scope_of t2) a))) t2 t3 r''
      → Passes Is (given_two (one (scope_of s0.checker)) (given (two (scope_of s0.checker)) (g (scope_of s0.checker))) (rule (scope_of s0.checker))) (ns (scope_of s0.checker) ++ ms (scope_of s0.checker)) s0 (with_checker s2 t3) r''
  passes-two-plain {s0 = s0} {s1 = s1} {s2 = s2} {t2 = t2} {t3 = t3} stay first second mid' last =
      let finds' = finds-then Stand' view' two g second.finds mid' in
      record {
        finds = finds-then_two Stand view Stand1' view1' one (λ scope. given (two scope) (g scope)) rule stay first.finds finds' last;
        names = names-grow s2.checker.table t3.table (grows_trans s2.checker.table t2.table t3.table mid'.grows last.grows)
            (names-two (ns (scope_of s0.checker)) ms s1.checker.table s2.checker.table (scope_of s1.checker) (scope_of s0.checker) first.names second.finds.grows first.finds.scope second.names);
      }
