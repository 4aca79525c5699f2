-- First values: what is found of them, and what they store.
use Rattle.std.proofs.Common.{◌≡◌, ℕ, ◌+◌, Bool, true, if◌then◌else◌, List, [], ◌∷◌, ◌++◌, Result, Ok, Err, OnOk, drop, ◌<◌, length, get_or, refl, sym, ap, subst, ◌∙◌}
use Rattle.std.proofs.Common.{append-nil, append_assoc}
use Rattle.std.proofs.lemmas.List.{drop_more}
use Rattle.run_theory.specs.declared.place.Pos.{Pos}
use Rattle.c_typed.specs.Table.{Interned}
use Rattle.c_typed.specs.Types.{CType}
use Rattle.c_typed.specs.Values.{Held}
use Rattle.c_typed.specs.declared.definition.First as memory_first
use Rattle.c_typed.specs.DefinitionViews.{all_first, first_of}
use Rattle.c_rules.specs.declared.rule.TypeRule.{TypeRule}
use Rattle.c_rules.specs.declared.rule.TypeRule.TheVariants as T
use Rattle.c_rules.specs.declared.violation.Violation.{Violation}
use Rattle.c_rules.specs.Names.{Scope}
use Rattle.c_rules.specs.Known.{Known, unless, at}
use Rattle.c_rules.specs.Operators.{fits}
use Rattle.c_rules.specs.Initializers.{known_first}
use Rattle.c_types_state.specs.NameTables.{State, scope_of}
use Rattle.c_types_state.specs.Finding.{noted, lesser}
use Rattle.c_types_expressions.specs.declared.pass.Pass.{Pass}
use Rattle.c_rules.specs.Named.{NamedType}
use Rattle.c_types.specs.declared.initializers.Target.{Target}
use Rattle.c_types.specs.FirstValues.{HoldsFirst, scalar_found}
use Rattle.c_types.specs.Made.{Covers}
use Rattle.c_types.proofs.Covering.{covers-none, covers-same, covers-then, covers-noted}

-- ---- violations that are noted behind a part, or before it

pub covers-refused : {found : List Violation} {named : List NamedType} {there : Scope} {s t u : Pass} (kind : TypeRule) (place : Pos)
    → Covers found named there s t → u.checker ≡ record t.checker { least = lesser t.checker.least (record { kind = kind; place = place }) } → u.named.items ≡ t.named.items → Covers (found ++ at kind place) named there s u
covers-refused {found = found} {named = named} kind place first e same =
    covers-same refl (append-nil named) refl (covers-then (λ _. at kind place) (λ _. []) (λ scope. scope) first (covers-noted (at kind place) e same))

pub covers-behind : (found' : Scope → List Violation) (named' : Scope → List NamedType) (there' : Scope → Scope) {s t u : Pass} (found : List Violation)
    → t.checker ≡ record s.checker { least = noted s.checker.least found } → t.named.items ≡ s.named.items
    → Covers (found' (scope_of t.checker)) (named' (scope_of t.checker)) (there' (scope_of t.checker)) t u → Covers (found ++ found' (scope_of s.checker)) (named' (scope_of s.checker)) (there' (scope_of s.checker)) s u
covers-behind found' named' there' found e same second = covers-then found' named' there' (covers-noted found e same) second

-- ---- a scalar

-- nothing is noted where it holds
pub unless-met : (s u : State) (kind : TypeRule) (place : Pos) (holds : Bool) → holds ≡ true → u ≡ record s { least = noted s.least (unless holds kind place) } → u ≡ s
unless-met s u kind place holds met e = subst (λ b. u ≡ record s { least = noted s.least (unless b kind place) }) met e

pub noted-scalar : (s r : Pass) (u : State) (place : Pos) (c_type : Interned → CType) (known : Interned → Known) (holds : Bool) → holds ≡ fits (c_type s.checker.table) (known s.checker.table) → holds ≡ true
    → u ≡ record s.checker { least = noted s.checker.least (unless holds T.T10 place) }
    → r.checker ≡ record u { least = noted u.least (known_first (scope_of u) place (c_type u.table) (known u.table)) } → r.named.items ≡ s.named.items
    → Covers (scalar_found (scope_of s.checker) place (c_type s.checker.table) (known s.checker.table)) [] (scope_of s.checker) s r
noted-scalar s r u place c_type known holds is met e noting same =
    let first : List Violation = known_first (scope_of s.checker) place (c_type s.checker.table) (known s.checker.table) in
    let here : u ≡ s.checker = unless-met s.checker u T.T10 place holds met e in
    let noting' : r.checker ≡ record s.checker { least = noted s.checker.least first } =
    subst (λ (u : State). r.checker ≡ record u { least = noted u.least (known_first (scope_of u) place (c_type u.table) (known u.table)) }) here noting in
    let all : first ≡ scalar_found (scope_of s.checker) place (c_type s.checker.table) (known s.checker.table) = λ i. if (sym met ∙ is) i then first else at T.T10 place in
    covers-same all refl refl (covers-noted first noting' same)

-- ---- what is stored

pub all_first-append : (xs ys : List memory_first.First) → all_first (xs ++ ys) ≡ all_first xs ++ all_first ys
all_first-append [] ys = refl
all_first-append (x ∷ xs) ys = ap (λ held. first_of x ++ held) (all_first-append xs ys) ∙ sym (append_assoc (first_of x) (all_first xs) (all_first ys))

pub holds-none : (t : Target) → HoldsFirst [] t t
holds-none t = record { parts = refl; first = sym (append-nil (all_first t.first.items)) }

-- one more
pub holds-one : {held : List Held} {old new : Target} (first : memory_first.First) → new.parts.items ≡ old.parts.items → new.first.items ≡ old.first.items ++ first ∷ [] → first_of first ≡ held → HoldsFirst held old new
holds-one {held = held} {old = old} {new = new} first same is means =
    record {
      parts = same;
      first = ap all_first is ∙ all_first-append old.first.items (first ∷ []) ∙ ap (λ held. all_first old.first.items ++ held) (append-nil (first_of first) ∙ means);
    }

pub on_ok : {A E P Q : Type 0} (r : Result A E) → (P → Q) → OnOk r P → OnOk r Q
on_ok (Ok a) f h = f h
on_ok (Err e) f h = tt

-- ---- loops

-- what was passed so far, and then what is left, is what all have
pub record Passed (all left : List Violation) (all_named left_named : List NamedType) (s t : Pass) : Type 0 where
  pub found : List Violation
  pub named : List NamedType
  pub covers : Covers found named (scope_of s.checker) s t
  pub founds : found ++ left ≡ all
  pub nameds : named ++ left_named ≡ all_named

pub passed-none : (all : List Violation) (all_named : List NamedType) (s : Pass) → Passed all all all_named all_named s s
passed-none all all_named s = record { found = []; named = []; covers = covers-none s; founds = refl; nameds = refl }

pub passed-more : (one : Scope → List Violation) (one_named : Scope → List NamedType) {all left : List Violation} {all_named left_named : List NamedType} {s t u : Pass}
    → Passed all (one (scope_of s.checker) ++ left) all_named (one_named (scope_of s.checker) ++ left_named) s t
    → Covers (one (scope_of t.checker)) (one_named (scope_of t.checker)) (scope_of t.checker) t u → Passed all left all_named left_named s u
passed-more one one_named {left = left} {left_named = left_named} {s = s} far h =
    let scope = scope_of s.checker in
    record {
      found = far.found ++ one scope;
      named = far.named ++ one_named scope;
      covers = covers-then one one_named (λ scope. scope) far.covers h;
      founds = append_assoc far.found (one scope) left ∙ far.founds;
      nameds = append_assoc far.named (one_named scope) left_named ∙ far.nameds;
    }

pub passed-last : (last : Scope → List Violation) (last_named : Scope → List NamedType) {all : List Violation} {all_named : List NamedType} {s t u : Pass}
    → Passed all (last (scope_of s.checker)) all_named (last_named (scope_of s.checker)) s t
    → Covers (last (scope_of t.checker)) (last_named (scope_of t.checker)) (scope_of t.checker) t u → Covers all all_named (scope_of s.checker) s u
passed-last last last_named far h = covers-same far.founds far.nameds refl (covers-then last last_named (λ scope. scope) far.covers h)

pub passed-all : {all : List Violation} {all_named : List NamedType} {s t : Pass} → Passed all [] all_named [] s t → Covers all all_named (scope_of s.checker) s t
passed-all far = covers-same (sym (append-nil far.found) ∙ far.founds) (sym (append-nil far.named) ∙ far.nameds) refl far.covers

pub left-more : {A : Type 0} (all : List A) (here : ℕ) (item : A) → here < length all → item ≡ get_or all here item → drop here all ≡ item ∷ drop (here + 1) all
left-more all here item within is = drop_more all here item within ∙ ap (λ first. first ∷ drop (here + 1) all) (sym is)
