-- Initializers of elements and of members, one after another.
use Rattle.std.proofs.Common.{◌≡◌, ℕ, zero, suc, ◌+◌, ◌<◌, ◌≤◌, List, [], ◌∷◌, ◌++◌, Option, Some, None, slice_get, drop, refl, sym, ap, subst, ◌∙◌, arith}
use Rattle.std.proofs.Common.{append-nil, append_assoc}
use Rattle.std.proofs.lemmas.Option.{none-some, same_Some}
use Rattle.c_syntax.specs.Trees.{InitTree, InitsTree, NoInits, Inits}
use Rattle.c_typed.specs.Types.{CType}
use Rattle.c_typed.specs.Values.{Held}
use Rattle.c_typed.specs.Layouts.{MemberDef}
use Rattle.c_typed.specs.declared.part.Part.TheVariants as Parts
use Rattle.c_typed.specs.DefinitionViews.{all_first}
use Rattle.c_rules.specs.Names.{Scope}
use Rattle.c_rules.specs.Initializers as rules
use Rattle.c_rules.specs.Elaborated as elaborated
use Rattle.c_types_state.specs.NameTables.{scope_of}
use Rattle.c_types_expressions.specs.declared.pass.Pass.{Pass}
use Rattle.c_types.specs.declared.initializers.Target.{Target}
use Rattle.c_rules.specs.NamedItems.{named_in_init, named_in_inits}
use Rattle.c_types.specs.FirstValues.{HoldsFirst, too_many}
use Rattle.c_types.specs.Made.{Covers}
use Rattle.c_types.proofs.Firsts.{Passed, passed-none, passed-more, passed-last, passed-all, holds-none}

-- ---- what is stored, one after another

pub holds-then : {one two : List Held} {old mid new : Target} → HoldsFirst one old mid → HoldsFirst two mid new → HoldsFirst (one ++ two) old new
holds-then {one = one} {two = two} {old = old} first second =
    record {
      parts = second.parts ∙ first.parts;
      first = second.first ∙ ap (λ held. held ++ two) first.first ∙ append_assoc (all_first old.first.items) one two;
    }

-- what was stored so far, and then what is left, is what all store
pub record HeldFar (all left : List Held) (old new : Target) : Type 0 where
  pub held : List Held
  pub holds : HoldsFirst held old new
  pub is : held ++ left ≡ all

pub held-none : (all : List Held) (t : Target) → HeldFar all all t t
held-none all t = record { held = []; holds = holds-none t; is = refl }

pub held-more : (one : List Held) {all left : List Held} {old mid new : Target} → HeldFar all (one ++ left) old mid → HoldsFirst one mid new → HeldFar all left old new
held-more one {left = left} far h = record { held = far.held ++ one; holds = holds-then far.holds h; is = append_assoc far.held one left ∙ far.is }

pub held-all : {all : List Held} {old new : Target} → HeldFar all [] old new → HoldsFirst all old new
held-all {old = old} {new = new} far = subst (λ held. HoldsFirst held old new) (sym (append-nil far.held) ∙ far.is) far.holds

-- ---- elements

pub record ElementsFar (element : CType) (n : ℕ) (all left : InitsTree) (index : ℕ) (s t : Pass) (old new : Target) : Type 0 where
  pub more : ℕ
  pub sum : more + index ≡ n
  pub passed : Passed (rules.elements_first (scope_of s.checker) element n all) (rules.elements_first (scope_of s.checker) element more left) (named_in_inits (scope_of s.checker) all) (named_in_inits (scope_of s.checker) left) s t
  pub held : HeldFar (elaborated.elements_held (scope_of s.checker) old.parts.items 0 element n all) (elaborated.elements_held (scope_of s.checker) old.parts.items index element more left) old new

pub elements-none : (element : CType) (n : ℕ) (all : InitsTree) (s : Pass) (old : Target) → ElementsFar element n all all 0 s s old old
elements-none element n all s old =
    let scope = scope_of s.checker in
    record {
      more = n;
      sum = omega arith;
      passed = passed-none (rules.elements_first scope element n all) (named_in_inits scope all) s;
      held = held-none (elaborated.elements_held scope old.parts.items 0 element n all) old;
    }

module _ (element element' : CType) (n : ℕ) (all : InitsTree) (init : InitTree) (rest : InitsTree) (index : ℕ) (s t u : Pass) (old mid new : Target) where
  pub elements-more : index < n → element' ≡ element → ElementsFar element n all (Inits init rest) index s t old mid
      → Covers (rules.first_of (scope_of t.checker) (Some element') init) (named_in_init (scope_of t.checker) init) (scope_of t.checker) t u
      → HoldsFirst (elaborated.held_of (scope_of t.checker) mid.parts.items index (Some element') init) mid new → ElementsFar element n all rest (index + 1) s u old new
  elements-more within same far covers holds = by far.more far.sum far.passed far.held
    where
      scope : Scope
      scope = scope_of s.checker

      by : (more : ℕ) → more + index ≡ n
          → Passed (rules.elements_first scope element n all) (rules.elements_first scope element more (Inits init rest)) (named_in_inits scope all) (named_in_inits scope (Inits init rest)) s t
          → HeldFar (elaborated.elements_held scope old.parts.items 0 element n all) (elaborated.elements_held scope old.parts.items index element more (Inits init rest)) old mid
          → ElementsFar element n all rest (index + 1) s u old new
      by zero sum passed held = absurd (omega (arith, sum, within))
      by (suc more) sum passed held =
          record {
            more = more;
            sum = omega (arith, sum);
            passed =
                passed-more (λ scope. rules.first_of scope (Some element) init) (λ scope. named_in_init scope init) passed
                (subst (λ e. Covers (rules.first_of (scope_of t.checker) (Some e) init) (named_in_init (scope_of t.checker) init) (scope_of t.checker) t u) same covers);
            held =
                subst (λ (k : ℕ). HeldFar (elaborated.elements_held scope old.parts.items 0 element n all) (elaborated.elements_held scope old.parts.items k element more rest) old new) (omega arith)
                (held-more (elaborated.held_of scope old.parts.items index (Some element) init) held
                (subst (λ held. HoldsFirst held mid new) (λ i. elaborated.held_of (passed.covers.scope i) (held.holds.parts i) index (Some (same i)) init) holds));
          }

-- no element is left for those that are
module _ (element : CType) (n : ℕ) (all left : InitsTree) (index : ℕ) (s t u : Pass) (old new : Target) where
  pub elements-refused : n ≤ index → ElementsFar element n all left index s t old new
      → Covers (too_many (scope_of t.checker) left) (named_in_inits (scope_of t.checker) left) (scope_of t.checker) t u
      → Covers (rules.elements_first (scope_of s.checker) element n all) (named_in_inits (scope_of s.checker) all) (scope_of s.checker) s u × HoldsFirst (elaborated.elements_held (scope_of s.checker) old.parts.items 0 element n all) old new
  elements-refused past far covers = by far.more far.sum far.passed far.held left refl
    where
      scope : Scope
      scope = scope_of s.checker

      refused : (rest : InitsTree) → rules.elements_first scope element 0 rest ≡ too_many scope rest
      refused NoInits = refl
      refused (Inits init rest) = refl

      by : (more : ℕ) → more + index ≡ n
          → Passed (rules.elements_first scope element n all) (rules.elements_first scope element more left) (named_in_inits scope all) (named_in_inits scope left) s t
          → HeldFar (elaborated.elements_held scope old.parts.items 0 element n all) (elaborated.elements_held scope old.parts.items index element more left) old new
          → (rest : InitsTree) → rest ≡ left
          → Covers (rules.elements_first scope element n all) (named_in_inits scope all) scope s u × HoldsFirst (elaborated.elements_held scope old.parts.items 0 element n all) old new
      by zero sum passed held rest is = (
        passed-last (λ scope. too_many scope left) (λ scope. named_in_inits scope left)
            (subst (λ found. Passed (rules.elements_first scope element n all) found (named_in_inits scope all) (named_in_inits scope left) s t) (refused left) passed) covers,
        held-all held,
      )
      by (suc more) sum passed held rest is = absurd (omega (arith, sum, past))

-- none is left
pub elements-all : (element : CType) (n : ℕ) (all : InitsTree) (index : ℕ) (s t : Pass) (old new : Target) → ElementsFar element n all NoInits index s t old new
    → Covers (rules.elements_first (scope_of s.checker) element n all) (named_in_inits (scope_of s.checker) all) (scope_of s.checker) s t × HoldsFirst (elaborated.elements_held (scope_of s.checker) old.parts.items 0 element n all) old new
elements-all element n all index s t old new far = (
  passed-all far.passed,
  held-all (subst (λ held. HeldFar (elaborated.elements_held scope old.parts.items 0 element n all) held old new) (none far.more) far.held),
)
  where
    scope : Scope
    scope = scope_of s.checker

    none : (more : ℕ) → elaborated.elements_held scope old.parts.items index element more NoInits ≡ []
    none zero = refl
    none (suc more) = refl

-- ---- members

pub record MembersFar (row : ℕ) (members : List MemberDef) (all left : InitsTree) (number : ℕ) (s t : Pass) (old new : Target) : Type 0 where
  pub passed : Passed (rules.members_first (scope_of s.checker) members all) (rules.members_first (scope_of s.checker) (drop number members) left) (named_in_inits (scope_of s.checker) all) (named_in_inits (scope_of s.checker) left) s t
  pub held : HeldFar (elaborated.members_held (scope_of s.checker) old.parts.items row 0 members all) (elaborated.members_held (scope_of s.checker) old.parts.items row number (drop number members) left) old new

pub members-none : (row : ℕ) (members : List MemberDef) (all : InitsTree) (s : Pass) (old : Target) → MembersFar row members all all 0 s s old old
members-none row members all s old =
    let scope = scope_of s.checker in
    record {
      passed = passed-none (rules.members_first scope members all) (named_in_inits scope all) s;
      held = held-none (elaborated.members_held scope old.parts.items row 0 members all) old;
    }

-- the member of a number, and those behind it
pub drop-member : (members : List MemberDef) (number : ℕ) (member : MemberDef) → slice_get members number ≡ Some member → drop number members ≡ member ∷ drop (suc number) members
drop-member [] number member e = absurd (none-some member e)
drop-member (first ∷ members) zero member e = ap (λ m. m ∷ members) (same_Some first member e)
drop-member (first ∷ members) (suc number) member e = drop-member members number member e

pub drop-past : (members : List MemberDef) (number : ℕ) → slice_get members number ≡ None → drop number members ≡ []
drop-past [] zero e = refl
drop-past [] (suc number) e = refl
drop-past (first ∷ members) zero e = absurd (none-some first (sym e))
drop-past (first ∷ members) (suc number) e = drop-past members number e

module _ (row : ℕ) (members : List MemberDef) (all : InitsTree) (init : InitTree) (rest : InitsTree) (number : ℕ) (member : MemberDef) (c_type : Option CType) (s t u : Pass) (old mid new : Target) where
  pub members-more : slice_get members number ≡ Some member → c_type ≡ member.c_type → MembersFar row members all (Inits init rest) number s t old mid
      → Covers (rules.first_of (scope_of t.checker) c_type init) (named_in_init (scope_of t.checker) init) (scope_of t.checker) t u
      → HoldsFirst (elaborated.held_of (scope_of t.checker) (elaborated.within mid.parts.items (Parts.Member row number)) 0 c_type init) mid new → MembersFar row members all rest (suc number) s u old new
  members-more is same far covers holds =
      record {
        passed =
            passed-more (λ scope. rules.first_of scope member.c_type init) (λ scope. named_in_init scope init)
            (subst (λ left. Passed (rules.members_first scope members all) (rules.members_first scope left (Inits init rest)) (named_in_inits scope all) (named_in_inits scope (Inits init rest)) s t) here far.passed)
            (subst (λ k. Covers (rules.first_of (scope_of t.checker) k init) (named_in_init (scope_of t.checker) init) (scope_of t.checker) t u) same covers);
        held =
            held-more (elaborated.held_of scope (elaborated.within old.parts.items (Parts.Member row number)) 0 member.c_type init)
            (subst (λ left. HeldFar (elaborated.members_held scope old.parts.items row 0 members all) (elaborated.members_held scope old.parts.items row number left (Inits init rest)) old mid) here far.held)
            (subst (λ held. HoldsFirst held mid new) (λ i. elaborated.held_of (far.passed.covers.scope i) (elaborated.within (far.held.holds.parts i) (Parts.Member row number)) 0 (same i) init) holds);
      }
    where
      scope : Scope
      scope = scope_of s.checker

      here : drop number members ≡ member ∷ drop (suc number) members
      here = drop-member members number member is

-- no member is left for those that are
module _ (row : ℕ) (members : List MemberDef) (all left : InitsTree) (number : ℕ) (s t u : Pass) (old new : Target) where
  pub members-refused : slice_get members number ≡ None → MembersFar row members all left number s t old new
      → Covers (too_many (scope_of t.checker) left) (named_in_inits (scope_of t.checker) left) (scope_of t.checker) t u
      → Covers (rules.members_first (scope_of s.checker) members all) (named_in_inits (scope_of s.checker) all) (scope_of s.checker) s u × HoldsFirst (elaborated.members_held (scope_of s.checker) old.parts.items row 0 members all) old new
  members-refused is far covers = (
    passed-last (λ scope. too_many scope left) (λ scope. named_in_inits scope left)
        (subst (λ found. Passed (rules.members_first scope members all) found (named_in_inits scope all) (named_in_inits scope left) s t)
        (ap (λ ms. rules.members_first scope ms left) here ∙ refused left) far.passed) covers,
    held-all (subst (λ ms. HeldFar (elaborated.members_held scope old.parts.items row 0 members all) (elaborated.members_held scope old.parts.items row number ms left) old new) here far.held),
  )
    where
      scope : Scope
      scope = scope_of s.checker

      here : drop number members ≡ []
      here = drop-past members number is

      refused : (rest : InitsTree) → rules.members_first scope [] rest ≡ too_many scope rest
      refused NoInits = refl
      refused (Inits init rest) = refl

-- none is left
pub members-all : (row : ℕ) (members : List MemberDef) (all : InitsTree) (number : ℕ) (s t : Pass) (old new : Target) → MembersFar row members all NoInits number s t old new
    → Covers (rules.members_first (scope_of s.checker) members all) (named_in_inits (scope_of s.checker) all) (scope_of s.checker) s t × HoldsFirst (elaborated.members_held (scope_of s.checker) old.parts.items row 0 members all) old new
members-all row members all number s t old new far = (
  passed-all far.passed,
  held-all (subst (λ held. HeldFar (elaborated.members_held scope old.parts.items row 0 members all) held old new) (none (drop number members)) far.held),
)
  where
    scope : Scope
    scope = scope_of s.checker

    none : (ms : List MemberDef) → elaborated.members_held scope old.parts.items row number ms NoInits ≡ []
    none [] = refl
    none (m ∷ ms) = refl
