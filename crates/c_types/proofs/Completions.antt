-- A pass over a structure with its members, which completes it.
use Rattle.std.proofs.Common.{◌≡◌, ℕ, Bool, true, false, not, if◌then◌else◌, List, [], ◌∷◌, ◌++◌, map, Option, Some, None, refl, sym, ap, subst, ◌∙◌}
use Rattle.run_theory.specs.declared.place.Pos.{Pos}
use Rattle.c_syntax.specs.Trees.{NameTree, MemberTree}
use Rattle.c_typed.specs.declared.c_type.CType as number
use Rattle.c_typed.specs.declared.c_type.StructId as tag
use Rattle.c_typed.specs.declared.c_type.Shape.{Shape}
use Rattle.c_typed.specs.declared.c_type.Shape.TheVariants as S
use Rattle.c_typed.specs.Types.{CType, Struct}
use Rattle.c_typed.specs.Layouts.{MemberDef, is_complete, has_members, members_by_tag}
use Rattle.c_typed.specs.Table.{Interned, MemberEntry, type_in, structs_in, tag_in, member_defs, completed, HasShape, shape_type}
use Rattle.c_typed.proofs.Grown.{stays}
use Rattle.c_rules.specs.declared.violation.Violation.{Violation}
use Rattle.c_rules.specs.declared.rule.TypeRule.TheVariants as T
use Rattle.c_rules.specs.Known.{give, unless}
use Rattle.c_rules.specs.Names.{Scope}
use Rattle.c_types_state.specs.NameTables.{State, scope_of}
use Rattle.c_types_state.specs.Finding.{Finds, IsType, noted}
use Rattle.c_rules.specs.Programs.{all_members, is_completed_before, with_struct}
use Rattle.c_types_expressions.specs.declared.pass.Pass.{Pass}
use Rattle.c_types_expressions.specs.declared.pass.NamedType as memory_named
use Rattle.c_rules.specs.Named.{NamedType, named_at}
use Rattle.c_types_expressions.specs.Passes.{named_type, AllNamedStand, Names}
use Rattle.c_types_expressions.proofs.Passing.{with_checker}
use Rattle.c_rules.specs.NamedItems.{named_in_all_members}
use Rattle.c_types.specs.Made.{Covers, Reaches}
use Rattle.c_types.proofs.Covering.{covers-then, covers-finds, covers-noted, covers-same, covers-named}
use Rattle.c_types.proofs.Reaching.{reaches-covers, reaches-then-covers, reaches-same}

-- whether it was completed before
completed-before : (o : Option (List MemberDef)) → has_members o ≡ is_completed_before o
completed-before (Some members) = refl
completed-before None = refl

abbrev pub is_again : Scope → List ℕ → Bool
is_again scope bytes = is_completed_before (members_by_tag scope.structs bytes)

-- a structure with this tag is complete where it was completed before
complete-again : (table : Interned) (c_type : number.CType) (bytes : List ℕ) → type_in table c_type ≡ Struct bytes → is_complete (structs_in table) (type_in table c_type) ≡ is_completed_before (members_by_tag (structs_in table) bytes)
complete-again table c_type bytes is = ap (is_complete (structs_in table)) is ∙ completed-before (members_by_tag (structs_in table) bytes)

abbrev the_struct : CType → List ℕ
the_struct (Struct tag) = tag
the_struct _ = []

abbrev is_no_struct : CType → Type 0
is_no_struct (Struct tag) = ⊥
is_no_struct _ = Unit {0}

-- its number is that of the tag
tag-is : (table : Interned) (made : number.CType) (id : tag.StructId) (bytes : List ℕ) → type_in table made ≡ Struct bytes → HasShape table (type_in table made) (S.Struct id) → tag_in table id ≡ bytes
tag-is table made id bytes is shape = ap the_struct (sym shape.means ∙ is)

-- ---- the structure's type, and whether it is completed once more

module _ (s : Pass) {t u : State} (name : NameTree) (made : number.CType) (fresh : Bool)
    (found : Finds IsType (give (Struct name.bytes)) s.checker t (Some made))
    (is_fresh : fresh ≡ not (is_complete (structs_in t.table) (type_in t.table made)))
    (noted_now : u ≡ record t { least = noted t.least (unless fresh T.T04 name.place) }) where
  same-again : is_complete (structs_in t.table) (type_in t.table made) ≡ is_again (scope_of s.checker) name.bytes
  same-again = complete-again t.table made name.bytes found.known.1 ∙ ap (λ (scope : Scope). is_again scope name.bytes) found.scope

  covers-again : Covers (unless (not (is_again (scope_of s.checker) name.bytes)) T.T04 name.place) [] (scope_of s.checker) s (with_checker s u)
  covers-again =
      let first : Covers [] [] (scope_of s.checker) s (with_checker s t) = covers-finds {s = s} {t = with_checker s t} found refl in
      covers-same (ap (λ b. unless b T.T04 name.place) (is_fresh ∙ ap not same-again)) refl refl
      (covers-then (λ _. unless fresh T.T04 name.place) (λ _. []) (λ scope. scope) first
      (covers-noted {s = with_checker s t} {t = with_checker s u} (unless fresh T.T04 name.place) noted_now refl))

  -- its type, and its members behind it
  module _ {p : Pass} (trees : List MemberTree) (members : Covers (all_members (scope_of u) trees []).found (named_in_all_members (scope_of u) trees) (scope_of u) (with_checker s u) p) where
    pub covers-struct : Covers (unless (not (is_again (scope_of s.checker) name.bytes)) T.T04 name.place ++ (all_members (scope_of s.checker) trees []).found) (named_in_all_members (scope_of s.checker) trees) (scope_of s.checker) s p
    covers-struct = covers-then (λ scope. (all_members scope trees []).found) (λ scope. named_in_all_members scope trees) (λ scope. scope) covers-again members

    pub struct-stays : IsType p.checker.table made (Struct name.bytes)
    struct-stays =
        let there : IsType u.table made (Struct name.bytes) = subst (λ (state : State). IsType state.table made (Struct name.bytes)) (sym noted_now) found.known in
        let kept = stays u.table p.checker.table members.grows made there.0 in
        (kept.0, kept.1 ∙ there.1)

    pub members-same : (defs : List MemberDef) → defs ≡ (all_members (scope_of u) trees []).members → defs ≡ (all_members (scope_of s.checker) trees []).members
    members-same defs is = is ∙ ap (λ scope. (all_members scope trees []).members) covers-again.scope

    -- it isn't complete yet
    pub not-again : false ≡ is_complete (structs_in t.table) (type_in t.table made) → is_again (scope_of s.checker) name.bytes ≡ false
    not-again open_until_now = sym same-again ∙ sym open_until_now

    -- or it is
    pub is-before : not (is_complete (structs_in t.table) (type_in t.table made)) ≡ false → is_again (scope_of s.checker) name.bytes ≡ true
    is-before closed = sym same-again ∙ by (is_complete (structs_in t.table) (type_in t.table made)) closed
      where
        by : (b : Bool) → not b ≡ false → b ≡ true
        by true e = refl
        by false e = sym e

    pub still-open : (id : tag.StructId) → HasShape p.checker.table (type_in p.checker.table made) (S.Struct id) → false ≡ is_complete (structs_in t.table) (type_in t.table made) → has_members (members_by_tag (structs_in p.checker.table) (tag_in p.checker.table id)) ≡ false
    still-open id shape open_until_now =
        ap (λ bytes. has_members (members_by_tag (structs_in p.checker.table) bytes)) (tag-is p.checker.table made id name.bytes struct-stays.1 shape)
        ∙ completed-before (members_by_tag (structs_in p.checker.table) name.bytes)
        ∙ ap (λ (scope : Scope). is_again scope name.bytes) covers-struct.scope
        ∙ not-again open_until_now

-- ---- the table with the structure

named-completed : (table : Interned) (n : ℕ) (entries : List MemberEntry) (xs : List memory_named.NamedType) → AllNamedStand table xs → AllNamedStand (completed table n entries) xs × (map (named_type (completed table n entries)) xs ≡ map (named_type table) xs)
named-completed table n entries [] h = (tt, refl)
named-completed table n entries (x ∷ xs) h =
    let others = named-completed table n entries xs h.1 in
    ((h.0, others.0), ap (λ more. record { place = x.place; c_type = type_in table x.c_type } ∷ more) others.1)

names-completed : (table : Interned) (n : ℕ) (entries : List MemberEntry) {named : List NamedType} {old new : List memory_named.NamedType} → Names named table old new → Names named (completed table n entries) old new
names-completed table n entries names =
    let kept = named-completed table n entries names.added names.stand in
    record { added = names.added; is = names.is; stand = kept.0; means = kept.1 ∙ names.means }

-- What was reached, and the structure's type there.
pub record Completes (found : List Violation) (named : List NamedType) (there : Scope) (made : number.CType) (bytes : List ℕ) (old new : Pass) : Type 0 where
  pub reaches : Reaches found named there old new
  pub is : IsType new.checker.table made (Struct bytes)

module _ {found : List Violation} {named : List NamedType} {s p : Pass} (scope : Scope) (bytes : List ℕ) (made : number.CType) (members : List MemberDef) (covers : Covers found named scope s p) (is_struct : IsType p.checker.table made (Struct bytes)) where
  abbrev with_it : Bool → Scope
  with_it again = if again then scope else record scope { structs = record { tag = bytes; members = members } ∷ scope.structs }

  -- the structure is completed
  pub reaches-completed : {v : State} (id : tag.StructId) (entries : List MemberEntry) → HasShape p.checker.table (type_in p.checker.table made) (S.Struct id) → is_again scope bytes ≡ false
      → member_defs p.checker.table.tags p.checker.table.entries entries ≡ members → v ≡ record p.checker { table = completed p.checker.table id.0 entries }
      → Completes found named (with_struct bytes members scope) made bytes s (with_checker p v)
  reaches-completed {v = v} id entries shape fresh is_members is =
      let state : State = record p.checker { table = completed p.checker.table id.0 entries } in
      let is_tag = tag-is p.checker.table made id bytes is_struct.1 shape in
      let there : scope_of state ≡ record scope { structs = record { tag = bytes; members = members } ∷ scope.structs } =
      λ i. record (covers.scope i) { structs = record { tag = is_tag i; members = is_members i } ∷ (covers.scope i).structs } in
      let whole : Completes found named (with_struct bytes members scope) made bytes s (with_checker p state) = record {
        reaches = record {
          grows = (reaches-covers covers).grows;
          scope = there ∙ sym (ap with_it fresh);
          least = covers.least;
          names = names-completed p.checker.table id.0 entries covers.names;
        };
        is = is_struct;
      } in
      subst (λ (v : State). Completes found named (with_struct bytes members scope) made bytes s (with_checker p v)) (sym is) whole

  -- it was completed before
  pub reaches-before : is_again scope bytes ≡ true → Completes found named (with_struct bytes members scope) made bytes s p
  reaches-before before = record { reaches = reaches-same refl refl (sym (ap with_it before)) (reaches-covers covers); is = is_struct }

  -- it is a structure
  pub is-a-struct : (shape : Shape) → HasShape p.checker.table (type_in p.checker.table made) shape → ((id : tag.StructId) → shape ≡ S.Struct id → ⊥) → ⊥
  is-a-struct shape has isnt = by shape (sym has.means ∙ is_struct.1) isnt
    where
      by : (shape : Shape) → shape_type p.checker.table shape ≡ Struct bytes → ((id : tag.StructId) → shape ≡ S.Struct id → ⊥) → ⊥
      by (S.Struct id) e isnt = isnt id refl
      by S.Void e isnt = subst is_no_struct e tt
      by (S.Integer int_type) e isnt = subst is_no_struct e tt
      by (S.Pointer target) e isnt = subst is_no_struct e tt
      by (S.Array element length) e isnt = subst is_no_struct e tt
      by (S.Function result parameters) e isnt = subst is_no_struct e tt

-- and its type is named
pub reaches-named : {found : List Violation} {named : List NamedType} {there : Scope} {s p q : Pass} (place : Pos) (bytes : List ℕ) (made : number.CType) → Completes found named there made bytes s p
    → q.checker ≡ p.checker → Names (named_at place (Some (type_in p.checker.table made))) p.checker.table p.named.items q.named.items → Completes (found ++ []) (named ++ named_at place (Some (Struct bytes))) there made bytes s q
reaches-named {s = s} {p = p} {q = q} place bytes made completes same names = record {
  reaches =
      reaches-then-covers (λ _. []) (λ _. named_at place (Some (Struct bytes))) (λ scope. scope) {s = s} {t = p} {u = q} completes.reaches
      (covers-named {s = p} {t = q} same (subst (λ c_type. Names (named_at place (Some c_type)) p.checker.table p.named.items q.named.items) completes.is.1 names));
  is = subst (λ (state : State). IsType state.table made (Struct bytes)) (sym same) completes.is;
}
