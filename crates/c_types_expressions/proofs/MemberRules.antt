-- What the rule of members gives of the member that a structure has, or has not.
use Rattle.std.proofs.Common.{◌≡◌, ℕ, zero, suc, ◌+◌, Bool, true, false, List, [], ◌∷◌, Option, Some, None, refl, sym, ap, subst, ◌∙◌, arith}
use Rattle.std.specs.Prelude.{slice_get, option_map, bytes_eq, if◌then◌else◌}
use Rattle.run_theory.specs.declared.place.Pos.{Pos}
use Rattle.c_syntax.specs.Trees.{NameTree}
use Rattle.c_rules.specs.declared.rule.TypeRule.TheVariants as T
use Rattle.c_typed.specs.Types.{CType, Void, Integer, Pointer, Array, Struct, Function}
use Rattle.c_typed.specs.Typed.{Object}
use Rattle.c_typed.specs.Layouts.{MemberDef, members_by_tag, known_members, member_type}
use Rattle.c_typed.specs.declared.c_type.CType as number
use Rattle.c_typed.specs.declared.structure.MemberAt.{MemberAt}
use Rattle.c_typed.specs.Table.{members_of, member_number, names_of, structs_in, known_in, KnownStands, IsMember}
use Rattle.c_rules.specs.Names.{Scope}
use Rattle.c_rules.specs.Known.{Checked, Known, Address, give, refuse, object_at}
use Rattle.c_types_state.specs.NameTables.{State, scope_of}
use Rattle.c_types_state.specs.Finding.{Finds, IsExpr, lesser}
use Rattle.c_types_state.proofs.Findings.{finds-unknown, finds-refuse-lesser}
use Rattle.c_types_expressions.specs.Members.{IsMemberOf}
use Rattle.c_rules.specs.Constants.{member_address}
use Rattle.c_rules.specs.Operators.{of_type, member_at, member_in, member_of}

module _ (object : ℕ → Object) (from : Address) where
  -- the member of a number
  abbrev pub the_member : ℕ → CType → Checked Known
  the_member number c_type = give (object_at c_type (object number) (member_address from number c_type))

module _ (whole : Pos) (object : ℕ → Object) (from : Address) (name : List ℕ) where
  first-found : (m : MemberDef) (ms : List MemberDef) (k n j : ℕ) (b : Bool)
      → ((k' n' j' : ℕ) → j' ≡ k' + n' → member_number (names_of ms) name ≡ Some n' → member_at k' ms name object from whole ≡ of_type (member_type (slice_get ms n')) (the_member object from j'))
      → j ≡ k + n
      → (if b then Some 0 else option_map suc (member_number (names_of ms) name)) ≡ Some n
      → (if b then of_type m.c_type (the_member object from k) else member_at (k + 1) ms name object from whole) ≡ of_type (member_type (slice_get (m ∷ ms) n)) (the_member object from j)
  first-found m ms k zero j true others at e =
      let same : k ≡ j = omega arith in
      ap (λ i. of_type m.c_type (the_member object from i)) same
  first-found m ms k (suc n) j true others at e = absurd (cc)
  first-found m ms k n j false others at e = by (member_number (names_of ms) name) refl e
    where
      by : (o : Option ℕ) → member_number (names_of ms) name ≡ o → option_map suc o ≡ Some n → member_at (k + 1) ms name object from whole ≡ of_type (member_type (slice_get (m ∷ ms) n)) (the_member object from j)
      by None is e = absurd (cc)
      by (Some p) is e =
          let same : suc p ≡ n = cc in
          subst (λ i. member_at (k + 1) ms name object from whole ≡ of_type (member_type (slice_get (m ∷ ms) i)) (the_member object from j)) same
          (others (k + 1) p j (omega arith) is)

  pub at-found : (ms : List MemberDef) (k n j : ℕ) → j ≡ k + n → member_number (names_of ms) name ≡ Some n → member_at k ms name object from whole ≡ of_type (member_type (slice_get ms n)) (the_member object from j)
  at-found [] k n j at e = absurd (cc)
  at-found (m ∷ ms) k n j at e = first-found m ms k n j (bytes_eq m.name name) (at-found ms) at e

  first-missing : (m : MemberDef) (ms : List MemberDef) (k : ℕ) (b : Bool)
      → ((k' : ℕ) → member_number (names_of ms) name ≡ None → member_at k' ms name object from whole ≡ refuse T.T15 whole)
      → (if b then Some 0 else option_map suc (member_number (names_of ms) name)) ≡ None
      → (if b then of_type m.c_type (the_member object from k) else member_at (k + 1) ms name object from whole) ≡ refuse T.T15 whole
  first-missing m ms k true others e = absurd (cc)
  first-missing m ms k false others e = by (member_number (names_of ms) name) refl e
    where
      by : (o : Option ℕ) → member_number (names_of ms) name ≡ o → option_map suc o ≡ None → member_at (k + 1) ms name object from whole ≡ refuse T.T15 whole
      by None is e = others (k + 1) is
      by (Some p) is e = absurd (cc)

  pub at-missing : (ms : List MemberDef) (k : ℕ) → member_number (names_of ms) name ≡ None → member_at k ms name object from whole ≡ refuse T.T15 whole
  at-missing [] k e = refl
  at-missing (m ∷ ms) k e = first-missing m ms k (bytes_eq m.name name) (at-missing ms) e

module _ (scope : Scope) (whole : Pos) (member : NameTree) (object : ℕ → Object) (from : Address) where
  pub member-found : (c_type : CType) (n : ℕ) → member_number (names_of (members_of scope.structs c_type)) member.bytes ≡ Some n → member_of scope whole c_type object from member ≡ of_type (member_type (slice_get (members_of scope.structs c_type) n)) (the_member object from n)
  member-found (Struct tag) n e = by (members_by_tag scope.structs tag) e
    where
      by : (o : Option (List MemberDef)) → member_number (names_of (known_members o)) member.bytes ≡ Some n → member_in o member.bytes object from whole ≡ of_type (member_type (slice_get (known_members o) n)) (the_member object from n)
      by None e = absurd (cc)
      by (Some ms) e = at-found whole object from member.bytes ms 0 n n (omega arith) e
  member-found Void n e = absurd (cc)
  member-found (Integer t) n e = absurd (cc)
  member-found (Pointer t) n e = absurd (cc)
  member-found (Array t l) n e = absurd (cc)
  member-found (Function t ps) n e = absurd (cc)

  pub member-missing : (c_type : CType) → member_number (names_of (members_of scope.structs c_type)) member.bytes ≡ None → member_of scope whole c_type object from member ≡ refuse T.T15 whole
  member-missing (Struct tag) e = by (members_by_tag scope.structs tag) e
    where
      by : (o : Option (List MemberDef)) → member_number (names_of (known_members o)) member.bytes ≡ None → member_in o member.bytes object from whole ≡ refuse T.T15 whole
      by None e = refl
      by (Some ms) e = at-missing whole object from member.bytes ms 0 e
  member-missing Void e = refl
  member-missing (Integer t) e = refl
  member-missing (Pointer t) e = refl
  member-missing (Array t l) e = refl
  member-missing (Function t ps) e = refl

-- ---- what is found of a member

module _ (s : State) (whole : Pos) (member : NameTree) (c_type : CType) where
  pub missing-finds : (t : State) (result : Option MemberAt) → ((found : MemberAt) → result ≡ Some found → ⊥) → IsMember s.table (members_of (structs_in s.table) c_type) member.bytes result → t ≡ record s { least = lesser s.least (record { kind = T.T15; place = whole }) } → IsMemberOf s t whole c_type member None
  missing-finds t (Some found) none is e = absurd (none found refl)
  missing-finds t None none is e = λ object from.
      subst (λ rule. Finds IsExpr rule s t None) (sym (member-missing (scope_of s) whole member object from c_type is)) (finds-refuse-lesser T.T15 whole e)

  module _ (result : Option MemberAt) (found : MemberAt) (there : result ≡ Some found) (is : IsMember s.table (members_of (structs_in s.table) c_type) member.bytes result) where
    found-is : IsMember s.table (members_of (structs_in s.table) c_type) member.bytes (Some found)
    found-is = subst (IsMember s.table (members_of (structs_in s.table) c_type) member.bytes) there is

    found-rule : (object : ℕ → Object) (from : Address) (t : Option number.CType) → found.c_type ≡ t → member_of (scope_of s) whole c_type object from member ≡ of_type (known_in s.table.tags s.table.entries t) (the_member object from found.number)
    found-rule object from t e =
        member-found (scope_of s) whole member object from c_type found.number found-is.0
        ∙ ap (λ o. of_type o (the_member object from found.number)) (sym found-is.1 ∙ ap (known_in s.table.tags s.table.entries) e)

    pub untyped-finds : found.c_type ≡ None → IsMemberOf s s whole c_type member None
    untyped-finds e = λ object from.
        subst (λ rule. Finds IsExpr rule s s None) (sym (found-rule object from None e)) finds-unknown

    pub typed-finds : (t : number.CType) → found.c_type ≡ Some t → IsMemberOf s s whole c_type member (Some (record { number = found.number; c_type = t }))
    typed-finds t e = (refl, subst (KnownStands s.table) e found-is.2, λ object from. found-rule object from (Some t) e)
