-- The members of a structure, one after another.
use Rattle.std.proofs.Common.{◌≡◌, ℕ, ◌+◌, ◌<◌, ◌≤◌, length, drop, get_or, append-nil, Bool, true, false, not, ◌||◌, List, [], ◌∷◌, ◌++◌, map, Option, Some, None, refl, sym, ap, subst, ◌∙◌}
use Rattle.std.specs.Prelude.{bytes_eq}
use Rattle.std.proofs.lemmas.List.{drop_more}
use Rattle.std.proofs.Math.ListN.{drop_of_length-le}
use Rattle.run_theory.specs.declared.place.Pos.{Pos}
use Rattle.c_syntax.specs.Trees.{NameTree, DeclaratorTree, MemberTree}
use Rattle.c_typed.specs.declared.c_type.CType as number
use Rattle.c_typed.specs.declared.structure.Member as memory_member
use Rattle.c_typed.specs.Types.{CType}
use Rattle.c_typed.specs.Layouts.{MemberDef, is_complete}
use Rattle.c_typed.specs.Kept.{IsObject}
use Rattle.c_typed.specs.Table.{Interned, MemberEntry, Grows, Stands, type_in, structs_in, known_in, member_defs, member_entries, IsCompleteMember, AreComplete}
use Rattle.c_typed.proofs.Grown.{stays}
use Rattle.c_rules.specs.declared.rule.TypeRule.TheVariants as T
use Rattle.c_rules.specs.Known.{Checked, given, with_known, unless}
use Rattle.c_rules.specs.Names.{Scope}
use Rattle.c_typed.specs.Names.{contains}
use Rattle.c_types_state.specs.NameTables.{State, scope_of}
use Rattle.c_types_state.specs.Checkers.{names_of}
use Rattle.c_rules.specs.Expressions.{Required, declared_type, declared_name, name_place, words_type}
use Rattle.c_types_state.specs.Finding.{Finds, IsType, AllStand, each_in, noted}
use Rattle.c_rules.specs.Programs.{has_member, member_clash, with_member, declared_members, all_members}
use Rattle.c_types_state.proofs.Findings.{finds-then, finds-known}
use Rattle.c_types_expressions.specs.declared.pass.Pass.{Pass}
use Rattle.c_types_expressions.specs.Derived.{element_rule, IsElement}
use Rattle.c_rules.specs.Named.{named_at, named_in_declarator}
use Rattle.c_types_expressions.specs.Passes.{Names, Passes}
use Rattle.c_types_expressions.proofs.Giving.{stands-now}
use Rattle.c_types_expressions.proofs.Naming.{names-grow, names-then}
use Rattle.c_types_expressions.proofs.Passing.{with_checker}
use Rattle.c_types.specs.declared.structures.Members.{Members}
use Rattle.c_rules.specs.NamedItems.{named_in_members, named_in_all_members}
use Rattle.c_types.specs.Made.{Covers}
use Rattle.c_types.specs.Outside.{defs_in, AreHeld}
use Rattle.c_types.proofs.Covering.{covers-none, covers-two, covers-same, covers-noted, covers-finds}

-- ---- the trees of a list, from one on

module _ {A B : Type 0} (f : A → B) (items slice : List A) (same : slice ≡ items) where
  pub trees-next : (n : ℕ) (x : A) → n < length slice → x ≡ get_or slice n x → map f (drop n items) ≡ f x ∷ map f (drop (n + 1) items)
  trees-next n x lt is = ap (λ xs. map f (drop n xs)) (sym same) ∙ ap (map f) (drop_more slice n x lt ∙ ap (λ first. first ∷ drop (n + 1) slice) (sym is)) ∙ ap (λ xs. f x ∷ map f (drop (n + 1) xs)) same

  pub trees-end : (n : ℕ) → length slice ≤ n → map f (drop n items) ≡ []
  trees-end n h = ap (λ xs. map f (drop n xs)) (sym same) ∙ ap (map f) (drop_of_length-le slice h)

-- ---- they stay while the table grows

module _ (old new : Interned) (grows : Grows old new) where
  member-stays : (t : Option number.CType) → IsCompleteMember old t → IsCompleteMember new t × (known_in new.tags new.entries t ≡ known_in old.tags old.entries t)
  member-stays None h = (tt, refl)
  member-stays (Some t) h =
      let kept = stays old new grows t h.0 in
      let complete : is_complete (structs_in new) (type_in new t) ≡ true = (λ i. is_complete (grows.structs i) (kept.1 i)) ∙ h.1 in
      ((kept.0, complete), ap Some kept.1)

  members-stay : (members : List MemberEntry) → AreComplete old members → AreComplete new members × (member_defs new.tags new.entries members ≡ member_defs old.tags old.entries members)
  members-stay [] h = (tt, refl)
  members-stay (member ∷ members) h =
      let first = member-stays member.c_type h.0 in
      let others = members-stay members h.1 in
      ((first.0, others.0), λ i. record { name = member.name; c_type = first.1 i } ∷ others.1 i)

  pub defs-stay : (members : Members) → AreHeld old members → defs_in new members ≡ defs_in old members
  defs-stay members held = (members-stay (member_entries members.members.items) held.complete).1

  pub held-stays : (members : Members) → AreHeld old members → AreHeld new members
  held-stays members held = record {
    complete = (members-stay (member_entries members.members.items) held.complete).0;
    names = λ name. held.names name ∙ ap (λ defs. has_member defs name) (sym (defs-stay members held));
  }

  -- a type still stands for the same
  pub base-stays : (b : Option number.CType) → AllStand Stands old b → AllStand Stands new b × (each_in type_in new b ≡ each_in type_in old b)
  base-stays None h = (tt, refl)
  base-stays (Some t) h =
      let kept = stays old new grows t h in
      (kept.0, ap Some kept.1)

-- ---- none

pub held-none : (table : Interned) (members : Members) → members.names.keys ≡ [] → members.members.items ≡ [] → AreHeld table members
held-none table members no_names none = record {
  complete = subst (λ items. AreComplete table (member_entries items)) (sym none) tt;
  names = λ name. ap (λ keys. contains (names_of keys) name) no_names ∙ ap (λ items. has_member (member_defs table.tags table.entries (member_entries items)) name) (sym none);
}

pub defs-none : (table : Interned) (members : Members) → members.members.items ≡ [] → defs_in table members ≡ []
defs-none table members none = ap (λ items. member_defs table.tags table.entries (member_entries items)) none

-- ---- one more

or-swap : (a b c : Bool) → (a || (b || c)) ≡ (b || (a || c))
or-swap true true c = refl
or-swap true false c = refl
or-swap false true c = refl
or-swap false false c = refl

has-pushed : (defs : List MemberDef) (one : MemberDef) (name : List ℕ) → has_member (defs ++ one ∷ []) name ≡ (bytes_eq one.name name || has_member defs name)
has-pushed [] one name = refl
has-pushed (first ∷ others) one name = ap (λ b. bytes_eq first.name name || b) (has-pushed others one name) ∙ or-swap (bytes_eq first.name name) (bytes_eq one.name name) (has_member others name)

module _ (table : Interned) where
  complete-pushed : (members : List memory_member.Member) (one : memory_member.Member) → AreComplete table (member_entries members) → IsCompleteMember table one.c_type → AreComplete table (member_entries (members ++ one ∷ []))
  complete-pushed [] one h is = (is, tt)
  complete-pushed (first ∷ others) one h is = (h.0, complete-pushed others one h.1 is)

  defs-pushed : (members : List memory_member.Member) (one : memory_member.Member) → member_defs table.tags table.entries (member_entries (members ++ one ∷ [])) ≡ member_defs table.tags table.entries (member_entries members) ++ record { name = one.name.items; c_type = known_in table.tags table.entries one.c_type } ∷ []
  defs-pushed [] one = refl
  defs-pushed (first ∷ others) one = ap (λ defs. record { name = first.name.items; c_type = known_in table.tags table.entries first.c_type } ∷ defs) (defs-pushed others one)

  known-each : (t : Option number.CType) → known_in table.tags table.entries t ≡ each_in type_in table t
  known-each None = refl
  known-each (Some t) = refl

  complete-object : (t : Option number.CType) → AllStand IsObject table t → IsCompleteMember table t
  complete-object None h = tt
  complete-object (Some t) h = (h.stands, h.complete)

  module _ (old new : Members) (name : NameTree) (one : memory_member.Member) (is_name : one.name.items ≡ name.bytes) (pushed : new.members.items ≡ old.members.items ++ one ∷ []) where
    pub defs-more : defs_in table new ≡ with_member (Some name) (each_in type_in table one.c_type) (defs_in table old)
    defs-more =
        ap (λ items. member_defs table.tags table.entries (member_entries items)) pushed
        ∙ defs-pushed old.members.items one
        ∙ (λ i. defs_in table old ++ record { name = is_name i; c_type = known-each one.c_type i } ∷ [])

    pub held-more : AreHeld table old → AllStand IsObject table one.c_type → ((other : List ℕ) → contains (names_of new.names.keys) other ≡ contains (name.bytes ∷ names_of old.names.keys) other) → AreHeld table new
    held-more held object names = record {
      complete = subst (λ items. AreComplete table (member_entries items)) (sym pushed) (complete-pushed old.members.items one held.complete (complete-object one.c_type object));
      names = λ other.
          names other
          ∙ ap (λ b. bytes_eq name.bytes other || b) (held.names other)
          ∙ sym (has-pushed (defs_in table old) (record { name = name.bytes; c_type = each_in type_in table one.c_type }) other)
          ∙ ap (λ defs. has_member defs other) (sym defs-more);
    }

-- a name that stands twice is noted
pub clash-noted : {s t : Pass} (defs : List MemberDef) (name : NameTree) (new : Bool) → new ≡ not (has_member defs name.bytes) → t.checker ≡ record s.checker { least = noted s.checker.least (unless new T.T04 name.place) } → t.named.items ≡ s.named.items
    → Covers (member_clash defs (Some name)) [] (scope_of s.checker) s t
clash-noted {s = s} {t = t} defs name new is noted_now same = covers-same (ap (λ b. unless b T.T04 name.place) is) refl refl (covers-noted (unless new T.T04 name.place) noted_now same)

-- ---- the members of one declaration

-- What is covered of the declarators that are left is covered of all.
pub record Declared (old : Pass) (place : Pos) (base : Option CType) (all : List DeclaratorTree) (before : List MemberDef) (left : List DeclaratorTree) (defs : List MemberDef) (now : Pass) : Type 0 where
  pub covers : (t : Pass) → Covers (declared_members (scope_of old.checker) place base left defs).found (named_in_members (scope_of old.checker) place base left) (scope_of old.checker) now t
      → Covers (declared_members (scope_of old.checker) place base all before).found (named_in_members (scope_of old.checker) place base all) (scope_of old.checker) old t
  pub members : (declared_members (scope_of old.checker) place base left defs).members ≡ (declared_members (scope_of old.checker) place base all before).members

pub declared-start : (old : Pass) (place : Pos) (base : Option CType) (all : List DeclaratorTree) (before : List MemberDef) → Declared old place base all before all before old
declared-start old place base all before = record { covers = λ t covers. covers; members = refl }

-- the type of one
abbrev pub own_at : Option CType → DeclaratorTree → Scope → Pos → Checked CType
own_at base declarator scope here = given (declared_type scope here Required base declarator) (element_rule scope here)

abbrev pub own_type : Scope → Pos → Option CType → DeclaratorTree → Checked CType
own_type scope place base declarator = own_at base declarator scope (name_place (declared_name declarator) place)

-- what is found of one, and named
pub own-covers : {now p q : Pass} {u : State} (scope : Scope) (place here : Pos) (base : Option CType) (declarator : DeclaratorTree) {r own : Option number.CType} → scope_of now.checker ≡ scope → here ≡ name_place (declared_name declarator) place
    → Passes IsType (declared_type (scope_of now.checker) here Required base declarator) (named_in_declarator (scope_of now.checker) declarator) now p r
    → Finds IsElement (with_known (each_in type_in p.checker.table r) (element_rule (scope_of p.checker) here)) p.checker u own
    → q.checker ≡ u → Names (named_at here (each_in type_in u.table own)) u.table p.named.items q.named.items
    → Covers (own_type scope place base declarator).found (named_in_declarator scope declarator ++ named_at (name_place (declared_name declarator) place) (own_type scope place base declarator).known) scope now q
    × (each_in type_in q.checker.table own ≡ (own_type scope place base declarator).known)
    × AllStand IsObject q.checker.table own
own-covers {now = now} {p = p} {q = q} {u = u} scope place here base declarator {r = r} {own = own} same at_place first second same_state named =
    let begun = scope_of now.checker in
    let whole : Finds IsElement (own_at base declarator begun here) now.checker u own = finds-then Stands type_in (λ scope. declared_type scope here Required base declarator) (λ scope. element_rule scope here) first.finds second in
    let known : each_in type_in u.table own ≡ (own_at base declarator begun here).known = finds-known IsObject type_in whole in
    let both : Names (named_in_declarator begun declarator ++ named_at here (own_at base declarator begun here).known) u.table now.named.items q.named.items =
    names-then u.table (names-grow p.checker.table u.table second.grows first.names) (subst (λ known. Names (named_at here known) u.table p.named.items q.named.items) known named) in
    let covers : Covers (own_at base declarator begun here).found (named_in_declarator begun declarator ++ named_at here (own_at base declarator begun here).known) begun now q = record {
      grows = subst (λ (state : State). Grows now.checker.table state.table) (sym same_state) whole.grows;
      scope = ap scope_of same_state ∙ whole.scope;
      least = ap (λ (state : State). state.least) same_state ∙ whole.least;
      names = subst (λ (state : State). Names (named_in_declarator begun declarator ++ named_at here (own_at base declarator begun here).known) state.table now.named.items q.named.items) (sym same_state) both;
    } in
    subst (λ (here : Pos). Covers (own_at base declarator scope here).found (named_in_declarator scope declarator ++ named_at here (own_at base declarator scope here).known) scope now q × (each_in type_in q.checker.table own ≡ (own_at base declarator scope here).known) × AllStand IsObject q.checker.table own) at_place
    (subst (λ (scope : Scope). Covers (own_at base declarator scope here).found (named_in_declarator scope declarator ++ named_at here (own_at base declarator scope here).known) scope now q × (each_in type_in q.checker.table own ≡ (own_at base declarator scope here).known) × AllStand IsObject q.checker.table own) same
    (covers, ap (λ (state : State). each_in type_in state.table own) same_state ∙ known, subst (λ (state : State). AllStand IsObject state.table own) (sym same_state) (stands-now IsObject type_in whole)))

-- one declarator was gone over, and these are the members behind it
pub record Steps (scope : Scope) (place : Pos) (base : Option CType) (declarator : DeclaratorTree) (now : Pass) (before : Members) (next : Pass) (after : Members) : Type 0 where
  pub covers : Covers ((own_type scope place base declarator).found ++ member_clash (defs_in now.checker.table before) (declared_name declarator)) (named_in_declarator scope declarator ++ named_at (name_place (declared_name declarator) place) (own_type scope place base declarator).known) scope now next
  pub held : AreHeld next.checker.table after
  pub members : defs_in next.checker.table after ≡ with_member (declared_name declarator) (own_type scope place base declarator).known (defs_in now.checker.table before)

module _ (scope : Scope) (place : Pos) (base : Option CType) (declarator : DeclaratorTree) (now q : Pass) (before : Members) (held : AreHeld now.checker.table before) (own : Option number.CType)
    (covers : Covers (own_type scope place base declarator).found (named_in_declarator scope declarator ++ named_at (name_place (declared_name declarator) place) (own_type scope place base declarator).known) scope now q)
    (is_own : each_in type_in q.checker.table own ≡ (own_type scope place base declarator).known) where
  -- it has a name
  pub steps-named : (next : Pass) (after : Members) (name : NameTree) → Some name ≡ declared_name declarator → Covers (member_clash (defs_in q.checker.table before) (Some name)) [] (scope_of q.checker) q next → AreHeld next.checker.table after
      → defs_in next.checker.table after ≡ with_member (Some name) (each_in type_in q.checker.table own) (defs_in q.checker.table before) → Steps scope place base declarator now before next after
  steps-named next after name is_name clash held_after members =
      let named = named_in_declarator scope declarator ++ named_at (name_place (declared_name declarator) place) (own_type scope place base declarator).known in
      let kept = defs-stay now.checker.table q.checker.table covers.grows before held in
      let clash' : Covers (member_clash (defs_in now.checker.table before) (declared_name declarator)) [] scope q next =
      covers-same (ap (λ defs. member_clash defs (Some name)) kept ∙ ap (member_clash (defs_in now.checker.table before)) is_name) refl covers.scope clash in
      record {
        covers = covers-same refl (append-nil named) refl (covers-two covers clash');
        held = held_after;
        members = members ∙ (λ i. with_member (Some name) (is_own i) (kept i)) ∙ ap (λ known. with_member known (own_type scope place base declarator).known (defs_in now.checker.table before)) is_name;
      }

  -- it has none
  pub steps-unnamed : None ≡ declared_name declarator → Steps scope place base declarator now before q before
  steps-unnamed none = record {
    covers = covers-same (sym (append-nil (own_type scope place base declarator).found) ∙ ap (λ known. (own_type scope place base declarator).found ++ member_clash (defs_in now.checker.table before) known) none) refl refl covers;
    held = held-stays now.checker.table q.checker.table covers.grows before held;
    members = defs-stay now.checker.table q.checker.table covers.grows before held ∙ ap (λ known. with_member known (own_type scope place base declarator).known (defs_in now.checker.table before)) none;
  }

-- what is left behind one
module _ (old : Pass) (place : Pos) (base : Option CType) (all : List DeclaratorTree) (before : List MemberDef) (left rest : List DeclaratorTree) (defs defs' : List MemberDef) (now next : Pass) (declarator : DeclaratorTree) (is_left : left ≡ declarator ∷ rest) where
  pub declared-more : Covers ((own_type (scope_of old.checker) place base declarator).found ++ member_clash defs (declared_name declarator)) (named_in_declarator (scope_of old.checker) declarator ++ named_at (name_place (declared_name declarator) place) (own_type (scope_of old.checker) place base declarator).known) (scope_of old.checker) now next
      → defs' ≡ with_member (declared_name declarator) (own_type (scope_of old.checker) place base declarator).known defs
      → Declared old place base all before left defs now → Declared old place base all before rest defs' next
  declared-more one is_more declared =
      let scope = scope_of old.checker in
      record {
        covers = λ t behind. declared.covers t
            (subst (λ left. Covers (declared_members scope place base left defs).found (named_in_members scope place base left) scope now t) (sym is_left)
            (covers-two one (subst (λ defs. Covers (declared_members scope place base rest defs).found (named_in_members scope place base rest) scope next t) is_more behind)));
        members =
            ap (λ defs. (declared_members scope place base rest defs).members) is_more
            ∙ ap (λ left. (declared_members scope place base left defs).members) (sym is_left)
            ∙ declared.members;
      }

pub declared-end : (old : Pass) (place : Pos) (base : Option CType) (all : List DeclaratorTree) (before : List MemberDef) (left : List DeclaratorTree) (defs : List MemberDef) (now : Pass) → left ≡ [] → scope_of now.checker ≡ scope_of old.checker → Declared old place base all before left defs now
    → Covers (declared_members (scope_of old.checker) place base all before).found (named_in_members (scope_of old.checker) place base all) (scope_of old.checker) old now
    × (defs ≡ (declared_members (scope_of old.checker) place base all before).members)
declared-end old place base all before left defs now none same declared =
    let scope = scope_of old.checker in (
      declared.covers now (subst (λ left. Covers (declared_members scope place base left defs).found (named_in_members scope place base left) scope now now) (sym none) (covers-same refl refl same (covers-none now))),
      ap (λ left. (declared_members scope place base left defs).members) (sym none) ∙ declared.members,
    )

-- ---- the members of all declarations

pub record Listed (old : Pass) (all : List MemberTree) (left : List MemberTree) (defs : List MemberDef) (now : Pass) : Type 0 where
  pub covers : (t : Pass) → Covers (all_members (scope_of old.checker) left defs).found (named_in_all_members (scope_of old.checker) left) (scope_of old.checker) now t
      → Covers (all_members (scope_of old.checker) all []).found (named_in_all_members (scope_of old.checker) all) (scope_of old.checker) old t
  pub members : (all_members (scope_of old.checker) left defs).members ≡ (all_members (scope_of old.checker) all []).members

pub listed-start : (old : Pass) (all : List MemberTree) (defs : List MemberDef) → defs ≡ [] → Listed old all all defs old
listed-start old all defs none = subst (λ defs. Listed old all all defs old) (sym none) (record { covers = λ t covers. covers; members = refl })

pub listed-more : (old : Pass) (all left rest : List MemberTree) (defs defs' : List MemberDef) (now next : Pass) (one : MemberTree) → left ≡ one ∷ rest
    → Covers ((words_type (scope_of old.checker) one.words).found ++ (declared_members (scope_of old.checker) one.words.place (words_type (scope_of old.checker) one.words).known one.declarators defs).found) (named_in_members (scope_of old.checker) one.words.place (words_type (scope_of old.checker) one.words).known one.declarators) (scope_of old.checker) now next
    → defs' ≡ (declared_members (scope_of old.checker) one.words.place (words_type (scope_of old.checker) one.words).known one.declarators defs).members
    → Listed old all left defs now → Listed old all rest defs' next
listed-more old all left rest defs defs' now next one is_left first is_more listed =
    let scope = scope_of old.checker in
    record {
      covers = λ t behind. listed.covers t
          (subst (λ left. Covers (all_members scope left defs).found (named_in_all_members scope left) scope now t) (sym is_left)
          (covers-two first (subst (λ defs. Covers (all_members scope rest defs).found (named_in_all_members scope rest) scope next t) is_more behind)));
      members =
          ap (λ defs. (all_members scope rest defs).members) is_more
          ∙ ap (λ left. (all_members scope left defs).members) (sym is_left)
          ∙ listed.members;
    }

-- one declaration was gone over
pub listed-step : {now next : Pass} {t : State} (scope : Scope) (one : MemberTree) (base : Option number.CType) (before after : Members) → scope_of now.checker ≡ scope → AreHeld now.checker.table before
    → Finds IsType (words_type (scope_of now.checker) one.words) now.checker t base
    → Covers (declared_members (scope_of t) one.words.place (each_in type_in t.table base) one.declarators (defs_in t.table before)).found (named_in_members (scope_of t) one.words.place (each_in type_in t.table base) one.declarators) (scope_of t) (with_checker now t) next
    → defs_in next.checker.table after ≡ (declared_members (scope_of t) one.words.place (each_in type_in t.table base) one.declarators (defs_in t.table before)).members
    → Covers ((words_type scope one.words).found ++ (declared_members scope one.words.place (words_type scope one.words).known one.declarators (defs_in now.checker.table before)).found) (named_in_members scope one.words.place (words_type scope one.words).known one.declarators) scope now next
    × (defs_in next.checker.table after ≡ (declared_members scope one.words.place (words_type scope one.words).known one.declarators (defs_in now.checker.table before)).members)
listed-step {now = now} {next = next} {t = t} scope one base before after same held first second members =
    let place = one.words.place in
    let known : each_in type_in t.table base ≡ (words_type scope one.words).known = finds-known Stands type_in first ∙ ap (λ scope. (words_type scope one.words).known) same in
    let kept = defs-stay now.checker.table t.table first.grows before held in
    let there : scope_of t ≡ scope = first.scope ∙ same in
    let first' : Covers (words_type scope one.words).found [] scope now (with_checker now t) = covers-same (ap (λ scope. (words_type scope one.words).found) same) refl same (covers-finds {s = now} {t = with_checker now t} first refl) in
    let second' : Covers (declared_members scope place (words_type scope one.words).known one.declarators (defs_in now.checker.table before)).found (named_in_members scope place (words_type scope one.words).known one.declarators) scope (with_checker now t) next =
    covers-same (λ i. (declared_members (there i) place (known i) one.declarators (kept i)).found) (λ i. named_in_members (there i) place (known i) one.declarators) there second in
    (covers-two first' second', members ∙ (λ i. (declared_members (there i) place (known i) one.declarators (kept i)).members))

pub listed-end : (old : Pass) (all left : List MemberTree) (defs : List MemberDef) (now : Pass) → left ≡ [] → scope_of now.checker ≡ scope_of old.checker → Listed old all left defs now
    → Covers (all_members (scope_of old.checker) all []).found (named_in_all_members (scope_of old.checker) all) (scope_of old.checker) old now × (defs ≡ (all_members (scope_of old.checker) all []).members)
listed-end old all left defs now none same listed =
    let scope = scope_of old.checker in (
      listed.covers now (subst (λ left. Covers (all_members scope left defs).found (named_in_all_members scope left) scope now now) (sym none) (covers-same refl refl same (covers-none now))),
      ap (λ left. (all_members scope left defs).members) (sym none) ∙ listed.members,
    )
