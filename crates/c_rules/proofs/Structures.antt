-- The structures that a program completes: each is made of older ones, with a tag of its own.
use Rattle.std.proofs.Common.{◌≡◌, ℕ, zero, suc, Bool, true, false, not, ◌&&◌, cond, List, [], ◌∷◌, ◌++◌, slice_get, Option, Some, None, is_some, bytes_eq, refl, sym, ap, subst, ◌∙◌}
use Rattle.std.proofs.lemmas.Bool.{false≢true, and_from}
use Rattle.std.proofs.lemmas.Option.{none-some, same_Some}
use Rattle.run_theory.specs.declared.place.Pos.{Pos}
use Rattle.c_syntax.specs.Trees.{NameTree, MemberTree, DeclaratorTree}
use Rattle.c_rules.specs.declared.rule.TypeRule.TheVariants as T
use Rattle.c_typed.specs.Types.{CType, Void, Integer, Pointer, Array, Struct, Function}
use Rattle.c_typed.specs.Layouts.{StructDef, MemberDef, is_complete, members_by_tag, has_members, member_type}
use Rattle.c_typed.specs.Inside.{is_sized}
use Rattle.c_rules.specs.Names.{Scope}
use Rattle.c_rules.specs.Known.{Checked, require, given, give}
use Rattle.c_rules.specs.Expressions.{Required, words_type, declared_type, declared_name, name_place}
use Rattle.c_rules.specs.Programs.{Members, declared_members, all_members, member_clash, with_member}
use Rattle.c_typed.specs.Programs.{are_members, are_structs}
use Rattle.c_rules.specs.Proper.{is_proper}
use Rattle.c_rules.proofs.Answering.{HaveTypes}
use Rattle.c_rules.proofs.TypeNames.{words_yield, declared_yields}
use Rattle.c_rules.proofs.Sized.{Sizes, words_sized, declared_sized}
use Rattle.c_rules.proofs.Nothing.{three_none, yields_tested, tested_known, same_name}

-- ---- members

abbrev pub MemberFits : List StructDef → Option CType → Type 0
MemberFits older known = (c_type : CType) × (known ≡ Some c_type) × (is_complete older c_type ≡ true) × (is_proper c_type ≡ true) × (is_sized older c_type ≡ true)

abbrev pub MembersFit : List StructDef → List MemberDef → Type 0
MembersFit older [] = Unit {0}
MembersFit older (first ∷ others) = MemberFits older first.c_type × MembersFit older others

members_more : (older : List StructDef) (members : List MemberDef) (last : MemberDef) → MembersFit older members → MemberFits older last.c_type → MembersFit older (members ++ last ∷ [])
members_more older [] last fit one = (one, tt)
members_more older (first ∷ others) last fit one = (fit.0, members_more older others last fit.1 one)

named_more : (older : List StructDef) (name : Option NameTree) (known : Option CType) (members : List MemberDef) → MembersFit older members → MemberFits older known → MembersFit older (with_member name known members)
named_more older None known members fit one = fit
named_more older (Some name) known members fit one = members_more older members _ fit one

declared_fit : (scope : Scope) → HaveTypes scope → (place : Pos) (base : CType) (declarators : List DeclaratorTree) (members : List MemberDef) → is_proper base ≡ true → Sizes scope.structs base → MembersFit scope.structs members
    → (declared_members scope place (Some base) declarators members).found ≡ [] → MembersFit scope.structs (declared_members scope place (Some base) declarators members).members
declared_fit scope types place base [] members proper sizes fit e = fit
declared_fit scope types place base (declarator ∷ others) members proper sizes fit e =
    let name : Option NameTree = declared_name declarator in
    let here : Pos = name_place name place in
    let typed : Checked CType = declared_type scope here Required (Some base) declarator in
    let own : Checked CType = given typed (λ c_type. require (is_complete scope.structs c_type) T.T05 here (give c_type)) in
    let rest = declared_members scope place (Some base) others (with_member name own.known members) in
    let parts = three_none own.found (member_clash members name) rest.found e in
    let some = yields_tested typed (λ t. is_proper t ≡ true) (λ t. is_complete scope.structs t) T.T05 here (declared_yields scope types here Required base declarator proper) parts.0 in
    let passed = tested_known typed (λ t. is_complete scope.structs t) T.T05 here some.0 parts.0 some.1 in
    let sized = declared_sized scope here Required (Some base) (λ t is. subst (Sizes scope.structs) (same_Some base t is) sizes) declarator passed.0 some.0 passed.1 passed.2 in
    declared_fit scope types place base others (with_member name own.known members) proper sizes (named_more scope.structs name own.known members fit (some.0, some.1, some.2.0, some.2.1, sized)) parts.2

all_fit : (scope : Scope) → HaveTypes scope → (trees : List MemberTree) (members : List MemberDef) → MembersFit scope.structs members
    → (all_members scope trees members).found ≡ [] → MembersFit scope.structs (all_members scope trees members).members
all_fit scope types [] members fit e = fit
all_fit scope types (first ∷ others) members fit e =
    let base : Checked CType = words_type scope first.words in
    let here : Pos = first.words.place in
    let begun : Option CType → Members = λ (k : Option CType). declared_members scope here k first.declarators members in
    let parts = three_none base.found (begun base.known).found (all_members scope others (begun base.known).members).found e in
    let some = words_yield scope first.words parts.0 in
    let first_fit : MembersFit scope.structs (begun base.known).members =
    subst (λ (k : Option CType). MembersFit scope.structs (begun k).members) (sym some.1)
    (declared_fit scope types here some.0 first.declarators members some.2 (words_sized scope first.words some.0 some.1) fit (sym (ap (λ (k : Option CType). (begun k).found) some.1) ∙ parts.1)) in
    all_fit scope types others (begun base.known).members first_fit parts.2

pub body_fits : (scope : Scope) → HaveTypes scope → (trees : List MemberTree) → (all_members scope trees []).found ≡ [] → MembersFit scope.structs (all_members scope trees []).members
body_fits scope types trees e = all_fit scope types trees [] tt e

-- ---- structures

-- what is completed in the one is so in the other
abbrev pub Keeps : List StructDef → List StructDef → Type 0
Keeps older newer = (tag : List ℕ) (members : List MemberDef) → members_by_tag older tag ≡ Some members → members_by_tag newer tag ≡ Some members

pub has_kept : (older newer : Option (List MemberDef)) → ((members : List MemberDef) → older ≡ Some members → newer ≡ Some members) → has_members older ≡ true → has_members newer ≡ true
has_kept None newer keeps e = absurd (false≢true e)
has_kept (Some members) newer keeps e = ap has_members (keeps members refl)

pub complete_kept : (older newer : List StructDef) → Keeps older newer → (c_type : CType) → is_complete older c_type ≡ true → is_complete newer c_type ≡ true
complete_kept older newer keeps Void e = e
complete_kept older newer keeps (Integer int_type) e = refl
complete_kept older newer keeps (Pointer target) e = refl
complete_kept older newer keeps (Array element n) e = refl
complete_kept older newer keeps (Struct tag) e = has_kept (members_by_tag older tag) (members_by_tag newer tag) (keeps tag) e
complete_kept older newer keeps (Function result parameters) e = e

sized_kept : (older newer : List StructDef) → Keeps older newer → (c_type : CType) → is_sized older c_type ≡ true → is_sized newer c_type ≡ true
sized_kept older newer keeps Void e = e
sized_kept older newer keeps (Integer int_type) e = refl
sized_kept older newer keeps (Pointer target) e = refl
sized_kept older newer keeps (Array element n) e = sized_kept older newer keeps element e
sized_kept older newer keeps (Struct tag) e = complete_kept older newer keeps (Struct tag) e
sized_kept older newer keeps (Function result parameters) e = e

abbrev pub StructsFit : List StructDef → Type 0
StructsFit [] = Unit {0}
StructsFit (newest ∷ older) = (members_by_tag older newest.tag ≡ None) × MembersFit older newest.members × StructsFit older

-- a structure with a tag that none has
pub newest_keeps : (newest : StructDef) (older : List StructDef) → members_by_tag older newest.tag ≡ None → Keeps older (newest ∷ older)
newest_keeps newest older new tag members is = by (bytes_eq newest.tag tag) refl
  where
    by : (b : Bool) → bytes_eq newest.tag tag ≡ b → cond b (Some newest.members) (members_by_tag older tag) ≡ Some members
    by true same = absurd (none-some members (sym new ∙ ap (members_by_tag older) (same_name newest.tag tag same) ∙ is))
    by false other = is

are_members_true : (older : List StructDef) (members : List MemberDef) → MembersFit older members → are_members older members ≡ true
are_members_true older [] fit = refl
are_members_true older (first ∷ others) fit = by first.c_type fit.0 (are_members_true older others fit.1)
  where
    by : (known : Option CType) → MemberFits older known → are_members older others ≡ true → are_members older (record first { c_type = known } ∷ others) ≡ true
    by None one rest = absurd (none-some one.0 one.1)
    by (Some c_type) one rest = and_from (is_sized older c_type) (are_members older others) (ap (is_sized older) (same_Some c_type one.0 one.1) ∙ one.4) rest

pub are_structs_true : (structs : List StructDef) → StructsFit structs → are_structs structs ≡ true
are_structs_true [] fit = refl
are_structs_true (newest ∷ older) fit =
    and_from (not (has_members (members_by_tag older newest.tag)) && are_members older newest.members) (are_structs older)
    (and_from (not (has_members (members_by_tag older newest.tag))) (are_members older newest.members) (ap (λ m. not (has_members m)) fit.0) (are_members_true older newest.members fit.1))
    (are_structs_true older fit.2)

-- ---- the members of a structure, by their numbers

member_kept : (older newer : List StructDef) → Keeps older newer → (known : Option CType) → MemberFits older known → MemberFits newer known
member_kept older newer keeps known one = (one.0, one.1, complete_kept older newer keeps one.0 one.2, one.3, sized_kept older newer keeps one.0 one.4)

pub members_kept : (older newer : List StructDef) → Keeps older newer → (members : List MemberDef) → MembersFit older members → MembersFit newer members
members_kept older newer keeps [] fit = tt
members_kept older newer keeps (first ∷ others) fit = (member_kept older newer keeps first.c_type fit.0, members_kept older newer keeps others fit.1)

pub tagged_fit : (structs : List StructDef) → StructsFit structs → (tag : List ℕ) (members : List MemberDef) → members_by_tag structs tag ≡ Some members → MembersFit structs members
tagged_fit [] fit tag members e = absurd (none-some members e)
tagged_fit (newest ∷ older) fit tag members e = by (bytes_eq newest.tag tag) e (tagged_fit older fit.2 tag members)
  where
    keeps : Keeps older (newest ∷ older)
    keeps = newest_keeps newest older fit.0

    by : (b : Bool) → cond b (Some newest.members) (members_by_tag older tag) ≡ Some members → (members_by_tag older tag ≡ Some members → MembersFit older members) → MembersFit (newest ∷ older) members
    by true is rest = subst (MembersFit (newest ∷ older)) (same_Some newest.members members is) (members_kept older (newest ∷ older) keeps newest.members fit.1)
    by false is rest = members_kept older (newest ∷ older) keeps members (rest is)

pub member_fits : (structs : List StructDef) (members : List MemberDef) → MembersFit structs members → (number : ℕ) (member : MemberDef) → slice_get members number ≡ Some member → MemberFits structs member.c_type
member_fits structs [] fit number member e = absurd (none-some member e)
member_fits structs (first ∷ others) fit zero member e = subst (λ (m : MemberDef). MemberFits structs m.c_type) (same_Some first member e) fit.0
member_fits structs (first ∷ others) fit (suc number) member e = member_fits structs others fit.1 number member e

pub typed_fits : (structs : List StructDef) (members : List MemberDef) → MembersFit structs members → (number : ℕ) (c_type : CType) → member_type (slice_get members number) ≡ Some c_type
    → (is_complete structs c_type ≡ true) × (is_proper c_type ≡ true)
typed_fits structs members fit number c_type e = by (slice_get members number) refl e
  where
    by : (m : Option MemberDef) → slice_get members number ≡ m → member_type m ≡ Some c_type → (is_complete structs c_type ≡ true) × (is_proper c_type ≡ true)
    by None at is = absurd (none-some c_type is)
    by (Some member) at is =
        let one = member_fits structs members fit number member at in
        let same = same_Some c_type one.0 (sym is ∙ one.1) in
        (ap (is_complete structs) same ∙ one.2, ap is_proper same ∙ one.3)

pub member_has_type : (structs : List StructDef) (known : Option CType) → MemberFits structs known → is_some known ≡ true
member_has_type structs known one = ap is_some one.1
