-- Parts of types: a part of a part is a part, and where two parts of one type have a slot in common, one is a part of the other.
use Rattle.std.proofs.Common.{◌≡◌, ℕ, ◌+◌, ◌<◌, ◌≤◌, ◌-◌, Bool, true, false, cond, List, [], ◌∷◌, Option, Some, None, refl, sym, ap, subst, ◌∙◌, arith, ◌⊎◌, inl, inr}
use Rattle.std.specs.Prelude.{bytes_eq, nat_lt, ◌==◌}
use Rattle.std.proofs.lemmas.Bool.{false≢true, true≢false, cond-true, cond-false, and_parts, and_from, or_left, or_right, or_cases, eqb-true, eq-eqb, ltb-true, ltb-false}
use Rattle.std.proofs.lemmas.Option.{none-some, same_Some}
use Rattle.c_typed.specs.Types.{CType, Void, Integer, Pointer, Array, Struct, Function, same_type, is_array}
use Rattle.c_typed.specs.Layouts.{StructDef, MemberDef, Layout, Table, greatest, saturated, no_layout, layout_in, known_layout, member_layout, behind, members_layout, layouts, members_by_tag}
use Rattle.c_typed.specs.Inside.{is_known_sized, are_sized}
use Rattle.c_typed.proofs.Same.{same_type-refl, same_type-true}
use Rattle.heap_graph.specs.Parts.{MemberIn, graph_type, alike, slots_of, Parts, begins, parts_in, parts_from, parts_of_members, parts_by_tag, has_part}
use Rattle.heap_graph.specs.Structures.{AreMade}
use Rattle.heap_graph.proofs.Older.{sized_parts, members_stay, known_stays, known}

-- ---- types that are alike

pub alike_same : (a b : CType) → alike a b ≡ true → graph_type a ≡ graph_type b
alike_same a b h = same_type-true (graph_type a) (graph_type b) h

pub same_alike : (a b : CType) → graph_type a ≡ graph_type b → alike a b ≡ true
same_alike a b e = ap (λ t. same_type (graph_type a) t) (sym e) ∙ same_type-refl (graph_type a)

pub alike_refl : (a : CType) → alike a a ≡ true
alike_refl a = same_type-refl (graph_type a)

pub alike_sym : (a b : CType) → alike a b ≡ true → alike b a ≡ true
alike_sym a b h = same_alike b a (sym (alike_same a b h))

pub alike_trans : (a b c : CType) → alike a b ≡ true → alike b c ≡ true → alike a c ≡ true
alike_trans a b c h k = same_alike a c (alike_same a b h ∙ alike_same b c k)

graph_slots : (structs : List StructDef) (t : CType) → slots_of structs (graph_type t) ≡ slots_of structs t
graph_slots structs Void = refl
graph_slots structs (Integer t) = refl
graph_slots structs (Pointer Void) = refl
graph_slots structs (Pointer (Integer t)) = refl
graph_slots structs (Pointer (Pointer t)) = refl
graph_slots structs (Pointer (Array t n)) = refl
graph_slots structs (Pointer (Struct tag)) = refl
graph_slots structs (Pointer (Function t ts)) = refl
graph_slots structs (Array t n) = graph_slots structs t
graph_slots structs (Struct tag) = refl
graph_slots structs (Function t ts) = refl

pub alike_slots : (structs : List StructDef) (a b : CType) → alike a b ≡ true → slots_of structs a ≡ slots_of structs b
alike_slots structs a b h = sym (graph_slots structs a) ∙ ap (slots_of structs) (alike_same a b h) ∙ graph_slots structs b

-- the elements of arrays that are alike are
alike_array : (element : CType) (length : ℕ) (t : CType) → alike (Array element length) t ≡ true
    → (other : CType) × (n : ℕ) × (t ≡ Array other n) × (alike element other ≡ true)
alike_array element length Void h = absurd (false≢true h)
alike_array element length (Integer t) h = absurd (false≢true h)
alike_array element length (Pointer Void) h = absurd (false≢true h)
alike_array element length (Pointer (Integer t)) h = absurd (false≢true h)
alike_array element length (Pointer (Pointer t)) h = absurd (false≢true h)
alike_array element length (Pointer (Array t n)) h = absurd (false≢true h)
alike_array element length (Pointer (Struct tag)) h = absurd (false≢true h)
alike_array element length (Pointer (Function t ts)) h = absurd (false≢true h)
alike_array element length (Array other n) h = (other, n, refl, (and_parts (alike element other) (length == n) h).0)
alike_array element length (Struct tag) h = absurd (false≢true h)
alike_array element length (Function t ts) h = absurd (false≢true h)

alike_struct : (tag : List ℕ) (t : CType) → alike (Struct tag) t ≡ true → t ≡ Struct tag
alike_struct tag Void h = absurd (false≢true h)
alike_struct tag (Integer t) h = absurd (false≢true h)
alike_struct tag (Pointer Void) h = absurd (false≢true h)
alike_struct tag (Pointer (Integer t)) h = absurd (false≢true h)
alike_struct tag (Pointer (Pointer t)) h = absurd (false≢true h)
alike_struct tag (Pointer (Array t n)) h = absurd (false≢true h)
alike_struct tag (Pointer (Struct other)) h = absurd (false≢true h)
alike_struct tag (Pointer (Function t ts)) h = absurd (false≢true h)
alike_struct tag (Array other n) h = absurd (false≢true h)
alike_struct tag (Struct other) h = sym (same_type-true (Struct tag) (Struct other) h)
alike_struct tag (Function t ts) h = absurd (false≢true h)

-- ---- parts as trees

pub data PartOf (structs : List StructDef) : CType → ℕ → CType → Type 0 where
  Itself : (own : CType) (slot : ℕ) (part : CType) → slot ≡ 0 → alike own part ≡ true → PartOf structs own slot part
  InElement : (own element : CType) (length slot : ℕ) (part : CType) → own ≡ Array element length → PartOf structs element slot part → PartOf structs own slot part
  InMember : (own : CType) (tag : List ℕ) (members : List MemberDef) (at : ℕ) (t : CType) (inner slot : ℕ) (part : CType) → own ≡ Struct tag
      → members_by_tag structs tag ≡ Some members → MemberIn (layouts structs) 0 members at t → slot ≡ at + inner → PartOf structs t inner part → PartOf structs own slot part

member_stays : (newest : StructDef) (older : List StructDef) → members_by_tag older newest.tag ≡ None → (members : List MemberDef) → are_sized older members ≡ true
    → (front at : ℕ) (t : CType) → MemberIn (layouts older) front members at t → MemberIn (layouts (newest ∷ older)) front members at t
member_stays newest older fresh [] sized front at t h = h
member_stays newest older fresh (member ∷ members) sized front at t (inl here) = inl here
member_stays newest older fresh (member ∷ members) sized front at t (inr there) =
    let parts = sized_parts (is_known_sized older member.c_type) (are_sized older members) sized in
    let same = known_stays newest older fresh member.c_type parts.0 in
    inr (subst (λ (l : Layout). MemberIn (layouts (newest ∷ older)) (front + l.slots) members at t) (sym same)
    (member_stays newest older fresh members parts.1 (front + (member_layout (layouts older) member).slots) at t there))

part_stays : (newest : StructDef) (older : List StructDef) → members_by_tag older newest.tag ≡ None → AreMade older
    → (own : CType) (slot : ℕ) (part : CType) → PartOf older own slot part → PartOf (newest ∷ older) own slot part
part_stays newest older fresh made own slot part (Itself _ _ _ first same) = Itself own slot part first same
part_stays newest older fresh made own slot part (InElement _ element length _ _ is inside) =
    InElement own element length slot part is (part_stays newest older fresh made element slot part inside)
part_stays newest older fresh made own slot part (InMember _ tag members at t inner _ _ is has member sum inside) =
    InMember own tag members at t inner slot part is (members_stay newest older fresh tag members has)
    (member_stays newest older fresh members (known older made tag members has).sized 0 at t member) sum (part_stays newest older fresh made t inner part inside)

-- ---- what the test finds is a part

begins_part : (structs : List StructDef) (own : CType) (slot : ℕ) (part : CType) → begins own slot part ≡ true → PartOf structs own slot part
begins_part structs own slot part h = let both = and_parts (slot == 0) (alike own part) h in Itself own slot part (eqb-true slot 0 both.0) both.1

tested_in : (structs : List StructDef) (by_tag : List ℕ → Parts) → ((tag : List ℕ) (slot : ℕ) (part : CType) → by_tag tag slot part ≡ true → PartOf structs (Struct tag) slot part)
    → (own : CType) (slot : ℕ) (part : CType) → parts_in by_tag own slot part ≡ true → PartOf structs own slot part
tested_in structs by_tag tags Void slot part h = begins_part structs Void slot part h
tested_in structs by_tag tags (Integer t) slot part h = begins_part structs (Integer t) slot part h
tested_in structs by_tag tags (Pointer t) slot part h = begins_part structs (Pointer t) slot part h
tested_in structs by_tag tags (Function t ts) slot part h = begins_part structs (Function t ts) slot part h
tested_in structs by_tag tags (Array element length) slot part h =
    by (or_cases (begins (Array element length) slot part) (parts_in by_tag element slot part) h) (λ e. tested_in structs by_tag tags element slot part e)
  where
    by : (begins (Array element length) slot part ≡ true) ⊎ (parts_in by_tag element slot part ≡ true) → (parts_in by_tag element slot part ≡ true → PartOf structs element slot part)
        → PartOf structs (Array element length) slot part
    by (inl e) deeper = begins_part structs (Array element length) slot part e
    by (inr e) deeper = InElement (Array element length) element length slot part refl (deeper e)
tested_in structs by_tag tags (Struct tag) slot part h = by (or_cases (begins (Struct tag) slot part) (by_tag tag slot part) h)
  where
    by : (begins (Struct tag) slot part ≡ true) ⊎ (by_tag tag slot part ≡ true) → PartOf structs (Struct tag) slot part
    by (inl e) = begins_part structs (Struct tag) slot part e
    by (inr e) = tags tag slot part e

-- of members
record Inside (structs : List StructDef) (front : ℕ) (members : List MemberDef) (slot : ℕ) (part : CType) : Type 0 where
  at : ℕ
  t : CType
  inner : ℕ
  member : MemberIn (layouts structs) front members at t
  sum : slot ≡ at + inner
  inside : PartOf structs t inner part

past_front : (slot front : ℕ) → (P : Bool) → cond (nat_lt slot front) false P ≡ true → (slot ≡ front + (slot - front)) × (P ≡ true)
past_front slot front P h = by (nat_lt slot front) refl h
  where
    by : (b : Bool) → nat_lt slot front ≡ b → cond b false P ≡ true → (slot ≡ front + (slot - front)) × (P ≡ true)
    by true is e = absurd (false≢true e)
    by false is e = let over = ltb-false slot front is in (omega (arith, over), e)

tested_members : (structs : List StructDef) (by_tag : List ℕ → Parts) → ((tag : List ℕ) (slot : ℕ) (part : CType) → by_tag tag slot part ≡ true → PartOf structs (Struct tag) slot part)
    → (front : ℕ) (members : List MemberDef) (slot : ℕ) (part : CType) → parts_of_members (layouts structs) by_tag front members slot part ≡ true → Inside structs front members slot part
tested_members structs by_tag tags front [] slot part h = absurd (false≢true h)
tested_members structs by_tag tags front (member ∷ members) slot part h =
    by member.name member.c_type h (λ e. tested_members structs by_tag tags (front + (member_layout (layouts structs) member).slots) members slot part e)
  where
    later : (name : List ℕ) (c : Option CType) → Inside structs (front + (known_layout (layouts structs) c).slots) members slot part → Inside structs front (record { name = name; c_type = c } ∷ members) slot part
    later name c found = record { at = found.at; t = found.t; inner = found.inner; member = inr found.member; sum = found.sum; inside = found.inside }

    by : (name : List ℕ) (c : Option CType) → parts_of_members (layouts structs) by_tag front (record { name = name; c_type = c } ∷ members) slot part ≡ true
        → (parts_of_members (layouts structs) by_tag (front + (known_layout (layouts structs) c).slots) members slot part ≡ true → Inside structs (front + (known_layout (layouts structs) c).slots) members slot part)
        → Inside structs front (record { name = name; c_type = c } ∷ members) slot part
    by name None e rest = later name None (rest e)
    by name (Some t) e rest =
        which (or_cases (parts_from front (parts_in by_tag t) slot part) (parts_of_members (layouts structs) by_tag (front + (known_layout (layouts structs) (Some t)).slots) members slot part) e)
      where
        which : (parts_from front (parts_in by_tag t) slot part ≡ true) ⊎ (parts_of_members (layouts structs) by_tag (front + (known_layout (layouts structs) (Some t)).slots) members slot part ≡ true)
            → Inside structs front (record { name = name; c_type = Some t } ∷ members) slot part
        which (inl here) =
            let past = past_front slot front (parts_in by_tag t (slot - front) part) here in
            record { at = front; t = t; inner = slot - front; member = inl (refl, refl); sum = past.0; inside = tested_in structs by_tag tags t (slot - front) part past.1 }
        which (inr there) = later name (Some t) (rest there)

tested_tag : (structs : List StructDef) → AreMade structs → (tag : List ℕ) (slot : ℕ) (part : CType) → parts_by_tag structs tag slot part ≡ true → PartOf structs (Struct tag) slot part
tested_tag [] made tag slot part h = absurd (false≢true h)
tested_tag (newest ∷ older) made tag slot part h = by (bytes_eq newest.tag tag) refl h (λ own at p e. tested_tag older made.1 own at p e)
  where
    by : (b : Bool) → bytes_eq newest.tag tag ≡ b
        → cond b (parts_of_members (layouts older) (parts_by_tag older) 0 newest.members slot part) (parts_by_tag older tag slot part) ≡ true
        → ((own : List ℕ) (at : ℕ) (p : CType) → parts_by_tag older own at p ≡ true → PartOf older (Struct own) at p)
        → PartOf (newest ∷ older) (Struct tag) slot part
    by true is e tags =
        let found = tested_members older (parts_by_tag older) tags 0 newest.members slot part e in
        InMember (Struct tag) tag newest.members found.at found.t found.inner slot part refl (cond-true (bytes_eq newest.tag tag) (Some newest.members) (members_by_tag older tag) is)
        (member_stays newest older made.0.fresh newest.members made.0.sized 0 found.at found.t found.member) found.sum
        (part_stays newest older made.0.fresh made.1 found.t found.inner part found.inside)
    by false is e tags = part_stays newest older made.0.fresh made.1 (Struct tag) slot part (tags tag slot part e)

pub tested : (structs : List StructDef) → AreMade structs → (own : CType) (slot : ℕ) (part : CType) → has_part structs own slot part ≡ true → PartOf structs own slot part
tested structs made own slot part h = tested_in structs (parts_by_tag structs) (tested_tag structs made) own slot part h

-- ---- and what is a part is found

begins_found : (by_tag : List ℕ → Parts) (own : CType) (slot : ℕ) (part : CType) → begins own slot part ≡ true → parts_in by_tag own slot part ≡ true
begins_found by_tag Void slot part h = h
begins_found by_tag (Integer t) slot part h = h
begins_found by_tag (Pointer t) slot part h = h
begins_found by_tag (Function t ts) slot part h = h
begins_found by_tag (Array t n) slot part h = or_left (begins (Array t n) slot part) (parts_in by_tag t slot part) h
begins_found by_tag (Struct tag) slot part h = or_left (begins (Struct tag) slot part) (by_tag tag slot part) h

not_before : (front inner : ℕ) → nat_lt (front + inner) front ≡ false
not_before front inner = by (nat_lt (front + inner) front) refl
  where
    by : (b : Bool) → nat_lt (front + inner) front ≡ b → nat_lt (front + inner) front ≡ false
    by true is = let lt = ltb-true (front + inner) front is in absurd (omega (arith, lt))
    by false is = is

member_found : (structs : List StructDef) (by_tag : List ℕ → Parts) (front : ℕ) (members : List MemberDef) (at : ℕ) (t : CType) (inner slot : ℕ) (part : CType)
    → MemberIn (layouts structs) front members at t → slot ≡ at + inner → parts_in by_tag t inner part ≡ true → parts_of_members (layouts structs) by_tag front members slot part ≡ true
member_found structs by_tag front [] at t inner slot part h sum found = absurd h
member_found structs by_tag front (member ∷ members) at t inner slot part h sum found =
    by member.name member.c_type h (λ there. member_found structs by_tag (front + (member_layout (layouts structs) member).slots) members at t inner slot part there sum found)
  where
    by : (name : List ℕ) (c : Option CType) → MemberIn (layouts structs) front (record { name = name; c_type = c } ∷ members) at t
        → (MemberIn (layouts structs) (front + (known_layout (layouts structs) c).slots) members at t
        → parts_of_members (layouts structs) by_tag (front + (known_layout (layouts structs) c).slots) members slot part ≡ true)
        → parts_of_members (layouts structs) by_tag front (record { name = name; c_type = c } ∷ members) slot part ≡ true
    by name None (inl here) rest = absurd (none-some t here.0)
    by name (Some own) (inl here) rest =
        let its = same_Some own t here.0 in
        let e : slot ≡ front + inner = sum ∙ ap (λ n. n + inner) (sym here.1) in
        let inside : parts_in by_tag own (slot - front) part ≡ true = ap (λ x. parts_in by_tag x (slot - front) part) its ∙ ap (λ n. parts_in by_tag t n part) (omega (arith, e)) ∙ found in
        or_left (parts_from front (parts_in by_tag own) slot part) (parts_of_members (layouts structs) by_tag (front + (known_layout (layouts structs) (Some own)).slots) members slot part)
        (cond-false (nat_lt slot front) false (parts_in by_tag own (slot - front) part) (ap (λ n. nat_lt n front) e ∙ not_before front inner) ∙ inside)
    by name None (inr there) rest = rest there
    by name (Some own) (inr there) rest =
        or_right (parts_from front (parts_in by_tag own) slot part) (parts_of_members (layouts structs) by_tag (front + (known_layout (layouts structs) (Some own)).slots) members slot part) (rest there)

pub found : (structs : List StructDef) → AreMade structs → (own : CType) (slot : ℕ) (part : CType) → PartOf structs own slot part → has_part structs own slot part ≡ true
found structs made own slot part (Itself _ _ _ first same) =
    begins_found (parts_by_tag structs) own slot part (and_from (slot == 0) (alike own part) (eq-eqb slot 0 first) same)
found structs made own slot part (InElement _ element length _ _ is inside) =
    subst (λ t. has_part structs t slot part ≡ true) (sym is) (or_right (begins (Array element length) slot part) (has_part structs element slot part) (found structs made element slot part inside))
found structs made own slot part (InMember _ tag members at t inner _ _ is has member sum inside) =
    let its = known structs made tag members has in
    subst (λ own. has_part structs own slot part ≡ true) (sym is) (or_right (begins (Struct tag) slot part) (parts_by_tag structs tag slot part)
    (its.parts slot part ∙ member_found structs (parts_by_tag structs) 0 members at t inner slot part member sum (found structs made t inner part inside)))

-- ---- where parts lie

-- a front isn't longer than the whole
front_within : (table : Table) (members : List MemberDef) (front : Layout) → (members_layout table front members).slots < greatest → front.slots ≤ (members_layout table front members).slots
front_within table [] front few = omega arith
front_within table (member ∷ members) front few =
    let rest : saturated (front.slots + (member_layout table member).slots) ≤ (members_layout table front (member ∷ members)).slots =
    front_within table members (behind front (member_layout table member)) few in
    omega (arith, rest, few)

member_within : (table : Table) (members : List MemberDef) (front : Layout) → (members_layout table front members).slots < greatest → (k at : ℕ) (t : CType) → k ≡ front.slots → MemberIn table k members at t
    → at + (layout_in table t).slots ≤ (members_layout table front members).slots
member_within table [] front few k at t e h = absurd h
member_within table (member ∷ members) front few k at t e (inl here) =
    let rest : saturated (front.slots + (member_layout table member).slots) ≤ (members_layout table front (member ∷ members)).slots =
    front_within table members (behind front (member_layout table member)) few in
    let its : (member_layout table member).slots ≡ (layout_in table t).slots = ap (λ c. (known_layout table c).slots) here.0 in
    let place = here.1 in
    omega (arith, rest, few, its, place, e)
member_within table (member ∷ members) front few k at t e (inr there) =
    let rest : saturated (front.slots + (member_layout table member).slots) ≤ (members_layout table front (member ∷ members)).slots =
    front_within table members (behind front (member_layout table member)) few in
    let next : k + (member_layout table member).slots ≡ saturated (front.slots + (member_layout table member).slots) = omega (arith, rest, few, e) in
    member_within table members (behind front (member_layout table member)) few (k + (member_layout table member).slots) at t next there

-- a part lies within the whole
pub within : (structs : List StructDef) → AreMade structs → (own : CType) (slot : ℕ) (part : CType) → PartOf structs own slot part → slot + slots_of structs part ≤ slots_of structs own
within structs made own slot part (Itself _ _ _ first same) = let e = alike_slots structs own part same in omega (arith, e, first)
within structs made own slot part (InElement _ element length _ _ is inside) =
    let rest = within structs made element slot part inside in
    let e = ap (slots_of structs) is in
    omega (arith, rest, e)
within structs made own slot part (InMember _ tag members at t inner _ _ is has member sum inside) =
    let its = known structs made tag members has in
    let rest = within structs made t inner part inside in
    let lies = member_within (layouts structs) members no_layout its.few 0 at t refl member in
    let whole : slots_of structs own ≡ (members_layout (layouts structs) no_layout members).slots = ap (slots_of structs) is ∙ its.slots in
    omega (arith, rest, lies, whole, sum)

member_behind : (table : Table) (members : List MemberDef) (front at : ℕ) (t : CType) → MemberIn table front members at t → front ≤ at
member_behind table [] front at t h = absurd h
member_behind table (member ∷ members) front at t (inl here) = let e = here.1 in omega (arith, e)
member_behind table (member ∷ members) front at t (inr there) = let rest = member_behind table members (front + (member_layout table member).slots) at t there in omega (arith, rest)

-- two members are one, or one lies behind the other
apart : (table : Table) (members : List MemberDef) (front a b : ℕ) (t u : CType) → MemberIn table front members a t → MemberIn table front members b u
    → ((a ≡ b) × (t ≡ u)) ⊎ ((a + (layout_in table t).slots ≤ b) ⊎ (b + (layout_in table u).slots ≤ a))
apart table [] front a b t u h k = absurd h
apart table (member ∷ members) front a b t u (inl h) (inl k) = inl (sym h.1 ∙ k.1, same_Some t u (sym h.0 ∙ k.0))
apart table (member ∷ members) front a b t u (inl h) (inr k) =
    let past = member_behind table members (front + (member_layout table member).slots) b u k in
    let its : (member_layout table member).slots ≡ (layout_in table t).slots = ap (λ c. (known_layout table c).slots) h.0 in
    let place = h.1 in
    inr (inl (omega (arith, past, its, place)))
apart table (member ∷ members) front a b t u (inr h) (inl k) =
    let past = member_behind table members (front + (member_layout table member).slots) a t h in
    let its : (member_layout table member).slots ≡ (layout_in table u).slots = ap (λ c. (known_layout table c).slots) k.0 in
    let place = k.1 in
    inr (inr (omega (arith, past, its, place)))
apart table (member ∷ members) front a b t u (inr h) (inr k) = apart table members (front + (member_layout table member).slots) a b t u h k

-- ---- parts of parts

array_not_struct : (element : CType) (n : ℕ) (tag : List ℕ) → Array element n ≡ Struct tag → ⊥
array_not_struct element n tag e = true≢false (ap is_array e)

abbrev element_of : CType → CType
element_of (Array element length) = element
element_of t = t

abbrev tag_of : CType → List ℕ
tag_of (Struct tag) = tag
tag_of t = []

-- what is a part of a type is one of each type that is alike
part_alike : (structs : List StructDef) (own other : CType) (slot : ℕ) (part : CType) → alike own other ≡ true → PartOf structs own slot part → PartOf structs other slot part
part_alike structs own other slot part h (Itself _ _ _ first same) = Itself other slot part first (alike_trans other own part (alike_sym own other h) same)
part_alike structs own other slot part h (InElement _ element length _ _ is inside) =
    let its = alike_array element length other (ap (λ t. alike t other) (sym is) ∙ h) in
    InElement other its.0 its.1 slot part its.2 (part_alike structs element its.0 slot part its.3 inside)
part_alike structs own other slot part h (InMember _ tag members at t inner _ _ is has member sum inside) =
    InMember other tag members at t inner slot part (alike_struct tag other (ap (λ t. alike t other) (sym is) ∙ h)) has member sum inside

-- a part of a part is a part
pub part_trans : (structs : List StructDef) (own : CType) (p : ℕ) (a : CType) (q : ℕ) (b : CType) → PartOf structs own p a → PartOf structs a q b → PartOf structs own (p + q) b
part_trans structs own p a q b (Itself _ _ _ first same) inner =
    subst (λ n. PartOf structs own n b) (omega (arith, first)) (part_alike structs a own q b (alike_sym own a same) inner)
part_trans structs own p a q b (InElement _ element length _ _ is inside) inner =
    InElement own element length (p + q) b is (part_trans structs element p a q b inside inner)
part_trans structs own p a q b (InMember _ tag members at t k _ _ is has member sum inside) inner =
    InMember own tag members at t (k + q) (p + q) b is has member (omega (arith, sum)) (part_trans structs t k a q b inside inner)

-- one is a part of the other
pub data Nests (structs : List StructDef) (p : ℕ) (a : CType) (q : ℕ) (b : CType) : Type 0 where
  Within : (d : ℕ) → p + d ≡ q → PartOf structs a d b → Nests structs p a q b
  Around : (d : ℕ) → q + d ≡ p → PartOf structs b d a → Nests structs p a q b

-- Where two parts of a type have a slot in common, one is a part of the other.
pub nests : (structs : List StructDef) → AreMade structs → (own : CType) (p : ℕ) (a : CType) (q : ℕ) (b : CType) (s : ℕ) → PartOf structs own p a → PartOf structs own q b
    → p ≤ s → s < p + slots_of structs a → q ≤ s → s < q + slots_of structs b → Nests structs p a q b
nests structs made own p a q b s (Itself _ _ _ first same) second pa pz qa qz =
    Within q (omega (arith, first)) (part_alike structs own a q b same second)
nests structs made own p a q b s first (Itself _ _ _ zero same) pa pz qa qz =
    Around p (omega (arith, zero)) (part_alike structs own b p a same first)
nests structs made own p a q b s (InElement _ element length _ _ is inside) (InElement _ other n _ _ its inner) pa pz qa qz =
    let same : other ≡ element = ap element_of (sym its ∙ is) in
    nests structs made element p a q b s inside (subst (λ t. PartOf structs t q b) same inner) pa pz qa qz
nests structs made own p a q b s (InElement _ element length _ _ is inside) (InMember _ tag members at t k _ _ its has member sum inner) pa pz qa qz =
    absurd (array_not_struct element length tag (sym is ∙ its))
nests structs made own p a q b s (InMember _ tag members at t k _ _ is has member sum inside) (InElement _ element length _ _ its inner) pa pz qa qz =
    absurd (array_not_struct element length tag (sym its ∙ is))
nests structs made own p a q b s (InMember _ tag members at t k _ _ is has member sum inside) (InMember _ tag' members' at' t' k' _ _ is' has' member' sum' inner) pa pz qa qz =
    by (apart (layouts structs) members 0 at at' t t' member second) (λ l. nests structs made t k a k' b (s - at) inside l)
  where
    one : members' ≡ members
    one = same_Some members' members (sym has' ∙ ap (members_by_tag structs) (ap tag_of (sym is' ∙ is)) ∙ has)

    second : MemberIn (layouts structs) 0 members at' t'
    second = subst (λ l. MemberIn (layouts structs) 0 l at' t') one member'

    inside_first : k + slots_of structs a ≤ slots_of structs t
    inside_first = within structs made t k a inside

    inside_second : k' + slots_of structs b ≤ slots_of structs t'
    inside_second = within structs made t' k' b inner

    moved : Nests structs k a k' b → at ≡ at' → Nests structs p a q b
    moved (Within d e h) same = Within d (omega (arith, e, same, sum, sum')) h
    moved (Around d e h) same = Around d (omega (arith, e, same, sum, sum')) h

    by : ((at ≡ at') × (t ≡ t')) ⊎ ((at + slots_of structs t ≤ at') ⊎ (at' + slots_of structs t' ≤ at))
        → (PartOf structs t k' b → k ≤ s - at → s - at < k + slots_of structs a → k' ≤ s - at → s - at < k' + slots_of structs b → Nests structs k a k' b) → Nests structs p a q b
    by (inl same) rest =
        let e = same.0 in
        moved (rest (subst (λ x. PartOf structs x k' b) (sym same.1) inner) (omega (arith, pa, sum)) (omega (arith, pa, pz, sum)) (omega (arith, qa, sum', e)) (omega (arith, qa, qz, sum', e))) same.0
    by (inr (inl before)) rest = absurd (omega (arith, before, pa, pz, qa, qz, sum, sum', inside_first, inside_second))
    by (inr (inr before)) rest = absurd (omega (arith, before, pa, pz, qa, qz, sum, sum', inside_first, inside_second))

-- ---- to a part along slots

-- A part with a slot that begins within a member is a part of the member's type, or it is the structure itself.
pub descends : (structs : List StructDef) → AreMade structs → (tag : List ℕ) (members : List MemberDef) → members_by_tag structs tag ≡ Some members → (at : ℕ) (t : CType)
    → MemberIn (layouts structs) 0 members at t → (slot : ℕ) (part : CType) → at ≤ slot → slot < at + slots_of structs t → 0 < slots_of structs part → begins (Struct tag) slot part ≡ false
    → has_part structs (Struct tag) slot part ≡ has_part structs t (slot - at) part
descends structs made tag members has at t member slot part from to some differs =
    both_or_none (has_part structs (Struct tag) slot part) (has_part structs t (slot - at) part)
    (λ h. inward (tested structs made (Struct tag) slot part h))
    (λ h. found structs made (Struct tag) slot part (InMember (Struct tag) tag members at t (slot - at) slot part refl has member (omega (arith, from)) (tested structs made t (slot - at) part h)))
  where
    both_or_none : (a b : Bool) → (a ≡ true → b ≡ true) → (b ≡ true → a ≡ true) → a ≡ b
    both_or_none true b h k = sym (h refl)
    both_or_none false true h k = k refl
    both_or_none false false h k = refl

    inward : PartOf structs (Struct tag) slot part → has_part structs t (slot - at) part ≡ true
    inward (Itself _ _ _ first same) = absurd (true≢false (sym (and_from (slot == 0) (alike (Struct tag) part) (eq-eqb slot 0 first) same) ∙ differs))
    inward (InElement _ element length _ _ is inside) = absurd (array_not_struct element length tag (sym is))
    inward (InMember _ tag' members' at' t' k _ _ is has' member' sum inside) = by (apart (layouts structs) members 0 at at' t t' member second)
      where
        one : members' ≡ members
        one = same_Some members' members (sym has' ∙ ap (members_by_tag structs) (ap tag_of (sym is)) ∙ has)

        second : MemberIn (layouts structs) 0 members at' t'
        second = subst (λ l. MemberIn (layouts structs) 0 l at' t') one member'

        lies : k + slots_of structs part ≤ slots_of structs t'
        lies = within structs made t' k part inside

        by : ((at ≡ at') × (t ≡ t')) ⊎ ((at + slots_of structs t ≤ at') ⊎ (at' + slots_of structs t' ≤ at)) → has_part structs t (slot - at) part ≡ true
        by (inl same) =
            let e = same.0 in
            found structs made t (slot - at) part (subst (λ n. PartOf structs t n part) (omega (arith, e, sum)) (subst (λ x. PartOf structs x k part) (sym same.1) inside))
        by (inr (inl before)) = absurd (omega (arith, before, to, sum))
        by (inr (inr before)) = absurd (omega (arith, before, from, sum, lies, some))
