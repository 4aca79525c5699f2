-- How a part is looked for.
use Rattle.std.proofs.Common.{◌≡◌, ℕ, ◌+◌, ◌<◌, ◌≤◌, Bool, true, false, List, [], length, Some, refl, sym, ap, ◌∙◌, arith}
use Rattle.std.specs.Prelude.{◌&&◌, ◌||◌, ◌==◌}
use Rattle.std.specs.Bool.{beq}
use Rattle.std.proofs.lemmas.Bool.{false≢true, true≢false, and_from, eq-eqb, ne_eqb}
use Rattle.c_typed.specs.Types.{CType, Void, Integer, Pointer, Array, Struct, Function, NoTypes, same_type, is_array, is_pointer, is_function, is_struct}
use Rattle.c_typed.specs.Layouts.{StructDef, MemberDef, layouts, members_by_tag}
use Rattle.heap_graph.specs.Structures.{AreMade}
use Rattle.heap_graph.specs.Parts.{graph_type, alike, slots_of, begins, has_part, MemberIn}
use Rattle.heap_graph.proofs.PartsNest.{PartOf, Itself, InElement, InMember, tested, within}

-- ---- types that are the same in graphs

and_true : (b : Bool) → (b && true) ≡ b
and_true true = refl
and_true false = refl

and_false : (b : Bool) → (b && false) ≡ false
and_false true = refl
and_false false = refl

pub alike_arrays : (a b : CType) (n m : ℕ) → n ≡ m → alike (Array a n) (Array b m) ≡ alike a b
alike_arrays a b n m e = ap (λ x. alike a b && x) (eq-eqb n m e) ∙ and_true (alike a b)

pub alike_lengths : (a b : CType) (n m : ℕ) → (n ≡ m → ⊥) → alike (Array a n) (Array b m) ≡ false
alike_lengths a b n m differ = ap (λ x. alike a b && x) (ne_eqb n m differ) ∙ and_false (alike a b)

pub array_alone : (a : CType) (n : ℕ) (u : CType) → is_array u ≡ false → alike (Array a n) u ≡ false
array_alone a n Void e = refl
array_alone a n (Integer t) e = refl
array_alone a n (Pointer Void) e = refl
array_alone a n (Pointer (Integer t)) e = refl
array_alone a n (Pointer (Pointer t)) e = refl
array_alone a n (Pointer (Array t k)) e = refl
array_alone a n (Pointer (Struct tag)) e = refl
array_alone a n (Pointer (Function t ts)) e = refl
array_alone a n (Array b m) e = absurd (true≢false e)
array_alone a n (Struct tag) e = refl
array_alone a n (Function t ts) e = refl

abbrev pointer_to : Bool → CType
pointer_to true = Pointer (Function Void NoTypes)
pointer_to false = Pointer Void

pointer_by : (x : CType) → graph_type (Pointer x) ≡ pointer_to (is_function x)
pointer_by Void = refl
pointer_by (Integer i) = refl
pointer_by (Pointer x) = refl
pointer_by (Array x k) = refl
pointer_by (Struct tag) = refl
pointer_by (Function x xs) = refl

both_pointers : (p q : Bool) → same_type (pointer_to p) (pointer_to q) ≡ beq p q
both_pointers true true = refl
both_pointers true false = refl
both_pointers false true = refl
both_pointers false false = refl

pub alike_pointers : (t u : CType) → alike (Pointer t) (Pointer u) ≡ beq (is_function t) (is_function u)
alike_pointers t u =
    ap (λ x. same_type x (graph_type (Pointer u))) (pointer_by t) ∙ ap (same_type (pointer_to (is_function t))) (pointer_by u) ∙ both_pointers (is_function t) (is_function u)

pub pointer_alone : (t u : CType) → is_pointer u ≡ false → alike (Pointer t) u ≡ false
pointer_alone t u e = by t u e
  where
    by : (t u : CType) → is_pointer u ≡ false → same_type (graph_type (Pointer t)) (graph_type u) ≡ false
    by t (Pointer x) e = absurd (true≢false e)
    by Void Void e = refl
    by Void (Integer i) e = refl
    by Void (Array x k) e = refl
    by Void (Struct tag) e = refl
    by Void (Function x xs) e = refl
    by (Integer j) Void e = refl
    by (Integer j) (Integer i) e = refl
    by (Integer j) (Array x k) e = refl
    by (Integer j) (Struct tag) e = refl
    by (Integer j) (Function x xs) e = refl
    by (Pointer j) Void e = refl
    by (Pointer j) (Integer i) e = refl
    by (Pointer j) (Array x k) e = refl
    by (Pointer j) (Struct tag) e = refl
    by (Pointer j) (Function x xs) e = refl
    by (Array j n) Void e = refl
    by (Array j n) (Integer i) e = refl
    by (Array j n) (Array x k) e = refl
    by (Array j n) (Struct tag) e = refl
    by (Array j n) (Function x xs) e = refl
    by (Struct j) Void e = refl
    by (Struct j) (Integer i) e = refl
    by (Struct j) (Array x k) e = refl
    by (Struct j) (Struct tag) e = refl
    by (Struct j) (Function x xs) e = refl
    by (Function j js) Void e = refl
    by (Function j js) (Integer i) e = refl
    by (Function j js) (Array x k) e = refl
    by (Function j js) (Struct tag) e = refl
    by (Function j js) (Function x xs) e = refl

-- of a type that is neither an array nor a pointer
pub alike_plain : (t u : CType) → is_array t ≡ false → is_pointer t ≡ false → alike t u ≡ same_type t u
alike_plain t u a p = by t u a p
  where
    by : (t u : CType) → is_array t ≡ false → is_pointer t ≡ false → same_type (graph_type t) (graph_type u) ≡ same_type t u
    by (Array x k) u a p = absurd (true≢false a)
    by (Pointer x) u a p = absurd (true≢false p)
    by Void Void a p = refl
    by Void (Integer i) a p = refl
    by Void (Pointer Void) a p = refl
    by Void (Pointer (Integer i)) a p = refl
    by Void (Pointer (Pointer x)) a p = refl
    by Void (Pointer (Array x k)) a p = refl
    by Void (Pointer (Struct tag)) a p = refl
    by Void (Pointer (Function x xs)) a p = refl
    by Void (Array x k) a p = refl
    by Void (Struct tag) a p = refl
    by Void (Function x xs) a p = refl
    by (Integer j) Void a p = refl
    by (Integer j) (Integer i) a p = refl
    by (Integer j) (Pointer Void) a p = refl
    by (Integer j) (Pointer (Integer i)) a p = refl
    by (Integer j) (Pointer (Pointer x)) a p = refl
    by (Integer j) (Pointer (Array x k)) a p = refl
    by (Integer j) (Pointer (Struct tag)) a p = refl
    by (Integer j) (Pointer (Function x xs)) a p = refl
    by (Integer j) (Array x k) a p = refl
    by (Integer j) (Struct tag) a p = refl
    by (Integer j) (Function x xs) a p = refl
    by (Struct j) Void a p = refl
    by (Struct j) (Integer i) a p = refl
    by (Struct j) (Pointer Void) a p = refl
    by (Struct j) (Pointer (Integer i)) a p = refl
    by (Struct j) (Pointer (Pointer x)) a p = refl
    by (Struct j) (Pointer (Array x k)) a p = refl
    by (Struct j) (Pointer (Struct tag)) a p = refl
    by (Struct j) (Pointer (Function x xs)) a p = refl
    by (Struct j) (Array x k) a p = refl
    by (Struct j) (Struct tag) a p = refl
    by (Struct j) (Function x xs) a p = refl
    by (Function j js) Void a p = refl
    by (Function j js) (Integer i) a p = refl
    by (Function j js) (Pointer Void) a p = refl
    by (Function j js) (Pointer (Integer i)) a p = refl
    by (Function j js) (Pointer (Pointer x)) a p = refl
    by (Function j js) (Pointer (Array x k)) a p = refl
    by (Function j js) (Pointer (Struct tag)) a p = refl
    by (Function j js) (Pointer (Function x xs)) a p = refl
    by (Function j js) (Array x k) a p = refl
    by (Function j js) (Struct tag) a p = refl
    by (Function j js) (Function x xs) a p = refl

-- ---- where a type has no parts

not_begins : (structs : List StructDef) (own : CType) (slot : ℕ) (part : CType) → begins own slot part ≡ false → slot ≡ 0 → alike own part ≡ true → ⊥
not_begins structs own slot part e zero same = true≢false (sym (and_from (slot == 0) (alike own part) (eq-eqb slot 0 zero) same) ∙ e)

false_by : (b : Bool) → (b ≡ true → ⊥) → b ≡ false
false_by true h = absurd (h refl)
false_by false h = refl

-- it is neither an array nor a structure
pub no_parts : (structs : List StructDef) → AreMade structs → (own : CType) → is_array own ≡ false → is_struct own ≡ false → (slot : ℕ) (part : CType) → begins own slot part ≡ false → has_part structs own slot part ≡ false
no_parts structs made own array struct slot part differs = false_by (has_part structs own slot part) (λ h. by (tested structs made own slot part h))
  where
    by : PartOf structs own slot part → ⊥
    by (Itself _ _ _ zero same) = not_begins structs own slot part differs zero same
    by (InElement _ element length _ _ is inside) = true≢false (sym (ap is_array is) ∙ array)
    by (InMember _ tag members at t inner _ _ is has member sum inside) = true≢false (sym (ap is_struct is) ∙ struct)

pub in_element : (structs : List StructDef) (element : CType) (length slot : ℕ) (part : CType) → begins (Array element length) slot part ≡ false
    → has_part structs (Array element length) slot part ≡ has_part structs element slot part
in_element structs element length slot part differs = ap (λ b. b || has_part structs element slot part) differs

abbrev struct_tag : CType → List ℕ
struct_tag (Struct tag) = tag
struct_tag t = []

-- no member of a structure has the slot
pub no_member : (structs : List StructDef) → AreMade structs → (tag : List ℕ) (slot : ℕ)
    → ((members : List MemberDef) → members_by_tag structs tag ≡ Some members → (at : ℕ) (t : CType) → MemberIn (layouts structs) 0 members at t → at + slots_of structs t ≤ slot)
    → (part : CType) → 0 < slots_of structs part → begins (Struct tag) slot part ≡ false → has_part structs (Struct tag) slot part ≡ false
no_member structs made tag slot none part some differs = false_by (has_part structs (Struct tag) slot part) (λ h. by (tested structs made (Struct tag) slot part h))
  where
    same_tag : (other : List ℕ) → Struct tag ≡ Struct other → other ≡ tag
    same_tag other e = sym (ap struct_tag e)

    by : PartOf structs (Struct tag) slot part → ⊥
    by (Itself _ _ _ zero same) = not_begins structs (Struct tag) slot part differs zero same
    by (InElement _ element length _ _ is inside) = false≢true (ap is_array is)
    by (InMember _ other members at t inner _ _ is has member sum inside) =
        let below = none members (ap (members_by_tag structs) (sym (same_tag other is)) ∙ has) at t member in
        let lies = within structs made t inner part inside in
        omega (arith, sum, below, lies, some)
