-- What is known of two nodes by their relation.
use Rattle.std.proofs.Common.{◌≡◌, ℕ, ◌+◌, ◌<◌, ◌≤◌, ◌-◌, Bool, true, false, cond, List, refl, sym, ap, ◌∙◌, arith}
use Rattle.std.specs.Prelude.{not, nat_lt, ◌&&◌}
use Rattle.std.proofs.lemmas.Bool.{false≢true, true≢false, and_parts, and_from, ltb-true, ltb-false}
use Rattle.c_typed.specs.Types.{CType}
use Rattle.c_typed.specs.Layouts.{StructDef}
use Rattle.heap_graph.specs.Structures.{AreMade}
use Rattle.heap_graph.specs.Parts.{has_part}
use Rattle.heap_graph.specs.Graphs.{Element, Missing, OfType, Collapsed, Flags, Edge}
use Rattle.heap_graph.specs.Targets.{element_kept}
use Rattle.heap_graph.specs.Merging.{slots}
use Rattle.heap_graph.specs.Relations.{Relation, Inside, Around, Clashing, relation}
use Rattle.heap_graph.proofs.PartsNest.{tested, within}
use Rattle.heap_graph.proofs.AskSteps.{Clash, First, Second, Types}

-- a node lies in another
pub record Lies (structs : List StructDef) (inner outer : Element) (i j distance : ℕ) : Type 0 where
  pub sum : i + distance ≡ j
  pub fits : distance + slots structs inner ≤ slots structs outer
  pub kept : (flags : Flags) (edges : List Edge) → element_kept structs inner (record { element = outer; flags = flags; edges = edges }) distance ≡ true

abbrev pub IsRelation : List StructDef → Element → ℕ → Element → ℕ → Relation → Type 0
IsRelation structs a i b j (Inside distance) = Lies structs a b i j distance
IsRelation structs a i b j (Around distance) = Lies structs b a j i distance
IsRelation structs a i b j Clashing = Clash structs a b i j

part_lies : (structs : List StructDef) → AreMade structs → (t u : CType) (i j : ℕ) → not (nat_lt j i) ≡ true → has_part structs u (j - i) t ≡ true → Lies structs (OfType t) (OfType u) i j (j - i)
part_lies structs made t u i j before is = record {
  sum = let le = not_less (nat_lt j i) refl before in omega (arith, le);
  fits = within structs made u (j - i) t (tested structs made u (j - i) t is);
  kept = λ flags edges. is;
}
  where
    not_less : (b : Bool) → nat_lt j i ≡ b → not b ≡ true → i ≤ j
    not_less true e h = absurd (false≢true h)
    not_less false e h = ltb-false j i e

not_part : (structs : List StructDef) (t u : CType) (i j : ℕ) → (not (nat_lt j i) && has_part structs u (j - i) t) ≡ false → (d : ℕ) → i + d ≡ j → has_part structs u d t ≡ true → ⊥
not_part structs t u i j h d sum is =
    let at : has_part structs u (j - i) t ≡ true = ap (λ n. has_part structs u n t) (omega (arith, sum)) ∙ is in
    true≢false (sym (and_from (not (nat_lt j i)) (has_part structs u (j - i) t) (not_less (nat_lt j i) refl) at) ∙ h)
  where
    not_less : (b : Bool) → nat_lt j i ≡ b → not (nat_lt j i) ≡ true
    not_less true e = let lt = ltb-true j i e in absurd (omega (arith, lt, sum))
    not_less false e = ap not e

pub relates : (structs : List StructDef) → AreMade structs → (a : Element) (i : ℕ) (b : Element) (j : ℕ) → i < slots structs a → j < slots structs b → IsRelation structs a i b j (relation structs a i b j)
relates structs made Missing i b j li lj = record { sum = omega (arith, li); fits = omega (arith, lj); kept = λ flags edges. refl }
relates structs made (OfType t) i Missing j li lj = record { sum = omega (arith, lj); fits = omega (arith, li); kept = λ flags edges. refl }
relates structs made (OfType t) i Collapsed j li lj = Second refl
relates structs made Collapsed i Missing j li lj = record { sum = omega (arith, li, lj); fits = omega (arith, li); kept = λ flags edges. refl }
relates structs made Collapsed i (OfType u) j li lj = First refl
relates structs made Collapsed i Collapsed j li lj = record { sum = omega (arith, li, lj); fits = omega arith; kept = λ flags edges. refl }
relates structs made (OfType t) i (OfType u) j li lj = by (not (nat_lt j i) && has_part structs u (j - i) t) refl (not (nat_lt i j) && has_part structs t (i - j) u) refl
  where
    by : (b : Bool) → (not (nat_lt j i) && has_part structs u (j - i) t) ≡ b → (c : Bool) → (not (nat_lt i j) && has_part structs t (i - j) u) ≡ c
        → IsRelation structs (OfType t) i (OfType u) j (cond b (Inside (j - i)) (cond c (Around (i - j)) Clashing))
    by true e c f = let both = and_parts (not (nat_lt j i)) (has_part structs u (j - i) t) e in part_lies structs made t u i j both.0 both.1
    by false e true f = let both = and_parts (not (nat_lt i j)) (has_part structs t (i - j) u) f in part_lies structs made u t j i both.0 both.1
    by false e false f = Types t u refl refl (not_part structs u t j i f) (not_part structs t u i j e)
