-- Targets of copies, one after another.
use Rattle.std.proofs.Common.{◌≡◌, ℕ, zero, suc, ◌+◌, ◌==◌, Bool, true, false, cond, eqb, List, [], ◌∷◌, length, take, Option, Some, None, refl, sym, ap, subst, ◌∙◌, eqb-true, eq-eqb, arith}
use Rattle.std.specs.Prelude.{slice_get, nat_eq}
use Rattle.std.specs.Cmp.{nat_eq_equiv}
use Rattle.std.specs.Map.{lookup}
use Rattle.std.proofs.lemmas.Bool.{true≢false, cond-true, cond-false, ne_eqb}
use Rattle.std.proofs.lemmas.Option.{none-some, same_Some}
use Rattle.std.proofs.lemmas.Map.Entries.{lookup_from_place}
use Rattle.indexmap.specs.IndexMap.{IndexMap, IsUnique, get, Updates}
use Rattle.heap_graph.specs.declared.graph.Target as memory_target
use Rattle.heap_graph.specs.Graphs.{Target, Graph}
use Rattle.heap_graph.specs.Memory.{target_of}
use Rattle.heap_graph.specs.Frozen.{optional_target, static_in}
use Rattle.dsa_inlining.specs.Copies.{copy_target, TellsCopies}

-- what is found among the first entries
abbrev pub first_found : List (ℕ × ℕ) → ℕ → ℕ → Option ℕ
first_found entries count node = lookup (λ key. node == key) (take count entries)

-- what is found there is found among all
found_first : (entries : List (ℕ × ℕ)) (count node copy : ℕ) → first_found entries count node ≡ Some copy → lookup (λ key. node == key) entries ≡ Some copy
found_first [] zero node copy is = is
found_first [] (suc count) node copy is = is
found_first (entry ∷ entries) zero node copy is = absurd (none-some copy is)
found_first (entry ∷ entries) (suc count) node copy is = by (node == entry.0) is (found_first entries count node copy)
  where
    by : (b : Bool) → cond b (Some entry.1) (first_found entries count node) ≡ Some copy → (first_found entries count node ≡ Some copy → lookup (λ key. node == key) entries ≡ Some copy)
        → cond b (Some entry.1) (lookup (λ key. node == key) entries) ≡ Some copy
    by true e later = e
    by false e later = later e

abbrev or_else : Option ℕ → Option ℕ → Option ℕ
or_else None other = other
or_else (Some copy) other = Some copy

one_more : (entries : List (ℕ × ℕ)) (count : ℕ) (entry : ℕ × ℕ) (node : ℕ) → slice_get entries count ≡ Some entry
    → first_found entries (suc count) node ≡ or_else (first_found entries count node) (cond (node == entry.0) (Some entry.1) None)
one_more [] count entry node is = absurd (none-some entry is)
one_more (first ∷ entries) zero entry node is = ap (λ (e : ℕ × ℕ). cond (node == e.0) (Some e.1) None) (same_Some first entry is)
one_more (first ∷ entries) (suc count) entry node is = by (node == first.0) (one_more entries count entry node is)
  where
    by : (b : Bool) → first_found entries (suc count) node ≡ or_else (first_found entries count node) (cond (node == entry.0) (Some entry.1) None)
        → cond b (Some first.1) (first_found entries (suc count) node) ≡ or_else (cond b (Some first.1) (first_found entries count node)) (cond (node == entry.0) (Some entry.1) None)
    by true e = refl
    by false e = e

-- the targets of the first copies are told
abbrev pub TellsFirst : {S : Type 0} → Graph → List (ℕ × ℕ) → ℕ → IndexMap ℕ memory_target.Target S → Type 0
TellsFirst graph entries count targets = (node : ℕ) → static_in targets node ≡ copy_target graph (first_found entries count node)

optional_cond : (b : Bool) (it : memory_target.Target) (o : Option memory_target.Target) → optional_target (cond b (Some it) o) ≡ cond b (Some (target_of it)) (optional_target o)
optional_cond true it o = refl
optional_cond false it o = refl

module _ {S T : Type 0} (graph : Graph) (copies : IndexMap ℕ ℕ S) (unique : IsUnique nat_eq copies) (count : ℕ) (entry : ℕ × ℕ) (is : slice_get copies.entries count ≡ Some entry)
    (old : IndexMap ℕ memory_target.Target T) (tells : TellsFirst graph copies.entries count old) where
  -- whatever was found of this node before, it is the same copy
  same_copy : (copy : ℕ) → first_found copies.entries count entry.0 ≡ Some copy → copy ≡ entry.1
  same_copy copy found =
      same_Some copy entry.1 (sym (found_first copies.entries count entry.0 copy found) ∙ lookup_from_place nat_eq_equiv copies.entries count entry.0 entry.1 unique is)

  told : (node : ℕ) (it : Option Target) → it ≡ copy_target graph (Some entry.1)
      → cond (eqb entry.0 node) it (copy_target graph (first_found copies.entries count node)) ≡ copy_target graph (first_found copies.entries (suc count) node)
  told node it same = by (node == entry.0) refl (first_found copies.entries count node) refl ∙ ap (copy_target graph) (sym (one_more copies.entries count entry node is))
    where
      apart : (node == entry.0) ≡ false → eqb entry.0 node ≡ false
      apart e = ne_eqb entry.0 node (λ equal. true≢false (sym (eq-eqb node entry.0 (sym equal)) ∙ e))

      found_same : (found : Option ℕ) → first_found copies.entries count entry.0 ≡ found → it ≡ copy_target graph (or_else found (Some entry.1))
      found_same None e = same
      found_same (Some copy) e = same ∙ ap (λ c. copy_target graph (Some c)) (sym (same_copy copy e))

      by : (b : Bool) → (node == entry.0) ≡ b → (found : Option ℕ) → first_found copies.entries count node ≡ found
          → cond (eqb entry.0 node) it (copy_target graph found) ≡ copy_target graph (or_else found (cond b (Some entry.1) None))
      by true e found f =
          let equal : node ≡ entry.0 = eqb-true node entry.0 e in
          cond-true (eqb entry.0 node) it (copy_target graph found) (eq-eqb entry.0 node (sym equal)) ∙ found_same found (ap (first_found copies.entries count) (sym equal) ∙ f)
      by false e None f = cond-false (eqb entry.0 node) it (copy_target graph None) (apart e)
      by false e (Some copy) f = cond-false (eqb entry.0 node) it (copy_target graph (Some copy)) (apart e)

  pub tells_more : (new : IndexMap ℕ memory_target.Target T) (it : memory_target.Target) → Some (target_of it) ≡ copy_target graph (Some entry.1) → Updates eqb old new entry.0 (Some it)
      → TellsFirst graph copies.entries (count + 1) new
  tells_more new it same updates =
      let next : suc count ≡ count + 1 = omega arith in
      subst (λ n. TellsFirst graph copies.entries n new) next
      (λ node. ap optional_target (updates.0 node) ∙ optional_cond (eqb entry.0 node) it (get eqb old node) ∙ ap (cond (eqb entry.0 node) (Some (target_of it))) (tells node) ∙ told node (Some (target_of it)) same)

  pub tells_none : None ≡ copy_target graph (Some entry.1) → TellsFirst graph copies.entries (count + 1) old
  tells_none same =
      let next : suc count ≡ count + 1 = omega arith in
      subst (λ n. TellsFirst graph copies.entries n old) next
      (λ node. tells node ∙ by (node == entry.0) (first_found copies.entries count node) ∙ ap (copy_target graph) (sym (one_more copies.entries count entry node is)))
    where
      by : (b : Bool) (found : Option ℕ) → copy_target graph found ≡ copy_target graph (or_else found (cond b (Some entry.1) None))
      by true None = same
      by true (Some copy) = refl
      by false None = refl
      by false (Some copy) = refl

take_all : (entries : List (ℕ × ℕ)) → take (length entries) entries ≡ entries
take_all [] = refl
take_all (entry ∷ entries) = ap (λ l. entry ∷ l) (take_all entries)

pub tells_all : {S T : Type 0} (graph : Graph) (copies : IndexMap ℕ ℕ S) (targets : IndexMap ℕ memory_target.Target T) (count : ℕ) → count ≡ length copies.entries → TellsFirst graph copies.entries count targets
    → TellsCopies graph copies targets
tells_all graph copies targets count long tells = λ node. tells node ∙ ap (λ (l : List (ℕ × ℕ)). copy_target graph (lookup (λ key. node == key) l)) (ap (λ n. take n copies.entries) long ∙ take_all copies.entries)
