-- The embedding that is kept at a call out of a group.
use Rattle.std.proofs.Common.{◌≡◌, ℕ, ◌==◌, Bool, true, false, List, [], Option, Some, None, Bor, option_copied, refl, sym, ap, ◌∙◌, eqb-true, eq-eqb}
use Rattle.std.specs.Prelude.{◌&&◌}
use Rattle.std.specs.Map.{lookup}
use Rattle.indexmap.specs.IndexMap.{IndexMap, get_by}
use Rattle.heap_graph.specs.declared.graph.Target as memory_target
use Rattle.heap_graph.specs.Frozen.{optional_target, static_in}
use Rattle.heap_graph.specs.declared.program.Crossing.{Crossing}
use Rattle.heap_graph.specs.Programs.{is_crossing, image_in}

same_number : (a b : ℕ) → (a == b) ≡ (b == a)
same_number a b = by (a == b) refl (b == a) refl
  where
    by : (one : Bool) → (a == b) ≡ one → (other : Bool) → (b == a) ≡ other → one ≡ other
    by true e true f = refl
    by false e false f = refl
    by true e false f = sym (sym f ∙ eq-eqb b a (sym (eqb-true a b e)))
    by false e true f = sym e ∙ eq-eqb a b (sym (eqb-true b a f))

-- keys are compared either way
pub found_either_way : {V S : Type 0} (map' : IndexMap Crossing V S) (site called : ℕ) → get_by (λ (key : Crossing). (site == key.site) && (called == key.called)) map' ≡ get_by (is_crossing site called) map'
found_either_way map' site called = λ i. get_by (λ (key : Crossing). same_number site key.site i && same_number called key.called i) map'

pub image_found : {S : Type 0} (found : Option (Bor (IndexMap ℕ memory_target.Target S))) (kept : Option (IndexMap ℕ memory_target.Target S)) (own : Bor (IndexMap ℕ memory_target.Target S))
    → option_copied found ≡ kept → found ≡ Some own → (node : ℕ) → image_in kept node ≡ static_in own.now node
image_found found kept own copied is node = ap (λ k. image_in k node) (sym copied ∙ ap option_copied is)

pub image_none : {S : Type 0} (found : Option (Bor (IndexMap ℕ memory_target.Target S))) (kept : Option (IndexMap ℕ memory_target.Target S)) (own : IndexMap ℕ memory_target.Target S)
    → option_copied found ≡ kept → found ≡ None → own.entries ≡ [] → (node : ℕ) → image_in kept node ≡ static_in own node
image_none found kept own copied is empty node =
    ap (λ k. image_in k node) (sym copied ∙ ap option_copied is) ∙ sym (ap (λ (es : List (ℕ × memory_target.Target)). optional_target (lookup (λ key. node == key) es)) empty)
