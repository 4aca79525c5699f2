-- Tests of targets, by what is known of them.
use Rattle.std.proofs.Common.{◌≡◌, ℕ, ◌+◌, ◌<◌, Bool, true, false, ◌&&◌, List, ◌∷◌, length, get_or, drop, Option, Some, None, refl, sym, ap, ◌∙◌, add-one, drop-cons}
use Rattle.heap_graph.specs.Graphs.{Target}
use Rattle.heap_graph.specs.Targets.{implies, has_target, same_target}

pub next_item : {A : Type 0} (items : List A) (index : ℕ) (other : A) → index < length items → drop index items ≡ get_or items index other ∷ drop (index + 1) items
next_item items index other within = rw (add-one, drop-cons items index other) refl

pub taken_none : (asked : Bool) (returned own : Option Target) → returned ≡ None → true ≡ implies asked (implies (has_target returned) (same_target own returned))
taken_none true returned own is = sym (ap (λ target. implies (has_target target) (same_target own target)) is)
taken_none false returned own is = refl

pub taken_some : (asked result : Bool) (returned own : Option Target) (target : Target) → asked ≡ true → returned ≡ Some target → result ≡ same_target own (Some target)
    → result ≡ implies asked (implies (has_target returned) (same_target own returned))
taken_some asked result returned own target is there same = same ∙ sym (λ i. implies (is i) (implies (has_target (there i)) (same_target own (there i))))

pub asked_both : (a b c d : Bool) → a ≡ true → b ≡ true → d ≡ c → d ≡ implies a (b && c)
asked_both a b c d is also same = same ∙ sym (λ i. implies (is i) (also i && c))
