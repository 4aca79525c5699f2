-- What is seen and told of traces in a row.
use Rattle.std.proofs.Common.{◌≡◌, List, [], ◌∷◌, ◌++◌, refl, sym, ap, ◌∙◌, append_assoc}
use Rattle.tac_ir.specs.Events.{TacEvent, seen, seen_of}
use Rattle.pool_ir.specs.States.{PoolEvent, same, same_of}
use Rattle.stack_code.specs.Standing.{told, told_of}

seen_append : (a b : List TacEvent) → seen (a ++ b) ≡ seen a ++ seen b
seen_append [] b = refl
seen_append (event ∷ a) b = ap (λ t. seen_of event ++ t) (seen_append a b) ∙ sym (append_assoc (seen_of event) (seen a) (seen b))

same_append : (a b : List PoolEvent) → same (a ++ b) ≡ same a ++ same b
same_append [] b = refl
same_append (event ∷ a) b = ap (λ t. same_of event ++ t) (same_append a b) ∙ sym (append_assoc (same_of event) (same a) (same b))

pub seen_more : (a b : List PoolEvent) → seen (same (a ++ b)) ≡ seen (same a) ++ seen (same b)
seen_more a b = ap seen (same_append a b) ∙ seen_append (same a) (same b)

pub told_more : (a b : List PoolEvent) → told (a ++ b) ≡ told a ++ told b
told_more [] b = refl
told_more (event ∷ a) b = ap (λ t. told_of event ++ t) (told_more a b) ∙ sym (append_assoc (told_of event) (told a) (told b))
