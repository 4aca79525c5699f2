use Rattle.std.proofs.Common.{◌≡◌, ℕ, ◌+◌, ◌<◌, true, false, List, [], ◌∷◌, ◌++◌, length, get_or, take, refl, sym, ap, ◌∙◌}
use Rattle.std.specs.List.{position_or_len}
use Rattle.std.proofs.lemmas.List.{take_more}
use Rattle.indexmap.specs.IndexSet.{insert_key}
use Rattle.slab_space.specs.declared.kind.PoolKind.{PoolKind}
use Rattle.slab_space.specs.declared.kind.PoolKind.TheVariants.{Mixed, Homogeneous}
use Rattle.slab_space.specs.contracts.kind.PoolKindPartialEq.TheImpl.{eq-value}
use Rattle.pool_linker.specs.Linking.{same_kind, once, number_in, numbers_of}
use Rattle.pool_linker.proofs.Once.{once-push, numbers-push}
use Rattle.pool_linker.proofs.kinds.Numbering.of.Goals as goal

-- `==` on kinds is the test of the definitions
equal : (a b : PoolKind) → eq-value.it a b ≡ same_kind a b
equal Mixed Mixed = refl
equal Mixed (Homogeneous t d j) = refl
equal (Homogeneous s c i) Mixed = refl
equal (Homogeneous s c true) (Homogeneous t d true) = refl
equal (Homogeneous s c true) (Homogeneous t d false) = refl
equal (Homogeneous s c false) (Homogeneous t d true) = refl
equal (Homogeneous s c false) (Homogeneous t d false) = refl

test : eq-value.it ≡ same_kind
test i a b = equal a b i

step : (kinds seen new : List PoolKind) (i n : ℕ) (numbers : List ℕ) (d : PoolKind) → i < length kinds → seen ≡ once (take i kinds) → numbers ≡ numbers_of (take i kinds)
    → new ≡ insert_key eq-value.it seen (get_or kinds i d) → n ≡ position_or_len (eq-value.it (get_or kinds i d)) seen
    → (new ≡ once (take (i + 1) kinds)) × (numbers ++ n ∷ [] ≡ numbers_of (take (i + 1) kinds))
step kinds seen new i n numbers d lt seen_is numbers_are new_is n_is =
    let kind = get_or kinds i d in
    let more = take_more kinds i d lt in (
      new_is ∙ ap (λ eq. insert_key eq seen kind) test ∙ ap (λ l. insert_key same_kind l kind) seen_is ∙ sym (once-push (take i kinds) kind) ∙ ap once (sym more),
      ap (λ l. l ++ n ∷ []) numbers_are
          ∙ ap (λ m. numbers_of (take i kinds) ++ m ∷ []) (n_is ∙ ap (λ eq. position_or_len (eq kind) seen) test ∙ ap (λ l. number_in l kind) seen_is)
          ∙ sym (numbers-push (take i kinds) kind)
          ∙ ap numbers_of (sym more),
    )

pub loop-kind-preserved : goal.loop-kind-preserved
loop-kind-preserved c =
    let is = step c.args.kinds.now c.loop-kind.seen.keys c.insert_full.new.self.keys c.loop-kind.kind-index c.in_ok-number.number c.loop-kind.numbers.items (Homogeneous 0 0 false)
    c.loop-kind-test.true c.loop-kind.invariant.0 c.loop-kind.invariant.1 c.in_ok-number.ensures.keys c.in_ok-number.ensures.index in
    (is.0, c.in_ok-push.ensures.items ∙ is.1)
