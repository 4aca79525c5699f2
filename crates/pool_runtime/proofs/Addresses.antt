-- The addresses of cells by their numbers.
use Rattle.std.proofs.Common.{◌≡◌, ℕ, ◌+◌, ◌^◌, ◌<◌, ◌≤◌, Bool, true, false, List, Option, Some, None, map, get_or, length, refl, sym, ap, ◌∙◌, arith}
use Rattle.std.specs.Prelude.{if◌then◌else◌, ◌&&◌, nat_lt, nat_le, slice_get, option_map}
use Rattle.std.proofs.lemmas.Bool.{lt-ltb, ltb-true, le-leb, leb-true, false_from_ne_true}
use Rattle.std.proofs.lemmas.Option.{slice_get-map, slice_get-get_or}
use Rattle.slab_space.specs.declared.kind.PoolKind.{PoolKind}
use Rattle.slab_space.specs.declared.kind.PoolKind.TheVariants.{Homogeneous, Mixed}
use Rattle.slab_space.specs.Pool.{numbered, address_in, cell_address, made_in}
use Rattle.slab_space.specs.Pool as seen
use Rattle.pool_runtime.specs.declared.cells.Cells.{Cells}
use Rattle.pool_runtime.specs.Lookup.{is_homogeneous_kind}
use Rattle.pool_runtime.specs.Seen.{place, class_seen}
use Rattle.pool_runtime.proofs.CellsSeen.{length-cells_seen}
use Rattle.pool_runtime.proofs.Objects.{address_is}

pub numbered_is : (kind : PoolKind) (cs : List seen.Cells) → is_homogeneous_kind kind ≡ true → numbered kind cs ≡ slice_get cs 0
numbered_is (Homogeneous source cell indexed) cs e = refl
numbered_is Mixed cs e = absurd cc

pub not_numbered : (kind : PoolKind) (cs : List seen.Cells) → is_homogeneous_kind kind ≡ false → numbered kind cs ≡ None
not_numbered (Homogeneous source cell indexed) cs e = absurd cc
not_numbered Mixed cs e = refl

abbrev address_if : Bool → seen.Cells → ℕ → ℕ
address_if b c number = if b then cell_address c number else 0

pub no_number : (o : Option seen.Cells) (number : ℕ) → number ≡ 0 → 0 ≡ address_in o number
no_number None number e = refl
no_number (Some c) number e = sym (ap (λ (b : Bool). address_if (b && nat_le number (made_in c)) c number) (false_from_ne_true (nat_lt 0 number) (λ t. absurd (omega (arith, ltb-true 0 number t, e)))))

module _ (bytes : List ℕ) (kind : PoolKind) (cs : List Cells) (r : Cells) (inside : 0 < length cs) (is : r ≡ get_or cs 0 r) (one_kind : is_homogeneous_kind kind ≡ true) (number : ℕ) where
  pub class_is : numbered kind (map (class_seen bytes) cs) ≡ Some (class_seen bytes r)
  class_is =
      numbered_is kind (map (class_seen bytes) cs) one_kind ∙ slice_get-map (class_seen bytes) cs 0 ∙ ap (option_map (class_seen bytes)) (slice_get-get_or cs 0 r inside ∙ ap Some (sym is))

  pub cell_addressed : 1 ≤ number → number ≤ r.made → 2 ^ 44 + place r number ≡ address_in (numbered kind (map (class_seen bytes) cs)) number
  cell_addressed some made =
      sym (ap (λ o. address_in o number) class_is
      ∙ ap (λ (b : Bool). address_if (b && nat_le number (length (class_seen bytes r).cells)) (class_seen bytes r) number) (lt-ltb 0 number some)
      ∙ ap (λ (b : Bool). address_if b (class_seen bytes r) number) (le-leb number (length (class_seen bytes r).cells) (omega (arith, made, length-cells_seen bytes r r.made)))
      ∙ address_is bytes r number)

  pub none_addressed : r.made < number → 0 ≡ address_in (numbered kind (map (class_seen bytes) cs)) number
  none_addressed beyond =
      let late = false_from_ne_true (nat_le number (length (class_seen bytes r).cells)) (λ t. absurd (omega (arith, leb-true number (length (class_seen bytes r).cells) t, length-cells_seen bytes r r.made, beyond))) in
      sym (ap (λ o. address_in o number) class_is
      ∙ ap (λ (b : Bool). address_if (b && nat_le number (length (class_seen bytes r).cells)) (class_seen bytes r) number) (lt-ltb 0 number (omega arith))
      ∙ ap (λ (b : Bool). address_if b (class_seen bytes r) number) late)
