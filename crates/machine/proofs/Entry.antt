-- A called function's frame begins where its caller's ends, and ends where the depth allows.
use Rattle.std.proofs.Common.{◌≡◌, ℕ, ◌+◌, ◌*◌, ◌^◌, ◌<◌, List, [], ◌∷◌, ◌++◌, length, replicate, ap, ◌∙◌, refl, arith}
use Rattle.std.specs.List.{flat_map}
use Rattle.std.proofs.lemmas.List.{length-append, length-replicate}
use Rattle.byteorder.specs.Endian.{little_bytes}
use Rattle.byteorder.specs.Numbers.{length-bytes_low_first}
use Rattle.pool_isa.specs.Machine.{Activation, next_start}
use Rattle.machine.specs.Steps.{IsStacked}

length-words : (words : List ℕ) → length (flat_map (little_bytes 8) words) ≡ 8 * length words
length-words [] = refl
length-words (word ∷ words) = length-append (little_bytes 8 word) (flat_map (little_bytes 8) words) ∙ omega (arith, length-bytes_low_first 0 8 word, length-words words)

pub stacked_called : (callee top : Activation) (callers : List Activation) (words : List ℕ) (extra : ℕ) → IsStacked (top ∷ callers) → callee.start ≡ next_start top → callee.bytes ≡ flat_map (little_bytes 8) words ++ replicate extra 0 → length words < 2 ^ 32 → extra < 2 ^ 32 → IsStacked (callee ∷ top ∷ callers)
stacked_called callee top callers words extra room start bytes few small =
    let long : length callee.bytes ≡ 8 * length words + extra = ap length bytes ∙ length-append (flat_map (little_bytes 8) words) (replicate extra 0) ∙ omega (arith, length-words words, length-replicate {A = ℕ} extra 0) in
    (omega (arith, room.0, long, start), omega (arith, start), room)
