-- Frames that stand for activations, when a word or an object of them is written.
use Rattle.std.proofs.Common.{◌≡◌, ℕ, ◌+◌, ◌-◌, ◌*◌, ◌%◌, ◌^◌, ◌<◌, ◌≤◌, ◌⊎◌, inl, inr, ◌==◌, Bool, true, false, List, ◌++◌, length, take, drop, refl, sym, ap, ap₂, ◌∙◌, arith, length-append, eqb-true}
use Rattle.std.specs.Prelude.{if◌then◌else◌}
use Rattle.std.proofs.lemmas.Bool.{cases_lt, eqb-false}
use Rattle.std.proofs.Math.Seq.{drop-append-add}
use Rattle.std.proofs.lemmas.List.{length-take-le, drop-drop, drop-append-le, drop-take}
use Rattle.byteorder.specs.Endian.{little_bytes}
use Rattle.byteorder.specs.Numbers.{length-bytes_low_first}
use Rattle.run_theory.specs.Words.{word_at}
use Rattle.tac_ir.specs.declared.register.Register.{Register}
use Rattle.tac_ir.specs.Trees.{same_register}
use Rattle.pool_ir.specs.Code.{Function}
use Rattle.pool_ir.specs.Frames.{word_of_descriptor, word_of_register, words_in}
use Rattle.pool_ir.specs.Words.{with_word}
use Rattle.pool_ir.specs.States as P
use Rattle.pool_ir.specs.States.{with_descriptor}
use Rattle.stack_code.specs.Standing.{frame_word, HasRegister, HasDescriptor, FrameStands}
use Rattle.stack_code.specs.Fitting.{FunctionFits}
use Rattle.stack_code.proofs.WrittenBytes.{over, length-over, over_apart, over_reads, word_in_bytes}
use Rattle.stack_code.proofs.WordsApart.{register_within, descriptor_within, registers_apart, descriptors_apart, words_apart, same_is}

-- bytes written behind so many leave those in front, and are written behind them
pub drop_over : (bytes new : List ℕ) (front off : ℕ) → front ≤ off → off ≤ length bytes → drop front (over bytes off new) ≡ over (drop front bytes) (off - front) new
drop_over bytes new front off behind inside =
    let long : length (take off bytes) ≡ off = length-take-le off bytes inside in
    let split : front + (off - front) ≡ off = omega arith in
    let rest : front + (off - front + length new) ≡ off + length new = omega arith in
    drop-append-le front (take off bytes ++ new) (drop (off + length new) bytes) (omega (arith, length-append (take off bytes) new, long))
    ∙ ap (λ b. b ++ drop (off + length new) bytes) (drop-append-le front (take off bytes) new (omega (arith, long)))
    ∙ ap₂ (λ a b. a ++ new ++ b) (ap (λ n. drop front (take n bytes)) (sym split) ∙ drop-take front (off - front) bytes)
    (ap (λ n. drop n bytes) (sym rest) ∙ sym (drop-drop (off - front + length new) front bytes))

-- bytes written in front of these
pub drop_past : (bytes new : List ℕ) (front off : ℕ) → off + length new ≤ front → front ≤ length bytes → drop front (over bytes off new) ≡ drop front bytes
drop_past bytes new front off before inside =
    let long : length (take off bytes) ≡ off = length-take-le off bytes (omega arith) in
    let both : length (take off bytes ++ new) ≡ off + length new = length-append (take off bytes) new ∙ ap (λ n. n + length new) long in
    let split : off + length new + (front - (off + length new)) ≡ front = omega arith in
    ap (λ n. drop n (over bytes off new)) (sym split ∙ ap (λ n. n + (front - (off + length new))) (sym both))
    ∙ drop-append-add (take off bytes ++ new) (drop (off + length new) bytes) (front - (off + length new))
    ∙ drop-drop (front - (off + length new)) (off + length new) bytes ∙ ap (λ n. drop n bytes) split

pub eight : (word : ℕ) → length (little_bytes 8 word) ≡ 8
eight word = length-bytes_low_first 0 8 word

module _ (bytes : List ℕ) (word number : ℕ) (inside : 8 * number + 8 ≤ length bytes) where
  written : List ℕ
  written = over bytes (8 * number) (little_bytes 8 word)

  pub reads_same : (other : ℕ) → other ≡ number → frame_word (over bytes (8 * number) (little_bytes 8 word)) other ≡ word % 2 ^ 64
  reads_same other is =
      ap (λ n. frame_word (over bytes (8 * number) (little_bytes 8 word)) n) is
      ∙ ap (λ n. word_at (over bytes (8 * number) (little_bytes 8 word)) (8 * number) n) (sym (eight word))
      ∙ over_reads bytes (little_bytes 8 word) (8 * number) (omega (arith, eight word, inside)) ∙ ap (λ n. word_at (little_bytes 8 word) 0 n) (eight word) ∙ word_in_bytes 8 word

  pub reads_other : (other : ℕ) → (other ≡ number → ⊥) → frame_word (over bytes (8 * number) (little_bytes 8 word)) other ≡ frame_word bytes other
  reads_other other apart = over_apart bytes (little_bytes 8 word) (8 * number) (omega (arith, eight word, inside)) (8 * other) 8 (by (cases_lt other number))
    where
      by : (other < number) ⊎ (number ≤ other) → (8 * number + length (little_bytes 8 word) ≤ 8 * other) ⊎ (8 * other + 8 ≤ 8 * number)
      by (inl less) = inr (omega (arith, less))
      by (inr more) = inl (more_by (cases_lt number other))
        where
          more_by : (number < other) ⊎ (other ≤ number) → 8 * number + length (little_bytes 8 word) ≤ 8 * other
          more_by (inl less) = omega (arith, less, eight word)
          more_by (inr same) = absurd (apart (omega (arith, more, same)))

module _ (most : ℕ) (function : Function) (fits : FunctionFits most function) (own : P.Activation) (bytes : List ℕ) (stands : FrameStands function own bytes) where
  pub word_inside : (number : ℕ) → number < words_in function.frame → 8 * number + 8 ≤ length bytes
  word_inside number low = omega (arith, low, fits.words, stands.long, stands.as_long)

  pub kept_inside : own.kept ≤ length bytes
  kept_inside = omega (arith, fits.words, stands.long, stands.as_long, stands.kept)

  -- a register's word is written
  pub register_written : (to : Register) (word : ℕ) → HasRegister function.frame to
      → FrameStands function (record own { words = with_word to word own.words }) (over bytes (8 * word_of_register function to) (little_bytes 8 word))
  register_written to word has =
      let number = word_of_register function to in
      let inside = word_inside number (register_within function fits.taken to has) in
      record {
        kept = stands.kept;
        long = stands.long;
        as_long = length-over bytes (little_bytes 8 word) (8 * number) (omega (arith, eight word, inside)) ∙ stands.as_long;
        registers = λ register own_has. by register own_has (same_register to register) refl;
        descriptors = λ other own_has. reads_other bytes word number inside (word_of_descriptor function other) (λ e. words_apart function fits.taken other to own_has has e) ∙ stands.descriptors other own_has;
        objects = drop_past bytes (little_bytes 8 word) own.kept (8 * number) (omega (arith, eight word, register_within function fits.taken to has, stands.kept)) kept_inside ∙ stands.objects;
        words = λ register. small register (same_register to register);
        pools = stands.pools;
      }
    where
      by : (register : Register) → HasRegister function.frame register → (b : Bool) → same_register to register ≡ b
          → frame_word (over bytes (8 * word_of_register function to) (little_bytes 8 word)) (word_of_register function register) ≡ (if b then word % 2 ^ 64 else own.words register)
      by register own_has true e =
          reads_same bytes word (word_of_register function to) (word_inside (word_of_register function to) (register_within function fits.taken to has)) (word_of_register function register)
          (ap (word_of_register function) (sym (same_is to register e)))
      by register own_has false e =
          reads_other bytes word (word_of_register function to) (word_inside (word_of_register function to) (register_within function fits.taken to has)) (word_of_register function register)
          (λ same. registers_apart function fits.taken to register has own_has e (sym same))
          ∙ stands.registers register own_has

      small : (register : Register) (b : Bool) → (if b then word % 2 ^ 64 else own.words register) < 2 ^ 64
      small register true = omega arith
      small register false = stands.words register

  -- a descriptor's word is written
  pub descriptor_written : (to : ℕ) (pool : ℕ) → HasDescriptor function.frame to
      → FrameStands function (record own { descriptors = with_descriptor to pool own.descriptors }) (over bytes (8 * word_of_descriptor function to) (little_bytes 8 pool))
  descriptor_written to pool has =
      let number = word_of_descriptor function to in
      let inside = word_inside number (descriptor_within function fits.taken to has) in
      record {
        kept = stands.kept;
        long = stands.long;
        as_long = length-over bytes (little_bytes 8 pool) (8 * number) (omega (arith, eight pool, inside)) ∙ stands.as_long;
        registers = λ register own_has. reads_other bytes pool number inside (word_of_register function register) (λ e. words_apart function fits.taken to register has own_has (sym e)) ∙ stands.registers register own_has;
        descriptors = λ other own_has. by other own_has (to == other) refl;
        objects = drop_past bytes (little_bytes 8 pool) own.kept (8 * number) (omega (arith, eight pool, descriptor_within function fits.taken to has, stands.kept)) kept_inside ∙ stands.objects;
        words = stands.words;
        pools = λ other. small other (to == other);
      }
    where
      by : (other : ℕ) → HasDescriptor function.frame other → (b : Bool) → (to == other) ≡ b
          → frame_word (over bytes (8 * word_of_descriptor function to) (little_bytes 8 pool)) (word_of_descriptor function other) ≡ (if b then pool % 2 ^ 64 else own.descriptors other)
      by other own_has true e =
          reads_same bytes pool (word_of_descriptor function to) (word_inside (word_of_descriptor function to) (descriptor_within function fits.taken to has)) (word_of_descriptor function other)
          (ap (word_of_descriptor function) (sym (eqb-true to other e)))
      by other own_has false e =
          reads_other bytes pool (word_of_descriptor function to) (word_inside (word_of_descriptor function to) (descriptor_within function fits.taken to has)) (word_of_descriptor function other)
          (λ same. descriptors_apart function fits.taken to other has own_has (eqb-false to other e) (sym same))
          ∙ stands.descriptors other own_has

      small : (other : ℕ) (b : Bool) → (if b then pool % 2 ^ 64 else own.descriptors other) < 2 ^ 64
      small other true = omega arith
      small other false = stands.pools other

  -- bytes of an object are written
  pub object_written : (off : ℕ) (new : List ℕ) → own.kept ≤ off → off + length new ≤ length own.bytes → FrameStands function (record own { bytes = over own.bytes off new }) (over bytes off new)
  object_written off new behind inside =
      record {
        kept = stands.kept;
        long = length-over own.bytes new off inside ∙ stands.long;
        as_long = length-over bytes new off (omega (arith, inside, stands.as_long)) ∙ stands.as_long ∙ sym (length-over own.bytes new off inside);
        registers = λ register has. untouched (word_of_register function register) (register_within function fits.taken register has) ∙ stands.registers register has;
        descriptors = λ number has. untouched (word_of_descriptor function number) (descriptor_within function fits.taken number has) ∙ stands.descriptors number has;
        objects =
            drop_over bytes new own.kept off behind (omega (arith, inside, stands.as_long)) ∙ ap (λ b. over b (off - own.kept) new) stands.objects
            ∙ sym (drop_over own.bytes new own.kept off behind (omega arith));
        words = stands.words;
        pools = stands.pools;
      }
    where
      untouched : (number : ℕ) → number < words_in function.frame → frame_word (over bytes off new) number ≡ frame_word bytes number
      untouched number low = over_apart bytes new off (omega (arith, inside, stands.as_long)) (8 * number) 8 (inr (omega (arith, low, behind, stands.kept)))

  -- bytes of an object are read
  pub object_read : (off size : ℕ) → own.kept ≤ off → take size (drop off bytes) ≡ take size (drop off own.bytes)
  object_read off size behind =
      let split : own.kept + (off - own.kept) ≡ off = omega arith in
      ap (λ n. take size (drop n bytes)) (sym split) ∙ ap (take size) (sym (drop-drop (off - own.kept) own.kept bytes)) ∙ ap (λ b. take size (drop (off - own.kept) b)) stands.objects
      ∙ ap (take size) (drop-drop (off - own.kept) own.kept own.bytes) ∙ ap (λ n. take size (drop n own.bytes)) split
