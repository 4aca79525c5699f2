-- The frame of a function that is entered: the words that it was passed, and zeros behind them.
use Rattle.std.proofs.Common.{◌≡◌, ℕ, zero, suc, ◌+◌, ◌-◌, ◌*◌, ◌%◌, ◌^◌, ◌<◌, ◌≤◌, ◌⊎◌, inl, inr, Bool, true, false, List, [], ◌∷◌, ◌++◌, length, drop, replicate, refl, sym, ap, ◌∙◌, subst, arith, length-append, append_assoc, get_or}
use Rattle.std.specs.Prelude.{if◌then◌else◌}
use Rattle.std.specs.List.{flat_map}
use Rattle.std.proofs.Math.Nat.{mod-eq_of_lt}
use Rattle.std.proofs.Math.Seq.{drop-append-add}
use Rattle.std.proofs.lemmas.Bool.{eq-eqb, ne_eqb}
use Rattle.std.proofs.lemmas.List.{length-replicate, drop-replicate, get_or_append_left, get_or-append_right, get_or_past}
use Rattle.byteorder.specs.Endian.{little_bytes}
use Rattle.run_theory.specs.Words.{word_at}
use Rattle.tac_ir.specs.declared.register.Local.TheVariants as L
use Rattle.tac_ir.specs.declared.register.Register.{Register}
use Rattle.tac_ir.specs.declared.register.Register.TheVariants as R
use Rattle.tac_ir.specs.Trees.{same_register}
use Rattle.pool_ir.specs.Code.{Function}
use Rattle.pool_ir.specs.Frames.{word_of_descriptor, word_of_register, objects_start}
use Rattle.pool_ir.specs.States as P
use Rattle.tac_ir.specs.States.{Owner}
use Rattle.pool_ir.specs.Meaning.{parameters_from, descriptors_from}
use Rattle.stack_code.specs.Emitting.{words_taken}
use Rattle.stack_code.specs.Standing.{frame_word, HasRegister, HasDescriptor, FrameStands}
use Rattle.stack_code.specs.Fitting.{FunctionFits}
use Rattle.stack_code.proofs.WrittenBytes.{word_in_bytes, zeros_read}
use Rattle.stack_code.proofs.WordsApart.{descriptor_is}
use Rattle.stack_code.proofs.FrameWrites.{eight}

-- ---- words in a row, as bytes

abbrev pub as_bytes : List ℕ → List ℕ
as_bytes words = flat_map (little_bytes 8) words

pub long_as_bytes : (words : List ℕ) → length (as_bytes words) ≡ 8 * length words
long_as_bytes [] = omega arith
long_as_bytes (word ∷ words) = omega (arith, length-append (little_bytes 8 word) (as_bytes words), eight word, long_as_bytes words)

module _ (rest : List ℕ) where
  -- one of the words
  word_among : (words : List ℕ) (number : ℕ) → number < length words → frame_word (as_bytes words ++ rest) number ≡ get_or words number 0 % 2 ^ 64
  word_among [] number low = absurd (omega (arith, low))
  word_among (word ∷ words) zero low = word_in_bytes 8 word
  word_among (word ∷ words) (suc number) low =
      let further : 8 * suc number ≡ 8 + 8 * number = omega arith in
      ap (λ n. word_at (as_bytes (word ∷ words) ++ rest) n 8) further ∙ ap (λ b. word_at b (8 + 8 * number) 8) (append_assoc (little_bytes 8 word) (as_bytes words) rest)
      ∙ ap (λ b. word_at b 0 8) (drop-append-add (little_bytes 8 word) (as_bytes words ++ rest) (8 * number)) ∙ word_among words number (omega (arith, low))

-- zeros behind them
word_behind : (words : List ℕ) (count number : ℕ) → length words ≤ number → frame_word (as_bytes words ++ replicate count 0) number ≡ 0
word_behind words count number high =
    let split : length (as_bytes words) + (8 * number - 8 * length words) ≡ 8 * number = omega (arith, long_as_bytes words, high) in
    ap (λ n. word_at (as_bytes words ++ replicate count 0) n 8) (sym split) ∙ ap (λ b. word_at b 0 8) (drop-append-add (as_bytes words) (replicate count 0) (8 * number - 8 * length words))
    ∙ zeros_read count (8 * number - 8 * length words) 8

-- ---- the activation's words and descriptors

parameter_is : (first : ℕ) (arguments : List ℕ) (number : ℕ) → parameters_from first arguments (R.Local (L.Parameter (first + number))) ≡ get_or arguments number 0 % 2 ^ 64
parameter_is first [] number = refl
parameter_is first (argument ∷ arguments) zero =
    ap (λ b. if b then argument % 2 ^ 64 else parameters_from (suc first) arguments (R.Local (L.Parameter (first + 0)))) (eq-eqb first (first + 0) (omega arith))
parameter_is first (argument ∷ arguments) (suc number) =
    ap (λ b. if b then argument % 2 ^ 64 else parameters_from (suc first) arguments (R.Local (L.Parameter (first + suc number)))) (ne_eqb first (first + suc number) (λ e. omega (arith, e)))
    ∙ ap (λ n. parameters_from (suc first) arguments (R.Local (L.Parameter n))) (omega arith) ∙ parameter_is (suc first) arguments number

descriptor_among : (pools : List ℕ) (number : ℕ) → descriptors_from pools number ≡ get_or pools number 0
descriptor_among [] number = refl
descriptor_among (pool ∷ pools) zero = refl
descriptor_among (pool ∷ pools) (suc number) = descriptor_among pools number

-- no other register was written
others_zero : (first : ℕ) (arguments : List ℕ) (register : Register) → ((number : ℕ) → same_register (R.Local (L.Parameter number)) register ≡ false) → parameters_from first arguments register ≡ 0
others_zero first [] register apart = refl
others_zero first (argument ∷ arguments) register apart =
    ap (λ b. if b then argument % 2 ^ 64 else parameters_from (suc first) arguments register) (apart first) ∙ others_zero (suc first) arguments register apart

-- each word has 64 bits
parameters_small : (first : ℕ) (arguments : List ℕ) (register : Register) → parameters_from first arguments register < 2 ^ 64
parameters_small first [] register = omega arith
parameters_small first (argument ∷ arguments) register = by (same_register (R.Local (L.Parameter first)) register) (parameters_small (suc first) arguments register)
  where
    by : (b : Bool) → parameters_from (suc first) arguments register < 2 ^ 64 → (if b then argument % 2 ^ 64 else parameters_from (suc first) arguments register) < 2 ^ 64
    by true rest = omega arith
    by false rest = rest

module _ (most : ℕ) (function : Function) (fits : FunctionFits most function) (pools arguments : List ℕ) (owner : Owner) (start : ℕ)
    (taken : length pools ≡ function.taken) (many : length arguments ≡ function.frame.parameters) (small : (number : ℕ) → get_or pools number 0 < 2 ^ 64) where
  abbrev words : List ℕ
  words = pools ++ arguments

  abbrev extra : ℕ
  extra = function.frame.size - 8 * words_taken function

  long_words : length (pools ++ arguments) ≡ words_taken function
  long_words = omega (arith, length-append pools arguments, taken, many)

  room : 8 * words_taken function ≤ function.frame.size
  room = omega (arith, fits.words, fits.taken)

  abbrev pub entered_bytes : List ℕ
  entered_bytes = as_bytes (pools ++ arguments) ++ replicate (function.frame.size - 8 * words_taken function) 0

  abbrev pub entered_activation : P.Activation
  entered_activation = record {
    owner = owner;
    words = parameters_from 0 arguments;
    descriptors = descriptors_from pools;
    start = start;
    kept = objects_start function.frame;
    bytes = replicate function.frame.size 0;
    at = 0;
  }

  zero_word : (number : ℕ) → words_taken function ≤ number → frame_word entered_bytes number ≡ 0
  zero_word number high = word_behind (pools ++ arguments) extra number (omega (arith, high, long_words))

  register_reads : (register : Register) → HasRegister function.frame register → frame_word entered_bytes (word_of_register function register) ≡ parameters_from 0 arguments register
  register_reads (R.Local (L.Parameter number)) has =
      let back : function.taken + number - function.taken ≡ number = omega arith in
      let front : 0 + number ≡ number = omega arith in
      word_among (replicate extra 0) (pools ++ arguments) (function.taken + number) (omega (arith, has, long_words))
      ∙ ap (λ n. n % 2 ^ 64) (get_or-append_right pools arguments function.taken (function.taken + number) 0 taken (omega arith) ∙ ap (λ n. get_or arguments n 0) back)
      ∙ sym (parameter_is 0 arguments number) ∙ ap (λ n. parameters_from 0 arguments (R.Local (L.Parameter n))) front
  register_reads (R.Local (L.Variable number)) has =
      zero_word (word_of_register function (R.Local (L.Variable number))) (omega (arith, fits.taken)) ∙ sym (others_zero 0 arguments (R.Local (L.Variable number)) (λ n. refl))
  register_reads (R.Call number) has = zero_word (word_of_register function (R.Call number)) (omega (arith, fits.taken)) ∙ sym (others_zero 0 arguments (R.Call number) (λ n. refl))
  register_reads (R.Argument number) has = zero_word (word_of_register function (R.Argument number)) (omega (arith, fits.taken)) ∙ sym (others_zero 0 arguments (R.Argument number) (λ n. refl))
  register_reads (R.Expression number) has = zero_word (word_of_register function (R.Expression number)) (omega (arith, fits.taken)) ∙ sym (others_zero 0 arguments (R.Expression number) (λ n. refl))
  register_reads (R.Temporary number) has = zero_word (word_of_register function (R.Temporary number)) (omega (arith, fits.taken)) ∙ sym (others_zero 0 arguments (R.Temporary number) (λ n. refl))

  descriptor_reads : (number : ℕ) → HasDescriptor function.frame number → frame_word entered_bytes (word_of_descriptor function number) ≡ descriptors_from pools number
  descriptor_reads number has = by (descriptor_is function number)
    where
      by : ((number < function.taken) × (word_of_descriptor function number ≡ number)) ⊎ ((function.taken ≤ number) × (word_of_descriptor function number ≡ function.frame.parameters + number))
          → frame_word entered_bytes (word_of_descriptor function number) ≡ descriptors_from pools number
      by (inl first) =
          ap (frame_word entered_bytes) first.1 ∙ word_among (replicate extra 0) (pools ++ arguments) number (omega (arith, first.0, long_words))
          ∙ ap (λ n. n % 2 ^ 64) (get_or_append_left pools arguments 0 number (omega (arith, first.0, taken))) ∙ mod-eq_of_lt (small number) ∙ sym (descriptor_among pools number)
      by (inr later) =
          ap (frame_word entered_bytes) later.1 ∙ zero_word (function.frame.parameters + number) (omega (arith, later.0)) ∙ sym (get_or_past pools number 0 (omega (arith, later.0, taken))) ∙ sym (descriptor_among pools number)

  pub entered_frame : FrameStands function entered_activation entered_bytes
  entered_frame =
      let long = long_as_bytes (pools ++ arguments) in
      let kept = objects_start function.frame in
      let split : length (as_bytes (pools ++ arguments)) + (kept - 8 * words_taken function) ≡ kept = omega (arith, long, long_words, fits.taken) in
      record {
        kept = refl;
        long = length-replicate {A = ℕ} function.frame.size 0;
        as_long =
            omega (arith, length-append (as_bytes (pools ++ arguments)) (replicate extra 0), long, long_words, length-replicate {A = ℕ} extra 0, length-replicate {A = ℕ} function.frame.size 0, room);
        registers = register_reads;
        descriptors = descriptor_reads;
        objects =
            ap (λ n. drop n entered_bytes) (sym split) ∙ drop-append-add (as_bytes (pools ++ arguments)) (replicate extra 0) (kept - 8 * words_taken function)
            ∙ drop-replicate (kept - 8 * words_taken function) extra 0 ∙ ap (λ n. replicate n 0) (omega (arith, room, fits.words, fits.taken)) ∙ sym (drop-replicate kept function.frame.size 0);
        words = parameters_small 0 arguments;
        pools = λ number. subst (λ n. n < 2 ^ 64) (sym (descriptor_among pools number)) (small number);
      }
