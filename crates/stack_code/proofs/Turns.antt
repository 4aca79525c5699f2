-- Instructions of which nothing is seen and that change operands alone: where they lead, one by one and in a row.
use Rattle.std.proofs.Common.{◌≡◌, ℕ, ◌+◌, ◌-◌, ◌*◌, ◌%◌, ◌^◌, ◌<◌, ◌≤◌, true, List, [], ◌∷◌, ◌++◌, Some, length, take, drop, pos, refl, ap, ◌∙◌, subst, arith, length-append}
use Rattle.std.specs.Prelude.{slice_get, nat_le, if◌then◌else◌}
use Rattle.std.proofs.Math.Nat.{mod-eq_of_lt}
use Rattle.std.proofs.lemmas.Bool.{and_from, le-leb, lt-ltb}
use Rattle.run_theory.specs.declared.ends.TrapKind.TheVariants as traps
use Rattle.run_theory.specs.Runs.{To, Leads, here}
use Rattle.run_theory.proofs.Machines.{one_step, leads_compose}
use Rattle.c_num.specs.declared.IntType.{IntType}
use Rattle.c_num.specs.declared.IntType.TheVariants as types
use Rattle.c_num.specs.declared.BinOp.{BinOp}
use Rattle.c_num.specs.declared.Relation.{Relation}
use Rattle.c_num.specs.Conversion.{convert_to, word_of}
use Rattle.pool_isa.specs.declared.instr.Instr.{Instr}
use Rattle.pool_isa.specs.declared.instr.Instr.TheVariants as instrs
use Rattle.pool_isa.specs.Machine as M
use Rattle.pool_isa.specs.Machine.{Function, Code, Activation, State, perform, trap, covers, bytes_at, load_with, loaded_word, binary_word, compared_word, complement_word, converted_word}
use Rattle.stack_code.specs.Emitting.{reading}
use Rattle.stack_code.specs.Standing.{frame_word}

-- the instructions stand in the code from a place on
abbrev pub StandsIn : List Instr → ℕ → List Instr → Type 0
StandsIn code place [] = Unit {0}
StandsIn code place (instr ∷ others) = (slice_get code place ≡ Some instr) × StandsIn code (place + 1) others

pub stands_split : (code xs ys : List Instr) (place : ℕ) → StandsIn code place (xs ++ ys) → StandsIn code place xs × StandsIn code (place + length xs) ys
stands_split code [] ys place stands = (tt, subst (λ p. StandsIn code p ys) (omega arith) stands)
stands_split code (x ∷ xs) ys place stands =
    let rest = stands_split code xs ys (place + 1) stands.1 in
    ((stands.0, rest.0), subst (λ p. StandsIn code p ys) (omega arith) rest.1)

-- a word, loaded as an unsigned one, is itself
pub word_itself : (w : ℕ) → w < 2 ^ 64 → word_of types.ULong (pos w) ≡ w
unfolding word_of convert_to
word_itself w fits = ap (λ x. x % 2 ^ 64) (mod-eq_of_lt fits) ∙ mod-eq_of_lt fits

-- a function of the program, which runs, with the frame of this activation; the callers and the rest of the state stay
module _ (program : Code) (function : Function) (top : Activation) (callers : List Activation) (state : State) (there : slice_get program.functions top.function ≡ Some function) where
  abbrev pub top_at : ℕ → List ℕ → Activation
  top_at place operands = record top { place = place; operands = operands }

  abbrev pub at : ℕ → List ℕ → State
  at place operands = record state { activations = top_at place operands ∷ callers }

  pub fetched : (place : ℕ) (operands : List ℕ) (instr : Instr) → slice_get function.code place ≡ Some instr
      → M.act program (at place operands) ≡ perform (Some instr) program function (top_at place operands) callers (at place operands)
  fetched place operands instr e =
      ap (λ f. M.act_in program f (top_at place operands) callers (at place operands)) there ∙ ap (λ i. perform i program function (top_at place operands) callers (at place operands)) e

  -- from the first operands to the second ones
  abbrev pub Turns : List Instr → List ℕ → List ℕ → Type 0
  Turns code before after = (place : ℕ) → StandsIn function.code place code → Leads (M.act program) (at place before) (length code) (at (place + length code) after)

  pub turns_none : (operands : List ℕ) → Turns [] operands operands
  turns_none operands place stands = subst (λ p. Leads (M.act program) (at place operands) 0 (at p operands)) (omega arith) (here (at place operands))

  pub turns_then : (xs ys : List Instr) (a b c : List ℕ) → Turns xs a b → Turns ys b c → Turns (xs ++ ys) a c
  turns_then xs ys a b c one two place stands =
      let parts = stands_split function.code xs ys place stands in
      let long = length-append xs ys in
      subst (λ p. Leads (M.act program) (at place a) (length (xs ++ ys)) (at p c)) (omega (arith, long))
      (leads_compose (M.act program) (at place a) (at (place + length xs) b) (at (place + length xs + length ys) c) (length xs) (length ys) (length (xs ++ ys)) long (one place parts.0) (two (place + length xs) parts.1))

  turns_one : (instr : Instr) (before after : List ℕ)
      → ((place : ℕ) → perform (Some instr) program function (top_at place before) callers (at place before) ≡ To (at (place + 1) after)) → Turns (instr ∷ []) before after
  turns_one instr before after does place stands = one_step (M.act program) (at place before) (at (place + 1) after) (fetched place before instr stands.0 ∙ does place)

  room : (operands : List ℕ) (word : ℕ) (place : ℕ) → length operands < function.height → M.pushed function.height word operands (top_at place operands) callers (at place operands) ≡ To (at (place + 1) (word ∷ operands))
  room operands word place low =
      ap (λ b. if b then To (at (place + 1) (word ∷ operands)) else trap traps.StackFull (at place operands)) (lt-ltb (length operands) function.height low)

  pub turns_constant : (word : ℕ) (operands : List ℕ) → length operands < function.height → Turns (instrs.Constant word ∷ []) operands (word ∷ operands)
  turns_constant word operands low = turns_one (instrs.Constant word) operands (word ∷ operands) (λ place. room operands word place low)

  pub turns_local : (offset : ℕ) (operands : List ℕ) → length operands < function.height → top.start + offset < 2 ^ 64 → Turns (instrs.Local offset ∷ []) operands ((top.start + offset) ∷ operands)
  turns_local offset operands low near =
      turns_one (instrs.Local offset) operands ((top.start + offset) ∷ operands) (λ place.
      room operands ((top.start + offset) % 2 ^ 64) place low ∙ ap (λ a. To (at (place + 1) (a ∷ operands))) (mod-eq_of_lt near))

  pub turns_convert : (int_type : IntType) (word : ℕ) (operands : List ℕ) → Turns (instrs.Convert int_type ∷ []) (word ∷ operands) (converted_word int_type word ∷ operands)
  turns_convert int_type word operands = turns_one (instrs.Convert int_type) (word ∷ operands) (converted_word int_type word ∷ operands) (λ place. refl)

  pub turns_complement : (int_type : IntType) (word : ℕ) (operands : List ℕ) → Turns (instrs.Complement int_type ∷ []) (word ∷ operands) (complement_word int_type word ∷ operands)
  turns_complement int_type word operands = turns_one (instrs.Complement int_type) (word ∷ operands) (complement_word int_type word ∷ operands) (λ place. refl)

  pub turns_binary : (operator : BinOp) (int_type : IntType) (left right : ℕ) (operands : List ℕ)
      → Turns (instrs.Binary operator int_type ∷ []) (right ∷ left ∷ operands) (binary_word operator int_type left right ∷ operands)
  turns_binary operator int_type left right operands =
      turns_one (instrs.Binary operator int_type) (right ∷ left ∷ operands) (binary_word operator int_type left right ∷ operands) (λ place. refl)

  pub turns_compare : (relation : Relation) (int_type : IntType) (left right : ℕ) (operands : List ℕ)
      → Turns (instrs.Compare relation int_type ∷ []) (right ∷ left ∷ operands) (compared_word relation int_type left right ∷ operands)
  turns_compare relation int_type left right operands =
      turns_one (instrs.Compare relation int_type) (right ∷ left ∷ operands) (compared_word relation int_type left right ∷ operands) (λ place. refl)

  -- a word of the frame is pushed
  module _ (word : ℕ) (inside : 8 * word + 8 ≤ length top.bytes) where
    covered : (place : ℕ) (operands : List ℕ) → covers (top_at place operands) (top.start + 8 * word) 8 ≡ true
    covered place operands =
        and_from (nat_le top.start (top.start + 8 * word)) (nat_le (top.start + 8 * word + 8) (top.start + length top.bytes))
        (le-leb top.start (top.start + 8 * word) (omega arith)) (le-leb (top.start + 8 * word + 8) (top.start + length top.bytes) (omega arith))

    found : (place : ℕ) (operands : List ℕ) → bytes_at (top_at place operands ∷ callers) (top.start + 8 * word) 8 ≡ Some (take 8 (drop (8 * word) top.bytes))
    found place operands =
        let offset : top.start + 8 * word - top.start ≡ 8 * word = omega arith in
        ap (λ b. if b then Some (take 8 (drop (top.start + 8 * word - top.start) top.bytes)) else bytes_at callers (top.start + 8 * word) 8) (covered place operands)
        ∙ ap (λ o. Some (take 8 (drop o top.bytes))) offset

    turns_load : (value : ℕ) (operands : List ℕ) → frame_word top.bytes word ≡ value → value < 2 ^ 64 → Turns (instrs.Load types.ULong ∷ []) ((top.start + 8 * word) ∷ operands) (value ∷ operands)
    turns_load value operands is small =
        turns_one (instrs.Load types.ULong) ((top.start + 8 * word) ∷ operands) (value ∷ operands) (λ place.
        let before = (top.start + 8 * word) ∷ operands in
        ap (λ bytes. load_with (loaded_word types.ULong) bytes (top.start + 8 * word) 8 operands (top_at place before) callers (at place before)) (found place before)
        ∙ ap (λ w. To (at (place + 1) (word_of types.ULong (pos w) ∷ operands))) is
        ∙ ap (λ w. To (at (place + 1) (w ∷ operands))) (word_itself value small))

    pub turns_reading : (value : ℕ) (operands : List ℕ) → frame_word top.bytes word ≡ value → value < 2 ^ 64 → length operands < function.height → top.start + length top.bytes < 2 ^ 64
        → Turns (reading word) operands (value ∷ operands)
    turns_reading value operands is small low near =
        turns_then (instrs.Local (8 * word) ∷ []) (instrs.Load types.ULong ∷ []) operands ((top.start + 8 * word) ∷ operands) (value ∷ operands) (turns_local (8 * word) operands low (omega arith))
        (turns_load value operands is small)
