-- Instructions by their code, with their operands in range.
use Rattle.std.proofs.Common.{◌≡◌, ◌≢◌, ℕ, ◌+◌, ◌-◌, ◌^◌, ◌<◌, ◌≤◌, ◌==◌, Bool, List, [], ◌∷◌, length, drop, refl, sym, ap, subst, ◌∙◌, arith}
use Rattle.std.proofs.Math.ListN.{drop_of_length-le}
use Rattle.pool_isa.specs.declared.instr.Instr.{Instr}
use Rattle.pool_isa.specs.declared.instr.Instr.TheVariants as instrs
use Rattle.pool_isa.specs.Instr.{code_of, spelling, Fits, IsInstrSpelling}
use Rattle.pool_isa.specs.Number.{number_bytes}
use Rattle.pool_isa.specs.Ranges.{IsWithin, InRange}
use Rattle.pool_isa.specs.Spelling.{StandsAt, IsCutShort, IsFaultAt}
use Rattle.pool_isa.proofs.Faults.{fault_at_end, fault_here, fault_then, stands_then}
use Rattle.pool_isa.proofs.Instrs.{head, same_head, same_instr}
use Rattle.image_form.specs.declared.code.Counts.{Counts}
use Rattle.image_form.specs.declared.code.Reference.{Reference}
use Rattle.image_form.specs.declared.code.Reference.TheVariants.{Jump, JumpIfZero, JumpIfNotZero, Call, PoolInit}
use Rattle.image_form.specs.declared.image.ImageErr.{ImageErr}
use Rattle.image_form.specs.Reading.{Spelled, Refuses, refer, range_of, NamesNothing, EndsWell, IsInstr, IsInstrAt, IsCode, code_bytes}
use Rattle.image_form.proofs.Lists.{Keeps, some_list}
use Rattle.image_form.proofs.Fields.{IsUnique, refusal, fault_within, fault_at_once}

pub unique_instr : (counts : Counts) (at_end : Bool) → IsUnique (IsInstr counts at_end) spelling
unique_instr counts at_end a b x y p q e = same_instr a b x y e

-- ---- references

-- an instruction with the code of a reference is of it
refers : (r : Reference) (i : Instr) → head i ≡ head (refer r 0) → (n : ℕ) × (i ≡ refer r n)
refers Jump (instrs.Jump n) e = (n, refl)
refers Jump i e = absurd (cc)
refers JumpIfZero (instrs.JumpIfZero n) e = (n, refl)
refers JumpIfZero i e = absurd (cc)
refers JumpIfNotZero (instrs.JumpIfNotZero n) e = (n, refl)
refers JumpIfNotZero i e = absurd (cc)
refers Call (instrs.Call n) e = (n, refl)
refers Call i e = absurd (cc)
refers PoolInit (instrs.PoolInit n) e = (n, refl)
refers PoolInit i e = absurd (cc)

fits_reference : (r : Reference) (n : ℕ) → n < 2 ^ 64 → Fits (refer r n)
fits_reference Jump n lt = lt
fits_reference JumpIfZero n lt = lt
fits_reference JumpIfNotZero n lt = lt
fits_reference Call n lt = lt
fits_reference PoolInit n lt = lt

in_range : (counts : Counts) (r : Reference) (n : ℕ) → n < range_of counts r → InRange counts.kinds counts.functions counts.instrs (refer r n)
in_range counts Jump n lt = lt
in_range counts JumpIfZero n lt = lt
in_range counts JumpIfNotZero n lt = lt
in_range counts Call n lt = lt
in_range counts PoolInit n lt = lt

below_range : (counts : Counts) (r : Reference) (n : ℕ) → InRange counts.kinds counts.functions counts.instrs (refer r n) → n < range_of counts r
below_range counts Jump n lt = lt
below_range counts JumpIfZero n lt = lt
below_range counts JumpIfNotZero n lt = lt
below_range counts Call n lt = lt
below_range counts PoolInit n lt = lt

reference_spelling : (r : Reference) (n : ℕ) → spelling (refer r n) ≡ code_of (refer r n) ∷ number_bytes n
reference_spelling Jump n = refl
reference_spelling JumpIfZero n = refl
reference_spelling JumpIfNotZero n = refl
reference_spelling Call n = refl
reference_spelling PoolInit n = refl

-- ---- by the code

module _ (counts : Counts) (at_end : Bool) where
  -- at the end of a function a trap may stand
  trap : IsCutShort (Spelled (IsInstr counts at_end) spelling) []
  trap = (0x28, [], (instrs.Trap, (tt, tt, λ _. refl), refl))

  pub instr_at_end : (bytes : List ℕ) (at : ℕ) → length bytes ≤ at → IsFaultAt (Spelled (IsInstr counts at_end) spelling) bytes at at
  instr_at_end bytes at le =
      fault_at_once (Spelled (IsInstr counts at_end) spelling) bytes at (rw (drop_of_length-le bytes {i = at} le) (fault_at_end (Spelled (IsInstr counts at_end) spelling) trap))

  module _ (bytes : List ℕ) (at code : ℕ) (stands : StandsAt bytes at (at + 1) (code ∷ [])) where
    -- no instruction with the code may stand there
    pub code_wrong : ((i : Instr) → code_of i ≡ code → IsInstr counts at_end i → ⊥) → IsFaultAt (Spelled (IsInstr counts at_end) spelling) bytes at at
    code_wrong none =
        let here = stands.parts in
        fault_at_once (Spelled (IsInstr counts at_end) spelling) bytes at (rw here (fault_here (Spelled (IsInstr counts at_end) spelling) code (drop (at + 1) bytes) trap (λ h. let e : code ∷ h.0 ≡ spelling h.1.0 = h.1.2 in none h.1.0 (let f : code ≡ code_of h.1.0 = cc in sym f) h.1.1)))

    module _ (r : Reference) (has : (n : ℕ) → code_of (refer r n) ≡ code) where
      of_reference : (i : Instr) → code_of i ≡ code → (n : ℕ) × (i ≡ refer r n)
      of_reference i e = refers r i (same_head i (refer r 0) (e ∙ sym (has 0)))

      pub no_range : range_of counts r ≡ 0 → IsFaultAt (Spelled (IsInstr counts at_end) spelling) bytes at at
      no_range none = code_wrong (λ i e is. let n = of_reference i e in let lt = below_range counts r n.0 (subst (InRange counts.kinds counts.functions counts.instrs) n.1 is.1) in omega arith)

      module _ (ends : (i : Instr) → code_of i ≡ code → EndsWell at_end i) (small : range_of counts r < 2 ^ 64) where
        spelled : (n : ℕ) → spelling (refer r n) ≡ code ∷ number_bytes n
        spelled n = reference_spelling r n ∙ ap (λ c. c ∷ number_bytes n) (has n)

        is_reference : (n : ℕ) → n < range_of counts r → IsInstr counts at_end (refer r n)
        is_reference n lt = (fits_reference r n (omega arith), in_range counts r n lt, ends (refer r n) (has n))

        pub reference_found : (n end range : ℕ) → range ≡ range_of counts r → range ≢ 0 → IsWithin 0 (range - 1) n → StandsAt bytes (at + 1) end (number_bytes n) → IsInstr counts at_end (refer r n) × StandsAt bytes at end (spelling (refer r n))
        reference_found n end range is some within number =
            let below : n < range_of counts r = let w = within.1 in omega arith in
            (is_reference n below, subst (StandsAt bytes at end) (sym (spelled n)) (stands_then bytes at (at + 1) end (code ∷ []) (number_bytes n) stands number))

        pub reference_refused : (fault : ImageErr) (range : ℕ) → range ≡ range_of counts r → range ≢ 0 → Refuses (Spelled (IsWithin 0 (range - 1)) number_bytes) bytes (at + 1) fault → Refuses (Spelled (IsInstr counts at_end) spelling) bytes at fault
        reference_refused fault range is some =
            refusal (Spelled (IsWithin 0 (range - 1)) number_bytes) (Spelled (IsInstr counts at_end) spelling) bytes (at + 1) at
            (λ place f. fault_then (Spelled (IsWithin 0 (range - 1)) number_bytes) (Spelled (IsInstr counts at_end) spelling) bytes at (at + 1) place (code ∷ []) stands
            (λ x s.
            let below : s.0 < range_of counts r = let w = s.1.1 in omega arith in
            (refer r s.0, is_reference s.0 below, ap (λ t. code ∷ t) s.2 ∙ sym (spelled s.0)))
            (λ x t.
            let e : code ∷ x ≡ spelling t.0 = t.2 in
            let n = of_reference t.0 (let f : code ≡ code_of t.0 = cc in sym f) in
            let below = below_range counts r n.0 (subst (InRange counts.kinds counts.functions counts.instrs) n.1 t.1.1) in
            let bytes : code ∷ x ≡ code ∷ number_bytes n.0 = e ∙ ap spelling n.1 ∙ spelled n.0 in
            (n.0, (omega arith, omega arith), cc))
            f) fault

    module _ (ends : (i : Instr) → code_of i ≡ code → EndsWell at_end i) (free : (i : Instr) → code_of i ≡ code → NamesNothing i) where
      pub other_refused : (place : ℕ) → IsFaultAt IsInstrSpelling bytes at place → IsFaultAt (Spelled (IsInstr counts at_end) spelling) bytes at place
      other_refused place f = record {
        from = f.from;
        fault =
            let here = stands.parts in
            rw here (fault_within IsInstrSpelling (Spelled (IsInstr counts at_end) spelling) code (drop (at + 1) bytes) (place - at) trap
            (λ x t. (t.0, t.1.0, t.2))
            (λ x s.
            let e : code ∷ x ≡ spelling s.0 = s.2 in
            let same : code_of s.0 ≡ code = let f : code ≡ code_of s.0 = cc in sym f in
            (s.0, (s.1, free s.0 same counts.kinds counts.functions counts.instrs, ends s.0 same), e))
            (rw here at f.fault));
      }

-- ---- the instructions of a function

pub unique_at : (counts : Counts) (index : ℕ) → IsUnique (IsInstrAt counts index) spelling
unique_at counts index = unique_instr counts (index + 1 == counts.instrs)

pub trap_at : (counts : Counts) (index : ℕ) → (instr : Instr) × IsInstrAt counts index instr
trap_at counts index = (instrs.Trap, (tt, tt, λ _. refl))

module _ (counts : Counts) where
  abbrev pub KeepsCode : List ℕ → ℕ → ℕ → ℕ → List Instr → Type 0
  KeepsCode bytes at here index found = Keeps spelling (IsInstrAt counts) (unique_at counts) (trap_at counts) bytes at counts.instrs here index found

  pub some_code : (bytes : List ℕ) × Spelled (IsCode counts) code_bytes bytes
  some_code = some_list spelling (IsInstrAt counts) (unique_at counts) (trap_at counts) counts.instrs
