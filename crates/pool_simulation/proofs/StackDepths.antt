-- The activations that run and wait, by their depth: which stands for which, where their frames lie, and where frames are read.
use Rattle.std.proofs.Common.{◌≡◌, ℕ, zero, suc, ◌+◌, ◌-◌, ◌^◌, ◌<◌, ◌≤◌, ◌⊎◌, List, [], ◌∷◌, length, map, slice_get, Option, Some, None, refl, sym, ap, subst, ◌∙◌, inl, inr, arith, ne_eqb, eq-eqb}
use Rattle.std.specs.Prelude.{if◌then◌else◌}
use Rattle.std.proofs.lemmas.Option.{none-some, same_Some}
use Rattle.run_theory.specs.Words.{word_at}
use Rattle.tac_ir.specs.declared.register.Local.{Local}
use Rattle.tac_ir.specs.Values.{Objects}
use Rattle.tac_ir.specs.Layouts.{Inner, size_of}
use Rattle.tac_ir.specs.Objects.{own_type}
use Rattle.tac_ir.specs.States as T
use Rattle.tac_ir.specs.States.{Owner}
use Rattle.tac_ir.specs.Code.{Function, Tac}
use Rattle.tac_ir.proofs.Activations.{HasObjects, AreStacked}
use Rattle.pool_ir.specs.Code.{FrameLayout}
use Rattle.pool_ir.specs.Frames.{objects_start}
use Rattle.pool_ir.specs.States.{Activation}
use Rattle.pool_ir.specs.Memory.{frame_number}
use Rattle.pool_rewrite.specs.Plan.{Plan}
use Rattle.pool_rewrite.specs.Placing.{frame_of, offset_of_local}
use Rattle.pool_rewrite.specs.Standing.{MemoryMap}
use Rattle.pool_simulation.specs.Regions.{AreApart, frame_end, Stacked}
use Rattle.pool_simulation.specs.InStep.{plan_for, frame_for, local_address, ActivationStands, CallersStand, HasLocal, IsOwned}
use Rattle.pool_simulation.proofs.FrameRanges.{covers_from, not_before, frames_from, frames_start, next_behind}
use Rattle.pool_simulation.proofs.Placed.{local_lies, locals_apart}

-- ---- frames of the machine

-- each frame ends where the running one does, or before
pub all_below : (running : Activation) (callers : List (ℕ × Activation)) (depth : ℕ) (own : Activation) → Stacked running callers → slice_get (frames_from running callers) depth ≡ Some own → frame_end own ≤ frame_end running
all_below running [] zero own stacked is =
    let same = same_Some running own is in omega (arith, ap (λ (a : Activation). a.start) same, ap (λ (a : Activation). length a.bytes) same)
all_below running [] (suc depth) own stacked is = absurd (none-some own is)
all_below running ((site, caller) ∷ callers) zero own stacked is =
    let same = same_Some running own is in omega (arith, ap (λ (a : Activation). a.start) same, ap (λ (a : Activation). length a.bytes) same)
all_below running ((site, caller) ∷ callers) (suc depth) own stacked is = omega (arith, stacked.0, next_behind caller, all_below caller callers depth own stacked.1 is)

-- each frame begins at 2 ^ 40 or behind it
pub all_behind : (running : Activation) (callers : List (ℕ × Activation)) (depth : ℕ) (own : Activation) → Stacked running callers → slice_get (frames_from running callers) depth ≡ Some own → 2 ^ 40 ≤ own.start
all_behind running [] zero own stacked is = omega (arith, frames_start running [] stacked, ap (λ (a : Activation). a.start) (same_Some running own is))
all_behind running [] (suc depth) own stacked is = absurd (none-some own is)
all_behind running ((site, caller) ∷ callers) zero own stacked is =
    omega (arith, frames_start running ((site, caller) ∷ callers) stacked, ap (λ (a : Activation). a.start) (same_Some running own is))
all_behind running ((site, caller) ∷ callers) (suc depth) own stacked is = all_behind caller callers depth own stacked.1 is

-- a deeper one ends before the other begins
pub deeper_before : (running : Activation) (callers : List (ℕ × Activation)) (depth deeper : ℕ) (own other : Activation) → Stacked running callers
    → slice_get (frames_from running callers) depth ≡ Some own → slice_get (frames_from running callers) deeper ≡ Some other → depth < deeper → frame_end other ≤ own.start
deeper_before running [] depth zero own other stacked is other_is lt = absurd (omega (arith, lt))
deeper_before running [] depth (suc deeper) own other stacked is other_is lt = absurd (none-some other other_is)
deeper_before running ((site, caller) ∷ callers) depth zero own other stacked is other_is lt = absurd (omega (arith, lt))
deeper_before running ((site, caller) ∷ callers) zero (suc deeper) own other stacked is other_is lt =
    omega (arith, stacked.0, next_behind caller, all_below caller callers deeper other stacked.1 other_is, ap (λ (a : Activation). a.start) (same_Some running own is))
deeper_before running ((site, caller) ∷ callers) (suc depth) (suc deeper) own other stacked is other_is lt =
    deeper_before caller callers depth deeper own other stacked.1 is other_is (omega (arith, lt))

reads_first : (running : Activation) (others : List Activation) (own : Activation) (address size : ℕ) → running ≡ own → own.start + own.kept ≤ address → address + size ≤ frame_end own
    → frame_number (running ∷ others) address size ≡ Some (word_at own.bytes (address - own.start) size)
reads_first running others own address size same low high =
    subst (λ (a : Activation). frame_number (a ∷ others) address size ≡ Some (word_at own.bytes (address - own.start) size)) (sym same)
    (ap (λ b. if b then Some (word_at own.bytes (address - own.start) size) else frame_number others address size) (covers_from own address size low high))

-- a range of a byte or more within a frame is read there
pub frame_reads : (running : Activation) (callers : List (ℕ × Activation)) (depth : ℕ) (own : Activation) (address size : ℕ) → Stacked running callers → slice_get (frames_from running callers) depth ≡ Some own
    → own.start + own.kept ≤ address → address + size ≤ frame_end own → 1 ≤ size → frame_number (frames_from running callers) address size ≡ Some (word_at own.bytes (address - own.start) size)
frame_reads running [] zero own address size stacked is low high some = reads_first running [] own address size (same_Some running own is) low high
frame_reads running [] (suc depth) own address size stacked is low high some = absurd (none-some own is)
frame_reads running ((site, caller) ∷ callers) zero own address size stacked is low high some = reads_first running (frames_from caller callers) own address size (same_Some running own is) low high
frame_reads running ((site, caller) ∷ callers) (suc depth) own address size stacked is low high some =
    ap (λ b. if b then Some (word_at running.bytes (address - running.start) size) else frame_number (frames_from caller callers) address size)
    (not_before running address size (omega (arith, stacked.0, next_behind caller, all_below caller callers depth own stacked.1 is, high, some)))
    ∙ frame_reads caller callers depth own address size stacked.1 is low high some

-- ---- activations of both

abbrev pub activations_from : T.Activation → List (ℕ × T.Activation) → List T.Activation
activations_from running callers = running ∷ map (λ (waiting : ℕ × T.Activation). waiting.1) callers

-- the activation of the machine at a depth stands for that of three-address code
pub record Paired (tac : Tac) (plan : Plan) (state : T.State) (memory : MemoryMap) (running : Activation) (callers : List (ℕ × Activation)) (depth : ℕ) (owner : T.Activation) : Type 0 where
  pub own : Activation
  pub there : slice_get (frames_from running callers) depth ≡ Some own
  pub stands : ActivationStands tac plan state memory owner own

module _ (tac : Tac) (plan : Plan) (state : T.State) (memory : MemoryMap) where
  pub paired : (running : T.Activation) (callers : List (ℕ × T.Activation)) (first : Activation) (others : List (ℕ × Activation)) (depth : ℕ) (owner : T.Activation)
      → ActivationStands tac plan state memory running first → CallersStand tac plan state memory callers others → slice_get (activations_from running callers) depth ≡ Some owner → Paired tac plan state memory first others depth owner
  paired running [] first others zero owner stands waiting is =
      record { own = first; there = refl; stands = subst (λ (a : T.Activation). ActivationStands tac plan state memory a first) (same_Some running owner is) stands }
  paired running [] first others (suc depth) owner stands waiting is = absurd (none-some owner is)
  paired running (next ∷ callers) first others zero owner stands waiting is =
      record { own = first; there = refl; stands = subst (λ (a : T.Activation). ActivationStands tac plan state memory a first) (same_Some running owner is) stands }
  paired running (next ∷ callers) first [] (suc depth) owner stands waiting is = absurd waiting
  paired running (next ∷ callers) first (own ∷ others) (suc depth) owner stands waiting is =
      let rest = paired next.1 callers own.1 others depth owner waiting.1 waiting.2 is in
      record { own = rest.own; there = rest.there; stands = rest.stands }

module _ (tac : Tac) (plan : Plan) (objects : Objects) where
  -- each activation has its objects
  pub has_at : (running : T.Activation) (callers : List (ℕ × T.Activation)) (depth : ℕ) (owner : T.Activation) → HasObjects tac running objects → AreStacked tac running.number callers objects
      → slice_get (activations_from running callers) depth ≡ Some owner → HasObjects tac owner objects
  has_at running [] zero owner has stacked is = subst (λ (a : T.Activation). HasObjects tac a objects) (same_Some running owner is) has
  has_at running [] (suc depth) owner has stacked is = absurd (none-some owner is)
  has_at running (next ∷ callers) zero owner has stacked is = subst (λ (a : T.Activation). HasObjects tac a objects) (same_Some running owner is) has
  has_at running (next ∷ callers) (suc depth) owner has stacked is = has_at next.1 callers depth owner stacked.1 stacked.2 is

  -- those that wait have lower numbers
  pub number_below : (above : ℕ) (callers : List (ℕ × T.Activation)) (depth : ℕ) (owner : T.Activation) → AreStacked tac above callers objects
      → slice_get (map (λ (waiting : ℕ × T.Activation). waiting.1) callers) depth ≡ Some owner → owner.number < above
  number_below above [] depth owner stacked is = absurd (none-some owner is)
  number_below above (next ∷ callers) zero owner stacked is = omega (arith, stacked.0, ap (λ (a : T.Activation). a.number) (same_Some next.1 owner is))
  number_below above (next ∷ callers) (suc depth) owner stacked is = omega (arith, stacked.0, number_below next.1.number callers depth owner stacked.2 is)

  first_address : (running : T.Activation) (waiting : List T.Activation) (first : Activation) (others : List Activation) (owner : T.Activation) (own : Activation) (local : Local) → running ≡ owner → first ≡ own
      → local_address tac plan (running ∷ waiting) (first ∷ others) owner.number local ≡ Some (own.start + offset_of_local (frame_for tac plan owner.owner).objects local)
  first_address running waiting first others owner own local same too =
      subst (λ (a : T.Activation). local_address tac plan (running ∷ waiting) (first ∷ others) a.number local ≡ Some (own.start + offset_of_local (frame_for tac plan a.owner).objects local)) same
      (subst (λ (m : Activation). local_address tac plan (running ∷ waiting) (first ∷ others) running.number local ≡ Some (m.start + offset_of_local (frame_for tac plan running.owner).objects local)) too
      (ap (λ b. if b then Some (first.start + offset_of_local (frame_for tac plan running.owner).objects local) else local_address tac plan waiting others running.number local) (eq-eqb running.number running.number refl)))

  -- where a local of the activation at a depth lies
  pub address_at : (running : T.Activation) (callers : List (ℕ × T.Activation)) (first : Activation) (others : List (ℕ × Activation)) (depth : ℕ) (owner : T.Activation) (own : Activation) (local : Local)
      → AreStacked tac running.number callers objects → slice_get (activations_from running callers) depth ≡ Some owner → slice_get (frames_from first others) depth ≡ Some own
      → local_address tac plan (activations_from running callers) (frames_from first others) owner.number local ≡ Some (own.start + offset_of_local (frame_for tac plan owner.owner).objects local)
  address_at running callers first others zero owner own local stacked is own_is =
      first_address running (map (λ (waiting : ℕ × T.Activation). waiting.1) callers) first (map (λ (waiting : ℕ × Activation). waiting.1) others) owner own local (same_Some running owner is) (same_Some first own own_is)
  address_at running [] first others (suc depth) owner own local stacked is own_is = absurd (none-some owner is)
  address_at running (next ∷ callers) first [] (suc depth) owner own local stacked is own_is = absurd (none-some own own_is)
  address_at running (next ∷ callers) first (waiting ∷ others) (suc depth) owner own local stacked is own_is =
      let below = number_below running.number (next ∷ callers) depth owner stacked is in
      ap (λ b. if b then Some (first.start + offset_of_local (frame_for tac plan running.owner).objects local) else local_address tac plan (activations_from next.1 callers) (frames_from waiting.1 others) owner.number local)
      (ne_eqb running.number owner.number (λ same. omega (arith, same, below)))
      ∙ address_at next.1 callers waiting.1 others depth owner own local stacked.2 is own_is

-- ---- the activation that has an object

pub record OwnedAt (tac : Tac) (activations : List T.Activation) (activation : ℕ) (local : Local) : Type 0 where
  pub depth : ℕ
  pub owner : T.Activation
  pub there : slice_get activations depth ≡ Some owner
  pub number : owner.number ≡ activation
  pub has : HasLocal tac owner local

pub owned_at : (tac : Tac) (activations : List T.Activation) (activation : ℕ) (local : Local) → IsOwned tac activations activation local → OwnedAt tac activations activation local
owned_at tac [] activation local is = absurd is
owned_at tac (first ∷ others) activation local (inl found) = record { depth = 0; owner = first; there = refl; number = found.0; has = found.1 }
owned_at tac (first ∷ others) activation local (inr is) =
    let rest = owned_at tac others activation local is in
    record { depth = suc rest.depth; owner = rest.owner; there = rest.there; number = rest.number; has = rest.has }

-- ---- locals in frames

module _ (tac : Tac) (plan : Plan) (owner : Owner) where
  pub frame_is : (function : Function) → T.function_of tac owner ≡ Some function → frame_for tac plan owner ≡ frame_of tac.structs (plan_for plan owner) function
  frame_is function e = rw e refl

  -- a local in memory lies within its frame
  pub local_within : (local : Local) (inner : Inner) → own_type (T.objects_of (T.function_of tac owner)) local ≡ Some inner
      → offset_of_local (frame_for tac plan owner).objects local + size_of tac.structs inner.c_type ≤ (frame_for tac plan owner).size
  local_within local inner typed = by (T.function_of tac owner) refl typed
    where
      by : (found : Option Function) → T.function_of tac owner ≡ found → own_type (T.objects_of found) local ≡ Some inner
          → offset_of_local (frame_for tac plan owner).objects local + size_of tac.structs inner.c_type ≤ (frame_for tac plan owner).size
      by None e typed = absurd (none-some inner typed)
      by (Some function) e typed =
          subst (λ (frame : FrameLayout). offset_of_local frame.objects local + size_of tac.structs inner.c_type ≤ frame.size) (sym (frame_is function e))
          (local_lies tac.structs (plan_for plan owner) function local inner typed).within

  -- and behind the words there
  pub local_behind : (local : Local) (inner : Inner) → own_type (T.objects_of (T.function_of tac owner)) local ≡ Some inner
      → objects_start (frame_for tac plan owner) ≤ offset_of_local (frame_for tac plan owner).objects local
  local_behind local inner typed = by (T.function_of tac owner) refl typed
    where
      by : (found : Option Function) → T.function_of tac owner ≡ found → own_type (T.objects_of found) local ≡ Some inner
          → objects_start (frame_for tac plan owner) ≤ offset_of_local (frame_for tac plan owner).objects local
      by None e typed = absurd (none-some inner typed)
      by (Some function) e typed =
          subst (λ (frame : FrameLayout). objects_start frame ≤ offset_of_local frame.objects local) (sym (frame_is function e))
          (local_lies tac.structs (plan_for plan owner) function local inner typed).behind

  -- two locals of one frame lie apart
  pub frame_apart : (local other : Local) (inner other_inner : Inner) → own_type (T.objects_of (T.function_of tac owner)) local ≡ Some inner → own_type (T.objects_of (T.function_of tac owner)) other ≡ Some other_inner
      → (local ≡ other)
      ⊎ AreApart (offset_of_local (frame_for tac plan owner).objects local) (size_of tac.structs inner.c_type) (offset_of_local (frame_for tac plan owner).objects other) (size_of tac.structs other_inner.c_type)
  frame_apart local other inner other_inner typed other_typed = by (T.function_of tac owner) refl typed other_typed
    where
      by : (found : Option Function) → T.function_of tac owner ≡ found → own_type (T.objects_of found) local ≡ Some inner → own_type (T.objects_of found) other ≡ Some other_inner
          → (local ≡ other)
          ⊎ AreApart (offset_of_local (frame_for tac plan owner).objects local) (size_of tac.structs inner.c_type) (offset_of_local (frame_for tac plan owner).objects other) (size_of tac.structs other_inner.c_type)
      by None e typed other_typed = absurd (none-some inner typed)
      by (Some function) e typed other_typed =
          subst (λ (frame : FrameLayout). (local ≡ other) ⊎ AreApart (offset_of_local frame.objects local) (size_of tac.structs inner.c_type) (offset_of_local frame.objects other) (size_of tac.structs other_inner.c_type))
          (sym (frame_is function e)) (locals_apart tac.structs (plan_for plan owner) function local other inner other_inner typed other_typed)
