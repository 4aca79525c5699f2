-- Activations that run or wait stand for the same ones after bytes of memory changed, while objects last.
use Rattle.std.proofs.Common.{◌≡◌, ℕ, suc, ◌+◌, ◌≤◌, ◌==◌, if◌then◌else◌, List, [], ◌∷◌, length, map, Some, refl, sym, ap, subst, ◌∙◌}
use Rattle.tac_ir.specs.declared.register.Local.{Local}
use Rattle.tac_ir.specs.States as T
use Rattle.tac_ir.specs.Code.{Tac}
use Rattle.pool_ir.specs.Words.{Words}
use Rattle.pool_ir.specs.States as P
use Rattle.pool_rewrite.specs.Plan.{Plan}
use Rattle.pool_rewrite.specs.Placing.{offset_of_local}
use Rattle.pool_rewrite.specs.Standing.{MemoryMap, WordsStand}
use Rattle.pool_simulation.specs.Regions.{SameActivation, SameCallers}
use Rattle.pool_simulation.specs.Placed.{Lasts}
use Rattle.pool_simulation.specs.InStep.{frame_for, local_address, ActivationStands, CallersStand}
use Rattle.pool_simulation.proofs.LastingWords.{words_last, all_inside_last}
use Rattle.pool_simulation.proofs.InStepWords.{old_rises}

-- ---- activations

module _ (tac : Tac) (plan : Plan) (state next : T.State) (memory : MemoryMap) (lasts : Lasts tac.structs state.objects next.objects) (heap : state.next_heap ≤ next.next_heap)
    (activations : state.next_activation ≤ next.next_activation) where
  pub activation_kept : (activation : T.Activation) (own after : P.Activation) → SameActivation own after → ActivationStands tac plan state memory activation own → ActivationStands tac plan next memory activation after
  activation_kept activation own after same stands = record {
    owner = same.owner ∙ stands.owner;
    at = same.at ∙ stands.at;
    kept = same.kept ∙ stands.kept;
    words = subst (λ (words : Words). WordsStand next.objects memory activation.registers words) (sym same.words)
        (words_last tac.structs state.objects next.objects lasts memory activation.registers own.words stands.words);
    inside = all_inside_last tac.structs state.objects next.objects lasts activation.registers stands.inside;
    old = λ register value is. old_rises state next heap activations value (stands.old register value is);
    long = same.long ∙ stands.long;
  }

  pub callers_kept : (waiting : List (ℕ × T.Activation)) (callers others : List (ℕ × P.Activation)) → SameCallers callers others → CallersStand tac plan state memory waiting callers → CallersStand tac plan next memory waiting others
  callers_kept [] [] [] same stand = tt
  callers_kept [] [] (other ∷ others) same stand = absurd same
  callers_kept [] (own ∷ callers) others same stand = absurd stand
  callers_kept (first ∷ waiting) [] others same stand = absurd stand
  callers_kept (first ∷ waiting) ((site, own) ∷ callers) [] same stand = absurd same
  callers_kept (first ∷ waiting) ((site, own) ∷ callers) ((site_after, after) ∷ others) same stand =
      (same.0 ∙ stand.0, activation_kept first.1 own after same.1 stand.1, callers_kept waiting callers others same.2 stand.2)

-- ---- where locals lie

-- frames begin where they did
pub locals_same : (tac : Tac) (plan : Plan) (running : List T.Activation) (own after : P.Activation) (callers others : List (ℕ × P.Activation)) (activation : ℕ) (local : Local) → SameActivation own after → SameCallers callers others
    → local_address tac plan running (after ∷ map (λ (waiting : ℕ × P.Activation). waiting.1) others) activation local ≡ local_address tac plan running (own ∷ map (λ (waiting : ℕ × P.Activation). waiting.1) callers) activation local
locals_same tac plan [] own after callers others activation local same rest = refl
locals_same tac plan (first ∷ running) own after [] [] activation local same rest =
    ap (λ (start : ℕ). if first.number == activation then Some (start + offset_of_local (frame_for tac plan first.owner).objects local) else local_address tac plan running [] activation local) same.start
locals_same tac plan (first ∷ running) own after [] (other ∷ others) activation local same rest = absurd rest
locals_same tac plan (first ∷ running) own after ((site, caller) ∷ callers) [] activation local same rest = absurd rest
locals_same tac plan (first ∷ running) own after ((site, caller) ∷ callers) ((site_after, other) ∷ others) activation local same rest =
    let start = same.start in
    let behind = locals_same tac plan running caller other callers others activation local rest.1 rest.2 in
    (λ i. if first.number == activation then Some (start i + offset_of_local (frame_for tac plan first.owner).objects local) else behind i)

-- as many wait
pub callers_same : (callers others : List (ℕ × P.Activation)) → SameCallers callers others → length others ≡ length callers
callers_same [] [] same = refl
callers_same [] (other ∷ others) same = absurd same
callers_same ((site, caller) ∷ callers) [] same = absurd same
callers_same ((site, caller) ∷ callers) ((site_after, other) ∷ others) same = ap suc (callers_same callers others same.2)
