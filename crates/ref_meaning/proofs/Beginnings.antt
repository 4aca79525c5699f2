-- A call begins, and ends.
use Rattle.std.proofs.Common.{◌≡◌, ℕ, suc, ◌+◌, ◌-◌, ◌≤◌, ◌<◌, List, [], ◌∷◌, ◌++◌, length, drop, take, reverse, Bool, refl, sym, ap, subst, ◌∙◌, arith, take_all, add-one}
use Rattle.std.proofs.lemmas.List.{drop_all}
use Rattle.std.specs.Borrow.{Bor}
use Rattle.run_theory.specs.declared.place.Pos.{Pos}
use Rattle.run_theory.specs.Runs as Runs
use Rattle.c_typed.specs.declared.definition.FunctionDef as memory_function
use Rattle.c_typed.specs.DefinitionViews.{function_in}
use Rattle.ref_meaning.specs.Trees.{FunctionFits}
use Rattle.ref_semantics.specs.Store.{State, Then}
use Rattle.ref_semantics.specs.Meaning.{greatest_depth}
use Rattle.ref_semantics.specs.Steps as steps
use Rattle.ref_semantics.specs.Steps.{Config, Frame}
use Rattle.ref_meaning.specs.RefStore.Holding.{At, left}
use Rattle.ref_meaning.proofs.Updating.{unheard}
use Rattle.ref_meaning.specs.declared.control.Node.TheVariants as N
use Rattle.ref_meaning.specs.declared.control.Stage.TheVariants as S
use Rattle.ref_meaning.specs.declared.control.Task.TheVariants as K
use Rattle.ref_meaning.specs.declared.run.RefRun.{RefRun}
use Rattle.ref_meaning.specs.Views.{config_in, around_run, functions_of, table_of, operands_of, stack_of, operands_after, frames_in, newest}
use Rattle.ref_meaning.specs.Holding.{IsConsistent, Awaits, FramesHold}
use Rattle.ref_meaning.specs.Moving.{Arrives, IsOver}
use Rattle.ref_meaning.proofs.Moves.{same-around}
use Rattle.ref_meaning.proofs.Turns.{Turns, turns-config, turns-holds}

pub depth-is : greatest_depth ≡ 10000
unfolding greatest_depth
depth-is = refl

no-depth : (n : ℕ) → greatest_depth ≤ n → greatest_depth - n ≡ 0
no-depth n h = omega (arith, h)

some-depth : (n : ℕ) → n < greatest_depth → greatest_depth - n ≡ suc (greatest_depth - suc n)
some-depth n h = omega (arith, h)

-- calls nest too deep
pub too-deep : (run : RefRun) (is_used : Bool) (here : Pos) (number : ℕ) (function : _) (given : _) (frames : List Frame) → greatest_depth ≤ run.depth
    → (state : State) → IsOver (steps.begin_call (around_run run) (functions_of run) is_used here number function given frames (greatest_depth - run.depth)) state Runs.DepthReached
too-deep run is_used here number function given frames deep state =
    subst (λ depth. IsOver (steps.begin_call (around_run run) (functions_of run) is_used here number function given frames depth) state Runs.DepthReached) (sym (no-depth run.depth deep))
    (record { there = state; is = λ units input. refl; quiet = refl })

-- a call begins
pub begins : (old new : RefRun) (is_used : Bool) (here : Pos) (number : ℕ) (function : Bor memory_function.FunctionDef) (count : ℕ) → IsConsistent old → (Awaits (stack_of old) → ⊥) → FunctionFits (table_of old) function.now
    → count ≤ length (operands_of old) → operands_after old.control.task (operands_of old) ≡ drop count (operands_of old) → old.depth < greatest_depth
    → Turns old new (record { node = N.Body function; task = K.Bind count 0 }) (record { node = N.Body function; stage = S.Call is_used here old.base } ∷ stack_of old) (operands_of old) (length old.store.locals.items) (old.depth + 1)
    → new.store ≡ old.store → (state : State) → At (around_run old) old.store old.base state
    → Arrives new (steps.begin_call (around_run old) (functions_of old) is_used here number (function_in (table_of old) function.now) (newest (table_of old) count (operands_of old)) (config_in old).frames (greatest_depth - old.depth)) state
begins old new is_used here number function count holds unawaited stands there operands shallow turns store state at =
    subst (λ depth. Arrives new (steps.begin_call (around_run old) (functions_of old) is_used here number (function_in (table_of old) function.now) (newest (table_of old) count (operands_of old)) (config_in old).frames depth) state) (sym (some-depth old.depth shallow))
    (record {
      after = after state;
      does = λ units input. ap (λ c. Then c (left units input (after state))) (ap (λ locals. bound locals (config_in old).frames) at.locals ∙ is);
      at = subst (λ a. At a new.store new.base (after state)) (sym around_same) (subst (λ b. At (around_run old) new.store b (after state)) (sym turns.based) (subst (λ s. At (around_run old) s (length old.store.locals.items) (after state)) (sym store) (at_after state at)));
      quiet = unheard state.trace (Runs.Called number ∷ []) refl;
      holds = turns-holds old new _ _ (operands_of old) (length old.store.locals.items) (old.depth + 1) turns holds ((λ awaits. absurd awaits), (unawaited, holds.found.1)) stands (tt, there) holds.operands
          (stands, tt, tt, holds.within, waits)
          (subst (λ s. length old.store.locals.items ≤ length s.locals.items) (sym store) (omega arith))
          (add-one old.depth ∙ ap suc holds.calls) (omega (arith, shallow)) (after holds.state)
          (subst (λ s. At (around_run old) s (length old.store.locals.items) (after holds.state)) (sym store) (at_after holds.state holds.at));
    })
  where
    after : State → State
    after s = record s { trace = s.trace ++ (Runs.Called number ∷ []); locals = [] }

    around_same : around_run new ≡ around_run old
    around_same = same-around old new turns.kept

    at_after : (s : State) → At (around_run old) old.store old.base s → At (around_run old) old.store (length old.store.locals.items) (after s)
    at_after s had = record {
      structs = had.structs;
      completed = had.completed;
      objects = had.objects;
      locals = sym (ap reverse (drop_all (length old.store.locals.items) old.store.locals.items (omega arith)));
      next_local = had.next_local;
      next_heap = had.next_heap;
    }

    waits : FramesHold (table_of old) old.base (drop count (operands_of old)) (stack_of old)
    waits = subst (λ o. FramesHold (table_of old) old.base o (stack_of old)) operands holds.frames

    bound : List ℕ → List Frame → Config
    bound locals frames = record {
      task = steps.Bind (function_in (table_of old) function.now) (function_in (table_of old) function.now).parameters (newest (table_of old) count (operands_of old));
      frames = steps.Running (function_in (table_of old) function.now) is_used here locals ∷ frames;
      depth = greatest_depth - suc old.depth;
    }

    turned : config_in new ≡ record {
      task = steps.Bind (function_in (table_of old) function.now) (function_in (table_of old) function.now).parameters (newest (table_of old) count (operands_of old));
      frames = steps.Running (function_in (table_of old) function.now) is_used here (reverse (drop old.base (take (length old.store.locals.items) new.store.locals.items)))
          ∷ frames_in (table_of old) new.store.locals.items old.base (drop count (operands_of old)) (stack_of old);
      depth = greatest_depth - (old.depth + 1);
    }
    turned = turns-config old new _ _ (operands_of old) (length old.store.locals.items) (old.depth + 1) turns

    all : take (length old.store.locals.items) old.store.locals.items ≡ old.store.locals.items
    all = take_all (length old.store.locals.items) old.store.locals.items (omega arith)

    is : bound (reverse (drop old.base old.store.locals.items)) (config_in old).frames ≡ config_in new
    is = sym (turned
        ∙ ((λ i. record {
          task = steps.Bind (function_in (table_of old) function.now) (function_in (table_of old) function.now).parameters (newest (table_of old) count (operands_of old));
          frames = steps.Running (function_in (table_of old) function.now) is_used here (reverse (drop old.base (take (length old.store.locals.items) (store i).locals.items)))
              ∷ frames_in (table_of old) (store i).locals.items old.base (drop count (operands_of old)) (stack_of old);
          depth = greatest_depth - (old.depth + 1);
        })
        ∙ (λ i. record {
          task = steps.Bind (function_in (table_of old) function.now) (function_in (table_of old) function.now).parameters (newest (table_of old) count (operands_of old));
          frames = steps.Running (function_in (table_of old) function.now) is_used here (reverse (drop old.base (all i)))
              ∷ frames_in (table_of old) old.store.locals.items old.base (sym operands i) (stack_of old);
          depth = greatest_depth - add-one old.depth i;
        })))
