-- What is shown where a scope is left: wherever the code goes on, the outer locals stand as they did.
use Rattle.std.proofs.Common.{◌≡◌, ℕ, ◌++◌, List, length, Option, Some, None, sym, subst}
use Rattle.c_typed.specs.Typed.{Value, Program}
use Rattle.c_typed.specs.Programs.{IsWellTyped}
use Rattle.ref_semantics.specs.Values as V
use Rattle.ref_semantics.specs.Values.{Scalar}
use Rattle.ref_semantics.specs.Store as S
use Rattle.ref_semantics.specs.Meaning.{Calls, Completion, Normal, Break, Continue, Return}
use Rattle.ref_semantics.specs.Sound.{Sound}
use Rattle.ref_semantics.specs.Keeping.{CallsKeep}
use Rattle.ref_semantics.proofs.Storing.{left}
use Rattle.tac_ir.specs.Code.{Op, Tac}
use Rattle.tac_ir.specs.Values as M
use Rattle.tac_ir.specs.States.{State}
use Rattle.tac_build.specs.Homes.{Scope}
use Rattle.tac_build.specs.StatementCode.{Ways}
use Rattle.tac_build.specs.Forms.{context_of}
use Rattle.tac_simulation.specs.Standing.{Placement, Frame, At}
use Rattle.tac_simulation.proofs.Spotting.{Runs}
use Rattle.tac_simulation.proofs.Evaluating.{ValueDoes, AtSpot}
use Rattle.tac_simulation.proofs.Executing.{Extends, GivesBack, Leaves}
use Rattle.tac_simulation.proofs.Rounds
use Rattle.tac_simulation.proofs.Closing.{left_held, left_is, at_left}

module _ (tac : Tac) (program : Program) (calls : Calls) (worth : ℕ) (points : List Op) (hidden : ℕ → Option V.Content) (frame : Frame) where
  module _ (placement : Placement) (scope : Scope) (onward at0 : ℕ) (ways : Ways program points) (s0 s : S.State) (t0 : State) (before : AtSpot tac program calls worth points placement hidden frame scope at0 s0 t0)
      (sound : Sound (context_of program scope) (left (length s0.locals) s)) (placed : Placement) (more : Scope) (fresh : List ℕ) (extends : Extends frame s0.next_local placement placed) (own : s.locals ≡ fresh ++ s0.locals) (depth : length fresh ≡ length more) where
    spot_left : (at : ℕ) (t : State) → AtSpot tac program calls worth points placed hidden frame (more ++ scope) at s t → AtSpot tac program calls worth points placement hidden frame scope at (left (length s0.locals) s) t
    spot_left at t h = record {
      stands = subst (λ s'. At program placement hidden frame scope at s' t) (sym (left_is program placement placed hidden frame more scope fresh at0 at s0 s t0 t before.sound before.stands extends own depth h.stands))
          (at_left program placement placed hidden frame more scope fresh at0 at s0 s t0 t before.sound before.stands extends own depth h.stands);
      sound = sound;
    }

    gives_left : (at : ℕ) (t : State) → AtSpot tac program calls worth points placed hidden frame (more ++ scope) at s t → (given : Option Scalar) (held : Option M.Value)
        → GivesBack tac program calls worth points hidden frame placed s.objects given held → GivesBack tac program calls worth points hidden frame placement (left (length s0.locals) s).objects given held
    gives_left at t h None held gives = gives
    gives_left at t h (Some scalar) held gives =
        subst (λ (s' : S.State). GivesBack tac program calls worth points hidden frame placement s'.objects (Some scalar) held) (sym (left_is program placement placed hidden frame more scope fresh at0 at s0 s t0 t before.sound before.stands extends own depth h.stands))
        (left_held program placement placed hidden frame more scope fresh at0 at s0 s t0 t before.sound before.stands extends own depth h.stands scalar held gives)

    -- wherever the code is behind what stood in the scope
    pub way_left : (way : Completion) (t : State) → Leaves tac program calls worth points hidden frame placed (more ++ scope) onward ways way s t
        → Leaves tac program calls worth points hidden frame placement scope onward ways way (left (length s0.locals) s) t
    way_left Normal t stays = spot_left onward t stays
    way_left Break t stays = spot_left ways.broken t stays
    way_left Continue t stays = spot_left ways.continued t stays
    way_left (Return given) t r = record {
      at = r.at;
      operand = r.operand;
      has = r.has;
      before = r.before;
      there = spot_left r.at r.before r.there;
      paid = r.paid;
      held = r.held;
      does = r.does;
      gives = gives_left r.at r.before r.there given r.held r.gives;
    }

module _ (tac : Tac) (program : Program) (calls : Calls) (worth : ℕ) (points : List Op) (hidden : ℕ → Option V.Content) (frame : Frame)
    (runs : Runs tac program points frame) (well : IsWellTyped program) (keep : CallsKeep program calls)
    (follows : (placement : Placement) (scope : Scope) (tree : Value) → ValueDoes tac program calls worth points placement hidden frame scope tree) where
  -- so the scope of a `for` is left
  pub leaves_scope : Rounds.Closes tac program calls worth points hidden frame runs well keep follows
  leaves_scope placement scope at s state h onward ways way s' state' g sound =
      way_left tac program calls worth points hidden frame placement scope onward at ways s s' state h sound g.placed g.more g.fresh g.extends g.own g.depth way state' g.left
