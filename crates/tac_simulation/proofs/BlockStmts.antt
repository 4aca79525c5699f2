-- The code of a block as a statement: its locals are given up at its end, however it ends.
use Rattle.std.proofs.Common.{◌≡◌, ℕ, ◌≤◌, ◌<◌, inl, inr, List, [], ◌∷◌, ◌++◌, length, length-append, Option, Some, None, refl, sym, ap, ◌∙◌, subst, arith}
use Rattle.c_typed.specs.Types.{CType}
use Rattle.c_typed.specs.Typed as T
use Rattle.c_typed.specs.Typed.{Value, Block, Program}
use Rattle.c_typed.specs.Programs.{IsWellTyped}
use Rattle.ref_semantics.specs.Values as V
use Rattle.ref_semantics.specs.Values.{Scalar}
use Rattle.ref_semantics.specs.Store as S
use Rattle.ref_semantics.specs.Store.{Outcome, Then, continue_with}
use Rattle.ref_semantics.specs.Meaning as Meaning
use Rattle.ref_semantics.specs.Meaning.{Calls, Completion, Normal, Break, Continue, Return, killed, kept, leave, scoped}
use Rattle.ref_semantics.specs.First.{around_of}
use Rattle.ref_semantics.specs.Sound.{AreLocals}
use Rattle.ref_semantics.specs.Keeping.{CallsKeep}
use Rattle.ref_semantics.proofs.Storing.{AreNewer, Opens, left_keeps}
use Rattle.ref_semantics.proofs.StatementsKeep.{block_leads}
use Rattle.tac_ir.specs.Code.{Op, Tac}
use Rattle.tac_ir.specs.Values as M
use Rattle.tac_ir.specs.States.{State}
use Rattle.tac_build.specs.Homes.{Scope}
use Rattle.tac_build.specs.StatementCode.{Ways}
use Rattle.tac_build.specs.Forms.{scope_types, context_of}
use Rattle.tac_simulation.specs.Standing as Standing
use Rattle.tac_simulation.specs.Standing.{Placement, Frame, At, IsAmong}
use Rattle.tac_simulation.proofs.Paths.{Stand, Does, comes, stops, start, eases, along}
use Rattle.tac_simulation.proofs.Spotting.{Runs}
use Rattle.tac_simulation.proofs.Combining.{ticked}
use Rattle.tac_simulation.proofs.Executing
use Rattle.tac_simulation.proofs.Ending.{ended, kept_is, at_ended, holds_ended}

-- locals in scope were given their numbers
among_given : (s : S.State) (names : List ℕ) (types : List CType) → AreLocals s names types → (number : ℕ) → IsAmong number names → number < s.next_local
among_given s [] types are number among = absurd among
among_given s (newest ∷ others) [] are number among = absurd are
among_given s (newest ∷ others) (c_type ∷ types) are number (inl same) = subst (λ n. n < s.next_local) same are.0
among_given s (newest ∷ others) (c_type ∷ types) are number (inr among) = among_given s others types are.2 number among

among_newer : (least : ℕ) (names : List ℕ) → AreNewer least names → (number : ℕ) → IsAmong number names → least ≤ number
among_newer least [] newer number among = absurd among
among_newer least (first ∷ others) newer number (inl same) = subst (λ n. least ≤ n) same newer.0
among_newer least (first ∷ others) newer number (inr among) = among_newer least others newer.1 number among

module _ (tac : Tac) (program : Program) (calls : Calls) (worth : ℕ) (points : List Op) (hidden : ℕ → Option V.Content) (frame : Frame)
    (runs : Runs tac program points frame) (well : IsWellTyped program) (keep : CallsKeep program calls) where
  abbrev Stays : Placement → Scope → ℕ → S.State → State → Type 0
  Stays placement scope at s t = Executing.StaysAt tac program calls worth points hidden frame placement scope at s t

  abbrev Leaving : Placement → Scope → ℕ → Ways program points → Stand Completion
  Leaving placement scope onward ways way s t = Executing.Leaves tac program calls worth points hidden frame placement scope onward ways way s t

  -- behind the end of a block
  abbrev given_up : S.State → S.State → S.State
  given_up s s1 = record s1 { objects = killed (length s.locals) s1.locals s1.objects; locals = kept (length s.locals) s1.locals }

  module _ (placement placed : Placement) (scope more : Scope) (s s1 : S.State) (from : ℕ) (state : State) (at : Stays placement scope from s state)
      (opens : Opens (context_of program scope) s s1) (extends : Executing.Extends frame s.next_local placement placed) (depth : length opens.names ≡ length more) where
    given_up_is : given_up s s1 ≡ record s1 { objects = ended opens.names s.locals s1.objects; locals = s.locals }
    given_up_is =
        ap (λ names. record s1 { objects = killed (length s.locals) names s1.objects; locals = kept (length s.locals) names }) opens.locals
        ∙ ap (λ names. record s1 { objects = ended opens.names s.locals s1.objects; locals = names }) (kept_is opens.names s.locals)

    stays_ended : (to : ℕ) (t : State) → Stays placed (more ++ scope) to s1 t → Stays placement scope to (given_up s s1) t
    stays_ended to t there = record {
      stands = subst (λ (last : S.State). At program placement hidden frame scope to last t) (sym given_up_is)
          (at_ended program placement placed hidden frame scope more s.next_local opens.names s.locals s1 t to extends opens.locals depth
          (among_given s s.locals (scope_types scope) at.sound.locals) (among_newer s.next_local opens.names opens.newer) (λ number object is. (at.stands.stands.placed number object is).0) there.stands);
      sound = (left_keeps at.sound opens).sound;
    }

    gives_ended : (to : ℕ) (t : State) → Stays placed (more ++ scope) to s1 t → (given : Option Scalar) (held : Option M.Value)
        → Executing.GivesBack tac program calls worth points hidden frame placed s1.objects given held → Executing.GivesBack tac program calls worth points hidden frame placement (given_up s s1).objects given held
    gives_ended to t there None held gives = gives
    gives_ended to t there (Some scalar) held gives =
        subst (λ (last : S.State). Standing.HoldsFor program last.objects placement scalar held) (sym given_up_is)
        (holds_ended program placement placed hidden frame scope more s.next_local opens.names s.locals s1 t to extends opens.locals depth
        (among_given s s.locals (scope_types scope) at.sound.locals) (among_newer s.next_local opens.names opens.newer) (λ number object is. (at.stands.stands.placed number object is).0) there.stands scalar held gives)

    leaves_ended : (onward : ℕ) (ways : Ways program points) (way : Completion) (t : State) → Leaving placed (more ++ scope) onward ways way s1 t → Leaving placement scope onward ways way (given_up s s1) t
    leaves_ended onward ways Normal t there = stays_ended onward t there
    leaves_ended onward ways Break t there = stays_ended ways.broken t there
    leaves_ended onward ways Continue t there = stays_ended ways.continued t there
    leaves_ended onward ways (Return given) t r = record {
      at = r.at;
      operand = r.operand;
      has = r.has;
      before = r.before;
      there = stays_ended r.at r.before r.there;
      paid = r.paid;
      held = r.held;
      does = r.does;
      gives = gives_ended r.at r.before r.there given r.held r.gives;
    }

  -- what is done in a scope of its own
  pub ends_scope : {begin : State} {n lag slack : ℕ} (placement : Placement) (scope : Scope) (onward : ℕ) (ways : Ways program points) (s : S.State) (from : ℕ) (state : State) → Stays placement scope from s state → (outcome : Outcome Completion)
      → ((way : Completion) (s1 : S.State) → outcome ≡ Then way s1 → Opens (context_of program scope) s s1)
      → Does tac worth begin n lag slack (λ way s1 t. Executing.LeavesWithin tac program calls worth points hidden frame s.next_local s.locals placement scope onward ways way s1 t) outcome
      → Does tac worth begin n lag slack (Leaving placement scope onward ways) (continue_with (λ way. leave way (length s.locals)) outcome)
  ends_scope placement scope onward ways s from state at _ opens (comes way s1 t p g) =
      let one = opens way s1 refl in
      let lengths = ap length (sym one.locals ∙ g.own) in
      let depth : length one.names ≡ length g.more = let known = g.depth in omega (arith, known, lengths, length-append one.names s.locals, length-append g.fresh s.locals) in
      comes way (given_up s s1) t p (leaves_ended placement g.placed scope g.more s s1 from state at one g.extends depth onward ways way t g.left)
  ends_scope placement scope onward ways s from state at _ opens (stops answer s1 a) = stops answer s1 a

  pub block_stmts : (items : Block) → Executing.ExecutesBlock tac program calls worth points hidden frame items → Executing.Executes tac program calls worth points hidden frame (T.BlockStmt items)
  block_stmts items does within placement scope from to ways code typed small numbered objects enough s state at =
      ticked tac program calls worth points placement hidden frame scope runs well keep (scoped (Meaning.block (around_of program) calls items)) from.at s state (start state s.units) at (omega arith) (λ left p at'.
      eases (along p (ends_scope placement scope to.at ways (record s { units = left }) from.at state at' (Meaning.block (around_of program) calls items (record s { units = left }))
      (λ way s1 e. ((block_leads program well calls keep (scope_types scope) within items typed small (record s { units = left }) at'.sound).leads way s1 e).0)
      (does within placement scope from to ways code typed small numbered objects (omega arith) (record s { units = left }) state at'))) (omega arith) (omega arith))
