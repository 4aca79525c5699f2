-- What waits is given what it waits for.
use Rattle.std.proofs.Common.{◌≡◌, ℕ, List, ◌∷◌, Result, Ok, Err, IsErrAnd, length, refl, sym, ap, subst, ◌∙◌}
use Rattle.ref_semantics.specs.Store.{State, ◌>>=◌, give}
use Rattle.ref_semantics.specs.Parts as parts
use Rattle.ref_semantics.specs.Parts.{Part}
use Rattle.ref_semantics.specs.Steps as steps
use Rattle.ref_semantics.specs.Steps.{Config, Frame, Given, ScalarGiven}
use Rattle.ref_semantics.specs.Units as units
use Rattle.ref_meaning.specs.declared.store.Store.{Store}
use Rattle.ref_meaning.specs.declared.value.Stop.{Stop}
use Rattle.ref_meaning.specs.declared.value.Scalar as memory_scalar
use Rattle.ref_meaning.specs.RefStore.Views.{scalar_in, ScalarStands}
use Rattle.ref_meaning.specs.RefStore.Holding.{At, Comes, CallGives}
use Rattle.ref_meaning.specs.declared.control.Control.{Control}
use Rattle.ref_meaning.specs.declared.control.Given as memory_given
use Rattle.ref_meaning.specs.declared.control.Given.TheVariants as G
use Rattle.ref_meaning.specs.declared.control.Node as memory_node
use Rattle.ref_meaning.specs.declared.control.Node.TheVariants as N
use Rattle.ref_meaning.specs.declared.control.Stage as memory_stage
use Rattle.ref_meaning.specs.declared.control.Stage.TheVariants as S
use Rattle.ref_meaning.specs.declared.control.Task.TheVariants as K
use Rattle.ref_meaning.specs.declared.first_operand.Next as memory_next
use Rattle.ref_meaning.specs.declared.first_operand.Next.TheVariants as X
use Rattle.ref_meaning.specs.declared.first_operand.Role as memory_role
use Rattle.ref_meaning.specs.declared.first_operand.Role.TheVariants as O
use Rattle.ref_meaning.specs.declared.run.Halt.{Halt}
use Rattle.ref_meaning.specs.declared.run.RefRun.{RefRun}
use Rattle.ref_meaning.specs.Views.{config_in, around_run, functions_of, table_of, operands_of, part_in, task_in, given_in, waiting}
use Rattle.ref_meaning.specs.Holding.{IsConsistent, NodeStands, GivenStands, Waits, Fits, StageStands, HasRoom, AwaitsAt, FindsAt, IsBehindFirst, IsBehindBoth, PointsToElement}
use Rattle.ref_meaning.specs.Doing.{TakesNone, IsInnermost, NextStands, NextFinds, next_in, innermost, popped, without_first, taking, acting}
use Rattle.ref_meaning.specs.Moving.{Becomes, Arrives, Moves, halt_of}
use Rattle.ref_meaning.proofs.Moves.{IsPlain, stops, stored-alters, becomes-arrives, becomes-alters, behind_frames, done-config, done-holds, stage-config, stage-holds, arrives-behind, innermost-frames, behind-found}
use Rattle.ref_meaning.proofs.Finding.{same-first, same-both}
use Rattle.ref_meaning.proofs.Entering.{enter-fits}

-- ---- the first operand

-- what a call on the store gave, behind the first operand
pub record Found (old : RefRun) (mid : Store) (node : memory_node.Node) (first : memory_scalar.Scalar) (next : memory_next.Next) : Type 0 where
  pub types : mid.types ≡ old.store.types
  pub locals : mid.locals ≡ old.store.locals
  pub comes : (state : State) → At (around_run old) old.store old.base state
      → Comes (around_run old) mid old.base (parts.next_of (around_run old) (part_in (table_of old) node) (scalar_in (table_of old) first)) state (next_in (table_of old) next)

-- a value comes behind it
pub first-given : (old new : RefRun) (mid : Store) (top : ℕ) (node : memory_node.Node) (first value : memory_scalar.Scalar) → IsConsistent old → TakesNone old.control.task
    → Found old mid node first (X.Given value) → (waits : IsInnermost old top (part_in (table_of old) node) S.First)
    → waiting (part_in (table_of old) node) ≡ steps.First (part_in (table_of old) node) → ScalarStands (table_of old) value → (IsBehindFirst node → PointsToElement (table_of old) value)
    → Becomes (record old { store = mid }) new (record { node = old.control.node; task = K.Give (G.Scalar value) }) waits.others
    → (state : State) → At (around_run old) old.store old.base state → Arrives new (taking old (waiting (part_in (table_of old) node)) (ScalarGiven (scalar_in (table_of old) first))) state
first-given old new mid top node first value holds free found waits is stands finds becomes state at =
    let next : Control = record { node = old.control.node; task = K.Give (G.Scalar value) } in
    let part = part_in (table_of old) node in
    let a = scalar_in (table_of old) first in
    let alters = stored-alters old new mid next waits.others found.types found.locals holds becomes in
    subst (λ frame. Arrives new (taking old frame (ScalarGiven a)) state) (sym is)
    (arrives-behind old new mid (parts.next_of (around_run old) part a) (λ behind. give (steps.goes (around_run old) (functions_of old) part a behind (popped (config_in old)))) (next_in (table_of old) (X.Given value)) state
    alters.kept becomes.store becomes.base
    (ap (λ c. give c) (sym (done-config old new next top part S.First waits alters free tt tt holds)))
    (done-holds old new next top part S.First waits alters free tt tt holds (λ awaits. finds (same-first (table_of old) waits.node node waits.is ((behind-found old top part S.First waits holds).0 awaits))) holds.node stands (found.comes holds.state holds.at).after
    (subst (λ s. At (around_run old) s old.base (found.comes holds.state holds.at).after) (sym becomes.store) (found.comes holds.state holds.at).at))
    (found.comes state at))

-- an expression is entered behind it, while this waits at another stage
entered-staged : (old new : RefRun) (mid : Store) (top : ℕ) (node part : memory_node.Node) (first : memory_scalar.Scalar) (role : memory_role.Role) (later : memory_stage.Stage) → IsConsistent old → TakesNone old.control.task
    → Found old mid node first (X.Enter part role) → (waits : IsInnermost old top (part_in (table_of old) node) S.First) → waiting (part_in (table_of old) node) ≡ steps.First (part_in (table_of old) node)
    → (AwaitsAt node later → ⊥) → (IsBehindFirst node → FindsAt node later) → NodeStands (table_of old) node → IsPlain later → Fits node later → StageStands (table_of old) later → HasRoom later old.base (length (operands_of old)) → NodeStands (table_of old) part → Waits part
    → steps.goes (around_run old) (functions_of old) (part_in (table_of old) node) (scalar_in (table_of old) first) (next_in (table_of old) (X.Enter part role)) (popped (config_in old))
    ≡ record (popped (config_in old)) { task = steps.Enter (part_in (table_of old) part); frames = innermost old (part_in (table_of old) node) later ∷ (popped (config_in old)).frames }
    → Becomes (record old { store = mid }) new (record { node = part; task = K.Enter }) (record { node = node; stage = later } ∷ waits.others)
    → (state : State) → At (around_run old) old.store old.base state → Arrives new (taking old (waiting (part_in (table_of old) node)) (ScalarGiven (scalar_in (table_of old) first))) state
entered-staged old new mid top node part first role later holds free found waits is unplaced finds stands plainly fits staged room entered enters goes becomes state at =
    let next : Control = record { node = part; task = K.Enter } in
    let this = part_in (table_of old) node in
    let a = scalar_in (table_of old) first in
    let alters = stored-alters old new mid next (record { node = node; stage = later } ∷ waits.others) found.types found.locals holds becomes in
    subst (λ frame. Arrives new (taking old frame (ScalarGiven a)) state) (sym is)
    (arrives-behind old new mid (parts.next_of (around_run old) this a) (λ behind. give (steps.goes (around_run old) (functions_of old) this a behind (popped (config_in old)))) (next_in (table_of old) (X.Enter part role)) state
    alters.kept becomes.store becomes.base
    (ap (λ c. give c) (goes ∙ sym (stage-config old new next top this S.First waits node later alters free tt tt plainly holds stands fits staged room)))
    (stage-holds old new next top this S.First waits node later alters free tt tt plainly holds stands fits staged room (λ awaits. absurd (unplaced awaits)) (λ awaits. finds (same-first (table_of old) waits.node node waits.is ((behind-found old top this S.First waits holds).0 awaits))) entered (enter-fits (table_of old) part (length (operands_of old)) enters) (found.comes holds.state holds.at).after
    (subst (λ s. At (around_run old) s old.base (found.comes holds.state holds.at).after) (sym becomes.store) (found.comes holds.state holds.at).at))
    (found.comes state at))

pub first-second : (old new : RefRun) (mid : Store) (top : ℕ) (node part : memory_node.Node) (first : memory_scalar.Scalar) → IsConsistent old → TakesNone old.control.task
    → Found old mid node first (X.Enter part O.Second) → (waits : IsInnermost old top (part_in (table_of old) node) S.First) → waiting (part_in (table_of old) node) ≡ steps.First (part_in (table_of old) node)
    → NodeStands (table_of old) node → Waits node → ScalarStands (table_of old) first → NextStands (table_of old) (X.Enter part O.Second) → (IsBehindFirst node → NextFinds (table_of old) node (X.Enter part O.Second))
    → Becomes (record old { store = mid }) new (record { node = part; task = K.Enter }) (record { node = node; stage = S.Second first } ∷ waits.others)
    → (state : State) → At (around_run old) old.store old.base state → Arrives new (taking old (waiting (part_in (table_of old) node)) (ScalarGiven (scalar_in (table_of old) first))) state
first-second old new mid top node (N.Value v) first holds free found waits is stands fits staged entered finds becomes =
    entered-staged old new mid top node (N.Value v) first O.Second (S.Second first) holds free found waits is (λ awaits. awaits) finds stands tt fits staged tt entered tt refl becomes
first-second old new mid top node _ first holds free found waits is stands fits staged entered finds becomes = absurd entered

pub first-right : (old new : RefRun) (mid : Store) (top : ℕ) (node part : memory_node.Node) (first : memory_scalar.Scalar) → IsConsistent old → TakesNone old.control.task
    → Found old mid node first (X.Enter part O.Right) → (waits : IsInnermost old top (part_in (table_of old) node) S.First) → waiting (part_in (table_of old) node) ≡ steps.First (part_in (table_of old) node)
    → NodeStands (table_of old) node → NextStands (table_of old) (X.Enter part O.Right) → (IsBehindFirst node → NextFinds (table_of old) node (X.Enter part O.Right))
    → Becomes (record old { store = mid }) new (record { node = part; task = K.Enter }) (record { node = node; stage = S.Right } ∷ waits.others)
    → (state : State) → At (around_run old) old.store old.base state → Arrives new (taking old (waiting (part_in (table_of old) node)) (ScalarGiven (scalar_in (table_of old) first))) state
first-right old new mid top node (N.Value v) first holds free found waits is stands entered finds becomes =
    entered-staged old new mid top node (N.Value v) first O.Right S.Right holds free found waits is (λ awaits. awaits) finds stands tt tt tt tt entered tt refl becomes
first-right old new mid top node _ first holds free found waits is stands entered finds becomes = absurd entered

-- or comes to what that comes to
pub first-whole : (old new : RefRun) (mid : Store) (top : ℕ) (node part : memory_node.Node) (first : memory_scalar.Scalar) → IsConsistent old → TakesNone old.control.task
    → Found old mid node first (X.Enter part O.Whole) → (waits : IsInnermost old top (part_in (table_of old) node) S.First) → waiting (part_in (table_of old) node) ≡ steps.First (part_in (table_of old) node)
    → NextStands (table_of old) (X.Enter part O.Whole) → (IsBehindFirst node → NextFinds (table_of old) node (X.Enter part O.Whole)) → Becomes (record old { store = mid }) new (record { node = part; task = K.Enter }) waits.others
    → (state : State) → At (around_run old) old.store old.base state → Arrives new (taking old (waiting (part_in (table_of old) node)) (ScalarGiven (scalar_in (table_of old) first))) state
first-whole old new mid top node (N.Value v) first holds free found waits is entered finds becomes state at =
    let next : Control = record { node = N.Value v; task = K.Enter } in
    let this = part_in (table_of old) node in
    let a = scalar_in (table_of old) first in
    let alters = stored-alters old new mid next waits.others found.types found.locals holds becomes in
    subst (λ frame. Arrives new (taking old frame (ScalarGiven a)) state) (sym is)
    (arrives-behind old new mid (parts.next_of (around_run old) this a) (λ behind. give (steps.goes (around_run old) (functions_of old) this a behind (popped (config_in old)))) (next_in (table_of old) (X.Enter (N.Value v) O.Whole)) state
    alters.kept becomes.store becomes.base
    (ap (λ c. give c) (sym (done-config old new next top this S.First waits alters free tt tt holds)))
    (done-holds old new next top this S.First waits alters free tt tt holds (λ awaits. absurd (finds (same-first (table_of old) waits.node node waits.is ((behind-found old top this S.First waits holds).0 awaits)))) entered tt (found.comes holds.state holds.at).after
    (subst (λ s. At (around_run old) s old.base (found.comes holds.state holds.at).after) (sym becomes.store) (found.comes holds.state holds.at).at))
    (found.comes state at))
first-whole old new mid top node _ first holds free found waits is entered finds becomes state at = absurd entered

-- ---- the second operand, and the right one

pub second-given : (old new : RefRun) (mid : Store) (top : ℕ) (node : memory_node.Node) (first second value : memory_scalar.Scalar) (given : Given) → IsConsistent old → TakesNone old.control.task
    → mid.types ≡ old.store.types → mid.locals ≡ old.store.locals → (waits : IsInnermost old top (part_in (table_of old) node) (S.Second first)) → scalar_in (table_of old) second ≡ steps.scalar_of given → ScalarStands (table_of old) value → (IsBehindBoth node → PointsToElement (table_of old) value)
    → ((state : State) → At (around_run old) old.store old.base state
    → Comes (around_run old) mid old.base (parts.both_of (around_run old) (part_in (table_of old) node) (scalar_in (table_of old) first) (scalar_in (table_of old) second)) state (scalar_in (table_of old) value))
    → Becomes (record old { store = mid }) new (record { node = old.control.node; task = K.Give (G.Scalar value) }) waits.others
    → (state : State) → At (around_run old) old.store old.base state → Arrives new (taking old (innermost old (part_in (table_of old) node) (S.Second first)) given) state
second-given old new mid top node first second value given holds free types locals waits is stands finds comes becomes state at =
    let next : Control = record { node = old.control.node; task = K.Give (G.Scalar value) } in
    let this = part_in (table_of old) node in
    let a = scalar_in (table_of old) first in
    let alters = stored-alters old new mid next waits.others types locals holds becomes in
    subst (λ b. Arrives new (parts.both_of (around_run old) this a b >>= λ c. give (steps.came (around_run old) (functions_of old) (ScalarGiven c) (popped (config_in old)))) state) is
    (arrives-behind old new mid (parts.both_of (around_run old) this a (scalar_in (table_of old) second)) (λ c. give (steps.came (around_run old) (functions_of old) (ScalarGiven c) (popped (config_in old)))) (scalar_in (table_of old) value) state
    alters.kept becomes.store becomes.base
    (ap (λ c. give c) (sym (done-config old new next top this (S.Second first) waits alters free tt tt holds)))
    (done-holds old new next top this (S.Second first) waits alters free tt tt holds (λ awaits. finds (same-both (table_of old) waits.node node waits.is ((behind-found old top this (S.Second first) waits holds).0 awaits))) holds.node stands (comes holds.state holds.at).after
    (subst (λ s. At (around_run old) s old.base (comes holds.state holds.at).after) (sym becomes.store) (comes holds.state holds.at).at))
    (comes state at))

-- the innermost comes to this
pub done-arrives : (old new : RefRun) (top : ℕ) (part : Part) (stage : memory_stage.Stage) (given : memory_given.Given) → IsConsistent old → TakesNone old.control.task → IsPlain stage → (waits : IsInnermost old top part stage)
    → (FindsAt waits.node stage → ⊥) → GivenStands (table_of old) given → Becomes old new (record { node = old.control.node; task = K.Give given }) waits.others
    → (state : State) → At (around_run old) old.store old.base state → Arrives new (give (steps.came (around_run old) (functions_of old) (given_in (table_of old) given) (popped (config_in old)))) state
done-arrives old new top part stage given holds free plain waits unfound stands becomes state at =
    let next : Control = record { node = old.control.node; task = K.Give given } in
    let alters = becomes-alters old new next waits.others holds becomes in
    becomes-arrives old new next waits.others (steps.came (around_run old) (functions_of old) (given_in (table_of old) given) (popped (config_in old))) becomes
    (done-config old new next top part stage waits alters free tt plain holds)
    (done-holds old new next top part stage waits alters free tt plain holds (λ awaits. absurd (unfound ((behind-found old top part stage waits holds).0 awaits))) holds.node stands holds.state (subst (λ s. At (around_run old) s old.base holds.state) (sym becomes.store) holds.at)) state at

-- where a call on the store stops

pub first-stops : (old : RefRun) (mid : Store) (node : memory_node.Node) (first : memory_scalar.Scalar) (stop : Stop) (result : Result (Unit {0}) Halt) → IsErrAnd result (λ e. e ≡ halt_of stop) → IsConsistent old → mid.types ≡ old.store.types → mid.locals ≡ old.store.locals
    → waiting (part_in (table_of old) node) ≡ steps.First (part_in (table_of old) node)
    → CallGives (around_run old) old.store mid old.base (next_in (table_of old)) (parts.next_of (around_run old) (part_in (table_of old) node) (scalar_in (table_of old) first)) (Err stop)
    → Moves old (record old { store = mid }) (taking old (waiting (part_in (table_of old) node)) (ScalarGiven (scalar_in (table_of old) first))) result
first-stops old mid node first stop (Ok done) same holds types locals is gives = absurd same
first-stops old mid node first stop (Err halt) same holds types locals is gives =
    subst (λ h. Moves {A = Unit {0}} old (record old { store = mid }) (taking old (waiting (part_in (table_of old) node)) (ScalarGiven (scalar_in (table_of old) first))) (Err h)) (sym same)
    (subst (λ frame. Moves {A = Unit {0}} old (record old { store = mid }) (taking old frame (ScalarGiven (scalar_in (table_of old) first))) (Err (halt_of stop))) (sym is)
    (stops (Unit {0}) old mid (next_in (table_of old)) (parts.next_of (around_run old) (part_in (table_of old) node) (scalar_in (table_of old) first))
    (λ behind. give (steps.goes (around_run old) (functions_of old) (part_in (table_of old) node) (scalar_in (table_of old) first) behind (popped (config_in old)))) stop types locals holds gives))

pub second-stops : (old : RefRun) (mid : Store) (node : memory_node.Node) (first second : memory_scalar.Scalar) (given : Given) (stop : Stop) (result : Result (Unit {0}) Halt) → IsErrAnd result (λ e. e ≡ halt_of stop) → IsConsistent old → mid.types ≡ old.store.types → mid.locals ≡ old.store.locals
    → scalar_in (table_of old) second ≡ steps.scalar_of given
    → CallGives (around_run old) old.store mid old.base (scalar_in (table_of old)) (parts.both_of (around_run old) (part_in (table_of old) node) (scalar_in (table_of old) first) (scalar_in (table_of old) second)) (Err stop)
    → Moves old (record old { store = mid }) (taking old (innermost old (part_in (table_of old) node) (S.Second first)) given) result
second-stops old mid node first second given stop (Ok done) same holds types locals is gives = absurd same
second-stops old mid node first second given stop (Err halt) same holds types locals is gives =
    subst (λ h. Moves {A = Unit {0}} old (record old { store = mid }) (taking old (innermost old (part_in (table_of old) node) (S.Second first)) given) (Err h)) (sym same)
    (stops (Unit {0}) old mid (scalar_in (table_of old)) (parts.both_of (around_run old) (part_in (table_of old) node) (scalar_in (table_of old) first) (steps.scalar_of given))
    (λ c. give (steps.came (around_run old) (functions_of old) (ScalarGiven c) (popped (config_in old)))) stop types locals holds
    (subst (λ b. CallGives (around_run old) old.store mid old.base (scalar_in (table_of old)) (parts.both_of (around_run old) (part_in (table_of old) node) (scalar_in (table_of old) first) b) (Err stop)) is gives))

-- ---- what the innermost takes

take-innermost : (old : RefRun) (frame : Frame) (frames : List Frame) (given : Given) (config : Config) → config.frames ≡ frame ∷ frames
    → steps.take_first (around_run old) (functions_of old) config.frames given config ≡ steps.take (around_run old) (functions_of old) frame given (popped config)
take-innermost old frame frames given config is =
    ap (λ all. steps.take_first (around_run old) (functions_of old) all given config) is
    ∙ sym (ap (λ all. steps.take (around_run old) (functions_of old) frame given (record config { frames = without_first all })) is)

pub acting-takes : (run : RefRun) (top : ℕ) (part : Part) (stage : memory_stage.Stage) (given : memory_given.Given) → run.control.task ≡ K.Give given → TakesNone run.control.task → IsInnermost run top part stage
    → acting run ≡ taking run (innermost run part stage) (given_in (table_of run) given)
acting-takes run top part stage given task free waits =
    ap (λ t. units.act (around_run run) (functions_of run) (task_in (table_of run) (operands_of run) (part_in (table_of run) run.control.node) t) (config_in run)) task
    ∙ take-innermost run (innermost run part stage) (behind_frames run stage waits.others) (given_in (table_of run) given) (config_in run) (innermost-frames run top part stage free waits)
