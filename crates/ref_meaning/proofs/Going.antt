-- How a run goes on, step by step.
use Rattle.std.proofs.Common.{◌≡◌, ℕ, suc, ◌+◌, ◌-◌, ◌<◌, ◌≤◌, Bool, true, false, List, ◌++◌, Option, Some, None, is_some, Result, Ok, Err, inl, inr, ◌⊎◌, refl, sym, ap, subst, ◌∙◌, arith}
use Rattle.std.proofs.lemmas.Bool.{false≢true, cases_lt}
use Rattle.std.specs.Int.{from_bool}
use Rattle.c_typed.specs.declared.typed.LibraryFunction.{LibraryFunction}
use Rattle.run_theory.specs.Runs.{Final, Trace, Going, Over, IsGoing, output_of}
use Rattle.ref_semantics.specs.Store.{State, ◌>>=◌, continue_with}
use Rattle.ref_semantics.specs.First.{around_of}
use Rattle.c_typed.specs.DefinitionViews.{program_of}
use Rattle.ref_semantics.specs.Steps.{Config, goes_on, task_then, resume}
use Rattle.ref_semantics.specs.Units.{takes_unit}
use Rattle.ref_semantics.proofs.Spending.{goes-spending, goes-nowhere, goes-freely}
use Rattle.ref_meaning.specs.RefStore.Holding.{left}
use Rattle.ref_meaning.specs.declared.control.Final as memory_final
use Rattle.ref_meaning.specs.declared.control.Final.TheVariants as F
use Rattle.ref_meaning.specs.declared.control.Task as memory_task
use Rattle.ref_meaning.specs.declared.control.Task.TheVariants as K
use Rattle.ref_meaning.specs.declared.run.Halt.{Halt}
use Rattle.ref_meaning.specs.declared.run.Halt.TheVariants as H
use Rattle.ref_meaning.specs.declared.run.RefEnd.{RefEnd}
use Rattle.ref_meaning.specs.declared.run.RefEnd.TheVariants as E
use Rattle.ref_meaning.specs.declared.run.RefRun.{RefRun}
use Rattle.ref_meaning.specs.Views.{table_of, operands_of, part_in, task_in, config_in, around_run, functions_of, final_of}
use Rattle.ref_meaning.specs.Holding.{IsConsistent}
use Rattle.ref_meaning.specs.Doing.{acting, takes}
use Rattle.ref_meaning.specs.Moving.{IsKept, IsTold, IsOverTold, StaysTold, Acts}
use Rattle.ref_meaning.specs.Promises.{IsCallOf, CallsNext}
use Rattle.ref_meaning.specs.Running.{Reached, reached, Behaviour, answers, StandsFor, Ends, GoesOn, BreaksOff, RunAnswers, SpendsNeeded, end_in, answer_of, halted, spent_at, IsHalted, IsConsistentUnlessOver}

-- Of so many units some are left, and the run goes on behind the others; with fewer than these it was going.
pub record Goes (first now : RefRun) (behaviour : Behaviour) (base input : List ℕ) (steps units : ℕ) (is_left written : Option (List ℕ)) : Type 0 where
  pub done : ℕ
  pub split : done + units ≡ steps
  pub counted : now.spent ≡ first.spent + done
  pub goes_on : GoesOn now behaviour base input done is_left written
  pub before : (fewer : ℕ) → fewer < done → IsGoing (behaviour input fewer).answer

abbrev at-end : Final → Trace → List ℕ → Reached
at-end final trace rest = record { answer = Over final trace; unread = rest }

none-below : (n : ℕ) → n < 0 → ⊥
none-below n h = omega (arith, h)

plus-none : (n : ℕ) → 0 + n ≡ n
plus-none n = omega arith

pub goes-first : (run : RefRun) (behaviour : Behaviour) (written base input : List ℕ) (steps : ℕ) (is_left out : Option (List ℕ)) → StandsFor run written behaviour → is_left ≡ Some input → out ≡ Some (base ++ written)
    → Goes run run behaviour base input steps steps is_left out
goes-first run behaviour written base input steps is_left out stands told out_is = record {
  done = 0;
  split = plus-none steps;
  counted = omega arith;
  goes_on = record { later = behaviour; front = written; rest = input; stands = stands; follows = λ units. ap (behaviour input) (plus-none units); told = told; out = out_is };
  before = λ fewer h. absurd (none-below fewer h);
}

-- ---- what is left to do, by the units

abbrev pub with_unit : Bool → ℕ → ℕ
with_unit true n = suc n
with_unit false n = n

suc-is : (n : ℕ) → suc n ≡ 1 + n
suc-is n = omega arith

unit-plus : (b : Bool) (n : ℕ) → with_unit b n ≡ from_bool b + n
unit-plus true n = suc-is n
unit-plus false n = sym (plus-none n)

unit-behind : (done : ℕ) (b : Bool) (n : ℕ) → done + from_bool b + n ≡ done + with_unit b n
unit-behind done b n = let plus = unit-plus b n in omega (arith, plus)

-- the answer is that of the step and what follows
proceeds : (run : RefRun) (state : State) (rest : List ℕ) (b : Bool) (n : ℕ) → takes_unit (takes run) ≡ b
    → answers run state rest (with_unit b n) ≡ reached ((acting run >>= goes_on (around_run run) (functions_of run)) (left n rest state))
proceeds run state rest true n e = ap reached (goes-spending (around_run run) (functions_of run) (config_in run) (left 0 rest state) n e)
proceeds run state rest false n e = ap reached (goes-freely (around_run run) (functions_of run) (config_in run) (left n rest state) e)

-- ---- ends

abbrev inner : memory_final.Final → Option memory_final.Final → memory_final.Final
inner default (Some one) = one
inner default None = default

is-over : (final : memory_final.Final) (task : memory_task.Task) → end_in task ≡ Some final → task ≡ K.Over final
is-over final (K.Over other) e = ap (λ found. K.Over (inner final found)) e
is-over final _ e = absurd (false≢true (ap is_some e))

over-task : (run : RefRun) (final : memory_final.Final) → end_in run.control.task ≡ Some final → (state : State) → reached (goes_on (around_run run) (functions_of run) (config_in run) state) ≡ at-end (final_of final) state.trace state.input
over-task run final e state =
    let is = is-over final run.control.task e in
    λ i. reached (task_then (around_run run) (functions_of run) (config_in run).depth (task_in (table_of run) (operands_of run) (part_in (table_of run) run.control.node) (is i))
    (resume (around_run run) (functions_of run) (config_in run).depth (config_in run).frames) state)

over-now : (first now : RefRun) (behaviour : Behaviour) (base input : List ℕ) (steps units : ℕ) (is_left written : Option (List ℕ)) (final : memory_final.Final)
    → (goes : Goes first now behaviour base input steps units is_left written) → end_in now.control.task ≡ Some final → (more : ℕ) → behaviour input (goes.done + more) ≡ at-end (final_of final) goes.goes_on.stands.state.trace goes.goes_on.rest
over-now first now behaviour base input steps units is_left written final goes e more =
    let far = goes.goes_on in
    let stands = far.stands in
    far.follows more ∙ (stands.behaves far.rest more ∙ over-task now final e (left more far.rest stands.state))

pub ends-over : (first now : RefRun) (behaviour : Behaviour) (base input : List ℕ) (steps units : ℕ) (is_left written : Option (List ℕ)) (final : memory_final.Final)
    → Goes first now behaviour base input steps units is_left written → end_in now.control.task ≡ Some final → Ends behaviour base input steps (final_of final) is_left written
ends-over first now behaviour base input steps units is_left written final goes e =
    let far = goes.goes_on in
    let stands = far.stands in
    record {
      trace = stands.state.trace;
      rest = far.rest;
      is = ap (behaviour input) (sym goes.split) ∙ over-now first now behaviour base input steps units is_left written final goes e units;
      told = far.told;
      out = far.out ∙ ap (λ front. Some (base ++ front)) (sym stands.front);
    }

-- the units that were spent are those that it needed
pub needed-over : (first now : RefRun) (behaviour : Behaviour) (base input : List ℕ) (steps units : ℕ) (is_left written : Option (List ℕ)) (final : memory_final.Final)
    → Goes first now behaviour base input steps units is_left written → end_in now.control.task ≡ Some final → SpendsNeeded first now behaviour input steps (final_of final)
needed-over first now behaviour base input steps units is_left written final goes e =
    record {
      needed = goes.done;
      within = omega (arith, goes.split);
      counted = goes.counted;
      trace = goes.goes_on.stands.state.trace;
      rest = goes.goes_on.rest;
      over = over-now first now behaviour base input steps units is_left written final goes e;
      going = goes.before;
    }

pub answers-end : (old new : RefRun) (behaviour : Behaviour) (base input : List ℕ) (steps : ℕ) (is_left written : Option (List ℕ)) (final : memory_final.Final)
    → Ends behaviour base input steps (final_of final) is_left written → RunAnswers old new behaviour base input steps (answer_of final) is_left written
answers-end old new behaviour base input steps is_left written (F.Ended status) ends = ends
answers-end old new behaviour base input steps is_left written F.Depth ends = ends
answers-end old new behaviour base input steps is_left written (F.Undefined kind place) ends = ends

-- ---- all units are spent

-- where a unit is needed and none is left
goes-nowhere-now : (now : RefRun) (behaviour : Behaviour) (base input : List ℕ) (done : ℕ) (is_left written : Option (List ℕ)) (far : GoesOn now behaviour base input done is_left written) → takes_unit (takes now) ≡ true
    → behaviour input done ≡ record { answer = Going far.stands.state.trace; unread = far.rest }
goes-nowhere-now now behaviour base input done is_left written far e =
    let stands = far.stands in
    ap (behaviour input) (sym (none-more done)) ∙ (far.follows 0 ∙ (stands.behaves far.rest 0 ∙ ap reached (goes-nowhere (around_run now) (functions_of now) (config_in now) (left 0 far.rest stands.state) e)))
  where
    none-more : (n : ℕ) → n + 0 ≡ n
    none-more n = omega arith

pub spent-all : (first now : RefRun) (behaviour : Behaviour) (base input : List ℕ) (steps units : ℕ) (is_left written : Option (List ℕ))
    → Goes first now behaviour base input steps units is_left written → takes_unit (takes now) ≡ true → units ≡ 0 → RunAnswers first now behaviour base input steps E.StepsSpent is_left written
spent-all first now behaviour base input steps units is_left written goes e none =
    let far = goes.goes_on in
    let stands = far.stands in
    let split : goes.done + 0 ≡ steps = subst (λ n. goes.done + n ≡ steps) none goes.split in
    let all : goes.done ≡ steps = omega (arith, split) in (
      record {
        trace = stands.state.trace;
        rest = far.rest;
        is = ap (behaviour input) (sym all) ∙ goes-nowhere-now now behaviour base input goes.done is_left written far e;
        told = far.told;
        out = far.out ∙ ap (λ front. Some (base ++ front)) (sym stands.front);
        goes_on = subst (λ n. GoesOn now behaviour base input n is_left written) all far;
      },
      goes.counted ∙ ap (λ n. first.spent + n) all,
    )

-- ---- a step

pub respent : (run : RefRun) (n : ℕ) → IsConsistent run → IsConsistent (record run { spent = n })
respent run n holds = record {
  program = holds.program;
  types = holds.types;
  numbered = holds.numbered;
  main = holds.main;
  node = holds.node;
  task = holds.task;
  operands = holds.operands;
  frames = holds.frames;
  found = holds.found;
  within = holds.within;
  calls = holds.calls;
  shallow = holds.shallow;
  state = holds.state;
  at = holds.at;
}

is-told : (base : List ℕ) (rest front : List ℕ) (state : State) (is_left written : Option (List ℕ)) → is_left ≡ Some rest → written ≡ Some (base ++ front) → output_of state.trace ≡ front → IsTold base rest state is_left written
is-told base rest front state is_left written told out is = (told, out ∙ ap (λ bytes. Some (base ++ bytes)) (sym is))

-- with fewer units than those behind a step it was going
goes-before : (first now : RefRun) (behaviour : Behaviour) (base input : List ℕ) (steps units : ℕ) (is_left written : Option (List ℕ)) (b : Bool) (goes : Goes first now behaviour base input steps units is_left written)
    → takes_unit (takes now) ≡ b → (fewer : ℕ) → fewer < goes.done + from_bool b → IsGoing (behaviour input fewer).answer
goes-before first now behaviour base input steps units is_left written false goes e fewer h = goes.before fewer (no-more goes.done h)
  where
    no-more : (n : ℕ) → fewer < n + from_bool false → fewer < n
    no-more n lt = let none : from_bool false ≡ 0 = refl in omega (arith, none, lt)
goes-before first now behaviour base input steps units is_left written true goes e fewer h = by (cases_lt fewer goes.done)
  where
    last : goes.done ≤ fewer → goes.done ≡ fewer
    last le = let one : from_bool true ≡ 1 = refl in omega (arith, one, h, le)

    by : (fewer < goes.done) ⊎ (goes.done ≤ fewer) → IsGoing (behaviour input fewer).answer
    by (inl lt) = goes.before fewer lt
    by (inr le) = subst (λ n. IsGoing (behaviour input n).answer) (last le) (subst (λ (there : Reached). IsGoing there.answer) (sym (goes-nowhere-now now behaviour base input goes.done is_left written goes.goes_on e)) tt)

pub goes-further : (value : Unit {0}) (first old mid : RefRun) (behaviour : Behaviour) (base input : List ℕ) (steps units units' : ℕ) (is_left written left' written' : Option (List ℕ)) (b : Bool)
    → Goes first old behaviour base input steps units is_left written → IsKept old mid → Acts old mid (acting old) (Ok value) is_left written left' written'
    → takes_unit (takes old) ≡ b → units ≡ from_bool b + units' → (spent : ℕ) → spent ≡ mid.spent + from_bool b
    → Goes first (record mid { spent = spent }) behaviour base input steps units' left' written'
goes-further value first old mid behaviour base input steps units units' is_left written left' written' b goes kept acts takes_is rest_is spent spent_is =
    let far = goes.goes_on in
    let stands = far.stands in
    let program = sym kept.program in
    let arrives = acts base far.rest stands.state stands.at (is-told base far.rest far.front stands.state is_left written far.told far.out stands.front) in
    record {
      done = goes.done + from_bool b;
      split = omega (arith, goes.split, rest_is);
      counted = omega (arith, spent_is, kept.spent, goes.counted);
      goes_on = record {
        later = answers mid arrives.after;
        front = output_of arrives.after.trace;
        rest = arrives.rest;
        stands = record {
          holds = respent mid spent arrives.holds;
          state = arrives.after;
          at = arrives.at;
          front = refl;
          behaves = λ input units. refl;
        };
        follows = λ n.
            ap (behaviour input) (unit-behind goes.done b n) ∙ (far.follows (with_unit b n) ∙ (stands.behaves far.rest (with_unit b n) ∙ (proceeds old stands.state far.rest b n takes_is
            ∙ (ap (λ outcome. reached (continue_with (goes_on (around_run old) (functions_of old)) outcome)) (arrives.does n)
            ∙ (λ i. reached (goes_on (around_of (program_of (program i).now)) (program_of (program i).now).functions (config_in mid) (left n arrives.rest arrives.after)))))));
        told = arrives.told.0;
        out = arrives.told.1;
      };
      before = goes-before first old behaviour base input steps units is_left written b goes takes_is;
    }

-- ---- a step that isn't done

-- a step that is an end, and what was left then
over-behind : (first old : RefRun) (behaviour : Behaviour) (base input : List ℕ) (steps units : ℕ) (is_left written left' written' : Option (List ℕ)) (b : Bool) (final : memory_final.Final)
    → (goes : Goes first old behaviour base input steps units is_left written) → (is_over : IsOverTold (acting old) base goes.goes_on.rest goes.goes_on.stands.state (final_of final) left' written')
    → takes_unit (takes old) ≡ b → (n : ℕ) → behaviour input (goes.done + from_bool b + n) ≡ at-end (final_of final) is_over.there.trace is_over.rest
over-behind first old behaviour base input steps units is_left written left' written' b final goes is_over takes_is n =
    let far = goes.goes_on in
    let stands = far.stands in
    ap (behaviour input) (unit-behind goes.done b n) ∙ (far.follows (with_unit b n) ∙ (stands.behaves far.rest (with_unit b n) ∙ (proceeds old stands.state far.rest b n takes_is
    ∙ ap (λ outcome. reached (continue_with (goes_on (around_run old) (functions_of old)) outcome)) (is_over.is n))))

-- so many units were needed
needed-final : (A : Type 0) (old mid first new : RefRun) (behaviour : Behaviour) (base input : List ℕ) (steps units units' : ℕ) (is_left written left' written' : Option (List ℕ)) (b : Bool) (final : memory_final.Final)
    → Goes first old behaviour base input steps units is_left written → IsKept old mid → Acts {A = A} old mid (acting old) (Err (H.Final final)) is_left written left' written'
    → takes_unit (takes old) ≡ b → units ≡ from_bool b + units' → new.spent ≡ mid.spent + from_bool b → SpendsNeeded first new behaviour input steps (final_of final)
needed-final A old mid first new behaviour base input steps units units' is_left written left' written' b final goes kept acts takes_is rest_is spent_is =
    let far = goes.goes_on in
    let stands = far.stands in
    let is_over = acts base far.rest stands.state stands.at (is-told base far.rest far.front stands.state is_left written far.told far.out stands.front) in
    record {
      needed = goes.done + from_bool b;
      within = omega (arith, goes.split, rest_is);
      counted = omega (arith, spent_is, kept.spent, goes.counted);
      trace = is_over.there.trace;
      rest = is_over.rest;
      over = over-behind first old behaviour base input steps units is_left written left' written' b final goes is_over takes_is;
      going = goes-before first old behaviour base input steps units is_left written b goes takes_is;
    }

ends-final : (A : Type 0) (old mid : RefRun) (first : RefRun) (behaviour : Behaviour) (base input : List ℕ) (steps units units' : ℕ) (is_left written left' written' : Option (List ℕ)) (b : Bool) (final : memory_final.Final)
    → Goes first old behaviour base input steps units is_left written → Acts {A = A} old mid (acting old) (Err (H.Final final)) is_left written left' written'
    → takes_unit (takes old) ≡ b → units ≡ from_bool b + units' → Ends behaviour base input steps (final_of final) left' written'
ends-final A old mid first behaviour base input steps units units' is_left written left' written' b final goes acts takes_is rest_is =
    let far = goes.goes_on in
    let stands = far.stands in
    let is_over = acts base far.rest stands.state stands.at (is-told base far.rest far.front stands.state is_left written far.told far.out stands.front) in
    let count : steps ≡ goes.done + from_bool b + units' = omega (arith, goes.split, rest_is) in
    record {
      trace = is_over.there.trace;
      rest = is_over.rest;
      is = ap (behaviour input) count ∙ over-behind first old behaviour base input steps units is_left written left' written' b final goes is_over takes_is units';
      told = is_over.told.0;
      out = is_over.told.1;
    }

stays-on : (old mid first : RefRun) (behaviour : Behaviour) (base input : List ℕ) (steps units : ℕ) (is_left written left' written' : Option (List ℕ))
    → Goes first old behaviour base input steps units is_left written → IsKept old mid → StaysTold old mid is_left written left' written' → BreaksOff first mid behaviour base input steps left' written'
stays-on old mid first behaviour base input steps units is_left written left' written' goes kept told =
    let far = goes.goes_on in
    let stands = far.stands in
    let stays = told.stays in
    let program = sym kept.program in
    let same = sym stays.same in
    record {
      done = goes.done;
      within = omega (arith, goes.split);
      counted = kept.spent ∙ goes.counted;
      goes_on = record {
        later = far.later;
        front = far.front;
        rest = far.rest;
        stands = record {
          holds = stays.holds;
          state = stands.state;
          at = stays.at stands.state stands.at;
          front = stands.front;
          behaves = λ rest units. stands.behaves rest units ∙ (λ i. reached (goes_on (around_of (program_of (program i).now)) (program_of (program i).now).functions (same i) (left units rest stands.state)));
        };
        follows = far.follows;
        told = told.unread ∙ far.told;
        out = told.unwritten ∙ far.out;
      };
    }

pub breaks-off : (first now : RefRun) (behaviour : Behaviour) (base input : List ℕ) (steps units : ℕ) (is_left written : Option (List ℕ))
    → Goes first now behaviour base input steps units is_left written → BreaksOff first now behaviour base input steps is_left written
breaks-off first now behaviour base input steps units is_left written goes = record { done = goes.done; within = omega (arith, goes.split); counted = goes.counted; goes_on = goes.goes_on }

pub answers-halted : (A : Type 0) (first old mid new : RefRun) (behaviour : Behaviour) (base input : List ℕ) (steps units units' : ℕ) (is_left written left' written' : Option (List ℕ)) (b : Bool) (halt : Halt)
    → Goes first old behaviour base input steps units is_left written → IsKept old mid → Acts {A = A} old mid (acting old) (Err halt) is_left written left' written'
    → takes_unit (takes old) ≡ b → units ≡ from_bool b + units' → IsHalted mid halt new
    → RunAnswers first new behaviour base input steps (halted halt) left' written'
answers-halted A first old mid new behaviour base input steps units units' is_left written left' written' b (H.Final final) goes kept acts takes_is rest_is is =
    answers-end first new behaviour base input steps left' written' final (ends-final A old mid first behaviour base input steps units units' is_left written left' written' b final goes acts takes_is rest_is)
answers-halted A first old mid new behaviour base input steps units units' is_left written left' written' b H.ReadFault goes kept acts takes_is rest_is is =
    subst (λ run. BreaksOff first run behaviour base input steps left' written') (sym is) (stays-on old mid first behaviour base input steps units is_left written left' written' goes kept acts)
answers-halted A first old mid new behaviour base input steps units units' is_left written left' written' b H.WriteFault goes kept acts takes_is rest_is is =
    subst (λ run. BreaksOff first run behaviour base input steps left' written') (sym is) (stays-on old mid first behaviour base input steps units is_left written left' written' goes kept acts)
answers-halted A first old mid new behaviour base input steps units units' is_left written left' written' b H.OutOfMemory goes kept acts takes_is rest_is is =
    subst (λ run. BreaksOff first run behaviour base input steps left' written') (sym is) (stays-on old mid first behaviour base input steps units is_left written left' written' goes kept acts)

-- ---- what a turn of the loop needs

pub needs-unit : (b : Bool) (left unit : ℕ) → unit ≡ from_bool b → left < unit → (b ≡ true) × (left ≡ 0)
needs-unit true left unit e lt = let one : unit ≡ 1 = e in (refl, omega (arith, one, lt))
needs-unit false left unit e lt = absurd (none-below left (subst (λ n. left < n) e lt))

pub left-split : (left unit n : ℕ) → unit ≡ n → unit ≤ left → left ≡ n + (left - unit)
left-split left unit n e le = omega (arith, e, le)

-- ---- how an answer tells its end

abbrev final_in : RefEnd → Option memory_final.Final
final_in (E.Ended status) = Some (F.Ended status)
final_in E.Depth = Some F.Depth
final_in (E.Undefined kind place) = Some (F.Undefined kind place)
final_in _ = None

final-told : (final : memory_final.Final) → final_in (answer_of final) ≡ Some final
final-told (F.Ended status) = refl
final-told F.Depth = refl
final-told (F.Undefined kind place) = refl

pub same-final : (one other : memory_final.Final) → answer_of one ≡ answer_of other → one ≡ other
same-final one other e = ap (inner one) (sym (final-told one) ∙ (ap final_in e ∙ final-told other))

pub same-end : (one other : memory_final.Final) → Some one ≡ Some other → one ≡ other
same-end one other e = ap (inner one) e

pub no-final : (end : RefEnd) (final : memory_final.Final) → final_in end ≡ None → end ≡ answer_of final → ⊥
no-final end final none e = false≢true (ap is_some (sym none ∙ (ap final_in e ∙ final-told final)))

-- where a step isn't done and that is an end, it is kept
pub kept-halted : (old new : RefRun) (halt : Halt) (final : memory_final.Final) → IsHalted old halt new → halted halt ≡ answer_of final → end_in new.control.task ≡ Some final
kept-halted old new (H.Final other) final is e = is ∙ ap Some (same-final other final e)
kept-halted old new H.ReadFault final is e = absurd (no-final E.ReadFault final refl e)
kept-halted old new H.WriteFault final is e = absurd (no-final E.WriteFault final refl e)
kept-halted old new H.OutOfMemory final is e = absurd (no-final E.OutOfMemory final refl e)

-- and the units that were spent are those that it needed
pub needed-halted : (A : Type 0) (first old mid new : RefRun) (behaviour : Behaviour) (base input : List ℕ) (steps units units' : ℕ) (is_left written left' written' : Option (List ℕ)) (b : Bool) (halt : Halt) (unit : ℕ) (final : memory_final.Final)
    → Goes first old behaviour base input steps units is_left written → IsKept old mid → Acts {A = A} old mid (acting old) (Err halt) is_left written left' written'
    → takes_unit (takes old) ≡ b → units ≡ from_bool b + units' → new.spent ≡ mid.spent + spent_at halt unit → unit ≡ from_bool b → halted halt ≡ answer_of final
    → SpendsNeeded first new behaviour input steps (final_of final)
needed-halted A first old mid new behaviour base input steps units units' is_left written left' written' b (H.Final other) unit final goes kept acts takes_is rest_is spent_is unit_is e =
    subst (λ end. SpendsNeeded first new behaviour input steps (final_of end)) (same-final other final e)
    (needed-final A old mid first new behaviour base input steps units units' is_left written left' written' b other goes kept acts takes_is rest_is (spent_is ∙ ap (λ n. mid.spent + n) unit_is))
needed-halted A first old mid new behaviour base input steps units units' is_left written left' written' b H.ReadFault unit final goes kept acts takes_is rest_is spent_is unit_is e = absurd (no-final E.ReadFault final refl e)
needed-halted A first old mid new behaviour base input steps units units' is_left written left' written' b H.WriteFault unit final goes kept acts takes_is rest_is spent_is unit_is e = absurd (no-final E.WriteFault final refl e)
needed-halted A first old mid new behaviour base input steps units units' is_left written left' written' b H.OutOfMemory unit final goes kept acts takes_is rest_is spent_is unit_is e = absurd (no-final E.OutOfMemory final refl e)

-- so much is spent at most
pub spent-within : (halt : Halt) (unit : ℕ) → spent_at halt unit ≤ unit
spent-within (H.Final final) unit = omega arith
spent-within H.ReadFault unit = omega arith
spent-within H.WriteFault unit = omega arith
spent-within H.OutOfMemory unit = omega arith

abbrev is_read : RefEnd → Bool
is_read E.ReadFault = true
is_read _ = false

abbrev is_written : RefEnd → Bool
is_written E.WriteFault = true
is_written _ = false

final-read : (final : memory_final.Final) → is_read (answer_of final) ≡ false
final-read (F.Ended status) = refl
final-read F.Depth = refl
final-read (F.Undefined kind place) = refl

final-written : (final : memory_final.Final) → is_written (answer_of final) ≡ false
final-written (F.Ended status) = refl
final-written F.Depth = refl
final-written (F.Undefined kind place) = refl

pub halted-read : (halt : Halt) → halted halt ≡ E.ReadFault → halt ≡ H.ReadFault
halted-read (H.Final final) e = absurd (false≢true (sym (final-read final) ∙ ap is_read e))
halted-read H.ReadFault e = refl
halted-read H.WriteFault e = absurd (false≢true (ap is_read e))
halted-read H.OutOfMemory e = absurd (false≢true (ap is_read e))

pub halted-written : (halt : Halt) → halted halt ≡ E.WriteFault → halt ≡ H.WriteFault
halted-written (H.Final final) e = absurd (false≢true (sym (final-written final) ∙ ap is_written e))
halted-written H.ReadFault e = absurd (false≢true (ap is_written e))
halted-written H.WriteFault e = refl
halted-written H.OutOfMemory e = absurd (false≢true (ap is_written e))

-- behind a step that isn't done
pub halted-unless : (A : Type 0) (old mid new : RefRun) (halt : Halt) (is_left written left' written' : Option (List ℕ)) → Acts {A = A} old mid (acting old) (Err halt) is_left written left' written' → IsHalted mid halt new → IsConsistentUnlessOver new
halted-unless A old mid new (H.Final final) is_left written left' written' acts is = λ none. absurd (false≢true (ap is_some (sym none ∙ is)))
halted-unless A old mid new H.ReadFault is_left written left' written' acts is = λ none. subst IsConsistent (sym is) acts.stays.holds
halted-unless A old mid new H.WriteFault is_left written left' written' acts is = λ none. subst IsConsistent (sym is) acts.stays.holds
halted-unless A old mid new H.OutOfMemory is_left written left' written' acts is = λ none. subst IsConsistent (sym is) acts.stays.holds

-- what is done is no fault
pub done-no-fault : (value : Unit {0}) (halt : Halt) → Ok value ≡ Err halt → ⊥
done-no-fault value halt e = absurd cc

pub same-halt : {A : Type 0} (result : Result A Halt) (one other : Halt) → result ≡ Err one → result ≡ Err other → one ≡ other
same-halt result one other e f = cc

pub no-fault : (end : RefEnd) (fault : RefEnd) → end ≡ E.OutOfMemory → (fault ≡ E.ReadFault) ⊎ (fault ≡ E.WriteFault) → end ≡ fault → ⊥
no-fault end fault e (inl read) f = absurd cc
no-fault end fault e (inr written) f = absurd cc

abbrev IsFault : Halt → Type 0
IsFault H.ReadFault = Unit {0}
IsFault H.WriteFault = Unit {0}
IsFault _ = ⊥

-- what is next stays where a read or a write failed
pub next-halted : (A : Type 0) (old mid new : RefRun) (called : LibraryFunction) (halt : Halt) (is_left written left' written' : Option (List ℕ)) → Acts {A = A} old mid (acting old) (Err halt) is_left written left' written' → IsHalted mid halt new
    → ((halt ≡ H.ReadFault) ⊎ (halt ≡ H.WriteFault)) → CallsNext called old → CallsNext called new
next-halted A old mid new called H.ReadFault is_left written left' written' acts halted faulty next = subst (λ (run : RefRun). CallsNext called run) (sym halted) (subst (λ (config : Config). IsCallOf called config.task) (sym acts.stays.same) next)
next-halted A old mid new called H.WriteFault is_left written left' written' acts halted faulty next = subst (λ (run : RefRun). CallsNext called run) (sym halted) (subst (λ (config : Config). IsCallOf called config.task) (sym acts.stays.same) next)
next-halted A old mid new called H.OutOfMemory is_left written left' written' acts halted (inl e) next = absurd (subst (λ (h : Halt). IsFault h) (sym e) tt)
next-halted A old mid new called H.OutOfMemory is_left written left' written' acts halted (inr e) next = absurd (subst (λ (h : Halt). IsFault h) (sym e) tt)
next-halted A old mid new called (H.Final final) is_left written left' written' acts halted (inl e) next = absurd (subst (λ (h : Halt). IsFault h) (sym e) tt)
next-halted A old mid new called (H.Final final) is_left written left' written' acts halted (inr e) next = absurd (subst (λ (h : Halt). IsFault h) (sym e) tt)
