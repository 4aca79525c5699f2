-- Locals that begin to live and end, part by part: what is marked of them and of the others.
use Rattle.std.proofs.Common.{◌≡◌, ℕ, suc, ◌+◌, ◌≤◌, Bool, false, ◌||◌, List, [], ◌∷◌, ◌++◌, length, take, refl, sym, ap, subst, ◌∙◌, arith, append_assoc, append-nil, length-append}
use Rattle.std.proofs.lemmas.List.{take_all, take-take, take_at, length-take, length_push}
use Rattle.c_typed.specs.Typed as T
use Rattle.c_typed.specs.Typed.{Stmt, LocalDef, ForStart, Value}
use Rattle.std.specs.Prelude.{Option}
use Rattle.tac_build.specs.declared.addressed.Search.{Search}
use Rattle.tac_build.specs.Homes.{takes_optional, takes_first, takes_start, takes_stmt}
use Rattle.tac_build.specs.Taken.{taken_locals, taken_start, taken_stmt, taken_in_turns, depth_behind}
use Rattle.tac_build.specs.Marks.{marked, Marks, Within, Opens, Begins, Declares, Starts, Passes, PassesStmt}
use Rattle.tac_build.proofs.Marking.{or_no, or_more, marked_twice, marked_none, length_marked, marked_append, marked_new, within_more, within_push}

-- ---- one after another

kept_then : (old mid new : List ℕ) → take (length old) mid ≡ old → take (length mid) new ≡ mid → take (length old) new ≡ old
kept_then old mid new h k =
    let less : length old ≤ length mid = omega (arith, ap length h, length-take (length old) mid) in
    sym (take-take (length old) (length mid) new less) ∙ ap (λ places. take (length old) places) k ∙ h

pub opens_then : (old mid new : Search) (near far : ℕ) (f g : ℕ → Bool) (d e : (ℕ → Bool) → List Bool)
    → Begins old mid near f d → Begins mid new far g e → Begins old new far (λ n. f n || g n) (λ later. d (λ n. g n || later n) ++ e later)
opens_then old mid new near far f g d e first second w =
    let h = first w in
    let k = second h.within in
    record {
      kept = kept_then old.scope.items mid.scope.items new.scope.items h.kept k.kept;
      reached = k.reached;
      within = k.within;
      flags = λ later.
          k.flags later
          ∙ ap (λ flags. flags ++ e later) (h.flags (λ n. g n || later n))
          ∙ append_assoc (marked old.scope.items (λ n. f n || (g n || later n)) old.flags.items) (d (λ n. g n || later n)) (e later)
          ∙ (λ i. marked old.scope.items (λ n. sym (or_more (f n) (g n) (later n)) i) old.flags.items ++ (d (λ n. g n || later n) ++ e later));
    }

-- what ends with the scope in which it began
pub ends : (old new : Search) (f : ℕ → Bool) (added : List Bool) → new.scope.items ≡ old.scope.items → new.flags.items ≡ marked old.scope.items f old.flags.items ++ added
    → Begins old new (length old.scope.items) f (λ later. added)
ends old new f added scope flags w =
    let done = marked old.scope.items f old.flags.items in
    let long : length done ≡ length old.flags.items = length_marked old.scope.items f old.flags.items in
    let among : Within old.scope.items (length done) = subst (λ n. Within old.scope.items n) (sym long) w in
    record {
      kept = ap (λ places. take (length old.scope.items) places) scope ∙ take_all (length old.scope.items) old.scope.items (omega arith);
      reached = ap length scope;
      within = subst (λ places. Within places (length new.flags.items)) (sym scope) (within_more old.scope.items (length done) (length new.flags.items) among (omega (arith, ap length flags, length-append done added)));
      flags = λ later.
          (λ i. marked (scope i) later (flags i))
          ∙ marked_append old.scope.items later done added among
          ∙ ap (λ flags. flags ++ added) (marked_twice old.scope.items f later old.flags.items);
    }

pub passes_marks : (old new : Search) (f : ℕ → Bool) → Marks old new f → Passes old new f (λ depth. [])
passes_marks old new f h = ends old new f [] h.scope (h.flags ∙ sym (append-nil (marked old.scope.items f old.flags.items)))

pub passes_then : (old mid new : Search) (f g : ℕ → Bool) (s t : ℕ → List Bool) → Passes old mid f s → Passes mid new g t → Passes old new (λ n. f n || g n) (λ depth. s depth ++ t depth)
passes_then old mid new f g s t first second w =
    let here = length old.scope.items in
    let mids = length mid.scope.items in
    subst (λ depth. Opens old new depth (λ n. f n || g n) (λ later. s here ++ t depth)) (first w).reached
    (opens_then old mid new here mids f g (λ later. s here) (λ later. t mids) first second w)

pub passes_marked : (old mid new : Search) (f g : ℕ → Bool) (s : ℕ → List Bool) → Passes old mid f s → Marks mid new g → Passes old new (λ n. f n || g n) s
passes_marked old mid new f g s first second w =
    let here = length old.scope.items in
    subst (λ added. Opens old new here (λ n. f n || g n) (λ later. added)) (append-nil (s here))
    (passes_then old mid new f g s (λ depth. []) first (passes_marks mid new g second) w)

-- the locals that began to live end
pub closes : (old mid new : Search) (depth : ℕ) (f : ℕ → Bool) (d : (ℕ → Bool) → List Bool) → Begins old mid depth f d
    → new.scope.items ≡ take (length old.scope.items) mid.scope.items → new.flags.items ≡ mid.flags.items
    → Begins old new (length old.scope.items) f (λ later. d (λ n. false))
closes old mid new depth f d begins scope flags w =
    let h = begins w in
    ends old new f (d (λ n. false)) (scope ∙ h.kept)
    (flags ∙ sym (marked_none mid.scope.items mid.flags.items) ∙ h.flags (λ n. false) ∙ (λ i. marked old.scope.items (λ n. or_no (f n) i) old.flags.items ++ d (λ n. false)))
    w

-- ---- declarations

fresh : (old new : Search) → new.flags.items ≡ old.flags.items ++ false ∷ [] → new.scope.items ≡ old.scope.items ++ length old.flags.items ∷ []
    → Begins old new (suc (length old.scope.items)) (λ n. false) (λ later. later (length old.scope.items) ∷ [])
fresh old new flags scope w =
    let places = old.scope.items in
    let count = length old.flags.items in
    let more : length (old.flags.items ++ false ∷ []) ≡ count + 1 = length_push old.flags.items false in
    record {
      kept = ap (λ places. take (length old.scope.items) places) scope ∙ take_at places (count ∷ []) (length places) refl;
      reached = ap length scope ∙ omega (arith, length_push places count);
      within =
          subst (λ places. Within places (length new.flags.items)) (sym scope)
          (subst (λ flags. Within (places ++ count ∷ []) (length flags)) (sym flags)
          (within_push places count (length (old.flags.items ++ false ∷ [])) (within_more places count (length (old.flags.items ++ false ∷ [])) w (omega (arith, more))) (omega (arith, more))));
      flags = λ later. (λ i. marked (scope i) later (flags i)) ∙ marked_new places later old.flags.items false w;
    }

pub declares : (old mid new : Search) (local : LocalDef) → mid.flags.items ≡ old.flags.items ++ false ∷ [] → mid.scope.items ≡ old.scope.items ++ length old.flags.items ∷ []
    → Marks mid new (λ n. takes_optional n local.first) → Declares old new local
declares old mid new local flags scope marks w =
    let here = length old.scope.items in
    let first : ℕ → Bool = λ n. takes_optional n local.first in
    subst (λ depth. Opens old new depth first (λ later. (first here || later here) ∷ [])) (fresh old mid flags scope w).reached
    (opens_then old mid new (suc here) (length mid.scope.items) (λ n. false) first (λ later. later here ∷ []) (λ later. []) (fresh old mid flags scope) (passes_marks mid new first marks) w)

-- a `for`
pub for_passes : (old first second third fourth new : Search) (start : ForStart) (condition step : Option Value) (body : Stmt)
    → Starts old first start → Marks first second (λ n. takes_optional n condition) → Marks second third (λ n. takes_optional n step) → PassesStmt third fourth body
    → new.scope.items ≡ take (length old.scope.items) fourth.scope.items → new.flags.items ≡ fourth.flags.items
    → PassesStmt old new (T.For start condition step body)
for_passes old first second third fourth new start condition step body starts tests steps turns scope flags w =
    let here = length old.scope.items in
    let inside = length first.scope.items in
    let turn : ℕ → Bool = taken_in_turns condition step body in
    let begun : ℕ → Bool = λ n. takes_start n start in
    let turned : Passes first fourth turn (λ depth. taken_stmt depth body)
    = passes_then first second fourth (λ n. takes_optional n condition) (λ n. takes_optional n step || takes_stmt n body) (λ depth. []) (λ depth. taken_stmt depth body) (passes_marks first second _ tests)
    (passes_then second third fourth (λ n. takes_optional n step) (λ n. takes_stmt n body) (λ depth. []) (λ depth. taken_stmt depth body) (passes_marks second third _ steps) turns) in
    let all = opens_then old first fourth (depth_behind here start) inside begun turn (λ later. taken_start here later start) (λ later. taken_stmt inside body) starts turned in
    let done = closes old fourth new inside (λ n. begun n || turn n) (λ later. taken_start here (λ n. turn n || later n) start ++ taken_stmt inside body) all scope flags w in
    subst (λ depth. Opens old new here (λ n. begun n || turn n) (λ later. taken_start here turn start ++ taken_stmt depth body)) (starts w).reached
    (subst (λ f. Opens old new here (λ n. begun n || turn n) (λ later. taken_start here f start ++ taken_stmt inside body)) (λ i. λ n. or_no (turn n) i) done)

-- ---- what is left of a list, behind what was passed so far

pub record Left (old now : Search) (f : ℕ → Bool) (added whole : List Bool) : Type 0 where
  pub kept : take (length old.scope.items) now.scope.items ≡ old.scope.items
  pub within : Within now.scope.items (length now.flags.items)
  pub flags : marked now.scope.items f now.flags.items ++ added ≡ whole

pub left_first : (old : Search) (f : ℕ → Bool) (added : List Bool) → Within old.scope.items (length old.flags.items) → Left old old f added (marked old.scope.items f old.flags.items ++ added)
left_first old f added w = record { kept = take_all (length old.scope.items) old.scope.items (omega arith); within = w; flags = refl }

pub left_more : (old now next : Search) (depth : ℕ) (one rest : ℕ → Bool) (d : (ℕ → Bool) → List Bool) (added : ℕ → List Bool) (whole : List Bool)
    → Left old now (λ n. one n || rest n) (d rest ++ added depth) whole → Begins now next depth one d → Left old next rest (added (length next.scope.items)) whole
left_more old now next depth one rest d added whole h begins =
    let k = begins h.within in
    record {
      kept = kept_then old.scope.items now.scope.items next.scope.items h.kept k.kept;
      within = k.within;
      flags =
          (λ i. k.flags rest i ++ added (k.reached i))
          ∙ append_assoc (marked now.scope.items (λ n. one n || rest n) now.flags.items) (d rest) (added depth)
          ∙ h.flags;
    }

pub left_end : (old now new : Search) (f : ℕ → Bool) (added : List Bool)
    → (Within old.scope.items (length old.flags.items) → Left old now (λ n. false) [] (marked old.scope.items f old.flags.items ++ added))
    → new.scope.items ≡ take (length old.scope.items) now.scope.items → new.flags.items ≡ now.flags.items
    → Begins old new (length old.scope.items) f (λ later. added)
left_end old now new f added left scope flags w =
    let h = left w in
    ends old new f added (scope ∙ h.kept)
    (flags ∙ sym (append-nil (marked now.scope.items (λ n. false) now.flags.items) ∙ marked_none now.scope.items now.flags.items) ∙ h.flags) w

-- locals of one declaration
pub record LeftLocals (old now : Search) (left all : List LocalDef) : Type 0 where
  pub depth : length left + length now.scope.items ≡ length all + length old.scope.items
  pub flags : (later : ℕ → Bool) → Left old now (λ n. takes_first n left || later n) (taken_locals (length now.scope.items) later left)
      (marked old.scope.items (λ n. takes_first n all || later n) old.flags.items ++ taken_locals (length old.scope.items) later all)

pub locals_first : (old : Search) (all : List LocalDef) → Within old.scope.items (length old.flags.items) → LeftLocals old old all all
locals_first old all w = record {
  depth = refl;
  flags = λ later. left_first old (λ n. takes_first n all || later n) (taken_locals (length old.scope.items) later all) w;
}

pub locals_more : (old now next : Search) (local : LocalDef) (others all : List LocalDef) → LeftLocals old now (local ∷ others) all → Declares now next local → LeftLocals old next others all
locals_more old now next local others all h begins =
    let here = length now.scope.items in
    let one : ℕ → Bool = λ n. takes_optional n local.first in
    record {
      depth = let reached = (begins (h.flags (λ n. false)).within).reached in omega (arith, reached, h.depth);
      flags = λ later.
          left_more old now next (suc here) one (λ n. takes_first n others || later n) (λ later. (one here || later here) ∷ []) (λ depth. taken_locals depth later others)
          (marked old.scope.items (λ n. takes_first n all || later n) old.flags.items ++ taken_locals (length old.scope.items) later all)
          (subst (λ f. Left old now f (f here ∷ taken_locals (suc here) later others) (marked old.scope.items (λ n. takes_first n all || later n) old.flags.items ++ taken_locals (length old.scope.items) later all))
          (λ i. λ n. or_more (one n) (takes_first n others) (later n) i) (h.flags later))
          begins;
    }

pub locals_end : (old now : Search) (all : List LocalDef) → (Within old.scope.items (length old.flags.items) → LeftLocals old now [] all) → Starts old now (T.StartLocals all)
locals_end old now all left w =
    let h = left w in
    let depth : length now.scope.items ≡ length all + length old.scope.items = omega (arith, h.depth) in
    record {
      kept = (h.flags (λ n. false)).kept;
      reached = depth;
      within = (h.flags (λ n. false)).within;
      flags = λ later. sym (append-nil (marked now.scope.items later now.flags.items)) ∙ (h.flags later).flags;
    }
