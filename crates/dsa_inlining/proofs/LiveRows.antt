-- The functions from which something escapes, as groups are added.
use Rattle.std.proofs.Common.{◌≡◌, ℕ, zero, suc, ◌+◌, ◌<◌, ◌⊎◌, ◌==◌, ◌&&◌, Bool, true, false, if◌then◌else◌, List, [], ◌∷◌, ◌++◌, length, drop, get_or, add-one, append_assoc, append-nil, Option, Some, None, unwrap_or, option_map, inl, inr, refl, sym, ap, subst, ◌∙◌, arith, eqb-true, eq-eqb}
use Rattle.std.specs.Prelude.{slice_get, vec_items}
use Rattle.std.proofs.lemmas.Bool.{false≢true, true≢false, and_parts, and_from, cases_eq, cases_lt}
use Rattle.std.proofs.lemmas.Option.{slice_get_past}
use Rattle.tac_ir.specs.declared.program.Tac as memory_tac
use Rattle.tac_ir.specs.declared.register.FunctionId.{FunctionId}
use Rattle.tac_ir.specs.declared.register.Register.{Register}
use Rattle.c_typed.specs.Types.{CType}
use Rattle.tac_ir.specs.Code.{Known, Through}
use Rattle.tac_ir.specs.Views.{tac_of}
use Rattle.tac_ir.specs.Targets.{is_target}
use Rattle.call_graph.specs.ClassLists.{numbers_of}
use Rattle.call_graph.specs.TargetLists.{IsFirstTarget}
use Rattle.call_graph.specs.RowLists.{Has}
use Rattle.call_graph.specs.Rows.{row_at, with_edge, AreRows}
use Rattle.call_graph.proofs.RowLists.{in_front, in_back, in_either, some_at}
use Rattle.dsa_inlining.specs.declared.live.LiveTargets.{LiveTargets}
use Rattle.dsa_inlining.specs.Before.{GraphsBefore, is_some_list, is_listed, is_live}
use Rattle.dsa_inlining.specs.Live.{IsOnce, class_from, class_in, AreClassesOf, row_in, AreNoneLive, AddsTo, AddsLive, is_class, live_among, AddsMembers, AreLive, AreLiveTargets}
use Rattle.dsa_inlining.proofs.LiveClasses.{classes_same}

-- ---- lists

has_or : (number : ℕ) (numbers : List ℕ) → Has numbers number ⊎ (Has numbers number → ⊥)
has_or number [] = inr (λ has. has)
has_or number (first ∷ numbers) = by (cases_eq number first) (has_or number numbers)
  where
    by : (number ≡ first) ⊎ (number ≡ first → ⊥) → Has numbers number ⊎ (Has numbers number → ⊥) → Has (first ∷ numbers) number ⊎ (Has (first ∷ numbers) number → ⊥)
    by (inl same) rest = inl (inl same)
    by (inr apart) (inl has) = inl (inr has)
    by (inr apart) (inr none) = inr (λ has. elim has [ inl same ↦ apart same | inr later ↦ none later ])

once_both : (a b : List ℕ) → IsOnce a → IsOnce b → ((number : ℕ) → Has a number → Has b number → ⊥) → IsOnce (a ++ b)
once_both [] b one other apart = other
once_both (first ∷ a) b one other apart = (
  (λ has. elim (in_either a b first has) [ inl front ↦ one.0 front | inr back ↦ apart first (inl refl) back ]),
  once_both a b one.1 other (λ number here there. apart number (inr here) there),
)

-- the number that is next
pub next_number : (members : List FunctionId) (i : ℕ) → i < length members → drop i (numbers_of members) ≡ (get_or members i (record { 0 = 0 })).0 ∷ drop (i + 1) (numbers_of members)
next_number members i less = dropped members i less ∙ ap (λ n. (get_or members i (record { 0 = 0 })).0 ∷ drop n (numbers_of members)) (sym (add-one i))
  where
    dropped : (members : List FunctionId) (i : ℕ) → i < length members → drop i (numbers_of members) ≡ (get_or members i (record { 0 = 0 })).0 ∷ drop (suc i) (numbers_of members)
    dropped [] i less = absurd (omega (arith, less))
    dropped (first ∷ members) zero less = refl
    dropped (first ∷ members) (suc i) less = dropped members i (omega (arith, less))

-- ---- no function yet

pub none_live : (tac : memory_tac.Tac) (live : LiveTargets) → AreClassesOf tac live → AreRows (length tac.functions.items) [] live.rows → AreNoneLive tac live
none_live tac live classes rows = record { classes = classes; each = rows.each; none = none }
  where
    none : (class : Option ℕ) → row_in live class ≡ []
    none None = refl
    none (Some first) = elim (cases_lt first (length tac.functions.items)) [
      | inl less ↦ ap (λ (r : Option (List ℕ)). unwrap_or r []) (rows.row first less)
      | inr past ↦ ap (λ o. unwrap_or (option_map vec_items o) []) (slice_get_past live.rows.items first (omega (arith, past, rows.each)))
    ]

-- ---- one function more

one_row : (class : Option ℕ) (called first : ℕ) (old new : LiveTargets) → AddsTo class called old new → first < length old.rows.items → row_in new (Some first) ≡ row_in old (Some first) ++ (if is_class class first then called ∷ [] else [])
one_row None called first old new adds less = ap (λ v. unwrap_or (row_at v first) []) adds ∙ sym (append-nil (row_in old (Some first)))
one_row (Some own) called first old new adds less =
    let there = some_at old.rows.items first less in
    let was : row_at old.rows first ≡ Some there.0.items = ap (option_map vec_items) there.1 in
    ap (λ (r : Option (List ℕ)). unwrap_or r []) (adds.row first ∙ ap (option_map (with_edge (own, called) first)) was)
    ∙ (by (own == first) there.0.items ∙ ap (λ (r : Option (List ℕ)). unwrap_or r [] ++ (if own == first then called ∷ [] else [])) (sym was))
  where
    by : (b : Bool) (row : List ℕ) → (if b then row ++ called ∷ [] else row) ≡ row ++ (if b then called ∷ [] else [])
    by true row = refl
    by false row = sym (append-nil row)

adds_each : (class : Option ℕ) (called : ℕ) (old new : LiveTargets) → AddsTo class called old new → length new.rows.items ≡ length old.rows.items
adds_each None called old new adds = ap (λ v. length v.items) adds
adds_each (Some own) called old new adds = adds.each

-- ---- the functions of a group

-- those so far are added
pub record AddsSome (escaping : List (List ℕ)) (members left : List ℕ) (old new : LiveTargets) : Type 0 where
  pub classes : new.classes ≡ old.classes
  pub each : length new.rows.items ≡ length old.rows.items
  pub row : (first : ℕ) → first < length old.rows.items → row_in new (Some first) ++ live_among escaping old first left ≡ row_in old (Some first) ++ live_among escaping old first members

module _ (escaping : List (List ℕ)) (members : List ℕ) where
  pub adds_none : (left : List ℕ) → left ≡ members → (old : LiveTargets) → AddsSome escaping members left old old
  adds_none left is old = record { classes = refl; each = refl; row = λ first less. ap (λ l. row_in old (Some first) ++ live_among escaping old first l) is }

  module _ (start old new : LiveTargets) (left rest : List ℕ) (called : ℕ) (is : left ≡ called ∷ rest) (some : AddsSome escaping members left start old) where
    pub adds_one : is_listed escaping called ≡ true → AddsLive called old new → AddsSome escaping members rest start new
    adds_one listed adds = record {
      classes = adds.classes ∙ some.classes;
      each = adds_each (class_in old called) called old new adds.adds ∙ some.each;
      row = λ first less.
          ap (λ l. l ++ live_among escaping start first rest) (one_row (class_in old called) called first old new adds.adds (omega (arith, less, some.each)))
          ∙ (append_assoc (row_in old (Some first)) (if is_class (class_in old called) first then called ∷ [] else []) (live_among escaping start first rest)
          ∙ (ap (λ l. row_in old (Some first) ++ l) (ap (λ k. (if is_class k first then called ∷ [] else []) ++ live_among escaping start first rest) moved ∙ (by first (is_listed escaping called) listed (is_class (class_in start called) first) ∙ sym (ap (live_among escaping start first) is)))
          ∙ some.row first less));
    }
      where
        moved : class_in old called ≡ class_in start called
        moved = ap (λ v. class_from (slice_get v.items called)) some.classes

        by : (first : ℕ) (l : Bool) → l ≡ true → (b : Bool) → (if b then called ∷ [] else []) ++ live_among escaping start first rest ≡ (if l && b then called ∷ live_among escaping start first rest else live_among escaping start first rest)
        by first true e true = refl
        by first true e false = refl
        by first false e b = absurd (false≢true e)

    pub adds_no : is_listed escaping called ≡ false → new ≡ old → AddsSome escaping members rest start new
    adds_no listed same = record {
      classes = ap (λ (l : LiveTargets). l.classes) same ∙ some.classes;
      each = ap (λ (l : LiveTargets). length l.rows.items) same ∙ some.each;
      row = λ first less.
          ap (λ (l : LiveTargets). row_in l (Some first) ++ live_among escaping start first rest) same
          ∙ (ap (λ l. row_in old (Some first) ++ l) (by first (is_listed escaping called) listed (is_class (class_in start called) first) ∙ sym (ap (live_among escaping start first) is))
          ∙ some.row first less);
    }
      where
        by : (first : ℕ) (l : Bool) → l ≡ false → (b : Bool) → live_among escaping start first rest ≡ (if l && b then called ∷ live_among escaping start first rest else live_among escaping start first rest)
        by first true e b = absurd (true≢false e)
        by first false e b = refl

  pub adds_all : (old new : LiveTargets) (left : List ℕ) → left ≡ [] → AddsSome escaping members left old new → AddsMembers escaping members old new
  adds_all old new left none some = record {
    classes = some.classes;
    each = some.each;
    row = λ first less. sym (append-nil (row_in new (Some first))) ∙ (ap (λ l. row_in new (Some first) ++ live_among escaping old first l) (sym none) ∙ some.row first less);
  }

-- ---- what stands among them

is_class_some : (class : Option ℕ) (first : ℕ) → is_class class first ≡ true → class ≡ Some first
is_class_some None first is = absurd (false≢true is)
is_class_some (Some own) first is = ap Some (eqb-true own first is)

among_is : (escaping : List (List ℕ)) (live : LiveTargets) (first : ℕ) (members : List ℕ) (called : ℕ) → Has (live_among escaping live first members) called
    → Has members called × (class_in live called ≡ Some first) × (is_listed escaping called ≡ true)
among_is escaping live first [] called has = absurd has
among_is escaping live first (member ∷ members) called has = by (is_listed escaping member && is_class (class_in live member) first) refl has (among_is escaping live first members called)
  where
    by : (b : Bool) → (is_listed escaping member && is_class (class_in live member) first) ≡ b → Has (if b then member ∷ live_among escaping live first members else live_among escaping live first members) called
        → (Has (live_among escaping live first members) called → Has members called × (class_in live called ≡ Some first) × (is_listed escaping called ≡ true))
        → Has (member ∷ members) called × (class_in live called ≡ Some first) × (is_listed escaping called ≡ true)
    by true e (inl same) rest =
        let parts = and_parts (is_listed escaping member) (is_class (class_in live member) first) e in
        (inl same, subst (λ n. class_in live n ≡ Some first) (sym same) (is_class_some (class_in live member) first parts.1), subst (λ n. is_listed escaping n ≡ true) (sym same) parts.0)
    by true e (inr later) rest = let its = rest later in (inr its.0, its.1, its.2)
    by false e later rest = let its = rest later in (inr its.0, its.1, its.2)

is_among_too : (escaping : List (List ℕ)) (live : LiveTargets) (first : ℕ) (members : List ℕ) (called : ℕ) → Has members called → class_in live called ≡ Some first → is_listed escaping called ≡ true
    → Has (live_among escaping live first members) called
is_among_too escaping live first [] called has class listed = absurd has
is_among_too escaping live first (member ∷ members) called has class listed =
    by (is_listed escaping member && is_class (class_in live member) first) refl has (λ later. is_among_too escaping live first members called later class listed)
  where
    both : called ≡ member → (is_listed escaping member && is_class (class_in live member) first) ≡ true
    both same =
        and_from (is_listed escaping member) (is_class (class_in live member) first) (subst (λ n. is_listed escaping n ≡ true) same listed)
        (ap (λ c. is_class c first) (subst (λ n. class_in live n ≡ Some first) same class) ∙ eq-eqb first first refl)

    by : (b : Bool) → (is_listed escaping member && is_class (class_in live member) first) ≡ b → Has (member ∷ members) called → (Has members called → Has (live_among escaping live first members) called)
        → Has (if b then member ∷ live_among escaping live first members else live_among escaping live first members) called
    by true e (inl same) rest = inl same
    by true e (inr later) rest = inr (rest later)
    by false e (inl same) rest = absurd (false≢true (sym e ∙ both same))
    by false e (inr later) rest = rest later

among_once : (escaping : List (List ℕ)) (live : LiveTargets) (first : ℕ) (members : List ℕ) → IsOnce members → IsOnce (live_among escaping live first members)
among_once escaping live first [] once = tt
among_once escaping live first (member ∷ members) once = by (is_listed escaping member && is_class (class_in live member) first) (among_once escaping live first members once.1)
  where
    by : (b : Bool) → IsOnce (live_among escaping live first members) → IsOnce (if b then member ∷ live_among escaping live first members else live_among escaping live first members)
    by true rest = ((λ has. once.0 (among_is escaping live first members member has).0), rest)
    by false rest = rest

-- ---- one group more

-- no function has a list that has a number
pub lives_none : (tac : memory_tac.Tac) (escaping : List (List ℕ)) (live : LiveTargets) → AreNoneLive tac live → ((called : ℕ) → is_listed escaping called ≡ false) → AreLive tac escaping live
lives_none tac escaping live none empty = record {
  classes = none.classes;
  each = none.each;
  rows = λ first called less. (
    (λ has. absurd (subst (λ l. Has l called) (none.none (Some first)) has)),
    λ its. absurd (true≢false (sym its.1 ∙ empty called)),
  );
  once = λ first less. subst IsOnce (sym (none.none (Some first))) tt;
}

-- the functions of a group get their lists, where none of them had one
pub lives_more : (tac : memory_tac.Tac) (before after : List (List ℕ)) (members : List ℕ) (old new : LiveTargets) → AreLive tac before old → AddsMembers after members old new
    → ((number : ℕ) → (Has members number → ⊥) → slice_get after number ≡ slice_get before number) → ((number : ℕ) → Has members number → is_listed before number ≡ false) → IsOnce members → AreLive tac after new
lives_more tac before after members old new are adds others waiting once = record {
  classes = classes_same tac old new adds.classes are.classes;
  each = adds.each ∙ are.each;
  rows = λ first called less. (
    (λ has.
        let its = either first called less (in_either (row_in old (Some first)) (live_among after old first members) called (subst (λ l. Has l called) (row first less) has)) in
        (class called ∙ its.0, its.1)),
    λ its.
        subst (λ l. Has l called) (sym (row first less)) (elim (has_or called members) [
          | inl member ↦ in_back (row_in old (Some first)) (live_among after old first members) called (is_among_too after old first members called member (sym (class called) ∙ its.0) its.1)
          | inr apart ↦ in_front (row_in old (Some first)) (live_among after old first members) called
              ((are.rows first called less).1 (sym (class called) ∙ its.0, sym (ap is_some_list (others called apart)) ∙ its.1))
        ]),
  );
  once = λ first less.
      subst IsOnce (sym (row first less))
      (once_both (row_in old (Some first)) (live_among after old first members) (are.once first less) (among_once after old first members once)
      (λ number here there. true≢false (sym ((are.rows first number less).0 here).1 ∙ waiting number (among_is after old first members number there).0)));
}
  where
    row : (first : ℕ) → first < length tac.functions.items → row_in new (Some first) ≡ row_in old (Some first) ++ live_among after old first members
    row first less = adds.row first (omega (arith, less, are.each))

    class : (called : ℕ) → class_in new called ≡ class_in old called
    class called = ap (λ v. class_from (slice_get v.items called)) adds.classes

    still : (first called : ℕ) → (class_in old called ≡ Some first) × (is_listed before called ≡ true) → (class_in old called ≡ Some first) × (is_listed after called ≡ true)
    still first called its = elim (has_or called members) [
      | inl member ↦ absurd (true≢false (sym its.1 ∙ waiting called member))
      | inr apart ↦ (its.0, ap is_some_list (others called apart) ∙ its.1)
    ]

    either : (first called : ℕ) → first < length tac.functions.items → Has (row_in old (Some first)) called ⊎ Has (live_among after old first members) called → (class_in old called ≡ Some first) × (is_listed after called ≡ true)
    either first called less (inl front) = still first called ((are.rows first called less).0 front)
    either first called less (inr back) = let its = among_is after old first members called back in (its.1, its.2)

-- ---- calls

module _ (before : GraphsBefore) where
  pub known_live : (function : ℕ) → is_live before function ≡ true → AreLiveTargets before (Known function) (function ∷ [])
  known_live function live = record {
    each = λ called. (there called, λ its. inl (sym (eqb-true function called its.0)));
    once = ((λ none. none), tt);
  }
    where
      there : (called : ℕ) → Has (function ∷ []) called → ((function == called) ≡ true) × (is_live before called ≡ true)
      there called (inl same) = (eq-eqb function called (sym same), subst (λ n. is_live before n ≡ true) (sym same) live)
      there called (inr none) = absurd none

  pub known_dead : (function : ℕ) → is_live before function ≡ false → AreLiveTargets before (Known function) []
  known_dead function dead = record {
    each = λ called. ((λ none. absurd none), λ its. absurd (true≢false (sym its.1 ∙ (ap (is_live before) (sym (eqb-true function called its.0)) ∙ dead))));
    once = tt;
  }

  pub through_live : (live : LiveTargets) → AreLive before.tac before.escaping live → ((pointer : Register) (c_type : CType) (called : ℕ) → is_target (tac_of before.tac) (Through pointer c_type) called ≡ true → called < length before.tac.functions.items)
      → (pointer : Register) (c_type : CType) (class : Option ℕ) → IsFirstTarget (tac_of before.tac) (Through pointer c_type) class → AreLiveTargets before (Through pointer c_type) (row_in live class)
  through_live live are inside pointer c_type None never = record { each = λ called. ((λ none. absurd none), λ its. absurd (never called its.0)); once = tt }
  through_live live are inside pointer c_type (Some first) starts =
      let less = inside pointer c_type first starts.0 in
      record {
        each = λ called. (
          (λ has. let its = (are.rows first called less).0 has in (are.classes.target pointer c_type first called starts its.0, its.1)),
          λ its. (are.rows first called less).1 (are.classes.class pointer c_type first called starts its.0, its.1),
        );
        once = are.once first less;
      }
