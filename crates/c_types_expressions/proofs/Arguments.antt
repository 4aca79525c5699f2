-- Arguments that are passed one after the other.
use Rattle.std.proofs.Common.{◌≡◌, ℕ, ◌+◌, ◌<◌, ◌≤◌, length, drop, is_some, not, Bool, true, false, true≢false, if◌then◌else◌, List, [], ◌∷◌, ◌++◌, Option, Some, None, Vec, refl, sym, ap, subst, ◌∙◌, append-nil, append_assoc}
use Rattle.std.specs.Bool.{then_some}
use Rattle.std.proofs.lemmas.List.{at_drop_more, at_drop_all}
use Rattle.run_theory.specs.declared.place.Pos.{Pos}
use Rattle.c_typed.specs.declared.typed.Value as memory_value
use Rattle.c_typed.specs.declared.c_type.CType as number
use Rattle.c_typed.specs.declared.c_type.Parameters as numbers
use Rattle.c_typed.specs.Types.{CType, CTypes, NoTypes, MoreTypes, Function}
use Rattle.c_typed.specs.Typed.{Value, Values, MoreValues}
use Rattle.c_typed.specs.Table.{Interned, Grows, Stands, ListStands, type_in, types_in, IsSplit}
use Rattle.c_typed.specs.Views.{values_in, ValuesStand}
use Rattle.c_typed.proofs.Grown.{stays, list_stays, grows_trans}
use Rattle.c_typed.proofs.TypedStays.{value_stays}
use Rattle.c_rules.specs.declared.violation.Violation.{Violation}
use Rattle.c_rules.specs.Known.{Checked, give, with_known, given, given_two}
use Rattle.c_rules.specs.Operators.{ArgumentValue, as_many, passed, passed_rule, unconverted, unconverted_argument}
use Rattle.c_types_state.specs.NameTables.{State}
use Rattle.c_rules.specs.Known as known
use Rattle.c_types_state.specs.Finding as finding
use Rattle.c_types_state.specs.Finding.{Finds, IsOption, IsType, IsTypes}
use Rattle.c_types_state.specs.Staying.{IsValue, IsValues}
use Rattle.c_types_state.proofs.Findings.{Goes, finds-goes, goes-trans, finds-give}
use Rattle.c_types_state.specs.declared.operands.Operand as memory_operand
use Rattle.c_types_expressions.specs.declared.calls.Argument as memory_argument
use Rattle.c_types_state.specs.Operands.{operand_in, OperandStands}
use Rattle.c_types_expressions.specs.Arguments.{argument_in, ArgumentStands, arguments_in, ArgumentsStand}
use Rattle.c_types_state.proofs.OperandsStay.{operand_stays}
use Rattle.c_types_expressions.specs.Calls.{passed_values, passed_one}
use Rattle.c_types_expressions.specs.Calls as calls

-- ---- they stay while the table grows

module _ (old new : Interned) (grows : Grows old new) where
  abbrev at_place : Pos → Option known.Known → ArgumentValue
  at_place place value = record { place = place; value = value }

  pub argument_stays : (a : memory_argument.Argument) → ArgumentStands old a → ArgumentStands new a × (argument_in new a ≡ argument_in old a)
  argument_stays a h = by a.value h
    where
      by : (value : Option memory_operand.Operand) → finding.AllStand OperandStands old value → finding.AllStand OperandStands new value × (at_place a.place (finding.each_in operand_in new value) ≡ at_place a.place (finding.each_in operand_in old value))
      by None h = (tt, refl)
      by (Some o) h =
          let kept = operand_stays old new grows o h in
          (kept.0, λ i. at_place a.place (Some (kept.1 i)))

  pub arguments_stay : (list : List memory_argument.Argument) → ArgumentsStand old list → ArgumentsStand new list × (arguments_in new list ≡ arguments_in old list)
  arguments_stay [] h = (tt, refl)
  arguments_stay (a ∷ list) h =
      let first = argument_stays a h.0 in
      let others = arguments_stay list h.1 in
      ((first.0, others.0), λ i. first.1 i ∷ others.1 i)

-- ---- what is known of values in front, and of those behind them

abbrev pub joined : {V : Type 0} → Option V → Option (List V) → Option (List V)
joined (Some v) (Some vs) = Some (v ∷ vs)
joined _ _ = None

abbrev pub with_others : {V : Type 0} → Bool → List V → Option (List V) → Option (List V)
with_others true vs (Some more) = Some (vs ++ more)
with_others _ _ _ = None

pub with_others-some : {V : Type 0} (b : Bool) (vs : List V) (v : V) (r : Option (List V)) → with_others b vs (joined (Some v) r) ≡ with_others b (vs ++ v ∷ []) r
with_others-some true vs v (Some more) = ap Some (sym (append_assoc vs (v ∷ []) more))
with_others-some true vs v None = refl
with_others-some false vs v r = refl

pub with_others-none : {V : Type 0} (b : Bool) (vs : List V) (r : Option (List V)) → with_others b vs (joined None r) ≡ with_others false vs r
with_others-none true vs r = refl
with_others-none false vs r = refl

-- ---- what is found of the first, and then of the others

module _ (free : Bool) (u : Value) (us : Values) where
  abbrev one_of : Value → Checked Value
  one_of v = give (if free then u else v)

  abbrev others_of : Values → Checked Values
  others_of vs = give (if free then us else vs)

  abbrev both_of : Option Value → Option Values → Checked Values
  both_of ka kb = with_known ka (λ v. with_known kb (λ vs. give (MoreValues v vs)))

  abbrev all_of : Values → Checked Values
  all_of vs = give (if free then MoreValues u us else vs)

  joined_found : (fa fb : List Violation) (ka : Option Value) (kb : Option Values) → (fa ++ (with_known ka one_of).found) ++ (fb ++ (with_known kb others_of).found) ≡ ((fa ++ fb) ++ (both_of ka kb).found) ++ (with_known (both_of ka kb).known all_of).found
  joined_found fa fb None None = simp append-nil
  joined_found fa fb None (Some vs) = simp append-nil
  joined_found fa fb (Some v) None = simp append-nil
  joined_found fa fb (Some v) (Some vs) = simp append-nil

module _ (old new : Interned) (grows : Grows old new) where
  both_known : (u : Value) (us : Values) (x : memory_value.Value) (xs : List memory_value.Value) → IsValue old x u → IsValues new xs us → IsValues new (x ∷ xs) (MoreValues u us)
  both_known u us x xs h h' =
      let kept = value_stays old new grows x h.0 in
      ((kept.0, h'.0), λ i. MoreValues ((kept.1 ∙ h.1) i) (h'.1 i))

  joined_known : (free : Bool) (u : Value) (us : Values) (ka : Option Value) (kb : Option Values) (r : Option memory_value.Value) (r' : Option (List memory_value.Value)) → IsOption (IsValue old) r (with_known ka (one_of free u us)).known → IsOption (IsValues new) r' (with_known kb (others_of free u us)).known → IsOption (IsValues new) (joined r r') (with_known (both_of free u us ka kb).known (all_of free u us)).known
  joined_known free u us None kb (Some x) r' h h' = absurd h
  joined_known free u us None kb None r' h h' = tt
  joined_known free u us (Some v) None None r' h h' = absurd h
  joined_known free u us (Some v) None (Some x) None h h' = tt
  joined_known free u us (Some v) None (Some x) (Some xs) h h' = absurd h'
  joined_known free u us (Some v) (Some vs) None r' h h' = absurd h
  joined_known free u us (Some v) (Some vs) (Some x) None h h' = absurd h'
  joined_known true u us (Some v) (Some vs) (Some x) (Some xs) h h' = both_known u us x xs h h'
  joined_known false u us (Some v) (Some vs) (Some x) (Some xs) h h' = both_known v vs x xs h h'

both_found : {s t w : State} (free : Bool) (u : Value) (us : Values) (a : Checked Value) (b : Checked Values) (r : Option memory_value.Value) (r' : Option (List memory_value.Value)) → Finds IsValue (given a (one_of free u us)) s t r → Finds IsValues (given b (others_of free u us)) t w r' → Finds IsValues (given (given_two a b (λ v vs. give (MoreValues v vs))) (all_of free u us)) s w (joined r r')
both_found {s = s} {t = t} {w = w} free u us a b r r' first second =
    let whole = subst (λ found. Goes found s w) (joined_found free u us a.found b.found a.known b.known) (goes-trans (finds-goes first) (finds-goes second)) in
    record {
      grows = whole.grows;
      scope = whole.scope;
      least = whole.least;
      known = joined_known t.table w.table second.grows free u us a.known b.known r r' first.known second.known;
    }

module _ (whole : Pos) where
  -- an argument at a parameter
  pub passed_more : {s t w : State} (is_free : Bool) (first : CType) (others : CTypes) (a : ArgumentValue) (list : List ArgumentValue) (r : Option memory_value.Value) (r' : Option (List memory_value.Value)) → Finds IsValue (passed_one whole is_free first a) s t r → Finds IsValues (passed_values whole is_free others list) t w r' → Finds IsValues (passed_values whole is_free (MoreTypes first others) (a ∷ list)) s w (joined r r')
  passed_more is_free first others a list r r' one_found others_found =
      both_found is_free (unconverted_argument a.value) (unconverted list) (with_known a.value (passed_rule whole a.place first)) (passed whole others list) r r' one_found others_found

  -- no argument is left
  pub passed_all : {s : State} (is_free : Bool) (types : CTypes) → Finds IsValues (passed_values whole is_free types []) s s (Some [])
  passed_all true NoTypes = finds-give (tt, refl)
  passed_all false NoTypes = finds-give (tt, refl)
  passed_all true (MoreTypes first others) = finds-give (tt, refl)
  passed_all false (MoreTypes first others) = finds-give (tt, refl)

  -- no parameter is left
  pub passed_rest : {s : State} (list : List ArgumentValue) → Finds IsValues (passed_values whole false NoTypes list) s s (Some [])
  passed_rest list = finds-give (tt, refl)

  -- to `free` the arguments are passed as they are
  pub passed_free : {s t : State} (a : ArgumentValue) (list : List ArgumentValue) (x : memory_value.Value) (r : Option (List memory_value.Value)) → IsValue s.table x (unconverted_argument a.value) → Finds IsValues (passed_values whole true NoTypes list) s t r → Finds IsValues (passed_values whole true NoTypes (a ∷ list)) s t (joined (Some x) r)
  passed_free {s = s} {t = t} a list x None is found = absurd found.known
  passed_free {s = s} {t = t} a list x (Some xs) is found =
      record { grows = found.grows; scope = found.scope; least = found.least; known = both_known s.table t.table found.grows (unconverted_argument a.value) (unconverted list) x xs is found.known }

-- ---- what is found in the end

pub found_in_vec : {Z : Type 0} {s t : State} {checked : Checked Values} (vs : Vec memory_value.Value Z) (are_known : Bool) (r : Option (Vec memory_value.Value Z)) → r ≡ then_some are_known vs → Finds IsValues checked s t (with_others are_known vs.items (Some [])) → Finds (calls.IsValues {Z = Z}) checked s t r
found_in_vec {Z = Z} {s = s} {t = t} {checked = checked} vs are_known r e found =
    subst (λ (r : Option (Vec memory_value.Value Z)). Finds (calls.IsValues {Z = Z}) checked s t r) (sym e)
    (record { grows = found.grows; scope = found.scope; least = found.least; known = by are_known checked.known found.known })
  where
    by : (b : Bool) (k : Option Values) → IsOption (IsValues t.table) (with_others b vs.items (Some [])) k → IsOption (calls.IsValues {Z = Z} t.table) (then_some b vs) k
    by true None h = absurd h
    by true (Some vs') h = subst (λ items. ValuesStand t.table items × (values_in t.table items ≡ vs')) (append-nil vs.items) h
    by false None h = tt
    by false (Some vs') h = absurd h

-- ---- a step behind another

pub given_through : {A B C D V : Type 0} {Is : Interned → D → B → Type 0} {Is' : Interned → V → C → Type 0} {s t : State} (part : Checked A) (f : A → B) (g : B → C) (x : D) (y : V) → Finds Is (given part (λ a. give (f a))) s t (Some x) → ((b : B) → Is t.table x b → Is' t.table y (g b)) → Finds Is' (given part (λ a. give (g (f a)))) s t (Some y)
given_through {A = A} {Is = Is} {Is' = Is'} {s = s} {t = t} part f g x y found behind = by part.found part.known found
  where
    by : (fs : List Violation) (k : Option A) → Finds Is (given (record { found = fs; known = k }) (λ a. give (f a))) s t (Some x) → Finds Is' (given (record { found = fs; known = k }) (λ a. give (g (f a)))) s t (Some y)
    by fs None found = absurd found.known
    by fs (Some a) found = record { grows = found.grows; scope = found.scope; least = found.least; known = behind (f a) found.known }

pub given_through-none : {A B C D V : Type 0} {Is : Interned → D → B → Type 0} {Is' : Interned → V → C → Type 0} {s t : State} (part : Checked A) (f : A → B) (g : A → C) → Finds Is (given part (λ a. give (f a))) s t None → Finds Is' (given part (λ a. give (g a))) s t None
given_through-none {A = A} {Is = Is} {Is' = Is'} {s = s} {t = t} part f g found = by part.found part.known found
  where
    by : (fs : List Violation) (k : Option A) → Finds Is (given (record { found = fs; known = k }) (λ a. give (f a))) s t None → Finds Is' (given (record { found = fs; known = k }) (λ a. give (g a))) s t None
    by fs None found = record { grows = found.grows; scope = found.scope; least = found.least; known = tt }
    by fs (Some a) found = absurd found.known

-- ---- the functions of one parameter

pub function_found : {s0 s1 s2 s3 : State} (returned parameter made : number.CType) (none parameters : numbers.Parameters) → Stands s0.table returned → Stands s0.table parameter → Finds IsTypes (give NoTypes) s0 s1 (Some none) → Finds IsTypes (give (MoreTypes (type_in s1.table parameter) (types_in s1.table none))) s1 s2 (Some parameters) → Finds IsType (give (Function (type_in s2.table returned) (types_in s2.table parameters))) s2 s3 (Some made) → Finds IsType (give (Function (type_in s0.table returned) (MoreTypes (type_in s0.table parameter) NoTypes))) s0 s3 (Some made)
function_found {s0 = s0} {s1 = s1} {s2 = s2} {s3 = s3} returned parameter made none parameters h h' first second third =
    let grows = grows_trans s0.table s1.table s2.table first.grows second.grows in
    let e = (stays s0.table s2.table grows returned h).1 in
    let e' = (stays s0.table s1.table first.grows parameter h').1 in
    let ps : types_in s2.table parameters ≡ MoreTypes (type_in s0.table parameter) NoTypes = second.known.1 ∙ (λ i. MoreTypes (e' i) (first.known.1 i)) in
    record {
      grows = grows_trans s0.table s2.table s3.table grows third.grows;
      scope = third.scope ∙ second.scope ∙ first.scope;
      least = third.least ∙ second.least ∙ first.least;
      known = (third.known.0, third.known.1 ∙ (λ i. Function (e i) (ps i)));
    }

-- ---- as many arguments as parameters

pub as_many_more : (table : Interned) (types others : CTypes) (first : CType) (xs : List memory_argument.Argument) (n : ℕ) (d : memory_argument.Argument) → types ≡ MoreTypes first others → n < length xs → as_many types (arguments_in table (drop n xs)) ≡ as_many others (arguments_in table (drop (n + 1) xs))
as_many_more table types others first xs n d e lt =
    ap (λ types. as_many types (arguments_in table (drop n xs))) e ∙ at_drop_more (λ ys. as_many (MoreTypes first others) (arguments_in table ys)) xs n d lt

pub as_many_none : (table : Interned) (types : CTypes) (xs : List memory_argument.Argument) (n : ℕ) (d : memory_argument.Argument) → types ≡ NoTypes → n < length xs → as_many types (arguments_in table (drop n xs)) ≡ false
as_many_none table types xs n d e lt =
    ap (λ types. as_many types (arguments_in table (drop n xs))) e ∙ at_drop_more (λ ys. as_many NoTypes (arguments_in table ys)) xs n d lt

pub as_many_all : (table : Interned) (types : CTypes) (xs : List memory_argument.Argument) (n : ℕ) (r : Option (number.CType × numbers.Parameters)) (is_last : Bool) → is_some r ≡ not is_last → IsSplit table types r → length xs ≤ n → as_many types (arguments_in table (drop n xs)) ≡ is_last
as_many_all table types xs n None true h e le = ap (λ types. as_many types (arguments_in table (drop n xs))) e ∙ at_drop_all (λ ys. as_many NoTypes (arguments_in table ys)) xs n le
as_many_all table types xs n None false h e le = absurd (true≢false (sym h))
as_many_all table types xs n (Some parts) true h e le = absurd (true≢false h)
as_many_all table types xs n (Some parts) false h e le =
    ap (λ types. as_many types (arguments_in table (drop n xs))) e.0 ∙ at_drop_all (λ ys. as_many (MoreTypes (type_in table parts.0) (types_in table parts.1)) (arguments_in table ys)) xs n le

-- ---- a loop over the arguments

pub with_others-start : {V : Type 0} (vs : List V) (r : Option (List V)) → vs ≡ [] → r ≡ with_others true vs r
with_others-start vs (Some more) e = ap (λ vs. Some (vs ++ more)) (sym e)
with_others-start vs None e = refl

module _ (whole : Pos) (is_free : Bool) (types : CTypes) where
  -- an argument at a parameter, and then those behind it
  pub passing_step : {s w : State} (parameter : number.CType) (others : numbers.Parameters) (a : memory_argument.Argument) (rest rest' : List memory_argument.Argument) (one : Option memory_value.Value) → types ≡ MoreTypes (type_in s.table parameter) (types_in s.table others) → ListStands s.table others → rest ≡ a ∷ rest' → ArgumentsStand s.table rest' → Finds IsValue (passed_one whole is_free (type_in s.table parameter) (argument_in s.table a)) s w one → (t : State) (r : Option (List memory_value.Value)) → Finds IsValues (passed_values whole is_free (types_in w.table others) (arguments_in w.table rest')) w t r → Finds IsValues (passed_values whole is_free types (arguments_in s.table rest)) s t (joined one r)
  passing_step {s = s} {w = w} parameter others a rest rest' one e stand e' stand' first t r found =
      let types_stay : types_in w.table others ≡ types_in s.table others = (list_stays s.table w.table first.grows others stand).1 in
      let stay : arguments_in w.table rest' ≡ arguments_in s.table rest' = (arguments_stay s.table w.table first.grows rest' stand').1 in
      let behind : Finds IsValues (passed_values whole is_free (types_in s.table others) (arguments_in s.table rest')) w t r =
      subst (λ ts. Finds IsValues (passed_values whole is_free ts (arguments_in s.table rest')) w t r) types_stay
      (subst (λ list. Finds IsValues (passed_values whole is_free (types_in w.table others) list) w t r) stay found) in
      subst (λ ts. Finds IsValues (passed_values whole is_free ts (arguments_in s.table rest)) s t (joined one r)) (sym e)
      (subst (λ (list : List memory_argument.Argument). Finds IsValues (passed_values whole is_free (MoreTypes (type_in s.table parameter) (types_in s.table others)) (arguments_in s.table list)) s t (joined one r)) (sym e')
      (passed_more whole is_free (type_in s.table parameter) (types_in s.table others) (argument_in s.table a) (arguments_in s.table rest') one r first behind))

  -- one that is passed as it is
  pub passing_free : {s : State} (a : memory_argument.Argument) (rest rest' : List memory_argument.Argument) (x : memory_value.Value) → types ≡ NoTypes → is_free ≡ true → rest ≡ a ∷ rest' → IsValue s.table x (unconverted_argument (finding.each_in operand_in s.table a.value)) → (t : State) (r : Option (List memory_value.Value)) → Finds IsValues (passed_values whole is_free types (arguments_in s.table rest')) s t r → Finds IsValues (passed_values whole is_free types (arguments_in s.table rest)) s t (joined (Some x) r)
  passing_free {s = s} a rest rest' x e free e' is t r found =
      let behind : Finds IsValues (passed_values whole true NoTypes (arguments_in s.table rest')) s t r =
      subst (λ b. Finds IsValues (passed_values whole b NoTypes (arguments_in s.table rest')) s t r) free
      (subst (λ ts. Finds IsValues (passed_values whole is_free ts (arguments_in s.table rest')) s t r) e found) in
      subst (λ ts. Finds IsValues (passed_values whole is_free ts (arguments_in s.table rest)) s t (joined (Some x) r)) (sym e)
      (subst (λ b. Finds IsValues (passed_values whole b NoTypes (arguments_in s.table rest)) s t (joined (Some x) r)) (sym free)
      (subst (λ (list : List memory_argument.Argument). Finds IsValues (passed_values whole true NoTypes (arguments_in s.table list)) s t (joined (Some x) r)) (sym e')
      (passed_free whole (argument_in s.table a) (arguments_in s.table rest') x r is behind)))

  -- no parameter is left
  pub passing_stops : {s : State} (rest : List memory_argument.Argument) → types ≡ NoTypes → is_free ≡ false → Finds IsValues (passed_values whole is_free types (arguments_in s.table rest)) s s (Some [])
  passing_stops {s = s} rest e free =
      subst (λ ts. Finds IsValues (passed_values whole is_free ts (arguments_in s.table rest)) s s (Some [])) (sym e)
      (subst (λ b. Finds IsValues (passed_values whole b NoTypes (arguments_in s.table rest)) s s (Some [])) (sym free) (passed_rest whole (arguments_in s.table rest)))

  -- no argument is left
  pub passing_ends : {s : State} (rest : List memory_argument.Argument) → rest ≡ [] → Finds IsValues (passed_values whole is_free types (arguments_in s.table rest)) s s (Some [])
  passing_ends {s = s} rest e =
      subst (λ (list : List memory_argument.Argument). Finds IsValues (passed_values whole is_free types (arguments_in s.table list)) s s (Some [])) (sym e) (passed_all whole is_free types)
