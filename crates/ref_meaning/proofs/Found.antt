-- What a look-up of an object tells of what the state holds.
use Rattle.std.proofs.Common.{◌≡◌, ℕ, zero, suc, ◌+◌, ◌≤◌, Bool, true, false, not, length, List, [], ◌∷◌, ◌++◌, eqb, reverse, drop, slice_get, Option, None, Some, option_map, Bor, is_some, arith, ◌⊎◌, inl, inr, refl, sym, ap, subst, ◌∙◌}
use Rattle.std.specs.Option.{option_copied}
use Rattle.std.proofs.lemmas.Bool.{cond-true, cond-false, cases_eq, eq-eqb, ne_eqb}
use Rattle.std.proofs.lemmas.List.{reverse-append, length-append}
use Rattle.std.proofs.lemmas.Option.{slice_get_past}
use Rattle.indexmap.specs.IndexMap.{IndexMap, get, get_by}
use Rattle.c_typed.specs.Table.{Interned}
use Rattle.ref_semantics.specs.Values.{Name, LocalObject, Place, Content, first_of_row}
use Rattle.ref_semantics.specs.Store.{TypeEnvironment, State, Then, is_dead, row_of}
use Rattle.ref_semantics.specs.Meaning.{named, local_name, local_place}
use Rattle.ref_meaning.specs.declared.value.Name as memory_name
use Rattle.ref_meaning.specs.declared.value.Place as memory_place
use Rattle.ref_meaning.specs.declared.value.Row as memory_row
use Rattle.ref_meaning.specs.declared.object.Content as memory_content
use Rattle.ref_meaning.specs.declared.store.Store.{Store}
use Rattle.ref_meaning.specs.RefStore.Views.{name_of, same_memory, row_in, place_in}
use Rattle.ref_meaning.specs.RefStore.Holding.{ContentIs, dead, raw, elements, At, Comes, left}
use Rattle.ref_meaning.specs.contracts.value.NamePartialEq.TheImpl.{eq-value}
use Rattle.ref_meaning.proofs.Giving.{comes-same}
use Rattle.ref_meaning.proofs.Names.{get_name}
use Rattle.ref_meaning.proofs.Scalars.{nothing, nothing_means}

-- ---- what is found stands for what the state holds

pub found_is : {S : Type 0} (table : Interned) (m : IndexMap memory_name.Name memory_content.Content S) (name : memory_name.Name) (found : Option memory_content.Content) (content : Content) → found ≡ get eq-value.it m name
    → ContentIs table (get_by (same_memory name) m) content → ContentIs table found content
found_is table m name found content e holds = subst (λ memory. ContentIs table memory content) (sym (e ∙ get_name m name)) holds

pub dead_content : (table : Interned) (memory : Option memory_content.Content) (content : Content) → ContentIs table memory content → not (is_some memory) ≡ is_dead content
dead_content table memory content dead = refl
dead_content table memory content (raw size) = refl
dead_content table memory content (elements some held stands all) = refl

some_copied : (found : Option (Bor memory_content.Content)) → is_some (option_copied found) ≡ is_some found
some_copied None = refl
some_copied (Some x) = refl

not_flip : (a b : Bool) → a ≡ not b → b ≡ not a
not_flip a true e = ap not (sym e)
not_flip a false e = ap not (sym e)

-- what `is_none` of a look-up tells
pub dead_told : (table : Interned) (found : Option (Bor memory_content.Content)) (is : Bool) (content : Content) → is_some found ≡ not is → ContentIs table (option_copied found) content → is ≡ is_dead content
dead_told table found is content tells holds = not_flip (is_some found) is tells ∙ ap not (sym (some_copied found)) ∙ dead_content table (option_copied found) content holds

-- ---- objects alone

pub no_row_found : (table : Interned) (content : Content) → ContentIs table None content → row_in table nothing ≡ row_of content
no_row_found table content dead = nothing_means table

-- an object alone, with the row that its content has
pub comes-named : (around : TypeEnvironment) (store : Store) (base : ℕ) (state : State) (name : memory_name.Name) (place : memory_place.Place) (row : memory_row.Row) → place ≡ record { name = name; row = row; index = 0 }
    → row_in store.types.now row ≡ row_of (state.objects (name_of name)) → At around store base state → Comes around store base (named (name_of name)) state (place_in store.types.now place)
comes-named around store base state name place row is means at =
    let whole : place_in store.types.now place ≡ first_of_row (name_of name) (row_of (state.objects (name_of name))) = ap (place_in store.types.now) is ∙ ap (first_of_row (name_of name)) means in
    comes-same around store base (named (name_of name)) state (place_in store.types.now place) (λ units input. λ i. Then (sym whole i) (left units input state)) at

-- ---- locals

-- the newest stands in front of a call's locals, and last among the store's
local-newest : (newest : ℕ) (others : List ℕ) (number : ℕ) → number ≡ length others → local_name (newest ∷ others) number ≡ Some (LocalObject newest)
local-newest newest others number e = cond-true (eqb (length others) number) (Some (LocalObject newest)) (local_name others number) (eq-eqb (length others) number (sym e))

local-older : (newest : ℕ) (others : List ℕ) (number : ℕ) → (number ≡ length others → ⊥) → local_name (newest ∷ others) number ≡ local_name others number
local-older newest others number ne = cond-false (eqb (length others) number) (Some (LocalObject newest)) (local_name others number) (ne_eqb (length others) number (λ e. ne (sym e)))

local-first : (ys : List ℕ) (x : ℕ) → local_name (ys ++ x ∷ []) 0 ≡ Some (LocalObject x)
local-first [] x = local-newest x [] 0 refl
local-first (y ∷ ys) x =
    let long = length-append ys (x ∷ []) in
    local-older y (ys ++ x ∷ []) 0 (λ (e : 0 ≡ length (ys ++ x ∷ [])). absurd (omega arith)) ∙ local-first ys x

local-behind : (ys : List ℕ) (x number : ℕ) → local_name (ys ++ x ∷ []) (suc number) ≡ local_name ys number
local-behind [] x number = local-older x [] (suc number) (λ (e : suc number ≡ 0). absurd (omega arith))
local-behind (y ∷ ys) x number = by (cases_eq number (length ys)) (local-behind ys x number)
  where
    long : length (ys ++ x ∷ []) ≡ length ys + 1
    long = length-append ys (x ∷ [])

    by : (number ≡ length ys) ⊎ (number ≡ length ys → ⊥) → local_name (ys ++ x ∷ []) (suc number) ≡ local_name ys number → local_name (y ∷ ys ++ x ∷ []) (suc number) ≡ local_name (y ∷ ys) number
    by (inl same) rest = local-newest y (ys ++ x ∷ []) (suc number) (omega (arith, long)) ∙ sym (local-newest y ys number same)
    by (inr other) rest = local-older y (ys ++ x ∷ []) (suc number) (λ (e : suc number ≡ length (ys ++ x ∷ [])). other (omega (arith, long))) ∙ rest ∙ sym (local-older y ys number other)

pub local-reverse : (items : List ℕ) (number : ℕ) → local_name (reverse items) number ≡ option_map LocalObject (slice_get items number)
local-reverse [] number = refl
local-reverse (x ∷ items) zero = ap (λ l. local_name l 0) (reverse-append (x ∷ []) items) ∙ local-first (reverse items) x
local-reverse (x ∷ items) (suc number) = ap (λ l. local_name l (suc number)) (reverse-append (x ∷ []) items) ∙ local-behind (reverse items) x number ∙ local-reverse items number

-- behind those of other calls
add-suc : (base number : ℕ) → suc (base + number) ≡ suc base + number
add-suc base number = omega arith

pub slice_get-drop : (items : List ℕ) (base number : ℕ) → slice_get (drop base items) number ≡ slice_get items (base + number)
slice_get-drop items zero number = ap (slice_get items) (omega arith)
slice_get-drop [] (suc base) number = refl
slice_get-drop (x ∷ items) (suc base) number = slice_get-drop items base number ∙ ap (slice_get (x ∷ items)) (add-suc base number)

module _ (around : TypeEnvironment) (store : Store) (base : ℕ) (state : State) (at : At around store base state) (number : ℕ) where
  local-found : local_name state.locals number ≡ option_map LocalObject (slice_get store.locals.items (base + number))
  local-found = ap (λ l. local_name l number) at.locals ∙ local-reverse (drop base store.locals.items) number ∙ ap (option_map LocalObject) (slice_get-drop store.locals.items base number)

  local-there : (own : ℕ) → slice_get store.locals.items (base + number) ≡ Some own → local_name state.locals number ≡ Some (LocalObject own)
  local-there own e = local-found ∙ ap (option_map LocalObject) e

  local-nowhere : length store.locals.items ≤ base + number → local_name state.locals number ≡ None
  local-nowhere past = local-found ∙ ap (option_map LocalObject) (slice_get_past store.locals.items (base + number) past)

  -- what the call of `named` comes to is what the local's place is
  comes-local : (value : Place) (name : Name) → ((units : ℕ) (input : List ℕ) → local_place number (left units input state) ≡ named name (left units input state)) → Comes around store base (named name) state value → Comes around store base (local_place number) state value
  comes-local value name same comes = record { after = comes.after; does = λ units input. same units input ∙ comes.does units input; at = comes.at; quiet = comes.quiet }

  pub comes-there : (value : Place) (own : ℕ) → slice_get store.locals.items (base + number) ≡ Some own → Comes around store base (named (LocalObject own)) state value → Comes around store base (local_place number) state value
  comes-there value own e = comes-local value (LocalObject own) (λ units input. rw (local-there own e) refl)

  pub comes-nowhere : (value : Place) → length store.locals.items ≤ base + number → Comes around store base (named (LocalObject 0)) state value → Comes around store base (local_place number) state value
  comes-nowhere value past = comes-local value (LocalObject 0) (λ units input. rw (local-nowhere past) refl)
