-- The newest locals die, one by one.
use Rattle.std.proofs.Common.{◌≡◌, ℕ, ◌+◌, ◌-◌, ◌≤◌, ◌<◌, if◌then◌else◌, List, [], ◌∷◌, ◌++◌, length, take, drop, reverse, None, refl, sym, ap, subst, ◌∙◌, arith, lt-ltb, le-ltb, length-append, length-drop}
use Rattle.std.proofs.lemmas.List.{length-reverse, take-append-le}
use Rattle.indexmap.specs.IndexMap.{get_by}
use Rattle.ref_semantics.specs.Values.{LocalObject, Dead}
use Rattle.ref_semantics.specs.Store.{TypeEnvironment, State, Objects, with_content}
use Rattle.ref_semantics.specs.Meaning.{killed, kept}
use Rattle.ref_meaning.specs.declared.value.Name.TheVariants as N
use Rattle.ref_meaning.specs.declared.store.Store.{Store}
use Rattle.ref_meaning.specs.RefStore.Views.{name_of, same_memory}
use Rattle.ref_meaning.specs.RefStore.Holding.{At, ContentIs, dead}
use Rattle.ref_meaning.proofs.Updating.{Changes, all_changed}
use Rattle.ref_meaning.proofs.Locals.{grown}

-- a store that stands for a state some of whose newest locals died, so that as many are left to die
pub record Still (around : TypeEnvironment) (store : Store) (base height : ℕ) (state : State) : Type 0 where
  pub objects : Objects
  pub locals : List ℕ
  pub at : At around store base (record state { objects = objects; locals = locals })
  pub dies : killed (height - base) locals objects ≡ killed (height - base) state.locals state.objects
  pub stays : kept (height - base) locals ≡ kept (height - base) state.locals

pub record IsLeaving (height : ℕ) (old new : Store) : Type 0 where
  pub types : new.types ≡ old.types
  pub front : take height new.locals.items ≡ take height old.locals.items
  pub still : (around : TypeEnvironment) (base : ℕ) (state : State) → base ≤ height → At around old base state → Still around new base height state

pub none_left : (height : ℕ) (store : Store) → IsLeaving height store store
none_left height store = record { types = refl; front = refl; still = λ around base state within at. record { objects = state.objects; locals = state.locals; at = at; dies = refl; stays = refl } }

killed-more : (count number : ℕ) (others : List ℕ) (objects : Objects) → count ≤ length others → killed count (number ∷ others) objects ≡ killed count others (with_content (LocalObject number) Dead objects)
killed-more count number others objects more = ap (λ is_few. if is_few then objects else killed count others (with_content (LocalObject number) Dead objects)) (le-ltb (length others) count more)

kept-more : (count number : ℕ) (others : List ℕ) → count ≤ length others → kept count (number ∷ others) ≡ kept count others
kept-more count number others more = ap (λ is_few. if is_few then number ∷ others else kept count others) (le-ltb (length others) count more)

killed-few : (count : ℕ) (locals : List ℕ) (objects : Objects) → length locals ≤ count → killed count locals objects ≡ objects
killed-few count [] objects few = refl
killed-few count (number ∷ others) objects few = ap (λ is_few. if is_few then objects else killed count others (with_content (LocalObject number) Dead objects)) (lt-ltb (length others) count few)

kept-few : (count : ℕ) (locals : List ℕ) → length locals ≤ count → kept count locals ≡ locals
kept-few count [] few = refl
kept-few count (number ∷ others) few = ap (λ is_few. if is_few then number ∷ others else kept count others) (lt-ltb (length others) count few)

-- one more dies
died : (around : TypeEnvironment) (store new : Store) (base height : ℕ) (state : State) (number : ℕ) → base ≤ height → height < length store.locals.items → store.locals.items ≡ new.locals.items ++ (number ∷ [])
    → Changes (N.Own number) None store.objects new.objects → Still around store base height state → Still around (record store { objects = new.objects; locals = new.locals }) base height state
died around store new base height state number within many items changes had = record {
  objects = with_content (LocalObject number) Dead had.objects;
  locals = others;
  at = record {
    structs = had.at.structs;
    completed = had.at.completed;
    objects = all_changed store.types.now store.objects new.objects had.objects (N.Own number) None Dead changes dead had.at.objects;
    locals = refl;
    next_local = had.at.next_local;
    next_heap = had.at.next_heap;
  };
  dies = sym (killed-more (height - base) number others had.objects more) ∙ (ap (λ locals. killed (height - base) locals had.objects) (sym newest) ∙ had.dies);
  stays = sym (kept-more (height - base) number others more) ∙ (ap (kept (height - base)) (sym newest) ∙ had.stays);
}
  where
    others : List ℕ
    others = reverse (drop base new.locals.items)

    count : length store.locals.items ≡ length new.locals.items + 1
    count = ap length items ∙ length-append new.locals.items (number ∷ [])

    newest : had.locals ≡ number ∷ others
    newest = had.at.locals ∙ sym (grown base number new.locals.items store.locals.items (omega (arith, count)) items)

    long : length others ≡ length new.locals.items - base
    long = length-reverse (drop base new.locals.items) ∙ length-drop base new.locals.items

    more : height - base ≤ length others
    more = omega (arith, long, count)

pub one_left : (height : ℕ) (old store new : Store) (number : ℕ) → height < length store.locals.items → store.locals.items ≡ new.locals.items ++ (number ∷ [])
    → Changes (N.Own number) None store.objects new.objects → IsLeaving height old store → IsLeaving height old (record store { objects = new.objects; locals = new.locals })
one_left height old store new number many items changes had =
    record { types = had.types; front = sym (take-append-le height new.locals.items (number ∷ []) (omega (arith, ap length items ∙ length-append new.locals.items (number ∷ []), many))) ∙ (ap (take height) (sym items) ∙ had.front); still = λ around base state within at. died around store new base height state number within many items changes (had.still around base state within at) }

-- no more die
pub all_left : (around : TypeEnvironment) (store : Store) (base height : ℕ) (state : State) → base ≤ height → length store.locals.items ≤ height → Still around store base height state
    → At around store base (record state { objects = killed (height - base) state.locals state.objects; locals = kept (height - base) state.locals })
all_left around store base height state within few had = record {
  structs = had.at.structs;
  completed = had.at.completed;
  objects = λ name. subst (λ (objects : Objects). ContentIs store.types.now (get_by (same_memory name) store.objects) (objects (name_of name))) (sym (killed-few (height - base) had.locals had.objects short) ∙ had.dies) (had.at.objects name);
  locals = sym had.stays ∙ (kept-few (height - base) had.locals short ∙ had.at.locals);
  next_local = had.at.next_local;
  next_heap = had.at.next_heap;
}
  where
    long : length had.locals ≡ length store.locals.items - base
    long = ap length had.at.locals ∙ (length-reverse (drop base store.locals.items) ∙ length-drop base store.locals.items)

    short : length had.locals ≤ height - base
    short = omega (arith, long)
