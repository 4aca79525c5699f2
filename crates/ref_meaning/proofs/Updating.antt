-- A store in memory still stands for a state where one object of both holds something else.
use Rattle.std.proofs.Common.{◌≡◌, ℕ, Bool, true, false, cond, if◌then◌else◌, [], ◌++◌, Option, None, nat_eq, refl, sym, ap, subst, ◌∙◌, append-nil}
use Rattle.indexmap.specs.IndexMap.{IndexMap, get, get_by}
use Rattle.run_theory.specs.Runs.{Trace, output_of}
use Rattle.run_theory.proofs.Traces.{output_of-append}
use Rattle.c_typed.specs.Table.{Interned}
use Rattle.ref_semantics.specs.Values as V
use Rattle.ref_semantics.specs.Values.{Content, same_name}
use Rattle.ref_semantics.specs.Store.{TypeEnvironment, State, Objects, with_content}
use Rattle.ref_meaning.specs.declared.value.Name.{Name}
use Rattle.ref_meaning.specs.declared.value.Scalar.{Scalar}
use Rattle.ref_meaning.specs.declared.object.Content as memory_content
use Rattle.ref_meaning.specs.declared.store.Store.{Store}
use Rattle.ref_meaning.specs.contracts.value.NamePartialEq.TheImpl.{eq-value}
use Rattle.ref_meaning.specs.RefStore.Views.{name_of, same_memory}
use Rattle.ref_meaning.specs.RefStore.Holding.{At, HeldIs, AllHeld, ContentIs}
use Rattle.ref_meaning.proofs.Names.{name_eq, get_name, same_name-true}

-- a map of objects after one of them changed, or died
abbrev pub Changes : {S : Type 0} → Name → Option memory_content.Content → IndexMap Name memory_content.Content S → IndexMap Name memory_content.Content S → Type 0
Changes name memory old new = (q : Name) → get eq-value.it new q ≡ cond (eq-value.it name q) memory (get eq-value.it old q)

abbrev pub AllContents : {S : Type 0} → Interned → IndexMap Name memory_content.Content S → Objects → Type 0
AllContents table map objects = (name : Name) → ContentIs table (get_by (same_memory name) map) (objects (name_of name))

pub all_changed : {S : Type 0} (table : Interned) (old new : IndexMap Name memory_content.Content S) (objects : Objects) (name : Name) (memory : Option memory_content.Content) (content : Content)
    → Changes name memory old new → ContentIs table memory content → AllContents table old objects → AllContents table new (with_content (name_of name) content objects)
all_changed table old new objects name memory content changes is all = λ q.
    subst (λ m. ContentIs table m (with_content (name_of name) content objects (name_of q))) (sym (there q)) (by (same_memory name q) (get_by (same_memory q) old) (objects (name_of q)) (all q))
  where
    there : (q : Name) → get_by (same_memory q) new ≡ cond (same_memory name q) memory (get_by (same_memory q) old)
    there q = sym (get_name new q) ∙ (changes q ∙ λ i. cond (name_eq name q i) memory (get_name old q i))

    by : (b : Bool) (had : Option memory_content.Content) (other : Content) → ContentIs table had other → ContentIs table (cond b memory had) (if b then content else other)
    by true had other here = is
    by false had other here = here

-- the store with these objects, where something may have happened
pub at_changed : (around : TypeEnvironment) (store : Store) (base : ℕ) (state : State) (new : Store) (name : Name) (memory : Option memory_content.Content) (content : Content) (trace : Trace)
    → Changes name memory store.objects new.objects → ContentIs store.types.now memory content → At around store base state
    → At around (record store { objects = new.objects }) base (record state { objects = with_content (name_of name) content state.objects; trace = trace })
at_changed around store base state new name memory content trace changes is at = record {
  structs = at.structs;
  completed = at.completed;
  objects = all_changed store.types.now store.objects new.objects state.objects name memory content changes is at.objects;
  locals = at.locals;
  next_local = at.next_local;
  next_heap = at.next_heap;
}

unchanged : (name : V.Name) (objects : Objects) → with_content name (objects name) objects ≡ objects
unchanged name objects = λ i other. by other (same_name name other) refl i
  where
    by : (other : V.Name) (b : Bool) → same_name name other ≡ b → (if b then objects name else objects other) ≡ objects other
    by other true same = ap objects (same_name-true name other same)
    by other false apart = refl

-- the object holds what it held
pub at_kept : (around : TypeEnvironment) (store : Store) (base : ℕ) (state : State) (new : Store) (name : Name) (memory : Option memory_content.Content)
    → Changes name memory store.objects new.objects → ContentIs store.types.now memory (state.objects (name_of name)) → At around store base state → At around (record store { objects = new.objects }) base state
at_kept around store base state new name memory changes is at =
    subst (λ (objects : Objects). At around (record store { objects = new.objects }) base (record state { objects = objects })) (unchanged (name_of name) state.objects)
    (at_changed around store base state new name memory (state.objects (name_of name)) state.trace changes is at)

-- what happens writes nothing
pub unheard : (trace : Trace) (events : Trace) → output_of events ≡ [] → output_of (trace ++ events) ≡ output_of trace
unheard trace events silent = output_of-append trace events ∙ (ap (λ rest. output_of trace ++ rest) silent ∙ append-nil (output_of trace))

-- elements of which none was stored
pub none_held : {S : Type 0} (table : Interned) (memory : IndexMap ℕ Scalar S) → ((offset : ℕ) → get nat_eq memory offset ≡ None) → AllHeld table memory (λ offset. None)
none_held table memory none offset = subst (λ value. HeldIs table value None) (sym (none offset)) refl
