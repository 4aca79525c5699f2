-- What a store stands for where objects are added to it.
use Rattle.std.proofs.Common.{◌≡◌, ℕ, Bool, true, false, not, Option, Some, None, is_some, Bor, refl, sym, ap, subst, ◌∙◌}
use Rattle.std.specs.Option.{option_copied}
use Rattle.indexmap.specs.IndexMap.{IndexMap, get, get_by}
use Rattle.c_typed.specs.Types.{Void}
use Rattle.c_typed.specs.Table.{Interned}
use Rattle.c_typed.proofs.Grown.{void_stands}
use Rattle.ref_semantics.specs.Values.{Name, Content, whole_row}
use Rattle.ref_semantics.specs.Store.{TypeEnvironment, State, Objects, is_dead, row_of, with_content}
use Rattle.ref_meaning.specs.declared.value.Name as memory_name
use Rattle.ref_meaning.specs.declared.object.Content as memory_content
use Rattle.ref_meaning.specs.declared.store.Store.{Store}
use Rattle.ref_meaning.specs.contracts.value.NamePartialEq.TheImpl.{eq-value}
use Rattle.ref_meaning.specs.RefStore.Views.{name_of, same_memory, row_in}
use Rattle.ref_meaning.specs.RefStore.Holding.{At, ContentIs, dead, raw, elements}
use Rattle.ref_meaning.specs.Firsts.{with_new}
use Rattle.ref_meaning.proofs.Names.{get_name}
use Rattle.ref_meaning.proofs.Updating.{Changes, at_changed}
use Rattle.ref_meaning.proofs.FirstObjects.{new_added, new_left, static_row}

-- objects that hold the same
pub at_same : (around : TypeEnvironment) (store : Store) (base : ℕ) (state : State) (objects : Objects) → ((name : Name) → state.objects name ≡ objects name) → At around store base state → At around store base (record state { objects = objects })
at_same around store base state objects same at = record {
  structs = at.structs;
  completed = at.completed;
  objects = λ name. subst (ContentIs store.types.now (get_by (same_memory name) store.objects)) (same (name_of name)) (at.objects name);
  locals = at.locals;
  next_local = at.next_local;
  next_heap = at.next_heap;
}

-- what a look-up finds
pub looked : {S : Type 0} (table : Interned) (map : IndexMap memory_name.Name memory_content.Content S) (name : memory_name.Name) (found : Option memory_content.Content) (content : Content)
    → found ≡ get eq-value.it map name → ContentIs table (get_by (same_memory name) map) content → ContentIs table found content
looked table map name found content e is = subst (λ memory. ContentIs table memory content) (sym (e ∙ get_name map name)) is

living : (table : Interned) (memory : Option memory_content.Content) (content : Content) → ContentIs table memory content → is_some memory ≡ not (is_dead content)
living table _ _ dead = refl
living table _ _ (raw size) = refl
living table _ _ (elements made held stands all) = refl

copied : (found : Option (Bor memory_content.Content)) → is_some found ≡ is_some (option_copied found)
copied None = refl
copied (Some content) = refl

not_not : (a b : Bool) → a ≡ not b → b ≡ not a
not_not a true e = ap not (sym e)
not_not a false e = ap not (sym e)

-- whether one is found
pub looked_dead : {S : Type 0} (table : Interned) (map : IndexMap memory_name.Name memory_content.Content S) (name : memory_name.Name) (found : Option (Bor memory_content.Content)) (content : Content)
    → option_copied found ≡ get eq-value.it map name → ContentIs table (get_by (same_memory name) map) content → is_dead content ≡ not (is_some found)
looked_dead table map name found content e is =
    not_not (is_some found) (is_dead content) (copied found ∙ living table (option_copied found) content (looked table map name (option_copied found) content e is))

module _ (around : TypeEnvironment) (store : Store) (base : ℕ) (state : State) (name : memory_name.Name) (content : Content) where
  -- an object is added
  pub at_new : (new : Store) (memory : Option memory_content.Content) → Changes name memory store.objects new.objects → ContentIs store.types.now memory content → is_dead (state.objects (name_of name)) ≡ true → At around store base state
      → At around (record store { objects = new.objects }) base (record state { objects = with_new (name_of name) content state.objects })
  at_new new memory changes is none at =
      let changed = at_changed around store base state new name memory content state.trace changes is at in
      at_same around (record store { objects = new.objects }) base (record state { objects = with_content (name_of name) content state.objects }) (with_new (name_of name) content state.objects)
      (new_added state.objects (name_of name) content none) changed

  -- none is, where there is one
  pub at_left : is_dead (state.objects (name_of name)) ≡ false → At around store base state → At around store base (record state { objects = with_new (name_of name) content state.objects })
  at_left there at = at_same around store base state (with_new (name_of name) content state.objects) (new_left state.objects (name_of name) content there) at

-- ---- rows

pub found_row : (table : Interned) (memory : memory_content.Content) (content : Content) → ContentIs table (Some memory) content → row_of content ≡ static_row content
found_row table _ _ (raw size) = refl
found_row table _ _ (elements made held stands all) = refl

none_row : (table : Interned) (content : Content) → ContentIs table None content → static_row content ≡ whole_row Void 1
none_row table _ dead = refl

pub missing_row : (table : Interned) (content : Content) → ContentIs table None content → row_in table (record { start = 0; c_type = record { 0 = 0 }; count = 1 }) ≡ static_row content
missing_row table content is = ap (λ t. whole_row t 1) (void_stands table (record { 0 = 0 }) refl).1 ∙ sym (none_row table content is)
