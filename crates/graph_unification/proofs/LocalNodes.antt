-- Locals in memory that get nodes, one after another.
use Rattle.std.proofs.Common.{◌≡◌, ℕ, suc, zero, ◌+◌, ◌<◌, Bool, true, false, List, [], ◌∷◌, map, length, get_or, Option, Some, None, refl, sym, ap, subst, ◌∙◌, ◌⊎◌, inl, inr, arith}
use Rattle.std.specs.Prelude.{slice_get, option_map}
use Rattle.std.proofs.lemmas.Bool.{cases_eq, false≢true, cond-true, cond-false, eq-eqb, eqb-true}
use Rattle.std.proofs.lemmas.Option.{none-some, same_Some, slice_get-get_or, slice_get-map}
use Rattle.c_typed.specs.Table.{Interned, type_in}
use Rattle.tac_ir.specs.declared.register.Local.{Local}
use Rattle.tac_ir.specs.declared.register.Local.TheVariants as L
use Rattle.tac_ir.specs.declared.program.LocalObject as memory_object
use Rattle.tac_ir.specs.Code.{LocalObject}
use Rattle.tac_ir.specs.Values.{same_local}
use Rattle.tac_ir.specs.Objects.{whole, own_type}
use Rattle.tac_ir.specs.States.{Owner}
use Rattle.tac_ir.specs.Views.{object_in}
use Rattle.heap_graph.specs.Graphs.{Node, Name, OfObject, Graph}
use Rattle.heap_graph.specs.Targets.{has_target}
use Rattle.graph_unification.specs.Adding.{AddsMissing, AddsSome, Same}
use Rattle.graph_unification.specs.GraphNames.First.{object_node, local_flags, of_inner, AddsObjects}
use Rattle.graph_unification.proofs.Missing.{missing_stays, missing_has, joined, missing_some}

local_itself : (local : Local) → same_local local local ≡ true
local_itself (L.Parameter n) = eq-eqb n n refl
local_itself (L.Variable n) = eq-eqb n n refl

local_eq : (a b : Local) → same_local a b ≡ true → a ≡ b
local_eq (L.Parameter a) (L.Parameter b) h = ap L.Parameter (eqb-true a b h)
local_eq (L.Parameter a) (L.Variable b) h = absurd (false≢true h)
local_eq (L.Variable a) (L.Parameter b) h = absurd (false≢true h)
local_eq (L.Variable a) (L.Variable b) h = ap L.Variable (eqb-true a b h)

-- ---- the first object of a local

own_first : (objects : List LocalObject) (n : ℕ) (object : LocalObject) → slice_get objects n ≡ Some object
    → ((k : ℕ) (other : LocalObject) → k < n → slice_get objects k ≡ Some other → same_local other.local object.local ≡ false) → own_type objects object.local ≡ whole object.c_type
own_first [] n object e differ = absurd (none-some object e)
own_first (first ∷ others) zero object e differ =
    let is = same_Some first object e in
    cond-true (same_local first.local object.local) (whole first.c_type) (own_type others object.local) (ap (λ (o : LocalObject). same_local o.local object.local) is ∙ local_itself object.local)
    ∙ ap (λ (o : LocalObject). whole o.c_type) is
own_first (first ∷ others) (suc n) object e differ =
    cond-false (same_local first.local object.local) (whole first.c_type) (own_type others object.local) (differ 0 first (omega arith) refl)
    ∙ own_first others n object e (λ k other less has. differ (suc k) other (omega (arith, less)) has)

pub record Found (objects : List LocalObject) (local : Local) : Type 0 where
  pub number : ℕ
  pub object : LocalObject
  pub is : slice_get objects number ≡ Some object
  pub of_local : object.local ≡ local

found_step : (first : LocalObject) (others : List LocalObject) (local : Local) (node : Node) → of_inner (own_type (first ∷ others) local) ≡ Some node
    → (of_inner (own_type others local) ≡ Some node → Found others local) → (b : Bool) → same_local first.local local ≡ b → Found (first ∷ others) local
found_step first others local node e behind true h = record { number = 0; object = first; is = refl; of_local = local_eq first.local local h }
found_step first others local node e behind false h =
    let found = behind (ap of_inner (sym (cond-false (same_local first.local local) (whole first.c_type) (own_type others local) h)) ∙ e) in
    record { number = suc found.number; object = found.object; is = found.is; of_local = found.of_local }

pub own_found : (objects : List LocalObject) (local : Local) (node : Node) → of_inner (own_type objects local) ≡ Some node → Found objects local
own_found [] local node e = absurd (none-some node e)
own_found (first ∷ others) local node e = found_step first others local node e (own_found others local node) (same_local first.local local) refl

-- ---- one after another

abbrev local_node : LocalObject → Node
local_node object = object_node object.c_type (local_flags object.c_type)

-- those so far have nodes
pub record ObjectsTo (old new : Graph) (owner : Owner) (objects : List LocalObject) (count : ℕ) : Type 0 where
  pub adds : (first : Name → Option Node) → ((local : Local) (node : Node) → of_inner (own_type objects local) ≡ Some node → first (OfObject owner local) ≡ Some node) → AddsSome first old new
  pub has : (number : ℕ) (object : LocalObject) → number < count → slice_get objects number ≡ Some object → has_target (new.targets (OfObject owner object.local)) ≡ true

pub objects_none : (graph : Graph) (owner : Owner) (objects : List LocalObject) → ObjectsTo graph graph owner objects 0
objects_none graph owner objects = record { adds = λ first is. Same; has = λ number object less e. absurd (omega (arith, less)) }

pub objects_more : (old middle new : Graph) (owner : Owner) (objects : List LocalObject) (count : ℕ) (object : LocalObject) → slice_get objects count ≡ Some object → ObjectsTo old middle owner objects count
    → AddsMissing middle new (OfObject owner object.local) (object_node object.c_type (local_flags object.c_type)) → ObjectsTo old new owner objects (count + 1)
objects_more old middle new owner objects count object here so_far missing = record {
  adds = λ first is.
      joined first old middle new (so_far.adds first is)
      (missing_some first middle new (OfObject owner object.local) (local_node object) missing
      (λ none. is object.local (local_node object) (ap of_inner (own_first objects count object here (differs none)))));
  has = λ number other less e. by number other e (cases_eq number count) less;
}
  where
    differs : middle.targets (OfObject owner object.local) ≡ None → (k : ℕ) (other : LocalObject) → k < count → slice_get objects k ≡ Some other → same_local other.local object.local ≡ false
    differs none k other less e = of_test (same_local other.local object.local) refl
      where
        of_test : (b : Bool) → same_local other.local object.local ≡ b → b ≡ false
        of_test false h = refl
        of_test true h =
            absurd (false≢true (ap has_target (sym none) ∙ (ap (λ local. has_target (middle.targets (OfObject owner local))) (sym (local_eq other.local object.local h)) ∙ so_far.has k other less e)))

    by : (number : ℕ) (other : LocalObject) → slice_get objects number ≡ Some other → (number ≡ count) ⊎ (number ≡ count → ⊥) → number < count + 1 → has_target (new.targets (OfObject owner other.local)) ≡ true
    by number other e (inl is) less =
        ap (λ (o : LocalObject). has_target (new.targets (OfObject owner o.local))) (same_Some other object (sym e ∙ (ap (slice_get objects) is ∙ here)))
        ∙ missing_has middle new (OfObject owner object.local) (local_node object) missing
    by number other e (inr differ) less =
        missing_stays middle new (OfObject owner object.local) (local_node object) (OfObject owner other.local) missing (so_far.has number other (omega (arith, less, differ)) e)

inside : {A : Type 0} (xs : List A) (n : ℕ) (x : A) → slice_get xs n ≡ Some x → n < length xs
inside [] n x e = absurd (none-some x e)
inside (y ∷ xs) zero x e = omega arith
inside (y ∷ xs) (suc n) x e = let h = inside xs n x e in omega (arith, h)

pub objects_all : (old new : Graph) (owner : Owner) (objects : List LocalObject) (count : ℕ) → count ≡ length objects → ObjectsTo old new owner objects count → AddsObjects old new owner objects
objects_all old new owner objects count all so_far = record {
  adds = so_far.adds;
  has = λ number object e. so_far.has number object (subst (λ n. number < n) (sym all) (inside objects number object e)) e;
}

-- ---- those in memory

pub type_at : (table : Interned) (objects : List memory_object.LocalObject) (index : ℕ) (d : memory_object.LocalObject) → index < length objects
    → slice_get (map (λ (object : memory_object.LocalObject). type_in table object.c_type) objects) index ≡ Some (type_in table (get_or objects index d).c_type)
type_at table objects index d less =
    slice_get-map (λ (object : memory_object.LocalObject). type_in table object.c_type) objects index
    ∙ ap (option_map (λ (object : memory_object.LocalObject). type_in table object.c_type)) (slice_get-get_or objects index d less)

pub object_at : (table : Interned) (objects : List memory_object.LocalObject) (index : ℕ) (d : memory_object.LocalObject) → index < length objects
    → slice_get (map (object_in table) objects) index ≡ Some (object_in table (get_or objects index d))
object_at table objects index d less = slice_get-map (object_in table) objects index ∙ ap (option_map (object_in table)) (slice_get-get_or objects index d less)
