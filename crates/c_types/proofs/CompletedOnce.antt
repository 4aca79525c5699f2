-- The structures that the items of a program complete, each once.
use Rattle.std.proofs.Common.{◌≡◌, ℕ, ◌+◌, ◌<◌, ◌≤◌, Bool, true, false, not, List, [], ◌∷◌, ◌++◌, if◌then◌else◌, map, length, drop, get_or, Vec, refl, sym, ap, ◌∙◌}
use Rattle.std.proofs.lemmas.List.{drop_more, drop_all}
use Rattle.std.specs.Prelude.{bytes_eq}
use Rattle.std.specs.List.{list_any}
use Rattle.indexmap.specs.IndexSet.{insert_key}
use Rattle.c_syntax.specs.declared.declaration.Base.{Base}
use Rattle.c_syntax.specs.declared.declaration.Base.TheVariants as O
use Rattle.c_syntax.specs.declared.declaration.Item.{Item}
use Rattle.c_syntax.specs.declared.declaration.Item.TheVariants as P
use Rattle.c_syntax.specs.Views.{base_tree, item_tree}
use Rattle.c_typed.specs.Names.{contains}
use Rattle.c_types_state.specs.NameTables.{with_once}
use Rattle.c_types_state.specs.Checkers.{names_of}
use Rattle.c_rules.specs.Programs.{each_once, completed_by, completed_in}
use Rattle.c_types_state.proofs.Named.{contains_names, names_with}

-- ---- items

abbrev pub base_of : Item → Base
base_of (P.Declaration base declarators) = base
base_of (P.Function base declarator body) = base

in_item : (item : Item) (rest : List Item) → completed_in (map item_tree (item ∷ rest)) ≡ completed_by (base_tree (base_of item)) ++ completed_in (map item_tree rest)
in_item (P.Declaration base declarators) rest = refl
in_item (P.Function base declarator body) rest = refl

-- the tags so far, in the set and in their list, and then those that are left are all
pub record CompletedFar {Z : Type 0} (items : List Item) (here : ℕ) (keys : List (Vec ℕ Z)) (completed : List (List ℕ)) : Type 0 where
  pub same : names_of keys ≡ completed
  pub left : each_once completed (completed_in (map item_tree (drop here items))) ≡ each_once [] (completed_in (map item_tree items))

module _ {Z : Type 0} (items : List Item) where
  pub far-none : (keys : List (Vec ℕ Z)) (completed : List (List ℕ)) → keys ≡ [] → completed ≡ [] → CompletedFar items 0 keys completed
  far-none keys completed e e' = record { same = ap names_of e ∙ sym e'; left = ap (λ names. each_once names (completed_in (map item_tree items))) e' }

  far-next : (here : ℕ) (item : Item) (keys : List (Vec ℕ Z)) (completed : List (List ℕ)) → here < length items → item ≡ get_or items here item → CompletedFar items here keys completed
      → each_once completed (completed_by (base_tree (base_of item)) ++ completed_in (map item_tree (drop (here + 1) items))) ≡ each_once [] (completed_in (map item_tree items))
  far-next here item keys completed within is far =
      ap (each_once completed) (sym (in_item item (drop (here + 1) items)))
      ∙ ap (λ (first : Item). each_once completed (completed_in (map item_tree (first ∷ drop (here + 1) items)))) is
      ∙ ap (λ (left : List Item). each_once completed (completed_in (map item_tree left))) (sym (drop_more items here item within))
      ∙ far.left

  -- an item that completes none
  pub far-plain : (here : ℕ) (item : Item) (base : Base) (keys : List (Vec ℕ Z)) (completed : List (List ℕ)) → here < length items → item ≡ get_or items here item → base ≡ base_of item → ((place : _) (name : _) (members : _) → base ≡ O.Struct place name members → ⊥) → CompletedFar items here keys completed
      → CompletedFar items (here + 1) keys completed
  far-plain here item base keys completed within is own plain far =
      record { same = far.same; left = ap (λ names. each_once completed (names ++ completed_in (map item_tree (drop (here + 1) items)))) (sym (none base plain) ∙ ap (λ b. completed_by (base_tree b)) own) ∙ far-next here item keys completed within is far }
    where
      none : (base : Base) → ((place : _) (name : _) (members : _) → base ≡ O.Struct place name members → ⊥) → completed_by (base_tree base) ≡ []
      none (O.Simple simple) h = refl
      none (O.Struct place name members) h = absurd (h place name members refl)

  -- one that completes a structure, whose tag is put into the set
  module _ (here : ℕ) (item : Item) (base : Base) (place : _) (name : _) (members : _) (keys keys' : List (Vec ℕ Z)) (key : Vec ℕ Z) (completed : List (List ℕ)) (within : here < length items) (is : item ≡ get_or items here item) (own : base ≡ base_of item) (struct : base ≡ O.Struct place name members) (far : CompletedFar items here keys completed)
      (bytes : key.items ≡ name.bytes) (inserted : keys' ≡ insert_key (λ (a b : Vec ℕ Z). bytes_eq a.items b.items) keys key) where
    with_same : names_of keys' ≡ with_once completed name.bytes
    with_same = ap names_of inserted ∙ names_with keys key name.bytes bytes ∙ ap (λ names. with_once names name.bytes) far.same

    with_left : each_once (with_once completed name.bytes) (completed_in (map item_tree (drop (here + 1) items))) ≡ each_once [] (completed_in (map item_tree items))
    with_left = ap (λ b. each_once completed (completed_by (base_tree b) ++ completed_in (map item_tree (drop (here + 1) items)))) (sym struct ∙ own) ∙ far-next here item keys completed within is far

    has : list_any (λ (k : Vec ℕ Z). bytes_eq key.items k.items) keys ≡ contains completed name.bytes
    has = contains_names key.items keys ∙ (λ i. contains (far.same i) (bytes i))

    -- the tag is new
    pub far-new : (completed' : List (List ℕ)) → not (list_any (λ (k : Vec ℕ Z). bytes_eq key.items k.items) keys) ≡ true → completed' ≡ completed ++ name.bytes ∷ [] → CompletedFar items (here + 1) keys' completed'
    far-new completed' new pushed =
        let e : completed' ≡ with_once completed name.bytes = pushed ∙ ap (λ b. if b then completed else completed ++ name.bytes ∷ []) (sym (sym has ∙ isnt _ new)) in
        record { same = with_same ∙ sym e; left = ap (λ names. each_once names (completed_in (map item_tree (drop (here + 1) items)))) e ∙ with_left }
      where
        isnt : (b : Bool) → not b ≡ true → b ≡ false
        isnt false h = refl
        isnt true h = sym h

    -- the tag was there
    pub far-there : not (list_any (λ (k : Vec ℕ Z). bytes_eq key.items k.items) keys) ≡ false → CompletedFar items (here + 1) keys' completed
    far-there new =
        let e : completed ≡ with_once completed name.bytes = ap (λ b. if b then completed else completed ++ name.bytes ∷ []) (sym (sym has ∙ is_there _ new)) in
        record { same = with_same ∙ sym e; left = ap (λ names. each_once names (completed_in (map item_tree (drop (here + 1) items)))) e ∙ with_left }
      where
        is_there : (b : Bool) → not b ≡ false → b ≡ true
        is_there true h = refl
        is_there false h = sym h

  pub far-all : (here : ℕ) (keys : List (Vec ℕ Z)) (completed : List (List ℕ)) → length items ≤ here → CompletedFar items here keys completed → completed ≡ each_once [] (completed_in (map item_tree items))
  far-all here keys completed past far = ap (λ (left : List Item). each_once completed (completed_in (map item_tree left))) (sym (drop_all here items past)) ∙ far.left

pub map_same : {A : Type 0} (xs : List A) → map (λ x. x) xs ≡ xs
map_same [] = refl
map_same (x ∷ xs) = ap (λ xs. x ∷ xs) (map_same xs)
