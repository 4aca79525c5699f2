-- What is marked of the locals that a typed statement takes, and what it adds of those that it declares, by the parts of a statement.
use Rattle.std.proofs.Common.{◌≡◌, ℕ, zero, suc, ◌+◌, ◌<◌, ◌≤◌, Bool, false, ◌||◌, List, [], ◌∷◌, ◌++◌, length, get_or, take, drop, slice_get, Some, inl, inr, ◌⊎◌, refl, sym, ap, subst, ◌∙◌, arith, length-append, add-one}
use Rattle.std.proofs.lemmas.List.{take_at, drop_at, take_all, length_push}
use Rattle.std.proofs.lemmas.Bool.{cases_lt}
use Rattle.std.specs.Prelude.{Option}
use Rattle.c_typed.specs.declared.statement.BlockItem as memory_item
use Rattle.c_typed.specs.declared.statement.BlockItem.TheVariants as B
use Rattle.c_typed.specs.declared.statement.SwitchItem as memory_switch
use Rattle.c_typed.specs.declared.statement.SwitchItem.TheVariants as W
use Rattle.c_typed.specs.Typed as T
use Rattle.c_typed.specs.Typed.{Stmt, Block, SwitchItems, Value, LocalDef}
use Rattle.c_typed.specs.Table.{Interned}
use Rattle.c_typed.specs.StatementViews.{local_in, stmt_in, block_in, switch_in}
use Rattle.tac_build.specs.declared.addressed.Search.{Search}
use Rattle.tac_build.specs.Homes.{takes, takes_optional, takes_stmt, takes_block, takes_items}
use Rattle.tac_build.specs.Taken.{taken_stmt, taken_block, taken_items}
use Rattle.tac_build.specs.Marks.{marked, Marks, Within, Declares, Passes, PassesStmt, PassesBlock, PassesItems}
use Rattle.tac_build.proofs.Marking.{or_no, marks_none, marked_none, marked_new, within_more, within_push}
use Rattle.tac_build.proofs.MarkedTrees.{next_left}
use Rattle.tac_build.proofs.Opening.{passes_marks, passes_then, passes_marked, Left, left_first, left_more, left_end}

pub passes_nothing : (s : Search) → Passes s s (λ n. false) (λ depth. [])
passes_nothing s = passes_marks s s (λ n. false) (marks_none s)

pub passes_value : (old new : Search) (value : Value) → Marks old new (λ n. takes false n value) → PassesStmt old new (T.Expression value)
passes_value old new value marks = passes_marks old new (λ n. takes false n value) marks

pub passes_return : (old new : Search) (value : Option Value) → Marks old new (λ n. takes_optional n value) → PassesStmt old new (T.Return value)
passes_return old new value marks = passes_marks old new (λ n. takes_optional n value) marks

pub passes_if : (old mid new : Search) (condition : Value) (taken : Stmt) → Marks old mid (λ n. takes false n condition) → PassesStmt mid new taken → PassesStmt old new (T.If condition taken)
passes_if old mid new condition taken marks passes =
    passes_then old mid new (λ n. takes false n condition) (λ n. takes_stmt n taken) (λ depth. []) (λ depth. taken_stmt depth taken) (passes_marks old mid (λ n. takes false n condition) marks) passes

pub passes_choice : (old mid far new : Search) (condition : Value) (taken otherwise : Stmt) → Marks old mid (λ n. takes false n condition) → PassesStmt mid far taken → PassesStmt far new otherwise → PassesStmt old new (T.IfElse condition taken otherwise)
passes_choice old mid far new condition taken otherwise marks first second =
    passes_then old mid new (λ n. takes false n condition) (λ n. takes_stmt n taken || takes_stmt n otherwise) (λ depth. []) (λ depth. taken_stmt depth taken ++ taken_stmt depth otherwise)
    (passes_marks old mid (λ n. takes false n condition) marks)
    (passes_then mid far new (λ n. takes_stmt n taken) (λ n. takes_stmt n otherwise) (λ depth. taken_stmt depth taken) (λ depth. taken_stmt depth otherwise) first second)

pub passes_do : (old mid new : Search) (body : Stmt) (condition : Value) → PassesStmt old mid body → Marks mid new (λ n. takes false n condition) → PassesStmt old new (T.DoWhile body condition)
passes_do old mid new body condition passes marks = passes_marked old mid new (λ n. takes_stmt n body) (λ n. takes false n condition) (λ depth. taken_stmt depth body) passes marks

pub passes_switch : (old mid new : Search) (value : Value) (items : SwitchItems) → Marks old mid (λ n. takes false n value) → PassesItems mid new items → PassesStmt old new (T.Switch value items)
passes_switch old mid new value items marks passes =
    passes_then old mid new (λ n. takes false n value) (λ n. takes_items n items) (λ depth. []) (λ depth. taken_items depth items) (passes_marks old mid (λ n. takes false n value) marks) passes

-- ---- the items of a block

abbrev pub BlockLeft : Search → Search → Block → Block → Type 0
BlockLeft old now left all =
    Left old now (λ n. takes_block n left) (taken_block (length now.scope.items) left) (marked old.scope.items (λ n. takes_block n all) old.flags.items ++ taken_block (length old.scope.items) all)

abbrev pub BlockItemPasses : Interned → Search → Search → memory_item.BlockItem → Type 0
BlockItemPasses table now next (B.Local local) = Declares now next (local_in table local)
BlockItemPasses table now next (B.Statement stmt) = PassesStmt now next (stmt_in table stmt)

block_item : (table : Interned) (old now next : Search) (item : memory_item.BlockItem) (others : List memory_item.BlockItem) (all : Block)
    → BlockLeft old now (block_in table (item ∷ others)) all → BlockItemPasses table now next item → BlockLeft old next (block_in table others) all
block_item table old now next (B.Local local) others all h passes =
    let here = length now.scope.items in
    let tree : LocalDef = local_in table local in
    left_more old now next (suc here) (λ n. takes_optional n tree.first) (λ n. takes_block n (block_in table others)) (λ later. (takes_optional here tree.first || later here) ∷ []) (λ depth. taken_block depth (block_in table others))
    (marked old.scope.items (λ n. takes_block n all) old.flags.items ++ taken_block (length old.scope.items) all) h passes
block_item table old now next (B.Statement stmt) others all h passes =
    let here = length now.scope.items in
    left_more old now next here (λ n. takes_stmt n (stmt_in table stmt)) (λ n. takes_block n (block_in table others)) (λ later. taken_stmt here (stmt_in table stmt)) (λ depth. taken_block depth (block_in table others))
    (marked old.scope.items (λ n. takes_block n all) old.flags.items ++ taken_block (length old.scope.items) all) h passes

pub block_turn : (table : Interned) (old now next : Search) (items : List memory_item.BlockItem) (here : ℕ) (item : memory_item.BlockItem) (all : Block)
    → here < length items → item ≡ get_or items here item
    → BlockLeft old now (block_in table (drop here items)) all → BlockItemPasses table now next item → BlockLeft old next (block_in table (drop (here + 1) items)) all
block_turn table old now next items here item all within is h passes =
    block_item table old now next item (drop (here + 1) items) all (subst (λ left. BlockLeft old now (block_in table left) all) (next_left items here item within is) h) passes

pub block_end : (old now new : Search) (all : Block) → (Within old.scope.items (length old.flags.items) → BlockLeft old now T.Close all)
    → new.scope.items ≡ take (length old.scope.items) now.scope.items → new.flags.items ≡ now.flags.items → PassesBlock old new all
block_end old now new all left scope flags = left_end old now new (λ n. takes_block n all) (taken_block (length old.scope.items) all) left scope flags

-- ---- the items of a `switch`

pub record ItemsLeft (old now : Search) (left all : SwitchItems) : Type 0 where
  pub depth : length now.scope.items ≡ length old.scope.items
  pub left_of : Left old now (λ n. takes_items n left) (taken_items (length now.scope.items) left) (marked old.scope.items (λ n. takes_items n all) old.flags.items ++ taken_items (length old.scope.items) all)

pub items_first : (old : Search) (all : SwitchItems) → Within old.scope.items (length old.flags.items) → ItemsLeft old old all all
items_first old all w = record { depth = refl; left_of = left_first old (λ n. takes_items n all) (taken_items (length old.scope.items) all) w }

abbrev pub SwitchItemPasses : Interned → Search → Search → memory_switch.SwitchItem → Type 0
SwitchItemPasses table now next (W.Case label) = Passes now next (λ n. false) (λ depth. [])
SwitchItemPasses table now next W.Default = Passes now next (λ n. false) (λ depth. [])
SwitchItemPasses table now next (W.Statement stmt) = PassesStmt now next (stmt_in table stmt)

items_more : (old now next : Search) (one : ℕ → Bool) (taken : ℕ → List Bool) (here others all : SwitchItems)
    → ((n : ℕ) → takes_items n here ≡ (one n || takes_items n others)) → ((depth : ℕ) → taken_items depth here ≡ taken depth ++ taken_items depth others)
    → ItemsLeft old now here all → Passes now next one taken → ItemsLeft old next others all
items_more old now next one taken here others all takes_split taken_split h passes =
    let depth = length now.scope.items in
    let whole = marked old.scope.items (λ n. takes_items n all) old.flags.items ++ taken_items (length old.scope.items) all in
    record {
      depth = (passes h.left_of.within).reached ∙ h.depth;
      left_of =
          left_more old now next depth one (λ n. takes_items n others) (λ later. taken depth) (λ depth. taken_items depth others) whole
          (subst (λ added. Left old now (λ n. one n || takes_items n others) added whole) (taken_split depth)
          (subst (λ f. Left old now f (taken_items depth here) whole) (λ i. λ n. takes_split n i) h.left_of))
          passes;
    }

switch_item : (table : Interned) (old now next : Search) (item : memory_switch.SwitchItem) (others : List memory_switch.SwitchItem) (all : SwitchItems)
    → ItemsLeft old now (switch_in table (item ∷ others)) all → SwitchItemPasses table now next item → ItemsLeft old next (switch_in table others) all
switch_item table old now next (W.Case label) others all h passes = items_more old now next (λ n. false) (λ depth. []) (switch_in table (W.Case label ∷ others)) (switch_in table others) all (λ n. refl) (λ depth. refl) h passes
switch_item table old now next W.Default others all h passes = items_more old now next (λ n. false) (λ depth. []) (switch_in table (W.Default ∷ others)) (switch_in table others) all (λ n. refl) (λ depth. refl) h passes
switch_item table old now next (W.Statement stmt) others all h passes = items_more old now next (λ n. takes_stmt n (stmt_in table stmt)) (λ depth. taken_stmt depth (stmt_in table stmt)) (switch_in table (W.Statement stmt ∷ others)) (switch_in table others) all (λ n. refl) (λ depth. refl) h passes

pub items_turn : (table : Interned) (old now next : Search) (items : List memory_switch.SwitchItem) (here : ℕ) (item : memory_switch.SwitchItem) (all : SwitchItems)
    → here < length items → item ≡ get_or items here item
    → ItemsLeft old now (switch_in table (drop here items)) all → SwitchItemPasses table now next item → ItemsLeft old next (switch_in table (drop (here + 1) items)) all
items_turn table old now next items here item all within is h passes =
    switch_item table old now next item (drop (here + 1) items) all (subst (λ left. ItemsLeft old now (switch_in table left) all) (next_left items here item within is) h) passes

pub items_end : (old now : Search) (all : SwitchItems) → (Within old.scope.items (length old.flags.items) → ItemsLeft old now T.SwitchEnd all) → PassesItems old now all
items_end old now all left w =
    left_end old now now (λ n. takes_items n all) (taken_items (length old.scope.items) all) (λ w. (left w).left_of)
    (sym (take_all (length old.scope.items) now.scope.items (let depth = (left w).depth in omega (arith, depth)))) refl w

-- ---- parameters, which are in scope first

abbrev pub first_flags : (ℕ → Bool) → ℕ → List Bool
first_flags f zero = []
first_flags f (suc count) = first_flags f count ++ f count ∷ []

pub length_first : (f : ℕ → Bool) (count : ℕ) → length (first_flags f count) ≡ count
length_first f zero = refl
length_first f (suc count) = let before = length_first f count in let more = length_push (first_flags f count) (f count) in omega (arith, before, more)

get_before : (flags more : List Bool) (n : ℕ) → n < length flags → slice_get (flags ++ more) n ≡ slice_get flags n
get_before [] more n h = absurd (omega (arith, h))
get_before (first ∷ others) more zero h = refl
get_before (first ∷ others) more (suc n) h = get_before others more n (omega (arith, h))

get_behind : (flags : List Bool) (last : Bool) (n : ℕ) → n ≡ length flags → slice_get (flags ++ last ∷ []) n ≡ Some last
get_behind [] last zero h = refl
get_behind [] last (suc n) h = absurd (omega (arith, h))
get_behind (first ∷ others) last zero h = absurd (omega (arith, h))
get_behind (first ∷ others) last (suc n) h = get_behind others last n (omega (arith, h))

get_either : (f : ℕ → Bool) (count n : ℕ) → ((m : ℕ) → m < count → slice_get (first_flags f count) m ≡ Some (f m)) → (n < count) ⊎ (count ≤ n) → n < suc count → slice_get (first_flags f (suc count)) n ≡ Some (f n)
get_either f count n before (inl less) h =
    let long = length_first f count in
    get_before (first_flags f count) (f count ∷ []) n (omega (arith, less, long)) ∙ before n less
get_either f count n before (inr beyond) h =
    let long = length_first f count in
    let same : n ≡ count = omega (arith, h, beyond) in
    get_behind (first_flags f count) (f count) n (omega (arith, same, long)) ∙ ap (λ m. Some (f m)) (sym same)

pub get_first : (f : ℕ → Bool) (count n : ℕ) → n < count → slice_get (first_flags f count) n ≡ Some (f n)
get_first f zero n h = absurd (omega (arith, h))
get_first f (suc count) n h = get_either f count n (get_first f count) (cases_lt n count) h

pub record Fresh (s : Search) (count : ℕ) : Type 0 where
  pub flags_count : length s.flags.items ≡ count
  pub depth : length s.scope.items ≡ count
  pub within : Within s.scope.items (length s.flags.items)
  pub flags : (f : ℕ → Bool) → marked s.scope.items f s.flags.items ≡ first_flags f count

pub fresh_none : (s : Search) → s.flags.items ≡ [] → s.scope.items ≡ [] → Fresh s 0
unfolding marked Within
fresh_none s flags scope = record {
  flags_count = ap length flags;
  depth = ap length scope;
  within = subst (λ places. Within places (length s.flags.items)) (sym scope) tt;
  flags = λ f. (λ i. marked (scope i) f (flags i));
}

pub fresh_more : (old new : Search) (count : ℕ) → Fresh old count → new.flags.items ≡ old.flags.items ++ false ∷ [] → new.scope.items ≡ old.scope.items ++ count ∷ [] → Fresh new (count + 1)
fresh_more old new count h flags scope =
    let more = length_push old.flags.items false in
    let deeper = length_push old.scope.items count in
    let has = h.flags_count in
    let had = h.depth in
    record {
      flags_count = ap length flags ∙ more ∙ ap (λ n. n + 1) has;
      depth = ap length scope ∙ deeper ∙ ap (λ n. n + 1) had;
      within =
          subst (λ places. Within places (length new.flags.items)) (sym scope)
          (subst (λ flags. Within (old.scope.items ++ count ∷ []) (length flags)) (sym flags)
          (within_push old.scope.items count (length (old.flags.items ++ false ∷ []))
          (within_more old.scope.items (length old.flags.items) (length (old.flags.items ++ false ∷ [])) h.within (omega (arith, more)))
          (omega (arith, more, has))));
      flags = λ f.
          (λ i. marked (scope i) f (flags i))
          ∙ (λ i. marked (old.scope.items ++ sym has i ∷ []) f (old.flags.items ++ false ∷ []))
          ∙ marked_new old.scope.items f old.flags.items false h.within
          ∙ (λ i. h.flags f i ++ f (had i) ∷ [])
          ∙ ap (λ n. first_flags f n) (sym (add-one count));
    }

-- what the search of a body leaves
pub found_parameters : (old new : Search) (count : ℕ) (all : Block) → Fresh old count → PassesBlock old new all → new.flags.items ≡ first_flags (λ n. takes_block n all) count ++ taken_block count all
found_parameters old new count all h passes =
    let k = passes h.within in
    let f : ℕ → Bool = λ n. takes_block n all in
    sym (marked_none new.scope.items new.flags.items) ∙ k.flags (λ n. false)
    ∙ (λ i. marked old.scope.items (λ n. or_no (f n) i) old.flags.items ++ taken_block (h.depth i) all)
    ∙ ap (λ flags. flags ++ taken_block count all) (h.flags f)

pub length_found : (f : ℕ → Bool) (count : ℕ) (flags more : List Bool) → flags ≡ first_flags f count ++ more → count ≤ length flags
length_found f count flags more is =
    let long = length_first f count in
    let all = length-append (first_flags f count) more in
    omega (arith, ap length is, long, all)

pub take_found : (f : ℕ → Bool) (count : ℕ) (flags more : List Bool) → flags ≡ first_flags f count ++ more → take count flags ≡ first_flags f count
take_found f count flags more is = ap (λ flags. take count flags) is ∙ take_at (first_flags f count) more count (length_first f count)

pub drop_found : (f : ℕ → Bool) (count : ℕ) (flags more : List Bool) → flags ≡ first_flags f count ++ more → drop count flags ≡ more
drop_found f count flags more is = ap (λ flags. drop count flags) is ∙ drop_at (first_flags f count) more count (length_first f count)
