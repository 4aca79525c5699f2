-- Items, step by step.
use Rattle.std.proofs.Common.{◌≡◌, ℕ, ◌≤◌, Bool, true, List, [], ◌∷◌, Result, Ok, Err, Option, Some, sym, refl, ◌∙◌, ap, subst, arith}
use Rattle.std.specs.Prelude.{◌<◌, length, IfOk, IfSome}
use Rattle.run_theory.specs.declared.place.Pos.{Pos}
use Rattle.c_grammar.specs.Table.{Symbol, Terminal, Nonterminal, Alone, Nothing, Then, Node}
use Rattle.c_grammar.specs.Runs.{Job, Parts, Whole, Fault, Bad, Done, Failed, Run, at_end, unfit, token_done, token_failed, part_done, part_failed}
use Rattle.c_grammar.specs.declared.kind.Kind.{Kind}
use Rattle.c_grammar.specs.declared.kind.Kind.TheVariants as K
use Rattle.c_grammar.specs.declared.words.Words.{Words}
use Rattle.c_grammar.specs.declared.words.Words.TheVariants.{NoWord, FullType}
use Rattle.c_grammar.specs.Forms
use Rattle.c_grammar.specs.Kinds.{is}
use Rattle.c_grammar.proofs.LanguageTells.{is_self}
use Rattle.c_grammar.specs.Leaves.{Leaf, leaves_of}
use Rattle.c_syntax.specs.declared.name.Name as memory_name
use Rattle.c_syntax.specs.declared.declaration.Item.{Item}
use Rattle.c_syntax.specs.Trees
use Rattle.c_syntax.specs.Views.{name_tree, item_tree}
use Rattle.c_reader.specs.declared.part.Part as memory_part
use Rattle.c_reader.specs.declared.syntax_err.SyntaxErr.{SyntaxErr}
use Rattle.c_reader.specs.declared.syntax_err.SyntaxErr.TheVariants.{At, TooDeep, OutOfMemory}
use Rattle.c_reader.specs.Grammar.{grammar, Parse}
use Rattle.c_reader.specs.Shapes.{name_of, type_of_words, declarator_of, declared_of, struct_of, base_from, item_of, member_of, more_members_of}
use Rattle.c_reader.specs.Readings.{Fails, Begins, Passes}
use Rattle.c_reader.specs.Steps.{IsUnfit, PassesName, PassesWords, EndsWords}
use Rattle.c_reader.specs.Rows.{Tells, Found, GivesPart}
use Rattle.c_reader.specs.ItemLists.{struct_from, after_of}
use Rattle.c_reader.proofs.Rows.{begin, finished, onto_lifts}
use Rattle.c_reader.proofs.Rows as rows
use Rattle.c_reader.proofs.Reaching as reaching
use Rattle.c_reader.proofs.Reaching.{Row, Reached, part_at}
use Rattle.c_reader.proofs.WordRows.{begins_passed, ended, word_kinds}

-- what the last symbol of a row gives
pub part_through : {job : Job Leaf Kind Forms.Sort Forms.Production} {room below : ℕ} {text rest : List Leaf} {wrap : Parse → Parse} {sort : Forms.Sort} {B A : Type 0} (shape_of shape_mid : Parse → A) (tree_of : B → A) (result : Result (memory_part.Part B) SyntaxErr) → Reached job room text wrap (Nonterminal sort 0 ∷ []) below rest → ((parse : Parse) → shape_of (wrap (Then parse Nothing)) ≡ shape_mid parse) → GivesPart (Whole sort 0) below rest shape_mid tree_of result → GivesPart job room text shape_of tree_of result
part_through {wrap = wrap} shape_of shape_mid tree_of (Ok part) r e given = record {
  parse = wrap (Then given.parse Nothing);
  run = r.done (Then given.parse Nothing) (leaves_of part.rest.now) (part_done given.run at_end);
  shape = e given.parse ∙ given.shape;
}
part_through shape_of shape_mid tree_of (Err fault) r e given = part_at fault r given

-- a name
pub name : {job : Job Leaf Kind Forms.Sort Forms.Production} {room below : ℕ} {text rest rest' : List Leaf} {wrap : Parse → Parse} {symbols : List (Symbol Kind Forms.Sort)} {tree : Trees.NameTree} → Reached job room text wrap (Terminal K.Name ∷ symbols) below rest → (p : PassesName rest tree rest') → Reached job room text (λ others. wrap (Then (Alone p.leaf) others)) symbols below rest'
name {below = below} {symbols = symbols} r p = record {
  done = λ others behind run. r.done (Then (Alone p.leaf) others) behind (subst (λ x. Run grammar (Parts (Terminal K.Name ∷ symbols)) below x (Done (Then (Alone p.leaf) others) behind)) (sym p.parts) (token_done (ap (is K.Name) p.is_kind ∙ is_self K.Name) run));
  failed = λ why behind run. r.failed why behind (subst (λ x. Run grammar (Parts (Terminal K.Name ∷ symbols)) below x (Failed why behind)) (sym p.parts) (token_failed (ap (is K.Name) p.is_kind ∙ is_self K.Name) run));
}

pub no_name_at : {job : Job Leaf Kind Forms.Sort Forms.Production} {room below : ℕ} {text rest : List Leaf} {wrap : Parse → Parse} {symbols : List (Symbol Kind Forms.Sort)} (fault : SyntaxErr) → Reached job room text wrap (Terminal K.Name ∷ symbols) below rest → IsUnfit K.Name rest fault → Fails job room text fault
no_name_at {rest = rest} (At place) r u = record { behind = rest; run = r.failed Bad rest (unfit u.0); stands = u.1 }
no_name_at (TooDeep place) r u = absurd u
no_name_at OutOfMemory r u = tt

pub declared_after : (base : Trees.BaseTree) (declarator after : Parse) (tree : Trees.DeclaratorTree) → declarator_of declarator ≡ tree → declared_of base (Node Forms.DeclaredRow (Then declarator (Then after Nothing))) ≡ after_of base tree after
declared_after base declarator after tree e = by_shape after ∙ ap (λ d. after_of base d after) e
  where
    by_shape : (after : Parse) → declared_of base (Node Forms.DeclaredRow (Then declarator (Then after Nothing))) ≡ after_of base (declarator_of declarator) after
    by_shape (Node Forms.FunctionBody (Then body Nothing)) = refl
    by_shape (Node Forms.DeclaredValues (Then value (Then others Nothing))) = refl
    by_shape after = refl

pub struct_is : (place place' : Pos) (leaf : Leaf) (members : Parse) (named : memory_name.Name) → place ≡ place' → name_of leaf ≡ name_tree named → struct_of place leaf members ≡ struct_from place' named members
struct_is place place' leaf members named at e = by_shape members ∙ ap (λ p. struct_from p named members) at
  where
    by_shape : (members : Parse) → struct_of place leaf members ≡ struct_from place named members
    by_shape (Node Forms.Members (Then opening (Then member (Then others Nothing)))) = ap (λ n. Trees.StructBody place n (member_of member ∷ more_members_of others)) e
    by_shape members = ap (λ n. Trees.Plain (record { place = place; words = Trees.StructTag n })) e

-- ---- the words of a type

-- words that are all there are
pub words_all : {own : Bool} {room : ℕ} {text rest : List Leaf} {words now : Words} {kind : Kind} (place : Pos) → PassesWords own room text words rest now → EndsWords now rest → Begins kind rest → (now ≡ NoWord → ⊥) → Found (Whole (Forms.Base own words) 0) room text (base_from place) (Trees.Plain (record { place = place; words = type_of_words now })) rest
words_all {own = own} {now = now} place so_far ends begins other =
    let kinds = word_kinds now other in
    let tree : Parse = Node (Forms.BaseEnd own now) Nothing in
    record {
      parse = so_far.build tree;
      run = so_far.onto.done (finished (λ level own' kind. refl) (begin (ended own now ends begins kinds.0 kinds.1) refl));
      shape = so_far.base place tree;
    }

-- and those behind a struct
pub words_behind : {own : Bool} {room : ℕ} {text rest : List Leaf} {now : Words} {kind : Kind} (place : Pos) → PassesWords own room text FullType rest now → EndsWords now rest → Begins kind rest → Found (Whole (Forms.Base own FullType) 0) room text (base_from place) (Trees.Plain (record { place = place; words = type_of_words now })) rest
words_behind {now = now} place so_far ends begins = words_all place so_far ends begins (λ none. not_none (so_far.stays refl) none)
  where
    not_none : now ≡ FullType → now ≡ NoWord → ⊥
    not_none full none =
        let clash : FullType ≡ NoWord = sym full ∙ none in
        cc clash

-- words in front of `struct`
pub words_before : {own : Bool} {room : ℕ} {text middle : List Leaf} {words now : Words} {B : Type 0} (place : Pos) (tree_of : B → Trees.BaseTree) (result : Result (memory_part.Part B) SyntaxErr) → PassesWords own room text words middle now → now ≡ NoWord → GivesPart (Whole (Forms.Base own NoWord) 0) room middle (base_from place) tree_of result → GivesPart (Whole (Forms.Base own words) 0) room text (base_from place) tree_of result
words_before {own = own} {room = room} {text = text} {middle = middle} {words = words} place tree_of (Ok part) so_far none given =
    let here : PassesWords own room text words middle NoWord = subst (λ w. PassesWords own room text words middle w) none so_far in
    record { parse = here.build given.parse; run = here.onto.done given.run; shape = here.base place given.parse ∙ given.shape }
words_before {own = own} {room = room} {text = text} {middle = middle} {words = words} place tree_of (Err fault) so_far none given =
    let here : PassesWords own room text words middle NoWord = subst (λ w. PassesWords own room text words middle w) none so_far in
    rows.lift fault (onto_lifts here.onto) given

pub struct_row : {text behind : List Leaf} {place : Pos} (room : ℕ) → Passes K.Struct text place behind → Row (Forms.Base true NoWord) (Forms.BaseStruct true) room room text
struct_row room passes = record {
  kind = K.Struct;
  begins = begins_passed passes;
  tells = record { told = λ next. refl };
  fits = omega arith;
  down = omega arith;
  ends = record { ends = λ own kind. refl };
}

-- ---- words of storage

-- What an item comes to from the rest of the leaves, it comes to from all: what was passed are words of storage.
pub record Stored (room : ℕ) (text rest : List Leaf) : Type 0 where
  pub done : (tree : Trees.ItemTree) (behind : List Leaf) → Found (Whole Forms.Item 0) room rest item_of tree behind → Found (Whole Forms.Item 0) room text item_of tree behind
  pub failed : (why : Fault) (behind : List Leaf) → Run grammar (Whole Forms.Item 0) room rest (Failed why behind) → Run grammar (Whole Forms.Item 0) room text (Failed why behind)

pub stored_none : {room : ℕ} {text : List Leaf} → Stored room text text
stored_none = record { done = λ tree behind f. f; failed = λ why behind run. run }

pub stored_word : {room : ℕ} {text rest rest' : List Leaf} {kind : Kind} {place : Pos} → Stored room text rest → Begins kind rest → Tells Forms.Item kind (Forms.Storage kind) → Passes kind rest place rest' → Stored room text rest'
stored_word {room = room} {rest = rest} {kind = kind} so_far begins tells passes =
    let row : Row Forms.Item (Forms.Storage kind) room room rest = record { kind = kind; begins = begins; tells = tells; fits = omega arith; down = omega arith; ends = record { ends = λ own other. refl } } in
    let r = reaching.token (reaching.begin row) passes in
    record {
      done = λ tree behind f. so_far.done tree behind (record {
        parse = Node (Forms.Storage kind) (Then (Alone passes.leaf) (Then f.parse Nothing));
        run = r.done (Then f.parse Nothing) behind (part_done f.run at_end);
        shape = f.shape;
      });
      failed = λ why behind run. so_far.failed why behind (r.failed why behind (part_failed run));
    }

pub stored_fails : {room : ℕ} {text rest : List Leaf} (fault : SyntaxErr) → Stored room text rest → Fails (Whole Forms.Item 0) room rest fault → Fails (Whole Forms.Item 0) room text fault
stored_fails fault so_far fails = rows.lift fault (record { run = λ {why} {behind} run. so_far.failed why behind run }) fails

pub stored_gives : {room : ℕ} {text rest : List Leaf} (result : Result (memory_part.Part Item) SyntaxErr) → Stored room text rest → GivesPart (Whole Forms.Item 0) room rest item_of item_tree result → GivesPart (Whole Forms.Item 0) room text item_of item_tree result
stored_gives (Ok part) so_far given = so_far.done (item_tree part.value) (leaves_of part.rest.now) given
stored_gives (Err fault) so_far given = stored_fails fault so_far given

pub some_less : {V : Type 0} {n m : ℕ} {given : Option V} {value : V} → given ≡ Some value → IfSome given (λ v. n < m) → n < m
some_less {n = n} {m = m} is less = subst (λ o. IfSome o (λ v. n < m)) is less

pub less_rest : {B : Type 0} {n m : ℕ} (result : Result (memory_part.Part B) SyntaxErr) → n ≤ m → IfOk result (λ part. length part.rest.now < n) → IfOk result (λ part. length part.rest.now < m)
less_rest (Ok part) within less = omega (arith, within, less)
less_rest (Err fault) within less = tt
