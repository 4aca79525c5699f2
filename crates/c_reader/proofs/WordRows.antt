-- The words of a type, read one after another.
use Rattle.std.proofs.Common.{◌≡◌, ℕ, ◌<◌, Bool, true, false, ◌&&◌, ◌⊎◌, inl, inr, List, [], ◌∷◌, Some, None, refl, sym, ◌∙◌, ap, subst, arith}
use Rattle.run_theory.specs.declared.place.Pos.{Pos}
use Rattle.c_grammar.specs.Table.{Terminal, Nonterminal, Alone, Nothing, Then, Node, Never, Take, height, leaves}
use Rattle.c_grammar.specs.Runs.{Whole, fits_first}
use Rattle.c_grammar.specs.declared.kind.Kind.{Kind}
use Rattle.c_grammar.specs.declared.kind.Kind.TheVariants as K
use Rattle.c_grammar.specs.Kinds.{is}
use Rattle.c_grammar.specs.declared.words.Words.{Words}
use Rattle.c_grammar.specs.declared.words.Words.TheVariants.{NoWord, FullType, Integers}
use Rattle.c_grammar.specs.Forms
use Rattle.c_grammar.specs.Chooses.{take_if, is_start, by_word}
use Rattle.c_grammar.proofs.LanguageTells.{is_swap}
use Rattle.c_grammar.specs.Leaves.{Leaf, kind_of}
use Rattle.c_syntax.specs.Trees
use Rattle.c_reader.specs.declared.syntax_err.SyntaxErr.{SyntaxErr}
use Rattle.c_reader.specs.declared.syntax_err.SyntaxErr.TheVariants.{At}
use Rattle.c_reader.specs.Grammar.{grammar, Parse}
use Rattle.c_reader.specs.Shapes.{place_of, simple_of, words_of, type_of_words}
use Rattle.c_reader.specs.Readings.{Fails, IsRead, Begins, Passes}
use Rattle.c_reader.specs.Steps.{IsUnfit, PassesName, PassesWord, PassesWords, EndsWords}
use Rattle.c_reader.proofs.KindTests.{is_other, by_test}
use Rattle.c_reader.proofs.Rows.{Within, Chosen, chosen, no_tokens, no_row, lift, onto_lifts, part_lifts, begin, behind_token, behind_part, tail, nothing_yet, finished, unfit_fault}

pub no_words : (own : Bool) (room : ℕ) (text : List Leaf) (words : Words) → PassesWords own room text words text words
no_words own room text words = record {
  build = λ tree. tree;
  onto = nothing_yet;
  high = λ tree. refl;
  simple = λ tree. refl;
  base = λ place tree. refl;
  stays = λ full. full;
  place = λ untyped tree begins. same_place untyped tree begins;
}
  where
    same_place : Forms.is_type words ≡ false → (tree : Parse) → (Forms.is_type words ≡ true) ⊎ (place_of (leaves tree) ≡ place_of text) → place_of (leaves tree) ≡ place_of text
    same_place untyped tree (inl typed) =
        let clash : true ≡ false = sym typed ∙ untyped in
        absurd (cc clash)
    same_place untyped tree (inr same) = same

-- `struct` is no word that others may be added to.
not_struct : (kind : Kind) (words next : Words) → Forms.with_word kind words ≡ Some next → is kind K.Struct ≡ false
not_struct kind words next told = is_other kind K.Struct (λ same. clash same told)
  where
    clash : kind ≡ K.Struct → Forms.with_word kind words ≡ Some next → ⊥
    clash same told' =
        let both : None ≡ Some next = sym (ap (λ k. Forms.with_word k words) same) ∙ told' in
        cc both

full_stays : (kind : Kind) (next : Words) → Forms.with_word kind FullType ≡ Some next → next ≡ FullType
full_stays K.Const next told = cc told
full_stays _ next told = cc told

at_leaf : {leaf : Leaf} {text behind : List Leaf} → text ≡ leaf ∷ behind → Begins (kind_of leaf) text
at_leaf {leaf = leaf} {behind = behind} parts = record { leaf = leaf; behind = behind; parts = parts; is_kind = refl }

by_next : (own : Bool) (now next : Words) {text rest : List Leaf} (passes : PassesWord now text next rest) → Chosen (Forms.Base own now) 0 text (Take (Forms.BaseWord own now (kind_of passes.leaf) next) 0 0)
by_next own now next passes =
    let kind = kind_of passes.leaf in
    chosen (Forms.Base own now) 0 (at_leaf passes.parts) (ap (λ t. take_if (t && is_start now) (Forms.BaseStruct own) (by_word own now kind (Forms.with_word kind now))) (not_struct kind now next passes.told) ∙ ap (by_word own now kind) passes.told)

pub one_word : {own : Bool} {room : ℕ} {text middle rest : List Leaf} {words now next : Words} → PassesWords own room text words middle now → PassesWord now middle next rest → PassesWords own room text words rest next
one_word {own = own} {room = room} {text = text} {words = words} {now = now} {next = next} so_far passes =
    let kind = kind_of passes.leaf in
    let node : Parse → Parse = λ tree. Node (Forms.BaseWord own now kind next) (Then (Alone passes.leaf) (Then tree Nothing)) in
    record {
      build = λ tree. so_far.build (node tree);
      onto = tail (λ level own' kind'. refl) so_far.onto (behind_token passes.leaf (begin (by_next own now next passes) refl) passes.parts refl);
      high = λ tree. let e = so_far.high (node tree) in omega arith;
      simple = λ tree. so_far.simple (node tree);
      base = λ place tree. so_far.base place (node tree);
      stays = λ full.
          let before : now ≡ FullType = so_far.stays full in
          full_stays kind next (sym (ap (Forms.with_word kind) before) ∙ passes.told);
      place = λ untyped tree begins. so_far.place untyped (node tree) (inr (sym (ap place_of passes.parts)));
    }

-- ---- where the words end

ends_at : {kind : Kind} (words : Words) {text : List Leaf} → EndsWords words text → Begins kind text → Forms.with_word kind words ≡ None
ends_at words ends begins =
    let here : EndsWords words (begins.leaf ∷ begins.behind) = subst (EndsWords words) begins.parts ends in
    sym (ap (λ k. Forms.with_word k words) begins.is_kind) ∙ here

pub by_end : (own : Bool) (words : Words) {kind : Kind} {text : List Leaf} → EndsWords words text → Begins kind text → (is kind K.Struct && is_start words) ≡ false → Chosen (Forms.Base own words) 0 text (take_if (Forms.is_type words) (Forms.BaseEnd own words) Never)
by_end own words {kind = kind} ends begins no_struct =
    chosen (Forms.Base own words) 0 begins (ap (λ t. take_if t (Forms.BaseStruct own) (by_word own words kind (Forms.with_word kind words))) no_struct ∙ ap (by_word own words kind) (ends_at words ends begins))

pub and_false : (test : Bool) → (test && false) ≡ false
and_false true = refl
and_false false = refl

pub ended : (own : Bool) (words : Words) {kind : Kind} {text : List Leaf} → EndsWords words text → Begins kind text → is_start words ≡ false → Forms.is_type words ≡ true → Chosen (Forms.Base own words) 0 text (Take (Forms.BaseEnd own words) 0 0)
ended own words {kind = kind} {text = text} ends begins no_start typed =
    let none = by_end own words ends begins (ap (λ t. is kind K.Struct && t) no_start ∙ and_false (is kind K.Struct)) in
    subst (λ t. Chosen (Forms.Base own words) 0 text (take_if t (Forms.BaseEnd own words) Never)) typed none

pub word_kinds : (words : Words) → (words ≡ NoWord → ⊥) → (is_start words ≡ false) × (Forms.is_type words ≡ true)
word_kinds NoWord other = absurd (other refl)
word_kinds FullType other = (refl, refl)
word_kinds (Integers sign size has_int) other = (refl, refl)

-- the words of a type that are all there are
pub words_end : {room : ℕ} {text rest : List Leaf} {words : Words} {kind : Kind} → PassesWords false room text NoWord rest words → EndsWords words rest → Begins kind rest → (words ≡ NoWord → ⊥) → IsRead (Whole (Forms.Base false NoWord) 0) room text words_of (record { place = place_of text; words = type_of_words words }) 0 rest
words_end {text = text} {words = words} so_far ends begins other =
    let kinds = word_kinds words other in
    let tree : Parse = Node (Forms.BaseEnd false words) Nothing in
    let placed : place_of (leaves (so_far.build tree)) ≡ place_of text = so_far.place refl tree (inl kinds.1) in
    let named : simple_of (so_far.build tree) ≡ type_of_words words = so_far.simple tree in
    record {
      parse = so_far.build tree;
      run = so_far.onto.done (finished (λ level own kind. refl) (begin (ended false words ends begins kinds.0 kinds.1) refl));
      shape = cc (placed, named);
      measured = so_far.high tree;
    }

pub words_cut : {own : Bool} {text rest : List Leaf} {words now : Words} (room : ℕ) (fault : SyntaxErr) → PassesWords own room text words rest now → rest ≡ [] → fault ≡ At (place_of rest) → Fails (Whole (Forms.Base own words) 0) room text fault
words_cut {own = own} {now = now} room fault so_far none same = lift fault (onto_lifts so_far.onto) (no_row room fault (no_tokens (Forms.Base own now) 0 none) same)

-- words in front of `struct`
pub before_tag : {room : ℕ} {text middle rest : List Leaf} {name : Trees.NameTree} {now : Words} → PassesWords false room text NoWord middle now → now ≡ NoWord → IsRead (Whole (Forms.Base false NoWord) 0) room middle words_of (record { place = place_of middle; words = Trees.StructTag name }) 0 rest → IsRead (Whole (Forms.Base false NoWord) 0) room text words_of (record { place = place_of text; words = Trees.StructTag name }) 0 rest
before_tag {room = room} {text = text} {middle = middle} {name = name} so_far0 none tag =
    let so_far : PassesWords false room text NoWord middle NoWord = subst (λ w. PassesWords false room text NoWord middle w) none so_far0 in
    let own : Trees.WordsTree = record { place = place_of middle; words = Trees.StructTag name } in
    let here : place_of (leaves tag.parse) ≡ place_of middle = ap (λ (w : Trees.WordsTree). w.place) tag.shape in
    let placed : place_of (leaves (so_far.build tag.parse)) ≡ place_of text = so_far.place refl tag.parse (inr here) in
    let named : simple_of (so_far.build tag.parse) ≡ Trees.StructTag name = so_far.simple tag.parse ∙ ap (λ (w : Trees.WordsTree). w.words) tag.shape in
    record {
      parse = so_far.build tag.parse;
      run = so_far.onto.done tag.run;
      shape = cc (placed, named);
      measured = so_far.high tag.parse ∙ tag.measured;
    }

pub before_tag_fault : {text middle : List Leaf} {now : Words} (room : ℕ) (fault : SyntaxErr) → PassesWords false room text NoWord middle now → now ≡ NoWord → Fails (Whole (Forms.Base false NoWord) 0) room middle fault → Fails (Whole (Forms.Base false NoWord) 0) room text fault
before_tag_fault {text = text} {middle = middle} room fault so_far none fails =
    let here : PassesWords false room text NoWord middle NoWord = subst (λ w. PassesWords false room text NoWord middle w) none so_far in
    lift fault (onto_lifts here.onto) fails

-- Further words are passed where they are not the first ones.
pub moved : {now : Words} {n m : ℕ} → (now ≡ NoWord) ⊎ (n < m) → (now ≡ NoWord → ⊥) → n < m
moved (inl same) other = absurd (other same)
moved (inr less) other = less

-- ---- `struct` and its name

pub begins_passed : {kind : Kind} {text behind : List Leaf} {place : Pos} → Passes kind text place behind → Begins kind text
begins_passed {behind = behind} passes = record { leaf = passes.leaf; behind = behind; parts = passes.parts; is_kind = passes.is_kind }

tag_row : {text middle : List Leaf} {place : Pos} (room : ℕ) (passes : Passes K.Struct text place middle) → Within (Forms.Base false NoWord) 0 room text room (Terminal K.Name ∷ Nonterminal (Forms.Base false FullType) 0 ∷ []) middle (λ others. Node (Forms.BaseStruct false) (Then (Alone passes.leaf) others))
tag_row room passes = behind_token passes.leaf (begin (chosen (Forms.Base false NoWord) 0 (begins_passed passes) refl) refl) passes.parts passes.is_kind

-- Where no word can stand, and no `struct`, no type begins.
pub no_tag : (own : Bool) (text : List Leaf) (room : ℕ) (fault : SyntaxErr) → EndsWords NoWord text → fits_first grammar K.Struct text ≡ false → fault ≡ At (place_of text) → Fails (Whole (Forms.Base own NoWord) 0) room text fault
no_tag own [] room fault ends none same = no_row room fault (no_tokens (Forms.Base own NoWord) 0 refl) same
no_tag own (leaf ∷ text) room fault ends none same =
    no_row room fault (by_end own NoWord ends (at_leaf refl) (ap (λ t. t && true) (by_test (is (kind_of leaf) K.Struct) (λ told. no_both told)))) same
  where
    no_both : is (kind_of leaf) K.Struct ≡ true → ⊥
    no_both told =
        let clash : true ≡ false = sym (is_swap (kind_of leaf) K.Struct told) ∙ none in
        cc clash

pub no_name : {text middle : List Leaf} {place : Pos} (room : ℕ) (fault : SyntaxErr) → Passes K.Struct text place middle → IsUnfit K.Name middle fault → Fails (Whole (Forms.Base false NoWord) 0) room text fault
no_name room fault passes is_unfit = unfit_fault fault (tag_row room passes) is_unfit

name_row : {text middle behind : List Leaf} {place : Pos} {name : Trees.NameTree} (room : ℕ) (passes : Passes K.Struct text place middle) (named : PassesName middle name behind) → Within (Forms.Base false NoWord) 0 room text room (Nonterminal (Forms.Base false FullType) 0 ∷ []) behind (λ others. Node (Forms.BaseStruct false) (Then (Alone passes.leaf) (Then (Alone named.leaf) others)))
name_row room passes named = behind_token named.leaf (tag_row room passes) named.parts named.is_kind

pub tag_cut : {text middle behind rest : List Leaf} {place : Pos} {name : Trees.NameTree} {now : Words} (room : ℕ) (fault : SyntaxErr) → Passes K.Struct text place middle → PassesName middle name behind → PassesWords false room behind FullType rest now → rest ≡ [] → fault ≡ At (place_of rest) → Fails (Whole (Forms.Base false NoWord) 0) room text fault
tag_cut room fault passes named so_far none same = lift fault (part_lifts (name_row room passes named)) (words_cut room fault so_far none same)

pub tag_read : {text middle behind rest : List Leaf} {place : Pos} {name : Trees.NameTree} {now : Words} {kind : Kind} (room : ℕ) → Passes K.Struct text place middle → PassesName middle name behind → PassesWords false room behind FullType rest now → EndsWords now rest → Begins kind rest → IsRead (Whole (Forms.Base false NoWord) 0) room text words_of (record { place = place_of text; words = Trees.StructTag name }) 0 rest
tag_read {text = text} {now = now} room passes named so_far ends begins =
    let full : FullType ≡ now = sym (so_far.stays refl) in
    let others : Parse = so_far.build (Node (Forms.BaseEnd false now) Nothing) in
    let run = so_far.onto.done (finished (λ level own kind. refl) (begin (ended false now ends begins (sym (ap is_start full)) (sym (ap Forms.is_type full))) refl)) in
    let low : height grammar others ≡ 0 = so_far.high (Node (Forms.BaseEnd false now) Nothing) in
    let placed : passes.leaf.place ≡ place_of text = sym (ap place_of passes.parts) in
    let same = named.is_name in
    record {
      parse = Node (Forms.BaseStruct false) (Then (Alone passes.leaf) (Then (Alone named.leaf) (Then others Nothing)));
      run = finished (λ level own kind. refl) (behind_part (name_row room passes named) run);
      shape = cc (placed, same);
      measured = omega (arith, low);
    }
