-- The stars of a declarator, read one after another.
use Rattle.std.proofs.Common.{◌≡◌, ℕ, ◌+◌, List, [], refl, ◌∙◌, ap, arith}
use Rattle.run_theory.specs.declared.place.Pos.{Pos}
use Rattle.c_grammar.specs.Table.{Alone, Nothing, Then, Node, Take, height}
use Rattle.c_grammar.specs.Runs.{Whole}
use Rattle.c_grammar.specs.declared.kind.Kind.{Kind}
use Rattle.c_grammar.specs.declared.kind.Kind.TheVariants as K
use Rattle.c_grammar.specs.Kinds.{is}
use Rattle.c_grammar.specs.Forms
use Rattle.c_grammar.specs.Chooses.{take, take_if}
use Rattle.c_grammar.specs.Leaves.{Leaf}
use Rattle.c_reader.specs.declared.syntax_err.SyntaxErr.{SyntaxErr}
use Rattle.c_reader.specs.declared.syntax_err.SyntaxErr.TheVariants.{At}
use Rattle.c_reader.specs.Grammar.{grammar, Parse}
use Rattle.c_reader.specs.Shapes.{place_of, stars_of, stars_after}
use Rattle.c_reader.specs.Readings.{Fails, IsRead, Begins, Passes}
use Rattle.c_reader.specs.Steps.{Onto}
use Rattle.c_reader.proofs.KindTests.{is_other}
use Rattle.c_reader.proofs.Rows.{Chosen, chosen, no_tokens, no_row, lift, onto_lifts, begin, behind_token, behind_part, tail, nothing_yet, finished, part_fault}

-- so many stars were read of what stands behind a star
pub record StarsSoFar (room : ℕ) (text rest : List Leaf) (count : ℕ) : Type 0 where
  pub build : Parse → Parse
  pub onto : Onto (Whole Forms.AfterStar 0) (Whole Forms.AfterStar 0) room text rest build
  pub shape : (tree : Parse) → stars_after (build tree) ≡ count + stars_after tree
  pub high : (tree : Parse) → height grammar (build tree) ≡ height grammar tree

pub no_stars : (room : ℕ) (text : List Leaf) → StarsSoFar room text text 0
no_stars room text = record { build = λ tree. tree; onto = nothing_yet; shape = λ tree. omega arith; high = λ tree. refl }

pub at_kind : {kind kind' : Kind} {text : List Leaf} → Begins kind text → kind ≡ kind' → Begins kind' text
at_kind begins same = record { leaf = begins.leaf; behind = begins.behind; parts = begins.parts; is_kind = begins.is_kind ∙ same }

by_star : {kind : Kind} {rest : List Leaf} → Begins kind rest → kind ≡ K.Star → Chosen Forms.AfterStar 0 rest (Take Forms.StarNext 0 0)
by_star begins same = chosen Forms.AfterStar 0 (at_kind begins same) refl

by_const : {kind : Kind} {rest : List Leaf} → Begins kind rest → kind ≡ K.Const → Chosen Forms.AfterStar 0 rest (Take Forms.StarConst 0 0)
by_const begins same = chosen Forms.AfterStar 0 (at_kind begins same) refl

by_other : {kind : Kind} {rest : List Leaf} → Begins kind rest → (kind ≡ K.Star → ⊥) → (kind ≡ K.Const → ⊥) → Chosen Forms.AfterStar 0 rest (Take Forms.StarEnd 0 0)
by_other {kind = kind} begins no_star no_const =
    chosen Forms.AfterStar 0 begins (ap (λ t. take_if t Forms.StarNext (take_if (is kind K.Const) Forms.StarConst (take Forms.StarEnd))) (is_other kind K.Star no_star) ∙ ap (λ t. take_if t Forms.StarConst (take Forms.StarEnd)) (is_other kind K.Const no_const))

pub one_star : {kind : Kind} {room count : ℕ} {text rest behind : List Leaf} {place : Pos} → StarsSoFar room text rest count → Begins kind rest → kind ≡ K.Star → Passes K.Star rest place behind → StarsSoFar room text behind (count + 1)
one_star so_far begins same passes =
    let row = behind_token passes.leaf (begin (by_star begins same) refl) passes.parts passes.is_kind in
    record {
      build = λ tree. so_far.build (Node Forms.StarNext (Then (Alone passes.leaf) (Then tree Nothing)));
      onto = tail (λ level own kind. refl) so_far.onto row;
      shape = λ tree. let e = so_far.shape (Node Forms.StarNext (Then (Alone passes.leaf) (Then tree Nothing))) in omega arith;
      high = λ tree. let e = so_far.high (Node Forms.StarNext (Then (Alone passes.leaf) (Then tree Nothing))) in omega arith;
    }

pub one_const : {kind : Kind} {room count : ℕ} {text rest behind : List Leaf} {place : Pos} → StarsSoFar room text rest count → Begins kind rest → kind ≡ K.Const → Passes K.Const rest place behind → StarsSoFar room text behind count
one_const so_far begins same passes =
    let row = behind_token passes.leaf (begin (by_const begins same) refl) passes.parts passes.is_kind in
    record {
      build = λ tree. so_far.build (Node Forms.StarConst (Then (Alone passes.leaf) (Then tree Nothing)));
      onto = tail (λ level own kind. refl) so_far.onto row;
      shape = λ tree. so_far.shape (Node Forms.StarConst (Then (Alone passes.leaf) (Then tree Nothing)));
      high = λ tree. let e = so_far.high (Node Forms.StarConst (Then (Alone passes.leaf) (Then tree Nothing))) in omega arith;
    }

pub last_star : {kind : Kind} {room count : ℕ} {text rest : List Leaf} → StarsSoFar room text rest count → Begins kind rest → (kind ≡ K.Star → ⊥) → (kind ≡ K.Const → ⊥) → IsRead (Whole Forms.AfterStar 0) room text stars_after count 0 rest
last_star so_far begins no_star no_const =
    let row = begin (by_other begins no_star no_const) refl in
    record {
      parse = so_far.build (Node Forms.StarEnd Nothing);
      run = so_far.onto.done (finished (λ level own kind. refl) row);
      shape = so_far.shape (Node Forms.StarEnd Nothing) ∙ omega arith;
      measured = so_far.high (Node Forms.StarEnd Nothing);
    }

pub stars_cut : {count : ℕ} {text rest : List Leaf} (room : ℕ) (fault : SyntaxErr) → StarsSoFar room text rest count → rest ≡ [] → fault ≡ At (place_of rest) → Fails (Whole Forms.AfterStar 0) room text fault
stars_cut room fault so_far none same = lift fault (onto_lifts so_far.onto) (no_row room fault (no_tokens Forms.AfterStar 0 none) same)

-- ---- the stars that begin a declarator

pub some_stars : {kind : Kind} {room count : ℕ} {text middle behind : List Leaf} {place : Pos} → Begins kind text → kind ≡ K.Star → Passes K.Star text place middle → IsRead (Whole Forms.AfterStar 0) room middle stars_after count 0 behind → IsRead (Whole Forms.Stars 0) room text stars_of (count + 1) 0 behind
some_stars begins same passes others =
    let taken : Chosen Forms.Stars 0 _ (Take Forms.StarFirst 0 0) = chosen Forms.Stars 0 (at_kind begins same) refl in
    let row = behind_part (behind_token passes.leaf (begin taken refl) passes.parts passes.is_kind) others.run in
    let counted = others.shape in
    let low = others.measured in
    record {
      parse = Node Forms.StarFirst (Then (Alone passes.leaf) (Then others.parse Nothing));
      run = finished (λ level own kind. refl) row;
      shape = omega arith;
      measured = omega arith;
    }

pub stars_fault : {kind : Kind} {text middle : List Leaf} {place : Pos} (room : ℕ) (fault : SyntaxErr) → Begins kind text → kind ≡ K.Star → Passes K.Star text place middle → Fails (Whole Forms.AfterStar 0) room middle fault → Fails (Whole Forms.Stars 0) room text fault
stars_fault room fault begins same passes fails =
    let taken : Chosen Forms.Stars 0 _ (Take Forms.StarFirst 0 0) = chosen Forms.Stars 0 (at_kind begins same) refl in
    part_fault fault (behind_token passes.leaf (begin taken refl) passes.parts passes.is_kind) fails

pub without_stars : {kind : Kind} {room : ℕ} {text : List Leaf} → Begins kind text → (kind ≡ K.Star → ⊥) → IsRead (Whole Forms.Stars 0) room text stars_of 0 0 text
without_stars {kind = kind} begins no_star =
    let taken : Chosen Forms.Stars 0 _ (Take Forms.NoStar 0 0) = chosen Forms.Stars 0 begins (ap (λ t. take_if t Forms.StarFirst (take Forms.NoStar)) (is_other kind K.Star no_star)) in
    record {
      parse = Node Forms.NoStar Nothing;
      run = finished (λ level own kind'. refl) (begin taken refl);
      shape = refl;
      measured = refl;
    }
