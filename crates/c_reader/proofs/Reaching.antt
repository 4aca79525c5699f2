-- What a reader comes to by a row, step by step.
use Rattle.std.proofs.Common.{◌≡◌, ℕ, ◌+◌, ◌<◌, ◌≤◌, Bool, true, false, List, [], ◌∷◌, ◌++◌, map, Option, Some, None, sym, refl, ◌∙◌, ap, subst, Result, Ok, Err}
use Rattle.run_theory.specs.declared.place.Pos.{Pos}
use Rattle.c_grammar.specs.Table.{Symbol, Terminal, Nonterminal, Choice, Never, Alone, Nothing, Then, Node}
use Rattle.c_grammar.specs.Runs.{Job, Parts, Whole, More, Fault, Bad, Deep, Done, Failed, fits_first, Run, at_end, unfit, token_done, token_failed, part_done, part_failed, then_failed, never, first_deep, row_failed, row_done, no_more}
use Rattle.c_grammar.specs.declared.kind.Kind.{Kind}
use Rattle.c_grammar.specs.Forms.{Sort, Production, symbols_of, weight_of, row_need}
use Rattle.c_grammar.specs.Kinds.{is}
use Rattle.c_grammar.specs.Chooses.{take_if, choose_by, goes_on_by}
use Rattle.c_grammar.specs.Language.{choose_at}
use Rattle.c_grammar.proofs.LanguageTells.{choose_cons, second_of, is_self}
use Rattle.c_grammar.specs.Leaves.{Leaf, kind_of, sample, leaves_of}
use Rattle.c_reader.specs.declared.syntax_err.SyntaxErr.{SyntaxErr}
use Rattle.c_reader.specs.declared.syntax_err.SyntaxErr.TheVariants.{At, TooDeep, OutOfMemory}
use Rattle.c_reader.specs.Grammar.{grammar, Parse}
use Rattle.c_reader.specs.Shapes.{place_of}
use Rattle.c_reader.specs.Readings.{FailsAt, Fails, IsRead, Begins, Passes}
use Rattle.c_reader.specs.declared.part.Part as memory_part
use Rattle.c_reader.specs.Rows.{Tells, TellsNone, Found, ReadsThrough, GivesPart, GivesNext, GivesElement}
use Rattle.c_reader.specs.Lists.{folds, Listed}

-- a map of failed runs lifts a failure
lift : (job job' : Job Leaf Kind Sort Production) (room room' : ℕ) (text text' : List Leaf) (fault : SyntaxErr) → ((why : Fault) (behind : List Leaf) → Run grammar job' room' text' (Failed why behind) → Run grammar job room text (Failed why behind)) → Fails job' room' text' fault → Fails job room text fault
lift job job' room room' text text' (At place) up f = record { behind = f.behind; run = up Bad f.behind f.run; stands = f.stands }
lift job job' room room' text text' (TooDeep place) up f = record { behind = f.behind; run = up Deep f.behind f.run; stands = f.stands }
lift job job' room room' text text' OutOfMemory up f = tt

-- ---- rows

pub chosen : (sort : Sort) {kind : Kind} {text : List Leaf} {choice : Choice Production} → Begins kind text → ((next : Kind) → choose_by sort 0 kind next ≡ choice) → choose_at kind_of sample sort 0 text ≡ choice
chosen sort b told =
    ap (choose_at kind_of sample sort 0) b.parts
    ∙ choose_cons kind_of sample sort 0 b.leaf b.behind
    ∙ ap (λ k. choose_by sort 0 k (second_of kind_of sample b.behind)) b.is_kind
    ∙ told (second_of kind_of sample b.behind)

-- a sort whose trees never go on
pub record Ends (sort : Sort) : Type 0 where
  pub ends : (own : ℕ) (kind : Kind) → goes_on_by sort 0 own kind ≡ None

ends_by : {sort : Sort} {room : ℕ} {tree : Parse} (text : List Leaf) → Ends sort → Run grammar (More sort 0 tree) room text (Done tree text)
ends_by [] e = no_more refl
ends_by (leaf ∷ text) e = no_more (e.ends _ (kind_of leaf))

-- a row that was chosen, where there is room for it
pub record Row (sort : Sort) (form : Production) (room below : ℕ) (text : List Leaf) : Type 0 where
  pub kind : Kind
  pub begins : Begins kind text
  pub tells : Tells sort kind form
  pub fits : row_need form ≤ room
  pub down : below + weight_of form ≡ room
  pub ends : Ends sort

pub row_failed_by : {sort : Sort} {form : Production} {room below : ℕ} {text : List Leaf} (why : Fault) (behind : List Leaf) → Row sort form room below text → Run grammar (Parts (symbols_of form)) below text (Failed why behind) → Run grammar (Whole sort 0) room text (Failed why behind)
row_failed_by {sort = sort} why behind r run = row_failed (chosen sort r.begins r.tells.told) r.fits r.fits r.down run

pub row_done_by : {sort : Sort} {form : Production} {room below : ℕ} {text behind : List Leaf} {parts : Parse} → Row sort form room below text → Run grammar (Parts (symbols_of form)) below text (Done parts behind) → Run grammar (Whole sort 0) room text (Done (Node form parts) behind)
row_done_by {sort = sort} {behind = behind} r run = row_done (chosen sort r.begins r.tells.told) r.fits r.fits r.down run (ends_by behind r.ends)

-- What the parts of a row give, a tree of the row's sort gives.
pub whole_gives : {sort : Sort} {form : Production} {room below : ℕ} {text : List Leaf} {V A : Type 0} (shape_of : Parse → A) (tree_of : V → A) (result : Result (memory_part.Part V) SyntaxErr) → Row sort form room below text → GivesPart (Parts (symbols_of form)) below text (λ parts. shape_of (Node form parts)) tree_of result → GivesPart (Whole sort 0) room text shape_of tree_of result
whole_gives {form = form} shape_of tree_of (Ok part) r given = record { parse = Node form given.parse; run = row_done_by r given.run; shape = given.shape }
whole_gives {sort = sort} {form = form} {room = room} {below = below} {text = text} shape_of tree_of (Err fault) r given = lift (Whole sort 0) (Parts (symbols_of form)) room below text text fault (λ why behind run. row_failed_by why behind r run) given

pub deep_fails : {sort : Sort} {kind : Kind} {form : Production} {room : ℕ} {text : List Leaf} (fault : SyntaxErr) → Begins kind text → Tells sort kind form → room < row_need form → fault ≡ TooDeep (place_of text) → Fails (Whole sort 0) room text fault
deep_fails {sort = sort} {room = room} {text = text} fault b t deep e =
    let f : Fails (Whole sort 0) room text (TooDeep (place_of text)) = record { behind = text; run = first_deep (chosen sort b t.told) deep; stands = refl } in
    subst (Fails (Whole sort 0) room text) (sym e) f

pub none_fails : {sort : Sort} {kind : Kind} (room : ℕ) {text : List Leaf} (place : Pos) → Begins kind text → TellsNone sort kind → place ≡ place_of text → FailsAt Bad (Whole sort 0) room text place
none_fails {sort = sort} room {text = text} place b t e = record { behind = text; run = never (chosen sort b t.told); stands = sym e }

pub empty_fails : (sort : Sort) (room : ℕ) (text : List Leaf) (fault : SyntaxErr) → text ≡ [] → fault ≡ At (place_of text) → Fails (Whole sort 0) room text fault
empty_fails sort room text fault e misfit =
    let f : Fails (Whole sort 0) room text (At (place_of text)) = record { behind = text; run = never (ap (choose_at kind_of sample sort 0) e); stands = refl } in
    subst (Fails (Whole sort 0) room text) (sym misfit) f

pub memory_fails : (job : Job Leaf Kind Sort Production) (room : ℕ) (text : List Leaf) (fault : SyntaxErr) → fault ≡ OutOfMemory → Fails job room text fault
memory_fails job room text fault e = let f : Fails job room text OutOfMemory = tt in subst (Fails job room text) (sym e) f

-- ---- symbols

-- What the symbols that are left come to, the job comes to, with the trees that were read before.
pub record Reached (job : Job Leaf Kind Sort Production) (room : ℕ) (text : List Leaf) (wrap : Parse → Parse) (symbols : List (Symbol Kind Sort)) (below : ℕ) (rest : List Leaf) : Type 0 where
  pub done : (others : Parse) (behind : List Leaf) → Run grammar (Parts symbols) below rest (Done others behind) → Run grammar job room text (Done (wrap others) behind)
  pub failed : (why : Fault) (behind : List Leaf) → Run grammar (Parts symbols) below rest (Failed why behind) → Run grammar job room text (Failed why behind)

-- at the first symbol
pub start : (symbols : List (Symbol Kind Sort)) (room : ℕ) (text : List Leaf) → Reached (Parts symbols) room text (λ others. others) symbols room text
start symbols room text = record { done = λ others behind run. run; failed = λ why behind run. run }

pub begin : {sort : Sort} {form : Production} {room below : ℕ} {text : List Leaf} → Row sort form room below text → Reached (Whole sort 0) room text (Node form) (symbols_of form) below text
begin r = record { done = λ others behind run. row_done_by r run; failed = λ why behind run. row_failed_by why behind r run }

pub token : {job : Job Leaf Kind Sort Production} {room below : ℕ} {text rest rest' : List Leaf} {wrap : Parse → Parse} {kind : Kind} {symbols : List (Symbol Kind Sort)} {place : Pos} → Reached job room text wrap (Terminal kind ∷ symbols) below rest → (p : Passes kind rest place rest') → Reached job room text (λ others. wrap (Then (Alone p.leaf) others)) symbols below rest'
token {job = job} {below = below} {wrap = wrap} {kind = kind} {symbols = symbols} r p = record {
  done = λ others behind run. r.done (Then (Alone p.leaf) others) behind (subst (λ x. Run grammar (Parts (Terminal kind ∷ symbols)) below x (Done (Then (Alone p.leaf) others) behind)) (sym p.parts) (token_done (ap (is kind) p.is_kind ∙ is_self kind) run));
  failed = λ why behind run. r.failed why behind (subst (λ x. Run grammar (Parts (Terminal kind ∷ symbols)) below x (Failed why behind)) (sym p.parts) (token_failed (ap (is kind) p.is_kind ∙ is_self kind) run));
}

pub read : {job : Job Leaf Kind Sort Production} {room below : ℕ} {text rest rest' : List Leaf} {wrap : Parse → Parse} {sort : Sort} {level : ℕ} {symbols : List (Symbol Kind Sort)} {A : Type 0} {shape_of : Parse → A} {tree : A} {high : ℕ} → Reached job room text wrap (Nonterminal sort level ∷ symbols) below rest → (p : IsRead (Whole sort level) below rest shape_of tree high rest') → Reached job room text (λ others. wrap (Then p.parse others)) symbols below rest'
read r p = record {
  done = λ others behind run. r.done (Then p.parse others) behind (part_done p.run run);
  failed = λ why behind run. r.failed why behind (then_failed p.run run);
}

pub found : {job : Job Leaf Kind Sort Production} {room below : ℕ} {text rest rest' : List Leaf} {wrap : Parse → Parse} {sort : Sort} {level : ℕ} {symbols : List (Symbol Kind Sort)} {A : Type 0} {shape_of : Parse → A} {tree : A} → Reached job room text wrap (Nonterminal sort level ∷ symbols) below rest → (p : Found (Whole sort level) below rest shape_of tree rest') → Reached job room text (λ others. wrap (Then p.parse others)) symbols below rest'
found r p = record {
  done = λ others behind run. r.done (Then p.parse others) behind (part_done p.run run);
  failed = λ why behind run. r.failed why behind (then_failed p.run run);
}

-- where the next symbol isn't read
pub unfit_at : {job : Job Leaf Kind Sort Production} {room below : ℕ} {text rest : List Leaf} {wrap : Parse → Parse} {kind : Kind} {symbols : List (Symbol Kind Sort)} (fault : SyntaxErr) → Reached job room text wrap (Terminal kind ∷ symbols) below rest → fits_first grammar kind rest ≡ false → fault ≡ At (place_of rest) → Fails job room text fault
unfit_at {job = job} {room = room} {text = text} {rest = rest} fault r other e =
    let f : Fails job room text (At (place_of rest)) = record { behind = rest; run = r.failed Bad rest (unfit other); stands = refl } in
    subst (Fails job room text) (sym e) f

pub part_at : {job : Job Leaf Kind Sort Production} {room below : ℕ} {text rest : List Leaf} {wrap : Parse → Parse} {sort : Sort} {level : ℕ} {symbols : List (Symbol Kind Sort)} (fault : SyntaxErr) → Reached job room text wrap (Nonterminal sort level ∷ symbols) below rest → Fails (Whole sort level) below rest fault → Fails job room text fault
part_at {job = job} {room = room} {below = below} {text = text} {rest = rest} {sort = sort} {level = level} fault r f =
    lift job (Whole sort level) room below text rest fault (λ why behind run. r.failed why behind (part_failed run)) f

-- at the end
pub finish : {job : Job Leaf Kind Sort Production} {room below : ℕ} {text rest : List Leaf} {wrap : Parse → Parse} {A : Type 0} (shape_of : Parse → A) (tree : A) → Reached job room text wrap [] below rest → shape_of (wrap Nothing) ≡ tree → Found job room text shape_of tree rest
finish {rest = rest} {wrap = wrap} shape_of tree r e = record { parse = wrap Nothing; run = r.done Nothing rest at_end; shape = e }

-- at a list's next element
pub leads : {job : Job Leaf Kind Sort Production} {room below : ℕ} {text rest : List Leaf} {wrap : Parse → Parse} {sort : Sort} {A : Type 0} (shape_of : Parse → A) (extend : A → A) (shape_of' : Parse → A) → Reached job room text wrap (Nonterminal sort 0 ∷ []) below rest → below ≡ room → ((parse : Parse) → shape_of (wrap (Then parse Nothing)) ≡ extend (shape_of' parse)) → ReadsThrough job room text shape_of extend (Whole sort 0) shape_of' rest
leads {room = room} {below = below} {rest = rest} {wrap = wrap} {sort = sort} shape_of extend shape_of' r level e = record {
  done = λ tree behind f. record {
    parse = wrap (Then f.parse Nothing);
    run = r.done (Then f.parse Nothing) behind (part_done (subst (λ n. Run grammar (Whole sort 0) n rest (Done f.parse behind)) (sym level) f.run) at_end);
    shape = e f.parse ∙ ap extend f.shape;
  };
  failed = λ why behind run. r.failed why behind (part_failed (subst (λ n. Run grammar (Whole sort 0) n rest (Failed why behind)) (sym level) run));
}

-- what an element that is read by another row's last symbol gives
pub element_through : {job : Job Leaf Kind Sort Production} {room below : ℕ} {text rest : List Leaf} {wrap : Parse → Parse} {sort : Sort} {B A : Type 0} (shape_of : Parse → A) (before : B → A → A) (ended : A) (shape_mid : Parse → A) (job' : Job Leaf Kind Sort Production) (shape_of' : Parse → A) (result : Result (memory_part.Part (Option B)) SyntaxErr) → Reached job room text wrap (Nonterminal sort 0 ∷ []) below rest → below ≡ room → ((parse : Parse) → shape_of (wrap (Then parse Nothing)) ≡ shape_mid parse) → GivesElement (Whole sort 0) room rest shape_mid before ended job' shape_of' result → GivesElement job room text shape_of before ended job' shape_of' result
element_through {job = job} {room = room} {below = below} {text = text} {rest = rest} {wrap = wrap} {sort = sort} {B = B} {A = A} shape_of before ended shape_mid job' shape_of' (Ok part) r level e given = by_value part.value (leaves_of part.rest.now) given
  where
    mid : (tree : A) (behind : List Leaf) → Found (Whole sort 0) room rest shape_mid tree behind → Found job room text shape_of tree behind
    mid tree behind f = record {
      parse = wrap (Then f.parse Nothing);
      run = r.done (Then f.parse Nothing) behind (part_done (subst (λ n. Run grammar (Whole sort 0) n rest (Done f.parse behind)) (sym level) f.run) at_end);
      shape = e f.parse ∙ f.shape;
    }

    by_value : (value : Option B) (next : List Leaf) → GivesNext (Whole sort 0) room rest shape_mid before ended job' shape_of' value next → GivesNext job room text shape_of before ended job' shape_of' value next
    by_value (Some value) next g = record {
      done = λ tree behind f. mid (before value tree) behind (g.done tree behind f);
      failed = λ why behind run. r.failed why behind (part_failed (subst (λ n. Run grammar (Whole sort 0) n rest (Failed why behind)) (sym level) (g.failed why behind run)));
    }
    by_value None next g = mid ended next g
element_through {room = room} {rest = rest} {sort = sort} shape_of before ended shape_mid job' shape_of' (Err fault) r level e given =
    part_at fault r (subst (λ n. Fails (Whole sort 0) n rest fault) (sym level) given)

pub element_whole : {sort : Sort} {form : Production} {room : ℕ} {text : List Leaf} {B A : Type 0} (shape_of : Parse → A) (before : B → A → A) (ended : A) (job' : Job Leaf Kind Sort Production) (shape_of' : Parse → A) (result : Result (memory_part.Part (Option B)) SyntaxErr) → Row sort form room room text → GivesElement (Parts (symbols_of form)) room text (λ parts. shape_of (Node form parts)) before ended job' shape_of' result → GivesElement (Whole sort 0) room text shape_of before ended job' shape_of' result
element_whole {sort = sort} {form = form} {room = room} {text = text} {B = B} {A = A} shape_of before ended job' shape_of' (Ok part) r given = by_value part.value (leaves_of part.rest.now) given
  where
    whole : (tree : A) (behind : List Leaf) → Found (Parts (symbols_of form)) room text (λ parts. shape_of (Node form parts)) tree behind → Found (Whole sort 0) room text shape_of tree behind
    whole tree behind f = record { parse = Node form f.parse; run = row_done_by r f.run; shape = f.shape }

    by_value : (value : Option B) (next : List Leaf) → GivesNext (Parts (symbols_of form)) room text (λ parts. shape_of (Node form parts)) before ended job' shape_of' value next → GivesNext (Whole sort 0) room text shape_of before ended job' shape_of' value next
    by_value (Some value) next g = record {
      done = λ tree behind f. whole (before value tree) behind (g.done tree behind f);
      failed = λ why behind run. row_failed_by why behind r (g.failed why behind run);
    }
    by_value None next g = whole ended next g
element_whole {sort = sort} {form = form} {room = room} {text = text} shape_of before ended job' shape_of' (Err fault) r given = lift (Whole sort 0) (Parts (symbols_of form)) room room text text fault (λ why behind run. row_failed_by why behind r run) given

pub tells_at : {R : Type 0} {sort : Sort} {kind : Kind} {row row' : R} (form_of : R → Production) → Tells sort kind (form_of row) → row ≡ row' → Tells sort kind (form_of row')
tells_at {sort = sort} {kind = kind} form_of tells e = subst (λ r. Tells sort kind (form_of r)) e tells

-- a row that a test tells
pub tells_if : {sort : Sort} {kind : Kind} (form : Production) (other : Choice Production) (test : Bool) → test ≡ true → ((next : Kind) → choose_by sort 0 kind next ≡ take_if test form other) → Tells sort kind form
tells_if form other test e told = record { told = λ next. told next ∙ ap (λ t. take_if t form other) e }

pub tells_none : {sort : Sort} {kind : Kind} (form : Production) (test : Bool) → test ≡ false → ((next : Kind) → choose_by sort 0 kind next ≡ take_if test form Never) → TellsNone sort kind
tells_none form test e told = record { told = λ next. told next ∙ ap (λ t. take_if t form Never) e }

-- ---- lists

folds_append : {V A : Type 0} (before : V → A → A) (values : List V) (value : V) (tree : A) → folds before (values ++ value ∷ []) tree ≡ folds before values (before value tree)
folds_append before [] value tree = refl
folds_append before (first ∷ values) value tree = ap (before first) (folds_append before values value tree)

pub listed_start : {V A : Type 0} (before : V → A → A) (job : Job Leaf Kind Sort Production) (room : ℕ) (text : List Leaf) (shape_of : Parse → A) (entry : List V) → Listed before job room text shape_of entry entry text
listed_start before job room text shape_of entry = record {
  done = λ tree behind f. record { parse = f.parse; run = f.run; shape = ap (folds before entry) f.shape };
  failed = λ why behind run. run;
}

pub listed_more : {V A : Type 0} {before : V → A → A} {job : Job Leaf Kind Sort Production} {room : ℕ} {text rest : List Leaf} {shape_of : Parse → A} {entry items : List V} (more : List V) (value : V) (rest' : List Leaf) → Listed before job room text shape_of entry items rest → more ≡ items ++ value ∷ [] → ReadsThrough job room rest shape_of (before value) job shape_of rest' → Listed before job room text shape_of entry more rest'
listed_more {before = before} {job = job} {room = room} {text = text} {shape_of = shape_of} {entry = entry} {items = items} more value rest' listed e leads = record {
  done = λ tree behind f.
      let g = listed.done (before value tree) behind (leads.done tree behind f) in
      subst (λ t. Found job room text (λ parse. folds before entry (shape_of parse)) t behind) (sym (ap (λ vs. folds before vs tree) e ∙ folds_append before items value tree)) g;
  failed = λ why behind run. listed.failed why behind (leads.failed why behind run);
}

pub listed_next : {V A : Type 0} {before : V → A → A} {job : Job Leaf Kind Sort Production} {room : ℕ} {text rest : List Leaf} {shape_of : Parse → A} {entry items : List V} (more : List V) (value : V) (next : Option V) (ended : A) (rest' : List Leaf) → Listed before job room text shape_of entry items rest → more ≡ items ++ value ∷ [] → next ≡ Some value → GivesNext job room rest shape_of before ended job shape_of next rest' → Listed before job room text shape_of entry more rest'
listed_next {before = before} {job = job} {room = room} {rest = rest} {shape_of = shape_of} more value next ended rest' listed e same given =
    listed_more more value rest' listed e (subst (λ n. GivesNext job room rest shape_of before ended job shape_of n rest') same given)

pub listed_end : {V A : Type 0} {before : V → A → A} {job : Job Leaf Kind Sort Production} {room : ℕ} {text rest : List Leaf} {shape_of : Parse → A} {entry items : List V} (next : Option V) (ended : A) (rest' : List Leaf) → Listed before job room text shape_of entry items rest → next ≡ None → GivesNext job room rest shape_of before ended job shape_of next rest' → Found job room text (λ parse. folds before entry (shape_of parse)) (folds before items ended) rest'
listed_end {before = before} {job = job} {room = room} {rest = rest} {shape_of = shape_of} next ended rest' listed same given =
    listed.done ended rest' (subst (λ n. GivesNext job room rest shape_of before ended job shape_of n rest') same given)

pub listed_from : {V A : Type 0} (before : V → A → A) (job : Job Leaf Kind Sort Production) (room : ℕ) (text : List Leaf) (shape_of : Parse → A) (entry items : List V) → items ≡ entry → Listed before job room text shape_of entry items text
listed_from before job room text shape_of entry items e = subst (λ vs. Listed before job room text shape_of entry vs text) (sym e) (listed_start before job room text shape_of entry)

pub listed_fails : {V A : Type 0} {before : V → A → A} {job : Job Leaf Kind Sort Production} {room : ℕ} {text rest : List Leaf} {shape_of : Parse → A} {entry items : List V} (fault : SyntaxErr) → Listed before job room text shape_of entry items rest → Fails job room rest fault → Fails job room text fault
listed_fails {job = job} {room = room} {text = text} {rest = rest} fault listed f = lift job job room room text rest fault (λ why behind run. listed.failed why behind run) f

pub folds_map : {V A : Type 0} (f : V → A) (values : List V) → folds (λ value rest. f value ∷ rest) values [] ≡ map f values
folds_map f [] = refl
folds_map f (value ∷ values) = ap (λ rest. f value ∷ rest) (folds_map f values)

-- ---- equal parts

pub same_two : {A B C : Type 0} (f : A → B → C) {a a' : A} {b b' : B} → a ≡ a' → b ≡ b' → f a b ≡ f a' b'
same_two f {a = a} {b' = b'} e h = ap (f a) h ∙ ap (λ x. f x b') e

pub same_three : {A B C D : Type 0} (f : A → B → C → D) {a a' : A} {b b' : B} {c c' : C} → a ≡ a' → b ≡ b' → c ≡ c' → f a b c ≡ f a' b' c'
same_three f {a = a} {b' = b'} {c' = c'} e h k = same_two (f a) h k ∙ ap (λ x. f x b' c') e

pub same_four : {A B C D E : Type 0} (f : A → B → C → D → E) {a a' : A} {b b' : B} {c c' : C} {d d' : D} → a ≡ a' → b ≡ b' → c ≡ c' → d ≡ d' → f a b c d ≡ f a' b' c' d'
same_four f {a = a} {b' = b'} {c' = c'} {d' = d'} e h k m = same_three (f a) h k m ∙ ap (λ x. f x b' c' d') e

pub found_as : {A : Type 0} {job : Job Leaf Kind Sort Production} {room : ℕ} {text behind : List Leaf} {shape_of : Parse → A} {tree tree' : A} → Found job room text shape_of tree behind → tree ≡ tree' → Found job room text shape_of tree' behind
found_as f e = record { parse = f.parse; run = f.run; shape = f.shape ∙ e }
