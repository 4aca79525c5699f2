-- Rows of the grammar, read symbol after symbol.
use Rattle.std.proofs.Common.{◌≡◌, ℕ, ◌+◌, ◌<◌, ◌≤◌, true, false, List, [], ◌∷◌, None, refl, sym, ◌∙◌, ap, subst, arith}
use Rattle.run_theory.specs.declared.place.Pos.{Pos}
use Rattle.c_grammar.specs.Table.{Symbol, Terminal, Nonterminal, Alone, Nothing, Then, Node, Choice, Never, Take, height}
use Rattle.c_grammar.specs.Runs.{Job, Parts, Whole, More, Fault, Bad, Deep, Outcome, Done, Failed, fits_first, next_row, Run, at_end, unfit, token_done, token_failed, part_done, part_failed, then_failed, never, first_deep, row_failed, row_done, no_more}
use Rattle.c_grammar.proofs.Sound.{sound}
use Rattle.c_grammar.specs.declared.kind.Kind.{Kind}
use Rattle.c_grammar.specs.declared.kind.Kind.TheVariants.{Name}
use Rattle.c_grammar.specs.Kinds.{is}
use Rattle.c_grammar.specs.Forms.{Sort, Production, symbols_of, weight_of}
use Rattle.c_grammar.specs.Chooses.{choose_by, goes_on_by}
use Rattle.c_grammar.specs.Language.{choose_at}
use Rattle.c_grammar.proofs.LanguageTells.{is_self}
use Rattle.c_grammar.proofs.LanguageCompletes.{completes}
use Rattle.c_grammar.specs.Leaves.{Leaf, kind_of, sample}
use Rattle.c_reader.specs.declared.syntax_err.SyntaxErr.{SyntaxErr}
use Rattle.c_reader.specs.declared.syntax_err.SyntaxErr.TheVariants.{At, TooDeep, OutOfMemory}
use Rattle.c_reader.specs.Grammar.{grammar, Parse}
use Rattle.c_reader.specs.Shapes.{place_of}
use Rattle.c_reader.specs.Readings.{Fails, Begins, Passes}
use Rattle.c_reader.specs.Steps.{second_kind_of, IsUnfit, Onto}

-- ---- faults

-- A fault that one job comes to, another one comes to.
pub record Lifts (job' : Job Leaf Kind Sort Production) (room' : ℕ) (text' : List Leaf) (job : Job Leaf Kind Sort Production) (room : ℕ) (text : List Leaf) : Type 0 where
  pub run : {why : Fault} {behind : List Leaf} → Run grammar job' room' text' (Failed why behind) → Run grammar job room text (Failed why behind)

pub lift : {job job' : Job Leaf Kind Sort Production} {room room' : ℕ} {text text' : List Leaf} (fault : SyntaxErr) → Lifts job' room' text' job room text → Fails job' room' text' fault → Fails job room text fault
lift (At place) lifts fails = record { behind = fails.behind; run = lifts.run fails.run; stands = fails.stands }
lift (TooDeep place) lifts fails = record { behind = fails.behind; run = lifts.run fails.run; stands = fails.stands }
lift OutOfMemory lifts fails = tt

pub bad : {job : Job Leaf Kind Sort Production} {room : ℕ} {text behind : List Leaf} (fault : SyntaxErr) → Run grammar job room text (Failed Bad behind) → fault ≡ At (place_of behind) → Fails job room text fault
bad {job = job} {room = room} {text = text} {behind = behind} fault run same =
    subst (Fails job room text) (sym same) (record { behind = behind; run = run; stands = refl })

pub deep : {job : Job Leaf Kind Sort Production} {room : ℕ} {text behind : List Leaf} (fault : SyntaxErr) → Run grammar job room text (Failed Deep behind) → fault ≡ TooDeep (place_of behind) → Fails job room text fault
deep {job = job} {room = room} {text = text} {behind = behind} fault run same =
    subst (Fails job room text) (sym same) (record { behind = behind; run = run; stands = refl })

-- ---- the row that is chosen

pub record Chosen (sort : Sort) (level : ℕ) (text : List Leaf) (choice : Choice Production) : Type 0 where
  pub told : choose_at kind_of sample sort level text ≡ choice

chosen_cons : (sort : Sort) (level : ℕ) (kind : Kind) (leaf : Leaf) (behind : List Leaf) → kind_of leaf ≡ kind → choose_at kind_of sample sort level (leaf ∷ behind) ≡ choose_by sort level kind (second_kind_of (leaf ∷ behind))
chosen_cons sort level kind leaf [] is_kind = ap (λ k. choose_by sort level k (second_kind_of (leaf ∷ []))) is_kind
chosen_cons sort level kind leaf (next ∷ behind) is_kind = ap (λ k. choose_by sort level k (second_kind_of (leaf ∷ next ∷ behind))) is_kind

pub chosen_by : (sort : Sort) (level : ℕ) {kind : Kind} {text : List Leaf} → Begins kind text → choose_at kind_of sample sort level text ≡ choose_by sort level kind (second_kind_of text)
chosen_by sort level {kind = kind} {text = text} begins =
    let Claim : List Leaf → Type 0 = λ leaves. choose_at kind_of sample sort level leaves ≡ choose_by sort level kind (second_kind_of leaves) in
    subst Claim (sym begins.parts) (chosen_cons sort level kind begins.leaf begins.behind begins.is_kind)

pub chosen : (sort : Sort) (level : ℕ) {kind : Kind} {text : List Leaf} {choice : Choice Production} → Begins kind text → choose_by sort level kind (second_kind_of text) ≡ choice → Chosen sort level text choice
chosen sort level begins row = record { told = chosen_by sort level begins ∙ row }

-- No row begins where there is no token.
pub no_tokens : (sort : Sort) (level : ℕ) {text : List Leaf} → text ≡ [] → Chosen sort level text Never
no_tokens sort level none = record { told = ap (choose_at kind_of sample sort level) none }

pub no_row : {sort : Sort} {level : ℕ} {text : List Leaf} (room : ℕ) (fault : SyntaxErr) → Chosen sort level text Never → fault ≡ At (place_of text) → Fails (Whole sort level) room text fault
no_row room fault choice same = bad fault (never choice.told) same

pub no_room : {sort : Sort} {level first second : ℕ} {form : Production} {text : List Leaf} (room : ℕ) (fault : SyntaxErr) → Chosen sort level text (Take form first second) → room < first → fault ≡ TooDeep (place_of text) → Fails (Whole sort level) room text fault
no_room room fault choice short same = deep fault (first_deep choice.told short) same

-- ---- within a row

-- A tree of a sort is begun, and these symbols of its row are left: what they come to, the tree comes to.
pub record Within (sort : Sort) (level room : ℕ) (text : List Leaf) (below : ℕ) (symbols : List (Symbol Kind Sort)) (middle : List Leaf) (build : Parse → Parse) : Type 0 where
  pub done : {others : Parse} {behind : List Leaf} {outcome : Outcome Leaf Production} → Run grammar (Parts symbols) below middle (Done others behind) → Run grammar (More sort level (build others)) room behind outcome → Run grammar (Whole sort level) room text outcome
  pub failed : {fault : Fault} {behind : List Leaf} → Run grammar (Parts symbols) below middle (Failed fault behind) → Run grammar (Whole sort level) room text (Failed fault behind)

pub start : {sort : Sort} {level room first second : ℕ} {text : List Leaf} {form : Production} (below : ℕ) → Chosen sort level text (Take form first second) → first ≤ room → second ≤ room → below + weight_of form ≡ room → Within sort level room text below (symbols_of form) text (Node form)
start below choice fits fits' down = record { done = λ run more. row_done choice.told fits fits' down run more; failed = λ run. row_failed choice.told fits fits' down run }

-- a row that needs no room
pub begin : {sort : Sort} {level room : ℕ} {text : List Leaf} {form : Production} → Chosen sort level text (Take form 0 0) → weight_of form ≡ 0 → Within sort level room text room (symbols_of form) text (Node form)
begin {room = room} choice light = start room choice (omega arith) (omega arith) (omega (arith, light))

pub is_fit : (kind : Kind) (leaf : Leaf) → kind_of leaf ≡ kind → is kind (kind_of leaf) ≡ true
is_fit kind leaf same = ap (is kind) same ∙ is_self kind

pub behind_token : {sort : Sort} {level room below : ℕ} {text middle behind : List Leaf} {kind : Kind} {symbols : List (Symbol Kind Sort)} {build : Parse → Parse} (leaf : Leaf) → Within sort level room text below (Terminal kind ∷ symbols) middle build → middle ≡ leaf ∷ behind → kind_of leaf ≡ kind → Within sort level room text below symbols behind (λ others. build (Then (Alone leaf) others))
behind_token {below = below} {kind = kind} {symbols = symbols} leaf within parts is_kind =
    record {
      done = λ {others} {behind = end} run more. within.done (subst (λ leaves. Run grammar (Parts (Terminal kind ∷ symbols)) below leaves (Done (Then (Alone leaf) others) end)) (sym parts) (token_done (is_fit kind leaf is_kind) run)) more;
      failed = λ {fault} {behind = end} run. within.failed (subst (λ leaves. Run grammar (Parts (Terminal kind ∷ symbols)) below leaves (Failed fault end)) (sym parts) (token_failed (is_fit kind leaf is_kind) run));
    }

-- behind a token that was passed
pub after : {sort : Sort} {level room below : ℕ} {text middle behind : List Leaf} {kind : Kind} {symbols : List (Symbol Kind Sort)} {build : Parse → Parse} {place : Pos} → Within sort level room text below (Terminal kind ∷ symbols) middle build → (passes : Passes kind middle place behind) → Within sort level room text below symbols behind (λ others. build (Then (Alone passes.leaf) others))
after within passes = behind_token passes.leaf within passes.parts passes.is_kind

pub behind_part : {sort part_sort : Sort} {level part_level room below : ℕ} {text middle behind : List Leaf} {symbols : List (Symbol Kind Sort)} {build : Parse → Parse} {tree : Parse} → Within sort level room text below (Nonterminal part_sort part_level ∷ symbols) middle build → Run grammar (Whole part_sort part_level) below middle (Done tree behind) → Within sort level room text below symbols behind (λ others. build (Then tree others))
behind_part within run = record { done = λ others more. within.done (part_done run others) more; failed = λ others. within.failed (then_failed run others) }

-- A token doesn't fit.
pub misfit : {sort : Sort} {level room below : ℕ} {text middle : List Leaf} {kind : Kind} {symbols : List (Symbol Kind Sort)} {build : Parse → Parse} (fault : SyntaxErr) → Within sort level room text below (Terminal kind ∷ symbols) middle build → fits_first grammar kind middle ≡ false → fault ≡ At (place_of middle) → Fails (Whole sort level) room text fault
misfit fault within none same = bad fault (within.failed (unfit none)) same

-- The same, where memory may be what lacks.
pub unfit_fault : {sort : Sort} {level room below : ℕ} {text middle : List Leaf} {kind : Kind} {symbols : List (Symbol Kind Sort)} {build : Parse → Parse} (fault : SyntaxErr) → Within sort level room text below (Terminal kind ∷ symbols) middle build → IsUnfit kind middle fault → Fails (Whole sort level) room text fault
unfit_fault (At place) within is_unfit = record { behind = _; run = within.failed (unfit is_unfit.0); stands = is_unfit.1 }
unfit_fault (TooDeep place) within is_unfit = absurd is_unfit
unfit_fault OutOfMemory within is_unfit = tt

-- A part has a fault.
pub part_fault : {sort part_sort : Sort} {level part_level room below : ℕ} {text middle : List Leaf} {symbols : List (Symbol Kind Sort)} {build : Parse → Parse} (fault : SyntaxErr) → Within sort level room text below (Nonterminal part_sort part_level ∷ symbols) middle build → Fails (Whole part_sort part_level) below middle fault → Fails (Whole sort level) room text fault
part_fault fault within fails = lift fault (record { run = λ run. within.failed (part_failed run) }) fails

-- only expressions go on behind a tree
abbrev pub EndsThere : Sort → Type 0
EndsThere sort = (level own : ℕ) (kind : Kind) → goes_on_by sort level own kind ≡ None

pub nothing_more : (sort : Sort) (level : ℕ) (tree : Parse) (text : List Leaf) → EndsThere sort → next_row grammar sort level tree text ≡ None
nothing_more sort level tree [] ends = refl
nothing_more sort level tree (leaf ∷ text) ends = ends level _ (kind_of leaf)

pub finished : {sort : Sort} {level room below : ℕ} {text middle : List Leaf} {build : Parse → Parse} → EndsThere sort → Within sort level room text below [] middle build → Run grammar (Whole sort level) room text (Done (build Nothing) middle)
finished {sort = sort} {level = level} {middle = middle} {build = build} ends within = within.done at_end (no_more (nothing_more sort level (build Nothing) middle ends))

-- ---- lists

pub nothing_yet : {job : Job Leaf Kind Sort Production} {room : ℕ} {text : List Leaf} → Onto job job room text text (λ tree. tree)
nothing_yet = record { done = λ run. run; failed = λ run. run }

-- The last symbol of a row is what is left.
pub tail : {job : Job Leaf Kind Sort Production} {sort part_sort : Sort} {level part_level room : ℕ} {text front middle : List Leaf} {build more : Parse → Parse} → EndsThere sort → Onto job (Whole sort level) room text front build → Within sort level room front room (Nonterminal part_sort part_level ∷ []) middle more → Onto job (Whole part_sort part_level) room text middle (λ tree. build (more (Then tree Nothing)))
tail {sort = sort} {level = level} {more = more} ends onto within =
    record {
      done = λ {tree} {behind} run. onto.done (within.done (part_done run at_end) (no_more (nothing_more sort level (more (Then tree Nothing)) behind ends)));
      failed = λ run. onto.failed (within.failed (part_failed run));
    }

pub onto_lifts : {job job' : Job Leaf Kind Sort Production} {room : ℕ} {text middle : List Leaf} {build : Parse → Parse} → Onto job job' room text middle build → Lifts job' room middle job room text
onto_lifts onto = record { run = λ run. onto.failed run }

pub part_lifts : {sort part_sort : Sort} {level part_level room below : ℕ} {text middle : List Leaf} {symbols : List (Symbol Kind Sort)} {build : Parse → Parse} → Within sort level room text below (Nonterminal part_sort part_level ∷ symbols) middle build → Lifts (Whole part_sort part_level) below middle (Whole sort level) room text
part_lifts within = record { run = λ run. within.failed (part_failed run) }

-- ---- heights

real : (kind : Kind) → kind_of (sample kind) ≡ kind
real Name = refl
real _ = refl

pub spans : {sort : Sort} {level room : ℕ} {text behind : List Leaf} {tree : Parse} → Run grammar (Whole sort level) room text (Done tree behind) → height grammar tree ≤ room
spans run = (sound grammar (completes kind_of sample real) run).2
