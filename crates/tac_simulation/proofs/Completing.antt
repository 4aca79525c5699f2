-- How a statement may end, by where it stands: `break` and `continue` go no further than to their loops, and `return` has a value but in a
-- function without a result.
use Rattle.std.proofs.Common.{◌≡◌, ℕ, zero, suc, Bool, true, false, if◌then◌else◌, ◌&&◌, List, Option, Some, None}
use Rattle.std.proofs.lemmas.Bool.{and_parts}
use Rattle.c_typed.specs.Types.{CType, is_void, integer_type}
use Rattle.c_typed.specs.Typed as T
use Rattle.c_typed.specs.Typed.{Stmt, Block, SwitchItems}
use Rattle.c_typed.specs.Context.{Context, with_local}
use Rattle.c_typed.specs.Expressions.{given, type_of}
use Rattle.c_typed.specs.Statements.{Within, in_loop, in_switch, is_expression, is_condition, if_any, is_local, is_start, with_start, is_label, is_stmt, is_block, are_items}
use Rattle.ref_semantics.specs.Values.{Scalar, integer_of}
use Rattle.ref_semantics.specs.Store.{State, TypeEnvironment, Eval, ◌>>=◌, give, spend, tick}
use Rattle.ref_semantics.specs.Meaning.{Calls, is_true, Completion, Normal, Break, Continue, Return, way_or, turns, loop, after_body, optional_value, holds, scoped, Entry, NoEntry, At, default_at, case_at, entry_or, broken_out, block_rest, do_condition, for_step, value, declare, start, bind, stmt, block, switch_from}
use Rattle.ref_semantics.proofs.Lasting.{Leads, stopped, leads_then}
use Rattle.ref_semantics.proofs.StatementsKeep.{then_leads}

-- ---- what an evaluation may give

abbrev Gives : {A : Type 0} → (A → Type 0) → Eval A → Type 0
Gives {A} may eval = (before : State) → Leads (λ after a. may a) (eval before)

given_it : {A : Type 0} (may : A → Type 0) (a : A) → may a → Gives may (give a)
given_it may a h before = then_leads a before h

behind : {A B : Type 0} (some : A → Type 0) (may : B → Type 0) (first : Eval A) (next : A → Eval B) → Gives some first → ((a : A) → some a → Gives may (next a)) → Gives may (first >>= next)
behind some may first next one other before = leads_then (one before) (λ a middle h. other a h middle)

behind_any : {A B : Type 0} (may : B → Type 0) (first : Eval A) (next : A → Eval B) → ((a : A) → Gives may (next a)) → Gives may (first >>= next)
behind_any {A} may first next other = behind (λ a. Unit {0}) may first next (λ before. record { leads = λ a after run. tt }) (λ a h. other a)

ticked : {A : Type 0} (may : A → Type 0) (rest : Eval A) → Gives may rest → Gives may (tick rest)
ticked {A} may rest one before = by before.units
  where
    by : (units : ℕ) → Leads (λ after a. may a) (spend rest units before)
    by zero = record { leads = λ a after run. absurd (stopped run) }
    by (suc n) = one (record before { units = n })

choice : {A : Type 0} (may : A → Type 0) (b : Bool) (first second : Eval A) → Gives may first → Gives may second → Gives may (if b then first else second)
choice may true first second one other = one
choice may false first second one other = other

-- ---- how statements may end

abbrev pub MayEnd : Within → Completion → Type 0
MayEnd within Normal = Unit {0}
MayEnd within Break = within.may_break ≡ true
MayEnd within Continue = within.may_continue ≡ true
MayEnd within (Return None) = is_void within.result ≡ true
MayEnd within (Return (Some scalar)) = Unit {0}

-- a turn of a loop that ends it
abbrev MayTurn : Within → Option Completion → Type 0
MayTurn within None = Unit {0}
MayTurn within (Some way) = MayEnd within way

after_may : (within : Within) (way : Completion) → MayEnd (in_loop within) way → MayTurn within (after_body way)
after_may within Normal h = tt
after_may within Break h = tt
after_may within Continue h = tt
after_may within (Return None) h = h
after_may within (Return (Some scalar)) h = tt

broken_may : (within : Within) (way : Completion) → MayEnd (in_switch within) way → MayEnd within (broken_out way)
broken_may within Normal h = tt
broken_may within Break h = tt
broken_may within Continue h = h
broken_may within (Return None) h = h
broken_may within (Return (Some scalar)) h = tt

turns_may : (within : Within) (turn : Eval (Option Completion)) → Gives (MayTurn within) turn → (n : ℕ) → Gives (MayEnd within) (turns turn n)
turns_may within turn one zero = given_it (MayEnd within) Normal tt
turns_may within turn one (suc n) = behind (MayTurn within) (MayEnd within) turn (λ way. way_or way (turns turn n)) one (by (turns_may within turn one n))
  where
    by : Gives (MayEnd within) (turns turn n) → (way : Option Completion) → MayTurn within way → Gives (MayEnd within) (way_or way (turns turn n))
    by rest (Some way) h = given_it (MayEnd within) way h
    by rest None h = rest

loop_may : (within : Within) (turn : Eval (Option Completion)) → Gives (MayTurn within) turn → Gives (MayEnd within) (loop turn)
loop_may within turn one before = turns_may within turn one (suc before.units) before

scoped_may : (within : Within) (inside : Eval Completion) → Gives (MayEnd within) inside → Gives (MayEnd within) (scoped inside)
scoped_may within inside one before = leads_then (one before) (λ way middle h. then_leads way _ h)

rest_may : (within : Within) (rest : Eval Completion) → Gives (MayEnd within) rest → (way : Completion) → MayEnd within way → Gives (MayEnd within) (block_rest way rest)
rest_may within rest one Normal h = one
rest_may within rest one Break h = given_it (MayEnd within) Break h
rest_may within rest one Continue h = given_it (MayEnd within) Continue h
rest_may within rest one (Return result) h = given_it (MayEnd within) (Return result) h

do_may : (within : Within) (condition : Eval Scalar) (way : Option Completion) → MayTurn within way → Gives (MayTurn within) (do_condition way condition)
do_may within condition (Some way) h = given_it (MayTurn within) (Some way) h
do_may within condition None h = behind_any (MayTurn within) condition (λ c. give (if is_true c then None else Some Normal)) (λ c. given_it (MayTurn within) (if is_true c then None else Some Normal) (by (is_true c)))
  where
    by : (b : Bool) → MayTurn within (if b then None else Some Normal)
    by true = tt
    by false = tt

step_may : (within : Within) (step : Eval (Option Scalar)) (way : Option Completion) → MayTurn within way → Gives (MayTurn within) (for_step way step)
step_may within step (Some way) h = given_it (MayTurn within) (Some way) h
step_may within step None h = behind_any (MayTurn within) step (λ a. give None) (λ a. given_it (MayTurn within) None tt)

-- ---- by induction on the statement

module _ (types : TypeEnvironment) (calls : Calls) where
  mutual
    pub stmt_may : (around : Context) (within : Within) (tree : Stmt) → is_stmt around within tree ≡ true → Gives (MayEnd within) (stmt types calls tree)
    stmt_may around within (T.BlockStmt items) typed = ticked (MayEnd within) (scoped (block types calls items)) (scoped_may within (block types calls items) (block_may around within items typed))
    stmt_may around within T.Empty typed = ticked (MayEnd within) (give Normal) (given_it (MayEnd within) Normal tt)
    stmt_may around within (T.Expression v) typed =
        ticked (MayEnd within) (value types calls v >>= λ a. give Normal) (behind_any (MayEnd within) (value types calls v) (λ a. give Normal) (λ a. given_it (MayEnd within) Normal tt))
    stmt_may around within (T.If condition taken) typed =
        let parts = and_parts (is_condition around condition) (is_stmt around within taken) typed in
        ticked (MayEnd within) (value types calls condition >>= λ c. if is_true c then stmt types calls taken else give Normal)
        (behind_any (MayEnd within) (value types calls condition) (λ c. if is_true c then stmt types calls taken else give Normal)
        (λ c. choice (MayEnd within) (is_true c) (stmt types calls taken) (give Normal) (stmt_may around within taken parts.1) (given_it (MayEnd within) Normal tt)))
    stmt_may around within (T.IfElse condition taken otherwise) typed =
        let parts = and_parts (is_condition around condition && is_stmt around within taken) (is_stmt around within otherwise) typed in
        let first = and_parts (is_condition around condition) (is_stmt around within taken) parts.0 in
        ticked (MayEnd within) (value types calls condition >>= λ c. if is_true c then stmt types calls taken else stmt types calls otherwise)
        (behind_any (MayEnd within) (value types calls condition) (λ c. if is_true c then stmt types calls taken else stmt types calls otherwise)
        (λ c. choice (MayEnd within) (is_true c) (stmt types calls taken) (stmt types calls otherwise) (stmt_may around within taken first.1) (stmt_may around within otherwise parts.1)))
    stmt_may around within (T.While condition body) typed =
        let parts = and_parts (is_condition around condition) (is_stmt around (in_loop within) body) typed in
        let turn : Eval (Option Completion) = value types calls condition >>= λ c. if is_true c then (stmt types calls body >>= λ way. give (after_body way)) else give (Some Normal) in
        ticked (MayEnd within) (loop turn) (loop_may within turn
        (behind_any (MayTurn within) (value types calls condition) (λ c. if is_true c then (stmt types calls body >>= λ way. give (after_body way)) else give (Some Normal))
        (λ c. choice (MayTurn within) (is_true c) (stmt types calls body >>= λ way. give (after_body way)) (give (Some Normal))
        (behind (MayEnd (in_loop within)) (MayTurn within) (stmt types calls body) (λ way. give (after_body way)) (stmt_may around (in_loop within) body parts.1)
        (λ way h. given_it (MayTurn within) (after_body way) (after_may within way h)))
        (given_it (MayTurn within) (Some Normal) tt))))
    stmt_may around within (T.DoWhile body condition) typed =
        let parts = and_parts (is_stmt around (in_loop within) body) (is_condition around condition) typed in
        let turn : Eval (Option Completion) = stmt types calls body >>= λ way. do_condition (after_body way) (value types calls condition) in
        ticked (MayEnd within) (loop turn) (loop_may within turn
        (behind (MayEnd (in_loop within)) (MayTurn within) (stmt types calls body) (λ way. do_condition (after_body way) (value types calls condition)) (stmt_may around (in_loop within) body parts.0)
        (λ way h. do_may within (value types calls condition) (after_body way) (after_may within way h))))
    stmt_may around within (T.For begin condition step body) typed =
        let parts = and_parts (is_start around begin && if_any (is_condition (with_start begin around)) condition && if_any (is_expression (with_start begin around)) step) (is_stmt (with_start begin around) (in_loop within) body) typed in
        let taken : Eval (Option Completion) = stmt types calls body >>= λ way. for_step (after_body way) (optional_value (value types calls) step) in
        let turn : Eval (Option Completion) = optional_value (value types calls) condition >>= λ c. if holds c then (stmt types calls body >>= λ way. for_step (after_body way) (optional_value (value types calls) step)) else give (Some Normal) in
        ticked (MayEnd within) (scoped (start types calls begin >>= λ begun. loop turn)) (scoped_may within (start types calls begin >>= λ begun. loop turn)
        (behind_any (MayEnd within) (start types calls begin) (λ begun. loop turn) (λ begun. loop_may within turn
        (behind_any (MayTurn within) (optional_value (value types calls) condition) (λ c. if holds c then taken else give (Some Normal))
        (λ c. choice (MayTurn within) (holds c) taken (give (Some Normal))
        (behind (MayEnd (in_loop within)) (MayTurn within) (stmt types calls body) (λ way. for_step (after_body way) (optional_value (value types calls) step)) (stmt_may (with_start begin around) (in_loop within) body parts.1)
        (λ way h. step_may within (optional_value (value types calls) step) (after_body way) (after_may within way h)))
        (given_it (MayTurn within) (Some Normal) tt))))))
    stmt_may around within (T.Switch v items) typed =
        let parts = and_parts (is_condition around v) (are_items around (in_switch within) (given (type_of around v) integer_type) items) typed in
        let from : Scalar → Entry → Eval Completion = λ a found. switch_from types calls (entry_or found (default_at items)) items >>= λ way. give (broken_out way) in
        ticked (MayEnd within) (value types calls v >>= λ a. case_at (integer_of a) 0 items >>= from a)
        (behind_any (MayEnd within) (value types calls v) (λ a. case_at (integer_of a) 0 items >>= from a) (λ a.
        behind_any (MayEnd within) (case_at (integer_of a) 0 items) (from a) (λ found.
        behind (MayEnd (in_switch within)) (MayEnd within) (switch_from types calls (entry_or found (default_at items)) items) (λ way. give (broken_out way))
        (items_may around (in_switch within) (given (type_of around v) integer_type) items parts.1 (entry_or found (default_at items)))
        (λ way h. given_it (MayEnd within) (broken_out way) (broken_may within way h)))))
    stmt_may around within T.Break typed = ticked (MayEnd within) (give Break) (given_it (MayEnd within) Break typed)
    stmt_may around within T.Continue typed = ticked (MayEnd within) (give Continue) (given_it (MayEnd within) Continue typed)
    stmt_may around within (T.Return None) typed =
        ticked (MayEnd within) (optional_value (value types calls) None >>= λ a. give (Return a)) (λ before. then_leads (Return None) before typed)
    stmt_may around within (T.Return (Some v)) typed =
        ticked (MayEnd within) (optional_value (value types calls) (Some v) >>= λ a. give (Return a))
        (behind is_given (MayEnd within) (optional_value (value types calls) (Some v)) (λ a. give (Return a))
        (behind_any is_given (value types calls v) (λ a. give (Some a)) (λ a. given_it is_given (Some a) tt))
        (λ a h. given_it (MayEnd within) (Return a) (by a h)))
      where
        is_given : Option Scalar → Type 0
        is_given None = ⊥
        is_given (Some a) = Unit {0}

        by : (a : Option Scalar) → is_given a → MayEnd within (Return a)
        by None h = absurd h
        by (Some a) h = tt

    pub block_may : (around : Context) (within : Within) (items : Block) → is_block around within items ≡ true → Gives (MayEnd within) (block types calls items)
    block_may around within T.Close typed = given_it (MayEnd within) Normal tt
    block_may around within (T.Declare local others) typed =
        behind_any (MayEnd within) (declare types calls local) (λ begun. block types calls others)
        (λ begun. block_may (with_local local.c_type around) within others (and_parts (is_local around local) (is_block (with_local local.c_type around) within others) typed).1)
    block_may around within (T.Perform one others) typed =
        let parts = and_parts (is_stmt around within one) (is_block around within others) typed in
        behind (MayEnd within) (MayEnd within) (stmt types calls one) (λ way. block_rest way (block types calls others)) (stmt_may around within one parts.0)
        (rest_may within (block types calls others) (block_may around within others parts.1))

    items_may : (around : Context) (within : Within) (switched : _) (items : SwitchItems) → are_items around within switched items ≡ true → (entry : Entry) → Gives (MayEnd within) (switch_from types calls entry items)
    items_may around within switched items typed NoEntry = given_it (MayEnd within) Normal tt
    items_may around within switched T.SwitchEnd typed (At number) = given_it (MayEnd within) Normal tt
    items_may around within switched (T.Case label others) typed (At (suc number)) = items_may around within switched others (and_parts (is_label switched label) (are_items around within switched others) typed).1 (At number)
    items_may around within switched (T.Default others) typed (At (suc number)) = items_may around within switched others typed (At number)
    items_may around within switched (T.SwitchStmt one others) typed (At (suc number)) = items_may around within switched others (and_parts (is_stmt around within one) (are_items around within switched others) typed).1 (At number)
    items_may around within switched (T.Case label others) typed (At zero) = items_may around within switched others (and_parts (is_label switched label) (are_items around within switched others) typed).1 (At 0)
    items_may around within switched (T.Default others) typed (At zero) = items_may around within switched others typed (At 0)
    items_may around within switched (T.SwitchStmt one others) typed (At zero) =
        let parts = and_parts (is_stmt around within one) (are_items around within switched others) typed in
        behind (MayEnd within) (MayEnd within) (stmt types calls one) (λ way. block_rest way (switch_from types calls (At 0) others)) (stmt_may around within one parts.0)
        (rest_may within (switch_from types calls (At 0) others) (items_may around within switched others parts.1 (At 0)))

  -- what a function does inside its own locals
  pub body_may : (around : Context) (within : Within) (parameters : List CType) (arguments : List Scalar) (items : Block) → is_block around within items ≡ true
      → Gives (MayEnd within) (bind types parameters arguments >>= λ bound. tick (block types calls items))
  body_may around within parameters arguments items typed =
      behind_any (MayEnd within) (bind types parameters arguments) (λ bound. tick (block types calls items)) (λ bound. ticked (MayEnd within) (block types calls items) (block_may around within items typed))
