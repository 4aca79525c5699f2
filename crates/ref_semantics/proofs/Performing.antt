-- To perform a statement, an item or a declaration, and then to do what is left, is what was left.
use Rattle.std.proofs.Common.{ℕ, Bool, true, false, if◌then◌else◌, List, [], ◌∷◌, length, Option, Some, None}
use Rattle.c_typed.specs.Typed as T
use Rattle.c_typed.specs.Typed.{Value, Stmt, Block, SwitchItems, LocalDef, ForStart, FunctionDef}
use Rattle.ref_semantics.specs.Values.{Place, integer_of}
use Rattle.ref_semantics.specs.Store.{TypeEnvironment, Eval, ◌>>=◌, give, tick}
use Rattle.ref_semantics.specs.Pointers.{write}
use Rattle.ref_semantics.specs.Meaning.{Calls, Completion, Normal, Break, Continue, Return, Entry, At, default_at, case_at, entry_or, is_true, value, stmt, block, switch_from, optional_value, new_local, stored_first, declare, declare_all, leave, scoped, start, block_rest, broken_out}
use Rattle.ref_semantics.specs.Parts.{StmtPart, BodyPart}
use Rattle.ref_semantics.specs.Steps.{Given, WayGiven, Loop, WhileLoop, DoLoop, ForLoop, ToChoose, ToSearch, ToHold, Items, CaseItems, Locals, Scope, Config, scalar_of, way_of, looping, chosen, searched, part_then, resume, goes_on, came, waits, in_scope, begin_for, perform, enter_part, choose, first_value, declared, next_item, next_case_item, behind, take}
use Rattle.ref_semantics.proofs.Binding.{Same, same_self, same_then, same_back, then_behind, first_same, entered_same}
use Rattle.ref_semantics.proofs.Entering.{then_gives}
use Rattle.ref_semantics.proofs.Searching.{switch_searches}
use Rattle.ref_semantics.proofs.Looping.{calls_of, way_goes, loop_goes}

module _ (around : TypeEnvironment) (functions : List FunctionDef) where
  -- ---- locals

  first_goes : (config : Config) (first : Option Value) (place : Place) →
      Same ((optional_value (value around (calls_of around functions config)) first >>= λ a. stored_first around place a) >>= λ begun. way_goes around functions config Normal) (goes_on around functions (first_value around functions first config place))
  first_goes config None place = same_self
  first_goes config (Some v) place =
      let calls = calls_of around functions config in
      let rest = λ (begun : Completion). way_goes around functions config Normal in
      same_then (first_same rest (then_behind (value around calls v) (λ a. give (Some a)) (λ a. stored_first around place a) (λ a. same_self)))
      (then_behind (value around calls v) (λ a. stored_first around place (Some a)) rest (λ a. then_behind (write around (record { line = 1; column = 1 }) place a) (λ b. give Normal) rest (λ b. same_self)))

  declare_goes : (config : Config) (local : LocalDef) → Same (declare around (calls_of around functions config) local >>= λ begun. way_goes around functions config Normal) (declared around functions local config >>= goes_on around functions)
  declare_goes config local =
      same_then (then_behind (new_local local.c_type) (λ p. optional_value (value around (calls_of around functions config)) local.first >>= λ a. stored_first around p a) (λ begun. way_goes around functions config Normal) (λ p. first_goes config local.first p))
      (then_gives (new_local local.c_type) (λ p. first_value around functions local.first config p) (goes_on around functions) (λ p. same_self))

  pub locals_take : (config : Config) (locals : List LocalDef) (l : Loop) (given : Given) →
      Same (resume around functions config.depth (Locals locals l ∷ config.frames) given) (take around functions (Locals locals l) given config >>= goes_on around functions)
  locals_take config [] l given = loop_goes around functions config l
  locals_take config (local ∷ others) l given =
      let calls = calls_of around functions config in
      let later = λ (begun : Completion). declare_all around calls others in
      let next = λ (begun : Completion). looping around functions calls l in
      same_then (first_same (way_goes around functions config) (then_behind (declare around calls local) later next (λ begun. same_self)))
      (same_then (then_behind (declare around calls local) (λ begun. declare_all around calls others >>= next) (way_goes around functions config) (λ begun. same_self))
      (declare_goes (waits around functions (Locals others l) config) local))

  pub hold_takes : (config : Config) (place : Place) (given : Given) →
      Same (resume around functions config.depth (ToHold place ∷ config.frames) given) (take around functions (ToHold place) given config >>= goes_on around functions)
  hold_takes config place given = then_gives (write around (record { line = 1; column = 1 }) place (scalar_of given)) (λ b. came around functions (WayGiven Normal) config) (goes_on around functions) (λ b. same_self)

  -- ---- items

  item_goes : (config : Config) (items : Block) → Same (block around (calls_of around functions config) items >>= way_goes around functions config) (next_item around functions items config >>= goes_on around functions)
  item_goes config T.Close = same_self
  item_goes config (T.Declare local others) =
      same_then (then_behind (declare around (calls_of around functions config) local) (λ begun. block around (calls_of around functions config) others) (way_goes around functions config) (λ begun. same_self))
      (declare_goes (waits around functions (Items others) config) local)
  item_goes config (T.Perform one others) =
      then_behind (stmt around (calls_of around functions config) one) (λ way. block_rest way (block around (calls_of around functions config) others)) (way_goes around functions config) (λ way. same_self)

  items_behind : (config : Config) (items : Block) (way : Completion) →
      Same (block_rest way (block around (calls_of around functions config) items) >>= way_goes around functions config) (behind around functions way (next_item around functions items config) config >>= goes_on around functions)
  items_behind config items Normal = item_goes config items
  items_behind config items way = same_self

  pub items_take : (config : Config) (items : Block) (given : Given) → Same (resume around functions config.depth (Items items ∷ config.frames) given) (take around functions (Items items) given config >>= goes_on around functions)
  items_take config items given = items_behind config items (way_of given)

  case_item_goes : (config : Config) (items : SwitchItems) → Same (switch_from around (calls_of around functions config) (At 0) items >>= way_goes around functions config) (goes_on around functions (next_case_item around functions items config))
  case_item_goes config T.SwitchEnd = same_self
  case_item_goes config (T.Case label others) = same_self
  case_item_goes config (T.Default others) = same_self
  case_item_goes config (T.SwitchStmt one others) =
      then_behind (stmt around (calls_of around functions config) one) (λ way. block_rest way (switch_from around (calls_of around functions config) (At 0) others)) (way_goes around functions config) (λ way. same_self)

  case_items_behind : (config : Config) (items : SwitchItems) (way : Completion) →
      Same (block_rest way (switch_from around (calls_of around functions config) (At 0) items) >>= way_goes around functions config) (behind around functions way (give (next_case_item around functions items config)) config >>= goes_on around functions)
  case_items_behind config items Normal = case_item_goes config items
  case_items_behind config items way = same_self

  pub case_items_take : (config : Config) (items : SwitchItems) (given : Given) →
      Same (resume around functions config.depth (CaseItems items ∷ config.frames) given) (take around functions (CaseItems items) given config >>= goes_on around functions)
  case_items_take config items given = case_items_behind config items (way_of given)

  -- ---- what waits for a value

  choice_goes : (config : Config) (is_first : Bool) (taken : Stmt) (otherwise : Option Stmt) →
      Same (chosen around functions (calls_of around functions config) is_first taken otherwise >>= way_goes around functions config) (goes_on around functions (choose around functions is_first taken otherwise config))
  choice_goes config true taken otherwise = same_self
  choice_goes config false taken (Some otherwise) = same_self
  choice_goes config false taken None = same_self

  pub choose_takes : (config : Config) (taken : Stmt) (otherwise : Option Stmt) (given : Given) →
      Same (resume around functions config.depth (ToChoose taken otherwise ∷ config.frames) given) (take around functions (ToChoose taken otherwise) given config >>= goes_on around functions)
  choose_takes config taken otherwise given = choice_goes config (is_true (scalar_of given)) taken otherwise

  pub search_takes : (config : Config) (items : SwitchItems) (given : Given) →
      Same (resume around functions config.depth (ToSearch items ∷ config.frames) given) (take around functions (ToSearch items) given config >>= goes_on around functions)
  search_takes config items given =
      then_behind (searched around functions (calls_of around functions config) (integer_of (scalar_of given)) items None) (λ way. give (broken_out way)) (way_goes around functions config) (λ way. same_self)

  pub scope_takes : (config : Config) (count : ℕ) (given : Given) → Same (resume around functions config.depth (Scope count ∷ config.frames) given) (take around functions (Scope count) given config >>= goes_on around functions)
  scope_takes config count given = then_gives (leave (way_of given) count) (λ way. came around functions (WayGiven way) config) (goes_on around functions) (λ way. same_self)

  -- ---- scopes

  scope_goes : (config : Config) (inside : Eval Completion) (begin : Config → Config) →
      ((count : ℕ) → Same (inside >>= way_goes around functions (waits around functions (Scope count) config)) (goes_on around functions (begin (waits around functions (Scope count) config)))) →
      Same (scoped inside >>= way_goes around functions config) (in_scope around functions begin config >>= goes_on around functions)
  scope_goes config inside begin each = record {
    from = λ state.
        (same_then (then_behind inside (λ way. leave way (length state.locals)) (way_goes around functions config) (λ way. same_self)) (each (length state.locals))).from state;
  }

  start_goes : (config : Config) (begin : ForStart) (l : Loop) →
      Same ((start around (calls_of around functions config) begin >>= λ begun. looping around functions (calls_of around functions config) l) >>= way_goes around functions config) (goes_on around functions (begin_for around functions begin l config))
  start_goes config T.StartNothing l = same_self
  start_goes config (T.StartValue v) l =
      let calls = calls_of around functions config in
      let next = λ (begun : Completion). looping around functions calls l in
      same_then (first_same (way_goes around functions config) (then_behind (value around calls v) (λ a. give Normal) next (λ a. same_self))) (then_behind (value around calls v) (λ a. looping around functions calls l) (way_goes around functions config) (λ a. same_self))
  start_goes config (T.StartLocals locals) l = same_self

  -- ---- statements

  -- what a statement does once it is tick
  abbrev inner : Config → Stmt → Eval Completion
  inner config (T.BlockStmt items) = scoped (block around (calls_of around functions config) items)
  inner config T.Empty = give Normal
  inner config (T.Expression v) = value around (calls_of around functions config) v >>= λ a. give Normal
  inner config (T.If condition taken) = value around (calls_of around functions config) condition >>= λ c. if is_true c then stmt around (calls_of around functions config) taken else give Normal
  inner config (T.IfElse condition taken otherwise) =
      value around (calls_of around functions config) condition >>= λ c. if is_true c then stmt around (calls_of around functions config) taken else stmt around (calls_of around functions config) otherwise
  inner config (T.While condition body) = looping around functions (calls_of around functions config) (WhileLoop condition body)
  inner config (T.DoWhile body condition) = looping around functions (calls_of around functions config) (DoLoop body condition)
  inner config (T.For begin condition step body) =
      scoped (start around (calls_of around functions config) begin >>= λ begun. looping around functions (calls_of around functions config) (ForLoop condition step body))
  inner config (T.Switch v items) =
      value around (calls_of around functions config) v >>= λ a. case_at (integer_of a) 0 items >>= λ found. switch_from around (calls_of around functions config) (entry_or found (default_at items)) items >>= λ way. give (broken_out way)
  inner config T.Break = give Break
  inner config T.Continue = give Continue
  inner config (T.Return v) = optional_value (value around (calls_of around functions config)) v >>= λ a. give (Return a)

  if_goes : (config : Config) (taken : Stmt) (is_first : Bool) →
      Same ((if is_first then stmt around (calls_of around functions config) taken else give Normal) >>= way_goes around functions config) (chosen around functions (calls_of around functions config) is_first taken None >>= way_goes around functions config)
  if_goes config taken true = same_self
  if_goes config taken false = same_self

  if_else_goes : (config : Config) (taken otherwise : Stmt) (is_first : Bool) →
      Same ((if is_first then stmt around (calls_of around functions config) taken else stmt around (calls_of around functions config) otherwise) >>= way_goes around functions config)
      (chosen around functions (calls_of around functions config) is_first taken (Some otherwise) >>= way_goes around functions config)
  if_else_goes config taken otherwise true = same_self
  if_else_goes config taken otherwise false = same_self

  return_goes : (config : Config) (v : Option Value) →
      Same ((optional_value (value around (calls_of around functions config)) v >>= λ a. give (Return a)) >>= way_goes around functions config) (perform around functions (T.Return v) config >>= goes_on around functions)
  return_goes config None = same_self
  return_goes config (Some v) =
      let eval = value around (calls_of around functions config) v in
      same_then (first_same (way_goes around functions config) (then_behind eval (λ a. give (Some a)) (λ a. give (Return a)) (λ a. same_self))) (then_behind eval (λ a. give (Return (Some a))) (way_goes around functions config) (λ a. same_self))

  switch_goes : (config : Config) (v : Value) (items : SwitchItems) → Same (inner config (T.Switch v items) >>= way_goes around functions config) (perform around functions (T.Switch v items) config >>= goes_on around functions)
  switch_goes config v items =
      then_behind (value around calls v) (λ a. case_at (integer_of a) 0 items >>= λ found. from found >>= out) (way_goes around functions config) (λ a.
      first_same (way_goes around functions config) (same_then (same_back (then_behind (case_at (integer_of a) 0 items) from out (λ found. same_self))) (first_same out (switch_searches around functions calls (integer_of a) items))))
    where
      calls : Calls
      calls = calls_of around functions config

      from : Entry → Eval Completion
      from found = switch_from around (calls_of around functions config) (entry_or found (default_at items)) items

      out : Completion → Eval Completion
      out way = give (broken_out way)

  statement_performs : (config : Config) (s : Stmt) → Same (inner config s >>= way_goes around functions config) (perform around functions s config >>= goes_on around functions)
  statement_performs config (T.BlockStmt items) =
      scope_goes config (block around (calls_of around functions config) items) (λ inside. came around functions (WayGiven Normal) (waits around functions (Items items) inside)) (λ count. same_self)
  statement_performs config T.Empty = same_self
  statement_performs config (T.Expression v) = then_behind (value around (calls_of around functions config) v) (λ a. give Normal) (way_goes around functions config) (λ a. same_self)
  statement_performs config (T.If condition taken) =
      then_behind (value around (calls_of around functions config) condition) (λ c. if is_true c then stmt around (calls_of around functions config) taken else give Normal) (way_goes around functions config) (λ c. if_goes config taken (is_true c))
  statement_performs config (T.IfElse condition taken otherwise) =
      then_behind (value around (calls_of around functions config) condition) (λ c. if is_true c then stmt around (calls_of around functions config) taken else stmt around (calls_of around functions config) otherwise) (way_goes around functions config)
      (λ c. if_else_goes config taken otherwise (is_true c))
  statement_performs config (T.While condition body) = loop_goes around functions config (WhileLoop condition body)
  statement_performs config (T.DoWhile body condition) = loop_goes around functions config (DoLoop body condition)
  statement_performs config (T.For begin condition step body) =
      scope_goes config (start around (calls_of around functions config) begin >>= λ begun. looping around functions (calls_of around functions config) (ForLoop condition step body)) (begin_for around functions begin (ForLoop condition step body))
      (λ count. start_goes (waits around functions (Scope count) config) begin (ForLoop condition step body))
  statement_performs config (T.Switch v items) = switch_goes config v items
  statement_performs config T.Break = same_self
  statement_performs config T.Continue = same_self
  statement_performs config (T.Return v) = return_goes config v

  statement_entered : (config : Config) (s : Stmt) → Same (stmt around (calls_of around functions config) s) (tick (inner config s))
  statement_entered config T.Empty = same_self
  statement_entered config s = same_self

  pub statement_enters : (config : Config) (s : Stmt) →
      Same (part_then around functions (calls_of around functions config) (StmtPart s) (resume around functions config.depth config.frames)) (enter_part around functions (StmtPart s) config >>= goes_on around functions)
  statement_enters config s =
      same_then (first_same (way_goes around functions config) (statement_entered config s)) (entered_same (inner config s) (way_goes around functions config) (perform around functions s config) (goes_on around functions) (statement_performs config s))

  pub body_enters : (config : Config) (function : FunctionDef) →
      Same (part_then around functions (calls_of around functions config) (BodyPart function) (resume around functions config.depth config.frames)) (enter_part around functions (BodyPart function) config >>= goes_on around functions)
  body_enters config function =
      entered_same (block around (calls_of around functions config) function.body) (way_goes around functions config) (give (came around functions (WayGiven Normal) (waits around functions (Items function.body) config))) (goes_on around functions) same_self
