-- A `switch` goes on at its items from a label on: to find that by its number or by what is behind it is the same.
use Rattle.std.proofs.Common.{ℕ, suc, Bool, true, false, if◌then◌else◌, List, Option, Some, None, ℤ, int_eq}
use Rattle.c_typed.specs.Typed as T
use Rattle.c_typed.specs.Typed.{SwitchItems, FunctionDef}
use Rattle.ref_semantics.specs.Values.{Scalar}
use Rattle.ref_semantics.specs.Store.{TypeEnvironment, Eval, ◌>>=◌, give, tick}
use Rattle.ref_semantics.specs.Meaning.{Calls, Completion, Entry, NoEntry, At, later_entry, default_at, case_at, entry_or, switch_from}
use Rattle.ref_semantics.specs.Steps.{WayGiven, Search, Config, fitting, first_of, default_of, calls_within, items_or_none, searched, resume, task_then, goes_on, next_task, go_in, search}
use Rattle.ref_semantics.proofs.Binding.{Same, same_self, same_then, same_back, then_behind, then_same, entered_same, choice_then}

-- the number of a label counts from the first item
later_case : (z : ℤ) (number : ℕ) (items : SwitchItems) (next : Entry → Eval Completion) → Same (case_at z (suc number) items >>= next) (case_at z number items >>= λ found. next (later_entry found))
later_case z number T.SwitchEnd next = same_self
later_case z number (T.Case label others) next =
    entered_same (if int_eq z label then give (At (suc number)) else case_at z (suc (suc number)) others) next (if int_eq z label then give (At number) else case_at z (suc number) others) (λ found. next (later_entry found))
    (choice_then (int_eq z label) (give (At (suc number))) (case_at z (suc (suc number)) others) next (give (At number)) (case_at z (suc number) others) (λ found. next (later_entry found)) same_self (later_case z (suc number) others next))
later_case z number (T.Default others) next = later_case z (suc number) others next
later_case z number (T.SwitchStmt one others) next = later_case z (suc number) others next

module _ (around : TypeEnvironment) (functions : List FunctionDef) (calls : Calls) where
  -- from a label that is found, or else what is done without one
  abbrev pub from_entry : SwitchItems → Eval Completion → Entry → Eval Completion
  from_entry items without NoEntry = without
  from_entry items without (At number) = switch_from around calls (At number) items

  abbrev pub from_items : Eval Completion → Option SwitchItems → Eval Completion
  from_items without (Some items) = switch_from around calls (At 0) items
  from_items without None = without

  later_case_item : (label : ℤ) (others : SwitchItems) (without : Eval Completion) (found : Entry) → Same (from_entry (T.Case label others) without (later_entry found)) (from_entry others without found)
  later_case_item label others without NoEntry = same_self
  later_case_item label others without (At number) = same_self

  later_default : (others : SwitchItems) (without : Eval Completion) (found : Entry) → Same (from_entry (T.Default others) without (later_entry found)) (from_entry others without found)
  later_default others without NoEntry = same_self
  later_default others without (At number) = same_self

  later_statement : (one : T.Stmt) (others : SwitchItems) (without : Eval Completion) (found : Entry) → Same (from_entry (T.SwitchStmt one others) without (later_entry found)) (from_entry others without found)
  later_statement one others without NoEntry = same_self
  later_statement one others without (At number) = same_self

  case_fits : (z : ℤ) (items : SwitchItems) (without : Eval Completion) → Same (case_at z 0 items >>= from_entry items without) (fitting z items >>= from_items without)
  case_fits z T.SwitchEnd without = same_self
  case_fits z (T.Case label others) without =
      entered_same (if int_eq z label then give (At 0) else case_at z 1 others) (from_entry (T.Case label others) without) (if int_eq z label then give (Some (T.Case label others)) else fitting z others) (from_items without)
      (choice_then (int_eq z label) (give (At 0)) (case_at z 1 others) (from_entry (T.Case label others) without) (give (Some (T.Case label others))) (fitting z others) (from_items without) same_self
      (same_then (later_case z 0 others (from_entry (T.Case label others) without)) (same_then (then_same (case_at z 0 others) (λ found. later_case_item label others without found)) (case_fits z others without))))
  case_fits z (T.Default others) without =
      same_then (later_case z 0 others (from_entry (T.Default others) without)) (same_then (then_same (case_at z 0 others) (λ found. later_default others without found)) (case_fits z others without))
  case_fits z (T.SwitchStmt one others) without =
      same_then (later_case z 0 others (from_entry (T.SwitchStmt one others) without)) (same_then (then_same (case_at z 0 others) (λ found. later_statement one others without found)) (case_fits z others without))

  -- the items from `default` on
  case_later : (label : ℤ) (others : SwitchItems) (entry : Entry) → Same (switch_from around calls (later_entry entry) (T.Case label others)) (switch_from around calls entry others)
  case_later label others NoEntry = same_self
  case_later label others (At number) = same_self

  statement_later : (one : T.Stmt) (others : SwitchItems) (entry : Entry) → Same (switch_from around calls (later_entry entry) (T.SwitchStmt one others)) (switch_from around calls entry others)
  statement_later one others NoEntry = same_self
  statement_later one others (At number) = same_self

  default_fits : (items : SwitchItems) → Same (switch_from around calls (default_at items) items) (items_or_none around functions calls (default_of items))
  default_fits T.SwitchEnd = same_self
  default_fits (T.Case label others) = same_then (case_later label others (default_at others)) (default_fits others)
  default_fits (T.Default others) = same_self
  default_fits (T.SwitchStmt one others) = same_then (statement_later one others (default_at others)) (default_fits others)

  entry_found : (items : SwitchItems) (default found : Entry) → Same (switch_from around calls (entry_or found default) items) (from_entry items (switch_from around calls default items) found)
  entry_found items default NoEntry = same_self
  entry_found items default (At number) = same_self

  items_found : (items : SwitchItems) (found : Option SwitchItems) → Same (from_items (switch_from around calls (default_at items) items) found) (items_or_none around functions calls (first_of found (default_of items)))
  items_found items (Some from) = same_self
  items_found items None = default_fits items

  pub switch_searches : (z : ℤ) (items : SwitchItems) → Same (case_at z 0 items >>= λ found. switch_from around calls (entry_or found (default_at items)) items) (searched around functions calls z items None)
  switch_searches z items =
      same_then (then_same (case_at z 0 items) (λ found. entry_found items (default_at items) found))
      (same_then (case_fits z items (switch_from around calls (default_at items) items)) (then_same (fitting z items) (λ found. items_found items found)))

-- ---- steps of a search

module _ (around : TypeEnvironment) (functions : List FunctionDef) where
  end_goes : (config : Config) (z : ℤ) (default : Option SwitchItems) →
      Same (task_then around functions config.depth (Search z T.SwitchEnd default) (resume around functions config.depth config.frames)) (give (go_in around functions default config) >>= goes_on around functions)
  end_goes config z (Some items) = same_self
  end_goes config z None = same_self

  default_goes : (config : Config) (z : ℤ) (others : SwitchItems) (default : Option SwitchItems) →
      Same (task_then around functions config.depth (Search z (T.Default others) default) (resume around functions config.depth config.frames)) (search around functions z (T.Default others) default config >>= goes_on around functions)
  default_goes config z others (Some items) = same_self
  default_goes config z others None = same_self

  pub search_goes : (config : Config) (z : ℤ) (items : SwitchItems) (default : Option SwitchItems) →
      Same (task_then around functions config.depth (Search z items default) (resume around functions config.depth config.frames)) (search around functions z items default config >>= goes_on around functions)
  search_goes config z T.SwitchEnd default = end_goes config z default
  search_goes config z (T.Default others) default = default_goes config z others default
  search_goes config z (T.SwitchStmt one others) default = same_self
  search_goes config z (T.Case label others) default =
      same_then (then_behind (tick (if int_eq z label then give (Some (T.Case label others)) else fitting z others)) from rest (λ found. same_self))
      (entered_same (if int_eq z label then give (Some (T.Case label others)) else fitting z others) (λ found. from found >>= rest)
      (give (if int_eq z label then go_in around functions (Some (T.Case label others)) config else next_task around functions (Search z others default) config)) (goes_on around functions) (by (int_eq z label)))
    where
      from : Option SwitchItems → Eval Completion
      from found = items_or_none around functions (calls_within around functions config.depth) (first_of found (first_of default (default_of others)))

      rest : Completion → Eval Scalar
      rest way = resume around functions config.depth config.frames (WayGiven way)

      by : (fits : Bool) → Same ((if fits then give (Some (T.Case label others)) else fitting z others) >>= λ found. from found >>= rest)
          (goes_on around functions (if fits then go_in around functions (Some (T.Case label others)) config else next_task around functions (Search z others default) config))
      by true = same_self
      by false = same_back (then_behind (fitting z others) from rest (λ found. same_self))
