-- The limits of this project on programs: what each counts, and the first that is exceeded.
use Rattle.std.specs.Prelude.{ℕ, suc, ◌+◌, min, nat_lt, if◌then◌else◌, List, [], ◌∷◌, ◌++◌, length, map, Option, Some, None}
use Rattle.c_typed.specs.Types.{CType, CTypes, Pointer, Array, Function, NoTypes, MoreTypes}
use Rattle.c_typed.specs.Layouts.{Table, layouts, layout_in, aligned}
use Rattle.c_typed.specs.Typed.{Program, GlobalDef, LiteralDef, FunctionDef, LocalDef, Stmt, Block, SwitchItems, ForStart}
use Rattle.c_typed.specs.Typed as typed
use Rattle.run_theory.specs.declared.place.Pos.{Pos}
use Rattle.c_rules.specs.Known.{is_before}
use Rattle.c_rules.specs.Named.{NamedType}
use Rattle.c_types.specs.declared.limits.Limit.{Limit}
use Rattle.c_types.specs.declared.limits.Limit.TheVariants.{L1, L2, L3, L4, L5, L6}
use Rattle.c_types.specs.declared.limits.LimitErr.{LimitErr}

-- ---- sums, which stand still at the greatest number of 64 bits

abbrev pub greatest_sum : ℕ
greatest_sum = 18446744073709551615

abbrev pub added : ℕ → ℕ → ℕ
added a b = min (a + b) greatest_sum

-- the first number that is greater than the limit
abbrev pub first_above : ℕ → List ℕ → Option ℕ
first_above greatest [] = None
first_above greatest (n ∷ others) = if nat_lt greatest n then Some n else first_above greatest others

-- ---- types: a type and those that it is made of, the outermost first

abbrev mutual
  pub parts : CType → List CType
  parts (Pointer target) = Pointer target ∷ parts target
  parts (Array element n) = Array element n ∷ parts element
  parts (Function result parameters) = Function result parameters ∷ parts result ++ parts_of_each parameters
  parts c_type = c_type ∷ []

  pub parts_of_each : CTypes → List CType
  parts_of_each NoTypes = []
  parts_of_each (MoreTypes first others) = parts first ++ parts_of_each others

abbrev pub count_types : CTypes → ℕ
count_types NoTypes = 0
count_types (MoreTypes first others) = added (count_types others) 1

abbrev pub parameters_of : CType → ℕ
parameters_of (Function result parameters) = count_types parameters
parameters_of _ = 0

abbrev pub slots_of : Table → CType → ℕ
slots_of table c_type = (layout_in table c_type).slots

abbrev pub size_of : Table → CType → ℕ
size_of table c_type = (layout_in table c_type).size

-- what exceeds a limit, and where it is named
pub record Excess : Type 0 where
  pub place : Pos
  pub count : ℕ

abbrev pub excess_at : Pos → Option ℕ → List Excess
excess_at place None = []
excess_at place (Some n) = record { place = place; count = n } ∷ []

-- the first part of each type that is greater
abbrev pub excesses : (CType → ℕ) → ℕ → List NamedType → List Excess
excesses measure greatest [] = []
excesses measure greatest (named ∷ others) = excess_at named.place (first_above greatest (map measure (parts named.c_type))) ++ excesses measure greatest others

-- the first in the order of the text, of those and one before
abbrev pub earlier : Option Excess → Excess → Option Excess
earlier None excess = Some excess
earlier (Some first) excess = if is_before excess.place first.place then Some excess else Some first

abbrev pub earliest : Option Excess → List Excess → Option Excess
earliest first [] = first
earliest first (excess ∷ others) = earliest (earlier first excess) others

abbrev pub first_excess : (CType → ℕ) → ℕ → List NamedType → Option Excess
first_excess measure greatest named = earliest None (excesses measure greatest named)

abbrev pub excess_count : Option Excess → Option ℕ
excess_count None = None
excess_count (Some excess) = Some excess.count

-- ---- frames: parameters and the locals of all blocks, each rounded up to 8 bytes

abbrev pub rounded : Table → CType → ℕ
rounded table c_type = aligned 8 (layout_in table c_type).size

abbrev pub locals_size : Table → List LocalDef → ℕ
locals_size table [] = 0
locals_size table (first ∷ others) = added (rounded table first.c_type) (locals_size table others)

abbrev pub start_size : Table → ForStart → ℕ
start_size table (typed.StartLocals locals) = locals_size table locals
start_size table _ = 0

abbrev mutual
  pub stmt_size : Table → Stmt → ℕ
  stmt_size table (typed.BlockStmt items) = block_size table items
  stmt_size table (typed.If condition taken) = stmt_size table taken
  stmt_size table (typed.IfElse condition taken otherwise) = added (stmt_size table taken) (stmt_size table otherwise)
  stmt_size table (typed.While condition body) = stmt_size table body
  stmt_size table (typed.DoWhile body condition) = stmt_size table body
  stmt_size table (typed.For start condition step body) = added (start_size table start) (stmt_size table body)
  stmt_size table (typed.Switch value items) = switch_size table items
  stmt_size table _ = 0

  pub block_size : Table → Block → ℕ
  block_size table typed.Close = 0
  block_size table (typed.Declare local others) = added (rounded table local.c_type) (block_size table others)
  block_size table (typed.Perform stmt others) = added (stmt_size table stmt) (block_size table others)

  pub switch_size : Table → SwitchItems → ℕ
  switch_size table typed.SwitchEnd = 0
  switch_size table (typed.Case label others) = switch_size table others
  switch_size table (typed.Default others) = switch_size table others
  switch_size table (typed.SwitchStmt stmt others) = added (stmt_size table stmt) (switch_size table others)

abbrev pub types_size : Table → List CType → ℕ
types_size table [] = 0
types_size table (first ∷ others) = added (rounded table first) (types_size table others)

abbrev pub frames : Table → List FunctionDef → List ℕ
frames table [] = []
frames table (first ∷ others) = added (types_size table first.parameters) (block_size table first.body) ∷ frames table others

-- ---- variables outside functions and literals, each rounded up to 8 bytes

abbrev pub globals_size : Table → List GlobalDef → ℕ
globals_size table [] = 0
globals_size table (first ∷ others) = added (rounded table first.c_type) (globals_size table others)

abbrev pub literals_size : List LiteralDef → ℕ
literals_size [] = 0
literals_size (first ∷ others) = added (aligned 8 (suc (length first.bytes))) (literals_size others)

-- ---- the limits in their order

abbrev pub exceeds : Limit → Option ℕ → Option LimitErr → Option LimitErr
exceeds limit None others = others
exceeds limit (Some n) others = Some (record { which = limit; count = n })

abbrev pub above : ℕ → ℕ → Option ℕ
above greatest n = first_above greatest (n ∷ [])

abbrev pub exceeded : Program → List NamedType → Option LimitErr
exceeded program named =
    let table = layouts program.structs in
    exceeds L1 (above 4096 (length program.functions))
    (exceeds L2 (excess_count (first_excess parameters_of 64 named))
    (exceeds L3 (excess_count (first_excess (slots_of table) 1024 named))
    (exceeds L4 (excess_count (first_excess (size_of table) 1048576 named))
    (exceeds L5 (first_above 1048576 (frames table program.functions))
    (exceeds L6 (above 1073741824 (added (globals_size table program.globals) (literals_size program.literals))) None)))))
