-- What a pass over a part of the text comes to where something is made of the part in every case.
use Rattle.std.specs.Prelude.{◌≡◌, List, [], ◌++◌, map, Option, Vec}
use Rattle.c_typed.specs.declared.c_type.CType as number
use Rattle.c_typed.specs.declared.typed.Value as memory_value
use Rattle.c_typed.specs.declared.statement.Stmt as memory_stmt
use Rattle.c_typed.specs.declared.statement.BlockItem as memory_item
use Rattle.c_typed.specs.declared.statement.SwitchItem as memory_switch
use Rattle.c_typed.specs.declared.statement.ForStart as memory_start
use Rattle.c_typed.specs.declared.statement.LocalDef as memory_local
use Rattle.c_typed.specs.declared.definition.First as memory_first
use Rattle.c_typed.specs.declared.structure.Member as memory_member
use Rattle.c_typed.specs.Types.{CType}
use Rattle.c_typed.specs.Values.{Held}
use Rattle.c_typed.specs.Layouts.{MemberDef}
use Rattle.c_typed.specs.Typed as typed
use Rattle.c_typed.specs.Table.{Interned, Grows, AreComplete, member_entries, member_defs}
use Rattle.c_typed.specs.StatementViews.{optional_value_in, OptionalStands, local_in, LocalStands, LocalsStand, start_in, StartStands, stmt_in, StmtStands, block_in, BlockStands, switch_in, SwitchStands}
use Rattle.c_typed.specs.DefinitionViews.{all_first}
use Rattle.c_rules.specs.declared.violation.Violation.{Violation}
use Rattle.c_rules.specs.Names.{Scope}
use Rattle.c_types_state.specs.NameTables.{scope_of}
use Rattle.c_types_state.specs.Finding.{noted, IsOption, IsType}
use Rattle.c_types_expressions.specs.declared.pass.Pass.{Pass}
use Rattle.c_rules.specs.Named.{NamedType}
use Rattle.c_types_expressions.specs.Passes.{Names}

-- The pass has gone over a part: what the part violates was noted and the types that it names were added. The table may have
-- grown, and the scope behind the part is this one.
pub record Covers (found : List Violation) (named : List NamedType) (there : Scope) (old new : Pass) : Type 0 where
  pub grows : Grows old.checker.table new.checker.table
  pub scope : scope_of new.checker ≡ there
  pub least : new.checker.least ≡ noted old.checker.least found
  pub names : Names named new.checker.table old.named.items new.named.items

-- and this was made of it
pub record Makes {A B : Type 0} (Is : Interned → B → A → Type 0) (found : List Violation) (a : A) (named : List NamedType) (there : Scope) (old new : Pass) (b : B) : Type 0 where
  pub covers : Covers found named there old new
  pub made : Is new.checker.table b a

-- The same where a structure may be completed: the types stay, the structures need not.
abbrev pub without_structs : Interned → Interned
without_structs table = record table { structs = [] }

pub record Reaches (found : List Violation) (named : List NamedType) (there : Scope) (old new : Pass) : Type 0 where
  pub grows : Grows (without_structs old.checker.table) (without_structs new.checker.table)
  pub scope : scope_of new.checker ≡ there
  pub least : new.checker.least ≡ noted old.checker.least found
  pub names : Names named new.checker.table old.named.items new.named.items

-- ---- what is made

abbrev pub IsBoth : {A B A' B' : Type 0} → (Interned → B → A → Type 0) → (Interned → B' → A' → Type 0) → Interned → B × B' → A × A' → Type 0
IsBoth Is Is' table b a = Is table b.0 a.0 × Is' table b.1 a.1

abbrev pub IsOptionalType : Interned → Option number.CType → Option CType → Type 0
IsOptionalType table t c_type = IsOption (IsType table) t c_type

abbrev pub IsOptionalValue : Interned → Option memory_value.Value → Option typed.Value → Type 0
IsOptionalValue table value o = OptionalStands table value × (optional_value_in table value ≡ o)

abbrev pub IsStmt : Interned → memory_stmt.Stmt → typed.Stmt → Type 0
IsStmt table stmt s = StmtStands table stmt × (stmt_in table stmt ≡ s)

abbrev pub IsBlock : {Z : Type 0} → Interned → Vec memory_item.BlockItem Z → typed.Block → Type 0
IsBlock table items block = BlockStands table items.items × (block_in table items.items ≡ block)

abbrev pub IsSwitchItems : {Z : Type 0} → Interned → Vec memory_switch.SwitchItem Z → typed.SwitchItems → Type 0
IsSwitchItems table items block = SwitchStands table items.items × (switch_in table items.items ≡ block)

abbrev pub IsStart : Interned → memory_start.ForStart → typed.ForStart → Type 0
IsStart table start s = StartStands table start × (start_in table start ≡ s)

abbrev pub IsLocal : Interned → memory_local.LocalDef → typed.LocalDef → Type 0
IsLocal table local l = LocalStands table local × (local_in table local ≡ l)

abbrev pub IsLocals : {Z : Type 0} → Interned → Vec memory_local.LocalDef Z → List typed.LocalDef → Type 0
IsLocals table locals ls = LocalsStand table locals.items × (map (local_in table) locals.items ≡ ls)

-- first values hold no types
abbrev pub IsFirst : {Z : Type 0} → Interned → Vec memory_first.First Z → List Held → Type 0
IsFirst table first held = all_first first.items ≡ held

-- members that may complete a structure
abbrev pub IsMembers : {Z : Type 0} → Interned → Vec memory_member.Member Z → List MemberDef → Type 0
IsMembers table members defs = AreComplete table (member_entries members.items) × (member_defs table.tags table.entries (member_entries members.items) ≡ defs)

-- ---- what is added to a block

-- Items were added to those of a block: with more behind them they are what this adds to a block of those.
pub record AddsItems (adds : typed.Block → typed.Block) (table : Interned) (old new : List memory_item.BlockItem) : Type 0 where
  pub added : List memory_item.BlockItem
  pub is : new ≡ old ++ added
  pub stand : BlockStands table added
  pub means : (more : List memory_item.BlockItem) → block_in table (added ++ more) ≡ adds (block_in table more)
