-- A statement's tree, told by the parts that were matched, and what the statement comes to.
use Rattle.std.proofs.Common.{◌≡◌, ℕ, ◌≤◌, Bool, List, [], length, sym, ap, ◌∙◌, subst, arith}
use Rattle.c_typed.specs.declared.statement.Stmt as memory_stmt
use Rattle.c_typed.specs.StatementViews.{stmt_in}
use Rattle.c_typed.specs.Typed.{Stmt}
use Rattle.c_typed.specs.TypedNodes.{stmt_nodes}
use Rattle.tac_build.specs.declared.builder.Builder.{Builder}
use Rattle.tac_build.specs.declared.names.Source.{Source}
use Rattle.tac_build.specs.declared.statements.Ways as memory_ways
use Rattle.tac_build.specs.declared.homes.Home as memory_home
use Rattle.tac_build.specs.Building.{Adds}
use Rattle.tac_build.specs.Taken.{taken_stmt}
use Rattle.tac_build.specs.Lowering.{names_for, types_of_source}
use Rattle.tac_build.specs.LoweringStatements.{Declares, ways_in, OwnLowers, StmtLowers}
use Rattle.tac_build.proofs.Repeating.{TreeLowers}

-- what is asked in the locals in scope is asked in a slice of them, and what is told of a slice is told of them
pub in_slice : (P : List memory_home.Home → Type 0) (slice scope : List memory_home.Home) → slice ≡ scope → P scope → P slice
in_slice P slice scope same p = subst P (sym same) p

pub of_slice : (P : List memory_home.Home → Type 0) (slice scope : List memory_home.Home) → slice ≡ scope → P slice → P scope
of_slice P slice scope same p = subst P same p

module _ (source : Source) (scope : List memory_home.Home) (stmt : memory_stmt.Stmt) (tree : Stmt) (is : stmt_in (types_of_source source) stmt ≡ tree) (old new : Builder) where
  pub comes_to : (ways : memory_ways.Ways) → TreeLowers source scope ways tree old new → StmtLowers source scope ways stmt old new
  comes_to ways lowers = subst (λ tree. TreeLowers source scope ways tree old new) (sym is) lowers

  pub adds_all : (count : ℕ) → count ≤ names_for (stmt_nodes tree) → Adds old new count → Adds old new (names_for (stmt_nodes (stmt_in (types_of_source source) stmt)))
  adds_all count few adds = subst (λ tree. Adds old new (names_for (stmt_nodes tree))) (sym is) (omega (arith, few, adds))

  pub declares_all : (flags : List Bool) → taken_stmt (length scope) tree ≡ flags → Declares old new flags → Declares old new (taken_stmt (length scope) (stmt_in (types_of_source source) stmt))
  declares_all flags same declares = subst (λ flags. Declares old new flags) (sym (ap (taken_stmt (length scope)) is ∙ same)) declares

  pub declares_none : taken_stmt (length scope) tree ≡ [] → new.counts.variables ≡ old.counts.variables → Declares old new (taken_stmt (length scope) (stmt_in (types_of_source source) stmt))
  declares_none same counted = declares_all [] same (omega (arith, counted))

-- a statement that doesn't lead to the ways out of one around it
pub own_in : (source : Source) (scope : List memory_home.Home) (ways : memory_ways.Ways) (tree : Stmt) (old new : Builder) → OwnLowers source scope tree old new → TreeLowers source scope ways tree old new
own_in source scope ways tree old new lowers points fills = lowers points fills (ways_in source points ways)
