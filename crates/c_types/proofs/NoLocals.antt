-- A statement that has no statements in it has no locals.
use Rattle.std.proofs.Common.{◌≡◌, refl, sym, ap, ◌∙◌}
use Rattle.c_typed.specs.declared.statement.Stmt.{Stmt, roll-Stmt, roll-out-Stmt}
use Rattle.c_typed.specs.declared.statement.Stmt.TheVariants as S
use Rattle.c_typed.specs.Layouts.{Table}
use Rattle.c_typed.specs.Table.{Interned}
use Rattle.c_typed.specs.StatementViews.{stmt_in}
use Rattle.c_types.specs.Limits.{stmt_size}

pub no_locals : (sizes : Table) (table : Interned) (s : Stmt)
    → ((items : _) → s ≡ S.Block items → ⊥)
    → ((condition : _) (taken : _) → s ≡ S.If condition taken → ⊥)
    → ((condition : _) (taken : _) (otherwise : _) → s ≡ S.IfElse condition taken otherwise → ⊥)
    → ((condition : _) (body : _) → s ≡ S.While condition body → ⊥)
    → ((body : _) (condition : _) → s ≡ S.DoWhile body condition → ⊥)
    → ((start : _) (condition : _) (step : _) (body : _) → s ≡ S.For start condition step body → ⊥)
    → ((value : _) (items : _) → s ≡ S.Switch value items → ⊥)
    → 0 ≡ stmt_size sizes (stmt_in table s)
no_locals sizes table (S.Block' shape items) h _ _ _ _ _ _ = absurd (h _ (sym (roll-out-Stmt (S.Block' shape items)) ∙ ap roll-Stmt (S.outs-Block' shape items) ∙ S.rolls-Block _))
no_locals sizes table (S.If' condition p taken) _ h _ _ _ _ _ = absurd (h _ _ (sym (roll-out-Stmt (S.If' condition p taken)) ∙ ap roll-Stmt (S.outs-If' condition p taken) ∙ S.rolls-If _ _))
no_locals sizes table (S.IfElse' condition p taken q otherwise) _ _ h _ _ _ _ = absurd (h _ _ _ (sym (roll-out-Stmt (S.IfElse' condition p taken q otherwise)) ∙ ap roll-Stmt (S.outs-IfElse' condition p taken q otherwise) ∙ S.rolls-IfElse _ _ _))
no_locals sizes table (S.While' condition p body) _ _ _ h _ _ _ = absurd (h _ _ (sym (roll-out-Stmt (S.While' condition p body)) ∙ ap roll-Stmt (S.outs-While' condition p body) ∙ S.rolls-While _ _))
no_locals sizes table (S.DoWhile' p body condition) _ _ _ _ h _ _ = absurd (h _ _ (sym (roll-out-Stmt (S.DoWhile' p body condition)) ∙ ap roll-Stmt (S.outs-DoWhile' p body condition) ∙ S.rolls-DoWhile _ _))
no_locals sizes table (S.For' start condition step p body) _ _ _ _ _ h _ = absurd (h _ _ _ _ (sym (roll-out-Stmt (S.For' start condition step p body)) ∙ ap roll-Stmt (S.outs-For' start condition step p body) ∙ S.rolls-For _ _ _ _))
no_locals sizes table (S.Switch' value shape items) _ _ _ _ _ _ h = absurd (h _ _ (sym (roll-out-Stmt (S.Switch' value shape items)) ∙ ap roll-Stmt (S.outs-Switch' value shape items) ∙ S.rolls-Switch _ _))
no_locals sizes table S.Empty _ _ _ _ _ _ _ = refl
no_locals sizes table (S.Expression value) _ _ _ _ _ _ _ = refl
no_locals sizes table S.Break _ _ _ _ _ _ _ = refl
no_locals sizes table S.Continue _ _ _ _ _ _ _ = refl
no_locals sizes table (S.Return value) _ _ _ _ _ _ _ = refl
