use Rattle.std.proofs.Common.{sym, subst, ap, ◌∙◌}
use Rattle.c_typed.specs.StatementViews.{stmt_in}
use Rattle.ref_meaning.specs.Trees.{StmtFits}
use Rattle.c_typed.specs.declared.statement.Stmt.TheVariants as M
use Rattle.ref_meaning.specs.Views.{locals_of}
use Rattle.ref_meaning.specs.Items.{StartLocalIs, start_of}
use Rattle.ref_meaning.proofs.Numbered.{local-found}
use Rattle.ref_meaning.proofs.statement.start_local.Goals as goal

pub returns-in-Locals : goal.returns-in-Locals
returns-in-Locals c = λ table stands.
    let is = c.in-For.is ∙ ap (λ s. M.For s c.in-For.condition c.in-For.step c.in-For.body) c.in-Locals.is in
    subst (λ t. StartLocalIs table c.args.number (locals_of (start_of (stmt_in table t))) c.get.result) (sym is)
    (local-found table c.in-Locals.locals.items c.deref.result.now c.args.number c.get.result c.deref.ensures.value c.get.ensures.lookup c.deref.type_inv.0 (subst (StmtFits table) is stands).0)
