use Rattle.std.proofs.Common.{[], refl, sym, ap, subst, ◌∙◌, Option}
use Rattle.c_num.specs.declared.IntType.TheVariants as I
use Rattle.c_typed.specs.declared.c_type.CType.{CType}
use Rattle.c_typed.specs.Types as T
use Rattle.c_typed.specs.Table.{Stands, type_in}
use Rattle.c_typed.proofs.Grown.{integer_stands, stays, grows_trans}
use Rattle.c_types_state.specs.Finding.{AllStand, each_in}
use Rattle.c_rules.specs.Programs.{is_main_type}
use Rattle.c_types.proofs.Covering.{covers-finds, covers-then}
use Rattle.c_types.proofs.items.is_main_type.Goals as goal

pub function-requires-clause-returned : goal.function-requires-clause-returned
function-requires-clause-returned c = (integer_stands c.no_parameters.new.self.table c.integer.result I.Int c.integer.ensures).0

pub same-requires-clause-a : goal.same-requires-clause-a
same-requires-clause-a c =
    let t0 = c.args.pass.now.checker.table in
    let t2 = c.function.new.self.table in
    let grows = grows_trans t0 c.no_parameters.new.self.table t2 c.in_ok-none.ensures.made.grows c.in_ok-main.ensures.made.grows in
    (stays t0 t2 grows c.in-Some.c_type (subst (λ (t : Option CType). AllStand Stands t0 t) c.in-Some.is c.requires)).0

pub returns : goal.returns
returns c =
    let t0 = c.args.pass.now.checker.table in
    let t1 = c.no_parameters.new.self.table in
    let t2 = c.function.new.self.table in
    let grows = grows_trans t0 t1 t2 c.in_ok-none.ensures.made.grows c.in_ok-main.ensures.made.grows in
    let own = stays t0 t2 grows c.in-Some.c_type (subst (λ (t : Option CType). AllStand Stands t0 t) c.in-Some.is c.requires) in
    let int = integer_stands t1 c.integer.result I.Int c.integer.ensures in
    record {
      covers = covers-then (λ _. []) (λ _. []) (λ scope. scope) (covers-finds {s = c.args.pass.now} {t = record c.args.pass.now { checker = c.no_parameters.new.self }} c.in_ok-none.ensures.made refl) (covers-finds c.in_ok-main.ensures.made refl);
      made = c.same.ensures
          ∙ (λ i. T.same_type (own.1 i) ((c.in_ok-main.ensures.made.known.1 ∙ (λ j. T.Function (int.1 j) (c.in_ok-none.ensures.made.known.1 j))) i))
          ∙ ap (λ (t : Option CType). is_main_type (each_in type_in t0 t)) (sym c.in-Some.is);
    }
