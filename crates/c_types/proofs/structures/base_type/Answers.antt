use Rattle.std.proofs.Common.{Some, map, refl, sym, ap, subst}
use Rattle.std.proofs.lemmas.Result.{IfOk-weaker}
use Rattle.c_syntax.specs.Trees as Trees
use Rattle.c_syntax.specs.Views.{name_tree, base_tree, member_tree}
use Rattle.c_types_state.specs.NameTables.{scope_of}
use Rattle.c_rules.specs.Programs as rules
use Rattle.c_types_expressions.proofs.Passing.{with_checker}
use Rattle.c_rules.specs.NamedItems.{named_in_base}
use Rattle.c_types.specs.Made.{Reaches, IsOptionalType}
use Rattle.c_types.proofs.Covering.{covers-finds}
use Rattle.c_types.proofs.Reaching.{reaches-covers}
use Rattle.c_types.proofs.structures.base_type.Goals as goal

pub returns-in_ok-structure-in-Struct-clause-reaches : goal.returns-in_ok-structure-in-Struct-clause-reaches
returns-in_ok-structure-in-Struct-clause-reaches c =
    let s = c.args.pass.now in
    let scope = scope_of s.checker in
    let t = c.structure.new.pass in
    subst (λ base. Reaches (rules.base_type scope base).type_of.found (named_in_base scope base) (rules.base_type scope base).scope s t) (sym (ap base_tree c.in-Struct.is))
    (subst (λ members. Reaches (rules.base_type scope (Trees.StructBody c.in-Struct.place (name_tree c.in-Struct.name) (map member_tree members))).type_of.found (named_in_base scope (Trees.StructBody c.in-Struct.place (name_tree c.in-Struct.name) (map member_tree members))) (rules.base_type scope (Trees.StructBody c.in-Struct.place (name_tree c.in-Struct.name) (map member_tree members))).scope s t)
    c.as_slice.ensures.value (c.in_ok-structure-in-Struct.ensures.reaches c.in-Struct.place))

pub returns-in_ok-structure-in-Struct-clause-made : goal.returns-in_ok-structure-in-Struct-clause-made
returns-in_ok-structure-in-Struct-clause-made c =
    let scope = scope_of c.args.pass.now.checker in
    subst (λ base. IsOptionalType c.structure.new.pass.checker.table (Some c.in_ok-structure-in-Struct.field-0) (rules.base_type scope base).type_of.known) (sym (ap base_tree c.in-Struct.is)) c.in_ok-structure-in-Struct.ensures.made

pub returns-in-Simple-clause-reaches : goal.returns-in-Simple-clause-reaches
returns-in-Simple-clause-reaches c =
    let s = c.args.pass.now in
    let scope = scope_of s.checker in
    let t = with_checker s c.words_type.new.checker in
    IfOk-weaker c.words_type.result _ _
    (λ r found. subst (λ base. Reaches (rules.base_type scope base).type_of.found (named_in_base scope base) (rules.base_type scope base).scope s t) (sym (ap base_tree c.in-Simple.is))
    (reaches-covers (covers-finds {s = s} {t = t} found refl)))
    c.words_type.ensures

pub returns-in-Simple-clause-made : goal.returns-in-Simple-clause-made
returns-in-Simple-clause-made c =
    let scope = scope_of c.args.pass.now.checker in
    IfOk-weaker c.words_type.result _ _
    (λ r found. subst (λ base. IsOptionalType c.words_type.new.checker.table r (rules.base_type scope base).type_of.known) (sym (ap base_tree c.in-Simple.is)) found.known)
    c.words_type.ensures
