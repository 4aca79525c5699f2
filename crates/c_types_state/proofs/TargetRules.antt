-- Objects that may be assigned to.
use Rattle.std.proofs.Common.{◌≡◌, Box, Global, Bool, true, false, not, Some, None, refl, sym, ap, subst}
use Rattle.run_theory.specs.declared.place.Pos.{Pos}
use Rattle.c_rules.specs.declared.rule.TypeRule.TheVariants as T
use Rattle.c_typed.specs.declared.typed.Object as memory_object
use Rattle.c_typed.specs.Types.{is_array}
use Rattle.c_typed.specs.Table.{type_in}
use Rattle.c_types_state.specs.declared.known.TypedExpr as memory_typed
use Rattle.c_types_state.specs.declared.known.TypedExpr.TheVariants as E
use Rattle.c_types_state.specs.declared.known.Known as memory_known
use Rattle.c_rules.specs.Known.{give, unless}
use Rattle.c_rules.specs.Operators.{modifiable_rule, is_modifiable}
use Rattle.c_types_state.specs.NameTables.{State}
use Rattle.c_types_state.specs.Finding.{noted, lesser, Finds, ExprStands, expr_in, TypedStands, typed_in, address_in}
use Rattle.c_types_state.proofs.Findings.{finds-give, finds-refuse-lesser}
use Rattle.c_types_state.specs.declared.targets.Target as memory_target
use Rattle.c_types_state.specs.Operands.{IsTarget}
use Rattle.c_types_state.proofs.Steps.{fails, passes, unchanged}

module _ (whole : Pos) (s t : State) (known : memory_known.Known) where
  pub modifiable-other : ((object : Box memory_object.Object Global) → known.typed ≡ E.Object object → ⊥) → t ≡ record s { least = lesser s.least (record { kind = T.T09; place = whole }) } → Finds IsTarget (modifiable_rule whole (expr_in s.table known)) s t None
  modifiable-other none e = by known.typed none
    where
      by : (tree : memory_typed.TypedExpr) → ((object : Box memory_object.Object Global) → tree ≡ E.Object object → ⊥) → Finds IsTarget (modifiable_rule whole (record (expr_in s.table known) { typed = typed_in s.table tree })) s t None
      by (E.Value value) none = finds-refuse-lesser T.T09 whole e
      by (E.Object object) none = absurd (none object refl)
      by (E.Function function) none = finds-refuse-lesser T.T09 whole e
      by (E.Library function groups) none = finds-refuse-lesser T.T09 whole e

  module _ (object : Box memory_object.Object Global) (array asked : Bool) (is : known.typed ≡ E.Object object) (tested : array ≡ is_array (type_in s.table known.c_type)) (answered : asked ≡ not array) (e : t ≡ record s { least = noted s.least (unless (not array) T.T09 whole) }) where
    object-tested : not array ≡ is_modifiable (expr_in s.table known)
    object-tested = subst (λ tree. not array ≡ is_modifiable (record (expr_in s.table known) { typed = typed_in s.table tree })) (sym is) (ap not tested)

    pub modifiable-array : asked ≡ false → Finds IsTarget (modifiable_rule whole (expr_in s.table known)) s t None
    modifiable-array failed = fails (is_modifiable (expr_in s.table known)) T.T09 whole (give (expr_in s.table known)) object-tested answered failed e

    pub modifiable-object : asked ≡ true → ExprStands s.table known → Finds IsTarget (modifiable_rule whole (expr_in s.table known)) s t (Some (record { c_type = known.c_type; object = object; constness = known.constness; is_null = known.is_null; address = known.address }))
    modifiable-object held stands =
        let target : memory_target.Target = record { c_type = known.c_type; object = object; constness = known.constness; is_null = known.is_null; address = known.address } in
        let there : IsTarget s.table target (expr_in s.table known) = (
          (stands.0, subst (TypedStands s.table) is stands.1, stands.2),
          λ i. record { c_type = type_in s.table known.c_type; typed = typed_in s.table (sym is i); constness = known.constness; is_null = known.is_null; address = address_in s.table known.address },
        ) in
        passes (is_modifiable (expr_in s.table known)) T.T09 whole (give (expr_in s.table known)) object-tested answered held e
        (finds-give (subst (λ (x : State). IsTarget x.table target (expr_in s.table known)) (sym (unchanged T.T09 whole answered held e)) there))
