-- What a `for` begins with: nothing, an expression, or locals.
use Rattle.std.proofs.Common.{◌≡◌, ℕ, suc, ◌+◌, Bool, true, false, List, [], ◌∷◌, Option, Some, None, length, map, refl, sym, ap, ◌∙◌, subst, arith}
use Rattle.std.specs.Prelude.{is_some}
use Rattle.std.proofs.lemmas.Bool.{false≢true}
use Rattle.std.proofs.lemmas.List.{length-map}
use Rattle.c_typed.specs.declared.typed.Value as memory_value
use Rattle.c_typed.specs.declared.statement.LocalDef as memory_local
use Rattle.c_typed.specs.declared.statement.ForStart as memory_start
use Rattle.c_typed.specs.Types.{CType}
use Rattle.c_typed.specs.Typed as T
use Rattle.c_typed.specs.Typed.{LocalDef, ForStart}
use Rattle.c_typed.specs.Views.{value_in, ValueStands}
use Rattle.c_typed.specs.StatementViews.{local_in, LocalsStand, start_in}
use Rattle.c_typed.specs.TypedNodes.{value_nodes, locals_nodes, start_nodes}
use Rattle.c_typed.specs.Expressions.{type_of}
use Rattle.c_typed.specs.Statements.{is_start}
use Rattle.tac_build.specs.declared.builder.Builder.{Builder}
use Rattle.tac_build.specs.declared.names.Source.{Source}
use Rattle.tac_build.specs.declared.addressed.Addressed.{Addressed}
use Rattle.tac_build.specs.declared.homes.Home as memory_home
use Rattle.tac_build.specs.Homes.{takes, takes_first, takes_start}
use Rattle.tac_build.specs.StatementCode.{StartCode}
use Rattle.tac_build.specs.Taken.{taken_locals, taken_start, depth_behind}
use Rattle.tac_build.specs.Building.{spot_of, HasRoom, Adds}
use Rattle.tac_build.specs.Lowering.{names_for, program_in, types_of_source, scope_of, context_in, ValueTyped, LieInMemory}
use Rattle.tac_build.specs.LoweringStatements.{LocalsTyped, StartTyped, Foretold, Declares, EffectLowers, LocalsLower, StartLowers}

known_type : (known : Option CType) → is_some known ≡ true → (t : CType) × (known ≡ Some t)
known_type (Some t) h = (t, refl)
known_type None h = absurd (false≢true h)

taken_long : (depth : ℕ) (is_taken : ℕ → Bool) (locals : List LocalDef) → length (taken_locals depth is_taken locals) ≡ length locals
taken_long depth is_taken [] = refl
taken_long depth is_taken (first ∷ others) = ap suc (taken_long (suc depth) is_taken others)

-- ---- nothing

module _ (source : Source) (scope : List memory_home.Home) (start : memory_start.ForStart) (builder : Builder) (is : start_in (types_of_source source) start ≡ T.StartNothing) where
  pub nothing_lowers : (is_taken : ℕ → Bool) → StartLowers source scope is_taken start scope builder builder
  nothing_lowers is_taken = λ points fills.
      let table = types_of_source source in
      subst (λ tree. StartCode (program_in source) points (scope_of source scope) is_taken tree (spot_of table builder) (spot_of table builder) (scope_of source scope)) (sym is) (refl, refl)

  pub nothing_depth : length scope ≡ depth_behind (length scope) (start_in (types_of_source source) start)
  nothing_depth = ap (depth_behind (length scope)) (sym is)

  pub nothing_adds : Adds builder builder (names_for (start_nodes (start_in (types_of_source source) start)))
  nothing_adds = omega arith

  pub nothing_declares : (is_taken : ℕ → Bool) → Declares builder builder (taken_start (length scope) is_taken (start_in (types_of_source source) start))
  nothing_declares is_taken =
      let none : length (taken_start (length scope) is_taken (start_in (types_of_source source) start)) ≡ 0 = ap (λ tree. length (taken_start (length scope) is_taken tree)) is in
      omega (arith, none)

-- ---- an expression

module _ (source : Source) (scope : List memory_home.Home) (start : memory_start.ForStart) (value : memory_value.Value) (is : start_in (types_of_source source) start ≡ T.StartValue (value_in (types_of_source source) value)) where
  pub expression_typed : ValueStands (types_of_source source) value → StartTyped source scope start → ValueTyped source scope value
  expression_typed stands typed =
      let known = known_type (type_of (context_in source scope) (value_in (types_of_source source) value)) (ap (is_start (context_in source scope)) (sym is) ∙ typed.typed) in
      record { stands = stands; c_type = known.0; typed = known.1 }

  pub expression_lives : LieInMemory (scope_of source scope) (λ number. takes_start number (start_in (types_of_source source) start)) → LieInMemory (scope_of source scope) (λ number. takes false number (value_in (types_of_source source) value))
  expression_lives lives = subst (λ tree. LieInMemory (scope_of source scope) (λ number. takes_start number tree)) is lives

  pub expression_room : (builder : Builder) → HasRoom builder (names_for (start_nodes (start_in (types_of_source source) start))) → HasRoom builder (names_for (value_nodes (value_in (types_of_source source) value)))
  expression_room builder room = subst (λ tree. HasRoom builder (names_for (start_nodes tree))) is room

  pub expression_lowers : (old new : Builder) → EffectLowers source scope value old new → (is_taken : ℕ → Bool) → StartLowers source scope is_taken start scope old new
  expression_lowers old new lowers is_taken = λ points fills.
      let table = types_of_source source in
      let found = lowers points fills in
      subst (λ tree. StartCode (program_in source) points (scope_of source scope) is_taken tree (spot_of table old) (spot_of table new) (scope_of source scope)) (sym is) (found.0, found.1, refl)

  pub expression_depth : length scope ≡ depth_behind (length scope) (start_in (types_of_source source) start)
  expression_depth = ap (depth_behind (length scope)) (sym is)

  pub expression_adds : (old new : Builder) → Adds old new (names_for (value_nodes (value_in (types_of_source source) value))) → Adds old new (names_for (start_nodes (start_in (types_of_source source) start)))
  expression_adds old new adds = subst (λ tree. Adds old new (names_for (start_nodes tree))) (sym is) adds

  pub expression_declares : (old new : Builder) → new.counts.variables ≡ old.counts.variables → (is_taken : ℕ → Bool) → Declares old new (taken_start (length scope) is_taken (start_in (types_of_source source) start))
  expression_declares old new same is_taken =
      let none : length (taken_start (length scope) is_taken (start_in (types_of_source source) start)) ≡ 0 = ap (λ tree. length (taken_start (length scope) is_taken tree)) is in
      omega (arith, none, same)

-- ---- locals

module _ (source : Source) (scope : List memory_home.Home) (start : memory_start.ForStart) (locals : List memory_local.LocalDef)
    (is : start_in (types_of_source source) start ≡ T.StartLocals (map (local_in (types_of_source source)) locals)) where
  abbrev trees : List LocalDef
  trees = map (local_in (types_of_source source)) locals

  pub locals_typed : LocalsStand (types_of_source source) locals → StartTyped source scope start → LocalsTyped source scope locals
  locals_typed stand typed = record { stand = stand; typed = ap (is_start (context_in source scope)) (sym is) ∙ typed.typed }

  pub locals_lives : LieInMemory (scope_of source scope) (λ number. takes_start number (start_in (types_of_source source) start))
      → LieInMemory (scope_of source scope) (λ number. takes_first number (map (local_in (types_of_source source)) locals))
  locals_lives lives = subst (λ tree. LieInMemory (scope_of source scope) (λ number. takes_start number tree)) is lives

  pub locals_told : (addressed : Addressed) (from : ℕ) (is_taken : ℕ → Bool) → Foretold addressed from (taken_start (length scope) is_taken (start_in (types_of_source source) start))
      → Foretold addressed from (taken_locals (length scope) is_taken (map (local_in (types_of_source source)) locals))
  locals_told addressed from is_taken told = subst (λ tree. Foretold addressed from (taken_start (length scope) is_taken tree)) is told

  pub locals_room : (builder : Builder) → HasRoom builder (names_for (start_nodes (start_in (types_of_source source) start))) → HasRoom builder (names_for (locals_nodes (map (local_in (types_of_source source)) locals)))
  locals_room builder room = subst (λ tree. HasRoom builder (names_for (start_nodes tree))) is room

  pub locals_lowers : (inner : List memory_home.Home) (old new : Builder) (is_taken : ℕ → Bool) → LocalsLower source scope is_taken locals inner old new → StartLowers source scope is_taken start inner old new
  locals_lowers inner old new is_taken lowers = λ points fills.
      let table = types_of_source source in
      subst (λ tree. StartCode (program_in source) points (scope_of source scope) is_taken tree (spot_of table old) (spot_of table new) (scope_of source inner)) (sym is) (lowers points fills)

  pub locals_behind : (inner : List memory_home.Home) → length inner ≡ length locals + length scope → length inner ≡ depth_behind (length scope) (start_in (types_of_source source) start)
  locals_behind inner long = long ∙ ap (λ n. n + length scope) (sym (length-map locals (local_in (types_of_source source)))) ∙ ap (depth_behind (length scope)) (sym is)

  pub locals_adds : (old new : Builder) → Adds old new (names_for (locals_nodes (map (local_in (types_of_source source)) locals))) → Adds old new (names_for (start_nodes (start_in (types_of_source source) start)))
  locals_adds old new adds = subst (λ tree. Adds old new (names_for (start_nodes tree))) (sym is) adds

  pub locals_declare : (old new : Builder) → new.counts.variables ≡ old.counts.variables + length locals → (is_taken : ℕ → Bool) → Declares old new (taken_start (length scope) is_taken (start_in (types_of_source source) start))
  locals_declare old new more is_taken =
      let all : length (taken_start (length scope) is_taken (start_in (types_of_source source) start)) ≡ length locals =
      ap (λ tree. length (taken_start (length scope) is_taken tree)) is ∙ taken_long (length scope) is_taken trees ∙ length-map locals (local_in (types_of_source source)) in
      omega (arith, all, more)
