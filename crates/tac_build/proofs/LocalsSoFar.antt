-- The locals of a `for`, one behind another: what is told while some are left.
use Rattle.std.proofs.Common.{◌≡◌, ℕ, zero, suc, ◌+◌, ◌<◌, ◌≤◌, Bool, true, false, ◌||◌, List, [], ◌∷◌, ◌++◌, Some, length, map, drop, slice_get, slice_index_or, append_assoc, drop-drop, refl, sym, ap, ◌∙◌, subst, arith, length-append}
use Rattle.std.proofs.lemmas.Bool.{and_parts, or_left, or_right}
use Rattle.std.proofs.lemmas.List.{append-nil, drop_more}
use Rattle.c_typed.specs.declared.statement.LocalDef as memory_local
use Rattle.c_typed.specs.declared.statement.ForStart as memory_start
use Rattle.c_typed.specs.declared.statement.ForStart.TheVariants as F
use Rattle.c_typed.specs.declared.typed.Value as memory_value
use Rattle.c_typed.specs.Types.{CType, is_array, is_struct}
use Rattle.c_typed.specs.Table.{Interned, type_in}
use Rattle.c_typed.specs.Typed.{LocalDef}
use Rattle.c_typed.specs.StatementViews.{local_in}
use Rattle.c_typed.specs.TypedNodes.{local_nodes, locals_nodes}
use Rattle.c_typed.specs.Context.{with_local}
use Rattle.c_typed.specs.Statements.{is_local, are_locals}
use Rattle.tac_ir.specs.Code.{Op}
use Rattle.tac_build.specs.declared.builder.Builder.{Builder}
use Rattle.tac_build.specs.declared.names.Source.{Source}
use Rattle.tac_build.specs.declared.addressed.Addressed.{Addressed}
use Rattle.tac_build.specs.declared.homes.Home as memory_home
use Rattle.tac_build.specs.Homes.{Home, Scope, takes_optional, takes_first}
use Rattle.tac_build.specs.Spots.{Spot}
use Rattle.tac_build.specs.StatementCode.{new_home, LocalCode, LocalsCode}
use Rattle.tac_build.specs.Taken.{taken_locals}
use Rattle.tac_build.specs.Building.{home_in, Fills, Grows, points_in, spot_of, names_of, HasRoom, Adds}
use Rattle.tac_build.specs.Lowering.{names_for, program_in, types_of_source, scope_of, context_in, IsScope, LieInMemory}
use Rattle.tac_build.specs.LoweringStatements.{LocalTyped, LocalsTyped, Foretold, LocalLowers, LocalsLower}
use Rattle.tac_build.proofs.Points.{fills_same, fills_grown, grows_same, grows_on}
use Rattle.tac_build.proofs.Declaring.{scope_pushed, scope_long, context_pushed, lie_grown}

-- ---- which locals are told to be taken

read_drop : {X : Type 0} (xs : List X) (n : ℕ) → slice_get xs n ≡ slice_get (drop n xs) 0
read_drop [] zero = refl
read_drop [] (suc n) = refl
read_drop (x ∷ xs) zero = refl
read_drop (x ∷ xs) (suc n) = read_drop xs n

pub told_first : (addressed : Addressed) (from : ℕ) (flag : Bool) (flags : List Bool) → Foretold addressed from (flag ∷ flags) → slice_get addressed.variables.items from ≡ Some flag
told_first addressed from flag flags told = read_drop addressed.variables.items from ∙ ap (λ items. slice_get items 0) told.1

pub told_next : (addressed : Addressed) (from here : ℕ) (flag : Bool) (flags : List Bool) → here ≡ from + 1 → Foretold addressed from (flag ∷ flags) → Foretold addressed here flags
told_next addressed from here flag flags next told =
    let items = addressed.variables.items in
    (told.0, ap (λ n. drop n items) next ∙ sym (drop-drop 1 from items) ∙ ap (drop 1) told.1)

-- ---- what is left of a list

pub drop_next : {X : Type 0} (xs : List X) (n : ℕ) (x : X) → n < length xs → x ≡ slice_index_or xs n x → drop n xs ≡ x ∷ drop (n + 1) xs
drop_next xs n x inside is = drop_more xs n x inside ∙ ap (λ y. y ∷ drop (n + 1) xs) (sym is)

pub drop_past : {X : Type 0} (xs : List X) (n : ℕ) → length xs ≤ n → drop n xs ≡ []
drop_past [] zero past = refl
drop_past [] (suc n) past = refl
drop_past (x ∷ xs) zero past = absurd (omega (arith, past))
drop_past (x ∷ xs) (suc n) past = drop_past xs n (omega (arith, past))

-- ---- locals

home_lies : (table : Interned) (home : memory_home.Home) (spot : Spot) (t : CType) (is_taken : Bool) → home_in table home ≡ new_home spot t is_taken → is_taken ≡ true → home.is_object ≡ true
home_lies table home spot t is_taken is taken =
    ap (λ (home : Home). home.is_object) is ∙ or_right (is_array t) (is_struct t || is_taken) (or_right (is_struct t) is_taken taken)

-- the locals of which some are left, which begin to live in the scope of the others
pub record LocalsSoFar (source : Source) (addressed : Addressed) (outer scope : List memory_home.Home) (all left : List memory_local.LocalDef) (old now : Builder) : Type 0 where
  pub homes : IsScope source scope
  pub typed : LocalsTyped source scope left
  pub lives : LieInMemory (scope_of source scope) (λ number. takes_first number (map (local_in (types_of_source source)) left))
  pub foretold : (is_taken : ℕ → Bool) × Foretold addressed now.counts.variables (taken_locals (length scope) is_taken (map (local_in (types_of_source source)) left))
  pub code : (is_taken : ℕ → Bool) → Foretold addressed old.counts.variables (taken_locals (length outer) is_taken (map (local_in (types_of_source source)) all))
      → Foretold addressed now.counts.variables (taken_locals (length scope) is_taken (map (local_in (types_of_source source)) left))
      × ((points : List Op) → Fills (points_in (types_of_source source) now) points → (to : Spot) (inner : Scope)
      → LocalsCode (program_in source) points (scope_of source scope) is_taken (map (local_in (types_of_source source)) left) (spot_of (types_of_source source) now) to inner
      → LocalsCode (program_in source) points (scope_of source outer) is_taken (map (local_in (types_of_source source)) all) (spot_of (types_of_source source) old) to inner)
  pub begun : (more : List memory_home.Home) × (scope ≡ outer ++ more)
  pub depth : length scope + length left ≡ length outer + length all
  pub grows : Grows old now
  pub names : names_of now.counts + names_for (locals_nodes (map (local_in (types_of_source source)) left)) ≤ names_of old.counts + names_for (locals_nodes (map (local_in (types_of_source source)) all))
  pub variables : now.counts.variables + length left ≡ old.counts.variables + length all

module _ (source : Source) (addressed : Addressed) where
  abbrev table : Interned
  table = types_of_source source

  abbrev trees : List memory_local.LocalDef → List LocalDef
  trees locals = map (local_in (types_of_source source)) locals

  pub locals_begin : (outer : List memory_home.Home) (all : List memory_local.LocalDef) (old : Builder) → IsScope source outer → LocalsTyped source outer all
      → LieInMemory (scope_of source outer) (λ number. takes_first number (map (local_in (types_of_source source)) all))
      → ((is_taken : ℕ → Bool) × Foretold addressed old.counts.variables (taken_locals (length outer) is_taken (map (local_in (types_of_source source)) all)))
      → LocalsSoFar source addressed outer outer all all old old
  locals_begin outer all old homes typed lives foretold = record {
    homes = homes;
    typed = typed;
    lives = lives;
    foretold = foretold;
    code = λ is_taken told. (told, λ points fills to inner code. code);
    begun = ([], sym (append-nil outer));
    depth = refl;
    grows = grows_same old;
    names = omega arith;
    variables = refl;
  }

  -- the next one is among those that are left
  pub locals_at : (outer scope : List memory_home.Home) (all left : List memory_local.LocalDef) (local : memory_local.LocalDef) (rest : List memory_local.LocalDef) (old now : Builder) → left ≡ local ∷ rest
      → LocalsSoFar source addressed outer scope all left old now → LocalsSoFar source addressed outer scope all (local ∷ rest) old now
  locals_at outer scope all left local rest old now is far = subst (λ left. LocalsSoFar source addressed outer scope all left old now) is far

  module _ (outer scope : List memory_home.Home) (all rest : List memory_local.LocalDef) (local : memory_local.LocalDef) (old now : Builder) (far : LocalsSoFar source addressed outer scope all (local ∷ rest) old now) where
    pub local_typed : LocalTyped source scope local
    local_typed = record {
      stands = far.typed.stand.0;
      typed = (and_parts (is_local (context_in source scope) (local_in table local)) (are_locals (with_local (type_in table local.c_type) (context_in source scope)) (trees rest)) far.typed.typed).0;
    }

    pub local_lives : LieInMemory (scope_of source scope) (λ number. takes_optional number (local_in (types_of_source source) local).first)
    local_lives number home at is = far.lives number home at (or_left (takes_optional number (local_in table local).first) (takes_first number (trees rest)) is)

    pub local_own : (is_taken : Bool) × (slice_get addressed.variables.items now.counts.variables ≡ Some is_taken) × (takes_optional (length scope) (local_in (types_of_source source) local).first ≡ true → is_taken ≡ true)
    local_own =
        let depth = length scope in
        let is_taken = far.foretold.0 in
        let first = takes_first depth (trees (local ∷ rest)) in (
          first || is_taken depth,
          told_first addressed now.counts.variables (first || is_taken depth) (taken_locals (suc depth) is_taken (trees rest)) far.foretold.1,
          λ is. or_left first (is_taken depth) (or_left (takes_optional depth (local_in table local).first) (takes_first depth (trees rest)) is),
        )

    pub local_room : HasRoom old (names_for (locals_nodes (map (local_in (types_of_source source)) all))) → HasRoom now (names_for (local_nodes (local_in (types_of_source source) local)))
    local_room room =
        let names = far.names in
        omega (arith, names, room)

    module _ (home : memory_home.Home) (new : Builder) (lowers : (is_taken : Bool) → slice_get addressed.variables.items now.counts.variables ≡ Some is_taken → LocalLowers source scope local is_taken home now new) where
      abbrev longer : List memory_home.Home
      longer = scope ++ home ∷ []

      is_home : (is_taken : Bool) → slice_get addressed.variables.items now.counts.variables ≡ Some is_taken → home_in table home ≡ new_home (spot_of table now) (type_in table local.c_type) is_taken
      is_home is_taken at = (lowers is_taken at (points_in table new) (fills_same (points_in table new))).0

      is_inner : length longer ≡ suc (length scope)
      is_inner = omega (arith, length-append scope (home ∷ []))

      -- what is told of the others
      told_others : new.counts.variables ≡ now.counts.variables + 1 → (is_taken : ℕ → Bool) → Foretold addressed now.counts.variables (taken_locals (length scope) is_taken (trees (local ∷ rest)))
          → Foretold addressed new.counts.variables (taken_locals (length longer) is_taken (trees rest))
      told_others more is_taken told =
          let depth = length scope in
          let flag = takes_first depth (trees (local ∷ rest)) || is_taken depth in
          subst (λ depth. Foretold addressed new.counts.variables (taken_locals depth is_taken (trees rest))) (sym is_inner)
          (told_next addressed now.counts.variables new.counts.variables flag (taken_locals (suc depth) is_taken (trees rest)) more told)

      -- the code of the local, and then that of the others
      code_others : Grows now new → (is_taken : ℕ → Bool) → Foretold addressed now.counts.variables (taken_locals (length scope) is_taken (trees (local ∷ rest)))
          → (points : List Op) → Fills (points_in table new) points → (to : Spot) (last : Scope)
          → LocalsCode (program_in source) points (scope_of source longer) is_taken (trees rest) (spot_of table new) to last
          → LocalsCode (program_in source) points (scope_of source scope) is_taken (trees (local ∷ rest)) (spot_of table now) to last
      code_others grows is_taken told points fills to last code =
          let depth = length scope in
          let tree = local_in table local in
          let flag = takes_first depth (trees (local ∷ rest)) || is_taken depth in
          let at = told_first addressed now.counts.variables flag (taken_locals (suc depth) is_taken (trees rest)) told in
          let first = lowers flag at points fills in (
            spot_of table new,
            home_in table home,
            subst (λ depth. LocalCode (program_in source) points (scope_of source scope) tree (takes_first depth (trees (local ∷ rest)) || is_taken depth) (spot_of table now) (spot_of table new) (home_in table home)) (sym (scope_long table scope)) first,
            subst (λ scope. LocalsCode (program_in source) points scope is_taken (trees rest) (spot_of table new) to last) (scope_pushed table scope home) code,
          )

      pub locals_next : IsScope source (scope ++ home ∷ []) → Grows now new → Adds now new (names_for (local_nodes (local_in (types_of_source source) local))) → new.counts.variables ≡ now.counts.variables + 1
          → LocalsSoFar source addressed outer (scope ++ home ∷ []) all rest old new
      locals_next homes grows adds more =
          let depth = length scope in
          let is_taken = far.foretold.0 in
          let flag = takes_first depth (trees (local ∷ rest)) || is_taken depth in
          let at = told_first addressed now.counts.variables flag (taken_locals (suc depth) is_taken (trees rest)) far.foretold.1 in
          let own = is_home flag at in
          let around : context_in source longer ≡ with_local (type_in table local.c_type) (context_in source scope) =
          context_pushed source scope home ∙ ap (λ (home : Home). with_local home.c_type (context_in source scope)) own in
          let names = far.names in
          let variables = far.variables in
          let deep = far.depth in
          record {
            homes = homes;
            typed = record {
              stand = far.typed.stand.1;
              typed = ap (λ around. are_locals around (trees rest)) around
                  ∙ (and_parts (is_local (context_in source scope) (local_in table local)) (are_locals (with_local (type_in table local.c_type) (context_in source scope)) (trees rest)) far.typed.typed).1;
            };
            lives = lie_grown source scope home (λ number. takes_first number (trees rest))
                (λ number found at is. far.lives number found at (or_right (takes_optional number (local_in table local).first) (takes_first number (trees rest)) is))
                (λ is. home_lies table home (spot_of table now) (type_in table local.c_type) flag own
                (or_left (takes_first depth (trees (local ∷ rest))) (is_taken depth) (or_right (takes_optional depth (local_in table local).first) (takes_first depth (trees rest)) is)));
            foretold = (is_taken, told_others more is_taken far.foretold.1);
            code = λ is_taken told.
                let before = far.code is_taken told in (
                  told_others more is_taken before.0,
                  λ points fills to last code. before.1 points (fills_grown table now new points grows fills) to last (code_others grows is_taken before.0 points fills to last code),
                );
            begun = (far.begun.0 ++ home ∷ [], ap (λ homes. homes ++ home ∷ []) far.begun.1 ∙ append_assoc outer far.begun.0 (home ∷ []));
            depth = omega (arith, deep, is_inner);
            grows = grows_on old now new far.grows grows;
            names = omega (arith, names, adds);
            variables = omega (arith, variables, more);
          }

  -- with the scope that the loop has
  pub locals_turn : (outer scope inner : List memory_home.Home) (all rest : List memory_local.LocalDef) (local : memory_local.LocalDef) (old now new : Builder) → LocalsSoFar source addressed outer scope all (local ∷ rest) old now
      → ((home : memory_home.Home) × (inner ≡ scope ++ home ∷ []) × ((is_taken : Bool) → slice_get addressed.variables.items now.counts.variables ≡ Some is_taken → LocalLowers source scope local is_taken home now new))
      → IsScope source inner → Grows now new → Adds now new (names_for (local_nodes (local_in (types_of_source source) local))) → new.counts.variables ≡ now.counts.variables + 1
      → LocalsSoFar source addressed outer inner all rest old new
  locals_turn outer scope inner all rest local old now new far begun homes grows adds more =
      subst (λ inner. LocalsSoFar source addressed outer inner all rest old new) (sym begun.1)
      (locals_next outer scope all rest local old now far begun.0 new begun.2 (subst (IsScope source) begun.1 homes) grows adds more)

  -- none is left
  module _ (outer scope : List memory_home.Home) (all : List memory_local.LocalDef) (old now : Builder) (far : LocalsSoFar source addressed outer scope all [] old now) where
    pub locals_lower : (is_taken : ℕ → Bool) → Foretold addressed old.counts.variables (taken_locals (length outer) is_taken (map (local_in (types_of_source source)) all)) → LocalsLower source outer is_taken all scope old now
    locals_lower is_taken told = λ points fills. (far.code is_taken told).1 points fills (spot_of table now) (scope_of source scope) (refl, refl)

    pub locals_depth : length scope ≡ length all + length outer
    locals_depth =
        let depth = far.depth in
        omega (arith, depth)

    pub locals_add : Adds old now (names_for (locals_nodes (map (local_in (types_of_source source)) all)))
    locals_add =
        let names = far.names in
        omega (arith, names)

    pub locals_count : now.counts.variables ≡ old.counts.variables + length all
    locals_count =
        let variables = far.variables in
        omega (arith, variables)
