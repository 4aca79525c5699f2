-- Functions that calls through one pointer may reach, by classes of one type.
use Rattle.std.specs.Prelude.{◌≡◌, ℕ, ◌<◌, ◌==◌, ◌&&◌, if◌then◌else◌, true, List, [], ◌∷◌, ◌++◌, map, length, slice_get, option_map, Option, Some, None, unwrap_or, is_none, Vec, vec_items}
use Rattle.indexmap.specs.IndexMap.{IndexMap, get_by}
use Rattle.c_typed.specs.declared.c_type.CType as number
use Rattle.c_typed.specs.Types.{CType}
use Rattle.c_typed.specs.Table.{Interned, type_in, IsNumberOf}
use Rattle.tac_ir.specs.declared.program.Function as memory_function
use Rattle.tac_ir.specs.declared.program.Tac as memory_tac
use Rattle.tac_ir.specs.declared.register.FunctionId as id
use Rattle.tac_ir.specs.declared.register.Register.{Register}
use Rattle.tac_ir.specs.Code.{Through}
use Rattle.tac_ir.specs.Views.{tac_of}
use Rattle.call_graph.specs.RowLists.{Has}
use Rattle.call_graph.specs.Rows.{AreRows}
use Rattle.tac_ir.specs.Targets.{is_taken, is_target}
use Rattle.call_graph.specs.declared.class_table.Classes.{Classes}
use Rattle.call_graph.specs.declared.class_table.Linked.{Linked}

abbrev pub numbers_of : List id.FunctionId → List ℕ
numbers_of = map (λ function. function.0)

-- of each function, the number of its type where its address is taken
pub record AreKeys (tac : memory_tac.Tac) (keys : List (Option number.CType)) : Type 0 where
  pub each : length keys ≡ length tac.functions.items
  pub key : (function : ℕ) (own : number.CType) (pointer : Register) → slice_get keys function ≡ Some (Some own)
      → (c_type : CType) × IsNumberOf tac.types c_type own × (is_target (tac_of tac) (Through pointer c_type) function ≡ true)
  pub target : (function : ℕ) (pointer : Register) (c_type : CType) → is_target (tac_of tac) (Through pointer c_type) function ≡ true
      → (own : number.CType) × IsNumberOf tac.types c_type own × (slice_get keys function ≡ Some (Some own))

-- what the key of a function is
pub record IsKey (tac : memory_tac.Tac) (function : memory_function.Function) (at : ℕ) (key : Option number.CType) : Type 0 where
  pub own : number.CType
  pub one : IsNumberOf tac.types (type_in tac.types function.c_type) own
  pub is : key ≡ (if is_taken (tac_of tac) at then Some own else None)

-- those of the first functions
pub record AreFirstKeys (tac : memory_tac.Tac) (count : ℕ) (keys : List (Option number.CType)) : Type 0 where
  pub each : length keys ≡ count
  pub key : (at : ℕ) (function : memory_function.Function) → at < count → slice_get tac.functions.items at ≡ Some function → (key : Option number.CType) × (slice_get keys at ≡ Some key) × IsKey tac function at key

abbrev pub first_at : {S : Type 0} → IndexMap number.CType ℕ S → number.CType → Option ℕ
first_at firsts own = get_by (λ (key : number.CType). own.0 == key.0) firsts

-- the first function of a type that a map holds
abbrev pub IsFound : List (Option number.CType) → number.CType → Option ℕ → Type 0
IsFound keys own (Some first) = (slice_get keys first ≡ Some (Some own)) × ((function : ℕ) → function < first → slice_get keys function ≡ Some (Some own) → ⊥)
IsFound keys own None = (function : ℕ) → slice_get keys function ≡ Some (Some own) → ⊥

-- later links are of later functions
abbrev pub LinksRise : List (ℕ × ℕ) → Type 0
LinksRise [] = Unit {0}
LinksRise (link ∷ links) = ((other : ℕ × ℕ) → Has links other → link.1 < other.1) × LinksRise links

-- the first function of each type, and each function of it linked to that one
pub record LinksKeys {S : Type 0} (keys : List (Option number.CType)) (firsts : IndexMap number.CType ℕ S) (links : List (ℕ × ℕ)) : Type 0 where
  pub found : (own : number.CType) → IsFound keys own (first_at firsts own)
  pub linked : (own : number.CType) (first function : ℕ) → first_at firsts own ≡ Some first → slice_get keys function ≡ Some (Some own) → Has links (first, function)
  pub from : (link : ℕ × ℕ) → Has links link → (own : number.CType) × (first_at firsts own ≡ Some link.0) × (slice_get keys link.1 ≡ Some (Some own))
  pub rising : LinksRise links

-- a function is added with its key
pub record Links (function : ℕ) (own : number.CType) (old new : Linked) : Type 0 where
  pub firsts : (other : number.CType) → first_at new.firsts other ≡ (if own.0 == other.0 && is_none (first_at old.firsts own) then Some function else first_at old.firsts other)
  pub links' : new.links.items ≡ old.links.items ++ (unwrap_or (first_at old.firsts own) function, function) ∷ []

-- the first function of a type, if any
pub record FindsFirst (types : Interned) (c_type : number.CType) (classes : Classes) (found : Option ℕ) : Type 0 where
  pub own : number.CType
  pub one : IsNumberOf types (type_in types c_type) own
  pub is : found ≡ first_at classes.firsts own

-- what stands in the row of a function, if any
abbrev pub members_from : {A B : Type 0} → Vec (Vec ℕ A) B → Option ℕ → List ℕ
members_from members None = []
members_from members (Some first) = unwrap_or (option_map vec_items (slice_get members.items first)) []

-- classes of a program
pub record AreClasses (tac : memory_tac.Tac) (classes : Classes) : Type 0 where
  pub keys : List (Option number.CType)
  pub of_keys : AreKeys tac keys
  pub linked : LinksKeys keys classes.firsts classes.links.items
  pub members : AreRows (length keys) classes.links.items classes.members
