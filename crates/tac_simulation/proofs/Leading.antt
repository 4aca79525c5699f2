-- Where paths lead, and where names do.
use Rattle.std.proofs.Common.{◌≡◌, ℕ, suc, ◌+◌, ◌*◌, ◌==◌, Bool, true, false, if◌then◌else◌, List, [], ◌∷◌, ◌++◌, length, slice_get, bytes_eq, Option, Some, None, pos, ◌*ℤ◌, refl, sym, ap, ◌∙◌, subst, arith}
use Rattle.std.proofs.lemmas.Option.{none-some, same_Some}
use Rattle.run_theory.specs.declared.place.Pos.{Pos}
use Rattle.c_typed.specs.Places.{is_same_place}
use Rattle.c_typed.specs.Types.{CType}
use Rattle.c_typed.specs.Typed.{Program, GlobalDef, LiteralDef}
use Rattle.c_typed.specs.Context.{literal_bytes}
use Rattle.ref_semantics.specs.Values as V
use Rattle.ref_semantics.specs.Values.{Name, LocalObject, Scalar, object_place}
use Rattle.ref_semantics.specs.Store as S
use Rattle.ref_semantics.specs.Store.{Then}
use Rattle.ref_semantics.specs.Meaning.{local_name, named, local_place}
use Rattle.ref_semantics.specs.Sound.{AreLocals}
use Rattle.tac_ir.specs.Layouts.{Inner, within}
use Rattle.tac_ir.specs.Trees.{Registers}
use Rattle.tac_ir.specs.Values.{Object}
use Rattle.tac_ir.specs.Objects.{Surroundings, Reached, reach, base_of, step, steps_of, stepped, leads, offset_moved}
use Rattle.tac_ir.specs.Costs.{step_cost, steps_cost, path_cost}
use Rattle.tac_ir.specs.Code.{Step, Path}
use Rattle.tac_ir.specs.First.{named_global, placed_literal}
use Rattle.tac_build.specs.Homes.{Home, Scope, home_of}
use Rattle.tac_build.specs.Code.{then_step}
use Rattle.tac_build.specs.Forms.{scope_types}
use Rattle.tac_simulation.specs.Standing.{Placement, HomeStands, HomesStand}
use Rattle.tac_simulation.proofs.Moving.{offset_moves}

-- ---- steps

steps_then : (steps : List Step) (one : Step) → steps_cost (steps ++ one ∷ []) ≡ steps_cost steps + step_cost one
steps_then [] one = omega arith
steps_then (first ∷ others) one = let rest = steps_then others one in omega (arith, rest)

-- what a step more costs
pub cost_then : (path : Path) (one : Step) → path_cost (then_step path one) ≡ path_cost path + step_cost one
cost_then path one = let more = steps_then path.steps one in omega (arith, more)

module _ (around : Surroundings) (registers : Registers) where
  one_more : (steps : List Step) (one : Step) (inner found : Inner) → steps_of around registers steps inner ≡ Some found → steps_of around registers (steps ++ one ∷ []) inner ≡ step around registers one found
  one_more [] one inner found is = ends (step around registers one inner) ∙ ap (step around registers one) (same_Some inner found is)
    where
      ends : (next : Option Inner) → within next (λ last. Some last) ≡ next
      ends None = refl
      ends (Some last) = refl
  one_more (first ∷ others) one inner found is = by (step around registers first inner) is (λ next. one_more others one next found)
    where
      by : (next : Option Inner) → within next (steps_of around registers others) ≡ Some found
          → ((last : Inner) → steps_of around registers others last ≡ Some found → steps_of around registers (others ++ one ∷ []) last ≡ step around registers one found)
          → within next (steps_of around registers (others ++ one ∷ [])) ≡ step around registers one found
      by None is rest = absurd (none-some found is)
      by (Some next) is rest = rest next is

  -- a path with one step more leads one part further
  pub leads_then : (path : Path) (one : Step) (object : Object) (inner next : Inner) → leads around registers path ≡ Some (record { object = object; inner = inner }) → step around registers one inner ≡ Some next
      → leads around registers (then_step path one) ≡ Some (record { object = object; inner = next })
  leads_then path one object inner next is further = by (base_of around registers path.base) is
    where
      inside : (reached : Reached) (found : Option Inner) → steps_of around registers path.steps reached.inner ≡ found → reach reached.object found ≡ Some (record { object = object; inner = inner })
          → reach reached.object (steps_of around registers (path.steps ++ one ∷ []) reached.inner) ≡ Some (record { object = object; inner = next })
      inside reached None at is = absurd (none-some _ is)
      inside reached (Some found) at is =
          let same : record { object = reached.object; inner = found } ≡ record { object = object; inner = inner } = same_Some _ _ is in
          let inner_is : found ≡ inner = ap (λ (r : Reached). r.inner) same in
          ap (reach reached.object) (one_more path.steps one reached.inner inner (at ∙ ap Some inner_is) ∙ further) ∙ ap (λ (r : Reached). Some (record { object = r.object; inner = next })) same

      by : (base : Option Reached) → stepped around registers path.steps base ≡ Some (record { object = object; inner = inner })
          → stepped around registers (path.steps ++ one ∷ []) base ≡ Some (record { object = object; inner = next })
      by None is = absurd (none-some _ is)
      by (Some reached) is = inside reached (steps_of around registers path.steps reached.inner) refl is

-- no element further
pub stays_there : (offset size : ℕ) → offset_moved offset (pos 0 *ℤ pos size) ≡ Some offset
stays_there offset size =
    let same : offset + 0 * size ≡ offset = omega arith in
    subst (λ k. offset_moved k (pos 0 *ℤ pos size) ≡ Some k) same (offset_moves offset 0 0 size (pos 0) refl)

-- ---- locals

-- a local in scope, by its number in the reference, and its home
pub record FoundHome (program : Program) (placement : Placement) (activation : ℕ) (registers : Registers) (s : S.State) (locals : List ℕ) (home : Home) (index : ℕ) : Type 0 where
  pub number : ℕ
  pub name_is : local_name locals index ≡ Some (LocalObject number)
  pub stands : HomeStands program placement activation s.objects registers home number
  pub held : ℕ → Option Scalar
  pub holds : s.objects (LocalObject number) ≡ V.Elements false home.c_type 1 held

module _ (program : Program) (placement : Placement) (activation : ℕ) (registers : Registers) (s : S.State) where
  length_homes : (scope : Scope) (locals : List ℕ) → HomesStand program placement activation s.objects registers scope locals → length locals ≡ length scope
  length_homes [] [] stands = refl
  length_homes (home ∷ scope) (newest ∷ others) stands = ap suc (length_homes scope others stands.1)
  length_homes [] (newest ∷ others) stands = absurd stands
  length_homes (home ∷ scope) [] stands = absurd stands

  pub found_home : (scope : Scope) (locals : List ℕ) → HomesStand program placement activation s.objects registers scope locals → AreLocals s locals (scope_types scope) → (index : ℕ) (home : Home)
      → home_of scope index ≡ Some home → FoundHome program placement activation registers s locals home index
  found_home [] locals stands are index home is = absurd (none-some home is)
  found_home (first ∷ scope) [] stands are index home is = absurd stands
  found_home (first ∷ scope) (newest ∷ others) stands are index home is =
      by (length scope == index) (ap (λ n. n == index) (length_homes scope others stands.1)) is (found_home scope others stands.1 are.2 index home)
    where
      by : (b : Bool) → (length others == index) ≡ b → (if b then Some first else home_of scope index) ≡ Some home
          → (home_of scope index ≡ Some home → FoundHome program placement activation registers s others home index) → FoundHome program placement activation registers s (newest ∷ others) home index
      by true here is rest =
          let same : first ≡ home = same_Some first home is in
          record {
            number = newest;
            name_is = ap (λ b. if b then Some (LocalObject newest) else local_name others index) here;
            stands = subst (λ h. HomeStands program placement activation s.objects registers h newest) same stands.0;
            held = are.1.0;
            holds = subst (λ (h : Home). s.objects (LocalObject newest) ≡ V.Elements false h.c_type 1 are.1.0) same are.1.1;
          }
      by false here is rest =
          let older = rest is in
          record {
            number = older.number;
            name_is = ap (λ b. if b then Some (LocalObject newest) else local_name others index) here ∙ older.name_is;
            stands = older.stands;
            held = older.held;
            holds = older.holds;
          }

-- the place of a local
pub local_is : (s : S.State) (index number : ℕ) (t : CType) (held : ℕ → Option Scalar) → local_name s.locals index ≡ Some (LocalObject number) → s.objects (LocalObject number) ≡ V.Elements false t 1 held
    → local_place index s ≡ Then (object_place (LocalObject number) t) s
local_is s index number t held name_is holds = rw (name_is, holds) refl

-- the place of an object of a type
pub named_is : (s : S.State) (name : Name) (is_static : Bool) (t : CType) (held : ℕ → Option Scalar) → s.objects name ≡ V.Elements is_static t 1 held → named name s ≡ Then (object_place name t) s
named_is s name is_static t held holds = rw holds refl

-- ---- static objects

numbered_global : (globals : List GlobalDef) (name : List ℕ) (from number : ℕ) (global : GlobalDef) → named_global from globals name ≡ Some (number, global)
    → (k : ℕ) × (number ≡ from + k) × (slice_get globals k ≡ Some global)
numbered_global [] name from number global is = absurd (none-some _ is)
numbered_global (first ∷ others) name from number global is = by (bytes_eq first.name name) is (numbered_global others name (suc from) number global)
  where
    by : (b : Bool) → (if b then Some (from, first) else named_global (suc from) others name) ≡ Some (number, global)
        → (named_global (suc from) others name ≡ Some (number, global) → (k : ℕ) × (number ≡ suc from + k) × (slice_get others k ≡ Some global))
        → (k : ℕ) × (number ≡ from + k) × (slice_get (first ∷ others) k ≡ Some global)
    by true is rest =
        let same = same_Some (from, first) (number, global) is in
        let number_is : from ≡ number = ap (λ (p : ℕ × GlobalDef). p.0) same in
        (0, omega (arith, number_is), ap (λ (p : ℕ × GlobalDef). Some p.1) same)
    by false is rest = let found = rest is in (suc found.0, omega (arith, found.1), found.2)

pub global_there : (globals : List GlobalDef) (name : List ℕ) (number : ℕ) (global : GlobalDef) → named_global 0 globals name ≡ Some (number, global) → slice_get globals number ≡ Some global
global_there globals name number global is =
    let found = numbered_global globals name 0 number global is in
    let same : found.0 ≡ number = omega (arith, found.1) in
    subst (λ k. slice_get globals k ≡ Some global) same found.2

numbered_literal : (literals : List LiteralDef) (place : Pos) (from number : ℕ) (literal : LiteralDef) (bytes : List ℕ) → placed_literal from literals place ≡ Some (number, literal)
    → literal_bytes literals place ≡ Some bytes → (k : ℕ) × (number ≡ from + k) × (slice_get literals k ≡ Some literal) × (literal.bytes ≡ bytes)
numbered_literal [] place from number literal bytes is listed = absurd (none-some _ is)
numbered_literal (first ∷ others) place from number literal bytes is listed = by (is_same_place first.place place) is listed (numbered_literal others place (suc from) number literal bytes)
  where
    by : (b : Bool) → (if b then Some (from, first) else placed_literal (suc from) others place) ≡ Some (number, literal) → (if b then Some first.bytes else literal_bytes others place) ≡ Some bytes
        → (placed_literal (suc from) others place ≡ Some (number, literal) → literal_bytes others place ≡ Some bytes → (k : ℕ) × (number ≡ suc from + k) × (slice_get others k ≡ Some literal) × (literal.bytes ≡ bytes))
        → (k : ℕ) × (number ≡ from + k) × (slice_get (first ∷ others) k ≡ Some literal) × (literal.bytes ≡ bytes)
    by true is listed rest =
        let same = same_Some (from, first) (number, literal) is in
        let number_is : from ≡ number = ap (λ (p : ℕ × LiteralDef). p.0) same in
        (0, omega (arith, number_is), ap (λ (p : ℕ × LiteralDef). Some p.1) same, sym (ap (λ (p : ℕ × LiteralDef). p.1.bytes) same) ∙ same_Some first.bytes bytes listed)
    by false is listed rest = let found = rest is listed in (suc found.0, omega (arith, found.1), found.2, found.3)

pub literal_there : (literals : List LiteralDef) (place : Pos) (number : ℕ) (literal : LiteralDef) (bytes : List ℕ) → placed_literal 0 literals place ≡ Some (number, literal)
    → literal_bytes literals place ≡ Some bytes → (slice_get literals number ≡ Some literal) × (literal.bytes ≡ bytes)
literal_there literals place number literal bytes is listed =
    let found = numbered_literal literals place 0 number literal bytes is listed in
    let same : found.0 ≡ number = omega (arith, found.1) in
    (subst (λ k. slice_get literals k ≡ Some literal) same found.2, found.3)
