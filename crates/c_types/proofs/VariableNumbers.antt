-- The variables of a program, each once.
use Rattle.std.proofs.Common.{◌≡◌, ℕ, zero, suc, arith, ◌+◌, ◌<◌, ◌==◌, length, drop, get_or, Bool, true, false, cond, if◌then◌else◌, List, [], ◌∷◌, ◌++◌, map, Option, Some, None, option_map, refl, sym, ap, subst, ◌∙◌, slice_set, Vec, Global}
use Rattle.std.specs.Prelude.{bytes_eq}
use Rattle.std.specs.Map.{KeepsOthers}
use Rattle.std.proofs.lemmas.Bool.{false≢true, false_from_ne_true, eqb-true, eqb-false, ne_eqb}
use Rattle.std.proofs.lemmas.Option.{none-some, same_Some}
use Rattle.std.proofs.lemmas.List.{drop_more, nil_from_length, length-append}
use Rattle.std.proofs.lemmas.Slice.Eq.{bytes_eq-Decides}
use Rattle.indexmap.specs.IndexMap.{IndexMap, UpdatesBy}
use Rattle.c_num.specs.declared.IntType.{IntType}
use Rattle.c_typed.specs.declared.part.Part.{Part}
use Rattle.c_typed.specs.declared.definition.GlobalDef as memory_global
use Rattle.c_typed.specs.declared.definition.First as memory_first
use Rattle.c_typed.specs.declared.definition.First.TheVariants as V
use Rattle.c_typed.specs.declared.definition.Held as memory_held
use Rattle.c_typed.specs.Values.{Held}
use Rattle.c_typed.specs.Typed.{GlobalDef}
use Rattle.c_typed.specs.Table.{Interned, Stands, type_in}
use Rattle.c_typed.specs.DefinitionViews.{global_in, all_first, first_of, characters_held, GlobalsStand}
use Rattle.c_types_state.specs.LocalTables.{number_in}
use Rattle.c_rules.specs.Elaborated.{with_global, latest_first}
use Rattle.c_types.specs.Globals.{global_number}

later-none : (o : Option ℕ) → option_map suc o ≡ None → o ≡ None
later-none None e = refl
later-none (Some n) e = absurd (none-some (suc n) (sym e))

-- ---- one more variable

-- its number, where it is new
number-pushed : (globals : List memory_global.GlobalDef) (global : memory_global.GlobalDef) (name : List ℕ) → global_number globals global.name ≡ None
    → global_number (globals ++ global ∷ []) name ≡ cond (bytes_eq global.name name) (Some (length globals)) (global_number globals name)
number-pushed [] global name new = refl
number-pushed (first ∷ others) global name new = by (bytes_eq first.name global.name) refl new (λ new. number-pushed others global name new)
  where
    behind : (a b : Bool) → (a ≡ true → b ≡ true → ⊥) → global_number (others ++ global ∷ []) name ≡ cond b (Some (length others)) (global_number others name)
        → (if a then Some 0 else option_map suc (global_number (others ++ global ∷ []) name)) ≡ cond b (Some (suc (length others))) (if a then Some 0 else option_map suc (global_number others name))
    behind true true apart rest = absurd (apart refl refl)
    behind true false apart rest = refl
    behind false true apart rest = ap (option_map suc) rest
    behind false false apart rest = ap (option_map suc) rest

    by : (same : Bool) → bytes_eq first.name global.name ≡ same → (if same then Some 0 else option_map suc (global_number others global.name)) ≡ None
        → (global_number others global.name ≡ None → global_number (others ++ global ∷ []) name ≡ cond (bytes_eq global.name name) (Some (length others)) (global_number others name))
        → (if bytes_eq first.name name then Some 0 else option_map suc (global_number (others ++ global ∷ []) name)) ≡ cond (bytes_eq global.name name) (Some (suc (length others))) (if bytes_eq first.name name then Some 0 else option_map suc (global_number others name))
    by true same new rest = absurd (none-some 0 (sym new))
    by false differ new rest =
        behind (bytes_eq first.name name) (bytes_eq global.name name)
        (λ e f. false≢true (sym differ ∙ (bytes_eq-Decides first.name global.name).1 ((bytes_eq-Decides first.name name).0 e ∙ sym ((bytes_eq-Decides global.name name).0 f))))
        (rest (later-none (global_number others global.name) new))

-- a change at a key, seen by names
module _ {S Z : Type 0} (old new : IndexMap (Vec ℕ Z) ℕ S) (key : List ℕ) (number : Option ℕ) where
  others-stay : KeepsOthers (λ (a b : Vec ℕ Z). bytes_eq a.items b.items) (λ (k : Vec ℕ Z). bytes_eq key k.items) old.entries new.entries
      → (name : List ℕ) → bytes_eq key name ≡ false → number_in new name ≡ number_in old name
  unfolding KeepsOthers
  others-stay keeps name differ = keeps (λ (k : Vec ℕ Z). bytes_eq name k.items)
      (λ x y same. ap (λ n. bytes_eq n y.items) ((bytes_eq-Decides name x.items).0 same))
      (λ k same. false_from_ne_true (bytes_eq name k.items) (λ (also : bytes_eq name k.items ≡ true).
      false≢true (sym differ ∙ (bytes_eq-Decides key name).1 ((bytes_eq-Decides key k.items).0 same ∙ sym ((bytes_eq-Decides name k.items).0 also)))))

  number-updated : UpdatesBy (λ (a b : Vec ℕ Z). bytes_eq a.items b.items) (λ (k : Vec ℕ Z). bytes_eq key k.items) old new number
      → (name : List ℕ) → number_in new name ≡ cond (bytes_eq key name) number (number_in old name)
  number-updated updates name = by (bytes_eq key name) refl
    where
      by : (b : Bool) → bytes_eq key name ≡ b → number_in new name ≡ cond b number (number_in old name)
      by true same = ap (number_in new) (sym ((bytes_eq-Decides key name).0 same)) ∙ updates.1
      by false differ = others-stay updates.3 name differ

module _ {S Z : Type 0} (old new : IndexMap (Vec ℕ Z) ℕ S) (globals : List memory_global.GlobalDef) (has : (name : List ℕ) → number_in old name ≡ global_number globals name) where
  -- a name that isn't in the map is no variable's
  pub no-number : (name : List ℕ) → number_in old name ≡ None → global_number globals name ≡ None
  no-number name none = sym (has name) ∙ none

  -- the map with one more
  pub numbers-pushed : (global : memory_global.GlobalDef) (key : List ℕ) (n : ℕ) → key ≡ global.name → number_in old key ≡ None → n ≡ length globals → UpdatesBy (λ (a b : Vec ℕ Z). bytes_eq a.items b.items) (λ (k : Vec ℕ Z). bytes_eq key k.items) old new (Some n)
      → (name : List ℕ) → number_in new name ≡ global_number (globals ++ global ∷ []) name
  numbers-pushed global key n same none long updates name =
      number-updated old new key (Some n) updates name
      ∙ (λ i. cond (bytes_eq (same i) name) (Some (long i)) (has name i))
      ∙ sym (number-pushed globals global name (no-number global.name (ap (number_in old) (sym same) ∙ none)))

-- what it stands for
pub globals-pushed : (table : Interned) (globals : List memory_global.GlobalDef) (global : memory_global.GlobalDef) → global_number globals global.name ≡ None → map (global_in table) (globals ++ global ∷ []) ≡ with_global (global_in table global) (map (global_in table) globals)
globals-pushed table [] global new = refl
globals-pushed table (first ∷ others) global new = by (bytes_eq first.name global.name) new (λ new. globals-pushed table others global new)
  where
    f : memory_global.GlobalDef → GlobalDef
    f = global_in table

    by : (same : Bool) → (if same then Some 0 else option_map suc (global_number others global.name)) ≡ None
        → (global_number others global.name ≡ None → map f (others ++ global ∷ []) ≡ with_global (f global) (map f others))
        → f first ∷ map f (others ++ global ∷ []) ≡ (if same then record (f first) { first = latest_first (f first).first (f global).first } ∷ map f others else f first ∷ with_global (f global) (map f others))
    by true new rest = absurd (none-some 0 (sym new))
    by false new rest = ap (λ globals. f first ∷ globals) (rest (later-none (global_number others global.name) new))

pub stand-pushed : (table : Interned) (globals : List memory_global.GlobalDef) (global : memory_global.GlobalDef) → GlobalsStand table globals → Stands table global.c_type → GlobalsStand table (globals ++ global ∷ [])
stand-pushed table [] global h stands = (stands, tt)
stand-pushed table (first ∷ others) global h stands = (h.0, stand-pushed table others global h.1 stands)

-- ---- a variable that is there

-- its number is below how many there are
pub number-below : (globals : List memory_global.GlobalDef) (name : List ℕ) (n : ℕ) → global_number globals name ≡ Some n → n < length globals
number-below [] name n e = absurd (none-some n e)
number-below (first ∷ others) name n e = by (bytes_eq first.name name) (global_number others name) e (number-below others name)
  where
    by : (same : Bool) (o : Option ℕ) → (if same then Some 0 else option_map suc o) ≡ Some n → ((k : ℕ) → o ≡ Some k → k < length others) → n < length (first ∷ others)
    by true o e below = let zero_is : 0 ≡ n = same_Some 0 n e in omega arith
    by false None e below = absurd (none-some n e)
    by false (Some k) e below = let next : suc k ≡ n = same_Some (suc k) n e in let lt = below k refl in omega arith

-- it keeps its name
module _ (d : memory_global.GlobalDef) where
  pub numbers-set : (globals : List memory_global.GlobalDef) (n : ℕ) (global : memory_global.GlobalDef) → n < length globals → global.name ≡ (get_or globals n d).name → (name : List ℕ) → global_number globals name ≡ global_number (slice_set globals n global) name
  numbers-set [] n global lt same name = refl
  numbers-set (first ∷ others) zero global lt same name = ap (λ (own : List ℕ). if bytes_eq own name then Some 0 else option_map suc (global_number others name)) (sym same)
  numbers-set (first ∷ others) (suc n) global lt same name = ap (λ (o : Option ℕ). if bytes_eq first.name name then Some 0 else option_map suc o) (numbers-set others n global (omega arith) same name)

  pub stand-set : (table : Interned) (globals : List memory_global.GlobalDef) (n : ℕ) (global : memory_global.GlobalDef) → n < length globals → global.c_type ≡ (get_or globals n d).c_type → GlobalsStand table globals → GlobalsStand table (slice_set globals n global)
  stand-set table [] n global lt same h = tt
  stand-set table (first ∷ others) zero global lt same h = (subst (Stands table) (sym same) h.0, h.1)
  stand-set table (first ∷ others) (suc n) global lt same h = (h.0, stand-set table others n global (omega arith) same h.1)

  -- and has these first values
  pub globals-set : (table : Interned) (globals : List memory_global.GlobalDef) (n : ℕ) (global : memory_global.GlobalDef) (told : GlobalDef) → global_number globals told.name ≡ Some n → global.name ≡ (get_or globals n d).name → global.c_type ≡ (get_or globals n d).c_type → (length (all_first global.first.items) ≡ 0 → ⊥) → all_first global.first.items ≡ told.first
      → map (global_in table) (slice_set globals n global) ≡ with_global told (map (global_in table) globals)
  globals-set table [] n global told there name c_type some is = absurd (none-some n there)
  globals-set table (first ∷ others) n global told there name c_type some is =
      by (bytes_eq first.name told.name) (global_number others told.name) n refl there name c_type (λ k there name c_type. globals-set table others k global told there name c_type some is)
    where
      f : memory_global.GlobalDef → GlobalDef
      f = global_in table

      latest : (old new : List Held) → (length new ≡ 0 → ⊥) → new ≡ latest_first old new
      latest old [] h = absurd (h refl)
      latest old (x ∷ xs) h = refl

      by : (same : Bool) (o : Option ℕ) (n : ℕ) → global_number others told.name ≡ o → (if same then Some 0 else option_map suc o) ≡ Some n → global.name ≡ (get_or (first ∷ others) n d).name → global.c_type ≡ (get_or (first ∷ others) n d).c_type
          → ((k : ℕ) → global_number others told.name ≡ Some k → global.name ≡ (get_or others k d).name → global.c_type ≡ (get_or others k d).c_type → map f (slice_set others k global) ≡ with_global told (map f others))
          → map f (slice_set (first ∷ others) n global) ≡ (if same then record (f first) { first = latest_first (f first).first told.first } ∷ map f others else f first ∷ with_global told (map f others))
      by true o zero has there name c_type rest = λ i. record { name = name i; c_type = type_in table (c_type i); first = (latest (f first).first (all_first global.first.items) some ∙ ap (latest_first (f first).first) is) i } ∷ map f others
      by true o (suc n) has there name c_type rest = absurd (omega (arith, same_Some 0 (suc n) there))
      by false None n has there name c_type rest = absurd (none-some n there)
      by false (Some k) zero has there name c_type rest = absurd (omega (arith, same_Some (suc k) 0 there))
      by false (Some k) (suc n) has there name c_type rest =
          let next : k ≡ n = omega (arith, same_Some (suc k) (suc n) there) in
          ap (λ globals. f first ∷ globals) (rest n (has ∙ ap Some next) name c_type)

-- without first values it stays
pub globals-stay : (table : Interned) (globals : List memory_global.GlobalDef) (n : ℕ) (told : GlobalDef) → global_number globals told.name ≡ Some n → [] ≡ told.first → map (global_in table) globals ≡ with_global told (map (global_in table) globals)
globals-stay table [] n told there none = absurd (none-some n there)
globals-stay table (first ∷ others) n told there none = by (bytes_eq first.name told.name) (global_number others told.name) refl there (λ k there. globals-stay table others k told there none)
  where
    f : memory_global.GlobalDef → GlobalDef
    f = global_in table

    by : (same : Bool) (o : Option ℕ) → global_number others told.name ≡ o → (if same then Some 0 else option_map suc o) ≡ Some n
        → ((k : ℕ) → global_number others told.name ≡ Some k → map f others ≡ with_global told (map f others))
        → map f (first ∷ others) ≡ (if same then record (f first) { first = latest_first (f first).first told.first } ∷ map f others else f first ∷ with_global told (map f others))
    by true o has there rest = λ i. record (f first) { first = latest_first (f first).first (none i) } ∷ map f others
    by false None has there rest = absurd (none-some n there)
    by false (Some k) has there rest = ap (λ globals. f first ∷ globals) (rest k has)

-- ---- first values that are some

-- where those of one are some, which stands among the others
pub some-left : (firsts others : List memory_first.First) (one : memory_first.First) (n : ℕ) → n < length firsts → one ≡ get_or firsts n one → all_first others ≡ all_first (drop n firsts) → (length (first_of one) ≡ 0 → ⊥) → length (all_first others) ≡ 0 → ⊥
some-left firsts others one n lt is left some none =
    let there : all_first others ≡ first_of one ++ all_first (drop (n + 1) firsts) = left ∙ ap all_first (drop_more firsts n one lt ∙ ap (λ (one : memory_first.First). one ∷ drop (n + 1) firsts) (sym is)) in
    some (omega (arith, none, ap length there, length-append (first_of one) (all_first (drop (n + 1) firsts))))

-- a scalar, and bytes
pub some-scalar : (one : memory_first.First) (held : memory_held.Held) → one ≡ V.Scalar held → length (first_of one) ≡ 0 → ⊥
some-scalar one held is none =
    let long : length (first_of one) ≡ 1 = ap (λ (one : memory_first.First). length (first_of one)) is in
    omega (arith, long, none)

bytes-some : (steps : List Part) (int_type : IntType) (bytes : List ℕ) → (length bytes == 0) ≡ false → length (characters_held steps int_type 0 bytes) ≡ 0 → ⊥
bytes-some steps int_type [] h none = eqb-false 0 0 h refl
bytes-some steps int_type (byte ∷ bytes) h none = omega (arith, none)

pub some-text : (one : memory_first.First) (parts : Vec Part Global) (int_type : IntType) (bytes : List ℕ) → one ≡ V.Text parts int_type bytes → (length bytes == 0) ≡ false → length (first_of one) ≡ 0 → ⊥
some-text one parts int_type bytes is h none = bytes-some parts.items int_type bytes h (ap (λ (one : memory_first.First). length (first_of one)) (sym is) ∙ none)

-- the test of it
pub not-none : (n : ℕ) → (n ≡ 0 → ⊥) → false ≡ (n == 0)
not-none n h = sym (ne_eqb n 0 h)

pub none-not : (n : ℕ) (b : Bool) → b ≡ (n == 0) → b ≡ false → n ≡ 0 → ⊥
none-not n b is h none = eqb-false n 0 (sym is ∙ h) none

pub none-is : (held : List Held) (b : Bool) → b ≡ (length held == 0) → b ≡ true → [] ≡ held
none-is held b is h = sym (nil_from_length held (eqb-true (length held) 0 (sym is ∙ h)))

pub option-none : {A : Type 0} (o : Option A) → ((x : A) → o ≡ Some x → ⊥) → o ≡ None
option-none None h = refl
option-none (Some x) h = absurd (h x refl)
