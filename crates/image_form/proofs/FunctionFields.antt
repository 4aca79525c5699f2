-- Functions as their numbers and their instructions.
use Rattle.std.proofs.Common.{◌≡◌, ◌==◌, ℕ, suc, ◌+◌, ◌≤◌, List, [], ◌∷◌, ◌++◌, length, refl, sym, ap, subst, ◌∙◌, arith, append_assoc, eq-eqb}
use Rattle.std.proofs.lemmas.Bool.{eqb-true}
use Rattle.std.proofs.Math.Dec.{eqb-suc-zero}
use Rattle.std.specs.Prelude.{IsTrue, Result, Ok, Err, Vec}
use Rattle.std.specs.declared.alloc.Global.{Global}
use Rattle.std.specs.List.{AllByRecursion}
use Rattle.pool_isa.specs.declared.instr.Instr.{Instr}
use Rattle.pool_isa.specs.declared.instr.Instr.TheVariants as instrs
use Rattle.pool_isa.specs.Instr.{spelling, Fits}
use Rattle.pool_isa.specs.Number.{number_bytes}
use Rattle.pool_isa.specs.Spelling.{StandsAt}
use Rattle.pool_isa.specs.Machine as machine
use Rattle.pool_isa.specs.Ranges.{IsWithin, InRange, is_last, LastIs, IsFunction}
use Rattle.pool_isa.proofs.Numbers.{same_number}
use Rattle.pool_isa.proofs.Instrs.{same_instr}
use Rattle.image_form.specs.declared.image.Function.{Function}
use Rattle.image_form.specs.declared.image.ImageErr.{ImageErr}
use Rattle.image_form.specs.declared.code.Counts.{Counts}
use Rattle.image_form.specs.declared.functions.Head.{Head}
use Rattle.image_form.specs.Form.{function_bytes, counted, BeginsWithStart}
use Rattle.image_form.specs.Reading.{Spelled, Refuses, IsDecoded, EachFrom, IsInstrAt, IsCode, code_bytes, IsHead, head_bytes, function_with, IsFunctionUpTo, IsFunctionAt, IsFunctions, IsAllFunctions, functions_of, functions_bytes}
use Rattle.image_form.proofs.Fields.{IsUnique, Then, refused_alike, refused_first, refused_behind}
use Rattle.image_form.proofs.Instructions.{some_code}
use Rattle.image_form.proofs.Lists.{Keeps, some_list, same_items}
use Rattle.pool_isa.proofs.Faults.{stands_then}
use Rattle.image_form.proofs.Ranges.{Numbered, some_number, unique_number}

-- ---- heads

abbrev pub FromCount : List ℕ → Type 0
FromCount bytes = Spelled (IsWithin 1 4294967295) number_bytes bytes

abbrev pub FromSignature : List ℕ → Type 0
FromSignature bytes = Numbered 0 4294967295 FromCount bytes

abbrev pub FromHeight : List ℕ → Type 0
FromHeight bytes = Numbered 1 65536 FromSignature bytes

abbrev pub FromExtra : List ℕ → Type 0
FromExtra bytes = Numbered 0 67108864 FromHeight bytes

pub some_count : (bytes : List ℕ) × FromCount bytes
some_count = (number_bytes 1, (1, (omega arith, omega arith), refl))

pub some_signature : (bytes : List ℕ) × FromSignature bytes
some_signature = some_number 0 4294967295 FromCount (omega arith) some_count

pub some_height : (bytes : List ℕ) × FromHeight bytes
some_height = some_number 1 65536 FromSignature (omega arith) some_signature

pub some_extra : (bytes : List ℕ) × FromExtra bytes
some_extra = some_number 0 67108864 FromHeight (omega arith) some_height

-- a head is its numbers
pub head_refused : (most : ℕ) (bytes : List ℕ) (at : ℕ) (fault : ImageErr) → Refuses (Numbered 0 most FromExtra) bytes at fault → Refuses (Spelled (IsHead most) head_bytes) bytes at fault
head_refused most bytes at fault =
    refused_alike (Numbered 0 most FromExtra) (Spelled (IsHead most) head_bytes) bytes at fault
    (λ x is.
    let e = is.4 in let h = e.4 in let s = h.4 in let c = s.4 in
    (record { parameters = is.0; extra = e.0; height = h.0; signature = s.0; count = c.0 }, (is.2, e.2, h.2, s.2, c.1), is.3 ∙ ap (λ t. number_bytes is.0 ++ t) (e.3 ∙ ap (λ t. number_bytes e.0 ++ t) (h.3 ∙ ap (λ t. number_bytes h.0 ++ t) (s.3 ∙ ap (λ t. number_bytes s.0 ++ t) c.2)))))
    (λ x is.
    let h = is.0 in
    (h.parameters, _, is.1.0, is.2, (h.extra, _, is.1.1, refl, (h.height, _, is.1.2, refl, (h.signature, _, is.1.3, refl, (h.count, is.1.4, refl))))))

-- the bytes of a head, cut behind each number
head_cut : (h : Head) (rest : List ℕ) → head_bytes h ++ rest ≡ number_bytes h.parameters ++ (number_bytes h.extra ++ (number_bytes h.height ++ (number_bytes h.signature ++ (number_bytes h.count ++ rest))))
head_cut h rest = simp append_assoc

same_fields : (p e h s c p' e' h' s' c' : ℕ) → p ≡ p' → e ≡ e' → h ≡ h' → s ≡ s' → c ≡ c' → let a : Head = record { parameters = p; extra = e; height = h; signature = s; count = c } in let b : Head = record { parameters = p'; extra = e'; height = h'; signature = s'; count = c' } in a ≡ b
same_fields p e h s c p' e' h' s' c' i j k l m = cc

same_head : (a b : Head) (x y : List ℕ) → head_bytes a ++ x ≡ head_bytes b ++ y → (a ≡ b) × (x ≡ y)
same_head a b x y e =
    let i = same_number a.parameters b.parameters _ _ (sym (head_cut a x) ∙ e ∙ head_cut b y) in
    let j = same_number a.extra b.extra _ _ i.1 in
    let k = same_number a.height b.height _ _ j.1 in
    let l = same_number a.signature b.signature _ _ k.1 in
    let m = same_number a.count b.count _ _ l.1 in
    (same_fields _ _ _ _ _ _ _ _ _ _ i.0 j.0 k.0 l.0 m.0, m.1)

unique_head : (most : ℕ) → IsUnique (IsHead most) head_bytes
unique_head most a b x y p q e = same_head a b x y e

-- ---- instructions

operands : (counts : Counts) (index : ℕ) (code : List Instr) → EachFrom (IsInstrAt counts) index code → AllByRecursion (λ instr. Fits instr × InRange counts.kinds counts.functions counts.instrs instr) code
operands counts index [] each = tt
operands counts index (i ∷ code) each = ((each.0.0, each.0.1), operands counts (suc index) code each.1)

last : (counts : Counts) (index : ℕ) (code : List Instr) → index + length code ≡ counts.instrs → 1 ≤ length code → EachFrom (IsInstrAt counts) index code → LastIs (λ instr. IsTrue (is_last instr)) code
last counts index [] many some each = absurd (omega (arith, some))
last counts index (i ∷ []) many some each = each.0.2 (eq-eqb (index + 1) counts.instrs (omega arith))
last counts index (i ∷ j ∷ code) many some each = last counts (suc index) (j ∷ code) (omega arith) (omega arith) each.1

each_instr : (counts : Counts) (index : ℕ) (code : List Instr) → index + length code ≡ counts.instrs → AllByRecursion (λ instr. Fits instr × InRange counts.kinds counts.functions counts.instrs instr) code → LastIs (λ instr. IsTrue (is_last instr)) code → EachFrom (IsInstrAt counts) index code
each_instr counts index [] many all ends = tt
each_instr counts index (i ∷ []) many all ends = ((all.0.0, all.0.1, λ _. ends), tt)
each_instr counts index (i ∷ j ∷ code) many all ends =
    ((all.0.0, all.0.1, λ t. absurd (not_last t)), each_instr counts (suc index) (j ∷ code) (omega arith) all.1 ends)
  where
    not_last : IsTrue (index + 1 == counts.instrs) → ⊥
    not_last t = let e = eqb-true (index + 1) counts.instrs t in omega arith

some_last : {X : Type 0} (P : X → Type 0) (xs : List X) → LastIs P xs → 1 ≤ length xs
some_last P [] ends = absurd ends
some_last P (x ∷ xs) ends = omega arith

-- ---- functions

abbrev pub counts_with : ℕ → ℕ → Head → Counts
counts_with kinds functions head = record { kinds = kinds; functions = functions; instrs = head.count }

-- the numbers of a function
abbrev head_of : machine.Function → Head
head_of function =
    record { parameters = function.parameters; extra = function.extra; height = function.height; signature = function.signature; count = length function.code }

-- the numbers, and then so many instructions
abbrev pub HeadThenCode : ℕ → ℕ → ℕ → List ℕ → Type 0
HeadThenCode most kinds functions bytes = Then (IsHead most) head_bytes (λ head rest. Spelled (IsCode (counts_with kinds functions head)) code_bytes rest) bytes

function_split : (f : machine.Function) → function_bytes f ≡ head_bytes (head_of f) ++ code_bytes f.code
function_split f = sym (head_cut (head_of f) (code_bytes f.code))

pub function_is : (most kinds functions : ℕ) (head : Head) (code : List Instr) → most ≤ 320 → IsHead most head → IsCode (counts_with kinds functions head) code → IsFunctionUpTo most kinds functions (function_with head code)
function_is most kinds functions head code few h is = (
  h.0.1,
  record {
    parameters = let p = h.0.1 in omega arith;
    extra = h.1.1;
    height = h.2;
    signature = let s = h.3.1 in omega arith;
    instructions = let m = is.0 in let k = h.4.1 in omega arith;
    operands = subst (λ count. AllByRecursion (λ instr. Fits instr × InRange kinds functions count instr) code) (sym is.0) (operands (counts_with kinds functions head) 0 code is.1);
    last = last (counts_with kinds functions head) 0 code (let m = is.0 in omega arith) (let m = is.0 in let k = h.4.0 in omega arith) is.1;
  },
)

pub function_joined : (head : Head) (code : List Instr) → length code ≡ head.count → head_bytes head ++ code_bytes code ≡ function_bytes (function_with head code)
function_joined head code many = head_cut head (code_bytes code) ∙ ap (λ c. number_bytes head.parameters ++ (number_bytes head.extra ++ (number_bytes head.height ++ (number_bytes head.signature ++ (number_bytes c ++ code_bytes code))))) (sym many)

module _ (most kinds functions : ℕ) (few : most ≤ 320) where
  head_then_code : (x : List ℕ) → Spelled (IsFunctionUpTo most kinds functions) function_bytes x → HeadThenCode most kinds functions x
  head_then_code x is =
      let f = is.0 in let of = is.1.1 in
      let l = some_last (λ instr. IsTrue (is_last instr)) f.code of.last in
      let p = is.1.0 in let e = of.extra in let s = of.signature in let n = of.instructions in
      let head : IsHead most (head_of f) = ((omega arith, p), (omega arith, e), of.height, (omega arith, omega arith), (l, omega arith)) in
      (head_of f, code_bytes f.code, head, is.2 ∙ function_split f, (f.code, (refl, each_instr (counts_with kinds functions (head_of f)) 0 f.code (omega arith) of.operands of.last), refl))

  function_of_parts : (x : List ℕ) → HeadThenCode most kinds functions x → Spelled (IsFunctionUpTo most kinds functions) function_bytes x
  function_of_parts x is =
      let code = is.4 in
      (function_with is.0 code.0, function_is most kinds functions is.0 code.0 few is.2 code.1, is.3 ∙ ap (λ t. head_bytes is.0 ++ t) code.2 ∙ function_joined is.0 code.0 code.1.0)

  function_refused : (bytes : List ℕ) (at : ℕ) (fault : ImageErr) → Refuses (HeadThenCode most kinds functions) bytes at fault → Refuses (Spelled (IsFunctionUpTo most kinds functions) function_bytes) bytes at fault
  function_refused bytes at fault = refused_alike (HeadThenCode most kinds functions) (Spelled (IsFunctionUpTo most kinds functions) function_bytes) bytes at fault function_of_parts head_then_code

  pub head_wrong : (bytes : List ℕ) (at : ℕ) (fault : ImageErr) → Refuses (Spelled (IsHead most) head_bytes) bytes at fault → Refuses (Spelled (IsFunctionUpTo most kinds functions) function_bytes) bytes at fault
  head_wrong bytes at fault r =
      function_refused bytes at fault (refused_first (IsHead most) head_bytes (unique_head most) (λ head rest. Spelled (IsCode (counts_with kinds functions head)) code_bytes rest) bytes at fault
      (λ head is. some_code (counts_with kinds functions head)) r)

  pub code_behind_wrong : (bytes : List ℕ) (at mid : ℕ) (head : Head) (fault : ImageErr) → IsHead most head → StandsAt bytes at mid (head_bytes head) → Refuses (Spelled (IsCode (counts_with kinds functions head)) code_bytes) bytes mid fault → Refuses (Spelled (IsFunctionUpTo most kinds functions) function_bytes) bytes at fault
  code_behind_wrong bytes at mid head fault is stands r =
      function_refused bytes at fault (refused_behind (IsHead most) head_bytes (unique_head most) (λ head rest. Spelled (IsCode (counts_with kinds functions head)) code_bytes rest) bytes at mid head fault is stands r)

-- ---- all functions

same_parts : (p e h s p' e' h' s' : ℕ) (c c' : List Instr) → p ≡ p' → e ≡ e' → h ≡ h' → s ≡ s' → c ≡ c' → let a : machine.Function = record { parameters = p; extra = e; height = h; signature = s; code = c } in let b : machine.Function = record { parameters = p'; extra = e'; height = h'; signature = s'; code = c' } in a ≡ b
same_parts p e h s p' e' h' s' c c' i j k l m = cc

same_code : (a b : List Instr) (x y : List ℕ) → length a ≡ length b → code_bytes a ++ x ≡ code_bytes b ++ y → (a ≡ b) × (x ≡ y)
same_code = same_items spelling same_instr

function_cut : (f : machine.Function) (rest : List ℕ) → function_bytes f ++ rest ≡ head_bytes (head_of f) ++ (code_bytes f.code ++ rest)
function_cut f rest = ap (λ t. t ++ rest) (function_split f) ∙ append_assoc (head_bytes (head_of f)) (code_bytes f.code) rest

pub same_function : (a b : machine.Function) (x y : List ℕ) → function_bytes a ++ x ≡ function_bytes b ++ y → (a ≡ b) × (x ≡ y)
same_function a b x y e =
    let heads = same_head (head_of a) (head_of b) _ _ (sym (function_cut a x) ∙ e ∙ function_cut b y) in
    let h = heads.0 in
    let codes = same_code a.code b.code x y (ap (λ (h : Head). h.count) h) heads.1 in
    (same_parts _ _ _ _ _ _ _ _ _ _ (ap (λ (h : Head). h.parameters) h) (ap (λ (h : Head). h.extra) h) (ap (λ (h : Head). h.height) h) (ap (λ (h : Head). h.signature) h) codes.0, codes.1)

pub unique_function : (kinds count index : ℕ) → IsUnique (IsFunctionAt kinds count index) function_bytes
unique_function kinds count index a b x y p q e = same_function a b x y e

-- a trap alone is a function that may stand anywhere
abbrev pub trapping : machine.Function
trapping = record { parameters = 0; extra = 0; height = 1; signature = 0; code = instrs.Trap ∷ [] }

pub trapping_is : (kinds count index : ℕ) → IsFunctionAt kinds count index trapping
trapping_is kinds count index = (
  omega arith,
  record {
    parameters = omega arith;
    extra = omega arith;
    height = (omega arith, omega arith);
    signature = omega arith;
    instructions = omega arith;
    operands = ((tt, tt), tt);
    last = refl;
  },
)

pub trapping_at : (kinds count index : ℕ) → (function : machine.Function) × IsFunctionAt kinds count index function
trapping_at kinds count index = (trapping, trapping_is kinds count index)

module _ (kinds count : ℕ) where
  abbrev pub KeepsFunctions : List ℕ → ℕ → ℕ → ℕ → List machine.Function → Type 0
  KeepsFunctions bytes at here index found = Keeps function_bytes (IsFunctionAt kinds count) (unique_function kinds count) (trapping_at kinds count) bytes at count here index found

  some_functions : (bytes : List ℕ) × Spelled (IsFunctions kinds count) functions_bytes bytes
  some_functions = some_list function_bytes (IsFunctionAt kinds count) (unique_function kinds count) (trapping_at kinds count) count

  each_function : (index : ℕ) (fs : List machine.Function) → EachFrom (IsFunctionAt kinds count) index fs → AllByRecursion (IsFunction kinds count) fs
  each_function index [] each = tt
  each_function index (f ∷ fs) each = (each.0.1, each_function (suc index) fs each.1)

  each_later : (index : ℕ) (fs : List machine.Function) → AllByRecursion (IsFunction kinds count) fs → EachFrom (IsFunctionAt kinds count) (suc index) fs
  each_later index [] all = tt
  each_later index (f ∷ fs) all = let p = all.0.parameters in let e = eqb-suc-zero index in ((rw e p, all.0), each_later (suc index) fs all.1)

  each_at : (fs : List machine.Function) → AllByRecursion (IsFunction kinds count) fs → BeginsWithStart fs → EachFrom (IsFunctionAt kinds count) 0 fs
  each_at [] all start = tt
  each_at (f ∷ fs) all start = ((omega (arith, start), all.0), each_later 0 fs all.1)

  begins : (fs : List machine.Function) → 1 ≤ length fs → EachFrom (IsFunctionAt kinds count) 0 fs → BeginsWithStart fs
  begins [] some each = absurd (omega (arith, some))
  begins (f ∷ fs) some each = let none : f.parameters ≤ 0 = each.0.0 in omega arith

some_first : (fs : List machine.Function) → BeginsWithStart fs → 1 ≤ length fs
some_first [] start = absurd start
some_first (f ∷ fs) start = omega arith

module _ (kinds : ℕ) where
  -- so many functions are all of an image
  pub all_functions : (count : ℕ) (fs : List machine.Function) → IsWithin 1 4097 count → IsFunctions kinds count fs → IsAllFunctions kinds fs
  all_functions count fs within is =
      let many = is.0 in let w = within.0 in let v = within.1 in
      (omega arith, subst (λ n. AllByRecursion (IsFunction kinds n) fs) (sym many) (each_function kinds count 0 fs is.1), begins kinds count fs (omega arith) is.1)

  -- the number of functions, and then each
  abbrev pub CountThenFunctions : List ℕ → Type 0
  CountThenFunctions bytes = Then (IsWithin 1 4097) number_bytes (λ count rest. Spelled (IsFunctions kinds count) functions_bytes rest) bytes

  functions_refused : (bytes : List ℕ) (at : ℕ) (fault : ImageErr) → Refuses CountThenFunctions bytes at fault → Refuses (Spelled (IsAllFunctions kinds) (counted function_bytes)) bytes at fault
  functions_refused bytes at fault =
      refused_alike CountThenFunctions (Spelled (IsAllFunctions kinds) (counted function_bytes)) bytes at fault
      (λ x is.
      let fs = is.4 in
      (fs.0, all_functions is.0 fs.0 is.2 fs.1, is.3 ∙ ap (λ t. number_bytes is.0 ++ t) fs.2 ∙ ap (λ n. number_bytes n ++ functions_bytes fs.0) (sym fs.1.0)))
      (λ x is.
      let fs = is.0 in
      let all = is.1 in
      let most = all.0 in
      (length fs, functions_bytes fs, (some_first fs all.2, most), is.2, (fs, (refl, each_at kinds (length fs) fs all.1 all.2), refl)))

  pub function_count_wrong : (bytes : List ℕ) (at : ℕ) (fault : ImageErr) → Refuses (Spelled (IsWithin 1 4097) number_bytes) bytes at fault → Refuses (Spelled (IsAllFunctions kinds) (counted function_bytes)) bytes at fault
  function_count_wrong bytes at fault r =
      functions_refused bytes at fault (refused_first (IsWithin 1 4097) number_bytes (unique_number 1 4097) (λ count rest. Spelled (IsFunctions kinds count) functions_bytes rest) bytes at fault
      (λ count is. some_functions kinds count) r)

  pub functions_behind_wrong : (bytes : List ℕ) (at mid count : ℕ) (fault : ImageErr) → IsWithin 1 4097 count → StandsAt bytes at mid (number_bytes count) → Refuses (Spelled (IsFunctions kinds count) functions_bytes) bytes mid fault → Refuses (Spelled (IsAllFunctions kinds) (counted function_bytes)) bytes at fault
  functions_behind_wrong bytes at mid count fault is stands r =
      functions_refused bytes at fault (refused_behind (IsWithin 1 4097) number_bytes (unique_number 1 4097) (λ count rest. Spelled (IsFunctions kinds count) functions_bytes rest) bytes at mid count fault is stands r)

  -- what is found behind the count, or refused
  pub counted_answer : (bytes : List ℕ) (at mid count : ℕ) (result : Result (Vec Function Global × ℕ) ImageErr) → IsWithin 1 4097 count → StandsAt bytes at mid (number_bytes count) → IsDecoded (IsFunctions kinds count) functions_bytes functions_of bytes mid result → IsDecoded (IsAllFunctions kinds) (counted function_bytes) functions_of bytes at result
  counted_answer bytes at mid count (Ok found) is stands finds =
      (all_functions count (functions_of found.0) is finds.0, subst (λ n. StandsAt bytes at found.1 (number_bytes n ++ functions_bytes (functions_of found.0))) (sym finds.0.0) (stands_then bytes at mid found.1 (number_bytes count) (functions_bytes (functions_of found.0)) stands finds.1))
  counted_answer bytes at mid count (Err fault) is stands finds = functions_behind_wrong bytes at mid count fault is stands finds
