-- The image of units in their ranges is in its ranges.
use Rattle.std.proofs.Common.{◌≡◌, ℕ, ◌^◌, ◌<◌, ◌≤◌, IsTrue, List, [], ◌∷◌, map, length, refl, sym, subst, arith}
use Rattle.std.specs.List.{AllByRecursion}
use Rattle.std.proofs.lemmas.List.{length-map}
use Rattle.slab_space.specs.declared.kind.PoolKind.{PoolKind}
use Rattle.pool_isa.specs.declared.instr.Instr.{Instr}
use Rattle.pool_isa.specs.declared.instr.Instr.TheVariants as instrs
use Rattle.pool_isa.specs.Instr.{Fits}
use Rattle.pool_isa.specs.Machine.{Function, Code}
use Rattle.pool_isa.specs.Ranges.{IsWithin, InRange, is_last, LastIs, IsFunction}
use Rattle.stack_code.specs.declared.units.Unit.{Unit as Emitted}
use Rattle.stack_code.specs.Units.{unit_function}
use Rattle.image_form.specs.declared.image.MachineLimits.{MachineLimits}
use Rattle.image_form.specs.Form.{IsKind, BeginsWithStart, IsImage}
use Rattle.pool_linker.specs.Linking.{once, numbers_of, linked_instr, linked_function, linked, NamesBelow}
use Rattle.pool_linker.proofs.Once.{number_within, once-all, once-short}
use Rattle.pool_linker.proofs.Zeros.{cut_ends, cut_short, cut_all}

abbrev IsOperand : ℕ → ℕ → ℕ → Instr → Type 0
IsOperand kinds functions instructions instr = Fits instr × InRange kinds functions instructions instr

names_below : (kinds functions instructions : ℕ) (instr : Instr) → IsOperand kinds functions instructions instr → NamesBelow kinds instr
names_below kinds functions instructions (instrs.PoolInit kind) h = h.1
names_below kinds functions instructions _ h = tt

pub code-below : (kinds functions instructions : ℕ) (code : List Instr) → AllByRecursion (IsOperand kinds functions instructions) code → AllByRecursion (NamesBelow kinds) code
code-below kinds functions instructions [] h = tt
code-below kinds functions instructions (instr ∷ code) h = (names_below kinds functions instructions instr h.0, code-below kinds functions instructions code h.1)

-- the units name the kinds there are
pub units-below : (kinds functions : ℕ) (units : List Emitted) → AllByRecursion (IsFunction kinds functions) (map unit_function units) → AllByRecursion (λ unit. AllByRecursion (NamesBelow kinds) unit.code.items) units
units-below kinds functions [] h = tt
units-below kinds functions (unit ∷ units) h = (code-below kinds functions (length unit.code.items) unit.code.items h.0.operands, units-below kinds functions units h.1)

module _ (kinds : List PoolKind) (small : length kinds ≤ 1048576) where
  linked-operand : (functions instructions : ℕ) (instr : Instr) → IsOperand (length kinds) functions instructions instr → IsOperand (length (once kinds)) functions instructions (linked_instr (numbers_of kinds) instr)
  linked-operand functions instructions (instrs.PoolInit kind) h =
      let lt = number_within kinds kind h.1 in
      (omega (arith, lt, once-short kinds, small), lt)
  linked-operand functions instructions _ h = h

  linked-code : (functions instructions : ℕ) (code : List Instr) → AllByRecursion (IsOperand (length kinds) functions instructions) code → AllByRecursion (IsOperand (length (once kinds)) functions instructions) (map (linked_instr (numbers_of kinds)) code)
  linked-code functions instructions [] h = tt
  linked-code functions instructions (instr ∷ code) h = (linked-operand functions instructions instr h.0, linked-code functions instructions code h.1)

  linked-leaves : (instr : Instr) → IsTrue (is_last instr) → IsTrue (is_last (linked_instr (numbers_of kinds) instr))
  linked-leaves (instrs.PoolInit kind) h = h
  linked-leaves _ h = h

  linked-last : (code : List Instr) → LastIs (λ instr. IsTrue (is_last instr)) code → LastIs (λ instr. IsTrue (is_last instr)) (map (linked_instr (numbers_of kinds)) code)
  linked-last [] h = h
  linked-last (instr ∷ []) h = linked-leaves instr h
  linked-last (instr ∷ next ∷ code) h = linked-last (next ∷ code) h

  linked-function : (functions : ℕ) (function : Function) → IsFunction (length kinds) functions function → IsFunction (length (once kinds)) functions (linked_function (numbers_of kinds) function)
  linked-function functions function is =
      let long : length (map (linked_instr (numbers_of kinds)) function.code) ≡ length function.code = length-map function.code (linked_instr (numbers_of kinds)) in
      record {
        parameters = is.parameters;
        extra = is.extra;
        height = is.height;
        signature = is.signature;
        instructions = subst (λ n. n < 2 ^ 32) (sym long) is.instructions;
        operands = subst (λ n. AllByRecursion (IsOperand (length (once kinds)) functions n) (map (linked_instr (numbers_of kinds)) function.code)) (sym long) (linked-code functions (length function.code) function.code is.operands);
        last = linked-last function.code is.last;
      }

  linked-functions : (functions : ℕ) (fs : List Function) → AllByRecursion (IsFunction (length kinds) functions) fs → AllByRecursion (IsFunction (length (once kinds)) functions) (map (linked_function (numbers_of kinds)) fs)
  linked-functions functions [] h = tt
  linked-functions functions (f ∷ fs) h = (linked-function functions f h.0, linked-functions functions fs h.1)

  linked-start : (fs : List Function) → BeginsWithStart fs → BeginsWithStart (map (linked_function (numbers_of kinds)) fs)
  linked-start [] h = h
  linked-start (f ∷ fs) h = h

pub linked-image : (code : Code) (limits : MachineLimits) → AllByRecursion (IsFunction (length code.kinds) (length code.functions)) code.functions → length code.functions ≤ 4097 → BeginsWithStart code.functions
    → (length code.kinds ≤ 1048576) × AllByRecursion IsKind code.kinds → code.globals ≤ 1073741824 → length code.contents ≤ code.globals → AllByRecursion (λ byte. byte < 256) code.contents
    → IsWithin 1 1048576 limits.slabs → IsWithin 1 4294967295 limits.index → IsImage (linked code limits)
linked-image code limits functions count start kinds globals contents bytes slabs index =
    let fs = code.functions in
    let link = linked_function (numbers_of code.kinds) in
    let long : length (map link fs) ≡ length fs = length-map fs link in
    record {
      version = refl;
      slabs = slabs;
      index = index;
      globals = globals;
      contents = (omega (arith, cut_short code.contents, contents), cut_all (λ byte. byte < 256) code.contents bytes, cut_ends code.contents);
      kinds = (omega (arith, once-short code.kinds, kinds.0), once-all IsKind code.kinds kinds.1);
      functions = subst (λ n. n ≤ 4097) (sym long) count;
      each_function = subst (λ n. AllByRecursion (IsFunction (length (once code.kinds)) n) (map link fs)) (sym long) (linked-functions code.kinds kinds.0 (length fs) fs functions);
      start = linked-start code.kinds kinds.0 fs start;
    }
