-- Heads, operands and spellings of instructions: the code tells the head, and the head tells the operand.
use Rattle.std.proofs.Common.{◌≡◌, ◌≢◌, ℕ, ◌+◌, Option, Some, None, List, [], ◌∷◌, ◌++◌, refl, sym, ap, subst, ◌∙◌}
use Rattle.std.specs.Prelude.{slice_get, option_and_then}
use Rattle.std.proofs.lemmas.List.{append_cancel_left}
use Rattle.c_num.specs.declared.IntType.{IntType}
use Rattle.c_num.specs.declared.IntType.TheVariants as kinds
use Rattle.c_num.specs.declared.BinOp.TheVariants as operators
use Rattle.pool_isa.specs.declared.instr.Width.TheVariants as widths
use Rattle.c_num.specs.declared.Relation.TheVariants as relations
use Rattle.pool_isa.specs.declared.instr.Instr.{Instr}
use Rattle.pool_isa.specs.declared.instr.Instr.TheVariants.{Constant, Discard, Duplicate, Swap, Local, Load, Store, LoadLink, StoreLink, Jump, JumpIfZero, JumpIfNotZero, Call, CallIndirect, Return, ReturnValue, Exit, Trap, Binary, Negate, Complement, Compare, Convert, PoolInit, PoolDestroy, PoolAlloc, PoolFree, GetChar, PutChar}
use Rattle.pool_isa.specs.declared.head.NumberForm.{NumberForm}
use Rattle.pool_isa.specs.declared.head.NumberForm.TheVariants as numbers
use Rattle.pool_isa.specs.declared.head.TypeForm.{TypeForm}
use Rattle.pool_isa.specs.declared.head.TypeForm.TheVariants as types
use Rattle.pool_isa.specs.declared.head.Head.{Head}
use Rattle.pool_isa.specs.declared.head.Head.TheVariants.{Alone, Numbered, Typed}
use Rattle.pool_isa.specs.declared.code.Operand.{Operand}
use Rattle.pool_isa.specs.declared.code.Operand.TheVariants as operands
use Rattle.pool_isa.specs.Spelling.{IsCutShort, IsFault}
use Rattle.pool_isa.specs.Code.{type_code, IsTypeSpelling}
use Rattle.pool_isa.specs.Number.{number_bytes, IsNumberSpelling}
use Rattle.pool_isa.specs.Instr.{code_of, operand_of, operand_bytes, spelling, FitsOperand, IsInstrSpelling}
use Rattle.pool_isa.specs.Head.{with_number, with_type, HasCode}
use Rattle.pool_isa.proofs.Faults.{IsPrefixFree, fault_at_end, fault_here, fault_behind}
use Rattle.pool_isa.proofs.Numbers.{same_number}

-- ---- heads

-- an instruction without its operand
abbrev pub head : Instr → Head
head (Constant n) = Numbered numbers.Constant
head (Local n) = Numbered numbers.Local
head (Jump n) = Numbered numbers.Jump
head (JumpIfZero n) = Numbered numbers.JumpIfZero
head (JumpIfNotZero n) = Numbered numbers.JumpIfNotZero
head (Call n) = Numbered numbers.Call
head (CallIndirect n) = Numbered numbers.CallIndirect
head (PoolInit n) = Numbered numbers.PoolInit
head (Binary op t) = Typed (types.Binary op)
head (Negate t) = Typed types.Negate
head (Complement t) = Typed types.Complement
head (Compare c t) = Typed (types.Compare c)
head (Convert t) = Typed types.Convert
head instr = Alone instr

-- the head of each code, from 0 on
abbrev heads : List (Option Head)
heads =
    None
    ∷ Some (Numbered numbers.Constant)
    ∷ Some (Alone Discard)
    ∷ Some (Alone Duplicate)
    ∷ Some (Alone Swap)
    ∷ Some (Numbered numbers.Local)
    ∷ None
    ∷ None
    ∷ None
    ∷ None
    ∷ None
    ∷ None
    ∷ None
    ∷ None
    ∷ None
    ∷ None
    ∷ Some (Alone (Load kinds.Char))
    ∷ Some (Alone (Load kinds.UChar))
    ∷ Some (Alone (Load kinds.Short))
    ∷ Some (Alone (Load kinds.UShort))
    ∷ Some (Alone (Load kinds.Int))
    ∷ Some (Alone (Load kinds.UInt))
    ∷ Some (Alone (Load kinds.Long))
    ∷ Some (Alone (Load kinds.ULong))
    ∷ Some (Alone (Store widths.One))
    ∷ Some (Alone (Store widths.Two))
    ∷ Some (Alone (Store widths.Four))
    ∷ Some (Alone (Store widths.Eight))
    ∷ Some (Alone LoadLink)
    ∷ Some (Alone StoreLink)
    ∷ None
    ∷ None
    ∷ Some (Numbered numbers.Jump)
    ∷ Some (Numbered numbers.JumpIfZero)
    ∷ Some (Numbered numbers.JumpIfNotZero)
    ∷ Some (Numbered numbers.Call)
    ∷ Some (Numbered numbers.CallIndirect)
    ∷ Some (Alone Return)
    ∷ Some (Alone ReturnValue)
    ∷ Some (Alone Exit)
    ∷ Some (Alone Trap)
    ∷ None
    ∷ None
    ∷ None
    ∷ None
    ∷ None
    ∷ None
    ∷ None
    ∷ Some (Typed (types.Binary operators.Add))
    ∷ Some (Typed (types.Binary operators.Sub))
    ∷ Some (Typed (types.Binary operators.Mul))
    ∷ Some (Typed (types.Binary operators.Div))
    ∷ Some (Typed (types.Binary operators.Rem))
    ∷ Some (Typed (types.Binary operators.Shl))
    ∷ Some (Typed (types.Binary operators.Shr))
    ∷ Some (Typed (types.Binary operators.And))
    ∷ Some (Typed (types.Binary operators.Or))
    ∷ Some (Typed (types.Binary operators.Xor))
    ∷ Some (Typed types.Negate)
    ∷ Some (Typed types.Complement)
    ∷ Some (Typed (types.Compare relations.Eq))
    ∷ Some (Typed (types.Compare relations.Ne))
    ∷ Some (Typed (types.Compare relations.Lt))
    ∷ Some (Typed (types.Compare relations.Le))
    ∷ Some (Typed (types.Compare relations.Gt))
    ∷ Some (Typed (types.Compare relations.Ge))
    ∷ Some (Typed types.Convert)
    ∷ None
    ∷ None
    ∷ None
    ∷ None
    ∷ None
    ∷ None
    ∷ None
    ∷ None
    ∷ None
    ∷ None
    ∷ None
    ∷ None
    ∷ None
    ∷ Some (Numbered numbers.PoolInit)
    ∷ Some (Alone PoolDestroy)
    ∷ Some (Alone PoolAlloc)
    ∷ Some (Alone PoolFree)
    ∷ None
    ∷ None
    ∷ None
    ∷ None
    ∷ None
    ∷ None
    ∷ None
    ∷ None
    ∷ None
    ∷ None
    ∷ None
    ∷ None
    ∷ Some (Alone GetChar)
    ∷ Some (Alone PutChar)
    ∷ []

abbrev head_at : ℕ → Option Head
head_at code = option_and_then (λ h. h) (slice_get heads code)

-- the code of a type, of a width or of an operator stands behind that of the group
head_of_load : (t : IntType) → head_at (code_of (Load t)) ≡ Some (Alone (Load t))
head_of_load kinds.Char = refl
head_of_load kinds.UChar = refl
head_of_load kinds.Short = refl
head_of_load kinds.UShort = refl
head_of_load kinds.Int = refl
head_of_load kinds.UInt = refl
head_of_load kinds.Long = refl
head_of_load kinds.ULong = refl

head_of_code : (instr : Instr) → head_at (code_of instr) ≡ Some (head instr)
head_of_code (Constant n) = refl
head_of_code Discard = refl
head_of_code Duplicate = refl
head_of_code Swap = refl
head_of_code (Local n) = refl
head_of_code (Load t) = head_of_load t
head_of_code (Store widths.One) = refl
head_of_code (Store widths.Two) = refl
head_of_code (Store widths.Four) = refl
head_of_code (Store widths.Eight) = refl
head_of_code LoadLink = refl
head_of_code StoreLink = refl
head_of_code (Jump n) = refl
head_of_code (JumpIfZero n) = refl
head_of_code (JumpIfNotZero n) = refl
head_of_code (Call n) = refl
head_of_code (CallIndirect n) = refl
head_of_code Return = refl
head_of_code ReturnValue = refl
head_of_code Exit = refl
head_of_code Trap = refl
head_of_code (Binary operators.Add t) = refl
head_of_code (Binary operators.Sub t) = refl
head_of_code (Binary operators.Mul t) = refl
head_of_code (Binary operators.Div t) = refl
head_of_code (Binary operators.Rem t) = refl
head_of_code (Binary operators.Shl t) = refl
head_of_code (Binary operators.Shr t) = refl
head_of_code (Binary operators.And t) = refl
head_of_code (Binary operators.Or t) = refl
head_of_code (Binary operators.Xor t) = refl
head_of_code (Negate t) = refl
head_of_code (Complement t) = refl
head_of_code (Compare relations.Eq t) = refl
head_of_code (Compare relations.Ne t) = refl
head_of_code (Compare relations.Lt t) = refl
head_of_code (Compare relations.Le t) = refl
head_of_code (Compare relations.Gt t) = refl
head_of_code (Compare relations.Ge t) = refl
head_of_code (Convert t) = refl
head_of_code (PoolInit n) = refl
head_of_code PoolDestroy = refl
head_of_code PoolAlloc = refl
head_of_code PoolFree = refl
head_of_code GetChar = refl
head_of_code PutChar = refl

pub same_head : (a b : Instr) → code_of a ≡ code_of b → head a ≡ head b
same_head a b e = let heads : ◌≡◌ {A = Option Head} (Some (head a)) (Some (head b)) = sym (head_of_code a) ∙ ap head_at e ∙ head_of_code b in cc

-- ---- operands

-- the operand that a head wants
abbrev Wants : Head → Operand → Type 0
Wants (Alone instr) operand = operand ≡ operands.Nothing
Wants (Numbered form) operand = (n : ℕ) × (operand ≡ operands.Number n)
Wants (Typed form) operand = (t : IntType) × (operand ≡ operands.Typed t)

wanted : (instr : Instr) → Wants (head instr) (operand_of instr)
wanted (Constant n) = (n, refl)
wanted (Local n) = (n, refl)
wanted (Jump n) = (n, refl)
wanted (JumpIfZero n) = (n, refl)
wanted (JumpIfNotZero n) = (n, refl)
wanted (Call n) = (n, refl)
wanted (CallIndirect n) = (n, refl)
wanted (PoolInit n) = (n, refl)
wanted (Binary op t) = (t, refl)
wanted (Negate t) = (t, refl)
wanted (Complement t) = (t, refl)
wanted (Compare c t) = (t, refl)
wanted (Convert t) = (t, refl)
wanted _ = refl

-- a head with an operand
abbrev joined : Head → Operand → Instr
joined (Alone instr) operand = instr
joined (Numbered form) operands.Nothing = with_number form 0
joined (Numbered form) (operands.Number n) = with_number form n
joined (Numbered form) (operands.Typed t) = with_number form 0
joined (Typed form) operands.Nothing = with_type form kinds.Char
joined (Typed form) (operands.Number n) = with_type form kinds.Char
joined (Typed form) (operands.Typed t) = with_type form t

rejoined : (instr : Instr) → joined (head instr) (operand_of instr) ≡ instr
rejoined (Constant n) = refl
rejoined (Local n) = refl
rejoined (Jump n) = refl
rejoined (JumpIfZero n) = refl
rejoined (JumpIfNotZero n) = refl
rejoined (Call n) = refl
rejoined (CallIndirect n) = refl
rejoined (PoolInit n) = refl
rejoined (Binary op t) = refl
rejoined (Negate t) = refl
rejoined (Complement t) = refl
rejoined (Compare c t) = refl
rejoined (Convert t) = refl
rejoined _ = refl

-- the type of each code
abbrev type_at : ℕ → Option IntType
type_at code = slice_get (kinds.Char ∷ kinds.UChar ∷ kinds.Short ∷ kinds.UShort ∷ kinds.Int ∷ kinds.UInt ∷ kinds.Long ∷ kinds.ULong ∷ []) code

type_of_code : (t : IntType) → type_at (type_code t) ≡ Some t
type_of_code kinds.Char = refl
type_of_code kinds.UChar = refl
type_of_code kinds.Short = refl
type_of_code kinds.UShort = refl
type_of_code kinds.Int = refl
type_of_code kinds.UInt = refl
type_of_code kinds.Long = refl
type_of_code kinds.ULong = refl

same_type : (t u : IntType) → type_code t ≡ type_code u → t ≡ u
same_type t u e = let found : ◌≡◌ {A = Option IntType} (Some t) (Some u) = sym (type_of_code t) ∙ ap type_at e ∙ type_of_code u in cc

-- behind one head the bytes of an operand begin no others
same_operand : (h : Head) (o p : Operand) (x y : List ℕ) → Wants h o → Wants h p → operand_bytes o ++ x ≡ operand_bytes p ++ y → o ≡ p
same_operand (Alone instr) o p x y w v e = w ∙ sym v
same_operand (Numbered form) o p x y w v e =
    let bytes : number_bytes w.0 ++ x ≡ number_bytes v.0 ++ y = ap (λ (q : Operand). operand_bytes q ++ x) (sym w.1) ∙ e ∙ ap (λ (q : Operand). operand_bytes q ++ y) v.1 in
    w.1 ∙ ap operands.Number (same_number w.0 v.0 x y bytes).0 ∙ sym v.1
same_operand (Typed form) o p x y w v e =
    let bytes : type_code w.0 ∷ x ≡ type_code v.0 ∷ y = ap (λ (q : Operand). operand_bytes q ++ x) (sym w.1) ∙ e ∙ ap (λ (q : Operand). operand_bytes q ++ y) v.1 in
    let codes : type_code w.0 ≡ type_code v.0 = cc in
    w.1 ∙ ap operands.Typed (same_type w.0 v.0 codes) ∙ sym v.1

-- ---- spellings

-- The spelling of an instruction begins no other.
pub same_instr : (a b : Instr) (x y : List ℕ) → spelling a ++ x ≡ spelling b ++ y → (a ≡ b) × (x ≡ y)
same_instr a b x y e =
    let codes : code_of a ≡ code_of b = cc in
    let behind : operand_bytes (operand_of a) ++ x ≡ operand_bytes (operand_of b) ++ y = cc in
    let heads = same_head a b codes in
    let operands : operand_of a ≡ operand_of b = same_operand (head b) (operand_of a) (operand_of b) x y (subst (λ (h : Head). Wants h (operand_of a)) heads (wanted a)) (wanted b) behind in
    let same : a ≡ b = sym (rejoined a) ∙ ap (λ (h : Head). joined h (operand_of a)) heads ∙ ap (joined (head b)) operands ∙ rejoined b in
    (same, append_cancel_left (spelling b) x y (ap (λ (i : Instr). spelling i ++ x) (sym same) ∙ e))

pub instrs_prefix_free : IsPrefixFree IsInstrSpelling
instrs_prefix_free a b x y p q e = p.2 ∙ ap spelling (same_instr p.0 q.0 x y (ap (λ (t : List ℕ). t ++ x) (sym p.2) ∙ e ∙ ap (λ (t : List ℕ). t ++ y) q.2)).0 ∙ sym q.2

-- ---- faults

type_follows : IsCutShort IsTypeSpelling []
type_follows = (0, [], (kinds.Char, refl))

pub type_at_end : IsFault IsTypeSpelling [] 0
type_at_end = fault_at_end IsTypeSpelling type_follows

pub type_unknown : (b : ℕ) (bs : List ℕ) → ((t : IntType) → type_code t ≢ b) → IsFault IsTypeSpelling (b ∷ bs) 0
type_unknown b bs unknown = fault_here IsTypeSpelling b bs type_follows (λ h. unknown h.1.0 (let e : b ∷ h.0 ≡ type_code h.1.0 ∷ [] = h.1.1 in cc))

instr_follows : IsCutShort IsInstrSpelling []
instr_follows = (2, [], (Discard, tt, refl))

pub instr_at_end : IsFault IsInstrSpelling [] 0
instr_at_end = fault_at_end IsInstrSpelling instr_follows

pub instr_unknown : (b : ℕ) (bs : List ℕ) → ((i : Instr) → code_of i ≢ b) → IsFault IsInstrSpelling (b ∷ bs) 0
instr_unknown b bs unknown = fault_here IsInstrSpelling b bs instr_follows (λ h. unknown h.1.0 (let e : b ∷ h.0 ≡ spelling h.1.0 = h.1.2 in cc))

number_follows_form : (form : NumberForm) (n : ℕ) → operand_of (with_number form n) ≡ operands.Number n
number_follows_form numbers.Constant n = refl
number_follows_form numbers.Local n = refl
number_follows_form numbers.Jump n = refl
number_follows_form numbers.JumpIfZero n = refl
number_follows_form numbers.JumpIfNotZero n = refl
number_follows_form numbers.Call n = refl
number_follows_form numbers.CallIndirect n = refl
number_follows_form numbers.PoolInit n = refl

head_of_number_form : (form : NumberForm) → head (with_number form 0) ≡ Numbered form
head_of_number_form numbers.Constant = refl
head_of_number_form numbers.Local = refl
head_of_number_form numbers.Jump = refl
head_of_number_form numbers.JumpIfZero = refl
head_of_number_form numbers.JumpIfNotZero = refl
head_of_number_form numbers.Call = refl
head_of_number_form numbers.CallIndirect = refl
head_of_number_form numbers.PoolInit = refl

type_follows_form : (form : TypeForm) (t : IntType) → operand_of (with_type form t) ≡ operands.Typed t
type_follows_form (types.Binary op) t = refl
type_follows_form types.Negate t = refl
type_follows_form types.Complement t = refl
type_follows_form (types.Compare c) t = refl
type_follows_form types.Convert t = refl

head_of_type_form : (form : TypeForm) → head (with_type form kinds.Char) ≡ Typed form
head_of_type_form (types.Binary op) = refl
head_of_type_form types.Negate = refl
head_of_type_form types.Complement = refl
head_of_type_form (types.Compare c) = refl
head_of_type_form types.Convert = refl

pub number_form_spelling : (form : NumberForm) (code n : ℕ) → HasCode (Numbered form) code → code ∷ number_bytes n ≡ spelling (with_number form n)
number_form_spelling form code n has = ap (λ (c : ℕ). c ∷ number_bytes n) (sym (has n)) ∙ ap (λ (o : Operand). code_of (with_number form n) ∷ operand_bytes o) (sym (number_follows_form form n))

pub type_form_spelling : (form : TypeForm) (code : ℕ) (t : IntType) → HasCode (Typed form) code → code ∷ type_code t ∷ [] ≡ spelling (with_type form t)
type_form_spelling form code t has = ap (λ (c : ℕ). c ∷ type_code t ∷ []) (sym (has t)) ∙ ap (λ (o : Operand). code_of (with_type form t) ∷ operand_bytes o) (sym (type_follows_form form t))

-- a fault in the number behind a code
pub number_form_behind : (form : NumberForm) (code : ℕ) (bs : List ℕ) (good : ℕ) → HasCode (Numbered form) code → IsFault IsNumberSpelling bs good → IsFault IsInstrSpelling (code ∷ bs) (good + 1)
number_form_behind form code bs good has =
    fault_behind IsNumberSpelling IsInstrSpelling code bs good
    (λ x h. (with_number form h.0, subst FitsOperand (sym (number_follows_form form h.0)) h.1, ap (λ (t : List ℕ). code ∷ t) h.2 ∙ number_form_spelling form code h.0 has))
    (λ x h.
    let e : code ∷ x ≡ spelling h.0 = h.2 in
    let codes : code_of h.0 ≡ code_of (with_number form 0) = let here : code ≡ code_of h.0 = cc in sym here ∙ sym (has 0) in
    let bytes : x ≡ operand_bytes (operand_of h.0) = cc in
    let heads : head h.0 ≡ Numbered form = same_head h.0 (with_number form 0) codes ∙ head_of_number_form form in
    let operand = subst (λ (k : Head). Wants k (operand_of h.0)) heads (wanted h.0) in
    (operand.0, subst FitsOperand operand.1 h.1, bytes ∙ ap operand_bytes operand.1))

-- a fault in the type behind a code
pub type_form_behind : (form : TypeForm) (code : ℕ) (bs : List ℕ) (good : ℕ) → HasCode (Typed form) code → IsFault IsTypeSpelling bs good → IsFault IsInstrSpelling (code ∷ bs) (good + 1)
type_form_behind form code bs good has =
    fault_behind IsTypeSpelling IsInstrSpelling code bs good
    (λ x h. (with_type form h.0, subst FitsOperand (sym (type_follows_form form h.0)) tt, ap (λ (t : List ℕ). code ∷ t) h.1 ∙ type_form_spelling form code h.0 has))
    (λ x h.
    let e : code ∷ x ≡ spelling h.0 = h.2 in
    let codes : code_of h.0 ≡ code_of (with_type form kinds.Char) = let here : code ≡ code_of h.0 = cc in sym here ∙ sym (has kinds.Char) in
    let bytes : x ≡ operand_bytes (operand_of h.0) = cc in
    let heads : head h.0 ≡ Typed form = same_head h.0 (with_type form kinds.Char) codes ∙ head_of_type_form form in
    let operand = subst (λ (k : Head). Wants k (operand_of h.0)) heads (wanted h.0) in
    (operand.0, bytes ∙ ap operand_bytes operand.1))

-- a code and the type behind it
pub type_form_parts : (form : TypeForm) (code : ℕ) (t : IntType) (instr : Instr) (bytes rest after : List ℕ) → HasCode (Typed form) code → bytes ≡ code ∷ rest → rest ≡ type_code t ∷ after → instr ≡ with_type form t → bytes ≡ spelling instr ++ after
type_form_parts form code t instr bytes rest after has e e' same =
    e ∙ ap (λ (x : List ℕ). code ∷ x) e' ∙ ap (λ (x : List ℕ). x ++ after) (type_form_spelling form code t has ∙ ap spelling (sym same))
