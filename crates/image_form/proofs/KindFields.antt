-- Kinds of pools as their numbers.
use Rattle.std.proofs.Common.{◌≡◌, ◌≢◌, ◌==◌, ℕ, zero, suc, ◌*◌, ◌/◌, ◌≤◌, Bool, true, false, List, [], ◌∷◌, ◌++◌, length, refl, sym, ap, subst, ◌∙◌, arith, append_assoc}
use Rattle.std.proofs.lemmas.List.{append-nil}
use Rattle.std.specs.Prelude.{if◌then◌else◌, Result, Ok, Err, Vec}
use Rattle.std.specs.declared.alloc.Global.{Global}
use Rattle.std.specs.List.{AllByRecursion}
use Rattle.pool_isa.specs.Number.{number_bytes}
use Rattle.pool_isa.specs.Ranges.{IsWithin}
use Rattle.pool_isa.specs.Spelling.{StandsAt}
use Rattle.pool_isa.proofs.Faults.{stands_then}
use Rattle.pool_isa.proofs.Numbers.{number_bytes-small, same_number}
use Rattle.slab_space.specs.declared.kind.PoolKind.{PoolKind}
use Rattle.slab_space.specs.declared.kind.PoolKind.TheVariants.{Mixed, Homogeneous}
use Rattle.image_form.specs.declared.image.ImageErr.{ImageErr}
use Rattle.image_form.specs.Form.{kind_bytes, counted, IsKind}
use Rattle.image_form.specs.Reading.{Spelled, Refuses, IsDecoded, EachFrom, IsHomogeneous, homogeneous_bytes, IsSomeKinds, IsKinds, kinds_of, kinds_bytes}
use Rattle.image_form.proofs.Fields.{IsUnique, Then, refused_alike, refused_first, refused_behind}
use Rattle.image_form.proofs.Ranges.{Numbered, some_number, unique_number}
use Rattle.image_form.proofs.Lists.{Keeps, some_list}

-- ---- cells of one size

-- 0 or 1 as a number is a byte
flag_bytes : (n : ℕ) → n ≤ 1 → number_bytes n ≡ (if n == 1 then 1 else 0) ∷ []
flag_bytes zero le = number_bytes-small 0 (omega arith)
flag_bytes (suc zero) le = number_bytes-small 1 (omega arith)
flag_bytes (suc (suc n)) le = absurd (omega (arith, le))

bytes_flag : (b : Bool) → (n : ℕ) × IsWithin 0 1 n × (number_bytes n ≡ (if b then 1 else 0) ∷ [])
bytes_flag true = (1, (omega arith, omega arith), number_bytes-small 1 (omega arith))
bytes_flag false = (0, (omega arith, omega arith), number_bytes-small 0 (omega arith))

same_flag : (a b : Bool) → ◌≡◌ {A = ℕ} (if a then 1 else 0) (if b then 1 else 0) → a ≡ b
same_flag true true e = refl
same_flag true false e = absurd (omega (arith, e))
same_flag false true e = absurd (omega (arith, e))
same_flag false false e = refl

abbrev pub FromIndexed : List ℕ → Type 0
FromIndexed bytes = Spelled (IsWithin 0 1) number_bytes bytes

abbrev pub FromCell : List ℕ → Type 0
FromCell bytes = Numbered 1 262144 FromIndexed bytes

pub some_indexed : (bytes : List ℕ) × FromIndexed bytes
some_indexed = (number_bytes 0, (0, (omega arith, omega arith), refl))

pub some_cell : (bytes : List ℕ) × FromCell bytes
some_cell = some_number 1 262144 FromIndexed (omega arith) some_indexed

-- of a cell of so many words
pub homogeneous_is : (source words flag : ℕ) → IsWithin 1 1048576 source → IsWithin 1 262144 words → IsWithin 0 1 flag → IsHomogeneous (Homogeneous source (4 * words) (flag == 1)) × (number_bytes source ++ (number_bytes words ++ number_bytes flag) ≡ homogeneous_bytes (Homogeneous source (4 * words) (flag == 1)))
homogeneous_is source words flag s w f =
    let low = w.0 in let high = w.1 in
    let words_are : words ≡ 4 * words / 4 = omega arith in
    ((s, (omega arith, omega arith), omega arith), ap (λ n. number_bytes source ++ (number_bytes n ++ number_bytes flag)) words_are ∙ ap (λ t. number_bytes source ++ (number_bytes (4 * words / 4) ++ t)) (flag_bytes flag f.1))

homogeneous_parts : (kind : PoolKind) (x : List ℕ) → IsHomogeneous kind → x ≡ homogeneous_bytes kind → Numbered 1 1048576 FromCell x
homogeneous_parts Mixed x is e = absurd is
homogeneous_parts (Homogeneous source cell indexed) x is e =
    let low = is.1.0 in let high = is.1.1 in
    let flag = bytes_flag indexed in
    (source, _, is.0, e, (cell / 4, _, (omega arith, omega arith), refl, (flag.0, flag.1, sym flag.2)))

pub homogeneous_refused : (bytes : List ℕ) (at : ℕ) (fault : ImageErr) → Refuses (Numbered 1 1048576 FromCell) bytes at fault → Refuses (Spelled IsHomogeneous homogeneous_bytes) bytes at fault
homogeneous_refused bytes at fault =
    refused_alike (Numbered 1 1048576 FromCell) (Spelled IsHomogeneous homogeneous_bytes) bytes at fault
    (λ x is.
    let words = is.4 in let flag = words.4 in
    let whole = homogeneous_is is.0 words.0 flag.0 is.2 words.2 flag.1 in
    (Homogeneous is.0 (4 * words.0) (flag.0 == 1), whole.0, is.3 ∙ ap (λ t. number_bytes is.0 ++ t) (words.3 ∙ ap (λ t. number_bytes words.0 ++ t) flag.2) ∙ whole.1))
    (λ x is. homogeneous_parts is.0 x is.1 is.2)

pub homogeneous_stands : (bytes : List ℕ) (at mid next end source words flag : ℕ) → IsWithin 1 1048576 source → IsWithin 1 262144 words → IsWithin 0 1 flag → StandsAt bytes at mid (number_bytes source) → StandsAt bytes mid next (number_bytes words) → StandsAt bytes next end (number_bytes flag) → IsHomogeneous (Homogeneous source (4 * words) (flag == 1)) × StandsAt bytes at end (homogeneous_bytes (Homogeneous source (4 * words) (flag == 1)))
homogeneous_stands bytes at mid next end source words flag s w f stands_0 stands_1 stands_2 =
    let whole = homogeneous_is source words flag s w f in
    (whole.0, subst (StandsAt bytes at end) whole.1 (stands_then bytes at mid end (number_bytes source) (number_bytes words ++ number_bytes flag) stands_0 (stands_then bytes mid next end (number_bytes words) (number_bytes flag) stands_1 stands_2)))

-- ---- a kind

pub unique_kind : IsUnique IsKind kind_bytes
unique_kind Mixed Mixed x y p q e = (refl, let f : ◌≡◌ {A = List ℕ} (0 ∷ x) (0 ∷ y) = e in cc)
unique_kind Mixed (Homogeneous s c i) x y p q e = let f : ◌≡◌ {A = ℕ} 0 1 = cc in absurd (omega (arith, f))
unique_kind (Homogeneous s c i) Mixed x y p q e = let f : ◌≡◌ {A = ℕ} 1 0 = cc in absurd (omega (arith, f))
unique_kind (Homogeneous s c i) (Homogeneous s' c' i') x y p q e =
    let behind : homogeneous_bytes (Homogeneous s c i) ++ x ≡ homogeneous_bytes (Homogeneous s' c' i') ++ y = cc in
    let sources = same_number s s' _ _ (sym (cut s c i x) ∙ behind ∙ cut s' c' i' y) in
    let words = same_number (c / 4) (c' / 4) _ _ sources.1 in
    let flags : ◌≡◌ {A = ℕ} (if i then 1 else 0) (if i' then 1 else 0) = let f = words.1 in cc in
    let cells : c ≡ c' = let w = words.0 in let m = p.2 in let n = q.2 in omega arith in
    let indexed = same_flag i i' flags in
    (let f = sources.0 in cc, let f = words.1 in cc)
  where
    cut : (s c : ℕ) (i : Bool) (x : List ℕ) → homogeneous_bytes (Homogeneous s c i) ++ x ≡ number_bytes s ++ (number_bytes (c / 4) ++ ((if i then 1 else 0) ∷ x))
    cut s c i x = simp append_assoc

-- what follows the first byte
abbrev pub Behind : ℕ → List ℕ → Type 0
Behind zero rest = rest ≡ []
Behind (suc n) rest = Spelled IsHomogeneous homogeneous_bytes rest

abbrev pub TagThenRest : List ℕ → Type 0
TagThenRest bytes = Then (IsWithin 0 1) number_bytes Behind bytes

pub kind_whole : (kind : PoolKind) → IsHomogeneous kind → IsKind kind × (number_bytes 1 ++ homogeneous_bytes kind ≡ kind_bytes kind)
kind_whole Mixed is = absurd is
kind_whole (Homogeneous source cell indexed) is = (is, ap (λ t. t ++ homogeneous_bytes (Homogeneous source cell indexed)) (number_bytes-small 1 (omega arith)))

kind_of_parts : (x : List ℕ) → TagThenRest x → Spelled IsKind kind_bytes x
kind_of_parts x is = go is.0 is.1 is.2 is.3 is.4
  where
    go : (tag : ℕ) (rest : List ℕ) → IsWithin 0 1 tag → x ≡ number_bytes tag ++ rest → Behind tag rest → Spelled IsKind kind_bytes x
    go zero rest within e behind = (Mixed, tt, e ∙ ap (λ t. number_bytes 0 ++ t) behind ∙ append-nil (number_bytes 0) ∙ number_bytes-small 0 (omega arith))
    go (suc n) rest within e behind =
        let one : suc n ≡ 1 = let w = within.1 in omega arith in
        let whole = kind_whole behind.0 behind.1 in
        (behind.0, whole.0, e ∙ ap (λ t. number_bytes (suc n) ++ t) behind.2 ∙ ap (λ k. number_bytes k ++ homogeneous_bytes behind.0) one ∙ whole.1)

parts_of_kind : (kind : PoolKind) (x : List ℕ) → IsKind kind → x ≡ kind_bytes kind → TagThenRest x
parts_of_kind Mixed x is e = (0, [], (omega arith, omega arith), e ∙ sym (number_bytes-small 0 (omega arith)) ∙ sym (append-nil (number_bytes 0)), refl)
parts_of_kind (Homogeneous source cell indexed) x is e =
    let kind : PoolKind = Homogeneous source cell indexed in
    (1, homogeneous_bytes kind, (omega arith, omega arith), e ∙ sym (kind_whole kind is).1, (kind, is, refl))

kind_refused : (bytes : List ℕ) (at : ℕ) (fault : ImageErr) → Refuses TagThenRest bytes at fault → Refuses (Spelled IsKind kind_bytes) bytes at fault
kind_refused bytes at fault = refused_alike TagThenRest (Spelled IsKind kind_bytes) bytes at fault kind_of_parts (λ x is. parts_of_kind is.0 x is.1 is.2)

some_behind : (tag : ℕ) → (rest : List ℕ) × Behind tag rest
some_behind zero = ([], refl)
some_behind (suc n) = (homogeneous_bytes (Homogeneous 1 4 false), (Homogeneous 1 4 false, ((omega arith, omega arith), (omega arith, omega arith), omega arith), refl))

pub tag_wrong : (bytes : List ℕ) (at : ℕ) (fault : ImageErr) → Refuses (Spelled (IsWithin 0 1) number_bytes) bytes at fault → Refuses (Spelled IsKind kind_bytes) bytes at fault
tag_wrong bytes at fault r = kind_refused bytes at fault (refused_first (IsWithin 0 1) number_bytes (unique_number 0 1) Behind bytes at fault (λ tag is. some_behind tag) r)

pub mixed_stands : (bytes : List ℕ) (at end tag : ℕ) → tag ≡ 0 → StandsAt bytes at end (number_bytes tag) → StandsAt bytes at end (0 ∷ [])
mixed_stands bytes at end tag none stands = subst (StandsAt bytes at end) (ap number_bytes none ∙ number_bytes-small 0 (omega arith)) stands

-- what is found behind a first byte that isn't 0, or refused
pub kind_answer : (bytes : List ℕ) (at mid tag : ℕ) (result : Result (PoolKind × ℕ) ImageErr) → tag ≢ 0 → IsWithin 0 1 tag → StandsAt bytes at mid (number_bytes tag) → IsDecoded IsHomogeneous homogeneous_bytes (λ kind. kind) bytes mid result → IsDecoded IsKind kind_bytes (λ kind. kind) bytes at result
kind_answer bytes at mid tag (Ok found) some within stands finds =
    let one : tag ≡ 1 = let w = within.1 in omega arith in
    let whole = kind_whole found.0 finds.0 in
    (whole.0, subst (StandsAt bytes at found.1) (ap (λ n. number_bytes n ++ homogeneous_bytes found.0) one ∙ whole.1) (stands_then bytes at mid found.1 (number_bytes tag) (homogeneous_bytes found.0) stands finds.1))
kind_answer bytes at mid tag (Err fault) some within stands finds =
    let one : tag ≡ 1 = let w = within.1 in omega arith in
    kind_refused bytes at fault (refused_behind (IsWithin 0 1) number_bytes (unique_number 0 1) Behind bytes at mid 1 fault (omega arith, omega arith) (subst (λ n. StandsAt bytes at mid (number_bytes n)) one stands) finds)

-- ---- all kinds

pub unique_kind_at : (index : ℕ) → IsUnique IsKind kind_bytes
unique_kind_at index = unique_kind

pub mixed_at : (index : ℕ) → (kind : PoolKind) × IsKind kind
mixed_at index = (Mixed, tt)

module _ (count : ℕ) where
  abbrev pub KeepsKinds : List ℕ → ℕ → ℕ → ℕ → List PoolKind → Type 0
  KeepsKinds bytes at here index found = Keeps kind_bytes (λ index kind. IsKind kind) unique_kind_at mixed_at bytes at count here index found

all_kinds : (index : ℕ) (kinds : List PoolKind) → EachFrom (λ index kind. IsKind kind) index kinds → AllByRecursion IsKind kinds
all_kinds index [] each = tt
all_kinds index (kind ∷ kinds) each = (each.0, all_kinds (suc index) kinds each.1)

each_kind : (index : ℕ) (kinds : List PoolKind) → AllByRecursion IsKind kinds → EachFrom (λ index kind. IsKind kind) index kinds
each_kind index [] all = tt
each_kind index (kind ∷ kinds) all = (all.0, each_kind (suc index) kinds all.1)

-- the number of kinds, and then each
abbrev pub CountThenKinds : List ℕ → Type 0
CountThenKinds bytes = Then (IsWithin 0 1048576) number_bytes (λ count rest. Spelled (IsSomeKinds count) kinds_bytes rest) bytes

kinds_refused : (bytes : List ℕ) (at : ℕ) (fault : ImageErr) → Refuses CountThenKinds bytes at fault → Refuses (Spelled IsKinds (counted kind_bytes)) bytes at fault
kinds_refused bytes at fault =
    refused_alike CountThenKinds (Spelled IsKinds (counted kind_bytes)) bytes at fault
    (λ x is.
    let kinds = is.4 in let many = kinds.1.0 in let w = is.2.1 in
    (kinds.0, (omega arith, all_kinds 0 kinds.0 kinds.1.1), is.3 ∙ ap (λ t. number_bytes is.0 ++ t) kinds.2 ∙ ap (λ n. number_bytes n ++ kinds_bytes kinds.0) (sym many)))
    (λ x is.
    let most = is.1.0 in
    (length is.0, kinds_bytes is.0, (omega arith, most), is.2, (is.0, (refl, each_kind 0 is.0 is.1.1), refl)))

pub kind_count_wrong : (bytes : List ℕ) (at : ℕ) (fault : ImageErr) → Refuses (Spelled (IsWithin 0 1048576) number_bytes) bytes at fault → Refuses (Spelled IsKinds (counted kind_bytes)) bytes at fault
kind_count_wrong bytes at fault r =
    kinds_refused bytes at fault (refused_first (IsWithin 0 1048576) number_bytes (unique_number 0 1048576) (λ count rest. Spelled (IsSomeKinds count) kinds_bytes rest) bytes at fault
    (λ count is. some_list kind_bytes (λ index kind. IsKind kind) unique_kind_at mixed_at count) r)

-- what is found behind the count, or refused
pub counted_kinds_answer : (bytes : List ℕ) (at mid count : ℕ) (result : Result (Vec PoolKind Global × ℕ) ImageErr) → IsWithin 0 1048576 count → StandsAt bytes at mid (number_bytes count) → IsDecoded (IsSomeKinds count) kinds_bytes kinds_of bytes mid result → IsDecoded IsKinds (counted kind_bytes) kinds_of bytes at result
counted_kinds_answer bytes at mid count (Ok found) is stands finds =
    let kinds = kinds_of found.0 in let many = finds.0.0 in let w = is.1 in
    ((omega arith, all_kinds 0 kinds finds.0.1), subst (λ n. StandsAt bytes at found.1 (number_bytes n ++ kinds_bytes kinds)) (sym many) (stands_then bytes at mid found.1 (number_bytes count) (kinds_bytes kinds) stands finds.1))
counted_kinds_answer bytes at mid count (Err fault) is stands finds =
    kinds_refused bytes at fault (refused_behind (IsWithin 0 1048576) number_bytes (unique_number 0 1048576) (λ count rest. Spelled (IsSomeKinds count) kinds_bytes rest) bytes at mid count fault is stands finds)
