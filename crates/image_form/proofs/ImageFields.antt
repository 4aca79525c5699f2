-- An image as its fields.
use Rattle.std.proofs.Common.{◌≡◌, ◌≢◌, ℕ, suc, ◌-◌, ◌<◌, ◌≤◌, List, [], ◌∷◌, ◌++◌, length, get_or, take, drop, drop-cons, refl, sym, ap, subst, ◌∙◌, arith, append_assoc, ◌⊎◌, inl, inr}
use Rattle.std.proofs.lemmas.List.{append-nil, append_cancel_left, length-take, take-append-drop, take_at}
use Rattle.std.proofs.Math.Seq.{take-suc, take-length}
use Rattle.pool_isa.specs.Number.{number_bytes}
use Rattle.pool_isa.specs.Machine as machine
use Rattle.pool_isa.specs.Ranges.{IsWithin}
use Rattle.pool_isa.specs.Spelling.{StandsAt, IsFault, IsFaultAt}
use Rattle.pool_isa.proofs.Faults.{nothing_stands}
use Rattle.pool_isa.proofs.Numbers.{same_number}
use Rattle.image_form.specs.declared.image.ImageErr.{ImageErr}
use Rattle.image_form.specs.declared.image.ImageErr.TheVariants.{Bad, OutOfMemory}
use Rattle.image_form.specs.declared.image.MachineLimits.{MachineLimits}
use Rattle.slab_space.specs.declared.kind.PoolKind.{PoolKind}
use Rattle.image_form.specs.declared.reading.Header.{Header}
use Rattle.image_form.specs.Form.{Form, kind_bytes, function_bytes, counted, contents_bytes, image_bytes, IsContents, IsKind, IsImage, ImageOf}
use Rattle.image_form.specs.Faults.{IsBadAt, IsBad}
use Rattle.std.specs.Prelude.{Err}
use Rattle.image_form.specs.Reading.{Spelled, Refuses, IsDecodedUnlessMemory, IsKinds, kinds_bytes, IsAllFunctions, functions_bytes, IsFirst, first_bytes, first_bytes_of, IsHeader, opening_bytes}
use Rattle.image_form.proofs.Fields.{IsUnique, Then, goes_on, refused_alike, refused_first, refused_behind, spelled_free}
use Rattle.image_form.proofs.Ranges.{Numbered, some_number}
use Rattle.image_form.proofs.Lists.{same_items, unique_items}
use Rattle.image_form.proofs.ContentFields.{unique_contents}
use Rattle.image_form.proofs.KindFields.{unique_kind}
use Rattle.image_form.proofs.FunctionFields.{same_function, trapping, trapping_is}

-- ---- the first bytes

pub first_wrong : (bytes : List ℕ) (index : ℕ) → index < 5 → take index bytes ≡ take index first_bytes → (length bytes ≤ index) ⊎ ((index < length bytes) × (get_or bytes index 0 ≢ get_or first_bytes index 0)) → IsFaultAt (Spelled IsFirst first_bytes_of) bytes 0 index
first_wrong bytes index few alike bad = record { from = omega arith; fault = let back : index ≡ index - 0 = omega arith in subst (IsFault (Spelled IsFirst first_bytes_of) bytes) back fault }
  where
    long : index ≤ length bytes
    long = let a = ap length alike in let l = length-take index bytes in let f = length-take index first_bytes in omega arith

    cut : first_bytes ≡ take index bytes ++ get_or first_bytes index 0 ∷ drop (suc index) first_bytes
    cut = sym (take-append-drop index first_bytes) ∙ ap (λ t. t ++ drop index first_bytes) (sym alike) ∙ ap (λ t. take index bytes ++ t) (drop-cons first_bytes index 0 few)

    no : (length bytes ≤ index) ⊎ ((index < length bytes) × (get_or bytes index 0 ≢ get_or first_bytes index 0)) → index < length bytes → (rest : List ℕ) → take (suc index) bytes ++ rest ≡ first_bytes → ⊥
    no (inl short) lt rest e = omega (arith, short, lt)
    no (inr other) lt rest e =
        let whole : take index bytes ++ get_or bytes index 0 ∷ rest ≡ take index bytes ++ get_or first_bytes index 0 ∷ drop (suc index) first_bytes = sym (append_assoc (take index bytes) (get_or bytes index 0 ∷ []) rest) ∙ ap (λ t. t ++ rest) (sym (take-suc bytes index 0 lt)) ∙ e ∙ cut in
        let back = append_cancel_left (take index bytes) (get_or bytes index 0 ∷ rest) (get_or first_bytes index 0 ∷ drop (suc index) first_bytes) whole in
        other.1 (cc)

    fault : IsFault (Spelled IsFirst first_bytes_of) bytes index
    fault = record {
      within = long;
      begun = (get_or first_bytes index 0, drop (suc index) first_bytes, (tt, tt, sym cut));
      wrong = λ lt h. no bad lt h.0 h.1.2;
    }

-- ---- the header

abbrev pub FromSize : List ℕ → Type 0
FromSize bytes = Spelled (IsWithin 0 1073741824) number_bytes bytes

abbrev pub FromIndex : List ℕ → Type 0
FromIndex bytes = Numbered 1 4294967295 FromSize bytes

abbrev pub FromSlabs : List ℕ → Type 0
FromSlabs bytes = Numbered 1 1048576 FromIndex bytes

pub some_size : (bytes : List ℕ) × FromSize bytes
some_size = (number_bytes 0, (0, (omega arith, omega arith), refl))

pub some_index : (bytes : List ℕ) × FromIndex bytes
some_index = some_number 1 4294967295 FromSize (omega arith) some_size

pub some_slabs : (bytes : List ℕ) × FromSlabs bytes
some_slabs = some_number 1 1048576 FromIndex (omega arith) some_index

-- the first bytes, and then the numbers
abbrev FirstThenNumbers : List ℕ → Type 0
FirstThenNumbers bytes = Then IsFirst first_bytes_of (λ nothing rest. FromSlabs rest) bytes

unique_first : IsUnique IsFirst first_bytes_of
unique_first a b x y p q e = (refl, ap (drop 5) e)

header_refused : (bytes : List ℕ) (fault : ImageErr) → Refuses FirstThenNumbers bytes 0 fault → Refuses (Spelled IsHeader opening_bytes) bytes 0 fault
header_refused bytes fault =
    refused_alike FirstThenNumbers (Spelled IsHeader opening_bytes) bytes 0 fault
    (λ x is.
    let s = is.4 in let i = s.4 in let g = i.4 in
    (record { slabs = s.0; index = i.0; size = g.0 }, (s.2, i.2, g.1), is.3 ∙ ap (λ t. first_bytes ++ t) (s.3 ∙ ap (λ t. number_bytes s.0 ++ t) (i.3 ∙ ap (λ t. number_bytes i.0 ++ t) g.2))))
    (λ x is.
    let h = is.0 in
    (tt, _, tt, is.2, (h.slabs, _, is.1.0, refl, (h.index, _, is.1.1, refl, (h.size, is.1.2, refl)))))

pub first_refused : (bytes : List ℕ) (fault : ImageErr) → Refuses (Spelled IsFirst first_bytes_of) bytes 0 fault → Refuses (Spelled IsHeader opening_bytes) bytes 0 fault
first_refused bytes fault r = header_refused bytes fault (refused_first IsFirst first_bytes_of unique_first (λ nothing rest. FromSlabs rest) bytes 0 fault (λ nothing is. some_slabs) r)

pub numbers_refused : (bytes : List ℕ) (mid : ℕ) (fault : ImageErr) → StandsAt bytes 0 mid first_bytes → Refuses FromSlabs bytes mid fault → Refuses (Spelled IsHeader opening_bytes) bytes 0 fault
numbers_refused bytes mid fault stands r = header_refused bytes fault (refused_behind IsFirst first_bytes_of unique_first (λ nothing rest. FromSlabs rest) bytes 0 mid tt fault tt stands r)

header_cut : (h : Header) (rest : List ℕ) → opening_bytes h ++ rest ≡ 80 ∷ 65 ∷ 73 ∷ 77 ∷ 1 ∷ (number_bytes h.slabs ++ (number_bytes h.index ++ (number_bytes h.size ++ rest)))
header_cut h rest = simp append_assoc

same_numbers : (p e h p' e' h' : ℕ) → p ≡ p' → e ≡ e' → h ≡ h' → let a : Header = record { slabs = p; index = e; size = h } in let b : Header = record { slabs = p'; index = e'; size = h' } in a ≡ b
same_numbers p e h p' e' h' i j k = cc

unique_header : IsUnique IsHeader opening_bytes
unique_header a b x y p q e =
    let i = same_number a.slabs b.slabs _ _ (ap (drop 5) (sym (header_cut a x) ∙ e ∙ header_cut b y)) in
    let j = same_number a.index b.index _ _ i.1 in
    let k = same_number a.size b.size _ _ j.1 in
    (same_numbers _ _ _ _ _ _ i.0 j.0 k.0, k.1)

-- ---- the fields of an image

abbrev pub FromFunctions : List PoolKind → List ℕ → Type 0
FromFunctions kinds bytes = Spelled (IsAllFunctions (length kinds)) (counted function_bytes) bytes

abbrev pub FromKinds : List ℕ → Type 0
FromKinds bytes = Then IsKinds (counted kind_bytes) FromFunctions bytes

abbrev pub FromContents : Header → List ℕ → Type 0
FromContents header bytes = Then (IsContents header.size) contents_bytes (λ contents rest. FromKinds rest) bytes

abbrev pub Fields : List ℕ → Type 0
Fields bytes = Then IsHeader opening_bytes FromContents bytes

some_function_alone : (kinds : List PoolKind) → (bytes : List ℕ) × FromFunctions kinds bytes
some_function_alone kinds = (counted function_bytes (trapping ∷ []), (trapping ∷ [], (omega arith, ((trapping_is (length kinds) 1 0).1, tt), refl), refl))

unique_kinds : IsUnique IsKinds (counted kind_bytes)
unique_kinds a b x y p q e =
    let counts = same_number (length a) (length b) (kinds_bytes a ++ x) (kinds_bytes b ++ y) (sym (append_assoc (number_bytes (length a)) (kinds_bytes a) x) ∙ e ∙ append_assoc (number_bytes (length b)) (kinds_bytes b) y) in
    unique_items IsKind kind_bytes unique_kind a b x y p.1 q.1 counts.0 counts.1

some_kinds : (bytes : List ℕ) × FromKinds bytes
some_kinds = goes_on IsKinds (counted kind_bytes) unique_kinds FromFunctions [] (omega arith, tt) (some_function_alone [])

some_fields : (header : Header) → (bytes : List ℕ) × FromContents header bytes
some_fields header = goes_on (IsContents header.size) contents_bytes (unique_contents header.size) (λ contents rest. FromKinds rest) [] (omega arith, tt, tt) some_kinds

abbrev header_of : Form → Header
header_of form = record { slabs = form.limits.slabs; index = form.limits.index; size = form.globals }

abbrev pub form_with : Header → List ℕ → List PoolKind → List machine.Function → Form
form_with header contents kinds functions =
    record { version = 1; limits = record { slabs = header.slabs; index = header.index }; globals = header.size; contents = contents; kinds = kinds; functions = functions }

-- the bytes of an image, cut behind its fields
image_cut : (form : Form) (rest : List ℕ) → form.version ≡ 1 → image_bytes form ++ rest ≡ opening_bytes (header_of form) ++ (contents_bytes form.contents ++ (counted kind_bytes form.kinds ++ (counted function_bytes form.functions ++ rest)))
image_cut form rest version =
    rw version (regroup (opening_bytes (header_of form)) (contents_bytes form.contents) (counted kind_bytes form.kinds) (counted function_bytes form.functions) rest)
  where
    regroup : (a b c d rest : List ℕ) → (a ++ (b ++ (c ++ d))) ++ rest ≡ a ++ (b ++ (c ++ (d ++ rest)))
    regroup a b c d rest = simp append_assoc

pub image_is : (header : Header) (contents : List ℕ) (kinds : List PoolKind) (functions : List machine.Function) → IsHeader header → IsContents header.size contents → IsKinds kinds → IsAllFunctions (length kinds) functions → IsImage (form_with header contents kinds functions)
image_is header contents kinds functions h c k f = record {
  version = refl;
  slabs = h.0;
  index = h.1;
  globals = h.2.1;
  contents = c;
  kinds = k;
  functions = f.0;
  each_function = f.1;
  start = f.2;
}

header_is : (form : Form) → IsImage form → IsHeader (header_of form)
header_is form is = (is.slabs, is.index, let g = is.globals in (omega arith, g))

image_of_fields : (x : List ℕ) → Fields x → Spelled IsImage image_bytes x
image_of_fields x is =
    let c = is.4 in let k = c.4 in let f = k.4 in
    (form_with is.0 c.0 k.0 f.0, image_is is.0 c.0 k.0 f.0 is.2 c.2 k.2 f.1, is.3 ∙ ap (λ t. opening_bytes is.0 ++ t) (c.3 ∙ ap (λ t. contents_bytes c.0 ++ t) (k.3 ∙ ap (λ t. counted kind_bytes k.0 ++ t) f.2)))

fields_of_image : (x : List ℕ) → Spelled IsImage image_bytes x → Fields x
fields_of_image x is =
    let form = is.0 in let ranges = is.1 in
    let cut = sym (append-nil x) ∙ ap (λ t. t ++ []) is.2 ∙ image_cut form [] ranges.version in
    (header_of form, _, header_is form ranges, cut, (form.contents, _, ranges.contents, refl, (form.kinds, _, ranges.kinds, refl, (form.functions, (ranges.functions, ranges.each_function, ranges.start), append-nil (counted function_bytes form.functions)))))

image_refused : (bytes : List ℕ) (fault : ImageErr) → Refuses Fields bytes 0 fault → Refuses (Spelled IsImage image_bytes) bytes 0 fault
image_refused bytes fault = refused_alike Fields (Spelled IsImage image_bytes) bytes 0 fault image_of_fields fields_of_image

module _ (bytes : List ℕ) (fault : ImageErr) where
  pub header_wrong : Refuses (Spelled IsHeader opening_bytes) bytes 0 fault → Refuses (Spelled IsImage image_bytes) bytes 0 fault
  header_wrong r = image_refused bytes fault (refused_first IsHeader opening_bytes unique_header FromContents bytes 0 fault (λ header is. some_fields header) r)

  module _ (at : ℕ) (header : Header) (is : IsHeader header) (stands : StandsAt bytes 0 at (opening_bytes header)) where
    behind_header : Refuses (FromContents header) bytes at fault → Refuses (Spelled IsImage image_bytes) bytes 0 fault
    behind_header r = image_refused bytes fault (refused_behind IsHeader opening_bytes unique_header FromContents bytes 0 at header fault is stands r)

    pub contents_wrong : Refuses (Spelled (IsContents header.size) contents_bytes) bytes at fault → Refuses (Spelled IsImage image_bytes) bytes 0 fault
    contents_wrong r = behind_header (refused_first (IsContents header.size) contents_bytes (unique_contents header.size) (λ contents rest. FromKinds rest) bytes at fault (λ contents is. some_kinds) r)

    module _ (at_1 : ℕ) (contents : List ℕ) (is_1 : IsContents header.size contents) (stands_1 : StandsAt bytes at at_1 (contents_bytes contents)) where
      behind_contents : Refuses FromKinds bytes at_1 fault → Refuses (Spelled IsImage image_bytes) bytes 0 fault
      behind_contents r = behind_header (refused_behind (IsContents header.size) contents_bytes (unique_contents header.size) (λ contents rest. FromKinds rest) bytes at at_1 contents fault is_1 stands_1 r)

      pub kinds_wrong : Refuses (Spelled IsKinds (counted kind_bytes)) bytes at_1 fault → Refuses (Spelled IsImage image_bytes) bytes 0 fault
      kinds_wrong r = behind_contents (refused_first IsKinds (counted kind_bytes) unique_kinds FromFunctions bytes at_1 fault (λ kinds is. some_function_alone kinds) r)

      pub functions_wrong : (at_2 : ℕ) (kinds : List PoolKind) → IsKinds kinds → StandsAt bytes at_1 at_2 (counted kind_bytes kinds) → Refuses (Spelled (IsAllFunctions (length kinds)) (counted function_bytes)) bytes at_2 fault → Refuses (Spelled IsImage image_bytes) bytes 0 fault
      functions_wrong at_2 kinds is_2 stands_2 r = behind_contents (refused_behind IsKinds (counted kind_bytes) unique_kinds FromFunctions bytes at_1 at_2 kinds fault is_2 stands_2 r)

-- ---- one image

same_image_parts : (v v' g g' : ℕ) (l l' : MachineLimits) (c c' : List ℕ) (k k' : List PoolKind) (f f' : List machine.Function) → v ≡ v' → l ≡ l' → g ≡ g' → c ≡ c' → k ≡ k' → f ≡ f' → let a : Form = record { version = v; limits = l; globals = g; contents = c; kinds = k; functions = f } in let b : Form = record { version = v'; limits = l'; globals = g'; contents = c'; kinds = k'; functions = f' } in a ≡ b
same_image_parts v v' g g' l l' c c' k k' f f' i j m n o p = cc

same_limits : (a b : MachineLimits) → a.slabs ≡ b.slabs → a.index ≡ b.index → a ≡ b
same_limits a b i j = ap (λ s. let l : MachineLimits = record { slabs = s; index = a.index } in l) i ∙ ap (λ s. let l : MachineLimits = record { slabs = b.slabs; index = s } in l) j

-- no image's bytes begin another's
pub unique_image : IsUnique IsImage image_bytes
unique_image a b x y is is' e =
    let heads = unique_header (header_of a) (header_of b) _ _ (header_is a is) (header_is b is') (sym (image_cut a x is.version) ∙ e ∙ image_cut b y is'.version) in
    let h = heads.0 in
    let size : a.globals ≡ b.globals = ap (λ (h : Header). h.size) h in
    let contents = unique_contents a.globals a.contents b.contents _ _ is.contents (subst (λ n. IsContents n b.contents) (sym size) is'.contents) heads.1 in
    let kinds = unique_kinds a.kinds b.kinds _ _ is.kinds is'.kinds contents.1 in
    let counts = same_number (length a.functions) (length b.functions) _ _ (sym (append_assoc (number_bytes (length a.functions)) (functions_bytes a.functions) x) ∙ kinds.1 ∙ append_assoc (number_bytes (length b.functions)) (functions_bytes b.functions) y) in
    let functions = same_items function_bytes same_function a.functions b.functions x y counts.0 counts.1 in
    let limits = same_limits a.limits b.limits (ap (λ (h : Header). h.slabs) h) (ap (λ (h : Header). h.index) h) in
    (same_image_parts _ _ _ _ _ _ _ _ _ _ _ _ (is.version ∙ sym is'.version) limits size contents.0 kinds.0 functions.0, functions.1)

-- ---- where bytes are no image's

-- a refusal says that no image has the bytes
refused_is_no_image : (bytes : List ℕ) (place : ℕ) (form : Form) → IsFaultAt (Spelled IsImage image_bytes) bytes 0 place → ImageOf bytes form → ⊥
refused_is_no_image bytes place form f of =
    nothing_stands (Spelled IsImage image_bytes) (spelled_free IsImage image_bytes unique_image) bytes (place - 0) (image_bytes form) [] f.fault (form, of.ranges, refl) (of.spelled ∙ sym (append-nil (image_bytes form)))

pub bad_place : (bytes : List ℕ) (fault : ImageErr) → Refuses (Spelled IsImage image_bytes) bytes 0 fault → IsBad bytes fault
bad_place bytes (Bad place) f =
    let same : place - 0 ≡ place = omega arith in
    bad_at (subst (IsFault (Spelled IsImage image_bytes) bytes) same f.fault)
  where
    bad_at : IsFault (Spelled IsImage image_bytes) bytes place → IsBadAt bytes place
    bad_at fault = record {
      within = fault.within;
      begun = (fault.begun.0 ∷ fault.begun.1, (fault.begun.2.0, record { spelled = fault.begun.2.2; ranges = fault.begun.2.1 }));
      wrong = λ lt h. fault.wrong lt (h.0, (h.1.0, h.1.1.ranges, h.1.1.spelled));
      cut_short = λ e.
          let whole : take place bytes ≡ bytes = ap (λ n. take n bytes) e ∙ take-length bytes in
          (fault.begun.0, fault.begun.1, (fault.begun.2.0, record { spelled = ap (λ t. t ++ fault.begun.0 ∷ fault.begun.1) (sym whole) ∙ fault.begun.2.2; ranges = fault.begun.2.1 }));
    }
bad_place bytes OutOfMemory f = tt

-- bytes behind an image
pub bad_behind : (bytes : List ℕ) (end : ℕ) (form : Form) → IsImage form → StandsAt bytes 0 end (image_bytes form) → end ≢ length bytes → IsBadAt bytes end
bad_behind bytes end form is stands more = record {
  within = stands.within;
  begun = ([], (form, record { spelled = append-nil (take end bytes) ∙ front; ranges = is }));
  wrong = λ lt h. no lt h.0 h.1.0 h.1.1;
  cut_short = λ e. absurd (more e);
}
  where
    front : take end bytes ≡ image_bytes form
    front = ap (take end) stands.parts ∙ take_at (image_bytes form) (drop end bytes) end (sym (let e = stands.end_is in omega arith))

    no : end < length bytes → (rest : List ℕ) (other : Form) → ImageOf (take (suc end) bytes ++ rest) other → ⊥
    no lt rest other of =
        let whole : image_bytes form ++ get_or bytes end 0 ∷ rest ≡ image_bytes other ++ [] = ap (λ t. t ++ get_or bytes end 0 ∷ rest) (sym front) ∙ sym (append_assoc (take end bytes) (get_or bytes end 0 ∷ []) rest) ∙ ap (λ t. t ++ rest) (sym (take-suc bytes end 0 lt)) ∙ of.spelled ∙ sym (append-nil (image_bytes other)) in
        let none : get_or bytes end 0 ∷ rest ≡ [] = (unique_image form other (get_or bytes end 0 ∷ rest) [] is of.ranges whole).1 in
        cc

pub not_decoded : {T : Type 0} (bytes : List ℕ) (view : T → Form) (fault : ImageErr) → Refuses (Spelled IsImage image_bytes) bytes 0 fault → (form : Form) → ImageOf bytes form → IsDecodedUnlessMemory view (Err fault) form
not_decoded bytes view (Bad place) f form of = refused_is_no_image bytes place form f of
not_decoded bytes view OutOfMemory f form of = tt
