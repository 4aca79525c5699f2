-- Code leads from a point to a point, and from a call site to a call site: it calls by name only the first functions, and each of its
-- sites is at one point.
use Rattle.std.proofs.Common.{◌≡◌, ℕ, suc, ◌≤◌, ◌<◌, ◌⊎◌, inl, inr, List, Option, Some, None, sym, ap, subst, ◌∙◌, arith}
use Rattle.std.specs.Prelude.{slice_get}
use Rattle.std.proofs.lemmas.Bool.{cases_lt}
use Rattle.std.proofs.lemmas.Option.{none-some, same_Some}
use Rattle.c_num.specs.declared.IntType.{IntType}
use Rattle.c_typed.specs.Types.{CType}
use Rattle.tac_ir.specs.declared.register.Register.{Register}
use Rattle.tac_ir.specs.Code.{Callee, Known, Through, Op}
use Rattle.tac_ir.specs.Code as O
use Rattle.tac_build.specs.Spots.{Spot, behind, with_expression, with_temporary, temporary, expression, Lowered}
use Rattle.tac_build.specs.Code.{PartCode, HasOp, Emits, GivesInteger, GivesPointer}
use Rattle.dsa_bottom_up.specs.Sites.{site_of}

abbrev pub site_in : Option Op → Option ℕ
site_in None = None
site_in (Some op) = site_of op

abbrev pub site_at : List Op → ℕ → Option ℕ
site_at points number = site_in (slice_get points number)

-- what is called by name is one of so many functions
abbrev pub CalleeBelow : ℕ → Callee → Type 0
CalleeBelow count (Known function) = function < count
CalleeBelow count (Through pointer c_type) = Unit {0}

abbrev pub CallsBelow : ℕ → Op → Type 0
CallsBelow count (O.Call site callee arguments) = CalleeBelow count callee
CallsBelow count op = Unit {0}

module _ (points : List Op) (count : ℕ) where
  abbrev pub AreKnown : ℕ → ℕ → Type 0
  AreKnown from to = (number site function : ℕ) (arguments : List Register) → from ≤ number → number < to → slice_get points number ≡ Some (O.Call site (Known function) arguments) → function < count

  abbrev pub HaveSites : ℕ → ℕ → ℕ → ℕ → Type 0
  HaveSites from to first next = (number site : ℕ) → from ≤ number → number < to → site_at points number ≡ Some site → (first ≤ site) × (site < next)

  abbrev pub HaveSitesOnce : ℕ → ℕ → Type 0
  HaveSitesOnce from to = (i j site : ℕ) → from ≤ i → i < to → from ≤ j → j < to → site_at points i ≡ Some site → site_at points j ≡ Some site → i ≡ j

  -- from a point to a point, with the sites from one to another
  pub record Leads (from to first next : ℕ) : Type 0 where
    pub order : from ≤ to
    pub counted : first ≤ next
    pub known : AreKnown from to
    pub sites : HaveSites from to first next
    pub once : HaveSitesOnce from to

  abbrev pub Spans : Spot → Spot → Type 0
  Spans from to = Leads from.at to.at from.counts.calls to.counts.calls

  -- so does each code of a part
  abbrev pub Part : PartCode → Type 0
  Part part = (from to : Spot) (lowered : Lowered) → part from to lowered → Spans from to

  -- ---- code behind code

  known_then : (a b c : ℕ) → AreKnown a b → AreKnown b c → AreKnown a c
  known_then a b c one other number site function arguments low high there = by (cases_lt number b)
    where
      by : (number < b) ⊎ (b ≤ number) → function < count
      by (inl less) = one number site function arguments low less there
      by (inr more) = other number site function arguments more high there

  sites_then : (a b c x y z : ℕ) → x ≤ y → y ≤ z → HaveSites a b x y → HaveSites b c y z → HaveSites a c x z
  sites_then a b c x y z low_one low_other one other number site low high there = by (cases_lt number b)
    where
      by : (number < b) ⊎ (b ≤ number) → (x ≤ site) × (site < z)
      by (inl less) = let found = one number site low less there in let under = found.1 in (found.0, omega (arith, under, low_other))
      by (inr more) = let found = other number site more high there in let over = found.0 in (omega (arith, over, low_one), found.1)

  once_then : (a b c x y z : ℕ) → HaveSites a b x y → HaveSites b c y z → HaveSitesOnce a b → HaveSitesOnce b c → HaveSitesOnce a c
  once_then a b c x y z first second one other i j site low_i high_i low_j high_j there_i there_j = by (cases_lt i b) (cases_lt j b)
    where
      apart : (k m : ℕ) → a ≤ k → k < b → b ≤ m → m < c → site_at points k ≡ Some site → site_at points m ≡ Some site → ⊥
      apart k m low_k high_k low_m high_m there_k there_m =
          let under = (first k site low_k high_k there_k).1 in
          let over = (second m site low_m high_m there_m).0 in
          omega (arith, under, over)

      by : (i < b) ⊎ (b ≤ i) → (j < b) ⊎ (b ≤ j) → i ≡ j
      by (inl p) (inl q) = one i j site low_i p low_j q there_i there_j
      by (inl p) (inr q) = absurd (apart i j low_i p q high_j there_i there_j)
      by (inr p) (inl q) = absurd (apart j i low_j q p high_i there_j there_i)
      by (inr p) (inr q) = other i j site p high_i q high_j there_i there_j

  pub leads_then : {a b c x y z : ℕ} → Leads a b x y → Leads b c y z → Leads a c x z
  leads_then {a} {b} {c} {x} {y} {z} one other = record {
    order = let first = one.order in let second = other.order in omega (arith, first, second);
    counted = let first = one.counted in let second = other.counted in omega (arith, first, second);
    known = known_then a b c one.known other.known;
    sites = sites_then a b c x y z one.counted other.counted one.sites other.sites;
    once = once_then a b c x y z one.sites other.sites one.once other.once;
  }

  -- ---- points

  pub nothing : (at site : ℕ) → Leads at at site site
  nothing at site = record {
    order = omega arith;
    counted = omega arith;
    known = λ number other function arguments low high there. absurd (omega (arith, low, high));
    sites = λ number other low high there. absurd (omega (arith, low, high));
    once = λ i j other low high low_j high_j there there_j. absurd (omega (arith, low, high));
  }

  none_at : (at : ℕ) (op : Op) → HasOp points at op → site_of op ≡ None → (number : ℕ) → at ≤ number → number < suc at → None ≡ site_at points number
  none_at at op stands is number low high =
      let same : number ≡ at = omega (arith, low, high) in
      sym (ap (site_at points) same ∙ ap site_in stands ∙ is)

  -- a point without a site
  pub plain : (at site : ℕ) (op : Op) → HasOp points at op → site_of op ≡ None → Leads at (suc at) site site
  plain at site op stands is = record {
    order = omega arith;
    counted = omega arith;
    known = λ number other function arguments low high there. absurd (none-some other (none_at at op stands is number low high ∙ ap site_in there));
    sites = λ number other low high there. absurd (none-some other (none_at at op stands is number low high ∙ there));
    once = λ i j other low high low_j high_j there there_j. absurd (none-some other (none_at at op stands is i low high ∙ there));
  }

  -- a point with the site in front of those of the code before it
  pub then_site : {from to next : ℕ} (site : ℕ) (op : Op) → Leads from to (suc site) next → HasOp points to op → site_of op ≡ Some site → CallsBelow count op → Leads from (suc to) site next
  then_site {from} {to} {next} site op made stands is below = record {
    order = let order = made.order in omega (arith, order);
    counted = let counted = made.counted in omega (arith, counted);
    known = λ number other function arguments low high there. known_by number other function arguments low high there (cases_lt number to);
    sites = λ number other low high there. sites_by number other low high there (cases_lt number to);
    once = λ i j other low_i high_i low_j high_j there_i there_j. once_by i j other low_i high_i low_j high_j there_i there_j (cases_lt i to) (cases_lt j to);
  }
    where
      known_by : (number other function : ℕ) (arguments : List Register) → from ≤ number → number < suc to → slice_get points number ≡ Some (O.Call other (Known function) arguments)
          → (number < to) ⊎ (to ≤ number) → function < count
      known_by number other function arguments low high there (inl less) = made.known number other function arguments low less there
      known_by number other function arguments low high there (inr more) =
          let same : to ≡ number = omega (arith, high, more) in
          subst (CallsBelow count) (same_Some op (O.Call other (Known function) arguments) (sym stands ∙ ap (slice_get points) same ∙ there)) below

      same_site : (number other : ℕ) → number < suc to → to ≤ number → site_at points number ≡ Some other → site ≡ other
      same_site number other high more there =
          let same : to ≡ number = omega (arith, high, more) in
          same_Some site other (sym is ∙ sym (ap site_in stands) ∙ ap (site_at points) same ∙ there)

      sites_by : (number other : ℕ) → from ≤ number → number < suc to → site_at points number ≡ Some other → (number < to) ⊎ (to ≤ number) → (site ≤ other) × (other < next)
      sites_by number other low high there (inl less) = let found = made.sites number other low less there in let over = found.0 in (omega (arith, over), found.1)
      sites_by number other low high there (inr more) =
          let same = same_site number other high more there in
          let counted = made.counted in
          (omega (arith, same), omega (arith, same, counted))

      apart : (k m other : ℕ) → from ≤ k → k < to → to ≤ m → m < suc to → site_at points k ≡ Some other → site_at points m ≡ Some other → ⊥
      apart k m other low_k high_k low_m high_m there_k there_m =
          let over = (made.sites k other low_k high_k there_k).0 in
          let same = same_site m other high_m low_m there_m in
          omega (arith, over, same)

      once_by : (i j other : ℕ) → from ≤ i → i < suc to → from ≤ j → j < suc to → site_at points i ≡ Some other → site_at points j ≡ Some other → (i < to) ⊎ (to ≤ i) → (j < to) ⊎ (to ≤ j) → i ≡ j
      once_by i j other low_i high_i low_j high_j there_i there_j (inl p) (inl q) = made.once i j other low_i p low_j q there_i there_j
      once_by i j other low_i high_i low_j high_j there_i there_j (inl p) (inr q) = absurd (apart i j other low_i p q high_j there_i there_j)
      once_by i j other low_i high_i low_j high_j there_i there_j (inr p) (inl q) = absurd (apart j i other low_j q p high_i there_j there_i)
      once_by i j other low_i high_i low_j high_j there_i there_j (inr p) (inr q) = omega (arith, high_i, high_j, p, q)

  -- a site that no point has
  pub skips_site : {from to site next : ℕ} → Leads from to (suc site) next → Leads from to site next
  skips_site {from} {to} {site} {next} made = record {
    order = made.order;
    counted = let counted = made.counted in omega (arith, counted);
    known = made.known;
    sites = λ number other low high there. let found = made.sites number other low high there in let over = found.0 in (omega (arith, over), found.1);
    once = made.once;
  }

  -- ---- spots

  pub moves : {at site : ℕ} {to : Spot} (mid : Spot) → to ≡ mid → Leads at mid.at site mid.counts.calls → Leads at to.at site to.counts.calls
  moves {at} {site} mid same made = subst (λ (spot : Spot). Leads at spot.at site spot.counts.calls) (sym same) made

  pub stays : (from to : Spot) → to ≡ from → Spans from to
  stays from to same = moves from same (nothing from.at from.counts.calls)

  pub point : (from : Spot) (op : Op) → HasOp points from.at op → site_of op ≡ None → Spans from (behind from)
  point from op stands is = plain from.at from.counts.calls op stands is

  pub emits : (from to : Spot) (op : Op) → Emits points op from to → site_of op ≡ None → Spans from to
  emits from to op code is = moves (behind from) code.1 (point from op code.0 is)

  pub emits_site : {at : ℕ} (from to : Spot) (site : ℕ) (op : Op) → Leads at from.at (suc site) from.counts.calls → Emits points op from to → site_of op ≡ Some site → CallsBelow count op
      → Leads at to.at site to.counts.calls
  emits_site from to site op made code is below = moves (behind from) code.1 (then_site site op made code.0 is below)

  pub gives_integer : (from to : Spot) (lowered : Lowered) (op : Register → Op) (int_type : IntType) → GivesInteger points op int_type from to lowered → site_of (op (temporary from)) ≡ None → Spans from to
  gives_integer from to lowered op int_type code is = moves (behind (with_temporary from)) code.1 (point from (op (temporary from)) code.0 is)

  pub gives_pointer : (from to : Spot) (lowered : Lowered) (op : Register → Op) (target : CType) → GivesPointer points op target from to lowered → site_of (op (expression from)) ≡ None → Spans from to
  gives_pointer from to lowered op target code is = moves (behind (with_expression from)) code.1 (point from (op (expression from)) code.0 is)
