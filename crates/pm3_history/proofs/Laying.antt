-- Look-ups in maps that are laid over one another or cut.
use Rattle.std.proofs.Common.{◌≡◌, ◌∙◌, ◌⊎◌, inl, inr, ℕ, Bool, true, false, not, cond, List, [], ◌∷◌, Option, Some, None, is_some, refl, sym, ap}
use Rattle.std.specs.Option.{option_or}
use Rattle.std.specs.Ordering.{nat_cmp, eq_by_cmp}
use Rattle.std.specs.Cmp.{nat_cmp_total}
use Rattle.std.specs.FinMap.{FinMap, get, entries, find, contains_key, get-entries, get-insert, get-retain_keys, nat_cmp-IsAntisymmetric}
use Rattle.pm3_types.specs.Layout.{page_in}
use Rattle.pm3_types.specs.Shown.{Book}
use Rattle.pm3_history.specs.Laid.{with_entries, laid, where_number, without}
use Rattle.pm3_history.specs.Named.{off_pages}

pub some_of : {A : Type 0} (o : Option A) → is_some o ≡ true → (x : A) × (o ≡ Some x)
some_of None is = absurd (cc)
some_of (Some x) is = (x, refl)

pub none_of : {A : Type 0} (o : Option A) → is_some o ≡ false → o ≡ None
none_of None is = refl
none_of (Some x) is = absurd (cc)

pub some_none : {A : Type 0} (o : Option A) (x : A) → o ≡ Some x → o ≡ None → ⊥
some_none o x is none = cc (is, none)

pub there_none : {A : Type 0} (o : Option A) → is_some o ≡ true → o ≡ None → ⊥
there_none None there none = cc
there_none (Some x) there none = cc

-- an option that has no value is none
pub none_if : {A : Type 0} (o : Option A) → ((x : A) → o ≡ Some x → ⊥) → o ≡ None
none_if None never = refl
none_if (Some x) never = absurd (never x refl)

pub one_value : {A : Type 0} (o : Option A) (x y : A) → o ≡ Some x → o ≡ Some y → x ≡ y
one_value o x y is also = cc (is, also)

module _ {X : Type 0} where
  or_cond : (b : Bool) (x : X) (o p : Option X) → cond b (Some x) (option_or o p) ≡ option_or (cond b (Some x) o) p
  or_cond true x o p = refl
  or_cond false x o p = refl

  get-with_entries : (m : FinMap nat_cmp X) (es : List (ℕ × X)) (q : ℕ) → get (with_entries m es) q ≡ option_or (find nat_cmp q es) (get m q)
  get-with_entries m [] q = refl
  get-with_entries m (e ∷ es) q =
      get-insert nat_cmp_total (with_entries m es) e.0 e.1 q
      ∙ ap (cond (eq_by_cmp nat_cmp q e.0) (Some e.1)) (get-with_entries m es q)
      ∙ or_cond (eq_by_cmp nat_cmp q e.0) e.1 (find nat_cmp q es) (get m q)

  pub get-laid : (m more : FinMap nat_cmp X) (q : ℕ) → get (laid m more) q ≡ option_or (get more q) (get m q)
  get-laid m more q =
      get-with_entries m (entries more) q ∙ ap (λ (o : Option X). option_or o (get m q)) (sym (get-entries more q))

  pub laid_above : (m more : FinMap nat_cmp X) (q : ℕ) (x : X) → get more q ≡ Some x → get (laid m more) q ≡ Some x
  laid_above m more q x is = get-laid m more q ∙ ap (λ (o : Option X). option_or o (get m q)) is

  pub laid_below : (m more : FinMap nat_cmp X) (q : ℕ) → get more q ≡ None → get (laid m more) q ≡ get m q
  laid_below m more q none = get-laid m more q ∙ ap (λ (o : Option X). option_or o (get m q)) none

  or_cases : (o p : Option X) (x : X) → option_or o p ≡ Some x → (o ≡ Some x) ⊎ ((o ≡ None) × (p ≡ Some x))
  or_cases None p x is = inr (refl, is)
  or_cases (Some y) p x is = inl is

  pub laid_cases : (m more : FinMap nat_cmp X) (q : ℕ) (x : X) → get (laid m more) q ≡ Some x
      → (get more q ≡ Some x) ⊎ ((get more q ≡ None) × (get m q ≡ Some x))
  laid_cases m more q x is = or_cases (get more q) (get m q) x (sym (get-laid m more q) ∙ is)

  or_none : (o p : Option X) → option_or o p ≡ None → (o ≡ None) × (p ≡ None)
  or_none None p is = (refl, is)
  or_none (Some y) p is = absurd (cc)

  pub laid_none : (m more : FinMap nat_cmp X) (q : ℕ) → get (laid m more) q ≡ None → (get more q ≡ None) × (get m q ≡ None)
  laid_none m more q is = or_none (get more q) (get m q) (sym (get-laid m more q) ∙ is)

  or_some : (o p : Option X) → is_some p ≡ true → is_some (option_or o p) ≡ true
  or_some None p is = is
  or_some (Some y) p is = refl

  -- what m has stays where more is laid over it
  pub laid_still : (m more : FinMap nat_cmp X) (q : ℕ) → is_some (get m q) ≡ true → is_some (get (laid m more) q) ≡ true
  laid_still m more q is = ap is_some (get-laid m more q) ∙ or_some (get more q) (get m q) is

  get-where : (m : FinMap nat_cmp X) (passes : ℕ → Bool) (q : ℕ) → get (where_number m passes) q ≡ cond (passes q) (get m q) None
  get-where m passes q = get-retain_keys m passes q (λ k same. ap passes (sym (nat_cmp-IsAntisymmetric q k same)))

  cond_cases : (b : Bool) (o : Option X) (x : X) → cond b o None ≡ Some x → (b ≡ true) × (o ≡ Some x)
  cond_cases true o x is = (refl, is)
  cond_cases false o x is = absurd (cc)

  pub where_keeps : (m : FinMap nat_cmp X) (passes : ℕ → Bool) (q : ℕ) → passes q ≡ true → get (where_number m passes) q ≡ get m q
  where_keeps m passes q is = get-where m passes q ∙ ap (λ (b : Bool). cond b (get m q) None) is

  pub where_cases : (m : FinMap nat_cmp X) (passes : ℕ → Bool) (q : ℕ) (x : X) → get (where_number m passes) q ≡ Some x
      → (passes q ≡ true) × (get m q ≡ Some x)
  where_cases m passes q x is = cond_cases (passes q) (get m q) x (sym (get-where m passes q) ∙ is)

  where_gone : (m : FinMap nat_cmp X) (passes : ℕ → Bool) (q : ℕ) → passes q ≡ false → get (where_number m passes) q ≡ None
  where_gone m passes q is = get-where m passes q ∙ ap (λ (b : Bool). cond b (get m q) None) is

not_there : {Y : Type 0} (o : Option Y) → not (is_some o) ≡ true → o ≡ None
not_there None is = refl
not_there (Some y) is = absurd (cc)

if_not : {X : Type 0} (b : Bool) (o : Option X) → cond (not b) o None ≡ cond b None o
if_not true o = refl
if_not false o = refl

module _ {X Y : Type 0} where
  pub get-without : (m : FinMap nat_cmp X) (gone : FinMap nat_cmp Y) (q : ℕ) → get (without m gone) q ≡ cond (contains_key gone q) None (get m q)
  get-without m gone q = get-where m (λ n. not (contains_key gone n)) q ∙ if_not (contains_key gone q) (get m q)

  pub without_keeps : (m : FinMap nat_cmp X) (gone : FinMap nat_cmp Y) (q : ℕ) → get gone q ≡ None → get (without m gone) q ≡ get m q
  without_keeps m gone q none = where_keeps m (λ n. not (contains_key gone n)) q (ap (λ (o : Option Y). not (is_some o)) none)

  pub without_cases : (m : FinMap nat_cmp X) (gone : FinMap nat_cmp Y) (q : ℕ) (x : X) → get (without m gone) q ≡ Some x
      → (get gone q ≡ None) × (get m q ≡ Some x)
  without_cases m gone q x is =
      let parts = where_cases m (λ n. not (contains_key gone n)) q x is in (not_there (get gone q) parts.0, parts.1)

  pub without_none : (m : FinMap nat_cmp X) (gone : FinMap nat_cmp Y) (q : ℕ) → contains_key gone q ≡ true → get (without m gone) q ≡ None
  without_none m gone q is = where_gone m (λ n. not (contains_key gone n)) q (ap not is)

module _ {Y : Type 0} (base : ℕ) (book : Book) (pages : FinMap nat_cmp Y) where
  pub off_keeps : (a : ℕ) → get pages (page_in base a) ≡ None → get (off_pages base book pages) a ≡ get book a
  off_keeps a none = where_keeps book (λ b. not (contains_key pages (page_in base b))) a (ap (λ (o : Option Y). not (is_some o)) none)

  pub off_cases : (a n : ℕ) → get (off_pages base book pages) a ≡ Some n → (get pages (page_in base a) ≡ None) × (get book a ≡ Some n)
  off_cases a n is =
      let parts = where_cases book (λ b. not (contains_key pages (page_in base b))) a n is in (not_there (get pages (page_in base a)) parts.0, parts.1)
