-- The record that images show under a name.
use Rattle.std.proofs.Common.{◌≡◌, ◌≢◌, ◌||◌, ◌∙◌, ◌⊎◌, inl, inr, ℕ, Bool, true, false, cond, List, [], ◌∷◌, map, Option, Some, None, is_some, unwrap_or, option_and_then, refl, sym, ap, arith}
use Rattle.std.specs.Ordering.{nat_cmp, eq_by_cmp}
use Rattle.std.specs.Cmp.{nat_cmp_total}
use Rattle.std.specs.List.{list_any}
use Rattle.std.specs.FinMap.{get, insert, keys, get-empty, get-insert, contains_key-keys, same_map, nat_cmp-IsAntisymmetric}
use Rattle.std.proofs.lemmas.Bool.{cases_Bool, cases_eq, cond-true, cond-false, eqb-true, eq-eqb, false≢true, or_parts}
use Rattle.std.proofs.lemmas.Bool.Decides.{nat_tests}
use Rattle.pm3_types.specs.Fields.{Fields}
use Rattle.pm3_types.specs.Record.{Record}
use Rattle.pm3_types.specs.Shown.{Book, Images, is_name_of, address_among, address_of, names_of, put_some, gathered, object_at, seen, shown_records, IsOneToOne}

pub same_key : (q n : ℕ) → eq_by_cmp nat_cmp q n ≡ true → q ≡ n
same_key q n is = grind (arith, nat_tests)

pub key_same : (q : ℕ) → eq_by_cmp nat_cmp q q ≡ true
key_same q = grind (arith, nat_tests)

-- a choice that is the same on both sides
either : {A : Type 0} (b : Bool) (x : A) → cond b x x ≡ x
either true x = refl
either false x = refl

-- a gathered map has at each of its names what was gathered
pub get-gathered : (f : ℕ → Option Record) (ns : List ℕ) (q : ℕ) → get (gathered f ns) q ≡ cond (list_any (eq_by_cmp nat_cmp q) ns) (f q) None
get-gathered f [] q = get-empty nat_cmp q
get-gathered f (n ∷ ns) q = put (f n) refl (get-gathered f ns q)
  where
    put : (o : Option Record) → f n ≡ o → get (gathered f ns) q ≡ cond (list_any (eq_by_cmp nat_cmp q) ns) (f q) None
        → get (put_some (gathered f ns) n o) q ≡ cond (eq_by_cmp nat_cmp q n || list_any (eq_by_cmp nat_cmp q) ns) (f q) None
    put None is rest = elim (cases_Bool (eq_by_cmp nat_cmp q n)) [
      | inl same ↦ (let none : f q ≡ None = ap f (same_key q n same) ∙ is in
          rest ∙ ap (λ (o : Option Record). cond (list_any (eq_by_cmp nat_cmp q) ns) o None) none ∙ either (list_any (eq_by_cmp nat_cmp q) ns) None
          ∙ sym (ap (λ (b : Bool). cond (b || list_any (eq_by_cmp nat_cmp q) ns) (f q) None) same ∙ none))
      | inr other ↦ rest ∙ ap (λ (b : Bool). cond (b || list_any (eq_by_cmp nat_cmp q) ns) (f q) None) (sym other)
    ]
    put (Some r) is rest = get-insert nat_cmp_total (gathered f ns) n r q ∙ elim (cases_Bool (eq_by_cmp nat_cmp q n)) as (λ _. cond (eq_by_cmp nat_cmp q n) (Some r) (get (gathered f ns) q) ≡ cond (eq_by_cmp nat_cmp q n || list_any (eq_by_cmp nat_cmp q) ns) (f q) None) [
      | inl same ↦ cond-true (eq_by_cmp nat_cmp q n) _ _ same ∙ sym (ap f (same_key q n same) ∙ is)
          ∙ sym (ap (λ (b : Bool). cond (b || list_any (eq_by_cmp nat_cmp q) ns) (f q) None) same)
      | inr other ↦ cond-false (eq_by_cmp nat_cmp q n) _ _ other ∙ rest
          ∙ ap (λ (b : Bool). cond (b || list_any (eq_by_cmp nat_cmp q) ns) (f q) None) (sym other)
    ]

named : (o : Option ℕ) (n : ℕ) → is_name_of o n ≡ true → o ≡ Some n
named None n is = absurd (false≢true is)
named (Some m) n is = ap Some (eqb-true m n is)

-- a name that no address has is nobody's
nobody : (book : Book) (ks : List ℕ) (q : ℕ) → list_any (eq_by_cmp nat_cmp q) (map (λ a. unwrap_or (get book a) 0) ks) ≡ false → address_among book ks q ≡ None
nobody book [] q none = refl
nobody book (k ∷ ks) q none = elim (cases_Bool (is_name_of (get book k) q)) [
  | inl is ↦ absurd (false≢true (sym parts.0 ∙ ap (λ (o : Option ℕ). eq_by_cmp nat_cmp q (unwrap_or o 0)) (named (get book k) q is) ∙ key_same q))
  | inr other ↦ cond-false (is_name_of (get book k) q) _ _ other ∙ nobody book ks q parts.1
]
  where
    parts : (eq_by_cmp nat_cmp q (unwrap_or (get book k) 0) ≡ false) × (list_any (eq_by_cmp nat_cmp q) (map (λ a. unwrap_or (get book a) 0) ks) ≡ false)
    parts = or_parts _ _ none

-- some address is found for a name that one of these has
somebody : (book : Book) (ks : List ℕ) (a n : ℕ) → list_any (eq_by_cmp nat_cmp a) ks ≡ true → get book a ≡ Some n
    → (b : ℕ) × (address_among book ks n ≡ Some b) × (get book b ≡ Some n)
somebody book [] a n is has = absurd (false≢true is)
somebody book (k ∷ ks) a n is has = elim (cases_Bool (is_name_of (get book k) n)) [
  | inl here ↦ (k, cond-true (is_name_of (get book k) n) _ _ here, named (get book k) n here)
  | inr other ↦ (let more = somebody book ks a n (later other) has in (more.0, cond-false (is_name_of (get book k) n) _ _ other ∙ more.1, more.2))
]
  where
    later : is_name_of (get book k) n ≡ false → list_any (eq_by_cmp nat_cmp a) ks ≡ true
    later other = elim (cases_Bool (eq_by_cmp nat_cmp a k)) [
      | inl same ↦ absurd (false≢true (sym other ∙ ap (λ (b : ℕ). is_name_of (get book b) n) (sym (same_key a k same)) ∙ ap (λ (o : Option ℕ). is_name_of o n) has ∙ eq-eqb n n refl))
      | inr apart ↦ ap (λ (b : Bool). b || list_any (eq_by_cmp nat_cmp a) ks) (sym apart) ∙ is
    ]

-- the address that a book has under a name
pub address_is : (book : Book) (a n : ℕ) → IsOneToOne book → get book a ≡ Some n → address_of book n ≡ Some a
address_is book a n one has =
    let there : list_any (eq_by_cmp nat_cmp a) (keys book) ≡ true = sym (contains_key-keys {R = nat_cmp} book a) ∙ ap is_some has in
    let found = somebody book (keys book) a n there has in
    found.1 ∙ ap Some (one found.0 a n found.2 has)

address_has : (book : Book) (ks : List ℕ) (n b : ℕ) → address_among book ks n ≡ Some b → get book b ≡ Some n
address_has book [] n b is = absurd (cc)
address_has book (k ∷ ks) n b is = elim (cases_Bool (is_name_of (get book k) n)) [
  | inl here ↦ (let same : b ≡ k = cc (sym (cond-true (is_name_of (get book k) n) (Some k) (address_among book ks n) here) ∙ is) in ap (get book) same ∙ named (get book k) n here)
  | inr other ↦ address_has book ks n b (sym (cond-false (is_name_of (get book k) n) (Some k) (address_among book ks n) other) ∙ is)
]

module _ (catalog : List Fields) (base : ℕ) (book : Book) where
  -- what is shown under a name is what is seen there
  pub get-shown : (images : Images) (n : ℕ) → get (shown_records catalog base book images) n ≡ seen catalog base book images n
  get-shown images n = get-gathered (seen catalog base book images) (names_of book) n ∙ elim (cases_Bool (list_any (eq_by_cmp nat_cmp n) (names_of book))) as
      (λ _. cond (list_any (eq_by_cmp nat_cmp n) (names_of book)) (seen catalog base book images n) None ≡ seen catalog base book images n) [
        | inl is ↦ cond-true _ _ _ is
        | inr none ↦ cond-false _ _ _ none ∙ sym (ap (option_and_then (object_at book catalog base images)) (nobody book (keys book) n none))
      ]

  -- the object that the book has under a name is shown there
  pub shown_at : (images : Images) (a n : ℕ) → IsOneToOne book → get book a ≡ Some n → get (shown_records catalog base book images) n ≡ object_at book catalog base images a
  shown_at images a n one has = get-shown images n ∙ ap (option_and_then (object_at book catalog base images)) (address_is book a n one has)

  -- nothing else is shown
  pub shown_from : (images : Images) (n : ℕ) (r : Record) → get (shown_records catalog base book images) n ≡ Some r
      → (a : ℕ) × (get book a ≡ Some n) × (object_at book catalog base images a ≡ Some r)
  shown_from images n r is = from (address_of book n) refl
    where
      from : (o : Option ℕ) → address_of book n ≡ o → (a : ℕ) × (get book a ≡ Some n) × (object_at book catalog base images a ≡ Some r)
      from None none = absurd (cc (sym (ap (option_and_then (object_at book catalog base images)) none) ∙ sym (get-shown images n) ∙ is))
      from (Some a) found = (a, address_has book (keys book) n a found, sym (ap (option_and_then (object_at book catalog base images)) found) ∙ sym (get-shown images n) ∙ is)

  -- images that agree at the book's addresses show the same
  pub shown_alike : (images now : Images) → ((a n : ℕ) → get book a ≡ Some n → object_at book catalog base now a ≡ object_at book catalog base images a)
      → shown_records catalog base book now ≡ shown_records catalog base book images
  shown_alike images now alike = same_map nat_cmp_total nat_cmp-IsAntisymmetric _ _ (λ n. get-shown now n ∙ at n (address_of book n) refl ∙ sym (get-shown images n))
    where
      at : (n : ℕ) (o : Option ℕ) → address_of book n ≡ o → seen catalog base book now n ≡ seen catalog base book images n
      at n None none = ap (option_and_then (object_at book catalog base now)) none ∙ sym (ap (option_and_then (object_at book catalog base images)) none)
      at n (Some a) found =
          ap (option_and_then (object_at book catalog base now)) found ∙ alike a n (address_has book (keys book) n a found)
          ∙ sym (ap (option_and_then (object_at book catalog base images)) found)

  -- images that differ in one object show another record there alone
  pub shown_changed : (images now : Images) (a n : ℕ) (r : Record) → IsOneToOne book → get book a ≡ Some n → object_at book catalog base now a ≡ Some r
      → ((b m : ℕ) → get book b ≡ Some m → b ≢ a → object_at book catalog base now b ≡ object_at book catalog base images b)
      → shown_records catalog base book now ≡ insert (shown_records catalog base book images) n r
  shown_changed images now a n r one has is others =
      same_map nat_cmp_total nat_cmp-IsAntisymmetric _ _ (λ q. get-shown now q ∙ at q (cases_eq q n) ∙ sym (get-insert nat_cmp_total (shown_records catalog base book images) n r q))
    where
      other : (q : ℕ) (o : Option ℕ) → q ≢ n → address_of book q ≡ o → seen catalog base book now q ≡ seen catalog base book images q
      other q None apart none = ap (option_and_then (object_at book catalog base now)) none ∙ sym (ap (option_and_then (object_at book catalog base images)) none)
      other q (Some b) apart found =
          let named_q : get book b ≡ Some q = address_has book (keys book) q b found in
          let away : b ≢ a = λ e. apart (cc (sym named_q ∙ ap (get book) e ∙ has)) in
          ap (option_and_then (object_at book catalog base now)) found ∙ others b q named_q away
          ∙ sym (ap (option_and_then (object_at book catalog base images)) found)

      at : (q : ℕ) → (q ≡ n) ⊎ (q ≡ n → ⊥) → seen catalog base book now q ≡ cond (eq_by_cmp nat_cmp q n) (Some r) (get (shown_records catalog base book images) q)
      at q (inl e) =
          ap (seen catalog base book now) e ∙ ap (option_and_then (object_at book catalog base now)) (address_is book a n one has) ∙ is
          ∙ sym (cond-true (eq_by_cmp nat_cmp q n) _ _ (ap (λ (m : ℕ). eq_by_cmp nat_cmp m n) e ∙ key_same n))
      at q (inr apart) =
          other q (address_of book q) apart refl ∙ sym (get-shown images q)
          ∙ sym (cond-false (eq_by_cmp nat_cmp q n) _ _ (unlike (cases_Bool (eq_by_cmp nat_cmp q n))))
        where
          unlike : (eq_by_cmp nat_cmp q n ≡ true) ⊎ (eq_by_cmp nat_cmp q n ≡ false) → eq_by_cmp nat_cmp q n ≡ false
          unlike (inl same) = absurd (apart (same_key q n same))
          unlike (inr other_) = other_
