-- One page changed in one object.
use Rattle.std.proofs.Common.{◌≡◌, ◌≢◌, ◌<◌, ◌∙◌, inl, inr, ℕ, true, false, cond, List, Option, Some, None, refl, sym, ap}
use Rattle.std.specs.Ordering.{nat_cmp, eq_by_cmp}
use Rattle.std.specs.Cmp.{nat_cmp_total}
use Rattle.std.specs.FinMap.{get, insert, get-insert}
use Rattle.std.proofs.lemmas.Bool.{cases_Bool, cases_eq, cond-true, cond-false}
use Rattle.pm3_types.specs.Fields.{Fields}
use Rattle.pm3_types.specs.Record.{Record}
use Rattle.pm3_types.specs.Layout.{Sheet, address, page_in, word_in, is_address}
use Rattle.pm3_types.specs.Shown.{Book, Images, object_in, object_at, shown_records, IsOneToOne}
use Rattle.pm3_types.proofs.Addressing as addressing
use Rattle.pm3_types.proofs.Books.{same_key, key_same, shown_changed}

get_same : (images : Images) (p : ℕ) (sheet : Sheet) → get (insert images p sheet) p ≡ Some sheet
get_same images p sheet = get-insert nat_cmp_total images p sheet p ∙ cond-true (eq_by_cmp nat_cmp p p) _ _ (key_same p)

get_other : (images : Images) (p q : ℕ) (sheet : Sheet) → q ≢ p → get (insert images p sheet) q ≡ get images q
get_other images p q sheet apart = get-insert nat_cmp_total images p sheet q ∙ elim (cases_Bool (eq_by_cmp nat_cmp q p)) as
    (λ _. cond (eq_by_cmp nat_cmp q p) (Some sheet) (get images q) ≡ get images q) [
      | inl same ↦ absurd (apart (same_key q p same))
      | inr other ↦ cond-false _ _ _ other
    ]

module _ (catalog : List Fields) (base : ℕ) (book : Book) where
  -- the object at an address, from its page
  here : (images : Images) (a : ℕ) (o : Option Sheet) → is_address base a ≡ true → get images (page_in base a) ≡ o
      → object_at book catalog base images a ≡ object_in book catalog o (word_in base a)
  here images a o is on =
      cond-true (is_address base a) _ None is ∙ ap (λ (s : Option Sheet). object_in book catalog s (word_in base a)) on

  nowhere : (images : Images) (a : ℕ) → is_address base a ≡ false → object_at book catalog base images a ≡ None
  nowhere images a is = cond-false (is_address base a) _ None is

  -- the images with another sheet, on which one object is another
  pub one_object : (images : Images) (p at n : ℕ) (sheet now : Sheet) (r : Record) → IsOneToOne book → at < 512 → get images p ≡ Some sheet
      → get book (address base p at) ≡ Some n → ((t : ℕ) → t ≢ at → object_in book catalog (Some now) t ≡ object_in book catalog (Some sheet) t)
      → object_in book catalog (Some now) at ≡ Some r
      → shown_records catalog base book (insert images p now) ≡ insert (shown_records catalog base book images) n r
  one_object images p at n sheet now r one low on has others is =
      shown_changed catalog base book images (insert images p now) (address base p at) n r one has changed same
    where
      page : page_in base (address base p at) ≡ p
      page = addressing.page_in-address base p at low

      word : word_in base (address base p at) ≡ at
      word = addressing.word_in-address base p at low

      changed : object_at book catalog base (insert images p now) (address base p at) ≡ Some r
      changed =
          here (insert images p now) (address base p at) (Some now) (addressing.is_address-address base p at) (ap (get (insert images p now)) page ∙ get_same images p now)
          ∙ ap (object_in book catalog (Some now)) word ∙ is

      on_page : (b : ℕ) → b ≢ address base p at → is_address base b ≡ true → page_in base b ≡ p
          → object_at book catalog base (insert images p now) b ≡ object_at book catalog base images b
      on_page b apart is_ e =
          let away : word_in base b ≢ at = λ f. apart (sym (addressing.address_of base b is_) ∙ ap (λ (q : ℕ). address base q (word_in base b)) e ∙ ap (address base p) f) in
          here (insert images p now) b (Some now) is_ (ap (get (insert images p now)) e ∙ get_same images p now)
          ∙ others (word_in base b) away
          ∙ sym (here images b (Some sheet) is_ (ap (get images) e ∙ on))

      same : (b m : ℕ) → get book b ≡ Some m → b ≢ address base p at → object_at book catalog base (insert images p now) b ≡ object_at book catalog base images b
      same b m named apart = elim (cases_Bool (is_address base b)) [
        | inr none ↦ nowhere (insert images p now) b none ∙ sym (nowhere images b none)
        | inl is_ ↦ elim (cases_eq (page_in base b) p) [
          | inl e ↦ on_page b apart is_ e
          | inr off ↦ here (insert images p now) b (get images (page_in base b)) is_ (get_other images p (page_in base b) now off)
              ∙ sym (here images b (get images (page_in base b)) is_ refl)
        ]
      ]
