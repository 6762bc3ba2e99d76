-- The book of what lies on images has addresses on their pages alone.
use Rattle.std.proofs.Common.{◌≡◌, ◌<◌, ◌≤◌, ◌+◌, ◌∙◌, inl, inr, ℕ, zero, suc, Bool, true, false, cond, List, [], ◌∷◌, ◌++◌, Option, Some, None, is_some, refl, sym, ap, arith, subst}
use Rattle.std.specs.Prelude.{slice_index}
use Rattle.std.specs.List.{flat_map, range_with_len}
use Rattle.std.specs.Ordering.{nat_cmp, eq_by_cmp}
use Rattle.std.specs.Cmp.{nat_cmp_total}
use Rattle.std.specs.FinMap.{get, keys, find, get-from_entries}
use Rattle.std.proofs.lemmas.Bool.{cases_Bool, cond-false}
use Rattle.pm3_types.specs.Layout.{Sheet, address, page_in, is_unmoved}
use Rattle.pm3_types.specs.Shown.{Images}
use Rattle.pm3_types.proofs.Addressing.{page_in-address}
use Rattle.pm3_types.proofs.Books.{same_key}
use Rattle.pm3_history.specs.Named.{named_at, named_on, named_in, book_of}

module _ (P : ℕ → Type 0) where
  abbrev AllKeys : List (ℕ × ℕ) → Type 0
  AllKeys [] = Unit {0}
  AllKeys (e ∷ es) = P e.0 × AllKeys es

  all_append : (es fs : List (ℕ × ℕ)) → AllKeys es → AllKeys fs → AllKeys (es ++ fs)
  all_append [] fs all also = also
  all_append (e ∷ es) fs all also = (all.0, all_append es fs all.1 also)

  found : (q n : ℕ) (es : List (ℕ × ℕ)) → AllKeys es → find nat_cmp q es ≡ Some n → P q
  found q n [] all is = absurd (cc is)
  found q n (e ∷ es) all is = elim (cases_Bool (eq_by_cmp nat_cmp q e.0)) [
    | inl same ↦ subst P (sym (same_key q e.0 same)) all.0
    | inr other ↦ found q n es all.1 (sym (cond-false (eq_by_cmp nat_cmp q e.0) (Some e.1) (find nat_cmp q es) other) ∙ is)
  ]

  one_key : (b : Bool) (k n : ℕ) → P k → AllKeys (cond b ((k, n) ∷ []) [])
  one_key true k n is = (is, tt)
  one_key false k n is = tt

  on_words : (base page : ℕ) (sheet : Sheet) → ((at : ℕ) → at < 512 → P (address base page at)) → (k at : ℕ) → at + k ≤ 512
      → AllKeys (flat_map (named_at base page sheet) (range_with_len at k))
  on_words base page sheet there zero at low = tt
  on_words base page sheet there (suc k) at low =
      all_append (named_at base page sheet at) (flat_map (named_at base page sheet) (range_with_len (at + 1) k))
      (one_key (is_unmoved sheet at) (address base page at) (slice_index sheet.words (at + 1)) (there at (omega arith)))
      (on_words base page sheet there k (at + 1) (omega arith))

  on_page : (base page : ℕ) (o : Option Sheet) → ((at : ℕ) → at < 512 → is_some o ≡ true → P (address base page at)) → AllKeys (named_on base page o)
  on_page base page None there = tt
  on_page base page (Some sheet) there = on_words base page sheet (λ at low. there at low refl) 512 0 (omega arith)

  on_pages : (base : ℕ) (images : Images) → ((page at : ℕ) → at < 512 → is_some (get images page) ≡ true → P (address base page at)) → (ks : List ℕ)
      → AllKeys (flat_map (λ page. named_on base page (get images page)) ks)
  on_pages base images there [] = tt
  on_pages base images there (k ∷ ks) =
      all_append (named_on base k (get images k)) (flat_map (λ page. named_on base page (get images page)) ks)
      (on_page base k (get images k) (there k)) (on_pages base images there ks)

pub book_of_on : (base : ℕ) (images : Images) (a n : ℕ) → get (book_of base images) a ≡ Some n → is_some (get images (page_in base a)) ≡ true
book_of_on base images a n is =
    found (λ b. is_some (get images (page_in base b)) ≡ true) a n (named_in base images)
    (on_pages (λ b. is_some (get images (page_in base b)) ≡ true) base images
    (λ page at low there. ap (λ (q : ℕ). is_some (get images q)) (page_in-address base page at low) ∙ there) (keys images))
    (sym (get-from_entries nat_cmp_total (named_in base images) a) ∙ is)
