-- Pages of rising numbers.
use Rattle.std.proofs.Common.{◌≡◌, ⊎_elim, ◌+◌, ◌<◌, ◌≤◌, ◌==◌, if◌then◌else◌, ◌||◌, ℕ, suc, zero, Bool, true, false, is_some, List, [], ◌∷◌, ◌++◌, length, get_or, Option, Some, None, refl, ◌∙◌, ap, arith}
use Rattle.std.proofs.lemmas.Bool.{cases_lt, eq-eqb, ne_eqb}
use Rattle.std.proofs.lemmas.List.{get_or_append_left, get_or_push, length_push}
use Rattle.pm3_journal.specs.Pages.{page_at, IsRising, AreBelow, image_of}

module _ (items : List (ℕ × List ℕ)) (page : ℕ) (image : List ℕ) where
  old_page : (i : ℕ) → i < length items → page_at (items ++ (page, image) ∷ []) i ≡ page_at items i
  old_page i within = ap (λ (x : ℕ × List ℕ). x.0) (get_or_append_left items ((page, image) ∷ []) (0, []) i within)

  new_page : page_at (items ++ (page, image) ∷ []) (length items) ≡ page
  new_page = ap (λ (x : ℕ × List ℕ). x.0) (get_or_push items (page, image) (0, []) (length items) refl)

  -- one page more, above the others
  pub rising_push : IsRising items → AreBelow page items → IsRising (items ++ (page, image) ∷ [])
  rising_push rising below i j before within = ⊎_elim among last (cases_lt j (length items))
    where
      among : j < length items → page_at (items ++ (page, image) ∷ []) i < page_at (items ++ (page, image) ∷ []) j
      among less = omega (arith, old_page i (omega arith), old_page j less, rising i j before less)

      last : length items ≤ j → page_at (items ++ (page, image) ∷ []) i < page_at (items ++ (page, image) ∷ []) j
      last no_less =
          let here : j ≡ length items = omega (arith, length_push items (page, image)) in
          omega (arith, old_page i (omega arith), new_page, ap (page_at (items ++ (page, image) ∷ [])) here, below i (omega arith))

  -- all are below the next number
  pub below_push : AreBelow page items → AreBelow (page + 1) (items ++ (page, image) ∷ [])
  below_push below i within = ⊎_elim among last (cases_lt i (length items))
    where
      among : i < length items → page_at (items ++ (page, image) ∷ []) i < page + 1
      among less = omega (arith, old_page i less, below i less)

      last : length items ≤ i → page_at (items ++ (page, image) ∷ []) i < page + 1
      last no_less =
          let here : i ≡ length items = omega (arith, length_push items (page, image)) in
          omega (arith, new_page, ap (page_at (items ++ (page, image) ∷ [])) here)

pub below_more : (items : List (ℕ × List ℕ)) (page : ℕ) → AreBelow page items → AreBelow (page + 1) items
below_more items page below i within = omega (arith, below i within)

if_other : (first page : ℕ) (image : List ℕ) (rest : Option (List ℕ)) → (first ≡ page → ⊥) → (if first == page then Some image else rest) ≡ rest
if_other first page image rest differ = ap (λ (b : Bool). if b then Some image else rest) (ne_eqb first page differ)

if_same : (first page : ℕ) (image : List ℕ) (rest : Option (List ℕ)) → first ≡ page → (if first == page then Some image else rest) ≡ Some image
if_same first page image rest same = ap (λ (b : Bool). if b then Some image else rest) (eq-eqb first page same)

-- no page has the number
pub image_missing : (page : ℕ) (items : List (ℕ × List ℕ)) → ((i : ℕ) → i < length items → page_at items i ≡ page → ⊥) → image_of page items ≡ None
image_missing page [] differ = refl
image_missing page (item ∷ items) differ =
    let first : 0 < suc (length items) = omega arith in
    if_other item.0 page item.1 (image_of page items) (differ 0 first) ∙ image_missing page items (λ i within. let more : suc i < suc (length items) = omega arith in differ (suc i) more)

-- the page at an index has it
pub image_found : (page i : ℕ) (items : List (ℕ × List ℕ)) → IsRising items → i < length items → page_at items i ≡ page → image_of page items ≡ Some ((get_or items i (0, [])).1)
image_found page i [] rising within here = absurd (omega arith)
image_found page zero (item ∷ items) rising within here = if_same item.0 page item.1 (image_of page items) here
image_found page (suc i) (item ∷ items) rising within here =
    let order : item.0 < page_at items i = rising 0 (suc i) (omega arith) within in
    let less : i < length items = omega arith in
    if_other item.0 page item.1 (image_of page items) (λ same. omega (arith, order, same, here)) ∙ image_found page i items (λ a b before within_b. let one : suc a < suc b = omega arith in let two : suc b < suc (length items) = omega arith in rising (suc a) (suc b) one two) less here

-- the pages before one index are below the number, and those from another on are above it
pub image_between : (page low high : ℕ) (items : List (ℕ × List ℕ)) → high ≤ low → ((i : ℕ) → i < low → page_at items i < page) → ((i : ℕ) → high ≤ i → i < length items → page < page_at items i) → image_of page items ≡ None
image_between page low high items met below above = image_missing page items (λ i within same. ⊎_elim (λ less. omega (arith, below i less, same)) (λ no_less. omega (arith, above i (omega arith) within, same)) (cases_lt i low))

-- whether a page has an image, once one more is put behind the others
pub image_pushed : (q page : ℕ) (image : List ℕ) (items : List (ℕ × List ℕ)) → is_some (image_of q (items ++ (page, image) ∷ [])) ≡ (is_some (image_of q items) || (page == q))
image_pushed q page image [] = alone (page == q)
  where
    alone : (b : Bool) → is_some (if b then Some image else None) ≡ b
    alone true = refl
    alone false = refl
image_pushed q page image (item ∷ items) = among (item.0 == q) (image_of q (items ++ (page, image) ∷ [])) (image_of q items) (image_pushed q page image items)
  where
    among : (b : Bool) (now was : Option (List ℕ)) → is_some now ≡ (is_some was || (page == q)) → is_some (if b then Some item.1 else now) ≡ (is_some (if b then Some item.1 else was) || (page == q))
    among true now was is = refl
    among false now was is = is
