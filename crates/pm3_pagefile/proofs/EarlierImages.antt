-- How many images stand before a page.
use Rattle.std.proofs.Common.{◌≡◌, ⊎_elim, ℕ, ◌+◌, ◌<◌, ◌≤◌, Bool, true, false, cond, ltb, List, [], ◌∷◌, Some, refl, sym, ◌∙◌, arith}
use Rattle.std.specs.FinMap as map
use Rattle.std.specs.FinMap.{find, get-entries, len-entries}
use Rattle.std.specs.List.{count_by}
use Rattle.std.specs.Ordering.{eq_by_cmp, nat_cmp}
use Rattle.std.proofs.lemmas.Bool.{cases_lt, lt-ltb, le-ltb, cond-true, cond-false}
use Rattle.std.proofs.lemmas.List.Sums.{count_by-le-length, sum_by-cons}
use Rattle.pm3_types.specs.Layout.{PageImage}
use Rattle.pm3_types.proofs.Books.{same_key}
use Rattle.pm3_page.specs.PageMap.{Images}

-- those of a list of entries
abbrev earlier : ℕ → List (ℕ × PageImage) → ℕ
earlier n es = count_by (λ (e : ℕ × PageImage). ltb e.0 n) es

-- the images of pages below a number
abbrev pub images_before : ℕ → Images → ℕ
images_before n images = earlier n (map.entries images)

-- one entry counts for 1 or 0
abbrev counts : ℕ → ℕ → ℕ
counts n k = cond (ltb k n) 1 0

counted : (n k : ℕ) → k < n → counts n k ≡ 1
counted n k low = cond-true (ltb k n) 1 0 (lt-ltb k n low)

not_counted : (n k : ℕ) → n ≤ k → counts n k ≡ 0
not_counted n k high = cond-false (ltb k n) 1 0 (le-ltb k n high)

counts_rise : (n m k : ℕ) → n ≤ m → counts n k ≤ counts m k
counts_rise n m k above = ⊎_elim (λ low. let a = counted n k low in let b = counted m k (omega arith) in omega (arith, a, b)) (λ high. let a = not_counted n k high in omega (arith, a)) (cases_lt k n)

one_more : (n : ℕ) (e : ℕ × PageImage) (es : List (ℕ × PageImage)) → earlier n (e ∷ es) ≡ counts n e.0 + earlier n es
one_more n e es = sum_by-cons (λ (e : ℕ × PageImage). counts n e.0) e es

earlier_rises : (n m : ℕ) → n ≤ m → (es : List (ℕ × PageImage)) → earlier n es ≤ earlier m es
earlier_rises n m above [] = omega arith
earlier_rises n m above (e ∷ es) =
    let rest = earlier_rises n m above es in
    let here = counts_rise n m e.0 above in
    omega (arith, one_more n e es, one_more m e es, rest, here)

-- an entry that is found from a number on is one more
found_later : (n q : ℕ) (x : PageImage) → n ≤ q → (es : List (ℕ × PageImage)) → find nat_cmp q es ≡ Some x → earlier n es + 1 ≤ earlier (q + 1) es
found_later n q x reached [] never = absurd (cc never)
found_later n q x reached (e ∷ es) is = there (eq_by_cmp nat_cmp q e.0) refl is (found_later n q x reached es)
  where
    there : (b : Bool) → eq_by_cmp nat_cmp q e.0 ≡ b → cond b (Some e.1) (find nat_cmp q es) ≡ Some x → (find nat_cmp q es ≡ Some x → earlier n es + 1 ≤ earlier (q + 1) es)
        → earlier n (e ∷ es) + 1 ≤ earlier (q + 1) (e ∷ es)
    there true tied _ _ =
        let same : q ≡ e.0 = same_key q e.0 tied in
        let rest = earlier_rises n (q + 1) (omega arith) es in
        let before = not_counted n e.0 (omega arith) in
        let after = counted (q + 1) e.0 (omega arith) in
        omega (arith, one_more n e es, one_more (q + 1) e es, rest, before, after)
    there false _ later more =
        let rest = more later in
        let here = counts_rise n (q + 1) e.0 (omega arith) in
        omega (arith, one_more n e es, one_more (q + 1) e es, rest, here)

-- the image of a page is one more
one_image_more : (images : Images) (start page : ℕ) (image : PageImage) → start ≤ page → map.get images page ≡ Some image
    → images_before start images + 1 ≤ images_before (page + 1) images
one_image_more images start page image reached is = found_later start page image reached (map.entries images) (sym (get-entries images page) ∙ is)

-- there are no more than all
within_all : (images : Images) (n : ℕ) → images_before n images ≤ map.len images
within_all images n = omega (arith, count_by-le-length (λ (e : ℕ × PageImage). ltb e.0 n) (map.entries images), len-entries images)

-- a call more, for the image of a page
pub one_call_more : (images : Images) (start page first was now : ℕ) (image : PageImage) → start ≤ page → map.get images page ≡ Some image
    → was ≤ first + images_before start images → now ≤ was + 1 → now ≤ first + images_before (page + 1) images
one_call_more images start page first was now image reached is so_far one =
    let more = one_image_more images start page image reached is in
    omega (arith, more, so_far, one)

-- a call for each image, and no more
pub calls_in_all : (images : Images) (n first now : ℕ) → now ≤ first + images_before n images → now ≤ first + map.len images
calls_in_all images n first now so_far = omega (arith, within_all images n, so_far)

-- also where the last of them failed
pub calls_until : (images : Images) (start page first was now : ℕ) (image : PageImage) → start ≤ page → map.get images page ≡ Some image
    → was ≤ first + images_before start images → now ≤ was + 1 → now ≤ first + map.len images
calls_until images start page first was now image reached is so_far one =
    calls_in_all images (page + 1) first now (one_call_more images start page first was now image reached is so_far one)
