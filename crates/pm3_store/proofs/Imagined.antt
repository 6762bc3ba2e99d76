-- Each page file has the images that are read of it.
use Rattle.std.proofs.Common.{◌≡◌, ◌≢◌, ◌+◌, ◌-◌, ◌<◌, ◌≤◌, ℕ, zero, suc, cond, List, Some, None, Ok, Err, refl, sym, ◌∙◌, ap, inl, inr, arith}
use Rattle.std.proofs.lemmas.Bool.{cases_eq, cases_lt, eq-eqb, ne_eqb}
use Rattle.std.specs.Ordering.{nat_cmp}
use Rattle.std.specs.Cmp.{nat_cmp_total, unsigned_tied}
use Rattle.std.specs.FinMap.{get, insert, empty, get-empty, get-insert}
use Rattle.pm3_types.specs.Fields.{Fields}
use Rattle.pm3_types.specs.Layout.{Sheet}
use Rattle.pm3_types.specs.Shown.{Images}
use Rattle.pm3_page.specs.PageBytes.{page_read}
use Rattle.pm3_page.specs.Scan.{Read}
use Rattle.pm3_journal.specs.Format.{JournalRecord}
use Rattle.pm3_journal.specs.Opening.{AreImagesOf, page_bytes}

put : Images → ℕ → Read → Images
put images page (Ok sheet) = insert images page sheet
put images page (Err word) = images

-- the sheets of so many pages from page 2 on
made : (ℕ → Read) → ℕ → Images
made read zero = empty
made read (suc n) = put (made read n) (n + 2) (read (n + 2))

get_here : (m : Images) (k : ℕ) (v : Sheet) (q : ℕ) → q ≡ k → get (insert m k v) q ≡ Some v
get_here m k v q is = get-insert nat_cmp_total m k v q ∙ ap (λ b. cond b (Some v) (get m q)) (unsigned_tied q k ∙ eq-eqb q k is)

get_else : (m : Images) (k : ℕ) (v : Sheet) (q : ℕ) → q ≢ k → get (insert m k v) q ≡ get m q
get_else m k v q ne = get-insert nat_cmp_total m k v q ∙ ap (λ b. cond b (Some v) (get m q)) (unsigned_tied q k ∙ ne_eqb q k ne)

put_else : (m : Images) (k q : ℕ) (r : Read) → q ≢ k → get (put m k r) q ≡ get m q
unfolding put
put_else m k q (Ok sheet) ne = get_else m k sheet q ne
put_else m k q (Err word) ne = refl

put_here : (m : Images) (k q : ℕ) (sheet : Sheet) (r : Read) → get m q ≡ None → q ≡ k → get (put m k r) q ≡ Some sheet → r ≡ Ok sheet
unfolding put
put_here m k q sheet (Ok own) none same is =
    let owns : own ≡ sheet = cc (sym (get_here m k own q same) ∙ is) in
    ap Ok owns
put_here m k q sheet (Err word) none same is = absurd (cc (sym none ∙ is))

put_there : (m : Images) (k q : ℕ) (sheet : Sheet) (r : Read) → q ≡ k → r ≡ Ok sheet → get (put m k r) q ≡ Some sheet
unfolding put
put_there m k q sheet (Ok own) same is =
    let owns : own ≡ sheet = cc is in
    get_here m k own q same ∙ ap Some owns
put_there m k q sheet (Err word) same is = absurd (cc is)

module _ (read : ℕ → Read) where
  made_past : (n q : ℕ) → n + 2 ≤ q → get (made read n) q ≡ None
  unfolding made
  made_past zero q past = get-empty nat_cmp q
  made_past (suc n) q past = put_else (made read n) (n + 2) q (read (n + 2)) (λ e. omega (arith, e, past)) ∙ made_past n q (omega (arith, past))

  made_low : (n q : ℕ) → q < 2 → get (made read n) q ≡ None
  unfolding made
  made_low zero q low = get-empty nat_cmp q
  made_low (suc n) q low = put_else (made read n) (n + 2) q (read (n + 2)) (λ e. omega (arith, e, low)) ∙ made_low n q low

  made_is : (n q : ℕ) (sheet : Sheet) → get (made read n) q ≡ Some sheet → read q ≡ Ok sheet
  unfolding made
  made_is zero q sheet is = absurd (cc (sym (get-empty nat_cmp q) ∙ is))
  made_is (suc n) q sheet is = elim (cases_eq q (n + 2)) [
    | inl same ↦ ap read same ∙ put_here (made read n) (n + 2) q sheet (read (n + 2)) (made_past n q (omega (arith, same))) same is
    | inr other ↦ made_is n q sheet (sym (put_else (made read n) (n + 2) q (read (n + 2)) other) ∙ is)
  ]

  is_made : (n q : ℕ) (sheet : Sheet) → 2 ≤ q → q < n + 2 → read q ≡ Ok sheet → get (made read n) q ≡ Some sheet
  unfolding made
  is_made zero q sheet low high is = absurd (omega (arith, low, high))
  is_made (suc n) q sheet low high is = elim (cases_eq q (n + 2)) [
    | inl same ↦ put_there (made read n) (n + 2) q sheet (read (n + 2)) same (ap read (sym same) ∙ is)
    | inr other ↦ put_else (made read n) (n + 2) q (read (n + 2)) other ∙ is_made n q sheet low (omega (arith, high, other)) is
  ]

  below : (n q : ℕ) (sheet : Sheet) → get (made read n) q ≡ Some sheet → (2 ≤ q) × (q < n + 2)
  below n q sheet is = (
    elim (cases_lt q 2) [ inl low ↦ absurd (cc (sym (made_low n q low) ∙ is)) | inr high ↦ high ],
    elim (cases_lt q (n + 2)) [ inl low ↦ low | inr past ↦ absurd (cc (sym (made_past n q past) ∙ is)) ],
  )

-- there are such images of any bytes
pub imagined : (catalog : List Fields) (base pages : ℕ) (file : List ℕ) (list : List JournalRecord) → 2 ≤ pages → (images : Images) × AreImagesOf catalog base pages file list images
imagined catalog base pages file list some = (
  made read (pages - 2),
  λ page sheet. (
    (λ is.
        let within = below read (pages - 2) page sheet is in
        (within.0, omega (arith, within.1, some), made_is read (pages - 2) page sheet is)),
    (λ is. is_made read (pages - 2) page sheet is.0 (omega (arith, is.1, some)) is.2),
  ),
)
  where
    read : ℕ → Read
    read page = page_read catalog base pages page (page_bytes file list page)
