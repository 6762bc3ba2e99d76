-- Where a page departs from its form lies within it.
use Rattle.std.proofs.Common.{◌≡◌, ◌⊎◌, inl, inr, ◌+◌, ◌<◌, ℕ, suc, true, false, not, ◌&&◌, cond, eqb, Bool, List, [], ◌∷◌, length, Option, Some, None, Ok, Err, refl, sym, ◌∙◌, ap, arith}
use Rattle.std.proofs.lemmas.Bool.{cases_Bool, cond-true, cond-false}
use Rattle.pm3_types.specs.Fields.{Fields}
use Rattle.pm3_page.specs.PageBytes.{page_read, words_in}
use Rattle.pm3_page.specs.References.{from_file}
use Rattle.pm3_page.specs.Roles.{role_at}
use Rattle.pm3_page.specs.Scan.{Read, go_on, is_blank, pass, put_first, reading_to, scan, step_in}
use Rattle.pm3_page.specs.declared.roles.Reading.{Reading}
use Rattle.pm3_page.specs.declared.steps.Step.{Step}
use Rattle.pm3_page.proofs.WordBytes.{length-words_in}

put_err : (step : Step) (r : Read) (j : ℕ) → put_first step r ≡ Err j → r ≡ Err j
put_err step (Ok sheet) j is = absurd (cc is)
put_err step (Err i) j is = is

go_err : (i : ℕ) (o : Option Step) (rest : Reading → Read) (j : ℕ) → go_on i o rest ≡ Err j → (i ≡ j) ⊎ ((step : Step) × (rest step.reading ≡ Err j))
go_err i None rest j is = inl (cc is)
go_err i (Some step) rest j is = inr (step, put_err step (rest step.reading) j is)

scan_within : (catalog : List Fields) (refer : ℕ → Option ℕ) (page : ℕ) (words : List ℕ) (r : Reading) (i j : ℕ) → scan catalog refer page words r i ≡ Err j → j < i + length words
scan_within catalog refer page [] r i j is = absurd (cc is)
scan_within catalog refer page (word ∷ words) r i j is = elim (go_err i (step_in catalog refer page r i (role_at r i) word) (λ now. scan catalog refer page words now (i + 1)) j is) [
  | inl here ↦ omega (arith, here)
  | inr later ↦ (let more = scan_within catalog refer page words later.0.reading (i + 1) j later.1 in omega (arith, more))
]

-- a page of a file departs from its form at one of its 512 words
pub read_within : (catalog : List Fields) (base pages page : ℕ) (bytes : List ℕ) (j : ℕ) → page_read catalog base pages page bytes ≡ Err j → j < 512
read_within catalog base pages page bytes j is = elim (cases_Bool (not (eqb page 2) && is_blank (words_in 512 bytes))) [
  | inl blank ↦ absurd (cc (sym (cond-true (not (eqb page 2) && is_blank (words_in 512 bytes)) _ _ blank) ∙ is))
  | inr some ↦ (let scanned = sym (cond-false (not (eqb page 2) && is_blank (words_in 512 bytes)) _ _ some) ∙ is in
      let low = scan_within catalog (from_file base pages) page (words_in 512 bytes) (reading_to 0 0) 0 j scanned in
      let long = length-words_in 512 bytes in
      omega (arith, low, long))
]
