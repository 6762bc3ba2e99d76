-- A word that is named as a fault.
use Rattle.std.proofs.Common.{◌≡◌, ◌≢◌, ◌<◌, ◌≤◌, ◌+◌, ◌==◌, ◌&&◌, ◌∙◌, inl, inr, ℕ, suc, Bool, true, false, not, List, [], ◌∷◌, length, take, get_or, Option, Some, None, Ok, Err, sym, ap, subst, arith, get_or-take}
use Rattle.std.proofs.lemmas.Bool.{cases_Bool, cases_eq, and_parts, eq-eqb, false≢true}
use Rattle.pm3_types.specs.Fields.{Fields}
use Rattle.pm3_types.specs.Layout.{Sheet, blank_sheet}
use Rattle.pm3_types.specs.PageForm.{HasForm, is_file_reference}
use Rattle.pm3_page.specs.declared.roles.Reading.{Reading}
use Rattle.pm3_page.specs.declared.steps.Step.{Step}
use Rattle.pm3_page.specs.References.{from_file}
use Rattle.pm3_page.specs.Roles.{role_at}
use Rattle.pm3_page.specs.Scan.{Read, scan, step_in, go_on, put_first, is_blank, pass, reading_to}
use Rattle.pm3_page.proofs.PageReads.{is_free, pass_scan, pass_blank}
use Rattle.pm3_page.proofs.FileForms.{form_read, form-length}

put_first-Err : (step : Step) (read : Read) (i : ℕ) → put_first step read ≡ Err i → read ≡ Err i
put_first-Err step (Ok sheet) i e = absurd (cc)
put_first-Err step (Err j) i e = e

same_place : (i j : ℕ) → ◌≡◌ {A = Read} (Err i) (Err j) → i ≡ j
same_place i j e = cc

module _ (catalog : List Fields) (refer : ℕ → Option ℕ) (page : ℕ) where
  -- a fault is not before the words that are read
  fault_behind : (words : List ℕ) (r : Reading) (j i : ℕ) → scan catalog refer page words r j ≡ Err i → j ≤ i
  fault_behind [] r j i e = absurd (cc)
  fault_behind (w ∷ words) r j i e =
      elim (step_in catalog refer page r j (role_at r j) w) as (λ o. go_on j o (λ now. scan catalog refer page words now (j + 1)) ≡ Err i → j ≤ i) [
        | None ↦ λ here. omega (arith, same_place j i here)
        | Some step ↦ λ later. omega (arith, fault_behind words step.reading (j + 1) i (put_first-Err step _ i later))
      ] e

  -- words that are the same up to a fault have it too
  fault_alike : (words others : List ℕ) (r : Reading) (j i : ℕ) → length others ≡ length words → scan catalog refer page words r j ≡ Err i
      → ((k : ℕ) → j + k ≤ i → get_or others k 0 ≡ get_or words k 0) → scan catalog refer page others r j ≡ Err i
  fault_alike [] others r j i long e same = absurd (cc)
  fault_alike (w ∷ words) [] r j i long e same = absurd (omega arith)
  fault_alike (w ∷ words) (v ∷ others) r j i long e same =
      ap (λ (word : ℕ). go_on j (step_in catalog refer page r j (role_at r j) word) (λ now. scan catalog refer page others now (j + 1)))
      (same 0 (omega (arith, fault_behind (w ∷ words) r j i e)))
      ∙ elim (step_in catalog refer page r j (role_at r j) w) as (λ o. go_on j o (λ now. scan catalog refer page words now (j + 1)) ≡ Err i
      → go_on j o (λ now. scan catalog refer page others now (j + 1)) ≡ Err i) [
        | None ↦ λ here. here
        | Some step ↦ λ later.
            ap (put_first step)
            (fault_alike words others step.reading (j + 1) i (omega arith) (put_first-Err step _ i later) (λ k within. same (suc k) (omega arith)))
      ] e

  not_both : (read : Read) (sheet : Sheet) (i : ℕ) → read ≡ Ok sheet → read ≡ Err i → ⊥
  not_both read sheet i is also = cc

-- where a word is named as a fault, nothing behind it can mend the page
pub fault_stands : (catalog : List Fields) (base pages page i : ℕ) (words others : List ℕ) (starts : List Bool) → length words ≡ 512
    → pass catalog (from_file base pages) page words ≡ Err i → take (i + 1) others ≡ take (i + 1) words
    → HasForm catalog (is_file_reference pages) page (record { words = others; starts = starts })
    → (page ≢ 2) × (is_blank others ≡ true)
fault_stands catalog base pages page i words others starts all e same form = elim (cases_Bool (is_free catalog (from_file base pages) page others)) [
  | inl free ↦ (let parts = and_parts (not (page == 2)) (is_blank others) free in (apart parts.0, parts.1))
  | inr used ↦ absurd (refuted used)
]
  where
    apart : not (page == 2) ≡ true → page ≢ 2
    apart is two = false≢true (sym (ap not (eq-eqb page 2 two)) ∙ is)

    refer : ℕ → Option ℕ
    refer = from_file base pages

    scanned : scan catalog refer page words (reading_to 0 0) 0 ≡ Err i
    scanned = elim (cases_Bool (is_free catalog refer page words)) [
      | inl free ↦ absurd (not_both catalog refer page (pass catalog refer page words) blank_sheet i (pass_blank catalog refer page words free) e)
      | inr used ↦ sym (pass_scan catalog refer page words used) ∙ e
    ]

    word : (k : ℕ) → 0 + k ≤ i → get_or others k 0 ≡ get_or words k 0
    word k within =
        sym (get_or-take (i + 1) others k 0 (omega arith)) ∙ ap (λ (front : List ℕ). get_or front k 0) same ∙ get_or-take (i + 1) words k 0 (omega arith)

    refuted : is_free catalog refer page others ≡ false → ⊥
    refuted used =
        let read = form_read catalog base pages page others starts form in
        not_both catalog refer page (pass catalog refer page others) (record { words = read.0; starts = starts }) i read.1
        (pass_scan catalog refer page others used
        ∙ fault_alike catalog refer page words others (reading_to 0 0) 0 i
        (form-length catalog (is_file_reference pages) page (record { words = others; starts = starts }) form ∙ sym all) scanned word)
