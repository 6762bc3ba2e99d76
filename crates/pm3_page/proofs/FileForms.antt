-- The form of a page in a file and in memory.
use Rattle.std.proofs.Common.{◌≡◌, ◌≤◌, ◌∙◌, inl, inr, ℕ, Bool, false, List, length, Option, Ok, sym, ap, subst}
use Rattle.std.proofs.lemmas.Bool.{cases_Bool, cases_eq}
use Rattle.std.proofs.lemmas.List.{length-replicate}
use Rattle.pm3_types.specs.Fields.{Fields}
use Rattle.pm3_types.specs.Layout.{Sheet, blank_sheet}
use Rattle.pm3_types.specs.PageForm.{HasForm, IsSound, is_file_reference, is_memory_reference}
use Rattle.pm3_page.specs.References.{from_file, to_file}
use Rattle.pm3_page.specs.Scan.{Read, pass, reading_to}
use Rattle.pm3_page.specs.PageBytes.{words_of, file_words}
use Rattle.pm3_page.proofs.PageReads.{pass_form, form_pass, pass_back, pass_wider, pass_scan, pass_blank, is_free, scan-length}
use Rattle.pm3_page.proofs.ReferencePairs.{from_then_to, to_then_from, to_wider, is_some-from_file, is_some-to_file}

module _ (catalog : List Fields) (refer : ℕ → Option ℕ) (page : ℕ) where
  pub pass-length : (words : List ℕ) (out : Sheet) → length words ≡ 512 → pass catalog refer page words ≡ Ok out
      → (length out.words ≡ 512) × (length out.starts ≡ 512)
  pass-length words out all e = elim (cases_Bool (is_free catalog refer page words)) [
    | inl free ↦ zeros (cc (sym (pass_blank catalog refer page words free) ∙ e))
    | inr free ↦ (let ran = scan-length catalog refer page words (reading_to 0 0) 0 out (sym (pass_scan catalog refer page words free) ∙ e) in (ran.0 ∙ all, ran.1 ∙ all))
  ]
    where
      none : ℕ
      none = 0

      zeros : out ≡ blank_sheet → (length out.words ≡ 512) × (length out.starts ≡ 512)
      zeros same = (ap (λ (s : Sheet). length s.words) same ∙ length-replicate 512 none, ap (λ (s : Sheet). length s.starts) same ∙ length-replicate 512 false)

-- the same form under another test that agrees
pub form_alike : (catalog : List Fields) (f g : ℕ → Bool) (page : ℕ) (sheet : Sheet) → ((w : ℕ) → f w ≡ g w) → HasForm catalog f page sheet → HasForm catalog g page sheet
form_alike catalog f g page sheet alike form =
    let same : f ≡ g = λ i w. alike w i in
    subst (λ (h : ℕ → Bool). HasForm catalog h page sheet) same form

pub form-length : (catalog : List Fields) (refers : ℕ → Bool) (page : ℕ) (sheet : Sheet) → HasForm catalog refers page sheet → length sheet.words ≡ 512
form-length catalog refers page sheet form = elim (cases_eq page 2) [
  | inl two ↦ (form.roots two).words
  | inr apart ↦ elim (form.objects apart) [ inl blank ↦ ap (λ (s : Sheet). length s.words) blank ∙ length-replicate 512 none | inr objects ↦ objects.laid.words ]
]
  where
    none : ℕ
    none = 0

module _ (catalog : List Fields) (base pages page : ℕ) where
  -- a page of a file that is read has the form there
  pub read_form : (words : List ℕ) (sheet : Sheet) → length words ≡ 512 → pass catalog (from_file base pages) page words ≡ Ok sheet
      → HasForm catalog (is_file_reference pages) page (record { words = words; starts = sheet.starts })
  read_form words sheet all e =
      form_alike catalog _ (is_file_reference pages) page _ (is_some-from_file base pages) (pass_form catalog (from_file base pages) page words sheet all e)

  -- and back
  pub form_read : (words : List ℕ) (starts : List Bool) → HasForm catalog (is_file_reference pages) page (record { words = words; starts = starts })
      → (made : List ℕ) × (pass catalog (from_file base pages) page words ≡ Ok (record { words = made; starts = starts }))
  form_read words starts form =
      form_pass catalog (from_file base pages) page (record { words = words; starts = starts })
      (form_alike catalog (is_file_reference pages) _ page _ (λ w. sym (is_some-from_file base pages w)) form)

  -- its image has the form in memory
  pub read_sound : (words : List ℕ) (sheet : Sheet) → length words ≡ 512 → pass catalog (from_file base pages) page words ≡ Ok sheet
      → IsSound catalog base pages (record { page = page; sheet = sheet })
  read_sound words sheet all e =
      let back = pass_back catalog (from_file base pages) (to_file base pages) page (from_then_to base pages) words sheet all e in
      let long = (pass-length catalog (from_file base pages) page words sheet all e).0 in
      form_alike catalog _ (is_memory_reference base pages) page sheet (is_some-to_file base pages)
      (pass_form catalog (to_file base pages) page sheet.words (record { words = words; starts = sheet.starts }) long back)

  -- its image is written as the same words
  pub read_same : (words : List ℕ) (sheet : Sheet) → pages ≤ 16384 → length words ≡ 512 → pass catalog (from_file base pages) page words ≡ Ok sheet
      → file_words catalog base (record { page = page; sheet = sheet }) ≡ words
  read_same words sheet most all e =
      ap words_of (pass_wider catalog (to_file base pages) (to_file base 16384) page (λ a r. to_wider base pages 16384 a r most) sheet.words _
      (pass_back catalog (from_file base pages) (to_file base pages) page (from_then_to base pages) words sheet all e))

  -- an image with the form is written as words
  pub sound_written : (sheet : Sheet) → pages ≤ 16384 → IsSound catalog base pages (record { page = page; sheet = sheet })
      → (out : List ℕ) × (pass catalog (to_file base 16384) page sheet.words ≡ Ok (record { words = out; starts = sheet.starts }))
      × (pass catalog (from_file base pages) page out ≡ Ok sheet)
  sound_written sheet most form =
      let ran = form_pass catalog (to_file base pages) page sheet (form_alike catalog (is_memory_reference base pages) _ page sheet (λ w. sym (is_some-to_file base pages w)) form) in (
        ran.0,
        pass_wider catalog (to_file base pages) (to_file base 16384) page (λ a r. to_wider base pages 16384 a r most) sheet.words _ ran.1,
        pass_back catalog (to_file base pages) (from_file base pages) page (to_then_from base pages) sheet.words (record { words = ran.0; starts = sheet.starts })
            (form-length catalog (is_memory_reference base pages) page sheet form) ran.1,
      )

  -- and these words are read as the same image
  pub written_same : (sheet : Sheet) → pages ≤ 16384 → IsSound catalog base pages (record { page = page; sheet = sheet })
      → pass catalog (from_file base pages) page (file_words catalog base (record { page = page; sheet = sheet })) ≡ Ok sheet
  written_same sheet most form =
      let out = sound_written sheet most form in
      ap (λ (r : Read). pass catalog (from_file base pages) page (words_of r)) out.1 ∙ out.2
