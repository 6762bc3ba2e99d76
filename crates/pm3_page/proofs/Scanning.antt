-- How far the words of a page have been read.
use Rattle.std.proofs.Common.{◌≡◌, ◌<◌, ◌+◌, ◌≤◌, ◌∙◌, ℕ, Bool, List, [], ◌∷◌, ◌++◌, length, take, drop, get_or, set, Option, Some, None, Ok, Err, refl, sym, ap, append_assoc, append-nil, take_all, arith}
use Rattle.std.proofs.lemmas.List.{drop_more, take_more_set, drop-set-lt, drop_all}
use Rattle.pm3_types.specs.Fields.{Fields}
use Rattle.pm3_page.specs.declared.roles.Reading.{Reading}
use Rattle.pm3_page.specs.declared.steps.Step.{Step}
use Rattle.pm3_page.specs.Roles.{role_at}
use Rattle.pm3_page.specs.Scan.{Read, scan, step_in, go_on, put_first, joined}

-- a word moved from the front of a sheet to the words before it
joined-put_first : (words : List ℕ) (starts : List Bool) (step : Step) (read : Read)
    → joined (words ++ step.word ∷ []) (starts ++ step.begins ∷ []) read ≡ joined words starts (put_first step read)
joined-put_first words starts step (Ok sheet) =
    let left = append_assoc words (step.word ∷ []) sheet.words in
    let right = append_assoc starts (step.begins ∷ []) sheet.starts in
    λ i. Ok (record { words = left i; starts = right i })
joined-put_first words starts step (Err n) = refl

module _ (catalog : List Fields) (refer : ℕ → Option ℕ) (page : ℕ) where
  -- the word at i, and those behind it
  scan-drop : (words : List ℕ) (r : Reading) (i : ℕ) → i < length words
      → scan catalog refer page (drop i words) r i
      ≡ go_on i (step_in catalog refer page r i (role_at r i) (get_or words i 0)) (λ now. scan catalog refer page (drop (i + 1) words) now (i + 1))
  scan-drop words r i within = ap (λ (rest : List ℕ). scan catalog refer page rest r i) (drop_more words i 0 within)

  pub scan_more : (words : List ℕ) (starts : List Bool) (r : Reading) (i : ℕ) (step : Step) → i < length words → i < length starts
      → step_in catalog refer page r i (role_at r i) (get_or words i 0) ≡ Some step
      → joined (take (i + 1) (set words i step.word)) (take (i + 1) (set starts i step.begins))
      (scan catalog refer page (drop (i + 1) (set words i step.word)) step.reading (i + 1))
      ≡ joined (take i words) (take i starts) (scan catalog refer page (drop i words) r i)
  scan_more words starts r i step within marked is =
      ap (λ (front : List ℕ). joined front (take (i + 1) (set starts i step.begins)) (rest (drop (i + 1) (set words i step.word)))) (take_more_set words i step.word within)
      ∙ ap (λ (front : List Bool). joined (take i words ++ step.word ∷ []) front (rest (drop (i + 1) (set words i step.word)))) (take_more_set starts i step.begins marked)
      ∙ ap (λ (behind : List ℕ). joined (take i words ++ step.word ∷ []) (take i starts ++ step.begins ∷ []) (rest behind)) (drop-set-lt (i + 1) words i step.word (omega arith))
      ∙ joined-put_first (take i words) (take i starts) step (rest (drop (i + 1) words))
      ∙ ap (λ (o : Option Step). joined (take i words) (take i starts) (go_on i o (λ now. scan catalog refer page (drop (i + 1) words) now (i + 1)))) (sym is)
      ∙ ap (joined (take i words) (take i starts)) (sym (scan-drop words r i within))
    where
      rest : List ℕ → Read
      rest behind = scan catalog refer page behind step.reading (i + 1)

  pub scan_stops : (words : List ℕ) (starts : List Bool) (r : Reading) (i : ℕ) → i < length words
      → step_in catalog refer page r i (role_at r i) (get_or words i 0) ≡ None
      → joined (take i words) (take i starts) (scan catalog refer page (drop i words) r i) ≡ Err i
  scan_stops words starts r i within is =
      ap (joined (take i words) (take i starts))
      (scan-drop words r i within ∙ ap (λ (o : Option Step). go_on i o (λ now. scan catalog refer page (drop (i + 1) words) now (i + 1))) is)

  pub scan_ends : (words : List ℕ) (starts : List Bool) (r : Reading) (i : ℕ) → length words ≤ i → length starts ≤ i
      → joined (take i words) (take i starts) (scan catalog refer page (drop i words) r i) ≡ Ok (record { words = words; starts = starts })
  scan_ends words starts r i all marked =
      ap (λ (behind : List ℕ). joined (take i words) (take i starts) (scan catalog refer page behind r i)) (drop_all i words all) ∙ whole
    where
      front : take i words ++ [] ≡ words
      front = append-nil (take i words) ∙ take_all i words all

      begins : take i starts ++ [] ≡ starts
      begins = append-nil (take i starts) ∙ take_all i starts marked

      whole : joined (take i words) (take i starts) (Ok (record { words = []; starts = [] })) ≡ Ok (record { words = words; starts = starts })
      whole = λ j. Ok (record { words = front j; starts = begins j })
