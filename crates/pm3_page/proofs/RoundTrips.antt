-- A page read in one direction and written in the other.
use Rattle.std.proofs.Common.{◌≡◌, ◌+◌, ◌==◌, ◌∙◌, ℕ, Bool, true, false, List, [], ◌∷◌, Option, Some, None, Ok, slice_get, refl, sym, ap}
use Rattle.pm3_types.specs.Fields.{Fields}
use Rattle.pm3_types.specs.Layout.{Sheet, type_in}
use Rattle.pm3_types.specs.PageForm.{is_page_head, is_name, is_padded}
use Rattle.pm3_page.specs.declared.roles.Reading.{Reading}
use Rattle.pm3_page.specs.declared.roles.Role.{Role}
use Rattle.pm3_page.specs.declared.roles.Role.TheVariants.{PageHead, Zero, Head, Name, Number, Reference, Bytes}
use Rattle.pm3_page.specs.declared.steps.Step.{Step}
use Rattle.pm3_page.specs.Roles.{role_at}
use Rattle.pm3_page.specs.Scan.{scan, step_in, head_step, reference_step, first_reading, go_on, put_first, when, plain}
use Rattle.pm3_page.proofs.StepCases.{Continues, go_on-Ok}

-- a step that leaves its word, from that word
kept : (f : ℕ → Option Step) (word : ℕ) (step : Step) → f word ≡ Some step → step.word ≡ word
    → f step.word ≡ Some (record { reading = step.reading; begins = step.begins; word = word })
kept f word step e same = ap f same ∙ e ∙ (λ i. Some (record { reading = step.reading; begins = step.begins; word = same i }))

when_word : (b : Bool) (x step : Step) → when b x ≡ Some step → step.word ≡ x.word
when_word true x step e = ap (λ (s : Step). s.word) same
  where
    same : step ≡ x
    same = cc
when_word false x step e = absurd (cc)

head_word : (o : Option Fields) (r : Reading) (i word : ℕ) (step : Step) → head_step o r i word ≡ Some step → step.word ≡ word
head_word None r i word step e = absurd (cc)
head_word (Some map) r i word step e = when_word _ _ step e

some_word : (r : Reading) (word : ℕ) (step : Step) → Some (plain r word) ≡ Some step → step.word ≡ word
some_word r word step e = ap (λ (s : Step). s.word) same
  where
    same : step ≡ plain r word
    same = cc

module _ (catalog : List Fields) (one other : ℕ → Option ℕ) (page : ℕ) where
  -- the other direction takes what this one gives
  module _ (back : (word made : ℕ) → one word ≡ Some made → other made ≡ Some word) where
    reference_back : (r : Reading) (word : ℕ) (o : Option ℕ) (step : Step) → one word ≡ o → reference_step o r ≡ Some step
        → reference_step (other step.word) r ≡ Some (record { reading = step.reading; begins = step.begins; word = word })
    reference_back r word None step is e = absurd (cc)
    reference_back r word (Some made) step is e =
        ap (λ (o : Option ℕ). reference_step o r) (ap (λ (s : Step). other s.word) same ∙ back word made is)
        ∙ ap (λ (s : Step). Some (record { reading = s.reading; begins = s.begins; word = word })) (sym same)
      where
        same : step ≡ plain r made
        same = cc

    step_back : (r : Reading) (i : ℕ) (role : Role) (word : ℕ) (step : Step) → step_in catalog one page r i role word ≡ Some step
        → step_in catalog other page r i role step.word ≡ Some (record { reading = step.reading; begins = step.begins; word = word })
    step_back r i PageHead word step e = kept (λ w. when (is_page_head page w) (plain (first_reading page w) w)) word step e (when_word _ _ step e)
    step_back r i Zero word step e = kept (λ w. when (w == 0) (plain r w)) word step e (when_word _ _ step e)
    step_back r i Head word step e = kept (λ w. head_step (slice_get catalog (type_in w)) r i w) word step e (head_word _ r i word step e)
    step_back r i Name word step e = kept (λ w. when (is_name w) (plain r w)) word step e (when_word _ _ step e)
    step_back r i Number word step e = kept (λ w. Some (plain r w)) word step e (some_word r word step e)
    step_back r i Reference word step e = reference_back r word (one word) step refl e
    step_back r i (Bytes left) word step e = kept (λ w. when (is_padded left w) (plain r w)) word step e (when_word _ _ step e)

    pub scan_back : (words : List ℕ) (r : Reading) (i : ℕ) (out : Sheet) → scan catalog one page words r i ≡ Ok out
        → scan catalog other page out.words r i ≡ Ok (record { words = words; starts = out.starts })
    scan_back [] r i out e =
        ap (λ (s : Sheet). scan catalog other page s.words r i) same ∙ ap (λ (s : Sheet). Ok (record { words = []; starts = s.starts })) (sym same)
      where
        same : out ≡ record { words = []; starts = [] }
        same = cc
    scan_back (word ∷ words) r i out e =
        ap (λ (s : Sheet). scan catalog other page s.words r i) ran.whole
        ∙ ap (λ (o : Option Step). go_on i o (λ now. scan catalog other page ran.sheet.words now (i + 1))) (step_back r i (role_at r i) word ran.step ran.is)
        ∙ ap (put_first (record { reading = ran.step.reading; begins = ran.step.begins; word = word })) (scan_back words ran.step.reading (i + 1) ran.sheet ran.more)
        ∙ ap (λ (s : Sheet). Ok (record { words = word ∷ words; starts = s.starts })) (sym ran.whole)
      where
        ran : Continues (step_in catalog one page r i (role_at r i) word) (λ now. scan catalog one page words now (i + 1)) out
        ran = go_on-Ok i (step_in catalog one page r i (role_at r i) word) _ out e

  -- the other direction does what this one does
  module _ (wider : (word made : ℕ) → one word ≡ Some made → other word ≡ Some made) where
    reference_wider : (r : Reading) (word : ℕ) (o : Option ℕ) (step : Step) → one word ≡ o → reference_step o r ≡ Some step → reference_step (other word) r ≡ Some step
    reference_wider r word None step is e = absurd (cc)
    reference_wider r word (Some made) step is e = ap (λ (o : Option ℕ). reference_step o r) (wider word made is) ∙ e

    step_wider : (r : Reading) (i : ℕ) (role : Role) (word : ℕ) (step : Step) → step_in catalog one page r i role word ≡ Some step
        → step_in catalog other page r i role word ≡ Some step
    step_wider r i PageHead word step e = e
    step_wider r i Zero word step e = e
    step_wider r i Head word step e = e
    step_wider r i Name word step e = e
    step_wider r i Number word step e = e
    step_wider r i Reference word step e = reference_wider r word (one word) step refl e
    step_wider r i (Bytes left) word step e = e

    pub scan_wider : (words : List ℕ) (r : Reading) (i : ℕ) (out : Sheet) → scan catalog one page words r i ≡ Ok out → scan catalog other page words r i ≡ Ok out
    scan_wider [] r i out e = e
    scan_wider (word ∷ words) r i out e =
        ap (λ (o : Option Step). go_on i o (λ now. scan catalog other page words now (i + 1))) (step_wider r i (role_at r i) word ran.step ran.is)
        ∙ ap (put_first ran.step) (scan_wider words ran.step.reading (i + 1) ran.sheet ran.more)
        ∙ ap Ok (sym ran.whole)
      where
        ran : Continues (step_in catalog one page r i (role_at r i) word) (λ now. scan catalog one page words now (i + 1)) out
        ran = go_on-Ok i (step_in catalog one page r i (role_at r i) word) _ out e
