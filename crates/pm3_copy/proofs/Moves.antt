-- Objects that are copied one after another.
use Rattle.std.proofs.Common.{◌≡◌, ◌≢◌, ◌<◌, ◌≤◌, ◌+◌, ◌==◌, ◌&&◌, ◌||◌, ◌∙◌, ◌⊎◌, inl, inr, ℕ, Bool, true, false, nat_le, nat_lt, List, [], ◌∷◌, ◌++◌, length, get_or, is_some, refl, sym, ap, subst, arith, length-append}
use Rattle.std.specs.FinMap as map_of
use Rattle.std.specs.List.{Contains}
use Rattle.std.proofs.Math.ListN.{get_or-append}
use Rattle.std.proofs.lemmas.Bool.{cases_eq, cases_lt, and_from, le-leb, lt-ltb}
use Rattle.std.proofs.lemmas.List.{get_or_push}
use Rattle.std.proofs.lemmas.List.Elements.{Contains-append_left, Contains-push}
use Rattle.pm3_types.specs.Fields.{Fields}
use Rattle.pm3_types.specs.Layout.{PageImage, address, is_address, is_start, page_in, word_in, size_at, end_of}
use Rattle.pm3_types.specs.PageForm.{IsSound, is_memory_reference}
use Rattle.pm3_types.proofs.Addressing.{page_in-address, word_in-address, is_address-address}
use Rattle.pm3_page.specs.PageMap.{Images}
use Rattle.pm3_page.specs.PageSheets.{AreSoundPages}
use Rattle.pm3_copy.specs.Moving.{IsSameObject, IsCopyAt, PutsCopy, BeginsOn, AreCopied}
use Rattle.pm3_copy.proofs.CopiedObjects.{new_copy, starts_now, starts_long, still_copy}
use Rattle.pm3_copy.proofs.Wholes.{same_some, whole_at}

or_second : (b c : Bool) → c ≡ true → (b || c) ≡ true
or_second true c is = refl
or_second false c is = is

-- the address of a word behind the first two of a page that may have objects
pub refers_to : (base page word : ℕ) → 3 ≤ page → page < 16384 → 2 ≤ word → word < 512 → is_memory_reference base 16384 (address base page word) ≡ true
unfolding is_memory_reference
refers_to base page word three low two word_low =
    let a = address base page word in
    let on = page_in-address base page word word_low in
    let at = word_in-address base page word word_low in
    or_second (a == 0) _ (and_from (is_address base a) _ (is_address-address base page word)
    (and_from (nat_le 3 (page_in base a) && nat_lt (page_in base a) 16384) (nat_le 2 (word_in base a))
    (and_from (nat_le 3 (page_in base a)) (nat_lt (page_in base a) 16384) (le-leb 3 (page_in base a) (omega (arith, on))) (lt-ltb (page_in base a) 16384 (omega (arith, on))))
    (le-leb 2 (word_in base a) (omega (arith, at)))))

module _ (catalog : List Fields) (base : ℕ) (space : Images) (space_sound : AreSoundPages catalog base 16384 space) (olds news : List ℕ) (old now new : Images)
    (now_sound : AreSoundPages catalog base 16384 now) (a page to : ℕ) (step : PutsCopy catalog base space a page now new) (three : 3 ≤ page) (two : 2 ≤ end_of step.target.sheet)
    (fits : end_of step.target.sheet + size_at catalog step.source.sheet (word_in base a) ≤ 512) (at : to ≡ address base page (end_of step.target.sheet)) where
  abbrev end : ℕ
  end = end_of step.target.sheet

  target_sound : IsSound catalog base 16384 step.target
  target_sound = now_sound.form page step.target step.was

  low : page < 16384
  low = now_sound.low page (ap is_some step.was)

  large : 2 ≤ size_at catalog step.source.sheet (word_in base a)
  large = (whole_at catalog base 16384 step.source a (space_sound.form (page_in base a) step.source step.on) step.begins).size

  on_page : page_in base to ≡ page
  on_page = ap (page_in base) at ∙ page_in-address base page end (let l = large in omega (arith, fits))

  at_word : word_in base to ≡ end
  at_word = ap (word_in base) at ∙ word_in-address base page end (let l = large in omega (arith, fits))

  copy_here : IsCopyAt catalog base space new a to
  copy_here = record {
    source = step.source;
    copy = step.now;
    on = step.on;
    begins = step.begins;
    now = ap (map_of.get new) on_page ∙ step.is;
    same = subst (IsSameObject catalog step.source.sheet (word_in base a) step.now.sheet) (sym at_word)
        (new_copy catalog base step.source.sheet (word_in base a) step.target step.now (size_at catalog step.source.sheet (word_in base a)) step.copied refl
        (let long = starts_long catalog base step.target target_sound (λ e. omega (arith, e, three, now_sound.home page step.target step.was)) in let l = large in omega (arith, fits, long)));
  }

  copy_kept : (b c : ℕ) → IsCopyAt catalog base space now b c → IsCopyAt catalog base space new b c
  copy_kept b c copy = elim (cases_eq (page_in base c) page) [
    | inl same ↦ (
        let e : step.target ≡ copy.copy = same_some step.target copy.copy (sym step.was ∙ ap (map_of.get now) (sym same) ∙ copy.now) in
        record {
          source = copy.source;
          copy = step.now;
          on = copy.on;
          begins = copy.begins;
          now = ap (map_of.get new) same ∙ step.is;
          same = still_copy catalog base step.source.sheet (word_in base a) step.target step.now (size_at catalog step.source.sheet (word_in base a)) step.copied copy.source.sheet (word_in base b) (word_in base c) target_sound
              (whole_at catalog base 16384 copy.source b (space_sound.form (page_in base b) copy.source copy.on) copy.begins)
              (subst (λ (i : PageImage). IsSameObject catalog copy.source.sheet (word_in base b) i.sheet (word_in base c)) (sym e) copy.same);
        })
    | inr apart ↦ record { source = copy.source; copy = copy.copy; on = copy.on; begins = copy.begins; now = step.others (page_in base c) apart ∙ copy.now; same = copy.same }
  ]

  -- one object more is copied
  pub copied_more : AreCopied catalog base space olds news old now → a ≡ get_or olds (length news) 0 → AreCopied catalog base space olds (news ++ to ∷ []) old new
  copied_more copied is = record {
    each = λ i less. each i less (cases_lt i (length news));
    references = λ i less. references i less (cases_lt i (length news));
    only = only;
    pages = λ p. pages p (cases_eq p page);
  }
    where
      each : (i : ℕ) → i < length (news ++ to ∷ []) → (i < length news) ⊎ (length news ≤ i) → IsCopyAt catalog base space new (get_or olds i 0) (get_or (news ++ to ∷ []) i 0)
      each i less (inl before) =
          subst (IsCopyAt catalog base space new (get_or olds i 0)) (sym (get_or-append news (to ∷ []) 0 i before)) (copy_kept (get_or olds i 0) (get_or news i 0) (copied.each i before))
      each i less (inr last) =
          let long = length-append news (to ∷ []) in
          let e : length news ≡ i = omega (arith, long) in
          subst (IsCopyAt catalog base space new (get_or olds i 0)) (sym (get_or_push news to 0 i e)) (subst (λ b. IsCopyAt catalog base space new b to) (is ∙ ap (λ k. get_or olds k 0) e) copy_here)

      references : (i : ℕ) → i < length (news ++ to ∷ []) → (i < length news) ⊎ (length news ≤ i)
          → (is_memory_reference base 16384 (get_or (news ++ to ∷ []) i 0) ≡ true) × (is_address base (get_or (news ++ to ∷ []) i 0) ≡ true)
      references i less (inl before) =
          subst (λ b. (is_memory_reference base 16384 b ≡ true) × (is_address base b ≡ true)) (sym (get_or-append news (to ∷ []) 0 i before)) (copied.references i before)
      references i less (inr last) =
          let long = length-append news (to ∷ []) in
          let l = large in
          subst (λ b. (is_memory_reference base 16384 b ≡ true) × (is_address base b ≡ true)) (sym (get_or_push news to 0 i (omega (arith, long)) ∙ at)) (refers_to base page end three low two (omega (arith, fits)), is_address-address base page end)

      was : (p w : ℕ) → BeginsOn now p w → BeginsOn old p w ⊎ Contains (news ++ to ∷ []) (address base p w)
      was p w begins = elim (copied.only p w begins) [ inl first ↦ inl first | inr there ↦ inr (Contains-append_left news (to ∷ []) _ there) ]

      only : (p w : ℕ) → BeginsOn new p w → BeginsOn old p w ⊎ Contains (news ++ to ∷ []) (address base p w)
      only p w begins = elim (cases_eq p page) [
        | inl same ↦ (
            let e : begins.image ≡ step.now = same_some begins.image step.now (sym begins.on ∙ ap (map_of.get new) same ∙ step.is) in
            elim (starts_now catalog base step.source.sheet (word_in base a) step.target step.now (size_at catalog step.source.sheet (word_in base a)) step.copied w (subst (λ (i : PageImage). is_start i.sheet w ≡ true) e begins.start)) [
              | inl here ↦ inr (let same_at : to ≡ address base p w = omega (arith, at, here, same) in subst (Contains (news ++ to ∷ [])) same_at (Contains-push news to))
              | inr before ↦ was p w (record { image = step.target; on = ap (map_of.get now) same ∙ step.was; start = before })
            ])
        | inr apart ↦ was p w (record { image = begins.image; on = sym (step.others p apart) ∙ begins.on; start = begins.start })
      ]

      pages : (p : ℕ) → (p ≡ page) ⊎ (p ≢ page) → map_of.contains_key new p ≡ map_of.contains_key old p
      pages p (inl same) = ap (map_of.contains_key new) same ∙ ap is_some step.is ∙ sym (ap (map_of.contains_key now) same ∙ ap is_some step.was) ∙ copied.pages p
      pages p (inr apart) = ap is_some (step.others p apart) ∙ copied.pages p

pub copied_none : (catalog : List Fields) (base : ℕ) (space : Images) (olds : List ℕ) (images : Images) → AreCopied catalog base space olds [] images images
copied_none catalog base space olds images = record {
  each = λ i less. absurd (omega arith);
  references = λ i less. absurd (omega arith);
  only = λ p w begins. inl begins;
  pages = λ p. refl;
}
