-- The images of one page after another are updated.
use Rattle.std.proofs.Common.{◌≡◌, ◌<◌, ◌≤◌, ◌+◌, ◌∙◌, inl, inr, ℕ, true, false, List, length, None, Some, is_some, refl, sym, ap, subst, arith}
use Rattle.std.specs.FinMap as map
use Rattle.std.proofs.lemmas.Bool.{cases_eq, cases_lt, false≢true}
use Rattle.std.proofs.lemmas.List.{length-replicate}
use Rattle.pm3_types.specs.Fields.{Fields}
use Rattle.pm3_types.specs.Layout.{Sheet, PageImage}
use Rattle.pm3_types.specs.PageForm.{IsSound}
use Rattle.pm3_page.specs.PageMap.{Images}
use Rattle.pm3_copy.specs.Renaming.{IsUpdated, UpdatesPage, AreUpdated}
use Rattle.pm3_copy.proofs.SoundPages.{get_here, get_else}
use Rattle.pm3_copy.proofs.Wholes.{same_some}

-- a sound image has 512 words
pub sound_long : (catalog : List Fields) (base : ℕ) (image : PageImage) → IsSound catalog base 16384 image → length image.sheet.words ≡ 512
sound_long catalog base image sound = elim (cases_eq image.page 2) [
  | inl two ↦ (sound.roots two).words
  | inr other ↦ elim (sound.objects other) [ inl blank ↦ ap (λ (s : Sheet). length s.words) blank ∙ length-replicate {A = ℕ} 512 0 | inr form ↦ form.laid.words ]
]

module _ (catalog : List Fields) (base : ℕ) (to : ℕ → ℕ) where
  pub changed_here : (old : Images) (page : ℕ) (image now : PageImage) → map.get old page ≡ Some image → now.page ≡ image.page → IsUpdated catalog to image now → UpdatesPage catalog to page old (map.insert old page now)
  changed_here old page image now on same updated = record {
    here = λ other there. (
        let e : image ≡ other = same_some image other (sym on ∙ there) in
        (now, get_here old page page now refl, same ∙ ap (λ (i : PageImage). i.page) e, subst (λ i. IsUpdated catalog to i now) e updated));
    others = λ p apart. get_else old page p now apart;
  }

  -- the images of the pages below a number are updated
  pub record AreUpdatedBelow (old now : Images) (n : ℕ) : Type 0 where
    pub done : (p : ℕ) (image : PageImage) → p < n → map.get old p ≡ Some image → (new : PageImage) × (map.get now p ≡ Some new) × (new.page ≡ image.page) × IsUpdated catalog to image new
    pub rest : (p : ℕ) → n ≤ p → map.get now p ≡ map.get old p
    pub none : (p : ℕ) → map.get old p ≡ None → map.get now p ≡ None

  pub updated_none : (old : Images) → AreUpdatedBelow old old 0
  updated_none old = record { done = λ p image low on. absurd (omega arith); rest = λ p past. refl; none = λ p is. is }

  pub updated_more : (old now new : Images) (n page : ℕ) → AreUpdatedBelow old now n → n ≤ page → map.contains_key now page ≡ true → ((q : ℕ) → n ≤ q → q < page → map.contains_key now q ≡ false)
      → UpdatesPage catalog to page now new → AreUpdatedBelow old new (page + 1)
  updated_more old now new n page are low there between step = record {
    done = λ p image below on. elim (cases_lt p n) [
      | inl before ↦ (let was = are.done p image before on in (was.0, step.others p (λ e. omega (arith, e)) ∙ was.1, was.2, was.3))
      | inr behind ↦ elim (cases_eq p page) [
        | inl same ↦ (
            let on_page : map.get now page ≡ Some image = are.rest page low ∙ ap (map.get old) (sym same) ∙ on in
            let is = step.here image on_page in
            (is.0, ap (map.get new) same ∙ is.1, is.2, is.3))
        | inr apart ↦ absurd (false≢true (sym (between p behind (omega arith)) ∙ ap is_some (are.rest p behind ∙ on)))
      ]
    ];
    rest = λ p past. step.others p (λ e. omega (arith, e)) ∙ are.rest p (omega arith);
    none = λ p is. elim (cases_eq p page) [
      | inl same ↦ absurd (false≢true (sym (ap is_some (are.none p is)) ∙ ap (map.contains_key now) same ∙ there))
      | inr apart ↦ step.others p apart ∙ are.none p is
    ];
  }

  pub updated_all : (old now : Images) (n : ℕ) → AreUpdatedBelow old now n → ((q : ℕ) → n ≤ q → map.contains_key now q ≡ false) → AreUpdated catalog to old now
  updated_all old now n are past = record {
    each = λ p image on. elim (cases_lt p n) [
      | inl low ↦ are.done p image low on
      | inr behind ↦ absurd (false≢true (sym (past p behind) ∙ ap is_some (are.rest p behind ∙ on)))
    ];
    none = are.none;
  }
