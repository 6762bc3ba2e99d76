-- The fresh pages of a pass, in order.
use Rattle.std.proofs.Common.{◌≡◌, ◌<◌, ◌≤◌, ◌+◌, ◌∙◌, ◌↔◌, inl, inr, ℕ, zero, suc, Bool, true, false, List, [], ◌∷◌, ◌++◌, take, drop, length, Some, refl, sym, ap, subst, arith, length-drop}
use Rattle.std.specs.FinMap as map_of
use Rattle.std.specs.Ordering.{nat_cmp}
use Rattle.std.specs.List.{Contains}
use Rattle.std.proofs.lemmas.Bool.{cases_eq, cases_Bool}
use Rattle.std.proofs.lemmas.List.{take-append-drop, length-take-le}
use Rattle.std.proofs.lemmas.List.Elements.{Contains-append_right}
use Rattle.pm3_types.specs.Fields.{Fields}
use Rattle.pm3_types.specs.Layout.{PageImage}
use Rattle.pm3_types.specs.PageForm.{IsSound}
use Rattle.pm3_page.specs.PageMap.{Images}
use Rattle.pm3_page.specs.PageSheets.{AreSoundPages}
use Rattle.pm3_copy.specs.Fresh.{blank, AreBlank, AreLeast, AreNext}
use Rattle.pm3_copy.proofs.Members.{keys_least, keys_all, keys_long, of_least}
use Rattle.pm3_copy.proofs.Sent.{least_kept}
use Rattle.pm3_copy.proofs.SoundPages.{get_here, get_else}
use Rattle.pm3_copy.proofs.Wholes.{some_of, same_some, none_some}

-- a blank page has the form
blank_form : (catalog : List Fields) (base p : ℕ) → 3 ≤ p → IsSound catalog base 16384 (blank p)
blank_form catalog base p three = record { roots = λ e. absurd (omega arith); objects = λ apart. inl refl }

pub blank_sound : (catalog : List Fields) (base : ℕ) (images : Images) → AreBlank images → AreSoundPages catalog base 16384 images
blank_sound catalog base images blanks = record {
  home = λ p image on. ap (λ (i : PageImage). i.page) (blanks p image on).2;
  low = λ p is. (let there = some_of (map_of.get images p) is in (blanks p there.0 there.1).1);
  form = λ p image on. subst (IsSound catalog base 16384) (sym (blanks p image on).2) (blank_form catalog base p (blanks p image on).0);
}

-- the least pages of blank images are the next ones
pub next_of : (images : Images) (start : ℕ) (list : List ℕ) → AreBlank images → AreLeast (map_of.contains_key images) start list → AreNext images start list
next_of images start [] blanks are = tt
next_of images start (p ∷ ps) blanks (least, rest) =
    let there = some_of (map_of.get images p) least.there in
    let is = blanks p there.0 there.1 in
    (least, is.0, there.1 ∙ ap Some is.2, next_of images (p + 1) ps blanks rest)

from_start : (has : ℕ → Bool) (start : ℕ) (list : List ℕ) (p : ℕ) → AreLeast has start list → Contains list p → start ≤ p
from_start has start [] p are (k, low, is) = absurd (omega arith)
from_start has start (q ∷ qs) p (least, rest) (zero, low, is) = omega (arith, least.reached, is)
from_start has start (q ∷ qs) p (least, rest) (suc k, low, is) = (let more = from_start has (q + 1) qs p rest (k, omega arith, is) in omega (arith, least.reached))

-- the first of them are none of the others
pub halves_apart : (has : ℕ → Bool) (start : ℕ) (first second : List ℕ) → AreLeast has start (first ++ second) → (p : ℕ) → Contains first p → Contains second p → ⊥
halves_apart has start [] second are p (k, low, is) other = omega arith
halves_apart has start (q ∷ qs) second (least, rest) p (zero, low, is) other =
    (let more = from_start has (q + 1) (qs ++ second) p rest (Contains-append_right qs second p other) in omega (arith, is))
halves_apart has start (q ∷ qs) second (least, rest) p (suc k, low, is) other = halves_apart has (q + 1) qs second rest p (k, omega arith, is) other

module _ (images : Images) (blanks : AreBlank images) (n m : ℕ) (long : map_of.len images ≡ n + m) where
  abbrev keys : List ℕ
  keys = map_of.keys images

  parts : take n keys ++ drop n keys ≡ keys
  parts = take-append-drop n keys

  none_below : (k : ℕ) → k < 1 → map_of.contains_key images k ≡ false
  none_below k low = elim (cases_Bool (map_of.contains_key images k)) [
    | inl is ↦ (let there = some_of (map_of.get images k) is in let three = (blanks k there.0 there.1).0 in absurd (omega arith))
    | inr none ↦ none
  ]

  pub fresh_next : AreNext images 1 (take n keys ++ drop n keys)
  fresh_next = subst (AreNext images 1) (sym parts) (next_of images 1 keys blanks (keys_least images 1 none_below))

  pub first_long : length (take n keys) ≡ n
  first_long = length-take-le n keys (let l = keys_long images in omega (arith, l, long))

  pub second_long : length (drop n keys) ≡ m
  second_long = (let d = length-drop n keys in let l = keys_long images in omega (arith, d, l, long))

  module _ (filled : Images) (same : (p : ℕ) → map_of.contains_key filled p ≡ map_of.contains_key images p) where
    pub filled_least : AreLeast (map_of.contains_key filled) 0 (take n keys ++ drop n keys)
    filled_least =
        subst (AreLeast (map_of.contains_key filled) 0) (sym parts)
        (least_kept (map_of.contains_key images) (map_of.contains_key filled) 0 keys (λ p from. same p) (keys_least images 0 (λ k below. absurd (omega arith))))

    pub filled_pages : (p : ℕ) → (map_of.contains_key filled p ≡ true) ↔ Contains (take n keys ++ drop n keys) p
    filled_pages p = (λ is. subst (λ xs. Contains xs p) (sym parts) (keys_all images p (sym (same p) ∙ is)), λ there. of_least (map_of.contains_key filled) 0 (take n keys ++ drop n keys) p filled_least there)

-- one blank page more
pub blank_more : (images : Images) (p : ℕ) (image : PageImage) → AreBlank images → 3 ≤ p → p < 16384 → image ≡ blank p → AreBlank (map_of.insert images image.page image)
blank_more images p image blanks three low is q other on = elim (cases_eq q image.page) [
  | inl same ↦ (
      let at : q ≡ p = same ∙ ap (λ (i : PageImage). i.page) is in
      let e : image ≡ other = same_some image other (sym (get_here images image.page q image same) ∙ on) in
      (omega (arith, at), omega (arith, at), sym e ∙ is ∙ sym (ap blank at)))
  | inr apart ↦ blanks q other (sym (get_else images image.page q image apart) ∙ on)
]

pub blank_none : AreBlank map_of.empty
blank_none p image on = none_some image _ (sym (map_of.get-empty nat_cmp p) ∙ on)
