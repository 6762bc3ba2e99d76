-- What is held once its parts are joined.
use Rattle.std.proofs.Common.{◌≡◌, ◌≢◌, ℕ, ◌⊎◌, Option, None, Some, refl, sym, ap, ◌∙◌, inl, inr}
use Rattle.std.specs.Option.{option_or}
use Rattle.std.specs.FinMap as map
use Rattle.pm3_types.specs.Layout.{PageImage}
use Rattle.pm3_page.specs.PageMap.{Images, IsAtHome}
use Rattle.pm3_access.specs.Holding.{HeldImages, AreHeld}
use Rattle.pm3_access.specs.Parts.{both, AreWritten, AreUnwritten}
use Rattle.pm3_access.proofs.Homes.{is_some_none}
use Rattle.pm3_access.proofs.Moved.{get_both}

abbrev pairs : Images → Images → HeldImages
pairs left found = record { left = left; found = found }

pub written_of : (h g : HeldImages) (written : Images) → g ≡ h → AreWritten h written → AreWritten g written
written_of h g written same so = rw same so

pub unwritten_of : (h g : HeldImages) (others : Images) → g ≡ h → AreUnwritten h others → AreUnwritten g others
unwritten_of h g others same so = rw same so

pub written_home : (left found written : Images) → IsAtHome left → AreWritten (pairs left found) written → IsAtHome written
written_home left found written home so page image is = home page image ((so page image).0 is).0

pub unwritten_home : (left found others : Images) → IsAtHome left → AreUnwritten (pairs left found) others → IsAtHome others
unwritten_home left found others home so page image is = home page image ((so page image).0 is).0

apart_at : (l f w o : Option PageImage) → ((image : PageImage) → w ≡ Some image → (l ≡ Some image) × (f ≢ Some image)) → ((image : PageImage) → o ≡ Some image → (l ≡ Some image) × (f ≡ Some image)) → w ≢ None
    → o ≡ None
apart_at l f None o in_w in_o some = absurd (some refl)
apart_at l f (Some i) None in_w in_o some = refl
apart_at l f (Some i) (Some j) in_w in_o some = absurd ((in_w i refl).1 ((in_o j refl).1 ∙ sym (in_o j refl).0 ∙ (in_w i refl).0))

pub apart_so : (left found written others : Images) → AreWritten (pairs left found) written → AreUnwritten (pairs left found) others → (page : ℕ) → map.get written page ≢ None → map.get others page ≡ None
apart_so left found written others in_written in_others page some =
    apart_at (map.get left page) (map.get found page) (map.get written page) (map.get others page) (λ image. (in_written page image).0) (λ image. (in_others page image).0) some

pub kept_so : (left found written others : Images) → both others written ≡ left → AreHeld left found → (page : ℕ) → map.get written page ≡ None → map.get others page ≡ None → map.get found page ≡ None
kept_so left found written others are held page no_written no_other =
    held.kept page (ap (λ m. map.get m page) (sym are) ∙ get_both others written page ∙ ap (λ o. option_or o (map.get others page)) no_written ∙ no_other)

or_none : (a b : Option PageImage) → option_or a b ≡ None → (a ≡ None) × (b ≡ None)
or_none None b e = (refl, e)
or_none (Some x) b e = absurd (is_some_none x (sym e))

or_some : (a b : Option PageImage) (image : PageImage) → option_or a b ≡ Some image → (a ≡ Some image) ⊎ (b ≡ Some image)
or_some None b image e = inr e
or_some (Some x) b image e = inl e

-- the joined images are held, beside those found
pub joined_held : (others written found : Images) → IsAtHome others → IsAtHome written → IsAtHome found
    → ((page : ℕ) → map.get written page ≡ None → map.get others page ≡ None → map.get found page ≡ None) → AreHeld (both others written) found
joined_held others written found others_home written_home found_home kept = record {
  kept = λ page is.
      let none = or_none (map.get written page) (map.get others page) (sym (get_both others written page) ∙ is) in
      kept page none.0 none.1;
  left_home = λ page image is. elim (or_some (map.get written page) (map.get others page) image (sym (get_both others written page) ∙ is)) [
    | inl there ↦ written_home page image there
    | inr there ↦ others_home page image there
  ];
  found_home = found_home;
}
