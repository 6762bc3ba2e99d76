-- What stands at the places of references in objects that are held.
use Rattle.std.proofs.Common.{◌≡◌, ◌∙◌, ℕ, Bool, true, List, Option, Some, None, refl, sym, ap, subst}
use Rattle.std.proofs.lemmas.Bool.{false≢true}
use Rattle.std.specs.Option.{option_map}
use Rattle.pm3_core.specs.declared.naming.TheConstants.{BASE}
use Rattle.pm3_types.specs.Fields.{Fields}
use Rattle.pm3_types.specs.Layout.{PageImage, page_in, word_in}
use Rattle.pm3_types.specs.PageForm.{IsReferenceIn, map_at, tail_at}
use Rattle.pm3_types.proofs.FormedObjects.{objects_of, start_of}
use Rattle.pm3_access.specs.declared.places.Place.{Place}
use Rattle.pm3_access.specs.Access.{HaveForm, begins_in, is_object_held, value_by, value_held}
use Rattle.pm3_access.specs.Acts.{map_by, map_held}
use Rattle.pm3_access.specs.Holding.{Holding, image_in}
use Rattle.pm3_access.specs.Spots.{has_names, spot_in, spot_by, value_in}
use Rattle.pm3_access.proofs.RecordPlaces.{reference_at}

-- what stands at a place of a reference passes the test of references
pub read_refers : (catalog : List Fields) (refers : ℕ → Bool) (h : Holding) (a v : ℕ) (map : Fields) (place : Place) → HaveForm catalog refers h
    → is_object_held BASE h a ≡ true → map_held catalog BASE h a ≡ Some map → has_names map place ≡ true → value_held catalog BASE h a place ≡ Some v → refers v ≡ true
read_refers catalog refers h a v map place form object map_is names is = of (image_in h (page_in BASE a)) refl
  where
    of : (o : Option PageImage) → image_in h (page_in BASE a) ≡ o → refers v ≡ true
    of None none = absurd (false≢true (sym (ap (λ (o : Option PageImage). begins_in BASE o a) none) ∙ object))
    of (Some image) on =
        let starts = start_of BASE image a (sym (ap (λ (o : Option PageImage). begins_in BASE o a) on) ∙ object) in
        let objects = (objects_of catalog refers image.page image.sheet (word_in BASE a) (form (page_in BASE a) image on) starts).1 in
        let at_map : map_at catalog image.sheet (word_in BASE a) ≡ Some map = sym (ap (λ (o : Option PageImage). map_by catalog o (word_in BASE a)) on) ∙ map_is in
        let value : option_map (value_in image.sheet.words (word_in BASE a)) (spot_by map (tail_at image.sheet (word_in BASE a)) place) ≡ Some v =
        sym (ap (λ (o : Option PageImage). value_by catalog o (word_in BASE a) place) on
        ∙ ap (λ (o : Option Fields). option_map (value_in image.sheet.words (word_in BASE a)) (spot_in o (tail_at image.sheet (word_in BASE a)) place)) at_map) ∙ is in
        let reference = reference_at map image.sheet.words (word_in BASE a) (tail_at image.sheet (word_in BASE a)) place v names value in
        ap refers (sym reference.2)
        ∙ objects.references (word_in BASE a) reference.0 starts
        (subst (λ (o : Option Fields). IsReferenceIn o (tail_at image.sheet (word_in BASE a)) reference.0) (sym at_map) reference.1)
