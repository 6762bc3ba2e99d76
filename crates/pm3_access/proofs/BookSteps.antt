-- Books that fit what is held, from nothing on.
use Rattle.std.proofs.Common.{◌≡◌, ◌≢◌, ◌<◌, ◌||◌, ◌==◌, ◌∙◌, inl, inr, ℕ, Bool, true, List, Some, None, refl, sym, ap, arith}
use Rattle.std.proofs.lemmas.Bool.{cases_eq}
use Rattle.std.proofs.Math.Bool.{or-true}
use Rattle.std.specs.Prelude.{slice_get}
use Rattle.std.specs.Ordering.{nat_cmp}
use Rattle.std.specs.FinMap as map
use Rattle.std.specs.FinMap.{get, insert, get-empty}
use Rattle.pm3_types.specs.Fields.{Fields}
use Rattle.pm3_types.specs.Shown.{Book}
use Rattle.pm3_page.specs.PageSheets.{sheet_in}
use Rattle.pm3_access.specs.Access.{HaveForm}
use Rattle.pm3_access.specs.Acts.{left_images, IsHeldAs, IsNewName}
use Rattle.pm3_access.specs.Holding.{Holding, nothing_held}
use Rattle.pm3_access.specs.Fitting.{IsMadeAs}
use Rattle.pm3_access.proofs.Homes.{is_some_none, some_of, nothing_there}
use Rattle.pm3_access.proofs.HeldSheets.{get-left_images}
use Rattle.pm3_access.proofs.MoreNames.{get_here, get_else}
use Rattle.pm3_access.proofs.SoundingPages.{form_for_more}
use Rattle.pm3_access.proofs.SoundingMade.{sound_made}
use Rattle.pm3_access.proofs.MakeSteps.{made_fits, made_object, made_map}

abbrev no_names : Book
no_names = map.empty

nobody : (a n : ℕ) → get no_names a ≡ Some n → ⊥
nobody a n is = is_some_none n (sym (get-empty nat_cmp a) ∙ is)

no_sheet : (page : ℕ) → get (left_images nothing_held) page ≡ None
no_sheet page = get-left_images nothing_held page ∙ ap sheet_in (nothing_there page)

-- nothing is held, and nobody has a name
pub nothing_named : (catalog : List Fields) (base n : ℕ) → IsNewName catalog base no_names nothing_held n
nothing_named catalog base n = record {
  refers = λ a. true;
  form = λ page image is. absurd (is_some_none image (sym (nothing_there page) ∙ is));
  fits = record {
    one = λ a b m is other. absurd (nobody a m is);
    named = λ a m is. absurd (nobody a m is);
    objects = λ a m sheet is on. absurd (nobody a m is);
    references = λ a m k sheet is on item. absurd (nobody a m is);
    roots = λ slot sheet low on. absurd (is_some_none sheet (sym (no_sheet 2) ∙ on));
  };
  fresh = λ a is. nobody a n is;
}

module _ (catalog : List Fields) (base : ℕ) (book : Book) (h new : Holding) (ty tail n a : ℕ) (given : IsMadeAs catalog base book h new ty tail n a) where
  -- nil may stand in every reference
  abbrev refers : ℕ → Bool
  refers x = given.fresh.refers x || (x == 0)

  wide : HaveForm catalog refers h
  wide page image is =
      form_for_more catalog given.fresh.refers refers (λ x passes. ap (λ (b : Bool). b || (x == 0)) passes) image.page image.sheet (given.fresh.form page image is)

  named : 0 < n
  named = let some = given.may.named in omega arith

  form : HaveForm catalog refers new
  form = sound_made catalog base refers (or-true (given.fresh.refers 0)) ty tail n given.may.there given.may.type_low given.may.tail_low (named, given.small) given.may.tail_is h (Some a) new given.made given.low wide

  pub made_held : (map : Fields) → slice_get catalog ty ≡ Some map → IsHeldAs catalog base (insert book a n) new a n map
  made_held map is = record {
    refers = refers;
    form = form;
    object = made_object catalog base h new ty tail n a given.places given.made book given.low given.may given.fresh;
    map_is = made_map catalog base h new ty tail n a given.places given.made book given.low given.may given.fresh ∙ is;
    fits = made_fits catalog base h new ty tail n a given.places given.made book given.low given.may given.fresh;
    named = get_here book a a n refl;
  }

  pub others_new : (m : ℕ) → m ≢ n → IsNewName catalog base book h m → IsNewName catalog base (insert book a n) new m
  others_new m apart other = record {
    refers = refers;
    form = form;
    fits = made_fits catalog base h new ty tail n a given.places given.made book given.low given.may given.fresh;
    fresh = λ b is. elim (cases_eq b a) [
      | inl e ↦ apart (some_of m n (sym is ∙ get_here book a b n e))
      | inr ne ↦ other.fresh b (sym (get_else book a b n ne) ∙ is)
    ];
  }
