-- What two sets of images that share no page show together.
use Rattle.std.proofs.Common.{◌≡◌, ◌⊎◌, ◌∙◌, inl, inr, ℕ, Bool, true, false, cond, List, Option, Some, None, is_some, option_and_then, refl, sym, ap}
use Rattle.std.specs.Option.{option_or}
use Rattle.std.specs.FinMap.{get}
use Rattle.pm3_types.specs.Fields.{Fields}
use Rattle.pm3_types.specs.Record.{Record}
use Rattle.pm3_types.specs.Graph.{with_part}
use Rattle.pm3_types.specs.Layout.{Sheet, is_address, page_in, word_in}
use Rattle.pm3_types.specs.Shown.{Book, Images, FitsImages, address_of, object_in, object_at, seen, roots_in, shown_records, shown}
use Rattle.pm3_types.proofs.Books.{get-shown}
use Rattle.pm3_types.proofs.Parts.{same_part, get-with_part}
use Rattle.pm3_access.proofs.WriteSteps.{same_roots}

-- these images are the others and more, and no page is in both
pub record AreJoined (images more both : Images) : Type 0 where
  pub each : (q : ℕ) → get both q ≡ option_or (get more q) (get images q)
  pub apart : (q : ℕ) → is_some (get more q) ≡ true → get images q ≡ None

or_none : {A : Type 0} (o : Option A) → option_or o None ≡ o
or_none None = refl
or_none (Some x) = refl

or_cond : {A : Type 0} (b : Bool) (o u : Option A) → cond b (option_or o u) None ≡ option_or (cond b o None) (cond b u None)
or_cond true o u = refl
or_cond false o u = refl

module _ (catalog : List Fields) (base : ℕ) (book : Book) (images more both : Images) (joined : AreJoined images more both) where
  object_of : (at : ℕ) (o u : Option Sheet) → (is_some o ≡ true → u ≡ None)
      → object_in book catalog (option_or o u) at ≡ option_or (object_in book catalog o at) (object_in book catalog u at)
  object_of at None u apart = refl
  object_of at (Some sheet) u apart =
      sym (ap (λ (o : Option Sheet). option_or (object_in book catalog (Some sheet) at) (object_in book catalog o at)) (apart refl) ∙ or_none (object_in book catalog (Some sheet) at))

  -- an object is one of the one or of the other
  at_joined : (a : ℕ) → object_at book catalog base both a ≡ option_or (object_at book catalog base more a) (object_at book catalog base images a)
  at_joined a =
      ap (λ (o : Option Sheet). cond (is_address base a) (object_in book catalog o (word_in base a)) None) (joined.each (page_in base a))
      ∙ ap (λ (r : Option Record). cond (is_address base a) r None) (object_of (word_in base a) (get more (page_in base a)) (get images (page_in base a)) (joined.apart (page_in base a)))
      ∙ or_cond (is_address base a) (object_in book catalog (get more (page_in base a)) (word_in base a)) (object_in book catalog (get images (page_in base a)) (word_in base a))

  seen_joined : (n : ℕ) → seen catalog base book both n ≡ option_or (seen catalog base book more n) (seen catalog base book images n)
  seen_joined n = of (address_of book n)
    where
      of : (o : Option ℕ) → option_and_then (object_at book catalog base both) o ≡ option_or (option_and_then (object_at book catalog base more) o) (option_and_then (object_at book catalog base images) o)
      of None = refl
      of (Some a) = at_joined a

  roots_joined : (o u : Option Sheet) → roots_in catalog base book both (option_or o u) ≡ option_or (roots_in catalog base book more o) (roots_in catalog base book images u)
  roots_joined None u = same_roots catalog base book images both u
  roots_joined (Some sheet) u = refl

  -- together they show the part of the one with that of the other
  pub shown_joined : shown catalog base book both ≡ with_part (shown catalog base book images) (shown catalog base book more)
  shown_joined = same_part (shown catalog base book both) (with_part (shown catalog base book images) (shown catalog base book more))
      (λ q. get-shown catalog base book both q ∙ seen_joined q
      ∙ ap (λ (r : Option Record). option_or r (seen catalog base book images q)) (sym (get-shown catalog base book more q))
      ∙ ap (option_or (get (shown_records catalog base book more) q)) (sym (get-shown catalog base book images q))
      ∙ sym (get-with_part (shown catalog base book images) (shown catalog base book more) q))
      (ap (roots_in catalog base book both) (joined.each 2) ∙ roots_joined (get more 2) (get images 2))

  sheet_of : (q : ℕ) (sheet : Sheet) → get both q ≡ Some sheet → (o : Option Sheet) → get more q ≡ o → (get more q ≡ Some sheet) ⊎ (get images q ≡ Some sheet)
  sheet_of q sheet on None is = inr (sym (joined.each q ∙ ap (λ (o : Option Sheet). option_or o (get images q)) is) ∙ on)
  sheet_of q sheet on (Some other) is = inl (is ∙ sym (joined.each q ∙ ap (λ (o : Option Sheet). option_or o (get images q)) is) ∙ on)

  -- a book that fits the one and the other fits both
  pub fits_joined : FitsImages catalog base book images → FitsImages catalog base book more → FitsImages catalog base book both
  fits_joined fits also = record {
    one = fits.one;
    named = fits.named;
    objects = λ a n sheet named on. elim (sheet_of (page_in base a) sheet on (get more (page_in base a)) refl) [
      | inl there ↦ also.objects a n sheet named there
      | inr there ↦ fits.objects a n sheet named there
    ];
    references = λ a n k sheet named on ref. elim (sheet_of (page_in base a) sheet on (get more (page_in base a)) refl) [
      | inl there ↦ also.references a n k sheet named there ref
      | inr there ↦ fits.references a n k sheet named there ref
    ];
    roots = λ slot sheet low on. elim (sheet_of 2 sheet on (get more 2) refl) [
      | inl there ↦ also.roots slot sheet low there
      | inr there ↦ fits.roots slot sheet low there
    ];
  }
