-- What is sound in a store of fewer pages is sound in one of more.
use Rattle.std.proofs.Common.{◌≡◌, ◌⊎◌, ◌<◌, ◌≤◌, ◌&&◌, ◌||◌, ◌∙◌, inl, inr, ℕ, Bool, true, eqb, leb, ltb, List, sym, ap, arith}
use Rattle.std.proofs.lemmas.Bool.{cases_Bool, and_parts, ltb-true, lt-ltb}
use Rattle.pm3_types.specs.Fields.{Fields}
use Rattle.pm3_types.specs.Layout.{Sheet, PageImage, blank_sheet, is_address, page_in, word_in}
use Rattle.pm3_types.specs.PageForm.{HasForm, HasObjects, IsSound, is_memory_reference}
use Rattle.pm3_access.specs.Access.{AreSound}
use Rattle.pm3_access.specs.Holding.{Holding}

-- two tests pass
pub both : (a b : Bool) → a ≡ true → b ≡ true → (a && b) ≡ true
both a b one other = ap (λ (x : Bool). x && b) one ∙ other

-- a reference of a store is one of a larger store
pub reference_for_more : (base few more a : ℕ) → few ≤ more → is_memory_reference base few a ≡ true → is_memory_reference base more a ≡ true
unfolding is_memory_reference
reference_for_more base few more a order is = elim (cases_Bool (eqb a 0)) [
  | inl nil ↦ ap (λ (b : Bool). b || (is_address base a && ((leb 3 (page_in base a) && ltb (page_in base a) more) && leb 2 (word_in base a)))) nil
  | inr some ↦ (let tests : (is_address base a && ((leb 3 (page_in base a) && ltb (page_in base a) few) && leb 2 (word_in base a))) ≡ true =
      sym (ap (λ (b : Bool). b || (is_address base a && ((leb 3 (page_in base a) && ltb (page_in base a) few) && leb 2 (word_in base a)))) some) ∙ is in
      let outer = and_parts (is_address base a) ((leb 3 (page_in base a) && ltb (page_in base a) few) && leb 2 (word_in base a)) tests in
      let inner = and_parts (leb 3 (page_in base a) && ltb (page_in base a) few) (leb 2 (word_in base a)) outer.1 in
      let page = and_parts (leb 3 (page_in base a)) (ltb (page_in base a) few) inner.0 in
      let low : page_in base a < few = ltb-true (page_in base a) few page.1 in
      ap (λ (b : Bool). b || (is_address base a && ((leb 3 (page_in base a) && ltb (page_in base a) more) && leb 2 (word_in base a)))) some
      ∙ both _ _ outer.0 (both _ _ (both _ _ page.0 (lt-ltb (page_in base a) more (omega arith))) inner.1))
]

module _ (catalog : List Fields) (narrow wide : ℕ → Bool) (wider : (a : ℕ) → narrow a ≡ true → wide a ≡ true) (page : ℕ) (sheet : Sheet) where
  objects_for_more : (sheet ≡ blank_sheet) ⊎ HasObjects catalog narrow page sheet → (sheet ≡ blank_sheet) ⊎ HasObjects catalog wide page sheet
  objects_for_more (inl blank) = inl blank
  objects_for_more (inr form) = inr (record {
    head = form.head;
    second = form.second;
    laid = form.laid;
    heads = form.heads;
    names = form.names;
    references = λ s k is item. wider _ (form.references s k is item);
    padding = form.padding;
  })

  -- the form where more words are references
  pub form_for_more : HasForm catalog narrow page sheet → HasForm catalog wide page sheet
  form_for_more form = record {
    roots = λ e. (let roots = form.roots e in record {
      words = roots.words;
      starts = roots.starts;
      head = roots.head;
      second = roots.second;
      roots = λ slot low. wider _ (roots.roots slot low);
      rest = roots.rest;
      empty = roots.empty;
    });
    objects = λ apart. objects_for_more (form.objects apart);
  }

pub image_for_more : (catalog : List Fields) (base few more : ℕ) (image : PageImage) → few ≤ more → IsSound catalog base few image → IsSound catalog base more image
image_for_more catalog base few more image order form =
    form_for_more catalog (is_memory_reference base few) (is_memory_reference base more) (λ a is. reference_for_more base few more a order is) image.page image.sheet form

-- what is held is sound in a larger store
pub sound_for_more : (catalog : List Fields) (base few more : ℕ) (h : Holding) → few ≤ more → AreSound catalog base few h → AreSound catalog base more h
sound_for_more catalog base few more h order sound = λ page image is. image_for_more catalog base few more image order (sound page image is)
