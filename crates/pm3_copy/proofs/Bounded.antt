-- References that a pass leaves name pages below a bound.
use Rattle.std.proofs.Common.{◌≡◌, ◌≢◌, ◌<◌, ◌≤◌, ◌+◌, ◌==◌, ◌&&◌, ◌||◌, ◌∙◌, ◌⊎◌, inl, inr, ℕ, Bool, true, false, nat_le, nat_lt, List, get_or, slice_get, slice_index_or, Some, is_some, refl, sym, ap, subst, arith, add-zero}
use Rattle.std.specs.FinMap as map_of
use Rattle.std.specs.FinSet as set
use Rattle.std.specs.Ordering.{nat_cmp}
use Rattle.std.specs.List.{Contains}
use Rattle.std.proofs.lemmas.Bool.{cases_eq, and_parts, and_from, lt-ltb, false≢true}
use Rattle.pm3_types.specs.Fields.{Fields}
use Rattle.pm3_types.specs.Layout.{PageImage, is_start, is_address, address, page_in, word_in, type_in, tail_in, size_at}
use Rattle.pm3_types.specs.PageForm.{IsSound, IsReferenceIn, is_memory_reference, map_at, tail_at}
use Rattle.pm3_types.proofs.Addressing.{page_in-address, word_in-address}
use Rattle.pm3_types.proofs.FormedObjects.{blank_starts, objects_of, start_of, whole_start, reference_within}
use Rattle.pm3_page.specs.PageMap.{Images}
use Rattle.pm3_page.specs.PageSheets.{AreSoundPages}
use Rattle.pm3_copy.specs.Fresh.{AreBlank}
use Rattle.pm3_copy.specs.Moving.{AreMoved, BeginsOn}
use Rattle.pm3_copy.specs.Renaming.{IsUpdated, AreUpdated}
use Rattle.pm3_copy.proofs.BothMoves.{among}
use Rattle.pm3_copy.proofs.Carried.{AreParted, IsHere, origin, updated_from}
use Rattle.pm3_copy.proofs.RenamedPages.{no_head}
use Rattle.pm3_copy.proofs.Wholes.{some_of, same_some}

-- the references of an image pass a test
pub record Refer (catalog : List Fields) (refers : ℕ → Bool) (image : PageImage) : Type 0 where
  pub roots : (slot : ℕ) → image.page ≡ 2 → slot < 16 → refers (get_or image.sheet.words (2 + slot) 0) ≡ true
  pub objects : (s k : ℕ) → is_start image.sheet s ≡ true → IsReferenceIn (map_at catalog image.sheet s) (tail_at image.sheet s) k → refers (get_or image.sheet.words (s + 2 + k) 0) ≡ true

-- those of a sound image
refer_of : (catalog : List Fields) (base pages : ℕ) (image : PageImage) → IsSound catalog base pages image → Refer catalog (is_memory_reference base pages) image
refer_of catalog base pages image sound = record {
  roots = λ slot two low. (sound.roots two).roots slot low;
  objects = λ s k start item. (objects_of catalog (is_memory_reference base pages) image.page image.sheet s sound start).1.references s k start item;
}

-- a sound image has the form for another bound that its references keep
bounded_form : (catalog : List Fields) (base pages : ℕ) (image : PageImage) → IsSound catalog base 16384 image → Refer catalog (is_memory_reference base pages) image → IsSound catalog base pages image
bounded_form catalog base pages image sound refer = record {
  roots = λ two. (let form = sound.roots two in record { words = form.words; starts = form.starts; head = form.head; second = form.second; roots = λ slot low. refer.roots slot two low; rest = form.rest; empty = form.empty });
  objects = λ apart. elim (sound.objects apart) [
    | inl blank ↦ inl blank
    | inr form ↦ inr (record { head = form.head; second = form.second; laid = form.laid; heads = form.heads; names = form.names; references = refer.objects; padding = form.padding })
  ];
}

parts : (n k : ℕ) → n + 2 + k ≡ n + (2 + k)
parts n k = omega arith

by_parts : (first addressed third low two now : Bool) → (first || (addressed && ((third && low) && two))) ≡ true → now ≡ true → (first || (addressed && ((third && now) && two))) ≡ true
by_parts true addressed third low two now is less = refl
by_parts false addressed third low two now is less =
    let outer = and_parts addressed ((third && low) && two) is in
    let inner = and_parts (third && low) two outer.1 in
    and_from addressed ((third && now) && two) outer.0 (and_from (third && now) two (and_from third now (and_parts third low inner.0).0 less) inner.1)

-- a reference to a page below the bound
below : (base pages b : ℕ) → is_memory_reference base 16384 b ≡ true → page_in base b < pages → is_memory_reference base pages b ≡ true
unfolding is_memory_reference
below base pages b is less =
    by_parts (b == 0) (is_address base b) (nat_le 3 (page_in base b)) (nat_lt (page_in base b) 16384) (nat_le 2 (word_in base b)) (nat_lt (page_in base b) pages) is (lt-ltb (page_in base b) pages less)

module _ (catalog : List Fields) (base pages : ℕ) (space blanks filled : Images) (promoted kept : List ℕ) (to : ℕ → ℕ) (space_sound : AreSoundPages catalog base 16384 space) (bounded : AreSoundPages catalog base pages space)
    (blank : AreBlank blanks) (fresh : (p : ℕ) → map_of.contains_key blanks p ≡ true → p < pages) (moved : AreMoved catalog base space promoted kept to blanks filled) where
  -- references stay below the bound
  pub keeps : (w : ℕ) → is_memory_reference base pages w ≡ true → is_memory_reference base pages (to w) ≡ true
  keeps w is = by (among promoted w) (among kept w)
    where
      member : Contains promoted w ⊎ Contains kept w → is_memory_reference base pages (to w) ≡ true
      member c = (let there = moved.moved w c in below base pages (to w) there.1 (fresh (page_in base (to w)) (sym (moved.pages (page_in base (to w))) ∙ ap is_some there.0.now)))

      by : Contains promoted w ⊎ (Contains promoted w → ⊥) → Contains kept w ⊎ (Contains kept w → ⊥) → is_memory_reference base pages (to w) ≡ true
      by (inl c) other = member (inl c)
      by (inr none) (inl c) = member (inr c)
      by (inr none) (inr neither) = ap (is_memory_reference base pages) (moved.others w none neither) ∙ is

  -- the references of a copied object are those of the object
  copied_references : (p s k : ℕ) (image : PageImage) → map_of.get filled p ≡ Some image → s < 512 → is_start image.sheet s ≡ true → IsReferenceIn (map_at catalog image.sheet s) (tail_at image.sheet s) k
      → is_memory_reference base pages (get_or image.sheet.words (s + 2 + k) 0) ≡ true
  copied_references p s k image on low start item = come (moved.only p s (record { image = image; on = on; start = start }))
    where
      come : BeginsOn blanks p s ⊎ ((a : ℕ) × (Contains promoted a ⊎ Contains kept a) × (to a ≡ address base p s)) → is_memory_reference base pages (get_or image.sheet.words (s + 2 + k) 0) ≡ true
      come (inl begun) =
          absurd (false≢true (sym (ap (λ (i : PageImage). is_start i.sheet s) (blank p begun.image begun.on).2 ∙ blank_starts 512 s) ∙ begun.start))
      come (inr (a, which, at)) =
          let copy = (moved.moved a which).0 in
          let on_page : page_in base (to a) ≡ p = ap (page_in base) at ∙ page_in-address base p s low in
          let at_word : word_in base (to a) ≡ s = ap (word_in base) at ∙ word_in-address base p s low in
          let same : copy.copy ≡ image = same_some copy.copy image (sym copy.now ∙ ap (map_of.get filled) on_page ∙ on) in
          let u = word_in base a in
          let source_start = start_of base copy.source a copy.begins in
          let whole = whole_start catalog (is_memory_reference base 16384) copy.source.page copy.source.sheet u (space_sound.form (page_in base a) copy.source copy.on) source_start in
          let words : (i : ℕ) → i < size_at catalog copy.source.sheet u → get_or image.sheet.words (s + i) 0 ≡ get_or copy.source.sheet.words (u + i) 0 =
          λ i less. sym (λ j. get_or (same j).sheet.words (at_word j + i) 0) ∙ copy.same.words i less in
          let head : get_or image.sheet.words s 0 ≡ get_or copy.source.sheet.words u 0 =
          ap (λ n. get_or image.sheet.words n 0) (sym (add-zero s)) ∙ words 0 (omega (arith, whole.size)) ∙ ap (λ n. get_or copy.source.sheet.words n 0) (add-zero u) in
          let P : ℕ → Type 0 = λ h. IsReferenceIn (slice_get catalog (type_in h)) (tail_in h) k in
          let source_item : IsReferenceIn (map_at catalog copy.source.sheet u) (tail_at copy.source.sheet u) k = subst P head item in
          let within = reference_within (map_at catalog copy.source.sheet u) (tail_at copy.source.sheet u) k source_item in
          ap (is_memory_reference base pages) (ap (λ n. get_or image.sheet.words n 0) (parts s k) ∙ words (2 + k) within ∙ ap (λ n. get_or copy.source.sheet.words n 0) (sym (parts u k)))
          ∙ (refer_of catalog base pages copy.source (bounded.form (page_in base a) copy.source copy.on)).objects u k source_start source_item

  -- so are those of a filled page
  pub filled_refer : (p : ℕ) (image : PageImage) → AreSoundPages catalog base 16384 filled → map_of.get filled p ≡ Some image → Refer catalog (is_memory_reference base pages) image
  filled_refer p image sound on = record {
    roots = λ slot two low. (let there = blank_there in absurd (omega (arith, there, two, sound.home p image on)));
    objects = λ s k start item. (
        let whole = whole_start catalog (is_memory_reference base 16384) image.page image.sheet s (sound.form p image on) start in
        copied_references p s k image on (omega (arith, whole.within, whole.size)) start item);
  }
    where
      blank_there : 3 ≤ p
      blank_there = (let there = some_of (map_of.get blanks p) (sym (moved.pages p) ∙ ap is_some on) in (blank p there.0 there.1).0)

-- an updated image
pub updated_refer : (catalog : List Fields) (base pages : ℕ) (to : ℕ → ℕ) (image now : PageImage) → IsSound catalog base 16384 image → now.page ≡ image.page → IsUpdated catalog to image now
    → ((w : ℕ) → is_memory_reference base pages w ≡ true → is_memory_reference base pages (to w) ≡ true) → Refer catalog (is_memory_reference base pages) image → Refer catalog (is_memory_reference base pages) now
updated_refer catalog base pages to image now sound page updated keeps refer = record {
  roots = λ slot two low. ap (is_memory_reference base pages) ((updated.roots (sym page ∙ two)).places (2 + slot) (slot, low, refl)) ∙ keeps (get_or image.sheet.words (2 + slot) 0) (refer.roots slot (sym page ∙ two) low);
  objects = λ s k start item. objects s k start item (cases_eq image.page 2);
}
  where
    objects : (s k : ℕ) → is_start now.sheet s ≡ true → IsReferenceIn (map_at catalog now.sheet s) (tail_at now.sheet s) k → (image.page ≡ 2) ⊎ (image.page ≢ 2) → is_memory_reference base pages (get_or now.sheet.words (s + 2 + k) 0) ≡ true
    objects s k start item (inl two) =
        let was = sym (ap (λ xs. slice_index_or xs s false) (updated.roots two).starts) ∙ start in
        absurd ((objects_of catalog (is_memory_reference base 16384) image.page image.sheet s sound was).0 two)
    objects s k start item (inr apart) =
        let renamed = updated.objects apart in
        let was : is_start image.sheet s ≡ true = sym (ap (λ xs. slice_index_or xs s false) renamed.starts) ∙ start in
        let head : get_or now.sheet.words s 0 ≡ get_or image.sheet.words s 0 = renamed.others s (λ p. (no_head catalog base image sound s p.from s was p.start p.at).0 refl) in
        let P : ℕ → Type 0 = λ h. IsReferenceIn (slice_get catalog (type_in h)) (tail_in h) k in
        let old_item : IsReferenceIn (map_at catalog image.sheet s) (tail_at image.sheet s) k = subst P head item in
        ap (is_memory_reference base pages) (renamed.places (s + 2 + k) (record { from = s; start = was; at = record { place = k; reference = old_item; is = refl } })) ∙ keeps (get_or image.sheet.words (s + 2 + k) 0) (refer.objects s k was old_item)

-- the images of a pass have the form for each bound that theirs and the fresh pages had
pub bounded_now : (catalog : List Fields) (base pages : ℕ) (first second : List ℕ) (turned freed pinned : set.FinSet nat_cmp) (space written blanks filled now_space now_written new_space new_written : Images) (promoted kept : List ℕ)
    (to : ℕ → ℕ) → AreParted first second turned freed pinned space written filled now_space now_written → AreSoundPages catalog base 16384 space → AreSoundPages catalog base 16384 written
    → AreSoundPages catalog base 16384 filled → AreBlank blanks → AreMoved catalog base space promoted kept to blanks filled → AreUpdated catalog to now_space new_space → AreUpdated catalog to now_written new_written
    → AreSoundPages catalog base pages space → AreSoundPages catalog base pages written → ((p : ℕ) → map_of.contains_key blanks p ≡ true → p < pages)
    → (images : Images) → AreSoundPages catalog base 16384 images → ((p : ℕ) (now : PageImage) → map_of.get images p ≡ Some now → IsHere new_space new_written p now) → AreSoundPages catalog base pages images
bounded_now catalog base pages first second turned freed pinned space written blanks filled now_space now_written new_space new_written promoted kept to parted of_space of_written of_filled blank moved space_updated
    written_updated space_bounded written_bounded fresh images sound here = record { home = sound.home; low = sound.low; form = form }
  where
    keeps_ : (w : ℕ) → is_memory_reference base pages w ≡ true → is_memory_reference base pages (to w) ≡ true
    keeps_ = keeps catalog base pages space blanks filled promoted kept to of_space space_bounded blank fresh moved

    form : (p : ℕ) (now : PageImage) → map_of.get images p ≡ Some now → IsSound catalog base pages now
    form p now on = by (updated_from catalog to now_space now_written new_space new_written space_updated written_updated p now (here p now on))
      where
        from : (image : PageImage) → IsSound catalog base 16384 image → image.page ≡ p → IsUpdated catalog to image now → Refer catalog (is_memory_reference base pages) image → IsSound catalog base pages now
        from image form_ page updated refer =
            bounded_form catalog base pages now (sound.form p now on) (updated_refer catalog base pages to image now form_ (sound.home p now on ∙ sym page) updated keeps_ refer)

        by : (image : PageImage) × IsHere now_space now_written p image × IsUpdated catalog to image now → IsSound catalog base pages now
        by (image, was, updated) = elim (origin first second turned freed pinned space written filled now_space now_written parted p image was) [
          | inl one ↦ from image (of_space.form p image one.0) (of_space.home p image one.0) updated (refer_of catalog base pages image (space_bounded.form p image one.0))
          | inr others ↦ elim others [
            | inl one ↦ from image (of_written.form p image one) (of_written.home p image one) updated (refer_of catalog base pages image (written_bounded.form p image one))
            | inr one ↦ from image (of_filled.form p image one) (of_filled.home p image one) updated
                (filled_refer catalog base pages space blanks filled promoted kept to of_space space_bounded blank fresh moved p image of_filled one)
          ]
        ]
