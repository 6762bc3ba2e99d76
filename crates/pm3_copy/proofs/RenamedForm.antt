-- A page whose references were renamed has the form again.
use Rattle.std.proofs.Common.{◌≡◌, ◌≢◌, ◌<◌, ◌≤◌, ◌+◌, ◌-◌, ◌*◌, ◌∙◌, inl, inr, ℕ, true, false, List, length, get_or, Option, None, Some, slice_index_or, refl, sym, ap, subst, arith}
use Rattle.std.proofs.lemmas.Bool.{cases_eq, cases_lt, false≢true}
use Rattle.std.proofs.lemmas.Grind.{same_number_lists}
use Rattle.pm3_types.specs.Fields.{Fields}
use Rattle.pm3_types.specs.declared.type_map.Tail.{Tail}
use Rattle.pm3_types.specs.declared.type_map.Tail.TheVariants.{Bytes}
use Rattle.pm3_types.specs.Layout.{PageImage, blank_sheet, is_start, size_at, end_of}
use Rattle.pm3_types.specs.PageForm.{HasObjects, IsSound, IsReferenceIn, IsTailReference, IsTailBytes, is_memory_reference, is_padded, is_page_head, map_at, tail_at}
use Rattle.pm3_copy.specs.Renaming.{IsRenamed, IsPlaceIn, IsRootPlace}
use Rattle.pm3_types.proofs.FormedObjects.{bytes_within}
use Rattle.pm3_copy.proofs.FormFrame.{frame_objects}
use Rattle.pm3_copy.proofs.RenamedPages.{no_head, within, behind}
use Rattle.pm3_types.proofs.FormedObjects.{blank_starts}

no_tail_place : (tail : Tail) (len k : ℕ) → tail ≡ Bytes → IsTailReference tail len k → ⊥
no_tail_place tail len k is item = (let P : Tail → Type 0 = λ t. IsTailReference t len k in subst P is item)

-- a word with bytes is no reference
apart : (o : Option Fields) (len j k : ℕ) → IsTailBytes o len j k → IsReferenceIn o len k → ⊥
apart None len j k bytes item = bytes
apart (Some map) len j k bytes (inl field) = omega (arith, field.0, bytes.2)
apart (Some map) len j k bytes (inr item) = no_tail_place map.tail len (k - map.count) bytes.0 item.1

module _ (catalog : List Fields) (base : ℕ) (image now : PageImage) (sound : IsSound catalog base 16384 image) (to : ℕ → ℕ) (page : now.page ≡ image.page)
    (renamed : IsRenamed (IsPlaceIn catalog image.sheet) to image.sheet now.sheet)
    (keeps : (w : ℕ) → is_memory_reference base 16384 w ≡ true → is_memory_reference base 16384 (to w) ≡ true) where
  blank_now : image.sheet ≡ blank_sheet → now.sheet ≡ blank_sheet
  blank_now is = (λ i. record { words = words i; starts = renamed.starts i }) ∙ is
    where
      words : now.sheet.words ≡ image.sheet.words
      words = same_number_lists now.sheet.words image.sheet.words renamed.words
          (λ k low. renamed.others k (λ p. false≢true (sym (ap (λ sheet. is_start sheet p.from) is ∙ blank_starts 512 p.from) ∙ p.start)))

  module _ (form : HasObjects catalog (is_memory_reference base 16384) image.page image.sheet) where
    not_low : (i : ℕ) → i < 2 → IsPlaceIn catalog image.sheet i → ⊥
    not_low i low p = omega (arith, p.at.is)

    not_past : (i : ℕ) → end_of image.sheet ≤ i → IsPlaceIn catalog image.sheet i → ⊥
    not_past i past p = (let whole = form.laid.whole p.from p.start in let inside = within catalog base image sound p.from i p.at in omega (arith, whole.2, inside.1))

    -- objects at other words have other words
    apart_objects : (s k u : ℕ) → is_start image.sheet s ≡ true → is_start image.sheet u ≡ true → u ≢ s → 2 + k < size_at catalog image.sheet s → (u + 2 ≤ s + 2 + k) × (s + 2 + k < u + size_at catalog image.sheet u) → ⊥
    apart_objects s k u start other away mine theirs = elim (cases_lt u s) [
      | inl before ↦ (let past = behind catalog base image sound u s other start before in omega (arith, theirs.1))
      | inr after ↦ (let past = behind catalog base image sound s u start other (omega arith) in omega (arith, theirs.0))
    ]

    bytes_kept : (s j k : ℕ) → is_start image.sheet s ≡ true → IsTailBytes (map_at catalog image.sheet s) (tail_at image.sheet s) j k → get_or now.sheet.words (s + 2 + k) 0 ≡ get_or image.sheet.words (s + 2 + k) 0
    bytes_kept s j k start bytes = renamed.others (s + 2 + k) away
      where
        away : IsPlaceIn catalog image.sheet (s + 2 + k) → ⊥
        away p = elim (cases_eq p.from s) [
          | inl same ↦ (
              let e : p.at.place ≡ k = omega (arith, p.at.is, same) in
              let P : ℕ → Type 0 = λ u. IsReferenceIn (map_at catalog image.sheet u) (tail_at image.sheet u) p.at.place in
              let Q : ℕ → Type 0 = λ n. IsReferenceIn (map_at catalog image.sheet s) (tail_at image.sheet s) n in
              apart (map_at catalog image.sheet s) (tail_at image.sheet s) j k bytes (subst Q e (subst P same p.at.reference)))
          | inr other ↦ (
              let mine = bytes_within (map_at catalog image.sheet s) (tail_at image.sheet s) j k bytes in
              lies_apart p other mine)
        ]
          where
            lies_apart : (p : IsPlaceIn catalog image.sheet (s + 2 + k)) → p.from ≢ s → 2 + k < size_at catalog image.sheet s → ⊥
            lies_apart p other mine = (let theirs = within catalog base image sound p.from (s + 2 + k) p.at in apart_objects s k p.from start p.start other mine theirs)

    pub renamed_objects : HasObjects catalog (is_memory_reference base 16384) image.page now.sheet
    renamed_objects =
        frame_objects catalog (is_memory_reference base 16384) image.page image.sheet now.sheet form renamed.starts (renamed.words ∙ form.laid.words)
        (renamed.others 0 (not_low 0 (omega arith))) (renamed.others 1 (not_low 1 (omega arith)))
        (λ s start. renamed.others s (λ p. (no_head catalog base image sound s p.from s start p.start p.at).0 refl))
        (λ s start. renamed.others (s + 1) (λ p. (no_head catalog base image sound s p.from (s + 1) start p.start p.at).1 refl))
        (λ i past. renamed.others i (not_past i past))
        (λ s k start item. ap (is_memory_reference base 16384) (renamed.places (s + 2 + k) (record { from = s; start = start; at = record { place = k; reference = item; is = refl } }))
        ∙ keeps (get_or image.sheet.words (s + 2 + k) 0) (form.references s k start item))
        (λ s j k start bytes. ap (is_padded (tail_at image.sheet s - 8 * j)) (bytes_kept s j k start bytes) ∙ form.padding s j k start bytes)

  pub renamed_sound : image.page ≢ 2 → IsSound catalog base 16384 now
  renamed_sound other = record {
    roots = λ e. absurd (other (sym page ∙ e));
    objects = λ _. elim (sound.objects other) [
      | inl blank ↦ inl (blank_now blank)
      | inr form ↦ inr (subst (λ p. HasObjects catalog (is_memory_reference base 16384) p now.sheet) (sym page) (renamed_objects form))
    ];
  }

-- the page of roots has its form again too
pub roots_sound : (catalog : List Fields) (base : ℕ) (image now : PageImage) → IsSound catalog base 16384 image → (to : ℕ → ℕ) → image.page ≡ 2 → now.page ≡ image.page → IsRenamed IsRootPlace to image.sheet now.sheet
    → ((w : ℕ) → is_memory_reference base 16384 w ≡ true → is_memory_reference base 16384 (to w) ≡ true) → IsSound catalog base 16384 now
roots_sound catalog base image now sound to two page renamed keeps =
    let form = sound.roots two in
    record {
      roots = λ _. record {
        words = renamed.words ∙ form.words;
        starts = ap length renamed.starts ∙ form.starts;
        head = ap (is_page_head 2) (renamed.others 0 (λ p. omega (arith, p.2))) ∙ form.head;
        second = renamed.others 1 (λ p. omega (arith, p.2)) ∙ form.second;
        roots = λ slot low. ap (is_memory_reference base 16384) (renamed.places (2 + slot) (slot, low, refl)) ∙ keeps (get_or image.sheet.words (2 + slot) 0) (form.roots slot low);
        rest = λ i past. renamed.others i (λ p. omega (arith, p.1, p.2)) ∙ form.rest i past;
        empty = λ s. ap (λ xs. slice_index_or xs s false) renamed.starts ∙ form.empty s;
      };
      objects = λ other. absurd (other (page ∙ two));
    }
